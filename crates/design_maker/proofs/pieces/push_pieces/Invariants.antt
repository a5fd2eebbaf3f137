use Rattle.std.proofs.Common.{◌≡◌, ◌++◌, string_bytes}
use Rattle.design_maker.specs.Pieces.{pieces}
use Rattle.design_maker.proofs.pieces.push_pieces.Given as goal

abbrev pub invariant-loop-number : goal.invariant-loop-number
invariant-loop-number g l = string_bytes l.out ≡ string_bytes l.fn.out ++ pieces (g.P.Piece.piece l.each) l.number
