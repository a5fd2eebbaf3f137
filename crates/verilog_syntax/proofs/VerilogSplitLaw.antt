-- The tokens of a Verilog text are a split of it.
use Rattle.std.proofs.Common.{◌≡◌, ℕ, ◌+◌, ◌<◌, List, length, drop, get_or, sym, ap, ◌∙◌}
use Rattle.std.proofs.lemmas.List.{drop_more}
use Rattle.token_forms.specs.declared.piece.Piece.TheVariants.{Blank, Token}
use Rattle.token_forms.specs.Splits.{AreBlanks}
use Rattle.verilog_syntax.specs.VerilogTokens.{piece_at, verilog_tokens}
use Rattle.verilog_syntax.specs.VerilogSplit.{IsBlankPart, IsLongestToken, IsTokenSplit}
use Rattle.token_forms.proofs.SplitLaw.{IsSplitForm, split}
use Rattle.verilog_syntax.proofs.VerilogPieces.{verilog_cut}
use Rattle.verilog_syntax.proofs.VerilogBlanks.{piece-blanks}
use Rattle.verilog_syntax.proofs.VerilogLongest.{piece-longest}

token_at : (text : List ℕ) (at n : ℕ) → at < length text → piece_at (drop at text) ≡ Token n → IsLongestToken (drop at text) n
token_at text at n lt is =
    let cut = drop_more text at 0 lt in
    rw cut (piece-longest (get_or text at 0) (drop (at + 1) text) n (sym (ap piece_at cut) ∙ is))

blank_at : (text : List ℕ) (at n : ℕ) → at < length text → piece_at (drop at text) ≡ Blank n → AreBlanks IsBlankPart text at (at + n)
blank_at text at n lt is =
    let cut = drop_more text at 0 lt in
    piece-blanks text (get_or text at 0) (drop (at + 1) text) at n cut (sym (ap piece_at cut) ∙ is)

pub verilog_form : IsSplitForm piece_at IsBlankPart IsLongestToken
verilog_form = record { cut = verilog_cut; blank = blank_at; token = token_at }

pub verilog_split : (text : List ℕ) → IsTokenSplit text (verilog_tokens text)
verilog_split text = split piece_at IsBlankPart IsLongestToken verilog_form text
