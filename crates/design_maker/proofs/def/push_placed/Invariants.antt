use Rattle.std.proofs.Common.{◌≡◌, ◌*◌, ◌++◌, string_bytes}
use Rattle.design_maker.specs.Pieces.{pieces}
use Rattle.design_maker.specs.Numbers.{number_at}
use Rattle.design_maker.specs.MadeDef.{component}
use Rattle.design_maker.proofs.def.push_placed.Given as goal

abbrev pub invariant-loop-unit : goal.invariant-loop-unit
invariant-loop-unit l = record { placed : string_bytes l.out ≡ string_bytes l.fn.out ++ pieces component l.unit-counter; counted : l.number ≡ number_at (2 * l.unit-counter) }
