use Rattle.std.proofs.Common.{◌≡◌, ℕ, List, ◌++◌, drop}
use Rattle.def_edit.specs.Lookups.{rows_of, words_in}
use Rattle.def_edit.proofs.nets.nets_of.Given as goal

abbrev pub invariant-loop-statement : goal.invariant-loop-statement
invariant-loop-statement l = (text : List ℕ) → rows_of text l.rows.items ++ words_in text (drop l.statement-index l.statements) ≡ words_in text l.statements
