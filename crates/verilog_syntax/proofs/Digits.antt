-- A loop over the digits of a constant: what is still to be tested.
use Rattle.std.proofs.Common.{ℕ, Bool, List, [], ◌∷◌}
use Rattle.verilog_syntax.specs.VerilogSplit.{are_digits_of}

-- behind the last byte, whether it was a digit; else whether the bytes are digits
abbrev pub rest_of : ℕ → Bool → List ℕ → Bool
rest_of base ended [] = ended
rest_of base ended (c ∷ cs) = are_digits_of base (c ∷ cs)
