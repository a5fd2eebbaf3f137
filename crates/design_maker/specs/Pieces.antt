-- Lists in a text: a piece for each number.
use Rattle.std.specs.Prelude.{ℕ, zero, suc, List, [], ◌++◌, decimal}

-- the pieces of the numbers below a count, in rising order
unfoldable pub pieces : (ℕ → List ℕ) → ℕ → List ℕ
pieces piece zero = []
pieces piece (suc n) = pieces piece n ++ piece n

-- a number between two texts
abbrev pub between : List ℕ → List ℕ → ℕ → List ℕ
between before after number = before ++ (decimal number ++ after)
