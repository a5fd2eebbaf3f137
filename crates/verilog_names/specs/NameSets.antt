-- What sets of names hold.
use Rattle.std.specs.Prelude.{◌≡◌, ℕ, List}
use Rattle.std.specs.Borrow.{Bor}
use Rattle.std.specs.Str.{bytes_eq}
use Rattle.std.specs.HashSet.{HashSet, contains}
use Rattle.verilog_names.specs.Declarations.{has}

-- the set has the names of a list
abbrev pub HasNames : {S : Type 0} → HashSet (Bor (List ℕ)) S → List (List ℕ) → Type 0
HasNames set names = (q : Bor (List ℕ)) → contains (λ x y. bytes_eq x.now y.now) set q ≡ has names q.now
