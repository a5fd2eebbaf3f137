-- Counts of all nets, and how they grow.
use Rattle.std.proofs.Common.{◌≡◌, ◌<◌, ◌+◌, ℕ, Bool, true, false, List, [], ◌∷◌, length, take, get_or, min, refl, ap, sym, ◌∙◌, arith}
use Rattle.std.specs.Prelude.{count_by}
use Rattle.std.proofs.lemmas.List.Sums.{count_by_more_no, count_by_more_yes}
use Rattle.netlist_core.specs.declared.netlist.NetId.{NetId}
use Rattle.path_links.specs.Uses.{AreCounts}

-- counts of what counts alike
pub counts_as : (cs : List ℕ) (f g : NetId → ℕ) → ((net : NetId) → f net ≡ g net) → AreCounts cs f → AreCounts cs g
counts_as cs f g same a = record { each = λ net within. a.each net within ∙ ap (λ (x : ℕ). min x 2) (same net) }

-- one more member is counted, or not
pub count_more : {X : Type 0} (p : X → Bool) (xs : List X) (i : ℕ) (d : X) → i < length xs → count_by p (take (i + 1) xs) ≡ count_by p (take i xs) + count_by p (get_or xs i d ∷ [])
count_more p xs i d within = more (p (get_or xs i d)) refl where
  one : p (get_or xs i d) ≡ true → count_by p (get_or xs i d ∷ []) ≡ 1
  one e = search (e)

  none : p (get_or xs i d) ≡ false → count_by p (get_or xs i d ∷ []) ≡ 0
  none e = search (e)

  more : (b : Bool) → p (get_or xs i d) ≡ b → count_by p (take (i + 1) xs) ≡ count_by p (take i xs) + count_by p (get_or xs i d ∷ [])
  more true e = count_by_more_yes p xs i d within e ∙ ap (λ (k : ℕ). count_by p (take i xs) + k) (sym (one e))
  more false e = count_by_more_no p xs i d within e ∙ omega (arith, none e)

-- a count that goes on
pub counted_on : {X : Type 0} (p : X → Bool) (n : ℕ) (xs : List X) (i : ℕ) (d : X) → i < length xs
    → (n + count_by p (take i xs)) + count_by p (get_or xs i d ∷ []) ≡ n + count_by p (take (i + 1) xs)
counted_on p n xs i d within = omega (arith, count_more p xs i d within)
