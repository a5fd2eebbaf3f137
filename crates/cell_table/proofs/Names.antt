-- A pass over names that looks for one that stood before.
use Rattle.std.proofs.Common.{◌≡◌, ℕ, zero, suc, arith, ◌+◌, ◌<◌, ◌≤◌, Bool, true, false, cond, ◌||◌, List, [], ◌∷◌, ◌++◌, length, get_or, take, drop, map, Bor, refl, sym, ap, ◌∙◌}
use Rattle.std.specs.List.{list_any}
use Rattle.std.specs.Str.{bytes_eq}
use Rattle.std.proofs.lemmas.List.{drop_more, take_more, drop_all, map-append}
use Rattle.std.proofs.lemmas.List.Folds.{list_any-append}
use Rattle.cell_table.specs.Cells.{twice_behind, has_twice}

abbrev pub texts : List (Bor (List ℕ)) → List (List ℕ)
texts names = map (λ name. name.now) names

or_cond : (a b : Bool) → (a || (b || false)) ≡ cond b true a
or_cond true true = refl
or_cond true false = refl
or_cond false true = refl
or_cond false false = refl

module _ (names : List (Bor (List ℕ))) (i : ℕ) (name : Bor (List ℕ)) (lt : i < length names) (is : get_or names i name ≡ name) where
  abbrev stood : Bool
  stood = list_any (λ m. bytes_eq m name.now) (texts (take i names))

  front : texts (take (i + 1) names) ≡ texts (take i names) ++ name.now ∷ []
  front = ap texts (take_more names i name lt) ∙ map-append (λ (n : Bor (List ℕ)). n.now) (take i names) (get_or names i name ∷ []) ∙ ap (λ (n : Bor (List ℕ)). texts (take i names) ++ n.now ∷ []) is

  turn : twice_behind (texts (take i names)) (texts (drop i names)) ≡ (stood || twice_behind (texts (take (i + 1) names)) (texts (drop (i + 1) names)))
  unfolding twice_behind
  turn =
      ap (λ (ns : List (Bor (List ℕ))). twice_behind (texts (take i names)) (texts ns)) (drop_more names i name lt)
      ∙ ap (λ (n : Bor (List ℕ)). list_any (λ m. bytes_eq m n.now) (texts (take i names)) || twice_behind (texts (take i names) ++ n.now ∷ []) (texts (drop (i + 1) names))) is
      ∙ ap (λ (before : List (List ℕ)). stood || twice_behind before (texts (drop (i + 1) names))) (sym front)

  pub passes : stood ≡ false → twice_behind (texts (take i names)) (texts (drop i names)) ≡ has_twice (texts names)
      → twice_behind (texts (take (i + 1) names)) (texts (drop (i + 1) names)) ≡ has_twice (texts names)
  passes new same = sym (turn ∙ ap (λ (b : Bool). b || twice_behind (texts (take (i + 1) names)) (texts (drop (i + 1) names))) new) ∙ same

  pub stands_twice : stood ≡ true → twice_behind (texts (take i names)) (texts (drop i names)) ≡ has_twice (texts names)
      → has_twice (texts names) ≡ true
  stands_twice old same = sym same ∙ turn ∙ ap (λ (b : Bool). b || twice_behind (texts (take (i + 1) names)) (texts (drop (i + 1) names))) old

  pub one_more : (q : List ℕ) → list_any (λ m. bytes_eq m q) (texts (take (i + 1) names)) ≡ cond (bytes_eq name.now q) true (list_any (λ m. bytes_eq m q) (texts (take i names)))
  one_more q =
      ap (list_any (λ m. bytes_eq m q)) front ∙ list_any-append (λ m. bytes_eq m q) (texts (take i names)) (name.now ∷ [])
      ∙ or_cond (list_any (λ m. bytes_eq m q) (texts (take i names))) (bytes_eq name.now q)

pub none_twice : (names : List (Bor (List ℕ))) (i : ℕ) → length names ≤ i → twice_behind (texts (take i names)) (texts (drop i names)) ≡ has_twice (texts names) → has_twice (texts names) ≡ false
unfolding twice_behind
none_twice names i le same = sym same ∙ ap (λ (ns : List (Bor (List ℕ))). twice_behind (texts (take i names)) (texts ns)) (drop_all i names le)

-- within a list the default doesn't matter
pub same_at : (names : List (Bor (List ℕ))) (i : ℕ) (d e : Bor (List ℕ)) → i < length names → get_or names i d ≡ get_or names i e
same_at [] i d e lt = absurd (omega arith)
same_at (n ∷ ns) zero d e lt = refl
same_at (n ∷ ns) (suc i) d e lt = same_at ns i d e (omega arith)
