-- Names of design pins that hold `.extra`, as one pin more is looked at.
use Rattle.std.proofs.Common.{◌≡◌, ℕ, Bool, true, false, ◌||◌, List, [], ◌∷◌, ◌++◌, length, take, drop, Bor, refl, sym, ap, ap₂, ◌∙◌}
use Rattle.std.specs.Prelude.{codes}
use Rattle.std.specs.List.{list_any}
use Rattle.std.proofs.Math.Seq.{drop-append_seam}
use Rattle.std.proofs.lemmas.Bool.{false_from_ne_true}
use Rattle.std.proofs.lemmas.List.{length-append, drop-take}
use Rattle.std.proofs.lemmas.List.Folds.{list_any-append}
use Rattle.std.proofs.lemmas.Slice.Eq.{bytes_eq-Decides}
use Rattle.def_reader.specs.declared.design.DesignPin.{DesignPin}
use Rattle.path_numbers.specs.Numbers.{begins_with}
use Rattle.path_numbers.specs.Extras.{AreExtras}

not_begun : (x mark ys : List ℕ) → begins_with mark (drop (length x) ys) ≡ false → begins_with (x ++ mark) ys ≡ false
not_begun x mark ys none =
    false_from_ne_true (begins_with (x ++ mark) ys) (λ e.
    let is = (bytes_eq-Decides (x ++ mark) (take (length (x ++ mark)) ys)).0 e in
    let rest : mark ≡ take (length mark) (drop (length x) ys) =
    sym (drop-append_seam x mark) ∙ ap (drop (length x)) is ∙ ap (λ (k : ℕ). drop (length x) (take k ys)) (length-append x mark) ∙ drop-take (length x) (length mark) ys in
    let yes = (bytes_eq-Decides mark (take (length mark) (drop (length x) ys))).1 rest in
    absurd cc)

or_false : (a b : Bool) → b ≡ false → (a || (b || false)) ≡ a
or_false true b e = refl
or_false false true e = absurd cc
or_false false false e = refl

module _ (pins : List DesignPin) (pin : DesignPin) (names : List (Bor (List ℕ))) (are : AreExtras pins names) where
  abbrev here : List ℕ → DesignPin → Bool
  here name p = begins_with (name ++ codes ".extra") p.name

  abbrev there : List ℕ → Bor (List ℕ) → Bool
  there name other = begins_with (name ++ codes ".extra") other.now

  -- the name of the pin is kept
  pub kept : (other : Bor (List ℕ)) → other.now ≡ pin.name → AreExtras (pins ++ pin ∷ []) (names ++ other ∷ [])
  kept other same name =
      list_any-append (there name) names (other ∷ [])
      ∙ ap₂ (λ (a b : Bool). a || (b || false)) (are name) (ap (begins_with (name ++ codes ".extra")) same)
      ∙ sym (list_any-append (here name) pins (pin ∷ []))

  -- the name of the pin doesn't hold it
  pub left_out : ((k : ℕ) → begins_with (codes ".extra") (drop k pin.name) ≡ false) → AreExtras (pins ++ pin ∷ []) names
  left_out none name =
      are name ∙ sym (or_false (list_any (here name) pins) (here name pin) (not_begun name (codes ".extra") pin.name (none (length name))))
      ∙ sym (list_any-append (here name) pins (pin ∷ []))
