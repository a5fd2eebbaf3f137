-- Cuts of a stretch, one after another.
use Rattle.std.proofs.Common.{◌≡◌, ◌≢◌, ◌⊎◌, ℕ, ◌+◌, ◌-◌, ◌<◌, ◌≤◌, List, [], ◌∷◌, ◌++◌, length, get_or, All, refl, sym, ◌∙◌, ap, subst, arith, ⊎_elim}
use Rattle.std.proofs.lemmas.List.{length_push, get_or_push}
use Rattle.std.proofs.lemmas.List.Elements.{All-push, All-cons, All-nil}
use Rattle.std.proofs.lemmas.Bool.{cases_lt, cases_order}
use Rattle.chain_rules.specs.declared.cuts.Cut.{Cut}
use Rattle.chain_rules.specs.Stretches.{IsInside, Stretch}
use Rattle.chain_rules.specs.Runs.{mark_at, AreTogether, IsCut, CutsCover, AreCuts, end_of_cuts, no_cut}

-- what follows the unit that begins at start and ends at last
abbrev pub Follows : Stretch → List ℕ → ℕ → ℕ → Type 0
Follows s marks start last =
    (IsInside s (last + 1) × (0 < mark_at s marks (last + 1)) × (mark_at s marks (last + 1) ≢ mark_at s marks start)) ⊎ ((0 < mark_at s marks last) × ((k : ℕ) → IsInside s k → last < k → mark_at s marks k ≡ 0))

-- the group at a place doesn't stand before it
abbrev pub IsFresh : Stretch → List ℕ → ℕ → Type 0
IsFresh s marks start = (k : ℕ) → IsInside s k → k < start → mark_at s marks k ≢ mark_at s marks start

pub cut_of_unit : (s : Stretch) (marks : List ℕ) → AreTogether s marks → (start last : ℕ) → IsInside s start → IsInside s last → start ≤ last → 0 < mark_at s marks start → ((k : ℕ) → start ≤ k → k ≤ last → 0 < mark_at s marks k → mark_at s marks k ≡ mark_at s marks start) → Follows s marks start last → IsFresh s marks start → IsCut s marks (record { first = start; last = last })
cut_of_unit s marks together start last in_start in_last order begins within next fresh =
    record {
      first = in_start;
      last = in_last;
      order = order;
      begins = begins;
      within = within;
      all = λ k inside same. (not_before k inside same, not_behind k inside same);
    }
  where
    not_before : (k : ℕ) → IsInside s k → mark_at s marks k ≡ mark_at s marks start → start ≤ k
    not_before k inside same = ⊎_elim (λ (h : k < start). absurd (fresh k inside h same)) (λ (h : start ≤ k). h) (cases_lt k start)

    not_behind : (k : ℕ) → IsInside s k → mark_at s marks k ≡ mark_at s marks start → k ≤ last
    not_behind k inside same =
        ⊎_elim
        (λ (h : last < k).
        ⊎_elim
        (λ (w : IsInside s (last + 1) × (0 < mark_at s marks (last + 1)) × (mark_at s marks (last + 1) ≢ mark_at s marks start)).
        ⊎_elim
        (λ (e : k ≡ last + 1). absurd (w.2 (subst (λ (x : ℕ). mark_at s marks x ≡ mark_at s marks start) e same)))
        (λ (far : (k < last + 1) ⊎ (last + 1 < k)).
        absurd (w.2 (together start (last + 1) k in_start inside (omega arith) (⊎_elim (λ (a : k < last + 1). absurd (omega arith)) (λ (a : last + 1 < k). a) far) (sym same) begins w.1)))
        (cases_order k (last + 1)))
        (λ (w : (0 < mark_at s marks last) × ((j : ℕ) → IsInside s j → last < j → mark_at s marks j ≡ 0)). let none = w.1 k inside h in absurd (omega arith))
        next)
        (λ (h : k ≤ last). h)
        (cases_lt last k)

pub fresh_next : (s : Stretch) (marks : List ℕ) → AreTogether s marks → (start last : ℕ) → IsInside s start → IsInside s (last + 1) → start ≤ last → 0 < mark_at s marks start → 0 < mark_at s marks (last + 1) → mark_at s marks (last + 1) ≢ mark_at s marks start → ((k : ℕ) → start ≤ k → k ≤ last → 0 < mark_at s marks k → mark_at s marks k ≡ mark_at s marks start) → IsFresh s marks (last + 1)
fresh_next s marks together start last in_start in_next order begins marked other within k inside before same =
    ⊎_elim
    (λ (h : k < start). other (sym (together k start (last + 1) inside in_next h (omega arith) same (omega arith) begins ∙ same)))
    (λ (h : start ≤ k). other (sym same ∙ within k h (omega arith) (omega arith)))
    (cases_lt k start)

pub cover_more : (cuts : List Cut) (from start last : ℕ) → CutsCover cuts from start → CutsCover (cuts ++ record { first = start; last = last } ∷ []) from (last + 1)
cover_more [] from start last e = (sym e, refl)
cover_more (c ∷ cs) from start last (e, rest) = (e, cover_more cs (c.last + 1) start last rest)

pub end-push : (cuts : List Cut) (c : Cut) → end_of_cuts (cuts ++ c ∷ []) ≡ c.last
end-push cuts c =
    let e : length (cuts ++ c ∷ []) - 1 ≡ length cuts = omega (arith, length_push cuts c) in
    ap (λ (i : ℕ). (get_or (cuts ++ c ∷ []) i no_cut).last) e ∙ ap (λ (x : Cut). x.last) (get_or_push cuts c no_cut (length cuts) refl)

-- the cuts so far, and the unit that was cut last
pub record SoFar (s : Stretch) (marks : List ℕ) (cuts : List Cut) (first last : ℕ) : Type 0 where
  pub some : 0 < length cuts
  pub ends : end_of_cuts cuts ≡ last
  pub cover : CutsCover cuts first (last + 1)
  pub each : All (IsCut s marks) cuts
  pub inside : IsInside s last
  pub start : ℕ
  pub start_inside : IsInside s start
  pub order : start ≤ last
  pub begins : 0 < mark_at s marks start
  pub within : (k : ℕ) → start ≤ k → k ≤ last → 0 < mark_at s marks k → mark_at s marks k ≡ mark_at s marks start
  pub next : Follows s marks start last

pub so_far_first : (s : Stretch) (marks : List ℕ) → AreTogether s marks → (first last : ℕ) → IsInside s first → 0 < mark_at s marks first → ((j : ℕ) → IsInside s j → j < first → mark_at s marks j ≡ 0) → IsInside s last → first ≤ last → ((k : ℕ) → first ≤ k → k ≤ last → 0 < mark_at s marks k → mark_at s marks k ≡ mark_at s marks first) → Follows s marks first last → SoFar s marks (record { first = first; last = last } ∷ []) first last
so_far_first s marks together first last in_first begins none in_last order within next =
    let fresh : IsFresh s marks first = λ k inside before same. let h = none k inside before in absurd (omega arith) in
    let cut = cut_of_unit s marks together first last in_first in_last order begins within next fresh in
    record {
      some = omega arith;
      ends = refl;
      cover = (refl, refl);
      each = All-cons (IsCut s marks) (record { first = first; last = last }) [] cut (All-nil (IsCut s marks));
      inside = in_last;
      start = first;
      start_inside = in_first;
      order = order;
      begins = begins;
      within = within;
      next = next;
    }

pub so_far_more : (s : Stretch) (marks : List ℕ) → AreTogether s marks → (cuts : List Cut) (first last next end : ℕ) → SoFar s marks cuts first last → next ≡ last + 1 → IsInside s next → 0 < mark_at s marks next → IsInside s end → next ≤ end → ((k : ℕ) → next ≤ k → k ≤ end → 0 < mark_at s marks k → mark_at s marks k ≡ mark_at s marks next) → Follows s marks next end → SoFar s marks (cuts ++ record { first = next; last = end } ∷ []) first end
so_far_more s marks together cuts first last next end so e in_next marked in_end order within follows =
    let other : mark_at s marks next ≢ mark_at s marks so.start = ⊎_elim
    (λ (w : IsInside s (last + 1) × (0 < mark_at s marks (last + 1)) × (mark_at s marks (last + 1) ≢ mark_at s marks so.start)). subst (λ (x : ℕ). mark_at s marks x ≢ mark_at s marks so.start) (sym e) w.2)
    (λ (w : (0 < mark_at s marks last) × ((j : ℕ) → IsInside s j → last < j → mark_at s marks j ≡ 0)). let none = w.1 next in_next (omega arith) in absurd (omega arith))
    so.next in
    let fresh = subst (λ (x : ℕ). IsFresh s marks x) (sym e) (fresh_next s marks together so.start last so.start_inside (subst (λ (x : ℕ). IsInside s x) e in_next) so.order so.begins (subst (λ (x : ℕ). 0 < mark_at s marks x) e marked) (subst (λ (x : ℕ). mark_at s marks x ≢ mark_at s marks so.start) e other) so.within) in
    let cut = cut_of_unit s marks together next end in_next in_end order marked within follows fresh in
    record {
      some = omega (arith, length_push cuts (record { first = next; last = end }));
      ends = end-push cuts (record { first = next; last = end });
      cover = cover_more cuts first next end (subst (λ (x : ℕ). CutsCover cuts first x) (sym e) so.cover);
      each = All-push (IsCut s marks) cuts (record { first = next; last = end }) so.each cut;
      inside = in_end;
      start = next;
      start_inside = in_next;
      order = order;
      begins = marked;
      within = within;
      next = follows;
    }

pub cuts_from_so_far : (s : Stretch) (marks : List ℕ) (cuts : List Cut) (first last : ℕ) → IsInside s first → 0 < mark_at s marks first → ((j : ℕ) → IsInside s j → j < first → mark_at s marks j ≡ 0) → SoFar s marks cuts first last → (IsInside s (last + 1) → mark_at s marks (last + 1) ≡ 0) → AreCuts s marks cuts first last
cuts_from_so_far s marks cuts first last in_first begins none so over =
    let end : (0 < mark_at s marks last) × ((j : ℕ) → IsInside s j → last < j → mark_at s marks j ≡ 0) = ⊎_elim
    (λ (w : IsInside s (last + 1) × (0 < mark_at s marks (last + 1)) × (mark_at s marks (last + 1) ≢ mark_at s marks so.start)). let h = over w.0 in let k = w.1 in absurd (omega arith))
    (λ (w : (0 < mark_at s marks last) × ((j : ℕ) → IsInside s j → last < j → mark_at s marks j ≡ 0)). w)
    so.next in
    record {
      some = so.some;
      first_inside = in_first;
      last_inside = so.inside;
      begins = begins;
      ends = end.0;
      head = none;
      tail = end.1;
      cover = so.cover;
      each = so.each;
    }
