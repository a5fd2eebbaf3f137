-- Faults of a chain, by its stretch and its marks.
use Rattle.std.proofs.Common.{◌≡◌, ℕ, ◌+◌, ◌<◌, ◌≤◌, List, length, get_or, refl, sym, ◌∙◌, subst, arith, inl, inr, ⊎_elim}
use Rattle.std.proofs.lemmas.List.{get_or_default}
use Rattle.std.proofs.lemmas.Bool.{cases_lt}
use Rattle.chain_rules.specs.declared.listing.Listing.{Listing}
use Rattle.chain_rules.specs.declared.spec.PathSpec.{PathSpec}
use Rattle.chain_rules.specs.declared.spec.ElementSpec.{ElementSpec}
use Rattle.chain_rules.specs.declared.spec.ListSpec.{ListSpec}
use Rattle.chain_rules.specs.declared.spec.ListSpec.TheVariants.{Floating, Ordered}
use Rattle.chain_rules.specs.declared.spec.ChainSpec.{ChainSpec}
use Rattle.chain_rules.specs.Stretches.{path_at, step_at, Names, IsListed, IsInside, Stretch, IsStretch, StepsOnce, HasElements, no_element, bits_between}
use Rattle.chain_rules.specs.ChainFaults.{IsUnlistedBits, IsBrokenAt, IsOrderBroken, IsOverMaxBits}
use Rattle.chain_rules.specs.Runs.{stretch, mark_at, IsListingOf, HasUnmarkedBit, ListHasBreak, no_list}
use Rattle.chain_rules.proofs.Stretched.{only_stretch}
use Rattle.chain_rules.proofs.Listed.{listed_by_mark, mark_by_listed}

pub stretch_of_listing : (paths : List PathSpec) → StepsOnce paths → (chain : ChainSpec) → HasElements chain → (l : Listing) → IsListingOf paths chain l → (s : Stretch) → IsStretch paths chain s → s ≡ stretch l.run
stretch_of_listing paths once chain has l is s is_s = only_stretch paths once chain has s (stretch l.run) is_s is.is_stretch

pub unlisted_from_unmarked : (paths : List PathSpec) (chain : ChainSpec) (l : Listing) → IsListingOf paths chain l → HasUnmarkedBit (path_at paths l.run.path) (stretch l.run) l.marks.items → IsUnlistedBits paths chain
unlisted_from_unmarked paths chain l is (k, inside, mark, bits) =
    (stretch l.run, is.is_stretch, k, inside, (λ by. let h = mark_by_listed (path_at paths l.run.path) (stretch l.run) chain l.marks.items is.are_marks k inside by in omega arith), bits)

pub unmarked_from_unlisted : (paths : List PathSpec) → StepsOnce paths → (chain : ChainSpec) → HasElements chain → (l : Listing) → IsListingOf paths chain l → IsUnlistedBits paths chain → HasUnmarkedBit (path_at paths l.run.path) (stretch l.run) l.marks.items
unmarked_from_unlisted paths once chain has l is (s, is_s, j, in_s, none, bits) =
    let here = subst (λ (t : Stretch). (k : ℕ) × IsInside t k × ¬ IsListed chain (step_at (path_at paths t.path) k) × (0 < (step_at (path_at paths t.path) k).bits)) (stretch_of_listing paths once chain has l is s is_s) (j, in_s, none, bits) in
    (here.0, here.1, unmarked here.0 here.1 here.2, here.3)
  where
    unmarked : (k : ℕ) → IsInside (stretch l.run) k → ¬ IsListed chain (step_at (path_at paths l.run.path) k) → mark_at (stretch l.run) l.marks.items k ≡ 0
    unmarked k inside unlisted =
        ⊎_elim
        (λ (h : 0 < mark_at (stretch l.run) l.marks.items k). absurd (unlisted (listed_by_mark (path_at paths l.run.path) (stretch l.run) chain l.marks.items is.are_marks k inside h)))
        (λ (h : mark_at (stretch l.run) l.marks.items k ≤ 0). omega arith)
        (cases_lt 0 (mark_at (stretch l.run) l.marks.items k))

pub broken_from_break : (paths : List PathSpec) (chain : ChainSpec) (l : Listing) → IsListingOf paths chain l → (j : ℕ) → j < length chain.lists → ListHasBreak (path_at paths l.run.path) (stretch l.run) l.marks.items (get_or chain.lists j no_list) → IsOrderBroken paths chain
broken_from_break paths chain l is j h has = by_list (get_or chain.lists j no_list) refl has
  where
    by_list : (list : ListSpec) → list ≡ get_or chain.lists j no_list → ListHasBreak (path_at paths l.run.path) (stretch l.run) l.marks.items list → IsOrderBroken paths chain
    by_list (Floating es) e has = absurd has
    by_list (Ordered es) e (i, next, a, b, at) = (
      stretch l.run,
      is.is_stretch,
      es,
      (j, h, get_or_default chain.lists j (Ordered es) no_list h ∙ sym e),
      i,
      a,
      b,
      record {
        neighbours = next;
        first_inside = at.first_inside;
        second_inside = at.second_inside;
        first = λ d. subst (λ (x : ElementSpec). Names x (step_at (path_at paths l.run.path) a)) (get_or_default es i no_element d (omega arith)) at.first;
        second = λ d. subst (λ (x : ElementSpec). Names x (step_at (path_at paths l.run.path) b)) (get_or_default es (i + 1) no_element d next) at.second;
        broken = ⊎_elim
            (λ (back : b ≤ a). inl back)
            (λ (w : (k : ℕ) × (a < k) × (k < b) × (0 < mark_at (stretch l.run) l.marks.items k)).
            inr (w.0, w.1, w.2, listed_by_mark (path_at paths l.run.path) (stretch l.run) chain l.marks.items is.are_marks w.0 (let low = at.first_inside.low in let high = at.second_inside.high in let k = w.1 in let m = w.2 in record { low = omega arith; high = omega arith }) w.3))
            at.broken;
      },
    )

pub break_from_broken : (paths : List PathSpec) → StepsOnce paths → (chain : ChainSpec) → HasElements chain → (l : Listing) → IsListingOf paths chain l → IsOrderBroken paths chain → (j : ℕ) × (j < length chain.lists) × ListHasBreak (path_at paths l.run.path) (stretch l.run) l.marks.items (get_or chain.lists j no_list)
break_from_broken paths once chain has l is (s, is_s, es, m, i, a, b, at) =
    let here = subst (λ (t : Stretch). IsBrokenAt (path_at paths t.path) t chain es i a b) (stretch_of_listing paths once chain has l is s is_s) at in
    let list : Ordered es ≡ get_or chain.lists m.0 no_list = sym m.2 ∙ get_or_default chain.lists m.0 (Ordered es) no_list m.1 in (
      m.0,
      m.1,
      subst (λ (x : ListSpec). ListHasBreak (path_at paths l.run.path) (stretch l.run) l.marks.items x) list (
        i,
        here.neighbours,
        a,
        b,
        record {
          first_inside = here.first_inside;
          second_inside = here.second_inside;
          first = here.first no_element;
          second = here.second no_element;
          broken = ⊎_elim
              (λ (back : b ≤ a). inl back)
              (λ (w : (k : ℕ) × (a < k) × (k < b) × IsListed chain (step_at (path_at paths l.run.path) k)).
              inr (w.0, w.1, w.2, mark_by_listed (path_at paths l.run.path) (stretch l.run) chain l.marks.items is.are_marks w.0 (let low = here.first_inside.low in let high = here.second_inside.high in let k = w.1 in let m = w.2 in record { low = omega arith; high = omega arith }) w.3))
              here.broken;
        },
      ),
    )

pub over_from_bits : (paths : List PathSpec) (chain : ChainSpec) (l : Listing) → IsListingOf paths chain l → 0 < chain.max_bits → chain.max_bits < bits_between (path_at paths l.run.path) l.run.from l.run.to → IsOverMaxBits paths chain
over_from_bits paths chain l is some h = (stretch l.run, is.is_stretch, some, h)

pub bits_from_over : (paths : List PathSpec) → StepsOnce paths → (chain : ChainSpec) → HasElements chain → (l : Listing) → IsListingOf paths chain l → IsOverMaxBits paths chain → (0 < chain.max_bits) × (chain.max_bits < bits_between (path_at paths l.run.path) l.run.from l.run.to)
bits_from_over paths once chain has l is (s, is_s, some, h) =
    (some, subst (λ (t : Stretch). chain.max_bits < bits_between (path_at paths t.path) t.from t.to) (stretch_of_listing paths once chain has l is s is_s) h)
