-- The rule and the units of a chain, from its cuts.
use Rattle.std.proofs.Common.{◌≡◌, ◌≢◌, ◌↔◌, ℕ, ◌+◌, ◌-◌, ◌<◌, ◌≤◌, IsTrue, nat_lt, cond, List, [], ◌∷◌, ◌++◌, length, get_or, map, All, Contains, refl, sym, ◌∙◌, ap, subst, arith, zero, suc, eqb, true}
use Rattle.std.specs.List.{AllZip, list_any}
use Rattle.std.proofs.lemmas.List.{get_or-map, length-map, get_or_default}
use Rattle.std.proofs.lemmas.List.Elements.{All-cons, All-nil, All-head, All-tail, All-contains, Contains-get_or}
use Rattle.std.proofs.lemmas.Bool.{ne_eqb, eqb-true}
use Rattle.std.proofs.lemmas.Map.Keys.{IsDistinct-from_apart}
use Rattle.std.proofs.lemmas.Map.Views.{Contains-from_any}
use Rattle.std.proofs.lemmas.Map.Steps.{length-le_from_distinct_below}
use Rattle.std.proofs.lemmas.Slice.Zip.{AllZip-long}
use Rattle.chain_rules.specs.declared.cuts.Cut.{Cut}
use Rattle.chain_rules.specs.declared.listing.Listing.{Listing}
use Rattle.chain_rules.specs.declared.stretch.Run.{Run}
use Rattle.chain_rules.specs.declared.spec.PathSpec.{PathSpec}
use Rattle.chain_rules.specs.declared.spec.ElementSpec.{ElementSpec}
use Rattle.chain_rules.specs.declared.spec.ChainSpec.{ChainSpec}
use Rattle.chain_rules.specs.declared.unit.Unit.{Unit as MovedUnit}
use Rattle.chain_rules.specs.declared.unit.ChainRule.{ChainRule}
use Rattle.chain_rules.specs.Stretches.{path_at, spec_at, step_at, Names, IsNamedBy, IsListed, IsInside, Stretch, StandsIn, elements_of, groups_of, bits_between, NamedOnce, HasElements}
use Rattle.chain_rules.specs.Rules.{Cover, IsUnit, PinsLast, IsReadChain}
use Rattle.chain_rules.specs.Runs.{stretch, mark_at, AreMarks, IsListingOf, IsCut, CutsCover, AreCuts, no_cut, end_of_cuts, IsUnitOfCut, IsRuleOfRun}
use Rattle.chain_rules.proofs.Stretched.{inside_place, Contains-flat_map, element_of}
use Rattle.chain_rules.proofs.Listed.{joined-groups, listed_by_mark, mark_by_listed}
use Rattle.chain_rules.proofs.Together.{one_group}

pub all_zip_push : {X Y : Type 0} (R : X → Y → Type 0) (xs : List X) (ys : List Y) (x : X) (y : Y) → AllZip R xs ys → R x y → AllZip R (xs ++ x ∷ []) (ys ++ y ∷ [])
all_zip_push R [] [] x y z r = (r, tt)
all_zip_push R [] (b ∷ bs) x y z r = absurd z
all_zip_push R (a ∷ as') [] x y z r = absurd z
all_zip_push R (a ∷ as') (b ∷ bs) x y z r = (z.0, all_zip_push R as' bs x y z.1 r)

zip_all : {X Y : Type 0} (R : X → Y → Type 0) (P : X → Type 0) (Q : Y → Type 0) → ((x : X) (y : Y) → P x → R x y → Q y) → (xs : List X) (ys : List Y) → All P xs → AllZip R xs ys → All Q ys
zip_all R P Q f [] [] all z = All-nil Q
zip_all R P Q f [] (y ∷ ys) all z = absurd z
zip_all R P Q f (x ∷ xs) [] all z = absurd z
zip_all R P Q f (x ∷ xs) (y ∷ ys) all z = All-cons Q y ys (f x y (All-head P x xs all) z.0) (zip_all R P Q f xs ys (All-tail P x xs all) z.1)

pub cover_of_cuts : (path : PathSpec) (chain : ChainSpec) (run : Run) (last : ℕ) (cuts : List Cut) (us : List MovedUnit) (from to : ℕ) → AllZip (λ c u. IsUnitOfCut path chain run c last u) cuts us → All (λ c. c.first ≤ c.last) cuts → CutsCover cuts from to → Cover us from to
cover_of_cuts path chain run last [] [] from to z order e = e
cover_of_cuts path chain run last [] (u ∷ us) from to z order e = absurd z
cover_of_cuts path chain run last (c ∷ cs) [] from to z order e = absurd z
cover_of_cuts path chain run last (c ∷ cs) (u ∷ us) from to (r, z) order (e, rest) =
    let h = All-head (λ (x : Cut). x.first ≤ x.last) c cs order in
    let first = r.first in
    let end = r.end in
    (first ∙ e, omega arith, subst (λ (n : ℕ). Cover us (n + 1) to) (sym end) (cover_of_cuts path chain run last cs us (c.last + 1) to z (All-tail (λ (x : Cut). x.first ≤ x.last) c cs order) rest))

-- Cuts are at most as many as groups

cover_above : (cuts : List Cut) (from to : ℕ) → All (λ c. c.first ≤ c.last) cuts → CutsCover cuts from to → (j : ℕ) (d : Cut) → j < length cuts → from ≤ (get_or cuts j d).first
cover_above [] from to order e j d h = absurd (omega arith)
cover_above (c ∷ cs) from to order (e, rest) zero d h = omega arith
cover_above (c ∷ cs) from to order (e, rest) (suc j) d h =
    let o = All-head (λ (x : Cut). x.first ≤ x.last) c cs order in
    let w = cover_above cs (c.last + 1) to (All-tail (λ (x : Cut). x.first ≤ x.last) c cs order) rest j d (omega arith) in
    omega arith

cover_apart : (cuts : List Cut) (from to : ℕ) → All (λ c. c.first ≤ c.last) cuts → CutsCover cuts from to → (i j : ℕ) (d : Cut) → i < j → j < length cuts → (get_or cuts i d).last < (get_or cuts j d).first
cover_apart [] from to order e i j d h k = absurd (omega arith)
cover_apart (c ∷ cs) from to order (e, rest) zero zero d h k = absurd (omega arith)
cover_apart (c ∷ cs) from to order (e, rest) zero (suc j) d h k =
    let w = cover_above cs (c.last + 1) to (All-tail (λ (x : Cut). x.first ≤ x.last) c cs order) rest j d (omega arith) in omega arith
cover_apart (c ∷ cs) from to order (e, rest) (suc i) zero d h k = absurd (omega arith)
cover_apart (c ∷ cs) from to order (e, rest) (suc i) (suc j) d h k = cover_apart cs (c.last + 1) to (All-tail (λ (x : Cut). x.first ≤ x.last) c cs order) rest i j d (omega arith) (omega arith)

-- no cut ends behind the end
cover_below : (cuts : List Cut) (from to : ℕ) → All (λ c. c.first ≤ c.last) cuts → CutsCover cuts from to → (from ≤ to) × All (λ c. c.last < to) cuts
cover_below [] from to order e = (omega arith, All-nil (λ (c : Cut). c.last < to))
cover_below (c ∷ cs) from to order (e, rest) =
    let o = All-head (λ (x : Cut). x.first ≤ x.last) c cs order in
    let w = cover_below cs (c.last + 1) to (All-tail (λ (x : Cut). x.first ≤ x.last) c cs order) rest in
    let h = w.0 in
    (omega arith, All-cons (λ (x : Cut). x.last < to) c cs (omega arith) w.1)

orders : (s : Stretch) (marks : List ℕ) (cuts : List Cut) → All (IsCut s marks) cuts → All (λ c. c.first ≤ c.last) cuts
orders s marks cuts each = λ k d h. (each k d h).order

pub cut_bounds : (s : Stretch) (marks : List ℕ) (cuts : List Cut) (first last : ℕ) → AreCuts s marks cuts first last → All (λ c. (c.first ≤ c.last) × (c.last ≤ last)) cuts
cut_bounds s marks cuts first last are = λ k d h.
    let order = (are.each k d h).order in
    let below = (cover_below cuts first (last + 1) (orders s marks cuts are.each) are.cover).1 k d h in
    (order, omega arith)

pub few_cuts : (path : PathSpec) (s : Stretch) (groups : List (List ElementSpec)) (marks : List ℕ) (cuts : List Cut) (first last : ℕ) → AreMarks path s groups marks → AreCuts s marks cuts first last → length cuts ≤ length groups
few_cuts path s groups marks cuts first last are_marks are =
    let number = λ (c : Cut). mark_at s marks c.first - 1 in
    let long = length-map cuts number in
    omega (
      arith,
      length-le_from_distinct_below (map (λ (c : Cut). mark_at s marks c.first - 1) cuts) (length groups)
          (IsDistinct-from_apart eqb (map (λ (c : Cut). mark_at s marks c.first - 1) cuts) (λ i j d low high. ne_eqb _ _ (apart i j d low (omega arith))))
          below,
    )
  where
    apart : (i j : ℕ) (d : ℕ) → i < j → j < length cuts → get_or (map (λ (c : Cut). mark_at s marks c.first - 1) cuts) i d ≢ get_or (map (λ (c : Cut). mark_at s marks c.first - 1) cuts) j d
    apart i j d low high same =
        let number = λ (c : Cut). mark_at s marks c.first - 1 in
        let one = are.each i no_cut (omega arith) in
        let two = are.each j no_cut high in
        let at = get_or-map (λ (c : Cut). mark_at s marks c.first - 1) cuts i no_cut d (omega arith) in
        let at_too = get_or-map (λ (c : Cut). mark_at s marks c.first - 1) cuts j no_cut d high in
        let some = one.begins in
        let some_too = two.begins in
        let in_one = one.all (get_or cuts j no_cut).first two.first (omega arith) in
        let far = cover_apart cuts first (last + 1) (orders s marks cuts are.each) are.cover i j no_cut low high in
        let close = in_one.1 in
        omega arith

    below : (q : ℕ) → list_any (eqb q) (map (λ (c : Cut). mark_at s marks c.first - 1) cuts) ≡ true → q < length groups
    below q any =
        let w = Contains-from_any {eq = eqb} (λ x y e. eqb-true x y e) q (map (λ (c : Cut). mark_at s marks c.first - 1) cuts) any in
        let within : w.0 < length cuts = let h = w.1 in omega (arith, length-map cuts (λ (c : Cut). mark_at s marks c.first - 1)) in
        let one = are.each w.0 no_cut within in
        let at = get_or-map (λ (c : Cut). mark_at s marks c.first - 1) cuts w.0 no_cut q within in
        let is = w.2 in
        let some = one.begins in
        (are_marks.named (get_or cuts w.0 no_cut).first q one.first (omega arith)).0

-- A unit

is_unit : (paths : List PathSpec) (chains : List ChainSpec) → NamedOnce paths chains → (c : ℕ) → c < length chains → (l : Listing) → IsListingOf paths (spec_at chains c) l → (cut : Cut) → IsCut (stretch l.run) l.marks.items cut → (last : ℕ) (u : MovedUnit) → IsUnitOfCut (path_at paths l.run.path) (spec_at chains c) l.run cut last u → IsUnit (path_at paths l.run.path) (spec_at chains c) u
is_unit paths chains named c within l is cut is_cut last u of_cut =
    let some = is_cut.begins in
    let by = is.are_marks.named cut.first (mark_at (stretch l.run) l.marks.items cut.first - 1) is_cut.first (omega arith) in
    record {
      begins = subst (λ (k : ℕ). IsListed (spec_at chains c) (step_at (path_at paths l.run.path) k)) (sym of_cut.first) (listed_by_mark (path_at paths l.run.path) (stretch l.run) (spec_at chains c) l.marks.items is.are_marks cut.first is_cut.first is_cut.begins);
      group = get_or (groups_of (spec_at chains c)) (mark_at (stretch l.run) l.marks.items cut.first - 1) [];
      of_chain = Contains-get_or (groups_of (spec_at chains c)) (mark_at (stretch l.run) l.marks.items cut.first - 1) [] by.0;
      each = λ p d h.
          let e = get_or (get_or (groups_of (spec_at chains c)) (mark_at (stretch l.run) l.marks.items cut.first - 1) []) p d in
          let w = placed p d by.0 h in
          let first = of_cut.first in
          let end = of_cut.end in
          let low = w.1 in
          let high = w.2 in
          (w.0, omega arith, omega arith, w.3);
      no_other = λ k low high listed.
          let first = of_cut.first in
          let end = of_cut.end in
          let inside = inside_cut k (omega arith) (omega arith) in
          let same = is_cut.within k (omega arith) (omega arith) (mark_by_listed (path_at paths l.run.path) (stretch l.run) (spec_at chains c) l.marks.items is.are_marks k inside listed) in
          (is.are_marks.named k (mark_at (stretch l.run) l.marks.items cut.first - 1) inside (omega arith)).1;
      bits = of_cut.bits ∙ (ap (λ (k : ℕ). bits_between (path_at paths l.run.path) k (cut.last + 1)) (sym of_cut.first) ∙ ap (λ (k : ℕ). bits_between (path_at paths l.run.path) u.first (k + 1)) (sym of_cut.end));
    }
  where
    inside_cut : (k : ℕ) → cut.first ≤ k → k ≤ cut.last → IsInside (stretch l.run) k
    inside_cut k low high = let a = is_cut.first.low in let b = is_cut.last.high in record { low = omega arith; high = omega arith }

    placed : (p : ℕ) (d : ElementSpec) → mark_at (stretch l.run) l.marks.items cut.first - 1 < length (groups_of (spec_at chains c)) → p < length (get_or (groups_of (spec_at chains c)) (mark_at (stretch l.run) l.marks.items cut.first - 1) []) → (k : ℕ) × (cut.first ≤ k) × (k ≤ cut.last) × Names (get_or (get_or (groups_of (spec_at chains c)) (mark_at (stretch l.run) l.marks.items cut.first - 1) []) p d) (step_at (path_at paths l.run.path) k)
    placed p d in_groups h =
        let groups = groups_of (spec_at chains c) in
        let g = mark_at (stretch l.run) l.marks.items cut.first - 1 in
        let group = get_or (groups_of (spec_at chains c)) (mark_at (stretch l.run) l.marks.items cut.first - 1) [] in
        let e = get_or (get_or (groups_of (spec_at chains c)) (mark_at (stretch l.run) l.marks.items cut.first - 1) []) p d in
        let m = subst (λ (es : List ElementSpec). Contains es (get_or (get_or (groups_of (spec_at chains c)) (mark_at (stretch l.run) l.marks.items cut.first - 1) []) p d)) (joined-groups (spec_at chains c))
        (Contains-flat_map (λ (es : List ElementSpec). es) (groups_of (spec_at chains c)) (get_or (groups_of (spec_at chains c)) (mark_at (stretch l.run) l.marks.items cut.first - 1) []) (get_or (get_or (groups_of (spec_at chains c)) (mark_at (stretch l.run) l.marks.items cut.first - 1) []) p d) (Contains-get_or (groups_of (spec_at chains c)) (mark_at (stretch l.run) l.marks.items cut.first - 1) [] in_groups) (Contains-get_or (get_or (groups_of (spec_at chains c)) (mark_at (stretch l.run) l.marks.items cut.first - 1) []) p d h)) in
        let st = All-contains (StandsIn (path_at paths l.run.path) (stretch l.run)) (elements_of (spec_at chains c)) (get_or (get_or (groups_of (spec_at chains c)) (mark_at (stretch l.run) l.marks.items cut.first - 1) []) p d) is.is_stretch.elements m in
        let named_here : IsNamedBy (get_or (groups_of (spec_at chains c)) (mark_at (stretch l.run) l.marks.items cut.first - 1) []) (step_at (path_at paths l.run.path) st.0) =
        (p, get_or (get_or (groups_of (spec_at chains c)) (mark_at (stretch l.run) l.marks.items cut.first - 1) []) p d, h, get_or_default (get_or (groups_of (spec_at chains c)) (mark_at (stretch l.run) l.marks.items cut.first - 1) []) p (get_or (get_or (groups_of (spec_at chains c)) (mark_at (stretch l.run) l.marks.items cut.first - 1) []) p d) d h, st.2) in
        let marked = is.are_marks.marked st.0 (mark_at (stretch l.run) l.marks.items cut.first - 1) st.1 in_groups named_here in
        let by = is.are_marks.named st.0 (mark_at (stretch l.run) l.marks.items st.0 - 1) st.1 (omega arith) in
        let same = one_group paths chains named c within l.run.path st.0 (mark_at (stretch l.run) l.marks.items st.0 - 1) (mark_at (stretch l.run) l.marks.items cut.first - 1) (inside_place paths (spec_at chains c) (stretch l.run) st.0 is.is_stretch st.1) by.0 in_groups by.1 named_here in
        let some = is_cut.begins in
        let at = is_cut.all st.0 st.1 (omega arith) in
        (st.0, at.0, at.1, st.2)

pinned_is : (path : PathSpec) (chain : ChainSpec) (run : Run) (first last : ℕ) (rule : ChainRule) → IsRuleOfRun path chain run first last rule → (cut : Cut) (u : MovedUnit) → IsUnitOfCut path chain run cut last u → IsTrue u.pinned ↔ ((u.last ≡ rule.last) × PinsLast path chain run.to u.last)
pinned_is path chain run first last rule of_run cut u of_cut = (
  λ h.
      let w = of_cut.pinned.0 h in
      (of_cut.end ∙ (w.0 ∙ sym of_run.ends), subst (λ (n : ℕ). PinsLast path chain run.to n) (sym (of_cut.end ∙ w.0)) w.1),
  λ w.
      let same = sym of_cut.end ∙ (w.0 ∙ of_run.ends) in
      of_cut.pinned.1 (same, subst (λ (n : ℕ). PinsLast path chain run.to n) (of_cut.end ∙ same) w.1),
)

pub read_chain : (paths : List PathSpec) (chains : List ChainSpec) → NamedOnce paths chains → (c : ℕ) → c < length chains → (l : Listing) → IsListingOf paths (spec_at chains c) l → (cuts : List Cut) (first last : ℕ) → AreCuts (stretch l.run) l.marks.items cuts first last → (us : List MovedUnit) → AllZip (λ k u. IsUnitOfCut (path_at paths l.run.path) (spec_at chains c) l.run k last u) cuts us → (rule : ChainRule) → IsRuleOfRun (path_at paths l.run.path) (spec_at chains c) l.run first last rule → IsReadChain paths (spec_at chains c) rule us
read_chain paths chains named c within l is cuts first last are us zip rule of_run =
    let path = path_at paths l.run.path in
    let R = λ (k : Cut) (u : MovedUnit). IsUnitOfCut (path_at paths l.run.path) (spec_at chains c) l.run k last u in
    record {
      stretch = stretch l.run;
      is_stretch = is.is_stretch;
      path = of_run.on;
      first = subst (λ (k : ℕ). IsInside (stretch l.run) k) (sym of_run.begins) are.first_inside;
      last = subst (λ (k : ℕ). IsInside (stretch l.run) k) (sym of_run.ends) are.last_inside;
      begins = subst (λ (k : ℕ). IsListed (spec_at chains c) (step_at (path_at paths l.run.path) k)) (sym of_run.begins) (listed_by_mark (path_at paths l.run.path) (stretch l.run) (spec_at chains c) l.marks.items is.are_marks first are.first_inside are.begins);
      ends = subst (λ (k : ℕ). IsListed (spec_at chains c) (step_at (path_at paths l.run.path) k)) (sym of_run.ends) (listed_by_mark (path_at paths l.run.path) (stretch l.run) (spec_at chains c) l.marks.items is.are_marks last are.last_inside are.ends);
      head = λ k inside before listed.
          let first_is = of_run.begins in
          let none = are.head k inside (omega arith) in
          let some = mark_by_listed (path_at paths l.run.path) (stretch l.run) (spec_at chains c) l.marks.items is.are_marks k inside listed in
          omega arith;
      tail = λ k inside behind listed.
          let last_is = of_run.ends in
          let none = are.tail k inside (omega arith) in
          let some = mark_by_listed (path_at paths l.run.path) (stretch l.run) (spec_at chains c) l.marks.items is.are_marks k inside listed in
          omega arith;
      cover = subst (λ (f : ℕ). Cover us f (rule.last + 1)) (sym of_run.begins) (subst (λ (t : ℕ). Cover us first (t + 1)) (sym of_run.ends)
          (cover_of_cuts (path_at paths l.run.path) (spec_at chains c) l.run last cuts us first (last + 1) zip (orders (stretch l.run) l.marks.items cuts are.each) are.cover));
      units = zip_all (λ k u. IsUnitOfCut (path_at paths l.run.path) (spec_at chains c) l.run k last u) (IsCut (stretch l.run) l.marks.items) (IsUnit (path_at paths l.run.path) (spec_at chains c)) (λ k u is_cut of_cut. is_unit paths chains named c within l is k is_cut last u of_cut) cuts us are.each zip;
      unit_paths = zip_all (λ k u. IsUnitOfCut (path_at paths l.run.path) (spec_at chains c) l.run k last u) (IsCut (stretch l.run) l.marks.items) (λ u. u.path ≡ l.run.path) (λ k u is_cut of_cut. of_cut.on) cuts us are.each zip;
      pinned = zip_all (λ k u. IsUnitOfCut (path_at paths l.run.path) (spec_at chains c) l.run k last u) (IsCut (stretch l.run) l.marks.items) (λ u. IsTrue u.pinned ↔ ((u.last ≡ rule.last) × PinsLast (path_at paths l.run.path) (spec_at chains c) l.run.to u.last)) (λ k u is_cut of_cut. pinned_is (path_at paths l.run.path) (spec_at chains c) l.run first last rule of_run k u of_cut) cuts us are.each zip;
      partition = of_run.partition;
      bound = of_run.bound ∙ ap (λ (n : ℕ). cond (nat_lt 0 (spec_at chains c).max_bits) (spec_at chains c).max_bits n) same_bits;
      keeps_bit = (λ h. let w = of_run.keeps_bit.0 h in subst (λ (n : ℕ). 0 < n) same_bits w, λ h. of_run.keeps_bit.1 (subst (λ (n : ℕ). 0 < n) (sym same_bits) h));
    }
  where
    same_bits : bits_between (path_at paths l.run.path) first (last + 1) ≡ bits_between (path_at paths l.run.path) rule.first (rule.last + 1)
    same_bits = ap (λ (k : ℕ). bits_between (path_at paths l.run.path) k (last + 1)) (sym of_run.begins) ∙ ap (λ (k : ℕ). bits_between (path_at paths l.run.path) rule.first (k + 1)) (sym of_run.ends)

pub built_count : (paths : List PathSpec) (chain : ChainSpec) (l : Listing) → IsListingOf paths chain l → (cuts : List Cut) (first last : ℕ) → AreCuts (stretch l.run) l.marks.items cuts first last → (us : List MovedUnit) → AllZip (λ k u. IsUnitOfCut (path_at paths l.run.path) chain l.run k last u) cuts us → (0 < length us) × (length us ≤ length (groups_of chain))
built_count paths chain l is cuts first last are us zip =
    let long = AllZip-long (λ k u. IsUnitOfCut (path_at paths l.run.path) chain l.run k last u) cuts us zip in
    let few = few_cuts (path_at paths l.run.path) (stretch l.run) (groups_of chain) l.marks.items cuts first last is.are_marks are in
    let some = are.some in
    (omega arith, omega arith)

pub first_cut : (cuts : List Cut) (from to : ℕ) → CutsCover cuts from to → 0 < length cuts → (x : Cut) → x ≡ get_or cuts 0 x → x.first ≡ from
first_cut [] from to e some x at = absurd (omega arith)
first_cut (c ∷ cs) from to (e, rest) some x at = ap (λ (y : Cut). y.first) at ∙ e

pub last_cut : (cuts : List Cut) (n : ℕ) (x : Cut) → n ≡ length cuts → 0 < length cuts → x ≡ get_or cuts (n - 1) x → x.last ≡ end_of_cuts cuts
last_cut cuts n x e some at =
    ap (λ (y : Cut). y.last) at ∙ (ap (λ (m : ℕ). (get_or cuts (m - 1) x).last) e ∙ ap (λ (y : Cut). y.last) (get_or_default cuts (length cuts - 1) x no_cut (omega arith)))

pub some_mark : (paths : List PathSpec) (chain : ChainSpec) → HasElements chain → (l : Listing) → IsListingOf paths chain l → (k : ℕ) × IsInside (stretch l.run) k × (0 < mark_at (stretch l.run) l.marks.items k)
some_mark paths chain has l is =
    let e = element_of chain has in
    let st = All-contains (StandsIn (path_at paths l.run.path) (stretch l.run)) (elements_of chain) e.0 is.is_stretch.elements e.1 in
    let m = e.1 in
    (st.0, st.1, mark_by_listed (path_at paths l.run.path) (stretch l.run) chain l.marks.items is.are_marks st.0 st.1 (m.0, e.0, m.1, m.2, st.2))
