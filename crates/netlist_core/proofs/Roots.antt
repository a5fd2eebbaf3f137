-- The roots after two classes are joined, and the lists of parents and of class numbers that keep them.
use Rattle.std.proofs.Common.{◌≡◌, ◌≢◌, ℕ, ◌<◌, ◌≤◌, min, max, Bool, true, false, cond, eqb, List, [], ◌∷◌, ◌++◌, length, get_or, ◌⊎◌, inl, inr, refl, sym, ap, ◌∙◌, subst, arith}
use Rattle.std.proofs.Math.ListN.{set}
use Rattle.std.proofs.lemmas.List.{length-set, get_or-set_same, get_or-set_other}
use Rattle.std.proofs.lemmas.Bool.Decides.{nat_tests}
use Rattle.std.proofs.lemmas.Bool.{cases_eq, cases_lt}
use Rattle.netlist_core.specs.declared.netlist.Bit.{Bit}
use Rattle.netlist_core.specs.declared.netlist.Netlist.{Netlist}
use Rattle.netlist_core.specs.Joining.{net_bit, AreSidesOf, AreLinked, AreClassesOf, assigned}
use Rattle.netlist_core.specs.Forests.{AreLeast, AreParents, AreRoots, IsForest, IsNumbering, merged, joined_roots}
use Rattle.netlist_core.proofs.Chains.{link-same, link-more, merged_same, merged_to, same_after, same_alone}
use Rattle.netlist_core.proofs.Sides.{IsConstant, sides_swap, sides_more, sides_here, sides_cases, sides_still, no_sides}

merged_low : (high low r k : ℕ) → low ≤ high → r ≤ k → merged high low r ≤ k
merged_low high low r k le h = grind (arith, nat_tests)

merged_other : (high low k : ℕ) → k ≢ high → merged high low k ≡ k
merged_other high low k ne = grind (arith, nat_tests)

-- the greater of two roots, high, gets the lesser one, low, as its parent
module _ (root : ℕ → ℕ) (low high : ℕ) (le : low ≤ high) (root_low : root low ≡ low) (root_high : root high ≡ high) where
  own_case : (r : ℕ) → root r ≡ r → (t : Bool) → eqb r high ≡ t → merged high low (root (cond t low r)) ≡ cond t low r
  own_case r rr true e = ap (merged high low) root_low ∙ merged_to high low
  own_case r rr false e = ap (merged high low) rr ∙ ap (λ (b : Bool). cond b low r) e

  pub least_merged : (count : ℕ) → AreLeast count root → AreLeast count (λ k. merged high low (root k))
  least_merged count least = record {
    low = λ k lt. merged_low high low (root k) k le (least.low k lt);
    own = λ k lt. own_case (root k) (least.own k lt) _ refl;
  }

  module _ (old new : List ℕ) (len : length new ≡ length old)
      (at : get_or new high 0 ≡ low)
      (others : (k : ℕ) → k ≢ high → get_or new k 0 ≡ get_or old k 0)
      (parents : AreParents old root) where
    passes_case : (k : ℕ) → k < length old → (k ≡ high) ⊎ (k ≢ high) → merged high low (root (get_or new k 0)) ≡ merged high low (root k)
    passes_case k lt (inl e) =
        ap (λ (x : ℕ). merged high low (root x)) (ap (λ (x : ℕ). get_or new x 0) e ∙ at)
        ∙ ap (merged high low) root_low ∙ merged_to high low
        ∙ sym (ap (λ (x : ℕ). merged high low (root x)) e ∙ ap (merged high low) root_high ∙ merged_same high low)
    passes_case k lt (inr ne) = ap (λ (x : ℕ). merged high low (root x)) (others k ne) ∙ ap (merged high low) (parents.passes k lt)

    ends_case : (k : ℕ) → k < length old → get_or new k 0 ≡ k → (k ≡ high) ⊎ (k ≢ high) → merged high low (root k) ≡ k
    ends_case k lt is (inl e) =
        ap (λ (x : ℕ). merged high low (root x)) e ∙ ap (merged high low) root_high ∙ merged_same high low
        ∙ sym at ∙ sym (ap (λ (x : ℕ). get_or new x 0) e) ∙ is
    ends_case k lt is (inr ne) = ap (merged high low) (parents.ends k lt (sym (others k ne) ∙ is)) ∙ merged_other high low k ne

    pub parents_merged : AreParents new (λ k. merged high low (root k))
    parents_merged = record {
      passes = λ k lt. passes_case k (omega arith) (cases_eq k high);
      ends = λ k lt is. ends_case k (omega arith) is (cases_eq k high);
    }

-- one place of a list is written
pub record IsWrite (old new : List ℕ) (at value : ℕ) : Type 0 where
  pub len : length new ≡ length old
  pub here : get_or new at 0 ≡ value
  pub others : (k : ℕ) → k ≢ at → get_or new k 0 ≡ get_or old k 0

pub written : (xs : List ℕ) (at value : ℕ) → at < length xs → IsWrite xs (set xs at value) at value
written xs at value lt = record { len = length-set xs at value; here = get_or-set_same xs at value 0 lt; others = λ k ne. get_or-set_other xs at k value 0 ne }

in_order : (x y : ℕ) → ((min x y ≡ x) × (max x y ≡ y)) ⊎ ((min x y ≡ y) × (max x y ≡ x))
in_order x y = elim (cases_lt x y) [ inl h ↦ inl (omega arith, omega arith) | inr h ↦ inr (omega arith, omega arith) ]

root_min : (root : ℕ → ℕ) (x y : ℕ) → root x ≡ x → root y ≡ y → root (min x y) ≡ min x y
root_min root x y ex ey = elim (in_order x y) [ inl o ↦ rw o.0 ex | inr o ↦ rw o.0 ey ]

root_max : (root : ℕ → ℕ) (x y : ℕ) → root x ≡ x → root y ≡ y → root (max x y) ≡ max x y
root_max root x y ex ey = elim (in_order x y) [ inl o ↦ rw o.1 ey | inr o ↦ rw o.1 ex ]

-- both roots are joined in the list of parents
pub parents_joined : (root : ℕ → ℕ) (a b x y low high : ℕ) (old new : List ℕ) → x ≡ root a → y ≡ root b → low ≡ min x y → high ≡ max x y
    → root (root a) ≡ root a → root (root b) ≡ root b → IsWrite old new high low → AreParents old root → AreParents new (joined_roots root a b)
parents_joined root a b x y low high old new ex ey el eh own_a own_b w kept =
    let own_x : root x ≡ x = ap root ex ∙ own_a ∙ sym ex in
    let own_y : root y ≡ y = ap root ey ∙ own_b ∙ sym ey in
    let le : min x y ≤ max x y = omega arith in
    let v : IsWrite old new (max x y) (min x y) = subst (λ (h : ℕ). IsWrite old new h (min x y)) eh (subst (λ (l : ℕ). IsWrite old new high l) el w) in
    let done = parents_merged root (min x y) (max x y) le (root_min root x y own_x own_y) (root_max root x y own_x own_y) old new v.len v.here v.others kept in
    subst (λ (u : ℕ). AreParents new (λ k. merged (max u (root b)) (min u (root b)) (root k))) ex
    (subst (λ (v : ℕ). AreParents new (λ k. merged (max x v) (min x v) (root k))) ey done)

pub least_joined : (count : ℕ) (root : ℕ → ℕ) (a b : ℕ) → a < count → b < count → AreLeast count root → AreLeast count (joined_roots root a b)
least_joined count root a b la lb least =
    let ex = least.own a la in
    let ey = least.own b lb in
    least_merged root (min (root a) (root b)) (max (root a) (root b)) (omega arith) (root_min root (root a) (root b) ex ey) (root_max root (root a) (root b) ex ey) count least

turned : {P : Type 0} {x y a b : ℕ} → P ⊎ (((x ≡ a) × (y ≡ b)) ⊎ ((x ≡ b) × (y ≡ a))) → P ⊎ (((x ≡ b) × (y ≡ a)) ⊎ ((x ≡ a) × (y ≡ b)))
turned (inl p) = inl p
turned (inr (inl e)) = inr (inr e)
turned (inr (inr e)) = inr (inl e)

-- one more pair of net bits: the roots are those of the pairs with it
roots_case : (count : ℕ) (ps : List (Bit × Bit)) (root : ℕ → ℕ) (a b : ℕ) → a < count → b < count
    → ((x y : ℕ) → AreSidesOf (ps ++ (net_bit a, net_bit b) ∷ []) x y → y < count)
    → AreRoots count ps root → ((min (root a) (root b) ≡ root a) × (max (root a) (root b) ≡ root b)) ⊎ ((min (root a) (root b) ≡ root b) × (max (root a) (root b) ≡ root a))
    → AreRoots count (ps ++ (net_bit a, net_bit b) ∷ []) (joined_roots root a b)
roots_case count ps root a b la lb inside same (inl o) =
    same_after count (AreSidesOf ps) (AreSidesOf (ps ++ (net_bit a, net_bit b) ∷ [])) b a root (joined_roots root a b)
    (sides_swap (ps ++ (net_bit a, net_bit b) ∷ [])) (sides_more ps (net_bit a, net_bit b))
    (sides_swap (ps ++ (net_bit a, net_bit b) ∷ []) a b (sides_here ps a b))
    (λ x y s. turned (sides_cases ps a b x y s)) inside lb la same (λ k lt. ap (λ (u : ℕ). merged u (min (root a) (root b)) (root k)) o.1 ∙ ap (λ (u : ℕ). merged (root b) u (root k)) o.0)
roots_case count ps root a b la lb inside same (inr o) =
    same_after count (AreSidesOf ps) (AreSidesOf (ps ++ (net_bit a, net_bit b) ∷ [])) a b root (joined_roots root a b)
    (sides_swap (ps ++ (net_bit a, net_bit b) ∷ [])) (sides_more ps (net_bit a, net_bit b))
    (sides_here ps a b)
    (sides_cases ps a b) inside la lb same (λ k lt. ap (λ (u : ℕ). merged u (min (root a) (root b)) (root k)) o.1 ∙ ap (λ (u : ℕ). merged (root a) u (root k)) o.0)

inside_case : (count a b x y : ℕ) {P : Type 0} → a < count → b < count → (P → y < count) → P ⊎ (((x ≡ a) × (y ≡ b)) ⊎ ((x ≡ b) × (y ≡ a))) → y < count
inside_case count a b x y la lb old (inl p) = old p
inside_case count a b x y la lb old (inr (inl e)) = subst (λ (v : ℕ). v < count) (sym e.1) lb
inside_case count a b x y la lb old (inr (inr e)) = subst (λ (v : ℕ). v < count) (sym e.1) la

inside_joined : (count : ℕ) (ps : List (Bit × Bit)) (a b : ℕ) → a < count → b < count → ((x y : ℕ) → AreSidesOf ps x y → y < count)
    → (x y : ℕ) → AreSidesOf (ps ++ (net_bit a, net_bit b) ∷ []) x y → y < count
inside_joined count ps a b la lb inside x y s = inside_case count a b x y la lb (inside x y) (sides_cases ps a b x y s)

roots_joined : (count : ℕ) (ps : List (Bit × Bit)) (root : ℕ → ℕ) (a b : ℕ) → a < count → b < count
    → ((x y : ℕ) → AreSidesOf ps x y → y < count) → AreRoots count ps root → AreRoots count (ps ++ (net_bit a, net_bit b) ∷ []) (joined_roots root a b)
roots_joined count ps root a b la lb inside same = roots_case count ps root a b la lb (inside_joined count ps a b la lb inside) same (in_order (root a) (root b))

-- a pair with a constant changes nothing
roots_still : (count : ℕ) (ps : List (Bit × Bit)) (l r : Bit) (root : ℕ → ℕ) → IsConstant l ⊎ IsConstant r → AreRoots count ps root → AreRoots count (ps ++ (l, r) ∷ []) root
roots_still count ps l r root n same a b la lb = (
  λ e. link-more (AreSidesOf ps) (AreSidesOf (ps ++ (l, r) ∷ [])) (sides_more ps (l, r)) a b ((same a b la lb).0 e),
  λ p. (same a b la lb).1 (link-more (AreSidesOf (ps ++ (l, r) ∷ [])) (AreSidesOf ps) (λ x y s. sides_still ps l r x y n s) a b p),
)

roots_alone : (count : ℕ) (root : ℕ → ℕ) → ((k : ℕ) → k < count → root k ≡ k) → AreRoots count [] root
roots_alone count root own a b la lb =
    (λ e. link-same (AreSidesOf []) a b (sym (own a la) ∙ e ∙ own b lb), λ p. ap root (same_alone (AreSidesOf []) no_sides a b p))

pub forest_joined : (count : ℕ) (ps : List (Bit × Bit)) (old new : List ℕ) (a b : ℕ) → a < count → b < count
    → ((root : ℕ → ℕ) → AreLeast count root → AreParents old root → AreParents new (joined_roots root a b))
    → IsForest count ps old → IsForest count (ps ++ (net_bit a, net_bit b) ∷ []) new
forest_joined count ps old new a b la lb joined f = record {
  root = joined_roots f.root a b;
  least = least_joined count f.root a b la lb f.least;
  kept = joined f.root f.least f.kept;
  same = roots_joined count ps f.root a b la lb f.inside f.same;
  inside = inside_joined count ps a b la lb f.inside;
}

pub forest_still : (count : ℕ) (ps : List (Bit × Bit)) (parents : List ℕ) (l r : Bit) → IsConstant l ⊎ IsConstant r → IsForest count ps parents → IsForest count (ps ++ (l, r) ∷ []) parents
forest_still count ps parents l r n f = record {
  root = f.root;
  least = f.least;
  kept = f.kept;
  same = roots_still count ps l r f.root n f.same;
  inside = λ a b s. f.inside a b (sides_still ps l r a b n s);
}

pub forest_alone : (count : ℕ) (parents : List ℕ) → length parents ≡ count → ((k : ℕ) → k < count → get_or parents k 0 ≡ k) → IsForest count [] parents
forest_alone count parents len own = record {
  root = λ k. k;
  least = record { low = λ k lt. omega arith; own = λ k lt. refl };
  kept = record { passes = λ k lt. own k (omega arith); ends = λ k lt e. refl };
  same = roots_alone count (λ k. k) (λ k lt. refl);
  inside = λ a b s. absurd (no_sides a b s);
}

pub numbering_still : (count : ℕ) (ps : List (Bit × Bit)) (classes : List ℕ) (l r : Bit) → IsConstant l ⊎ IsConstant r → IsNumbering count ps classes → IsNumbering count (ps ++ (l, r) ∷ []) classes
numbering_still count ps classes l r n f = record {
  least = f.least;
  same = roots_still count ps l r (λ k. get_or classes k 0) n f.same;
  inside = λ a b s. f.inside a b (sides_still ps l r a b n s);
}

pub numbering_alone : (count : ℕ) (classes : List ℕ) → ((k : ℕ) → k < count → get_or classes k 0 ≡ k) → IsNumbering count [] classes
numbering_alone count classes own = record {
  least = record { low = λ k lt. omega (arith, own k lt); own = λ k lt. ap (λ (x : ℕ). get_or classes x 0) (own k lt) };
  same = roots_alone count (λ k. get_or classes k 0) own;
  inside = λ a b s. absurd (no_sides a b s);
}

-- numbers that are the roots, net by net
least_as : (count : ℕ) (root number : ℕ → ℕ) → ((k : ℕ) → k < count → number k ≡ root k) → AreLeast count root → AreLeast count number
least_as count root number is least = record {
  low = λ k lt. omega (arith, is k lt, least.low k lt);
  own = λ k lt. ap number (is k lt) ∙ is (root k) (omega (arith, least.low k lt)) ∙ least.own k lt ∙ sym (is k lt);
}

roots_as : (count : ℕ) (ps : List (Bit × Bit)) (root number : ℕ → ℕ) → ((k : ℕ) → k < count → number k ≡ root k) → AreRoots count ps root → AreRoots count ps number
roots_as count ps root number is same a b la lb =
    (λ e. (same a b la lb).0 (sym (is a la) ∙ e ∙ is b lb), λ p. is a la ∙ (same a b la lb).1 p ∙ sym (is b lb))

pub numbering_joined : (count : ℕ) (ps : List (Bit × Bit)) (old new : List ℕ) (a b x y low high : ℕ) → a < count → b < count
    → x ≡ get_or old a 0 → y ≡ get_or old b 0 → low ≡ min x y → high ≡ max x y
    → ((k : ℕ) → k < count → get_or new k 0 ≡ merged high low (get_or old k 0))
    → IsNumbering count ps old → IsNumbering count (ps ++ (net_bit a, net_bit b) ∷ []) new
numbering_joined count ps old new a b x y low high la lb ex ey el eh each f =
    let root : ℕ → ℕ = λ k. get_or old k 0 in
    let low_is : low ≡ min (root a) (root b) = el ∙ ap (λ (u : ℕ). min u y) ex ∙ ap (λ (v : ℕ). min (root a) v) ey in
    let high_is : high ≡ max (root a) (root b) = eh ∙ ap (λ (u : ℕ). max u y) ex ∙ ap (λ (v : ℕ). max (root a) v) ey in
    let is : (k : ℕ) → k < count → get_or new k 0 ≡ joined_roots root a b k =
    λ k lt. each k lt ∙ ap (λ (h : ℕ). merged h low (root k)) high_is ∙ ap (λ (l : ℕ). merged (max (root a) (root b)) l (root k)) low_is in
    record {
      least = least_as count (joined_roots root a b) (λ k. get_or new k 0) is (least_joined count root a b la lb f.least);
      same = roots_as count (ps ++ (net_bit a, net_bit b) ∷ []) (joined_roots root a b) (λ k. get_or new k 0) is (roots_joined count ps root a b la lb f.inside f.same);
      inside = inside_joined count ps a b la lb f.inside;
    }

pub classes_from : (n : Netlist) (root : ℕ → ℕ) (classes : List ℕ) → length classes ≡ length n.nets
    → AreLeast (length n.nets) root → AreRoots (length n.nets) (assigned n) root → ((k : ℕ) → k < length n.nets → get_or classes k 0 ≡ root k) → AreClassesOf n classes
classes_from n root classes count least same is = record {
  count = count;
  same = roots_as (length n.nets) (assigned n) root (λ k. get_or classes k 0) is same;
  own = λ a la.
      subst (λ (c : ℕ). AreLinked (AreSidesOf (assigned n)) a c) (sym (is a la)) ((same a (root a) la (omega (arith, least.low a la))).0 (sym (least.own a la)));
  least = λ a b la lb p. omega (arith, is a la, (same a b la lb).1 p, least.low b lb);
}
