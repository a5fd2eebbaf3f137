-- A chain whose units are placed one by one, each the nearest of those that are left.
use Rattle.std.proofs.Common.{◌≡◌, ℕ, ◌+◌, ◌<◌, ◌≤◌, List, [], ◌∷◌, ◌++◌, length, take, drop, get_or, Option, sym, ap, ◌∙◌, arith, subst, slice_get, inl, inr, IsTrue, eqb}
use Rattle.std.specs.List.{All, IsDistinct, remove}
use Rattle.std.specs.List.Sorted.{IsPermutation}
use Rattle.std.proofs.lemmas.Bool.{cases_lt}
use Rattle.std.proofs.lemmas.Bool.Decides.{nat_tests}
use Rattle.std.proofs.lemmas.List.{append-nil, drop-append-le, drop_all, drop_at, drop_more, get_or-take, get_or_append_left, get_or_default, get_or_push, length-append, length-drop, length-take-le, length_push, nil_from_length, take-append-drop, take-append-le, take_all}
use Rattle.std.proofs.lemmas.List.Edits.{get_or-remove_above, get_or-remove_below, length-remove}
use Rattle.std.proofs.lemmas.List.Elements.{All-append, All-cons, All-from_get_or, All-nil, All-same}
use Rattle.std.proofs.lemmas.List.Sorted.{All-permutation, IsPermutation-append_left, IsPermutation-more, IsPermutation-refl}
use Rattle.std.proofs.lemmas.List.Sums.{position_or_len_is}
use Rattle.std.proofs.lemmas.Map.Keys.{apart_from_distinct}
use Rattle.base_types.specs.declared.span.Point.{Point}
use Rattle.chain_rules.specs.Legality.{chain_at, unit_at}
use Rattle.chain_rules.specs.declared.unit.Rules.{Rules}
use Rattle.wire_cost.specs.declared.ends.Ends.{Ends}
use Rattle.wire_cost.specs.Lengths.{AreWithin, chain_ends, end_of, link_of}
use Rattle.order_search.specs.Nearest.{IsNearer, IsNearestChain, point_at, read_place}
use Rattle.order_search.specs.Runs.{IsFreeCount}
use Rattle.order_search.specs.Steps.{IsPinnedLast}
use Rattle.order_search.proofs.Pinned.{pinned_kept}

-- the units stand in the order as read
abbrev pub AreInReadOrder : List ℕ → List ℕ → Type 0
AreInReadOrder read left = (a b : ℕ) → a < b → b < length left → read_place read (get_or left a 0) < read_place read (get_or left b 0)

-- of the first `free` units as read, some are placed and the others are left
pub record IsPlacing (ends : Ends) (c : ℕ) (read : List ℕ) (free : ℕ) (placed left : List ℕ) : Type 0 where
  pub count : length placed + length left ≡ free
  pub same : IsPermutation (take free read) (placed ++ left)
  pub order : AreInReadOrder read left
  pub within : AreWithin left (length ends.entry)
  pub leave : AreWithin left (length ends.exit)
  pub nearest : (k : ℕ) → k < length placed → All (IsNearer ends read (point_at ends c placed k) (get_or placed k 0)) (drop (k + 1) placed ++ left)

-- a unit's place as read, where none stands twice
place_is : (read : List ℕ) (i : ℕ) → IsDistinct eqb read → i < length read → read_place read (get_or read i 0) ≡ i
place_is read i d l = position_or_len_is (eqb (get_or read i 0)) read i 0 (omega arith)
    (λ k h. (let a = apart_from_distinct eqb read k i 0 d h l in grind (arith, nat_tests, a)))
    (λ h. grind (arith, nat_tests))

pub placing_none : (ends : Ends) (c : ℕ) (read : List ℕ) (free : ℕ) → free ≤ length read → IsDistinct eqb read → AreWithin read (length ends.entry) → AreWithin read (length ends.exit) → IsPlacing ends c read free [] (take free read)
placing_none ends c read free l d w x =
    let n : length (take free read) ≡ free = length-take-le free read l in
    record {
      count = omega arith;
      same = IsPermutation-refl (take free read);
      order = λ a b h m.
          let ea = ap (read_place read) (get_or-take free read a 0 (omega arith)) ∙ place_is read a d (omega arith) in
          let eb = ap (read_place read) (get_or-take free read b 0 (omega arith)) ∙ place_is read b d (omega arith) in
          omega (arith, ea, eb, h);
      within = λ k h. (let e = get_or-take free read k 0 (omega arith) in let q = w k (omega arith) in omega (arith, e, q));
      leave = λ k h. (let e = get_or-take free read k 0 (omega arith) in let q = x k (omega arith) in omega (arith, e, q));
      nearest = λ k h. absurd (omega arith);
    }

-- what is left without the unit at place i
pub order_removed : (read left : List ℕ) (i : ℕ) → i < length left → AreInReadOrder read left → AreInReadOrder read (remove left i)
order_removed read left i l o = λ a b h m.
    let n = length-remove left i l in
    elim (cases_lt b i) [
      | inl x ↦ (let ea = ap (read_place read) (get_or-remove_below left i 0 a (omega arith) l) in let eb = ap (read_place read) (get_or-remove_below left i 0 b x l) in let q = o a b h (omega arith) in omega (arith, ea, eb, q))
      | inr x ↦ elim (cases_lt a i) [
        | inl y ↦ (let ea = ap (read_place read) (get_or-remove_below left i 0 a y l) in let eb = ap (read_place read) (get_or-remove_above left i 0 b x l) in let q = o a (b + 1) (omega arith) (omega arith) in omega (arith, ea, eb, q))
        | inr y ↦ (let ea = ap (read_place read) (get_or-remove_above left i 0 a y l) in let eb = ap (read_place read) (get_or-remove_above left i 0 b x l) in let q = o (a + 1) (b + 1) (omega arith) (omega arith) in omega (arith, ea, eb, q))
      ]
    ]

pub within_removed : (left : List ℕ) (n i : ℕ) → i < length left → AreWithin left n → AreWithin (remove left i) n
within_removed left n i l w = λ k h.
    let m = length-remove left i l in
    elim (cases_lt k i) [
      | inl x ↦ (let e = get_or-remove_below left i 0 k x l in let q = w k (omega arith) in omega (arith, e, q))
      | inr x ↦ (let e = get_or-remove_above left i 0 k x l in let q = w (k + 1) (omega arith) in omega (arith, e, q))
    ]

-- the first with the least link is nearer than all others that are left
pub nearer_than_rest : (ends : Ends) (read left : List ℕ) (p : Option Point) (i u : ℕ) → i < length left → u ≡ get_or left i 0 → AreInReadOrder read left
    → ((k : ℕ) → k < i → link_of p (slice_get ends.entry (get_or left i 0)) < link_of p (slice_get ends.entry (get_or left k 0)))
    → ((k : ℕ) → k < length left → link_of p (slice_get ends.entry (get_or left i 0)) ≤ link_of p (slice_get ends.entry (get_or left k 0)))
    → All (IsNearer ends read p u) (remove left i)
nearer_than_rest ends read left p i u l e o first least = subst (λ (x : ℕ). All (IsNearer ends read p x) (remove left i)) (sym e)
    (All-from_get_or (IsNearer ends read p (get_or left i 0)) (remove left i) 0 (λ k h.
    let m = length-remove left i l in
    elim (cases_lt k i) [
      | inl x ↦ subst (IsNearer ends read p (get_or left i 0)) (sym (get_or-remove_below left i 0 k x l)) (inl (first k x))
      | inr x ↦ subst (IsNearer ends read p (get_or left i 0)) (sym (get_or-remove_above left i 0 k x l))
          (elim (cases_lt (link_of p (slice_get ends.entry (get_or left i 0))) (link_of p (slice_get ends.entry (get_or left (k + 1) 0)))) [
            | inl y ↦ inl y
            | inr y ↦ inr ((let z = least (k + 1) (omega arith) in omega (arith, y, z)), o i (k + 1) (omega arith) (omega arith))
          ])
    ]))

-- one unit more is placed
pub placing_more : (ends : Ends) (c : ℕ) (read : List ℕ) (free : ℕ) (placed left : List ℕ) (p : Option Point) (i u : ℕ) → IsPlacing ends c read free placed left
    → p ≡ end_of ends.exit (chain_ends ends c).start placed → i < length left → u ≡ get_or left i 0 → All (IsNearer ends read p u) (remove left i)
    → IsPlacing ends c read free (placed ++ u ∷ []) (remove left i)
placing_more ends c read free placed left p i u g ep l e near =
    let eu : u ≡ get_or left i u = e ∙ get_or_default left i 0 u l in
    let n = length-remove left i l in
    let m = length_push placed u in
    record {
      count = omega (arith, g.count, n, m);
      same = IsPermutation-more (take free read) placed left i u l eu g.same;
      order = order_removed read left i l g.order;
      within = within_removed left (length ends.entry) i l g.within;
      leave = within_removed left (length ends.exit) i l g.leave;
      nearest = λ k h. elim (cases_lt k (length placed)) [
        | inl x ↦
            (let rest = drop (k + 1) placed in
            let at : get_or (placed ++ u ∷ []) k 0 ≡ get_or placed k 0 = get_or_append_left placed (u ∷ []) 0 k x in
            let pt : point_at ends c (placed ++ u ∷ []) k ≡ point_at ends c placed k = ap (end_of ends.exit (chain_ends ends c).start) (take-append-le k placed (u ∷ []) (omega arith)) in
            let q : All (IsNearer ends read (point_at ends c placed k) (get_or placed k 0)) ((rest ++ u ∷ []) ++ remove left i) =
            All-permutation (IsNearer ends read (point_at ends c placed k) (get_or placed k 0)) (rest ++ left) ((rest ++ u ∷ []) ++ remove left i) (IsPermutation-more (rest ++ left) rest left i u l eu (IsPermutation-refl (rest ++ left))) (g.nearest k x) in
            let s : All (IsNearer ends read (point_at ends c placed k) (get_or placed k 0)) (drop (k + 1) (placed ++ u ∷ []) ++ remove left i) =
            All-same (IsNearer ends read (point_at ends c placed k) (get_or placed k 0)) _ ((rest ++ u ∷ []) ++ remove left i) (ap (λ (x : List ℕ). x ++ remove left i) (drop-append-le (k + 1) placed (u ∷ []) (omega arith))) q in
            subst (λ (x : Option Point). All (IsNearer ends read x (get_or (placed ++ u ∷ []) k 0)) (drop (k + 1) (placed ++ u ∷ []) ++ remove left i)) (sym pt)
            (subst (λ (x : ℕ). All (IsNearer ends read (point_at ends c placed k) x) (drop (k + 1) (placed ++ u ∷ []) ++ remove left i)) (sym at) s))
        | inr x ↦
            (let at : get_or (placed ++ u ∷ []) k 0 ≡ u = get_or_push placed u 0 k (omega arith) in
            let none : drop (k + 1) (placed ++ u ∷ []) ≡ [] = drop_all (k + 1) (placed ++ u ∷ []) (omega arith) in
            let all : take k (placed ++ u ∷ []) ≡ placed = take-append-le k placed (u ∷ []) (omega arith) ∙ take_all k placed (omega arith) in
            let pt : point_at ends c (placed ++ u ∷ []) k ≡ p = ap (end_of ends.exit (chain_ends ends c).start) all ∙ sym ep in
            subst (λ (x : Option Point). All (IsNearer ends read x (get_or (placed ++ u ∷ []) k 0)) (drop (k + 1) (placed ++ u ∷ []) ++ remove left i)) (sym pt)
            (subst (λ (x : ℕ). All (IsNearer ends read p x) (drop (k + 1) (placed ++ u ∷ []) ++ remove left i)) (sym at)
            (subst (λ (x : List ℕ). All (IsNearer ends read p u) (x ++ remove left i)) (sym none) near)))
      ];
    }

-- only a pinned unit stands behind the free ones
rest_pinned : (rules : Rules) (read : List ℕ) (free : ℕ) → IsFreeCount rules read free → All (λ v. IsTrue (unit_at rules v).pinned) (drop free read)
rest_pinned rules read free (inl f) = All-same (λ v. IsTrue (unit_at rules v).pinned) (drop free read) (get_or read free 0 ∷ []) (drop_more read free 0 (omega (arith, f.0)) ∙ ap (λ (x : List ℕ). get_or read free 0 ∷ x) (drop_all (free + 1) read (omega (arith, f.0)))) (All-cons (λ v. IsTrue (unit_at rules v).pinned) (get_or read free 0) [] f.1 (All-nil (λ v. IsTrue (unit_at rules v).pinned)))
rest_pinned rules read free (inr f) = All-same (λ v. IsTrue (unit_at rules v).pinned) (drop free read) [] (drop_all free read (omega (arith, f.0))) (All-nil (λ v. IsTrue (unit_at rules v).pinned))

pub free_within : (rules : Rules) (read : List ℕ) (free : ℕ) → IsFreeCount rules read free → free ≤ length read
free_within rules read free (inl f) = omega (arith, f.0)
free_within rules read free (inr f) = omega (arith, f.0)

few_behind : (rules : Rules) (read : List ℕ) (free : ℕ) → IsFreeCount rules read free → length read ≤ free + 1
few_behind rules read free (inl f) = omega (arith, f.0)
few_behind rules read free (inr f) = omega (arith, f.0)

-- all are placed, and a pinned one behind them
pub placing_all : (rules : Rules) (ends : Ends) (c : ℕ) (free : ℕ) (placed left : List ℕ) → IsPlacing ends c (chain_at rules.read c) free placed left → IsFreeCount rules (chain_at rules.read c) free → length left ≡ 0 → IsPinnedLast rules (chain_at rules.read c)
    → IsNearestChain rules ends c (placed ++ drop free (chain_at rules.read c))
placing_all rules ends c free placed left g f z pin =
    let read = chain_at rules.read c in
    let tail = drop free read in
    let us = placed ++ tail in
    let l : left ≡ [] = nil_from_length left z in
    let n : length placed ≡ free = omega (arith, g.count) in
    let q : IsPermutation (take free read) placed = subst (λ (x : List ℕ). IsPermutation (take free read) x) (ap (λ (x : List ℕ). placed ++ x) l ∙ append-nil placed) g.same in
    let same : IsPermutation read us = subst (λ (x : List ℕ). IsPermutation x us) (take-append-drop free read) (IsPermutation-append_left tail (take free read) placed q) in
    record {
      same = same;
      pinned = pinned_kept rules read us free f same (drop_at placed tail free n) pin;
      nearest = λ k h. elim (cases_lt k (length placed)) [
        | inl x ↦
            (let at : get_or us k 0 ≡ get_or placed k 0 = get_or_append_left placed tail 0 k x in
            let pt : point_at ends c us k ≡ point_at ends c placed k = ap (end_of ends.exit (chain_ends ends c).start) (take-append-le k placed tail (omega arith)) in
            let d : drop (k + 1) us ≡ drop (k + 1) placed ++ tail = drop-append-le (k + 1) placed tail (omega arith) in
            let p = point_at ends c placed k in
            let u = get_or placed k 0 in
            let near : All (IsNearer ends read p u) (drop (k + 1) placed) = subst (λ (y : List ℕ). All (IsNearer ends read p u) y) (ap (λ (y : List ℕ). drop (k + 1) placed ++ y) l ∙ append-nil (drop (k + 1) placed)) (g.nearest k x) in
            let a : All (λ v. ¬ IsTrue (unit_at rules v).pinned → IsNearer ends read p u v) (drop (k + 1) placed) = λ i e m no. near i e m in
            let b : All (λ v. ¬ IsTrue (unit_at rules v).pinned → IsNearer ends read p u v) tail = λ i e m no. absurd (no (rest_pinned rules read free f i e m)) in
            let s : All (λ v. ¬ IsTrue (unit_at rules v).pinned → IsNearer ends read p u v) (drop (k + 1) us) = All-same (λ v. ¬ IsTrue (unit_at rules v).pinned → IsNearer ends read p u v) _ (drop (k + 1) placed ++ tail) d (All-append (λ v. ¬ IsTrue (unit_at rules v).pinned → IsNearer ends read p u v) (drop (k + 1) placed) tail a b) in
            subst (λ (y : Option Point). All (λ v. ¬ IsTrue (unit_at rules v).pinned → IsNearer ends read y (get_or us k 0) v) (drop (k + 1) us)) (sym pt)
            (subst (λ (y : ℕ). All (λ v. ¬ IsTrue (unit_at rules v).pinned → IsNearer ends read p y v) (drop (k + 1) us)) (sym at) s))
        | inr x ↦ All-same (λ v. ¬ IsTrue (unit_at rules v).pinned → IsNearer ends read (point_at ends c us k) (get_or us k 0) v) (drop (k + 1) us) []
            (drop_all (k + 1) us (omega (arith, n, few_behind rules read free f, length-append placed tail, length-drop free read)))
            (All-nil (λ v. ¬ IsTrue (unit_at rules v).pinned → IsNearer ends read (point_at ends c us k) (get_or us k 0) v))
      ];
    }
