-- The two sides of pairs of bits, and what one more pair changes.
use Rattle.std.proofs.Common.{◌≡◌, ℕ, ◌+◌, ◌<◌, ◌≤◌, List, [], ◌∷◌, ◌++◌, length, get_or, take, ◌⊎◌, inl, inr, refl, sym, ap, ◌∙◌, subst, arith}
use Rattle.std.proofs.lemmas.List.{take_more, take_all, length-take-le, append-nil, append_assoc}
use Rattle.std.proofs.lemmas.List.Concat.{flat_map-append}
use Rattle.std.specs.List.{flat_map}
use Rattle.std.specs.Prelude.{Contains}
use Rattle.std.proofs.lemmas.List.Elements.{Contains-append_left, Contains-push, Contains-push_cases}
use Rattle.netlist_core.specs.declared.netlist.Bit.{Bit}
use Rattle.netlist_core.specs.declared.netlist.Bit.TheVariants.{Net, Zero, One, Unknown}
use Rattle.netlist_core.specs.declared.netlist.Assign.{Assign}
use Rattle.netlist_core.specs.Netlists.{pairs, bit_pairs}
use Rattle.netlist_core.specs.Joining.{net_bit, AreSidesOf}

abbrev number : Bit → ℕ
number (Net net) = net.0
number Zero = 0
number One = 0
number Unknown = 0

-- the bit isn't a net's
abbrev pub IsConstant : Bit → Type 0
IsConstant b = (net : ℕ) → b ≡ net_bit net → ⊥

pub sides_swap : (ps : List (Bit × Bit)) (a b : ℕ) → AreSidesOf ps a b → AreSidesOf ps b a
sides_swap ps a b (inl p) = inr p
sides_swap ps a b (inr p) = inl p

pub sides_more : (ps : List (Bit × Bit)) (p : Bit × Bit) (a b : ℕ) → AreSidesOf ps a b → AreSidesOf (ps ++ p ∷ []) a b
sides_more ps p a b (inl h) = inl (Contains-append_left ps (p ∷ []) (net_bit a, net_bit b) h)
sides_more ps p a b (inr h) = inr (Contains-append_left ps (p ∷ []) (net_bit b, net_bit a) h)

pub sides_here : (ps : List (Bit × Bit)) (x y : ℕ) → AreSidesOf (ps ++ (net_bit x, net_bit y) ∷ []) x y
sides_here ps x y = inl (Contains-push ps (net_bit x, net_bit y))

abbrev pair : ℕ → ℕ → Bit × Bit
pair x y = (net_bit x, net_bit y)

first_is : (x y a b : ℕ) → pair x y ≡ pair a b → a ≡ x
first_is x y a b e = sym (ap (λ (p : Bit × Bit). number p.0) e)

second_is : (x y a b : ℕ) → pair x y ≡ pair a b → b ≡ y
second_is x y a b e = sym (ap (λ (p : Bit × Bit). number p.1) e)

pub sides_cases : (ps : List (Bit × Bit)) (x y a b : ℕ) → AreSidesOf (ps ++ (net_bit x, net_bit y) ∷ []) a b
    → AreSidesOf ps a b ⊎ (((a ≡ x) × (b ≡ y)) ⊎ ((a ≡ y) × (b ≡ x)))
sides_cases ps x y a b (inl h) =
    elim (Contains-push_cases ps (net_bit x, net_bit y) (net_bit a, net_bit b) h) [
      | inl p ↦ inl (inl p)
      | inr e ↦ inr (inl (first_is x y a b e, second_is x y a b e))
    ]
sides_cases ps x y a b (inr h) =
    elim (Contains-push_cases ps (net_bit x, net_bit y) (net_bit b, net_bit a) h) [
      | inl p ↦ inl (inr p)
      | inr e ↦ inr (inr (second_is x y b a e, first_is x y b a e))
    ]

-- a pair with a constant makes no sides
contains_still : (ps : List (Bit × Bit)) (l r : Bit) (a b : ℕ) → IsConstant l ⊎ IsConstant r → Contains (ps ++ (l, r) ∷ []) (net_bit a, net_bit b) → Contains ps (net_bit a, net_bit b)
contains_still ps l r a b (inl n) h =
    elim (Contains-push_cases ps (l, r) (net_bit a, net_bit b) h) [
      | inl p ↦ p
      | inr e ↦ absurd (n a (ap (λ (p : Bit × Bit). p.0) e))
    ]
contains_still ps l r a b (inr n) h =
    elim (Contains-push_cases ps (l, r) (net_bit a, net_bit b) h) [
      | inl p ↦ p
      | inr e ↦ absurd (n b (ap (λ (p : Bit × Bit). p.1) e))
    ]

pub sides_still : (ps : List (Bit × Bit)) (l r : Bit) (a b : ℕ) → IsConstant l ⊎ IsConstant r → AreSidesOf (ps ++ (l, r) ∷ []) a b → AreSidesOf ps a b
sides_still ps l r a b n (inl h) = inl (contains_still ps l r a b n h)
sides_still ps l r a b n (inr h) = inr (contains_still ps l r b a n h)

pub no_sides : (a b : ℕ) → AreSidesOf [] a b → ⊥
no_sides a b (inl h) = omega (arith, h.1)
no_sides a b (inr h) = omega (arith, h.1)

pairs-push : {X : Type 0} (ls rs : List X) (l r : X) → length ls ≡ length rs → pairs (ls ++ l ∷ []) (rs ++ r ∷ []) ≡ pairs ls rs ++ (l, r) ∷ []
pairs-push [] [] l r e = refl
pairs-push [] (y ∷ ys) l r e = absurd (omega (arith, e))
pairs-push (x ∷ xs) [] l r e = absurd (omega (arith, e))
pairs-push (x ∷ xs) (y ∷ ys) l r e = ap (λ ps. (x, y) ∷ ps) (pairs-push xs ys l r (omega (arith, e)))

-- one more bit of both sides
pub pairs_more : {X : Type 0} (ls rs : List X) (i : ℕ) (d e : X) → i < length ls → i < length rs
    → pairs (take (i + 1) ls) (take (i + 1) rs) ≡ pairs (take i ls) (take i rs) ++ (get_or ls i d, get_or rs i e) ∷ []
pairs_more ls rs i d e hl hr =
    let el = length-take-le i ls (omega arith) in
    let er = length-take-le i rs (omega arith) in
    rw (take_more ls i d hl, take_more rs i e hr) (pairs-push (take i ls) (take i rs) (get_or ls i d) (get_or rs i e) (el ∙ sym er))

-- one more bit of both sides, for what holds of pairs and a list
pub bits_more : (F : ℕ → List (Bit × Bit) → List ℕ → Type 0) (count m : ℕ) (ls rs : List Bit) (i : ℕ) (l r : Bit) (ps : List (Bit × Bit)) (old new : List ℕ)
    → m ≡ count → i < length ls → length ls ≡ length rs → l ≡ get_or ls i l → r ≡ get_or rs i r
    → ((qs : List (Bit × Bit)) → F m qs old → F m (qs ++ (l, r) ∷ []) new)
    → F count (ps ++ pairs (take i ls) (take i rs)) old → F count (ps ++ pairs (take (i + 1) ls) (take (i + 1) rs)) new
bits_more F count m ls rs i l r ps old new em lt el is_l is_r step f =
    let front = pairs (take i ls) (take i rs) in
    let more = pairs_more ls rs i l r lt (omega arith) in
    let last : front ++ (l, r) ∷ [] ≡ front ++ (get_or ls i l, get_or rs i r) ∷ [] = ap (λ (b : Bit). front ++ (b, r) ∷ []) is_l ∙ ap (λ (b : Bit). front ++ (get_or ls i l, b) ∷ []) is_r in
    subst (λ (qs : List (Bit × Bit)). F count qs new) (append_assoc ps front ((l, r) ∷ []) ∙ ap (λ (qs : List (Bit × Bit)). ps ++ qs) (last ∙ sym more))
    (subst (λ (n : ℕ). F n ((ps ++ front) ++ (l, r) ∷ []) new) em (step (ps ++ front) (subst (λ (n : ℕ). F n (ps ++ front) old) (sym em) f)))

pub bits_all : (F : List (Bit × Bit) → Type 0) (ls rs : List Bit) (i : ℕ) (ps : List (Bit × Bit)) → length ls ≤ i → length ls ≡ length rs
    → F (ps ++ pairs (take i ls) (take i rs)) → F (ps ++ pairs ls rs)
bits_all F ls rs i ps le el f =
    subst (λ (xs : List Bit). F (ps ++ pairs xs rs)) (take_all i ls le) (subst (λ (ys : List Bit). F (ps ++ pairs (take i ls) ys)) (take_all i rs (omega arith)) f)

-- one more assign
pub assigns_more : (F : List (Bit × Bit) → Type 0) (items : List Assign) (i : ℕ) (a : Assign) (ls rs : List Bit) → i < length items → a ≡ get_or items i a
    → ls ≡ a.left.bits → rs ≡ a.right.bits → F (flat_map bit_pairs (take i items) ++ pairs ls rs) → F (flat_map bit_pairs (take (i + 1) items))
assigns_more F items i a ls rs lt is el er f =
    let front = flat_map bit_pairs (take i items) in
    let more : flat_map bit_pairs (take (i + 1) items) ≡ front ++ bit_pairs a =
    ap (flat_map bit_pairs) (take_more items i a lt) ∙ flat_map-append bit_pairs (take i items) (get_or items i a ∷ [])
    ∙ ap (λ (qs : List (Bit × Bit)). front ++ qs) (append-nil (bit_pairs (get_or items i a)) ∙ ap bit_pairs (sym is)) in
    subst F (sym more) (subst (λ (xs : List Bit). F (front ++ pairs xs a.right.bits)) el (subst (λ (ys : List Bit). F (front ++ pairs ls ys)) er f))

pub assigns_all : (F : List (Bit × Bit) → Type 0) (items : List Assign) (i : ℕ) → length items ≤ i → F (flat_map bit_pairs (take i items)) → F (flat_map bit_pairs items)
assigns_all F items i le f = subst (λ (xs : List Assign). F (flat_map bit_pairs xs)) (take_all i items le) f
