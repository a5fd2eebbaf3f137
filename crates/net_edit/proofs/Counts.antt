-- Where a net stands once: the place of its assign, or its pin.
use Rattle.std.proofs.Common.{◌≡◌, ◌≢◌, ℕ, zero, suc, ◌+◌, ◌<◌, ◌≤◌, ◌==◌, Bool, true, false, cond, not, List, [], ◌∷◌, length, Option, Some, None, is_some, option_and_then, sum_by, inl, inr, refl, sym, ap, ◌∙◌, subst, arith}
use Rattle.std.specs.Prelude.{nat_lt}
use Rattle.std.specs.List.{list_any, slice_get, position_or_len}
use Rattle.std.specs.Str.{bytes_eq}
use Rattle.std.proofs.lemmas.Bool.{eqb-true, eq-eqb, or_cases, cases_Bool, false≢true, lt-ltb}
use Rattle.std.proofs.lemmas.Option.{none-some, same_Some}
use Rattle.std.proofs.lemmas.List.Sums.{sum_by-cons}
use Rattle.std.proofs.lemmas.Slice.Eq.{bytes_eq-Decides}
use Rattle.base_types.proofs.TruthValues.{bytes_are, and_first, and_second}
use Rattle.netlist_core.specs.declared.netlist.NetId.{NetId}
use Rattle.netlist_core.specs.declared.netlist.Bit.{Bit}
use Rattle.netlist_core.specs.declared.netlist.Bit.TheVariants.{Net, Zero, One, Unknown}
use Rattle.netlist_core.specs.declared.netlist.Assign.{Assign}
use Rattle.netlist_core.specs.declared.netlist.Connection.{Connection}
use Rattle.netlist_core.specs.declared.netlist.Instance.{Instance}
use Rattle.netlist_core.specs.declared.netlist.Netlist.{Netlist}
use Rattle.netlist_core.specs.Netlists.{single_net, connection_at, net_at}
use Rattle.chain_trace.specs.Paths.{pin_net}
use Rattle.chain_trace.proofs.Ranges.{then_some}
use Rattle.path_links.specs.Free.{count_in, count_in_assign, count_in_instance, count_of, is_one_net, is_assign_of, is_free}
use Rattle.path_links.specs.Edits.{assign_at}
use Rattle.path_links.proofs.PathSame.{net_is}
use Rattle.path_links.proofs.PathAssigns.{single_is, any_count, count_parts}

pub sum_one : {X : Type 0} (f : X → ℕ) (xs : List X) (i : ℕ) (a : X) → slice_get xs i ≡ Some a → f a ≤ sum_by f xs
sum_one f [] i a e = absurd (none-some a e)
sum_one f (x ∷ xs) zero a e = let c = sum_by-cons f x xs in let s = ap f (same_Some x a e) in omega (arith, c, s)
sum_one f (x ∷ xs) (suc i) a e = let c = sum_by-cons f x xs in let more = sum_one f xs i a e in omega (arith, c, more)

pub sum_two : {X : Type 0} (f : X → ℕ) (xs : List X) (i j : ℕ) (a b : X) → slice_get xs i ≡ Some a → slice_get xs j ≡ Some b → i ≢ j → f a + f b ≤ sum_by f xs
sum_two f [] i j a b e g ne = absurd (none-some a e)
sum_two f (x ∷ xs) zero zero a b e g ne = absurd (ne refl)
sum_two f (x ∷ xs) zero (suc j) a b e g ne =
    let c = sum_by-cons f x xs in let s = ap f (same_Some x a e) in let more = sum_one f xs j b g in omega (arith, c, s, more)
sum_two f (x ∷ xs) (suc i) zero a b e g ne =
    let c = sum_by-cons f x xs in let s = ap f (same_Some x b g) in let more = sum_one f xs i a e in omega (arith, c, s, more)
sum_two f (x ∷ xs) (suc i) (suc j) a b e g ne =
    let c = sum_by-cons f x xs in let more = sum_two f xs i j a b e g (λ s. ne (ap suc s)) in omega (arith, c, more)

-- pins

abbrev count_at : NetId → Connection → ℕ
count_at o c = count_in o c.expr.bits

abbrev net_in : List ℕ → List Connection → Option NetId
net_in pin cs = option_and_then (λ (c : Connection). single_net c.expr.bits) (connection_at pin cs)

single_count : (o : NetId) (bits : List Bit) (net : NetId) → single_net bits ≡ Some net → net.0 ≡ o.0 → count_in o bits ≡ 1
single_count o bits net e same =
    ap (count_in o) (single_is bits net e) ∙ ap (λ (b : Bool). 0 + cond b 1 0) (eq-eqb net.0 o.0 same)

pin_case : (o : NetId) (pin : List ℕ) (net : NetId) (c : Connection) (cs : List Connection) (b : Bool) → net.0 ≡ o.0
    → (net_in pin cs ≡ Some net → 1 ≤ sum_by (count_at o) cs)
    → option_and_then (λ (d : Connection). single_net d.expr.bits) (cond b (Some c) (connection_at pin cs)) ≡ Some net → 1 ≤ sum_by (count_at o) (c ∷ cs)
pin_case o pin net c cs true same more e =
    let s = sum_by-cons (count_at o) c cs in let one = single_count o c.expr.bits net e same in omega (arith, s, one)
pin_case o pin net c cs false same more e = let s = sum_by-cons (count_at o) c cs in let rest = more e in omega (arith, s, rest)

pin_count : (o : NetId) (pin : List ℕ) (net : NetId) (cs : List Connection) → net.0 ≡ o.0 → net_in pin cs ≡ Some net → 1 ≤ sum_by (count_at o) cs
pin_count o pin net [] same e = absurd (none-some net e)
pin_count o pin net (c ∷ cs) same e = pin_case o pin net c cs (bytes_eq c.pin pin) same (pin_count o pin net cs same) e

two_case : (o : NetId) (p q : List ℕ) (x y : NetId) (c : Connection) (cs : List Connection) (s t : Bool) → bytes_eq c.pin p ≡ s → bytes_eq c.pin q ≡ t → p ≢ q → x.0 ≡ o.0 → y.0 ≡ o.0
    → (net_in p cs ≡ Some x → net_in q cs ≡ Some y → 2 ≤ sum_by (count_at o) cs)
    → option_and_then (λ (d : Connection). single_net d.expr.bits) (cond s (Some c) (connection_at p cs)) ≡ Some x
    → option_and_then (λ (d : Connection). single_net d.expr.bits) (cond t (Some c) (connection_at q cs)) ≡ Some y
    → 2 ≤ sum_by (count_at o) (c ∷ cs)
two_case o p q x y c cs true true sp sq ne sx sy more ex ey = absurd (ne (sym (bytes_are c.pin p sp) ∙ bytes_are c.pin q sq))
two_case o p q x y c cs true false sp sq ne sx sy more ex ey =
    let s = sum_by-cons (count_at o) c cs in let one = single_count o c.expr.bits x ex sx in let rest = pin_count o q y cs sy ey in omega (arith, s, one, rest)
two_case o p q x y c cs false true sp sq ne sx sy more ex ey =
    let s = sum_by-cons (count_at o) c cs in let one = single_count o c.expr.bits y ey sy in let rest = pin_count o p x cs sx ex in omega (arith, s, one, rest)
two_case o p q x y c cs false false sp sq ne sx sy more ex ey = let s = sum_by-cons (count_at o) c cs in let rest = more ex ey in omega (arith, s, rest)

two_count : (o : NetId) (p q : List ℕ) (x y : NetId) (cs : List Connection) → p ≢ q → x.0 ≡ o.0 → y.0 ≡ o.0 → net_in p cs ≡ Some x → net_in q cs ≡ Some y → 2 ≤ sum_by (count_at o) cs
two_count o p q x y [] ne sx sy ex ey = absurd (none-some x ex)
two_count o p q x y (c ∷ cs) ne sx sy ex ey =
    two_case o p q x y c cs (bytes_eq c.pin p) (bytes_eq c.pin q) refl refl ne sx sy (two_count o p q x y cs ne sx sy) ex ey

pub pins_count : (n : Netlist) (o : NetId) (i : ℕ) (p : List ℕ) (x : NetId) → pin_net n i p ≡ Some x → x.0 ≡ o.0 → 1 ≤ sum_by (count_in_instance o) n.instances
pins_count n o i p x e same =
    let a = then_some (net_at p) (slice_get n.instances i) x e in
    let one : 1 ≤ count_in_instance o a.value = pin_count o p x a.value.connections same a.gives in
    let all = sum_one (count_in_instance o) n.instances i a.value a.is in
    omega (arith, one, all)

pins_same : (n : Netlist) (o : NetId) (i : ℕ) (p q : List ℕ) (x y : NetId) → sum_by (count_in_instance o) n.instances ≤ 1 → pin_net n i p ≡ Some x → pin_net n i q ≡ Some y → x.0 ≡ o.0 → y.0 ≡ o.0 → p ≢ q → ⊥
pins_same n o i p q x y few ex ey sx sy ne =
    let a = then_some (net_at p) (slice_get n.instances i) x ex in
    let b = then_some (net_at q) (slice_get n.instances i) y ey in
    let same : b.value ≡ a.value = same_Some b.value a.value (sym b.is ∙ a.is) in
    let two : 2 ≤ count_in_instance o a.value = two_count o p q x y a.value.connections ne sx sy a.gives (subst (λ (placed : Instance). net_at q placed ≡ Some y) same b.gives) in
    let all = sum_one (count_in_instance o) n.instances i a.value a.is in
    omega (arith, two, all, few)

pins_differ : (n : Netlist) (o : NetId) (i j : ℕ) (p q : List ℕ) (x y : NetId) → sum_by (count_in_instance o) n.instances ≤ 1 → pin_net n i p ≡ Some x → pin_net n j q ≡ Some y → x.0 ≡ o.0 → y.0 ≡ o.0 → i ≢ j → ⊥
pins_differ n o i j p q x y few ex ey sx sy ne =
    let a = then_some (net_at p) (slice_get n.instances i) x ex in
    let b = then_some (net_at q) (slice_get n.instances j) y ey in
    let one : 1 ≤ count_in_instance o a.value = pin_count o p x a.value.connections sx a.gives in
    let other : 1 ≤ count_in_instance o b.value = pin_count o q y b.value.connections sy b.gives in
    let all = sum_two (count_in_instance o) n.instances i j a.value b.value a.is b.is ne in
    omega (arith, one, other, all, few)

-- a net that stands at one pin at most
pub record IsOnePin (i j : ℕ) (p q : List ℕ) : Type 0 where
  pub instance : i ≡ j
  pub pin : p ≡ q

pub one_pin : (n : Netlist) (o : NetId) (i j : ℕ) (p q : List ℕ) (x y : NetId) → sum_by (count_in_instance o) n.instances ≤ 1 → pin_net n i p ≡ Some x → pin_net n j q ≡ Some y → x.0 ≡ o.0 → y.0 ≡ o.0 → IsOnePin i j p q
one_pin n o i j p q x y few ex ey sx sy =
    elim (cases_Bool (i == j)) [
      | inr e ↦ absurd (pins_differ n o i j p q x y few ex ey sx sy (λ s. false≢true (sym e ∙ eq-eqb i j s)))
      | inl e ↦
          let same = eqb-true i j e in
          record {
            instance = same;
            pin = elim (cases_Bool (bytes_eq p q)) [
              | inl f ↦ bytes_are p q f
              | inr f ↦ absurd (pins_same n o j p q x y few (subst (λ (k : ℕ). pin_net n k p ≡ Some x) same ex) ey sx sy (λ s. false≢true (sym f ∙ (bytes_eq-Decides p q).1 s)))
            ];
          }
    ]

-- assigns

pub one_net_is : (o : NetId) (bits : List Bit) → is_one_net o bits ≡ true → bits ≡ Net o ∷ []
one_net_is o [] e = absurd (false≢true e)
one_net_is o (Net m ∷ []) e = ap (λ (net : NetId). Net net ∷ []) (net_is m o (eqb-true m.0 o.0 e))
one_net_is o (Zero ∷ []) e = absurd (false≢true e)
one_net_is o (One ∷ []) e = absurd (false≢true e)
one_net_is o (Unknown ∷ []) e = absurd (false≢true e)
one_net_is o (b ∷ c ∷ bits) e = absurd (false≢true e)

some_net : (o : Option NetId) → is_some o ≡ true → (net : NetId) × (o ≡ Some net)
some_net None e = absurd (false≢true e)
some_net (Some net) e = (net, refl)

pub one_count : (o : NetId) (bits : List Bit) → is_one_net o bits ≡ true → count_in o bits ≡ 1
one_count o bits e = ap (count_in o) (one_net_is o bits e) ∙ ap (λ (b : Bool). 0 + cond b 1 0) (eq-eqb o.0 o.0 refl)

-- the assign of a net that stands once, as its whole left side
pub record IsAssigned (o : NetId) (assigns : List Assign) : Type 0 where
  pub place : ℕ
  pub assign : Assign
  pub at : slice_get assigns place ≡ Some assign
  pub left : assign.left.bits ≡ Net o ∷ []
  pub right : NetId
  pub right_is : assign.right.bits ≡ Net right ∷ []
  pub apart : right.0 ≢ o.0
  pub place_is : position_or_len (λ (a : Assign). is_one_net o a.left.bits) assigns ≡ place
  pub within : place < length assigns

right_apart : (o right : NetId) (bits : List Bit) → bits ≡ Net right ∷ [] → count_in o bits ≡ 0 → right.0 ≢ o.0
right_apart o right bits is none e =
    let off = (count_parts o (Net right) [] (ap (count_in o) (sym is) ∙ none)).0 in
    false≢true (sym off ∙ eq-eqb right.0 o.0 e)

assigned_here : (o : NetId) (a : Assign) (assigns : List Assign) → sum_by (count_in_assign o) (a ∷ assigns) ≡ 1 → is_assign_of o a ≡ true → IsAssigned o (a ∷ assigns)
assigned_here o a assigns count e =
    let c = sum_by-cons (count_in_assign o) a assigns in
    let one = and_first (is_one_net o a.left.bits) (is_some (single_net a.right.bits)) e in
    let single = some_net (single_net a.right.bits) (and_second (is_one_net o a.left.bits) (is_some (single_net a.right.bits)) e) in
    let left = one_count o a.left.bits one in
    let right = single_is a.right.bits single.0 single.1 in
    record {
      place = 0;
      assign = a;
      at = refl;
      left = one_net_is o a.left.bits one;
      right = single.0;
      right_is = right;
      apart = right_apart o single.0 a.right.bits right (omega (arith, c, count, left));
      place_is = ap (λ (b : Bool). cond (not b) (1 + position_or_len (λ (x : Assign). is_one_net o x.left.bits) assigns) 0) one;
      within = omega arith;
    }

assigned_below : (o : NetId) (a : Assign) (assigns : List Assign) → count_in_assign o a ≡ 0 → IsAssigned o assigns → IsAssigned o (a ∷ assigns)
assigned_below o a assigns none s =
    let off : is_one_net o a.left.bits ≡ false =
    elim (cases_Bool (is_one_net o a.left.bits)) [ inl e ↦ let one = one_count o a.left.bits e in absurd (omega (arith, one, none)) | inr e ↦ e ] in
    record {
      place = suc s.place;
      assign = s.assign;
      at = s.at;
      left = s.left;
      right = s.right;
      right_is = s.right_is;
      apart = s.apart;
      place_is = ap (λ (b : Bool). cond (not b) (1 + position_or_len (λ (x : Assign). is_one_net o x.left.bits) assigns) 0) off ∙ ap (λ (k : ℕ). 1 + k) s.place_is ∙ omega arith;
      within = let lt = s.within in omega (arith, lt);
    }

assigned_one : (o : NetId) (assigns : List Assign) → sum_by (count_in_assign o) assigns ≡ 1 → list_any (is_assign_of o) assigns ≡ true → IsAssigned o assigns
assigned_one o [] count any = absurd (false≢true any)
assigned_one o (a ∷ assigns) count any =
    let c = sum_by-cons (count_in_assign o) a assigns in
    elim (or_cases (is_assign_of o a) (list_any (is_assign_of o) assigns) any) [
      | inl e ↦ assigned_here o a assigns count e
      | inr e ↦ let some = any_count o assigns e in assigned_below o a assigns (omega (arith, c, count, some)) (assigned_one o assigns (omega (arith, c, count, some)) e)
    ]

-- a port that is assigned
pub record IsAssignedPort (n : Netlist) (o : NetId) : Type 0 where
  pub assigned : IsAssigned o n.assigns
  pub others : (k : ℕ) (a : Assign) → slice_get n.assigns k ≡ Some a → k ≢ assigned.place → count_in_assign o a ≡ 0
  pub pins : sum_by (count_in_instance o) n.instances ≡ 0
  pub found : assign_at n o ≡ Some assigned.place

pub assigned_port : (n : Netlist) (o : NetId) → is_free n o ≡ true → IsAssignedPort n o
assigned_port n o free =
    let count : count_of n o ≡ 1 = eqb-true (count_of n o) 1 (and_first (count_of n o == 1) (list_any (is_assign_of o) n.assigns) free) in
    let any = and_second (count_of n o == 1) (list_any (is_assign_of o) n.assigns) free in
    let some = any_count o n.assigns any in
    let s = assigned_one o n.assigns (omega (arith, count, some)) any in
    let here : 1 ≤ count_in_assign o s.assign = let one : count_in o s.assign.left.bits ≡ 1 = ap (count_in o) s.left ∙ ap (λ (b : Bool). 0 + cond b 1 0) (eq-eqb o.0 o.0 refl) in omega (arith, one) in
    record {
      assigned = s;
      others = λ k a at ne. let two = sum_two (count_in_assign o) n.assigns k s.place a s.assign at s.at ne in omega (arith, two, here, count);
      pins = omega (arith, count, some);
      found = ap (λ (k : ℕ). cond (nat_lt k (length n.assigns)) (Some k) None) s.place_is ∙ ap (λ (b : Bool). cond b (Some s.place) None) (lt-ltb s.place (length n.assigns) s.within);
    }
