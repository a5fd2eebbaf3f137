-- Sides of assigns that are one net bit, and how often a net stands in assigns.
use Rattle.std.proofs.Common.{◌≡◌, ℕ, ◌+◌, ◌≤◌, Bool, true, false, cond, List, [], ◌∷◌, Some, is_some, sum_by, inl, inr, refl, ap, ◌∙◌, arith}
use Rattle.std.specs.List.{list_any}
use Rattle.std.proofs.lemmas.Bool.{eqb-true, eq-eqb, or_cases, false≢true}
use Rattle.std.proofs.lemmas.Option.{none-some, same_Some}
use Rattle.std.proofs.lemmas.List.Sums.{sum_by-cons}
use Rattle.base_types.proofs.TruthValues.{and_first}
use Rattle.netlist_core.specs.declared.netlist.NetId.{NetId}
use Rattle.netlist_core.specs.declared.netlist.Bit.{Bit}
use Rattle.netlist_core.specs.declared.netlist.Bit.TheVariants.{Net, Zero, One, Unknown}
use Rattle.netlist_core.specs.declared.netlist.Assign.{Assign}
use Rattle.netlist_core.specs.Netlists.{single_net}
use Rattle.path_links.specs.Free.{is_bit_of, count_in, count_in_assign, is_one_net, is_assign_of}
use Rattle.path_links.proofs.PathSame.{net_is}

no_count : (b : Bool) → ◌≡◌ {A = ℕ} (cond b 1 0) 0 → b ≡ false
no_count true e = absurd (omega (arith, e))
no_count false e = refl

pub count_parts : (o : NetId) (bit : Bit) (bits : List Bit) → count_in o (bit ∷ bits) ≡ 0 → (is_bit_of o bit ≡ false) × (count_in o bits ≡ 0)
count_parts o bit bits e =
    let c : count_in o (bit ∷ bits) ≡ cond (is_bit_of o bit) 1 0 + count_in o bits = sum_by-cons (λ (x : Bit). cond (is_bit_of o x) 1 0) bit bits in
    (no_count (is_bit_of o bit) (omega (arith, c, e)), omega (arith, c, e))

one_net_is : (o : NetId) (bits : List Bit) → is_one_net o bits ≡ true → bits ≡ Net o ∷ []
one_net_is o [] e = absurd (false≢true e)
one_net_is o (Net m ∷ []) e = ap (λ (net : NetId). Net net ∷ []) (net_is m o (eqb-true m.0 o.0 e))
one_net_is o (Zero ∷ []) e = absurd (false≢true e)
one_net_is o (One ∷ []) e = absurd (false≢true e)
one_net_is o (Unknown ∷ []) e = absurd (false≢true e)
one_net_is o (b ∷ c ∷ bits) e = absurd (false≢true e)

pub single_is : (bits : List Bit) (net : NetId) → single_net bits ≡ Some net → bits ≡ Net net ∷ []
single_is [] net e = absurd (none-some net e)
single_is (Net m ∷ []) net e = ap (λ (x : NetId). Net x ∷ []) (same_Some m net e)
single_is (Net m ∷ (b ∷ bits)) net e = absurd (none-some net e)
single_is (Zero ∷ bits) net e = absurd (none-some net e)
single_is (One ∷ bits) net e = absurd (none-some net e)
single_is (Unknown ∷ bits) net e = absurd (none-some net e)

self_count : (o : NetId) → count_in o (Net o ∷ []) ≡ 1
self_count o = ap (λ (b : Bool). 0 + cond b 1 0) (eq-eqb o.0 o.0 refl)

one_count : (o : NetId) (bits : List Bit) → is_one_net o bits ≡ true → count_in o bits ≡ 1
one_count o bits e = ap (count_in o) (one_net_is o bits e) ∙ self_count o

pub any_count : (o : NetId) (assigns : List Assign) → list_any (is_assign_of o) assigns ≡ true → 1 ≤ sum_by (count_in_assign o) assigns
any_count o [] e = absurd (false≢true e)
any_count o (a ∷ assigns) e =
    let c = sum_by-cons (count_in_assign o) a assigns in
    elim (or_cases (is_assign_of o a) (list_any (is_assign_of o) assigns) e) [
      | inl h ↦ let one = one_count o a.left.bits (and_first (is_one_net o a.left.bits) (is_some (single_net a.right.bits)) h) in omega (arith, c, one)
      | inr h ↦ let more = any_count o assigns h in omega (arith, c, more)
    ]
