-- The made netlist is a netlist.
use Rattle.std.proofs.Common.{◌≡◌, ℕ, zero, suc, ◌+◌, ◌-◌, ◌<◌, ◌≤◌, Bool, true, false, cond, eqb, if◌then◌else◌, List, [], ◌∷◌, ◌++◌, length, map, get_or, drop, refl, sym, ap, ◌∙◌, subst, codes, arith, ◌⊎◌, inl, inr}
use Rattle.std.specs.Prelude.{nat_lt, All}
use Rattle.std.specs.List.{range_with_len, AllByRecursion as Each}
use Rattle.std.specs.Str.{bytes_eq}
use Rattle.std.specs.Str.Parse.{digits_value}
use Rattle.std.proofs.lemmas.List.{length-map}
use Rattle.std.proofs.lemmas.List.FromFn.{length-map-range_with_len}
use Rattle.std.proofs.lemmas.List.Elements.{All-nil, All-cons, All-from_recursion}
use Rattle.std.proofs.lemmas.Bool.{cases_lt}
use Rattle.netlist_core.specs.declared.netlist.NetName.{NetName}
use Rattle.netlist_core.specs.declared.netlist.Port.{Port}
use Rattle.netlist_core.specs.declared.netlist.Connection.{Connection}
use Rattle.netlist_core.specs.declared.netlist.Instance.{Instance}
use Rattle.netlist_core.specs.declared.netlist.Bit.TheVariants.{Net}
use Rattle.netlist_core.specs.Netlists.{AreDistinct, IsBitWithin, IsAssign, IsInstance, IsNetlist}
use Rattle.def_syntax.proofs.FrameLaws.{each_append}
use Rattle.design_maker.specs.Chains.{last_unit}
use Rattle.made_law.specs.Designs.Names.{unit, unit_net, in_port, out_port}
use Rattle.made_law.specs.Designs.MadeComponents.{units}
use Rattle.made_law.proofs.designs.Numbers.{value_of}
use Rattle.made_law.proofs.designs.Rising.{Rising, rising_both, rising_range}
use Rattle.made_law.proofs.designs.Statements.{each_of}
use Rattle.made_law.specs.Paths.MadeNetlist.{NetlistPlaces, net_id, out_number, unit_number, net_names, named_net, input_number, made_instance, made_assign, input_port, output_port, made_netlist}
use Rattle.made_law.specs.Paths.Laws.{NetlistLaw}

-- members whose keys rise are different
module _ {X : Type 0} (key : X → ℕ) where
  pub rising_low : (a b : ℕ) (xs : List X) (j : ℕ) (d : X) → Rising key a xs b → j < length xs → a ≤ key (get_or xs j d)
  rising_low a b [] j d h lt = absurd (omega arith)
  rising_low a b (x ∷ xs) zero d h lt = h.0
  rising_low a b (x ∷ xs) (suc j) d h lt = let first = h.0 in let more = rising_low (key x + 1) b xs j d h.1 (omega arith) in omega (arith, first, more)

  pub rising_at : (a b : ℕ) (xs : List X) (i j : ℕ) (d : X) → Rising key a xs b → i < j → j < length xs → key (get_or xs i d) < key (get_or xs j d)
  rising_at a b [] i j d h less lt = absurd (omega arith)
  rising_at a b (x ∷ xs) i zero d h less lt = absurd (omega arith)
  rising_at a b (x ∷ xs) zero (suc j) d h less lt = let more = rising_low (key x + 1) b xs j d h.1 (omega arith) in omega (arith, more)
  rising_at a b (x ∷ xs) (suc i) (suc j) d h less lt = rising_at (key x + 1) b xs i j d h.1 (omega arith) (omega arith)

  same_key : (xs : List X) (i j : ℕ) (d : X) → get_or xs i d ≡ get_or xs j d → key (get_or xs i d) ≡ key (get_or xs j d)
  same_key xs i j d e = ap key e

  pub distinct_by : (a b : ℕ) (xs : List X) → Rising key a xs b → (i j : ℕ) (d : X) → i < length xs → j < length xs → key (get_or xs i d) ≡ key (get_or xs j d) → (i < j) ⊎ (j ≤ i) → (j < i) ⊎ (i ≤ j) → i ≡ j
  distinct_by a b xs h i j d low high e (inl less) q = absurd (let k = rising_at a b xs i j d h less high in omega (arith, k, e))
  distinct_by a b xs h i j d low high e (inr le) (inl less) = absurd (let k = rising_at a b xs j i d h less low in omega (arith, k, e))
  distinct_by a b xs h i j d low high e (inr le) (inr ge) = omega arith

  pub distinct_of : (a b : ℕ) (xs : List X) → Rising key a xs b → AreDistinct xs
  distinct_of a b xs h i j d low high e = distinct_by a b xs h i j d low high (same_key xs i j d e) (cases_lt i j) (cases_lt j i)

pub each_range : (P : ℕ → Type 0) (a m : ℕ) → ((k : ℕ) → a ≤ k → k < a + m → P k) → Each P (range_with_len a m)
each_range P a zero f = tt
each_range P a (suc m) f = (f a (omega arith) (omega arith), each_range P (a + 1) m (λ k from to. f k (omega arith) (omega arith)))

-- the numbers of names
abbrev pub number_in : List ℕ → ℕ
number_in w = digits_value 10 (drop 1 w)

abbrev pub number_behind : List ℕ → ℕ
number_behind w = digits_value 10 (drop 2 w)

abbrev pub name_key : List ℕ → ℕ
name_key w =
    cond (eqb (get_or w 0 0) 113) (19 + number_in w)
    (cond (eqb (get_or w 1 0) 105) (3 + number_behind w)
    (cond (eqb (get_or w 1 0) 111) (11 + number_behind w) (cond (eqb (get_or w 0 0) 99) 0 (cond (eqb (get_or w 0 0) 115) 1 2))))

pub names_rise : (n : ℕ) → n ≤ 16384 → Rising name_key 0 (net_names n) (19 + n)
names_rise n most = (
  omega arith,
  (
    omega arith,
    (
      omega arith,
      rising_both name_key 3 11 (19 + n) (map in_port (range_with_len 0 8)) (map out_port (range_with_len 0 8) ++ map unit_net (units n))
          (rising_range name_key in_port 3 3 11 0 8 (λ k from to. let v = value_of k (omega arith) in omega (arith, v)) (omega arith) (omega arith))
          (rising_both name_key 11 19 (19 + n) (map out_port (range_with_len 0 8)) (map unit_net (units n))
          (rising_range name_key out_port 11 11 19 0 8 (λ k from to. let v = value_of k (omega arith) in omega (arith, v)) (omega arith) (omega arith))
          (rising_range name_key unit_net 19 19 (19 + n) 0 n (λ k from to. let v = value_of k (omega arith) in omega (arith, v)) (omega arith) (omega arith))),
    ),
  ),
)

plain_names : (names : List (List ℕ)) → map (λ (net : NetName). net.plain) (map named_net names) ≡ names
plain_names [] = refl
plain_names (name ∷ names) = ap (λ (l : List (List ℕ)). name ∷ l) (plain_names names)

-- the pins of a unit in their order
abbrev pin_key : List ℕ → ℕ
pin_key pin = cond (bytes_eq pin (codes "D")) 0 (cond (bytes_eq pin (codes "CK")) 1 (cond (bytes_eq pin (codes "SE")) 2 (cond (bytes_eq pin (codes "SI")) 3 4)))

one_bit : (count number : ℕ) → number < count → All (IsBitWithin count) (Net (net_id number) ∷ [])
one_bit count number lt = All-cons (IsBitWithin count) (Net (net_id number)) [] lt (All-nil (IsBitWithin count))

input_low : (n i : ℕ) → i < n → input_number i < 19 + n
input_low n i lt = of (nat_lt i 8)
  where
    of : (b : Bool) → (if b then 3 + i else 19 + (i - 8)) < 19 + n
    of true = omega arith
    of false = omega arith

module _ (n : ℕ) (at : NetlistPlaces) (some : 8 ≤ n) (most : n ≤ 16384) where
  count : length (map named_net (net_names n)) ≡ 19 + n
  count = let e = length-map (map unit_net (units n)) named_net ∙ length-map-range_with_len unit_net 0 n in omega (arith, e)

  assign_is : (k : ℕ) → k < 8 → IsAssign (19 + n) (made_assign at n k)
  assign_is k lt = record { left = one_bit (19 + n) (out_number k) (omega arith); right = one_bit (19 + n) (unit_number (last_unit n k)) (omega arith); widths = refl }

  abbrev IsWithin : Connection → Type 0
  IsWithin c = All (IsBitWithin (19 + n)) c.expr.bits

  instance_is : (i : ℕ) → i < n → IsInstance (19 + n) (made_instance at i)
  instance_is i lt = record {
    nets =
        All-from_recursion IsWithin (made_instance at i).connections
        (one_bit (19 + n) 2 (omega arith), (one_bit (19 + n) 0 (omega arith), (one_bit (19 + n) 1 (omega arith), (one_bit (19 + n) (input_number i) (input_low n i lt), (one_bit (19 + n) (unit_number i) (omega arith), tt)))));
    pins = distinct_of pin_key 0 5 (codes "D" ∷ codes "CK" ∷ codes "SE" ∷ codes "SI" ∷ codes "Q" ∷ []) (omega arith, (omega arith, (omega arith, (omega arith, (omega arith, omega arith)))));
  }

  instance_names : (is : List ℕ) → map (λ (i : Instance). i.name) (map (made_instance at) is) ≡ map unit is
  instance_names [] = refl
  instance_names (i ∷ is) = ap (λ (l : List (List ℕ)). unit i ∷ l) (instance_names is)

  units_rise : Rising number_in 0 (map unit (units n)) n
  units_rise = rising_range number_in unit 0 0 n 0 n (λ k from to. let v = value_of k (omega arith) in omega (arith, v)) (omega arith) (omega arith)

  ports_low : Each (λ (p : Port). p.net.0 < 19 + n) (map (input_port at) (range_with_len 0 11) ++ map (output_port at) (range_with_len 11 8))
  ports_low =
      each_append (λ (p : Port). p.net.0 < 19 + n) (map (input_port at) (range_with_len 0 11)) (map (output_port at) (range_with_len 11 8))
      (each_of (λ k. k < 11) (λ (p : Port). p.net.0 < 19 + n) (input_port at) (λ k lt. omega arith) (range_with_len 0 11) (each_range (λ k. k < 11) 0 11 (λ k from to. omega arith)))
      (each_of (λ k. k < 19) (λ (p : Port). p.net.0 < 19 + n) (output_port at) (λ k lt. omega arith) (range_with_len 11 8) (each_range (λ k. k < 19) 11 8 (λ k from to. omega arith)))

  made_is : IsNetlist (made_netlist at n)
  made_is =
      let long = length-map-range_with_len (made_instance at) 0 n in
      record {
        few_nets = omega (arith, count);
        declared = omega (arith, count);
        few_instances = omega (arith, long);
        names = subst AreDistinct (sym (plain_names (net_names n))) (distinct_of name_key 0 (19 + n) (net_names n) (names_rise n most));
        port_nets = subst (λ (c : ℕ). All (λ (p : Port). p.net.0 < c) (made_netlist at n).ports) (sym count) (All-from_recursion (λ (p : Port). p.net.0 < 19 + n) (made_netlist at n).ports ports_low);
        ports = distinct_of (λ (x : ℕ). x) 0 19 (map (λ (x : ℕ). x) (range_with_len 0 19)) (rising_range (λ (x : ℕ). x) (λ x. x) 0 0 19 0 19 (λ k from to. omega arith) (omega arith) (omega arith));
        assigns = subst (λ (c : ℕ). All (IsAssign c) (made_netlist at n).assigns) (sym count)
            (All-from_recursion (IsAssign (19 + n)) (made_netlist at n).assigns (each_of (λ k. k < 8) (IsAssign (19 + n)) (made_assign at n) assign_is (range_with_len 0 8) (each_range (λ k. k < 8) 0 8 (λ k from to. omega arith))));
        instance_names = subst AreDistinct (sym (instance_names (units n))) (distinct_of number_in 0 n (map unit (units n)) units_rise);
        instances = subst (λ (c : ℕ). All (IsInstance c) (made_netlist at n).instances) (sym count)
            (All-from_recursion (IsInstance (19 + n)) (made_netlist at n).instances (each_of (λ i. i < n) (IsInstance (19 + n)) (made_instance at) instance_is (units n) (each_range (λ i. i < n) 0 n (λ k from to. omega arith))));
      }

pub netlist_is : NetlistLaw
netlist_is n at some most = made_is n at some most
