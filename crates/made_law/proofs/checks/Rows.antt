-- The nets of a made design beside its netlist: each connects one net and what shows it.
use Rattle.std.proofs.Common.{◌≡◌, ℕ, zero, suc, ◌+◌, ◌-◌, ◌%◌, ◌<◌, ◌≤◌, Bool, true, false, cond, List, [], ◌∷◌, ◌++◌, map, Some, Contains, refl, sym, ap, ◌∙◌, subst, codes, arith, ◌⊎◌, inl, inr}
use Rattle.std.specs.List.{find, range_with_len, AllByRecursion as Each}
use Rattle.std.specs.Str.{bytes_eq}
use Rattle.std.specs.Fmt.{digits}
use Rattle.std.proofs.lemmas.Bool.{cases_lt}
use Rattle.def_syntax.proofs.FrameLaws.{each_append}
use Rattle.netlist_core.specs.declared.netlist.Instance.{Instance}
use Rattle.netlist_core.specs.Joining.{AreSides, IsChain, AreJoined}
use Rattle.def_reader.specs.declared.design.NetPin.{NetPin}
use Rattle.def_reader.specs.declared.design.NetPin.TheVariants.{Cell, Port}
use Rattle.def_reader.specs.declared.design.Net.{Net}
use Rattle.def_reader.specs.Agreement.{instance_named, net_of_pin}
use Rattle.design_maker.specs.Chains.{last_unit}
use Rattle.made_law.specs.Designs.Names.{unit, unit_net, in_port, out_port}
use Rattle.made_law.specs.Designs.Places.{Place, placed}
use Rattle.made_law.specs.Designs.MadeNets.{NetRow, wide_net, in_net, inner_net, out_net, net_rows, made_net, made_nets}
use Rattle.made_law.specs.Designs.MadePins as pins
use Rattle.made_law.proofs.designs.Numbers.{value_of}
use Rattle.made_law.proofs.designs.Rising.{Rising, rising_both, rising_range}
use Rattle.made_law.proofs.designs.Statements.{each_of}
use Rattle.made_law.specs.Paths.MadeNetlist.{NetlistPlaces, net_id, in_number, out_number, unit_number, input_number, made_instance, made_netlist}
use Rattle.made_law.proofs.paths.Joins.{eight, number_there, pair_there, shown_by, shown_port, shown_low, shown_unit, last_joined, itself_joined}
use Rattle.made_law.proofs.paths.Sources.{below_eight}
use Rattle.made_law.proofs.paths.Leading.{first_input, later_input}
use Rattle.made_law.proofs.paths.Netlists.{name_key, each_range}
use Rattle.made_law.proofs.checks.Members.{none_in, here, in_front, in_back, to_map}
use Rattle.made_law.proofs.checks.Units.{unit_same, unit_differs}

-- the first of the made members that passes a test
found_by : {X : Type 0} (test : X → Bool) (f : ℕ → X) (a i : ℕ) (xs : List X) → (a < i) ⊎ (i ≤ a) → a ≤ i → test (f i) ≡ true → (a < i → test (f a) ≡ false) → (a < i → find test xs ≡ Some (f i)) → find test (f a ∷ xs) ≡ Some (f i)
found_by {X} test f a i xs (inl lt) from passes differs more = ap (λ (b : Bool). cond b (Some (f a)) (find test xs)) (differs lt) ∙ more lt
found_by {X} test f a i xs (inr le) from passes differs more =
    let e : a ≡ i = omega arith in
    ap (λ (b : Bool). cond b (Some (f a)) (find test xs)) (ap (λ (k : ℕ). test (f k)) e ∙ passes) ∙ ap (λ (k : ℕ). Some (f k)) e

find_made : {X : Type 0} (test : X → Bool) (f : ℕ → X) (a m i : ℕ) → a ≤ i → i < a + m → test (f i) ≡ true → ((j : ℕ) → j < i → test (f j) ≡ false) → find test (map f (range_with_len a m)) ≡ Some (f i)
find_made test f a zero i from to passes differs = absurd (omega arith)
find_made test f a (suc m) i from to passes differs =
    found_by test f a i (map f (range_with_len (a + 1) m)) (cases_lt a i) from passes (λ lt. differs a lt) (λ lt. find_made test f (a + 1) m i (omega arith) (omega arith) passes differs)

-- keys of members in order
module _ {X : Type 0} (key : X → ℕ) where
  lower_in : (a b : ℕ) (xs : List X) (x : X) → Rising key a xs b → Contains xs x → a ≤ key x
  lower_in a b [] x h there = absurd (none_in x there)
  lower_in a b (y ∷ xs) x h (zero, lt, is) = subst (λ (z : X). a ≤ key z) is h.0
  lower_in a b (y ∷ xs) x h (suc k, lt, is) = let first = h.0 in let more = lower_in (key y + 1) b xs x h.1 (k, omega arith, is) in omega (arith, first, more)

  -- two members of one key are the same
  pub same_member : (a b : ℕ) (xs : List X) (x y : X) → Rising key a xs b → Contains xs x → Contains xs y → key x ≡ key y → x ≡ y
  same_member a b [] x y h there other e = absurd (none_in x there)
  same_member a b (z ∷ xs) x y h (zero, lt, is) (zero, low, same) e = sym is ∙ same
  same_member a b (z ∷ xs) x y h (zero, lt, is) (suc j, low, same) e =
      let more = lower_in (key z + 1) b xs y h.1 (j, omega arith, same) in
      let k = ap key is in
      absurd (omega (arith, more, k, e))
  same_member a b (z ∷ xs) x y h (suc i, lt, is) (zero, low, same) e =
      let more = lower_in (key z + 1) b xs x h.1 (i, omega arith, is) in
      let k = ap key same in
      absurd (omega (arith, more, k, e))
  same_member a b (z ∷ xs) x y h (suc i, lt, is) (suc j, low, same) e = same_member (key z + 1) b xs x y h.1 (i, omega arith, is) (j, omega arith, same) e

  -- a member before another has a lesser key
  pub earlier_less : (a b : ℕ) (xs ys : List X) (x y : X) → Rising key a (xs ++ y ∷ ys) b → Contains xs x → key x < key y
  earlier_less a b [] ys x y h there = absurd (none_in x there)
  earlier_less a b (z ∷ xs) ys x y h (zero, lt, is) =
      let more = lower_in (key z + 1) b (xs ++ y ∷ ys) y h.1 (in_back xs (y ∷ ys) y (here y ys)) in
      let k = ap key is in
      omega (arith, more, k)
  earlier_less a b (z ∷ xs) ys x y h (suc i, lt, is) = earlier_less (key z + 1) b xs ys x y h.1 (i, omega arith, is)

-- the net of a row
abbrev pub row_key : NetRow → ℕ
row_key r = name_key r.name

in_key : (k : ℕ) → k < 8 → name_key (in_port k) ≡ 3 + k
in_key k lt = let v = value_of k (omega arith) in omega (arith, v)

out_key : (k : ℕ) → k < 8 → name_key (out_port k) ≡ 11 + k
out_key k lt = let v = value_of k (omega arith) in omega (arith, v)

unit_key : (i : ℕ) → i < 16384 → name_key (unit_net i) ≡ 19 + i
unit_key i lt = let v = value_of i (omega arith) in omega (arith, v)

pub rows_rise : (n : ℕ) → 8 ≤ n → n ≤ 16384 → Rising row_key 0 (net_rows n) (19 + n)
rows_rise n some most = (
  omega arith,
  (
    omega arith,
    (
      omega arith,
      rising_both row_key 3 19 (19 + n) (map in_net (range_with_len 0 8)) (map inner_net (range_with_len 0 (n - 8)) ++ map (λ j. out_net (n - 8 + j)) (range_with_len 0 8))
          (rising_range row_key in_net 3 3 19 0 8 (λ k from to. in_key k (omega arith)) (omega arith) (omega arith))
          (rising_both row_key 19 (19 + (n - 8)) (19 + n) (map inner_net (range_with_len 0 (n - 8))) (map (λ j. out_net (n - 8 + j)) (range_with_len 0 8))
          (rising_range row_key inner_net 19 19 (19 + (n - 8)) 0 (n - 8) (λ k from to. unit_key k (omega arith)) (omega arith) (omega arith))
          (rising_range row_key (λ j. out_net (n - 8 + j)) (19 + (n - 8)) (19 + (n - 8)) (19 + n) 0 8 (λ k from to. let h = unit_key (n - 8 + k) (omega arith) in omega (arith, h)) (omega arith) (omega arith))),
    ),
  ),
)

abbrev pub pin_key : pins.PinRow → ℕ
pin_key r = name_key r.name

pub pins_rise : (n : ℕ) → Rising pin_key 0 (pins.pin_rows n) 19
pins_rise n = (
  omega arith,
  (
    omega arith,
    (
      omega arith,
      rising_both pin_key 3 11 19 (map pins.in_pin (range_with_len 0 8)) (map (pins.out_pin n) (range_with_len 0 8))
          (rising_range pin_key pins.in_pin 3 3 11 0 8 (λ k from to. in_key k (omega arith)) (omega arith) (omega arith))
          (rising_range pin_key (pins.out_pin n) 11 11 19 0 8 (λ k from to. out_key k (omega arith)) (omega arith) (omega arith)),
    ),
  ),
)

abbrev pub net_key : Net → ℕ
net_key m = name_key m.name

placed_rise : (at : ℕ → Place) (rs : List NetRow) (a b : ℕ) → Rising row_key a rs b → Rising net_key a (placed made_net at rs) b
placed_rise at [] a b h = h
placed_rise at (r ∷ rs) a b h = (h.0, placed_rise (λ j. at (suc j)) rs (name_key r.name + 1) b h.1)

pub nets_rise : (n : ℕ) (at : ℕ → Place) → 8 ≤ n → n ≤ 16384 → Rising net_key 0 (made_nets at n) (19 + n)
nets_rise n at some most = placed_rise at (net_rows n) 0 (19 + n) (rows_rise n some most)

module _ (n : ℕ) (v : NetlistPlaces) where
  -- a net and what shows it
  linked_both : (a : ℕ) (xs : List ℕ) (b : ℕ) (ys : List ℕ) (c : ℕ) → IsChain (AreSides (made_netlist v n)) a xs b → IsChain (AreSides (made_netlist v n)) b ys c → IsChain (AreSides (made_netlist v n)) a (xs ++ ys) c
  linked_both a [] b ys c f g = subst (λ (x : ℕ). IsChain (AreSides (made_netlist v n)) x ys c) (sym f) g
  linked_both a (x ∷ xs) b ys c f g = (f.0, linked_both x xs b ys c f.1 g)

  joined_both : (a b c : ℕ) → AreJoined (made_netlist v n) a b → AreJoined (made_netlist v n) b c → AreJoined (made_netlist v n) a c
  joined_both a b c f g = record { over = f.over ++ g.over; chain = linked_both a f.over b g.over c f.chain g.chain }

  port_joined : (k : ℕ) → k < 8 → AreJoined (made_netlist v n) (out_number k) (unit_number (last_unit n k))
  port_joined k lt =
      record { over = unit_number (last_unit n k) ∷ []; chain = (inl (pair_there n v (range_with_len 0 8) k (number_there 0 8 k (omega arith) (omega arith))), refl) }

  pub record IsShownBy (x : ℕ) : Type 0 where
    pub to : AreJoined (made_netlist v n) x (shown_by n x)
    pub from : AreJoined (made_netlist v n) (shown_by n x) x

  shown_itself : (x : ℕ) → shown_by n x ≡ x → IsShownBy x
  shown_itself x e = record {
    to = subst (λ (y : ℕ). AreJoined (made_netlist v n) x y) (sym e) (itself_joined n v x);
    from = subst (λ (y : ℕ). AreJoined (made_netlist v n) y x) (sym e) (itself_joined n v x);
  }

  shown_output : (k : ℕ) → k < 8 → IsShownBy (out_number k)
  shown_output k lt = record {
    to = subst (λ (y : ℕ). AreJoined (made_netlist v n) (out_number k) y) (sym (shown_port n k lt)) (port_joined k lt);
    from = subst (λ (y : ℕ). AreJoined (made_netlist v n) y (out_number k)) (sym (shown_port n k lt)) (last_joined n v k lt);
  }

  shown_cases : (x : ℕ) → (x < 11) ⊎ (11 ≤ x) → (x < 19) ⊎ (19 ≤ x) → IsShownBy x
  shown_cases x (inl low) high = shown_itself x (shown_low n x low)
  shown_cases x (inr from) (inl to) =
      let e : out_number (x - 11) ≡ x = omega arith in
      subst IsShownBy e (shown_output (x - 11) (omega arith))
  shown_cases x (inr from) (inr le) =
      let e : unit_number (x - 19) ≡ x = omega arith in
      shown_itself x (subst (λ (y : ℕ). shown_by n y ≡ y) e (shown_unit n (x - 19)))

  shown_is : (x : ℕ) → IsShownBy x
  shown_is x = shown_cases x (cases_lt x 11) (cases_lt x 19)

  -- nets that show the same are joined
  pub joined_by : (a b : ℕ) → shown_by n a ≡ shown_by n b → AreJoined (made_netlist v n) a b
  joined_by a b e = joined_both a (shown_by n a) b (shown_is a).to (subst (λ (y : ℕ). AreJoined (made_netlist v n) y b) (sym e) (shown_is b).from)

  -- the net of a pin, and what it shows
  pub record IsPinOf (key : ℕ) (pin : NetPin) : Type 0 where
    pub net : ℕ
    pub is : net_of_pin (made_netlist v n) pin ≡ Some (net_id net)
    pub shown : shown_by n net ≡ key

  pub instance_found : (i : ℕ) → n ≤ 16384 → i < n → instance_named (made_netlist v n) (unit i) ≡ Some (made_instance v i)
  instance_found i most lt = find_made (λ (x : Instance). bytes_eq x.name (unit i)) (made_instance v) 0 n i (omega arith) (omega arith) (unit_same i) (λ j less. unit_differs i j (omega arith) less)

  clk_at : (i : ℕ) → n ≤ 16384 → i < n → IsPinOf 0 (Cell (unit i) (codes "CK"))
  clk_at i most lt = record { net = 0; is = rw (instance_found i most lt) refl; shown = shown_low n 0 (omega arith) }

  se_at : (i : ℕ) → n ≤ 16384 → i < n → IsPinOf 1 (Cell (unit i) (codes "SE"))
  se_at i most lt = record { net = 1; is = rw (instance_found i most lt) refl; shown = shown_low n 1 (omega arith) }

  d_at : (i : ℕ) → n ≤ 16384 → i < n → IsPinOf 2 (Cell (unit i) (codes "D"))
  d_at i most lt = record { net = 2; is = rw (instance_found i most lt) refl; shown = shown_low n 2 (omega arith) }

  output_at : (i : ℕ) → n ≤ 16384 → i < n → IsPinOf (19 + i) (Cell (unit i) (codes "Q"))
  output_at i most lt = record { net = unit_number i; is = rw (instance_found i most lt) refl; shown = shown_unit n i }

  input_at : (i key : ℕ) → n ≤ 16384 → i < n → shown_by n (input_number i) ≡ key → IsPinOf key (Cell (unit i) (codes "SI"))
  input_at i key most lt e = record { net = input_number i; is = rw (instance_found i most lt) refl; shown = e }

  wide_ports : (net_of_pin (made_netlist v n) (Port (codes "clk")) ≡ Some (net_id 0)) × (net_of_pin (made_netlist v n) (Port (codes "se")) ≡ Some (net_id 1)) × (net_of_pin (made_netlist v n) (Port (codes "d")) ≡ Some (net_id 2))
  wide_ports = (refl, refl, refl)

  pub in_port_is : (k : ℕ) → k < 8 → net_of_pin (made_netlist v n) (Port (in_port k)) ≡ Some (net_id (in_number k))
  unfolding digits
  in_port_is = below_eight (λ k. net_of_pin (made_netlist v n) (Port (in_port k)) ≡ Some (net_id (in_number k))) refl refl refl refl refl refl refl refl

  pub out_port_is : (k : ℕ) → k < 8 → net_of_pin (made_netlist v n) (Port (out_port k)) ≡ Some (net_id (out_number k))
  unfolding digits
  out_port_is = below_eight (λ k. net_of_pin (made_netlist v n) (Port (out_port k)) ≡ Some (net_id (out_number k))) refl refl refl refl refl refl refl refl

  -- each pin of a row is a pin of its net
  abbrev pub IsRowOf : NetRow → Type 0
  IsRowOf r = Each (IsPinOf (name_key r.name)) r.pins

  module _ (some : 8 ≤ n) (most : n ≤ 16384) where
    wide_row : (port pin : List ℕ) (number : ℕ) → number < 11 → name_key port ≡ number → net_of_pin (made_netlist v n) (Port port) ≡ Some (net_id number) → ((i : ℕ) → i < n → IsPinOf number (Cell (unit i) pin)) → IsRowOf (wide_net port pin n)
    wide_row port pin number low e is each =
        subst (λ (key : ℕ). Each (IsPinOf key) (wide_net port pin n).pins) (sym e)
        (record { net = number; is = is; shown = shown_low n number low }, each_of (λ i. i < n) (IsPinOf number) (λ i. Cell (unit i) pin) each (range_with_len 0 n) (each_range (λ i. i < n) 0 n (λ k from to. omega arith)))

    in_row : (k : ℕ) → k < 8 → IsRowOf (in_net k)
    in_row k lt =
        subst (λ (key : ℕ). Each (IsPinOf key) (in_net k).pins) (sym (in_key k lt)) (
          record { net = in_number k; is = in_port_is k lt; shown = shown_low n (in_number k) (omega arith) },
          (input_at k (3 + k) most (omega arith) (ap (shown_by n) (first_input k lt) ∙ shown_low n (in_number k) (omega arith)), tt),
        )

    inner_row : (i : ℕ) → i < n - 8 → IsRowOf (inner_net i)
    inner_row i lt =
        subst (λ (key : ℕ). Each (IsPinOf key) (inner_net i).pins) (sym (unit_key i (omega arith)))
        (output_at i most (omega arith), (input_at (i + 8) (19 + i) most (omega arith) (ap (shown_by n) (later_input i) ∙ shown_unit n i), tt))

    last_is : (i : ℕ) → n ≤ i + 8 → i < n → last_unit n (i % 8) ≡ i
    last_is i from to = omega arith

    out_row : (i : ℕ) → n ≤ i + 8 → i < n → IsRowOf (out_net i)
    out_row i from to =
        subst (λ (key : ℕ). Each (IsPinOf key) (out_net i).pins) (sym (unit_key i (omega arith))) (
          output_at i most to,
          (record { net = out_number (i % 8); is = out_port_is (i % 8) (omega arith); shown = shown_port n (i % 8) (omega arith) ∙ ap unit_number (last_is i from to) }, tt),
        )

    pub rows_are : Each IsRowOf (net_rows n)
    rows_are = (
      wide_row (codes "clk") (codes "CK") 0 (omega arith) refl wide_ports.0 (λ i lt. clk_at i most lt),
      (
        wide_row (codes "se") (codes "SE") 1 (omega arith) refl wide_ports.1 (λ i lt. se_at i most lt),
        (
          wide_row (codes "d") (codes "D") 2 (omega arith) refl wide_ports.2 (λ i lt. d_at i most lt),
          each_append IsRowOf (map in_net (range_with_len 0 8)) (map inner_net (range_with_len 0 (n - 8)) ++ map (λ j. out_net (n - 8 + j)) (range_with_len 0 8))
              (each_of (λ k. k < 8) IsRowOf in_net in_row (range_with_len 0 8) (eight (λ k. k < 8) (λ k lt. lt)))
              (each_append IsRowOf (map inner_net (range_with_len 0 (n - 8))) (map (λ j. out_net (n - 8 + j)) (range_with_len 0 8))
              (each_of (λ i. i < n - 8) IsRowOf inner_net inner_row (range_with_len 0 (n - 8)) (each_range (λ i. i < n - 8) 0 (n - 8) (λ k from to. omega arith)))
              (each_of (λ j. j < 8) IsRowOf (λ j. out_net (n - 8 + j)) (λ j lt. out_row (n - 8 + j) (omega arith) (omega arith)) (range_with_len 0 8) (eight (λ k. k < 8) (λ k lt. lt)))),
        ),
      ),
    )

-- rows by their numbers
abbrev wide_rows : ℕ → List NetRow
wide_rows n = wide_net (codes "clk") (codes "CK") n ∷ wide_net (codes "se") (codes "SE") n ∷ wide_net (codes "d") (codes "D") n ∷ []

abbrev in_rows : List NetRow
in_rows = map in_net (range_with_len 0 8)

abbrev inner_rows : ℕ → List NetRow
inner_rows n = map inner_net (range_with_len 0 (n - 8))

abbrev out_rows : ℕ → List NetRow
out_rows n = map (λ j. out_net (n - 8 + j)) (range_with_len 0 8)

pub in_there : (n k : ℕ) → k < 8 → Contains (net_rows n) (in_net k)
in_there n k lt =
    in_back (wide_rows n) (in_rows ++ (inner_rows n ++ out_rows n)) (in_net k)
    (in_front in_rows (inner_rows n ++ out_rows n) (in_net k) (to_map in_net (range_with_len 0 8) k (number_there 0 8 k (omega arith) (omega arith))))

later_there : (n : ℕ) (r : NetRow) → Contains (inner_rows n ++ out_rows n) r → Contains (net_rows n) r
later_there n r h = in_back (wide_rows n) (in_rows ++ (inner_rows n ++ out_rows n)) r (in_back in_rows (inner_rows n ++ out_rows n) r h)

pub inner_there : (n i : ℕ) → i < n - 8 → Contains (net_rows n) (inner_net i)
inner_there n i lt = later_there n (inner_net i) (in_front (inner_rows n) (out_rows n) (inner_net i) (to_map inner_net (range_with_len 0 (n - 8)) i (number_there 0 (n - 8) i (omega arith) (omega arith))))

pub out_there : (n i : ℕ) → 8 ≤ n → n ≤ i + 8 → i < n → Contains (net_rows n) (out_net i)
out_there n i some from to =
    let e : n - 8 + (i - (n - 8)) ≡ i = omega arith in
    later_there n (out_net i) (in_back (inner_rows n) (out_rows n) (out_net i)
    (subst (λ (k : ℕ). Contains (out_rows n) (out_net k)) e (to_map (λ j. out_net (n - 8 + j)) (range_with_len 0 8) (i - (n - 8)) (number_there 0 8 (i - (n - 8)) (omega arith) (omega arith)))))
