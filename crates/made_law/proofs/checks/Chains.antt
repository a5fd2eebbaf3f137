-- The chains of a made design aren't refused beside the paths of its netlist.
use Rattle.std.proofs.Common.{◌≡◌, ℕ, zero, suc, ◌+◌, ◌-◌, ◌<◌, ◌≤◌, Bool, true, false, not, cond, List, [], ◌∷◌, length, map, get_or, take, drop, Option, Some, None, Contains, refl, sym, ap, ◌∙◌, subst, arith, ◌⊎◌, inl, inr}
use Rattle.std.proofs.lemmas.Option.{same_Some}
use Rattle.std.specs.Prelude.{sum_by, slice_range, filter, nat_lt, unwrap_or, option_map, All, nat_eq}
use Rattle.std.specs.List.{flat_map, prefix_len, range_with_len, AllByRecursion as Each}
use Rattle.std.specs.Str.{bytes_eq}
use Rattle.std.proofs.lemmas.Bool.Decides.{nat_tests}
use Rattle.std.proofs.lemmas.List.{append-nil, length-map, length-drop}
use Rattle.std.proofs.lemmas.List.FromFn.{length-map-range_with_len, get_or-map-range_with_len}
use Rattle.std.proofs.lemmas.List.Elements.{All-from_recursion}
use Rattle.std.proofs.lemmas.Bool.{cases_lt}
use Rattle.base_types.specs.declared.kind.Kind.{Kind}
use Rattle.base_types.specs.declared.kind.Kind.TheVariants.{NotAStretch, UnlistedBits, OrderBroken, OverMaxBits, TooManyUnits}
use Rattle.netlist_core.specs.declared.netlist.NetId.{NetId}
use Rattle.netlist_core.specs.declared.netlist.Port.{Port as PortRow}
use Rattle.netlist_core.specs.declared.netlist.Instance.{Instance}
use Rattle.cell_table.specs.Table.{small_cells}
use Rattle.chain_rules.specs.declared.spec.StepSpec.{StepSpec}
use Rattle.chain_rules.specs.declared.spec.PathSpec.{PathSpec}
use Rattle.chain_rules.specs.declared.spec.EndSpec.{EndSpec}
use Rattle.chain_rules.specs.declared.spec.EndSpec.TheVariants.{Port}
use Rattle.chain_rules.specs.declared.spec.ElementSpec.{ElementSpec}
use Rattle.chain_rules.specs.declared.spec.ListSpec.{ListSpec}
use Rattle.chain_rules.specs.declared.spec.ListSpec.TheVariants.{Floating, Ordered}
use Rattle.chain_rules.specs.declared.spec.ChainSpec.{ChainSpec}
use Rattle.chain_rules.specs.Stretches.{no_step, path_at, step_at, spec_at, bits_between, groups_of, elements_of, IsListed, Stretch, BeginsAt, EndsAt, StandsIn, IsStretch, IsEndStep, HasEndIn, Disturbs, IsNamedBy, elements_in, groups_in}
use Rattle.chain_rules.specs.ChainFaults.{IsNotAStretch, IsUnlistedBits, IsOrderBroken, IsOverMaxBits, IsTooManyUnits, IsFaulty}
use Rattle.def_reader.specs.Agreement.{port_named}
use Rattle.path_numbers.specs.Numbers.{step_spec, path_spec, path_specs}
use Rattle.design_elements.specs.Elements.{instance_number, element_spec, chain_spec, chain_specs}
use Rattle.design_maker.specs.Chains.{chain_length, unit_of, max_bits}
use Rattle.made_law.specs.Designs.Names.{unit, in_port, out_port}
use Rattle.made_law.specs.Designs.Places.{Places}
use Rattle.made_law.specs.Designs.MadeComponents.{units, made_components}
use Rattle.made_law.specs.Designs.MadeChains.{element_numbers, made_element, made_chain}
use Rattle.made_law.specs.Designs.MadeDesign.{made_design}
use Rattle.made_law.specs.Paths.MadeNetlist.{NetlistPlaces, net_id, in_number, out_number, made_instance, made_netlist}
use Rattle.made_law.specs.Paths.MadePaths.{made_step, made_path}
use Rattle.made_law.proofs.paths.Joins.{eight}
use Rattle.made_law.proofs.paths.Sources.{below_eight}
use Rattle.made_law.specs.Checks.MadeAsked.{made_paths}
use Rattle.made_law.specs.Checks.Laws.{ChainsLaw}
use Rattle.made_law.proofs.checks.Members.{sum_few}
use Rattle.made_law.proofs.checks.Units.{unit_same, unit_differs, component_found, unit_within}
use Rattle.made_law.proofs.checks.Rows.{in_port_is, out_port_is}
use Rattle.made_law.proofs.checks.Traces.{one_bit}

-- the place of the first made member that passes a test
prefix_by : {X : Type 0} (test : X → Bool) (f : ℕ → X) (a i : ℕ) (xs : List X) → (a < i) ⊎ (i ≤ a) → a ≤ i → test (f i) ≡ true → (a < i → test (f a) ≡ false) → (a < i → prefix_len (λ x. not (test x)) xs ≡ i - (a + 1)) → prefix_len (λ x. not (test x)) (f a ∷ xs) ≡ i - a
prefix_by test f a i xs (inl lt) from passes differs more =
    let rest = more lt in
    let count : 1 + prefix_len (λ x. not (test x)) xs ≡ i - a = omega (arith, rest) in
    ap (λ (b : Bool). cond (not b) (1 + prefix_len (λ x. not (test x)) xs) 0) (differs lt) ∙ count
prefix_by test f a i xs (inr le) from passes differs more =
    let e : a ≡ i = omega arith in
    let none : 0 ≡ i - a = omega arith in
    ap (λ (b : Bool). cond (not b) (1 + prefix_len (λ x. not (test x)) xs) 0) (ap (λ (k : ℕ). test (f k)) e ∙ passes) ∙ none

prefix_made : {X : Type 0} (test : X → Bool) (f : ℕ → X) (a m i : ℕ) → a ≤ i → i < a + m → test (f i) ≡ true → ((j : ℕ) → j < i → test (f j) ≡ false) → prefix_len (λ x. not (test x)) (map f (range_with_len a m)) ≡ i - a
prefix_made test f a zero i from to passes differs = absurd (omega arith)
prefix_made test f a (suc m) i from to passes differs =
    prefix_by test f a i (map f (range_with_len (a + 1) m)) (cases_lt a i) from passes (λ lt. differs a lt) (λ lt. prefix_made test f (a + 1) m i (omega arith) (omega arith) passes differs)

number_of : (n : ℕ) (v : NetlistPlaces) (i : ℕ) → n ≤ 16384 → i < n → instance_number (made_netlist v n) (unit i) ≡ i
number_of n v i most lt =
    let p : prefix_len (λ x. not (bytes_eq x.name (unit i))) (map (made_instance v) (units n)) ≡ i - 0 = prefix_made (λ (x : Instance). bytes_eq x.name (unit i)) (made_instance v) 0 n i (omega arith) (omega arith) (unit_same i) (λ j less. unit_differs i j (omega arith) less) in
    let long = length-map-range_with_len (made_instance v) 0 n in
    let is : i - 0 ≡ i = omega arith in
    let low : nat_lt i n ≡ true = grind (arith, nat_tests) in
    rw (p, long, is, low) refl

port_of : (o : Option PortRow) (id : NetId) (past : ℕ) → option_map (λ p. p.net) o ≡ Some id → unwrap_or (option_map (λ p. p.net.0) o) past ≡ id.0
port_of None id past e = absurd cc
port_of (Some p) id past e = let same : p.net ≡ id = same_Some p.net id e in ap (λ (x : NetId). x.0) same

-- parts of lists
each_take : {X : Type 0} (P : X → Type 0) (k : ℕ) (xs : List X) → Each P xs → Each P (take k xs)
each_take P zero xs h = tt
each_take P (suc k) [] h = tt
each_take P (suc k) (x ∷ xs) h = (h.0, each_take P k xs h.1)

each_drop : {X : Type 0} (P : X → Type 0) (k : ℕ) (xs : List X) → Each P xs → Each P (drop k xs)
each_drop P zero xs h = h
each_drop P (suc k) [] h = tt
each_drop P (suc k) (x ∷ xs) h = each_drop P k xs h.1

each_filter : {X : Type 0} (P : X → Type 0) (test : X → Bool) (xs : List X) → Each P xs → Each P (filter test xs)
each_filter P test [] h = tt
each_filter {X} P test (x ∷ xs) h = by (test x) (each_filter P test xs h.1)
  where
    by : (b : Bool) → Each P (filter test xs) → Each P (cond b (x ∷ filter test xs) (filter test xs))
    by true more = (h.0, more)
    by false more = more

filter_few : {X : Type 0} (test : X → Bool) (xs : List X) → length (filter test xs) ≤ length xs
filter_few test [] = omega arith
filter_few {X} test (x ∷ xs) = by (test x) (filter_few test xs)
  where
    by : (b : Bool) → length (filter test xs) ≤ length xs → length (cond b (x ∷ filter test xs) (filter test xs)) ≤ suc (length xs)
    by true more = omega (arith, more)
    by false more = omega (arith, more)

take_few : {X : Type 0} (k : ℕ) (xs : List X) → length (take k xs) ≤ length xs
take_few zero xs = omega arith
take_few (suc k) [] = omega arith
take_few (suc k) (x ∷ xs) = let more = take_few k xs in omega (arith, more)

-- element t of chain k as numbers
abbrev made_spec : ℕ → ℕ → ElementSpec
made_spec k t = record { instance = unit_of k t; path = 0; out = Some 0 }

module _ (n : ℕ) (v : NetlistPlaces) (d : Places) (some : 8 ≤ n) (most : n ≤ 16384) where
  abbrev paths : List PathSpec
  paths = path_specs (made_netlist v n) small_cells (Some (made_design d n)) (made_paths n)

  abbrev chains : List ChainSpec
  chains = chain_specs (made_netlist v n) small_cells (made_design d n)

  abbrev path_of : ℕ → PathSpec
  path_of k = path_spec (made_netlist v n) small_cells (Some (made_design d n)) (made_path n k)

  abbrev chain_of : ℕ → ChainSpec
  chain_of k = chain_spec (made_netlist v n) small_cells (made_design d n) k (made_chain n (d.chains k) k)

  path_is : (k : ℕ) → k < 8 → path_at paths k ≡ path_of k
  path_is = below_eight (λ k. path_at paths k ≡ path_of k) refl refl refl refl refl refl refl refl

  chain_is : (k : ℕ) → k < 8 → spec_at chains k ≡ chain_of k
  chain_is = below_eight (λ k. spec_at chains k ≡ chain_of k) refl refl refl refl refl refl refl refl

  start_is : (k : ℕ) → k < 8 → (chain_of k).start ≡ Port (in_number k)
  start_is k lt = ap Port (port_of (port_named (made_netlist v n) (in_port k)) (net_id (in_number k)) _ (in_port_is n v k lt))

  stop_is : (k : ℕ) → k < 8 → (chain_of k).stop ≡ Port (out_number k)
  stop_is k lt = ap Port (port_of (port_named (made_netlist v n) (out_port k)) (net_id (out_number k)) _ (out_port_is n v k lt))

  element_is : (k t : ℕ) → unit_of k t < n → element_spec (made_netlist v n) small_cells (made_components d.components n) (made_element k t) ≡ made_spec k t
  element_is k t lt = rw (number_of n v (unit_of k t) most lt, (component_found n d.components (unit_of k t) most lt).1) refl

  elements_from : (k a m : ℕ) → ((t : ℕ) → t < a + m → unit_of k t < n)
      → map (element_spec (made_netlist v n) small_cells (made_components d.components n)) (map (made_element k) (range_with_len a m)) ≡ map (made_spec k) (range_with_len a m)
  elements_from k a zero within = refl
  elements_from k a (suc m) within =
      ap (λ (e : ElementSpec). e ∷ map (element_spec (made_netlist v n) small_cells (made_components d.components n)) (map (made_element k) (range_with_len (a + 1) m))) (element_is k a (within a (omega arith)))
      ∙ ap (λ (l : List ElementSpec). made_spec k a ∷ l) (elements_from k (a + 1) m (λ t lt. within t (omega arith)))

  lists_are : (k : ℕ) → k < 8 → (chain_of k).lists ≡ Floating (map (made_spec k) (element_numbers n k)) ∷ []
  lists_are k lt =
      ap (λ (es : List ElementSpec). Floating es ∷ []) (elements_from k 0 (chain_length n k) (λ t less. unit_within n k t some lt (omega (arith, less))))

  elements_are : (k : ℕ) → k < 8 → elements_of (chain_of k) ≡ map (made_spec k) (element_numbers n k)
  elements_are k lt = ap (λ (ls : List ListSpec). flat_map elements_in ls) (lists_are k lt) ∙ append-nil (map (made_spec k) (element_numbers n k))

  steps_long : (k : ℕ) → length (path_of k).steps ≡ chain_length n k
  steps_long k =
      length-map (map (made_step k) (element_numbers n k)) (step_spec (made_netlist v n) small_cells) ∙ length-map-range_with_len (made_step k) 0 (chain_length n k)

  -- the step at a place
  step_from : (k a m i : ℕ) → i < m → get_or (map (step_spec (made_netlist v n) small_cells) (map (made_step k) (range_with_len a m))) i no_step ≡ step_spec (made_netlist v n) small_cells (made_step k (a + i))
  step_from k a zero i lt = absurd (omega arith)
  step_from k a (suc m) zero lt = let e : a ≡ a + 0 = omega arith in ap (λ (t : ℕ). step_spec (made_netlist v n) small_cells (made_step k t)) e
  step_from k a (suc m) (suc i) lt = let e : a + 1 + i ≡ a + suc i = omega arith in step_from k (a + 1) m i (omega arith) ∙ ap (λ (t : ℕ). step_spec (made_netlist v n) small_cells (made_step k t)) e

  step_is : (k i : ℕ) → i < chain_length n k → step_at (path_of k) i ≡ step_spec (made_netlist v n) small_cells (made_step k i)
  step_is k i lt = let e : 0 + i ≡ i = omega arith in step_from k 0 (chain_length n k) i lt ∙ ap (λ (t : ℕ). step_spec (made_netlist v n) small_cells (made_step k t)) e

  few_from : (k a m : ℕ) → ((t : ℕ) → t < a + m → unit_of k t < n) → Each (λ (s : StepSpec). s.bits ≤ 1) (map (step_spec (made_netlist v n) small_cells) (map (made_step k) (range_with_len a m)))
  few_from k a zero within = tt
  few_from k a (suc m) within = (one_bit n v some most k a (within a (omega arith)), few_from k (a + 1) m (λ t lt. within t (omega arith)))

  -- a stretch of chain k is on path k, whole
  pub record IsWhole (k : ℕ) (s : Stretch) : Type 0 where
    pub path : s.path ≡ k
    pub from : s.from ≡ 0
    pub to : s.to ≡ chain_length n k

  whole_of : (k : ℕ) (s : Stretch) → k < 8 → IsStretch paths (spec_at chains k) s → IsWhole k s
  whole_of k s lt h =
      let low : s.path < 8 = h.path in
      let start : (spec_at chains k).start ≡ Port (in_number k) = ap (λ (c : ChainSpec). c.start) (chain_is k lt) ∙ start_is k lt in
      let stop : (spec_at chains k).stop ≡ Port (out_number k) = ap (λ (c : ChainSpec). c.stop) (chain_is k lt) ∙ stop_is k lt in
      let begins = subst (λ (p : PathSpec). BeginsAt p (Port (in_number k)) s.from) (path_is s.path low) (subst (λ (e : EndSpec). BeginsAt (path_at paths s.path) e s.from) start h.begins) in
      let ends = subst (λ (p : PathSpec). EndsAt p (Port (out_number k)) s.to) (path_is s.path low) (subst (λ (e : EndSpec). EndsAt (path_at paths s.path) e s.to) stop h.ends) in
      let input = begins.0 in
      let same : s.path ≡ k = omega (arith, input) in
      record { path = same; from = begins.1; to = ends.1 ∙ steps_long s.path ∙ ap (chain_length n) same }

  -- each chain has its stretch
  stands : (k t : ℕ) → k < 8 → t < chain_length n k → StandsIn (path_of k) (record { path = k; from = 0; to = chain_length n k }) (made_spec k t)
  stands k t lt less =
      let is = step_is k t less in
      (t, record { low = omega arith; high = less }, record { instance = ap (λ (s : StepSpec). s.instance) is; path = ap (λ (s : StepSpec). s.path) is }, ap (λ (s : StepSpec). s.out) is)

  all_stand : (k a m : ℕ) → k < 8 → a + m ≤ chain_length n k → Each (StandsIn (path_of k) (record { path = k; from = 0; to = chain_length n k })) (map (made_spec k) (range_with_len a m))
  all_stand k a zero lt fits = tt
  all_stand k a (suc m) lt fits = (stands k a lt (omega arith), all_stand k (a + 1) m lt (omega arith))

  abbrev stretch_of : ℕ → Stretch
  stretch_of k = record { path = k; from = 0; to = chain_length n k }

  stretch_is : (k : ℕ) → k < 8 → IsStretch paths (chain_of k) (stretch_of k)
  stretch_is k lt = record {
    path = lt;
    begins = subst (λ (e : EndSpec). BeginsAt (path_at paths k) e 0) (sym (start_is k lt)) (ap (λ (p : PathSpec). p.input) (path_is k lt), refl);
    ends = subst (λ (e : EndSpec). EndsAt (path_at paths k) e (chain_length n k)) (sym (stop_is k lt)) (ap (λ (p : PathSpec). p.output) (path_is k lt), sym (steps_long k) ∙ ap (λ (p : PathSpec). length p.steps) (sym (path_is k lt)));
    order = omega arith;
    elements =
        subst (λ (p : PathSpec). All (StandsIn p (stretch_of k)) (elements_of (chain_of k))) (sym (path_is k lt))
        (subst (λ (es : List ElementSpec). All (StandsIn (path_of k) (stretch_of k)) es) (sym (elements_are k lt))
        (All-from_recursion (StandsIn (path_of k) (stretch_of k)) (map (made_spec k) (element_numbers n k)) (all_stand k 0 (chain_length n k) lt (omega arith))));
  }

  no_end_in : (k : ℕ) (s : Stretch) → k < 8 → HasEndIn paths (spec_at chains k) s → ⊥
  no_end_in k s lt (i, inside, low, inl h) =
      subst (λ (e : EndSpec). IsEndStep (step_at (path_at paths s.path) i) e) (ap (λ (c : ChainSpec). c.start) (chain_is k lt) ∙ start_is k lt) h
  no_end_in k s lt (i, inside, low, inr h) =
      subst (λ (e : EndSpec). IsEndStep (step_at (path_at paths s.path) i) e) (ap (λ (c : ChainSpec). c.stop) (chain_is k lt) ∙ stop_is k lt) h

  apart : (c o : ℕ) → c < 8 → o < 8 → (c ≡ o → ⊥) → Disturbs paths (spec_at chains c) (spec_at chains o) → ⊥
  apart c o low high differ (s, is, inl h) = no_end_in o s high h
  apart c o low high differ (s, is, inr (t, other, share)) = differ (sym (whole_of c s low is).path ∙ share.0 ∙ (whole_of o t high other).path)

  a_stretch : (c : ℕ) → c < 8 → IsNotAStretch paths chains c → ⊥
  a_stretch c lt (inl none) = none (stretch_of c, subst (λ (x : ChainSpec). IsStretch paths x (stretch_of c)) (sym (chain_is c lt)) (stretch_is c lt))
  a_stretch c lt (inr (o, high, (differ, inl h))) = apart c o lt high (λ e. differ (sym e)) h
  a_stretch c lt (inr (o, high, (differ, inr h))) = apart o c high lt differ h

  -- each step is listed
  listed : (k i : ℕ) → k < 8 → i < chain_length n k → IsListed (chain_of k) (step_at (path_of k) i)
  listed k i lt less =
      let is = step_is k i less in
      let long = length-map-range_with_len (made_spec k) 0 (chain_length n k) in
      let at = get_or-map-range_with_len (made_spec k) 0 (chain_length n k) i i (made_spec k i) less (omega arith) in
      subst (λ (es : List ElementSpec). IsNamedBy es (step_at (path_of k) i)) (sym (elements_are k lt))
      (i, made_spec k i, omega (arith, long), at, record { instance = ap (λ (s : StepSpec). s.instance) is; path = ap (λ (s : StepSpec). s.path) is })

  no_unlisted : (c : ℕ) → c < 8 → IsUnlistedBits paths (spec_at chains c) → ⊥
  no_unlisted c lt (s, is, i, inside, none, bits) =
      let w = whole_of c s lt is in
      let high = inside.high in
      let to = w.to in
      let here : path_at paths s.path ≡ path_of c = ap (path_at paths) w.path ∙ path_is c lt in
      let yes_listed = listed c i lt (omega (arith, high, to)) in
      none (subst (λ (x : ChainSpec). IsListed x (step_at (path_at paths s.path) i)) (sym (chain_is c lt)) (subst (λ (p : PathSpec). IsListed (chain_of c) (step_at p i)) (sym here) yes_listed))

  no_order : (c : ℕ) → c < 8 → IsOrderBroken paths (spec_at chains c) → ⊥
  no_order c lt (s, is, elements, there, i, a, b, broken) =
      let lists : (spec_at chains c).lists ≡ Floating (map (made_spec c) (element_numbers n c)) ∷ [] = ap (λ (x : ChainSpec). x.lists) (chain_is c lt) ∙ lists_are c lt in
      only (subst (λ (ls : List ListSpec). Contains ls (Ordered elements)) lists there)
    where
      only : Contains (Floating (map (made_spec c) (element_numbers n c)) ∷ []) (Ordered elements) → ⊥
      only (zero, low, same) = absurd cc
      only (suc j, low, same) = absurd (omega arith)

  no_over : (c : ℕ) → c < 8 → IsOverMaxBits paths (spec_at chains c) → ⊥
  no_over c lt (s, is, positive, over) =
      let w = whole_of c s lt is in
      let here : path_at paths s.path ≡ path_of c = ap (path_at paths) w.path ∙ path_is c lt in
      let steps = (path_of c).steps in
      let part = slice_range steps s.from s.to in
      let each = each_take (λ (x : StepSpec). x.bits ≤ 1) (s.to - s.from) (drop s.from steps) (each_drop (λ (x : StepSpec). x.bits ≤ 1) s.from steps (few_from c 0 (chain_length n c) (λ t less. unit_within n c t some lt (omega (arith, less))))) in
      let bound = sum_few (λ (x : StepSpec). x.bits) 1 part each in
      let short = take_few (s.to - s.from) (drop s.from steps) in
      let cut = length-drop s.from steps in
      let long = steps_long c in
      let bits : bits_between (path_at paths s.path) s.from s.to ≡ sum_by (λ x. x.bits) part = ap (λ (p : PathSpec). bits_between p s.from s.to) here in
      let limit : (spec_at chains c).max_bits ≡ max_bits n = ap (λ (x : ChainSpec). x.max_bits) (chain_is c lt) in
      omega (arith, bound, short, cut, long, bits, limit, over)

  groups_few : (k : ℕ) → k < 8 → length (groups_of (spec_at chains k)) ≤ 2048
  groups_few k lt =
      let lists : (spec_at chains k).lists ≡ Floating (map (made_spec k) (element_numbers n k)) ∷ [] = ap (λ (x : ChainSpec). x.lists) (chain_is k lt) ∙ lists_are k lt in
      let groups = map (λ (e : ElementSpec). e ∷ []) (map (made_spec k) (element_numbers n k)) in
      let is : length (groups_of (spec_at chains k)) ≡ length groups = ap (λ (ls : List ListSpec). length (flat_map groups_in ls)) lists ∙ ap (λ (gs : List (List ElementSpec)). length gs) (append-nil groups) in
      let long = length-map (map (made_spec k) (element_numbers n k)) (λ (e : ElementSpec). e ∷ []) ∙ length-map-range_with_len (made_spec k) 0 (chain_length n k) in
      omega (arith, is, long)

  abbrev IsFew : ChainSpec → Type 0
  IsFew chain = length (groups_of chain) ≤ 2048

  chains_few : Each IsFew chains
  chains_few = eight (λ k. IsFew (spec_at chains k)) groups_few

  not_too_many : (c : ℕ) → IsTooManyUnits chains c → ⊥
  not_too_many c many =
      let test = λ (chain : ChainSpec). nat_eq chain.partition (spec_at chains c).partition in
      let part = take (c + 1) chains in
      let bound = sum_few (λ (chain : ChainSpec). length (groups_of chain)) 2048 (filter test part) (each_filter IsFew test part (each_take IsFew (c + 1) chains chains_few)) in
      let a = filter_few test part in
      let b = take_few (c + 1) chains in
      omega (arith, bound, a, b, many)

  none_faulty : (kind : Kind) (c : ℕ) → c < 8 → IsFaulty paths chains kind c → ⊥
  none_faulty NotAStretch c lt h = a_stretch c lt h
  none_faulty UnlistedBits c lt h = no_unlisted c lt h
  none_faulty OrderBroken c lt h = no_order c lt h
  none_faulty OverMaxBits c lt h = no_over c lt h
  none_faulty TooManyUnits c lt h = not_too_many c h
  none_faulty kind c lt h = absurd h

pub chains_right : ChainsLaw
chains_right n v d some most fault h = none_faulty n v d some most fault.kind h.chain h.first.within h.first.faulty
