-- The paths that the chains of a made design ask for.
use Rattle.std.proofs.Common.{◌≡◌, ℕ, zero, suc, ◌+◌, ◌-◌, ◌*◌, ◌/◌, ◌%◌, ◌<◌, ◌≤◌, Bool, true, false, ◌&&◌, ◌||◌, eqb, if◌then◌else◌, List, [], ◌∷◌, length, map, get_or, Option, Some, None, Contains, refl, sym, ap, ◌∙◌, subst, arith, ◌⊎◌, inl, inr}
use Rattle.std.specs.Prelude.{IsTrue}
use Rattle.std.specs.List.{list_any, filter_map, cons_option, range_with_len, AllByRecursion as Each}
use Rattle.std.specs.Str.{bytes_eq}
use Rattle.std.specs.Fmt.{digits}
use Rattle.std.proofs.lemmas.Bool.Decides.{nat_tests}
use Rattle.std.proofs.lemmas.Option.{same_Some}
use Rattle.std.proofs.lemmas.List.{length-append}
use Rattle.std.proofs.lemmas.List.FromFn.{length-map-range_with_len}
use Rattle.std.proofs.lemmas.List.Folds.{list_any-append}
use Rattle.std.proofs.lemmas.List.Elements.{All-from_recursion}
use Rattle.std.proofs.lemmas.Bool.{cases_lt}
use Rattle.base_types.specs.declared.fault.Fault.{Fault}
use Rattle.base_types.specs.declared.fault.FileKind.{FileKind}
use Rattle.base_types.proofs.TruthValues.{and_false}
use Rattle.netlist_core.specs.declared.netlist.NetId.{NetId}
use Rattle.netlist_core.specs.declared.netlist.Port.{Port}
use Rattle.netlist_core.specs.Netlists.{plain_of}
use Rattle.cell_table.specs.Table.{small_cells}
use Rattle.chain_trace.specs.declared.path.Step.{Step}
use Rattle.chain_trace.specs.declared.path.Path.{Path}
use Rattle.chain_trace.specs.Paths.{drives, is_driven, has_port, StandOnce, IsScanPath}
use Rattle.chain_trace.specs.Faults.{IsTraceFault}
use Rattle.chain_trace.proofs.Meeting.{no_path}
use Rattle.chain_trace.proofs.Unique.{path_unique}
use Rattle.traced_paths.specs.Asked.{Asked, once_behind, outputs_of}
use Rattle.head_chains.specs.Asked.{asked_by_chain}
use Rattle.traced_paths.specs.Traced.{steps_of, ArePathsOf, HasNoInput, HasNoOutput, LacksPort, AsksTooMany, IsMet, IsAskedPath, IsShared, HoldsInPaths, OfPort, OfCount, OfTrace, OfCell}
use Rattle.traced_paths.specs.Bits.{step_bits, path_bits, HaveTooManyBits}
use Rattle.design_maker.specs.Chains.{chain_length, unit_of}
use Rattle.made_law.specs.Designs.Names.{in_port, out_port}
use Rattle.made_law.specs.Designs.Places.{Place, placed}
use Rattle.made_law.specs.Designs.MadeChains.{chain_numbers, element_numbers, made_chain}
use Rattle.made_law.proofs.designs.Rising.{Rising, rising_both, rising_range}
use Rattle.made_law.specs.Paths.MadeNetlist.{NetlistPlaces, net_id, in_number, out_number, input_port, output_port, made_netlist}
use Rattle.made_law.specs.Paths.MadePaths.{made_step, made_path}
use Rattle.made_law.proofs.paths.Joins.{eight}
use Rattle.made_law.proofs.paths.Sources.{below_eight, instance_at}
use Rattle.made_law.proofs.paths.Leading.{path_is}
use Rattle.made_law.proofs.paths.Netlists.{distinct_by}
use Rattle.made_law.specs.Checks.MadeAsked.{asked_of, made_asked, made_paths}
use Rattle.made_law.specs.Checks.Laws.{AskedLaw, TracedLaw, BitsLaw}
use Rattle.made_law.proofs.checks.Members.{of_map, of_placed, number_in_range, sum_few}
use Rattle.made_law.proofs.checks.Units.{unit_within}

asked_from : (n : ℕ) (at : ℕ → Place) (ks : List ℕ) → map asked_by_chain (placed (made_chain n) at ks) ≡ placed asked_of at ks
asked_from n at [] = refl
asked_from n at (k ∷ ks) = ap (λ (l : List Asked). asked_of (at 0) k ∷ l) (asked_from n (λ j. at (suc j)) ks)

pub asked_are : AskedLaw
asked_are n at = asked_from n at chain_numbers

-- the outputs in order, each once
outputs_are : (at : ℕ → Place) → outputs_of (made_asked at) ≡ map out_port (range_with_len 0 8)
unfolding once_behind digits
outputs_are at = refl

-- ports by their names
pub in_name : (n k : ℕ) (v : NetlistPlaces) → k < 8 → plain_of (made_netlist v n).nets (net_id (in_number k)) ≡ in_port k
in_name n k v = below_eight (λ k. plain_of (made_netlist v n).nets (net_id (in_number k)) ≡ in_port k) refl refl refl refl refl refl refl refl k

pub out_name : (n k : ℕ) (v : NetlistPlaces) → k < 8 → plain_of (made_netlist v n).nets (net_id (out_number k)) ≡ out_port k
out_name n k v = below_eight (λ k. plain_of (made_netlist v n).nets (net_id (out_number k)) ≡ out_port k) refl refl refl refl refl refl refl refl k

drives_in : (n k : ℕ) (v : NetlistPlaces) → k < 8 → has_port drives (made_netlist v n) (net_id (in_number k)) ≡ true
drives_in n k v = below_eight (λ k. has_port drives (made_netlist v n) (net_id (in_number k)) ≡ true) refl refl refl refl refl refl refl refl k

driven_out : (n k : ℕ) (v : NetlistPlaces) → k < 8 → has_port is_driven (made_netlist v n) (net_id (out_number k)) ≡ true
driven_out n k v = below_eight (λ k. has_port is_driven (made_netlist v n) (net_id (out_number k)) ≡ true) refl refl refl refl refl refl refl refl k

-- a port that is driven is one of the eight
abbrev test : NetId → Port → Bool
test net port = eqb port.net.0 net.0 && is_driven port.direction

either : {P : Type 0} (a b : Bool) → (a || b) ≡ true → (a ≡ true → P) → (b ≡ true → P) → P
either true b e f g = f refl
either false b e f g = g e

and_on : (b : Bool) → (b && true) ≡ true → b ≡ true
and_on true e = refl
and_on false e = e

none_in : (v : NetlistPlaces) (net : NetId) (a m : ℕ) → list_any (test net) (map (input_port v) (range_with_len a m)) ≡ false
none_in v net a zero = refl
none_in v net a (suc m) = rw (and_false (eqb a net.0)) (none_in v net (a + 1) m)

in_outs : (v : NetlistPlaces) (net : NetId) (a m : ℕ) → list_any (test net) (map (output_port v) (range_with_len a m)) ≡ true → (a ≤ net.0) × (net.0 < a + m)
in_outs v net a zero e = absurd cc
in_outs v net a (suc m) e =
    either (eqb a net.0 && true) (list_any (test net) (map (output_port v) (range_with_len (a + 1) m))) e
    (λ h. let is = and_on (eqb a net.0) h in let same : a ≡ net.0 = grind (arith, nat_tests) in (omega (arith, same), omega (arith, same)))
    (λ h. let r = in_outs v net (a + 1) m h in let low = r.0 in let high = r.1 in (omega (arith, low), omega (arith, high)))

behind_none : (a b : Bool) → a ≡ false → (a || b) ≡ true → b ≡ true
behind_none true b e f = absurd cc
behind_none false b e f = f

pub record IsOutput (net : NetId) : Type 0 where
  pub number : ℕ
  pub low : number < 8
  pub is : net ≡ net_id (out_number number)

output_of : (n : ℕ) (v : NetlistPlaces) (net : NetId) → has_port is_driven (made_netlist v n) net ≡ true → IsOutput net
output_of n v net e =
    let ins = map (input_port v) (range_with_len 0 11) in
    let outs = map (output_port v) (range_with_len 11 8) in
    let cut : (list_any (test net) ins || list_any (test net) outs) ≡ true = sym (list_any-append (test net) ins outs) ∙ e in
    let r = in_outs v net 11 8 (behind_none (list_any (test net) ins) (list_any (test net) outs) (none_in v net 0 11) cut) in
    let low = r.0 in
    let high = r.1 in
    let same : net.0 ≡ 11 + (net.0 - 11) = omega (arith, low) in
    record { number = net.0 - 11; low = omega (arith, low, high); is = ap net_id same }

-- the steps of all paths, chain by chain
abbrev step_key : Step → ℕ
step_key s = s.instance % 8 * 4096 + s.instance / 8

steps_rise : (n from m : ℕ) → n ≤ 16384 → from + m ≤ 8 → Rising step_key (from * 4096) (steps_of (map (made_path n) (range_with_len from m))) ((from + m) * 4096)
steps_rise n from zero most fits = omega arith
steps_rise n from (suc m) most fits =
    let e : (from + 1 + m) * 4096 ≡ (from + suc m) * 4096 = omega arith in
    let one = rising_range step_key (made_step from) (from * 4096) (from * 4096) ((from + 1) * 4096) 0 (chain_length n from) (λ t low high. omega arith) (omega arith) (omega arith) in
    rising_both step_key (from * 4096) ((from + 1) * 4096) ((from + suc m) * 4096) (map (made_step from) (element_numbers n from)) (steps_of (map (made_path n) (range_with_len (from + 1) m))) one
    (subst (λ (b : ℕ). Rising step_key ((from + 1) * 4096) (steps_of (map (made_path n) (range_with_len (from + 1) m))) b) e (steps_rise n (from + 1) m most (omega arith)))

steps_once : (n : ℕ) → n ≤ 16384 → StandOnce (steps_of (made_paths n))
steps_once n most i j d low high same =
    let steps = steps_of (made_paths n) in
    let keys : step_key (get_or steps i d) ≡ step_key (get_or steps j d) = ap (λ (x : ℕ). x % 8 * 4096 + x / 8) same.instance in
    distinct_by step_key 0 32768 steps (steps_rise n 0 8 most (omega arith)) i j d low high keys (cases_lt i j) (cases_lt j i)

-- few are asked for
once_few : (before names : List (List ℕ)) → length (once_behind before names) ≤ length names
unfolding once_behind
once_few before [] = omega arith
once_few before (name ∷ names) = of (list_any (bytes_eq name) before) (once_few before names) (once_few (name ∷ before) names)
  where
    of : (b : Bool) → length (once_behind before names) ≤ length names → length (once_behind (name ∷ before) names) ≤ length names → length (if b then once_behind before names else name ∷ once_behind (name ∷ before) names) ≤ suc (length names)
    of true x y = omega (arith, x)
    of false x y = omega (arith, y)

filter_few : {X Y : Type 0} (f : X → Option Y) (xs : List X) → length (filter_map f xs) ≤ length xs
filter_few f [] = omega arith
filter_few {X} {Y} f (x ∷ xs) = of (f x) (filter_few f xs)
  where
    of : (o : Option Y) → length (filter_map f xs) ≤ length xs → length (cons_option o (filter_map f xs)) ≤ suc (length xs)
    of None h = omega (arith, h)
    of (Some y) h = omega (arith, h)

length_placed : {X Y : Type 0} (make : Place → X → Y) (at : ℕ → Place) (xs : List X) → length (placed make at xs) ≡ length xs
length_placed make at [] = refl
length_placed make at (x ∷ xs) = ap suc (length_placed make (λ j. at (suc j)) xs)

not_too_many : (at : ℕ → Place) (line : ℕ) → AsksTooMany (made_asked at) line → ⊥
not_too_many at line h =
    let long : length (made_asked at) ≡ 8 = length_placed asked_of at chain_numbers in
    let cut = ap (λ (l : List Asked). length l) h.is in
    let parts = length-append h.front (h.one ∷ h.behind) in
    let named = once_few [] (filter_map (λ (a : Asked). a.output) h.front) in
    let asked = filter_few (λ (a : Asked). a.output) h.front in
    let full = h.full in
    omega (arith, long, cut, parts, named, asked, full)

module _ (n : ℕ) (v : NetlistPlaces) (some : 8 ≤ n) (most : n ≤ 16384) where
  neither : (p : Place) (k : ℕ) → k < 8 → HasNoInput (made_netlist v n) (asked_of p k) ⊎ HasNoOutput (made_netlist v n) (asked_of p k) → ⊥
  neither p k lt (inl e) =
      let name : in_port k ≡ e.name = same_Some (in_port k) e.name e.named in
      e.none (net_id (in_number k)) (record { named = in_name n k v lt ∙ name; port = drives_in n k v lt })
  neither p k lt (inr e) =
      let name : out_port k ≡ e.name = same_Some (out_port k) e.name e.named in
      e.none (net_id (out_number k)) (record { named = out_name n k v lt ∙ name; port = driven_out n k v lt })

  port_there : (at : ℕ → Place) (line : ℕ) → LacksPort (made_netlist v n) (made_asked at) line → ⊥
  port_there at line h =
      let r = of_placed asked_of at chain_numbers h.one h.there in
      let low : r.member < 8 = (let q = (number_in_range 0 8 r.member r.there).1 in omega (arith, q)) in
      neither r.place r.member low (subst (λ (a : Asked). HasNoInput (made_netlist v n) a ⊎ HasNoOutput (made_netlist v n) a) r.is h.none)

  no_trace_fault : (at : ℕ → Place) (fault : Fault) → IsMet (made_netlist v n) small_cells (made_asked at) fault → ⊥
  no_trace_fault at fault h =
      let r = output_of n v h.net h.port.port in
      no_path (made_netlist v n) small_cells (net_id (out_number r.number)) fault (subst (λ (net : NetId). IsTraceFault (made_netlist v n) small_cells net fault) r.is h.met) (made_path n r.number) (path_is n r.number v some most r.low)

  -- a path that is asked for is one of the eight
  pub record IsOne (path : Path) : Type 0 where
    pub number : ℕ
    pub low : number < 8
    pub is : path ≡ made_path n number

  one_of : (at : ℕ → Place) (path : Path) → IsAskedPath (made_netlist v n) small_cells (made_asked at) path → IsOne path
  one_of at path h =
      let r = output_of n v path.output h.port in
      let here = subst (λ (net : NetId). IsScanPath (made_netlist v n) small_cells net path) r.is h.is in
      record { number = r.number; low = r.low; is = path_unique (made_netlist v n) small_cells (net_id (out_number r.number)) path (made_path n r.number) here (path_is n r.number v some most r.low) }

  step_on : (k : ℕ) (step : Step) → Contains (made_path n k).steps step → (t : ℕ) × (step.instance ≡ unit_of k t)
  step_on k step h = let r = of_map (made_step k) (element_numbers n k) step h in (r.member, ap (λ (s : Step). s.instance) r.is)

  none_shared : (at : ℕ → Place) (line : ℕ) → IsShared (made_netlist v n) small_cells (made_asked at) line → ⊥
  none_shared at line h =
      let p = one_of at h.p h.p_is in
      let q = one_of at h.q h.q_is in
      let s = step_on p.number h.step (subst (λ (x : Path). Contains x.steps h.step) p.is h.on_p) in
      let t = step_on q.number h.other (subst (λ (x : Path). Contains x.steps h.other) q.is h.on_q) in
      let low = p.low in
      let high = q.low in
      let units : unit_of p.number s.0 ≡ unit_of q.number t.0 = sym s.1 ∙ h.same.instance ∙ t.1 in
      let same : p.number ≡ q.number = omega (arith, low, high, units) in
      h.apart (ap (λ (x : Path). x.output) p.is ∙ ap (λ (k : ℕ). net_id (out_number k)) same ∙ sym (ap (λ (x : Path). x.output) q.is))

  none_holds : (at : ℕ → Place) (file : FileKind) (fault : Fault) → HoldsInPaths (made_netlist v n) small_cells file (made_asked at) fault → ⊥
  none_holds at file fault (OfPort line h e) = port_there at line h
  none_holds at file fault (OfCount line h e) = not_too_many at line h
  none_holds at file fault (OfTrace h) = no_trace_fault at fault h
  none_holds at file fault (OfCell line h e) = none_shared at line h

  each_path : (P : Path → Type 0) → ((k : ℕ) → k < 8 → P (made_path n k)) → Each P (made_paths n)
  each_path P f = eight (λ k. P (made_path n k)) f

  names_are : map (λ (p : Path). plain_of (made_netlist v n).nets p.output) (made_paths n) ≡ map out_port (range_with_len 0 8)
  names_are = refl

  paths_are : (at : ℕ → Place) → ArePathsOf (made_netlist v n) small_cells (made_asked at) (made_paths n)
  paths_are at = record {
    outputs = names_are ∙ sym (outputs_are at);
    ports = All-from_recursion (λ (p : Path). IsTrue (has_port is_driven (made_netlist v n) p.output)) (made_paths n) (each_path (λ (p : Path). IsTrue (has_port is_driven (made_netlist v n) p.output)) (λ k lt. driven_out n k v lt));
    each = All-from_recursion (λ (p : Path). IsScanPath (made_netlist v n) small_cells p.output p) (made_paths n) (each_path (λ (p : Path). IsScanPath (made_netlist v n) small_cells p.output p) (λ k lt. path_is n k v some most lt));
    once = steps_once n most;
  }

  -- each step has one bit
  pub one_bit : (k t : ℕ) → unit_of k t < n → step_bits (made_netlist v n) small_cells (made_step k t) ≤ 1
  one_bit k t lt = rw (instance_at n v (unit_of k t) lt) (omega arith)

  bits_from : (k a m : ℕ) → ((t : ℕ) → t < a + m → unit_of k t < n) → Each (λ (s : Step). step_bits (made_netlist v n) small_cells s ≤ 1) (map (made_step k) (range_with_len a m))
  bits_from k a zero within = tt
  bits_from k a (suc m) within = (one_bit k a (within a (omega arith)), bits_from k (a + 1) m (λ t lt. within t (omega arith)))

  path_few : (k : ℕ) → k < 8 → path_bits (made_netlist v n) small_cells (made_path n k) ≤ 2048
  path_few k lt =
      let m = chain_length n k in
      let bound = sum_few (step_bits (made_netlist v n) small_cells) 1 (map (made_step k) (range_with_len 0 m)) (bits_from k 0 m (λ t less. unit_within n k t some lt (omega (arith, less)))) in
      let long = length-map-range_with_len (made_step k) 0 m in
      omega (arith, bound, long)

  few_bits : (fault : Fault) → HaveTooManyBits (made_netlist v n) small_cells (made_paths n) fault → ⊥
  few_bits fault h =
      let bound = sum_few (path_bits (made_netlist v n) small_cells) 2048 (made_paths n) (each_path (λ (p : Path). path_bits (made_netlist v n) small_cells p ≤ 2048) path_few) in
      let many = h.many in
      omega (arith, bound, many)

pub traced_right : TracedLaw
traced_right n v at some most = record { are = paths_are n v some most at; none = none_holds n v some most at }

pub bits_right : BitsLaw
bits_right n v some most = few_bits n v some most
