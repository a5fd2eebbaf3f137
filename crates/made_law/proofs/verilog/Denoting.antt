-- The made Verilog denotes the made netlist.
use Rattle.std.proofs.Common.{◌≡◌, ℕ, zero, suc, ◌+◌, ◌-◌, ◌<◌, ◌≤◌, Bool, true, false, if◌then◌else◌, List, [], ◌∷◌, ◌++◌, length, map, get_or, Option, None, Ok, refl, sym, ap, ◌∙◌, subst, append_assoc, codes, arith}
use Rattle.std.specs.Prelude.{nat_lt}
use Rattle.std.specs.List.{flat_map, range_with_len}
use Rattle.std.specs.List.{AllByRecursion as Each}
use Rattle.std.proofs.lemmas.Bool.Decides.{nat_tests}
use Rattle.std.proofs.lemmas.List.{append-nil, length-map}
use Rattle.std.proofs.lemmas.List.FromFn.{length-map-range_with_len}
use Rattle.std.proofs.lemmas.List.Concat.{flat_map-append}
use Rattle.netlist_core.specs.declared.netlist.NetName.{NetName}
use Rattle.netlist_core.specs.declared.netlist.Instance.{Instance}
use Rattle.netlist_core.specs.declared.netlist.Netlist.{Netlist}
use Rattle.netlist_core.specs.Netlists.{plain_of}
use Rattle.verilog_syntax.specs.declared.statement.Declared.{Declared}
use Rattle.verilog_syntax.specs.declared.statement.Declared.TheVariants.{Input, Output, Wire}
use Rattle.verilog_syntax.specs.declared.statement.Statement.{Statement}
use Rattle.verilog_syntax.specs.declared.reading.Placed.{Placed}
use Rattle.verilog_syntax.specs.Reading.{read_statements}
use Rattle.verilog_syntax.proofs.Modules.{module_law}
use Rattle.verilog_names.specs.declared.bounds.Bounds.{Bounds}
use Rattle.verilog_names.specs.Values.{unescaped, name_text}
use Rattle.verilog_names.specs.Declarations.{Declaration, declaration_of, declarations_in, declarations, header_ports, mentions_in, mentions, undeclared_in}
use Rattle.verilog_checks.specs.Faults.{IsFaultless}
use Rattle.verilog_checks.proofs.Faultless.{faultless}
use Rattle.verilog_checks.proofs.Undeclared.{undeclared-append}
use Rattle.verilog_checks.proofs.VerilogFaults.{no_fault}
use Rattle.verilog_reader.specs.Denoted.{said_ports_of, said_ports, said_assigns_in, said_instances_in, first_declared, first_mentioned, entry_nets, declared_nets, said_nets, SeenPort, SeenAssign, SeenInstance, seen_port, seen_assign, seen_instance, IsNetlistOf}
use Rattle.def_syntax.proofs.FrameLaws.{each_append}
use Rattle.design_maker.specs.Chains.{last_unit}
use Rattle.design_maker.specs.MadeVerilog.{verilog_text}
use Rattle.made_law.specs.Designs.Names.{unit, unit_net, in_port, out_port}
use Rattle.made_law.specs.Designs.MadeComponents.{units}
use Rattle.made_law.proofs.designs.Numbers.{value_of}
use Rattle.made_law.proofs.designs.Rising.{Rising, rising_range}
use Rattle.made_law.specs.Paths.MadeNetlist.{NetlistPlaces, net_id, in_number, out_number, unit_number, net_names, named_net, input_number, net_at, made_instance, made_assign, made_netlist}
use Rattle.made_law.proofs.paths.Netlists.{name_key, number_in, names_rise, netlist_is}
use Rattle.made_law.proofs.paths.Sources.{below_eight}
use Rattle.made_law.specs.Verilog.MadeModule.{instance_of, port_assign}
use Rattle.made_law.specs.Verilog.Laws.{NetlistLaw, NoVerilogFaultLaw, DenotesMade}
use Rattle.made_law.proofs.verilog.Laying.{word_number}
use Rattle.made_law.proofs.verilog.Modules.{module_is}
use Rattle.made_law.proofs.verilog.Placing.{Place, put_in, put_all, places_of, stands, behind, put_both, Everywhere, each_put, all_join, all_range, none_put, said_range}
use Rattle.made_law.proofs.verilog.Scalars.{IsScalar, IsFine, no_bounds, undeclared_yet, all_scalar, number_ok, select_ok, twice_ok}
use Rattle.made_law.proofs.verilog.Declared.{source, unit_at, rest_of, even_module, module_even, outs, wires, made_declared, declared_are, ports_are, instances_are, names_are, Fine, all_fine}

-- the declared names are the nets
first_all : (before ds : List Declaration) (a b : ℕ) → Rising name_key a (map (λ d. d.name) (before ++ ds)) b → first_declared before ds ≡ map (λ d. (d.name, d.bounds)) ds
unfolding first_declared
first_all before [] a b h = refl
first_all before (d ∷ ds) a b h =
    let new = undeclared_yet name_key a b before ds d h in
    rw new (ap (λ (l : List (List ℕ × Option Bounds)). (d.name, d.bounds) ∷ l) (first_all (before ++ d ∷ []) ds a b (subst (λ (l : List Declaration). Rising name_key a (map (λ d. d.name) l) b) (sym (append_assoc before (d ∷ []) ds)) h)))

-- a scalar net whose text is its name
abbrev IsNet : Declaration → Type 0
IsNet d = (d.bounds ≡ None) × (name_text d.name ≡ d.name)

nets_of : (ds : List Declaration) → Each IsNet ds → flat_map (λ (e : List ℕ × Option Bounds). entry_nets e.0 e.1) (map (λ (d : Declaration). (d.name, d.bounds)) ds) ≡ map named_net (map (λ d. d.name) ds)
nets_of [] e = refl
nets_of (d ∷ ds) e = let bounds = e.0.0 in let text = e.0.1 in rw (bounds, text) (ap (λ (l : List NetName). named_net d.name ∷ l) (nets_of ds e.1))

each_net : (kind : Declared) (f : ℕ → List ℕ) → ((i : ℕ) → unescaped (f i) ≡ f i) → ((i : ℕ) → name_text (f i) ≡ f i) → (is : List ℕ) → Each IsNet (map (declaration_of kind None) (map f is))
each_net kind f plain text [] = tt
each_net kind f plain text (i ∷ is) = ((refl, ap name_text (plain i) ∙ text i ∙ sym (plain i)), each_net kind f plain text is)

declared_nets_are : (n : ℕ) → Each IsNet (made_declared n)
declared_nets_are n = (
  (refl, refl),
  (
    (refl, refl),
    (
      (refl, refl),
      each_append IsNet (map (declaration_of Input None) (map in_port (range_with_len 0 8))) (outs ++ wires n) (each_net Input in_port (λ i. refl) (λ i. rw (word_number i) refl) (range_with_len 0 8))
          (each_append IsNet outs (wires n) (each_net Output out_port (λ i. refl) (λ i. rw (word_number i) refl) (range_with_len 0 8)) (each_net Wire unit_net (λ i. refl) (λ i. rw (word_number i) refl) (units n))),
    ),
  ),
)

-- the names of the nets by their numbers
wire_at : (a m i : ℕ) (d : NetName) → i < m → (get_or (map named_net (map unit_net (range_with_len a m))) i d).plain ≡ unit_net (a + i)
wire_at a zero i d lt = absurd (omega arith)
wire_at a (suc m) zero d lt = let e : a ≡ a + 0 = omega arith in ap unit_net e
wire_at a (suc m) (suc i) d lt = let e : a + 1 + i ≡ a + suc i = omega arith in wire_at (a + 1) m i d (omega arith) ∙ ap unit_net e

unit_net_at : (n i : ℕ) → i < n → plain_of (map named_net (net_names n)) (net_id (unit_number i)) ≡ unit_net i
unit_net_at n i lt =
    let e : 19 + i ≡ suc (suc (suc (suc (suc (suc (suc (suc (suc (suc (suc (suc (suc (suc (suc (suc (suc (suc (suc i)))))))))))))))))) = omega arith in
    let s : 0 + i ≡ i = omega arith in
    ap (λ (k : ℕ). plain_of (map named_net (net_names n)) (net_id k)) e ∙ wire_at 0 n i _ lt ∙ ap unit_net s

in_net_at : (n k : ℕ) → k < 8 → plain_of (map named_net (net_names n)) (net_id (in_number k)) ≡ in_port k
in_net_at n = below_eight (λ k. plain_of (map named_net (net_names n)) (net_id (in_number k)) ≡ in_port k) refl refl refl refl refl refl refl refl

out_net_at : (n k : ℕ) → k < 8 → plain_of (map named_net (net_names n)) (net_id (out_number k)) ≡ out_port k
out_net_at n = below_eight (λ k. plain_of (map named_net (net_names n)) (net_id (out_number k)) ≡ out_port k) refl refl refl refl refl refl refl refl

source_at : (n i : ℕ) → i < n → plain_of (map named_net (net_names n)) (net_id (input_number i)) ≡ source i
source_at n i lt = of (nat_lt i 8) refl
  where
    of : (b : Bool) → nat_lt i 8 ≡ b → plain_of (map named_net (net_names n)) (net_id (if b then in_number i else unit_number (i - 8))) ≡ (if b then in_port i else unit_net (i - 8))
    of true e = let low : i < 8 = grind (arith, nat_tests) in in_net_at n i low
    of false e = unit_net_at n (i - 8) (omega arith)

source_plain : (i : ℕ) → unescaped (source i) ≡ source i
source_plain i = of (nat_lt i 8)
  where
    of : (b : Bool) → unescaped (if b then in_port i else unit_net (i - 8)) ≡ (if b then in_port i else unit_net (i - 8))
    of true = refl
    of false = refl

-- one unit and one assign
abbrev instance_seen : Place → List ℕ → ℕ → ℕ → Instance
instance_seen at name from to =
    record {
      name = name;
      cell = codes "SDF";
      connections =
          record { pin = codes "D"; expr = net_at 2 (at.spans 0) } ∷ record { pin = codes "CK"; expr = net_at 0 (at.spans 1) } ∷ record { pin = codes "SE"; expr = net_at 1 (at.spans 2) }
          ∷ record { pin = codes "SI"; expr = net_at from (at.spans 3) } ∷ record { pin = codes "Q"; expr = net_at to (at.spans 4) } ∷ [];
      line = at.line;
    }

instance_said : (ds : List Declaration) (nets : List NetName) (at : Place) (i : ℕ) (from to : List ℕ) (a b : ℕ) → Each IsScalar ds → unescaped from ≡ from → unescaped to ≡ to
    → plain_of nets (net_id 0) ≡ codes "clk" → plain_of nets (net_id 1) ≡ codes "se" → plain_of nets (net_id 2) ≡ codes "d" → plain_of nets (net_id a) ≡ from → plain_of nets (net_id b) ≡ to
    → said_instances_in ds at.line (put_in at.spans (instance_of (unit i) from to)) ≡ seen_instance nets (instance_seen at (unit i) a b) ∷ []
instance_said ds nets at i from to a b scalar f t n0 n1 n2 na nb =
    let d = no_bounds (codes "d") ds scalar in
    let clk = no_bounds (codes "clk") ds scalar in
    let se = no_bounds (codes "se") ds scalar in
    let bf = no_bounds from ds scalar in
    let bt = no_bounds to ds scalar in
    rw (f, t, d, clk, se, bf, bt, n0, n1, n2, na, nb) refl

assign_said : (ds : List Declaration) (nets : List NetName) (at : Place) (n k : ℕ) → Each IsScalar ds → plain_of nets (net_id (out_number k)) ≡ out_port k → plain_of nets (net_id (unit_number (last_unit n k))) ≡ unit_net (last_unit n k)
    → said_assigns_in ds at.line (put_in at.spans (port_assign n k))
    ≡ seen_assign nets (record { left = net_at (out_number k) (at.spans 0); right = net_at (unit_number (last_unit n k)) (at.spans 1); line = at.line }) ∷ []
assign_said ds nets at n k scalar a b =
    let left = no_bounds (out_port k) ds scalar in
    let right = no_bounds (unit_net (last_unit n k)) ds scalar in
    rw (left, right, a, b) refl

seen_map : {X Y : Type 0} (see : X → Y) (make : ℕ → X) (is : List ℕ) → map (λ i. see (make i)) is ≡ map see (map make is)
seen_map see make [] = refl
seen_map see make (i ∷ is) = ap (λ l. see (make i) ∷ l) (seen_map see make is)

wires_silent : (line : ℕ) (is : List ℕ) → flat_map (said_ports_of line) (map (declaration_of Wire None) (map unit_net is)) ≡ []
wires_silent line [] = refl
wires_silent line (i ∷ is) = wires_silent line is

module _ (n : ℕ) (some : 8 ≤ n) (most : n ≤ 16384) (at : ℕ → Place) where
  abbrev ps : List Placed
  ps = put_all at (even_module n)

  fine : Each (IsFine (declarations ps) (header_ports ps)) ps
  fine =
      subst (λ (ds : List Declaration). Each (IsFine ds (header_ports ps)) ps) (sym (declared_are at n))
      (subst (λ (ports : List (List ℕ)). Each (IsFine (made_declared n) ports) ps) (sym (ports_are at n)) (each_put (Fine n some) at (even_module n) (all_fine n some)))

  names : map (λ d. d.name) (declarations ps) ≡ net_names n
  names = ap (map (λ (d : Declaration). d.name)) (declared_are at n) ∙ names_are n

  rise : Rising name_key 0 (map (λ d. d.name) (declarations ps)) (19 + n)
  rise = subst (λ (l : List (List ℕ)). Rising name_key 0 l (19 + n)) (sym names) (names_rise n most)

  units_rise : Rising number_in 0 (map unit (units n)) n
  units_rise = rising_range number_in unit 0 0 n 0 n (λ k from to. let v = value_of k (omega arith) in omega (arith, v)) (omega arith) (omega arith)

  goes_through : (text : List ℕ) → read_statements text ≡ Ok ps → IsFaultless text ps
  goes_through text read =
      faultless text ps read (number_ok ps fine) (twice_ok ps fine name_key number_in 0 (19 + n) 0 n rise (subst (λ (l : List (List ℕ)). Rising number_in 0 l n) (sym (instances_are at n)) units_rise)) (select_ok ps fine)

  -- the nets
  declared_first : first_declared [] (declarations ps) ≡ map (λ d. (d.name, d.bounds)) (declarations ps)
  declared_first = first_all [] (declarations ps) 0 (19 + n) rise

  declared_named : declared_nets ps ≡ map named_net (net_names n)
  declared_named =
      ap (flat_map (λ (e : List ℕ × Option Bounds). entry_nets e.0 e.1)) declared_first ∙ nets_of (declarations ps) (subst (Each IsNet) (sym (declared_are at n)) (declared_nets_are n)) ∙ ap (map named_net) names

  none_undeclared : (qs : List Placed) → Each (IsFine (declarations ps) (header_ports ps)) qs → undeclared_in (declarations ps) (mentions qs) ≡ []
  none_undeclared [] f = refl
  none_undeclared (q ∷ qs) f =
      undeclared-append (declarations ps) (mentions_in q.statement) (mentions qs) ∙ ap (λ (l : List (List ℕ)). l ++ undeclared_in (declarations ps) (mentions qs)) f.0.declared ∙ none_undeclared qs f.1

  nets_are : map named_net (net_names n) ≡ said_nets ps
  unfolding first_mentioned
  nets_are =
      let entry = λ (e : List ℕ × Option Bounds). entry_nets e.0 e.1 in
      sym (ap (λ (l : List (List ℕ)). flat_map entry (first_declared [] (declarations ps) ++ first_mentioned [] l)) (none_undeclared ps fine) ∙ ap (flat_map entry) (append-nil (first_declared [] (declarations ps))) ∙ declared_named)

  -- the places of the netlist
  abbrev four : ℕ → Place
  four k = at (suc (suc (suc (suc k))))

  abbrev count : ℕ
  count = length (map unit_at (units n))

  abbrev places : NetlistPlaces
  places = record {
    header = (at 0).line;
    inputs = (at 1).line;
    outputs = (at 2).line;
    instances = λ i. (four i).line;
    pins = λ i j. (four i).spans j;
    assigns = λ k. (four (count + k)).line;
    left = λ k. (four (count + k)).spans 0;
    right = λ k. (four (count + k)).spans 1;
  }

  abbrev made : Netlist
  made = made_netlist places n

  abbrev assigns : List Statement
  assigns = map (port_assign n) (range_with_len 0 8)

  abbrev ports_said : Placed → List SeenPort
  ports_said p = flat_map (said_ports_of p.line) (declarations_in p.statement)

  denotes_ports : map (seen_port made.nets) made.ports ≡ said_ports ps
  denotes_ports =
      let silent : Everywhere (λ p. ports_said p ≡ []) (rest_of n)
      = all_join (λ p. ports_said p ≡ []) (map unit_at (units n)) assigns (all_range (λ p. ports_said p ≡ []) unit_at 0 n (λ i from to at. refl)) (all_range (λ p. ports_said p ≡ []) (port_assign n) 0 8 (λ k from to at. refl))
      in
      let wired = wires_silent (at 3).line (units n) in
      let more : flat_map (said_ports_of (at 3).line) (wires n) ++ flat_map ports_said (put_all four (rest_of n)) ≡ [] = ap (λ (l : List SeenPort). l ++ flat_map ports_said (put_all four (rest_of n))) wired ∙ none_put ports_said four (rest_of n) silent in
      ap (λ (l : List SeenPort). map (seen_port made.nets) made.ports ++ l) (sym more)

  abbrev assigns_said : Placed → List SeenAssign
  assigns_said p = said_assigns_in (declarations ps) p.line p.statement

  denotes_assigns : map (seen_assign made.nets) made.assigns ≡ flat_map assigns_said ps
  denotes_assigns =
      let silent = all_range (λ p. assigns_said p ≡ []) unit_at 0 n (λ i from to at. refl) in
      let each = λ (k : ℕ) (from : 0 ≤ k) (to : k < 0 + 8). assign_said (declarations ps) made.nets (four (count + k)) n k (all_scalar ps fine) (out_net_at n k (omega arith)) (unit_net_at n (last_unit n k) (omega arith)) in
      sym (ap (flat_map assigns_said) (put_both four (map unit_at (units n)) assigns) ∙ flat_map-append assigns_said (put_all four (map unit_at (units n))) (put_all (behind count four) assigns)
      ∙ ap (λ (l : List SeenAssign). l ++ flat_map assigns_said (put_all (behind count four) assigns)) (none_put assigns_said four (map unit_at (units n)) silent)
      ∙ said_range assigns_said (port_assign n) (λ k. seen_assign made.nets (made_assign places n k)) (behind count four) 0 8 each (behind count four) (λ k. let e : k ≡ 0 + k = omega arith in ap (behind count four) e)
      ∙ seen_map (seen_assign made.nets) (made_assign places n) (range_with_len 0 8))

  abbrev instances_said : Placed → List SeenInstance
  instances_said p = said_instances_in (declarations ps) p.line p.statement

  denotes_instances : map (seen_instance made.nets) made.instances ≡ flat_map instances_said ps
  denotes_instances =
      let silent = all_range (λ p. instances_said p ≡ []) (port_assign n) 0 8 (λ k from to at. refl) in
      let each = λ (i : ℕ) (from : 0 ≤ i) (to : i < 0 + n). instance_said (declarations ps) made.nets (four i) i (source i) (unit_net i) (input_number i) (unit_number i) (all_scalar ps fine) (source_plain i) refl refl refl refl (source_at n i (omega arith)) (unit_net_at n i (omega arith)) in
      sym (ap (flat_map instances_said) (put_both four (map unit_at (units n)) assigns) ∙ flat_map-append instances_said (put_all four (map unit_at (units n))) (put_all (behind count four) assigns)
      ∙ ap (λ (l : List SeenInstance). flat_map instances_said (put_all four (map unit_at (units n))) ++ l) (none_put instances_said (behind count four) assigns silent)
      ∙ append-nil (flat_map instances_said (put_all four (map unit_at (units n))))
      ∙ said_range instances_said unit_at (λ i. seen_instance made.nets (made_instance places i)) four 0 n each four (λ k. let e : k ≡ 0 + k = omega arith in ap four e)
      ∙ seen_map (seen_instance made.nets) (made_instance places) (units n))

  netlist_of : IsNetlistOf ps made
  netlist_of = record {
    module_name = refl;
    line = refl;
    nets = nets_are;
    declared =
        let long = length-map-range_with_len unit_net 0 n in
        let all = ap (length {A = NetName}) declared_named ∙ length-map (net_names n) named_net in
        omega (arith, long, all);
    ports = denotes_ports;
    assigns = denotes_assigns;
    instances = denotes_instances;
  }

  pub made_denoted : (text : List ℕ) → read_statements text ≡ Ok ps → DenotesMade text n
  made_denoted text read = record { at = places; is = record { statements = ps; reads = goes_through text read; is = netlist_of; sound = netlist_is n places some most } }

pub denotes : NetlistLaw
denotes n some most =
    let m = module_is n some in
    let at = places_of m.statements in
    let is = stands m.statements (even_module n) (m.same ∙ module_even n some) in
    made_denoted n some most at (verilog_text n) (subst (λ (ps : List Placed). read_statements (verilog_text n) ≡ Ok ps) is ((module_law (verilog_text n) m.statements).1 m.is))

pub no_verilog_fault : NoVerilogFaultLaw
no_verilog_fault n some most f holds = let d = denotes n some most in no_fault (verilog_text n) d.is.statements d.is.reads f holds
