-- The first fault of the paths that are asked for, and that there is none where there are paths.
use Rattle.std.proofs.Common.{◌≡◌, ℕ, zero, ◌<◌, ◌≤◌, inl, inr, Equal, List, [], ◌∷◌, ◌++◌, length, map, get_or, Contains, Option, Some, Err, refl, sym, ap, ap₂, ◌∙◌, subst, arith}
use Rattle.std.specs.Prelude.{All, IsTrue}
use Rattle.std.specs.Ordering.{nat_cmp}
use Rattle.std.specs.List.{slice_get, filter_map}
use Rattle.std.proofs.Math.Seq.{get_or-append_seam}
use Rattle.std.proofs.lemmas.List.{length-map, get_or-map, get_or_default, length-append, get_or_append_left}
use Rattle.std.proofs.lemmas.List.Elements.{All-contains, All-head, All-tail, Contains-get_or, Contains-append_left, Contains-append_right}
use Rattle.base_types.specs.declared.fault.Fault.{Fault}
use Rattle.base_types.specs.declared.fault.FileKind.{FileKind}
use Rattle.base_types.specs.declared.fault.FileKind.TheVariants.{Table, Lef, Verilog, Def, Stil, NewVerilog, NewStil, Log, Words}
use Rattle.base_types.specs.declared.kind.Kind.{Kind}
use Rattle.base_types.specs.declared.kind.Kind.TheVariants.{NoPort, TooManyPaths, SharedCell}
use Rattle.base_types.specs.Faults.{at_line, number_of}
use Rattle.base_types.specs.declared.fault.ReadFault.{ReadFault}
use Rattle.base_types.specs.declared.fault.ReadFault.TheVariants as faults
use Rattle.base_types.specs.FirstFault.{ComesBefore, IsFirstFault, IfFault}
use Rattle.base_types.proofs.FirstFaults.{later, itself}
use Rattle.netlist_core.specs.declared.netlist.NetId.{NetId}
use Rattle.netlist_core.specs.declared.netlist.Netlist.{Netlist}
use Rattle.netlist_core.specs.Netlists.{plain_of, AreDistinct, IsNetlist}
use Rattle.cell_table.specs.Cells.{Cells}
use Rattle.chain_trace.specs.declared.path.Path.{Path}
use Rattle.chain_trace.specs.Paths.{is_driven, has_port, IsScanPath}
use Rattle.chain_trace.specs.Faults.{line_of_instance}
use Rattle.chain_trace.specs.Named.{IsPortNamed}
use Rattle.chain_trace.specs.Drivers.{Traced}
use Rattle.chain_trace.proofs.TraceKinds.{trace_late, trace_early}
use Rattle.chain_trace.proofs.Unique.{path_unique}
use Rattle.list_laws.specs.Leasts.{IsLeast}
use Rattle.list_laws.proofs.LeastLines.{line_case}
use Rattle.list_laws.proofs.Members.{flat_from}
use Rattle.traced_paths.specs.Asked.{Asked, outputs_of}
use Rattle.traced_paths.specs.Traced.{steps_of, ArePathsOf, LacksPort, AsksTooMany, IsMet, IsAskedPath, IsShared, HoldsInPaths, OfPort, OfCount, OfTrace, OfCell}
use Rattle.traced_paths.specs.Steps.{AreOutputs, IsTooMany, IsMetFrom, AreTraced, StandsAgain}
use Rattle.traced_paths.proofs.FirstMet.{no_fault}
use Rattle.traced_paths.proofs.OnceNames.{once_distinct, three_ways, one_count, not_many}
use Rattle.traced_paths.proofs.PortNames.{same_port}
use Rattle.traced_paths.proofs.Shares.{once_all, again_from}

-- a fault of the same kind and file at no lesser line doesn't come before
port_line : (file : FileKind) (a b : ℕ) → a ≤ b → ComesBefore (at_line NoPort file b) (at_line NoPort file a) → ⊥
port_line Table a b le e = line_case a b (nat_cmp b a) Equal refl le refl e
port_line Lef a b le e = line_case a b (nat_cmp b a) Equal refl le refl e
port_line Verilog a b le e = line_case a b (nat_cmp b a) Equal refl le refl e
port_line Def a b le e = line_case a b (nat_cmp b a) Equal refl le refl e
port_line Stil a b le e = line_case a b (nat_cmp b a) Equal refl le refl e
port_line NewVerilog a b le e = line_case a b (nat_cmp b a) Equal refl le refl e
port_line NewStil a b le e = line_case a b (nat_cmp b a) Equal refl le refl e
port_line Log a b le e = line_case a b (nat_cmp b a) Equal refl le refl e
port_line Words a b le e = line_case a b (nat_cmp b a) Equal refl le refl e

cell_line : (a b : ℕ) → a ≤ b → ComesBefore (at_line SharedCell Verilog b) (at_line SharedCell Verilog a) → ⊥
cell_line a b le e = line_case a b (nat_cmp b a) Equal refl le refl e

of_kind : (g : Fault) (kind : Kind) (file : FileKind) (line : ℕ) → g ≡ at_line kind file line → number_of g.kind ≡ number_of kind
of_kind g kind file line e = ap (λ (x : Fault). number_of x.kind) e

same_lists : {X Y : Type 0} (seen : X → Y) (Good : X → Type 0) → ((x y : X) → Good x → Good y → seen x ≡ seen y → x ≡ y) → (xs ys : List X) → All Good xs → All Good ys → map seen xs ≡ map seen ys → xs ≡ ys
same_lists seen Good tells [] [] gx gy e = refl
same_lists seen Good tells [] (y ∷ ys) gx gy e = absurd cc
same_lists seen Good tells (x ∷ xs) [] gx gy e = absurd cc
same_lists seen Good tells (x ∷ xs) (y ∷ ys) gx gy e =
    let first : seen x ≡ seen y = cc in
    let others : map seen xs ≡ map seen ys = cc in
    ap₂ (λ a (bs : List _). a ∷ bs) (tells x y (All-head Good x xs gx) (All-head Good y ys gy) first) (same_lists seen Good tells xs ys (All-tail Good x xs gx) (All-tail Good y ys gy) others)

-- a member of which something is among what is seen of others
record IsSeen {X Y : Type 0} (f : X → Y) (xs : List X) (y : Y) : Type 0 where
  place : ℕ
  within : place < length xs
  member : X
  is : get_or xs place member ≡ member
  gives : f member ≡ y

seen_of : {X Y : Type 0} (f : X → Y) (d : X) (xs : List X) (ys : List Y) (y : Y) → map f xs ≡ ys → Contains ys y → IsSeen f xs y
seen_of {X} {Y} f d xs ys y e h =
    let len : length ys ≡ length xs = ap length (sym e) ∙ length-map xs f in
    let lt = h.1 in
    let within : h.0 < length xs = omega arith in
    let x = get_or xs h.0 d in
    record {
      place = h.0;
      within = within;
      member = x;
      is = get_or_default xs h.0 x d within;
      gives = sym (get_or-map f xs h.0 d y within) ∙ ap (λ (l : List Y). get_or l h.0 y) e ∙ h.2;
    }

map_contains : {X Y : Type 0} (f : X → Y) (xs : List X) (x : X) → Contains xs x → Contains (map f xs) (f x)
map_contains f xs x h = let lt = h.1 in let len = length-map xs f in (h.0, omega arith, get_or-map f xs h.0 x (f x) lt ∙ ap f h.2)

-- members at two places of a list don't show the same
apart_by : {X Y : Type 0} (f : X → Y) (xs front behind : List X) (p q : X) → xs ≡ front ++ q ∷ behind → Contains front p → AreDistinct (map f xs) → f p ≡ f q → ⊥
apart_by {X} {Y} f xs front behind p q is h distinct e =
    let whole : List X = front ++ q ∷ behind in
    let len = length-append front (q ∷ behind) in
    let maps = length-map whole f in
    let lt = h.1 in
    let at_p : get_or whole h.0 p ≡ p = get_or_append_left front (q ∷ behind) p h.0 lt ∙ h.2 in
    let at_q : get_or whole (length front) q ≡ q = get_or-append_seam front q behind q in
    let low : h.0 < length whole = omega arith in
    let high : length front < length whole = omega arith in
    let all : AreDistinct (map f whole) = subst (λ (l : List X). AreDistinct (map f l)) is distinct in
    let same : h.0 ≡ length front =
    all h.0 (length front) (f p) (omega arith) (omega arith) (get_or-map f whole h.0 p (f p) low ∙ ap f at_p ∙ e ∙ sym (ap f at_q) ∙ sym (get_or-map f whole (length front) q (f p) high)) in
    absurd (omega arith)

map_map : {X Y Z : Type 0} (f : X → Y) (g : Y → Z) (xs : List X) → map (λ x. g (f x)) xs ≡ map g (map f xs)
map_map f g [] = refl
map_map {X} {Y} {Z} f g (x ∷ xs) = ap (λ (l : List Z). g (f x) ∷ l) (map_map f g xs)

module _ (n : Netlist) (cells : Cells) (file : FileKind) (asked : List Asked) (sound : IsNetlist n) where
  abbrev Holds : Fault → Type 0
  Holds f = HoldsInPaths n cells file asked f

  trace_kind : (g : Fault) → IsMet n cells asked g → 59 < number_of g.kind
  trace_kind g h = trace_late n cells h.net g h.met

  port_least : (line : ℕ) → IsLeast (LacksPort n asked) (Some line) → (g : Fault) → Holds g → ComesBefore g (at_line NoPort file line) → ⊥
  port_least line least g (OfPort other h is) e = port_line file line other (least.1 other h) (subst (λ (x : Fault). ComesBefore x (at_line NoPort file line)) is e)
  port_least line least g (OfCount other h is) e = let kind = of_kind g TooManyPaths file other is in later (at_line NoPort file line) g (omega arith) e
  port_least line least g (OfTrace h) e = let kind = trace_kind g h in later (at_line NoPort file line) g (omega arith) e
  port_least line least g (OfCell other h is) e = let kind = of_kind g SharedCell Verilog other is in later (at_line NoPort file line) g (omega arith) e

  pub port_first : (line : ℕ) → IsLeast (LacksPort n asked) (Some line) → IsFirstFault Holds (at_line NoPort file line)
  port_first line least = record { holds = OfPort line least.0 refl; least = port_least line least }

  module _ (there : (line : ℕ) → LacksPort n asked line → ⊥) where
    count_least : (f : Fault) → IsTooMany file asked f → (g : Fault) → Holds g → ComesBefore g f → ⊥
    count_least f many g (OfPort other h is) e = there other h
    count_least f many g (OfCount other h is) e =
        let same : g ≡ f = is ∙ ap (λ (l : ℕ). at_line TooManyPaths file l) (one_count asked other many.line h many.asks) ∙ sym many.is in
        itself f (subst (λ (x : Fault). ComesBefore x f) same e)
    count_least f many g (OfTrace h) e = let low = of_kind f TooManyPaths file many.line many.is in let high = trace_kind g h in later f g (omega arith) e
    count_least f many g (OfCell other h is) e = let low = of_kind f TooManyPaths file many.line many.is in let high = of_kind g SharedCell Verilog other is in later f g (omega arith) e

    pub count_first : (f : Fault) → IsTooMany file asked f → IsFirstFault Holds f
    count_first f many = record { holds = subst Holds (sym many.is) (OfCount many.line many.asks refl); least = count_least f many }

    module _ (nets : List NetId) (outputs : AreOutputs n asked nets) where
      few_outputs : length (outputs_of asked) ≤ 256
      few_outputs = let few = outputs.few in let len = ap length (sym outputs.names) ∙ length-map nets (plain_of n.nets) in omega arith

      none_many : (line : ℕ) → AsksTooMany asked line → ⊥
      none_many line h = not_many asked line few_outputs h

      driven : (net : NetId) → Contains nets net → IsTrue (has_port is_driven n net)
      driven net h = All-contains (λ (k : NetId). IsTrue (has_port is_driven n k)) nets net outputs.ports h

      -- an output that is asked for is one of the nets
      net_in : (name : List ℕ) (net : NetId) → Contains (outputs_of asked) name → IsPortNamed is_driven n name net → Contains nets net
      net_in name net wanted port =
          let s = seen_of (plain_of n.nets) net nets (outputs_of asked) name outputs.names wanted in
          let here : Contains nets s.member = (s.place, s.within, s.is) in
          let same : s.member ≡ net = same_port n sound is_driven name s.member net (record { named = s.gives; port = driven s.member here }) port in
          subst (λ (k : NetId). Contains nets k) same here

      met_here : (g : Fault) → IsMet n cells asked g → IsMetFrom n cells nets g
      met_here g h = record { net = h.net; there = net_in h.name h.net h.wanted h.port; met = h.met }

      met_there : (g : Fault) → IsMetFrom n cells nets g → IsMet n cells asked g
      met_there g h = record {
        name = plain_of n.nets h.net;
        wanted = subst (λ (l : List (List ℕ)). Contains l (plain_of n.nets h.net)) outputs.names (map_contains (plain_of n.nets) nets h.net h.there);
        net = h.net;
        port = record { named = refl; port = driven h.net h.there };
        met = h.met;
      }

      trace_least : (f : Fault) → IsFirstFault (IsMetFrom n cells nets) f → (g : Fault) → Holds g → ComesBefore g f → ⊥
      trace_least f first g (OfPort other h is) e = there other h
      trace_least f first g (OfCount other h is) e = none_many other h
      trace_least f first g (OfTrace h) e = first.least g (met_here g h) e
      trace_least f first g (OfCell other h is) e =
          let low = trace_early n cells first.holds.net f first.holds.met in let high = of_kind g SharedCell Verilog other is in later f g (omega arith) e

      pub trace_first : (f : Fault) → IsFirstFault (IsMetFrom n cells nets) f → IsFirstFault Holds f
      trace_first f first = record { holds = OfTrace (met_there f first.holds); least = trace_least f first }

      module _ (paths : List Path) (traced : AreTraced n cells nets paths) where
        abbrev name_of : Path → List ℕ
        name_of p = plain_of n.nets p.output

        names : map name_of paths ≡ outputs_of asked
        names = map_map (λ (p : Path). p.output) (plain_of n.nets) paths ∙ ap (map (plain_of n.nets)) traced.outputs ∙ outputs.names

        distinct : AreDistinct (map name_of paths)
        distinct = subst (λ (l : List (List ℕ)). AreDistinct l) (sym names) (once_distinct [] (filter_map (λ (a : Asked). a.output) asked))

        out_in : (p : Path) → Contains paths p → Contains nets p.output
        out_in p h = subst (λ (l : List NetId). Contains l p.output) traced.outputs (map_contains (λ (q : Path). q.output) paths p h)

        ports : All (λ p. IsTrue (has_port is_driven n p.output)) paths
        ports k d lt = driven (get_or paths k d).output (out_in (get_or paths k d) (Contains-get_or paths k d lt))

        asked_path : (p : Path) → Contains paths p → IsAskedPath n cells asked p
        asked_path p h = record {
          wanted = subst (λ (l : List (List ℕ)). Contains l (name_of p)) names (map_contains name_of paths p h);
          port = driven p.output (out_in p h);
          is = All-contains (λ (q : Path). IsScanPath n cells q.output q) paths p traced.each h;
        }

        -- a path that is asked for is one of them
        path_in : (p : Path) → IsAskedPath n cells asked p → IsSeen (λ q. q) paths p
        path_in p a =
            let s = seen_of name_of p paths (outputs_of asked) (name_of p) names a.wanted in
            let q = asked_path s.member (s.place, s.within, s.is) in
            let same : s.member.output ≡ p.output = same_port n sound is_driven (name_of p) s.member.output p.output (record { named = s.gives; port = q.port }) (record { named = refl; port = a.port }) in
            record {
              place = s.place;
              within = s.within;
              member = s.member;
              is = s.is;
              gives = path_unique n cells p.output s.member p (subst (λ (k : NetId). IsScanPath n cells k s.member) same q.is) a.is;
            }

        at_place : (p : Path) (s : IsSeen (λ q. q) paths p) → get_or paths s.place p ≡ p
        at_place p s = subst (λ (q : Path). get_or paths s.place q ≡ q) s.gives s.is

        again_of : (line : ℕ) → IsShared n cells asked line → StandsAgain n paths line
        again_of line h =
            let a = path_in h.p h.p_is in
            let b = path_in h.q h.q_is in
            elim (three_ways a.place b.place) [
              | inl lt ↦ again_from n paths a.place b.place h.p h.q h.step h.other line lt b.within (at_place h.p a) (at_place h.q b) h.on_p h.on_q h.same (h.is ∙ ap (λ (k : ℕ). line_of_instance (slice_get n.instances k)) h.same.instance)
              | inr (inl e) ↦
                  absurd (
                  h.apart (
                  ap (λ (p : Path). p.output)
                  (sym (at_place h.p a) ∙ ap (λ (k : ℕ). get_or paths k h.p) e ∙ get_or_default paths b.place h.p h.q b.within ∙ at_place h.q b)
                  )
                  )
              | inr (inr gt) ↦
                  again_from n paths b.place a.place h.q h.p h.other h.step line gt a.within (at_place h.q b) (at_place h.p a) h.on_q h.on_p
                  (record { instance = sym h.same.instance; path = sym h.same.path }) h.is
            ]

        module _ (line : ℕ) (h : StandsAgain n paths line) where
          shared_from : IsShared n cells asked line
          shared_from =
              let k = h.again.0 in
              let lt = h.again.1 in
              let first = get_or (steps_of h.front) k h.step in
              let w = flat_from (λ (x : Path). x.steps) h.front first (Contains-get_or (steps_of h.front) k h.step lt) in
              let q_in : Contains (h.front ++ h.path ∷ h.behind) h.path = Contains-append_right h.front (h.path ∷ h.behind) h.path (zero, omega arith, refl) in
              let p_in : Contains (h.front ++ h.path ∷ h.behind) w.member = Contains-append_left h.front (h.path ∷ h.behind) w.member w.there in
              let back : (p : Path) → Contains (h.front ++ h.path ∷ h.behind) p → Contains paths p = λ p c. subst (λ (l : List Path). Contains l p) (sym h.is) c in
              record {
                p = w.member;
                q = h.path;
                p_is = asked_path w.member (back w.member p_in);
                q_is = asked_path h.path (back h.path q_in);
                apart = λ e. apart_by name_of (h.front ++ h.path ∷ h.behind) h.front h.behind w.member h.path refl w.there (subst (λ (l : List Path). AreDistinct (map name_of l)) h.is distinct) (ap (plain_of n.nets) e);
                step = first;
                other = h.step;
                on_p = w.inside;
                on_q = h.there;
                same = h.again.2;
                is = h.line_is ∙ ap (λ (k : ℕ). line_of_instance (slice_get n.instances k)) (sym h.again.2.instance);
              }

        cell_least : (line : ℕ) → IsLeast (StandsAgain n paths) (Some line) → (g : Fault) → Holds g → ComesBefore g (at_line SharedCell Verilog line) → ⊥
        cell_least line least g (OfPort other h is) e = there other h
        cell_least line least g (OfCount other h is) e = none_many other h
        cell_least line least g (OfTrace h) e = no_fault n cells nets paths traced g (met_here g h)
        cell_least line least g (OfCell other h is) e = cell_line line other (least.1 other (again_of other h)) (subst (λ (x : Fault). ComesBefore x (at_line SharedCell Verilog line)) is e)

        pub cell_first : (line : ℕ) → IsLeast (StandsAgain n paths) (Some line) → IsFirstFault Holds (at_line SharedCell Verilog line)
        cell_first line least = record { holds = OfCell line (shared_from line least.0) refl; least = cell_least line least }

        module _ (apart : (line : ℕ) → StandsAgain n paths line → ⊥) where
          pub none_holds : (g : Fault) → Holds g → ⊥
          none_holds g (OfPort other h is) = there other h
          none_holds g (OfCount other h is) = none_many other h
          none_holds g (OfTrace h) = no_fault n cells nets paths traced g (met_here g h)
          none_holds g (OfCell other h is) = apart other (again_of other h)

          pub are_paths : ArePathsOf n cells asked paths
          are_paths = record {
            outputs = names;
            ports = ports;
            each = traced.each;
            once = once_all n paths (λ k d lt. (traced.each k d lt).once) apart;
          }

-- there is one list of paths at most
module _ (n : Netlist) (cells : Cells) (asked : List Asked) (sound : IsNetlist n) where
  record IsGood (p : Path) : Type 0 where
    port : IsTrue (has_port is_driven n p.output)
    is : IsScanPath n cells p.output p

  one_path : (p q : Path) → IsGood p → IsGood q → plain_of n.nets p.output ≡ plain_of n.nets q.output → p ≡ q
  one_path p q a b e =
      let same : p.output ≡ q.output = same_port n sound is_driven (plain_of n.nets q.output) p.output q.output (record { named = e; port = a.port }) (record { named = refl; port = b.port }) in
      path_unique n cells q.output p q (subst (λ (k : NetId). IsScanPath n cells k p) same a.is) b.is

  pub one_list : (xs ys : List Path) → ArePathsOf n cells asked xs → ArePathsOf n cells asked ys → xs ≡ ys
  one_list xs ys a b =
      same_lists (λ (p : Path). plain_of n.nets p.output) IsGood one_path xs ys (λ k d lt. record { port = a.ports k d lt; is = a.each k d lt }) (λ k d lt. record { port = b.ports k d lt; is = b.each k d lt })
      (a.outputs ∙ sym b.outputs)

-- what the calls give, said of the netlist and of lists as they are
pub fault_across : (X Y : Type 0) (e : ReadFault) (P Q : Fault → Type 0) → ((f : Fault) → P f → Q f) → IfFault {X = X} (Err e) P → IfFault {X = Y} (Err e) Q
fault_across X Y (faults.Fault f) P Q to h = to f h
fault_across X Y faults.NoMemory P Q to h = tt

pub lacks_here : (n m : Netlist) (asked : List Asked) (r s : Option ℕ) → m ≡ n → r ≡ s → IsLeast (LacksPort m asked) r → IsLeast (LacksPort n asked) s
lacks_here n m asked r s e f h = subst (λ (k : Netlist). IsLeast (LacksPort k asked) s) e (subst (λ (o : Option ℕ). IsLeast (LacksPort m asked) o) f h)

pub outputs_here : (n m : Netlist) (asked : List Asked) (nets : List NetId) → m ≡ n → AreOutputs m asked nets → AreOutputs n asked nets
outputs_here n m asked nets e h = subst (λ (k : Netlist). AreOutputs k asked nets) e h

pub traced_here : (n : Netlist) (cells : Cells) (t : Traced) (items nets : List NetId) (paths : List Path) → t ≡ record { netlist = n; cells = cells } → items ≡ nets → AreTraced t.netlist t.cells items paths → AreTraced n cells nets paths
traced_here n cells t items nets paths e f h = subst (λ (k : Traced). AreTraced k.netlist k.cells nets paths) e (subst (λ (l : List NetId). AreTraced t.netlist t.cells l paths) f h)

pub first_here : (n : Netlist) (cells : Cells) (t : Traced) (items nets : List NetId) (g : Fault) → t ≡ record { netlist = n; cells = cells } → items ≡ nets → IsFirstFault (IsMetFrom t.netlist t.cells items) g → IsFirstFault (IsMetFrom n cells nets) g
first_here n cells t items nets g e f h = subst (λ (k : Traced). IsFirstFault (IsMetFrom k.netlist k.cells nets) g) e (subst (λ (l : List NetId). IsFirstFault (IsMetFrom t.netlist t.cells l) g) f h)

pub again_here : (n : Netlist) (items paths : List Path) (r s : Option ℕ) → items ≡ paths → r ≡ s → IsLeast (StandsAgain n items) r → IsLeast (StandsAgain n paths) s
again_here n items paths r s e f h = subst (λ (l : List Path). IsLeast (StandsAgain n l) s) e (subst (λ (o : Option ℕ). IsLeast (StandsAgain n items) o) f h)
