-- The first of the faults that are met from some outputs, as one more is traced.
use Rattle.std.proofs.Common.{◌≡◌, ℕ, ◌==◌, ◌&&◌, ◌||◌, ◌+◌, ◌<◌, ◌≤◌, ◌⊎◌, inl, inr, Bool, true, false, cond, nat_lt, Ordering, Less, Equal, Greater, List, [], ◌∷◌, ◌++◌, length, get_or, take, Option, Some, None, Contains, refl, sym, ap, ap₂, ◌∙◌, subst, arith}
use Rattle.std.specs.Prelude.{All}
use Rattle.std.specs.Bool.{Decides}
use Rattle.std.specs.Ordering.{ordering_then}
use Rattle.std.specs.List.{slice_get}
use Rattle.std.proofs.lemmas.Cmp.{nat_list_cmp_total}
use Rattle.std.proofs.lemmas.List.{map-append, take_more, take_all, length-map, get_or-map}
use Rattle.std.proofs.lemmas.List.Elements.{All-push, All-nil, All-get_or, Contains-append_left, Contains-push, Contains-push_cases}
use Rattle.base_types.specs.declared.fault.Fault.{Fault}
use Rattle.base_types.specs.declared.fault.FileKind.TheVariants.{Verilog}
use Rattle.base_types.specs.declared.kind.Kind.{Kind}
use Rattle.base_types.specs.declared.kind.Kind.TheVariants as kinds
use Rattle.base_types.specs.Faults.{at_line, number_of}
use Rattle.base_types.specs.FirstFault.{fault_key, ComesBefore, IsFirstFault}
use Rattle.base_types.proofs.FirstFaults.{itself}
use Rattle.netlist_core.specs.declared.netlist.NetId.{NetId}
use Rattle.netlist_core.specs.declared.netlist.Netlist.{Netlist}
use Rattle.cell_table.specs.Cells.{Cells}
use Rattle.chain_trace.specs.declared.path.Path.{Path}
use Rattle.chain_trace.specs.Paths.{IsScanPath}
use Rattle.chain_trace.specs.Faults.{IsTraceFault, sink_line, line_of_instance}
use Rattle.chain_trace.specs.Parities.{NamesEntry}
use Rattle.chain_trace.proofs.Meeting.{no_path}
use Rattle.chain_trace.proofs.OneFault.{one_fault}
use Rattle.traced_paths.specs.Steps.{precedes, earlier, IsMetFrom, AreTraced, AreTracedSoFar}

-- a fault at a line of the Verilog
record IsAtLine (f : Fault) : Type 0 where
  kind : Kind
  line : ℕ
  is : f ≡ at_line kind Verilog line

met_line : (n : Netlist) (cells : Cells) (net : NetId) (f : Fault) → IsTraceFault n cells net f → IsAtLine f
met_line n cells net f (inl h) = record { kind = kinds.NoDriver; line = sink_line n h.sink; is = h.is }
met_line n cells net f (inr (inl h)) = record { kind = kinds.TwoDrivers; line = sink_line n h.sink; is = h.is }
met_line n cells net f (inr (inr h)) = record { kind = kinds.Loop; line = line_of_instance (slice_get n.instances h.step.instance); is = h.is }

abbrev numbers : Bool → Bool → Ordering
numbers less same = cond less Less (cond same Equal Greater)

two_numbers : (a b c d : Bool) → Decides (a || (b && c)) (ordering_then (numbers a b) (ordering_then (numbers c d) Equal) ≡ Less)
two_numbers true b c d = (λ h. refl, λ h. refl)
two_numbers false true true d = (λ h. refl, λ h. refl)
two_numbers false true false true = (λ h. absurd cc, λ h. absurd cc)
two_numbers false true false false = (λ h. absurd cc, λ h. absurd cc)
two_numbers false false c d = (λ h. absurd cc, λ h. absurd cc)

at_lines : (k j : Kind) (l m : ℕ) → Decides (precedes (at_line k Verilog l) (at_line j Verilog m)) (ComesBefore (at_line k Verilog l) (at_line j Verilog m))
at_lines k j l m = two_numbers (nat_lt (number_of k) (number_of j)) (number_of k == number_of j) (nat_lt l m) (l == m)

order_tells : (f g : Fault) → IsAtLine f → IsAtLine g → Decides (precedes f g) (ComesBefore f g)
order_tells f g a b =
    subst (λ (x : Fault). Decides (precedes x g) (ComesBefore x g)) (sym a.is)
    (subst (λ (y : Fault). Decides (precedes (at_line a.kind Verilog a.line) y) (ComesBefore (at_line a.kind Verilog a.line) y)) (sym b.is) (at_lines a.kind b.kind a.line b.line))

module _ (n : Netlist) (cells : Cells) where
  abbrev Each : Path → Type 0
  Each p = IsScanPath n cells p.output p

  record HasPath (net : NetId) : Type 0 where
    path : Path
    is : IsScanPath n cells net path

  -- each output has its path
  path_of : (nets : List NetId) (paths : List Path) → AreTraced n cells nets paths → (net : NetId) → Contains nets net → HasPath net
  path_of nets paths all net there =
      let d : Path = record { input = net; output = net; steps = [] } in
      let len : length nets ≡ length paths = ap length (sym all.outputs) ∙ length-map paths (λ (p : Path). p.output) in
      let lt = there.1 in
      let within : there.0 < length paths = omega arith in
      let p = get_or paths there.0 d in
      let same : p.output ≡ net =
      sym (get_or-map (λ (p : Path). p.output) paths there.0 d net within) ∙ ap (λ (l : List NetId). get_or l there.0 net) all.outputs ∙ there.2 in
      record { path = p; is = subst (λ (k : NetId). IsScanPath n cells k p) same (All-get_or Each paths there.0 d within all.each) }

  pub no_fault : (nets : List NetId) (paths : List Path) → AreTraced n cells nets paths → (g : Fault) → IsMetFrom n cells nets g → ⊥
  no_fault nets paths all g h = let p = path_of nets paths all h.net h.there in no_path n cells h.net g h.met p.path p.is

  module _ (nets : List NetId) (net : NetId) where
    weaker : (g : Fault) → IsMetFrom n cells nets g → IsMetFrom n cells (nets ++ net ∷ []) g
    weaker g h = record { net = h.net; there = Contains-append_left nets (net ∷ []) h.net h.there; met = h.met }

    last : (g : Fault) → IsTraceFault n cells net g → IsMetFrom n cells (nets ++ net ∷ []) g
    last g h = record { net = net; there = Contains-push nets net; met = h }

    met_cases : (g : Fault) → IsMetFrom n cells (nets ++ net ∷ []) g → IsMetFrom n cells nets g ⊎ IsTraceFault n cells net g
    met_cases g h =
        elim (Contains-push_cases nets net h.net h.there) [
          | inl there ↦ inl (record { net = h.net; there = there; met = h.met })
          | inr same ↦ inr (subst (λ (k : NetId). IsTraceFault n cells k g) (sym same) h.met)
        ]

    -- the output has a path
    pub more_path : (paths : List Path) (first : Option Fault) (path : Path) → AreTracedSoFar n cells nets paths first → IsScanPath n cells net path → All (NamesEntry n cells) path.steps
        → AreTracedSoFar n cells (nets ++ net ∷ []) (paths ++ path ∷ []) first
    more_path paths None path all is entries = record {
      outputs = map-append (λ (p : Path). p.output) paths (path ∷ []) ∙ ap₂ (λ (xs : List NetId) (x : NetId). xs ++ x ∷ []) all.outputs is.ends;
      each = All-push Each paths path all.each (subst (λ (k : NetId). IsScanPath n cells k path) (sym is.ends) is);
      entries = All-push (λ (p : Path). All (NamesEntry n cells) p.steps) paths path all.entries entries;
    }
    more_path paths (Some first) path so is entries = record {
      holds = weaker first so.holds;
      least = λ g h e. elim (met_cases g h) [ inl old ↦ so.least g old e | inr new ↦ no_path n cells net g new path is ];
    }

    alone : (fault g : Fault) → IsTraceFault n cells net fault → IsTraceFault n cells net g → ComesBefore g fault → ⊥
    alone fault g met h e = itself fault (subst (λ (x : Fault). ComesBefore x fault) (one_fault n cells net g fault h met) e)

    first_case : (first fault : Fault) (t : Bool) → precedes fault first ≡ t → IsFirstFault (IsMetFrom n cells nets) first → IsTraceFault n cells net fault
        → IsFirstFault (IsMetFrom n cells (nets ++ net ∷ [])) (cond t fault first)
    first_case first fault true is so met =
        let order = order_tells fault first (met_line n cells net fault met) (met_line n cells so.holds.net first so.holds.met) in
        record {
          holds = last fault met;
          least = λ g h e.
              elim (met_cases g h) [
                | inl old ↦ so.least g old (nat_list_cmp_total.trans (fault_key g) (fault_key fault) (fault_key first) e (order.0 is))
                | inr new ↦ alone fault g met new e
              ];
        }
    first_case first fault false is so met =
        let order = order_tells fault first (met_line n cells net fault met) (met_line n cells so.holds.net first so.holds.met) in
        record {
          holds = weaker first so.holds;
          least = λ g h e.
              elim (met_cases g h) [
                | inl old ↦ so.least g old e
                | inr new ↦ let yes = order.1 (subst (λ (x : Fault). ComesBefore x first) (one_fault n cells net g fault new met) e) in absurd cc
              ];
        }

    -- a fault is met from the output
    pub more_fault : (paths : List Path) (first : Option Fault) (fault : Fault) → AreTracedSoFar n cells nets paths first → IsTraceFault n cells net fault
        → IsFirstFault (IsMetFrom n cells (nets ++ net ∷ [])) (earlier first fault)
    more_fault paths None fault all met = record {
      holds = last fault met;
      least = λ g h e. elim (met_cases g h) [ inl old ↦ no_fault nets paths all g old | inr new ↦ alone fault g met new e ];
    }
    more_fault paths (Some first) fault so met = first_case first fault (precedes fault first) refl so met

  -- no output is traced
  pub none_traced : AreTraced n cells [] []
  none_traced = record { outputs = refl; each = All-nil Each; entries = All-nil (λ (p : Path). All (NamesEntry n cells) p.steps) }

  pub traced_next : (nets : List NetId) (i : ℕ) (d : NetId) (paths : List Path) (first : Option Fault) → i < length nets → AreTracedSoFar n cells (take i nets ++ get_or nets i d ∷ []) paths first
      → AreTracedSoFar n cells (take (i + 1) nets) paths first
  traced_next nets i d paths first lt so = subst (λ (l : List NetId). AreTracedSoFar n cells l paths first) (sym (take_more nets i d lt)) so

  pub traced_all : (nets : List NetId) (i : ℕ) (paths : List Path) (first : Option Fault) → length nets ≤ i → AreTracedSoFar n cells (take i nets) paths first → AreTracedSoFar n cells nets paths first
  traced_all nets i paths first le so = subst (λ (l : List NetId). AreTracedSoFar n cells l paths first) (take_all i nets le) so
