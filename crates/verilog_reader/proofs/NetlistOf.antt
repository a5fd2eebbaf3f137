-- The numbered netlist of faultless statements is theirs.
use Rattle.std.proofs.Common.{◌≡◌, ◌∙◌, ℕ, ◌+◌, ◌<◌, ◌≤◌, ◌^◌, false, List, [], ◌∷◌, ◌++◌, length, refl, ap, sym, subst, arith, Ok, Option}
use Rattle.std.specs.List.{flat_map, All}
use Rattle.std.specs.List.{AllByRecursion as Each}
use Rattle.base_types.specs.declared.kind.Kind.TheVariants.{VerilogNumber, VerilogTwice, BadSelect}
use Rattle.netlist_core.specs.declared.netlist.Port.{Port}
use Rattle.netlist_core.specs.Netlists.{IsAssign, IsInstance, IsNetlist}
use Rattle.verilog_syntax.specs.declared.reading.Placed.{Placed}
use Rattle.verilog_names.specs.declared.bounds.Bounds.{Bounds}
use Rattle.verilog_names.specs.Declarations.{declarations, bounds_in, undeclared_in, mentions}
use Rattle.verilog_checks.specs.Checks.{check_number, check_twice, check_select, bad_twice, has_twice}
use Rattle.verilog_checks.specs.Faults.{bad_number, bad_select, differ_in_width, pins_in}
use Rattle.verilog_reader.specs.Denoted.{IsNetlistOf, entry_nets, first_declared, first_mentioned, declared_nets}
use Rattle.verilog_names.specs.NameTables.{total, with_declared}
use Rattle.verilog_reader.specs.Numbering.{entries, numbered, numbered_ports, numbered_assigns, numbered_instances, IsFineStatement}
use Rattle.verilog_reader.proofs.Filling.{Entries}
use Rattle.verilog_reader.proofs.Places.{bounds_are, entries_are, declared_first}
use Rattle.verilog_reader.proofs.Checked.{Passes, passes, sound, fine, IsSound, declared_named}
use Rattle.verilog_reader.proofs.Seen.{seen_assigns, seen_instances}
use Rattle.verilog_reader.proofs.PortNames.{apart, all_again, firsts, seen_ports}
use Rattle.verilog_reader.proofs.NumberedLists.{length-nets}
use Rattle.verilog_reader.proofs.Distinct.{distinct, all_of}
use Rattle.verilog_reader.proofs.Within.{assigns_are, instances_are}
use Rattle.verilog_reader.proofs.PortNumbers.{ports_within, ports_distinct, instances_distinct}
use Rattle.verilog_reader.proofs.NamesApart.{nets_apart}
use Rattle.verilog_reader.proofs.ScalarNames.{clear}

pub sounds : (ps : List Placed) → check_number ps ≡ Ok tt → check_select ps ≡ Ok tt → Each (λ p. IsSound ps p.statement) ps
sounds ps number select = sound ps [] ps (passes bad_number VerilogNumber [] ps number) (passes (λ (before : List Placed) p. bad_select ps p) BadSelect [] ps select)

pub statements_fit : (ps : List Placed) → check_number ps ≡ Ok tt → check_select ps ≡ Ok tt → All (λ (p : Placed). IsFineStatement (entries ps) p.statement) ps
statements_fit ps number select = fine ps (sounds ps number select)

declared_are : (ps : List Placed) → total (with_declared [] (declarations ps)) ≡ length (declared_nets ps)
declared_are ps = ap total (declared_first [] [] (declarations ps) (λ q. refl)) ∙ sym (length-nets (first_declared [] (declarations ps)))

total-append : (es fs : Entries) → total (es ++ fs) ≡ total es + total fs
total-append [] fs = omega arith
total-append (e ∷ es) fs = let more = total-append es fs in omega (arith, more)

-- the declared nets are some of all
declared_within : (ps : List Placed) → total (with_declared [] (declarations ps)) ≤ length (numbered (entries ps) ps).nets
declared_within ps =
    let ds = declarations ps in
    let mentioned = first_mentioned [] (undeclared_in ds (mentions ps)) in
    let all = ap total (entries_are ps) ∙ total-append (first_declared [] ds) mentioned in
    let first = ap total (declared_first [] [] ds (λ q. refl)) in
    omega (arith, all, first, length-nets (entries ps))

pub is_netlist_of : (ps : List Placed) → check_number ps ≡ Ok tt → check_twice ps ≡ Ok tt → check_select ps ≡ Ok tt → IsNetlistOf ps (numbered (entries ps) ps)
is_netlist_of ps number twice select = record {
  module_name = refl;
  line = refl;
  nets = ap (λ (es : Entries). flat_map (λ (e : List ℕ × Option Bounds). entry_nets e.0 e.1) es) (entries_are ps);
  declared = declared_are ps;
  ports = seen_ports (entries ps) (declarations ps) (bounds_are ps) ps (declared_named ps) (firsts ps (passes (bad_twice ps) VerilogTwice [] ps twice));
  assigns = seen_assigns (entries ps) (declarations ps) (bounds_are ps) ps (statements_fit ps number select);
  instances = seen_instances (entries ps) (declarations ps) (bounds_are ps) ps (statements_fit ps number select);
}

differ : (all ps : List Placed) → Each (λ p. IsSound all p.statement) ps → Each (λ p. differ_in_width (bounds_in (declarations all)) p.statement ≡ false) ps
differ all [] sounds = tt
differ all (p ∷ ps) sounds = (sounds.0.widths, differ all ps sounds.1)

pins_once : (all before ps : List Placed) → Passes (bad_twice all) before ps → Each (λ p. has_twice (pins_in p.statement) ≡ false) ps
pins_once all before [] passes = tt
pins_once all before (p ∷ ps) passes = ((apart all before p passes.0).pins, pins_once all (before ++ p ∷ []) ps passes.1)

-- and a netlist
pub is_netlist : (ps : List Placed) → check_number ps ≡ Ok tt → check_twice ps ≡ Ok tt → check_select ps ≡ Ok tt → length (numbered (entries ps) ps).nets < 2 ^ 32
    → length (numbered (entries ps) ps).instances < 2 ^ 32 → IsNetlist (numbered (entries ps) ps)
is_netlist ps number twice select few_nets few_instances =
    let es = entries ps in
    let sound = sounds ps number select in
    let once = passes (bad_twice ps) VerilogTwice [] ps twice in
    let fits = statements_fit ps number select in
    let count = sym (length-nets es) in
    record {
      few_nets = few_nets;
      declared = declared_within ps;
      few_instances = few_instances;
      names = distinct _ (nets_apart ps sound (clear ps once));
      port_nets = subst (λ (n : ℕ). All (λ (port : Port). port.net.0 < n) (numbered_ports es ps)) count (all_of (λ (port : Port). port.net.0 < total es) (numbered_ports es ps) (ports_within es ps));
      ports = distinct _ (ports_distinct es ps (all_again ps [] ps once));
      assigns = subst (λ (n : ℕ). All (IsAssign n) (numbered_assigns es ps)) count (all_of (IsAssign (total es)) (numbered_assigns es ps) (assigns_are es (declarations ps) (bounds_are ps) ps fits (differ ps ps sound)));
      instance_names = distinct _ (instances_distinct es ps once);
      instances = subst (λ (n : ℕ). All (IsInstance n) (numbered_instances es ps)) count (all_of (IsInstance (total es)) (numbered_instances es ps) (instances_are es (declarations ps) (bounds_are ps) ps fits (pins_once ps [] ps once)));
    }
