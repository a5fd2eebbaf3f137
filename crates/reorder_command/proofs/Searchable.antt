-- The rules and the ends of checked files can be searched.
use Rattle.std.proofs.Common.{◌≡◌, ◌+◌, List, length, sym, subst, arith}
use Rattle.std.specs.List.{concat}
use Rattle.std.proofs.lemmas.List.{length-map}
use Rattle.netlist_core.specs.declared.netlist.Netlist.{Netlist}
use Rattle.cell_table.specs.Cells.{Cells}
use Rattle.lef_pins.specs.Macros.{NamedMacros}
use Rattle.def_reader.specs.declared.design.Design.{Design}
use Rattle.chain_trace.specs.declared.path.Path.{Path}
use Rattle.chain_rules.specs.declared.unit.Unit.{Unit as MovedUnit}
use Rattle.chain_rules.specs.declared.unit.ChainRule.{ChainRule}
use Rattle.chain_rules.specs.declared.unit.Rules.{Rules}
use Rattle.chain_rules.proofs.Members.{length_from_permutation}
use Rattle.wire_cost.specs.declared.ends.Ends.{Ends}
use Rattle.order_search.specs.Searches.{AreSearchable}
use Rattle.design_places.specs.Ends.{point_or_origin, sink_on, source_on, ends_of}
use Rattle.design_files.specs.declared.read.DesignFiles.{DesignFiles}
use Rattle.design_files.specs.Files.{Texts}
use Rattle.design_files.specs.Stages.{AreChecked}

-- a place for each unit and each chain
record HaveEnds (rules : Rules) (ends : Ends) : Type 0 where
  entry : length ends.entry ≡ length rules.units
  exit : length ends.exit ≡ length rules.units
  start : length ends.start ≡ length rules.chains
  stop : length ends.stop ≡ length rules.chains

have_ends : (n : Netlist) (cells : Cells) (macros : NamedMacros) (d : Design) (paths : List Path) (rules : Rules) → HaveEnds rules (ends_of n cells macros d paths rules)
have_ends n cells macros d paths rules = record {
  entry = length-map rules.units (λ (u : MovedUnit). point_or_origin (sink_on n cells macros d paths u.path u.first));
  exit = length-map rules.units (λ (u : MovedUnit). point_or_origin (source_on n cells macros d paths u.path (u.last + 1)));
  start = length-map rules.chains (λ (r : ChainRule). source_on n cells macros d paths r.path r.first);
  stop = length-map rules.chains (λ (r : ChainRule). sink_on n cells macros d paths r.path (r.last + 1));
}

pub are_searchable : (t : Texts) (f : DesignFiles) → AreChecked t f → AreSearchable f.rules f.ends
are_searchable t f checked =
    let have = subst (HaveEnds f.rules) (sym checked.ends) (have_ends f.netlist f.table f.macros f.design f.paths.items f.rules) in
    let units = length_from_permutation (length f.rules.units) (concat f.rules.read.chains) checked.rules.of_each.units in
    let few_units = checked.plan.few_units in
    let few_chains = checked.plan.few_chains in
    let rules = checked.rules.of_each.rule_count in
    let read = checked.rules.of_each.read_count in
    record {
      placed = checked.placed;
      entry = omega (arith, have.entry);
      exit = omega (arith, have.exit);
      start = omega (arith, have.start);
      stop = omega (arith, have.stop);
      few_units = omega (arith, units, few_units);
      few_chains = omega (arith, rules, read, few_chains);
      read = checked.legal;
    }
