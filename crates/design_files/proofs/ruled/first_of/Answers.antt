use Rattle.std.proofs.Common.{Ok, Err, Result, List, refl, subst}
use Rattle.std.specs.Prelude.{OnOk}
use Rattle.base_types.specs.declared.fault.Fault.{Fault}
use Rattle.base_types.specs.declared.fault.ReadFault.{ReadFault}
use Rattle.base_types.specs.declared.fault.ReadFault.TheVariants as faults
use Rattle.base_types.specs.FirstFault.{IfFault, IsFirstFault}
use Rattle.design_places.specs.Ends.{HoldsInPlaces}
use Rattle.design_files.specs.Stages.{IsFirstOf}
use Rattle.design_files.proofs.Chained.{first_chain, units_alone, refused_place}
use Rattle.design_files.proofs.ruled.first_of.Goals as goal

pub returns-else-comes_behind : goal.returns-else-comes_behind
returns-else-comes_behind c = record {
  first = λ specs chains h. first_chain specs chains c.args.files.now.netlist c.args.files.now.macros c.args.files.now.design c.args.traced.now.paths.items c.args.fault h (c.comes_behind.ensures.no c.if-comes_behind.false);
}

pub returns-in-Ok : goal.returns-in-Ok
returns-in-Ok c = record {
  first = λ specs chains h. units_alone specs chains c.args.files.now.netlist c.args.files.now.macros c.args.files.now.design c.args.traced.now.paths.items c.args.fault h c.in-Ok.ensures.no_fault;
}

pub returns-in-Err : goal.returns-in-Err
returns-in-Err c = record {
  first = refused_place c.args.files.now.netlist c.args.files.now.macros c.args.files.now.design c.args.traced.now.paths.items c.args.fault c.in-Err.refused c.in-Err.ensures.fault (c.comes_behind.ensures.yes c.if-comes_behind.true);
}
