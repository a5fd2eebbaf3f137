use Rattle.std.proofs.Common.{List, subst}
use Rattle.chain_trace.specs.declared.path.Step.{Step}
use Rattle.list_laws.specs.Leasts.{IsLeast}
use Rattle.design_places.specs.Lines.{ForOne, IsNowhere, GoesNowhere}
use Rattle.design_places.proofs.ForOnes.{one_more, one_all}
use Rattle.design_places.proofs.places.least_nowhere.Goals as goal

pub loop-path-preserved : goal.loop-path-preserved
loop-path-preserved c =
    rw c.lesser-least.ensures.value
    (one_more (GoesNowhere c.args.netlist.now c.args.components.now.0 c.args.components.now.1) c.args.paths.now c.loop-path.path-index c.path-item.result c.loop-path.least c.least_of.result c.loop-path-test.true c.path-item.is
    c.loop-path.invariant
    (subst (λ (l : List Step). IsLeast (ForOne (IsNowhere c.args.netlist.now c.args.components.now.0 c.args.components.now.1) l) c.least_of.result) c.as_slice.ensures.value c.least_of.ensures.value))

pub returns : goal.returns
returns c = record {
  value = one_all (GoesNowhere c.args.netlist.now c.args.components.now.0 c.args.components.now.1) c.args.paths.now c.loop-path.path-index c.loop-path.least c.loop-path-test.false c.loop-path.invariant;
}
