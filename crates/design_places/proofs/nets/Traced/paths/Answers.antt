use Rattle.design_places.specs.Lines.{PathLacks}
use Rattle.design_places.proofs.ForOnes.{one_more, one_all}
use Rattle.design_places.proofs.nets.Traced.paths.Goals as goal

pub loop-path-preserved : goal.loop-path-preserved
loop-path-preserved c =
    rw c.lesser-least.ensures.value
    (one_more (PathLacks c.args.self.now) c.args.paths.now c.loop-path.path-index c.path-item.result c.loop-path.least c.path.result c.loop-path-test.true c.path-item.is c.loop-path.invariant c.path.ensures.value)

pub returns : goal.returns
returns c = record { value = one_all (PathLacks c.args.self.now) c.args.paths.now c.loop-path.path-index c.loop-path.least c.loop-path-test.false c.loop-path.invariant }
