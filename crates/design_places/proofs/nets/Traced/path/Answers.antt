use Rattle.std.proofs.Common.{List, ◌⊎◌, subst}
use Rattle.chain_trace.specs.declared.path.Step.{Step}
use Rattle.list_laws.specs.Leasts.{IsLeast}
use Rattle.list_laws.proofs.LeastLines.{either}
use Rattle.design_places.specs.Lines.{ForOne, StepLacks, PortLacks}
use Rattle.design_places.proofs.nets.Traced.path.Goals as goal

pub returns : goal.returns
returns c =
    let steps = subst (λ (l : List Step). IsLeast (ForOne (StepLacks c.args.self.now) l) c.steps.result) c.as_slice.ensures.value c.steps.ensures.value in
    let input = PortLacks c.args.self.now c.args.path.now.input in
    let output = PortLacks c.args.self.now c.args.path.now.output in
    record {
      value = rw (c.lesser.ensures.value, c.lesser-ports.ensures.value)
          (either (ForOne (StepLacks c.args.self.now) c.args.path.now.steps) (λ n. input n ⊎ output n) _ _ steps (either input output _ _ c.port.ensures.value c.port-2.ensures.value));
    }
