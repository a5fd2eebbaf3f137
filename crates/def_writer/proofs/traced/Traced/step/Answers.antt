use Rattle.std.proofs.Common.{ap, ◌∙◌, List}
use Rattle.std.specs.List.{find}
use Rattle.chain_trace.specs.declared.path.Path.{Path}
use Rattle.traced_paths.specs.Traced.{steps_of}
use Rattle.def_writer.specs.PlanChains.{is_at}
use Rattle.def_writer.proofs.traced.Traced.step.Goals as goal

pub returns-in-Some : goal.returns-in-Some
returns-in-Some c = record {
  value = c.in-Some.ensures.value ∙ c.self.invariant.first (c.args.instance, c.args.path) ∙ ap (λ (paths : List Path). find (is_at c.args.instance c.args.path) (steps_of paths)) c.self.view_is;
}

pub returns-in-None : goal.returns-in-None
returns-in-None c = record {
  value = c.in-None.ensures.value ∙ c.self.invariant.first (c.args.instance, c.args.path) ∙ ap (λ (paths : List Path). find (is_at c.args.instance c.args.path) (steps_of paths)) c.self.view_is;
}
