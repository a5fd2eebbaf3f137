use Rattle.std.proofs.Common.{List, ◌-◌, length, sym, ap, ◌∙◌}
use Rattle.std.specs.List.{slice_get}
use Rattle.chain_trace.specs.declared.path.Step.{Step}
use Rattle.chain_trace.specs.declared.path.Source.TheVariants as sources
use Rattle.path_links.proofs.Lasts.{last_is}
use Rattle.path_links.proofs.outputs.last_of.Goals as goal

pub returns-in-Some : goal.returns-in-Some
returns-in-Some c = record {
  value = sym (
      last_is (sources.Port c.args.path.now.input) c.args.path.now.steps c.in-Some.step.now
      (sym (c.in-Some.ensures.value ∙ ap (λ (l : List Step). slice_get l (length l - 1)) c.as_slice.ensures.value)));
}
