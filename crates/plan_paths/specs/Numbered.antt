-- Paths as numbers, whatever bits their steps have and whichever of their outputs are free.
use Rattle.std.specs.Prelude.{Bool, List, map}
use Rattle.chain_trace.specs.declared.path.Step.{Step}
use Rattle.chain_trace.specs.declared.path.Path.{Path}
use Rattle.chain_rules.specs.declared.spec.StepSpec.{StepSpec}
use Rattle.chain_rules.specs.declared.spec.PathSpec.{PathSpec}
use Rattle.chain_rules.specs.Stretches.{IsOf}

-- the numbers of a step, and whether the output of a path is free
pub record PathNumbers : Type 0 where
  pub of_step : Step → StepSpec
  pub free : Path → Bool
  pub keeps : (step : Step) → IsOf (of_step step) step.instance step.path

-- a path as numbers
abbrev pub numbered_path : PathNumbers → Path → PathSpec
numbered_path N path = record { input = path.input.0; output = path.output.0; free_out = N.free path; steps = map N.of_step path.steps }

-- paths as numbers
abbrev pub numbered_paths : PathNumbers → List Path → List PathSpec
numbered_paths N paths = map (numbered_path N) paths
