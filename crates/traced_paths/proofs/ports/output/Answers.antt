use Rattle.std.proofs.Common.{sym, ◌∙◌}
use Rattle.chain_trace.specs.Paths.{is_driven}
use Rattle.traced_paths.proofs.PortNames.{found_named, found_direction, not_found}
use Rattle.traced_paths.proofs.ports.output.Goals as goal

pub returns-in_default : goal.returns-in_default
returns-in_default c = record { value = λ net h. not_found c.args.ports.now c.in_default.ensures.sound is_driven c.args.name.now net (sym c.in_default.ensures.value) h }

pub returns-then-is_driven : goal.returns-then-is_driven
returns-then-is_driven c = record {
  value = found_named c.args.ports.now c.in-Some.ensures.sound is_driven c.args.name.now c.in-Some.port (sym c.in-Some.ensures.value) (sym c.is_driven.ensures.value ∙ c.if-is_driven.true);
}

pub returns : goal.returns
returns c = record {
  value = λ net h.
      let yes = found_direction c.args.ports.now c.in-Some.ensures.sound is_driven c.args.name.now c.in-Some.port net (sym c.in-Some.ensures.value) h in
      let no = sym c.is_driven.ensures.value ∙ c.if-is_driven.false in
      absurd cc;
}
