use Rattle.std.proofs.Common.{sym, ◌∙◌}
use Rattle.chain_trace.specs.Paths.{drives}
use Rattle.traced_paths.proofs.PortNames.{found_named, found_direction, not_found}
use Rattle.traced_paths.proofs.ports.input.Goals as goal

pub returns-in_default : goal.returns-in_default
returns-in_default c = record { value = λ net h. not_found c.args.ports.now c.in_default.ensures.sound drives c.args.name.now net (sym c.in_default.ensures.value) h }

pub returns-then-drives : goal.returns-then-drives
returns-then-drives c = record {
  value = found_named c.args.ports.now c.in-Some.ensures.sound drives c.args.name.now c.in-Some.port (sym c.in-Some.ensures.value) (sym c.drives.ensures.value ∙ c.if-drives.true);
}

pub returns : goal.returns
returns c = record {
  value = λ net h.
      let yes = found_direction c.args.ports.now c.in-Some.ensures.sound drives c.args.name.now c.in-Some.port net (sym c.in-Some.ensures.value) h in
      let no = sym c.drives.ensures.value ∙ c.if-drives.false in
      absurd cc;
}
