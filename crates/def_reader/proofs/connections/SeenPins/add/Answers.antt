use Rattle.def_reader.specs.Steps.{has_pin_key, pin_of_key, same_key}
use Rattle.def_reader.proofs.Again.{seen_more}
use Rattle.def_reader.proofs.PinKeys.{key_exact, key_back}
use Rattle.def_reader.proofs.connections.SeenPins.add.Goals as goal

pub returns : goal.returns
returns c = record {
  value = λ rows seen.
      rw (c.lesser-self.ensures.value, c.line_if.ensures.value, ← c.key_of.ensures.value)
      (seen_more pin_of_key (has_pin_key c.args.self.now.pins) (has_pin_key c.insert.new.self) (λ q. same_key c.key_of.result q) c.key_of.result (key_exact c.key_of.result) (key_back c.key_of.result)
      c.in_ok-again.field-0 c.args.self.now.least rows c.args.line (λ q. c.in_ok-again.ensures.updates.0 q) c.in_ok-again.ensures.added seen);
}
