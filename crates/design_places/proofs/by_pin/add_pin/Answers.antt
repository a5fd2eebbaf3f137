use Rattle.std.proofs.Common.{sym, ◌∙◌}
use Rattle.design_places.proofs.PinsNoted.{pin_added, pin_back}
use Rattle.design_places.proofs.by_pin.add_pin.Goals as goal

pub returns-in_ok-insert-in-Some : goal.returns-in_ok-insert-in-Some
returns-in_ok-insert-in-Some c = record {
  ok = λ q.
      pin_back c.key_of-key.result q c.args.places.now.entries c.args.place c.args.pin.now c.key_of-key.ensures.value c.in-Some.first _ _ (sym c.in-Some.is ∙ c.in_ok-first.ensures.old) (c.in_ok-first.ensures.updates.0 q)
      (c.in_ok-insert-in-Some.ensures.updates.0 q);
}

pub returns-in-None : goal.returns-in-None
returns-in-None c = record {
  ok = λ q. pin_added c.key_of-key.result q c.args.places.now.entries c.args.place c.args.pin.now c.key_of-key.ensures.value _ (sym c.in-None.is ∙ c.in_ok-first.ensures.old) (c.in_ok-first.ensures.updates.0 q);
}
