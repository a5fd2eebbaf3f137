use Rattle.std.proofs.Common.{sym, ap, ◌∙◌}
use Rattle.stil_calls.specs.Keys.{keys_rise}
use Rattle.stil_calls.proofs.Apart.{none_by_keys}
use Rattle.stil_calls.proofs.twice.gives_twice.Goals as goal

pub returns-then-keys_rise : goal.returns-then-keys_rise
returns-then-keys_rise c = record {
  value = none_by_keys c.args.items.now c.in_ok-keys.keys.items c.sort_unstable.new.self.items c.in_ok-keys.ensures.value c.sort_unstable.ensures.permutation
      (ap keys_rise (sym c.deref.ensures.value) ∙ sym c.keys_rise.ensures.value ∙ c.if-keys_rise.true);
}
