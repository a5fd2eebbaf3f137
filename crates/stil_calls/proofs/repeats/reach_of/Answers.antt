use Rattle.std.proofs.Common.{ap, sym, ◌∙◌, ℕ, List}
use Rattle.stil_calls.specs.declared.repeats.Escape.{Escape}
use Rattle.stil_calls.specs.Repeats.{repeats_from, repeats_of}
use Rattle.stil_calls.proofs.Plain.{first_reach, next_reach, reached}
use Rattle.stil_calls.proofs.repeats.reach_of.Goals as goal

pub loop-repeat-init : goal.loop-repeat-init
loop-repeat-init c =
    first_reach c.behind_plain-now.result.before c.behind_plain-now.result.reach c.plain.result.now (repeats_from c.plain.new.self.escape c.plain.new.self.bytes.now) (repeats_of c.args.bytes.now)
    (ap (λ (e : Escape). repeats_from e c.args.bytes.now) (sym c.of-repeats.ensures.escape) ∙ ap (λ (bs : List ℕ). repeats_from c.of-repeats.result.escape bs) (sym c.of-repeats.ensures.bytes) ∙ c.plain.ensures.value)
    c.behind_plain-now.ensures.reaching

pub loop-repeat-preserved : goal.loop-repeat-preserved
loop-repeat-preserved c =
    next_reach c.loop-repeat.now.before c.loop-repeat.now.reach c.behind_repeat.result.before c.behind_repeat.result.reach c.behind_plain-now-in-Some.result.before c.behind_plain-now-in-Some.result.reach
    c.plain-in-Some.result.now c.in-Some.repeat
    (repeats_from c.loop-repeat.repeats.escape c.loop-repeat.repeats.bytes.now) (repeats_from c.next.new.self.escape c.next.new.self.bytes.now) (repeats_from c.plain-in-Some.new.self.escape c.plain-in-Some.new.self.bytes.now)
    (repeats_of c.args.bytes.now) c.loop-repeat.invariant c.in-Some.ensures.value c.plain-in-Some.ensures.value c.behind_repeat.ensures.reaching c.behind_plain-now-in-Some.ensures.reaching

pub returns : goal.returns
returns c = record {
  value = reached c.loop-repeat.now.before c.loop-repeat.now.reach (repeats_from c.loop-repeat.repeats.escape c.loop-repeat.repeats.bytes.now) (repeats_of c.args.bytes.now) (c.in_default.ensures.value.0) c.loop-repeat.invariant;
}
