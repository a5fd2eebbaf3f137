use Rattle.std.proofs.Common.{◌+◌, nat_lt, List, ℕ, ap, ◌∙◌, arith}
use Rattle.std.specs.Prelude.{count_by}
use Rattle.chain_rules.specs.declared.spans.Span.{Span}
use Rattle.chain_rules.specs.Spans.{overlap}
use Rattle.chain_rules.proofs.Overlaps.{meeting_is}
use Rattle.chain_rules.proofs.spans.Spans.meeting.Goals as goal

pub overflow_sub-result : goal.overflow_sub-result
overflow_sub-result c =
    let span = c.args.span in
    let is = meeting_is span c.self.inside.all.items c.self.inside.begins.items c.self.inside.ends.items c.requires.some c.self.invariant in
    let begins = c.below.ensures.value ∙ ap (λ (ns : List ℕ). count_by (λ n. nat_lt n span.to) ns) c.deref.ensures.value in
    let ends = c.below-2.ensures.value ∙ ap (λ (ns : List ℕ). count_by (λ n. nat_lt n (span.from + 1)) ns) c.deref-2.ensures.value in
    omega (arith, is, begins, ends)

pub returns : goal.returns
returns c =
    let span = c.args.span in
    let is = meeting_is span c.self.inside.all.items c.self.inside.begins.items c.self.inside.ends.items c.requires.some c.self.invariant in
    let begins = c.below.ensures.value ∙ ap (λ (ns : List ℕ). count_by (λ n. nat_lt n span.to) ns) c.deref.ensures.value in
    let ends = c.below-2.ensures.value ∙ ap (λ (ns : List ℕ). count_by (λ n. nat_lt n (span.from + 1)) ns) c.deref-2.ensures.value in
    let seen = ap (λ (spans : List Span). count_by (overlap span) spans) c.self.view_is in
    record { value = omega (arith, is, begins, ends, seen) }
