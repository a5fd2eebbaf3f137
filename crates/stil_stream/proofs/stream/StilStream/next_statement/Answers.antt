use Rattle.std.proofs.Common.{ℕ, ◌-◌, List, length, take, drop, None, refl, ap, sym, subst, ◌∙◌}
use Rattle.stil_parts.specs.Coming.{Judge}
use Rattle.stil_parts.specs.Deciding.{IsPart, IsStopped, IsWanting}
use Rattle.stil_calls.specs.Parts.{judge_of}
use Rattle.stil_stream.specs.Streams.{Streaming, AreGaps, Wants, HasEnded, hungry_again}
use Rattle.stil_stream.proofs.Held.{held-want}
use Rattle.stil_stream.proofs.Answering.{gaps-here, wants-more, answers-first, stop-first, rest-is}
use Rattle.stil_stream.proofs.stream.StilStream.next_statement.Goals as goal

abbrev no_fault : Judge
no_fault p part text = None

pub invariant_of-self : goal.invariant_of-self
invariant_of-self c =
    let s = c.self.inside in
    let now = c.deref.result.now in
    let h = c.in-Want.ensures.value no_fault in
    let behind = rw (← c.self.view_is) at c.requires.behind_head in
    held-want s.buffer.items s.at s.hungry s.in_head s.point s.walk s.done s.scan c.self.invariant no_fault (take (length now - s.at) (drop s.at now)) _ c.in-Want.scan behind
    (rest-is s.buffer.items now s.at c.deref.ensures.value) refl h.0.none h.1

pub next_gap-requires-clause-is : goal.next_gap-requires-clause-is
next_gap-requires-clause-is c =
    let s = c.self.inside in
    let now = c.deref.result.now in
    subst (λ (o : Streaming). AreGaps o.ended o.point o.kept c.in-Gap.len c.in-Gap.point) c.self.view_is
    (gaps-here s.ended s.point (take (length now - s.at) (drop s.at now)) (drop s.at s.buffer.items) c.in-Gap.len c.in-Gap.point (rest-is s.buffer.items now s.at c.deref.ensures.value) c.in-Gap.ensures.value)

pub next_part-requires-clause-is : goal.next_part-requires-clause-is
next_part-requires-clause-is c =
    let s = c.self.inside in
    let now = c.deref.result.now in
    let judge = judge_of c.args.head.now in
    subst (λ (o : Streaming). IsPart judge o.ended o.point o.kept c.in-Part.part c.in-Part.point) c.self.view_is
    (subst (λ (x : List ℕ). IsPart judge s.ended s.point x c.in-Part.part c.in-Part.point) (rest-is s.buffer.items now s.at c.deref.ensures.value) (c.in-Part.ensures.value judge))

pub returns-in-Gap-clause-answers : goal.returns-in-Gap-clause-answers
returns-in-Gap-clause-answers c = (c.next_gap.ensures.answers c.args.head.now).0

pub returns-in-Gap-clause-accepted : goal.returns-in-Gap-clause-accepted
returns-in-Gap-clause-accepted c = (c.next_gap.ensures.answers c.args.head.now).1

pub returns-in-Want-clause-answers : goal.returns-in-Want-clause-answers
returns-in-Want-clause-answers c =
    let s = c.self.inside in
    let now = c.deref.result.now in
    let judge = judge_of c.args.head.now in
    let old : Streaming = record { kept = drop s.at s.buffer.items; ended = s.ended; hungry = s.hungry; in_head = s.in_head; point = s.point; fault = s.fault } in
    let behind = rw (← c.self.view_is) at c.requires.behind_head in
    let wanting = subst (λ (x : List ℕ). IsWanting judge s.ended s.point x) (rest-is s.buffer.items now s.at c.deref.ensures.value) (c.in-Want.ensures.value judge).0 in
    subst (λ (o : Streaming). Wants o (hungry_again old)) c.self.view_is (wants-more c.args.head.now old (hungry_again old) c.in_default.is behind refl wanting)

pub returns-in-Stop-clause-answers : goal.returns-in-Stop-clause-answers
returns-in-Stop-clause-answers c =
    let s = c.self.inside in
    let old = c.args.self.now in
    let now = c.deref.result.now in
    let judge = judge_of c.args.head.now in
    let f = c.in-Stop.fault in
    let sound = sym (ap (λ (o : Streaming). o.fault) c.self.view_is) ∙ c.in_default.is in
    let stopped = subst (λ (o : Streaming). IsStopped judge o.ended o.point o.kept f) c.self.view_is
    (subst (λ (x : List ℕ). IsStopped judge s.ended s.point x f) (rest-is s.buffer.items now s.at c.deref.ensures.value) (c.in-Stop.ensures.value judge)) in
    answers-first c.args.head.now old c.refuse.new.self sound c.requires.behind_head f c.refuse.result c.refuse.ensures.answer
    (stop-first c.args.head.now old c.refuse.new.self sound c.requires.behind_head f c.refuse.ensures.value stopped)

pub returns-in-End-clause-answers : goal.returns-in-End-clause-answers
returns-in-End-clause-answers c =
    let s = c.self.inside in
    let h = c.in-End.ensures.value no_fault in
    subst (λ (o : Streaming). HasEnded o o) c.self.view_is (record {
      sound = c.in_default.is;
      ended = h.ended;
      nothing_left = sym (rest-is s.buffer.items c.deref.result.now s.at c.deref.ensures.value) ∙ h.nothing_left;
      at_top = h.at_top;
      same = refl;
    })
