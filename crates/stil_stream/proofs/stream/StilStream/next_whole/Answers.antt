use Rattle.std.proofs.Common.{◌+◌, ◌-◌, take, drop, refl, ap, sym, ◌∙◌}
use Rattle.stil_stream.specs.Streams.{Streaming}
use Rattle.stil_stream.proofs.Answering.{denoted-out, refused-whole, answers-first, slice-is}
use Rattle.stil_stream.proofs.stream.StilStream.next_whole.Goals as goal

pub returns-in-Ok-clause-answers : goal.returns-in-Ok-clause-answers
returns-in-Ok-clause-answers c =
    let s = c.self.inside in
    let old = c.args.self.now in
    let now = c.deref.result.now in
    let text = take (s.at + c.args.len - s.at) (drop s.at now) in
    let is = slice-is old s.buffer.items now text s.at c.args.len (ap (λ (o : Streaming). o.kept) c.self.view_is) c.deref.ensures.value refl in
    denoted-out c.args.head.now old c.hand_out.new.self c.requires.sound c.requires.behind_head c.args.len c.args.point c.saturating_sub-pattern.result s.point.line text c.in-Ok.statement is
    (c.saturating_sub-pattern.ensures ∙ ap (λ (o : Streaming). o.point.opened - 1) c.self.view_is) (ap (λ (o : Streaming). o.point.line) c.self.view_is) c.in-Ok.ensures.value c.hand_out.ensures.value c.requires.is

pub returns-in-Err-Fault-clause-answers : goal.returns-in-Err-Fault-clause-answers
returns-in-Err-Fault-clause-answers c =
    let s = c.self.inside in
    let old = c.args.self.now in
    let now = c.deref.result.now in
    let text = take (s.at + c.args.len - s.at) (drop s.at now) in
    let is = slice-is old s.buffer.items now text s.at c.args.len (ap (λ (o : Streaming). o.kept) c.self.view_is) c.deref.ensures.value refl in
    let first = refused-whole c.args.head.now old c.refuse.new.self c.requires.sound c.requires.behind_head c.args.len c.args.point s.point.line text _ c.part_fault.result is
    (ap (λ (o : Streaming). o.point.line) c.self.view_is) (rw c.in-Err-Fault.field-0-is at c.in-Err-Fault.ensures.first) (sym c.in-Err-Fault.fault-is ∙ c.part_fault.ensures) c.refuse.ensures.value c.requires.is in
    answers-first c.args.head.now old c.refuse.new.self c.requires.sound c.requires.behind_head c.part_fault.result c.refuse.result c.refuse.ensures.answer first
