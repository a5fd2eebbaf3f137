use Rattle.std.proofs.Common.{ℕ, ◌+◌, ◌-◌, List, take, drop, refl, ap, sym, ◌∙◌}
use Rattle.stil_calls.specs.Parts.{judge_of}
use Rattle.stil_reader.specs.Sayings.{name_in}
use Rattle.stil_stream.specs.Streams.{Streaming, handed_out}
use Rattle.stil_stream.proofs.Answering.{pass-out, part-first, answers-first, slice-is}
use Rattle.stil_stream.proofs.stream.StilStream.next_part.Goals as goal

pub returns-in-Some : goal.returns-in-Some
returns-in-Some c =
    let s = c.self.inside in
    let old = c.args.self.now in
    let now = c.deref.result.now in
    let part = c.args.part in
    let text = take (s.at + c.part_len-len.result - s.at) (drop s.at now) in
    let is = slice-is old s.buffer.items now text s.at c.part_len-len.result (ap (λ (o : Streaming). o.kept) c.self.view_is) c.deref.ensures.value refl ∙ ap (λ (n : ℕ). take n old.kept) c.part_len-len.ensures.value in
    let here = ap (λ (t : List ℕ). judge_of c.args.head.now old.point part t) (sym is) ∙ ap (λ (o : Streaming). judge_of c.args.head.now o.point part text) (sym c.self.view_is)
    ∙ sym c.in_ok-fault.ensures.value ∙ c.in-Some.is in
    let first = part-first c.args.head.now old c.refuse.new.self c.requires.sound c.requires.behind_head part c.args.point c.in-Some.fault c.refuse.ensures.value c.requires.is here in
    record { answers = answers-first c.args.head.now old c.refuse.new.self c.requires.sound c.requires.behind_head c.in-Some.fault c.refuse.result c.refuse.ensures.answer first; accepted = tt }

pub returns : goal.returns
returns c =
    let s = c.self.inside in
    let old = c.args.self.now in
    let now = c.deref.result.now in
    let part = c.args.part in
    let text = take (s.at + c.part_len-len.result - s.at) (drop s.at now) in
    let is = slice-is old s.buffer.items now text s.at c.part_len-len.result (ap (λ (o : Streaming). o.kept) c.self.view_is) c.deref.ensures.value refl ∙ ap (λ (n : ℕ). take n old.kept) c.part_len-len.ensures.value in
    let fine = ap (λ (t : List ℕ). judge_of c.args.head.now old.point part t) (sym is) ∙ ap (λ (o : Streaming). judge_of c.args.head.now o.point part text) (sym c.self.view_is)
    ∙ sym c.in_ok-fault.ensures.value ∙ c.in_default-2.is in
    record {
      answers = pass-out c.args.head.now old c.hand_out.new.self c.requires.sound c.requires.behind_head part c.args.point c.in_ok-text.text c.in_ok-pattern.pattern c.in_default.not-Whole
          (c.hand_out.ensures.value ∙ ap (λ (n : ℕ). handed_out n c.args.point old) c.part_len-len.ensures.value) (c.in_ok-text.ensures.value ∙ is)
          (c.in_ok-pattern.ensures.value ∙ ap (name_in part) is) c.requires.is fine;
      accepted = tt;
    }
