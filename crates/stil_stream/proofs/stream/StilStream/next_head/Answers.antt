use Rattle.std.proofs.Common.{◌≡◌, ◌≤◌, ℕ, ◌-◌, List, length, take, drop, false, ap, sym, subst, ◌∙◌, arith}
use Rattle.std.proofs.lemmas.Bool.{true≢false, leb-true}
use Rattle.std.proofs.lemmas.List.{length-take-le}
use Rattle.stil_parts.specs.declared.gap.Place.TheVariants.{Top}
use Rattle.stil_parts.specs.declared.gap.Comment.TheVariants.{Outside}
use Rattle.stil_parts.specs.Coming.{largest, moved}
use Rattle.stil_parts.specs.Heads.{head_end}
use Rattle.stil_stream.specs.Streams.{Streaming}
use Rattle.stil_stream.specs.Walks.{IsWalked}
use Rattle.stil_stream.proofs.Held.{held-walk}
use Rattle.stil_stream.proofs.Answering.{limit-is, rest-is, head-out, head-large, answers-large}
use Rattle.stil_stream.proofs.stream.StilStream.next_head.Goals.{then-self, else-self}
use Rattle.stil_stream.proofs.stream.StilStream.next_head.Goals as goal

pub walk_on-requires : goal.walk_on-requires
walk_on-requires c =
    let s = c.self.inside in
    let now = c.deref.result.now in
    let rest = take (length now - s.at) (drop s.at now) in
    let before_head = rw (← c.self.view_is) at c.requires.in_head in
    let same = limit-is rest c.min-limit.result c.min-limit.ensures ∙ ap (take largest) (rest-is s.buffer.items now s.at c.deref.ensures.value) in
    record { walked = subst (λ (x : List ℕ). IsWalked x s.walk) (sym same) (c.self.invariant.walked before_head) }

pub invariant_of-self : goal.invariant_of-self
invariant_of-self c =
    let s = c.self.inside in
    let now = c.deref.result.now in
    let rest = take (length now - s.at) (drop s.at now) in
    let is = rest-is s.buffer.items now s.at c.deref.ensures.value in
    let same = limit-is rest c.min-limit.result c.min-limit.ensures ∙ ap (take largest) is in
    held-walk s.buffer.items s.at s.hungry s.in_head s.point s.walk s.done s.scan c.self.invariant c.in-Open.walk (omega (arith, ap length is, c.if-kept-le-LARGEST.true))
    (subst (λ (x : List ℕ). IsWalked x c.in-Open.walk) same c.in-Open.ensures.value.2)

pub returns-in_ok-text-in-End : goal.returns-in_ok-text-in-End
returns-in_ok-text-in-End c =
    let s = c.self.inside in
    let old = c.args.self.now in
    let now = c.deref.result.now in
    let rest = take (length now - s.at) (drop s.at now) in
    let k : rest ≡ old.kept = rest-is s.buffer.items now s.at c.deref.ensures.value ∙ ap (λ (o : Streaming). o.kept) c.self.view_is in
    let len = ap length k in
    let n = c.in-End.len in
    let limit = c.min-limit.result in
    let within : length (take limit rest) ≤ limit = omega (arith, length-take-le limit rest (omega (arith, c.min-limit.ensures))) in
    let text = c.in_ok-text-in-End.text in
    let h = c.in-End.ensures.value in
    let sound = sym (ap (λ (o : Streaming). o.fault) c.self.view_is) ∙ c.in_default.is in
    let point : c.behind_head-point.result ≡ moved old.point text Top Outside =
    c.behind_head-point.ensures.value ∙ ap (λ (t : List ℕ). moved s.point t Top Outside) c.bytes.ensures.value ∙ ap (λ (o : Streaming). moved o.point text Top Outside) c.self.view_is in
    record {
      answers = λ head. head-out old c.hand_out.new.self sound c.requires.in_head head c.if-self.walk_on n limit c.behind_head-point.result text c.hand_out.ensures.value
          (c.in_ok-text-in-End.ensures.value ∙ ap (take n) k) point c.behind_head-point.ensures.early (omega (arith, c.min-limit.ensures, len)) (omega (arith, c.min-limit.ensures))
          (λ few. omega (arith, c.min-limit.ensures, len))
          (λ e. elim c.if-self.branch [
            | then-self w ↦ let a = w.walk_on-is in let b = w.if-self.true in (sym (ap (λ (o : Streaming). o.ended) c.self.view_is) ∙ b, omega (arith, len, leb-true (length rest) largest (sym a ∙ e)))
            | else-self w ↦ let a = w.walk_on-is in absurd (true≢false (sym e ∙ a ∙ w.if-self.false))
          ])
          (sym (ap (λ (x : List ℕ). head_end c.if-self.walk_on Outside 0 (take limit x)) k) ∙ h.0) (omega (arith, h.1, ap (λ (x : List ℕ). length (take limit x)) k));
      small = omega (arith, ap length c.in_ok-text-in-End.ensures.value, length-take-le n rest (omega (arith, within, h.1)), within, h.1, c.min-limit.ensures);
    }

pub returns-in-Open-2 : goal.returns-in-Open-2
returns-in-Open-2 c =
    let s = c.self.inside in
    let old = c.args.self.now in
    let now = c.deref.result.now in
    let rest = take (length now - s.at) (drop s.at now) in
    let k : rest ≡ old.kept = rest-is s.buffer.items now s.at c.deref.ensures.value ∙ ap (λ (o : Streaming). o.kept) c.self.view_is in
    let same = limit-is rest c.min-limit.result c.min-limit.ensures ∙ ap (take largest) k in
    let sound = sym (ap (λ (o : Streaming). o.fault) c.self.view_is) ∙ c.in_default.is in
    let none = sym (ap (head_end false Outside 0) same) ∙ c.in-Open.ensures.value.1 in
    record {
      answers = answers-large old c.refuse.new.self c.refuse.result c.refuse.ensures.answer
          (λ head. head-large old c.refuse.new.self sound c.requires.in_head head c.refuse.ensures.value (omega (arith, ap length k, c.if-kept-le-LARGEST.false)) none);
      small = tt;
    }
