use Rattle.std.proofs.Common.{arith}
use Rattle.std.proofs.lemmas.Result.{err_from_is_err_and}
use Rattle.desk_io.specs.declared.slot.Slot.TheVariants.{Stil}
use Rattle.desk_io.proofs.Steps.{elsewhere_then, names_then}
use Rattle.stil_stream.specs.Streams.{Wants}
use Rattle.stil_input.proofs.Drawn.{come-as, wants-unended, come-wants, come-drawn, says-head, head-refuses, head-fails}
use Rattle.stil_input.proofs.input.StilInput.next_head.Goals as goal

pub loop-self-preserved : goal.loop-self-preserved
loop-self-preserved g c =
    let come = come-as _ _ _ _ _ c.self.view_is c.loop-self.invariant.come in
    let w : Wants c.self.inside.stream c.next_head.new.self = rw c.in-Want.is at c.in_ok-next_head.ensures.answers in
    record {
      come = come-drawn _ _ _ _ _ _ (come-wants _ _ _ _ _ come w) (wants-unended _ _ w) c.in_ok-draw-in-Want.ensures.ok;
      elsewhere = elsewhere_then Stil _ _ _ c.loop-self.invariant.elsewhere c.in_ok-draw-in-Want.ensures.elsewhere;
      names = names_then _ _ _ c.loop-self.invariant.names c.in_ok-draw-in-Want.ensures.names;
    }

pub returns-in_err-next_head-clause-gives : goal.returns-in_err-next_head-clause-gives
returns-in_err-next_head-clause-gives g c =
    let come = come-as _ _ _ _ _ c.self.view_is c.loop-self.invariant.come in
    let p = err_from_is_err_and c.from_residual.result c.from_residual.ensures.1 in
    rw (p.1, p.2) (head-refuses c.args.self.now c.self.inside.stream c.next_head.new.self _ _ c.in_err-next_head.field-0.0 come c.in_err-next_head.ensures.answers)

pub returns-in_err-draw-in-Want-clause-gives : goal.returns-in_err-draw-in-Want-clause-gives
returns-in_err-draw-in-Want-clause-gives g c =
    let come = come-as _ _ _ _ _ c.self.view_is c.loop-self.invariant.come in
    let p = err_from_is_err_and c.from_residual-in_err-draw-in-Want.result c.from_residual-in_err-draw-in-Want.ensures.1 in
    rw (p.1, p.2) (head-fails c.args.self.now c.self.inside.stream c.draw.new.self _ _ _ c.in_err-draw-in-Want.field-0.0 come c.in_err-draw-in-Want.ensures.failed)

pub returns-in-Head-clause-gives : goal.returns-in-Head-clause-gives
returns-in-Head-clause-gives g c =
    let come = come-as _ _ _ _ _ c.self.view_is c.loop-self.invariant.come in
    let out = rw c.in-Head.is at c.in_ok-next_head.ensures.answers in
    let small = rw c.in-Head.is at c.in_ok-next_head.ensures.small in
    (omega (arith, small), λ head. says-head head c.args.self.now c.self.inside.stream c.next_head.new.self _ _ come c.in-Head.text _ (out head) c.requires.in_head)
