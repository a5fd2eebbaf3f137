use Rattle.std.proofs.Common.{◌≡◌, ◌-◌, ◌+◌, ◌<◌, ℕ, List, Bool, false, length, reverse, drop, arith, get_or, ap, sym, ◌∙◌}
use Rattle.std.proofs.lemmas.List.{get_or-reverse, length-reverse}
use Rattle.stil_tester.specs.declared.chains.ChainBits.{ChainBits}
use Rattle.stil_tester.specs.Symbols.{differ, parity_of}
use Rattle.retarget.specs.declared.side.Side.TheVariants.{Load, Compare}
use Rattle.retarget.specs.Places.{parity_to, parity_after}
use Rattle.retarget.specs.Sides.{parity_at}
use Rattle.retarget.proofs.ExitOrder.{before_is, behind_is, behind_more, push_more, push_range}
use Rattle.retarget.proofs.exits.Exits.push_chain.Goals as goal

pub loop-k-preserved : goal.loop-k-preserved
loop-k-preserved c =
    let chain : ChainBits = c.args.chain.now in
    let cells : List ℕ = chain.cells in
    let ps : List Bool = chain.parity in
    let bs : List ℕ = c.as_slice-bits.result.now in
    let qs : List Bool = c.as_slice-parities.result.now in
    let bits : bs ≡ cells = c.as_slice-bits.ensures.value in
    let parities : qs ≡ ps = c.as_slice-parities.ensures.value in
    let k : ℕ = c.loop-k.k in
    let long : length ps ≡ length cells = c.requires.parities in
    let within : k < length cells = omega (arith, c.loop-k-test.true, ap length bits) in
    let place : ℕ = length cells - 1 - k in
    let behind : c.loop-k.behind ≡ parity_after chain place = c.loop-k.invariant.behind ∙ behind_is chain k within in
    record {
      cells = push_more (reverse cells) k 0 c.args.self.now.cells c.loop-k.self.cells c.push.new.self _ (omega (arith, length-reverse cells))
          ((λ i. get_or (bits i) (length (bits i) - 1 - k) 0) ∙ sym (get_or-reverse cells k 0 within)) c.in_ok-push.ensures.ok c.loop-k.invariant.cells;
      loads = push_range (λ (n : ℕ). parity_at Load chain (length cells - 1 - n)) k c.args.self.now.loads c.loop-k.self.loads c.push-in-loop-k.new.self _
          ((λ i. differ (behind i) (c.loop-k.invariant.whole i)) ∙ before_is chain place) c.in_ok-push-2.ensures.ok c.loop-k.invariant.loads;
      compares = push_range (λ (n : ℕ). parity_at Compare chain (length cells - 1 - n)) k c.args.self.now.compares c.loop-k.self.compares c.push-in-loop-k-2.new.self _ behind c.in_ok-push-3.ensures.ok c.loop-k.invariant.compares;
      whole = c.loop-k.invariant.whole;
      behind = (λ i. differ (c.loop-k.invariant.behind i) (get_or (parities i) (length (bits i) - 1 - k) false))
          ∙ behind_more chain k long within;
    }
