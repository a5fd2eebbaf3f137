use Rattle.std.proofs.Common.{◌≡◌, ◌+◌, ◌-◌, ◌<◌, ℕ, arith, List, Bool, take, false, sym, ap, ◌∙◌, get_or, length}
use Rattle.std.specs.Prelude.{slice_set}
use Rattle.stil_tester.specs.declared.chains.ChainBits.{ChainBits}
use Rattle.stil_tester.specs.Symbols.{differ, parity_of}
use Rattle.retarget.specs.Places.{parity_to, parity_after}
use Rattle.retarget.proofs.Parities.{parity_of-more, parity_after_is}
use Rattle.retarget.specs.declared.home.Home.{Home}
use Rattle.retarget.specs.Homes.{home_in, ArePut}
use Rattle.retarget.proofs.Placed.{put_more}
use Rattle.retarget.proofs.homes.put_homes.Goals as goal

pub loop-place-preserved : goal.loop-place-preserved
loop-place-preserved c =
    let chain : ChainBits = c.args.chain.now in
    let n : ℕ = c.loop-place.place in
    let ps : List Bool = c.as_slice-parities.result.now in
    let cs : List ℕ = c.as_slice-cells.result.now in
    let same : ps ≡ chain.parity = c.as_slice-parities.ensures.value in
    let cells : cs ≡ chain.cells = c.as_slice-cells.ensures.value in
    let within : n < length chain.parity = omega (arith, ap length same, ap length cells, c.requires.parities) in
    let whole : Bool = differ c.sum_of.result chain.out_parity in
    let load : Bool = differ c.loop-place.load (get_or ps n false) in
    let home : Home = record { chain = c.args.number; place = n; exit = length cs - 1 - n; load = load; compare = differ load whole } in
    let more : load ≡ parity_to chain n
    = ap (λ q. differ q (get_or ps n false)) c.loop-place.invariant.load ∙ ap (λ q. differ (parity_of (take n chain.parity)) (get_or q n false)) same ∙ sym (parity_of-more chain.parity n false within) in
    let after : differ load whole ≡ parity_after chain n
    = ap (λ q. differ q whole) more ∙ ap (differ (parity_to chain n)) c.loop-place.invariant.whole ∙ parity_after_is chain n in
    let is : home ≡ home_in c.args.number chain n = λ i. record { chain = c.args.number; place = n; exit = length (cells i) - 1 - n; load = more i; compare = after i } in
    let there : get_or chain.cells n 0 ≡ get_or cs n 0 = ap (λ q. get_or q n 0) (sym cells) in
    let put : ArePut c.args.number chain c.args.homes.now (slice_set c.loop-place.homes (get_or cs n 0) home) chain.cells (n + 1)
    = put_more c.args.number chain c.args.homes.now c.loop-place.homes chain.cells n (get_or cs n 0) home there
    (omega (arith, there, c.requires.within n (omega (arith, ap length cells)), c.loop-place.auto.homes)) is c.loop-place.invariant.put in
    record {
      whole = c.loop-place.invariant.whole;
      load = more;
      put = put;
    }
