use Rattle.std.proofs.Common.{◌≡◌, ◌∙◌, ℕ, List, arith, ap, get_or, slice_index_or}
use Rattle.chain_rules.specs.declared.unit.ChainRule.{ChainRule}
use Rattle.chain_rules.specs.Legality.{unit_at, rule_at, no_rule}
use Rattle.chain_balance.specs.Gains.{at_place, bits_in}
use Rattle.chain_balance.proofs.Loads.{pass_asks}
use Rattle.chain_balance.proofs.transfer.move_unit.Goals as goal

pub pass_bits-requires-clause-some : goal.pass_bits-requires-clause-some
pass_bits-requires-clause-some c =
    let asks = pass_asks c.args.rules.now c.args.fixed.now c.args.work.now c.args.most c.args.gain.giver c.args.gain.place c.args.gain.taker c.requires.is c.requires.paths c.requires.from c.requires.taker c.requires.other c.requires.room in
    let bits : c.unit_bits-bits.result ≡ bits_in c.args.rules.now c.args.work.now.plan (at_place c.args.gain.giver c.args.gain.place)
    = c.unit_bits-bits.ensures.value ∙ ap (λ (u : ℕ). (unit_at c.args.rules.now u).bits) c.remove-unit.ensures.value in
    let load : slice_index_or c.as_mut_slice.result.now (slice_index_or c.as_slice.result.now c.args.gain.giver no_rule).path 0 ≡ get_or c.args.work.now.paths.items (rule_at c.args.rules.now c.args.gain.giver).path 0
    = ap (λ (q : List ℕ). get_or q (slice_index_or c.as_slice.result.now c.args.gain.giver no_rule).path 0) c.as_mut_slice.ensures.value
    ∙ ap (λ (rs : List ChainRule). get_or c.args.work.now.paths.items (slice_index_or rs c.args.gain.giver no_rule).path 0) c.as_slice.ensures.value in
    omega (arith, bits, load, asks.some)

pub pass_bits-requires-2-clause-some : goal.pass_bits-requires-2-clause-some
pass_bits-requires-2-clause-some c =
    let asks = pass_asks c.args.rules.now c.args.fixed.now c.args.work.now c.args.most c.args.gain.giver c.args.gain.place c.args.gain.taker c.requires.is c.requires.paths c.requires.from c.requires.taker c.requires.other c.requires.room in
    let bits : c.unit_bits-bits.result ≡ bits_in c.args.rules.now c.args.work.now.plan (at_place c.args.gain.giver c.args.gain.place)
    = c.unit_bits-bits.ensures.value ∙ ap (λ (u : ℕ). (unit_at c.args.rules.now u).bits) c.remove-unit.ensures.value in
    omega (arith, bits, asks.held_some, ap (λ (q : List ℕ). get_or q c.args.gain.giver 0) c.as_mut_slice-2.ensures.value)

pub pass_bits-requires-2-clause-fits : goal.pass_bits-requires-2-clause-fits
pass_bits-requires-2-clause-fits c =
    let asks = pass_asks c.args.rules.now c.args.fixed.now c.args.work.now c.args.most c.args.gain.giver c.args.gain.place c.args.gain.taker c.requires.is c.requires.paths c.requires.from c.requires.taker c.requires.other c.requires.room in
    let bits : c.unit_bits-bits.result ≡ bits_in c.args.rules.now c.args.work.now.plan (at_place c.args.gain.giver c.args.gain.place)
    = c.unit_bits-bits.ensures.value ∙ ap (λ (u : ℕ). (unit_at c.args.rules.now u).bits) c.remove-unit.ensures.value in
    omega (arith, bits, asks.held_fits, ap (λ (q : List ℕ). get_or q c.args.gain.taker 0) c.as_mut_slice-2.ensures.value, c.ranges.most.fits)
