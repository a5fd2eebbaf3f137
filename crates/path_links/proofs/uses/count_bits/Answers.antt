use Rattle.std.proofs.Common.{List, ◌+◌, ◌∷◌, [], take, get_or, ◌∙◌, ap, arith}
use Rattle.netlist_core.specs.declared.netlist.NetId.{NetId}
use Rattle.netlist_core.specs.declared.netlist.Bit.{Bit}
use Rattle.netlist_core.specs.declared.netlist.Bit.TheVariants.{Net}
use Rattle.std.proofs.lemmas.List.{take_all}
use Rattle.path_links.specs.Free.{count_in, is_bit_of}
use Rattle.path_links.proofs.Counting.{counts_as, counted_on}
use Rattle.path_links.proofs.uses.count_bits.Goals as goal

pub loop-bit-preserved : goal.loop-bit-preserved
loop-bit-preserved c =
    let i = c.loop-bit.bit-index in
    let bits = c.args.bits.now in
    let one : NetId = record { 0 = 0 } in
    record {
      count = c.count_once.ensures.count ∙ c.loop-bit.invariant.count;
      counted = λ f a. counts_as c.count_once.new.counts.items (λ net. (f net + count_in net (take i bits)) + count_in net (get_or bits i (Net one) ∷ [])) (λ net. f net + count_in net (take (i + 1) bits))
          (λ net. counted_on (is_bit_of net) (f net) bits i (Net one) c.loop-bit-test.true) (c.count_once.ensures.counted (λ net. f net + count_in net (take i bits)) (c.loop-bit.invariant.counted f a));
    }

pub returns-clause-counted : goal.returns-clause-counted
returns-clause-counted c f a =
    counts_as c.loop-bit.counts.items (λ net. f net + count_in net (take c.loop-bit.bit-index c.args.bits.now)) (λ net. f net + count_in net c.args.bits.now) (λ net. ap (λ (bits : List Bit). f net + count_in net bits) (take_all c.loop-bit.bit-index c.args.bits.now (omega (arith, c.loop-bit-test.false)))) (c.loop-bit.invariant.counted f a)
