use Rattle.std.proofs.Common.{arith, length, ap}
use Rattle.chain_rules.proofs.Outcomes.{says_no, says_yes}
use Rattle.chain_rules.proofs.Faulty.{broken_from_break, break_from_broken}
use Rattle.chain_rules.proofs.faults.is_order_broken.Goals as goal

pub returns-then-list_has_break : goal.returns-then-list_has_break
returns-then-list_has_break c =
    let same = ap length c.as_slice-list-end.ensures.value in
    record { value = says_yes (broken_from_break c.args.index.now c.args.chain.now c.args.listing.now c.requires.listing c.loop-list.list (omega arith) (c.list_has_break.ensures.value.0 c.if-list_has_break.true)) }

pub returns : goal.returns
returns c =
    let same = ap length c.as_slice-list-end.ensures.value in
    record {
      value = says_no (λ fault.
          let w = break_from_broken c.args.index.now c.requires.once c.args.chain.now c.requires.elements c.args.listing.now c.requires.listing fault in
          let h = w.1 in
          c.loop-list.invariant w.0 (omega arith) w.2);
    }
