use Rattle.std.proofs.Common.{◌<◌, arith}
use Rattle.std.proofs.lemmas.Bool.{ltb-true, lt-ltb}
use Rattle.chain_rules.proofs.Faulty.{over_from_bits, bits_from_over}
use Rattle.chain_rules.proofs.faults.is_over_max_bits.Goals as goal

pub returns : goal.returns
returns c =
    let some : 0 < c.args.chain.now.max_bits = omega arith in
    let bits = c.bits.ensures.value in
    record {
      value = (
        λ h. let more = ltb-true c.args.chain.now.max_bits c.bits.result h in
            over_from_bits c.args.index.now c.args.chain.now c.args.listing.now c.requires.listing some (omega arith),
        λ fault. let w = bits_from_over c.args.index.now c.requires.once c.args.chain.now c.requires.elements c.args.listing.now c.requires.listing fault in
            let more = w.1 in
            lt-ltb c.args.chain.now.max_bits c.bits.result (omega arith),
      );
    }
