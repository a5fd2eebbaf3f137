use Rattle.std.proofs.Common.{◌+◌, length, get_or, None, inl, inr, ap, arith}
use Rattle.std.proofs.lemmas.Bool.{cases_lt}
use Rattle.chain_rules.proofs.Owned.{owner_is}
use Rattle.chain_rules.proofs.owners.note_owners.Goals as goal

pub returns-clause-value : goal.returns-clause-value
returns-clause-value c = λ k h.
    let rules = ap length c.as_slice-chains.ensures.value in
    let read = c.len.ensures.value in
    owner_is c.args.rules.now c.loop-chain.chain (c.args.low + k) (get_or c.loop-chain.owners k None) (omega (arith, rules, read)) (omega (arith, rules, read))
    (elim (cases_lt (length c.args.rules.now.read.chains) (length c.args.rules.now.chains)) [ inl a ↦ inl (omega (arith, rules, read)) | inr a ↦ inr (omega (arith, rules, read)) ])
    (c.loop-chain.invariant.1 k h)
