use Rattle.std.proofs.Common.{◌≤◌, ℕ, List, length, sym, subst}
use Rattle.wire_cost.specs.Lengths.{IsChainAt}
use Rattle.wire_cost.proofs.Plans.{chain_of_plan}
use Rattle.draw_command.proofs.drawn.drawn_chain.Goals as goal

pub bits_of-requires : goal.bits_of-requires
bits_of-requires c = record {
  few =
      subst (λ (us : List ℕ). length us ≤ 65536) (sym c.chain-units.ensures.value) (chain_of_plan c.args.ends.now c.args.rules.now.read c.args.number c.requires.within c.requires.plan).few;
}

pub wire_of-requires-clause-chain : goal.wire_of-requires-clause-chain
wire_of-requires-clause-chain c =
    subst (λ (us : List ℕ). IsChainAt c.args.ends.now c.args.number us) (sym c.chain-units.ensures.value) (chain_of_plan c.args.ends.now c.args.rules.now.read c.args.number c.requires.within c.requires.plan)

pub links_of-requires-clause-chain : goal.links_of-requires-clause-chain
links_of-requires-clause-chain c =
    subst (λ (us : List ℕ). IsChainAt c.args.ends.now c.args.number us) (sym c.chain-units.ensures.value) (chain_of_plan c.args.ends.now c.args.rules.now.read c.args.number c.requires.within c.requires.plan)

pub spans_of-requires-clause-chain : goal.spans_of-requires-clause-chain
spans_of-requires-clause-chain c =
    subst (λ (us : List ℕ). IsChainAt c.args.ends.now c.args.number us) (sym c.chain-units.ensures.value) (chain_of_plan c.args.ends.now c.args.rules.now.read c.args.number c.requires.within c.requires.plan)
