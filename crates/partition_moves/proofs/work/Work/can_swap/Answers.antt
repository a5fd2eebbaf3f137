use Rattle.chain_rules.proofs.Outcomes.{says_no}
use Rattle.partition_moves.proofs.Refused.{swap_fits}
use Rattle.partition_moves.proofs.Settled.{not_true}
use Rattle.partition_moves.proofs.work.Work.can_swap.Goals as goal

pub returns-then-not-may_swap : goal.returns-then-not-may_swap
returns-then-not-may_swap c = record {
  value = says_no (λ new. c.may_swap.ensures.none (not_true c.may_swap.result c.if-not-may_swap.true) (swap_fits c.args.rules.now c.args.self.now.plan c.args.a c.args.b c.requires.legal c.requires.a c.requires.b c.requires.apart new));
}
