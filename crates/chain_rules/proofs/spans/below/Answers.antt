use Rattle.std.proofs.Common.{rules, of_calls, nat_lt, arith}
use Rattle.std.proofs.lemmas.Fn.{always_returns_same}
use Rattle.std.proofs.lemmas.List.Sorted.{IsPartitionedBy-ltb}
use Rattle.list_laws.proofs.Totals.{counted-point}
use Rattle.chain_rules.proofs.spans.below.Goals as goal

pub returns : goal.returns
returns c =
    let point = c.partition_point.ensures.partitioned (λ n. nat_lt n c.args.limit) (always_returns_same _ _ _ (λ a r f k. search (rules, of_calls))) (IsPartitionedBy-ltb (λ n. n) c.args.numbers.now c.args.limit c.requires.rise) in
    record { value = counted-point (λ n. nat_lt n c.args.limit) c.args.numbers.now c.partition_point.result c.partition_point.ensures.bound (λ k d l. point.0 k d (omega arith) l) (λ k d g l. point.1 k d g l) }
