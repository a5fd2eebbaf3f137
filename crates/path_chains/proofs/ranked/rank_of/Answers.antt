use Rattle.std.proofs.Common.{rules, of_calls, arith, sym, ◌∙◌}
use Rattle.std.specs.Ordering.{is_lt}
use Rattle.std.proofs.lemmas.Fn.{always_returns_same}
use Rattle.list_laws.proofs.Totals.{counted-point}
use Rattle.path_chains.specs.Ranked.{key_cmp, seen}
use Rattle.path_chains.proofs.KeyCounts.{Key, parted, count_map}
use Rattle.path_chains.proofs.ranked.rank_of.Goals as goal

pub returns : goal.returns
returns c =
    let before = λ (k : Key). is_lt (key_cmp (seen k) (seen c.args.key)) in
    let point = c.partition_point.ensures.partitioned before (always_returns_same _ _ _ (λ a r f k. search (rules, of_calls))) (parted c.args.key c.args.keys.now c.requires.sorted) in
    record { value = counted-point before c.args.keys.now c.partition_point.result c.partition_point.ensures.bound (λ k d l. point.0 k d (omega arith) l) (λ k d g l. point.1 k d g l) ∙ sym (count_map (λ other. is_lt (key_cmp other (seen c.args.key))) seen c.args.keys.now) }
