use Rattle.std.proofs.Common.{rules}
use Rattle.std.proofs.lemmas.List.Sorted.{IsPartitionPoint-from_clause}
use Rattle.fail_map.specs.Numbered.{Numbered, is_earlier}
use Rattle.fail_map.proofs.Orders.{parted, earlier_there, not_earlier_there}
use Rattle.fail_map.proofs.numbered.lines_before.Goals as goal

pub returns : goal.returns
returns c =
    let pattern = c.args.pattern in
    let scan = c.args.scan in
    let lines = c.args.lines.now in
    let point = IsPartitionPoint-from_clause (λ (l : Numbered). is_earlier pattern scan l.0) lines c.partition_point.result c.partition_point.ensures.partitioned (parted pattern scan lines c.requires.in_order) (λ a r q k. search rules) in
    record {
      within = c.partition_point.ensures.bound;
      before = earlier_there pattern scan lines c.partition_point.result c.partition_point.ensures.bound point.0;
      behind = not_earlier_there pattern scan lines c.partition_point.result point.1;
    }
