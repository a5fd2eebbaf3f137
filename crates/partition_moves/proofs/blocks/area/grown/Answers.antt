use Rattle.std.proofs.Common.{refl, subst}
use Rattle.wire_cost.specs.Lengths.{IsNear, IsNearOrNowhere}
use Rattle.partition_moves.proofs.blocks.Grown.{grown_inside, grown_kept, grown_near, greater, lesser}
use Rattle.partition_moves.proofs.blocks.area.grown.Goals as goal

pub returns-clause-near : goal.returns-clause-near
returns-clause-near c =
    let n : IsNear c.in-Some.point = subst IsNearOrNowhere c.in-Some.is c.requires.point in
    grown_near c.args.area c.in-Some.point _ (record {
      low_x = lesser c.args.area.low.x c.in-Some.point.x c.min.result c.requires.area.low.x n.x c.min.ensures.value c.min.ensures.self_bound c.min.ensures.other_bound;
      low_y = lesser c.args.area.low.y c.in-Some.point.y c.min-2.result c.requires.area.low.y n.y c.min-2.ensures.value c.min-2.ensures.self_bound c.min-2.ensures.other_bound;
      high_x = greater c.args.area.high.x c.in-Some.point.x c.max.result c.requires.area.high.x n.x c.max.ensures.value c.max.ensures.self_bound c.max.ensures.other_bound;
      high_y = greater c.args.area.high.y c.in-Some.point.y c.max-2.result c.requires.area.high.y n.y c.max-2.ensures.value c.max-2.ensures.self_bound c.max-2.ensures.other_bound;
      same = refl;
    })

pub returns-clause-inside : goal.returns-clause-inside
returns-clause-inside c =
    let n : IsNear c.in-Some.point = subst IsNearOrNowhere c.in-Some.is c.requires.point in
    grown_inside c.args.area c.in-Some.point _ c.args.point c.in-Some.is (record {
      low_x = lesser c.args.area.low.x c.in-Some.point.x c.min.result c.requires.area.low.x n.x c.min.ensures.value c.min.ensures.self_bound c.min.ensures.other_bound;
      low_y = lesser c.args.area.low.y c.in-Some.point.y c.min-2.result c.requires.area.low.y n.y c.min-2.ensures.value c.min-2.ensures.self_bound c.min-2.ensures.other_bound;
      high_x = greater c.args.area.high.x c.in-Some.point.x c.max.result c.requires.area.high.x n.x c.max.ensures.value c.max.ensures.self_bound c.max.ensures.other_bound;
      high_y = greater c.args.area.high.y c.in-Some.point.y c.max-2.result c.requires.area.high.y n.y c.max-2.ensures.value c.max-2.ensures.self_bound c.max-2.ensures.other_bound;
      same = refl;
    })

pub returns-clause-kept : goal.returns-clause-kept
returns-clause-kept c =
    let n : IsNear c.in-Some.point = subst IsNearOrNowhere c.in-Some.is c.requires.point in
    grown_kept c.args.area c.in-Some.point _ (record {
      low_x = lesser c.args.area.low.x c.in-Some.point.x c.min.result c.requires.area.low.x n.x c.min.ensures.value c.min.ensures.self_bound c.min.ensures.other_bound;
      low_y = lesser c.args.area.low.y c.in-Some.point.y c.min-2.result c.requires.area.low.y n.y c.min-2.ensures.value c.min-2.ensures.self_bound c.min-2.ensures.other_bound;
      high_x = greater c.args.area.high.x c.in-Some.point.x c.max.result c.requires.area.high.x n.x c.max.ensures.value c.max.ensures.self_bound c.max.ensures.other_bound;
      high_y = greater c.args.area.high.y c.in-Some.point.y c.max-2.result c.requires.area.high.y n.y c.max-2.ensures.value c.max-2.ensures.self_bound c.max-2.ensures.other_bound;
      same = refl;
    })
