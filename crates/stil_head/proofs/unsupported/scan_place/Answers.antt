use Rattle.std.proofs.Common.{◌∙◌, true, false, ◌++◌}
use Rattle.stil_syntax.specs.Shapes.{body_statements}
use Rattle.stil_head.specs.Unsupported.{later_shifts, inner_shifts, outer_marks, odd_shifts}
use Rattle.stil_head.proofs.Joined.{two_places}
use Rattle.stil_head.proofs.unsupported.scan_place.Goals as goal

pub returns : goal.returns
returns c =
    let body = c.args.body.now in
    let ss = body_statements body in
    record {
      value = c.lesser_place-2.ensures.value
          ∙ two_places (later_shifts false true body) (inner_shifts ss ++ (outer_marks ss ++ odd_shifts ss)) c.later_shift.result c.lesser_place.result c.later_shift.ensures.value
          (c.lesser_place.ensures.value
          ∙ two_places (inner_shifts ss) (outer_marks ss ++ odd_shifts ss) c.inner_shifts.result c.lesser_place-marks.result c.inner_shifts.ensures.value
          (c.lesser_place-marks.ensures.value ∙ two_places (outer_marks ss) (odd_shifts ss) c.outer_mark.result c.odd_shift.result c.outer_mark.ensures.value c.odd_shift.ensures.value));
    }
