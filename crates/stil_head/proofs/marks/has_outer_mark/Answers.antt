use Rattle.std.proofs.Common.{◌≡◌, ◌<◌, ◌≤◌, ◌+◌, arith, length}
use Rattle.stil_head.specs.Unsupported.{shift_depth}
use Rattle.stil_head.proofs.Walks.{walk_outer, found_outer, none_outer, depth_at, depth_behind, one_less}
use Rattle.stil_head.proofs.marks.has_outer_mark.Goals as goal

pub shift_behind-place-requires : goal.shift_behind-place-requires
shift_behind-place-requires c =
    let at = depth_at c.loop-rest.place c.loop-rest.begins c.loop-rest.rest in
    let same : shift_depth c.shift_at-place.result ≡ shift_depth c.loop-rest.place = rw c.shift_at-place.ensures.value at in
    let some : 0 < length c.loop-rest.rest = omega (arith, c.len.ensures.value) in
    omega (arith, c.loop-rest.invariant.shallow)

pub returns-then-is_outer_mark : goal.returns-then-is_outer_mark
returns-then-is_outer_mark c = record {
  value = found_outer c.loop-rest.place c.loop-rest.begins c.loop-rest.assigns c.loop-rest.rest _ (omega (arith, c.len.ensures.value)) c.shift_at-place.result c.take_text-text.result.now c.is_outer_mark.result
      c.shift_at-place.ensures.value c.take_text-text.ensures.text c.is_outer_mark.ensures.value c.loop-rest.invariant.same c.if-is_outer_mark.true;
}

pub loop-rest-preserved : goal.loop-rest-preserved
loop-rest-preserved c =
    record {
      same = walk_outer c.loop-rest.place c.loop-rest.begins c.loop-rest.assigns c.loop-rest.rest _ (omega (arith, c.len.ensures.value)) c.shift_at-place.result c.take_text-text.result.now c.is_outer_mark.result
          c.shift_at-place.ensures.value c.take_text-text.ensures.text c.is_outer_mark.ensures.value c.loop-rest.invariant.same
          c.shift_behind-place.result c.begins_behind-begins.result c.assigns_behind-assigns.result c.take_text-text.new.tokens c.if-is_outer_mark.false c.shift_behind-place.ensures.value c.begins_behind-begins.ensures.value c.assigns_behind-assigns.ensures.value c.take_text-text.ensures.rest;
      shallow =
          let some : 0 < length c.loop-rest.rest = omega (arith, c.len.ensures.value) in
          let less = one_less c.loop-rest.rest c.take_text-text.new.tokens some c.take_text-text.ensures.rest in
          let at = depth_at c.loop-rest.place c.loop-rest.begins c.loop-rest.rest in
          let deeper : shift_depth c.shift_behind-place.result ≤ shift_depth c.shift_at-place.result + 1 = rw c.shift_behind-place.ensures.value (depth_behind c.shift_at-place.result c.take_text-text.result.now) in
          let same : shift_depth c.shift_at-place.result ≡ shift_depth c.loop-rest.place = rw c.shift_at-place.ensures.value at in
          omega (arith, c.loop-rest.invariant.shallow);
    }

pub returns : goal.returns
returns c = record {
  value = none_outer c.loop-rest.place c.loop-rest.begins c.loop-rest.assigns c.loop-rest.rest _ (omega (arith, c.len.ensures.value)) c.loop-rest.invariant.same;
}
