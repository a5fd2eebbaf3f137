use Rattle.std.proofs.Common.{◌≤◌, ◌+◌}
use Rattle.def_syntax.proofs.Unread.{one_deeper}
use Rattle.def_layout.proofs.OtherOptions.{others_more, others_last, wiring_more, wiring_last, room_more}
use Rattle.def_layout.proofs.net.push_others.Goals as goal

pub loop-token-preserved : goal.loop-token-preserved
loop-token-preserved c =
    let deeper : c.place_behind-place.result.depth ≤ c.loop-token.place.depth + 1 = rw (c.place_behind-place.ensures.depth) (one_deeper c.loop-token.place.depth c.in-Some.token.text.now) in
    record {
      words = others_more _ c.loop-token.tokens c.next.new.self c.loop-token.place.depth _ c.loop-token.place.stays _ c.loop-token.out.items _ _ c.in-Some.ensures.value c.place_behind-place.ensures.depth c.place_behind-place.ensures.stays
          c.in_ok-push_staying.ensures.value c.loop-token.invariant.words;
      wiring = wiring_more _ c.loop-token.tokens c.next.new.self c.loop-token.place.depth _ c.loop-token.place.wiring _ _ c.in-Some.ensures.value c.place_behind-place.ensures.depth c.place_behind-place.ensures.wiring c.loop-token.invariant.wiring;
      room = room_more c.loop-token.tokens c.next.new.self _ c.loop-token.place.depth _ _ c.in-Some.ensures.value deeper c.loop-token.invariant.room;
    }

pub returns-clause-value : goal.returns-clause-value
returns-clause-value c = others_last c.loop-token.tokens c.loop-token.place.depth c.loop-token.place.stays _ _ c.in_default.ensures.value.0 c.loop-token.invariant.words

pub returns-clause-wiring : goal.returns-clause-wiring
returns-clause-wiring c = wiring_last c.loop-token.tokens c.loop-token.place.depth _ _ c.in_default.ensures.value.0 c.loop-token.invariant.wiring
