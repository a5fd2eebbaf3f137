use Rattle.std.proofs.Common.{◌≡◌, ◌≤◌, ◌+◌, ◌-◌, ◌^◌, min, length}
use Rattle.std.specs.List.{list_all}
use Rattle.stil_calls.specs.declared.repeats.Escape.TheVariants.{Outside}
use Rattle.stil_calls.specs.Repeats.{repeats_from, repeats_of, whole_from, is_character, count_of}
use Rattle.stil_calls.proofs.repeats.sound_count.Given as goal

abbrev pub invariant-loop-repeat : goal.invariant-loop-repeat
invariant-loop-repeat l = record {
  whole : whole_from l.repeats.escape l.repeats.bytes.now ≡ whole_from Outside l.bytes;
  all : list_all (λ r. is_character l.side r.character) (repeats_from l.repeats.escape l.repeats.bytes.now) ≡ list_all (λ r. is_character l.side r.character) (repeats_of l.bytes);
  small : l.count ≤ 2 ^ 64 - 1;
  same : min (l.count + count_of (repeats_from l.repeats.escape l.repeats.bytes.now)) (2 ^ 64 - 1) ≡ min (count_of (repeats_of l.bytes)) (2 ^ 64 - 1);
}

abbrev pub decreases-loop-repeat : goal.decreases-loop-repeat
decreases-loop-repeat l = length l.repeats.bytes.now
