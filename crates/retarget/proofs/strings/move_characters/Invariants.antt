use Rattle.std.proofs.Common.{◌≡◌, ◌++◌, get_or, map, take, drop}
use Rattle.retarget.proofs.strings.move_characters.Given as goal

abbrev pub invariant-loop-place : goal.invariant-loop-place
invariant-loop-place l = take l.place l.to ≡ map (λ source. get_or l.from source 0) (take l.place l.sources)
