use Rattle.std.proofs.Common.{◌≡◌, length}
use Rattle.std.specs.Str.{bytes_eq}
use Rattle.base_types.specs.Names.{plain_name}
use Rattle.lef_pins.proofs.ends.is_name.Given as goal

abbrev pub invariant-loop-unread : goal.invariant-loop-unread
invariant-loop-unread l = bytes_eq (plain_name l.text) l.name ≡ bytes_eq (plain_name l.unread) l.left

abbrev pub decreases-loop-unread : goal.decreases-loop-unread
decreases-loop-unread l = length l.unread
