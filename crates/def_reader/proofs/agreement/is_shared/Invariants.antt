use Rattle.std.proofs.Common.{◌≡◌, false, take}
use Rattle.std.specs.List.{list_any}
use Rattle.def_reader.specs.Classes.{has_in}
use Rattle.def_reader.proofs.agreement.is_shared.Given as goal

abbrev pub invariant-loop-class : goal.invariant-loop-class
invariant-loop-class l = list_any (has_in l.seen) (take l.class-index l.classes) ≡ false
