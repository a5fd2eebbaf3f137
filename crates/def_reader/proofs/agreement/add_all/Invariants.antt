use Rattle.std.proofs.Common.{◌≡◌, List, ℕ, ◌++◌, length, take}
use Rattle.def_reader.specs.Classes.{HasClasses}
use Rattle.def_reader.proofs.agreement.add_all.Given as goal

abbrev pub invariant-loop-class : goal.invariant-loop-class
invariant-loop-class l = record {
  len : length l.seen.items ≡ length l.initial.seen.items;
  has : (before : List ℕ) → HasClasses l.initial.seen.items before → HasClasses l.seen.items (before ++ take l.class-index l.classes);
}
