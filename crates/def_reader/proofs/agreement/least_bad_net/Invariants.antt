use Rattle.std.proofs.Common.{◌≡◌, length, take}
use Rattle.std.specs.List.{flat_map}
use Rattle.def_reader.specs.Classes.{net_classes, HasClasses, IsBadNet}
use Rattle.list_laws.specs.Leasts.{IsLeast}
use Rattle.def_reader.proofs.agreement.least_bad_net.Given as goal

abbrev pub invariant-loop-net : goal.invariant-loop-net
invariant-loop-net l = record {
  len : length l.seen.items ≡ length l.pins.nets;
  seen : HasClasses l.seen.items (flat_map (net_classes l.pins l.classes) (take l.net-index l.nets));
  least : IsLeast (IsBadNet (net_classes l.pins l.classes) (take l.net-index l.nets)) l.least;
}
