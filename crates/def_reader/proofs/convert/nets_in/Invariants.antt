use Rattle.std.proofs.Common.{◌≡◌, take}
use Rattle.std.specs.List.{filter_map}
use Rattle.def_reader.specs.Designs.{net_of}
use Rattle.def_reader.proofs.convert.nets_in.Given as goal

abbrev pub invariant-loop-statement : goal.invariant-loop-statement
invariant-loop-statement l = l.nets ≡ filter_map (net_of l.text) (take l.statement-index l.statements)
