use Rattle.std.proofs.Common.{◌≡◌, ◌++◌, drop}
use Rattle.wire_cost.specs.Lengths.{chain_ends}
use Rattle.draw_command.specs.Drawn.{segments_from}
use Rattle.draw_command.proofs.drawn.links_of.Given as goal

abbrev pub invariant-loop-unit : goal.invariant-loop-unit
invariant-loop-unit l =
    l.links.items ++ segments_from (chain_ends l.ends l.chain) l.from (drop l.unit-index l.units) ≡ segments_from (chain_ends l.ends l.chain) (chain_ends l.ends l.chain).start l.units
