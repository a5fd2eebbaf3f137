-- What each search asks of the rules and of the ends.
use Rattle.std.specs.Prelude.{◌≤◌, length}
use Rattle.chain_rules.specs.Legality.{IsLegal}
use Rattle.chain_rules.specs.declared.unit.Rules.{Rules}
use Rattle.wire_cost.specs.declared.ends.Ends.{Ends}
use Rattle.wire_cost.specs.Lengths.{ArePlaced}

-- what a search asks of the rules and the places
pub record AreSearchable (rules : Rules) (ends : Ends) : Type 0 where
  -- every place is near
  pub placed : ArePlaced ends
  -- each unit has an entry and an exit, each chain a start and a stop
  pub entry : length rules.units ≤ length ends.entry
  pub exit : length rules.units ≤ length ends.exit
  pub start : length rules.chains ≤ length ends.start
  pub stop : length rules.chains ≤ length ends.stop
  -- units and chains are few
  pub few_units : length rules.units ≤ 65536
  pub few_chains : length rules.chains ≤ 65536
  -- the plan as read is legal
  pub read : IsLegal rules rules.read
