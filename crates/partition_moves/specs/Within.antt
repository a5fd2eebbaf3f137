-- When room suffices for settling a plan.
use Rattle.std.specs.Prelude.{◌≡◌, ◌*◌, ◌<◌, ◌≤◌, length}
use Rattle.chain_rules.specs.declared.plan.Plan.{Plan}
use Rattle.chain_rules.specs.declared.unit.Rules.{Rules}
use Rattle.partition_moves.specs.Roomy.{IsKept}
use Rattle.partition_moves.specs.Together.{AreTogetherBy}
use Rattle.partition_moves.specs.declared.room.Room.{Room as SettlingRoom}

-- the room holds the plan with room for the most units of each chain and the bits of each, a block for each 32 places of a chain, sums
-- for a chain of all units, and the chains of each partition
pub record IsRoomFor (rules : Rules) (p : Plan) (room : SettlingRoom) : Type 0 where
  pub plan : room.work.plan ≡ p
  pub kept : IsKept rules room.work
  pub blocks : length rules.units < 32 * length room.blocks.items
  pub sums : length rules.units ≤ room.sums.room
  pub parts : AreTogetherBy rules room.parts
