use Rattle.chain_balance.specs.Rooms.{AreRoomiest, room_at}
use Rattle.chain_balance.proofs.rooms.note_rooms.Given as goal

abbrev pub invariant-loop-chain : goal.invariant-loop-chain
invariant-loop-chain l = AreRoomiest l.groups (room_at l.rules l.work.paths.items l.work.chains.items l.most) l.best l.chain
