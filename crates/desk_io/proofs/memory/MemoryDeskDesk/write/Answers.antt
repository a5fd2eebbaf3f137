use Rattle.std.proofs.Common.{◌≡◌, ◌<◌, length, rules}
use Rattle.desk_io.proofs.Parts.{part_writes_at, desk_kept}
use Rattle.desk_io.proofs.memory.MemoryDeskDesk.write.Goals as goal

pub invariant_of-self-2 : goal.invariant_of-self-2
invariant_of-self-2 c = desk_kept _ c.index_mut-part.result.now c.write.new.self c.number.result c.self.invariant c.number.ensures.small c.index_mut-part.ensures.value c.write.ensures.same

pub returns-clause-ok : goal.returns-clause-ok
returns-clause-ok c =
    let parts : c.self.inside.parts.items ≡ c.args.self.now.parts = search rules in
    let files : c.self.inside.files.items ≡ c.args.self.now.files = search rules in
    let space : length c.index_mut-part.result.now.written < c.index_mut-part.result.now.room = search rules in
    rw (← parts, ← files)
    (part_writes_at c.args.slot c.self.inside.parts.items c.index_mut-part.result.now c.write.new.self c.number.result _ c.args.piece.now c.write.result c.self.inside.portion
    c.self.invariant.some c.requires.piece space c.write.ensures.count c.number.ensures.value c.self.invariant.all c.index_mut-part.ensures.value c.write.ensures.appended c.write.ensures.same)
