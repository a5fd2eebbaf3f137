use Rattle.std.proofs.Common.{◌≡◌, rules}
use Rattle.desk_io.proofs.Parts.{part_reads_at}
use Rattle.desk_io.proofs.memory.MemoryDeskDesk.read.Goals as goal

pub returns-clause-ok : goal.returns-clause-ok
returns-clause-ok c =
    let parts : c.self.inside.parts.items ≡ c.args.self.now.parts = search rules in
    let files : c.self.inside.files.items ≡ c.args.self.now.files = search rules in
    rw (← parts, ← files)
    (part_reads_at c.args.slot c.self.inside.parts.items c.index_mut-part.result.now c.read.new.self c.number.result c.self.inside.files.items c.file_bytes-file.result.now c.read.new.room c.read.result c.self.inside.portion
    c.self.invariant.some (search rules) c.self.invariant.within (search rules) c.number.ensures.value c.self.invariant.all c.index_mut-part.ensures.value (search rules) c.read.ensures.moved c.read.ensures.same)
