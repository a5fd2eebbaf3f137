use Rattle.std.proofs.Common.{◌≡◌, length, get_or, rules}
use Rattle.desk_io.specs.Number.{number}
use Rattle.desk_io.specs.Files.{bytes_of}
use Rattle.desk_io.proofs.Parts.{next_bytes}
use Rattle.desk_io.proofs.sure.SureDeskDesk.read.Goals as goal

pub returns-clause-ok : goal.returns-clause-ok
returns-clause-ok c =
    let file : c.file_bytes.result.now ≡ bytes_of c.self.inside.files.items c.args.slot = search rules in
    rw (← c.self.view_is, ← file) (next_bytes _ _ _ (get_or c.self.inside.taken (number c.args.slot) 0) _ c.file_bytes.result.now c.move_bytes-count.new.room c.move_bytes-count.result (length c.args.room.now) (search rules) (search rules) (search rules) (search rules) (search rules) (search rules))
