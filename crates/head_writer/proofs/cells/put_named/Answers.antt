use Rattle.head_writer.proofs.CellNames.{no_list}
use Rattle.head_writer.proofs.cells.put_named.Goals as goal

pub returns-in_default : goal.returns-in_default
returns-in_default c = record { value = no_list c.args.text.now c.args.chain.now.cells_at c.args.bits.now c.args.named.now.items c.in_default.is }
