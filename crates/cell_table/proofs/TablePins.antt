-- In each cell of a table each pin stands once.
use Rattle.std.proofs.Common.{[], ◌∷◌, sym}
use Rattle.toml.specs.Data.{Members, no_members, member}
use Rattle.cell_table.specs.Cells.{Cells}
use Rattle.cell_table.specs.Entries.{AreMembers, IsNamedCell, HaveEachPinOnce, PinsLaw, OneCellPinsLaw}

each_once : (entries : Members) (cells : Cells) → AreMembers IsNamedCell entries cells → HaveEachPinOnce cells
each_once no_members [] are = tt
each_once no_members (c ∷ cs) are = absurd are
each_once (member k d es) [] are = absurd are
each_once (member k d es) (c ∷ cs) are = (are.0.is.once, each_once es cs are.1)

pub pins_once : PinsLaw
pins_once text cells denotes = each_once denotes.entries cells denotes.are

pub one_cell_once : OneCellPinsLaw
one_cell_once cell input out apart = (((λ same. apart (sym same), tt), (tt, tt)), tt)
