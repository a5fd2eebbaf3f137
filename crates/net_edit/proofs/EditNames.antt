-- The names that edits have for their tails.
use Rattle.std.proofs.Common.{ℕ, List, ◌++◌, map, sym, subst, arith}
use Rattle.std.proofs.lemmas.List.{length-map}
use Rattle.netlist_core.specs.declared.netlist.NetName.{NetName}
use Rattle.netlist_core.specs.declared.netlist.Netlist.{Netlist}
use Rattle.netlist_core.specs.Netlists.{AreDistinct, IsNetlist}
use Rattle.cell_table.specs.Cells.{Cells}
use Rattle.chain_trace.specs.declared.path.Path.{Path}
use Rattle.net_edit.specs.declared.edits.TailEdit.{TailEdit}
use Rattle.net_edit.specs.declared.edits.Edits.{Edits}
use Rattle.net_edit.specs.Rearranged.{AreRearranged}
use Rattle.net_edit.specs.Tails.{freed_between, AreTailNames}
use Rattle.net_edit.specs.Wires.{names_of}
use Rattle.net_edit.specs.NewWires.{AreWired}
use Rattle.net_edit.proofs.WiredEdits.{are_edits, names_count}
use Rattle.net_edit.proofs.LeastNames.{are_apart}

pub are_names : (n : Netlist) (cells : Cells) (old new : List Path) → IsNetlist n → AreRearranged n cells old new → (edits : Edits) → AreWired n cells old new edits
    → AreTailNames n (freed_between n cells old new) (names_of edits)
are_names n cells old new ok r edits w =
    let e = are_edits n cells old new ok r edits w in
    let count = names_count n cells old new ok r edits e in
    let mapped = length-map edits.tails (λ (t : TailEdit). t.tail) in
    let more = w.count in
    let few = w.few in
    record {
      each = omega (arith, count, mapped);
      apart = subst (λ (names : List (List ℕ)). AreDistinct (map (λ (net : NetName). net.plain) n.nets ++ names)) (sym e.names.are) (are_apart n e.names.numbers ok e.names.free);
      few = omega (arith, count, mapped, more, few);
    }
