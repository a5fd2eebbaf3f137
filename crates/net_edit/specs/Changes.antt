-- The outputs whose source is another where paths become others, and which of them are freed by a tail.
use Rattle.std.specs.Prelude.{ℕ, if◌then◌else◌, List, [], ◌∷◌, filter, Option, Some, None}
use Rattle.std.specs.List.{flat_map, position_from}
use Rattle.netlist_core.specs.declared.netlist.NetId.{NetId}
use Rattle.netlist_core.specs.declared.netlist.Netlist.{Netlist}
use Rattle.netlist_core.specs.Netlists.{pairs}
use Rattle.cell_table.specs.Cells.{Cells}
use Rattle.chain_trace.specs.declared.path.Path.{Path}
use Rattle.chain_trace.specs.declared.path.Source.{Source}
use Rattle.chain_trace.specs.Paths.{source_net}
use Rattle.path_links.specs.Edits.{same_source}
use Rattle.path_links.specs.Direct.{last_of, is_direct_from}
-- an output, its source as read, and its new one
pub use Rattle.net_edit.specs.declared.changes.Change.{Change}

-- the change of a path's output, if its source is another
abbrev pub changes_of : Path × Path → List Change
changes_of (p, q) = if same_source (last_of q) (last_of p) then [] else record { port = p.output; was = last_of p; now = last_of q } ∷ []

-- the outputs whose source changes, in the order of the paths
abbrev pub changes : List Path → List Path → List Change
changes old new = flat_map changes_of (pairs old new)

-- the ports that are freed: the direct ones among those whose source changes
abbrev pub freed : Netlist → Cells → List Change → List Change
freed n cells cs = filter (λ c. is_direct_from n cells c.port c.was) cs

-- a tail, or else the net
abbrev pub tail_or : Option ℕ → Option NetId → Option NetId
tail_or None net = net
tail_or (Some tail) net = Some (record { 0 = tail })

-- the net of the tail of a source, where the first tail has the number from
abbrev pub tail_of : ℕ → List Change → Source → Option ℕ
tail_of from fs source = position_from (λ c. same_source c.was source) from fs

-- the new net of a source: its tail, or else the net on which it stands
abbrev pub new_net : Netlist → Cells → ℕ → List Change → Source → Option NetId
new_net n cells from fs source = tail_or (tail_of from fs source) (source_net n cells source)
