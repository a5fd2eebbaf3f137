-- What is counted and marked of all nets of a netlist at once.
use Rattle.std.specs.Prelude.{◌≡◌, ◌<◌, ◌==◌, ◌&&◌, ℕ, Bool, false, List, length, min, slice_index_or}
use Rattle.netlist_core.specs.declared.netlist.NetId.{NetId}
use Rattle.netlist_core.specs.declared.netlist.Port.{Port}
use Rattle.netlist_core.specs.declared.netlist.Netlist.{Netlist}
use Rattle.netlist_core.specs.Netlists.{IsNetlist}
use Rattle.path_links.specs.Free.{count_of, is_assign_of}
use Rattle.path_links.specs.Direct.{is_output}
use Rattle.std.specs.List.{list_any}

-- of each net the count, where more than two counts as two
pub record AreCounts (counts : List ℕ) (count : NetId → ℕ) : Type 0 where
  pub each : (net : NetId) → net.0 < length counts → slice_index_or counts net.0 0 ≡ min (count net) 2

-- of each net whether it passes the test
pub record AreMarks (marks : List Bool) (test : NetId → Bool) : Type 0 where
  pub each : (net : NetId) → net.0 < length marks → slice_index_or marks net.0 false ≡ test net

-- how often each net of a netlist stands in it, and whether an assign has it as its whole left side and one net bit as its right side
pub record AreUses (n : Netlist) (counts : List ℕ) (marks : List Bool) : Type 0 where
  pub counted : length counts ≡ length n.nets
  pub marked : length marks ≡ length n.nets
  pub counts_are : AreCounts counts (count_of n)
  pub marks_are : AreMarks marks (λ net. list_any (is_assign_of net) n.assigns)

-- the nets that are bits of output ports are marked, and no others
pub record AreOutputMarks (ports : List Port) (marks : List Bool) : Type 0 where
  pub each : (k : ℕ) → k < length marks → slice_index_or marks k false ≡ list_any (λ port. port.net.0 == k && is_output port.direction) ports

-- what is counted and what is marked are those of a netlist
pub record AreOfNetlist (n counted marked : Netlist) : Type 0 where
  pub sound : IsNetlist n
  pub counted_is : counted ≡ n
  pub marked_is : marked ≡ n
