-- The scan chains along paths, beside those along the same paths of another netlist, and along other paths over the same steps.
use Rattle.std.specs.Prelude.{◌≡◌, List, map}
use Rattle.netlist_core.specs.declared.netlist.Netlist.{Netlist}
use Rattle.netlist_core.specs.Netlists.{named, IsNetlist}
use Rattle.cell_table.specs.Cells.{Cells}
use Rattle.chain_trace.specs.declared.path.Path.{Path}
use Rattle.chain_trace.specs.Paths.{StandOnce}
use Rattle.path_links.specs.declared.sinks.Sinks.{Sinks}
use Rattle.path_links.specs.Erasure.{erased_netlist}
use Rattle.net_edit.specs.Erased.{NamedTail, without_tails}
use Rattle.net_edit.specs.Rearranged.{steps_of, AreRearranged}
use Rattle.chain_rules.specs.declared.spec.ChainSpec.{ChainSpec}
use Rattle.chain_rules.specs.declared.unit.Rules.{Rules}
use Rattle.chain_rules.specs.declared.plan.Plan.{Plan}
use Rattle.chain_rules.specs.Legality.{IsLegal}
use Rattle.chain_rules.specs.Rules.{AreRulesOf}
use Rattle.plan_paths.specs.NewPaths.{new_paths}
use Rattle.plan_paths.specs.Numbered.{PathNumbers, numbered_paths}
use Rattle.retarget.specs.Retargeting.{HaveSameCells}
use Rattle.path_chains.specs.Numbered.{HaveBits}
use Rattle.chain_maps.specs.Kept.{CountsBits}
use Rattle.path_chains.specs.Ranked.{chains_along}

-- the same instances in the same order, by their names and cells
pub record HaveSameInstances (n m : Netlist) : Type 0 where
  pub names : map (λ instance. instance.name) m.instances ≡ map (λ instance. instance.name) n.instances
  pub cells : map (λ instance. instance.cell) m.instances ≡ map (λ instance. instance.cell) n.instances

-- netlists that are the same but for scan wiring and tails have the same instances
abbrev pub InstancesLaw : Type 0
InstancesLaw = (n m : Netlist) (sinks : Sinks) (tails : List NamedTail) → erased_netlist sinks (without_tails tails (named m)) ≡ erased_netlist sinks (named n) → HaveSameInstances n m

-- paths over the same steps make the same chains on netlists of the same instances
abbrev pub AlongLaw : Type 0
AlongLaw = (n m : Netlist) (cells : Cells) (old new : List Path) → HaveSameInstances n m → map (λ path. path.steps) new ≡ map (λ path. path.steps) old
    → chains_along m cells new ≡ chains_along n cells old

-- rearranged paths make chains of the same cells, where each path has a bit
abbrev pub RearrangedLaw : Type 0
RearrangedLaw = (n : Netlist) (cells : Cells) (old new : List Path) → IsNetlist n → AreRearranged n cells old new → StandOnce (steps_of old) → HaveBits n cells old → HaveBits n cells new
    → HaveSameCells (chains_along n cells old) (chains_along n cells new)

-- so do the paths after a legal plan, where each read path has a bit
abbrev pub PlannedLaw : Type 0
PlannedLaw = (N : PathNumbers) (n : Netlist) (cells : Cells) (old : List Path) (chains : List ChainSpec) (rules : Rules) (plan : Plan)
    → IsNetlist n → CountsBits N n cells → AreRulesOf (numbered_paths N old) chains rules → IsLegal rules plan
    → AreRearranged n cells old (new_paths old rules plan) → StandOnce (steps_of old) → HaveBits n cells old
    → HaveSameCells (chains_along n cells old) (chains_along n cells (new_paths old rules plan))
