-- A legal plan of the rules of chains rearranges the read paths.
use Rattle.std.specs.Prelude.{◌≡◌, ◌⊎◌, true, List, Contains}
use Rattle.netlist_core.specs.declared.netlist.Netlist.{Netlist}
use Rattle.cell_table.specs.Cells.{Cells}
use Rattle.chain_trace.specs.declared.path.Path.{Path}
use Rattle.chain_trace.specs.Paths.{IsScanPath}
use Rattle.chain_rules.specs.declared.spec.ChainSpec.{ChainSpec}
use Rattle.chain_rules.specs.declared.unit.Rules.{Rules}
use Rattle.chain_rules.specs.declared.plan.Plan.{Plan}
use Rattle.chain_rules.specs.Legality.{IsLegal}
use Rattle.chain_rules.specs.Rules.{AreRulesOf}
use Rattle.path_links.specs.Free.{is_free}
use Rattle.path_links.specs.Direct.{last_of, is_direct_from}
use Rattle.net_edit.specs.Rearranged.{ArePinsOnce, AreOutputsApart, AreRearranged}
use Rattle.plan_paths.specs.NewPaths.{new_paths}
use Rattle.plan_paths.specs.Numbered.{PathNumbers, numbered_paths}

-- an output that counts as free is assigned or direct
abbrev pub AreFreeOutputs : PathNumbers → Netlist → Cells → List Path → Type 0
AreFreeOutputs N n cells paths = (p : Path) → Contains paths p → N.free p ≡ true → (is_free n p.output ≡ true) ⊎ (is_direct_from n cells p.output (last_of p) ≡ true)

-- the paths after a legal plan are the read ones rearranged
abbrev pub PlanLaw : Type 0
PlanLaw = (N : PathNumbers) (n : Netlist) (cells : Cells) (old : List Path) (chains : List ChainSpec) (rules : Rules) (plan : Plan)
    → AreRulesOf (numbered_paths N old) chains rules → IsLegal rules plan
    → ((p : Path) → Contains old p → IsScanPath n cells p.output p)
    → AreFreeOutputs N n cells old
    → AreOutputsApart old → ArePinsOnce n cells → AreRearranged n cells old (new_paths old rules plan)

-- at most one legal plan gives the same new paths
abbrev pub ReadOffLaw : Type 0
ReadOffLaw = (N : PathNumbers) (old : List Path) (chains : List ChainSpec) (rules : Rules) (p q : Plan)
    → AreRulesOf (numbered_paths N old) chains rules → IsLegal rules p → IsLegal rules q → new_paths old rules p ≡ new_paths old rules q → p ≡ q
