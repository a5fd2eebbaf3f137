-- Which paths have a bit, before a plan and after it.
use Rattle.std.specs.Prelude.{◌≡◌, List, Contains}
use Rattle.netlist_core.specs.declared.netlist.Netlist.{Netlist}
use Rattle.cell_table.specs.Cells.{Cells}
use Rattle.chain_trace.specs.declared.path.Step.{Step}
use Rattle.chain_trace.specs.declared.path.Path.{Path}
use Rattle.chain_trace.specs.Paths.{scan_path_at}
use Rattle.chain_trace.specs.Parities.{NamesEntry}
use Rattle.chain_rules.specs.declared.spec.ChainSpec.{ChainSpec}
use Rattle.chain_rules.specs.declared.unit.Rules.{Rules}
use Rattle.chain_rules.specs.declared.plan.Plan.{Plan}
use Rattle.chain_rules.specs.Legality.{IsLegal}
use Rattle.chain_rules.specs.Rules.{AreRulesOf}
use Rattle.net_edit.specs.Rearranged.{steps_of}
use Rattle.plan_paths.specs.NewPaths.{new_paths}
use Rattle.plan_paths.specs.Numbered.{PathNumbers, numbered_paths}
use Rattle.path_chains.specs.Numbered.{bit_count, HaveBits}

-- each step has as many bits as its scan path
abbrev pub CountsBits : PathNumbers → Netlist → Cells → Type 0
CountsBits N n cells = (step : Step) → (N.of_step step).bits ≡ bit_count (scan_path_at n cells step.instance step.path)

-- after a legal plan each path that had a bit has one
abbrev pub KeepsBitsLaw : Type 0
KeepsBitsLaw = (N : PathNumbers) (n : Netlist) (cells : Cells) (old : List Path) (chains : List ChainSpec) (rules : Rules) (plan : Plan)
    → CountsBits N n cells → AreRulesOf (numbered_paths N old) chains rules → IsLegal rules plan
    → ((s : Step) → Contains (steps_of old) s → NamesEntry n cells s) → HaveBits n cells old → HaveBits n cells (new_paths old rules plan)
