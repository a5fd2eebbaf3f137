-- A chain between the cells h and t: the flops a and c may float, and p and l are an ordered list with an unlisted flop between them. The list
-- is written first, then c and a, each with the pins of its cell.
use Rattle.std.specs.Prelude.{◌≡◌, refl, ℕ, false, true, List, [], ◌∷◌, codes, Some, None}
use Rattle.netlist_core.specs.declared.netlist.NetId.{NetId}
use Rattle.netlist_core.specs.declared.netlist.Instance.{Instance}
use Rattle.netlist_core.specs.declared.netlist.Netlist.{Netlist}
use Rattle.cell_table.specs.Cells.{Cells}
use Rattle.chain_trace.specs.declared.path.Step.{Step}
use Rattle.chain_trace.specs.declared.path.Path.{Path}
use Rattle.chain_rules.specs.declared.spec.EndSpec.TheVariants as ends
use Rattle.chain_rules.specs.declared.spec.ElementSpec.{ElementSpec}
use Rattle.chain_rules.specs.declared.spec.ListSpec.TheVariants as lists
use Rattle.chain_rules.specs.declared.spec.ChainSpec.{ChainSpec}
use Rattle.chain_rules.specs.declared.unit.Unit.{Unit as MovedUnit}
use Rattle.chain_rules.specs.declared.unit.Rules.{Rules}
use Rattle.chain_rules.specs.declared.plan.Plan.{Plan}
use Rattle.def_edit.specs.declared.chains.NewElement.{NewElement}
use Rattle.def_edit.specs.declared.chains.NewChain.{NewChain}
use Rattle.def_writer.specs.PlanChains.{plan_chains}

abbrev flop : List ℕ → Instance
flop name = record { name = name; cell = codes "SDF"; connections = []; line = 0 }

abbrev netlist : Netlist
netlist = record {
  «module» = codes "top";
  line = 1;
  nets = [];
  declared = 0;
  ports = [];
  assigns = [];
  instances = flop (codes "h") ∷ flop (codes "a") ∷ flop (codes "p") ∷ flop (codes "u") ∷ flop (codes "l") ∷ flop (codes "c") ∷ flop (codes "t") ∷ [];
}

abbrev cells : Cells
cells = (codes "SDF", record { input = codes "SI"; bits = false ∷ []; outs = record { pin = codes "Q"; inverted = false } ∷ record { pin = codes "QN"; inverted = true } ∷ [] } ∷ []) ∷ []

abbrev left_at : ℕ → ℕ → Step
left_at instance out = record { instance = instance; path = 0; out = out }

abbrev port : ℕ → NetId
port k = record { 0 = k }

abbrev paths : List Path
paths = record { input = port 0; output = port 1; steps = left_at 0 1 ∷ left_at 1 0 ∷ left_at 2 0 ∷ left_at 3 0 ∷ left_at 4 1 ∷ left_at 5 0 ∷ left_at 6 0 ∷ [] } ∷ []

abbrev named : ℕ → ElementSpec
named instance = record { instance = instance; path = 0; out = None }

abbrev chains : List ChainSpec
chains = record {
  start = ends.Cell 0 0 None;
  stop = ends.Cell 6 0 None;
  lists = lists.Floating (named 1 ∷ named 5 ∷ []) ∷ lists.Ordered (named 2 ∷ named 4 ∷ []) ∷ [];
  partition = 0;
  max_bits = 0;
  line = 1;
} ∷ []

abbrev unit : ℕ → ℕ → MovedUnit
unit first last = record { path = 0; first = first; last = last; bits = 1; pinned = false }

abbrev rules : Rules
rules = record {
  units = unit 1 1 ∷ unit 2 4 ∷ unit 5 5 ∷ [];
  chains = record { path = 0; first = 1; last = 5; partition = 0; bound = 5; keeps_bit = true } ∷ [];
  read = record { chains = (0 ∷ 1 ∷ 2 ∷ []) ∷ [] };
}

abbrev plan : Plan
plan = record { chains = (1 ∷ 2 ∷ 0 ∷ []) ∷ [] }

abbrev element : List ℕ → List ℕ → NewElement
element component output = record { component = component; input = codes "SI"; output = output; bits = 1 }

abbrev written : List NewChain
written = record {
  start = codes "QN";
  stop = codes "SI";
  floating = element (codes "c") (codes "Q") ∷ element (codes "a") (codes "Q") ∷ [];
  ordered = (element (codes "p") (codes "Q") ∷ element (codes "l") (codes "QN") ∷ []) ∷ [];
} ∷ []

-- the chains after the plan
planned : plan_chains netlist cells chains paths rules plan ≡ written
planned = refl
