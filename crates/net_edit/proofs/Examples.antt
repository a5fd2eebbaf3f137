-- Three flops a, b, c from si to so, c at so without an assign: put into the order a, c, b.
use Rattle.std.specs.Prelude.{◌≡◌, refl, ℕ, false, true, List, [], ◌∷◌, codes}
use Rattle.netlist_core.specs.declared.netlist.NetId.{NetId}
use Rattle.netlist_core.specs.declared.netlist.NetName.{NetName}
use Rattle.netlist_core.specs.declared.netlist.Bit.TheVariants.{Net}
use Rattle.netlist_core.specs.declared.netlist.Direction.TheVariants.{Input, Output}
use Rattle.netlist_core.specs.declared.netlist.Expr.{Expr}
use Rattle.netlist_core.specs.declared.netlist.Instance.{Instance}
use Rattle.netlist_core.specs.declared.netlist.Netlist.{Netlist}
use Rattle.netlist_core.specs.Netlists.{named, NamedInstance, Named}
use Rattle.cell_table.specs.Cells.{Cells}
use Rattle.chain_trace.specs.declared.path.Step.{Step}
use Rattle.chain_trace.specs.declared.path.Path.{Path}
use Rattle.path_links.specs.Erasure.{erased_netlist}
use Rattle.net_edit.specs.Tails.{freed_between, rewired}
use Rattle.net_edit.specs.Erased.{without_tails, tails_of, scan_sinks}

abbrev id : ℕ → NetId
id k = record { 0 = k }

abbrev net : List ℕ → NetName
net name = record { plain = name; text = name }

abbrev at : ℕ → Expr
at k = record { bits = Net (id k) ∷ []; span = record { start = 0; end = 0 } }

abbrev flop : List ℕ → ℕ → ℕ → Instance
flop name si q = record { name = name; cell = codes "SDF"; connections = record { pin = codes "SI"; expr = at si } ∷ record { pin = codes "Q"; expr = at q } ∷ []; line = 0 }

abbrev cells : Cells
cells = (codes "SDF", record { input = codes "SI"; bits = false ∷ []; outs = record { pin = codes "Q"; inverted = false } ∷ record { pin = codes "QN"; inverted = true } ∷ [] } ∷ []) ∷ []

abbrev netlist : Netlist
netlist = record {
  «module» = codes "top";
  line = 1;
  nets = net (codes "si") ∷ net (codes "so") ∷ net (codes "qa") ∷ net (codes "qb") ∷ [];
  declared = 4;
  ports = record { net = id 0; direction = Input; line = 2 } ∷ record { net = id 1; direction = Output; line = 2 } ∷ [];
  assigns = [];
  instances = flop (codes "a") 0 2 ∷ flop (codes "b") 2 3 ∷ flop (codes "c") 3 1 ∷ [];
}

abbrev step : ℕ → Step
step instance = record { instance = instance; path = 0; out = 0 }

abbrev read : List Path
read = record { input = id 0; output = id 1; steps = step 0 ∷ step 1 ∷ step 2 ∷ [] } ∷ []

abbrev new : List Path
new = record { input = id 0; output = id 1; steps = step 0 ∷ step 2 ∷ step 1 ∷ [] } ∷ []

abbrev names : List (List ℕ)
names = codes "scan_tail_0" ∷ []

abbrev placed : List ℕ → List ℕ → List ℕ → NamedInstance
placed name si q = record { name = name; cell = codes "SDF"; pins = (codes "SI", Named si ∷ []) ∷ (codes "Q", Named q ∷ []) ∷ [] }

-- c leaves so for its tail, which feeds b; so is assigned from qb
written : named (rewired netlist cells names read new) ≡ record {
  module_name = codes "top";
  nets = codes "si" ∷ codes "so" ∷ codes "qa" ∷ codes "qb" ∷ [];
  ports = record { name = codes "si"; direction = Input } ∷ record { name = codes "so"; direction = Output } ∷ [];
  assigns = ((Named (codes "so"), Named (codes "qb")) ∷ []) ∷ [];
  instances = placed (codes "a") (codes "si") (codes "qa") ∷ placed (codes "b") (codes "scan_tail_0") (codes "qb") ∷ placed (codes "c") (codes "qa") (codes "scan_tail_0") ∷ [];
}
written = refl

-- with the order as read nothing is freed, and nothing changes
kept : named (rewired netlist cells [] read read) ≡ named netlist
kept = refl

-- erased, both are one
erased : erased_netlist (scan_sinks netlist cells (λ port. true) read) (without_tails (tails_of netlist cells (freed_between netlist cells read new) names) (named (rewired netlist cells names read new)))
    ≡ erased_netlist (scan_sinks netlist cells (λ port. true) read) (named netlist)
erased = refl
