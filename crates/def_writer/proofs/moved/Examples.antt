-- Three flops a, b, c from si to so, each in nets of a design, put into the order a, c, b.
use Rattle.std.specs.Prelude.{◌≡◌, refl, ℕ, false, List, [], ◌∷◌, map, codes, pos, None}
use Rattle.netlist_core.specs.declared.netlist.NetId.{NetId}
use Rattle.netlist_core.specs.declared.netlist.NetName.{NetName}
use Rattle.netlist_core.specs.declared.netlist.Bit.TheVariants as bits
use Rattle.netlist_core.specs.declared.netlist.Direction.TheVariants.{Input, Output}
use Rattle.netlist_core.specs.declared.netlist.Expr.{Expr}
use Rattle.netlist_core.specs.declared.netlist.Instance.{Instance}
use Rattle.netlist_core.specs.declared.netlist.Netlist.{Netlist}
use Rattle.cell_table.specs.Cells.{Cells}
use Rattle.chain_trace.specs.declared.path.Step.{Step}
use Rattle.chain_trace.specs.declared.path.Path.{Path}
use Rattle.def_reader.specs.declared.design.NetPin.{NetPin}
use Rattle.def_reader.specs.declared.design.NetPin.TheVariants.{Cell, Port}
use Rattle.def_reader.specs.declared.design.Net.{Net}
use Rattle.def_reader.specs.declared.design.DesignPin.{DesignPin}
use Rattle.def_reader.specs.declared.design.Design.{Design}
use Rattle.def_edit.specs.declared.pin_moves.PinMove.{PinMove}
use Rattle.def_edit.specs.Moved.{staying, moved_from, moved_nets, moved_pin}
use Rattle.def_writer.specs.Moved.Moves.{moves_of}
use Rattle.def_writer.specs.Moved.Laws.{net_fields, pin_fields}

abbrev id : ℕ → NetId
id k = record { 0 = k }

abbrev net_name : List ℕ → NetName
net_name name = record { plain = name; text = name }

abbrev at : ℕ → Expr
at k = record { bits = bits.Net (id k) ∷ []; span = record { start = 0; end = 0 } }

abbrev flop : List ℕ → ℕ → ℕ → Instance
flop name si q = record { name = name; cell = codes "SDF"; connections = record { pin = codes "SI"; expr = at si } ∷ record { pin = codes "Q"; expr = at q } ∷ []; line = 0 }

abbrev cells : Cells
cells = (codes "SDF", record { input = codes "SI"; bits = false ∷ []; outs = record { pin = codes "Q"; inverted = false } ∷ [] } ∷ []) ∷ []

abbrev netlist : Netlist
netlist = record {
  «module» = codes "top";
  line = 1;
  nets = net_name (codes "si") ∷ net_name (codes "so") ∷ net_name (codes "qa") ∷ net_name (codes "qb") ∷ [];
  declared = 4;
  ports = record { net = id 0; direction = Input; line = 2 } ∷ record { net = id 1; direction = Output; line = 2 } ∷ [];
  assigns = [];
  instances = flop (codes "a") 0 2 ∷ flop (codes "b") 2 3 ∷ flop (codes "c") 3 1 ∷ [];
}

abbrev step : ℕ → Step
step instance = record { instance = instance; path = 0; out = 0 }

abbrev read : List Path
read = record { input = id 0; output = id 1; steps = step 0 ∷ step 1 ∷ step 2 ∷ [] } ∷ []

abbrev new : List Path
new = record { input = id 0; output = id 1; steps = step 0 ∷ step 2 ∷ step 1 ∷ [] } ∷ []

abbrev of : List ℕ → List ℕ → NetPin
of name pin = Cell name pin

abbrev net : List ℕ → NetPin → NetPin → Net
net name source sink = record { name = name; pins = source ∷ sink ∷ []; span = record { start = 0; end = 0 }; line = 0 }

abbrev design_pin : List ℕ → List ℕ → DesignPin
design_pin name net_at = record { name = name; net = net_at; net_span = record { start = 0; end = 0 }; place = None; line = 0 }

abbrev design : Design
design = record {
  units = pos 100;
  components = [];
  pins = design_pin (codes "si") (codes "si") ∷ design_pin (codes "so") (codes "so") ∷ [];
  nets =
      net (codes "si") (Port (codes "si")) (of (codes "a") (codes "SI")) ∷ net (codes "qa") (of (codes "a") (codes "Q")) (of (codes "b") (codes "SI"))
      ∷ net (codes "qb") (of (codes "b") (codes "Q")) (of (codes "c") (codes "SI")) ∷ net (codes "so") (of (codes "c") (codes "Q")) (Port (codes "so")) ∷ [];
  chains = [];
  chains_span = None;
}

abbrev moves : List PinMove
moves = record { from = 2; place = 1; to = 1 } ∷ record { from = 1; place = 1; to = 3 } ∷ record { from = 3; place = 1; to = 2 } ∷ []

-- in the order of the new path: c's in pin, b's, and the port
made : moves_of netlist cells design read new ≡ moves
made = refl

-- with the order as read nothing moves
none : moves_of netlist cells design read read ≡ []
none = refl

-- a net by its name and two pins
behind : map net_fields (moved_nets design.nets moves)
    ≡ (codes "si", Port (codes "si") ∷ of (codes "a") (codes "SI") ∷ []) ∷ (codes "qa", of (codes "a") (codes "Q") ∷ of (codes "c") (codes "SI") ∷ [])
    ∷ (codes "qb", of (codes "b") (codes "Q") ∷ Port (codes "so") ∷ []) ∷ (codes "so", of (codes "c") (codes "Q") ∷ of (codes "b") (codes "SI") ∷ []) ∷ []
unfolding moved_from staying
behind = refl

-- the design pin of the port names the net to which it went
pins : map (λ pin. pin_fields (moved_pin design.nets moves pin)) design.pins ≡ (codes "si", codes "si") ∷ (codes "so", codes "qb") ∷ []
pins = refl
