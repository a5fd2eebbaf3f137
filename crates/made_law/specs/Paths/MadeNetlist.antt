-- The netlist of a made design (IEEE 1364-2005, 12), whose statements stand at any places of a text.
use Rattle.std.specs.Prelude.{ℕ, ◌+◌, ◌-◌, nat_lt, if◌then◌else◌, List, [], ◌∷◌, ◌++◌, map, codes}
use Rattle.std.specs.List.{range_with_len}
use Rattle.base_types.specs.declared.span.Span.{Span}
use Rattle.netlist_core.specs.declared.netlist.NetId.{NetId}
use Rattle.netlist_core.specs.declared.netlist.Bit.TheVariants.{Net}
use Rattle.netlist_core.specs.declared.netlist.Direction.TheVariants.{Input, Output}
use Rattle.netlist_core.specs.declared.netlist.NetName.{NetName}
use Rattle.netlist_core.specs.declared.netlist.Expr.{Expr}
use Rattle.netlist_core.specs.declared.netlist.Port.{Port}
use Rattle.netlist_core.specs.declared.netlist.Assign.{Assign}
use Rattle.netlist_core.specs.declared.netlist.Instance.{Instance}
use Rattle.netlist_core.specs.declared.netlist.Netlist.{Netlist}
use Rattle.design_maker.specs.Chains.{last_unit}
use Rattle.made_law.specs.Designs.Names.{unit, unit_net, in_port, out_port}
use Rattle.made_law.specs.Designs.MadeComponents.{units}

-- the lines of the statements and the places of the expressions
pub record NetlistPlaces : Type 0 where
  pub header : ℕ
  pub inputs : ℕ
  pub outputs : ℕ
  pub instances : ℕ → ℕ
  -- of a unit, by the place of the pin in its list
  pub pins : ℕ → ℕ → Span
  pub assigns : ℕ → ℕ
  pub left : ℕ → Span
  pub right : ℕ → Span

-- the net of a number
abbrev pub net_id : ℕ → NetId
net_id number = record { 0 = number }

-- the numbers of nets: clk, se and d are 0, 1 and 2; behind them the input ports of the chains, their output ports, and the nets that
-- units drive
abbrev pub in_number : ℕ → ℕ
in_number k = 3 + k

-- the output port of chain k
abbrev pub out_number : ℕ → ℕ
out_number k = 11 + k

-- the net that unit i drives
abbrev pub unit_number : ℕ → ℕ
unit_number i = 19 + i

-- the names of the nets, by their numbers
abbrev pub net_names : ℕ → List (List ℕ)
net_names n = codes "clk" ∷ codes "se" ∷ codes "d" ∷ (map in_port (range_with_len 0 8) ++ (map out_port (range_with_len 0 8) ++ map unit_net (units n)))

-- a net whose text is its name
abbrev pub named_net : List ℕ → NetName
named_net name = record { plain = name; text = name }

-- the net at the in pin of unit i: the input port of its chain, or the net of the unit before it
abbrev pub input_number : ℕ → ℕ
input_number i = if nat_lt i 8 then in_number i else unit_number (i - 8)

-- an expression that is one net
abbrev pub net_at : ℕ → Span → Expr
net_at number span = record { bits = Net (net_id number) ∷ []; span = span }

-- SDF u.. ( .D(d), .CK(clk), .SE(se), .SI(..), .Q(q..) )
abbrev pub made_instance : NetlistPlaces → ℕ → Instance
made_instance at i =
    record {
      name = unit i;
      cell = codes "SDF";
      connections =
          record { pin = codes "D"; expr = net_at 2 (at.pins i 0) } ∷ record { pin = codes "CK"; expr = net_at 0 (at.pins i 1) } ∷ record { pin = codes "SE"; expr = net_at 1 (at.pins i 2) }
          ∷ record { pin = codes "SI"; expr = net_at (input_number i) (at.pins i 3) } ∷ record { pin = codes "Q"; expr = net_at (unit_number i) (at.pins i 4) } ∷ [];
      line = at.instances i;
    }

-- assign so.. = q.. of the last unit of chain k
abbrev pub made_assign : NetlistPlaces → ℕ → ℕ → Assign
made_assign at n k = record { left = net_at (out_number k) (at.left k); right = net_at (unit_number (last_unit n k)) (at.right k); line = at.assigns k }

-- an input port
abbrev pub input_port : NetlistPlaces → ℕ → Port
input_port at number = record { net = net_id number; direction = Input; line = at.inputs }

-- an output port
abbrev pub output_port : NetlistPlaces → ℕ → Port
output_port at number = record { net = net_id number; direction = Output; line = at.outputs }

-- the netlist of n units
abbrev pub made_netlist : NetlistPlaces → ℕ → Netlist
made_netlist at n =
    record {
      «module» = codes "top";
      line = at.header;
      nets = map named_net (net_names n);
      declared = 19 + n;
      ports = map (input_port at) (range_with_len 0 11) ++ map (output_port at) (range_with_len 11 8);
      assigns = map (made_assign at n) (range_with_len 0 8);
      instances = map (made_instance at) (units n);
    }
