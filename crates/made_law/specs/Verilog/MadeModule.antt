-- The module of the made Verilog (IEEE 1364-2005, annex A, in this profile), without the places of its expressions.
use Rattle.std.specs.Prelude.{◌≡◌, ℕ, ◌+◌, ◌-◌, List, [], ◌∷◌, ◌++◌, map, codes, None}
use Rattle.std.specs.List.{range_with_len}
use Rattle.verilog_syntax.specs.declared.statement.Declared.TheVariants.{Input, Output, Wire}
use Rattle.verilog_syntax.specs.declared.statement.Item.TheVariants as items
use Rattle.verilog_syntax.specs.declared.statement.Expression.{Expression}
use Rattle.verilog_syntax.specs.declared.statement.Connection.{Connection}
use Rattle.verilog_syntax.specs.declared.statement.Statement.{Statement}
use Rattle.verilog_syntax.specs.declared.statement.Statement.TheVariants.{Module, Declare, Assign, Instance}
use Rattle.verilog_syntax.specs.declared.reading.Placed.{Placed}
use Rattle.verilog_syntax.specs.Laws.{nowhere, bare}
use Rattle.verilog_syntax.specs.Module.{IsModule}
use Rattle.design_maker.specs.Chains.{last_unit}
use Rattle.made_law.specs.Designs.Names.{unit, unit_net, in_port, out_port}
use Rattle.made_law.specs.Verilog.MadeWords.{input_names, output_names, wire_names}

-- an expression that is a name
abbrev pub name_of : List ℕ → Expression
name_of name = record { items = items.Name name ∷ []; span = nowhere }

-- a pin at a net
abbrev pub pin_of : List ℕ → List ℕ → Connection
pin_of pin net = record { pin = pin; expression = name_of net }

-- a unit between two nets
abbrev pub instance_of : List ℕ → List ℕ → List ℕ → Statement
instance_of name from to =
    Instance (codes "SDF") name
    (pin_of (codes "D") (codes "d") ∷ pin_of (codes "CK") (codes "clk") ∷ pin_of (codes "SE") (codes "se") ∷ pin_of (codes "SI") from ∷ pin_of (codes "Q") to ∷ [])

-- the first unit of chain i
abbrev pub first_unit : ℕ → Statement
first_unit i = instance_of (unit i) (in_port i) (unit_net i)

-- unit i + 8
abbrev pub later_unit : ℕ → Statement
later_unit i = instance_of (unit (i + 8)) (unit_net i) (unit_net (i + 8))

-- the assign of the output port of chain k
abbrev pub port_assign : ℕ → ℕ → Statement
port_assign n k = Assign (name_of (out_port k)) (name_of (unit_net (last_unit n k)))

-- the header
abbrev pub made_header : Statement
made_header = Module (codes "top") (input_names ++ output_names)

-- what stands behind the header
abbrev pub made_body : ℕ → List Statement
made_body n =
    Declare Input None input_names ∷ Declare Output None output_names ∷ Declare Wire None (wire_names n)
    ∷ (map first_unit (range_with_len 0 8) ++ (map later_unit (range_with_len 0 (n - 8)) ++ map (port_assign n) (range_with_len 0 8)))

-- the statements of n units
abbrev pub made_module : ℕ → List Statement
made_module n = made_header ∷ made_body n

-- the text is the module of these statements, which stand somewhere
pub record IsMadeModule (text : List ℕ) (n : ℕ) : Type 0 where
  pub statements : List Placed
  pub is : IsModule text statements
  pub same : bare statements ≡ made_module n
