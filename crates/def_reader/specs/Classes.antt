-- Nets of a design by the classes of their pins' net bits, as the code goes over them.
use Rattle.std.specs.Prelude.{◌≡◌, ℕ, Bool, true, false, ◌||◌, not, ◌==◌, List, ◌∷◌, ◌++◌, Option, Some, None, is_none, option_map, Contains, slice_index, slice_index_or}
use Rattle.std.specs.List.{filter_map, flat_map, list_any}
use Rattle.std.specs.Str.{bytes_eq}
use Rattle.netlist_core.specs.declared.netlist.Instance.{Instance}
use Rattle.netlist_core.specs.declared.netlist.Netlist.{Netlist}
use Rattle.def_reader.specs.declared.design.Component.{Component}
use Rattle.def_reader.specs.declared.design.NetPin.{NetPin}
use Rattle.def_reader.specs.declared.design.Net.{Net}
use Rattle.def_reader.specs.Designs.{cell_of}
use Rattle.def_reader.specs.Agreement.{net_of_pin}

-- the class of a pin's net bit
abbrev pub class_of : Netlist → List ℕ → NetPin → Option ℕ
class_of n classes pin = option_map (λ net. slice_index classes net.0) (net_of_pin n pin)

-- the classes of a net's pins
abbrev pub net_classes : Netlist → List ℕ → Net → List ℕ
net_classes n classes net = filter_map (class_of n classes) net.pins

-- two of the numbers differ
abbrev pub is_split : List ℕ → Bool
is_split cs = list_any (λ d. not (d == slice_index cs 0)) cs

-- the number is one of these
abbrev pub has_class : List ℕ → ℕ → Bool
has_class cs c = list_any (λ d. d == c) cs

-- whether a number is marked
abbrev pub has_in : List Bool → ℕ → Bool
has_in marks c = slice_index_or marks c false

-- these numbers are marked
abbrev pub HasClasses : List Bool → List ℕ → Type 0
HasClasses marks cs = (c : ℕ) → has_in marks c ≡ has_class cs c

-- the numbers differ, or one stands before
abbrev pub is_bad_net : List ℕ → List ℕ → Bool
is_bad_net before cs = is_split cs || list_any (has_class before) cs

-- a net of these whose classes differ, or of which a net before it has one, on this line
pub record IsBadNet (classes : Net → List ℕ) (nets : List Net) (line : ℕ) : Type 0 where
  pub front : List Net
  pub net : Net
  pub behind : List Net
  pub is : nets ≡ front ++ net ∷ behind
  pub bad : is_bad_net (flat_map classes front) (classes net) ≡ true
  pub line_is : line ≡ net.line

-- the instance has no component
abbrev pub is_missing : List Component → Instance → Bool
is_missing components i = is_none (cell_of components i.name)

-- the cell of the component is another one
abbrev pub differs : List ℕ → Option (List ℕ) → Bool
differs cell None = false
differs cell (Some other) = not (bytes_eq other cell)

-- the component of the instance is of another cell
abbrev pub has_other_cell : List Component → Instance → Bool
has_other_cell components i = differs i.cell (cell_of components i.name)

-- one of the instances fails the test, on this line
pub record FailsOn (bad : Instance → Bool) (rows : List Instance) (line : ℕ) : Type 0 where
  pub row : Instance
  pub there : Contains rows row
  pub fails : bad row ≡ true
  pub is : line ≡ row.line
