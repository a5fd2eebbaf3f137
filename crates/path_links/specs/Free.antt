-- Which ports are free: what drives such a port can be exchanged by its assign.
use Rattle.std.specs.Prelude.{ℕ, ◌+◌, Bool, false, ◌&&◌, ◌==◌, List, [], ◌∷◌, is_some, count_by, sum_by}
use Rattle.std.specs.List.{list_any}
use Rattle.netlist_core.specs.declared.netlist.NetId.{NetId}
use Rattle.netlist_core.specs.declared.netlist.Bit.{Bit}
use Rattle.netlist_core.specs.declared.netlist.Bit.TheVariants.{Net, Zero, One, Unknown}
use Rattle.netlist_core.specs.declared.netlist.Assign.{Assign}
use Rattle.netlist_core.specs.declared.netlist.Instance.{Instance}
use Rattle.netlist_core.specs.declared.netlist.Netlist.{Netlist}
use Rattle.netlist_core.specs.Netlists.{single_net}

-- the bit is that of the net
abbrev pub is_bit_of : NetId → Bit → Bool
is_bit_of net (Net other) = other.0 == net.0
is_bit_of net Zero = false
is_bit_of net One = false
is_bit_of net Unknown = false

-- how often a net stands in an expression
abbrev pub count_in : NetId → List Bit → ℕ
count_in net bits = count_by (is_bit_of net) bits

-- how often a net stands in an assign
abbrev pub count_in_assign : NetId → Assign → ℕ
count_in_assign net assign = count_in net assign.left.bits + count_in net assign.right.bits

-- how often a net stands in an instance's connections
abbrev pub count_in_instance : NetId → Instance → ℕ
count_in_instance net placed = sum_by (λ connection. count_in net connection.expr.bits) placed.connections

-- how often a net stands in the module, besides the header and its declarations
abbrev pub count_of : Netlist → NetId → ℕ
count_of n net = sum_by (count_in_assign net) n.assigns + sum_by (count_in_instance net) n.instances

-- the expression is the one net bit
abbrev pub is_one_net : NetId → List Bit → Bool
is_one_net net [] = false
is_one_net net (bit ∷ []) = is_bit_of net bit
is_one_net net (bit ∷ other ∷ others) = false

-- the net is the whole left side of the assign, and the right side is one net bit
abbrev pub is_assign_of : NetId → Assign → Bool
is_assign_of net assign = is_one_net net assign.left.bits && is_some (single_net assign.right.bits)

-- the net stands at one place, as the whole left side of an assign whose right side is one net bit
abbrev pub is_free : Netlist → NetId → Bool
is_free n net = count_of n net == 1 && list_any (is_assign_of net) n.assigns
