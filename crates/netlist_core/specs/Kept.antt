-- Where a list of bits keeps them.
use Rattle.std.specs.Prelude.{List, [], ◌∷◌}
use Rattle.netlist_core.specs.declared.netlist.Bit.{Bit}
use Rattle.netlist_core.specs.declared.bit_list.Kept.{Kept}
use Rattle.netlist_core.specs.declared.bit_list.Kept.TheVariants.{One, Apart}

-- the bits that are kept
abbrev pub kept_bits : Kept → List Bit
kept_bits (One bit) = bit ∷ []
kept_bits (Apart bits) = bits.items
