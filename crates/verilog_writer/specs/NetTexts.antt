-- The nets of a netlist are net bits: how they are written, and what this is read as.
use Rattle.std.specs.Prelude.{◌≡◌, ℕ, List, [], ◌∷◌, Option, Some, None}
use Rattle.std.specs.List.{AllByRecursion as Each}
use Rattle.netlist_core.specs.declared.netlist.Netlist.{Netlist}
use Rattle.netlist_core.specs.Netlists.{Named}
use Rattle.verilog_names.specs.Values.{bit_name}
use Rattle.verilog_names.specs.Declarations.{Declaration, bounds_in}
use Rattle.verilog_reader.specs.Denoted.{item_bits, DenotesNetlist}
use Rattle.verilog_writer.specs.VerilogText.{NetBit, net_text, net_item, IsNetBit}

-- the plain name of a net or of a bit of a vector
abbrev pub indexed_name : List ℕ → Option ℕ → List ℕ
indexed_name name None = name
indexed_name name (Some index) = bit_name name index

-- the plain name of a net bit
abbrev pub net_name : NetBit → List ℕ
net_name bit = indexed_name bit.name bit.index

-- a net with this plain name and this text is a net bit
pub record IsNetText (plain text : List ℕ) : Type 0 where
  pub bit : NetBit
  pub is : IsNetBit bit
  pub named : plain ≡ net_name bit
  pub written : text ≡ net_text bit

-- so are the nets of a netlist that a text denotes
abbrev pub NetsLaw : Type 0
NetsLaw = (text : List ℕ) (n : Netlist) → DenotesNetlist text n → Each (λ net. IsNetText net.plain net.text) n.nets

-- where there is no index, the name is no vector
abbrev pub IsScalarWithout : List Declaration → List ℕ → Option ℕ → Type 0
IsScalarWithout ds name None = bounds_in ds name ≡ None
IsScalarWithout ds name (Some index) = Unit {0}

-- the item that a net bit is read as has this one bit, where a net without an index is no declared vector
abbrev pub BitLaw : Type 0
BitLaw = (ds : List Declaration) (bit : NetBit) → IsNetBit bit → IsScalarWithout ds bit.name bit.index → item_bits ds (net_item bit) ≡ Named (net_name bit) ∷ []
