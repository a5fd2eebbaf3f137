-- The edits of a netlist's text, one for each expression, and what the text with them denotes.
use Rattle.std.specs.Prelude.{◌≡◌, ℕ, List, [], ◌∷◌, ◌++◌, slice_index_or, Option, Some, None}
use Rattle.splice.specs.declared.Edit.{Edit}
use Rattle.netlist_core.specs.declared.netlist.NetId.{NetId}
use Rattle.netlist_core.specs.declared.netlist.Assign.{Assign}
use Rattle.netlist_core.specs.declared.netlist.Connection.{Connection}
use Rattle.netlist_core.specs.declared.netlist.Netlist.{Netlist}
use Rattle.netlist_core.specs.Netlists.{named, AreWiredAlike}
use Rattle.verilog_reader.specs.Denoted.{DenotesNetlist}

-- the Verilog text of a net
abbrev pub text_of : Netlist → NetId → List ℕ
text_of n net = (slice_index_or n.nets net.0 (record { plain = []; text = [] })).text

-- the edit of a connection's expression
abbrev pub edit_at : Option Connection → List ℕ → List Edit
edit_at None text = []
edit_at (Some connection) text = record { span = connection.expr.span; text = text } ∷ []

-- the edit of an assign's right side
abbrev pub right_edit : Option Assign → List ℕ → List Edit
right_edit None text = []
right_edit (Some assign) text = record { span = assign.right.span; text = text } ∷ []

-- a netlist is another one by names, but for these nets, which are declared in front
pub record IsWrittenFrom (written n : Netlist) (names : List (List ℕ)) : Type 0 where
  pub module_name : (named written).module_name ≡ (named n).module_name
  pub nets : (named written).nets ≡ names ++ (named n).nets
  pub wired : AreWiredAlike written n

-- the text denotes a netlist that is the given one by names, but for these nets
pub record DenotesAlike (text : List ℕ) (n : Netlist) (names : List (List ℕ)) : Type 0 where
  pub netlist : Netlist
  pub is : DenotesNetlist text netlist
  pub same : IsWrittenFrom netlist n names
