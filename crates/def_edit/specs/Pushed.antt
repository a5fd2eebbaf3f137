-- The edits of one statement where pins move.
use Rattle.std.specs.Prelude.{ℕ, if◌then◌else◌, List, map, Option, Some, None}
use Rattle.base_types.specs.Names.{plain_name}
use Rattle.splice.specs.declared.Edit.{Edit}
use Rattle.def_syntax.specs.declared.design.Located.{Located}
use Rattle.def_syntax.specs.declared.pin.DesignPin.{DesignPin}
use Rattle.base_types.specs.declared.span.Span.{Span}
use Rattle.token_forms.specs.Runs.{bytes_of}
use Rattle.def_syntax.specs.declared.net.Net.{Net}
use Rattle.def_layout.specs.Words.{texts}
use Rattle.def_layout.specs.Nets.{connection_in, has_wiring}
use Rattle.def_syntax.specs.declared.net.NetStatement.{NetStatement}
use Rattle.def_reader.specs.declared.design.Component.{Component}
use Rattle.def_reader.specs.declared.design.Net.{Net as DesignNet}
use Rattle.def_edit.specs.Alike.Changes.{NetWords, NetChange, net_in}
use Rattle.def_edit.specs.declared.pin_moves.PinMove.{PinMove}
use Rattle.def_edit.specs.NetChanges.{new_word, net_changes_from}
use Rattle.def_edit.specs.MovedText.{pin_edit, net_edit, each_edit, cut_count}
use Rattle.def_edit.specs.Lookups.{maybe_edit}

-- that of a design pin
abbrev pub pin_moved : List ℕ → List NetWords → List DesignNet → List PinMove → Located DesignPin → List Edit
pin_moved text rows nets moves p = maybe_edit (pin_edit text p) (new_word rows nets moves (plain_name p.statement.name))

-- a net by its words
abbrev pub net_words : List ℕ → Net → NetWords
net_words text x = record { name = x.name; connections = map (connection_in text) x.connections }

-- whether a net's statement loses wiring, where it changes
abbrev pub cut_of : List ℕ → Span → Option NetChange → ℕ
cut_of text span None = 0
cut_of text span (Some c) = if has_wiring 0 (texts (bytes_of text span)) then 1 else 0

-- how statements of NETS change, the first net among which has this number
abbrev pub changes_from : List ℕ → List Component → List NetWords → List PinMove → ℕ → List (Located NetStatement) → List (Option NetChange)
changes_from text components rows moves number ns = net_changes_from components rows moves number (map (λ (n : Located NetStatement). net_in text n.statement) ns)

-- their edits
abbrev pub edits_from : List ℕ → List Component → List NetWords → List PinMove → ℕ → List (Located NetStatement) → List Edit
edits_from text components rows moves number ns = each_edit (net_edit text) ns (changes_from text components rows moves number ns)

-- how many of them lose wiring
abbrev pub cuts_from : List ℕ → List Component → List NetWords → List PinMove → ℕ → List (Located NetStatement) → ℕ
cuts_from text components rows moves number ns = cut_count text ns (changes_from text components rows moves number ns)
