-- What moves of pins make of the statements of NETS and PINS (LEF/DEF 5.8).
use Rattle.std.specs.Prelude.{ℕ, ◌+◌, Bool, true, false, ◌||◌, not, ◌==◌, if◌then◌else◌, List, [], ◌∷◌, map, filter, Option, Some, None, is_some, option_map, option_and_then}
use Rattle.std.specs.List.{find, flat_map, filter_map, list_any, slice_get}
use Rattle.base_types.specs.Names.{plain_name}
use Rattle.def_syntax.specs.declared.design.DesignText.{DesignText}
use Rattle.def_reader.specs.declared.design.Component.{Component}
use Rattle.def_reader.specs.declared.design.Net.{Net}
use Rattle.def_layout.specs.declared.net.ConnectionLayout.{ConnectionLayout}
use Rattle.def_edit.specs.Alike.Changes.{NetChange, NetWords}
use Rattle.def_edit.specs.Alike.Fields.{pin_of_words, nets_in}
use Rattle.def_edit.specs.declared.pin_moves.PinMove.{PinMove}
use Rattle.def_edit.specs.Moved.{leaves, moving_pin, is_port}
use Rattle.def_edit.specs.Words.{end_word}

-- the connection is counted: it isn't a pin of all components
abbrev pub is_counted : ConnectionLayout → Bool
is_counted c = is_some (pin_of_words c)

-- which connections stay, the counted ones from a place on, where those at some places leave
unfoldable pub stays_by : (ℕ → Bool) → ℕ → List ConnectionLayout → List Bool
stays_by leaves place [] = []
stays_by leaves place (c ∷ cs) = if is_counted c then not (leaves place) ∷ stays_by leaves (place + 1) cs else true ∷ stays_by leaves place cs

-- the nets by their words, without MUSTJOIN
abbrev pub net_rows : List ℕ → DesignText → List NetWords
net_rows text t = filter_map (λ x. x) (nets_in text t)

-- the connection of a pin that moves
abbrev pub moving_connection : List NetWords → PinMove → Option ConnectionLayout
moving_connection rows m = option_and_then (λ row. slice_get (filter is_counted row.connections) m.place) (slice_get rows m.from)

-- it is written with its component as COMPONENTS writes it, its pin as it was written, and no more
abbrev pub added_for : List Component → ConnectionLayout → ConnectionLayout
added_for components c = record { component = end_word components c.component; pin = c.pin; synthesized = false }

-- a connection, if there is one
abbrev pub added_list : List Component → Option ConnectionLayout → List ConnectionLayout
added_list components None = []
added_list components (Some c) = added_for components c ∷ []

-- the connections that come with some moves, in their order
abbrev pub added_with : List Component → List NetWords → List PinMove → List ConnectionLayout
added_with components rows moves = flat_map (λ m. added_list components (moving_connection rows m)) moves

-- the moves to a net
abbrev pub moves_to : ℕ → List PinMove → List PinMove
moves_to net moves = filter (λ m. m.to == net) moves

-- the moves from a net
abbrev pub moves_from : ℕ → List PinMove → List PinMove
moves_from net moves = filter (λ m. m.from == net) moves

-- a pin leaves the net or comes to it
abbrev pub is_touched : List PinMove → ℕ → Bool
is_touched moves net = list_any (λ m. m.from == net || m.to == net) moves

-- how the net of a number is written anew, where a pin leaves it or comes to it
abbrev pub net_change : List Component → List NetWords → List PinMove → ℕ → NetWords → Option NetChange
net_change components rows moves net row =
    if is_touched moves net then Some (record { stays = stays_by (leaves moves net) 0 row.connections; added = added_with components rows (moves_to net moves) }) else None

-- of the statements of NETS, the first net among which has this number
unfoldable pub net_changes_from : List Component → List NetWords → List PinMove → ℕ → List (Option NetWords) → List (Option NetChange)
net_changes_from components rows moves net [] = []
net_changes_from components rows moves net (None ∷ rest) = None ∷ net_changes_from components rows moves net rest
net_changes_from components rows moves net (Some row ∷ rest) = net_change components rows moves net row ∷ net_changes_from components rows moves (net + 1) rest

-- of all of them
abbrev pub net_changes : List ℕ → DesignText → List Component → List PinMove → List (Option NetChange)
net_changes text t components moves = net_changes_from components (net_rows text t) moves 0 (nets_in text t)

-- the net to which the port of this name goes, as NETS writes it
abbrev pub new_word : List NetWords → List Net → List PinMove → List ℕ → Option (List ℕ)
new_word rows nets moves name = option_and_then (λ m. option_map (λ row. row.name) (slice_get rows m.to)) (find (λ m. is_port name (moving_pin nets m)) moves)

-- of the statements of PINS
abbrev pub pin_changes : List ℕ → DesignText → List Net → List PinMove → List (Option (List ℕ))
pin_changes text t nets moves = map (λ p. new_word (net_rows text t) nets moves (plain_name p.statement.name)) t.pins
