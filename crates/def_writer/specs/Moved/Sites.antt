-- The sites of pins in the nets of a design, as the code has them in a map.
use Rattle.std.specs.Prelude.{ℕ, Bool, true, false, ◌||◌, List, Option, Some, None, option_and_then, option_map}
use Rattle.std.specs.HashMap.{HashMap, get}
use Rattle.std.specs.List.{list_any, position}
use Rattle.netlist_core.specs.declared.netlist.Netlist.{Netlist}
use Rattle.cell_table.specs.Cells.{Cells, ◌>>=◌}
use Rattle.path_links.specs.Edits.{Link}
use Rattle.net_edit.specs.Agreement.{pin_of_source, pin_of_sink}
use Rattle.def_reader.specs.declared.design.NetPin.{NetPin}
use Rattle.def_reader.specs.declared.design.Net.{Net}
use Rattle.def_reader.specs.Steps.{PinKey, same_key, pin_of_key}
use Rattle.def_writer.specs.Placing.{same_pin, net_pin}
use Rattle.def_edit.specs.declared.pin_moves.PinMove.{PinMove}

-- the pins of a link, its source and its sink, as nets name them
abbrev pub pins_of : Netlist → Cells → Link → Option (NetPin × NetPin)
pins_of n cells link = do
  source ← pin_of_source n cells link.0
  sink ← pin_of_sink n cells link.1
  Some (net_pin n source, net_pin n sink)

-- two pins by their keys
abbrev pub PairKey : Type 0
PairKey = PinKey × PinKey

-- the pins of two keys
abbrev pub pins_by : PairKey → NetPin × NetPin
pins_by pair = (pin_of_key pair.0, pin_of_key pair.1)

-- the key is one of these
abbrev pub is_wanted : List PairKey → PinKey → Bool
is_wanted pairs key = list_any (λ pair. same_key pair.0 key || same_key pair.1 key) pairs

-- of a pin that is wanted the site, once one is found
abbrev pub site_by : {S : Type 0} → HashMap PinKey (Option (ℕ × ℕ)) S → PinKey → Option (Option (ℕ × ℕ))
site_by sites key = get same_key sites key

-- the pin is wanted, and no site is found yet
abbrev pub is_open : Option (Option (ℕ × ℕ)) → Bool
is_open None = false
is_open (Some None) = true
is_open (Some (Some site)) = false

-- the place of a pin in the net of a number
abbrev pub site_at : ℕ → Net → NetPin → Option (ℕ × ℕ)
site_at k net pin = option_map (λ place. (k, place)) (position (same_pin pin) net.pins)

-- the site of a pin, if it is wanted and stands in a net
abbrev pub found : Option (Option (ℕ × ℕ)) → Option (ℕ × ℕ)
found site = option_and_then (λ s. s) site

-- a move from the site of a sink to the net in which its source has its site
abbrev pub move_at : Option (ℕ × ℕ) → Option (ℕ × ℕ) → Option PinMove
move_at source sink = do
  at ← sink
  to ← source
  Some (record { from = at.0; place = at.1; to = to.0 })

-- the move of two pins by their sites
abbrev pub move_by : {S : Type 0} → HashMap PinKey (Option (ℕ × ℕ)) S → PairKey → Option PinMove
move_by sites pair = move_at (found (site_by sites pair.0)) (found (site_by sites pair.1))
