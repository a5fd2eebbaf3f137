-- The design pins of a text in which pins moved.
use Rattle.std.proofs.Common.{◌≡◌, ℕ, List, [], ◌∷◌, map, Option, Some, None, refl, sym, ap, ◌∙◌}
use Rattle.std.specs.Prelude.{option_map, option_and_then, unwrap_or}
use Rattle.std.specs.List.{find, slice_get}
use Rattle.base_types.specs.Names.{plain_name}
use Rattle.def_syntax.specs.declared.design.Located.{Located}
use Rattle.def_syntax.specs.declared.pin.DesignPin.{DesignPin as PinText}
use Rattle.def_reader.specs.declared.design.DesignPin.{DesignPin}
use Rattle.def_reader.specs.declared.design.Net.{Net}
use Rattle.def_reader.specs.Designs.{pin_of}
use Rattle.def_edit.specs.Alike.Changes.{NetWords, changed_each}
use Rattle.def_edit.specs.Alike.Fields.{pin_fields, net_fields, net_of_words, with_net}
use Rattle.def_edit.specs.declared.pin_moves.PinMove.{PinMove}
use Rattle.def_edit.specs.Moved.{moving_pin, is_port, new_net, moved_pin}
use Rattle.def_edit.specs.NetChanges.{new_word}
use Rattle.def_edit.proofs.MovedNets.{row_at}

module _ (nets : List Net) (rows : List NetWords) (same : map net_fields nets ≡ map net_of_words rows) where
  net_name : (o : Option Net) → option_map (λ (net : Net). net.name) o ≡ option_map (λ (net : Net). net.name) (option_map net_fields o)
  net_name None = refl
  net_name (Some n) = refl

  row_name : (o : Option NetWords) → option_map (λ (net : Net). net.name) (option_map net_of_words o) ≡ option_map plain_name (option_map (λ (row : NetWords). row.name) o)
  row_name None = refl
  row_name (Some row) = refl

  found : (o : Option PinMove) → option_and_then (λ (m : PinMove). option_map (λ (net : Net). net.name) (slice_get nets m.to)) o
      ≡ option_map plain_name (option_and_then (λ (m : PinMove). option_map (λ (row : NetWords). row.name) (slice_get rows m.to)) o)
  found None = refl
  found (Some m) = net_name (slice_get nets m.to) ∙ ap (option_map (λ (net : Net). net.name)) (row_at nets rows same m.to) ∙ row_name (slice_get rows m.to)

  -- the net to which a port goes, as it is read
  pub new_is : (moves : List PinMove) (name : List ℕ) → new_net nets moves name ≡ option_map plain_name (new_word rows nets moves name)
  new_is moves name = found (find (λ m. is_port name (moving_pin nets m)) moves)

  pin_step : (p : DesignPin) (o : Option (List ℕ)) (ps qs : List DesignPin) (cs : List (Option (List ℕ))) → changed_each with_net ps cs ≡ qs
      → changed_each with_net (pin_fields p ∷ ps) (o ∷ cs) ≡ pin_fields (record p { net = unwrap_or (option_map plain_name o) p.net }) ∷ qs
  pin_step p None ps qs cs e = ap (λ (l : List DesignPin). pin_fields p ∷ l) e
  pin_step p (Some w) ps qs cs e = ap (λ (l : List DesignPin). with_net (pin_fields p) w ∷ l) e

  -- design pins name the nets of their ports
  pub pins_moved : (moves : List PinMove) (ps : List (Located PinText))
      → changed_each with_net (map pin_fields (map pin_of ps)) (map (λ p. new_word rows nets moves (plain_name p.statement.name)) ps) ≡ map pin_fields (map (moved_pin nets moves) (map pin_of ps))
  pins_moved moves [] = refl
  pins_moved moves (p ∷ ps) =
      let name = plain_name p.statement.name in
      pin_step (pin_of p) (new_word rows nets moves name) (map pin_fields (map pin_of ps)) (map pin_fields (map (moved_pin nets moves) (map pin_of ps))) (map (λ p. new_word rows nets moves (plain_name p.statement.name)) ps) (pins_moved moves ps)
      ∙ ap (λ (o : Option (List ℕ)). pin_fields (record (pin_of p) { net = unwrap_or o (pin_of p).net }) ∷ map pin_fields (map (moved_pin nets moves) (map pin_of ps))) (sym (new_is moves name))
