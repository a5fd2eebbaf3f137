-- A design of the fields of one behind the moves is behind them.
use Rattle.std.proofs.Common.{◌≡◌, List, [], ◌∷◌, map, refl, sym, ap, ap₂, ◌∙◌}
use Rattle.def_reader.specs.declared.design.Design.{Design}
use Rattle.netlist_core.specs.declared.netlist.Netlist.{Netlist}
use Rattle.cell_table.specs.Cells.{Cells}
use Rattle.chain_trace.specs.declared.path.Path.{Path}
use Rattle.def_edit.specs.Moved.{moved_pin}
use Rattle.def_edit.specs.Alike.Fields.{component_fields, pin_fields, net_fields, fields}
use Rattle.def_writer.specs.Moved.Moves.{moves_of}
use Rattle.def_writer.specs.Moved.Laws as laws
use Rattle.def_edit.specs.declared.chains.NewChain.{NewChain}
use Rattle.def_edit.specs.MovedText.{moved_design}
use Rattle.def_writer.specs.DefTexts.{name_and_cell}

of_map : {X Y Z : Type 0} (g : Y → Z) (f : X → Y) (xs : List X) → map g (map f xs) ≡ map (λ x. g (f x)) xs
of_map g f [] = refl
of_map g f (x ∷ xs) = ap (λ (l : List _). g (f x) ∷ l) (of_map g f xs)

module _ (v w : Design) (e : fields v ≡ fields w) where
  components_of : (d : Design) → (fields d).components ≡ map component_fields d.components
  unfolding fields
  components_of d = refl

  pins_of : (d : Design) → (fields d).pins ≡ map pin_fields d.pins
  unfolding fields
  pins_of d = refl

  nets_of : (d : Design) → (fields d).nets ≡ map net_fields d.nets
  unfolding fields
  nets_of d = refl

  -- what is seen of a list by its fields alone
  seen : {X Y : Type 0} (f : X → X) (g : X → Y) (xs ys : List X) → ((x : X) → g (f x) ≡ g x) → map f xs ≡ map f ys → map g xs ≡ map g ys
  seen f g xs ys same h = sym (once f g xs same) ∙ ap (map g) h ∙ once f g ys same
    where
      once : {X Y : Type 0} (f : X → X) (g : X → Y) (xs : List X) → ((x : X) → g (f x) ≡ g x) → map g (map f xs) ≡ map g xs
      once f g [] same = refl
      once f g (x ∷ xs) same = ap₂ (λ (y : _) (l : List _). y ∷ l) (same x) (once f g xs same)

  pub same_components : map name_and_cell v.components ≡ map name_and_cell w.components
  same_components = seen component_fields name_and_cell v.components w.components (λ c. refl) (sym (components_of v) ∙ ap (λ (x : Design). x.components) e ∙ components_of w)

  same_pins : map laws.pin_fields v.pins ≡ map laws.pin_fields w.pins
  same_pins = seen pin_fields laws.pin_fields v.pins w.pins (λ p. refl) (sym (pins_of v) ∙ ap (λ (x : Design). x.pins) e ∙ pins_of w)

  same_nets : map laws.net_fields v.nets ≡ map laws.net_fields w.nets
  same_nets = seen net_fields laws.net_fields v.nets w.nets (λ n. refl) (sym (nets_of v) ∙ ap (λ (x : Design). x.nets) e ∙ nets_of w)

pub is_behind : (n : Netlist) (cells : Cells) (d v : Design) (old new : List Path) (news : List NewChain) → fields v ≡ fields (moved_design d (moves_of n cells d old new) news) → laws.IsBehind n cells d old new v
is_behind n cells d v old new news e =
    let w = moved_design d (moves_of n cells d old new) news in
    record {
      nets = same_nets v w e;
      pins = same_pins v w e ∙ of_map laws.pin_fields (moved_pin d.nets (moves_of n cells d old new)) d.pins;
    }
