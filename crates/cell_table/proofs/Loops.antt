-- A loop that reads the items or the members of a value: what stands in front, and what is still read.
use Rattle.std.proofs.Common.{◌≡◌, ℕ, ◌+◌, ◌<◌, ◌≤◌, List, [], ◌∷◌, ◌++◌, length, get_or, drop, Option, Some, None, Err, String, Global, string_bytes, refl, sym, ap, ◌∙◌, append_assoc}
use Rattle.std.proofs.lemmas.List.{append-nil, drop_all}
use Rattle.toml.specs.Data.{Data}
use Rattle.toml.specs.View.{view, items_view, members_view}
use Rattle.toml.specs.declared.value.Value.{Value}
use Rattle.toml.proofs.Views.{items_view-drop}
use Rattle.cell_table.specs.Cells.{◌>>=◌, each_item, each_member, Gives}
use Rattle.base_types.specs.declared.stop.Stop.{Stop}
use Rattle.base_types.specs.declared.stop.Stop.TheVariants as stops

abbrev pub with_front : {X : Type 0} → List X → Option (List X) → Option (List X)
with_front front read = read >>= λ xs. Some (front ++ xs)

pub front_none : {X : Type 0} (read : Option (List X)) → with_front [] read ≡ read
front_none (Some x) = refl
front_none None = refl

front_more : {X : Type 0} (front : List X) (x : X) (read : Option (List X)) → with_front front (read >>= λ xs. Some (x ∷ xs)) ≡ with_front (front ++ x ∷ []) read
front_more front x (Some xs) = ap (λ (ys : List _). Some ys) (sym (append_assoc front (x ∷ []) xs))
front_more front x None = refl

module _ {X : Type 0} (f : Data → Option X) (front : List X) (vs : List Value) (i : ℕ) (total : Option (List X)) where
  -- the list so far, and the items that are left
  pub item_goes_on : (v : Value) (x : X) → i < length vs → v ≡ get_or vs i v → f (view v) ≡ Some x
      → with_front front (each_item f (items_view (drop i vs))) ≡ total
      → with_front (front ++ x ∷ []) (each_item f (items_view (drop (i + 1) vs))) ≡ total
  unfolding each_item
  item_goes_on v x lt is read same =
      let here : f (view (get_or vs i v)) ≡ Some x = ap (λ (w : Value). f (view w)) (sym is) ∙ read in
      let turn : with_front front (each_item f (items_view (drop i vs))) ≡ with_front (front ++ x ∷ []) (each_item f (items_view (drop (i + 1) vs)))
      = rw (items_view-drop vs i v lt, here) (front_more front x (each_item f (items_view (drop (i + 1) vs)))) in
      sym turn ∙ same

  pub item_stops : (v : Value) → i < length vs → v ≡ get_or vs i v → f (view v) ≡ None
      → with_front front (each_item f (items_view (drop i vs))) ≡ total → total ≡ None
  unfolding each_item
  item_stops v lt is read same =
      let here : f (view (get_or vs i v)) ≡ None = ap (λ (w : Value). f (view w)) (sym is) ∙ read in
      let turn : with_front front (each_item f (items_view (drop i vs))) ≡ None = rw (items_view-drop vs i v lt, here) refl in
      sym same ∙ turn

  pub item_gives : (v : Value) (e : Stop) → i < length vs → v ≡ get_or vs i v → Gives {X = X} (Err e) (f (view v))
      → with_front front (each_item f (items_view (drop i vs))) ≡ total → Gives {X = List X} (Err e) total
  item_gives v stops.NoForm lt is read same = item_stops v lt is read same
  item_gives v stops.NoMemory lt is read same = tt

  pub items_end : length vs ≤ i → with_front front (each_item f (items_view (drop i vs))) ≡ total → total ≡ Some front
  unfolding each_item
  items_end le same =
      let turn : with_front front (each_item f (items_view (drop i vs))) ≡ Some front = rw (drop_all i vs le) (ap (λ (ys : List X). Some ys) (append-nil front)) in
      sym same ∙ turn

abbrev pub Entry : Type 0
Entry = String Global × Value

module _ {X : Type 0} (f : List ℕ → Data → Option X) (front : List X) (all rest : List Entry) (k : String Global) (v : Value) (key : List ℕ) (total : Option (List X)) (is : all ≡ (k, v) ∷ rest) (name : key ≡ string_bytes k) where
  -- the list so far, and the members that are left
  pub member_goes_on : (x : X) → f key (view v) ≡ Some x
      → with_front front (each_member f (members_view all)) ≡ total
      → with_front (front ++ x ∷ []) (each_member f (members_view rest)) ≡ total
  unfolding each_member
  member_goes_on x read same =
      let turn : with_front front (each_member f (members_view all)) ≡ with_front (front ++ x ∷ []) (each_member f (members_view rest))
      = rw (is, ← name, read) (front_more front x (each_member f (members_view rest))) in
      sym turn ∙ same

  pub member_stops : f key (view v) ≡ None → with_front front (each_member f (members_view all)) ≡ total → total ≡ None
  unfolding each_member
  member_stops read same =
      let turn : with_front front (each_member f (members_view all)) ≡ None = rw (is, ← name, read) refl in
      sym same ∙ turn

  pub member_gives : (e : Stop) → Gives {X = X} (Err e) (f key (view v))
      → with_front front (each_member f (members_view all)) ≡ total → Gives {X = List X} (Err e) total
  member_gives stops.NoForm read same = member_stops read same
  member_gives stops.NoMemory read same = tt

pub members_end : {X : Type 0} (f : List ℕ → Data → Option X) (front : List X) (all : List Entry) (total : Option (List X)) → all ≡ []
    → with_front front (each_member f (members_view all)) ≡ total → total ≡ Some front
unfolding each_member
members_end f front all total none same =
    let turn : with_front front (each_member f (members_view all)) ≡ Some front = rw none (ap (λ (ys : List _). Some ys) (append-nil front)) in
    sym same ∙ turn
