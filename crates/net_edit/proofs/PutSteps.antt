-- What edits put at pins and at assigns, as one more is looked at.
use Rattle.std.proofs.Common.{◌≡◌, ℕ, suc, ◌+◌, ◌<◌, ◌==◌, ◌&&◌, Bool, true, false, cond, List, [], ◌∷◌, ◌++◌, length, take, get_or, map, Option, Some, None, option_map, refl, sym, ap, ap₂, ◌∙◌, arith}
use Rattle.std.specs.List.{find, flat_map, position_from}
use Rattle.std.specs.Option.{option_or}
use Rattle.std.specs.Str.{bytes_eq}
use Rattle.std.proofs.lemmas.List.{take_more, length-take}
use Rattle.std.proofs.lemmas.List.Folds.{find-append}
use Rattle.netlist_core.specs.declared.netlist.NetId.{NetId}
use Rattle.netlist_core.specs.declared.netlist.NetName.{NetName}
use Rattle.netlist_core.specs.declared.netlist.Port.{Port}
use Rattle.netlist_core.specs.declared.netlist.Assign.{Assign}
use Rattle.netlist_core.specs.declared.netlist.Instance.{Instance}
use Rattle.netlist_core.specs.declared.netlist.Netlist.{Netlist}
use Rattle.cell_table.specs.declared.paths.OutPin.{OutPin}
use Rattle.cell_table.specs.Cells.{Cells}
use Rattle.chain_trace.specs.declared.path.Path.{Path}
use Rattle.path_links.specs.declared.edits.PinEdit.{PinEdit as NumberedPinEdit}
use Rattle.path_links.specs.declared.edits.PortEdit.{PortEdit as NumberedPortEdit}
use Rattle.path_links.specs.Edited.{map_from, is_edit_of_pin, pin_source, assign_source, edited_assign, edited_expr}
use Rattle.path_links.proofs.EditNetlist.{map_twice}
use Rattle.net_edit.specs.declared.edits.PinEdit.{PinEdit}
use Rattle.net_edit.specs.declared.edits.PortEdit.{PortEdit}
use Rattle.net_edit.specs.declared.edits.TailEdit.{TailEdit}
use Rattle.net_edit.specs.declared.edits.Edits.{Edits}
use Rattle.net_edit.specs.Changes.{Change, tail_or}
use Rattle.net_edit.specs.Tails.{freed_between, pin_edits, port_edits, is_pin, is_out_pin, tail_at, new_at, assign_of, freed_assign, net_named, changed_instance, rewired}
use Rattle.net_edit.specs.Wires.{net_of_wire, numbered_pin, numbered_port, IsTailOf, AreTailsOf, names_of, AreEditsFor}
use Rattle.net_edit.specs.Applied.{is_tail_at, is_edit_at, tail_put, pin_put, assign_put, put_assign, tail_assign}
use Rattle.net_edit.proofs.Places.{position_append}

or_or : {X : Type 0} (a b c : Option X) → option_or (option_or a b) c ≡ option_or a (option_or b c)
or_or None b c = refl
or_or (Some x) b c = refl

-- one edit more, at a pin that may have one
pub put_step : {X : Type 0} (new old base was more : Option X) (t u : Bool) (net other : X) → new ≡ option_or old (cond t (Some net) None) → old ≡ option_or base was → more ≡ option_or was (cond u (Some other) None)
    → t ≡ u → net ≡ other → new ≡ option_or base more
put_step {X} new old base was more t u net other now then and tests nets =
    now ∙ ap (λ (o : Option X). option_or o (cond t (Some net) None)) then ∙ or_or base was (cond t (Some net) None)
    ∙ ap (option_or base) (ap₂ (λ (b : Bool) (x : X). option_or was (cond b (Some x) None)) tests nets ∙ sym and)

map_or : {X Y : Type 0} (g : X → Y) (a b : Option X) → option_map g (option_or a b) ≡ option_or (option_map g a) (option_map g b)
map_or g None b = refl
map_or g (Some x) b = refl

map_cond : {X Y : Type 0} (g : X → Y) (b : Bool) (x : X) → option_map g (cond b (Some x) None) ≡ cond b (Some (g x)) None
map_cond g true x = refl
map_cond g false x = refl

-- what a search finds, one member more
pub found_more : {X Y : Type 0} (g : X → Y) (p : X → Bool) (xs : List X) (i : ℕ) (d : X) → i < length xs
    → option_map g (find p (take (i + 1) xs)) ≡ option_or (option_map g (find p (take i xs))) (cond (p (get_or xs i d)) (Some (g (get_or xs i d))) None)
found_more {X} {Y} g p xs i d lt =
    ap (option_map g) (ap (find p) (take_more xs i d lt) ∙ find-append p (take i xs) (get_or xs i d ∷ [])) ∙ map_or g (find p (take i xs)) (cond (p (get_or xs i d)) (Some (get_or xs i d)) None)
    ∙ ap (option_or (option_map g (find p (take i xs)))) (map_cond g (p (get_or xs i d)) (get_or xs i d))

tail_or_more : (o : Option ℕ) (b : Bool) (m : ℕ) → tail_or (option_or o (cond b (Some m) None)) None ≡ option_or (tail_or o None) (cond b (Some (record { 0 = m })) None)
tail_or_more None true m = refl
tail_or_more None false m = refl
tail_or_more (Some k) b m = refl

-- the tails at a pin, one more
pub tail_more : (n : Netlist) (tails : List TailEdit) (i : ℕ) (d : TailEdit) (instance : ℕ) (pin : List ℕ) → i < length tails
    → tail_put n (take (i + 1) tails) instance pin ≡ option_or (tail_put n (take i tails) instance pin) (cond (is_tail_at instance pin (get_or tails i d)) (Some (record { 0 = length n.nets + i })) None)
tail_more n tails i d instance pin lt =
    let test = is_tail_at instance pin in
    let from = length n.nets in
    let count : length (take i tails) ≡ i = omega (arith, length-take i tails) in
    ap (λ (o : Option ℕ). tail_or o None)
    (ap (position_from test from) (take_more tails i d lt) ∙ position_append test from (take i tails) (get_or tails i d)
    ∙ ap (λ (m : ℕ). option_or (position_from test from (take i tails)) (cond (test (get_or tails i d)) (Some (from + m)) None)) count)
    ∙ tail_or_more (position_from test from (take i tails)) (test (get_or tails i d)) (from + i)

-- members with their places, one more
map_from_push : {X Y : Type 0} (f : ℕ → X → Y) (k : ℕ) (xs : List X) (y : X) → map_from f k (xs ++ y ∷ []) ≡ map_from f k xs ++ f (k + length xs) y ∷ []
map_from_push {X} {Y} f k [] y = ap (λ (m : ℕ). f m y ∷ []) (let e : k ≡ k + 0 = omega arith in e)
map_from_push {X} {Y} f k (x ∷ xs) y =
    ap (λ (l : List Y). f k x ∷ l) (map_from_push f (k + 1) xs y ∙ ap (λ (m : ℕ). map_from f (k + 1) xs ++ f m y ∷ []) (let e : (k + 1) + length xs ≡ k + suc (length xs) = omega arith in e))

pub placed_more : {X Y : Type 0} (f : ℕ → X → Y) (xs : List X) (i : ℕ) (x : X) (old new : List Y) (y : Y) → i < length xs → x ≡ get_or xs i x → old ≡ map_from f 0 (take i xs) → y ≡ f i x → new ≡ old ++ y ∷ []
    → new ≡ map_from f 0 (take (i + 1) xs)
placed_more {X} {Y} f xs i x old new y lt is was made put =
    let count : 0 + length (take i xs) ≡ i = omega (arith, length-take i xs) in
    put ∙ ap₂ (λ (l : List Y) (z : Y). l ++ z ∷ []) was (made ∙ ap (f i) is ∙ ap (λ (m : ℕ). f m (get_or xs i x)) (sym count)) ∙ sym (ap (map_from f 0) (take_more xs i x lt) ∙ map_from_push f 0 (take i xs) (get_or xs i x))

-- what the edits put is what stands newly

found_case : {X Y : Type 0} (f : X → Y) (x : X) (o : Option Y) (u : Option X) (b : Bool) → o ≡ option_map f u → cond b (Some (f x)) o ≡ option_map f (cond b (Some x) u)
found_case f x o u true e = refl
found_case f x o u false e = e

find_map : {X Y : Type 0} (f : X → Y) (p : Y → Bool) (xs : List X) → find p (map f xs) ≡ option_map f (find (λ x. p (f x)) xs)
find_map f p [] = refl
find_map f p (x ∷ xs) = found_case f x (find p (map f xs)) (find (λ y. p (f y)) xs) (p (f x)) (find_map f p xs)

map_map : {X Y Z : Type 0} (g : Y → Z) (f : X → Y) (o : Option X) → option_map g (option_map f o) ≡ option_map (λ x. g (f x)) o
map_map g f None = refl
map_map g f (Some x) = refl

pin_put_is : (n : Netlist) (cells : Cells) (pins : List PinEdit) (instance : ℕ) (pin : List ℕ) → pin_put n cells pins instance pin ≡ pin_source n cells (map (numbered_pin n) pins) instance pin
pin_put_is n cells pins instance pin =
    sym (ap (option_map (λ (e : NumberedPinEdit). e.source)) (find_map (numbered_pin n) (is_edit_of_pin n cells instance pin) pins) ∙ map_map (λ (e : NumberedPinEdit). e.source) (numbered_pin n) (find (is_edit_at n cells instance pin) pins))

pub assign_put_is : (n : Netlist) (ports : List PortEdit) (place : ℕ) → assign_put n ports place ≡ assign_source (map (numbered_port n) ports) place
assign_put_is n ports place =
    sym (ap (option_map (λ (e : NumberedPortEdit). e.source)) (find_map (numbered_port n) (λ (e : NumberedPortEdit). e.assign == place) ports) ∙ map_map (λ (e : NumberedPortEdit). e.source) (numbered_port n) (find (λ (e : PortEdit). e.assign == place) ports))

or_tail : (o : Option ℕ) (net : Option NetId) → option_or (tail_or o None) net ≡ tail_or o net
or_tail None net = refl
or_tail (Some k) net = refl

same_test : (n : Netlist) (cells : Cells) (fs : List Change) (c : Change) (t : TailEdit) (instance : ℕ) (pin : List ℕ) → IsTailOf n cells fs c t → is_tail_at instance pin t ≡ is_out_pin n cells instance pin c.was
same_test n cells fs c t instance pin is =
    ap₂ (λ (i : ℕ) (p : List ℕ). i == instance && bytes_eq p pin) is.instance is.pin
    ∙ sym (ap (is_out_pin n cells instance pin) is.was ∙ ap (λ (o : Option OutPin). is.step.instance == instance && is_pin pin o) is.out_is)

same_tails : (n : Netlist) (cells : Cells) (fs cs : List Change) (ts : List TailEdit) (from instance : ℕ) (pin : List ℕ) → AreTailsOf n cells fs cs ts
    → position_from (is_tail_at instance pin) from ts ≡ position_from (λ c. is_out_pin n cells instance pin c.was) from cs
same_tails n cells fs [] [] from instance pin are = refl
same_tails n cells fs [] (t ∷ ts) from instance pin are = absurd are
same_tails n cells fs (c ∷ cs) [] from instance pin are = absurd are
same_tails n cells fs (c ∷ cs) (t ∷ ts) from instance pin are =
    ap₂ (λ (b : Bool) (o : Option ℕ). cond b (Some from) o) (same_test n cells fs c t instance pin are.0) (same_tails n cells fs cs ts (from + 1) instance pin are.1)

same_assigns : (n : Netlist) (cells : Cells) (fs cs : List Change) (ts : List TailEdit) → AreTailsOf n cells fs cs ts → map (tail_assign n) ts ≡ flat_map (freed_assign n cells fs) cs
same_assigns n cells fs [] [] are = refl
same_assigns n cells fs [] (t ∷ ts) are = absurd are
same_assigns n cells fs (c ∷ cs) [] are = absurd are
same_assigns n cells fs (c ∷ cs) (t ∷ ts) are =
    let one : tail_assign n t ∷ [] ≡ freed_assign n cells fs c =
    ap (λ (port : NetId). assign_of port (Some (net_of_wire n t.source))) are.0.port ∙ sym (ap (assign_of c.port) are.0.source) in
    ap₂ (λ (a b : List Assign). a ++ b) one (same_assigns n cells fs cs ts are.1)

map_from_alike : {X Y : Type 0} (f g : ℕ → X → Y) (k : ℕ) (xs : List X) → ((i : ℕ) (x : X) → f i x ≡ g i x) → map_from f k xs ≡ map_from g k xs
map_from_alike f g k [] same = refl
map_from_alike {X} {Y} f g k (x ∷ xs) same = ap₂ (λ (y : Y) (l : List Y). y ∷ l) (same k x) (map_from_alike f g (k + 1) xs same)

module _ (n : Netlist) (cells : Cells) (old new : List Path) (edits : Edits) (e : AreEditsFor n cells old new edits) where
  pub puts_are : (instance : ℕ) (pin : List ℕ) → option_or (tail_put n edits.tails instance pin) (pin_put n cells edits.pins instance pin) ≡ new_at n cells (freed_between n cells old new) (pin_edits n cells old new) instance pin
  puts_are instance pin =
      ap₂ (λ (o : Option ℕ) (net : Option NetId). option_or (tail_or o None) net) (same_tails n cells (freed_between n cells old new) (freed_between n cells old new) edits.tails (length n.nets) instance pin e.tails)
      (pin_put_is n cells edits.pins instance pin ∙ ap (λ (pins : List NumberedPinEdit). pin_source n cells pins instance pin) e.pins)
      ∙ or_tail (tail_at n cells (freed_between n cells old new) instance pin) (pin_source n cells (pin_edits n cells old new) instance pin)

  pub rights_are : (at : ℕ → Option NetId) → ((place : ℕ) → at place ≡ assign_put n edits.ports place) → map_from (put_assign at) 0 n.assigns ≡ map_from (edited_assign (port_edits n cells old new)) 0 n.assigns
  rights_are at is =
      map_from_alike (put_assign at) (edited_assign (port_edits n cells old new)) 0 n.assigns
      (λ place assign.
      ap (λ (net : Option NetId). record { left = assign.left; right = edited_expr net assign.right; line = assign.line })
      (is place ∙ assign_put_is n edits.ports place ∙ ap (λ (ports : List NumberedPortEdit). assign_source ports place) e.ports))

  pub freed_are : map (tail_assign n) edits.tails ≡ flat_map (freed_assign n cells (freed_between n cells old new)) (freed_between n cells old new)
  freed_are = same_assigns n cells (freed_between n cells old new) (freed_between n cells old new) edits.tails e.tails

  -- the parts of the netlist with the edits, put together
  pub rebuilt : (name : List ℕ) (nets : List NetName) (ports : List Port) (assigns : List Assign) (instances : List Instance) → name ≡ n.«module» → nets ≡ n.nets ++ map (λ t. net_named t.tail) edits.tails → ports ≡ n.ports
      → assigns ≡ map_from (edited_assign (port_edits n cells old new)) 0 n.assigns ++ map (tail_assign n) edits.tails
      → instances ≡ map_from (changed_instance n cells (freed_between n cells old new) (pin_edits n cells old new)) 0 n.instances
      → record { «module» = name; line = n.line; nets = nets; declared = n.declared; ports = ports; assigns = assigns; instances = instances } ≡ rewired n cells (names_of edits) old new
  rebuilt name nets ports assigns instances a b c d f =
      let first = map_from (edited_assign (port_edits n cells old new)) 0 n.assigns in
      let ends : assigns ≡ first ++ flat_map (freed_assign n cells (freed_between n cells old new)) (freed_between n cells old new) = d ∙ ap (λ (l : List Assign). first ++ l) freed_are in
      let named : nets ≡ n.nets ++ map net_named (names_of edits) = b ∙ ap (λ (l : List NetName). n.nets ++ l) (sym (map_twice net_named (λ (t : TailEdit). t.tail) edits.tails)) in
      ap₂ (λ (m : List ℕ) (ns : List NetName). record { «module» = m; line = n.line; nets = ns; declared = n.declared; ports = ports; assigns = assigns; instances = instances }) a named
      ∙ ap₂ (λ (ps : List Port) (others : List Assign). record { «module» = n.«module»; line = n.line; nets = n.nets ++ map net_named (names_of edits); declared = n.declared; ports = ps; assigns = others; instances = instances }) c ends
      ∙ ap (λ (is : List Instance).
      record {
        «module» = n.«module»;
        line = n.line;
        nets = n.nets ++ map net_named (names_of edits);
        declared = n.declared;
        ports = n.ports;
        assigns = first ++ flat_map (freed_assign n cells (freed_between n cells old new)) (freed_between n cells old new);
        instances = is;
      }) f
