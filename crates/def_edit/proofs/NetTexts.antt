-- The text of a net where pins move.
use Rattle.std.proofs.Common.{◌≡◌, ℕ, ◌+◌, Bool, true, false, cond, not, ◌&&◌, ◌||◌, eqb, List, [], ◌∷◌, ◌++◌, length, map, filter, Option, Some, codes, refl, sym, ap, ◌∙◌, subst, append-nil, arith}
use Rattle.std.specs.List.{list_any, flat_map}
use Rattle.std.proofs.lemmas.Bool.Decides.{nat_tests}
use Rattle.std.proofs.lemmas.List.Concat.{flat_map-append}
use Rattle.std.proofs.Common.{append_assoc}
use Rattle.base_types.specs.declared.span.Span.{Span}
use Rattle.base_types.proofs.TruthValues.{or_true}
use Rattle.token_forms.specs.Runs.{bytes_of}
use Rattle.splice.specs.declared.Edit.{Edit}
use Rattle.def_syntax.specs.declared.net.Connection.{Connection}
use Rattle.def_syntax.specs.declared.net.Net.{Net}
use Rattle.def_syntax.specs.declared.net.NetStatement.TheVariants as net_statements
use Rattle.def_layout.specs.declared.net.ConnectionLayout.{ConnectionLayout}
use Rattle.def_layout.specs.declared.net.NetLayout.{NetLayout}
use Rattle.def_layout.specs.Words.{texts, joined}
use Rattle.def_layout.specs.Nets.{connection_words, connection_in, kept, other_words, closed, net_text}
use Rattle.def_layout.specs.NetForms.{IsNetOf, IsLayout}
use Rattle.def_edit.specs.Alike.Changes.{NetChange, NetWords}
use Rattle.def_reader.specs.declared.design.Component.{Component}
use Rattle.def_edit.specs.declared.pin_moves.PinMove.{PinMove}
use Rattle.def_edit.specs.Moved.{leaves}
use Rattle.def_edit.specs.NetChanges.{is_counted, moves_from, moves_to, is_touched, stays_by, added_with, net_change}
use Rattle.def_edit.specs.MovedText.{new_words, statement_edit}
use Rattle.def_edit.specs.Lookups.{leaves_at, IsOwnNet, maybe_edit}
use Rattle.def_edit.specs.Pushed.{net_words, cut_of}

by_cases : (P : Bool → Type 0) (t : Bool) → P true → P false → P t
by_cases P true f g = f
by_cases P false f g = g

none_of : {X : Type 0} → List X → Bool
none_of [] = true
none_of (x ∷ xs) = false

count_none : {X : Type 0} (xs : List X) → eqb (length xs) 0 ≡ none_of xs
unfolding none_of
count_none [] = refl
count_none (x ∷ xs) = grind (arith, nat_tests)

any_parts : (p q : PinMove → Bool) (ms : List PinMove) → (not (none_of (filter p ms)) || not (none_of (filter q ms))) ≡ list_any (λ m. p m || q m) ms
unfolding none_of
any_parts p q [] = refl
any_parts p q (m ∷ ms) =
    by_cases (λ s. (not (none_of (cond s (m ∷ filter p ms) (filter p ms))) || not (none_of (cond (q m) (m ∷ filter q ms) (filter q ms)))) ≡ ((s || q m) || list_any (λ m. p m || q m) ms)) (p m) refl
    (by_cases (λ t. (not (none_of (filter p ms)) || not (none_of (cond t (m ∷ filter q ms) (filter q ms)))) ≡ (t || list_any (λ m. p m || q m) ms)) (q m) (or_true (not (none_of (filter p ms)))) (any_parts p q ms))

touched_is : (moves leaving coming : List PinMove) (net : ℕ) → leaving ≡ moves_from net moves → coming ≡ moves_to net moves → (not (none_of leaving) || not (none_of coming)) ≡ is_touched moves net
touched_is moves leaving coming net e f = rw (e, f) (any_parts (λ m. eqb m.from net) (λ m. eqb m.to net) moves)

pub touched_first : (moves leaving coming : List PinMove) (net : ℕ) → eqb (length leaving) 0 ≡ false → leaving ≡ moves_from net moves → coming ≡ moves_to net moves → true ≡ is_touched moves net
touched_first moves leaving coming net some e f =
    let t = sym (count_none leaving) ∙ some in
    sym (ap (λ (b : Bool). not b || not (none_of coming)) t) ∙ touched_is moves leaving coming net e f

pub touched_second : (moves leaving coming : List PinMove) (net : ℕ) → eqb (length leaving) 0 ≡ true → leaving ≡ moves_from net moves → coming ≡ moves_to net moves → not (eqb (length coming) 0) ≡ is_touched moves net
touched_second moves leaving coming net none e f =
    let t = sym (count_none leaving) ∙ none in
    ap (λ (b : Bool). not b) (count_none coming) ∙ sym (ap (λ (b : Bool). not b || not (none_of coming)) t) ∙ touched_is moves leaving coming net e f

-- the places that pins leave
leaves_same : (moves : List PinMove) (net place : ℕ) → leaves_at (moves_from net moves) place ≡ leaves moves net place
leaves_same [] net place = refl
leaves_same (m ∷ ms) net place =
    by_cases (λ t. leaves_at (cond t (m ∷ moves_from net ms) (moves_from net ms)) place ≡ ((t && eqb m.place place) || leaves ms net place)) (eqb m.from net)
    (ap (λ (b : Bool). eqb m.place place || b) (leaves_same ms net place)) (leaves_same ms net place)

stays_same : (f g : ℕ → Bool) (place : ℕ) (cs : List ConnectionLayout) → ((n : ℕ) → f n ≡ g n) → stays_by f place cs ≡ stays_by g place cs
unfolding stays_by
stays_same f g place [] same = refl
stays_same f g place (c ∷ cs) same =
    by_cases (λ t. cond t (not (f place) ∷ stays_by f (place + 1) cs) (true ∷ stays_by f place cs) ≡ cond t (not (g place) ∷ stays_by g (place + 1) cs) (true ∷ stays_by g place cs)) (is_counted c)
    (ap (λ (b : Bool). not b ∷ stays_by f (place + 1) cs) (same place) ∙ ap (λ (l : List Bool). not (g place) ∷ l) (stays_same f g (place + 1) cs same)) (ap (λ (l : List Bool). true ∷ l) (stays_same f g place cs same))

pub stays_are : (moves leaving : List PinMove) (net : ℕ) (cs : List ConnectionLayout) → leaving ≡ moves_from net moves → stays_by (leaves_at leaving) 0 cs ≡ stays_by (leaves moves net) 0 cs
stays_are moves leaving net cs e = rw e (stays_same (leaves_at (moves_from net moves)) (leaves moves net) 0 cs (leaves_same moves net))

-- the text of a net that is written anew from its own bytes
pub text_is : (text : List ℕ) (span : Span) (x y : Net) (stays : List Bool) (added : List ConnectionLayout) → IsOwnNet text span (net_statements.Net x) → IsNetOf (bytes_of text span) y
    → net_text (bytes_of text span) y stays added ≡ closed (joined (new_words text span x (record { stays = stays; added = added })))
text_is text span x y stays added own read =
    let same = own y read in
    let kw = flat_map connection_words (kept stays (map (connection_in text) x.connections)) in
    let aw = flat_map connection_words added in
    let ow = other_words 0 false (texts (bytes_of text span)) in
    let words : flat_map connection_words (kept stays (map (connection_in text) x.connections) ++ added) ++ ow ≡ kw ++ (aw ++ ow)
    = ap (λ (l : List (List ℕ)). l ++ ow) (flat_map-append connection_words (kept stays (map (connection_in text) x.connections)) added) ∙ append_assoc kw aw ow
    in
    ap (λ (n : List ℕ). closed (joined (codes "-" ∷ n ∷ (flat_map connection_words (kept stays (map (connection_in (bytes_of text span)) y.connections)) ++ (aw ++ ow))))) same.0
    ∙ ap (λ (cs : List ConnectionLayout). closed (joined (codes "-" ∷ x.name ∷ (flat_map connection_words (kept stays cs) ++ (aw ++ ow))))) same.1
    ∙ ap (λ (ws : List (List ℕ)). closed (joined (codes "-" ∷ x.name ∷ ws))) (sym words)

-- a net that isn't touched stays
pub net_stays : (text : List ℕ) (span : Span) (x : Net) (components : List Component) (rows : List NetWords) (moves : List PinMove) (net : ℕ) (out : List Edit) → false ≡ is_touched moves net
    → (out ≡ out ++ maybe_edit (statement_edit text span (net_statements.Net x)) (net_change components rows moves net (net_words text x))) × (0 ≡ cut_of text span (net_change components rows moves net (net_words text x)))
net_stays text span x components rows moves net out e = rw (← e) (sym (append-nil out), refl)

-- a net that is touched changes so
pub net_changes : (components : List Component) (rows : List NetWords) (moves leaving coming : List PinMove) (net : ℕ) (text : List ℕ) (x : Net) → true ≡ is_touched moves net → leaving ≡ moves_from net moves → coming ≡ moves_to net moves
    → net_change components rows moves net (net_words text x) ≡ Some (record { stays = stays_by (leaves_at leaving) 0 (map (connection_in text) x.connections); added = added_with components rows coming })
net_changes components rows moves leaving coming net text x e f g = rw (← e, stays_are moves leaving net (map (connection_in text) x.connections) f, g) refl

-- the edit of a net that is touched
pub net_put : (text : List ℕ) (span : Span) (x : Net) (components : List Component) (rows : List NetWords) (moves leaving coming : List PinMove) (net : ℕ) (out new : List Edit) (copy statement : List ℕ) (cs : List Connection) (layout : NetLayout)
    → IsOwnNet text span (net_statements.Net x) → true ≡ is_touched moves net → leaving ≡ moves_from net moves → coming ≡ moves_to net moves → statement ≡ bytes_of text span → cs ≡ x.connections
    → IsLayout statement (stays_by (leaves_at leaving) 0 (map (connection_in text) cs)) (added_with components rows coming) layout → copy ≡ layout.text → new ≡ out ++ record { span = span; text = copy } ∷ []
    → (new ≡ out ++ maybe_edit (statement_edit text span (net_statements.Net x)) (net_change components rows moves net (net_words text x))) × (cond layout.is_cut 1 0 ≡ cut_of text span (net_change components rows moves net (net_words text x)))
net_put text span x components rows moves leaving coming net out new copy statement cs layout own touched from to part conn is copied pushed =
    let is' = subst (λ (l : List Connection). IsLayout (bytes_of text span) (stays_by (leaves_at leaving) 0 (map (connection_in text) l)) (added_with components rows coming) layout) conn
    (subst (λ (b : List ℕ). IsLayout b (stays_by (leaves_at leaving) 0 (map (connection_in text) cs)) (added_with components rows coming) layout) part is) in
    let stays = stays_by (leaves_at leaving) 0 (map (connection_in text) x.connections) in
    let added = added_with components rows coming in
    let change = net_changes components rows moves leaving coming net text x touched from to in
    let written = copied ∙ is'.text_is ∙ text_is text span x is'.net stays added own is'.read in (
      pushed ∙ ap (λ (t : List ℕ). out ++ record { span = span; text = t } ∷ []) written ∙ ap (λ (c : Option NetChange). out ++ maybe_edit (statement_edit text span (net_statements.Net x)) c) (sym change),
      ap (λ (b : Bool). cond b 1 0) is'.cut ∙ ap (cut_of text span) (sym change),
    )
