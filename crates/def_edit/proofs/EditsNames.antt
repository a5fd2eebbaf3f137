-- Names in the statements of a text are whole words.
use Rattle.std.proofs.Common.{◌≡◌, ℕ, Bool, true, false, not, ◌&&◌, ◌||◌, List, [], ◌∷◌, ◌++◌, map, codes, Option, Some, None, refl, sym, ap, ◌∙◌, subst, append_assoc, inl, inr}
use Rattle.std.specs.List.{flat_map, list_all, AllByRecursion as Each}
use Rattle.std.specs.Str.{bytes_eq}
use Rattle.std.proofs.lemmas.Option.{same_Some}
use Rattle.std.proofs.lemmas.Bool.{and_from, and_parts}
use Rattle.token_forms.specs.Tokens.{Token}
use Rattle.token_forms.specs.Parts.{token_texts}
use Rattle.token_forms.specs.Parsing.{◌>>=◌}
use Rattle.token_forms.specs.Classes.{But, is_in}
use Rattle.token_forms.specs.Forms.{Form, AreMany, IsMaybe, put_all}
use Rattle.def_syntax.specs.Options.{and_last}
use Rattle.def_syntax.proofs.FrameLaws.{each_append}
use Rattle.def_tokens.specs.DefStatements.{ends_with}
use Rattle.def_syntax.specs.Words.{marks}
use Rattle.def_syntax.specs.Grammar.{component, net}
use Rattle.def_syntax.specs.OptionForms.{component_form, component_option}
use Rattle.def_syntax.proofs.OptionWords.{component_law}
use Rattle.def_syntax.specs.Pieces.{some_list, put_component}
use Rattle.def_syntax.specs.Designs.{AreLocated}
use Rattle.def_syntax.specs.declared.component.Component.{Component as ComponentText}
use Rattle.def_syntax.specs.declared.design.Located.{Located}
use Rattle.def_syntax.specs.declared.net.Connection.{Connection}
use Rattle.def_syntax.specs.declared.net.Net.{Net}
use Rattle.def_syntax.specs.declared.net.NetStatement.TheVariants as net_statements
use Rattle.def_layout.specs.declared.net.ConnectionLayout.{ConnectionLayout}
use Rattle.def_layout.specs.Words.{is_whole, is_cut, are_standing}
use Rattle.def_layout.specs.SectionForms.{is_name}
use Rattle.def_layout.specs.Nets.{connection_words, connection_in}
use Rattle.def_layout.specs.NetForms.{names_connection}
use Rattle.def_layout.specs.Slices.{StandIn, slice}
use Rattle.def_layout.proofs.Closing.{are_closing, are_free}
use Rattle.def_layout.proofs.Standing.{standing_law}
use Rattle.def_layout.proofs.Slices.{slice_law}
use Rattle.def_layout.proofs.NetThere.{is_good, net_there}
use Rattle.def_layout.proofs.NetWritten.{whole_connection, closing_of, closing_behind, connections_whole, free_net_name, free_words, all_both}
use Rattle.def_edit.specs.Seams.{ends_plain}
use Rattle.def_edit.proofs.alike.Endings.{free_name}
use Rattle.def_edit.proofs.alike.SameNets.{stand_in}
use Rattle.def_reader.specs.declared.design.Component.{Component}
use Rattle.def_reader.specs.Designs.{component_of}

-- the words of a statement stand
standing : (text : List ℕ) (s : List Token) → StandIn text s → ends_with (codes ";") s ≡ true → are_standing (token_texts s) ≡ true
standing text s stand ends = subst (λ (ws : List (List ℕ)). are_standing ws ≡ true) (slice_law text s stand ends) (standing_law (slice text s))

ends_of : (ts : List Token) (ws : List (List ℕ)) → token_texts ts ≡ ws ++ codes ";" ∷ [] → (ends_with (codes ";") ts ≡ true) × (ends_plain ts ≡ true)
ends_of [] [] e = absurd cc
ends_of [] (w ∷ ws) e = absurd cc
ends_of (t ∷ []) [] e = let here : t.text ≡ codes ";" = cc in (rw here refl, rw here refl)
ends_of (t ∷ []) (w ∷ []) e = absurd cc
ends_of (t ∷ []) (w ∷ v ∷ ws) e = absurd cc
ends_of (t ∷ u ∷ ts) [] e = absurd cc
ends_of (t ∷ u ∷ ts) (w ∷ ws) e = let tail : token_texts (u ∷ ts) ≡ ws ++ codes ";" ∷ [] = cc in ends_of (u ∷ ts) ws tail

-- what is good and whole is a name
name_both : (w : List ℕ) → is_whole w ≡ true → is_in (But marks) w ≡ true → is_name w ≡ true
name_both w a b = and_from (is_whole w) (is_in (But marks) w) a b

names_both : (cs : List ConnectionLayout) → list_all whole_connection cs ≡ true → list_all is_good cs ≡ true → list_all names_connection cs ≡ true
names_both [] whole good = refl
names_both (c ∷ cs) whole good =
    let a = and_parts (whole_connection c) (list_all whole_connection cs) whole in
    let b = and_parts (is_good c) (list_all is_good cs) good in
    let d = and_parts (is_whole c.component) (is_whole c.pin) a.0 in
    let e = and_parts (is_in (But marks) c.component) (is_in (But marks) c.pin) b.0 in
    and_from (names_connection c) (list_all names_connection cs) (and_from (is_name c.component) (is_name c.pin) (name_both c.component d.0 e.0) (name_both c.pin d.1 e.1)) (names_both cs a.1 b.1)

name_whole : (text name : List ℕ) (xs : List Connection) (ws : List (List ℕ)) → some_list xs ≡ true → are_closing (name ∷ (flat_map connection_words (map (connection_in text) xs) ++ ws)) ≡ true → is_whole name ≡ true
name_whole text name [] ws some h = absurd cc
name_whole text name (x ∷ xs) ws some h = (and_parts (is_whole name) _ h).0

-- the names of a net that stands in a text
pub record NetNames (text : List ℕ) (s : List Token) (x : Net) : Type 0 where
  pub ends : ends_with (codes ";") s ≡ true
  pub plain : ends_plain s ≡ true
  pub names : list_all names_connection (map (connection_in text) x.connections) ≡ true
  pub whole : some_list x.connections ≡ true → is_whole x.name ≡ true

pub net_names : (text : List ℕ) (s : List Token) (x : Net) → StandIn text s → net.spells (net_statements.Net x) s → NetNames text s x
net_names text s x stand spelled =
    let there = net_there text x s (stand_in text s stand) spelled in
    let cs = map (connection_in text) x.connections in
    let front = codes "-" ∷ x.name ∷ (flat_map connection_words cs ++ there.options) in
    let words : token_texts s ≡ front ++ codes ";" ∷ [] = there.texts ∙ ap (λ (ws : List (List ℕ)). codes "-" ∷ x.name ∷ ws) (sym (append_assoc (flat_map connection_words cs) there.options (codes ";" ∷ []))) in
    let ends = ends_of s front words in
    let name_free : not (bytes_eq x.name (codes ";")) ≡ true = rw (free_net_name x.name there.named) refl in
    let free : are_free front ≡ true = and_from (not (bytes_eq x.name (codes ";"))) _ name_free (all_both (λ w. not (bytes_eq w (codes ";"))) (flat_map connection_words cs) there.options (free_words cs there.good) there.free) in
    let closing = closing_of front free (subst (λ (ws : List (List ℕ)). are_standing ws ≡ true) words (standing text s stand ends.0)) in
    let behind = closing_behind (codes "-") (x.name ∷ (flat_map connection_words cs ++ there.options)) closing in
    let whole = (connections_whole cs there.options (closing_behind x.name (flat_map connection_words cs ++ there.options) behind)).0 in
    record { ends = ends.0; plain = ends.1; names = names_both cs whole there.good; whole = λ some. name_whole text x.name x.connections there.options some behind }

abbrev value_type : {X : Type 0} → Form X → Type 0
value_type {X} f = X

abbrev state_type : {S X : Type 0} → (S → X → Option S) → Type 0
state_type {S} put = S

-- an option, and a component as far as its options are read
abbrev Opt : Type 0
Opt = value_type (component_option true)

abbrev SoFar : Type 0
SoFar = state_type put_component

-- an option leaves the name of a component
abbrev Keeps : Opt → Type 0
Keeps o = (s : SoFar) → (r : SoFar) × (put_component s o ≡ Some r) × (s.name ≡ r.name)

option_keeps : (closed : Bool) (o : Opt) (ts : List Token) → (component_option closed).spells o ts → Keeps o
unfolding component_option
option_keeps closed o ts h = elim h.holds.second [
  | inl k ↦ subst Keeps (k.is ∙ h.is) (λ s. (_, refl, refl))
  | inr m ↦ elim m [ inl k ↦ subst Keeps (k.is ∙ h.is) (λ s. (_, refl, refl)) | inr k ↦ subst Keeps (k.is ∙ h.is) (λ s. (s, refl, refl)) ]
]

many_keep : (os : List Opt) (ts : List Token) → AreMany (component_option true).spells os ts → Each Keeps os
many_keep [] ts h = tt
many_keep (o ∷ os) ts h = (option_keeps true o h.front h.first, many_keep os h.back h.second)

last_keeps : (os : List Opt) (last : Option Opt) (ts : List Token) → Each Keeps os → IsMaybe (component_option false).spells last ts → Each Keeps (and_last os last)
last_keeps os None ts h k = h
last_keeps os (Some o) ts h k = each_append Keeps os (o ∷ []) h (option_keeps false o ts k, tt)

put_keeps : (s : SoFar) (os : List Opt) (r : SoFar) → Each Keeps os → put_all put_component s os ≡ Some r → s.name ≡ r.name
unfolding put_all
put_keeps s [] r h e = ap (λ (t : SoFar). t.name) (same_Some s r e)
put_keeps s (o ∷ os) r h e =
    let k = h.0 s in
    let rest : put_all put_component k.0 os ≡ Some r = sym (ap (λ (t : Option SoFar). t >>= λ u. put_all put_component u os) k.1) ∙ e in
    k.2 ∙ put_keeps k.0 os r h.1 rest

second_whole : (t n c : Token) (rest : List Token) → are_standing (token_texts (t ∷ n ∷ c ∷ rest)) ≡ true → bytes_eq c.text (codes ";") ≡ false → is_whole n.text ≡ true
second_whole t n c rest h free =
    let a = (and_parts (is_whole t.text || (is_cut t.text && bytes_eq n.text (codes ";"))) (are_standing (n.text ∷ c.text ∷ token_texts rest)) h).1 in
    let b = (and_parts (is_whole n.text || (is_cut n.text && bytes_eq c.text (codes ";"))) (are_standing (c.text ∷ token_texts rest)) a).0 in
    first (is_whole n.text) (is_cut n.text) (bytes_eq c.text (codes ";")) free b
  where
    first : (a b c : Bool) → c ≡ false → (a || (b && c)) ≡ true → a ≡ true
    first true b c e f = refl
    first false true true e f = absurd cc
    first false true false e f = absurd cc
    first false false c e f = absurd cc

ends_token : (xs : List Token) (t : Token) → t.text ≡ codes ";" → ends_with (codes ";") (xs ++ t ∷ []) ≡ true
ends_token [] t e = rw e refl
ends_token (x ∷ []) t e = rw e refl
ends_token (x ∷ y ∷ xs) t e = ends_token (y ∷ xs) t e

-- the name of a component that stands in a text
component_name_form : (text : List ℕ) (s : List Token) (x : ComponentText) → StandIn text s → component_form.spells x s → is_name x.name ≡ true
unfolding component_form
component_name_form text s x stand h =
    let q = h.holds in
    let w = q.holds.first in
    let o = w.holds in
    let fresh = o.first in
    let g = fresh.holds.holds in
    let n = g.second in
    let t = g.first.token in
    let a = n.first.token in
    let c = n.second.token in
    let end = q.holds.second.token in
    let p = o.second in
    let keep : Each Keeps w.parts.1 = subst (Each Keeps) p.is (last_keeps p.parts.0 p.parts.1 p.holds.back (many_keep p.parts.0 p.holds.front p.holds.first) p.holds.second) in
    let named : a.text ≡ x.name =
    n.first.text ∙ ap (λ (p : List ℕ × List ℕ). p.0) fresh.holds.is ∙ ap (λ (y : SoFar). y.name) fresh.is ∙ put_keeps w.parts.0 w.parts.1 q.parts.0 keep w.is
    ∙ ap (λ (y : SoFar). y.name) q.is ∙ ap (λ (y : ComponentText). y.name) h.is
    in
    let whole : s ≡ t ∷ a ∷ c ∷ (o.back ++ q.holds.back) =
    q.holds.is ∙ ap (λ (l : List Token). l ++ q.holds.back) o.is ∙ ap (λ (l : List Token). (l ++ o.back) ++ q.holds.back) g.is ∙ ap (λ (l : List Token). ((l ++ g.back) ++ o.back) ++ q.holds.back) g.first.is
    ∙ ap (λ (l : List Token). t ∷ ((l ++ o.back) ++ q.holds.back)) (n.is ∙ ap (λ (l : List Token). l ++ n.back) n.first.is ∙ ap (λ (l : List Token). a ∷ l) n.second.is)
    in
    let last : s ≡ q.holds.front ++ end ∷ [] = q.holds.is ∙ ap (λ (l : List Token). q.holds.front ++ l) q.holds.second.is in
    let ends : ends_with (codes ";") s ≡ true = ap (ends_with (codes ";")) last ∙ ends_token q.holds.front end q.holds.second.text in
    let stands = subst (λ (l : List Token). are_standing (token_texts l) ≡ true) whole (standing text s stand ends) in
    let good : is_in (But marks) c.text ≡ true = subst (λ (v : List ℕ). is_in (But marks) v ≡ true) (sym n.second.text) n.second.kind_is in
    let good_name : is_in (But marks) a.text ≡ true = subst (λ (v : List ℕ). is_in (But marks) v ≡ true) (sym n.first.text) n.first.kind_is in
    subst (λ (v : List ℕ). is_name v ≡ true) named (name_both a.text (second_whole t a c (o.back ++ q.holds.back) stands (free_name c.text good)) good_name)

pub component_name : (text : List ℕ) (s : List Token) (x : ComponentText) → StandIn text s → component.spells x s → is_name x.name ≡ true
unfolding component
component_name text s x stand h = component_name_form text s x stand (component_law.back x s h)

-- so are those of all components
pub component_names : (text : List ℕ) (ss : List (List Token)) (xs : List (Located ComponentText)) → AreLocated component text ss xs → Each (StandIn text) ss → Each (λ (c : Component). is_name c.text ≡ true) (map component_of xs)
component_names text [] [] h stand = tt
component_names text [] (x ∷ xs) h stand = absurd h
component_names text (s ∷ ss) [] h stand = absurd h
component_names text (s ∷ ss) (x ∷ xs) h stand = (component_name text s x.statement stand.0 h.0.spelled, component_names text ss xs h.1 stand.1)
