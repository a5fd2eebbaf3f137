-- A net's statement that is written anew, once sinks and wiring are erased.
use Rattle.std.proofs.Common.{◌≡◌, ℕ, Bool, true, false, not, ◌||◌, List, [], ◌∷◌, ◌++◌, map, Option, Some, None, refl, sym, ap, ◌∙◌, subst, codes}
use Rattle.std.specs.List.{flat_map}
use Rattle.std.specs.Str.{bytes_eq}
use Rattle.base_types.specs.Names.{plain_name}
use Rattle.token_forms.specs.Tokens.{Token}
use Rattle.token_forms.specs.Parts.{token_texts}
use Rattle.token_forms.specs.Classes.{But, is_in}
use Rattle.token_forms.specs.Forms.{IsMaybe, passed, ◌▸◌}
use Rattle.token_forms.proofs.Joined.{cut_texts}
use Rattle.def_syntax.specs.Words.{marks, in_statement}
use Rattle.def_syntax.specs.Grammar.{net}
use Rattle.def_syntax.specs.declared.net.Net.{Net}
use Rattle.def_syntax.specs.declared.net.NetStatement.TheVariants as net_statements
use Rattle.def_layout.specs.declared.net.ConnectionLayout.{ConnectionLayout}
use Rattle.def_layout.specs.Nets.{connection_words, connection_in, other_words}
use Rattle.def_layout.specs.NetForms.{AreIn}
use Rattle.def_layout.proofs.NetThere.{Pass, texts_both, net_there}
use Rattle.def_layout.proofs.NetWritten.{others_end}
use Rattle.def_edit.specs.Alike.Changes.{NetChange, changed_connections, net_statement_words}
use Rattle.def_edit.specs.ErasedDef.{Erasing, erased_net}
use Rattle.def_edit.proofs.ErasedWords.{kept_words, begins_plus, erased_connections, erased_options, others_of, others_plus, others_again}

pub record NetName (w : List ℕ) : Type 0 where
  pub must : bytes_eq w (codes "MUSTJOIN") ≡ false
  pub good : is_in (But marks) w ≡ true

pub net_name_is : (w : List ℕ) → is_in (But (codes "MUSTJOIN" ∷ marks)) w ≡ true → NetName w
net_name_is w e = of (bytes_eq w (codes "MUSTJOIN")) refl e
  where
    of : (b : Bool) → bytes_eq w (codes "MUSTJOIN") ≡ b → is_in (But (codes "MUSTJOIN" ∷ marks)) w ≡ true → NetName w
    of true f g = absurd (no (bytes_eq w (codes "MUSTJOIN")) _ f g)
      where
        no : (a c : Bool) → a ≡ true → not (a || c) ≡ true → ⊥
        no true c f g = absurd cc
        no false c f g = absurd cc
    of false f g = record { must = f; good = less (bytes_eq w (codes "MUSTJOIN")) _ g }
      where
        less : (a c : Bool) → not (a || c) ≡ true → not c ≡ true
        less true c g = absurd cc
        less false c g = g

options_begin : (ws : List (List ℕ)) (us : List Token) → token_texts us ≡ ws → Pass ws → begins_plus ws ≡ true
options_begin ws us e pass = of (pass us e).0 (pass us e).1
  where
    of : (o : Option (Unit {0})) → IsMaybe ("+" ▸ passed in_statement).spells o us → begins_plus ws ≡ true
    of None h = let none : [] ≡ ws = sym (ap token_texts h) ∙ e in subst (λ (l : List (List ℕ)). begins_plus l ≡ true) none refl
    of (Some u) h =
        let a = h.holds in
        let words : codes "+" ∷ token_texts a.back ≡ ws =
        sym (ap token_texts a.is ∙ texts_both a.front a.back ∙ ap (λ (l : List Token). token_texts l ++ token_texts a.back) a.first.is ∙ ap (λ (w : List ℕ). w ∷ token_texts a.back) a.first.text) ∙ e
        in
        subst (λ (l : List (List ℕ)). begins_plus l ≡ true) words refl

words_erased : (e : Erasing) (name : List ℕ) (cs : List ConnectionLayout) (ws : List (List ℕ)) → bytes_eq name (codes "MUSTJOIN") ≡ false → e.is_changed (plain_name name) ≡ true → begins_plus ws ≡ true
    → erased_net e (codes "-" ∷ name ∷ (flat_map connection_words cs ++ (ws ++ codes ";" ∷ []))) ≡ codes "-" ∷ name ∷ (flat_map (kept_words e) cs ++ (other_words 0 false ws ++ codes ";" ∷ []))
words_erased e name cs ws must changed plus =
    rw (must, changed)
    (ap (λ (l : List (List ℕ)). codes "-" ∷ name ∷ l) (erased_connections e true cs (ws ++ codes ";" ∷ []) ∙ ap (λ (l : List (List ℕ)). flat_map (kept_words e) cs ++ l) (erased_options e ws plus)))

pub net_erased : (e : Erasing) (text : List ℕ) (ts : List Token) (x : Net) (c : NetChange) → AreIn text ts → net.spells (net_statements.Net x) ts → e.is_changed (plain_name x.name) ≡ true
    → flat_map (kept_words e) (changed_connections c (map (connection_in text) x.connections)) ≡ flat_map (kept_words e) (map (connection_in text) x.connections)
    → erased_net e (net_statement_words text ts (net_statements.Net x) c) ≡ erased_net e (token_texts ts)
net_erased e text ts x c inside h changed same =
    let there = net_there text x ts inside h in
    let old = map (connection_in text) x.connections in
    let new = changed_connections c old in
    let others = other_words 0 false (token_texts ts) in
    let named = net_name_is x.name there.named in
    let cut = cut_texts (codes "-" ∷ x.name ∷ flat_map connection_words old) (there.options ++ codes ";" ∷ []) ts there.texts in
    let last = cut_texts there.options (codes ";" ∷ []) cut.behind cut.second in
    let plus = options_begin there.options last.front last.first there.pass in
    let are : others ≡ other_words 0 false there.options = ap (other_words 0 false) there.texts ∙ others_of x.name old (there.options ++ codes ";" ∷ []) named.good there.good ∙ others_end 0 false there.options in
    let again : other_words 0 false others ≡ other_words 0 false there.options = ap (other_words 0 false) are ∙ others_again there.options there.free in
    words_erased e x.name new others named.must changed (others_plus 0 (token_texts ts))
    ∙ ap (λ (l : List (List ℕ)). codes "-" ∷ x.name ∷ (l ++ (other_words 0 false others ++ codes ";" ∷ []))) same
    ∙ ap (λ (l : List (List ℕ)). codes "-" ∷ x.name ∷ (flat_map (kept_words e) old ++ (l ++ codes ";" ∷ []))) again
    ∙ sym (words_erased e x.name old there.options named.must changed plus) ∙ ap (erased_net e) (sym there.texts)
