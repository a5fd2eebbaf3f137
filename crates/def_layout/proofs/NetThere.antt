-- The words of the tokens that spell a net.
use Rattle.std.proofs.Common.{◌≡◌, ℕ, ◌+◌, ◌-◌, eqb, if◌then◌else◌, IsSomeAnd, Bool, true, false, not, ◌&&◌, ◌||◌, List, [], ◌∷◌, ◌++◌, map, refl, sym, ap, ◌∙◌, subst, append_assoc, codes, Option, Some, None, inl, inr, is_some}
use Rattle.std.specs.List.{flat_map, list_all}
use Rattle.std.specs.Str.{bytes_eq}
use Rattle.std.proofs.lemmas.List.{map-append}
use Rattle.base_types.specs.declared.span.Span.{Span}
use Rattle.base_types.proofs.TruthValues.{bytes_are}
use Rattle.token_forms.specs.Tokens.{Token, place_of}
use Rattle.token_forms.specs.Parts.{token_texts}
use Rattle.token_forms.specs.Runs.{bytes_of}
use Rattle.token_forms.specs.Classes.{But, is_in}
use Rattle.token_forms.specs.Forms.{IsMaybe, AreMany, AllPass, passed, maybe, depth_behind, ◌▸◌, key}
use Rattle.def_syntax.specs.Words.{marks, name_place, in_statement}
use Rattle.def_syntax.specs.Grammar.{synthesized, connection, net_body, net}
use Rattle.def_syntax.specs.declared.net.Connection.{Connection}
use Rattle.def_syntax.specs.declared.net.Net.{Net}
use Rattle.def_syntax.specs.declared.net.NetStatement.TheVariants as net_statements
use Rattle.def_syntax.proofs.FrameLaws.{each_front, each_behind}
use Rattle.def_layout.specs.declared.net.ConnectionLayout.{ConnectionLayout}
use Rattle.def_layout.specs.Nets.{synthesized_words, connection_words, connection_in}
use Rattle.def_layout.specs.NetForms.{IsIn, AreIn}
use Rattle.def_layout.proofs.Closing.{are_free}
use Rattle.def_layout.proofs.Spellings.{before_spells}

pub texts_both : (ts us : List Token) → token_texts (ts ++ us) ≡ token_texts ts ++ token_texts us
texts_both ts us = map-append (λ t. t.text) ts us

-- no words of a connection are marks
abbrev pub is_good : ConnectionLayout → Bool
is_good c = is_in (But marks) c.component && is_in (But marks) c.pin

record NameAt (text : List ℕ) (s : Span) (ts : List Token) : Type 0 where
  texts : token_texts ts ≡ bytes_of text s ∷ []
  good : is_in (But marks) (bytes_of text s) ≡ true

name_there : (text : List ℕ) (s : Span) (ts : List Token) → AreIn text ts → name_place.spells s ts → NameAt text s ts
name_there text s ts inside h =
    let t = h.holds.holds.token in
    let is : ts ≡ t ∷ [] = h.holds.holds.is in
    let here = (subst (AreIn text) is inside).0 in
    let place : s ≡ record { start = t.start; end = t.end } = sym h.is ∙ h.holds.place ∙ ap place_of is in
    let word : t.text ≡ bytes_of text s = here ∙ ap (bytes_of text) (sym place) in
    record {
      texts = ap token_texts is ∙ ap (λ (w : List ℕ). w ∷ []) word;
      good = subst (λ (w : List ℕ). is_in (But marks) w ≡ true) (sym h.holds.holds.text ∙ word) h.holds.holds.kind_is;
    }

syn_there : (b : Bool) (ts : List Token) → synthesized.spells b ts → token_texts ts ≡ synthesized_words b
unfolding synthesized
syn_there b ts h = of h.parts h.is h.holds
  where
    of : (o : Option (Unit {0})) → is_some o ≡ b → IsMaybe ("+" ▸ key "SYNTHESIZED").spells o ts → token_texts ts ≡ synthesized_words b
    of None e k = ap token_texts k ∙ ap synthesized_words e
    of (Some u) e k =
        ap token_texts k.holds.is ∙ texts_both k.holds.front k.holds.back ∙ ap (λ (ts : List Token). token_texts ts ++ token_texts k.holds.back) k.holds.first.is ∙ ap (λ (w : List ℕ). w ∷ token_texts k.holds.back) k.holds.first.text
        ∙ ap (λ (ts : List Token). codes "+" ∷ token_texts ts) k.holds.second.is ∙ ap (λ (w : List ℕ). codes "+" ∷ w ∷ []) k.holds.second.text ∙ ap synthesized_words e

record ConnectionThere (text : List ℕ) (x : Connection) (ts : List Token) : Type 0 where
  texts : token_texts ts ≡ connection_words (connection_in text x)
  good : is_good (connection_in text x) ≡ true

connection_there : (text : List ℕ) (x : Connection) (ts : List Token) → AreIn text ts → connection.spells x ts → ConnectionThere text x ts
unfolding connection
connection_there text x ts inside h =
    let a = h.holds.holds in
    let opening = a.holds.first in
    let b = a.holds.second in
    let closing = b.holds.second in
    let c = b.holds.first in
    let d = c.second in
    let value : b.parts.0 ≡ h.parts.0 = b.is ∙ a.is in
    let all = subst (AreIn text) a.holds.is inside in
    let after = subst (AreIn text) b.holds.is (each_behind (IsIn text) a.holds.front a.holds.back all) in
    let names = subst (AreIn text) c.is (each_front (IsIn text) b.holds.front b.holds.back after) in
    let rest = subst (AreIn text) d.is (each_behind (IsIn text) c.front c.back names) in
    let comp = name_there text b.parts.0.0 c.front (each_front (IsIn text) c.front c.back names) c.first in
    let pin = name_there text b.parts.0.1.0 d.front (each_front (IsIn text) d.front d.back rest) d.first in
    let syn = syn_there b.parts.0.1.1 d.back d.second in
    let x_comp : x.component ≡ b.parts.0.0 = ap (λ (y : Connection). y.component) (sym h.is) ∙ ap (λ (p : Span × (Span × Bool)). p.0) (sym value) in
    let x_pin : x.pin ≡ b.parts.0.1.0 = ap (λ (y : Connection). y.pin) (sym h.is) ∙ ap (λ (p : Span × (Span × Bool)). p.1.0) (sym value) in
    let x_syn : x.synthesized ≡ b.parts.0.1.1 = ap (λ (y : Connection). y.synthesized) (sym h.is) ∙ ap (λ (p : Span × (Span × Bool)). p.1.1) (sym value) in
    let words : token_texts ts ≡ codes "(" ∷ bytes_of text b.parts.0.0 ∷ bytes_of text b.parts.0.1.0 ∷ (synthesized_words b.parts.0.1.1 ++ codes ")" ∷ []) =
    ap token_texts a.holds.is ∙ texts_both a.holds.front a.holds.back
    ∙ ap (λ (us : List Token). token_texts us ++ token_texts a.holds.back) opening.is ∙ ap (λ (w : List ℕ). w ∷ token_texts a.holds.back) opening.text
    ∙ ap (λ (us : List Token). codes "(" ∷ token_texts us) b.holds.is ∙ ap (λ (ws : List (List ℕ)). codes "(" ∷ ws) (texts_both b.holds.front b.holds.back)
    ∙ ap (λ (us : List Token). codes "(" ∷ (token_texts b.holds.front ++ token_texts us)) closing.is ∙ ap (λ (w : List ℕ). codes "(" ∷ (token_texts b.holds.front ++ w ∷ [])) closing.text
    ∙ ap (λ (us : List Token). codes "(" ∷ (token_texts us ++ codes ")" ∷ [])) c.is ∙ ap (λ (ws : List (List ℕ)). codes "(" ∷ (ws ++ codes ")" ∷ [])) (texts_both c.front c.back)
    ∙ ap (λ (ws : List (List ℕ)). codes "(" ∷ ((ws ++ token_texts c.back) ++ codes ")" ∷ [])) comp.texts
    ∙ ap (λ (us : List Token). codes "(" ∷ bytes_of text b.parts.0.0 ∷ (token_texts us ++ codes ")" ∷ [])) d.is ∙ ap (λ (ws : List (List ℕ)). codes "(" ∷ bytes_of text b.parts.0.0 ∷ (ws ++ codes ")" ∷ [])) (texts_both d.front d.back)
    ∙ ap (λ (ws : List (List ℕ)). codes "(" ∷ bytes_of text b.parts.0.0 ∷ ((ws ++ token_texts d.back) ++ codes ")" ∷ [])) pin.texts
    ∙ ap (λ (ws : List (List ℕ)). codes "(" ∷ bytes_of text b.parts.0.0 ∷ bytes_of text b.parts.0.1.0 ∷ (ws ++ codes ")" ∷ [])) syn
    in
    record {
      texts = rw (x_comp, x_pin, x_syn) words;
      good = rw (x_comp, x_pin, comp.good, pin.good) refl;
    }

pub record ManyThere (text : List ℕ) (xs : List Connection) (ts : List Token) : Type 0 where
  pub texts : token_texts ts ≡ flat_map connection_words (map (connection_in text) xs)
  pub good : list_all is_good (map (connection_in text) xs) ≡ true

pub many_there : (text : List ℕ) (xs : List Connection) (ts : List Token) → AreIn text ts → AreMany connection.spells xs ts → ManyThere text xs ts
many_there text [] ts inside h = record { texts = ap token_texts h; good = refl }
many_there text (x ∷ xs) ts inside h =
    let all = subst (AreIn text) h.is inside in
    let a = connection_there text x h.front (each_front (IsIn text) h.front h.back all) h.first in
    let r = many_there text xs h.back (each_behind (IsIn text) h.front h.back all) h.second in
    record {
      texts = ap token_texts h.is ∙ texts_both h.front h.back ∙ ap (λ (ws : List (List ℕ)). ws ++ token_texts h.back) a.texts ∙ ap (λ (ws : List (List ℕ)). connection_words (connection_in text x) ++ ws) r.texts;
      good = rw (a.good, r.good) refl;
    }

-- words that pass unread
step_there : (empty zero semi : Bool) (depth : ℕ) (P : ℕ → Type 0) → (empty ≡ true → semi ≡ false)
    → IsSomeAnd (if empty then Some (depth + 1) else if zero then (if not (semi || false) then Some 0 else None) else if empty then Some (depth - 1) else if false then Some depth else None) P → (not semi ≡ true) × ((d : ℕ) × P d)
step_there true zero semi depth P f h = let e = f refl in (rw e refl, (depth + 1, h))
step_there false true true depth P f h = absurd h
step_there false true false depth P f h = (refl, (0, h))
step_there false false semi depth P f h = absurd h

passing_there : (depth : ℕ) (ts : List Token) → AllPass in_statement depth ts → are_free (token_texts ts) ≡ true
passing_there depth [] h = refl
passing_there depth (t ∷ ts) h =
    let s = step_there (bytes_eq t.text []) (eqb depth 0) (bytes_eq t.text (codes ";")) depth (λ d. AllPass in_statement d ts) (λ e. let is = bytes_are t.text [] e in rw is refl) h in
    rw s.0 (passing_there s.1.0 ts s.1.1)

options_there : (o : Option (Unit {0})) (ts : List Token) → IsMaybe ("+" ▸ passed in_statement).spells o ts → are_free (token_texts ts) ≡ true
options_there None ts h = ap (λ (us : List Token). are_free (token_texts us)) h
options_there (Some u) ts h =
    let a = h.holds in
    ap (λ (us : List Token). are_free (token_texts us)) a.is ∙ ap are_free (texts_both a.front a.back) ∙ ap (λ (us : List Token). are_free (token_texts us ++ token_texts a.back)) a.first.is
    ∙ ap (λ (w : List ℕ). are_free (w ∷ token_texts a.back)) a.first.text ∙ passing_there 0 a.back a.second.all

-- tokens of the same texts pass as well
some_weaker : (o : Option ℕ) (P Q : ℕ → Type 0) → ((d : ℕ) → P d → Q d) → IsSomeAnd o P → IsSomeAnd o Q
some_weaker None P Q f h = h
some_weaker (Some d) P Q f h = f d h

pass_same : (depth : ℕ) (ts us : List Token) → token_texts ts ≡ token_texts us → AllPass in_statement depth ts → AllPass in_statement depth us
pass_same depth [] [] e h = h
pass_same depth [] (u ∷ us) e h = absurd cc
pass_same depth (t ∷ ts) [] e h = absurd cc
pass_same depth (t ∷ ts) (u ∷ us) e h =
    let here : t.text ≡ u.text = cc in
    let tail : token_texts ts ≡ token_texts us = cc in
    some_weaker (depth_behind in_statement depth u.text) (λ d. AllPass in_statement d ts) (λ d. AllPass in_statement d us) (λ d. pass_same d ts us tail)
    (subst (λ (w : List ℕ). IsSomeAnd (depth_behind in_statement depth w) (λ d. AllPass in_statement d ts)) here h)

-- tokens of these words are options that pass unread
abbrev pub Pass : List (List ℕ) → Type 0
Pass ws = (us : List Token) → token_texts us ≡ ws → (o : Option (Unit {0})) × (maybe ("+" ▸ passed in_statement)).spells o us

nothing_of : (us : List Token) → token_texts us ≡ [] → us ≡ []
nothing_of [] e = refl
nothing_of (u ∷ us) e = absurd cc

options_pass : (o : Option (Unit {0})) (ts : List Token) → IsMaybe ("+" ▸ passed in_statement).spells o ts → Pass (token_texts ts)
options_pass None ts h us e = (None, nothing_of us (e ∙ ap token_texts h))
options_pass (Some u) ts h us e =
    let a = h.holds in
    let words : token_texts ts ≡ codes "+" ∷ token_texts a.back =
    ap token_texts a.is ∙ texts_both a.front a.back ∙ ap (λ (us : List Token). token_texts us ++ token_texts a.back) a.first.is ∙ ap (λ (w : List ℕ). w ∷ token_texts a.back) a.first.text
    in
    (Some tt, before_spells (passed in_statement) "+" tt (token_texts a.back) (λ vs f. record { all = pass_same 0 a.back vs (sym f) a.second.all }) us (e ∙ words))

-- the words of a net's statement
pub record NetThere (text : List ℕ) (x : Net) (ts : List Token) : Type 0 where
  pub options : List (List ℕ)
  pub texts : token_texts ts ≡ codes "-" ∷ x.name ∷ (flat_map connection_words (map (connection_in text) x.connections) ++ (options ++ codes ";" ∷ []))
  pub named : is_in (But (codes "MUSTJOIN" ∷ marks)) x.name ≡ true
  pub good : list_all is_good (map (connection_in text) x.connections) ≡ true
  pub free : are_free options ≡ true
  pub pass : Pass options

body_there : (text : List ℕ) (x : Net) (ts : List Token) (back : List Token) → AreIn text ts → net_body.spells x ts → (options : List (List ℕ)) × (token_texts ts ≡ x.name ∷ (flat_map connection_words (map (connection_in text) x.connections) ++ options))
    × (is_in (But (codes "MUSTJOIN" ∷ marks)) x.name ≡ true) × (list_all is_good (map (connection_in text) x.connections) ≡ true) × (are_free options ≡ true) × Pass options
unfolding net_body
body_there text x ts back inside h =
    let a = h.holds in
    let all = subst (AreIn text) a.is inside in
    let b = a.second in
    let rest = subst (AreIn text) b.is (each_behind (IsIn text) a.front a.back all) in
    let m = many_there text h.parts.1.0 b.front (each_front (IsIn text) b.front b.back rest) b.first in
    let named : h.parts.0 ≡ x.name = ap (λ (n : Net). n.name) h.is in
    let list : h.parts.1.0 ≡ x.connections = ap (λ (n : Net). n.connections) h.is in
    let token_is : a.first.token.text ≡ x.name = a.first.text ∙ named in
    let words : token_texts ts ≡ x.name ∷ (flat_map connection_words (map (connection_in text) h.parts.1.0) ++ token_texts b.back) =
    ap token_texts a.is ∙ texts_both a.front a.back ∙ ap (λ (us : List Token). token_texts us ++ token_texts a.back) a.first.is ∙ ap (λ (w : List ℕ). w ∷ token_texts a.back) token_is
    ∙ ap (λ (us : List Token). x.name ∷ token_texts us) b.is ∙ ap (λ (ws : List (List ℕ)). x.name ∷ ws) (texts_both b.front b.back) ∙ ap (λ (ws : List (List ℕ)). x.name ∷ (ws ++ token_texts b.back)) m.texts
    in (
      token_texts b.back,
      words ∙ ap (λ (xs : List Connection). x.name ∷ (flat_map connection_words (map (connection_in text) xs) ++ token_texts b.back)) list,
      subst (λ (w : List ℕ). is_in (But (codes "MUSTJOIN" ∷ marks)) w ≡ true) named a.first.kind_is,
      subst (λ (xs : List Connection). list_all is_good (map (connection_in text) xs) ≡ true) list m.good,
      options_there h.parts.1.1 b.back b.second,
      options_pass h.parts.1.1 b.back b.second,
    )

pub net_there : (text : List ℕ) (x : Net) (ts : List Token) → AreIn text ts → net.spells (net_statements.Net x) ts → NetThere text x ts
unfolding net
net_there text x ts inside h =
    let a = h.holds in
    let b = a.second in
    let all = subst (AreIn text) a.is inside in
    let after = subst (AreIn text) b.holds.is (each_behind (IsIn text) a.front a.back all) in
    let body = each_front (IsIn text) b.holds.front b.holds.back after in
    let value : b.parts.0 ≡ net_statements.Net x = b.is ∙ h.is in
    let words : token_texts ts ≡ codes "-" ∷ (token_texts b.holds.front ++ codes ";" ∷ []) =
    ap token_texts a.is ∙ texts_both a.front a.back ∙ ap (λ (us : List Token). token_texts us ++ token_texts a.back) a.first.is ∙ ap (λ (w : List ℕ). w ∷ token_texts a.back) a.first.text
    ∙ ap (λ (us : List Token). codes "-" ∷ token_texts us) b.holds.is ∙ ap (λ (ws : List (List ℕ)). codes "-" ∷ ws) (texts_both b.holds.front b.holds.back)
    ∙ ap (λ (us : List Token). codes "-" ∷ (token_texts b.holds.front ++ token_texts us)) b.holds.second.is ∙ ap (λ (w : List ℕ). codes "-" ∷ (token_texts b.holds.front ++ w ∷ [])) b.holds.second.text
    in
    elim b.holds.first [
      | inl must ↦ let no : net_statements.MustJoin ≡ net_statements.Net x = must.is ∙ value in absurd cc
      | inr is_net ↦
          let same : net_statements.Net is_net.parts ≡ net_statements.Net x = is_net.is ∙ value in
          let here : is_net.parts ≡ x = cc in
          let r = body_there text x b.holds.front [] body (subst (λ (n : Net). net_body.spells n b.holds.front) here is_net.holds) in
          record {
            options = r.0;
            texts = words ∙ ap (λ (ws : List (List ℕ)). codes "-" ∷ (ws ++ codes ";" ∷ [])) r.1 ∙ ap (λ (ws : List (List ℕ)). codes "-" ∷ x.name ∷ ws) (append_assoc (flat_map connection_words (map (connection_in text) x.connections)) r.0 (codes ";" ∷ []));
            named = r.2;
            good = r.3;
            free = r.4;
            pass = r.5;
          }
    ]
