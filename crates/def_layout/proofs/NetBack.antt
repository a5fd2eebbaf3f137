-- The net that tokens of a net's words spell.
use Rattle.std.proofs.Common.{◌≡◌, ℕ, Bool, true, false, not, ◌&&◌, List, [], ◌∷◌, ◌++◌, map, refl, sym, ap, ◌∙◌, subst, append_assoc, codes, Some, None, inr, is_some}
use Rattle.std.specs.List.{flat_map, list_all}
use Rattle.std.specs.Str.{bytes_eq}
use Rattle.std.proofs.lemmas.Bool.{and_parts, not-true}
use Rattle.base_types.specs.declared.span.Span.{Span}
use Rattle.base_types.proofs.TruthValues.{bytes_are}
use Rattle.token_forms.specs.Tokens.{Token, place_of}
use Rattle.token_forms.specs.Parts.{token_texts}
use Rattle.token_forms.specs.Runs.{bytes_of}
use Rattle.token_forms.specs.Classes.{But, is_in}
use Rattle.token_forms.specs.Forms.{AreMany, AllPass, passed, maybe, ◌▸◌, ◌&◌, key}
use Rattle.def_syntax.specs.Words.{marks, name, name_place, in_statement}
use Rattle.def_syntax.specs.Grammar.{synthesized, connection, net_body, net}
use Rattle.def_syntax.specs.declared.net.Connection.{Connection}
use Rattle.def_syntax.specs.declared.net.Net.{Net}
use Rattle.def_syntax.specs.declared.net.NetStatement.TheVariants as net_statements
use Rattle.def_syntax.proofs.FrameLaws.{each_front, each_behind}
use Rattle.def_layout.specs.declared.net.ConnectionLayout.{ConnectionLayout}
use Rattle.def_layout.specs.Nets.{synthesized_words, connection_words, connection_in}
use Rattle.def_layout.specs.NetForms.{IsIn, AreIn, IsNet}
use Rattle.def_layout.proofs.NetThere.{is_good, Pass}
use Rattle.def_layout.proofs.Closing.{are_free}
use Rattle.def_layout.proofs.SectionStatements.{statement_front}
use Rattle.def_layout.proofs.Spellings.{Spells, cut_texts, word_spells, none_spells, maybe_spells, before_spells, made_spells}

name_back : (w : List ℕ) (t : Token) → is_in (But marks) w ≡ true → t.text ≡ w → name_place.spells (record { start = t.start; end = t.end }) (t ∷ [])
name_back w t good e =
    record { parts = (w, record { start = t.start; end = t.end }); is = refl; holds = record { holds = record { token = t; is = refl; text = e; kind_is = good; passes = refl }; place = refl } }

syn_back : (b : Bool) → Spells synthesized b (synthesized_words b)
unfolding synthesized
syn_back true = made_spells (maybe ("+" ▸ key "SYNTHESIZED")) is_some (Some tt) _ (maybe_spells ("+" ▸ key "SYNTHESIZED") tt _ (before_spells (key "SYNTHESIZED") "+" tt _ (word_spells (codes "SYNTHESIZED"))))
syn_back false = made_spells (maybe ("+" ▸ key "SYNTHESIZED")) is_some None [] (none_spells ("+" ▸ key "SYNTHESIZED"))

record ConnectionBack (text : List ℕ) (c : ConnectionLayout) (ts : List Token) : Type 0 where
  value : Connection
  spelled : connection.spells value ts
  same : connection_in text value ≡ c

connection_back : (text : List ℕ) (c : ConnectionLayout) (ts : List Token) → AreIn text ts → is_good c ≡ true → token_texts ts ≡ connection_words c → ConnectionBack text c ts
unfolding connection
connection_back text c [] inside good e = absurd cc
connection_back text c (t ∷ []) inside good e = absurd cc
connection_back text c (t ∷ u ∷ []) inside good e = absurd cc
connection_back text c (t ∷ u ∷ v ∷ ts) inside good e =
    let g = and_parts (is_in (But marks) c.component) (is_in (But marks) c.pin) good in
    let te : t.text ≡ codes "(" = cc in
    let ue : u.text ≡ c.component = cc in
    let ve : v.text ≡ c.pin = cc in
    let re : token_texts ts ≡ synthesized_words c.synthesized ++ codes ")" ∷ [] = cc in
    let r = cut_texts ts (synthesized_words c.synthesized) (codes ")" ∷ []) re in
    let comp : Span = record { start = u.start; end = u.end } in
    let pin : Span = record { start = v.start; end = v.end } in
    let parts : Span × (Span × Bool) = (comp, (pin, c.synthesized)) in
    let names : (name_place & (name_place & synthesized)).spells parts (u ∷ v ∷ r.front) =
    record { front = u ∷ []; back = v ∷ r.front; is = refl; first = name_back c.component u g.0 ue; second = record { front = v ∷ []; back = r.front; is = refl; first = name_back c.pin v g.1 ve; second = syn_back c.synthesized r.front r.first } }
    in
    let open_word : (key "(").spells tt (t ∷ []) = record { token = t; is = refl; text = te } in
    record {
      value = record { component = comp; pin = pin; start = t.start; synthesized = c.synthesized };
      spelled = record {
        parts = (parts, place_of (t ∷ u ∷ v ∷ ts));
        is = refl;
        holds = record {
          holds = record {
            parts = (tt, parts);
            is = refl;
            holds = record {
              front = t ∷ [];
              back = u ∷ v ∷ ts;
              is = refl;
              first = open_word;
              second = record {
                parts = (parts, tt);
                is = refl;
                holds = record { front = u ∷ v ∷ r.front; back = r.back; is = ap (λ (us : List Token). u ∷ v ∷ us) r.is; first = names; second = word_spells (codes ")") r.back r.second };
              };
            };
          };
          place = refl;
        };
      };
      same =
          let a : bytes_of text comp ≡ c.component = sym inside.1.0 ∙ ue in
          let b : bytes_of text pin ≡ c.pin = sym inside.1.1.0 ∙ ve in
          rw (a, b) refl;
    }

record ManyBack (text : List ℕ) (cs : List ConnectionLayout) (ts : List Token) : Type 0 where
  values : List Connection
  spelled : AreMany connection.spells values ts
  same : map (connection_in text) values ≡ cs

many_back : (text : List ℕ) (cs : List ConnectionLayout) (ts : List Token) → AreIn text ts → list_all is_good cs ≡ true → token_texts ts ≡ flat_map connection_words cs → ManyBack text cs ts
many_back text [] [] inside good e = record { values = []; spelled = refl; same = refl }
many_back text [] (t ∷ ts) inside good e = absurd cc
many_back text (c ∷ cs) ts inside good e =
    let g = and_parts (is_good c) (list_all is_good cs) good in
    let r = cut_texts ts (connection_words c) (flat_map connection_words cs) e in
    let all = subst (AreIn text) r.is inside in
    let a = connection_back text c r.front (each_front (IsIn text) r.front r.back all) g.0 r.first in
    let m = many_back text cs r.back (each_behind (IsIn text) r.front r.back all) g.1 r.second in
    record { values = a.value ∷ m.values; spelled = record { front = r.front; back = r.back; is = r.is; first = a.spelled; second = m.spelled }; same = rw (a.same, m.same) refl }

-- a word that passes in an option
abbrev pub is_passing : List ℕ → Bool
is_passing w = not (bytes_eq w (codes ";")) && not (bytes_eq w [])

pass_back : (ts : List Token) (ws : List (List ℕ)) → list_all is_passing ws ≡ true → token_texts ts ≡ ws → AllPass in_statement 0 ts
pass_back [] ws all e = refl
pass_back (t ∷ ts) [] all e = absurd cc
pass_back (t ∷ ts) (w ∷ ws) all e =
    let h = and_parts (is_passing w) (list_all is_passing ws) all in
    let p = and_parts (not (bytes_eq w (codes ";"))) (not (bytes_eq w [])) h.0 in
    let here : t.text ≡ w = cc in
    let tail : token_texts ts ≡ ws = cc in
    rw (here, not-true _ p.0, not-true _ p.1) (pass_back ts ws h.1 tail)

-- the words of options: none, or a + and words that pass
abbrev pub are_options : List (List ℕ) → Bool
are_options [] = true
are_options (w ∷ ws) = bytes_eq w (codes "+") && list_all is_passing ws

pub options_back : (ws : List (List ℕ)) → are_options ws ≡ true → Pass ws
options_back [] all [] e = (None, refl)
options_back [] all (t ∷ ts) e = absurd cc
options_back (w ∷ ws) all ts e =
    let h = and_parts (bytes_eq w (codes "+")) (list_all is_passing ws) all in
    let plus : w ≡ codes "+" = bytes_are w (codes "+") h.0 in
    let here : token_texts ts ≡ codes "+" ∷ ws = e ∙ ap (λ (x : List ℕ). x ∷ ws) plus in
    (Some tt, before_spells (passed in_statement) "+" tt ws (λ us f. record { all = pass_back us ws h.1 f }) ts here)

pub net_back : (text name : List ℕ) (cs : List ConnectionLayout) (ws : List (List ℕ)) (ts : List Token) → AreIn text ts → is_in (But (codes "MUSTJOIN" ∷ marks)) name ≡ true → list_all is_good cs ≡ true
    → Pass ws → are_free (name ∷ (flat_map connection_words cs ++ ws)) ≡ true → token_texts ts ≡ codes "-" ∷ name ∷ (flat_map connection_words cs ++ (ws ++ codes ";" ∷ [])) → IsNet name cs text ts
unfolding net net_body
net_back text name cs ws [] inside named good opts free e = absurd cc
net_back text name cs ws (t ∷ []) inside named good opts free e = absurd cc
net_back text name cs ws (t ∷ u ∷ ts) inside named good opts free e =
    let te : t.text ≡ codes "-" = cc in
    let ue : u.text ≡ name = cc in
    let re : token_texts ts ≡ flat_map connection_words cs ++ (ws ++ codes ";" ∷ []) = cc in
    let a = cut_texts ts (flat_map connection_words cs) (ws ++ codes ";" ∷ []) re in
    let b = cut_texts a.back ws (codes ";" ∷ []) a.second in
    let all = subst (AreIn text) a.is inside.1.1 in
    let m = many_back text cs a.front (each_front (IsIn text) a.front a.back all) good a.first in
    let o = opts b.front b.first in
    let value : Net = record { name = name; connections = m.values } in
    let rest : ts ≡ (a.front ++ b.front) ++ b.back = a.is ∙ ap (λ (us : List Token). a.front ++ us) b.is ∙ sym (append_assoc a.front b.front b.back) in
    let body : net_body.spells value (u ∷ (a.front ++ b.front)) =
    record {
      parts = (name, (m.values, o.0));
      is = refl;
      holds = record {
        front = u ∷ [];
        back = a.front ++ b.front;
        is = refl;
        first = record { token = u; is = refl; text = ue; kind_is = named; passes = refl };
        second = record { front = a.front; back = b.front; is = refl; first = m.spelled; second = o.1 };
      };
    }
    in
    let words : token_texts (t ∷ u ∷ ts) ≡ (codes "-" ∷ name ∷ (flat_map connection_words cs ++ ws)) ++ codes ";" ∷ [] = e ∙ ap (λ (vs : List (List ℕ)). codes "-" ∷ name ∷ vs) (sym (append_assoc (flat_map connection_words cs) ws (codes ";" ∷ []))) in
    record {
      value = value;
      spelled = record {
        parts = (tt, net_statements.Net value);
        is = refl;
        holds = record {
          front = t ∷ [];
          back = u ∷ ts;
          is = refl;
          first = record { token = t; is = refl; text = te };
          second = record {
            parts = (net_statements.Net value, tt);
            is = refl;
            holds = record {
              front = u ∷ (a.front ++ b.front);
              back = b.back;
              is = ap (λ (us : List Token). u ∷ us) rest;
              first = inr (record { parts = value; is = refl; holds = body });
              second = word_spells (codes ";") b.back b.second;
            };
          };
        };
      };
      named = refl;
      connections = m.same;
      alone = λ more. statement_front t (u ∷ ts) more (codes "-") (name ∷ (flat_map connection_words cs ++ ws)) words free refl refl refl;
    }
