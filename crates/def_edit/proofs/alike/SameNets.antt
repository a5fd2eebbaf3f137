-- A net's statement by its words, and written anew.
use Rattle.std.proofs.Common.{◌≡◌, ℕ, true, false, not, List, [], ◌∷◌, ◌++◌, map, codes, refl, sym, ap, ◌∙◌, subst, append_assoc, inl, inr}
use Rattle.std.specs.List.{flat_map, list_all}
use Rattle.std.specs.Str.{bytes_eq}
use Rattle.std.proofs.lemmas.Bool.{and_from, and_parts}
use Rattle.base_types.proofs.TruthValues.{bytes_are}
use Rattle.token_forms.specs.Tokens.{Token}
use Rattle.token_forms.specs.Parts.{token_texts}
use Rattle.token_forms.specs.Forms.{Form, made, key, passed, ◌&◌, ◌▸◌, ◌◂◌}
use Rattle.def_tokens.specs.DefTokens.{def_tokens}
use Rattle.def_tokens.specs.DefStatements.{ends_with}
use Rattle.def_syntax.specs.Words.{in_statement}
use Rattle.def_syntax.specs.Grammar.{net}
use Rattle.def_syntax.specs.declared.net.Net.{Net}
use Rattle.def_syntax.specs.declared.net.NetStatement.{NetStatement}
use Rattle.def_syntax.specs.declared.net.NetStatement.TheVariants as net_statements
use Rattle.def_syntax.proofs.FrameLaws.{each_front, each_behind}
use Rattle.def_layout.specs.declared.net.ConnectionLayout.{ConnectionLayout}
use Rattle.def_layout.specs.Words.{texts, are_standing}
use Rattle.def_layout.specs.Nets.{connection_words, connection_in, kept, other_words}
use Rattle.def_layout.specs.NetForms.{IsIn, AreIn, IsNet}
use Rattle.def_layout.specs.Slices.{StandIn, slice}
use Rattle.def_layout.proofs.Closing.{are_free}
use Rattle.def_layout.proofs.Standing.{standing_law}
use Rattle.def_layout.proofs.Slices.{slice_law}
use Rattle.def_layout.proofs.NetThere.{net_there}
use Rattle.def_layout.proofs.NetBack.{is_passing, are_options, options_back, net_back}
use Rattle.def_layout.proofs.NetLaw.{tokens_are_in}
use Rattle.def_layout.proofs.NetWritten.{closing_of, closing_some, free_net_name, free_words, all_kept, all_both, others_end, others_options, passing_free}
use Rattle.def_edit.specs.Alike.ByWords.{IsByWords}
use Rattle.def_edit.specs.Alike.Changes.{NetChange, changed_connections, net_statement_words, names_both}
use Rattle.def_edit.specs.Alike.Laws.{IsSameNet}
use Rattle.def_edit.proofs.alike.SameForms.{word_by, pair_by, made_by, before_by, behind_by, passed_by}

-- - MUSTJOIN tokens ;
abbrev must_join : Form NetStatement
must_join = "-" ▸ (made (λ nothing. net_statements.MustJoin) (key "MUSTJOIN" & passed in_statement) ◂ ";")

must_join_by : IsByWords must_join
must_join_by = search (word_by, pair_by, made_by, before_by, behind_by, passed_by) depth 12

must_there : (ts : List Token) → net.spells net_statements.MustJoin ts → must_join.spells net_statements.MustJoin ts
unfolding net
must_there ts h =
    let a = h.holds in
    let b = a.second in
    let value : b.parts.0 ≡ net_statements.MustJoin = b.is ∙ h.is in
    elim b.holds.first [
      | inl k ↦
          record {
            parts = h.parts;
            is = h.is;
            holds = record { front = a.front; back = a.back; is = a.is; first = a.first; second = record { parts = b.parts; is = b.is; holds = record { front = b.holds.front; back = b.holds.back; is = b.holds.is; first = k; second = b.holds.second } } };
          }
      | inr k ↦ let no : net_statements.Net k.parts ≡ net_statements.MustJoin = k.is ∙ value in absurd cc
    ]

must_back : (ts : List Token) → must_join.spells net_statements.MustJoin ts → net.spells net_statements.MustJoin ts
unfolding net
must_back ts h =
    let a = h.holds in
    let b = a.second in
    record {
      parts = h.parts;
      is = h.is;
      holds = record { front = a.front; back = a.back; is = a.is; first = a.first; second = record { parts = b.parts; is = b.is; holds = record { front = b.holds.front; back = b.holds.back; is = b.holds.is; first = inl b.holds.first; second = b.holds.second } } };
    }

words_free : (x : Net) (cs : List ConnectionLayout) (ws : List (List ℕ)) → bytes_eq x.name (codes ";") ≡ false → are_free (flat_map connection_words cs) ≡ true → are_free ws ≡ true → are_free (x.name ∷ (flat_map connection_words cs ++ ws)) ≡ true
words_free x cs ws name a b = and_from (not (bytes_eq x.name (codes ";"))) _ (rw name refl) (all_both (λ w. not (bytes_eq w (codes ";"))) (flat_map connection_words cs) ws a b)

pub same_net : (text other : List ℕ) (ts us : List Token) → AreIn text ts → AreIn other us → token_texts ts ≡ token_texts us → (x : NetStatement) → net.spells x ts → IsSameNet text x other us
same_net text other ts us inside there e net_statements.MustJoin h =
    record { value = net_statements.MustJoin; spelled = must_back us (must_join_by.same net_statements.MustJoin ts us e (must_there ts h)); same = refl }
same_net text other ts us inside stand e (net_statements.Net x) h =
    let there = net_there text x ts inside h in
    let cs = map (connection_in text) x.connections in
    let free = words_free x cs there.options (free_net_name x.name there.named) (free_words cs there.good) there.free in
    let back = net_back other x.name cs there.options us stand there.named there.good there.pass free (sym e ∙ there.texts) in
    record { value = net_statements.Net back.value; spelled = back.spelled; same = rw (back.named, back.connections) refl }

ends_of : (ts : List Token) (ws : List (List ℕ)) → token_texts ts ≡ ws ++ codes ";" ∷ [] → ends_with (codes ";") ts ≡ true
ends_of [] [] e = absurd cc
ends_of [] (w ∷ ws) e = absurd cc
ends_of (t ∷ []) [] e = let here : t.text ≡ codes ";" = cc in rw here refl
ends_of (t ∷ []) (w ∷ []) e = absurd cc
ends_of (t ∷ []) (w ∷ v ∷ ws) e = absurd cc
ends_of (t ∷ u ∷ ts) [] e = absurd cc
ends_of (t ∷ u ∷ ts) (w ∷ ws) e = let tail : token_texts (u ∷ ts) ≡ ws ++ codes ";" ∷ [] = cc in ends_of (u ∷ ts) ws tail

options_free : (ws : List (List ℕ)) → are_options ws ≡ true → are_free ws ≡ true
options_free [] h = refl
options_free (w ∷ ws) h =
    let a = and_parts (bytes_eq w (codes "+")) (list_all is_passing ws) h in
    let is = bytes_are w (codes "+") a.0 in
    rw is (passing_free ws a.1)

-- the tokens of a text that stand in it are in it
pub stand_in : (text : List ℕ) (ts : List Token) → StandIn text ts → AreIn text ts
stand_in text ts stand =
    let all = subst (AreIn text) stand.is (tokens_are_in text (def_tokens text)) in
    each_front (IsIn text) ts stand.behind (each_behind (IsIn text) stand.front (ts ++ stand.behind) all)

-- tokens of the words of a net that is written anew are the net with these connections
pub changed_net_is : (text other : List ℕ) (ts us : List Token) (x : Net) (c : NetChange) → StandIn text ts → AreIn other us → net.spells (net_statements.Net x) ts → list_all names_both c.added ≡ true
    → token_texts us ≡ net_statement_words text ts (net_statements.Net x) c → IsNet x.name (changed_connections c (map (connection_in text) x.connections)) other us
changed_net_is text other ts us x c stand there h added e =
    let net_is = net_there text x ts (stand_in text ts stand) h in
    let old = map (connection_in text) x.connections in
    let front = codes "-" ∷ x.name ∷ (flat_map connection_words old ++ net_is.options) in
    let cut : token_texts ts ≡ front ++ codes ";" ∷ [] = net_is.texts ∙ ap (λ (ws : List (List ℕ)). codes "-" ∷ x.name ∷ ws) (sym (append_assoc (flat_map connection_words old) net_is.options (codes ";" ∷ []))) in
    let words : texts (slice text ts) ≡ front ++ codes ";" ∷ [] = slice_law text ts stand (ends_of ts front cut) ∙ cut in
    let name_free = free_net_name x.name net_is.named in
    let free : are_free front ≡ true = words_free x old net_is.options name_free (free_words old net_is.good) net_is.free in
    let closing = closing_of front free (subst (λ (ws : List (List ℕ)). are_standing ws ≡ true) words (standing_law (slice text ts))) in
    let others = other_words 0 false (token_texts ts) in
    let options : are_options others ≡ true = ap (λ (ws : List (List ℕ)). are_options (other_words 0 false ws)) cut ∙ ap are_options (others_end 0 false front) ∙ others_options 0 front (closing_some front closing) in
    let new = changed_connections c old in
    let good = all_both names_both (kept c.stays old) c.added (all_kept names_both c.stays old net_is.good) added in
    net_back other x.name new others us there net_is.named good (options_back others options) (words_free x new others name_free (free_words new good) (options_free others options)) e
