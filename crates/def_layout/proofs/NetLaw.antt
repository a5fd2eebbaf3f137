-- A net that is written is read back.
use Rattle.std.proofs.Common.{◌≡◌, ℕ, Bool, true, false, not, List, [], ◌∷◌, ◌++◌, map, refl, sym, ap, ◌∙◌, subst, append_assoc, codes, Ok, Err, IfOk, Result}
use Rattle.std.specs.List.{flat_map, list_all}
use Rattle.std.specs.Str.{bytes_eq}
use Rattle.std.proofs.lemmas.List.Concat.{flat_map-append}
use Rattle.std.proofs.lemmas.Option.{same_Some}
use Rattle.std.proofs.lemmas.Bool.{and_from, and_parts}
use Rattle.base_types.specs.declared.span.Span.{Span}
use Rattle.base_types.specs.declared.stop.Stop.{Stop}
use Rattle.base_types.proofs.TruthValues.{bytes_are}
use Rattle.base_types.specs.declared.stop.Stop.TheVariants as stops
use Rattle.token_forms.specs.Tokens.{Token, tokens_of}
use Rattle.token_forms.specs.Parts.{token_texts}
use Rattle.token_forms.specs.Classes.{But, is_in}
use Rattle.def_tokens.specs.DefTokens.{def_tokens, tokens_in}
use Rattle.def_tokens.specs.DefStatements.{ends_with}
use Rattle.def_syntax.specs.Words.{marks}
use Rattle.def_syntax.specs.Grammar.{net}
use Rattle.def_syntax.specs.Pieces.{some_list}
use Rattle.def_syntax.specs.declared.net.Connection.{Connection}
use Rattle.def_syntax.specs.declared.net.Net.{Net}
use Rattle.def_syntax.specs.declared.net.NetStatement.{NetStatement}
use Rattle.def_syntax.specs.declared.net.NetStatement.TheVariants as net_statements
use Rattle.def_syntax.proofs.FrameLaws.{each_front, each_behind}
use Rattle.def_syntax.proofs.Lawful.{net_statement}
use Rattle.def_layout.specs.declared.net.ConnectionLayout.{ConnectionLayout}
use Rattle.def_layout.specs.declared.net.NetLayout.{NetLayout}
use Rattle.def_layout.specs.Words.{texts, joined, is_whole, are_standing, HasWords}
use Rattle.def_layout.specs.SectionForms.{is_name}
use Rattle.def_layout.specs.Nets.{connection_words, connection_in, kept, other_words, net_words, closed, net_text}
use Rattle.def_layout.specs.NetForms.{IsIn, IsNetOf, AreIn, IsNet, IsNetLayout, names_connection, new_connections, new_words, IsReadBack}
use Rattle.def_layout.specs.Slices.{slice, NetSliceLaw}
use Rattle.def_layout.proofs.WordTokens.{one_word}
use Rattle.def_layout.proofs.Standing.{standing_law}
use Rattle.def_layout.proofs.Closing.{are_closing, are_free, closed_words}
use Rattle.def_layout.proofs.NetTexts.{texts_are}
use Rattle.def_layout.proofs.Slices.{slice_law}
use Rattle.def_layout.proofs.NetThere.{is_good, NetThere, net_there}
use Rattle.def_layout.proofs.NetBack.{is_passing, are_options, options_back, net_back}
use Rattle.def_layout.proofs.NetWritten.{whole_connection, closing_of, closing_behind, closing_both, put_whole, closing_some, connections_whole, whole_words, free_net_name, free_words, all_kept, all_both, others_end, others_closing, others_options, passing_free}

pub tokens_are_in : (text : List ℕ) (ss : List Span) → AreIn text (tokens_of text ss)
tokens_are_in text [] = tt
tokens_are_in text (s ∷ ss) = (refl, tokens_are_in text ss)

name_whole : (text name : List ℕ) (xs : List Connection) (ws : List (List ℕ)) → some_list xs ≡ true → are_closing (name ∷ (flat_map connection_words (map (connection_in text) xs) ++ ws)) ≡ true → is_whole name ≡ true
name_whole text name [] ws some h = absurd cc
name_whole text name (x ∷ xs) ws some h = (and_parts (is_whole name) _ h).0

options_free : (ws : List (List ℕ)) → are_options ws ≡ true → are_free ws ≡ true
options_free [] h = refl
options_free (w ∷ ws) h =
    let a = and_parts (bytes_eq w (codes "+")) (list_all is_passing ws) h in
    let is = bytes_are w (codes "+") a.0 in
    rw is (passing_free ws a.1)

-- names are whole, and no marks
added_are : (cs : List ConnectionLayout) → list_all names_connection cs ≡ true → (list_all whole_connection cs ≡ true) × (list_all is_good cs ≡ true)
added_are [] h = (refl, refl)
added_are (c ∷ cs) h =
    let a = and_parts (names_connection c) (list_all names_connection cs) h in
    let b = and_parts (is_name c.component) (is_name c.pin) a.0 in
    let d = and_parts (is_whole c.component) (is_in (But marks) c.component) b.0 in
    let e = and_parts (is_whole c.pin) (is_in (But marks) c.pin) b.1 in
    let r = added_are cs a.1 in
    (and_from (whole_connection c) _ (and_from _ _ d.0 e.0) r.0, and_from (is_good c) _ (and_from _ _ d.1 e.1) r.1)

module _ (text : List ℕ) (stay : List Bool) (added : List ConnectionLayout) (n : Net) (read : IsNetOf text n) (some : some_list n.connections ≡ true) (names : list_all names_connection added ≡ true) where
  abbrev old : List ConnectionLayout
  old = map (connection_in text) n.connections

  abbrev new : List ConnectionLayout
  new = new_connections text n stay added

  there : NetThere text n (tokens_in text)
  there = net_there text n (tokens_in text) (tokens_are_in text (def_tokens text)) read

  abbrev front : List (List ℕ)
  front = codes "-" ∷ n.name ∷ (flat_map connection_words old ++ there.options)

  texts_cut : texts text ≡ front ++ codes ";" ∷ []
  texts_cut = texts_are text ∙ there.texts ∙ ap (λ (ws : List (List ℕ)). codes "-" ∷ n.name ∷ ws) (sym (append_assoc (flat_map connection_words old) there.options (codes ";" ∷ [])))

  name_free : not (bytes_eq n.name (codes ";")) ≡ true
  name_free = rw (free_net_name n.name there.named) refl

  front_free : are_free front ≡ true
  front_free = and_from (not (bytes_eq n.name (codes ";"))) _ name_free (all_both (λ w. not (bytes_eq w (codes ";"))) (flat_map connection_words old) there.options (free_words old there.good) there.free)

  front_closing : are_closing front ≡ true
  front_closing = closing_of front front_free (subst (λ (ws : List (List ℕ)). are_standing ws ≡ true) texts_cut (standing_law text))

  abbrev others : List (List ℕ)
  others = other_words 0 false (texts text)

  others_are : others ≡ other_words 0 false front
  others_are = ap (other_words 0 false) texts_cut ∙ others_end 0 false front

  closing_others : are_closing others ≡ true
  closing_others = ap are_closing others_are ∙ others_closing 0 false front front_closing

  options_others : are_options others ≡ true
  options_others = ap are_options others_are ∙ others_options 0 front (closing_some front front_closing)

  whole_name : is_whole n.name ≡ true
  whole_name = name_whole text n.name n.connections there.options some (closing_behind (codes "-") (n.name ∷ (flat_map connection_words old ++ there.options)) front_closing)

  whole_new : list_all whole_connection new ≡ true
  whole_new =
      all_both whole_connection (kept stay old) added (all_kept whole_connection stay old (connections_whole old there.options (closing_behind n.name (flat_map connection_words old ++ there.options) (closing_behind (codes "-") (n.name ∷ (flat_map connection_words old ++ there.options)) front_closing))).0) (added_are added names).0

  good_new : list_all is_good new ≡ true
  good_new = all_both is_good (kept stay old) added (all_kept is_good stay old there.good) (added_are added names).1

  words_new : net_words text n stay added ≡ codes "-" ∷ n.name ∷ (flat_map connection_words new ++ others)
  words_new =
      ap (λ (ws : List (List ℕ)). codes "-" ∷ n.name ∷ ws)
      (sym (append_assoc (flat_map connection_words (kept stay old)) (flat_map connection_words added) others) ∙ ap (λ (ws : List (List ℕ)). ws ++ others) (sym (flat_map-append connection_words (kept stay old) added)))

  free_new : are_free (n.name ∷ (flat_map connection_words new ++ others)) ≡ true
  free_new = and_from (not (bytes_eq n.name (codes ";"))) _ name_free (all_both (λ w. not (bytes_eq w (codes ";"))) (flat_map connection_words new) others (free_words new good_new) (options_free others options_others))

  closing_new : are_closing (n.name ∷ (flat_map connection_words new ++ others)) ≡ true
  closing_new = put_whole n.name _ whole_name (closing_both (flat_map connection_words new) others (whole_words new whole_new) closing_others)

  has_words : HasWords (net_text text n stay added) (new_words text n stay added)
  has_words =
      subst (λ (ws : List (List ℕ)). HasWords (closed (joined ws)) (ws ++ codes ";" ∷ [])) (sym words_new)
      (closed_words (codes "-") (codes "-" ∷ []) n.name (flat_map connection_words new ++ others) (one_word (codes "-") refl) closing_new free_new)

  reads_back : (whole : List ℕ) (ts : List Token) → AreIn whole ts → token_texts ts ≡ new_words text n stay added → IsNet n.name new whole ts
  reads_back whole ts inside e =
      net_back whole n.name new others ts inside there.named good_new (options_back others options_others) free_new
      (e ∙ ap (λ (ws : List (List ℕ)). ws ++ codes ";" ∷ []) words_new ∙ ap (λ (ws : List (List ℕ)). codes "-" ∷ n.name ∷ ws) (append_assoc (flat_map connection_words new) others (codes ";" ∷ [])))

-- tokens spell one net only
one_net : (ts : List Token) (x y : Net) → net.spells (net_statements.Net x) ts → net.spells (net_statements.Net y) ts → x ≡ y
one_net ts x y f g =
    let a = net_statement.lawful.read net_statement.clear (net_statements.Net x) ts [] f refl in
    let b = net_statement.lawful.read net_statement.clear (net_statements.Net y) ts [] g refl in
    let pairs = same_Some _ _ (sym a ∙ b) in
    let same : net_statements.Net x ≡ net_statements.Net y = ap (λ (p : NetStatement × List Token). p.0) pairs in
    cc

pub written_back : (text : List ℕ) (stay : List Bool) (added : List ConnectionLayout) (r : Result NetLayout Stop) → IsNetLayout text stay added r → IfOk r (IsReadBack text stay added)
written_back text stay added (Err stops.NoForm) h = tt
written_back text stay added (Err stops.NoMemory) h = tt
written_back text stay added (Ok layout) h =
    λ n read some names.
    let same : h.net ≡ n = one_net (tokens_in text) h.net n h.read read in
    let is : layout.text ≡ net_text text n stay added = h.text_is ∙ ap (λ (m : Net). net_text text m stay added) same in
    (subst (λ (t : List ℕ). HasWords t (new_words text n stay added)) (sym is) (has_words text stay added n read some names), reads_back text stay added n read some names)

ends_of : (ts : List Token) (ws : List (List ℕ)) → token_texts ts ≡ ws ++ codes ";" ∷ [] → ends_with (codes ";") ts ≡ true
ends_of [] [] e = absurd cc
ends_of [] (w ∷ ws) e = absurd cc
ends_of (t ∷ []) [] e = let here : t.text ≡ codes ";" = cc in rw here refl
ends_of (t ∷ []) (w ∷ []) e = absurd cc
ends_of (t ∷ []) (w ∷ v ∷ ws) e = absurd cc
ends_of (t ∷ u ∷ ts) [] e = absurd cc
ends_of (t ∷ u ∷ ts) (w ∷ ws) e = let tail : token_texts (u ∷ ts) ≡ ws ++ codes ";" ∷ [] = cc in ends_of (u ∷ ts) ws tail

pub net_slice_law : NetSliceLaw
net_slice_law text ts x stand spelled =
    let cut = slice text ts in
    let all = subst (AreIn text) stand.is (tokens_are_in text (def_tokens text)) in
    let inside = each_front (IsIn text) ts stand.behind (each_behind (IsIn text) stand.front (ts ++ stand.behind) all) in
    let there = net_there text x ts inside spelled in
    let cs = map (connection_in text) x.connections in
    let words : token_texts ts ≡ (codes "-" ∷ x.name ∷ (flat_map connection_words cs ++ there.options)) ++ codes ";" ∷ [] =
    there.texts ∙ ap (λ (ws : List (List ℕ)). codes "-" ∷ x.name ∷ ws) (sym (append_assoc (flat_map connection_words cs) there.options (codes ";" ∷ [])))
    in
    let ends = ends_of ts (codes "-" ∷ x.name ∷ (flat_map connection_words cs ++ there.options)) words in
    let same : token_texts (tokens_in cut) ≡ token_texts ts = sym (texts_are cut) ∙ slice_law text ts stand ends in
    let name_free : not (bytes_eq x.name (codes ";")) ≡ true = rw (free_net_name x.name there.named) refl in
    let free : are_free (x.name ∷ (flat_map connection_words cs ++ there.options)) ≡ true =
    and_from (not (bytes_eq x.name (codes ";"))) _ name_free (all_both (λ w. not (bytes_eq w (codes ";"))) (flat_map connection_words cs) there.options (free_words cs there.good) there.free)
    in
    let back = net_back cut x.name cs there.options (tokens_in cut) (tokens_are_in cut (def_tokens cut)) there.named there.good there.pass free (same ∙ there.texts) in
    record { value = back.value; read = back.spelled; named = back.named; connections = back.connections }
