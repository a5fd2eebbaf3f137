-- The statements within sections, from words with changes.
use Rattle.std.proofs.Common.{◌≡◌, ℕ, true, List, [], ◌∷◌, length, map, Option, Some, None, refl, sym, ap, subst}
use Rattle.std.specs.List.{list_all, AllByRecursion as Each}
use Rattle.std.proofs.lemmas.Bool.{and_parts}
use Rattle.token_forms.specs.Tokens.{Token}
use Rattle.token_forms.specs.Parts.{token_texts}
use Rattle.token_forms.specs.Forms.{Form}
use Rattle.def_syntax.specs.Grammar.{design_pin, net, chain}
use Rattle.def_syntax.specs.Designs.{AreLocated}
use Rattle.def_syntax.specs.Reading.{located}
use Rattle.def_syntax.specs.declared.design.Located.{Located}
use Rattle.def_syntax.specs.declared.pin.DesignPin.{DesignPin}
use Rattle.def_syntax.specs.declared.net.NetStatement.{NetStatement}
use Rattle.def_syntax.specs.declared.net.NetStatement.TheVariants as net_statements
use Rattle.def_layout.specs.declared.chains.ChainLayout.{ChainLayout}
use Rattle.def_layout.specs.NetForms.{AreIn}
use Rattle.def_layout.specs.Slices.{StandIn}
use Rattle.def_layout.specs.SectionForms.{is_written_well, read_chain, chain_words, AreSpelled}
use Rattle.def_layout.proofs.ChainForms.{chain_spells}
use Rattle.def_edit.specs.Alike.ByWords.{IsByWords}
use Rattle.def_edit.specs.Alike.Changes.{NetChange, net_in, changed_net, changed_each, each_words, pin_statement_words, net_statement_words, names_word, names_both, if_some}
use Rattle.def_edit.specs.Alike.Laws.{pin_value, with_word}
use Rattle.def_edit.proofs.alike.Lists.{first_map, none_map}
use Rattle.def_edit.proofs.alike.Statements.{Strict, IsShut, IsEnded, shut_of, ended_again}
use Rattle.def_edit.proofs.alike.SamePins.{same_pin, changed_pin}
use Rattle.def_edit.proofs.alike.SameNets.{same_net, stand_in, changed_net_is}
use Rattle.def_edit.proofs.alike.Endings.{changed_ended, chain_shut}

-- values at the places of their statements
abbrev pub locate : {X : Type 0} → List ℕ → List (List Token) → List X → List (Located X)
locate text [] vs = []
locate text (s ∷ ss) [] = []
locate text (s ∷ ss) (v ∷ vs) = located text s v ∷ locate text ss vs

pub locate_are : {X : Type 0} (form : Form X) (text : List ℕ) (ss : List (List Token)) (vs : List X) → AreSpelled form vs ss → AreLocated form text ss (locate text ss vs)
locate_are form text [] [] h = tt
locate_are form text [] (v ∷ vs) h = absurd h
locate_are form text (s ∷ ss) [] h = absurd h
locate_are form text (s ∷ ss) (v ∷ vs) h = (record { spelled = h.0; span = refl; line = refl }, locate_are form text ss vs h.1)

pub locate_map : {X : Type 0} (form : Form X) (text : List ℕ) (ss : List (List Token)) (vs : List X) → AreSpelled form vs ss → map (λ x. x.statement) (locate text ss vs) ≡ vs
locate_map form text [] [] h = refl
locate_map form text [] (v ∷ vs) h = absurd h
locate_map form text (s ∷ ss) [] h = absurd h
locate_map {X} form text (s ∷ ss) (v ∷ vs) h = ap (λ (l : List X). v ∷ l) (locate_map form text ss vs h.1)

-- statements that are read, each of which ends by itself
pub record Read {X Y : Type 0} (form : Form X) (value : X → Y) (ys : List Y) (ss : List (List Token)) : Type 0 where
  pub values : List X
  pub spelled : AreSpelled form values ss
  pub same : map value values ≡ ys
  pub shut : Each IsShut ss

-- one statement more
more_read : {X Y : Type 0} (form : Form X) (value : X → Y) (y : Y) (ys : List Y) (ss others : List (List Token)) (s : List Token) (x : X) → ss ≡ s ∷ others → form.spells x s → value x ≡ y → IsShut s → Read form value ys others
    → Read form value (y ∷ ys) ss
more_read form value y ys ss others s x is spelled same shut r =
    record {
      values = x ∷ r.values;
      spelled = subst (AreSpelled form (x ∷ r.values)) (sym is) (spelled, r.spelled);
      same = rw (same, r.same) refl;
      shut = subst (Each IsShut) (sym is) (shut, r.shut);
    }

pub none_read : {X Y : Type 0} (form : Form X) (value : X → Y) (ss : List (List Token)) → map token_texts ss ≡ [] → Read form value [] ss
none_read {X} form value ss e =
    let is = none_map token_texts ss e in
    record { values = []; spelled = subst (AreSpelled {X = X} form []) (sym is) tt; same = refl; shut = subst (Each IsShut) (sym is) tt }

-- statements of the same words
pub same_read : {X : Type 0} (form : Form X) → IsByWords form → (text : List ℕ) (ss others : List (List Token)) (xs : List (Located X)) → AreLocated form text ss xs → Each IsEnded ss → map token_texts others ≡ map token_texts ss
    → Read form (λ x. x) (map (λ x. x.statement) xs) others
same_read form by text [] others [] h ended e = none_read form (λ x. x) others e
same_read form by text [] others (x ∷ xs) h ended e = absurd h
same_read form by text (s ∷ ss) others [] h ended e = absurd h
same_read form by text (s ∷ ss) others (x ∷ xs) h ended e =
    let one = first_map token_texts (token_texts s) (map token_texts ss) others e in
    let r = same_read form by text ss one.rest xs h.1 ended.1 one.second in
    more_read form (λ x. x) x.statement (map (λ x. x.statement) xs) others one.rest one.member x.statement one.is (by.same x.statement s one.member (sym one.first) h.0.spelled) refl (shut_of one.member (ended_again s one.member (sym one.first) ended.0)) r

-- design pins of which some have another word for their net
pub pins_read : (text : List ℕ) (ss others : List (List Token)) (xs : List (Located DesignPin)) (cs : List (Option (List ℕ))) → AreLocated design_pin text ss xs → Each IsEnded ss → Each Strict ss → length cs ≡ length xs
    → list_all (if_some names_word) cs ≡ true → map token_texts others ≡ each_words pin_statement_words ss xs cs → Read design_pin pin_value (changed_each with_word (map (λ x. pin_value x.statement) xs) cs) others
pins_read text [] others [] cs h ended strict len fit e = none_read design_pin pin_value others e
pins_read text [] others (x ∷ xs) cs h ended strict len fit e = absurd h
pins_read text (s ∷ ss) others [] cs h ended strict len fit e = absurd h
pins_read text (s ∷ ss) others (x ∷ xs) [] h ended strict len fit e = absurd cc
pins_read text (s ∷ ss) others (x ∷ xs) (None ∷ cs) h ended strict len fit e =
    let one = first_map token_texts (token_texts s) (each_words pin_statement_words ss xs cs) others e in
    let rest : length cs ≡ length xs = cc in
    let r = pins_read text ss one.rest xs cs h.1 ended.1 strict.1 rest fit one.second in
    let p = same_pin s one.member (sym one.first) x.statement h.0.spelled in
    more_read design_pin pin_value (pin_value x.statement) (changed_each with_word (map (λ x. pin_value x.statement) xs) cs) others one.rest one.member p.value one.is p.spelled p.same (shut_of one.member (ended_again s one.member (sym one.first) ended.0)) r
pins_read text (s ∷ ss) others (x ∷ xs) (Some w ∷ cs) h ended strict len fit e =
    let good = and_parts (names_word w) (list_all (if_some names_word) cs) fit in
    let one = first_map token_texts (pin_statement_words s x.statement w) (each_words pin_statement_words ss xs cs) others e in
    let rest : length cs ≡ length xs = cc in
    let r = pins_read text ss one.rest xs cs h.1 ended.1 strict.1 rest good.1 one.second in
    let p = changed_pin x.statement w s one.member strict.0 good.0 one.first h.0.spelled in
    more_read design_pin pin_value (with_word (pin_value x.statement) w) (changed_each with_word (map (λ x. pin_value x.statement) xs) cs) others one.rest one.member p.value one.is p.spelled p.same
    (shut_of one.member (changed_ended x.statement w s one.member good.0 h.0.spelled p ended.0)) r

-- a net that is changed
record OneNet (text other : List ℕ) (x : NetStatement) (c : NetChange) (u : List Token) : Type 0 where
  value : NetStatement
  spelled : net.spells value u
  same : net_in other value ≡ changed_net (net_in text x) c
  shut : IsShut u

one_net : (text other : List ℕ) (s u : List Token) (x : NetStatement) (c : NetChange) → net.spells x s → IsEnded s → StandIn text s → AreIn other u → list_all names_both c.added ≡ true → token_texts u ≡ net_statement_words text s x c
    → OneNet text other x c u
one_net text other s u net_statements.MustJoin c h ended stand inside fit e =
    let n = same_net text other s u (stand_in text s stand) inside (sym e) net_statements.MustJoin h in
    record { value = n.value; spelled = n.spelled; same = n.same; shut = shut_of u (ended_again s u (sym e) ended) }
one_net text other s u (net_statements.Net x) c h ended stand inside fit e =
    let n = changed_net_is text other s u x c stand inside h fit e in
    record { value = net_statements.Net n.value; spelled = n.spelled; same = rw (n.named, n.connections) refl; shut = n.alone }

-- nets of which some are written anew
pub nets_read : (text other : List ℕ) (ss others : List (List Token)) (xs : List (Located NetStatement)) (cs : List (Option NetChange)) → AreLocated net text ss xs → Each IsEnded ss → Each (StandIn text) ss → Each (AreIn other) others
    → length cs ≡ length xs → list_all (if_some (λ n. list_all names_both n.added)) cs ≡ true → map token_texts others ≡ each_words (net_statement_words text) ss xs cs
    → Read net (net_in other) (changed_each changed_net (map (λ x. net_in text x.statement) xs) cs) others
nets_read text other [] others [] cs h ended stand inside len fit e = none_read net (net_in other) others e
nets_read text other [] others (x ∷ xs) cs h ended stand inside len fit e = absurd h
nets_read text other (s ∷ ss) others [] cs h ended stand inside len fit e = absurd h
nets_read text other (s ∷ ss) others (x ∷ xs) [] h ended stand inside len fit e = absurd cc
nets_read text other (s ∷ ss) others (x ∷ xs) (None ∷ cs) h ended stand inside len fit e =
    let one = first_map token_texts (token_texts s) (each_words (net_statement_words text) ss xs cs) others e in
    let there = subst (Each (AreIn other)) one.is inside in
    let rest : length cs ≡ length xs = cc in
    let r = nets_read text other ss one.rest xs cs h.1 ended.1 stand.1 there.1 rest fit one.second in
    let n = same_net text other s one.member (stand_in text s stand.0) there.0 (sym one.first) x.statement h.0.spelled in
    more_read net (net_in other) (net_in text x.statement) (changed_each changed_net (map (λ x. net_in text x.statement) xs) cs) others one.rest one.member n.value one.is n.spelled n.same
    (shut_of one.member (ended_again s one.member (sym one.first) ended.0)) r
nets_read text other (s ∷ ss) others (x ∷ xs) (Some c ∷ cs) h ended stand inside len fit e =
    let good = and_parts (list_all names_both c.added) (list_all (if_some (λ n. list_all names_both n.added)) cs) fit in
    let one = first_map token_texts (net_statement_words text s x.statement c) (each_words (net_statement_words text) ss xs cs) others e in
    let there = subst (Each (AreIn other)) one.is inside in
    let rest : length cs ≡ length xs = cc in
    let r = nets_read text other ss one.rest xs cs h.1 ended.1 stand.1 there.1 rest good.1 one.second in
    let n = one_net text other s one.member x.statement c h.0.spelled ended.0 stand.0 there.0 good.0 one.first in
    more_read net (net_in other) (changed_net (net_in text x.statement) c) (changed_each changed_net (map (λ x. net_in text x.statement) xs) cs) others one.rest one.member n.value one.is n.spelled n.same n.shut r

-- chains as they are written
pub chains_read : (cs : List ChainLayout) (others : List (List Token)) → list_all is_written_well cs ≡ true → map token_texts others ≡ map chain_words cs → Read chain (λ x. x) (map read_chain cs) others
chains_read [] others well e = none_read chain (λ x. x) others e
chains_read (c ∷ cs) others well e =
    let good = and_parts (is_written_well c) (list_all is_written_well cs) well in
    let one = first_map token_texts (chain_words c) (map chain_words cs) others e in
    let r = chains_read cs one.rest good.1 one.second in
    more_read chain (λ x. x) (read_chain c) (map read_chain cs) others one.rest one.member (read_chain c) one.is (chain_spells c good.0 one.member one.first) refl (chain_shut c one.member good.0 one.first) r
