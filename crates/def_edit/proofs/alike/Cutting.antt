-- A text that has the words of another with changes has its statements.
use Rattle.std.proofs.Common.{◌≡◌, ℕ, List, [], ◌∷◌, ◌++◌, map, refl, sym, ap, ◌∙◌, subst, append_assoc}
use Rattle.std.specs.List.{flat_map, AllByRecursion as Each}
use Rattle.std.proofs.lemmas.List.{map-append}
use Rattle.std.proofs.lemmas.List.Concat.{flat_map-append}
use Rattle.token_forms.specs.Tokens.{Token}
use Rattle.token_forms.specs.Parts.{token_texts}
use Rattle.token_forms.proofs.Joined.{no_texts, cut_texts}
use Rattle.def_tokens.specs.DefTokens.{tokens_in, def_tokens}
use Rattle.def_tokens.specs.DefStatements.{def_statements, IsStatementSplit}
use Rattle.def_tokens.proofs.DefCuts.{statements_law}
use Rattle.def_syntax.specs.Frames.{statements_in}
use Rattle.def_syntax.proofs.FrameLaws.{each_front, each_behind}
use Rattle.def_layout.specs.NetForms.{IsIn, AreIn}
use Rattle.def_layout.proofs.NetLaw.{tokens_are_in}
use Rattle.def_layout.proofs.NetTexts.{texts_are}
use Rattle.def_edit.specs.Alike.Changes.{changed_words}
use Rattle.def_edit.specs.Alike.Laws.{CutLaw}
use Rattle.def_edit.proofs.alike.SameForms.{texts_both}
use Rattle.def_edit.proofs.alike.SameStatements.{same_cut}
use Rattle.def_edit.proofs.alike.Statements.{IsShut, behind_all}
use Rattle.def_edit.proofs.alike.Blocks.{blocks_back}
use Rattle.def_edit.proofs.alike.Frames.{inner_each, shut_are}
use Rattle.def_edit.proofs.alike.Contents.{body_ended, components_are, pins_are, nets_are, chains_are}

abbrev flat : List (List Token) → List Token
flat ss = flat_map (λ s. s) ss

-- tokens cut where their words are
record Pieces (us : List Token) (ws : List (List (List ℕ))) : Type 0 where
  pieces : List (List Token)
  is : us ≡ flat pieces
  words : map token_texts pieces ≡ ws

pieces_of : (us : List Token) (ws : List (List (List ℕ))) → token_texts us ≡ flat_map (λ w. w) ws → Pieces us ws
pieces_of us [] e = record { pieces = []; is = no_texts us e; words = refl }
pieces_of us (w ∷ ws) e =
    let c = cut_texts w (flat_map (λ v. v) ws) us e in
    let r = pieces_of c.behind ws c.second in
    record { pieces = c.front ∷ r.pieces; is = c.is ∙ ap (λ (l : List Token). c.front ++ l) r.is; words = rw (c.first, r.words) refl }

pieces_in : (text : List ℕ) (ss : List (List Token)) → AreIn text (flat ss) → Each (AreIn text) ss
pieces_in text [] h = tt
pieces_in text (s ∷ ss) h = (each_front (IsIn text) s (flat ss) h, pieces_in text ss (each_behind (IsIn text) s (flat ss) h))

flat_texts : (ss : List (List Token)) → token_texts (flat ss) ≡ flat_map (λ w. w) (map token_texts ss)
flat_texts [] = refl
flat_texts (s ∷ ss) = texts_both s (flat ss) ∙ ap (λ (l : List (List ℕ)). token_texts s ++ l) (flat_texts ss)

-- statements one behind the other are all tokens
flat_split : (ts : List Token) (ss : List (List Token)) → IsStatementSplit ts ss → ts ≡ flat ss
flat_split ts [] h = h
flat_split ts (s ∷ ss) h = h.0.is ∙ ap (λ (l : List Token). s ++ l) (flat_split h.0.rest ss h.1)

shut_run : (ss : List (List Token)) (rest : List Token) → Each IsShut ss → def_statements (flat ss ++ rest) ≡ ss ++ def_statements rest
shut_run [] rest h = refl
shut_run (s ∷ ss) rest h = ap def_statements (append_assoc s (flat ss) rest) ∙ h.0 (flat ss ++ rest) ∙ ap (λ (l : List (List Token)). s ∷ l) (shut_run ss rest h.1)

pub cut_law : CutLaw
cut_law text t r c written once fit e =
    let us = tokens_in written in
    let ws = changed_words text t c r in
    let p = pieces_of us ws (sym (texts_are written) ∙ e) in
    let back = blocks_back text t c r.blocks p.pieces (map token_texts (r.closed.end ∷ r.closed.behind)) p.words in
    let ds = back.blocks in
    let front = flat_map statements_in ds in
    let all_in = pieces_in written p.pieces (subst (AreIn written) p.is (tokens_are_in written (def_tokens written))) in
    let inside = each_front (AreIn written) front back.rest (subst (Each (AreIn written)) back.is all_in) in
    let a = components_are text t r c once fit written ds back.beside inside in
    let b = pins_are text t r c once fit written ds back.beside inside in
    let n = nets_are text t r c once fit written ds back.beside inside in
    let h = chains_are text t r c once fit written ds back.beside inside in
    let shut = shut_are text t c r.blocks ds back.beside (body_ended text t r) (inner_each IsShut ds a.shut b.shut n.shut h.shut) in
    let cut : us ≡ flat front ++ flat back.rest = p.is ∙ ap flat back.is ∙ flat_map-append (λ s. s) front back.rest in
    let behind = behind_all (tokens_in text) r.body (r.closed.end ∷ r.closed.behind) (subst (IsStatementSplit (tokens_in text)) r.closed.is (statements_law (tokens_in text))) in
    let rest_is : behind.rest ≡ flat (r.closed.end ∷ r.closed.behind) = flat_split behind.rest (def_statements behind.rest) (statements_law behind.rest) ∙ ap flat (sym behind.is) in
    let same : token_texts (flat back.rest) ≡ token_texts behind.rest =
    flat_texts back.rest ∙ ap (λ (l : List (List (List ℕ))). flat_map (λ w. w) l) back.words ∙ sym (flat_texts (r.closed.end ∷ r.closed.behind)) ∙ ap token_texts (sym rest_is)
    in
    let last : map token_texts (def_statements (flat back.rest)) ≡ map token_texts back.rest = same_cut (flat back.rest) behind.rest same ∙ ap (map token_texts) (sym behind.is) ∙ sym back.words in
    ap (λ (l : List Token). map token_texts (def_statements l)) cut ∙ ap (map token_texts) (shut_run front (flat back.rest) shut) ∙ map-append token_texts front (def_statements (flat back.rest))
    ∙ ap (λ (l : List (List (List ℕ))). map token_texts front ++ l) last ∙ sym (map-append token_texts front back.rest) ∙ ap (map token_texts) (sym back.is) ∙ p.words
