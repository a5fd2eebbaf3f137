-- The connections that stay, one after the other.
use Rattle.std.proofs.Common.{◌≡◌, ℕ, Bool, if◌then◌else◌, List, [], ◌∷◌, ◌++◌, map, drop, sym, ap, ◌∙◌, append_assoc}
use Rattle.std.specs.List.{flat_map}
use Rattle.std.proofs.lemmas.List.{append-nil}
use Rattle.std.proofs.lemmas.List.Concat.{flat_map-append}
use Rattle.def_syntax.specs.declared.net.Connection.{Connection}
use Rattle.def_layout.specs.declared.net.ConnectionLayout.{ConnectionLayout}
use Rattle.def_layout.specs.Words.{spaced}
use Rattle.def_layout.specs.Nets.{connection_words, connection_in, first_stays, kept}

spaced_both : (xs ys : List ConnectionLayout) → spaced (flat_map connection_words (xs ++ ys)) ≡ spaced (flat_map connection_words xs) ++ spaced (flat_map connection_words ys)
spaced_both xs ys = ap spaced (flat_map-append connection_words xs ys) ∙ flat_map-append (λ w. 32 ∷ w) (flat_map connection_words xs) (flat_map connection_words ys)

pub kept_more : (text : List ℕ) (marks more : List Bool) (left rest : List Connection) (c : Connection) (stays : Bool) (out new total : List ℕ) → left ≡ c ∷ rest → stays ≡ first_stays marks → more ≡ drop 1 marks
    → new ≡ out ++ spaced (flat_map connection_words (if stays then connection_in text c ∷ [] else []))
    → out ++ spaced (flat_map connection_words (kept marks (map (connection_in text) left))) ≡ total → new ++ spaced (flat_map connection_words (kept more (map (connection_in text) rest))) ≡ total
unfolding kept
kept_more text marks more left rest c stays out new total is by later pushed so_far =
    let first = if first_stays marks then connection_in text c ∷ [] else [] in
    let others = kept (drop 1 marks) (map (connection_in text) rest) in
    rw (pushed, by, later) (append_assoc out (spaced (flat_map connection_words first)) (spaced (flat_map connection_words others))
    ∙ ap (λ (x : List ℕ). out ++ x) (sym (spaced_both first others)) ∙ ap (λ (cs : List Connection). out ++ spaced (flat_map connection_words (kept marks (map (connection_in text) cs)))) (sym is) ∙ so_far)

pub kept_last : (text : List ℕ) (marks : List Bool) (left : List Connection) (out total : List ℕ) → left ≡ [] → out ++ spaced (flat_map connection_words (kept marks (map (connection_in text) left))) ≡ total → out ≡ total
unfolding kept
kept_last text marks left out total none so_far =
    sym (append-nil out) ∙ ap (λ (cs : List Connection). out ++ spaced (flat_map connection_words (kept marks (map (connection_in text) cs)))) (sym none) ∙ so_far
