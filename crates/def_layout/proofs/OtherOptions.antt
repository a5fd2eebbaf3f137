-- The words of options, one after the other.
use Rattle.std.proofs.Common.{◌≡◌, ℕ, ◌+◌, ◌≤◌, Bool, ◌&&◌, ◌||◌, not, if◌then◌else◌, List, [], ◌∷◌, ◌++◌, length, refl, sym, ap, ◌∙◌, append_assoc, codes, arith}
use Rattle.std.specs.Str.{bytes_eq}
use Rattle.std.proofs.lemmas.List.{append-nil}
use Rattle.std.proofs.lemmas.List.Concat.{flat_map-append}
use Rattle.base_types.proofs.TruthValues.{or_assoc, or_false}
use Rattle.token_forms.specs.Tokens.{Token}
use Rattle.token_forms.specs.Parts.{token_texts}
use Rattle.def_syntax.specs.Options.{open_behind}
use Rattle.def_layout.specs.Words.{spaced}
use Rattle.def_layout.specs.Nets.{begins_option, begins_wiring, stays_at, other_words, has_wiring}

pub others_more : (t : Token) (left rest : List Token) (d e : ℕ) (s u : Bool) (out new total : List ℕ) → left ≡ t ∷ rest → e ≡ open_behind d t.text → u ≡ stays_at d s t.text (token_texts rest)
    → new ≡ out ++ spaced (if u && not (bytes_eq t.text (codes ";")) then t.text ∷ [] else []) → out ++ spaced (other_words d s (token_texts left)) ≡ total → new ++ spaced (other_words e u (token_texts rest)) ≡ total
unfolding other_words
others_more t left rest d e s u out new total is deeper stays pushed so_far =
    let first = if stays_at d s t.text (token_texts rest) && not (bytes_eq t.text (codes ";")) then t.text ∷ [] else [] in
    let others = other_words (open_behind d t.text) (stays_at d s t.text (token_texts rest)) (token_texts rest) in
    rw (pushed, stays, deeper) (append_assoc out (spaced first) (spaced others) ∙ ap (λ (x : List ℕ). out ++ x) (sym (flat_map-append (λ w. 32 ∷ w) first others))
    ∙ ap (λ (ts : List Token). out ++ spaced (other_words d s (token_texts ts))) (sym is) ∙ so_far)

pub others_last : (left : List Token) (d : ℕ) (s : Bool) (out total : List ℕ) → left ≡ [] → out ++ spaced (other_words d s (token_texts left)) ≡ total → out ≡ total
unfolding other_words
others_last left d s out total none so_far = sym (append-nil out) ∙ ap (λ (ts : List Token). out ++ spaced (other_words d s (token_texts ts))) (sym none) ∙ so_far

pub wiring_more : (t : Token) (left rest : List Token) (d e : ℕ) (w v total : Bool) → left ≡ t ∷ rest → e ≡ open_behind d t.text → v ≡ (w || (begins_option d t.text && begins_wiring (token_texts rest)))
    → (w || has_wiring d (token_texts left)) ≡ total → (v || has_wiring e (token_texts rest)) ≡ total
unfolding has_wiring
wiring_more t left rest d e w v total is deeper more so_far =
    rw (more, deeper) (or_assoc w (begins_option d t.text && begins_wiring (token_texts rest)) (has_wiring (open_behind d t.text) (token_texts rest)) ∙ ap (λ (ts : List Token). w || has_wiring d (token_texts ts)) (sym is) ∙ so_far)

pub wiring_last : (left : List Token) (d : ℕ) (w total : Bool) → left ≡ [] → (w || has_wiring d (token_texts left)) ≡ total → w ≡ total
unfolding has_wiring
wiring_last left d w total none so_far = sym (or_false w) ∙ ap (λ (ts : List Token). w || has_wiring d (token_texts ts)) (sym none) ∙ so_far

pub room_more : (left rest : List Token) (t : Token) (d e most : ℕ) → left ≡ t ∷ rest → e ≤ d + 1 → d + length left ≤ most → e + length rest ≤ most
room_more left rest t d e most is less room = let k = ap (λ (ts : List Token). length ts) is in omega arith
