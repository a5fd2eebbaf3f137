-- Words, and texts in quotes.
use Rattle.std.proofs.Common.{◌≡◌, ℕ, Bool, true, false, ◌&&◌, ◌||◌, not, cond, eqb, ◌⊎◌, inl, inr, List, [], ◌∷◌, codes, refl, sym, ap, ◌∙◌, subst}
use Rattle.std.specs.Str.{bytes_eq}
use Rattle.std.proofs.lemmas.Bool.{cases_Bool, true≢false, eqb-true}
use Rattle.std.proofs.lemmas.Slice.Eq.{bytes_eq-Decides}
use Rattle.token_forms.specs.Classes.{But, is_among, is_in}
use Rattle.stil_tokens.specs.StilStatements.{is_only, is_note, has_end}
use Rattle.stil_syntax.specs.Names.{marks, begins_with, is_enclosed, is_word, is_string}
use Rattle.head_alike.specs.Steps.{starts_behind, changed_words}

one_of : (a b c : Bool) → (a || (b || (c || false))) ≡ true → (a ≡ true) ⊎ ((b ≡ true) ⊎ (c ≡ true))
one_of true b c e = inl refl
one_of false true c e = inr (inl refl)
one_of false false true e = inr (inr refl)
one_of false false false e = absurd cc

-- a fact of the three words
pub changed : (P : List ℕ → Type 0) → P (codes "ScanLength") → P (codes "ScanInversion") → P (codes "ScanCells") → (text : List ℕ) → is_among changed_words text ≡ true → P text
changed P a b c text h = elim (one_of (bytes_eq text (codes "ScanLength")) (bytes_eq text (codes "ScanInversion")) (bytes_eq text (codes "ScanCells")) h) [
  | inl e ↦ subst P (sym ((bytes_eq-Decides text (codes "ScanLength")).0 e)) a
  | inr o ↦ elim o [
    | inl e ↦ subst P (sym ((bytes_eq-Decides text (codes "ScanInversion")).0 e)) b
    | inr e ↦ subst P (sym ((bytes_eq-Decides text (codes "ScanCells")).0 e)) c
  ]
]

pub free_word : (text : List ℕ) → is_among changed_words text ≡ true → starts_behind text ≡ false
free_word text h = changed (λ w. starts_behind w ≡ false) refl refl refl text h

pub run_word : (text : List ℕ) → is_among changed_words text ≡ true → is_word text ≡ true
run_word text h = changed (λ w. is_word w ≡ true) refl refl refl text h

pub only_is : (m : ℕ) (text : List ℕ) → is_only m text ≡ true → text ≡ m ∷ []
only_is m [] e = absurd cc
only_is m (b ∷ []) e = ap (λ (n : ℕ). n ∷ []) (eqb-true b m e)
only_is m (b ∷ c ∷ bs) e = absurd cc

not_only : (m : ℕ) (text : List ℕ) → is_word (m ∷ []) ≡ false → is_word text ≡ true → is_only m text ≡ false
not_only m text bad good = elim (cases_Bool (is_only m text)) [
  | inl e ↦ absurd (true≢false (sym good ∙ ap is_word (only_is m text e) ∙ bad))
  | inr e ↦ e
]

last_of : (a b c d : Bool) → (a && not (b || (c || d))) ≡ true → d ≡ false
last_of true false false false e = refl
last_of true false false true e = absurd cc
last_of true false true d e = absurd cc
last_of true true c d e = absurd cc
last_of false b c d e = absurd cc

note_begins : (text : List ℕ) → begins_with 123 text ≡ false → is_note text ≡ false
note_begins [] e = refl
note_begins (b ∷ bs) e = ap (λ (k : Bool). k && has_end bs) e

no_note : (text : List ℕ) → is_word text ≡ true → is_note text ≡ false
no_note text e = note_begins text (last_of (is_in (But marks) text) (begins_with 34 text) (begins_with 39 text) (begins_with 123 text) e)

pub word_free : (text : List ℕ) → is_word text ≡ true → starts_behind text ≡ false
word_free text e =
    let a = not_only 123 text refl e in
    let b = not_only 125 text refl e in
    let c = not_only 59 text refl e in
    let d = no_note text e in
    let f = not_only 58 text refl e in
    rw (a, b, c, d, f) refl

pub string_free : (text : List ℕ) → is_string text ≡ true → starts_behind text ≡ false
string_free [] e = absurd cc
string_free (b ∷ []) e = subst (λ (n : ℕ). starts_behind (n ∷ []) ≡ false) (sym (eqb-true b 34 e)) refl
string_free (b ∷ c ∷ bs) e = subst (λ (n : ℕ). starts_behind (n ∷ c ∷ bs) ≡ false) (sym (eqb-true b 34 e)) refl

pub no_colon : (text : List ℕ) → is_only 58 text ≡ false → bytes_eq text (codes ":") ≡ false
no_colon text e = elim (cases_Bool (bytes_eq text (codes ":"))) [
  | inl h ↦ absurd (true≢false (sym (ap (is_only 58) ((bytes_eq-Decides text (codes ":")).0 h)) ∙ e))
  | inr h ↦ h
]

pub colon_starts : (text : List ℕ) → bytes_eq text (codes ":") ≡ true → starts_behind text ≡ true
colon_starts text h = ap starts_behind ((bytes_eq-Decides text (codes ":")).0 h)
