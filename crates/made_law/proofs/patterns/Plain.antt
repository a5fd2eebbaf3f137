-- Names and numbers: words of letters and digits.
use Rattle.std.proofs.Common.{◌≡◌, ℕ, Bool, true, false, ◌&&◌, ◌||◌, eqb, List, [], ◌∷◌, refl, sym, ap, ◌∙◌, subst, codes, inl, inr, eqb-true, true≢false}
use Rattle.std.proofs.lemmas.Bool.{cases_Bool, and_parts}
use Rattle.std.specs.Prelude.{nat_le}
use Rattle.std.specs.List.{list_all}
use Rattle.std.specs.Str.{bytes_eq}
use Rattle.base_types.specs.Names.{plain_name}
use Rattle.stil_tokens.specs.StilTokens.{is_run}
use Rattle.stil_tokens.specs.StilStatements.{is_only, is_note}
use Rattle.stil_syntax.specs.Names.{is_word}

-- a digit or a letter
abbrev pub is_letter : ℕ → Bool
is_letter b = nat_le 48 b && (nat_le b 57 || (nat_le 65 b && (nat_le b 90 || (nat_le 97 b && nat_le b 122))))

-- what is known of a name or a number
pub record Plain (w : List ℕ) : Type 0 where
  pub semicolon : is_only 59 w ≡ false
  pub closing : is_only 125 w ≡ false
  pub opening : is_only 123 w ≡ false
  pub note : is_note w ≡ false
  pub colon : bytes_eq w (codes ":") ≡ false
  pub run : is_word w ≡ true
  pub plain : plain_name w ≡ w

pub letter_apart : (b m : ℕ) → is_letter b ≡ true → is_letter m ≡ false → eqb b m ≡ false
letter_apart b m h none = elim (cases_Bool (eqb b m)) [
  | inl e ↦ absurd (true≢false (sym (subst (λ (x : ℕ). is_letter x ≡ true) (eqb-true b m e) h) ∙ none))
  | inr e ↦ e
]

pub letter_run : (b : ℕ) → is_letter b ≡ true → is_run b ≡ true
letter_run b h =
    rw (
      letter_apart b 32 h refl,
      letter_apart b 9 h refl,
      letter_apart b 10 h refl,
      letter_apart b 13 h refl,
      letter_apart b 34 h refl,
      letter_apart b 39 h refl,
      letter_apart b 123 h refl,
      letter_apart b 125 h refl,
      letter_apart b 59 h refl,
      letter_apart b 61 h refl,
      letter_apart b 58 h refl,
      letter_apart b 33 h refl,
    ) refl

pub letters_run : (bs : List ℕ) → list_all is_letter bs ≡ true → list_all is_run bs ≡ true
letters_run [] all = refl
letters_run (b ∷ bs) all = let h = and_parts (is_letter b) (list_all is_letter bs) all in rw (letter_run b h.0) (letters_run bs h.1)

letters_plain : (bs : List ℕ) → list_all is_letter bs ≡ true → plain_name bs ≡ bs
letters_plain [] all = refl
letters_plain (b ∷ bs) all =
    let h = and_parts (is_letter b) (list_all is_letter bs) all in
    rw (letter_apart b 92 h.0 refl) (ap (λ (l : List ℕ). b ∷ l) (letters_plain bs h.1))

not_only : (m b : ℕ) (bs : List ℕ) → is_letter b ≡ true → is_letter m ≡ false → is_only m (b ∷ bs) ≡ false
not_only m b [] h none = letter_apart b m h none
not_only m b (c ∷ cs) h none = refl

first_word : (b : ℕ) (bs : List ℕ) → is_letter b ≡ true → is_word (b ∷ bs) ≡ true
first_word b bs h =
    rw (letter_apart b 123 h refl, letter_apart b 125 h refl, letter_apart b 59 h refl, letter_apart b 61 h refl, letter_apart b 58 h refl, letter_apart b 33 h refl, letter_apart b 34 h refl, letter_apart b 39 h refl) refl

first_note : (b : ℕ) (bs : List ℕ) → is_letter b ≡ true → is_note (b ∷ bs) ≡ false
first_note b bs h = rw (letter_apart b 123 h refl) refl

first_colon : (b : ℕ) (bs : List ℕ) → is_letter b ≡ true → bytes_eq (b ∷ bs) (codes ":") ≡ false
first_colon b bs h = rw (letter_apart b 58 h refl) refl

pub plain_word : (b : ℕ) (bs : List ℕ) → list_all is_letter (b ∷ bs) ≡ true → Plain (b ∷ bs)
plain_word b bs all =
    let h = and_parts (is_letter b) (list_all is_letter bs) all in
    record {
      semicolon = not_only 59 b bs h.0 refl;
      closing = not_only 125 b bs h.0 refl;
      opening = not_only 123 b bs h.0 refl;
      note = first_note b bs h.0;
      colon = first_colon b bs h.0;
      run = first_word b bs h.0;
      plain = letters_plain (b ∷ bs) all;
    }
