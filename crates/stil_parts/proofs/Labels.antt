-- The word of a statement and its end, token by token, are those of the definitions: labels, the word behind them, and the brace.
use Rattle.std.specs.Prelude.{codes, nat_lt}
use Rattle.std.proofs.Common.{◌≡◌, ℕ, zero, suc, ◌+◌, ◌-◌, ◌≤◌, Bool, true, false, cond, eqb, ◌&&◌, ◌||◌, List, [], ◌∷◌, length, drop, take, Option, Some, None, refl, sym, ap, subst, ◌∙◌, arith, inl, inr}
use Rattle.std.specs.Str.{bytes_eq}
use Rattle.std.proofs.lemmas.Bool.{cases_Bool, eqb-true, and_parts, and_right, or_cases, ne_eqb, true≢false, false≢true}
use Rattle.token_forms.specs.Tokens.{Token}
use Rattle.stil_parts.specs.declared.scan.Found.{Found}
use Rattle.stil_parts.specs.Scanner.{found}
use Rattle.stil_tokens.specs.StilTokens.{is_run}
use Rattle.stil_tokens.specs.StilStatements.{is_only, is_note, token_ends, depth_behind, len_in, statement_len}
use Rattle.stil_parts.specs.Ending.{statement_end}
use Rattle.stil_parts.specs.ByTokens.{is_bare, is_string, string_len, name_len, begins_colon, behind_within, begins_pattern, is_pattern, brace_end, ended, opened_or}
use Rattle.stil_parts.proofs.Stages.{Stage, Begin, String, Named, Sure, settled, behind_run, behind_string, behind_colon, behind_token}
use Rattle.stil_parts.proofs.TokenEnds.{opens, only-other}
use Rattle.stil_parts.proofs.TokenScan.{before_token, ends_in, word_in}

-- a word that is known stays
sure-token : (is : Bool) (t : List ℕ) → behind_token (Sure is) t ≡ Sure is
sure-token is t = by (is_bare t) (is_string t) (is_only 58 t)
  where
    by : (a b c : Bool) → cond a (Sure is) (cond b (Sure is) (cond c (Sure is) (Sure is))) ≡ Sure is
    by true b c = refl
    by false true c = refl
    by false false true = refl
    by false false false = refl

pub cond-one : (e : Bool) (g : Stage) → cond e g g ≡ g
cond-one true g = refl
cond-one false g = refl

pub word-sure : (is : Bool) (prev : ℕ) (ts : List Token) → word_in (Sure is) prev ts ≡ is
word-sure is prev [] = refl
word-sure is prev (t ∷ ts) = ap (λ (g : Stage). word_in (behind_token g t.text) t.end ts) (cond-one (eqb t.start prev) (Sure is)) ∙ ap (λ (g : Stage). word_in g t.end ts) (sure-token is t.text) ∙ word-sure is t.end ts

-- the kinds of tokens exclude one another
pub only-is : (m : ℕ) (t : List ℕ) → is_only m t ≡ true → t ≡ m ∷ []
only-is m [] e = absurd (false≢true e)
only-is m (b ∷ []) e = ap (λ (x : ℕ). x ∷ []) (eqb-true b m e)
only-is m (b ∷ c ∷ bs) e = absurd (false≢true e)

pattern-bare : (t : List ℕ) → is_bare t ≡ false → bytes_eq t (codes "Pattern") ≡ false
pattern-bare [] e = refl
pattern-bare (b ∷ bs) e = elim (cases_Bool (eqb b 80)) [
  | inl k ↦ absurd (let i = eqb-true b 80 k in let run : is_run b ≡ true = rw i refl in true≢false (sym run ∙ e))
  | inr k ↦ ap (λ (x : Bool). x && bytes_eq bs (drop 1 (codes "Pattern"))) k
]

bare-no-colon : (t : List ℕ) → is_bare t ≡ true → is_only 58 t ≡ false
bare-no-colon t e = elim (cases_Bool (is_only 58 t)) [
  | inl k ↦ absurd (let i = only-is 58 t k in let other : is_bare t ≡ false = rw i refl in true≢false (sym e ∙ other))
  | inr k ↦ k
]

string-no-colon : (t : List ℕ) → is_string t ≡ true → is_only 58 t ≡ false
string-no-colon t e = elim (cases_Bool (is_only 58 t)) [
  | inl k ↦ absurd (let i = only-is 58 t k in let other : is_string t ≡ false = rw i refl in true≢false (sym e ∙ other))
  | inr k ↦ k
]

string-no-bare : (t : List ℕ) → is_string t ≡ true → is_bare t ≡ false
string-no-bare [] e = refl
string-no-bare (b ∷ bs) e = let i = eqb-true b 34 e in rw i refl

-- the four kinds of tokens
pub data Kind (t : List ℕ) : Type 0 where
  Bare : is_bare t ≡ true → is_string t ≡ false → is_only 58 t ≡ false → Kind t
  Text : is_bare t ≡ false → is_string t ≡ true → is_only 58 t ≡ false → Kind t
  Colon : is_bare t ≡ false → is_string t ≡ false → is_only 58 t ≡ true → Kind t
  Other : is_bare t ≡ false → is_string t ≡ false → is_only 58 t ≡ false → Kind t

pub kind_of : (t : List ℕ) → Kind t
kind_of t = elim (cases_Bool (is_string t)) [
  | inl s ↦ Text (string-no-bare t s) s (string-no-colon t s)
  | inr s ↦ elim (cases_Bool (is_bare t)) [
    | inl b ↦ Bare b s (bare-no-colon t b)
    | inr b ↦ elim (cases_Bool (is_only 58 t)) [ inl c ↦ Colon b s c | inr c ↦ Other b s c ]
  ]
]

behind-bare : (g : Stage) (t : List ℕ) → is_bare t ≡ true → behind_token g t ≡ behind_run (bytes_eq t (codes "Pattern")) g
behind-bare g t b = ap (λ (x : Bool). cond x (behind_run (bytes_eq t (codes "Pattern")) g) (cond (is_string t) (behind_string g) (cond (is_only 58 t) (behind_colon g) (Sure (settled g))))) b

behind-text : (g : Stage) (t : List ℕ) → is_bare t ≡ false → is_string t ≡ true → behind_token g t ≡ behind_string g
behind-text g t b s =
    ap (λ (x : Bool). cond x (behind_run (bytes_eq t (codes "Pattern")) g) (cond (is_string t) (behind_string g) (cond (is_only 58 t) (behind_colon g) (Sure (settled g))))) b
    ∙ ap (λ (x : Bool). cond x (behind_string g) (cond (is_only 58 t) (behind_colon g) (Sure (settled g)))) s

behind-mark : (g : Stage) (t : List ℕ) → is_bare t ≡ false → is_string t ≡ false → behind_token g t ≡ cond (is_only 58 t) (behind_colon g) (Sure (settled g))
behind-mark g t b s =
    ap (λ (x : Bool). cond x (behind_run (bytes_eq t (codes "Pattern")) g) (cond (is_string t) (behind_string g) (cond (is_only 58 t) (behind_colon g) (Sure (settled g))))) b
    ∙ ap (λ (x : Bool). cond x (behind_string g) (cond (is_only 58 t) (behind_colon g) (Sure (settled g)))) s

-- behind a name that no run belongs to: a colon makes it a label, and any other token makes it the word
behind-named : (is : Bool) (u : List ℕ) → behind_token (Named is) u ≡ cond (is_only 58 u) Begin (Sure is)
behind-named is u = by (kind_of u)
  where
    by : Kind u → behind_token (Named is) u ≡ cond (is_only 58 u) Begin (Sure is)
    by (Bare b s c) = behind-bare (Named is) u b ∙ sym (ap (λ (x : Bool). cond x Begin (Sure is)) c)
    by (Text b s c) = behind-text (Named is) u b s ∙ sym (ap (λ (x : Bool). cond x Begin (Sure is)) c)
    by (Colon b s c) = behind-mark (Named is) u b s
    by (Other b s c) = behind-mark (Named is) u b s

-- and behind a text in " at which a run stands
behind-joined : (u : List ℕ) → behind_token String u ≡ cond (is_bare u) (Named false) (cond (is_only 58 u) Begin (Sure false))
behind-joined u = by (kind_of u)
  where
    by : Kind u → behind_token String u ≡ cond (is_bare u) (Named false) (cond (is_only 58 u) Begin (Sure false))
    by (Bare b s c) = behind-bare String u b ∙ sym (ap (λ (x : Bool). cond x (Named false) (cond (is_only 58 u) Begin (Sure false))) b)
    by (Text b s c) = behind-text String u b s ∙ sym (ap (λ (x : Bool). cond x (Named false) (cond (is_only 58 u) Begin (Sure false))) b ∙ ap (λ (x : Bool). cond x Begin (Sure false)) c)
    by (Colon b s c) = behind-mark String u b s ∙ sym (ap (λ (x : Bool). cond x (Named false) (cond (is_only 58 u) Begin (Sure false))) b)
    by (Other b s c) = behind-mark String u b s ∙ sym (ap (λ (x : Bool). cond x (Named false) (cond (is_only 58 u) Begin (Sure false))) b)

-- the word behind a name: by a colon, or settled
abbrev named_word : Bool → List Token → Bool
named_word is [] = is
named_word is (u ∷ us) = cond (is_only 58 u.text) (word_in Begin u.end us) is

word-named : (is : Bool) (prev : ℕ) (ts : List Token) → word_in (Named is) prev ts ≡ named_word is ts
word-named is prev [] = refl
word-named is prev (u ∷ us) =
    ap (λ (g : Stage). word_in (behind_token g u.text) u.end us) (cond-one (eqb u.start prev) (Named is))
    ∙ ap (λ (g : Stage). word_in g u.end us) (behind-named is u.text) ∙ by (is_only 58 u.text)
  where
    by : (c : Bool) → word_in (cond c Begin (Sure is)) u.end us ≡ cond c (word_in Begin u.end us) is
    by true = refl
    by false = word-sure is u.end us

-- behind a text in ": a run right behind it belongs to the name
abbrev string_word : ℕ → List Token → Bool
string_word prev [] = false
string_word prev (u ∷ us) = cond (is_bare u.text && eqb u.start prev) (named_word false us) (named_word false (u ∷ us))

word-string-joined : (u : Token) (us : List Token) → word_in (behind_token String u.text) u.end us ≡ cond (is_bare u.text) (named_word false us) (named_word false (u ∷ us))
word-string-joined u us = ap (λ (g : Stage). word_in g u.end us) (behind-joined u.text) ∙ by (is_bare u.text) (is_only 58 u.text)
  where
    by : (a c : Bool) → word_in (cond a (Named false) (cond c Begin (Sure false))) u.end us ≡ cond a (named_word false us) (cond c (word_in Begin u.end us) false)
    by true c = word-named false u.end us
    by false true = refl
    by false false = word-sure false u.end us

word-text : (prev : ℕ) (ts : List Token) → word_in String prev ts ≡ string_word prev ts
word-text prev [] = refl
word-text prev (u ∷ us) = by (eqb u.start prev) (is_bare u.text) refl refl
  where
    by : (near bare : Bool) → eqb u.start prev ≡ near → is_bare u.text ≡ bare → word_in (behind_token (cond near String (Named false)) u.text) u.end us ≡ cond (bare && near) (named_word false us) (named_word false (u ∷ us))
    by true true e b = word-string-joined u us ∙ ap (λ (x : Bool). cond x (named_word false us) (named_word false (u ∷ us))) b
    by true false e b = word-string-joined u us ∙ ap (λ (x : Bool). cond x (named_word false us) (named_word false (u ∷ us))) b
    by false bare e b =
        ap (λ (g : Stage). word_in g u.end us) (behind-named false u.text) ∙ last (is_only 58 u.text)
        ∙ sym (ap (λ (x : Bool). cond x (named_word false us) (named_word false (u ∷ us))) (and_right bare false refl))
      where
        last : (c : Bool) → word_in (cond c Begin (Sure false)) u.end us ≡ cond c (word_in Begin u.end us) false
        last true = refl
        last false = word-sure false u.end us

-- whether the word is Pattern, where a name of so many tokens stands first
abbrev by_len : ℕ → List Token → ℕ → Bool
by_len n ts k = cond (nat_lt 0 k && begins_colon (drop k ts)) (begins_pattern (behind_within n (drop (k + 1) ts))) (begins_pattern ts)

behind-one : (n : ℕ) (ts : List Token) → begins_pattern (behind_within (suc n) ts) ≡ by_len n ts (name_len ts)
unfolding behind_within
behind-one n ts = by (nat_lt 0 (name_len ts) && begins_colon (drop (name_len ts) ts))
  where
    by : (b : Bool) → begins_pattern (cond b (behind_within n (drop (name_len ts + 1) ts)) ts) ≡ cond b (begins_pattern (behind_within n (drop (name_len ts + 1) ts))) (begins_pattern ts)
    by true = refl
    by false = refl

-- the word behind so many labels
abbrev Labelled : ℕ → Type 0
Labelled n = (prev : ℕ) (ts : List Token) → length ts ≤ n → word_in Begin prev ts ≡ begins_pattern (behind_within n ts)

module _ (n : ℕ) (more : Labelled n) where
  named-is : (is : Bool) (ts : List Token) → length ts ≤ n → named_word is ts ≡ cond (begins_colon ts) (begins_pattern (behind_within n (drop 1 ts))) is
  named-is is [] le = refl
  named-is is (u ∷ us) le = ap (λ (b : Bool). cond (is_only 58 u.text) b is) (more u.end us (omega arith))

  module _ (t : Token) (ts : List Token) (le : length (t ∷ ts) ≤ suc n) where
    abbrev same : Bool
    same = bytes_eq t.text (codes "Pattern")

    len-is : (k : ℕ) → name_len (t ∷ ts) ≡ k → by_len n (t ∷ ts) (name_len (t ∷ ts)) ≡ by_len n (t ∷ ts) k
    len-is k e = ap (by_len n (t ∷ ts)) e

    labelled-bare : is_bare t.text ≡ true → word_in (behind_token Begin t.text) t.end ts ≡ by_len n (t ∷ ts) (name_len (t ∷ ts))
    labelled-bare b =
        let len : name_len (t ∷ ts) ≡ 1 = ap (λ (x : Bool). cond x 1 (cond (is_string t.text) (string_len t ts) 0)) b in
        ap (λ (g : Stage). word_in g t.end ts) (behind-bare Begin t.text b) ∙ word-named same t.end ts ∙ named-is same ts (omega arith) ∙ sym (len-is 1 len)

    labelled-mark : is_bare t.text ≡ false → is_string t.text ≡ false → word_in (behind_token Begin t.text) t.end ts ≡ by_len n (t ∷ ts) (name_len (t ∷ ts))
    labelled-mark b s =
        let len : name_len (t ∷ ts) ≡ 0 = ap (λ (x : Bool). cond x 1 (cond (is_string t.text) (string_len t ts) 0)) b ∙ ap (λ (x : Bool). cond x (string_len t ts) 0) s in
        ap (λ (g : Stage). word_in g t.end ts) (behind-mark Begin t.text b s ∙ cond-one (is_only 58 t.text) (Sure false)) ∙ word-sure false t.end ts ∙ sym (pattern-bare t.text b) ∙ sym (len-is 0 len)

    len-string : is_bare t.text ≡ false → is_string t.text ≡ true → name_len (t ∷ ts) ≡ string_len t ts
    len-string b s = ap (λ (x : Bool). cond x 1 (cond (is_string t.text) (string_len t ts) 0)) b ∙ ap (λ (x : Bool). cond x (string_len t ts) 0) s

  string-is : (t : Token) (ts : List Token) → length (t ∷ ts) ≤ suc n → bytes_eq t.text (codes "Pattern") ≡ false → string_word t.end ts ≡ by_len n (t ∷ ts) (string_len t ts)
  string-is t [] le other = sym other
  string-is t (u ∷ us) le other = by (is_bare u.text && eqb u.start t.end)
    where
      by : (a : Bool) → cond a (named_word false us) (named_word false (u ∷ us)) ≡ by_len n (t ∷ u ∷ us) (cond a 2 1)
      by true = named-is false us (omega arith) ∙ ap (λ (x : Bool). cond (begins_colon us) (begins_pattern (behind_within n (drop 1 us))) x) (sym other)
      by false = named-is false (u ∷ us) (omega arith) ∙ ap (λ (x : Bool). cond (is_only 58 u.text) (begins_pattern (behind_within n us)) x) (sym other)

  labelled-token : (t : Token) (ts : List Token) → length (t ∷ ts) ≤ suc n → word_in (behind_token Begin t.text) t.end ts ≡ by_len n (t ∷ ts) (name_len (t ∷ ts))
  labelled-token t ts le = by (kind_of t.text)
    where
      by : Kind t.text → word_in (behind_token Begin t.text) t.end ts ≡ by_len n (t ∷ ts) (name_len (t ∷ ts))
      by (Bare b s c) = labelled-bare t ts le b
      by (Text b s c) =
          ap (λ (g : Stage). word_in g t.end ts) (behind-text Begin t.text b s) ∙ word-text t.end ts ∙ string-is t ts le (pattern-bare t.text b) ∙ sym (len-is t ts le (string_len t ts) (len-string t ts le b s))
      by (Colon b s c) = labelled-mark t ts le b s
      by (Other b s c) = labelled-mark t ts le b s

  labelled-more : Labelled (suc n)
  labelled-more prev [] le = sym (behind-one n [])
  labelled-more prev (t ∷ ts) le =
      ap (λ (g : Stage). word_in (behind_token g t.text) t.end ts) (cond-one (eqb t.start prev) Begin) ∙ labelled-token t ts le ∙ sym (behind-one n (t ∷ ts))

labelled-none : Labelled 0
unfolding behind_within
labelled-none prev [] le = refl
labelled-none prev (t ∷ ts) le = absurd (omega arith)

labelled : (n : ℕ) → Labelled n
labelled zero = labelled-none
labelled (suc n) = labelled-more n (labelled n)

-- the word of the statement at the front of some tokens
pub word-is : (prev : ℕ) (ts : List Token) → word_in Begin prev ts ≡ is_pattern ts
word-is prev ts = labelled (length ts) prev ts (omega arith)

-- a token that ends a statement, or is a brace, settles the word
behind-ending : (g : Stage) (d : ℕ) (t : List ℕ) → token_ends d t ≡ true → behind_token g t ≡ Sure (settled g)
behind-ending g d t e = elim (or_cases (is_only 59 t && eqb d 0) (is_only 125 t && eqb d 1 || is_note t && eqb d 0) e) [
  | inl h ↦ (let i = only-is 59 t (and_parts _ _ h).0 in ap (behind_token g) i)
  | inr f ↦ elim (or_cases (is_only 125 t && eqb d 1) (is_note t && eqb d 0) f) [
    | inl h ↦ (let i = only-is 125 t (and_parts _ _ h).0 in ap (behind_token g) i)
    | inr h ↦ note t (and_parts _ _ h).0
  ]
]
  where
    note : (t : List ℕ) → is_note t ≡ true → behind_token g t ≡ Sure (settled g)
    note [] h = absurd (false≢true h)
    note (b ∷ bs) h =
        let i = eqb-true b 123 (and_parts _ _ h).0 in
        subst (λ (x : ℕ). behind_token g (x ∷ bs) ≡ Sure (settled g)) (sym i) (ap (λ (x : Bool). cond x (behind_colon g) (Sure (settled g))) (only-other 58 123 bs refl))

behind-brace : (g : Stage) (t : List ℕ) → is_only 123 t ≡ true → behind_token g t ≡ Sure (settled g)
behind-brace g t e = let i = only-is 123 t e in ap (behind_token g) i

-- what stands behind a statement doesn't change its word
word-taken : (g : Stage) (prev d : ℕ) (ts : List Token) → word_in g prev (take (len_in d ts) ts) ≡ word_in g prev ts
word-taken g prev d [] = refl
word-taken g prev d (t ∷ ts) = elim (cases_Bool (token_ends d t.text)) [
  | inl e ↦ (
      let one : len_in d (t ∷ ts) ≡ 1 = ap (λ (x : Bool). cond x 1 (1 + len_in (depth_behind d t.text) ts)) e in
      let h = before_token g prev t in
      let sure = behind-ending h d t.text e in
      ap (λ (n : ℕ). word_in g prev (take n (t ∷ ts))) one ∙ ap settled sure ∙ sym (ap (λ (s : Stage). word_in s t.end ts) sure ∙ word-sure (settled h) t.end ts))
  | inr e ↦ (
      let k : 1 + len_in (depth_behind d t.text) ts ≡ suc (len_in (depth_behind d t.text) ts) = omega arith in
      let len : len_in d (t ∷ ts) ≡ suc (len_in (depth_behind d t.text) ts) = ap (λ (x : Bool). cond x 1 (1 + len_in (depth_behind d t.text) ts)) e ∙ k in
      ap (λ (n : ℕ). word_in g prev (take n (t ∷ ts))) len ∙ word-taken (behind_token (before_token g prev t) t.text) t.end (depth_behind d t.text) ts)
]

pub pattern-taken : (ts : List Token) → is_pattern (take (statement_len ts) ts) ≡ is_pattern ts
pattern-taken ts = sym (word-is 0 (take (statement_len ts) ts)) ∙ word-taken Begin 0 0 ts ∙ word-is 0 ts

-- in a block nothing opens
deeper : (d : ℕ) (t : List ℕ) → token_ends (suc d) t ≡ false → (e : ℕ) × (depth_behind (suc d) t ≡ suc e)
deeper d t no_end = elim (cases_Bool (is_only 123 t)) [
  | inl o ↦ (let k : suc d + 1 ≡ suc (suc d) = omega arith in (suc d, ap (λ (x : Bool). cond x (suc d + 1) (cond (is_only 125 t) (suc d - 1) (suc d))) o ∙ k))
  | inr o ↦ elim (cases_Bool (is_only 125 t)) [
    | inl c ↦ closing d c (ap (λ (x : Bool). cond x (suc d + 1) (cond (is_only 125 t) (suc d - 1) (suc d))) o ∙ ap (λ (x : Bool). cond x (suc d - 1) (suc d)) c) no_end
    | inr c ↦ (d, ap (λ (x : Bool). cond x (suc d + 1) (cond (is_only 125 t) (suc d - 1) (suc d))) o ∙ ap (λ (x : Bool). cond x (suc d - 1) (suc d)) c)
  ]
]
  where
    closing : (d : ℕ) → is_only 125 t ≡ true → depth_behind (suc d) t ≡ suc d - 1 → token_ends (suc d) t ≡ false → (e : ℕ) × (depth_behind (suc d) t ≡ suc e)
    closing zero c e no_end = absurd
        (let i = only-is 125 t c in
        let yes : token_ends 1 t ≡ true = ap (token_ends 1) i in
        true≢false (sym yes ∙ no_end))
    closing (suc d) c e no_end = let k : suc (suc d) - 1 ≡ suc d = omega arith in (d, e ∙ k)

no-open-deep : (g : Stage) (d : ℕ) (t : List ℕ) → opens g (suc d) t ≡ false
no-open-deep g d t = and_right (is_only 123 t) _ (and_right (settled g) _ (ne_eqb (suc d) 0 (λ e. omega arith)))

ends-deep : (g : Stage) (prev d : ℕ) (ts : List Token) → ends_in g prev (suc d) ts ≡ ended (statement_end (suc d) ts)
ends-deep g prev d [] = refl
ends-deep g prev d (t ∷ ts) =
    let h = before_token g prev t in
    ap (λ (x : Bool). cond x (Some (found t.end true)) (cond (token_ends (suc d) t.text) (Some (found t.end false)) (ends_in (behind_token h t.text) t.end (depth_behind (suc d) t.text) ts))) (no-open-deep h d t.text)
    ∙ by (λ g d. ends-deep g t.end d ts) (token_ends (suc d) t.text) refl
  where
    by : ((g : Stage) (d : ℕ) → ends_in g t.end (suc d) ts ≡ ended (statement_end (suc d) ts)) → (b : Bool) → token_ends (suc d) t.text ≡ b
        → cond b (Some (found t.end false)) (ends_in (behind_token (before_token g prev t) t.text) t.end (depth_behind (suc d) t.text) ts) ≡ ended (cond b (Some t.end) (statement_end (depth_behind (suc d) t.text) ts))
    by more true e = refl
    by more false e =
        let k = deeper d t.text e in
        let g = behind_token (before_token g prev t) t.text in
        ap (λ (i : ℕ). ends_in g t.end i ts) k.1 ∙ more g k.0 ∙ sym (ap (λ (i : ℕ). ended (statement_end i ts)) k.1)

-- outside a block: a Pattern opens at the first brace, and any other statement ends
abbrev pub top_end : Bool → List Token → Option Found
top_end is ts = opened_or (cond is (brace_end ts) None) (ended (statement_end 0 ts))

depth-top : (t : List ℕ) → is_only 123 t ≡ false → depth_behind 0 t ≡ 0
depth-top t o = ap (λ (x : Bool). cond x (0 + 1) (cond (is_only 125 t) (0 - 1) 0)) o ∙ by (is_only 125 t)
  where
    by : (c : Bool) → cond c (0 - 1) 0 ≡ 0
    by true = refl
    by false = refl

-- from a token on
abbrev scan_from : Stage → List ℕ → ℕ → List Token → Option Found
scan_from h w e ts = cond (opens h 0 w) (Some (found e true)) (cond (token_ends 0 w) (Some (found e false)) (ends_in (behind_token h w) e (depth_behind 0 w) ts))

abbrev brace_from : List ℕ → ℕ → List Token → Option ℕ
brace_from w e ts = cond (is_only 123 w) (Some e) (cond (token_ends 0 w) None (brace_end ts))

abbrev end_from : List ℕ → ℕ → List Token → Option ℕ
end_from w e ts = cond (token_ends 0 w) (Some e) (statement_end (depth_behind 0 w) ts)

abbrev top_from : Stage → List ℕ → ℕ → List Token → Option Found
top_from h w e ts = opened_or (cond (word_in (behind_token h w) e ts) (brace_from w e ts) None) (ended (end_from w e ts))

at-brace : (s : Bool) (e : ℕ) (ts : List Token) → cond (s && true) (Some (found e true)) (ends_in (Sure s) e 1 ts) ≡ opened_or (cond (word_in (Sure s) e ts) (Some e) None) (ended (statement_end 1 ts))
at-brace true e ts = sym (ap (λ (b : Bool). opened_or (cond b (Some e) None) (ended (statement_end 1 ts))) (word-sure true e ts))
at-brace false e ts = ends-deep (Sure false) e 0 ts ∙ sym (ap (λ (b : Bool). opened_or (cond b (Some e) None) (ended (statement_end 1 ts))) (word-sure false e ts))

braced : (h : Stage) (w : List ℕ) (e : ℕ) (ts : List Token) → w ≡ 123 ∷ [] → scan_from h w e ts ≡ top_from h w e ts
braced h w e ts is = subst (λ (x : List ℕ). scan_from h x e ts ≡ top_from h x e ts) (sym is) (at-brace (settled h) e ts)

none-or : (p : Bool) (end : Option Found) → end ≡ opened_or (cond p None None) end
none-or true end = refl
none-or false end = refl

other : (h : Stage) (w : List ℕ) (e : ℕ) (ts : List Token) → is_only 123 w ≡ false → ends_in (behind_token h w) e 0 ts ≡ top_end (word_in (behind_token h w) e ts) ts → scan_from h w e ts ≡ top_from h w e ts
other h w e ts o more =
    let g = behind_token h w in
    let depth = depth-top w o in
    ap (λ (x : Bool). cond (x && (settled h && true)) (Some (found e true)) (cond (token_ends 0 w) (Some (found e false)) (ends_in g e (depth_behind 0 w) ts))) o
    ∙ ap (λ (i : ℕ). cond (token_ends 0 w) (Some (found e false)) (ends_in g e i ts)) depth
    ∙ by (token_ends 0 w)
    ∙ sym (ap (λ (i : ℕ). opened_or (cond (word_in g e ts) (cond false (Some e) (cond (token_ends 0 w) None (brace_end ts))) None) (ended (cond (token_ends 0 w) (Some e) (statement_end i ts)))) depth)
    ∙ sym (ap (λ (x : Bool). opened_or (cond (word_in g e ts) (cond x (Some e) (cond (token_ends 0 w) None (brace_end ts))) None) (ended (end_from w e ts))) o)
  where
    by : (b : Bool) → cond b (Some (found e false)) (ends_in (behind_token h w) e 0 ts)
        ≡ opened_or (cond (word_in (behind_token h w) e ts) (cond b None (brace_end ts)) None) (ended (cond b (Some e) (statement_end 0 ts)))
    by true = none-or (word_in (behind_token h w) e ts) (Some (found e false))
    by false = more

pub ends-top : (g : Stage) (prev : ℕ) (ts : List Token) → ends_in g prev 0 ts ≡ top_end (word_in g prev ts) ts
ends-top g prev [] = by (word_in g prev [])
  where
    by : (b : Bool) → None ≡ opened_or (cond b None None) None
    by true = refl
    by false = refl
ends-top g prev (t ∷ ts) = elim (cases_Bool (is_only 123 t.text)) [
  | inl o ↦ braced (before_token g prev t) t.text t.end ts (only-is 123 t.text o)
  | inr o ↦ other (before_token g prev t) t.text t.end ts o (ends-top (behind_token (before_token g prev t) t.text) t.end ts)
]
