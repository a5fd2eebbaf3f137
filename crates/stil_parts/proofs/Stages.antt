-- What is known of a statement's word behind some of its tokens.
use Rattle.std.specs.Prelude.{codes, slice_index}
use Rattle.std.proofs.Common.{◌≡◌, ℕ, ◌+◌, ◌≤◌, Bool, true, false, cond, eqb, ◌&&◌, List, [], ◌∷◌, drop, refl, sym, ap, ◌∙◌, arith, inl, inr}
use Rattle.std.specs.Str.{bytes_eq}
use Rattle.std.specs.Prelude.{nat_lt}
use Rattle.std.proofs.lemmas.Bool.{cases_Bool, cases_lt, lt-ltb, ne_eqb}
use Rattle.std.proofs.lemmas.List.{drop_more}
use Rattle.stil_tokens.specs.StilStatements.{is_only}
use Rattle.stil_parts.specs.declared.word.Word.{Word}
use Rattle.stil_parts.specs.declared.word.Word.TheVariants.{Start, Letters, Run, Text, Joined, After, Known}
use Rattle.stil_parts.specs.Words.{word_byte, word_ends, word_settled, word_text, word_colon}
use Rattle.stil_parts.specs.ByTokens.{is_bare, is_string}

-- a label or the word may begin; a text in " came last, to which a run may belong; a name came last, which is Pattern or not;
-- or the word is known
pub data Stage : Type 0 where
  Begin : Stage
  String : Stage
  Named : Bool → Stage
  Sure : Bool → Stage

-- as a scan has it
abbrev pub word_for : Stage → Word
word_for Begin = Start
word_for String = Text
word_for (Named is) = After is
word_for (Sure is) = Known is

-- whether the word is Pattern where no colon follows
abbrev pub settled : Stage → Bool
settled Begin = false
settled String = false
settled (Named is) = is
settled (Sure is) = is

abbrev pub behind_blank : Stage → Stage
behind_blank Begin = Begin
behind_blank String = Named false
behind_blank (Named is) = Named is
behind_blank (Sure is) = Sure is

abbrev pub behind_run : Bool → Stage → Stage
behind_run same Begin = Named same
behind_run same String = Named false
behind_run same (Named is) = Sure is
behind_run same (Sure is) = Sure is

abbrev pub behind_string : Stage → Stage
behind_string Begin = String
behind_string String = Sure false
behind_string (Named is) = Sure is
behind_string (Sure is) = Sure is

abbrev pub behind_colon : Stage → Stage
behind_colon Begin = Sure false
behind_colon String = Begin
behind_colon (Named is) = Begin
behind_colon (Sure is) = Sure is

-- behind a token of these bytes
abbrev pub behind_token : Stage → List ℕ → Stage
behind_token g t = cond (is_bare t) (behind_run (bytes_eq t (codes "Pattern")) g) (cond (is_string t) (behind_string g) (cond (is_only 58 t) (behind_colon g) (Sure (settled g))))

pub blank-blank : (g : Stage) → behind_blank (behind_blank g) ≡ behind_blank g
blank-blank Begin = refl
blank-blank String = refl
blank-blank (Named is) = refl
blank-blank (Sure is) = refl

pub settled-blank : (g : Stage) → settled g ≡ settled (behind_blank g)
settled-blank Begin = refl
settled-blank String = refl
settled-blank (Named is) = refl
settled-blank (Sure is) = refl

pub word-blank : (g : Stage) → word_ends (word_for g) ≡ word_for (behind_blank g)
word-blank Begin = refl
word-blank String = refl
word-blank (Named is) = refl
word-blank (Sure is) = refl

pub word-settled : (g : Stage) → word_settled (word_for g) ≡ Known (settled g)
word-settled Begin = refl
word-settled String = refl
word-settled (Named is) = refl
word-settled (Sure is) = refl

pub word-string : (g : Stage) → word_text (word_for g) ≡ word_for (behind_string g)
word-string Begin = refl
word-string String = refl
word-string (Named is) = refl
word-string (Sure is) = refl

pub word-colon : (g : Stage) → word_colon (word_for g) ≡ word_for (behind_colon g)
word-colon Begin = refl
word-colon String = refl
word-colon (Named is) = refl
word-colon (Sure is) = refl

-- what the bytes of a run make of a word
abbrev pub spell : Word → List ℕ → Word
spell w [] = w
spell w (b ∷ bs) = spell (word_byte b w) bs

spell-run : (x : List ℕ) → spell Run x ≡ Run
spell-run [] = refl
spell-run (b ∷ bs) = spell-run bs

spell-joined : (x : List ℕ) → spell Joined x ≡ Joined
spell-joined [] = refl
spell-joined (b ∷ bs) = spell-joined bs

spell-known : (is : Bool) (x : List ℕ) → spell (Known is) x ≡ Known is
spell-known is [] = refl
spell-known is (b ∷ bs) = spell-known is bs

-- letters of Pattern, from the k-th on
seven : (k : ℕ) → k ≤ 7 → 7 ≤ k → k ≡ 7
seven k le ge = omega arith

letters-nil : (k : ℕ) → k ≤ 7 → word_ends (Letters k) ≡ After (bytes_eq [] (drop k (codes "Pattern")))
letters-nil k le = elim (cases_lt k 7) [
  | inl lt ↦ (
      let other : eqb k 7 ≡ false = ne_eqb k 7 (λ e. omega arith) in
      let cut = drop_more (codes "Pattern") k 0 lt in
      ap (λ (b : Bool). After b) (other ∙ sym (ap (bytes_eq []) cut)))
  | inr ge ↦ (let e = seven k le ge in rw e refl)
]

pub letters : (k : ℕ) (x : List ℕ) → k ≤ 7 → word_ends (spell (Letters k) x) ≡ After (bytes_eq x (drop k (codes "Pattern")))
letters k [] le = letters-nil k le
letters k (b ∷ bs) le = elim (cases_lt k 7) [
  | inl lt ↦ (
      let cut = drop_more (codes "Pattern") k 0 lt in
      let under : nat_lt k 7 ≡ true = lt-ltb k 7 lt in
      let here = slice_index (codes "Pattern") k in
      let heads : bytes_eq (b ∷ bs) (drop k (codes "Pattern")) ≡ (eqb b here && bytes_eq bs (drop (k + 1) (codes "Pattern"))) = ap (bytes_eq (b ∷ bs)) cut in
      let moves : word_byte b (Letters k) ≡ cond (eqb b here) (Letters (k + 1)) Run = ap (λ (t : Bool). cond (t && eqb b here) (Letters (k + 1)) Run) under in
      let more : word_ends (spell (Letters (k + 1)) bs) ≡ After (bytes_eq bs (drop (k + 1) (codes "Pattern"))) = letters (k + 1) bs (omega arith) in
      elim (cases_Bool (eqb b here)) [
        | inl e ↦ ap (λ (w : Word). word_ends (spell w bs)) (moves ∙ ap (λ (t : Bool). cond t (Letters (k + 1)) Run) e) ∙ more
            ∙ sym (ap (λ (t : Bool). After t) (heads ∙ ap (λ (t : Bool). t && bytes_eq bs (drop (k + 1) (codes "Pattern"))) e))
        | inr e ↦ ap (λ (w : Word). word_ends (spell w bs)) (moves ∙ ap (λ (t : Bool). cond t (Letters (k + 1)) Run) e) ∙ ap word_ends (spell-run bs)
            ∙ sym (ap (λ (t : Bool). After t) (heads ∙ ap (λ (t : Bool). t && bytes_eq bs (drop (k + 1) (codes "Pattern"))) e))
      ])
  | inr ge ↦ (
      let e = seven k le ge in
      let run : word_byte b (Letters 7) ≡ Run = refl in
      let seventh : word_ends (spell (Letters 7) (b ∷ bs)) ≡ After (bytes_eq (b ∷ bs) (drop 7 (codes "Pattern"))) = ap (λ (w : Word). word_ends (spell w bs)) run ∙ ap word_ends (spell-run bs) in
      rw e seventh)
]

first-letter : (b : ℕ) (x : List ℕ) → word_ends (spell (word_byte b Start) x) ≡ After (bytes_eq (b ∷ x) (codes "Pattern"))
first-letter b x =
    let more = letters 1 x (omega arith) in
    elim (cases_Bool (eqb b 80)) [
      | inl e ↦ ap (λ (t : Bool). word_ends (spell (cond t (Letters 1) Run) x)) e ∙ more ∙ sym (ap (λ (t : Bool). After (t && bytes_eq x (drop 1 (codes "Pattern")))) e)
      | inr e ↦ ap (λ (t : Bool). word_ends (spell (cond t (Letters 1) Run) x)) e ∙ ap word_ends (spell-run x) ∙ sym (ap (λ (t : Bool). After (t && bytes_eq x (drop 1 (codes "Pattern")))) e)
    ]

-- a whole run
pub word-run : (g : Stage) (b : ℕ) (x : List ℕ) → word_ends (spell (word_byte b (word_for g)) x) ≡ word_for (behind_run (bytes_eq (b ∷ x) (codes "Pattern")) g)
word-run Begin b x = first-letter b x
word-run String b x = ap word_ends (spell-joined x)
word-run (Named is) b x = ap word_ends (spell-known is x)
word-run (Sure is) b x = ap word_ends (spell-known is x)
