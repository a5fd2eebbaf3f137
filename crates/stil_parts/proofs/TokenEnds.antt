-- A scan takes the pieces of a text as they are: it ends the statement where its tokens do, finds the brace that opens a Pattern
-- where that is a token, and has the word by the tokens so far.
use Rattle.std.specs.Prelude.{codes}
use Rattle.std.proofs.Common.{◌≡◌, ℕ, suc, ◌+◌, ◌-◌, Bool, true, false, cond, eqb, not, ◌&&◌, ◌||◌, List, [], ◌∷◌, drop, take, Option, Some, None, refl, sym, ap, subst, ◌∙◌, arith, inl, inr}
use Rattle.std.specs.Str.{bytes_eq}
use Rattle.std.specs.List.{prefix_len}
use Rattle.std.proofs.lemmas.Bool.{cases_Bool, cond_both, eqb-true, or_cases, or_parts, or_left, not-true, not-false, true≢false, false≢true}
use Rattle.token_forms.specs.declared.piece.Piece.{Piece}
use Rattle.token_forms.specs.declared.piece.Piece.TheVariants.{Blank, Token as token}
use Rattle.stil_parts.specs.declared.word.Word.{Word}
use Rattle.stil_parts.specs.declared.word.Word.TheVariants.{Start, Letters, Text, Joined, Known}
use Rattle.stil_parts.specs.declared.word.Word.TheVariants as words
use Rattle.stil_parts.specs.Words.{word_byte, word_ends, word_settled, word_text, word_colon, quote_word, mark_word, word_shown}
use Rattle.stil_parts.specs.declared.scan.Mode.{Mode}
use Rattle.stil_parts.specs.declared.scan.Mode.TheVariants.{Free, Run, Slash, Quoted, Line, Block, Brace, Note}
use Rattle.stil_parts.specs.declared.scan.Scan.{Scan}
use Rattle.stil_parts.specs.declared.scan.After.TheVariants.{Ends, Opens}
use Rattle.stil_parts.specs.declared.scan.Found.{Found}
use Rattle.stil_tokens.specs.StilTokens.{is_blank, is_quote, other_mark}
use Rattle.stil_parts.specs.Scanner.{goes, mark_step, run_step, free_step, mode_step, step, found, later, end_of}
use Rattle.stil_tokens.specs.StilTokens.{is_mark, is_run, quoted_len, closed_len, has_close, line_len, brace_piece, slash_piece, piece_at}
use Rattle.stil_tokens.specs.StilStatements.{is_only, token_ends, depth_behind}
use Rattle.stil_parts.specs.Heads.{word_of}
use Rattle.stil_parts.specs.ByTokens.{is_string}
use Rattle.stil_parts.proofs.Scans.{later-later}
use Rattle.stil_parts.proofs.Ends.{end_goes, end_ends, end_opens}
use Rattle.stil_parts.proofs.Comes.{at, word_known, word_goes, word_ended, end_nil, Comes, comes_one, comes_more, comes_none, same_step, comes_same, comes_as}
use Rattle.stil_parts.proofs.Stages.{Stage, Begin, String, Named, Sure, word_for, settled, behind_blank, behind_run, behind_string, behind_colon, behind_token, word-blank, word-settled, word-string, word-colon, spell, word-run}

-- what ends a token ends it once
ends-twice : (w : Word) → word_ends (word_ends w) ≡ word_ends w
ends-twice Start = refl
ends-twice (Letters k) = refl
ends-twice words.Run = refl
ends-twice Text = refl
ends-twice Joined = refl
ends-twice (words.After is) = refl
ends-twice (Known is) = refl

settled-ends : (w : Word) → word_settled (word_ends w) ≡ word_settled w
settled-ends Start = refl
settled-ends (Letters k) = refl
settled-ends words.Run = refl
settled-ends Text = refl
settled-ends Joined = refl
settled-ends (words.After is) = refl
settled-ends (Known is) = refl

colon-ends : (w : Word) → word_colon (word_ends w) ≡ word_colon w
colon-ends Start = refl
colon-ends (Letters k) = refl
colon-ends words.Run = refl
colon-ends Text = refl
colon-ends Joined = refl
colon-ends (words.After is) = refl
colon-ends (Known is) = refl

text-ends : (w : Word) → word_text (word_ends w) ≡ word_text w
text-ends Start = refl
text-ends (Letters k) = refl
text-ends words.Run = refl
text-ends Text = refl
text-ends Joined = refl
text-ends (words.After is) = refl
text-ends (Known is) = refl

shown-ends : (w : Word) → word_shown true w ≡ word_shown true (word_ends w)
shown-ends Start = refl
shown-ends (Letters k) = refl
shown-ends words.Run = refl
shown-ends Text = refl
shown-ends Joined = refl
shown-ends (words.After is) = refl
shown-ends (Known is) = refl

cond-as : {A : Type 0} (t : Bool) (p q u v : A) → p ≡ u → q ≡ v → cond t p q ≡ cond t u v
cond-as true p q u v e f = e
cond-as false p q u v e f = f

quote-ends : (b : ℕ) (w : Word) → quote_word b w ≡ quote_word b (word_ends w)
quote-ends b w = cond-as (eqb b 34) _ _ _ _ (sym (text-ends w)) (sym (settled-ends w))

-- in a text, a comment or a run
step-quoted-end : (q d b : ℕ) (w : Word) → eqb b q ≡ true → goes Free d w ≡ step (at (Quoted q) d w) b
unfolding step mode_step
step-quoted-end q d b w e = rw e refl

step-quoted-more : (q d b : ℕ) (w : Word) → eqb b q ≡ false → goes (Quoted q) d w ≡ step (at (Quoted q) d w) b
unfolding step mode_step
step-quoted-more q d b w e = rw e refl

step-line-more : (d b : ℕ) (w : Word) → eqb b 10 ≡ false → goes Line d w ≡ step (at Line d w) b
unfolding step mode_step
step-line-more d b w e = rw e refl

step-block-end : (d b : ℕ) (star : Bool) (w : Word) → (star && eqb b 47) ≡ true → goes Free d w ≡ step (at (Block star) d w) b
unfolding step mode_step
step-block-end d b star w e = rw e refl

step-block-more : (d b : ℕ) (star : Bool) (w : Word) → (star && eqb b 47) ≡ false → goes (Block (eqb b 42)) d w ≡ step (at (Block star) d w) b
unfolding step mode_step
step-block-more d b star w e = rw e refl

step-note-more : (d b : ℕ) (star : Bool) (w : Word) → (star && eqb b 125) ≡ false → goes (Note (eqb b 42)) d w ≡ step (at (Note star) d w) b
unfolding step mode_step
step-note-more d b star w e = rw e refl

-- what is known of a byte of a run
pub record IsDull (b : ℕ) : Type 0 where
  pub blank : is_blank b ≡ false
  pub quote : is_quote b ≡ false
  pub opening : eqb b 123 ≡ false
  pub closing : eqb b 125 ≡ false
  pub semicolon : eqb b 59 ≡ false
  pub other : other_mark b ≡ false

pub dull : (b : ℕ) → is_run b ≡ true → IsDull b
dull b r =
    let n = not-true (is_blank b || (is_quote b || is_mark b)) r in
    let p = or_parts (is_blank b) (is_quote b || is_mark b) n in
    let q = or_parts (is_quote b) (is_mark b) p.1 in
    let s = or_parts (eqb b 123) (eqb b 125 || (eqb b 59 || other_mark b)) q.1 in
    let t = or_parts (eqb b 125) (eqb b 59 || other_mark b) s.1 in
    let u = or_parts (eqb b 59) (other_mark b) t.1 in
    record { blank = p.0; quote = q.0; opening = s.0; closing = t.0; semicolon = u.0; other = u.1 }

dull-step : (d b : ℕ) (w : Word) → IsDull b → goes Run d (word_byte b w) ≡ run_step w d b
unfolding run_step mark_step
dull-step d b w i = rw (i.blank, i.quote, i.semicolon, i.closing, i.opening, i.other) refl

step-run-more : (d b : ℕ) (w : Word) → is_run b ≡ true → goes Run d (word_byte b w) ≡ step (at Run d w) b
unfolding step mode_step
step-run-more d b w r = dull-step d b w (dull b r)

-- a byte that no run has is taken as behind the run's end
is-mark : (b : ℕ) → is_run b ≡ false → is_blank b ≡ false → is_quote b ≡ false → is_mark b ≡ true
is-mark b r blank quote = elim (cases_Bool (is_mark b)) [
  | inl e ↦ e
  | inr e ↦ absurd (let k : is_run b ≡ true = rw (blank, quote, e) refl in true≢false (sym k ∙ r))
]

module _ (d : ℕ) (w : Word) where
  mark-ends : (b : ℕ) → is_mark b ≡ true → mark_step w d b ≡ mark_step (word_ends w) d b
  unfolding mark_step
  mark-ends b m = elim (or_cases (eqb b 123) (eqb b 125 || (eqb b 59 || other_mark b)) m) [
    | inl e ↦ (let i = eqb-true b 123 e in rw i (ap (goes Brace d) same))
    | inr f ↦ elim (or_cases (eqb b 125) (eqb b 59 || other_mark b) f) [
      | inl e ↦ (let i = eqb-true b 125 e in rw i (cond-as (eqb d 1) _ _ _ _ refl (ap (goes Free (d - 1)) same)))
      | inr g ↦ elim (or_cases (eqb b 59) (other_mark b) g) [
        | inl e ↦ (let i = eqb-true b 59 e in rw i (cond-as (eqb d 0) _ _ _ _ refl (ap (goes Free d) same)))
        | inr h ↦ elim (or_cases (eqb b 61 || eqb b 58) (eqb b 33) h) [
          | inl k ↦ elim (or_cases (eqb b 61) (eqb b 58) k) [
            | inl e ↦ (let i = eqb-true b 61 e in rw i (ap (goes Free d) same))
            | inr e ↦ (let i = eqb-true b 58 e in rw i (ap (goes Free d) (sym (colon-ends w))))
          ]
          | inr e ↦ (let i = eqb-true b 33 e in rw i (ap (goes Free d) same))
        ]
      ]
    ]
  ]
    where
      same : word_settled w ≡ word_settled (word_ends w)
      same = sym (settled-ends w)

  run-ends : (b : ℕ) → is_run b ≡ false → run_step w d b ≡ run_step (word_ends w) d b
  unfolding run_step
  run-ends b r = elim (cases_Bool (is_blank b)) [
    | inl e ↦ (rw e (ap (goes Free d) (sym (ends-twice w))))
    | inr e ↦ elim (cases_Bool (is_quote b)) [
      | inl f ↦ (rw (e, f) (ap (goes (Quoted b) d) (quote-ends b w)))
      | inr f ↦ (rw (e, f) (mark-ends b (is-mark b r e f)))
    ]
  ]

  step-run-end : (b : ℕ) → is_run b ≡ false → step (at Run d w) b ≡ step (at Free d (word_ends w)) b
  unfolding step mode_step free_step
  step-run-end b r = elim (cases_Bool (eqb b 47)) [
    | inl e ↦ absurd (let q = rw (eqb-true b 47 e) at r in true≢false q)
    | inr e ↦ rw e (run-ends b r)
  ]

step-line-feed : (d b : ℕ) (w : Word) → word_ends w ≡ w → eqb b 10 ≡ true → step (at Line d w) b ≡ step (at Free d w) b
unfolding step mode_step free_step run_step
step-line-feed d b w same e = let i = eqb-true b 10 e in rw i (ap (goes Free d) (sym same))

-- each comes to where a token may begin
module _ (d : ℕ) where
  quoted-on : (q : ℕ) (w : Word) (bs : List ℕ) → Comes (at (Quoted q) d w) bs (quoted_len q bs) (at Free d w)
  quoted-on q w [] = comes_none _ _ 0 refl refl refl
  quoted-on q w (b ∷ bs) = cond_both (eqb b q) 1 (1 + quoted_len q bs) (λ n. Comes (at (Quoted q) d w) (b ∷ bs) n (at Free d w))
      (λ e. comes_one _ _ b bs (step-quoted-end q d b w e))
      (λ e. comes_more _ (at (Quoted q) d w) _ b (quoted_len q bs) bs (step-quoted-more q d b w e) (quoted-on q w bs))

  line-on : (w : Word) → word_ends w ≡ w → (bs : List ℕ) → Comes (at Line d w) bs (line_len bs) (at Free d w)
  line-on w same [] = comes_none _ _ 0 refl refl refl
  line-on w same (b ∷ bs) = cond_both (not (eqb b 10)) (1 + line_len bs) 0 (λ n. Comes (at Line d w) (b ∷ bs) n (at Free d w))
      (λ e. comes_more _ (at Line d w) _ b (line_len bs) bs (step-line-more d b w (not-true (eqb b 10) e)) (line-on w same bs))
      (λ e. comes_same _ _ b bs (step-line-feed d b w same (not-false (eqb b 10) e)) refl)

  block-on : (star : Bool) (w : Word) (bs : List ℕ) → Comes (at (Block star) d w) bs (closed_len 47 star bs) (at Free d w)
  block-on star w [] = comes_none _ _ 0 refl refl refl
  block-on star w (b ∷ bs) = cond_both (star && eqb b 47) 1 (1 + closed_len 47 (eqb b 42) bs) (λ n. Comes (at (Block star) d w) (b ∷ bs) n (at Free d w))
      (λ e. comes_one _ _ b bs (step-block-end d b star w e))
      (λ e. comes_more _ (at (Block (eqb b 42)) d w) _ b (closed_len 47 (eqb b 42) bs) bs (step-block-more d b star w e) (block-on (eqb b 42) w bs))

  run-on : (w : Word) (bs : List ℕ) → Comes (at Run d w) bs (prefix_len is_run bs) (at Free d (word_ends (spell w (take (prefix_len is_run bs) bs))))
  run-on w [] = comes_none _ _ 0 refl refl (shown-ends w)
  run-on w (b ∷ bs) = cond_both (is_run b) (1 + prefix_len is_run bs) 0 (λ n. Comes (at Run d w) (b ∷ bs) n (at Free d (word_ends (spell w (take n (b ∷ bs))))))
      (λ e. let k : suc (prefix_len is_run bs) ≡ 1 + prefix_len is_run bs = omega arith in
      subst (λ (n : ℕ). Comes (at Run d w) (b ∷ bs) (1 + prefix_len is_run bs) (at Free d (word_ends (spell w (take n (b ∷ bs)))))) k
      (comes_more _ (at Run d (word_byte b w)) _ b (prefix_len is_run bs) bs (step-run-more d b w e) (run-on (word_byte b w) bs)))
      (λ e. comes_same _ _ b bs (step-run-end d w b e) (sym (settled-ends w)))

-- the end of an annotation, and whether it ends the statement
abbrev note_end : ℕ → Word → ℕ → Bool → List ℕ → Option Found
note_end d w n closed x = cond (closed && eqb d 0) (Some (found n false)) (later n (end_of true (at Free d w) (drop n x)))

module _ (d : ℕ) (w : Word) where
  step-note-ends : (b : ℕ) (star : Bool) → (star && eqb b 125) ≡ true → eqb d 0 ≡ true → Ends ≡ step (at (Note star) d w) b
  unfolding step mode_step
  step-note-ends b star e z = rw (e, z) refl

  step-note-goes : (b : ℕ) (star : Bool) → (star && eqb b 125) ≡ true → eqb d 0 ≡ false → goes Free d w ≡ step (at (Note star) d w) b
  unfolding step mode_step
  step-note-goes b star e z = rw (e, z) refl

  note-more : (n b : ℕ) (closed : Bool) (bs : List ℕ) → later 1 (note_end d w n closed bs) ≡ note_end d w (1 + n) closed (b ∷ bs)
  note-more n b closed bs =
      let s : suc n ≡ 1 + n = omega arith in
      elim (cases_Bool (closed && eqb d 0)) [
        | inl e ↦ (rw e refl)
        | inr e ↦ (rw e (later-later 1 n _ ∙ ap (λ (i : ℕ). later (1 + n) (end_of true (at Free d w) (drop i (b ∷ bs)))) s))
      ]

  note-here : (b : ℕ) (star : Bool) (bs : List ℕ) → (star && eqb b 125) ≡ true → end_of true (at (Note star) d w) (b ∷ bs) ≡ note_end d w 1 true (b ∷ bs)
  note-here b star bs e = elim (cases_Bool (eqb d 0)) [
    | inl z ↦ rw z (end_ends true (at (Note star) d w) b bs (step-note-ends b star e z))
    | inr z ↦ rw z (end_goes true (at (Note star) d w) b bs (at Free d w) (step-note-goes b star e z))
  ]

  note-nothing : (star : Bool) → end_of true (at (Note star) d w) [] ≡ note_end d w 0 false []
  note-nothing star = end_nil (at (Note star) d w) refl ∙ sym (ap (later 0) (end_nil (at Free d w) refl))

  note-on : (star : Bool) (bs : List ℕ) → end_of true (at (Note star) d w) bs ≡ note_end d w (closed_len 125 star bs) (has_close 125 star bs) bs
  note-on star [] = note-nothing star
  note-on star (b ∷ bs) = elim (cases_Bool (star && eqb b 125)) [
    | inl e ↦ rw e (note-here b star bs e)
    | inr e ↦ rw e (end_goes true (at (Note star) d w) b bs (at (Note (eqb b 42)) d w) (step-note-more d b star w e) ∙ ap (later 1) (note-on (eqb b 42) bs)
        ∙ note-more (closed_len 125 (eqb b 42) bs) b (has_close 125 (eqb b 42) bs) bs)
  ]

-- an annotation is closed where its bytes are
closed-taken : (closing : ℕ) (star : Bool) (bs : List ℕ) → has_close closing star (take (closed_len closing star bs) bs) ≡ has_close closing star bs
closed-taken closing star [] = refl
closed-taken closing star (b ∷ bs) = elim (cases_Bool (star && eqb b closing)) [
  | inl e ↦ (
      let one : closed_len closing star (b ∷ bs) ≡ 1 = rw e refl in
      ap (λ (n : ℕ). has_close closing star (take n (b ∷ bs))) one
      ∙ or_left (star && eqb b closing) (has_close closing (eqb b 42) []) e ∙ sym (or_left (star && eqb b closing) (has_close closing (eqb b 42) bs) e))
  | inr e ↦ (
      let m = closed_len closing (eqb b 42) bs in
      let s : 1 + m ≡ suc m = omega arith in
      let len : closed_len closing star (b ∷ bs) ≡ suc m = (rw e refl) ∙ s in
      ap (λ (n : ℕ). has_close closing star (take n (b ∷ bs))) len ∙ ap (λ (c : Bool). (star && eqb b closing) || c) (closed-taken closing (eqb b 42) bs))
]

-- a token opens a Pattern: it is a brace outside a block, where the word is Pattern
abbrev pub opens : Stage → ℕ → List ℕ → Bool
opens g d t = is_only 123 t && (settled g && eqb d 0)

-- where the statement ends, or a Pattern opens, from a token at the front on, or else behind it
abbrev pub token_end : ℕ → Stage → ℕ → List ℕ → List ℕ → Option Found
token_end d g n t x =
    cond (opens g d t) (Some (found n true))
    (cond (token_ends d t) (Some (found n false)) (later n (end_of true (at Free (depth_behind d t) (word_for (behind_token g t))) (drop n x))))

-- the same from the piece at the front on
abbrev pub piece_end : ℕ → Stage → Piece → List ℕ → Option Found
piece_end d g (Blank n) x = later n (end_of true (at Free d (word_for (behind_blank g))) (drop n x))
piece_end d g (token n) x = token_end d g n (take n x) x

-- the word by what stands behind the piece
abbrev pub piece_word : ℕ → Stage → Piece → List ℕ → Option Bool
piece_word d g (Blank n) x = word_of true (at Free d (word_for (behind_blank g))) (drop n x)
piece_word d g (token n) x = word_of true (at Free (depth_behind d (take n x)) (word_for (behind_token g (take n x)))) (drop n x)

pub record IsThrough (d : ℕ) (g : Stage) (x : List ℕ) (p : Piece) : Type 0 where
  pub ends : end_of true (at Free d (word_for g)) x ≡ piece_end d g p x
  pub word : word_of true (at Free d (word_for g)) x ≡ piece_word d g p x

-- a token that begins with none of ; } { ends nothing and opens nothing
pub only-other : (m b : ℕ) (rest : List ℕ) → eqb b m ≡ false → is_only m (b ∷ rest) ≡ false
only-other m b [] e = e
only-other m b (c ∷ rest) e = refl

calm : (d b : ℕ) (rest : List ℕ) → eqb b 59 ≡ false → eqb b 125 ≡ false → eqb b 123 ≡ false → token_ends d (b ∷ rest) ≡ false
calm d b rest s c o = rw (only-other 59 b rest s, only-other 125 b rest c, o) refl

calm-depth : (d b : ℕ) (rest : List ℕ) → eqb b 125 ≡ false → eqb b 123 ≡ false → depth_behind d (b ∷ rest) ≡ d
calm-depth d b rest c o = rw (only-other 123 b rest o, only-other 125 b rest c) refl

record IsNoBrace (b : ℕ) : Type 0 where
  semicolon : eqb b 59 ≡ false
  closing : eqb b 125 ≡ false
  opening : eqb b 123 ≡ false

quote-no-brace : (b : ℕ) → is_quote b ≡ true → IsNoBrace b
quote-no-brace b e = elim (or_cases (eqb b 34) (eqb b 39) e) [
  | inl k ↦ (let i = eqb-true b 34 k in record { semicolon = rw i refl; closing = rw i refl; opening = rw i refl })
  | inr k ↦ (let i = eqb-true b 39 k in record { semicolon = rw i refl; closing = rw i refl; opening = rw i refl })
]

other-no-brace : (b : ℕ) → other_mark b ≡ true → IsNoBrace b
other-no-brace b e = elim (or_cases (eqb b 61 || eqb b 58) (eqb b 33) e) [
  | inl f ↦ elim (or_cases (eqb b 61) (eqb b 58) f) [
    | inl k ↦ (let i = eqb-true b 61 k in record { semicolon = rw i refl; closing = rw i refl; opening = rw i refl })
    | inr k ↦ (let i = eqb-true b 58 k in record { semicolon = rw i refl; closing = rw i refl; opening = rw i refl })
  ]
  | inr k ↦ (let i = eqb-true b 33 k in record { semicolon = rw i refl; closing = rw i refl; opening = rw i refl })
]

-- what a token makes of the word, by its first byte
quote-word : (g : Stage) (b : ℕ) (rest : List ℕ) → is_quote b ≡ true → quote_word b (word_for g) ≡ word_for (behind_token g (b ∷ rest))
quote-word g b rest e = elim (or_cases (eqb b 34) (eqb b 39) e) [
  | inl k ↦ (let i = eqb-true b 34 k in rw i (word-string g))
  | inr k ↦ subst (λ (x : ℕ). quote_word x (word_for g) ≡ word_for (behind_token g (x ∷ rest))) (sym (eqb-true b 39 k))
      (word-settled g ∙ sym (ap (λ (t : Bool). word_for (cond t (behind_colon g) (Sure (settled g)))) (only-other 58 39 rest refl)))
]

other-word : (g : Stage) (b : ℕ) → other_mark b ≡ true → mark_word b (word_for g) ≡ word_for (behind_token g (b ∷ []))
other-word g b e = elim (or_cases (eqb b 61 || eqb b 58) (eqb b 33) e) [
  | inl f ↦ elim (or_cases (eqb b 61) (eqb b 58) f) [
    | inl k ↦ (let i = eqb-true b 61 k in rw i (word-settled g))
    | inr k ↦ (let i = eqb-true b 58 k in rw i (word-colon g))
  ]
  | inr k ↦ (let i = eqb-true b 33 k in rw i (word-settled g))
]

run-word : (g : Stage) (b : ℕ) (rest : List ℕ) → is_run b ≡ true → word_ends (spell (word_byte b (word_for g)) rest) ≡ word_for (behind_token g (b ∷ rest))
run-word g b rest r =
    word-run g b rest
    ∙ sym (ap (λ (t : Bool). word_for (cond t (behind_run (bytes_eq (b ∷ rest) (codes "Pattern")) g) (cond (is_string (b ∷ rest)) (behind_string g) (cond (is_only 58 (b ∷ rest)) (behind_colon g) (Sure (settled g)))))) r)

brace-word : (g : Stage) (rest : List ℕ) → Known (settled g) ≡ word_for (behind_token g (123 ∷ rest))
brace-word g rest = sym (ap (λ (t : Bool). word_for (cond t (behind_colon g) (Sure (settled g)))) (only-other 58 123 rest refl))

-- bytes where a token may begin
module _ (d : ℕ) (w : Word) where
  step-blank : (b : ℕ) → is_blank b ≡ true → goes Free d (word_ends w) ≡ step (at Free d w) b
  unfolding step mode_step free_step run_step
  step-blank b e = elim (cases_Bool (eqb b 47)) [
    | inl s ↦ absurd (let q = rw (eqb-true b 47 s) at e in false≢true q)
    | inr s ↦ rw (s, e) refl
  ]

  step-quote : (b : ℕ) → is_quote b ≡ true → goes (Quoted b) d (quote_word b w) ≡ step (at Free d w) b
  unfolding step mode_step free_step run_step
  step-quote b e = elim (or_cases (eqb b 34) (eqb b 39) e) [
    | inl k ↦ rw (eqb-true b 34 k) refl
    | inr k ↦ rw (eqb-true b 39 k) refl
  ]

  step-semicolon-ends : eqb d 0 ≡ true → Ends ≡ step (at Free d w) 59
  unfolding step mode_step free_step run_step mark_step
  step-semicolon-ends z = rw z refl

  step-semicolon-goes : eqb d 0 ≡ false → goes Free d (word_settled w) ≡ step (at Free d w) 59
  unfolding step mode_step free_step run_step mark_step
  step-semicolon-goes z = rw z refl

  step-close-ends : eqb d 1 ≡ true → Ends ≡ step (at Free d w) 125
  unfolding step mode_step free_step run_step mark_step
  step-close-ends z = rw z refl

  step-close-goes : eqb d 1 ≡ false → goes Free (d - 1) (word_settled w) ≡ step (at Free d w) 125
  unfolding step mode_step free_step run_step mark_step
  step-close-goes z = rw z refl

  step-brace : goes Brace d (word_settled w) ≡ step (at Free d w) 123
  unfolding step mode_step free_step run_step mark_step
  step-brace = refl

  step-other : (b : ℕ) → other_mark b ≡ true → goes Free d (mark_word b w) ≡ step (at Free d w) b
  unfolding step mode_step free_step run_step mark_step
  step-other b e = elim (or_cases (eqb b 61 || eqb b 58) (eqb b 33) e) [
    | inl f ↦ elim (or_cases (eqb b 61) (eqb b 58) f) [ inl k ↦ rw (eqb-true b 61 k) refl | inr k ↦ rw (eqb-true b 58 k) refl ]
    | inr k ↦ rw (eqb-true b 33 k) refl
  ]

  step-slash : goes Slash d w ≡ step (at Free d w) 47
  unfolding step mode_step free_step
  step-slash = refl

  step-slash-line : (b : ℕ) → eqb b 47 ≡ true → goes Line d (word_ends w) ≡ step (at Slash d w) b
  unfolding step mode_step
  step-slash-line b e = rw e refl

  step-slash-block : (b : ℕ) → eqb b 47 ≡ false → eqb b 42 ≡ true → goes (Block false) d (word_ends w) ≡ step (at Slash d w) b
  unfolding step mode_step
  step-slash-block b e f = rw (e, f) refl

  step-slash-run : (b : ℕ) → eqb b 47 ≡ false → eqb b 42 ≡ false → step (at Slash d w) b ≡ step (at Run d (word_byte 47 w)) b
  unfolding step mode_step
  step-slash-run b e f = rw (e, f) refl

  step-brace-note : (b : ℕ) → eqb b 42 ≡ true → goes (Note false) d w ≡ step (at Brace d w) b
  unfolding step mode_step
  step-brace-note b e = rw e refl

  step-free-run : (b : ℕ) → eqb b 47 ≡ false → step (at Free d w) b ≡ step (at Run d w) b
  unfolding step mode_step free_step
  step-free-run b e = rw e refl

-- a brace that begins no annotation
module _ (d : ℕ) (is : Bool) where
  step-brace-opens : (b : ℕ) → eqb b 42 ≡ false → (is && eqb d 0) ≡ true → Opens ≡ step (at Brace d (Known is)) b
  unfolding step mode_step
  step-brace-opens b e f = rw (e, f) refl

  step-brace-block : (b : ℕ) → eqb b 42 ≡ false → (is && eqb d 0) ≡ false → step (at Brace d (Known is)) b ≡ step (at Free (d + 1) (Known is)) b
  unfolding step mode_step
  step-brace-block b e f = rw (e, f) refl

  brace-last : (is && eqb d 0) ≡ true → end_of true (at Brace d (Known is)) [] ≡ Some (found 0 true)
  unfolding end_of
  brace-last e = rw e refl

  brace-open-last : (is && eqb d 0) ≡ false → end_of true (at Brace d (Known is)) [] ≡ None
  unfolding end_of
  brace-open-last e = rw e refl

-- a slash is no letter of Pattern
slash-settled : (g : Stage) → word_settled (word_for g) ≡ word_settled (word_byte 47 (word_for g))
slash-settled Begin = refl
slash-settled String = refl
slash-settled (Named is) = refl
slash-settled (Sure is) = refl

slash-shown : (g : Stage) → word_shown true (word_for g) ≡ word_shown true (word_ends (word_byte 47 (word_for g)))
slash-shown Begin = refl
slash-shown String = refl
slash-shown (Named is) = refl
slash-shown (Sure is) = refl

module _ (d : ℕ) (g : Stage) where
  abbrev here : Scan
  here = at Free d (word_for g)

  -- a blank, or what counts as one
  blank-through : (n : ℕ) (x : List ℕ) → Comes here x n (at Free d (word_for (behind_blank g))) → IsThrough d g x (Blank n)
  blank-through n x c = record { ends = c.ends; word = c.word }

  -- a token that opens and ends nothing
  calm-through : (n b : ℕ) (bs : List ℕ) → eqb b 59 ≡ false → eqb b 125 ≡ false → eqb b 123 ≡ false → Comes here (b ∷ bs) (1 + n) (at Free d (word_for (behind_token g (b ∷ take n bs))))
      → IsThrough d g (b ∷ bs) (token (1 + n))
  calm-through n b bs s c o comes =
      let k : 1 + n ≡ suc n = omega arith in
      let t : take (1 + n) (b ∷ bs) ≡ b ∷ take n bs = rw k refl in
      let no_open : is_only 123 (b ∷ take n bs) ≡ false = only-other 123 b (take n bs) o in
      record {
        ends = rw (t, calm d b (take n bs) s c o, calm-depth d b (take n bs) c o, no_open) comes.ends;
        word = rw (t, calm-depth d b (take n bs) c o) comes.word;
      }

  -- a token that settles the word
  sure-here : (b : ℕ) (bs : List ℕ) (t : Scan) → t.word ≡ word_settled (word_for g) → goes t.mode t.depth t.word ≡ step here b → word_of true here (b ∷ bs) ≡ Some (settled g)
  sure-here b bs t same h = word_goes here t b bs h ∙ word_known t (settled g) bs (same ∙ word-settled g)

  sure-ends : (b : ℕ) (bs : List ℕ) → Ends ≡ step here b → word_of true here (b ∷ bs) ≡ Some (settled g)
  sure-ends b bs h = word_ended here b bs h ∙ ap (word_shown true) (word-settled g)

  sure-then : (e : ℕ) (bs : List ℕ) (v : Word) → v ≡ Known (settled g) → word_of true (at Free e v) bs ≡ Some (settled g)
  sure-then e bs v same = word_known (at Free e v) (settled g) bs same

  quote-through : (b : ℕ) (bs : List ℕ) → is_quote b ≡ true → IsThrough d g (b ∷ bs) (token (1 + quoted_len b bs))
  quote-through b bs e =
      let n = quote-no-brace b e in
      let len = quoted_len b bs in
      let comes = comes_more here (at (Quoted b) d (quote_word b (word_for g))) _ b len bs (step-quote d (word_for g) b e) (quoted-on d b (quote_word b (word_for g)) bs) in
      calm-through len b bs n.semicolon n.closing n.opening
      (subst (λ (w : Word). Comes here (b ∷ bs) (1 + len) (at Free d w)) (quote-word g b (take len bs) e) comes)

  semicolon-here : (bs : List ℕ) → IsThrough d g (59 ∷ bs) (token 1)
  semicolon-here bs = elim (cases_Bool (eqb d 0)) [
    | inl z ↦ record {
      ends = rw z (end_ends true here 59 bs (step-semicolon-ends d (word_for g) z));
      word = sure-ends 59 bs (step-semicolon-ends d (word_for g) z) ∙ sym (sure-then d bs (Known (settled g)) refl);
    }
    | inr z ↦ record {
      ends = rw z (end_goes true here 59 bs (at Free d (word_settled (word_for g))) (step-semicolon-goes d (word_for g) z)
          ∙ ap (λ (w : Word). later 1 (end_of true (at Free d w) bs)) (word-settled g));
      word = sure-here 59 bs (at Free d (word_settled (word_for g))) refl (step-semicolon-goes d (word_for g) z) ∙ sym (sure-then d bs (Known (settled g)) refl);
    }
  ]

  close-here : (bs : List ℕ) → IsThrough d g (125 ∷ bs) (token 1)
  close-here bs = elim (cases_Bool (eqb d 1)) [
    | inl z ↦ record {
      ends = rw z (end_ends true here 125 bs (step-close-ends d (word_for g) z));
      word = sure-ends 125 bs (step-close-ends d (word_for g) z) ∙ sym (sure-then (d - 1) bs (Known (settled g)) refl);
    }
    | inr z ↦ record {
      ends = rw z (end_goes true here 125 bs (at Free (d - 1) (word_settled (word_for g))) (step-close-goes d (word_for g) z)
          ∙ ap (λ (w : Word). later 1 (end_of true (at Free (d - 1) w) bs)) (word-settled g));
      word = sure-here 125 bs (at Free (d - 1) (word_settled (word_for g))) refl (step-close-goes d (word_for g) z) ∙ sym (sure-then (d - 1) bs (Known (settled g)) refl);
    }
  ]

  other-here : (b : ℕ) (bs : List ℕ) → other_mark b ≡ true → IsThrough d g (b ∷ bs) (token 1)
  other-here b bs e =
      let n = other-no-brace b e in
      let comes = comes_one here (at Free d (mark_word b (word_for g))) b bs (step-other d (word_for g) b e) in
      calm-through 0 b bs n.semicolon n.closing n.opening (subst (λ (w : Word). Comes here (b ∷ bs) 1 (at Free d w)) (other-word g b e) comes)

  -- a brace that begins no annotation
  abbrev brace : Scan
  brace = at Brace d (Known (settled g))

  into-brace : (bs : List ℕ) → end_of true here (123 ∷ bs) ≡ later 1 (end_of true brace bs)
  into-brace bs = end_goes true here 123 bs (at Brace d (word_settled (word_for g))) (step-brace d (word_for g)) ∙ ap (λ (w : Word). later 1 (end_of true (at Brace d w) bs)) (word-settled g)

  brace-shows : (bs : List ℕ) → word_of true here (123 ∷ bs) ≡ Some (settled g)
  brace-shows bs = sure-here 123 bs (at Brace d (word_settled (word_for g))) refl (step-brace d (word_for g))

  opens-here : (bs : List ℕ) → (settled g && eqb d 0) ≡ true → end_of true brace bs ≡ Some (found 0 true) → IsThrough d g (123 ∷ bs) (token 1)
  opens-here bs e h = record {
    ends = rw e (into-brace bs ∙ ap (later 1) h);
    word = brace-shows bs ∙ sym (sure-then (d + 1) bs (Known (settled g)) refl);
  }

  block-here : (bs : List ℕ) → (settled g && eqb d 0) ≡ false → end_of true brace bs ≡ end_of true (at Free (d + 1) (Known (settled g))) bs → IsThrough d g (123 ∷ bs) (token 1)
  block-here bs e h = record {
    ends = rw e (into-brace bs ∙ ap (later 1) h);
    word = brace-shows bs ∙ sym (sure-then (d + 1) bs (Known (settled g)) refl);
  }

  lone-brace : IsThrough d g (123 ∷ []) (token 1)
  lone-brace = elim (cases_Bool (settled g && eqb d 0)) [
    | inl e ↦ opens-here [] e (brace-last d (settled g) e)
    | inr e ↦ block-here [] e (brace-open-last d (settled g) e ∙ sym (end_nil (at Free (d + 1) (Known (settled g))) refl))
  ]

  plain-brace : (c : ℕ) (cs : List ℕ) → eqb c 42 ≡ false → IsThrough d g (123 ∷ c ∷ cs) (token 1)
  plain-brace c cs f = elim (cases_Bool (settled g && eqb d 0)) [
    | inl e ↦ opens-here (c ∷ cs) e (end_opens true brace c cs (step-brace-opens d (settled g) c f e))
    | inr e ↦ block-here (c ∷ cs) e (same_step brace (at Free (d + 1) (Known (settled g))) c cs (step-brace-block d (settled g) c f e))
  ]

  note-token : (c : ℕ) (rest : List ℕ) → eqb c 42 ≡ true → token_ends d (123 ∷ c ∷ rest) ≡ (has_close 125 false rest && eqb d 0)
  note-token c rest e = rw e refl

  note-scan : (c : ℕ) (cs : List ℕ) → eqb c 42 ≡ true → end_of true here (123 ∷ c ∷ cs) ≡ note_end d (Known (settled g)) (1 + (1 + closed_len 125 false cs)) (has_close 125 false cs) (123 ∷ c ∷ cs)
  note-scan c cs e =
      let n = closed_len 125 false cs in
      let w = Known (settled g) in
      let closed = has_close 125 false cs in
      into-brace (c ∷ cs)
      ∙ ap (later 1) (end_goes true brace c cs (at (Note false) d w) (step-brace-note d w c e) ∙ ap (later 1) (note-on d w false cs) ∙ note-more d w n c closed cs)
      ∙ note-more d w (1 + n) 123 closed (c ∷ cs)

  note-through : (c : ℕ) (cs : List ℕ) → eqb c 42 ≡ true → IsThrough d g (123 ∷ c ∷ cs) (token (2 + closed_len 125 false cs))
  note-through c cs e =
      let n = closed_len 125 false cs in
      let k : 2 + n ≡ suc (suc n) = omega arith in
      let two : 1 + (1 + n) ≡ 2 + n = omega arith in
      let t : take (2 + n) (123 ∷ c ∷ cs) ≡ 123 ∷ c ∷ take n cs = rw k refl in
      let ends : token_ends d (123 ∷ c ∷ take n cs) ≡ (has_close 125 false cs && eqb d 0) = note-token c (take n cs) e ∙ ap (λ (b : Bool). b && eqb d 0) (closed-taken 125 false cs) in
      record {
        ends = rw (t, ends) (note-scan c cs e ∙ ap (λ (i : ℕ). note_end d (Known (settled g)) i (has_close 125 false cs) (123 ∷ c ∷ cs)) two);
        word = rw t (brace-shows (c ∷ cs) ∙ sym (sure-then d (drop (2 + n) (123 ∷ c ∷ cs)) (Known (settled g)) refl));
      }

  brace-through : (bs : List ℕ) → IsThrough d g (123 ∷ bs) (brace_piece bs)
  unfolding brace_piece
  brace-through [] = lone-brace
  brace-through (c ∷ cs) = cond_both (eqb c 42) (token (2 + closed_len 125 false cs)) (token 1) (λ p. IsThrough d g (123 ∷ c ∷ cs) p) (λ e. note-through c cs e) (λ e. plain-brace c cs e)

  mark-through : (b : ℕ) (bs : List ℕ) → eqb b 123 ≡ false → is_mark b ≡ true → IsThrough d g (b ∷ bs) (token 1)
  mark-through b bs o m = elim (or_cases (eqb b 123) (eqb b 125 || (eqb b 59 || other_mark b)) m) [
    | inl e ↦ absurd (true≢false (sym e ∙ o))
    | inr f ↦ elim (or_cases (eqb b 125) (eqb b 59 || other_mark b) f) [
      | inl e ↦ subst (λ (c : ℕ). IsThrough d g (c ∷ bs) (token 1)) (sym (eqb-true b 125 e)) (close-here bs)
      | inr h ↦ elim (or_cases (eqb b 59) (other_mark b) h) [
        | inl e ↦ subst (λ (c : ℕ). IsThrough d g (c ∷ bs) (token 1)) (sym (eqb-true b 59 e)) (semicolon-here bs)
        | inr e ↦ other-here b bs e
      ]
    ]
  ]

  -- a comment behind its first two bytes
  comment-through : (k : Mode) (c n : ℕ) (cs : List ℕ) → goes k d (word_ends (word_for g)) ≡ step (at Slash d (word_for g)) c
      → Comes (at k d (word_ends (word_for g))) cs n (at Free d (word_ends (word_for g))) → IsThrough d g (47 ∷ c ∷ cs) (Blank (2 + n))
  comment-through k c n cs h more =
      let two : 1 + (1 + n) ≡ 2 + n = omega arith in
      let inner = comes_more (at Slash d (word_for g)) (at k d (word_ends (word_for g))) _ c n cs h more in
      let outer = comes_more here (at Slash d (word_for g)) _ 47 (1 + n) (c ∷ cs) (step-slash d (word_for g)) inner in
      blank-through (2 + n) (47 ∷ c ∷ cs)
      (subst (λ (w : Word). Comes here (47 ∷ c ∷ cs) (2 + n) (at Free d w)) (word-blank g) (subst (λ (i : ℕ). Comes here (47 ∷ c ∷ cs) i (at Free d (word_ends (word_for g)))) two outer))

  -- a run whose first byte is a slash
  slash-run : (bs : List ℕ) → Comes (at Slash d (word_for g)) bs (prefix_len is_run bs) (at Free d (word_ends (spell (word_byte 47 (word_for g)) (take (prefix_len is_run bs) bs)))) → IsThrough d g (47 ∷ bs) (token (1 + prefix_len is_run bs))
  slash-run bs more =
      let n = prefix_len is_run bs in
      let outer = comes_more here (at Slash d (word_for g)) _ 47 n bs (step-slash d (word_for g)) more in
      calm-through n 47 bs refl refl refl (subst (λ (w : Word). Comes here (47 ∷ bs) (1 + n) (at Free d w)) (run-word g 47 (take n bs) refl) outer)

  slash-alone : IsThrough d g (47 ∷ []) (token 1)
  slash-alone = slash-run [] (comes_none _ _ 0 refl refl (slash-shown g))

  slash-then : (c : ℕ) (cs : List ℕ) → eqb c 47 ≡ false → eqb c 42 ≡ false → IsThrough d g (47 ∷ c ∷ cs) (token (1 + prefix_len is_run (c ∷ cs)))
  slash-then c cs e f =
      slash-run (c ∷ cs)
      (comes_as (at Slash d (word_for g)) (at Run d (word_byte 47 (word_for g))) _ c (prefix_len is_run (c ∷ cs)) cs (step-slash-run d (word_for g) c e f) (slash-settled g) (run-on d (word_byte 47 (word_for g)) (c ∷ cs)))

  slash-through : (bs : List ℕ) → IsThrough d g (47 ∷ bs) (slash_piece bs)
  unfolding slash_piece
  slash-through [] = slash-alone
  slash-through (c ∷ cs) = cond_both (eqb c 47) (Blank (2 + line_len cs)) (cond (eqb c 42) (Blank (2 + closed_len 47 false cs)) (token (1 + prefix_len is_run (c ∷ cs)))) (λ p. IsThrough d g (47 ∷ c ∷ cs) p)
      (λ e. comment-through Line c (line_len cs) cs (step-slash-line d (word_for g) c e) (line-on d (word_ends (word_for g)) (ends-twice (word_for g)) cs))
      (λ e. cond_both (eqb c 42) (Blank (2 + closed_len 47 false cs)) (token (1 + prefix_len is_run (c ∷ cs))) (λ p. IsThrough d g (47 ∷ c ∷ cs) p)
      (λ f. comment-through (Block false) c (closed_len 47 false cs) cs (step-slash-block d (word_for g) c e f) (block-on d false (word_ends (word_for g)) cs))
      (λ f. slash-then c cs e f))

  run-through : (b : ℕ) (bs : List ℕ) → is_run b ≡ true → eqb b 47 ≡ false → IsThrough d g (b ∷ bs) (token (1 + prefix_len is_run bs))
  run-through b bs r slash =
      let i = dull b r in
      let n = prefix_len is_run bs in
      let comes = comes_more here (at Run d (word_byte b (word_for g))) _ b n bs (step-run-more d b (word_for g) r ∙ sym (step-free-run d (word_for g) b slash)) (run-on d (word_byte b (word_for g)) bs) in
      calm-through n b bs i.semicolon i.closing i.opening (subst (λ (w : Word). Comes here (b ∷ bs) (1 + n) (at Free d w)) (run-word g b (take n bs) r) comes)

  blank-here : (b : ℕ) (bs : List ℕ) → is_blank b ≡ true → IsThrough d g (b ∷ bs) (Blank 1)
  blank-here b bs e =
      blank-through 1 (b ∷ bs)
      (subst (λ (w : Word). Comes here (b ∷ bs) 1 (at Free d w)) (word-blank g) (comes_one here (at Free d (word_ends (word_for g))) b bs (step-blank d (word_for g) b e)))

  pub piece-through : (b : ℕ) (bs : List ℕ) → IsThrough d g (b ∷ bs) (piece_at (b ∷ bs))
  unfolding piece_at
  piece-through b bs = cond_both (is_blank b) _ _ (λ p. IsThrough d g (b ∷ bs) p)
      (λ e. blank-here b bs e)
      (λ blank. cond_both (is_quote b) _ _ (λ p. IsThrough d g (b ∷ bs) p)
      (λ e. quote-through b bs e)
      (λ quote. cond_both (eqb b 123) _ _ (λ p. IsThrough d g (b ∷ bs) p)
      (λ e. subst (λ (c : ℕ). IsThrough d g (c ∷ bs) (brace_piece bs)) (sym (eqb-true b 123 e)) (brace-through bs))
      (λ open_brace. cond_both (is_mark b) _ _ (λ p. IsThrough d g (b ∷ bs) p)
      (λ e. mark-through b bs open_brace e)
      (λ mark. cond_both (eqb b 47) _ _ (λ p. IsThrough d g (b ∷ bs) p)
      (λ e. subst (λ (c : ℕ). IsThrough d g (c ∷ bs) (slash_piece bs)) (sym (eqb-true b 47 e)) (slash-through bs))
      (λ slash. run-through b bs (rw (blank, quote, mark) refl) slash)))))
