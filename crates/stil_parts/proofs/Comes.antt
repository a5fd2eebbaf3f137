-- What a scan of a text that goes no further comes to, byte by byte: where it ends, and its word.
use Rattle.std.proofs.Common.{◌≡◌, ℕ, zero, suc, ◌+◌, ◌-◌, Bool, true, false, cond, eqb, ◌&&◌, List, [], ◌∷◌, drop, Option, Some, None, refl, sym, ap, subst, ◌∙◌, arith}
use Rattle.std.proofs.lemmas.Bool.{cond_both, and_parts, and_right}
use Rattle.stil_tokens.specs.StilTokens.{is_blank, is_quote, other_mark}
use Rattle.stil_parts.specs.declared.word.Word.{Word}
use Rattle.stil_parts.specs.declared.word.Word.TheVariants.{Start, Letters, Text, Joined, Known}
use Rattle.stil_parts.specs.declared.word.Word.TheVariants as words
use Rattle.stil_parts.specs.Words.{word_byte, word_settled, names_pattern, word_shown}
use Rattle.stil_parts.specs.declared.scan.Mode.{Mode}
use Rattle.stil_parts.specs.declared.scan.Mode.TheVariants.{Free, Run, Slash, Quoted, Line, Block, Brace, Note}
use Rattle.stil_parts.specs.declared.scan.Scan.{Scan}
use Rattle.stil_parts.specs.declared.scan.After.{After}
use Rattle.stil_parts.specs.declared.scan.After.TheVariants.{Goes, Ends, Opens}
use Rattle.stil_parts.specs.Scanner.{goes, mark_step, run_step, free_step, inside, mode_step, step, is_brace, later, end_of}
use Rattle.stil_parts.specs.Heads.{word_of}
use Rattle.stil_parts.proofs.Scans.{later-later, later-zero}
use Rattle.stil_parts.proofs.Ends.{Went, Ended, Opened, stepped, end_goes, end_ends, end_opens}

-- a scan at a mode
abbrev pub at : Mode → ℕ → Word → Scan
at mode depth word = record { mode = mode; depth = depth; word = word }

-- a word that is known stays
abbrev KeepsWord : Bool → After → Type 0
KeepsWord is (Goes t) = t.word ≡ Known is
KeepsWord is Ends = Unit {0}
KeepsWord is Opens = Unit {0}

record Keeps (is : Bool) (a : After) : Type 0 where
  keeps : KeepsWord is a

keeps_if : (t is : Bool) (p q : After) → Keeps is p → Keeps is q → Keeps is (cond t p q)
keeps_if true is p q h k = h
keeps_if false is p q h k = k

keeps_goes : (is : Bool) (mode : Mode) (depth : ℕ) (w : Word) → w ≡ Known is → Keeps is (goes mode depth w)
keeps_goes is mode depth w e = record { keeps = e }

keeps_ends : (is : Bool) → Keeps is Ends
keeps_ends is = record { keeps = tt }

keeps_opens : (is : Bool) → Keeps is Opens
keeps_opens is = record { keeps = tt }

either : (t : Bool) (w : Word) → cond t w w ≡ w
either true w = refl
either false w = refl

module _ (is : Bool) (depth b : ℕ) where
  keeps_mark : Keeps is (mark_step (Known is) depth b)
  unfolding mark_step
  keeps_mark =
      keeps_if (eqb b 59) _ _ _ (keeps_if (eqb depth 0) _ _ _ (keeps_ends is) (keeps_goes is Free depth _ refl))
      (keeps_if (eqb b 125) _ _ _ (keeps_if (eqb depth 1) _ _ _ (keeps_ends is) (keeps_goes is Free (depth - 1) _ refl))
      (keeps_if (eqb b 123) _ _ _ (keeps_goes is Brace depth _ refl)
      (keeps_if (other_mark b) _ _ _ (keeps_goes is Free depth _ (either (eqb b 58) (Known is))) (keeps_goes is Run depth _ refl))))

  keeps_run : Keeps is (run_step (Known is) depth b)
  unfolding run_step
  keeps_run = keeps_if (is_blank b) _ _ _ (keeps_goes is Free depth _ refl) (keeps_if (is_quote b) _ _ _ (keeps_goes is (Quoted b) depth _ (either (eqb b 34) (Known is))) keeps_mark)

  keeps_free : Keeps is (free_step (Known is) depth b)
  unfolding free_step
  keeps_free = keeps_if (eqb b 47) _ _ _ (keeps_goes is Slash depth _ refl) keeps_run

keeps_inside : (ends is : Bool) (mode : Mode) (depth : ℕ) → Keeps is (inside ends mode (Known is) depth)
keeps_inside ends is mode depth = keeps_if ends _ _ _ (keeps_goes is Free depth _ refl) (keeps_goes is mode depth _ refl)

keeps_mode : (is : Bool) (mode : Mode) (depth b : ℕ) → Keeps is (mode_step mode (Known is) depth b)
unfolding mode_step
keeps_mode is Free depth b = keeps_free is depth b
keeps_mode is Run depth b = keeps_run is depth b
keeps_mode is Slash depth b = keeps_if (eqb b 47) _ _ _ (keeps_goes is Line depth _ refl) (keeps_if (eqb b 42) _ _ _ (keeps_goes is (Block false) depth _ refl) (keeps_run is depth b))
keeps_mode is (Quoted quote) depth b = keeps_inside (eqb b quote) is (Quoted quote) depth
keeps_mode is Line depth b = keeps_inside (eqb b 10) is Line depth
keeps_mode is (Block star) depth b = keeps_inside (star && eqb b 47) is (Block (eqb b 42)) depth
keeps_mode is Brace depth b = keeps_if (eqb b 42) _ _ _ (keeps_goes is (Note false) depth _ refl) (keeps_if (is && eqb depth 0) _ _ _ (keeps_opens is) (keeps_free is (depth + 1) b))
keeps_mode is (Note star) depth b = keeps_if (star && eqb b 125) _ _ _ (keeps_if (eqb depth 0) _ _ _ (keeps_ends is) (keeps_goes is Free depth _ refl)) (keeps_goes is (Note (eqb b 42)) depth _ refl)

keeps_step : (is : Bool) (s t : Scan) (b : ℕ) → s.word ≡ Known is → Goes t ≡ step s b → t.word ≡ Known is
unfolding step
keeps_step is s t b e h =
    let k : Keeps is (step s b) = subst (λ (w : Word). Keeps is (mode_step s.mode w s.depth b)) (sym e) (keeps_mode is s.mode s.depth b) in
    let l = rw (← h) at k in l.keeps

-- only where the word is known to be Pattern a brace opens one
abbrev OpensAt : Word → After → Type 0
OpensAt w (Goes t) = Unit {0}
OpensAt w Ends = Unit {0}
OpensAt w Opens = names_pattern w ≡ true

record Opening (w : Word) (a : After) : Type 0 where
  is : OpensAt w a

opening_if : (t : Bool) (w : Word) (p q : After) → Opening w p → Opening w q → Opening w (cond t p q)
opening_if true w p q h k = h
opening_if false w p q h k = k

opening_goes : (v : Word) (mode : Mode) (depth : ℕ) (w : Word) → Opening v (goes mode depth w)
opening_goes v mode depth w = record { is = tt }

opening_ends : (w : Word) → Opening w Ends
opening_ends w = record { is = tt }

module _ (v w : Word) (depth b : ℕ) where
  opening_mark : Opening v (mark_step w depth b)
  unfolding mark_step
  opening_mark =
      opening_if (eqb b 59) _ _ _ (opening_if (eqb depth 0) _ _ _ (opening_ends v) (opening_goes v Free depth _))
      (opening_if (eqb b 125) _ _ _ (opening_if (eqb depth 1) _ _ _ (opening_ends v) (opening_goes v Free (depth - 1) _))
      (opening_if (eqb b 123) _ _ _ (opening_goes v Brace depth _) (opening_if (other_mark b) _ _ _ (opening_goes v Free depth _) (opening_goes v Run depth _))))

  opening_run : Opening v (run_step w depth b)
  unfolding run_step
  opening_run = opening_if (is_blank b) _ _ _ (opening_goes v Free depth _) (opening_if (is_quote b) _ _ _ (opening_goes v (Quoted b) depth _) opening_mark)

  opening_free : Opening v (free_step w depth b)
  unfolding free_step
  opening_free = opening_if (eqb b 47) _ _ _ (opening_goes v Slash depth _) opening_run

opening_inside : (ends : Bool) (w : Word) (mode : Mode) (depth : ℕ) → Opening w (inside ends mode w depth)
opening_inside ends w mode depth = opening_if ends _ _ _ (opening_goes w Free depth _) (opening_goes w mode depth _)

opening_mode : (mode : Mode) (w : Word) (depth b : ℕ) → Opening w (mode_step mode w depth b)
unfolding mode_step
opening_mode Free w depth b = opening_free w w depth b
opening_mode Run w depth b = opening_run w w depth b
opening_mode Slash w depth b = opening_if (eqb b 47) _ _ _ (opening_goes w Line depth _) (opening_if (eqb b 42) _ _ _ (opening_goes w (Block false) depth _) (opening_run w (word_byte 47 w) depth b))
opening_mode (Quoted quote) w depth b = opening_inside (eqb b quote) w (Quoted quote) depth
opening_mode Line w depth b = opening_inside (eqb b 10) w Line depth
opening_mode (Block star) w depth b = opening_inside (star && eqb b 47) w (Block (eqb b 42)) depth
opening_mode Brace w depth b = opening_if (eqb b 42) _ _ _ (opening_goes w (Note false) depth _)
    (cond_both (names_pattern w && eqb depth 0) Opens (free_step w (depth + 1) b) (Opening w) (λ e. record { is = (and_parts _ _ e).0 }) (λ e. opening_free w w (depth + 1) b))
opening_mode (Note star) w depth b = opening_if (star && eqb b 125) _ _ _ (opening_if (eqb depth 0) _ _ _ (opening_ends w) (opening_goes w Free depth _)) (opening_goes w (Note (eqb b 42)) depth _)

opens_true : (s : Scan) (b : ℕ) → Opens ≡ step s b → names_pattern s.word ≡ true
unfolding step
opens_true s b h =
    let k : Opening s.word (step s b) = opening_mode s.mode s.word s.depth b in
    let l = rw (← h) at k in l.is

-- a word that is known
known_by : (w : Word) (is : Bool) → word_shown false w ≡ Some is → w ≡ Known is
known_by Start is e = absurd cc
known_by (Letters k) is e = absurd cc
known_by words.Run is e = absurd cc
known_by Text is e = absurd cc
known_by Joined is e = absurd cc
known_by (words.After k) is e = absurd cc
known_by (Known k) is e = let f : k ≡ is = cc in ap (λ (b : Bool). Known b) f

pattern_by : (w : Word) → names_pattern w ≡ true → w ≡ Known true
pattern_by Start e = absurd cc
pattern_by (Letters k) e = absurd cc
pattern_by words.Run e = absurd cc
pattern_by Text e = absurd cc
pattern_by Joined e = absurd cc
pattern_by (words.After k) e = absurd cc
pattern_by (Known k) e = ap (λ (b : Bool). Known b) e

word_nil : (s : Scan) → word_of true s [] ≡ word_shown true s.word
unfolding word_of
word_nil s = refl

word_in_front : (s : Scan) (b : ℕ) (bs : List ℕ) (is : Bool) → word_shown false s.word ≡ Some is → word_of true s (b ∷ bs) ≡ Some is
unfolding word_of
word_in_front s b bs is e = rw (e, word_of) refl

pub word_known : (s : Scan) (is : Bool) (x : List ℕ) → s.word ≡ Known is → word_of true s x ≡ Some is
word_known s is [] e = word_nil s ∙ ap (word_shown true) e
word_known s is (b ∷ bs) e = word_in_front s b bs is (ap (word_shown false) e)

word_on : (s t : Scan) (b : ℕ) (bs : List ℕ) → word_shown false s.word ≡ None → Goes t ≡ step s b → word_of true s (b ∷ bs) ≡ word_of true t bs
unfolding word_of
word_on s t b bs e h = rw (e, ← h, word_of) refl

word_off : (s : Scan) (b : ℕ) (bs : List ℕ) → word_shown false s.word ≡ None → Ends ≡ step s b → word_of true s (b ∷ bs) ≡ word_shown true (word_settled s.word)
unfolding word_of
word_off s b bs e h = rw (e, ← h, word_of) refl

-- behind a byte the word is as before it
pub word_goes : (s t : Scan) (b : ℕ) (bs : List ℕ) → Goes t ≡ step s b → word_of true s (b ∷ bs) ≡ word_of true t bs
word_goes s t b bs h = by (word_shown false s.word) refl
  where
    by : (o : Option Bool) → word_shown false s.word ≡ o → word_of true s (b ∷ bs) ≡ word_of true t bs
    by None e = word_on s t b bs e h
    by (Some is) e = word_in_front s b bs is e ∙ sym (word_known t is bs (keeps_step is s t b (known_by s.word is e) h))

pub word_ended : (s : Scan) (b : ℕ) (bs : List ℕ) → Ends ≡ step s b → word_of true s (b ∷ bs) ≡ word_shown true (word_settled s.word)
word_ended s b bs h = by (word_shown false s.word) refl
  where
    by : (o : Option Bool) → word_shown false s.word ≡ o → word_of true s (b ∷ bs) ≡ word_shown true (word_settled s.word)
    by None e = word_off s b bs e h
    by (Some is) e = word_in_front s b bs is e ∙ sym (ap (λ (w : Word). word_shown true (word_settled w)) (known_by s.word is e))

word_opened : (s : Scan) (b : ℕ) (bs : List ℕ) → Opens ≡ step s b → word_of true s (b ∷ bs) ≡ Some true
word_opened s b bs h = word_known s true (b ∷ bs) (pattern_by s.word (opens_true s b h))

pub end_nil : (s : Scan) → is_brace s.mode ≡ false → end_of true s [] ≡ None
unfolding end_of
end_nil s e = rw (and_right (names_pattern s.word && eqb s.depth 0) (is_brace s.mode) e) refl

-- a scan of a text comes to another one, behind so many bytes
pub record Comes (s : Scan) (x : List ℕ) (n : ℕ) (t : Scan) : Type 0 where
  pub ends : end_of true s x ≡ later n (end_of true t (drop n x))
  pub word : word_of true s x ≡ word_of true t (drop n x)

pub comes_one : (s t : Scan) (b : ℕ) (bs : List ℕ) → Goes t ≡ step s b → Comes s (b ∷ bs) 1 t
comes_one s t b bs h = record { ends = end_goes true s b bs t h; word = word_goes s t b bs h }

pub comes_more : (s t u : Scan) (b n : ℕ) (bs : List ℕ) → Goes t ≡ step s b → Comes t bs n u → Comes s (b ∷ bs) (1 + n) u
comes_more s t u b n bs h c =
    let k : suc n ≡ 1 + n = omega arith in
    record {
      ends = end_goes true s b bs t h ∙ ap (later 1) c.ends ∙ later-later 1 n _ ∙ ap (λ (i : ℕ). later (1 + n) (end_of true u (drop i (b ∷ bs)))) k;
      word = word_goes s t b bs h ∙ c.word ∙ ap (λ (i : ℕ). word_of true u (drop i (b ∷ bs))) k;
    }

pub comes_none : (s t : Scan) (n : ℕ) → is_brace s.mode ≡ false → is_brace t.mode ≡ false → word_shown true s.word ≡ word_shown true t.word → Comes s [] n t
comes_none s t zero e f same = record { ends = end_nil s e ∙ sym (ap (later 0) (end_nil t f)); word = word_nil s ∙ same ∙ sym (word_nil t) }
comes_none s t (suc n) e f same = record { ends = end_nil s e ∙ sym (ap (later (suc n)) (end_nil t f)); word = word_nil s ∙ same ∙ sym (word_nil t) }

-- two scans that take a byte alike
pub same_step : (s t : Scan) (b : ℕ) (bs : List ℕ) → step s b ≡ step t b → end_of true s (b ∷ bs) ≡ end_of true t (b ∷ bs)
same_step s t b bs e = elim (stepped s b) [
  | Went u h ↦ end_goes true s b bs u h ∙ sym (end_goes true t b bs u (h ∙ e))
  | Ended h ↦ end_ends true s b bs h ∙ sym (end_ends true t b bs (h ∙ e))
  | Opened h ↦ end_opens true s b bs h ∙ sym (end_opens true t b bs (h ∙ e))
]

same_word : (s t : Scan) (b : ℕ) (bs : List ℕ) → step s b ≡ step t b → word_settled s.word ≡ word_settled t.word → word_of true s (b ∷ bs) ≡ word_of true t (b ∷ bs)
same_word s t b bs e f = elim (stepped s b) [
  | Went u h ↦ word_goes s u b bs h ∙ sym (word_goes t u b bs (h ∙ e))
  | Ended h ↦ word_ended s b bs h ∙ ap (word_shown true) f ∙ sym (word_ended t b bs (h ∙ e))
  | Opened h ↦ word_opened s b bs h ∙ sym (word_opened t b bs (h ∙ e))
]

pub comes_same : (s t : Scan) (b : ℕ) (bs : List ℕ) → step s b ≡ step t b → word_settled s.word ≡ word_settled t.word → Comes s (b ∷ bs) 0 t
comes_same s t b bs e f = record { ends = same_step s t b bs e ∙ sym (later-zero _); word = same_word s t b bs e f }

-- as one that takes the next byte alike comes to
pub comes_as : (s t u : Scan) (b n : ℕ) (bs : List ℕ) → step s b ≡ step t b → word_settled s.word ≡ word_settled t.word → Comes t (b ∷ bs) n u → Comes s (b ∷ bs) n u
comes_as s t u b n bs e f c = record { ends = same_step s t b bs e ∙ c.ends; word = same_word s t b bs e f ∙ c.word }
