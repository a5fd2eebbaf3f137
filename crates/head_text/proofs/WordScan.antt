-- The word of a statement, where its bytes show it.
use Rattle.std.specs.Prelude.{⊤}
use Rattle.std.proofs.Common.{◌≡◌, ℕ, zero, suc, ◌+◌, ◌-◌, ◌<◌, ◌≤◌, Bool, true, false, cond, eqb, ◌&&◌, ◌||◌, not, ◌⊎◌, inl, inr, List, [], ◌∷◌, ◌++◌, length, Option, Some, None, refl, sym, ap, ◌∙◌, subst, arith}
use Rattle.std.proofs.lemmas.Bool.{cases_Bool, true≢false}
use Rattle.stil_tokens.specs.StilTokens.{is_blank, is_quote, other_mark}
use Rattle.stil_parts.specs.declared.word.Word.{Word}
use Rattle.stil_parts.specs.declared.word.Word.TheVariants.{Start, Letters, Text, Joined, After as Behind, Known}
use Rattle.stil_parts.specs.declared.word.Word.TheVariants as words
use Rattle.stil_parts.specs.Words.{word_byte, word_ends, word_settled, word_text, word_colon, mark_word, quote_word, names_pattern, is_known, word_shown}
use Rattle.stil_parts.specs.declared.scan.Mode.{Mode}
use Rattle.stil_parts.specs.declared.scan.Mode.TheVariants.{Free, Run, Slash, Quoted, Line, Block, Brace, Note}
use Rattle.stil_parts.specs.declared.scan.Scan.{Scan}
use Rattle.stil_parts.specs.declared.scan.After.{After}
use Rattle.stil_parts.specs.declared.scan.After.TheVariants.{Goes, Ends, Opens}
use Rattle.stil_parts.specs.declared.scan.Found.{Found}
use Rattle.stil_parts.specs.Scanner.{goes, mark_step, run_step, free_step, block_step, inside, mode_step, step, is_brace, at_brace, found, later, end_of}
use Rattle.stil_parts.specs.Heads.{word_of}
use Rattle.stil_parts.proofs.Ends.{Went, Ended, Opened, stepped, end_goes, end_ends, end_opens, WasFound, later-some}

-- two scans at one place, of which the second knows the word
record Beside (s k : Scan) : Type 0 where
  mode : s.mode ≡ k.mode
  depth : s.depth ≡ k.depth
  known : k.word ≡ Known false

data Both (a b : After) : Type 0 where
  Go : (s k : Scan) → a ≡ Goes s → b ≡ Goes k → Beside s k → Both a b
  End : a ≡ Ends → b ≡ Ends → Both a b
  Open : a ≡ Opens → Both a b

go : (mode : Mode) (depth : ℕ) (w v : Word) → v ≡ Known false → Both (goes mode depth w) (goes mode depth v)
go mode depth w v e = Go (record { mode = mode; depth = depth; word = w }) (record { mode = mode; depth = depth; word = v }) refl refl (record { mode = refl; depth = refl; known = e })

both_if : (t : Bool) (p q u v : After) → Both p u → Both q v → Both (cond t p q) (cond t u v)
both_if true p q u v a b = a
both_if false p q u v a b = b

open_if : (t : Bool) (p u : After) → Both p u → Both (cond t Opens p) u
open_if true p u b = Open refl
open_if false p u b = b

same : (b : Bool) → cond b (Known false) (Known false) ≡ Known false
same true = refl
same false = refl

mark_both : (w : Word) (depth b : ℕ) → Both (mark_step w depth b) (mark_step (Known false) depth b)
unfolding mark_step
mark_both w depth b =
    both_if (eqb b 59) _ _ _ _ (both_if (eqb depth 0) _ _ _ _ (End refl refl) (go Free depth _ _ refl))
    (both_if (eqb b 125) _ _ _ _ (both_if (eqb depth 1) _ _ _ _ (End refl refl) (go Free (depth - 1) _ _ refl))
    (both_if (eqb b 123) _ _ _ _ (go Brace depth _ _ refl)
    (both_if (other_mark b) _ _ _ _ (go Free depth _ _ (same (eqb b 58))) (go Run depth _ _ refl))))

run_both : (w : Word) (depth b : ℕ) → Both (run_step w depth b) (run_step (Known false) depth b)
unfolding run_step
run_both w depth b = both_if (is_blank b) _ _ _ _ (go Free depth _ _ refl) (both_if (is_quote b) _ _ _ _ (go (Quoted b) depth _ _ (same (eqb b 34))) (mark_both w depth b))

free_both : (w : Word) (depth b : ℕ) → Both (free_step w depth b) (free_step (Known false) depth b)
unfolding free_step
free_both w depth b = both_if (eqb b 47) _ _ _ _ (go Slash depth _ _ refl) (run_both w depth b)

inside_both : (ends : Bool) (mode : Mode) (w : Word) (depth : ℕ) → Both (inside ends mode w depth) (inside ends mode (Known false) depth)
inside_both ends mode w depth = both_if ends _ _ _ _ (go Free depth _ _ refl) (go mode depth _ _ refl)

mode_both : (mode : Mode) (w : Word) (depth b : ℕ) → Both (mode_step mode w depth b) (mode_step mode (Known false) depth b)
unfolding mode_step
mode_both Free w depth b = free_both w depth b
mode_both Run w depth b = run_both w depth b
mode_both Slash w depth b = both_if (eqb b 47) _ _ _ _ (go Line depth _ _ refl) (both_if (eqb b 42) _ _ _ _ (go (Block false) depth _ _ refl) (run_both (word_byte 47 w) depth b))
mode_both (Quoted quote) w depth b = inside_both (eqb b quote) (Quoted quote) w depth
mode_both Line w depth b = inside_both (eqb b 10) Line w depth
mode_both (Block star) w depth b = inside_both (star && eqb b 47) (Block (eqb b 42)) w depth
mode_both Brace w depth b = both_if (eqb b 42) _ _ _ _ (go (Note false) depth _ _ refl) (open_if (names_pattern w && eqb depth 0) _ _ (free_both w (depth + 1) b))
mode_both (Note star) w depth b = both_if (star && eqb b 125) _ _ _ _ (both_if (eqb depth 0) _ _ _ _ (End refl refl) (go Free depth _ _ refl)) (go (Note (eqb b 42)) depth _ _ refl)

step_both : (s k : Scan) (b : ℕ) → Beside s k → Both (step s b) (step k b)
unfolding step
step_both s k b e =
    let m = e.mode in
    let d = e.depth in
    let w = e.known in
    subst (λ (x : Mode). Both (mode_step s.mode s.word s.depth b) (mode_step x k.word k.depth b)) m
    (subst (λ (x : ℕ). Both (mode_step s.mode s.word s.depth b) (mode_step s.mode k.word x b)) d
    (subst (λ (x : Word). Both (mode_step s.mode s.word s.depth b) (mode_step s.mode x s.depth b)) (sym w) (mode_both s.mode s.word s.depth b)))

-- one byte in front
shown_true : (w : Word) → (is : Bool) × (word_shown true w ≡ Some is)
shown_true Start = (false, refl)
shown_true (Letters k) = (eqb k 7, refl)
shown_true words.Run = (false, refl)
shown_true Text = (false, refl)
shown_true Joined = (false, refl)
shown_true (Behind is) = (is, refl)
shown_true (Known is) = (is, refl)

shown_both : (last : Bool) (w : Word) (is : Bool) → word_shown false w ≡ Some is → word_shown last w ≡ Some is
shown_both last Start is e = absurd (cc)
shown_both last (Letters k) is e = absurd (cc)
shown_both last words.Run is e = absurd (cc)
shown_both last Text is e = absurd (cc)
shown_both last Joined is e = absurd (cc)
shown_both last (Behind known) is e = absurd (cc)
shown_both last (Known known) is e = e

word_nil : (last : Bool) (s : Scan) → word_of last s [] ≡ word_shown last s.word
unfolding word_of
word_nil last s = refl

word_known : (last : Bool) (s : Scan) (b : ℕ) (bs : List ℕ) (is : Bool) → word_shown false s.word ≡ Some is → word_of last s (b ∷ bs) ≡ Some is
unfolding word_of
word_known last s b bs is e = rw (e, word_of) refl

word_goes : (last : Bool) (s t : Scan) (b : ℕ) (bs : List ℕ) → word_shown false s.word ≡ None → Goes t ≡ step s b → word_of last s (b ∷ bs) ≡ word_of last t bs
unfolding word_of
word_goes last s t b bs e h = rw (e, ← h, word_of) refl

word_ends_at : (last : Bool) (s : Scan) (b : ℕ) (bs : List ℕ) → word_shown false s.word ≡ None → Ends ≡ step s b → word_of last s (b ∷ bs) ≡ word_shown true (word_settled s.word)
unfolding word_of
word_ends_at last s b bs e h = rw (e, ← h, word_of) refl

word_opens : (last : Bool) (s : Scan) (b : ℕ) (bs : List ℕ) → word_shown false s.word ≡ None → Opens ≡ step s b → word_of last s (b ∷ bs) ≡ Some true
unfolding word_of
word_opens last s b bs e h = rw (e, ← h, word_of) refl

-- a word that the bytes show is shown whatever follows
word_open : (last : Bool) (s : Scan) (y : List ℕ) (w : Bool) → word_shown false s.word ≡ Some w → word_of last s y ≡ Some w
word_open last s [] w e = word_nil last s ∙ shown_both last s.word w e
word_open last s (b ∷ bs) w e = word_known last s b bs w e

word_byte_on : (last : Bool) (s : Scan) (b : ℕ) (bs y : List ℕ) (w : Bool) → word_shown false s.word ≡ None → word_of false s (b ∷ bs) ≡ Some w
    → ((t : Scan) → word_of false t bs ≡ Some w → word_of last t (bs ++ y) ≡ Some w) → word_of last s (b ∷ bs ++ y) ≡ Some w
word_byte_on last s b bs y w none e more = elim (stepped s b) [
  | Went t h ↦ word_goes last s t b (bs ++ y) none h ∙ more t (sym (word_goes false s t b bs none h) ∙ e)
  | Ended h ↦ word_ends_at last s b (bs ++ y) none h ∙ sym (word_ends_at false s b bs none h) ∙ e
  | Opened h ↦ word_opens last s b (bs ++ y) none h ∙ sym (word_opens false s b bs none h) ∙ e
]

word_as : (last : Bool) (s : Scan) (b : ℕ) (bs y : List ℕ) (w : Bool) (o : Option Bool) → word_shown false s.word ≡ o → word_of false s (b ∷ bs) ≡ Some w
    → ((t : Scan) → word_of false t bs ≡ Some w → word_of last t (bs ++ y) ≡ Some w) → word_of last s (b ∷ bs ++ y) ≡ Some w
word_as last s b bs y w None k e more = word_byte_on last s b bs y w k e more
word_as last s b bs y w (Some is) k e more = word_known last s b (bs ++ y) is k ∙ sym (word_known false s b bs is k) ∙ e

pub word_stays : (last : Bool) (s : Scan) (x y : List ℕ) (w : Bool) → word_of false s x ≡ Some w → word_of last s (x ++ y) ≡ Some w
word_stays last s [] y w e = word_open last s y w (sym (word_nil false s) ∙ e)
word_stays last s (b ∷ bs) y w e = word_as last s b bs y w (word_shown false s.word) refl e (λ t h. word_stays last t bs y w h)

-- with the text's end a word is always shown
pub record Shows (last : Bool) (s : Scan) (x : List ℕ) : Type 0 where
  pub word : Bool
  pub is : word_of last s x ≡ Some word

total_by : (s : Scan) (b : ℕ) (bs : List ℕ) (o : Option Bool) → word_shown false s.word ≡ o → ((t : Scan) → Shows true t bs) → Shows true s (b ∷ bs)
total_by s b bs (Some is) e more = record { word = is; is = word_known true s b bs is e }
total_by s b bs None e more = elim (stepped s b) [
  | Went t h ↦ (let k = more t in record { word = k.word; is = word_goes true s t b bs e h ∙ k.is })
  | Ended h ↦ (let k = shown_true (word_settled s.word) in record { word = k.0; is = word_ends_at true s b bs e h ∙ k.1 })
  | Opened h ↦ record { word = true; is = word_opens true s b bs e h }
]

pub word_total : (s : Scan) (x : List ℕ) → Shows true s x
word_total s [] = let k = shown_true s.word in record { word = k.0; is = word_nil true s ∙ k.1 }
word_total s (b ∷ bs) = total_by s b bs (word_shown false s.word) refl (λ t. word_total t bs)

-- where the bytes show an end, they show the word
end_nil : (k : Scan) (f : Found) → end_of false k [] ≡ Some f → ⊥
unfolding end_of
end_nil k f e = absurd (let r = e in cc)

settles_by : (s k : Scan) (b : ℕ) (bs : List ℕ) (f : Found) (o : Option Bool) → word_shown false s.word ≡ o → Beside s k → end_of false k (b ∷ bs) ≡ Some f → ((t u : Scan) (g : Found) → Beside t u → end_of false u bs ≡ Some g → Shows false t bs) → Shows false s (b ∷ bs)
settles_by s k b bs f (Some is) shown e h more = record { word = is; is = word_known false s b bs is shown }
settles_by s k b bs f None shown e h more = elim (step_both s k b e) [
  | Go t u p q side ↦ (
      let l = later-some 1 (end_of false u bs) f (sym (end_goes false k b bs u (sym q)) ∙ h) in
      let m = more t u (found l.found_len l.opens) side l.is in
      record { word = m.word; is = word_goes false s t b bs shown (sym p) ∙ m.is })
  | End p q ↦ (let m = shown_true (word_settled s.word) in record { word = m.0; is = word_ends_at false s b bs shown (sym p) ∙ m.1 })
  | Open p ↦ record { word = true; is = word_opens false s b bs shown (sym p) }
]

settles : (s k : Scan) (x : List ℕ) (f : Found) → Beside s k → end_of false k x ≡ Some f → Shows false s x
settles s k [] f e h = absurd (end_nil k f h)
settles s k (b ∷ bs) f e h = settles_by s k b bs f (word_shown false s.word) refl e h (λ t u g side h. settles t u bs g side h)

-- outside blocks a word may be unknown; at a { it is not
abbrev is_deep : Mode → Bool
is_deep Free = false
is_deep Run = false
is_deep Slash = false
is_deep (Quoted quote) = false
is_deep Line = false
is_deep (Block star) = false
is_deep Brace = true
is_deep (Note star) = true

abbrev Calm : Scan → Type 0
Calm s = (is_known s.word ≡ true) ⊎ ((s.depth ≡ 0) × (is_deep s.mode ≡ false))

abbrev IsCalm : After → Type 0
IsCalm (Goes t) = Calm t
IsCalm Ends = ⊤
IsCalm Opens = ⊤

record CalmBehind (a : After) : Type 0 where
  is : IsCalm a

calm_if : (t : Bool) (p q : After) → CalmBehind p → CalmBehind q → CalmBehind (cond t p q)
calm_if true p q a b = a
calm_if false p q a b = b

to_known : (mode : Mode) (depth : ℕ) (w : Word) → is_known w ≡ true → CalmBehind (goes mode depth w)
to_known mode depth w e = record { is = inl e }

to_calm : (mode : Mode) (w : Word) → is_deep mode ≡ false → CalmBehind (goes mode 0 w)
to_calm mode w e = record { is = inr (refl, e) }

calm_ends : CalmBehind Ends
calm_ends = record { is = tt }

calm_opens : CalmBehind Opens
calm_opens = record { is = tt }

settled_known : (w : Word) → is_known (word_settled w) ≡ true
settled_known Start = refl
settled_known (Letters k) = refl
settled_known words.Run = refl
settled_known Text = refl
settled_known Joined = refl
settled_known (Behind is) = refl
settled_known (Known is) = refl

-- a word that is known stays so
module _ (v : Bool) where
  known_if : (b : Bool) → is_known (cond b (Known v) (Known v)) ≡ true
  known_if true = refl
  known_if false = refl

  known_mark : (depth b : ℕ) → CalmBehind (mark_step (Known v) depth b)
  unfolding mark_step
  known_mark depth b =
      calm_if (eqb b 59) _ _ (calm_if (eqb depth 0) _ _ calm_ends (to_known Free depth _ refl))
      (calm_if (eqb b 125) _ _ (calm_if (eqb depth 1) _ _ calm_ends (to_known Free (depth - 1) _ refl))
      (calm_if (eqb b 123) _ _ (to_known Brace depth _ refl)
      (calm_if (other_mark b) _ _ (to_known Free depth _ (known_if (eqb b 58))) (to_known Run depth _ refl))))

  known_run : (depth b : ℕ) → CalmBehind (run_step (Known v) depth b)
  unfolding run_step
  known_run depth b = calm_if (is_blank b) _ _ (to_known Free depth _ refl) (calm_if (is_quote b) _ _ (to_known (Quoted b) depth _ (known_if (eqb b 34))) (known_mark depth b))

  known_free : (depth b : ℕ) → CalmBehind (free_step (Known v) depth b)
  unfolding free_step
  known_free depth b = calm_if (eqb b 47) _ _ (to_known Slash depth _ refl) (known_run depth b)

  known_inside : (ends : Bool) (mode : Mode) (depth : ℕ) → CalmBehind (inside ends mode (Known v) depth)
  known_inside ends mode depth = calm_if ends _ _ (to_known Free depth _ refl) (to_known mode depth _ refl)

  known_mode : (mode : Mode) (depth b : ℕ) → CalmBehind (mode_step mode (Known v) depth b)
  unfolding mode_step
  known_mode Free depth b = known_free depth b
  known_mode Run depth b = known_run depth b
  known_mode Slash depth b = calm_if (eqb b 47) _ _ (to_known Line depth _ refl) (calm_if (eqb b 42) _ _ (to_known (Block false) depth _ refl) (known_run depth b))
  known_mode (Quoted quote) depth b = known_inside (eqb b quote) (Quoted quote) depth
  known_mode Line depth b = known_inside (eqb b 10) Line depth
  known_mode (Block star) depth b = known_inside (star && eqb b 47) (Block (eqb b 42)) depth
  known_mode Brace depth b = calm_if (eqb b 42) _ _ (to_known (Note false) depth _ refl) (calm_if (v && eqb depth 0) _ _ calm_opens (known_free (depth + 1) b))
  known_mode (Note star) depth b = calm_if (star && eqb b 125) _ _ (calm_if (eqb depth 0) _ _ calm_ends (to_known Free depth _ refl)) (to_known (Note (eqb b 42)) depth _ refl)

known_by : (mode : Mode) (w : Word) (depth b : ℕ) → is_known w ≡ true → CalmBehind (mode_step mode w depth b)
known_by mode Start depth b e = absurd cc
known_by mode (Letters k) depth b e = absurd cc
known_by mode words.Run depth b e = absurd cc
known_by mode Text depth b e = absurd cc
known_by mode Joined depth b e = absurd cc
known_by mode (Behind is) depth b e = absurd cc
known_by mode (Known is) depth b e = known_mode is mode depth b

-- and outside blocks only a { opens one
module _ (w : Word) where
  out_mark : (w : Word) (b : ℕ) → CalmBehind (mark_step w 0 b)
  unfolding mark_step
  out_mark w b =
      calm_if (eqb b 59) _ _ calm_ends
      (calm_if (eqb b 125) _ _ (to_known Free (0 - 1) _ (settled_known w))
      (calm_if (eqb b 123) _ _ (to_known Brace 0 _ (settled_known w))
      (calm_if (other_mark b) _ _ (to_calm Free _ refl) (to_calm Run _ refl))))

  out_run : (w : Word) (b : ℕ) → CalmBehind (run_step w 0 b)
  unfolding run_step
  out_run w b = calm_if (is_blank b) _ _ (to_calm Free _ refl) (calm_if (is_quote b) _ _ (to_calm (Quoted b) _ refl) (out_mark w b))

  out_inside : (ends : Bool) (mode : Mode) → is_deep mode ≡ false → CalmBehind (inside ends mode w 0)
  out_inside ends mode e = calm_if ends _ _ (to_calm Free _ refl) (to_calm mode _ e)

  out_mode : (mode : Mode) (b : ℕ) → is_deep mode ≡ false → CalmBehind (mode_step mode w 0 b)
  unfolding mode_step free_step
  out_mode Free b e = calm_if (eqb b 47) _ _ (to_calm Slash _ refl) (out_run w b)
  out_mode Run b e = out_run w b
  out_mode Slash b e = calm_if (eqb b 47) _ _ (to_calm Line _ refl) (calm_if (eqb b 42) _ _ (to_calm (Block false) _ refl) (out_run (word_byte 47 w) b))
  out_mode (Quoted quote) b e = out_inside (eqb b quote) (Quoted quote) refl
  out_mode Line b e = out_inside (eqb b 10) Line refl
  out_mode (Block star) b e = out_inside (star && eqb b 47) (Block (eqb b 42)) refl
  out_mode Brace b e = absurd cc
  out_mode (Note star) b e = absurd cc

calm_step : (s t : Scan) (b : ℕ) → Calm s → Goes t ≡ step s b → Calm t
unfolding step
calm_step s t b c h = (subst CalmBehind (sym h) (by c)).is
  where
    by : Calm s → CalmBehind (mode_step s.mode s.word s.depth b)
    by (inl e) = known_by s.mode s.word s.depth b e
    by (inr k) = subst (λ (d : ℕ). CalmBehind (mode_step s.mode s.word d b)) (sym k.0) (out_mode s.word s.mode b k.1)

-- outside blocks a } ends nothing
never_ends : (t : Bool) (p q : After) → (Ends ≡ p → ⊥) → (Ends ≡ q → ⊥) → Ends ≡ cond t p q → ⊥
never_ends true p q f g e = f e
never_ends false p q f g e = g e

no_end : (mode : Mode) (w : Word) → is_deep mode ≡ false → Ends ≡ mode_step mode w 0 125 → ⊥
unfolding mode_step free_step run_step mark_step
no_end Free w e h = absurd cc
no_end Run w e h = absurd cc
no_end Slash w e h = absurd cc
no_end (Quoted quote) w e h = never_ends (eqb 125 quote) _ _ (λ k. absurd cc) (λ k. absurd cc) h
no_end Line w e h = absurd cc
no_end (Block star) w e h = never_ends (star && eqb 125 47) _ _ (λ k. absurd cc) (λ k. absurd cc) h
no_end Brace w e h = absurd cc
no_end (Note star) w e h = absurd cc

known_shown : (w : Word) → is_known w ≡ true → (is : Bool) × (word_shown false w ≡ Some is)
known_shown Start e = absurd cc
known_shown (Letters k) e = absurd cc
known_shown words.Run e = absurd cc
known_shown Text e = absurd cc
known_shown Joined e = absurd cc
known_shown (Behind is) e = absurd cc
known_shown (Known is) e = (is, refl)

-- so where a } would end the part right behind some bytes, these show the word
at_end : (s k : Scan) → Calm s → Beside s k → Ends ≡ step k 125 → Shows false s []
unfolding step
at_end s k (inl e) side h = let w = known_shown s.word e in record { word = w.0; is = word_nil false s ∙ w.1 }
at_end s k (inr c) side h = absurd (no_end s.mode k.word c.1 (subst (λ (d : ℕ). Ends ≡ mode_step s.mode k.word d 125) (sym (sym c.0 ∙ side.depth)) (subst (λ (m : Mode). Ends ≡ mode_step m k.word k.depth 125) (sym side.mode) h)))

brace_by : (s k : Scan) (b : ℕ) (bs : List ℕ) (f : Found) (o : Option Bool) → word_shown false s.word ≡ o → Calm s → Beside s k → end_of false k (b ∷ (bs ++ 125 ∷ [])) ≡ Some f → f.len ≡ suc (suc (length bs))
    → ((t u : Scan) (g : Found) → Calm t → Beside t u → end_of false u (bs ++ 125 ∷ []) ≡ Some g → g.len ≡ suc (length bs) → Shows false t bs) → Shows false s (b ∷ bs)
brace_by s k b bs f (Some is) shown c e h len more = record { word = is; is = word_known false s b bs is shown }
brace_by s k b bs f None shown c e h len more = elim (step_both s k b e) [
  | Go t u p q side ↦ (
      let l = later-some 1 (end_of false u (bs ++ 125 ∷ [])) f (sym (end_goes false k b (bs ++ 125 ∷ []) u (sym q)) ∙ h) in
      let size = l.len in
      let m = more t u (found l.found_len l.opens) (calm_step s t b c (sym p)) side l.is (omega (arith, size, len)) in
      record { word = m.word; is = word_goes false s t b bs shown (sym p) ∙ m.is })
  | End p q ↦ absurd (let r : found 1 false ≡ f = (let x = sym (end_ends false k b (bs ++ 125 ∷ []) (sym q)) ∙ h in cc) in let n : 1 ≡ f.len = ap (λ (g : Found). g.len) r in omega (arith, n, len))
  | Open p ↦ record { word = true; is = word_opens false s b bs shown (sym p) }
]

brace_settles : (s k : Scan) (x : List ℕ) (f : Found) → Calm s → Beside s k → end_of false k (x ++ 125 ∷ []) ≡ Some f → f.len ≡ suc (length x) → Shows false s x
brace_settles s k [] f c e h len = elim (stepped k 125) [
  | Went t g ↦ absurd (let l = later-some 1 (end_of false t []) f (sym (end_goes false k 125 [] t g) ∙ h) in end_nil t (found l.found_len l.opens) l.is)
  | Ended g ↦ at_end s k c e g
  | Opened g ↦ absurd (let r : found 0 true ≡ f = (let x = sym (end_opens false k 125 [] g) ∙ h in cc) in let n : 0 ≡ f.len = ap (λ (g : Found). g.len) r in omega (arith, n, len))
]
brace_settles s k (b ∷ bs) f c e h len = brace_by s k b bs f (word_shown false s.word) refl c e h len (λ t u g c side h len. brace_settles t u bs g c side h len)

-- from the beginning of a part
abbrev start : Scan
start = record { mode = Free; depth = 0; word = Start }

abbrev known : Scan
known = record { mode = Free; depth = 0; word = Known false }

begin_beside : Beside start known
begin_beside = record { mode = refl; depth = refl; known = refl }

pub word_where_ended : (x : List ℕ) (f : Found) → end_of false known x ≡ Some f → Shows false start x
word_where_ended x f e = settles start known x f begin_beside e

pub word_where_opened : (x : List ℕ) (f : Found) → end_of false known (x ++ 125 ∷ []) ≡ Some f → f.len ≡ suc (length x) → Shows false start x
word_where_opened x f e len = brace_settles start known x f (inr (refl, refl)) begin_beside e len
