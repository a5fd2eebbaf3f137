-- Beside a scan of a part goes one that knows of no Pattern, up to the brace that opens one; and what is known of a word stays.
use Rattle.std.proofs.Common.{◌≡◌, ℕ, ◌+◌, ◌-◌, Bool, true, false, cond, ◌&&◌, eqb, List, [], ◌∷◌, None, refl, sym, ap, ◌∙◌}
use Rattle.stil_tokens.specs.StilTokens.{is_blank, is_quote, other_mark}
use Rattle.stil_parts.specs.declared.word.Word.{Word}
use Rattle.stil_parts.specs.declared.word.Word.TheVariants.{Known}
use Rattle.stil_parts.specs.Words.{word_byte, quote_word, mark_word, names_pattern}
use Rattle.stil_parts.specs.declared.scan.Mode.{Mode}
use Rattle.stil_parts.specs.declared.scan.Mode.TheVariants.{Free, Run, Slash, Quoted, Line, Block, Brace, Note}
use Rattle.stil_parts.specs.declared.scan.Scan.{Scan}
use Rattle.stil_parts.specs.declared.scan.After.{After}
use Rattle.stil_parts.specs.declared.scan.After.TheVariants.{Goes, Ends, Opens}
use Rattle.stil_parts.specs.Scanner.{goes, mark_step, run_step, free_step, inside, mode_step, step, end_of, run, later}
use Rattle.stil_parts.proofs.Scans.{later-none}
use Rattle.stil_parts.proofs.Ends.{Went, Ended, Opened, stepped, end_goes, end_ends, end_opens, run_goes}

-- the scan that knows of no Pattern
abbrev pub forget : Scan → Scan
forget s = record { mode = s.mode; depth = s.depth; word = Known false }

-- what a byte makes of a scan with this word, and of the one beside it
abbrev pub Beside : Word → After → After → Type 0
Beside w (Goes t) a = (a ≡ Goes (forget t)) × ((is : Bool) → w ≡ Known is → t.word ≡ Known is)
Beside w Ends a = a ≡ Ends
Beside w Opens a = names_pattern w ≡ true

pub record IsBeside (w : Word) (a c : After) : Type 0 where
  pub is : Beside w a c

cond_same : {X : Type 0} (b : Bool) (x : X) → cond b x x ≡ x
cond_same true x = refl
cond_same false x = refl

module _ (w : Word) where
  beside_cond : (b : Bool) (p q r s : After) → IsBeside w p r → IsBeside w q s → IsBeside w (cond b p q) (cond b r s)
  beside_cond true p q r s h k = h
  beside_cond false p q r s h k = k

  beside_opens : (n d : Bool) (q s : After) → names_pattern w ≡ n → IsBeside w q s → IsBeside w (cond (n && d) Opens q) s
  beside_opens true true q s e h = record { is = e }
  beside_opens true false q s e h = h
  beside_opens false d q s e h = h

  beside_goes : (m : Mode) (d : ℕ) (v u : Word) → u ≡ Known false → ((is : Bool) → w ≡ Known is → v ≡ Known is) → IsBeside w (goes m d v) (goes m d u)
  beside_goes m d v u e k = record { is = (ap (goes m d) e, k) }

  beside_ends : IsBeside w Ends Ends
  beside_ends = record { is = refl }

  -- the words that are known where the first is
  module _ (v : Word) (k : (is : Bool) → w ≡ Known is → v ≡ Known is) where
    mark_known : (b : ℕ) (is : Bool) → w ≡ Known is → mark_word b v ≡ Known is
    mark_known b is e = let h = k is e in rw h (cond_same (eqb b 58) (Known is))

    quote_known : (b : ℕ) (is : Bool) → w ≡ Known is → quote_word b v ≡ Known is
    quote_known b is e = let h = k is e in rw h (cond_same (eqb b 34) (Known is))

    mark_beside : (d b : ℕ) → IsBeside w (mark_step v d b) (mark_step (Known false) d b)
    unfolding mark_step
    mark_beside d b =
        beside_cond (eqb b 59) _ _ _ _ (beside_cond (eqb d 0) _ _ _ _ beside_ends (beside_goes Free d _ _ refl (λ is e. let h = k is e in rw h refl)))
        (beside_cond (eqb b 125) _ _ _ _ (beside_cond (eqb d 1) _ _ _ _ beside_ends (beside_goes Free (d - 1) _ _ refl (λ is e. let h = k is e in rw h refl)))
        (beside_cond (eqb b 123) _ _ _ _ (beside_goes Brace d _ _ refl (λ is e. let h = k is e in rw h refl))
        (beside_cond (other_mark b) _ _ _ _ (beside_goes Free d _ _ (cond_same (eqb b 58) (Known false)) (mark_known b))
        (beside_goes Run d _ _ refl (λ is e. let h = k is e in rw h refl)))))

    run_beside : (d b : ℕ) → IsBeside w (run_step v d b) (run_step (Known false) d b)
    unfolding run_step
    run_beside d b =
        beside_cond (is_blank b) _ _ _ _ (beside_goes Free d _ _ refl (λ is e. let h = k is e in rw h refl))
        (beside_cond (is_quote b) _ _ _ _ (beside_goes (Quoted b) d _ _ (cond_same (eqb b 34) (Known false)) (quote_known b)) (mark_beside d b))

    free_beside : (d b : ℕ) → IsBeside w (free_step v d b) (free_step (Known false) d b)
    unfolding free_step
    free_beside d b = beside_cond (eqb b 47) _ _ _ _ (beside_goes Slash d _ _ refl k) (run_beside d b)

  stays : (is : Bool) → w ≡ Known is → w ≡ Known is
  stays is e = e

  inside_beside : (ends : Bool) (m : Mode) (d : ℕ) → IsBeside w (inside ends m w d) (inside ends m (Known false) d)
  inside_beside ends m d = beside_cond ends _ _ _ _ (beside_goes Free d _ _ refl stays) (beside_goes m d _ _ refl stays)

  mode_beside : (m : Mode) (d b : ℕ) → IsBeside w (mode_step m w d b) (mode_step m (Known false) d b)
  unfolding mode_step
  mode_beside Free d b = free_beside w stays d b
  mode_beside Run d b = run_beside w stays d b
  mode_beside Slash d b =
      beside_cond (eqb b 47) _ _ _ _ (beside_goes Line d _ _ refl (λ is e. rw e refl))
      (beside_cond (eqb b 42) _ _ _ _ (beside_goes (Block false) d _ _ refl (λ is e. rw e refl)) (run_beside (word_byte 47 w) (λ is e. rw e refl) d b))
  mode_beside (Quoted quote) d b = inside_beside (eqb b quote) (Quoted quote) d
  mode_beside Line d b = inside_beside (eqb b 10) Line d
  mode_beside (Block star) d b = inside_beside (star && eqb b 47) (Block (eqb b 42)) d
  mode_beside Brace d b =
      beside_cond (eqb b 42) _ _ _ _ (beside_goes (Note false) d _ _ refl stays) (beside_opens (names_pattern w) (eqb d 0) _ _ refl (free_beside w stays (d + 1) b))
  mode_beside (Note star) d b =
      beside_cond (star && eqb b 125) _ _ _ _ (beside_cond (eqb d 0) _ _ _ _ beside_ends (beside_goes Free d _ _ refl stays)) (beside_goes (Note (eqb b 42)) d _ _ refl stays)

step_beside : (s : Scan) (b : ℕ) → IsBeside s.word (step s b) (step (forget s) b)
unfolding step
step_beside s b = mode_beside s.word s.mode s.depth b

pub beside-goes : (s t : Scan) (b : ℕ) → Goes t ≡ step s b → Goes (forget t) ≡ step (forget s) b
beside-goes s t b e = let h = step_beside s b in let k = rw (← e) at h in sym k.is.0

pub known-goes : (s t : Scan) (b : ℕ) (is : Bool) → Goes t ≡ step s b → s.word ≡ Known is → t.word ≡ Known is
known-goes s t b is e = let h = step_beside s b in let k = rw (← e) at h in k.is.1 is

pub beside-ends : (s : Scan) (b : ℕ) → Ends ≡ step s b → Ends ≡ step (forget s) b
beside-ends s b e = let h = step_beside s b in let k = rw (← e) at h in sym k.is

pub pattern-opens : (s : Scan) (b : ℕ) → Opens ≡ step s b → names_pattern s.word ≡ true
pattern-opens s b e = let h = step_beside s b in let k = rw (← e) at h in k.is

-- where no end is shown both go on together
pub record GoTogether (s : Scan) (x : List ℕ) : Type 0 where
  pub none : end_of false (forget s) x ≡ None
  pub same : run (forget s) x ≡ forget (run s x)

pub together : (s : Scan) (x : List ℕ) → end_of false s x ≡ None → GoTogether s x
unfolding end_of run
together s [] e = record { none = refl; same = refl }
together s (b ∷ bs) e = elim (stepped s b) [
  | Went t h ↦ (
      let rest = together t bs (later-none 1 (end_of false t bs) (sym (end_goes false s b bs t h) ∙ e)) in
      let beside = beside-goes s t b h in
      record {
        none = end_goes false (forget s) b bs (forget t) beside ∙ ap (later 1) rest.none;
        same = run_goes (forget s) (forget t) b bs beside ∙ rest.same ∙ ap forget (sym (run_goes s t b bs h));
      })
  | Ended h ↦ absurd (let k = sym (end_ends false s b bs h) ∙ e in cc)
  | Opened h ↦ absurd (let k = sym (end_opens false s b bs h) ∙ e in cc)
]
