-- A scan, byte after byte.
use Rattle.std.proofs.Common.{◌≡◌, ℕ, ◌+◌, ◌-◌, ◌<◌, ◌≤◌, Bool, true, false, cond, List, ◌∷◌, length, drop, get_or, eqb, ◌&&◌, Option, Some, None, refl, ap, ◌∙◌, arith}
use Rattle.std.proofs.lemmas.List.{drop_more, drop_all}
use Rattle.stil_parts.specs.declared.word.Word.{Word}
use Rattle.stil_parts.specs.Words.{names_pattern}
use Rattle.stil_parts.specs.declared.scan.Mode.{Mode}
use Rattle.stil_parts.specs.declared.scan.Mode.TheVariants.{Free, Run, Slash, Quoted, Line, Block, Brace, Note}
use Rattle.stil_parts.specs.declared.scan.Scan.{Scan}
use Rattle.stil_parts.specs.declared.scan.After.{After}
use Rattle.stil_parts.specs.declared.scan.After.TheVariants.{Goes, Ends, Opens}
use Rattle.stil_parts.specs.declared.scan.Found.{Found}
use Rattle.stil_tokens.specs.StilTokens.{is_blank, is_quote, other_mark}
use Rattle.stil_parts.specs.Scanner.{goes, mark_step, run_step, free_step, inside, mode_step, step, at_brace, found, later, end_of, run, HasReached}

-- what goes on has at most so many blocks open
abbrev pub AtMost : ℕ → After → Type 0
AtMost n (Goes t) = t.depth ≤ n
AtMost n Ends = Unit {0}
AtMost n Opens = Unit {0}

pub record IsShallow (n : ℕ) (a : After) : Type 0 where
  pub is : AtMost n a

cond_at : (b : Bool) (p q : After) (n : ℕ) → IsShallow n p → IsShallow n q → IsShallow n (cond b p q)
cond_at true p q n h k = h
cond_at false p q n h k = k

goes_at : (mode : Mode) (depth n : ℕ) (word : Word) → depth ≤ n → IsShallow n (goes mode depth word)
goes_at mode depth n word h = record { is = h }

ends_at : (n : ℕ) → IsShallow n Ends
ends_at n = record { is = tt }

opens_at : (n : ℕ) → IsShallow n Opens
opens_at n = record { is = tt }

mark_at : (word : Word) (depth b n : ℕ) → depth ≤ n → IsShallow n (mark_step word depth b)
unfolding mark_step
mark_at word depth b n h =
    cond_at (eqb b 59) _ _ _ (cond_at (eqb depth 0) _ _ _ (ends_at n) (goes_at Free depth n _ h))
    (cond_at (eqb b 125) _ _ _ (cond_at (eqb depth 1) _ _ _ (ends_at n) (goes_at Free (depth - 1) n _ (omega arith)))
    (cond_at (eqb b 123) _ _ _ (goes_at Brace depth n _ h)
    (cond_at (other_mark b) _ _ _ (goes_at Free depth n _ h) (goes_at Run depth n _ h))))

run_at : (word : Word) (depth b n : ℕ) → depth ≤ n → IsShallow n (run_step word depth b)
unfolding run_step
run_at word depth b n h = cond_at (is_blank b) _ _ _ (goes_at Free depth n _ h) (cond_at (is_quote b) _ _ _ (goes_at (Quoted b) depth n _ h) (mark_at word depth b n h))

free_at : (word : Word) (depth b n : ℕ) → depth ≤ n → IsShallow n (free_step word depth b)
unfolding free_step
free_at word depth b n h = cond_at (eqb b 47) _ _ _ (goes_at Slash depth n _ h) (run_at word depth b n h)

inside_at : (ends : Bool) (mode : Mode) (word : Word) (depth n : ℕ) → depth ≤ n → IsShallow n (inside ends mode word depth)
inside_at ends mode word depth n h = cond_at ends _ _ _ (goes_at Free depth n word h) (goes_at mode depth n word h)

mode_at : (mode : Mode) (word : Word) (depth b n : ℕ) → depth + 1 ≤ n → IsShallow n (mode_step mode word depth b)
unfolding mode_step
mode_at Free word depth b n h = free_at word depth b n (omega arith)
mode_at Run word depth b n h = run_at word depth b n (omega arith)
mode_at Slash word depth b n h =
    cond_at (eqb b 47) _ _ _ (goes_at Line depth n _ (omega arith)) (cond_at (eqb b 42) _ _ _ (goes_at (Block false) depth n _ (omega arith)) (run_at _ depth b n (omega arith)))
mode_at (Quoted quote) word depth b n h = inside_at (eqb b quote) (Quoted quote) word depth n (omega arith)
mode_at Line word depth b n h = inside_at (eqb b 10) Line word depth n (omega arith)
mode_at (Block star) word depth b n h = inside_at (star && eqb b 47) (Block (eqb b 42)) word depth n (omega arith)
mode_at Brace word depth b n h =
    cond_at (eqb b 42) _ _ _ (goes_at (Note false) depth n word (omega arith)) (cond_at (names_pattern word && eqb depth 0) _ _ _ (opens_at n) (free_at word (depth + 1) b n h))
mode_at (Note star) word depth b n h =
    cond_at (star && eqb b 125) _ _ _ (cond_at (eqb depth 0) _ _ _ (ends_at n) (goes_at Free depth n word (omega arith))) (goes_at (Note (eqb b 42)) depth n word (omega arith))

pub step_at : (s : Scan) (b : ℕ) → IsShallow (s.depth + 1) (step s b)
unfolding step
step_at s b = mode_at s.mode s.word s.depth b (s.depth + 1) (omega arith)

pub step_depth : (s t : Scan) (b : ℕ) → Goes t ≡ step s b → t.depth ≤ s.depth + 1
step_depth s t b e = let h = step_at s b in let k = rw (← e) at h in k.is

pub later-later : (n m : ℕ) (o : Option Found) → later n (later m o) ≡ later (n + m) o
later-later n m None = refl
later-later n m (Some f) = let e : n + (m + f.len) ≡ n + m + f.len = omega arith in rw e refl

pub later-zero : (o : Option Found) → later 0 o ≡ o
later-zero None = refl
later-zero (Some f) = let e : 0 + f.len ≡ f.len = omega arith in rw e refl

module _ (last : Bool) (s : Scan) (b : ℕ) (bs : List ℕ) where
  pub end_goes : (t : Scan) → Goes t ≡ step s b → end_of last s (b ∷ bs) ≡ later 1 (end_of last t bs)
  unfolding end_of
  end_goes t e = rw (← e, end_of) refl

  pub end_ends : Ends ≡ step s b → end_of last s (b ∷ bs) ≡ Some (found 1 false)
  unfolding end_of
  end_ends e = rw (← e, end_of) refl

  pub end_opens : Opens ≡ step s b → end_of last s (b ∷ bs) ≡ Some (found 0 true)
  unfolding end_of
  end_opens e = rw (← e, end_of) refl

module _ (s : Scan) (b : ℕ) (bs : List ℕ) where
  pub run_goes : (t : Scan) → Goes t ≡ step s b → run s (b ∷ bs) ≡ run t bs
  unfolding run
  run_goes t e = rw (← e, run) refl

-- one turn of a scan at a place
module _ (last : Bool) (s t : Scan) (bytes : List ℕ) (at : ℕ) (lt : at < length bytes) where
  pub turn_goes : Goes t ≡ step s (get_or bytes at 0) → later at (end_of last s (drop at bytes)) ≡ later (at + 1) (end_of last t (drop (at + 1) bytes))
  turn_goes e = rw (drop_more bytes at 0 lt, end_goes last s (get_or bytes at 0) (drop (at + 1) bytes) t e) (later-later at 1 _)

  pub turn_run : Goes t ≡ step s (get_or bytes at 0) → run s (drop at bytes) ≡ run t (drop (at + 1) bytes)
  turn_run e = rw (drop_more bytes at 0 lt) (run_goes s (get_or bytes at 0) (drop (at + 1) bytes) t e)

  pub turn_ends : Ends ≡ step s (get_or bytes at 0) → later at (end_of last s (drop at bytes)) ≡ Some (found (at + 1) false)
  turn_ends e = rw (drop_more bytes at 0 lt, end_ends last s (get_or bytes at 0) (drop (at + 1) bytes) e) refl

  pub turn_opens : Opens ≡ step s (get_or bytes at 0) → later at (end_of last s (drop at bytes)) ≡ Some (found at true)
  turn_opens e = rw (drop_more bytes at 0 lt, end_opens last s (get_or bytes at 0) (drop (at + 1) bytes) e) (let k : at + 0 ≡ at = omega arith in rw k refl)

-- where the text ends
module _ (last : Bool) (s : Scan) (bytes : List ℕ) (at : ℕ) (le : length bytes ≤ at) where
  pub stop_opens : last ≡ true → at_brace s ≡ true → later at (end_of last s (drop at bytes)) ≡ Some (found at true)
  unfolding end_of
  stop_opens l e = rw (drop_all at bytes le, l, e) (let k : at + 0 ≡ at = omega arith in rw k refl)

  pub stop_none : (last && at_brace s) ≡ false → end_of last s (drop at bytes) ≡ None
  unfolding end_of
  stop_none e = rw (drop_all at bytes le, e) refl

  pub stop_run : run s (drop at bytes) ≡ s
  unfolding run
  stop_run = rw (drop_all at bytes le) refl

-- what is later None is None
pub later-none : (n : ℕ) (o : Option Found) → later n o ≡ None → o ≡ None
later-none n None e = refl
later-none n (Some f) e = absurd (cc)

-- a scan came to the end of the bytes
pub reached : (last : Bool) (s t : Scan) (bytes : List ℕ) (from at : ℕ) → length bytes ≤ at → at ≤ length bytes → t.depth ≤ at → (last && at_brace t) ≡ false
    → later from (end_of last s (drop from bytes)) ≡ later at (end_of last t (drop at bytes)) → run s (drop from bytes) ≡ run t (drop at bytes)
    → HasReached last bytes from s t
reached last s t bytes from at le ge shallow closed same ran = record {
  none = later-none from _ (same ∙ ap (later at) (stop_none last t bytes at le closed));
  same = ran ∙ stop_run last t bytes at le;
  shallow = omega arith;
}
