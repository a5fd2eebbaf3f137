-- A statement in a Pattern ends where it does whatever stands behind it.
use Rattle.std.proofs.Common.{◌≡◌, ℕ, ◌+◌, ◌-◌, Bool, true, false, cond, eqb, ◌&&◌, List, [], ◌∷◌, ◌++◌, length, Some, None, refl, sym, ap, ◌∙◌, subst, arith}
use Rattle.stil_tokens.specs.StilTokens.{is_blank, is_quote, other_mark}
use Rattle.stil_parts.specs.declared.word.Word.{Word}
use Rattle.stil_parts.specs.declared.word.Word.TheVariants.{Known}
use Rattle.stil_parts.specs.Words.{names_pattern}
use Rattle.stil_parts.specs.declared.scan.Mode.{Mode}
use Rattle.stil_parts.specs.declared.scan.Mode.TheVariants.{Free, Run, Slash, Quoted, Line, Block, Brace, Note}
use Rattle.stil_parts.specs.declared.scan.Scan.{Scan}
use Rattle.stil_parts.specs.declared.scan.After.{After}
use Rattle.stil_parts.specs.declared.scan.After.TheVariants.{Goes, Ends, Opens}
use Rattle.stil_parts.specs.declared.scan.Found.{Found}
use Rattle.stil_parts.specs.Scanner.{goes, mark_step, run_step, free_step, inside, mode_step, step, is_brace, at_brace, found, later, end_of}
use Rattle.stil_parts.proofs.Ends.{Went, Ended, Opened, stepped, end_goes, end_ends, later-some}

-- the word stays known to be another than Pattern, and no Pattern opens
abbrev IsPlain : After → Type 0
IsPlain (Goes t) = t.word ≡ Known false
IsPlain Ends = Unit {0}
IsPlain Opens = ⊥

record Plain (a : After) : Type 0 where
  is : IsPlain a

either : (b : Bool) (p q : After) → Plain p → Plain q → Plain (cond b p q)
either true p q h k = h
either false p q h k = k

goes_plain : (mode : Mode) (depth : ℕ) (word : Word) → word ≡ Known false → Plain (goes mode depth word)
goes_plain mode depth word e = record { is = e }

ends_plain : Plain Ends
ends_plain = record { is = tt }

same : (b : Bool) → cond b (Known false) (Known false) ≡ Known false
same true = refl
same false = refl

mark_plain : (depth b : ℕ) → Plain (mark_step (Known false) depth b)
unfolding mark_step
mark_plain depth b =
    either (eqb b 59) _ _ (either (eqb depth 0) _ _ ends_plain (goes_plain Free depth _ refl))
    (either (eqb b 125) _ _ (either (eqb depth 1) _ _ ends_plain (goes_plain Free (depth - 1) _ refl))
    (either (eqb b 123) _ _ (goes_plain Brace depth _ refl)
    (either (other_mark b) _ _ (goes_plain Free depth _ (same (eqb b 58))) (goes_plain Run depth _ refl))))

run_plain : (depth b : ℕ) → Plain (run_step (Known false) depth b)
unfolding run_step
run_plain depth b = either (is_blank b) _ _ (goes_plain Free depth _ refl) (either (is_quote b) _ _ (goes_plain (Quoted b) depth _ (same (eqb b 34))) (mark_plain depth b))

free_plain : (depth b : ℕ) → Plain (free_step (Known false) depth b)
unfolding free_step
free_plain depth b = either (eqb b 47) _ _ (goes_plain Slash depth _ refl) (run_plain depth b)

inside_plain : (ends : Bool) (mode : Mode) (depth : ℕ) → Plain (inside ends mode (Known false) depth)
inside_plain ends mode depth = either ends _ _ (goes_plain Free depth _ refl) (goes_plain mode depth _ refl)

mode_plain : (mode : Mode) (depth b : ℕ) → Plain (mode_step mode (Known false) depth b)
unfolding mode_step
mode_plain Free depth b = free_plain depth b
mode_plain Run depth b = run_plain depth b
mode_plain Slash depth b = either (eqb b 47) _ _ (goes_plain Line depth _ refl) (either (eqb b 42) _ _ (goes_plain (Block false) depth _ refl) (run_plain depth b))
mode_plain (Quoted quote) depth b = inside_plain (eqb b quote) (Quoted quote) depth
mode_plain Line depth b = inside_plain (eqb b 10) Line depth
mode_plain (Block star) depth b = inside_plain (star && eqb b 47) (Block (eqb b 42)) depth
mode_plain Brace depth b = either (eqb b 42) _ _ (goes_plain (Note false) depth _ refl) (free_plain (depth + 1) b)
mode_plain (Note star) depth b = either (star && eqb b 125) _ _ (either (eqb depth 0) _ _ ends_plain (goes_plain Free depth _ refl)) (goes_plain (Note (eqb b 42)) depth _ refl)

step_plain : (s : Scan) (b : ℕ) → s.word ≡ Known false → Plain (step s b)
unfolding step
step_plain s b e = subst (λ (w : Word). Plain (mode_step s.mode w s.depth b)) (sym e) (mode_plain s.mode s.depth b)

no_opening : (s : Scan) (b : ℕ) → s.word ≡ Known false → Opens ≡ step s b → ⊥
no_opening s b e g = let p = subst (λ (a : After). Plain a) (sym g) (step_plain s b e) in p.is

known_on : (s t : Scan) (b : ℕ) → s.word ≡ Known false → Goes t ≡ step s b → t.word ≡ Known false
known_on s t b e g = let p = subst (λ (a : After). Plain a) (sym g) (step_plain s b e) in p.is

nothing : (s : Scan) (f : Found) → s.word ≡ Known false → end_of true s [] ≡ Some f → ⊥
unfolding end_of
nothing s f e h =
    let none : (true && at_brace s) ≡ false = ap (λ (w : Word). (names_pattern w && eqb s.depth 0) && is_brace s.mode) e in
    absurd (let k : None ≡ Some f = sym (ap (λ (b : Bool). cond b (Some (found 0 true)) None) none) ∙ h in cc)

-- an end in a Pattern is found without the bytes behind it
pub end_alone : (s : Scan) (x y : List ℕ) (f : Found) → s.word ≡ Known false → f.len ≡ length x → end_of true s (x ++ y) ≡ Some f → end_of false s x ≡ Some f
end_alone s [] [] f e len h = absurd (nothing s f e h)
end_alone s [] (b ∷ y) f e len h = elim (stepped s b) [
  | Went t g ↦ absurd (let w = later-some 1 (end_of true t y) f (sym (end_goes true s b y t g) ∙ h) in omega (arith, w.len))
  | Ended g ↦ absurd (let q : found 1 false ≡ f = (let r = sym (end_ends true s b y g) ∙ h in cc) in let l : 1 ≡ f.len = ap (λ (i : Found). i.len) q in omega arith)
  | Opened g ↦ absurd (no_opening s b e g)
]
end_alone s (b ∷ x) y f e len h = elim (stepped s b) [
  | Went t g ↦ (
      let w = later-some 1 (end_of true t (x ++ y)) f (sym (end_goes true s b (x ++ y) t g) ∙ h) in
      let shorter : w.found_len ≡ length x = omega (arith, w.len) in
      let more = end_alone t x y (found w.found_len w.opens) (known_on s t b e g) shorter w.is in
      end_goes false s b x t g ∙ ap (later 1) (more ∙ sym w.is) ∙ sym (end_goes true s b (x ++ y) t g) ∙ h)
  | Ended g ↦ end_ends false s b x g ∙ sym (end_ends true s b (x ++ y) g) ∙ h
  | Opened g ↦ absurd (no_opening s b e g)
]
