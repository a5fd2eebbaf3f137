-- Where a part ends in a text that goes on.
use Rattle.std.proofs.Common.{◌≡◌, ℕ, suc, ◌+◌, ◌≤◌, Bool, true, false, ◌&&◌, List, [], ◌∷◌, ◌++◌, length, Option, Some, None, refl, sym, ap, ◌∙◌, arith, inl, inr}
use Rattle.std.proofs.lemmas.Bool.{cases_Bool}
use Rattle.stil_parts.specs.declared.scan.Scan.{Scan}
use Rattle.stil_parts.specs.declared.scan.After.{After}
use Rattle.stil_parts.specs.declared.scan.After.TheVariants.{Goes, Ends, Opens}
use Rattle.stil_parts.specs.declared.scan.Found.{Found}
use Rattle.stil_parts.specs.Scanner.{step, at_brace, found, later, end_of, run}
use Rattle.stil_parts.proofs.Scans.{later-later, later-zero, later-none}

-- what a byte makes of a scan, with the fact
pub data Stepped (s : Scan) (b : ℕ) : Type 0 where
  Went : (t : Scan) → Goes t ≡ step s b → Stepped s b
  Ended : Ends ≡ step s b → Stepped s b
  Opened : Opens ≡ step s b → Stepped s b

stepped_as : (s : Scan) (b : ℕ) (a : After) → a ≡ step s b → Stepped s b
stepped_as s b (Goes t) e = Went t e
stepped_as s b Ends e = Ended e
stepped_as s b Opens e = Opened e

pub stepped : (s : Scan) (b : ℕ) → Stepped s b
stepped s b = stepped_as s b (step s b) refl

-- one byte in front, for each of the three
module _ (last : Bool) (s : Scan) (b : ℕ) (bs : List ℕ) where
  pub end_goes : (t : Scan) → Goes t ≡ step s b → end_of last s (b ∷ bs) ≡ later 1 (end_of last t bs)
  unfolding end_of
  end_goes t e = rw (← e, end_of) refl

  pub end_ends : Ends ≡ step s b → end_of last s (b ∷ bs) ≡ Some (found 1 false)
  unfolding end_of
  end_ends e = rw (← e, end_of) refl

  pub end_opens : Opens ≡ step s b → end_of last s (b ∷ bs) ≡ Some (found 0 true)
  unfolding end_of
  end_opens e = rw (← e, end_of) refl

pub run_goes : (s t : Scan) (b : ℕ) (bs : List ℕ) → Goes t ≡ step s b → run s (b ∷ bs) ≡ run t bs
unfolding run
run_goes s t b bs e = rw (← e, run) refl

-- what later is something is something
pub record WasFound (n : ℕ) (o : Option Found) (f : Found) : Type 0 where
  pub found_len : ℕ
  pub opens : Bool
  pub is : o ≡ Some (found found_len opens)
  pub len : f.len ≡ n + found_len
  pub same : f.opens ≡ opens

pub later-some : (n : ℕ) (o : Option Found) (f : Found) → later n o ≡ Some f → WasFound n o f
later-some n None f e = absurd (cc)
later-some n (Some g) f e =
    let k : found (n + g.len) g.opens ≡ f = cc in
    record { found_len = g.len; opens = g.opens; is = refl; len = ap (λ (h : Found). h.len) (sym k); same = ap (λ (h : Found). h.opens) (sym k) }

-- an end that is shown is one, whatever follows
pub end-stable : (last : Bool) (s : Scan) (x y : List ℕ) (f : Found) → end_of false s x ≡ Some f → end_of last s (x ++ y) ≡ Some f
unfolding end_of
end-stable last s [] y f e = absurd (cc)
end-stable last s (b ∷ bs) y f e = elim (stepped s b) [
  | Went t h ↦ (
      let w = later-some 1 (end_of false t bs) f (sym (end_goes false s b bs t h) ∙ e) in
      let more = end-stable last t bs y (found w.found_len w.opens) w.is in
      end_goes last s b (bs ++ y) t h ∙ ap (later 1) more ∙ ap (later 1) (sym w.is) ∙ sym (end_goes false s b bs t h) ∙ e)
  | Ended h ↦ end_ends last s b (bs ++ y) h ∙ sym (end_ends false s b bs h) ∙ e
  | Opened h ↦ end_opens last s b (bs ++ y) h ∙ sym (end_opens false s b bs h) ∙ e
]

-- behind bytes that show no end the scan goes on
pub end-on : (last : Bool) (s : Scan) (x y : List ℕ) → end_of false s x ≡ None → end_of last s (x ++ y) ≡ later (length x) (end_of last (run s x) y)
unfolding run
end-on last s [] y e = sym (later-zero (end_of last s y))
end-on last s (b ∷ bs) y e = elim (stepped s b) [
  | Went t h ↦ (
      let none = later-none 1 (end_of false t bs) (sym (end_goes false s b bs t h) ∙ e) in
      let more = end-on last t bs y none in
      let k : 1 + length bs ≡ suc (length bs) = omega arith in
      end_goes last s b (bs ++ y) t h ∙ ap (later 1) more ∙ later-later 1 (length bs) _ ∙ ap (λ (n : ℕ). later n (end_of last (run t bs) y)) k
      ∙ ap (λ (r : Scan). later (suc (length bs)) (end_of last r y)) (sym (run_goes s t b bs h)))
  | Ended h ↦ absurd (let k = sym (end_ends false s b bs h) ∙ e in cc)
  | Opened h ↦ absurd (let k = sym (end_opens false s b bs h) ∙ e in cc)
]

pub run-on : (s : Scan) (x y : List ℕ) → end_of false s x ≡ None → run s (x ++ y) ≡ run (run s x) y
unfolding run
run-on s [] y e = refl
run-on s (b ∷ bs) y e = elim (stepped s b) [
  | Went t h ↦ (
      let none = later-none 1 (end_of false t bs) (sym (end_goes false s b bs t h) ∙ e) in
      run_goes s t b (bs ++ y) h ∙ run-on t bs y none ∙ ap (λ (r : Scan). run r y) (sym (run_goes s t b bs h)))
  | Ended h ↦ absurd (let k = sym (end_ends false s b bs h) ∙ e in cc)
  | Opened h ↦ absurd (let k = sym (end_opens false s b bs h) ∙ e in cc)
]

-- what is found lies in the text
pub end-within : (last : Bool) (s : Scan) (x : List ℕ) (f : Found) → end_of last s x ≡ Some f → f.len ≤ length x
unfolding end_of
end-within last s [] f e = elim (cases_Bool (last && at_brace s)) [
  | inl t ↦ (let k : Some (found 0 true) ≡ Some f = sym (rw (t, end_of) refl) ∙ e in let l : found 0 true ≡ f = cc in let m : 0 ≡ f.len = ap (λ (h : Found). h.len) l in omega arith)
  | inr t ↦ absurd (let k : None ≡ Some f = sym (rw (t, end_of) refl) ∙ e in cc)
]
end-within last s (b ∷ bs) f e = elim (stepped s b) [
  | Went t h ↦ (
      let w = later-some 1 (end_of last t bs) f (sym (end_goes last s b bs t h) ∙ e) in
      let more = end-within last t bs (found w.found_len w.opens) w.is in
      omega (arith, w.len, more))
  | Ended h ↦ (let l : found 1 false ≡ f = (let k = sym (end_ends last s b bs h) ∙ e in cc) in let m : 1 ≡ f.len = ap (λ (h : Found). h.len) l in omega arith)
  | Opened h ↦ (let l : found 0 true ≡ f = (let k = sym (end_opens last s b bs h) ∙ e in cc) in let m : 0 ≡ f.len = ap (λ (h : Found). h.len) l in omega arith)
]
