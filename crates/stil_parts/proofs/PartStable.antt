-- A part that is shown is one, whatever follows.
use Rattle.std.proofs.Common.{◌≡◌, ℕ, ◌+◌, ◌<◌, ◌≤◌, Bool, true, false, cond, eqb, ◌&&◌, List, [], ◌∷◌, ◌++◌, length, Option, Some, None, refl, sym, ap, ◌∙◌, arith}
use Rattle.stil_tokens.specs.StilTokens.{is_blank, is_quote, other_mark}
use Rattle.stil_parts.specs.declared.gap.Place.{Place}
use Rattle.stil_parts.specs.declared.gap.Place.TheVariants.{Top, Pattern}
use Rattle.stil_parts.specs.declared.word.Word.{Word}
use Rattle.stil_parts.specs.Words.{names_pattern}
use Rattle.stil_parts.specs.declared.scan.Scan.{Scan}
use Rattle.stil_parts.specs.declared.scan.After.{After}
use Rattle.stil_parts.specs.declared.scan.After.TheVariants.{Goes, Ends, Opens as opens}
use Rattle.stil_parts.specs.declared.scan.Found.{Found}
use Rattle.stil_parts.specs.declared.part.Part.{Part}
use Rattle.stil_parts.specs.Scanner.{mark_step, run_step, free_step, mode_step, step, found, end_of}
use Rattle.stil_parts.specs.Parts.{begin, begin_at, part_of, parted, part_at, part_len}
use Rattle.stil_parts.proofs.Ends.{Went, Ended, Opened, stepped, end_goes, end_ends, later-some, end-stable, end-on, end-within}

-- where no token has begun, no byte opens a block
abbrev IsNoOpening : After → Type 0
IsNoOpening (Goes t) = Unit {0}
IsNoOpening Ends = Unit {0}
IsNoOpening opens = ⊥

record IsShut (a : After) : Type 0 where
  is : IsNoOpening a

cond_shut : (b : Bool) (p q : After) → IsShut p → IsShut q → IsShut (cond b p q)
cond_shut true p q h k = h
cond_shut false p q h k = k

goes_shut : (t : Scan) → IsShut (Goes t)
goes_shut t = record { is = tt }

ends_shut : IsShut Ends
ends_shut = record { is = tt }

mark_shut : (word : Word) (depth b : ℕ) → IsShut (mark_step word depth b)
unfolding mark_step
mark_shut word depth b =
    cond_shut (eqb b 59) _ _ (cond_shut (eqb depth 0) _ _ ends_shut (goes_shut _))
    (cond_shut (eqb b 125) _ _ (cond_shut (eqb depth 1) _ _ ends_shut (goes_shut _))
    (cond_shut (eqb b 123) _ _ (goes_shut _)
    (cond_shut (other_mark b) _ _ (goes_shut _) (goes_shut _))))

run_shut : (word : Word) (depth b : ℕ) → IsShut (run_step word depth b)
unfolding run_step
run_shut word depth b = cond_shut (is_blank b) _ _ (goes_shut _) (cond_shut (is_quote b) _ _ (goes_shut _) (mark_shut word depth b))

free_shut : (word : Word) (depth b : ℕ) → IsShut (free_step word depth b)
unfolding free_step
free_shut word depth b = cond_shut (eqb b 47) _ _ (goes_shut _) (run_shut word depth b)

begin_shut : (word : Word) (b : ℕ) → IsShut (step (begin word) b)
unfolding step mode_step
begin_shut word b = free_shut word 0 b

no_end : (last w : Bool) (o : Option Found) → cond (last && (w && false)) o None ≡ None
no_end true true o = refl
no_end true false o = refl
no_end false w o = refl

pub nothing-in-nothing : (last : Bool) (word : Word) → end_of last (begin word) [] ≡ None
unfolding end_of
nothing-in-nothing last word = no_end last (names_pattern word && true) (Some (found 0 true))

-- an end has a byte before it
pub end-some : (last : Bool) (word : Word) (x : List ℕ) (f : Found) → end_of last (begin word) x ≡ Some f → 0 < f.len
end-some last word [] f e = absurd (let k = sym (nothing-in-nothing last word) ∙ e in cc)
end-some last word (b ∷ bs) f e = elim (stepped (begin word) b) [
  | Went t h ↦ (let w = later-some 1 (end_of last t bs) f (sym (end_goes last (begin word) b bs t h) ∙ e) in omega (arith, w.len))
  | Ended h ↦ (let r : found 1 false ≡ f = (let q = sym (end_ends last (begin word) b bs h) ∙ e in cc) in let l : 1 ≡ f.len = ap (λ (g : Found). g.len) r in omega arith)
  | Opened h ↦ absurd (let s = begin_shut word b in let k = rw (← h) at s in k.is)
]

-- an end that isn't shown comes behind the bytes
pub end-later : (last : Bool) (s : Scan) (x y : List ℕ) (f : Found) → end_of false s x ≡ None → end_of last s (x ++ y) ≡ Some f → length x ≤ f.len
end-later last s x y f none e =
    let w = later-some (length x) _ f (sym (end-on last s x y none) ∙ e) in
    omega (arith, w.len)

opens-len : (b : Bool) (n : ℕ) (p q : Part) → part_len p ≡ n → part_len q ≡ n → part_len (cond b p q) ≡ n
opens-len true n p q h k = h
opens-len false n p q h k = k

pub part-len : (place : Place) (f : Found) → part_len (part_of place f) ≡ f.len
part-len Top f = opens-len f.opens f.len _ _ refl refl
part-len (Pattern line) f = refl

-- what a part was made from
pub record IsFrom (place : Place) (o : Option Found) (part : Part) : Type 0 where
  pub end : Found
  pub is : o ≡ Some end
  pub made : part ≡ part_of place end
  pub len : part_len part ≡ end.len

pub parted-from : (place : Place) (o : Option Found) (part : Part) → parted place o ≡ Some part → IsFrom place o part
parted-from place None part e = absurd (cc)
parted-from place (Some f) part e =
    let k : part_of place f ≡ part = cc in
    record { end = f; is = refl; made = sym k; len = sym (ap part_len k) ∙ part-len place f }

pub parted-none : (place : Place) (o : Option Found) → parted place o ≡ None → o ≡ None
parted-none place None e = refl
parted-none place (Some f) e = absurd (cc)

module _ (last : Bool) (place : Place) (x : List ℕ) where
  pub part-found : (f : Found) → end_of last (begin_at place) x ≡ Some f → part_at last place x ≡ Some (part_of place f)
  unfolding part_at
  part-found f e = ap (parted place) e

  pub part-none : end_of last (begin_at place) x ≡ None → part_at last place x ≡ None
  unfolding part_at
  part-none e = ap (parted place) e

  from : (part : Part) → part_at last place x ≡ Some part → IsFrom place (end_of last (begin_at place) x) part
  unfolding part_at
  from part e = parted-from place (end_of last (begin_at place) x) part e

  none-from : part_at last place x ≡ None → end_of last (begin_at place) x ≡ None
  unfolding part_at
  none-from e = parted-none place (end_of last (begin_at place) x) e

  -- a part has a byte
  pub part-some : (part : Part) → part_at last place x ≡ Some part → 0 < part_len part
  part-some part e = let i = from part e in omega (arith, i.len, end-some last _ x i.end i.is)

-- a part of a text is one where the text goes on, and lies in it
pub record IsStable (last : Bool) (place : Place) (x y : List ℕ) (part : Part) : Type 0 where
  pub same : part_at last place (x ++ y) ≡ Some part
  pub within : part_len part ≤ length x
  pub some : 0 < part_len part

module _ (last : Bool) (x y : List ℕ) (part : Part) (place : Place) where
  pub part-stable : part_at false place x ≡ Some part → IsStable last place x y part
  part-stable e =
      let i = from false place x part e in
      record {
        same = part-found last place (x ++ y) i.end (end-stable last (begin_at place) x y i.end i.is) ∙ ap (λ (q : Part). Some q) (sym i.made);
        within = omega (arith, i.len, end-within false (begin_at place) x i.end i.is);
        some = omega (arith, i.len, end-some false _ x i.end i.is);
      }

  -- a part that isn't shown is longer than the bytes
  pub part-later : part_at false place x ≡ None → part_at last place (x ++ y) ≡ Some part → length x ≤ part_len part
  part-later n e =
      let i = from last place (x ++ y) part e in
      omega (arith, i.len, end-later last (begin_at place) x y i.end (none-from false place x n) i.is)

-- no part is shown by nothing, nor by a slash alone
pub part-of-nothing : (place : Place) → part_at false place [] ≡ None
unfolding part_at end_of
part-of-nothing place = refl

pub part-of-slash : (place : Place) → part_at false place (47 ∷ []) ≡ None
unfolding part_at end_of step mode_step free_step
part-of-slash place = refl
