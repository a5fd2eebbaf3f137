-- A part doesn't hang on the bytes behind it, but for the first of them where it opens a Pattern; nor does a gap.
use Rattle.std.proofs.Common.{◌≡◌, ℕ, zero, suc, ◌<◌, Bool, true, false, List, [], ◌∷◌, ◌++◌, length, take, Some, refl, sym, ap, ◌∙◌, arith}
use Rattle.stil_parts.specs.declared.gap.Place.{Place}
use Rattle.stil_parts.specs.declared.gap.Comment.{Comment}
use Rattle.stil_parts.specs.declared.scan.Scan.{Scan}
use Rattle.stil_parts.specs.declared.scan.Found.{Found}
use Rattle.stil_parts.specs.declared.part.Part.{Part}
use Rattle.stil_parts.specs.Gaps.{gap_at}
use Rattle.stil_parts.specs.Scanner.{found, later, end_of}
use Rattle.stil_parts.specs.Parts.{begin_at, part_of, parted, part_at, part_len}
use Rattle.stil_parts.proofs.Ends.{Went, Ended, Opened, stepped, end_goes, end_ends, end_opens, later-some}
use Rattle.stil_parts.proofs.GapLemmas.{gap-two}
use Rattle.stil_parts.proofs.PartStable.{IsFrom, parted-from}

-- the first two bytes, by the first of those behind
pub two_on : (x y z : List ℕ) → 0 < length x → take 1 y ≡ take 1 z → take 2 (x ++ y) ≡ take 2 (x ++ z)
two_on [] y z some e = absurd (omega arith)
two_on (a ∷ []) y z some e = ap (λ (l : List ℕ). a ∷ l) e
two_on (a ∷ b ∷ x) y z some e = refl

pub one_on : (x y z : List ℕ) → 0 < length x → take 1 (x ++ y) ≡ take 1 (x ++ z)
one_on [] y z some = absurd (omega arith)
one_on (a ∷ x) y z some = refl

-- the same with two fronts that begin alike
pub two_alike : (x u y z : List ℕ) → take 2 x ≡ take 2 u → take 1 y ≡ take 1 z → 0 < length x → take 2 (x ++ y) ≡ take 2 (u ++ z)
two_alike [] u y z e f some = absurd (omega arith)
two_alike (a ∷ x) [] y z e f some = absurd cc
two_alike (a ∷ []) (b ∷ []) y z e f some = let k : a ≡ b = cc in rw k (ap (λ (l : List ℕ). b ∷ l) f)
two_alike (a ∷ []) (b ∷ d ∷ u) y z e f some = absurd cc
two_alike (a ∷ c ∷ x) (b ∷ []) y z e f some = absurd cc
two_alike (a ∷ c ∷ x) (b ∷ d ∷ u) y z e f some = e

pub one_alike : (x u y z : List ℕ) → take 2 x ≡ take 2 u → 0 < length x → take 1 (x ++ y) ≡ take 1 (u ++ z)
one_alike [] u y z e some = absurd (omega arith)
one_alike (a ∷ x) [] y z e some = absurd cc
one_alike (a ∷ x) (b ∷ u) y z e some = let k : a ≡ b = cc in ap (λ (n : ℕ). n ∷ []) k

-- a gap hangs on the first two bytes alone
pub gap_by_two : (place : Place) (comment : Comment) (x y : List ℕ) → take 2 x ≡ take 2 y → gap_at place comment x ≡ gap_at place comment y
gap_by_two place comment [] [] e = refl
gap_by_two place comment [] (c ∷ y) e = absurd cc
gap_by_two place comment (b ∷ x) [] e = absurd cc
gap_by_two place comment (b ∷ []) (c ∷ []) e = let k : b ≡ c = cc in ap (λ (n : ℕ). gap_at place comment (n ∷ [])) k
gap_by_two place comment (b ∷ []) (c ∷ d ∷ y) e = absurd cc
gap_by_two place comment (b ∷ a ∷ x) (c ∷ []) e = absurd cc
gap_by_two place comment (b ∷ a ∷ x) (c ∷ d ∷ y) e =
    gap-two place comment (b ∷ a ∷ []) x (omega arith) ∙ ap (gap_at place comment) e ∙ sym (gap-two place comment (c ∷ d ∷ []) y (omega arith))

zero_len : (n : ℕ) (o p : Bool) → Some (found (suc n) o) ≡ Some (found zero p) → ⊥
zero_len n o p e = let k : found (suc n) o ≡ found zero p = cc in let l : suc n ≡ zero = ap (λ (f : Found). f.len) k in absurd (omega arith)

-- an end that is found behind some bytes is found there too, where others follow that begin alike
pub end_tail : (s : Scan) (x y z : List ℕ) (f : Found) → f.len ≡ length x → take 1 y ≡ take 1 z → end_of true s (x ++ y) ≡ Some f → end_of true s (x ++ z) ≡ Some f
end_tail s [] [] [] f len e h = h
end_tail s [] [] (c ∷ z) f len e h = absurd cc
end_tail s [] (b ∷ y) [] f len e h = absurd cc
end_tail s [] (b ∷ y) (c ∷ z) f len e h =
    let k : b ≡ c = cc in
    rw (← k) (elim (stepped s b) [
      | Went t g ↦ absurd (let w = later-some 1 (end_of true t y) f (sym (end_goes true s b y t g) ∙ h) in omega (arith, w.len))
      | Ended g ↦ absurd (let q : found 1 false ≡ f = (let r = sym (end_ends true s b y g) ∙ h in cc) in let l : 1 ≡ f.len = ap (λ (i : Found). i.len) q in omega arith)
      | Opened g ↦ end_opens true s b z g ∙ sym (end_opens true s b y g) ∙ h
    ])
end_tail s (b ∷ x) y z f len e h = elim (stepped s b) [
  | Went t g ↦ (
      let w = later-some 1 (end_of true t (x ++ y)) f (sym (end_goes true s b (x ++ y) t g) ∙ h) in
      let shorter : w.found_len ≡ length x = omega (arith, w.len) in
      let more = end_tail t x y z (found w.found_len w.opens) shorter e w.is in
      end_goes true s b (x ++ z) t g ∙ ap (later 1) (more ∙ sym w.is) ∙ sym (end_goes true s b (x ++ y) t g) ∙ h)
  | Ended g ↦ end_ends true s b (x ++ z) g ∙ sym (end_ends true s b (x ++ y) g) ∙ h
  | Opened g ↦ end_opens true s b (x ++ z) g ∙ sym (end_opens true s b (x ++ y) g) ∙ h
]

module _ (place : Place) (x y z : List ℕ) (part : Part) where
  from_end : part_at true place (x ++ y) ≡ Some part → IsFrom place (end_of true (begin_at place) (x ++ y)) part
  unfolding part_at
  from_end e = parted-from place (end_of true (begin_at place) (x ++ y)) part e

  to_end : (f : Found) → end_of true (begin_at place) (x ++ z) ≡ Some f → part_at true place (x ++ z) ≡ Some (part_of place f)
  unfolding part_at
  to_end f e = ap (parted place) e

  -- so is a part
  pub part_tail : part_len part ≡ length x → take 1 y ≡ take 1 z → part_at true place (x ++ y) ≡ Some part → part_at true place (x ++ z) ≡ Some part
  part_tail len e h =
      let i = from_end h in
      to_end i.end (end_tail (begin_at place) x y z i.end (sym i.len ∙ len) e i.is) ∙ ap (λ (p : Part). Some p) (sym i.made)
