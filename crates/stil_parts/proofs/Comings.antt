-- What comes from a point on, turn after turn.
use Rattle.std.proofs.Common.{◌≡◌, ℕ, zero, suc, ◌+◌, ◌-◌, ◌<◌, ◌≤◌, Bool, true, cond, List, [], ◌∷◌, ◌++◌, length, drop, take, count_by, eqb, Some, refl, sym, ap, ◌∙◌, append_assoc, arith, length-append, length-drop}
use Rattle.std.proofs.lemmas.List.{take-append-le, drop-append-le, drop-drop}
use Rattle.std.proofs.lemmas.List.Sums.{sum_by-append}
use Rattle.stil_parts.specs.declared.gap.Place.{Place}
use Rattle.stil_parts.specs.declared.gap.Comment.{Comment}
use Rattle.stil_parts.specs.declared.gap.Point.{Point}
use Rattle.stil_parts.specs.declared.part.PartFault.{PartFault}
use Rattle.stil_parts.specs.Coming.{Event, Judge, Coming, Refused, Taken, before, stopped, moved, next_turn, to_come}

module _ (judge : Judge) where
  -- inside what was taken nothing begins
  pub come-inside : (p : Point) (n : ℕ) (bs : List ℕ) → to_come judge p n bs ≡ to_come judge p 0 (drop n bs)
  unfolding to_come
  come-inside p zero bs = refl
  come-inside p (suc n) [] = refl
  come-inside p (suc n) (b ∷ bs) = come-inside p n bs

  come-behind : (p : Point) (n b : ℕ) (bs : List ℕ) → 0 < n → to_come judge p (n - 1) bs ≡ to_come judge p 0 (drop n (b ∷ bs))
  come-behind p zero b bs some = absurd (omega arith)
  come-behind p (suc n) b bs some = let k : suc n - 1 ≡ n = omega arith in rw k (come-inside p n bs)

  pub come-taken : (p q : Point) (n : ℕ) (es : List Event) (bs : List ℕ) → 0 < length bs → 0 < n → next_turn judge true p bs ≡ Some (Taken n es q)
      → to_come judge p 0 bs ≡ before es (to_come judge q 0 (drop n bs))
  unfolding to_come
  come-taken p q n es [] some more e = absurd (omega arith)
  come-taken p q n es (b ∷ bs) some more e = rw (e, to_come) (ap (before es) (come-behind q n b bs more))

  pub come-refused : (p : Point) (f : PartFault) (bs : List ℕ) → 0 < length bs → next_turn judge true p bs ≡ Some (Refused f) → to_come judge p 0 bs ≡ stopped f
  unfolding to_come
  come-refused p f [] some e = absurd (omega arith)
  come-refused p f (b ∷ bs) some e = rw (e, to_come) refl

pub before-before : (es fs : List Event) (c : Coming) → before es (before fs c) ≡ before (es ++ fs) c
before-before es fs c = ap (λ (xs : List Event). record { events = xs; fault = c.fault }) (sym (append_assoc es fs c.events))

count-append : (t : ℕ → Bool) (xs ys : List ℕ) → count_by t (xs ++ ys) ≡ count_by t xs + count_by t ys
count-append t xs ys = sum_by-append (λ b. cond (t b) 1 0) xs ys

pub moved-moved : (p : Point) (t u : List ℕ) (a c : Place) (b d : Comment) → moved (moved p t a b) u c d ≡ moved p (t ++ u) c d
moved-moved p t u a c b d =
    let lines : p.line + count_by (λ x. eqb x 10) t + count_by (λ x. eqb x 10) u ≡ p.line + count_by (λ x. eqb x 10) (t ++ u) = omega (arith, count-append (λ x. eqb x 10) t u) in
    let bytes : p.given + length t + length u ≡ p.given + length (t ++ u) = omega (arith, length-append t u) in
    ap (λ (n : ℕ). record { given = n; line = p.line + count_by (λ x. eqb x 10) t + count_by (λ x. eqb x 10) u; opened = p.opened; place = c; comment = d }) bytes
    ∙ ap (λ (n : ℕ). record { given = p.given + length (t ++ u); line = n; opened = p.opened; place = c; comment = d }) lines

-- bytes behind bytes, of a text that goes on
pub drop_on : (n m : ℕ) (x y : List ℕ) → n + m ≤ length x → drop m (drop n x ++ y) ≡ drop (n + m) x ++ y
drop_on n m x y h =
    let k : m ≤ length (drop n x) = omega (arith, length-drop n x) in
    drop-append-le m (drop n x) y k ∙ ap (λ (z : List ℕ). z ++ y) (drop-drop m n x)

pub take_on : (n m : ℕ) (x y : List ℕ) → n + m ≤ length x → take m (drop n x ++ y) ≡ take m (drop n x)
take_on n m x y h = let k : m ≤ length (drop n x) = omega (arith, length-drop n x) in take-append-le m (drop n x) y k
