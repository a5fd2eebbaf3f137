-- What the first bytes show of a gap doesn't hang on the bytes behind them.
use Rattle.std.proofs.Common.{◌≡◌, ℕ, ◌+◌, ◌-◌, ◌<◌, ◌≤◌, Bool, true, false, cond, eqb, ◌||◌, inl, inr, map, Some, List, [], ◌∷◌, ◌++◌, length, drop, take, refl, sym, ap, ◌∙◌, subst, arith, length-append, length-drop}
use Rattle.std.proofs.lemmas.Bool.{cases_eq, ne_eqb, lt-ltb, le-ltb}
use Rattle.std.specs.Prelude.{nat_lt}
use Rattle.std.proofs.lemmas.List.{map-append, take-append-le, drop-append-le, drop-drop, length-take-le}
use Rattle.std.proofs.Math.Seq.{take-add}
use Rattle.stil_parts.specs.declared.gap.Point.{Point}
use Rattle.stil_tokens.specs.StilTokens.{is_blank}
use Rattle.stil_parts.specs.Coming.{Judge, Byte, Taken, most, before, moved, next_turn, to_come, GapsCome}
use Rattle.stil_parts.proofs.Comings.{come-taken, before-before, moved-moved}
use Rattle.stil_parts.specs.declared.gap.Place.{Place}
use Rattle.stil_parts.specs.declared.gap.Place.TheVariants.{Top, Pattern}
use Rattle.stil_parts.specs.declared.gap.Comment.{Comment}
use Rattle.stil_parts.specs.declared.gap.Comment.TheVariants.{Outside, Line, Block}
use Rattle.stil_parts.specs.declared.gap.Gap.{Gap}
use Rattle.stil_parts.specs.Gaps.{gap_of, line_gap, block_gap, slash_gap, close_gap, outside_gap, gap_at}

slash-stable : (place : Place) (x y : List ℕ) → 0 < length x → slash_gap place (x ++ y) ≡ slash_gap place x
unfolding slash_gap
slash-stable place [] y some = absurd (omega arith)
slash-stable place (b ∷ bs) y some = refl

-- two bytes decide
outside-stable : (place : Place) (b c : ℕ) (bs y : List ℕ) → outside_gap place (b ∷ c ∷ bs ++ y) ≡ outside_gap place (b ∷ c ∷ bs)
unfolding outside_gap slash_gap
outside-stable place b c bs y = refl

-- and so does one that isn't a slash
pub outside-one : (place : Place) (b : ℕ) (y z : List ℕ) → eqb b 47 ≡ false → outside_gap place (b ∷ y) ≡ outside_gap place (b ∷ z)
unfolding outside_gap
outside-one place b y z e = rw e refl

pub gap-two : (place : Place) (comment : Comment) (x y : List ℕ) → 1 < length x → gap_at place comment (x ++ y) ≡ gap_at place comment x
unfolding gap_at line_gap block_gap
gap-two place Outside [] y some = absurd (omega arith)
gap-two place Outside (b ∷ []) y some = absurd (omega arith)
gap-two place Outside (b ∷ c ∷ bs) y some = outside-stable place b c bs y
gap-two place Line [] y some = absurd (omega arith)
gap-two place Line (b ∷ bs) y some = refl
gap-two place (Block star) [] y some = absurd (omega arith)
gap-two place (Block star) (b ∷ bs) y some = refl

-- a slash by itself shows nothing
slash-alone : (place : Place) → (outside_gap place (47 ∷ [])).len ≡ 0
unfolding outside_gap slash_gap
slash-alone place = refl

single : (place : Place) (b : ℕ) (y : List ℕ) → 0 < (outside_gap place (b ∷ [])).len → outside_gap place (b ∷ y) ≡ outside_gap place (b ∷ [])
single place b y some = elim (cases_eq b 47) [
  | inl e ↦ (let none : (outside_gap place (b ∷ [])).len ≡ 0 = rw e (slash-alone place) in absurd (omega arith))
  | inr ne ↦ outside-one place b y [] (ne_eqb b 47 ne)
]

-- what is shown as a gap is one, whatever follows
pub gap-stable : (place : Place) (comment : Comment) (x y : List ℕ) → 0 < (gap_at place comment x).len → gap_at place comment (x ++ y) ≡ gap_at place comment x
unfolding gap_at line_gap block_gap outside_gap
gap-stable place Outside [] y some = absurd (omega arith)
gap-stable place Outside (b ∷ []) y some = single place b y some
gap-stable place Outside (b ∷ c ∷ bs) y some = outside-stable place b c bs y
gap-stable place Line [] y some = absurd (omega arith)
gap-stable place Line (b ∷ bs) y some = refl
gap-stable place (Block star) [] y some = absurd (omega arith)
gap-stable place (Block star) (b ∷ bs) y some = refl

-- a gap lies in the text
record IsShort (n : ℕ) (g : Gap) : Type 0 where
  is : g.len ≤ n

cond_short : (b : Bool) (g h : Gap) (n : ℕ) → IsShort n g → IsShort n h → IsShort n (cond b g h)
cond_short true g h n p q = p
cond_short false g h n p q = q

of_short : (len n : ℕ) (place : Place) (comment : Comment) → len ≤ n → IsShort n (gap_of len place comment)
of_short len n place comment h = record { is = h }

slash_short : (place : Place) (bs : List ℕ) → IsShort (1 + length bs) (slash_gap place bs)
unfolding slash_gap
slash_short place [] = of_short 0 (1 + 0) place Outside (omega arith)
slash_short place (b ∷ bs) =
    let n = 1 + length (b ∷ bs) in
    cond_short (eqb b 47) _ _ _ (of_short 2 n place Line (omega arith)) (cond_short (eqb b 42) _ _ _ (of_short 2 n place (Block false) (omega arith)) (of_short 0 n place Outside (omega arith)))

close_short : (place : Place) (n : ℕ) → 1 ≤ n → IsShort n (close_gap place)
close_short Top n h = of_short 0 n Top Outside (omega arith)
close_short (Pattern line) n h = of_short 1 n Top Outside h

outside_short : (place : Place) (x : List ℕ) → IsShort (length x) (outside_gap place x)
unfolding outside_gap
outside_short place [] = of_short 0 0 place Outside (omega arith)
outside_short place (b ∷ bs) =
    let n = length (b ∷ bs) in
    let k : 1 + length bs ≡ n = omega arith in
    cond_short (is_blank b || eqb b 59) _ _ _ (of_short 1 n place Outside (omega arith))
    (cond_short (eqb b 47) _ _ _ (subst (λ (m : ℕ). IsShort m (slash_gap place bs)) k (slash_short place bs))
    (cond_short (eqb b 125) _ _ _ (close_short place n (omega arith)) (of_short 0 n place Outside (omega arith))))

pub gap-within : (place : Place) (comment : Comment) (x : List ℕ) → (gap_at place comment x).len ≤ length x
unfolding gap_at line_gap block_gap
gap-within place Outside x = (outside_short place x).is
gap-within place Line [] = omega arith
gap-within place Line (b ∷ bs) = omega arith
gap-within place (Block star) [] = omega arith
gap-within place (Block star) (b ∷ bs) = omega arith

module _ (judge : Judge) where
  -- what a gap comes to
  pub gap_turns : (last : Bool) (p : Point) (x : List ℕ) (g : Gap) → gap_at p.place p.comment x ≡ g → 0 < g.len → p.given + g.len ≤ most
      → next_turn judge last p x ≡ Some (Taken g.len (map Byte (take g.len x)) (moved p (take g.len x) g.place g.comment))
  unfolding next_turn
  gap_turns last p x g is some fits =
      let shown : nat_lt 0 g.len ≡ true = lt-ltb 0 g.len some in
      let small : nat_lt most (p.given + g.len) ≡ false = le-ltb most (p.given + g.len) fits in
      rw (is, shown, small) refl

  -- a gap in a text that goes on
  pub gap_comes : (p : Point) (x more : List ℕ) (g : Gap) → g ≡ gap_at p.place p.comment x → 0 < g.len → g.len ≤ length x → p.given + g.len ≤ most
      → to_come judge p 0 (x ++ more) ≡ before (map Byte (take g.len x)) (to_come judge (moved p (take g.len x) g.place g.comment) 0 (drop g.len x ++ more))
  gap_comes p x more g is some within fits =
      let shown : 0 < (gap_at p.place p.comment x).len = rw (← is) some in
      let same : gap_at p.place p.comment (x ++ more) ≡ g = gap-stable p.place p.comment x more shown ∙ sym is in
      let turn = gap_turns true p (x ++ more) g same some fits in
      let longer : 0 < length (x ++ more) = omega (arith, length-append x more) in
      let taken = come-taken judge p (moved p (take g.len (x ++ more)) g.place g.comment) g.len (map Byte (take g.len (x ++ more))) (x ++ more) longer some turn in
      rw (take-append-le g.len x more within, drop-append-le g.len x more within) at taken

module _ (p : Point) (bytes : List ℕ) (at : ℕ) (place : Place) (comment : Comment) (g : Gap) where
  -- one gap more
  pub gap-more : g ≡ gap_at place comment (drop at bytes) → 0 < g.len → at + g.len ≤ length bytes → p.given + (at + g.len) ≤ most
      → GapsCome p bytes at place comment → GapsCome p bytes (at + g.len) g.place g.comment
  gap-more is some within fits so_far judge more =
      let t = take at bytes in
      let x = drop at bytes in
      let u = take g.len x in
      let q = moved p t place comment in
      let len : length t ≡ at = length-take-le at bytes (omega arith) in
      let rest : length x ≡ length bytes - at = length-drop at bytes in
      let step = gap_comes judge q x more g is some (omega arith) (omega arith) in
      let both = so_far judge more ∙ ap (before (map Byte t)) step ∙ before-before (map Byte t) (map Byte u) (to_come judge (moved q u g.place g.comment) 0 (drop g.len x ++ more)) in
      rw (← map-append Byte t u, moved-moved p t u place g.place comment g.comment, ← take-add at g.len bytes, drop-drop g.len at bytes) at both
