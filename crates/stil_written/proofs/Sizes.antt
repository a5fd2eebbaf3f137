-- The sizes alone tell what comes of a text from what comes of it whatever its size.
use Rattle.std.proofs.Common.{◌≡◌, ◌⊎◌, inl, inr, ℕ, zero, suc, ◌+◌, ◌-◌, Bool, true, false, cond, List, [], ◌∷◌, length, take, Option, Some, None, refl, sym, ap, subst, arith}
use Rattle.std.specs.Prelude.{nat_lt}
use Rattle.std.proofs.lemmas.Bool.{cases_Bool, lt-ltb}
use Rattle.base_types.specs.declared.kind.Kind.TheVariants.{PatternSyntax, StatementSize, PatternSize}
use Rattle.stil_parts.specs.declared.gap.Gap.{Gap}
use Rattle.stil_parts.specs.declared.gap.Point.{Point}
use Rattle.stil_parts.specs.declared.part.Part.{Part}
use Rattle.stil_parts.specs.Gaps.{gap_at}
use Rattle.stil_parts.specs.Parts.{part_at, part_len}
use Rattle.stil_parts.specs.Coming.{Event, Judge, Coming, Turn, Refused, Taken, before, stopped, fault_at, largest, most, gap_turn, sized, judged, part_events, point_behind, open_turn, turn_in, next_turn, to_come}
use Rattle.stil_parts.proofs.Turns.{turn-gap, turn-none}
use Rattle.stil_written.specs.Unbounded.{free_gap, free_part, free_turn, comes, IsSizeFault}
use Rattle.stil_written.specs.Laws.{SizeLaw}

-- a turn is refused by size
abbrev IsSizeTurn : Option Turn → Type 0
IsSizeTurn None = ⊥
IsSizeTurn (Some (Refused f)) = IsSizeFault (Some f)
IsSizeTurn (Some (Taken n es q)) = ⊥

-- the turn is this one, or is refused by size
abbrev IsFree : Turn → Option Turn → Type 0
IsFree t o = (o ≡ Some t) ⊎ IsSizeTurn o

sized_free : (p : Point) (n : ℕ) (t : Turn) → IsFree t (Some (sized p n t))
sized_free p n t = elim (cases_Bool (nat_lt largest n)) [
  | inl e ↦ inr (subst (λ (b : Bool). IsSizeTurn (Some (cond b (Refused (fault_at StatementSize p.line)) (cond (nat_lt most (p.given + n)) (Refused (fault_at PatternSize p.line)) t)))) (sym e) (inl refl))
  | inr e ↦ elim (cases_Bool (nat_lt most (p.given + n))) [
    | inl d ↦ inr (subst (λ (b : Bool). IsSizeTurn (Some (cond b (Refused (fault_at StatementSize p.line)) (cond (nat_lt most (p.given + n)) (Refused (fault_at PatternSize p.line)) t)))) (sym e)
        (subst (λ (b : Bool). IsSizeTurn (Some (cond b (Refused (fault_at PatternSize p.line)) t))) (sym d) (inr refl)))
    | inr d ↦ inl (rw (e, d) refl)
  ]
]

gap_free : (p : Point) (bs : List ℕ) (g : Gap) → IsFree (free_gap p bs g) (Some (gap_turn p bs g))
gap_free p bs g = elim (cases_Bool (nat_lt most (p.given + g.len))) [
  | inl d ↦ inr (subst (λ (b : Bool). IsSizeTurn (Some (cond b (Refused (fault_at PatternSize p.line)) (free_gap p bs g)))) (sym d) (inr refl))
  | inr d ↦ inl (rw d refl)
]

open_as : (p : Point) (n : ℕ) (large : Bool) → IsFree (Refused (fault_at PatternSyntax p.line)) (cond large (Some (Refused (fault_at StatementSize p.line))) (Some (sized p n (Refused (fault_at PatternSyntax p.line)))))
open_as p n true = inr (inl refl)
open_as p n false = sized_free p n (Refused (fault_at PatternSyntax p.line))

open_turn_is : (p : Point) (b : ℕ) (bs : List ℕ) → open_turn true p (b ∷ bs) ≡ cond (nat_lt largest (length (b ∷ bs))) (Some (Refused (fault_at StatementSize p.line))) (Some (sized p (length (b ∷ bs)) (Refused (fault_at PatternSyntax p.line))))
open_turn_is p b bs =
    let some : nat_lt 0 (length (b ∷ bs)) ≡ true = lt-ltb 0 (length (b ∷ bs)) (omega arith) in
    ap (λ (c : Bool). cond (nat_lt largest (length (b ∷ bs))) (Some (Refused (fault_at StatementSize p.line))) (cond c (Some (sized p (length (b ∷ bs)) (Refused (fault_at PatternSyntax p.line)))) None)) some

open_free : (judge : Judge) (p : Point) (b : ℕ) (bs : List ℕ) → IsFree (Refused (fault_at PatternSyntax p.line)) (open_turn true p (b ∷ bs))
open_free judge p b bs = subst (IsFree (Refused (fault_at PatternSyntax p.line))) (sym (open_turn_is p b bs)) (open_as p (length (b ∷ bs)) (nat_lt largest (length (b ∷ bs))))

part_free : (judge : Judge) (p : Point) (b : ℕ) (bs : List ℕ) (o : Option Part) → IsFree (free_part judge p (b ∷ bs) o) (turn_in judge true p (b ∷ bs) o)
part_free judge p b bs None = open_free judge p b bs
part_free judge p b bs (Some part) =
    let text = take (part_len part) (b ∷ bs) in
    sized_free p (part_len part) (judged (judge p part text) (part_len part) (part_events p part text) (point_behind p part text))

module _ (judge : Judge) (p : Point) (bs : List ℕ) where
  pub free-gap : nat_lt 0 (gap_at p.place p.comment bs).len ≡ true → free_turn judge p bs ≡ free_gap p bs (gap_at p.place p.comment bs)
  unfolding free_turn
  free-gap e = rw e refl

  pub free-part : nat_lt 0 (gap_at p.place p.comment bs).len ≡ false → free_turn judge p bs ≡ free_part judge p bs (part_at true p.place bs)
  unfolding free_turn
  free-part e = rw e refl

turn_free : (judge : Judge) (p : Point) (b : ℕ) (bs : List ℕ) → IsFree (free_turn judge p (b ∷ bs)) (next_turn judge true p (b ∷ bs))
turn_free judge p b bs = elim (cases_Bool (nat_lt 0 (gap_at p.place p.comment (b ∷ bs)).len)) [
  | inl e ↦ rw (turn-gap judge true p (b ∷ bs) e, free-gap judge p (b ∷ bs) e) (gap_free p (b ∷ bs) (gap_at p.place p.comment (b ∷ bs)))
  | inr e ↦ rw (turn-none judge true p (b ∷ bs) e, free-part judge p (b ∷ bs) e) (part_free judge p b bs (part_at true p.place (b ∷ bs)))
]

-- what a turn comes to
abbrev behind : (judge : Judge) → Point → List ℕ → Turn → Coming
behind judge p bs (Refused f) = stopped f
behind judge p bs (Taken n es q) = before es (to_come judge q (n - 1) bs)

abbrev behind_free : (judge : Judge) → Point → List ℕ → Turn → Coming
behind_free judge p bs (Refused f) = stopped f
behind_free judge p bs (Taken n es q) = before es (comes judge q (n - 1) bs)

abbrev IsSame : Coming → Coming → Type 0
IsSame c d = (c ≡ d) ⊎ IsSizeFault c.fault

size_turn : (judge : Judge) (p : Point) (b : ℕ) (bs : List ℕ) (o : Option Turn) → next_turn judge true p (b ∷ bs) ≡ o → IsSizeTurn o → IsSizeFault (to_come judge p 0 (b ∷ bs)).fault
unfolding to_come
size_turn judge p b bs None e s = absurd s
size_turn judge p b bs (Some (Refused f)) e s = rw (e, to_come) s
size_turn judge p b bs (Some (Taken n es q)) e s = absurd s

module _ (judge : Judge) (p : Point) (b : ℕ) (bs : List ℕ) where
  to-turn : (t : Turn) → next_turn judge true p (b ∷ bs) ≡ Some t → to_come judge p 0 (b ∷ bs) ≡ behind judge p bs t
  unfolding to_come
  to-turn (Refused f) e = rw (e, to_come) refl
  to-turn (Taken n es q) e = rw (e, to_come) refl

  pub comes-turn : (t : Turn) → free_turn judge p (b ∷ bs) ≡ t → comes judge p 0 (b ∷ bs) ≡ behind_free judge p bs t
  unfolding comes
  comes-turn (Refused f) e = rw (e, comes) refl
  comes-turn (Taken n es q) e = rw (e, comes) refl

before_same : (es : List Event) (c d : Coming) → IsSame c d → IsSame (before es c) (before es d)
before_same es c d (inl e) = inl (ap (before es) e)
before_same es c d (inr s) = inr s

by_turn : (judge : Judge) (p : Point) (bs : List ℕ) (t : Turn) → ((q : Point) (m : ℕ) → IsSame (to_come judge q m bs) (comes judge q m bs)) → IsSame (behind judge p bs t) (behind_free judge p bs t)
by_turn judge p bs (Refused f) ih = inl refl
by_turn judge p bs (Taken n es q) ih = before_same es _ _ (ih q (n - 1))

pub size_law : SizeLaw
unfolding to_come comes
size_law judge p inside [] = inl refl
size_law judge p (suc inside) (b ∷ bs) = size_law judge p inside bs
size_law judge p zero (b ∷ bs) = elim (turn_free judge p b bs) [
  | inr s ↦ inr (size_turn judge p b bs (next_turn judge true p (b ∷ bs)) refl s)
  | inl e ↦ rw (to-turn judge p b bs (free_turn judge p (b ∷ bs)) e, comes-turn judge p b bs (free_turn judge p (b ∷ bs)) refl)
      (by_turn judge p bs (free_turn judge p (b ∷ bs)) (λ q m. size_law judge q m bs))
]
