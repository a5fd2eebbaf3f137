-- What the bytes at a point show first is what comes, whatever follows.
use Rattle.std.proofs.Common.{◌≡◌, ℕ, ◌<◌, ◌≤◌, Bool, true, false, List, [], ◌∷◌, ◌++◌, length, drop, Option, Some, None, refl, sym, ap, ◌∙◌, arith, length-append, inl, inr}
use Rattle.std.specs.Prelude.{nat_lt}
use Rattle.std.proofs.lemmas.Bool.{cases_Bool, true≢false, cases_eq, ne_eqb, lt-ltb, ltb-true}
use Rattle.std.proofs.lemmas.List.{take-append-le, drop-append-le, append-nil}
use Rattle.base_types.specs.declared.kind.Kind.TheVariants.{StatementSize}
use Rattle.stil_parts.specs.declared.gap.Place.{Place}
use Rattle.stil_parts.specs.declared.gap.Comment.{Comment}
use Rattle.stil_parts.specs.declared.gap.Comment.TheVariants.{Outside, Line, Block}
use Rattle.stil_parts.specs.declared.gap.Gap.{Gap}
use Rattle.stil_parts.specs.declared.gap.Point.{Point}
use Rattle.stil_parts.specs.declared.part.PartFault.{PartFault}
use Rattle.stil_parts.specs.declared.part.Part.{Part}
use Rattle.stil_parts.specs.Gaps.{line_gap, block_gap, outside_gap, gap_at}
use Rattle.stil_parts.specs.Parts.{part_at, part_len}
use Rattle.stil_parts.specs.Coming.{Event, Judge, Turn, Refused, Taken, before, stopped, fault_at, largest, gap_turn, sized, judged, part_events, point_behind, part_turn, open_turn, turn_in, next_turn, to_come}
use Rattle.stil_parts.specs.Deciding.{Follows, Shown}
use Rattle.stil_parts.proofs.Comings.{come-taken, come-refused}
use Rattle.stil_parts.proofs.GapLemmas.{gap-stable, gap-two, outside-one}
use Rattle.stil_parts.proofs.PartStable.{part-stable, part-later, part-of-nothing, part-of-slash}

-- a part that is shown where no gap is shows that none is, whatever follows
none-single : (place : Place) (part : Part) (b : ℕ) (y : List ℕ) → nat_lt 0 (outside_gap place (b ∷ [])).len ≡ false → part_at false place (b ∷ []) ≡ Some part
    → nat_lt 0 (outside_gap place (b ∷ y)).len ≡ false
none-single place part b y none p = elim (cases_eq b 47) [
  | inl e ↦ absurd (let q = rw e at p in let k = sym (part-of-slash place) ∙ q in cc)
  | inr ne ↦ ap (λ (g : Gap). nat_lt 0 g.len) (outside-one place b y [] (ne_eqb b 47 ne)) ∙ none
]

none-stable : (place : Place) (comment : Comment) (part : Part) (x y : List ℕ) → nat_lt 0 (gap_at place comment x).len ≡ false → part_at false place x ≡ Some part
    → nat_lt 0 (gap_at place comment (x ++ y)).len ≡ false
unfolding gap_at line_gap block_gap
none-stable place comment part [] y none p = absurd (let k = sym (part-of-nothing place) ∙ p in cc)
none-stable place Outside part (b ∷ []) y none p = none-single place part b y none p
none-stable place Line part (b ∷ []) y none p = absurd (true≢false none)
none-stable place (Block star) part (b ∷ []) y none p = absurd (true≢false none)
none-stable place comment part (b ∷ c ∷ bs) y none p = ap (λ (g : Gap). nat_lt 0 g.len) (gap-two place comment (b ∷ c ∷ bs) y (omega arith)) ∙ none

-- the turn at a part looks at the part alone
sized-large : (p : Point) (n : ℕ) (turn : Turn) → largest < n → sized p n turn ≡ Refused (fault_at StatementSize p.line)
sized-large p n turn h = rw (lt-ltb largest n h) refl

module _ (judge : Judge) where
  part_turn-on : (p : Point) (x y : List ℕ) (part : Part) → part_len part ≤ length x → part_turn judge p (x ++ y) part ≡ part_turn judge p x part
  part_turn-on p x y part h =
      ap (λ (t : List ℕ). sized p (part_len part) (judged (judge p part t) (part_len part) (part_events p part t) (point_behind p part t))) (take-append-le (part_len part) x y h)

  pub part_turn-large : (p : Point) (x : List ℕ) (part : Part) → largest < part_len part → part_turn judge p x part ≡ Refused (fault_at StatementSize p.line)
  part_turn-large p x part h = sized-large p (part_len part) _ h

  -- the next turn, by its cases
  module _ (last : Bool) (p : Point) (x : List ℕ) where
    pub turn-gap : nat_lt 0 (gap_at p.place p.comment x).len ≡ true → next_turn judge last p x ≡ Some (gap_turn p x (gap_at p.place p.comment x))
    unfolding next_turn
    turn-gap e = rw e refl

    pub turn-none : nat_lt 0 (gap_at p.place p.comment x).len ≡ false → next_turn judge last p x ≡ turn_in judge last p x (part_at last p.place x)
    unfolding next_turn
    turn-none e = rw e refl

    pub turn-part : (part : Part) → nat_lt 0 (gap_at p.place p.comment x).len ≡ false → part_at last p.place x ≡ Some part → next_turn judge last p x ≡ Some (part_turn judge p x part)
    turn-part part e h = turn-none e ∙ ap (turn_in judge last p x) h

    pub turn-open : nat_lt 0 (gap_at p.place p.comment x).len ≡ false → part_at last p.place x ≡ None → next_turn judge last p x ≡ open_turn last p x
    turn-open e h = turn-none e ∙ ap (turn_in judge last p x) h

  module _ (p : Point) (x y : List ℕ) where
    gap-on : nat_lt 0 (gap_at p.place p.comment x).len ≡ true → (gap_at p.place p.comment x).len ≤ length x → next_turn judge true p (x ++ y) ≡ next_turn judge false p x
    gap-on e within =
        let some : 0 < (gap_at p.place p.comment x).len = ltb-true 0 _ e in
        let same = gap-stable p.place p.comment x y some in
        let shown : nat_lt 0 (gap_at p.place p.comment (x ++ y)).len ≡ true = ap (λ (g : Gap). nat_lt 0 g.len) same ∙ e in
        turn-gap true p (x ++ y) shown ∙ ap (λ (g : Gap). Some (gap_turn p (x ++ y) g)) same
        ∙ (rw (take-append-le (gap_at p.place p.comment x).len x y within) refl) ∙ sym (turn-gap false p x e)

    part-on : (part : Part) → nat_lt 0 (gap_at p.place p.comment x).len ≡ false → part_at false p.place x ≡ Some part → next_turn judge true p (x ++ y) ≡ next_turn judge false p x
    part-on part e h =
        let s = part-stable true x y part p.place h in
        turn-part true p (x ++ y) part (none-stable p.place p.comment part x y e h) s.same
        ∙ ap (λ (t : Turn). Some t) (part_turn-on p x y part s.within) ∙ sym (turn-part false p x part e h)

    large-as : (o : Option Part) → part_at true p.place (x ++ y) ≡ o → part_at false p.place x ≡ None → largest < length x
        → turn_in judge true p (x ++ y) o ≡ Some (Refused (fault_at StatementSize p.line))
    large-as None e none large = rw (lt-ltb largest (length (x ++ y)) (omega (arith, length-append x y))) refl
    large-as (Some part) e none large = ap (λ (t : Turn). Some t) (part_turn-large p (x ++ y) part (omega (arith, part-later true x y part p.place none e)))

    large-on : nat_lt 0 (gap_at p.place p.comment x).len ≡ false → part_at false p.place x ≡ None → largest < length x
        → next_turn judge true p (x ++ y) ≡ Some (Refused (fault_at StatementSize p.line))
    large-on e none large =
        let two : 1 < length x = omega arith in
        let same = gap-two p.place p.comment x y two in
        let shown : nat_lt 0 (gap_at p.place p.comment (x ++ y)).len ≡ false = ap (λ (g : Gap). nat_lt 0 g.len) same ∙ e in
        turn-none true p (x ++ y) shown ∙ large-as (part_at true p.place (x ++ y)) refl none large

    open-on : (t : Turn) → nat_lt 0 (gap_at p.place p.comment x).len ≡ false → part_at false p.place x ≡ None → open_turn false p x ≡ Some t → next_turn judge true p (x ++ y) ≡ Some t
    open-on t e none o = elim (cases_Bool (nat_lt largest (length x))) [
      | inl large ↦ (let q = rw large at o in large-on e none (ltb-true largest (length x) large) ∙ q)
      | inr small ↦ absurd (let q = rw small at o in cc)
    ]

    shown-as : (t : Turn) (o : Option Part) → nat_lt 0 (gap_at p.place p.comment x).len ≡ false → part_at false p.place x ≡ o → turn_in judge false p x o ≡ Some t → next_turn judge true p (x ++ y) ≡ Some t
    shown-as t None e h q = open-on t e h q
    shown-as t (Some part) e h q = part-on part e h ∙ turn-part false p x part e h ∙ q

    -- what the bytes show doesn't change with bytes that follow
    pub shown-stays : (t : Turn) → (gap_at p.place p.comment x).len ≤ length x → next_turn judge false p x ≡ Some t → next_turn judge true p (x ++ y) ≡ Some t
    shown-stays t within q = elim (cases_Bool (nat_lt 0 (gap_at p.place p.comment x).len)) [
      | inl e ↦ gap-on e within ∙ q
      | inr e ↦ shown-as t (part_at false p.place x) e refl (sym (turn-none false p x e) ∙ q)
    ]

  -- so it is what comes
  pub shown-comes : (last : Bool) (p : Point) (x y : List ℕ) (t : Turn) → (gap_at p.place p.comment x).len ≤ length x → Follows last y → next_turn judge last p x ≡ Some t → next_turn judge true p (x ++ y) ≡ Some t
  shown-comes true p x y t within f q = rw (f, append-nil x) q
  shown-comes false p x y t within f q = shown-stays p x y t within q

  pub turn-shown : (last : Bool) (p : Point) (x : List ℕ) (t : Turn) → next_turn judge last p x ≡ Some t → Shown judge last p x
  turn-shown true p x t q = tt
  turn-shown false p x t q = rw q refl

  -- a turn that takes bytes, in a text that goes on
  pub taken-comes : (last : Bool) (p q : Point) (x y : List ℕ) (n : ℕ) (es : List Event) → (gap_at p.place p.comment x).len ≤ length x → 0 < n → n ≤ length x → Follows last y
      → next_turn judge last p x ≡ Some (Taken n es q) → to_come judge p 0 (x ++ y) ≡ before es (to_come judge q 0 (drop n x ++ y))
  taken-comes last p q x y n es within some le f e =
      let longer : 0 < length (x ++ y) = omega (arith, length-append x y) in
      let c = come-taken judge p q n es (x ++ y) longer some (shown-comes last p x y (Taken n es q) within f e) in
      rw (drop-append-le n x y le) at c

  pub refused-comes : (last : Bool) (p : Point) (x y : List ℕ) (f : PartFault) → (gap_at p.place p.comment x).len ≤ length x → 0 < length x → Follows last y
      → next_turn judge last p x ≡ Some (Refused f) → to_come judge p 0 (x ++ y) ≡ stopped f
  refused-comes last p x y f within some follows e =
      let longer : 0 < length (x ++ y) = omega (arith, length-append x y) in
      come-refused judge p f (x ++ y) longer (shown-comes last p x y (Refused f) within follows e)
