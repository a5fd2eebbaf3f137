-- Each choice is what comes.
use Rattle.std.proofs.Common.{◌≡◌, ℕ, ◌+◌, ◌<◌, ◌≤◌, Bool, true, false, List, [], ◌∷◌, ◌++◌, length, drop, take, map, Option, Some, None, refl, sym, ap, subst, ◌∙◌, arith}
use Rattle.std.specs.Prelude.{nat_lt}
use Rattle.std.proofs.lemmas.Bool.{lt-ltb, le-ltb, false≢true}
use Rattle.std.proofs.lemmas.List.{length-take-le}
use Rattle.base_types.specs.declared.kind.Kind.TheVariants.{PatternSyntax, StatementSize, PatternSize}
use Rattle.stil_parts.specs.declared.choice.Decision.{Decision}
use Rattle.stil_parts.specs.declared.gap.Place.{Place}
use Rattle.stil_parts.specs.declared.gap.Place.TheVariants.{Top, Pattern}
use Rattle.stil_parts.specs.declared.gap.Comment.{Comment}
use Rattle.stil_parts.specs.declared.gap.Comment.TheVariants.{Outside}
use Rattle.stil_parts.specs.declared.gap.Gap.{Gap}
use Rattle.stil_parts.specs.declared.gap.Point.{Point}
use Rattle.stil_parts.specs.declared.part.PartFault.{PartFault}
use Rattle.stil_parts.specs.declared.part.Part.{Part}
use Rattle.stil_parts.specs.Gaps.{gap_at}
use Rattle.stil_parts.specs.Parts.{part_at, part_len}
use Rattle.stil_parts.specs.Coming.{Event, Byte, Judge, Turn, Refused, Taken, before, fault_at, moved, largest, most, gap_turn, sized, judged, part_events, point_behind, part_turn, next_turn, to_come, IsEarly, GapsCome}
use Rattle.stil_parts.specs.Deciding.{Decides, Follows, Shown, Takes, verdict, IsPart, IsStopped, IsWanting}
use Rattle.stil_parts.proofs.GapLemmas.{gap-within}
use Rattle.stil_parts.proofs.PartStable.{part-some}
use Rattle.stil_parts.proofs.Turns.{turn-gap, turn-part, turn-open, turn-shown, taken-comes, refused-comes, part_turn-large}

module _ (judge : Judge) where
  module _ (last : Bool) (p : Point) (x : List ℕ) where
    stops : (f : PartFault) → 0 < length x → next_turn judge last p x ≡ Some (Refused f) → IsStopped judge last p x f
    stops f some e = record {
      shown = turn-shown judge last p x (Refused f) e;
      comes = λ y follows. refused-comes judge last p x y f (gap-within p.place p.comment x) some follows e;
    }

    -- where no gap is shown
    module _ (no_gap : (gap_at p.place p.comment x).len ≡ 0) where
      no-gap : nat_lt 0 (gap_at p.place p.comment x).len ≡ false
      no-gap = ap (λ (n : ℕ). nat_lt 0 n) no_gap

      sized-total : (n : ℕ) (turn : Turn) → n ≤ largest → most < p.given + n → sized p n turn ≡ Refused (fault_at PatternSize p.line)
      sized-total n turn small over = rw (le-ltb largest n small, lt-ltb most (p.given + n) over) refl

      sized-fits : (n : ℕ) (turn : Turn) → n ≤ largest → p.given + n ≤ most → sized p n turn ≡ turn
      sized-fits n turn small fits = rw (le-ltb largest n small, le-ltb most (p.given + n) fits) refl

      -- where a part is whole
      module _ (part : Part) (e : part_at last p.place x ≡ Some part) where
        part-at : (t : Turn) → part_turn judge p x part ≡ t → next_turn judge last p x ≡ Some t
        part-at t h = turn-part judge last p x part no-gap e ∙ ap (λ (u : Turn). Some u) h

        pub part-large : part_len part ≤ length x → largest < part_len part → IsStopped judge last p x (fault_at StatementSize p.line)
        part-large within large = stops (fault_at StatementSize p.line) (omega arith) (part-at (Refused (fault_at StatementSize p.line)) (part_turn-large judge p x part large))

        pub part-total : part_len part ≤ length x → part_len part ≤ largest → most < p.given + part_len part → IsStopped judge last p x (fault_at PatternSize p.line)
        part-total within small over =
            stops (fault_at PatternSize p.line) (omega (arith, part-some last p.place x part e)) (part-at (Refused (fault_at PatternSize p.line)) (sized-total (part_len part) _ small over))

        module _ (within : part_len part ≤ length x) (small : part_len part ≤ largest) (fits : p.given + part_len part ≤ most) (q : Point) (is : q ≡ point_behind p part (take (part_len part) x)) where
          abbrev taken_turn : Option PartFault → Turn
          taken_turn o = judged o (part_len part) (part_events p part (take (part_len part) x)) (point_behind p part (take (part_len part) x))

          turn-is : (o : Option PartFault) → judge p part (take (part_len part) x) ≡ o → next_turn judge last p x ≡ Some (taken_turn o)
          turn-is o h = part-at (taken_turn o) (sized-fits (part_len part) _ small fits ∙ ap taken_turn h)

          comes-as : (o : Option PartFault) → judge p part (take (part_len part) x) ≡ o → (y : List ℕ) → Follows last y
              → to_come judge p 0 (x ++ y) ≡ verdict o (before (part_events p part (take (part_len part) x)) (to_come judge (point_behind p part (take (part_len part) x)) 0 (drop (part_len part) x ++ y)))
          comes-as None h y follows =
              taken-comes judge last p (point_behind p part (take (part_len part) x)) x y (part_len part) (part_events p part (take (part_len part) x)) (gap-within p.place p.comment x)
              (part-some last p.place x part e) within follows (turn-is None h)
          comes-as (Some f) h y follows = refused-comes judge last p x y f (gap-within p.place p.comment x) (omega (arith, part-some last p.place x part e)) follows (turn-is (Some f) h)

          pub is-part : IsEarly q → IsPart judge last p x part q
          is-part early = record {
            some = part-some last p.place x part e;
            within = within;
            early = early;
            point = is;
            shown = turn-shown judge last p x (taken_turn (judge p part (take (part_len part) x))) (turn-is (judge p part (take (part_len part) x)) refl);
            comes = λ y follows. comes-as (judge p part (take (part_len part) x)) refl y follows
                ∙ ap (λ (r : Point). verdict (judge p part (take (part_len part) x)) (before (part_events p part (take (part_len part) x)) (to_come judge r 0 (drop (part_len part) x ++ y)))) (sym is);
          }

      -- where no part is whole
      module _ (none : part_at last p.place x ≡ None) where
        pub open-large : largest < length x → IsStopped judge last p x (fault_at StatementSize p.line)
        open-large large = stops (fault_at StatementSize p.line) (omega arith) (turn-open judge last p x no-gap none ∙ (rw (lt-ltb largest (length x) large) refl))

        pub open-wants : last ≡ false → length x ≤ largest → IsWanting judge last p x
        open-wants e small = record { unended = e; none = subst (λ (b : Bool). next_turn judge b p x ≡ None) e (turn-open judge last p x no-gap none ∙ (rw (le-ltb largest (length x) small, e) refl)) }

        ended-turn : last ≡ true → length x ≤ largest → 0 < length x → next_turn judge last p x ≡ Some (sized p (length x) (Refused (fault_at PatternSyntax p.line)))
        ended-turn e small some = turn-open judge last p x no-gap none ∙ (rw (le-ltb largest (length x) small, e, lt-ltb 0 (length x) some) refl)

        pub ended-total : last ≡ true → length x ≤ largest → 0 < length x → most < p.given + length x → IsStopped judge last p x (fault_at PatternSize p.line)
        ended-total e small some over = stops (fault_at PatternSize p.line) some (ended-turn e small some ∙ ap (λ (u : Turn). Some u) (sized-total (length x) _ small over))

        pub ended-open : last ≡ true → length x ≤ largest → 0 < length x → p.given + length x ≤ most → IsStopped judge last p x (fault_at PatternSyntax p.line)
        ended-open e small some fits = stops (fault_at PatternSyntax p.line) some (ended-turn e small some ∙ ap (λ (u : Turn). Some u) (sized-fits (length x) _ small fits))

    -- where a gap is shown
    pub gap-total : (g : Gap) → g ≡ gap_at p.place p.comment x → 0 < g.len → most < p.given + g.len → IsStopped judge last p x (fault_at PatternSize p.line)
    gap-total g is some over =
        let shown : nat_lt 0 (gap_at p.place p.comment x).len ≡ true = rw (← is) (lt-ltb 0 g.len some) in
        let le : g.len ≤ length x = rw is (gap-within p.place p.comment x) in
        let turn : gap_turn p x (gap_at p.place p.comment x) ≡ Refused (fault_at PatternSize p.line) = rw (← is, lt-ltb most (p.given + g.len) over) refl in
        stops (fault_at PatternSize p.line) (omega arith) (turn-gap judge last p x shown ∙ ap (λ (u : Turn). Some u) turn)

    gap-shown : (last : Bool) → nat_lt 0 (gap_at p.place p.comment x).len ≡ true → Shown judge last p x
    gap-shown true e = tt
    gap-shown false e = rw (turn-gap judge false p x e) refl

    pub gap-takes : (g : Gap) (n : ℕ) (place : Place) (comment : Comment) → g ≡ gap_at p.place p.comment x → 0 < g.len → 0 < n → n ≤ length x → GapsCome p x n place comment
        → IsEarly (moved p (take n x) place comment) → Takes judge last p x n (map Byte (take n x)) (moved p (take n x) place comment)
    gap-takes g n place comment is shown some within comes early =
        let e : nat_lt 0 (gap_at p.place p.comment x).len ≡ true = rw (← is) (lt-ltb 0 g.len shown) in
        record {
          some = some;
          within = within;
          early = early;
          given = ap (λ (m : ℕ). p.given + m) (length-take-le n x within);
          shown = gap-shown last e;
          comes = λ more follows. comes judge more;
        }

-- at the end of the text a Pattern is still open
pub pattern-open-end : (judge : Judge) (p : Point) (line : ℕ) → p.place ≡ Pattern line → IsStopped judge true p [] (fault_at PatternSyntax line)
unfolding to_come
pattern-open-end judge p line e = record {
  shown = tt;
  comes = λ more follows. rw follows (rw e refl);
}

pub taken-at : (judge : Judge) (last : Bool) (p q r : Point) (x : List ℕ) (n : ℕ) (es : List Event) → r ≡ q → Takes judge last p x n es q → Takes judge last p x n es r
taken-at judge last p q r x n es e t = subst (λ (s : Point). Takes judge last p x n es s) (sym e) t

-- what was decided of a text that ends here
pub decided-empty : (last : Bool) (p : Point) (x : List ℕ) (d : Decision) → last ≡ true → length x ≡ 0 → Decides true p [] d → Decides last p x d
decided-empty true p [] d e none h = h
decided-empty true p (b ∷ bs) d e none h = absurd (omega arith)
decided-empty false p x d e none h = absurd (false≢true e)
