-- What comes of a text in steps, behind a head.
use Rattle.std.proofs.Common.{◌≡◌, ℕ, ◌+◌, ◌-◌, ◌≤◌, true, false, List, [], ◌∷◌, ◌++◌, length, refl, sym, ap, ◌∙◌, subst, Option, Some, None, length-append, arith}
use Rattle.std.specs.Prelude.{nat_lt}
use Rattle.std.proofs.Math.Seq.{drop-append_seam, take-append_seam}
use Rattle.std.proofs.lemmas.Bool.Decides.{nat_tests}
use Rattle.stil_tokens.specs.StilTokens.{tokens_in}
use Rattle.stil_types.specs.declared.head.StilHead.{StilHead}
use Rattle.stil_types.specs.declared.statement.PatternStatement.{PatternStatement}
use Rattle.stil_parts.specs.declared.gap.Place.{Place}
use Rattle.stil_parts.specs.declared.gap.Place.TheVariants.{Top, Pattern}
use Rattle.stil_parts.specs.declared.gap.Comment.TheVariants.{Outside}
use Rattle.stil_parts.specs.declared.gap.Point.{Point}
use Rattle.stil_parts.specs.declared.word.Word.TheVariants.{Known}
use Rattle.stil_parts.specs.declared.part.Part.TheVariants.{Whole}
use Rattle.stil_parts.specs.declared.scan.Found.{Found}
use Rattle.stil_parts.specs.Gaps.{gap_at, outside_gap, gap_of}
use Rattle.stil_parts.specs.Scanner.{end_of, found}
use Rattle.stil_parts.specs.Parts.{begin, part_at, parted}
use Rattle.stil_parts.specs.Coming.{Byte, Statement, Coming, Turn, Taken, before, most, largest, moved, judged, sized, turn_in, next_turn, to_come}
use Rattle.stil_parts.proofs.Comings.{come-taken}
use Rattle.stil_syntax.specs.Shapes.{shape_of}
use Rattle.stil_calls.specs.declared.judging.Judging.TheVariants.{Lengths}
use Rattle.stil_calls.specs.Faults.{fault_by}
use Rattle.stil_calls.specs.Parts.{judge_by}
use Rattle.stil_calls.specs.Statements.{statement_of}
use Rattle.stil_reader.specs.Sayings.{told, stated}
use Rattle.stil_reader.specs.Patterns.{names_in, statements_in}
use Rattle.made_law.proofs.patterns.CallTexts.{feeds}

abbrev pub point : ℕ → ℕ → ℕ → Place → Point
point given line opened place = record { given = given; line = line; opened = opened; place = place; comment = Outside }

-- what comes has no fault, and says these names and statements
pub record Says (head : StilHead) (c : Coming) (names : List (List ℕ)) (statements : List PatternStatement) : Type 0 where
  pub sound : c.fault ≡ None
  pub names_are : names_in (told head c).says ≡ names
  pub statements_are : statements_in (told head c).says ≡ statements

-- so it is of bytes, however many stand before them
abbrev pub Tells : StilHead → ℕ → ℕ → Place → List ℕ → List (List ℕ) → List PatternStatement → Type 0
Tells head line opened place x names statements = (given : ℕ) → given + length x ≤ 67108864 → Says head (to_come (judge_by Lengths head) (point given line opened place) 0 x) names statements

pub says_at : (head : StilHead) (c d : Coming) (ns : List (List ℕ)) (ss : List PatternStatement) → c ≡ d → Says head d ns ss → Says head c ns ss
says_at head c d ns ss e = subst (λ (x : Coming). Says head x ns ss) (sym e)

-- a byte of a gap
gap_comes : (head : StilHead) (p : Point) (b : ℕ) (y : List ℕ) (place : Place) (q : Point) (ns : List (List ℕ)) (ss : List PatternStatement) → gap_at p.place p.comment (b ∷ y) ≡ gap_of 1 place Outside
    → p.given + 1 ≤ 67108864 → moved p (b ∷ []) place Outside ≡ q → Says head (to_come (judge_by Lengths head) q 0 y) ns ss → Says head (to_come (judge_by Lengths head) p 0 (b ∷ y)) ns ss
unfolding next_turn
gap_comes head p b y place q ns ss gap small e s =
    let judge = judge_by Lengths head in
    let within : nat_lt most (p.given + 1) ≡ false = grind (arith, nat_tests) in
    let turn : next_turn judge true p (b ∷ y) ≡ Some (Taken 1 (Byte b ∷ []) q) = rw (gap, within, e) refl in
    let c = to_come judge q 0 y in
    let comes : to_come judge p 0 (b ∷ y) ≡ before (Byte b ∷ []) c = come-taken judge p q 1 (Byte b ∷ []) (b ∷ y) (omega arith) (omega arith) turn in
    says_at head (to_come judge p 0 (b ∷ y)) (before (Byte b ∷ []) c) ns ss comes (record { sound = s.sound; names_are = s.names_are; statements_are = s.statements_are })

point_is : (g h l m o : ℕ) (place : Place) → g ≡ h → l ≡ m → point g l o place ≡ point h m o place
point_is g h l m o place e f = ap (λ (x : ℕ). point x l o place) e ∙ ap (λ (x : ℕ). point h x o place) f

pub tells_blank : (head : StilHead) (line opened : ℕ) (place : Place) (y : List ℕ) (ns : List (List ℕ)) (ss : List PatternStatement) → Tells head line opened place y ns ss → Tells head line opened place (32 ∷ y) ns ss
unfolding gap_at outside_gap
tells_blank head line opened place y ns ss t given small =
    gap_comes head (point given line opened place) 32 y place (point (given + 1) line opened place) ns ss refl (omega (arith, small)) (point_is (given + 1) (given + 1) (line + 0) line opened place refl (omega arith)) (t (given + 1) (omega (arith, small)))

pub tells_line : (head : StilHead) (line opened : ℕ) (place : Place) (y : List ℕ) (ns : List (List ℕ)) (ss : List PatternStatement) → Tells head (line + 1) opened place y ns ss → Tells head line opened place (10 ∷ y) ns ss
unfolding gap_at outside_gap
tells_line head line opened place y ns ss t given small =
    gap_comes head (point given line opened place) 10 y place (point (given + 1) (line + 1) opened place) ns ss refl (omega (arith, small)) refl (t (given + 1) (omega (arith, small)))

pub tells_close : (head : StilHead) (line opened k : ℕ) (y : List ℕ) (ns : List (List ℕ)) (ss : List PatternStatement) → Tells head line opened Top y ns ss → Tells head line opened (Pattern k) (125 ∷ y) ns ss
unfolding gap_at outside_gap
tells_close head line opened k y ns ss t given small =
    gap_comes head (point given line opened (Pattern k)) 125 y Top (point (given + 1) line opened Top) ns ss refl (omega (arith, small)) (point_is (given + 1) (given + 1) (line + 0) line opened Top refl (omega arith)) (t (given + 1) (omega (arith, small)))

pub tells_end : (head : StilHead) (line opened : ℕ) → Tells head line opened Top [] [] []
unfolding to_come
tells_end head line opened given small = record { sound = refl; names_are = refl; statements_are = refl }

-- a statement of a Pattern, which begins with C
statement_turn : (head : StilHead) (p : Point) (k : ℕ) (bs : List ℕ) → p.place ≡ Pattern k → p.comment ≡ Outside
    → next_turn (judge_by Lengths head) true p (67 ∷ bs) ≡ turn_in (judge_by Lengths head) true p (67 ∷ bs) (parted (Pattern k) (end_of true (begin (Known false)) (67 ∷ bs)))
unfolding next_turn gap_at outside_gap part_at
statement_turn head p k bs place comment = rw (place, comment) refl

pub tells_statement : (head : StilHead) (line opened k : ℕ) (bs y : List ℕ) (s : PatternStatement) (ns : List (List ℕ)) (ss : List PatternStatement)
    → end_of true (begin (Known false)) (67 ∷ (bs ++ y)) ≡ Some (found (length (67 ∷ bs)) false) → feeds (67 ∷ bs) ≡ 0 → fault_by Lengths head line (67 ∷ bs) ≡ None
    → statement_of head (opened - 1) line (67 ∷ bs) (shape_of head false (tokens_in (67 ∷ bs))) ≡ Some s → Tells head line opened (Pattern k) y ns ss → Tells head line opened (Pattern k) (67 ∷ (bs ++ y)) ns (s ∷ ss)
unfolding judge_by
tells_statement head line opened k bs y s ns ss ends one sound is t given small =
    let judge = judge_by Lengths head in
    let x = 67 ∷ bs in
    let m = length x in
    let p = point given line opened (Pattern k) in
    let total = length-append x y in
    let few : nat_lt largest m ≡ false = let le : m ≤ 67108864 = omega (arith, total, small) in grind (arith, nat_tests) in
    let within : nat_lt most (given + m) ≡ false = let le : given + m ≤ 67108864 = omega (arith, total, small) in grind (arith, nat_tests) in
    let q = point (given + m) line opened (Pattern k) in
    let behind : moved p x (Pattern k) Outside ≡ q = point_is (given + m) (given + m) (line + feeds x) line opened (Pattern k) refl (omega (arith, one)) in
    let made : (l : List ℕ) → Turn = λ (l : List ℕ). sized p m (judged (judge p (Whole m) l) m (Statement l p ∷ []) (moved p l (Pattern k) Outside)) in
    let turn : next_turn judge true p (67 ∷ (bs ++ y)) ≡ Some (Taken m (Statement x p ∷ []) q) =
    statement_turn head p k (bs ++ y) refl refl ∙ ap (λ (o : Option Found). turn_in judge true p (67 ∷ (bs ++ y)) (parted (Pattern k) o)) ends
    ∙ ap (λ (l : List ℕ). Some (made l)) (take-append_seam x y)
    ∙ rw (few, within, sound, behind) refl
    in
    let c = to_come judge q 0 y in
    let comes : to_come judge p 0 (x ++ y) ≡ before (Statement x p ∷ []) c =
    come-taken judge p q m (Statement x p ∷ []) (x ++ y) (omega arith) (omega arith) turn ∙ ap (λ (l : List ℕ). before (Statement x p ∷ []) (to_come judge q 0 l)) (drop-append_seam x y)
    in
    let more = t (given + m) (omega (arith, total, small)) in
    says_at head (to_come judge p 0 (x ++ y)) (before (Statement x p ∷ []) c) ns (s ∷ ss) comes (record {
      sound = more.sound;
      names_are = ap (λ (o : Option PatternStatement). names_in (stated o ++ (told head c).says)) is ∙ more.names_are;
      statements_are = ap (λ (o : Option PatternStatement). statements_in (stated o ++ (told head c).says)) is ∙ ap (λ (l : List PatternStatement). s ∷ l) more.statements_are;
    })
