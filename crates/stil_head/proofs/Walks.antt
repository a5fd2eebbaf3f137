-- Walks that look for the least place, a token or a statement more.
use Rattle.std.specs.Prelude.{nat_le}
use Rattle.std.proofs.Common.{◌≡◌, ℕ, ◌+◌, ◌-◌, ◌<◌, ◌≤◌, arith, cond, Bool, true, false, ◌||◌, ◌&&◌, List, [], ◌∷◌, ◌++◌, length, drop, Option, refl, sym, ap, ◌∙◌}
use Rattle.token_forms.specs.Tokens.{Token}
use Rattle.stil_syntax.specs.Shapes.{begins_behind}
use Rattle.list_laws.specs.Leasts.{place_if, lesser, least_of, found_if}
use Rattle.stil_blocks.specs.Statements.{start_of, first_text}
use Rattle.stil_blocks.specs.Callees.{begins_shift}
use Rattle.stil_blocks.proofs.Holds.{no_tokens}
use Rattle.stil_head.specs.Unsupported.{places_at, later_shifts, later_places, has_outer_mark, is_outside, shift_at, shift_behind, shift_depth, assigns_behind, is_mark}
use Rattle.stil_tokens.specs.StilStatements.{is_only}
use Rattle.stil_head.specs.declared.shift.InShift.{InShift}
use Rattle.stil_head.specs.declared.shift.InShift.TheVariants.{Outside, Before, Inside}
use Rattle.list_laws.proofs.Leasts.{then_if, lesser_none}
use Rattle.stil_head.proofs.Loops.{places_next, later_next, outer_next}

pub walk_places : (test : List Token → Bool) (b next : Bool) (ts rest : List Token) (text : List ℕ) (least now o : Option ℕ) (here : Bool) (p : ℕ) → 0 < length ts → here ≡ (b && test ts) → p ≡ start_of ts → o ≡ found_if here p → now ≡ lesser least o
    → text ≡ first_text ts → rest ≡ drop 1 ts → next ≡ begins_behind text → lesser now (least_of (places_at test next rest)) ≡ lesser least (least_of (places_at test b ts))
walk_places test b next ts rest text least now o here p some passes at is put first left begins =
    let step : lesser now (least_of (places_at test next rest)) ≡ lesser least (least_of (place_if here p ++ places_at test (begins_behind (first_text ts)) (drop 1 ts))) =
    rw (begins, left, first) (then_if least now o here p (places_at test (begins_behind (first_text ts)) (drop 1 ts)) is put) in
    let same : place_if here p ++ places_at test (begins_behind (first_text ts)) (drop 1 ts) ≡ places_at test b ts = rw (passes, at) (sym (places_next test b ts some)) in
    step ∙ ap (λ (l : List ℕ). lesser least (least_of l)) same

pub walk_ends : (test : List Token → Bool) (b : Bool) (ts : List Token) (least total : Option ℕ) → length ts ≡ 0 → lesser least (least_of (places_at test b ts)) ≡ total → least ≡ total
walk_ends test b ts least total none e = sym (lesser_none least) ∙ ap (λ (l : List Token). lesser least (least_of (places_at test b l))) (sym (no_tokens ts none)) ∙ e

pub walk_later : (seen then_seen b next : Bool) (ts rest : List Token) (text : List ℕ) (least now o : Option ℕ) (here both : Bool) (p : ℕ) → 0 < length ts → here ≡ (b && begins_shift ts) → both ≡ (seen && here) → p ≡ start_of ts → o ≡ found_if both p
    → now ≡ lesser least o → then_seen ≡ (seen || here) → text ≡ first_text ts → rest ≡ drop 1 ts → next ≡ begins_behind text
    → lesser now (least_of (later_shifts then_seen next rest)) ≡ lesser least (least_of (later_shifts seen b ts))
walk_later seen then_seen b next ts rest text least now o here both p some passes again at is put one first left begins =
    let step : lesser now (least_of (later_shifts then_seen next rest)) ≡ lesser least (least_of (place_if both p ++ later_shifts (seen || here) (begins_behind (first_text ts)) (drop 1 ts))) =
    rw (one, begins, left, first) (then_if least now o both p (later_shifts (seen || here) (begins_behind (first_text ts)) (drop 1 ts)) is put) in
    let same : place_if both p ++ later_shifts (seen || here) (begins_behind (first_text ts)) (drop 1 ts) ≡ later_shifts seen b ts = rw (again, passes, at) (sym (later_next seen b ts some)) in
    step ∙ ap (λ (l : List ℕ). lesser least (least_of l)) same

pub more_later : (test : List Token → Bool) (seen then_seen : Bool) (least now o : Option ℕ) (here both : Bool) (p : ℕ) (s : List Token) (ss all : List (List Token)) → all ≡ s ∷ ss → here ≡ test s → both ≡ (seen && here) → p ≡ start_of s → o ≡ found_if both p
    → now ≡ lesser least o → then_seen ≡ (seen || here) → lesser now (least_of (later_places test then_seen ss)) ≡ lesser least (least_of (later_places test seen all))
more_later test seen then_seen least now o here both p s ss all cut passes again at is put one =
    let step : lesser now (least_of (later_places test then_seen ss)) ≡ lesser least (least_of (place_if both p ++ later_places test (seen || here) ss)) =
    rw one (then_if least now o both p (later_places test (seen || here) ss) is put) in
    let same : place_if both p ++ later_places test (seen || here) ss ≡ later_places test seen all = rw (cut, again, passes, at) refl in
    step ∙ ap (λ (l : List ℕ). lesser least (least_of l)) same

pub last_later : (test : List Token → Bool) (seen : Bool) (least total : Option ℕ) (ss : List (List Token)) → ss ≡ [] → lesser least (least_of (later_places test seen ss)) ≡ total → least ≡ total
last_later test seen least total ss none e = sym (lesser_none least) ∙ (rw none at e)

module _ (place : InShift) (b assigns : Bool) (ts : List Token) (total : Bool) (some : 0 < length ts) (at : InShift) (text : List ℕ) (x : Bool) (here : at ≡ shift_at place b ts) (first : text ≡ first_text ts)
    (is : x ≡ (is_outside at && (assigns && is_mark text))) (e : has_outer_mark place b assigns ts ≡ total) where
  rest_of : Bool
  rest_of = has_outer_mark (shift_behind (shift_at place b ts) (first_text ts)) (begins_behind (first_text ts)) (assigns_behind assigns (first_text ts)) (drop 1 ts)

  test_is : x ≡ (is_outside (shift_at place b ts) && (assigns && is_mark (first_text ts)))
  test_is = is ∙ ap (λ (p : InShift). is_outside p && (assigns && is_mark text)) here ∙ ap (λ (t : List ℕ). is_outside (shift_at place b ts) && (assigns && is_mark t)) first

  split_is : (x || rest_of) ≡ total
  unfolding rest_of
  split_is = ap (λ (k : Bool). k || rest_of) test_is ∙ sym (outer_next place b assigns ts some) ∙ e

  pub found_outer : x ≡ true → true ≡ total
  found_outer sure = ap (λ (k : Bool). k || rest_of) (sym sure) ∙ split_is

  pub walk_outer : (next : InShift) (begins then_assigns : Bool) (rest : List Token) → x ≡ false → next ≡ shift_behind at text → begins ≡ begins_behind text → then_assigns ≡ assigns_behind assigns text → rest ≡ drop 1 ts
      → has_outer_mark next begins then_assigns rest ≡ total
  unfolding rest_of
  walk_outer next begins then_assigns rest other behind starts assigned left =
      rw (behind, starts, assigned, left, first, here) (ap (λ (k : Bool). k || rest_of) (sym other) ∙ split_is)

pub none_outer : (place : InShift) (b assigns : Bool) (ts : List Token) (total : Bool) → length ts ≡ 0 → has_outer_mark place b assigns ts ≡ total → false ≡ total
none_outer place b assigns ts total none e = ap (has_outer_mark place b assigns) (sym (no_tokens ts none)) ∙ e

depth_if : (b : Bool) → shift_depth (cond b Before Outside) ≡ 0
depth_if true = refl
depth_if false = refl

pub depth_at : (place : InShift) (b : Bool) (ts : List Token) → shift_depth (shift_at place b ts) ≡ shift_depth place
depth_at Outside b ts = depth_if (b && begins_shift ts)
depth_at Before b ts = refl
depth_at (Inside depth) b ts = refl

before_if : (b : Bool) → shift_depth (cond b (Inside 1) Before) ≤ 0 + 1
before_if true = omega arith
before_if false = omega arith

closed_if : (b : Bool) (depth : ℕ) → shift_depth (cond b Outside (Inside (depth - 1))) ≤ depth + 1
closed_if true depth = omega arith
closed_if false depth = omega arith

inside_if : (a b d : Bool) (depth : ℕ) → shift_depth (cond a (Inside (depth + 1)) (cond b (cond d Outside (Inside (depth - 1))) (Inside depth))) ≤ depth + 1
inside_if true b d depth = omega arith
inside_if false true d depth = closed_if d depth
inside_if false false d depth = omega arith

pub depth_behind : (place : InShift) (text : List ℕ) → shift_depth (shift_behind place text) ≤ shift_depth place + 1
depth_behind Outside text = omega arith
depth_behind Before text = before_if (is_only 123 text)
depth_behind (Inside depth) text = inside_if (is_only 123 text) (is_only 125 text) (nat_le depth 1) depth

pub one_less : (ts rest : List Token) → 0 < length ts → rest ≡ drop 1 ts → length rest + 1 ≡ length ts
one_less [] rest some e = absurd (omega arith)
one_less (t ∷ ts) rest some e = rw e (omega arith)
