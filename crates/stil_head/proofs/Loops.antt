-- Walks over the tokens of a block, a token more.
use Rattle.std.proofs.Common.{◌≡◌, ◌<◌, Bool, ◌||◌, ◌&&◌, List, [], ◌∷◌, ◌++◌, length, drop, refl, arith}
use Rattle.token_forms.specs.Tokens.{Token}
use Rattle.stil_syntax.specs.Shapes.{begins_behind}
use Rattle.list_laws.specs.Leasts.{place_if}
use Rattle.stil_blocks.specs.Statements.{start_of, first_text}
use Rattle.stil_blocks.specs.Callees.{begins_shift}
use Rattle.stil_head.specs.declared.shift.InShift.{InShift}
use Rattle.stil_head.specs.Unsupported.{places_at, later_shifts, has_outer_mark, is_outside, shift_at, shift_behind, assigns_behind, is_mark}

pub places_next : (test : List Token → Bool) (b : Bool) (ts : List Token) → 0 < length ts → places_at test b ts ≡ place_if (b && test ts) (start_of ts) ++ places_at test (begins_behind (first_text ts)) (drop 1 ts)
places_next test b [] some = absurd (omega arith)
places_next test b (t ∷ ts) some = refl

pub later_next : (seen b : Bool) (ts : List Token) → 0 < length ts
    → later_shifts seen b ts ≡ place_if (seen && (b && begins_shift ts)) (start_of ts) ++ later_shifts (seen || (b && begins_shift ts)) (begins_behind (first_text ts)) (drop 1 ts)
later_next seen b [] some = absurd (omega arith)
later_next seen b (t ∷ ts) some = refl

pub outer_next : (place : InShift) (b assigns : Bool) (ts : List Token) → 0 < length ts
    → has_outer_mark place b assigns ts
    ≡ ((is_outside (shift_at place b ts) && (assigns && is_mark (first_text ts))) || has_outer_mark (shift_behind (shift_at place b ts) (first_text ts)) (begins_behind (first_text ts)) (assigns_behind assigns (first_text ts)) (drop 1 ts))
outer_next place b assigns [] some = absurd (omega arith)
outer_next place b assigns (t ∷ ts) some = refl
