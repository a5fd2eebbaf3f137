-- Where some tokens stand, from their spans.
use Rattle.std.proofs.Common.{◌≡◌, ◌<◌, ◌≤◌, ◌-◌, ℕ, zero, suc, List, [], ◌∷◌, length, take, slice_index_or, refl, ap, arith}
use Rattle.base_types.specs.declared.span.Span.{Span}
use Rattle.token_forms.specs.Tokens.{token_of, tokens_of, last_end_of, place_of}

abbrev nowhere : Span
nowhere = record { start = 0; end = 0 }

last_is : (text : List ℕ) (s : Span) (ss : List Span) (m : ℕ) → m ≤ length ss → (slice_index_or (s ∷ ss) m nowhere).end ≡ last_end_of (token_of text s) (take m (tokens_of text ss))
last_is text s ss zero h = refl
last_is text s [] (suc k) h = absurd (omega arith)
last_is text s (u ∷ us) (suc k) h = last_is text u us k (omega arith)

pub place_is : (text : List ℕ) (spans : List Span) (n : ℕ) → 0 < n → n ≤ length spans
    → record { start = (slice_index_or spans 0 nowhere).start; end = (slice_index_or spans (n - 1) nowhere).end } ≡ place_of (take n (tokens_of text spans))
place_is text [] n some h = absurd (omega arith)
place_is text (s ∷ ss) zero some h = absurd (omega arith)
place_is text (s ∷ ss) (suc m) some h =
    let k : suc m - 1 ≡ m = omega arith in
    rw k (ap (λ (e : ℕ). record { start = s.start; end = e }) (last_is text s ss m (omega arith)))
