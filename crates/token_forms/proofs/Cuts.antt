-- A text cut into pieces, for any form of tokens whose pieces have a byte at least and lie in the text: the tokens go on
-- behind each piece.
use Rattle.std.proofs.Common.{◌≡◌, ℕ, zero, suc, ◌+◌, ◌-◌, ◌<◌, ◌≤◌, List, [], ◌∷◌, ◌++◌, length, take, drop, get_or, subst, refl, sym, ap, ◌∙◌, append_assoc, arith, add-zero, length-drop}
use Rattle.std.proofs.lemmas.List.{drop-drop, drop_more, drop_all, append-nil, take_rest}
use Rattle.base_types.specs.declared.span.Span.{Span}
use Rattle.token_forms.specs.declared.piece.Piece.{Piece}
use Rattle.token_forms.specs.declared.piece.Piece.TheVariants.{Blank}
use Rattle.token_forms.specs.Pieces.{piece_len, span_of, tokens_from}

-- a piece of a text of n bytes that isn't empty
pub record IsWithin (p : Piece) (n : ℕ) : Type 0 where
  pub some : 0 < piece_len p
  pub within : piece_len p ≤ n

pub record IsCut (piece_at : List ℕ → Piece) : Type 0 where
  pub empty : piece_at [] ≡ Blank 0
  pub each : (b : ℕ) (bs : List ℕ) → IsWithin (piece_at (b ∷ bs)) (1 + length bs)

-- what a step over the piece at a place leaves
pub record Steps (piece_at : List ℕ → Piece) (text : List ℕ) (at : ℕ) (p : Piece) : Type 0 where
  pub some : 0 < piece_len p
  pub within : at + piece_len p ≤ length text
  pub same : tokens_from piece_at at 0 (drop at text) ≡ span_of at p ++ tokens_from piece_at (at + piece_len p) 0 (drop (at + piece_len p) text)

module _ (piece_at : List ℕ → Piece) where
  -- inside a piece nothing begins
  tokens_from-inside : (at n : ℕ) (bs : List ℕ) → tokens_from piece_at at n bs ≡ tokens_from piece_at (at + n) 0 (drop n bs)
  unfolding tokens_from
  tokens_from-inside at zero bs = rw add-zero refl
  tokens_from-inside at (suc n) [] = refl
  tokens_from-inside at (suc n) (b ∷ bs) =
      let e : at + suc n ≡ at + 1 + n = omega arith in rw e (tokens_from-inside (at + 1) n bs)

  behind : (at n b : ℕ) (bs : List ℕ) → 0 < n → tokens_from piece_at (at + 1) (n - 1) bs ≡ tokens_from piece_at (at + n) 0 (drop n (b ∷ bs))
  behind at zero b bs some = absurd (omega arith)
  behind at (suc n) b bs some =
      let e : at + suc n ≡ at + 1 + n = omega arith in
      let k : suc n - 1 ≡ n = omega arith in
      rw (e, k) (tokens_from-inside (at + 1) n bs)

  -- the first piece, and the tokens behind it
  pub tokens_from-cons : (at b : ℕ) (bs : List ℕ) → 0 < piece_len (piece_at (b ∷ bs))
      → tokens_from piece_at at 0 (b ∷ bs) ≡ span_of at (piece_at (b ∷ bs)) ++ tokens_from piece_at (at + piece_len (piece_at (b ∷ bs))) 0 (drop (piece_len (piece_at (b ∷ bs))) (b ∷ bs))
  unfolding tokens_from
  tokens_from-cons at b bs some = ap (λ (ts : List Span). span_of at (piece_at (b ∷ bs)) ++ ts) (behind at (piece_len (piece_at (b ∷ bs))) b bs some)

  pub steps : (text : List ℕ) (at : ℕ) (p : Piece) → IsCut piece_at → at < length text → p ≡ piece_at (drop at text) → Steps piece_at text at p
  steps text at p form lt is =
      let b = get_or text at 0 in
      let bs = drop (at + 1) text in
      let cut = drop_more text at 0 lt in
      let here : p ≡ piece_at (b ∷ bs) = is ∙ ap piece_at cut in
      let w : IsWithin p (1 + length bs) = rw here (form.each b bs) in
      record {
        some = w.some;
        within = omega (arith, w.within, length-drop (at + 1) text);
        same = rw (cut, tokens_from-cons at b bs (form.each b bs).some, ← here, ← cut, drop-drop) refl;
      }

  -- the same where the piece alone is known to have a byte and to lie in the text, as the slice behind the place shows
  pub steps_over : (text : List ℕ) (at : ℕ) (p : Piece) → at < length text → p ≡ piece_at (take (length text - at) (drop at text))
      → (0 < length (take (length text - at) (drop at text)) → 0 < piece_len p) → piece_len p ≤ length (take (length text - at) (drop at text)) → Steps piece_at text at p
  steps_over text at p lt is some_of within_of =
      let b = get_or text at 0 in
      let bs = drop (at + 1) text in
      let whole = take_rest text at in
      let count = length-drop at text in
      let cut = drop_more text at 0 lt in
      let here : p ≡ piece_at (b ∷ bs) = is ∙ ap piece_at (whole ∙ cut) in
      let some : 0 < piece_len p = (rw whole at some_of) (omega (arith, count)) in
      let within : piece_len p ≤ length (drop at text) = rw whole at within_of in
      record {
        some = some;
        within = omega (arith, within, count);
        same = rw (cut, tokens_from-cons at b bs (subst (λ (q : Piece). 0 < piece_len q) here some), ← here, ← cut, drop-drop) refl;
      }

  -- one more piece of a loop over them
  pub goes_over : (text : List ℕ) (at : ℕ) (p : Piece) (spans pushed total : List Span) → Steps piece_at text at p
      → pushed ≡ spans ++ span_of at p → spans ++ tokens_from piece_at at 0 (drop at text) ≡ total
      → pushed ++ tokens_from piece_at (at + piece_len p) 0 (drop (at + piece_len p) text) ≡ total
  goes_over text at p spans pushed total s more so_far = rw (more, append_assoc, ← s.same) so_far

  -- the same at any text
  pub piece-some : (bs : List ℕ) → IsCut piece_at → 0 < length bs → 0 < piece_len (piece_at bs)
  piece-some [] form h = absurd (omega arith)
  piece-some (b ∷ bs) form h = (form.each b bs).some

  pub piece-le : (bs : List ℕ) → IsCut piece_at → piece_len (piece_at bs) ≤ length bs
  piece-le [] form = rw form.empty (omega arith)
  piece-le (b ∷ bs) form = let w = (form.each b bs).within in omega arith

  -- one more piece of the loop
  pub goes_on : (text : List ℕ) (at : ℕ) (p : Piece) (spans pushed total : List Span) → IsCut piece_at → at < length text → p ≡ piece_at (drop at text)
      → pushed ≡ spans ++ span_of at p → spans ++ tokens_from piece_at at 0 (drop at text) ≡ total
      → pushed ++ tokens_from piece_at (at + piece_len p) 0 (drop (at + piece_len p) text) ≡ total
  goes_on text at p spans pushed total form lt is more so_far =
      let s = steps text at p form lt is in
      rw (more, append_assoc, ← s.same) so_far

  pub ends : (text : List ℕ) (at : ℕ) (spans total : List Span) → length text ≤ at → spans ++ tokens_from piece_at at 0 (drop at text) ≡ total → spans ≡ total
  unfolding tokens_from
  ends text at spans total le so_far =
      let none : drop at text ≡ [] = drop_all at text le in
      sym (append-nil spans) ∙ ap (λ (rest : List ℕ). spans ++ tokens_from piece_at at 0 rest) (sym none) ∙ so_far
