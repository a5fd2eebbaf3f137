-- A text by its pieces, and its tokens.
use Rattle.std.specs.Prelude.{⊤}
use Rattle.std.proofs.Common.{◌≡◌, ℕ, zero, suc, ◌+◌, ◌-◌, ◌<◌, ◌≤◌, Bool, true, false, cond, eqb, ◌&&◌, ◌||◌, not, inl, inr, List, [], ◌∷◌, ◌++◌, length, take, drop, map, Option, Some, None, refl, sym, ap, ◌∙◌, subst, arith, append_assoc, length-append, length-drop}
use Rattle.std.specs.List.{AllByRecursion as Each}
use Rattle.std.proofs.lemmas.Bool.{cases_Bool, true≢false, eqb-true}
use Rattle.std.proofs.lemmas.List.{take-append-drop, length-take-le, map-append}
use Rattle.std.proofs.lemmas.Option.{same_Some}
use Rattle.base_types.specs.declared.span.Span.{Span}
use Rattle.token_forms.specs.declared.piece.Piece.{Piece}
use Rattle.token_forms.specs.declared.piece.Piece.TheVariants.{Blank, Token as token}
use Rattle.token_forms.specs.Pieces.{piece_len, span_of, tokens_from}
use Rattle.token_forms.specs.Tokens.{Token, token_of, tokens_of}
use Rattle.token_forms.proofs.Cuts.{tokens_from-cons}
use Rattle.stil_tokens.specs.StilTokens.{brace_piece, piece_at, tokens_in}
use Rattle.stil_tokens.specs.StilStatements.{is_only}
use Rattle.stil_tokens.proofs.StilPieces.{stil_cut}
use Rattle.head_text.specs.Mixes.{bytes_in, piece_for, AreLaid, one_token, laid}

pub drop_front : (x w : List ℕ) → drop (length x) (x ++ w) ≡ w
drop_front [] w = refl
drop_front (b ∷ bs) w = drop_front bs w

pub take_front : (x w : List ℕ) → take (length x) (x ++ w) ≡ x
take_front [] w = refl
take_front (b ∷ bs) w = ap (λ (l : List ℕ). b ∷ l) (take_front bs w)

text_at : (front w rest : List ℕ) (at : ℕ) → at ≡ length front → take (at + length w - at) (drop at (front ++ (w ++ rest))) ≡ w
text_at front w rest at e =
    let k : at + length w - at ≡ length w = omega arith in
    rw (k, e, drop_front front (w ++ rest)) (take_front w rest)

-- the tokens behind a piece
module _ (at b : ℕ) (bs : List ℕ) (p : Piece) (is : piece_at (b ∷ bs) ≡ p) where
  pub step : tokens_from piece_at at 0 (b ∷ bs) ≡ span_of at p ++ tokens_from piece_at (at + piece_len p) 0 (drop (piece_len p) (b ∷ bs))
  step = subst (λ (q : Piece). tokens_from piece_at at 0 (b ∷ bs) ≡ span_of at q ++ tokens_from piece_at (at + piece_len q) 0 (drop (piece_len q) (b ∷ bs))) is (tokens_from-cons piece_at at b bs (stil_cut.each b bs).some)

len_for : (t : Bool) (n : ℕ) → piece_len (piece_for t n) ≡ n
len_for true n = refl
len_for false n = refl

one_for : (t : Bool) (front w rest : List ℕ) (at : ℕ) → at ≡ length front → tokens_of (front ++ (w ++ rest)) (span_of at (piece_for t (length w))) ≡ one_token t w at
one_for true front w rest at e = ap (λ (l : List ℕ). record { text = l; start = at; end = at + length w } ∷ []) (text_at front w rest at e)
one_for false front w rest at e = refl

-- one piece in front
one_more : (front : List ℕ) (t : Bool) (w rest : List ℕ) (at : ℕ) → at ≡ length front → 0 < length w → piece_at (w ++ rest) ≡ piece_for t (length w)
    → tokens_of (front ++ (w ++ rest)) (tokens_from piece_at at 0 (w ++ rest)) ≡ one_token t w at ++ tokens_of ((front ++ w) ++ rest) (tokens_from piece_at (at + length w) 0 rest)
one_more front t [] rest at e some is = absurd (omega arith)
one_more front t (b ∷ w) rest at e some is =
    let whole = b ∷ w in
    let s = step at b (w ++ rest) (piece_for t (length whole)) is in
    let cut : drop (piece_len (piece_for t (length whole))) (whole ++ rest) ≡ rest = ap (λ (n : ℕ). drop n (whole ++ rest)) (len_for t (length whole)) ∙ drop_front whole rest in
    let later : tokens_from piece_at (at + piece_len (piece_for t (length whole))) 0 (drop (piece_len (piece_for t (length whole))) (whole ++ rest)) ≡ tokens_from piece_at (at + length whole) 0 rest =
    ap (λ (n : ℕ). tokens_from piece_at (at + n) 0 (drop (piece_len (piece_for t (length whole))) (whole ++ rest))) (len_for t (length whole)) ∙ ap (tokens_from piece_at (at + length whole) 0) cut in
    let text = front ++ (whole ++ rest) in
    ap (tokens_of text) (s ∙ ap (λ (l : List Span). span_of at (piece_for t (length whole)) ++ l) later)
    ∙ map-append (token_of text) (span_of at (piece_for t (length whole))) (tokens_from piece_at (at + length whole) 0 rest)
    ∙ ap (λ (l : List Token). l ++ tokens_of text (tokens_from piece_at (at + length whole) 0 rest)) (one_for t front whole rest at e)
    ∙ ap (λ (l : List ℕ). one_token t whole at ++ tokens_of l (tokens_from piece_at (at + length whole) 0 rest)) (sym (append_assoc front whole rest))

-- the tokens of pieces, and then those behind them
pub laid_is : (front : List ℕ) (at : ℕ) (ps : List (Bool × List ℕ)) (z : List ℕ) → at ≡ length front → AreLaid z ps
    → tokens_of (front ++ (bytes_in ps ++ z)) (tokens_from piece_at at 0 (bytes_in ps ++ z)) ≡ laid at ps ++ tokens_of (front ++ (bytes_in ps ++ z)) (tokens_from piece_at (at + length (bytes_in ps)) 0 z)
laid_is front at [] z e l = let k : at ≡ at + 0 = omega arith in ap (λ (n : ℕ). tokens_of (front ++ z) (tokens_from piece_at n 0 z)) k
laid_is front at (p ∷ ps) z e l =
    let w = p.1 in
    let rest = bytes_in ps ++ z in
    let cut : (w ++ bytes_in ps) ++ z ≡ w ++ rest = append_assoc w (bytes_in ps) z in
    let behind : at + length w ≡ length (front ++ w) = omega (arith, length-append front w) in
    let one = one_more front p.0 w rest at e l.0 l.1 in
    let more = laid_is (front ++ w) (at + length w) ps z behind l.2 in
    let places : at + length w + length (bytes_in ps) ≡ at + length (w ++ bytes_in ps) = omega (arith, length-append w (bytes_in ps)) in
    let texts : (front ++ w) ++ rest ≡ front ++ ((w ++ bytes_in ps) ++ z) = append_assoc front w rest ∙ ap (λ (l : List ℕ). front ++ l) (sym cut) in
    ap (λ (l : List ℕ). tokens_of (front ++ l) (tokens_from piece_at at 0 l)) cut ∙ one
    ∙ ap (λ (l : List Token). one_token p.0 w at ++ l) more
    ∙ sym (append_assoc (one_token p.0 w at) (laid (at + length w) ps) (tokens_of ((front ++ w) ++ rest) (tokens_from piece_at (at + length w + length (bytes_in ps)) 0 z)))
    ∙ ap (λ (l : List ℕ). (one_token p.0 w at ++ laid (at + length w) ps) ++ tokens_of l (tokens_from piece_at (at + length w + length (bytes_in ps)) 0 z)) texts
    ∙ ap (λ (n : ℕ). (one_token p.0 w at ++ laid (at + length w) ps) ++ tokens_of (front ++ ((w ++ bytes_in ps) ++ z)) (tokens_from piece_at n 0 z)) places
