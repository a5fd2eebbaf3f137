-- A text by its pieces, and its tokens.
use Rattle.std.specs.Prelude.{⊤}
use Rattle.std.proofs.Common.{◌≡◌, ℕ, zero, suc, ◌+◌, ◌-◌, ◌<◌, ◌≤◌, Bool, true, false, cond, eqb, inl, inr, List, [], ◌∷◌, ◌++◌, length, take, drop, Some, refl, sym, ap, ◌∙◌, subst, arith, append_assoc, length-append, length-drop}
use Rattle.std.specs.List.{AllByRecursion as Each}
use Rattle.std.proofs.lemmas.Bool.{cases_Bool, true≢false, eqb-true}
use Rattle.std.proofs.lemmas.List.{take-append-drop, length-take-le, map-append}
use Rattle.std.proofs.lemmas.Option.{same_Some}
use Rattle.base_types.specs.declared.span.Span.{Span}
use Rattle.token_forms.specs.declared.piece.Piece.{Piece}
use Rattle.token_forms.specs.declared.piece.Piece.TheVariants.{Blank, Token as token}
use Rattle.token_forms.specs.Pieces.{piece_len, span_of, tokens_from}
use Rattle.token_forms.specs.Tokens.{Token, token_of, tokens_of}
use Rattle.token_forms.proofs.Cuts.{tokens_from-cons}
use Rattle.stil_tokens.specs.StilTokens.{brace_piece, piece_at}
use Rattle.stil_tokens.specs.StilStatements.{is_only}
use Rattle.stil_tokens.proofs.StilPieces.{stil_cut}
use Rattle.stil_writer.specs.Calls.{brace_end}
use Rattle.stil_writer.proofs.Pieces.{piece_stays}

-- the bytes of pieces, each of which is a token or not
abbrev pub bytes_in : List (Bool × List ℕ) → List ℕ
bytes_in [] = []
bytes_in (p ∷ ps) = p.1 ++ bytes_in ps

abbrev pub piece_for : Bool → ℕ → Piece
piece_for true n = token n
piece_for false n = Blank n

-- before some bytes the pieces stand one behind the other
abbrev pub AreLaid : List ℕ → List (Bool × List ℕ) → Type 0
AreLaid z [] = ⊤
AreLaid z (p ∷ ps) = (0 < length p.1) × (piece_at (p.1 ++ (bytes_in ps ++ z)) ≡ piece_for p.0 (length p.1)) × AreLaid z ps

abbrev pub one_token : Bool → List ℕ → ℕ → List Token
one_token true w at = record { text = w; start = at; end = at + length w } ∷ []
one_token false w at = []

-- the tokens of pieces that begin at a place
abbrev pub laid : ℕ → List (Bool × List ℕ) → List Token
laid at [] = []
laid at (p ∷ ps) = one_token p.0 p.1 at ++ laid (at + length p.1) ps

pub drop_front : (x w : List ℕ) → drop (length x) (x ++ w) ≡ w
drop_front [] w = refl
drop_front (b ∷ bs) w = drop_front bs w

pub take_front : (x w : List ℕ) → take (length x) (x ++ w) ≡ x
take_front [] w = refl
take_front (b ∷ bs) w = ap (λ (l : List ℕ). b ∷ l) (take_front bs w)

text_at : (front w rest : List ℕ) (at : ℕ) → at ≡ length front → take (at + length w - at) (drop at (front ++ (w ++ rest))) ≡ w
text_at front w rest at e =
    let k : at + length w - at ≡ length w = omega arith in
    rw (k, e, drop_front front (w ++ rest)) (take_front w rest)

-- the tokens behind a piece
module _ (at b : ℕ) (bs : List ℕ) (p : Piece) (is : piece_at (b ∷ bs) ≡ p) where
  pub step : tokens_from piece_at at 0 (b ∷ bs) ≡ span_of at p ++ tokens_from piece_at (at + piece_len p) 0 (drop (piece_len p) (b ∷ bs))
  step = subst (λ (q : Piece). tokens_from piece_at at 0 (b ∷ bs) ≡ span_of at q ++ tokens_from piece_at (at + piece_len q) 0 (drop (piece_len q) (b ∷ bs))) is (tokens_from-cons piece_at at b bs (stil_cut.each b bs).some)

pub len_for : (t : Bool) (n : ℕ) → piece_len (piece_for t n) ≡ n
len_for true n = refl
len_for false n = refl

one_for : (t : Bool) (front w rest : List ℕ) (at : ℕ) → at ≡ length front → tokens_of (front ++ (w ++ rest)) (span_of at (piece_for t (length w))) ≡ one_token t w at
one_for true front w rest at e = ap (λ (l : List ℕ). record { text = l; start = at; end = at + length w } ∷ []) (text_at front w rest at e)
one_for false front w rest at e = refl

-- one piece in front
one_more : (front : List ℕ) (t : Bool) (w rest : List ℕ) (at : ℕ) → at ≡ length front → 0 < length w → piece_at (w ++ rest) ≡ piece_for t (length w)
    → tokens_of (front ++ (w ++ rest)) (tokens_from piece_at at 0 (w ++ rest)) ≡ one_token t w at ++ tokens_of ((front ++ w) ++ rest) (tokens_from piece_at (at + length w) 0 rest)
one_more front t [] rest at e some is = absurd (omega arith)
one_more front t (b ∷ w) rest at e some is =
    let whole = b ∷ w in
    let s = step at b (w ++ rest) (piece_for t (length whole)) is in
    let cut : drop (piece_len (piece_for t (length whole))) (whole ++ rest) ≡ rest = ap (λ (n : ℕ). drop n (whole ++ rest)) (len_for t (length whole)) ∙ drop_front whole rest in
    let later : tokens_from piece_at (at + piece_len (piece_for t (length whole))) 0 (drop (piece_len (piece_for t (length whole))) (whole ++ rest)) ≡ tokens_from piece_at (at + length whole) 0 rest =
    ap (λ (n : ℕ). tokens_from piece_at (at + n) 0 (drop (piece_len (piece_for t (length whole))) (whole ++ rest))) (len_for t (length whole)) ∙ ap (tokens_from piece_at (at + length whole) 0) cut in
    let text = front ++ (whole ++ rest) in
    ap (tokens_of text) (s ∙ ap (λ (l : List Span). span_of at (piece_for t (length whole)) ++ l) later)
    ∙ map-append (token_of text) (span_of at (piece_for t (length whole))) (tokens_from piece_at (at + length whole) 0 rest)
    ∙ ap (λ (l : List Token). l ++ tokens_of text (tokens_from piece_at (at + length whole) 0 rest)) (one_for t front whole rest at e)
    ∙ ap (λ (l : List ℕ). one_token t whole at ++ tokens_of l (tokens_from piece_at (at + length whole) 0 rest)) (sym (append_assoc front whole rest))

-- the tokens of pieces, and then those behind them
pub laid_is : (front : List ℕ) (at : ℕ) (ps : List (Bool × List ℕ)) (z : List ℕ) → at ≡ length front → AreLaid z ps
    → tokens_of (front ++ (bytes_in ps ++ z)) (tokens_from piece_at at 0 (bytes_in ps ++ z)) ≡ laid at ps ++ tokens_of (front ++ (bytes_in ps ++ z)) (tokens_from piece_at (at + length (bytes_in ps)) 0 z)
laid_is front at [] z e l = let k : at ≡ at + 0 = omega arith in ap (λ (n : ℕ). tokens_of (front ++ z) (tokens_from piece_at n 0 z)) k
laid_is front at (p ∷ ps) z e l =
    let w = p.1 in
    let rest = bytes_in ps ++ z in
    let cut : (w ++ bytes_in ps) ++ z ≡ w ++ rest = append_assoc w (bytes_in ps) z in
    let behind : at + length w ≡ length (front ++ w) = omega (arith, length-append front w) in
    let one = one_more front p.0 w rest at e l.0 l.1 in
    let more = laid_is (front ++ w) (at + length w) ps z behind l.2 in
    let places : at + length w + length (bytes_in ps) ≡ at + length (w ++ bytes_in ps) = omega (arith, length-append w (bytes_in ps)) in
    let texts : (front ++ w) ++ rest ≡ front ++ ((w ++ bytes_in ps) ++ z) = append_assoc front w rest ∙ ap (λ (l : List ℕ). front ++ l) (sym cut) in
    ap (λ (l : List ℕ). tokens_of (front ++ l) (tokens_from piece_at at 0 l)) cut ∙ one
    ∙ ap (λ (l : List Token). one_token p.0 w at ++ l) more
    ∙ sym (append_assoc (one_token p.0 w at) (laid (at + length w) ps) (tokens_of ((front ++ w) ++ rest) (tokens_from piece_at (at + length w + length (bytes_in ps)) 0 z)))
    ∙ ap (λ (l : List ℕ). (one_token p.0 w at ++ laid (at + length w) ps) ++ tokens_of l (tokens_from piece_at (at + length w + length (bytes_in ps)) 0 z)) texts
    ∙ ap (λ (n : ℕ). (one_token p.0 w at ++ laid (at + length w) ps) ++ tokens_of (front ++ ((w ++ bytes_in ps) ++ z)) (tokens_from piece_at n 0 z)) places

-- a * stands first
abbrev pub begins_star : List ℕ → Bool
begins_star [] = false
begins_star (b ∷ bs) = eqb b 42

pub brace_alone : (z : List ℕ) → begins_star z ≡ false → piece_at (123 ∷ z) ≡ token 1
unfolding piece_at brace_piece
brace_alone [] e = refl
brace_alone (b ∷ z) e = rw e refl

abbrev pub IsNoBrace : Bool × List ℕ → Type 0
IsNoBrace p = p.0 ≡ true → is_only 123 p.1 ≡ false

-- the pieces before the first brace, and what stands behind it
pub record Found (bs : List ℕ) (at n : ℕ) : Type 0 where
  pub pieces : List (Bool × List ℕ)
  pub rest : List ℕ
  pub cut : bs ≡ bytes_in pieces ++ 123 ∷ rest
  pub alone : piece_at (123 ∷ rest) ≡ token 1
  pub place : n ≡ at + length (bytes_in pieces) + 1
  pub are_laid : (z : List ℕ) → AreLaid (123 ∷ z) pieces
  pub none : Each IsNoBrace pieces

brace_is : (b : ℕ) → eqb b 123 ≡ true → b ∷ [] ≡ 123 ∷ []
brace_is b e = ap (λ (n : ℕ). n ∷ []) (eqb-true b 123 e)

only_one : (w : List ℕ) → is_only 123 w ≡ true → w ≡ 123 ∷ []
only_one [] e = absurd cc
only_one (b ∷ []) e = brace_is b e
only_one (b ∷ c ∷ w) e = absurd cc

module _ (bs w : List ℕ) (t : Bool) (k at n : ℕ) (front : List ℕ) (cut : bs ≡ w ++ drop k bs) (len : length w ≡ k) (some : 0 < k) (is : piece_at bs ≡ piece_for t k) (plain : t ≡ true → is_only 123 w ≡ false) where
  put_front : Found (drop k bs) (at + k) n → Found bs at n
  put_front f =
      let x = w ++ (bytes_in f.pieces ++ 123 ∷ []) in
      let inner : drop k bs ≡ (bytes_in f.pieces ++ 123 ∷ []) ++ f.rest = f.cut ∙ sym (append_assoc (bytes_in f.pieces) (123 ∷ []) f.rest) in
      let whole : bs ≡ x ++ f.rest = cut ∙ ap (λ (l : List ℕ). w ++ l) inner ∙ sym (append_assoc w (bytes_in f.pieces ++ 123 ∷ []) f.rest) in
      let short : piece_len (piece_at (x ++ f.rest)) < length x =
      (let m : piece_len (piece_at (x ++ f.rest)) ≡ k = ap (λ (l : List ℕ). piece_len (piece_at l)) (sym whole) ∙ ap piece_len is ∙ len_for t k in
      omega (arith, m, len, length-append w (bytes_in f.pieces ++ 123 ∷ []), length-append (bytes_in f.pieces) (123 ∷ []))) in
      record {
        pieces = (t, w) ∷ f.pieces;
        rest = f.rest;
        cut = cut ∙ ap (λ (l : List ℕ). w ++ l) f.cut ∙ sym (append_assoc w (bytes_in f.pieces) (123 ∷ f.rest));
        alone = f.alone;
        place = omega (arith, f.place, len, length-append w (bytes_in f.pieces));
        are_laid = λ z.
            (let same : w ++ (bytes_in f.pieces ++ 123 ∷ z) ≡ x ++ z =
            ap (λ (l : List ℕ). w ++ l) (sym (append_assoc (bytes_in f.pieces) (123 ∷ []) z)) ∙ sym (append_assoc w (bytes_in f.pieces ++ 123 ∷ []) z) in
            (omega (arith, len), ap piece_at same ∙ piece_stays x f.rest z short ∙ ap piece_at (sym whole) ∙ is ∙ ap (piece_for t) (sym len), f.are_laid z));
        none = (plain, f.none);
      }

pub by_piece : (p : Piece) (n : ℕ) → piece_len p ≡ n → (t : Bool) × (p ≡ piece_for t n)
by_piece (Blank m) n e = (false, ap Blank e)
by_piece (token m) n e = (true, ap token e)

find_here : (bs w : List ℕ) (k at n : ℕ) (ts : List Token) → bs ≡ w ++ drop k bs → length w ≡ k → is_only 123 w ≡ true → piece_at bs ≡ token k → brace_end (record { text = w; start = at; end = at + k } ∷ ts) ≡ Some n → Found bs at n
find_here bs w k at n ts cut len only is e =
    let w1 = only_one w only in
    let k1 : k ≡ 1 = sym len ∙ ap (λ (l : List ℕ). length l) w1 in
    let place : at + k ≡ n = same_Some _ _ (sym (ap (λ (b : Bool). cond b (Some (at + k)) (brace_end ts)) only) ∙ e) in
    let whole : bs ≡ 123 ∷ drop k bs = cut ∙ ap (λ (l : List ℕ). l ++ drop k bs) w1 in
    record { pieces = []; rest = drop k bs; cut = whole; alone = ap piece_at (sym whole) ∙ is ∙ ap token k1; place = omega (arith, place, k1); are_laid = λ z. tt; none = tt }

find_as : (fuel : ℕ) (front bs : List ℕ) (at n : ℕ) (t : Bool) (w : List ℕ) (k : ℕ) → bs ≡ w ++ drop k bs → length w ≡ k → 0 < k → piece_at bs ≡ piece_for t k → at ≡ length front
    → brace_end (one_token t w at ++ tokens_of ((front ++ w) ++ drop k bs) (tokens_from piece_at (at + k) 0 (drop k bs))) ≡ Some n
    → (brace_end (tokens_of ((front ++ w) ++ drop k bs) (tokens_from piece_at (at + k) 0 (drop k bs))) ≡ Some n → Found (drop k bs) (at + k) n) → Found bs at n
find_as fuel front bs at n false w k cut len some is place e more = put_front bs w false k at n front cut len some is (λ f. absurd (true≢false (sym f))) (more e)
find_as fuel front bs at n true w k cut len some is place e more = elim (cases_Bool (is_only 123 w)) [
  | inl only ↦ find_here bs w k at n (tokens_of ((front ++ w) ++ drop k bs) (tokens_from piece_at (at + k) 0 (drop k bs))) cut len only
      is (subst (λ (m : ℕ). brace_end (record { text = w; start = at; end = at + m } ∷ tokens_of ((front ++ w) ++ drop k bs) (tokens_from piece_at (at + k) 0 (drop k bs))) ≡ Some n) len e)
  | inr other ↦ put_front bs w true k at n front cut len some is (λ f. other)
      (more (sym (ap (λ (b : Bool). cond b (Some (at + length w)) (brace_end (tokens_of ((front ++ w) ++ drop k bs) (tokens_from piece_at (at + k) 0 (drop k bs))))) other) ∙ e))
]

pub find : (fuel : ℕ) (front bs : List ℕ) (at n : ℕ) → length bs ≤ fuel → at ≡ length front → brace_end (tokens_of (front ++ bs) (tokens_from piece_at at 0 bs)) ≡ Some n → Found bs at n
unfolding tokens_from
find fuel front [] at n short place e = absurd cc
find zero front (b ∷ bs) at n short place e = absurd (omega arith)
find (suc fuel) front (b ∷ bs) at n short place e =
    let whole = b ∷ bs in
    let k = piece_len (piece_at whole) in
    let c = stil_cut.each b bs in
    let w = take k whole in
    let len : length w ≡ k = length-take-le k whole (omega (arith, c.within)) in
    let p = by_piece (piece_at whole) k refl in
    let cut : whole ≡ w ++ drop k whole = sym (take-append-drop k whole) in
    let some : 0 < length w = omega (arith, len, c.some) in
    let is : piece_at (w ++ drop k whole) ≡ piece_for p.0 (length w) = ap piece_at (sym cut) ∙ p.1 ∙ ap (piece_for p.0) (sym len) in
    let one = one_more front p.0 w (drop k whole) at place some is in
    let f = ap (λ (l : List ℕ). tokens_of (front ++ l) (tokens_from piece_at at 0 l)) cut ∙ one in
    let g : brace_end (one_token p.0 w at ++ tokens_of ((front ++ w) ++ drop k whole) (tokens_from piece_at (at + k) 0 (drop k whole))) ≡ Some n =
    ap (λ (m : ℕ). brace_end (one_token p.0 w at ++ tokens_of ((front ++ w) ++ drop k whole) (tokens_from piece_at (at + m) 0 (drop k whole)))) (sym len) ∙ sym (ap brace_end f) ∙ e in
    find_as fuel front whole at n p.0 w k cut len c.some p.1 place g
    (λ h. find fuel (front ++ w) (drop k whole) (at + k) n (omega (arith, length-drop k whole, c.some)) (omega (arith, length-append front w, len, place)) h)
