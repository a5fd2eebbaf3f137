-- A text up to a place where a token begins, and what stands behind it, for any form of tokens with these laws.
use Rattle.std.proofs.Common.{◌≡◌, ℕ, zero, suc, ◌+◌, ◌-◌, ◌<◌, ◌≤◌, List, [], ◌∷◌, ◌++◌, length, take, drop, refl, sym, ap, ◌∙◌, subst, arith, length-drop}
use Rattle.std.proofs.lemmas.List.{drop-drop, drop-take, drop-append-le, take-append-le, take-append-drop, length-take}
use Rattle.token_forms.specs.declared.piece.Piece.{Piece}
use Rattle.token_forms.specs.declared.piece.Piece.TheVariants.{Blank, Token}
use Rattle.token_forms.specs.Pieces.{piece_len, text_of, texts_from}
use Rattle.token_forms.proofs.Cuts.{IsCut}

-- The laws of a form of tokens at a seam, where x ends and y or z begins. Starts is what new texts begin with; Hard says
-- of x that the tokens in it are decided by it alone.
pub record IsSeamForm (piece_at : List ℕ → Piece) (Starts Hard : List ℕ → Type 0) : Type 0 where
  pub cut : IsCut piece_at
  pub more : (b : ℕ) (x : List ℕ) → Hard x → Hard (b ∷ x)
  -- blanks that end within x or with it, before a token
  pub blank : (b : ℕ) (bs y z : List ℕ) (n m : ℕ) → piece_at y ≡ Token m → Starts z → piece_at (b ∷ bs ++ y) ≡ Blank n → n ≤ suc (length bs) → piece_at (b ∷ bs ++ z) ≡ Blank n
  -- a token that ends within x
  pub token : (b : ℕ) (bs y z : List ℕ) (n m : ℕ) → Hard (b ∷ bs) → piece_at y ≡ Token m → Starts z → piece_at (b ∷ bs ++ y) ≡ Token n → n < suc (length bs) → piece_at (b ∷ bs ++ z) ≡ Token n

-- a byte that is a token before whatever a new text begins with, and that decides what stands before it
pub record IsMark (piece_at : List ℕ → Piece) (Starts Hard : List ℕ → Type 0) (m : ℕ) : Type 0 where
  pub alone : (z : List ℕ) → Starts z → piece_at (m ∷ z) ≡ Token 1
  pub hard : (x : List ℕ) → Hard (m ∷ x)

-- x has these tokens, whatever new text follows it
pub record Front (piece_at : List ℕ → Piece) (Starts : List ℕ → Type 0) (x : List ℕ) (ws : List (List ℕ)) : Type 0 where
  pub goes : (z : List ℕ) → Starts z → texts_from piece_at 0 (x ++ z) ≡ ws ++ texts_from piece_at 0 z

module _ (piece_at : List ℕ → Piece) where
  inside : (n : ℕ) (bs : List ℕ) → texts_from piece_at n bs ≡ texts_from piece_at 0 (drop n bs)
  unfolding texts_from
  inside zero bs = refl
  inside (suc n) [] = refl
  inside (suc n) (b ∷ bs) = inside n bs

  behind : (n b : ℕ) (bs : List ℕ) → 0 < n → texts_from piece_at (n - 1) bs ≡ texts_from piece_at 0 (drop n (b ∷ bs))
  behind zero b bs some = absurd (omega arith)
  behind (suc n) b bs some = let k : suc n - 1 ≡ n = omega arith in rw k (inside n bs)

  -- the first piece, and the tokens behind it
  pub texts-step : (z : List ℕ) (p : Piece) → IsCut piece_at → piece_at z ≡ p → texts_from piece_at 0 z ≡ text_of p z ++ texts_from piece_at 0 (drop (piece_len p) z)
  unfolding texts_from
  texts-step [] p cut is = subst (λ (p : Piece). [] ≡ text_of p [] ++ texts_from piece_at 0 (drop (piece_len p) [])) (sym cut.empty ∙ is) refl
  texts-step (b ∷ bs) p cut is =
      subst (λ (p : Piece). texts_from piece_at 0 (b ∷ bs) ≡ text_of p (b ∷ bs) ++ texts_from piece_at 0 (drop (piece_len p) (b ∷ bs))) is
      (ap (λ (ts : List (List ℕ)). text_of (piece_at (b ∷ bs)) (b ∷ bs) ++ ts) (behind (piece_len (piece_at (b ∷ bs))) b bs (cut.each b bs).some))

  pub texts_nil : texts_from piece_at 0 [] ≡ []
  unfolding texts_from
  texts_nil = refl

module _ (piece_at : List ℕ → Piece) (Starts Hard : List ℕ → Type 0) (form : IsSeamForm piece_at Starts Hard) where
  pub front_nil : Front piece_at Starts [] []
  front_nil = record { goes = λ z s. refl }

  pub front_blank : (n m : ℕ) (x y : List ℕ) (ws : List (List ℕ)) → 0 < n → n ≤ length x → piece_at (x ++ y) ≡ Blank n → piece_at y ≡ Token m → Front piece_at Starts (drop n x) ws → Front piece_at Starts x ws
  front_blank n m [] y ws some le is sy fr = absurd (omega arith)
  front_blank n m (b ∷ bs) y ws some le is sy fr = record {
    goes = λ z sz.
        let here = form.blank b bs y z n m sy sz is le in
        texts-step piece_at (b ∷ bs ++ z) (Blank n) form.cut here ∙ ap (λ (r : List ℕ). texts_from piece_at 0 r) (drop-append-le n (b ∷ bs) z le) ∙ fr.goes z sz;
  }

  -- a token that is decided
  goes_token : (n : ℕ) (x z : List ℕ) (ws : List (List ℕ)) → n ≤ length x → Starts z → piece_at (x ++ z) ≡ Token n → Front piece_at Starts (drop n x) ws → texts_from piece_at 0 (x ++ z) ≡ take n x ∷ ws ++ texts_from piece_at 0 z
  goes_token n x z ws le sz here fr =
      texts-step piece_at (x ++ z) (Token n) form.cut here
      ∙ ap (λ (w : List ℕ). w ∷ texts_from piece_at 0 (drop n (x ++ z))) (take-append-le n x z le)
      ∙ ap (λ (r : List ℕ). take n x ∷ texts_from piece_at 0 r) (drop-append-le n x z le)
      ∙ ap (λ (ts : List (List ℕ)). take n x ∷ ts) (fr.goes z sz)

  pub front_token : (n m : ℕ) (x y : List ℕ) (ws : List (List ℕ)) → Hard x → n < length x → piece_at (x ++ y) ≡ Token n → piece_at y ≡ Token m → Front piece_at Starts (drop n x) ws → Front piece_at Starts x (take n x ∷ ws)
  front_token n m [] y ws hard lt is sy fr = absurd (omega arith)
  front_token n m (b ∷ bs) y ws hard lt is sy fr = record {
    goes = λ z sz. goes_token n (b ∷ bs) z ws (omega arith) sz (form.token b bs y z n m hard sy sz is lt) fr;
  }

  -- a mark, with blanks behind it or before the seam itself
  pub front_mark : (m k : ℕ) (x y : List ℕ) (ws : List (List ℕ)) → IsMark piece_at Starts Hard m → piece_at (m ∷ x ++ y) ≡ Token 1 → piece_at y ≡ Token k → Front piece_at Starts x ws → Front piece_at Starts (m ∷ x) ((m ∷ []) ∷ ws)
  front_mark m k [] y ws mark is sy fr = record { goes = λ z sz. goes_token 1 (m ∷ []) z ws (omega arith) sz (mark.alone z sz) fr }
  front_mark m k (b ∷ bs) y ws mark is sy fr = front_token 1 k (m ∷ b ∷ bs) y ws (mark.hard (b ∷ bs)) (omega arith) is sy fr

-- the bytes from one place to another
abbrev pub part : List ℕ → ℕ → ℕ → List ℕ
part text at s = take (s - at) (drop at text)

pub part-append : (text : List ℕ) (at s : ℕ) → at ≤ s → part text at s ++ drop s text ≡ drop at text
part-append text at s le =
    let e : at + (s - at) ≡ s = omega arith in
    ap (λ (n : ℕ). part text at s ++ drop n text) (sym e) ∙ ap (λ (r : List ℕ). part text at s ++ r) (sym (drop-drop (s - at) at text)) ∙ take-append-drop (s - at) (drop at text)

pub part-drop : (text : List ℕ) (at n s : ℕ) → at + n ≤ s → drop n (part text at s) ≡ part text (at + n) s
part-drop text at n s le =
    let m = s - (at + n) in
    let e : s - at ≡ n + m = omega arith in
    ap (λ (k : ℕ). drop n (take k (drop at text))) e ∙ drop-take n m (drop at text) ∙ ap (λ (r : List ℕ). take m r) (drop-drop n at text)

pub part-length : (text : List ℕ) (at s : ℕ) → at ≤ s → s ≤ length text → length (part text at s) ≡ s - at
part-length text at s le within = let a = length-take (s - at) (drop at text) in let b = length-drop at text in omega arith
