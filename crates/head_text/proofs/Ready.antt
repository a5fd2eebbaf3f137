-- Numbers among blanks, and texts by their pieces.
use Rattle.std.proofs.Common.{◌≡◌, ℕ, zero, suc, ◌+◌, ◌-◌, ◌<◌, ◌≤◌, Bool, true, false, cond, eqb, ◌&&◌, ◌||◌, not, ◌⊎◌, inl, inr, List, [], ◌∷◌, ◌++◌, length, take, drop, codes, is_some, Option, Some, None, refl, sym, ap, ◌∙◌, subst, arith, append_assoc, length-append, length-drop}
use Rattle.std.specs.Prelude.{nat_le}
use Rattle.std.specs.List.{prefix_len, list_all}
use Rattle.std.proofs.lemmas.Bool.{cases_Bool, true≢false, eqb-true, leb-true, and_parts}
use Rattle.std.proofs.lemmas.List.{append-nil, take-append-drop, length-take-le}
use Rattle.base_types.specs.declared.span.Span.{Span}
use Rattle.token_forms.specs.declared.piece.Piece.{Piece}
use Rattle.token_forms.specs.declared.piece.Piece.TheVariants.{Blank, Token as token}
use Rattle.token_forms.specs.Parsing.{◌>>=◌}
use Rattle.token_forms.specs.Pieces.{piece_len}
use Rattle.token_forms.specs.Tokens.{Token}
use Rattle.stil_tokens.specs.StilSplit.{goes_on}
use Rattle.stil_tokens.specs.StilTokens.{is_blank, is_quote, is_mark, is_run, closed_len, line_len, brace_piece, slash_piece, piece_at}
use Rattle.stil_tokens.proofs.StilPieces.{stil_cut}
use Rattle.stil_types.specs.declared.head.ScanChainDecl.{ScanChainDecl}
use Rattle.stil_syntax.specs.Digits.{is_digit}
use Rattle.stil_blocks.specs.declared.clause.Clause.{Clause}
use Rattle.stil_blocks.specs.declared.clause.Clause.TheVariants.{Inversion}
use Rattle.stil_blocks.specs.Statements.{span_of}
use Rattle.stil_blocks.specs.Chains.{bit_of, clause_by, word_clause}
use Rattle.head_alike.specs.Steps.{Step, Keep, Anew}
use Rattle.head_alike.specs.Chains.{IsTurned}
use Rattle.head_text.specs.Mixes.{bytes_in, piece_for, AreLaid, laid, Mix, Stay, Change, old_pieces, new_pieces, token_of_bytes, steps}
use Rattle.head_text.specs.Ready.{IsPieces, PiecesLaw, StepsLaw, AreBlank, IsNumber, NumberLaw}
use Rattle.head_text.proofs.Mixes.{stay_before, run_ends, bytes_append}

-- every text is its pieces
by_piece : (p : Piece) (n : ℕ) → piece_len p ≡ n → (t : Bool) × (p ≡ piece_for t n)
by_piece (Blank m) n e = (false, ap Blank e)
by_piece (token m) n e = (true, ap token e)

pieces : (fuel : ℕ) (bs : List ℕ) → length bs ≤ fuel → IsPieces bs
pieces fuel [] short = record { pieces = []; is = refl; are = tt }
pieces zero (b ∷ bs) short = absurd (omega arith)
pieces (suc fuel) (b ∷ bs) short =
    let whole = b ∷ bs in
    let k = piece_len (piece_at whole) in
    let c = stil_cut.each b bs in
    let some = c.some in
    let w = take k whole in
    let len : length w ≡ k = length-take-le k whole (omega (arith, c.within)) in
    let p = by_piece (piece_at whole) k refl in
    let cut : w ++ drop k whole ≡ whole = take-append-drop k whole in
    let left = length-drop k whole in
    let r = pieces fuel (drop k whole) (omega (arith, left, some)) in
    let rest : bytes_in r.pieces ++ [] ≡ drop k whole = append-nil (bytes_in r.pieces) ∙ r.is in
    record {
      pieces = (p.0, w) ∷ r.pieces;
      is = ap (λ (l : List ℕ). w ++ l) r.is ∙ cut;
      are = (omega (arith, len, some), ap (λ (l : List ℕ). piece_at (w ++ l)) rest ∙ ap piece_at cut ∙ p.1 ∙ ap (piece_for p.0) (sym len), r.are);
    }

pub pieces_law : PiecesLaw
pieces_law text = pieces (length text) text (omega arith)

-- steps of mixes behind mixes
steps_at : (a b c d : ℕ) (n : List Mix) → a ≡ c → b ≡ d → steps a b n ≡ steps c d n
steps_at a b c d n e f = ap (λ (k : ℕ). steps k b n) e ∙ ap (λ (k : ℕ). steps c k n) f

pub steps_law : StepsLaw
steps_law at to [] n = steps_at at to (at + 0) (to + 0) n (omega arith) (omega arith)
steps_law at to (Stay true w ∷ m) n =
    let e = length-append w (bytes_in (old_pieces m)) in
    let f = length-append w (bytes_in (new_pieces m)) in
    ap (λ (l : List Step). Keep (token_of_bytes w at) (token_of_bytes w to) ∷ l)
    (steps_law (at + length w) (to + length w) m n ∙ ap (λ (l : List Step). steps (at + length w) (to + length w) m ++ l) (steps_at _ _ _ _ n (omega (arith, e)) (omega (arith, f))))
steps_law at to (Stay false w ∷ m) n =
    let e = length-append w (bytes_in (old_pieces m)) in
    let f = length-append w (bytes_in (new_pieces m)) in
    steps_law (at + length w) (to + length w) m n ∙ ap (λ (l : List Step). steps (at + length w) (to + length w) m ++ l) (steps_at _ _ _ _ n (omega (arith, e)) (omega (arith, f)))
steps_law at to (Change w os ns ∷ m) n =
    let e = length-append w (bytes_in (os ++ (true, 59 ∷ []) ∷ old_pieces m)) in
    let e' = ap length (bytes_append os ((true, 59 ∷ []) ∷ old_pieces m)) ∙ length-append (bytes_in os) (59 ∷ bytes_in (old_pieces m)) in
    let f = length-append w (bytes_in (ns ++ (true, 59 ∷ []) ∷ new_pieces m)) in
    let f' = ap length (bytes_append ns ((true, 59 ∷ []) ∷ new_pieces m)) ∙ length-append (bytes_in ns) (59 ∷ bytes_in (new_pieces m)) in
    ap (λ (l : List Step). Anew (token_of_bytes w at) (token_of_bytes w to) (laid (at + length w) os) (laid (to + length w) ns)
    (token_of_bytes (59 ∷ []) (at + length w + length (bytes_in os))) (token_of_bytes (59 ∷ []) (to + length w + length (bytes_in ns))) ∷ l)
    (steps_law (at + length w + length (bytes_in os) + 1) (to + length w + length (bytes_in ns) + 1) m n
    ∙ ap (λ (l : List Step). steps (at + length w + length (bytes_in os) + 1) (to + length w + length (bytes_in ns) + 1) m ++ l) (steps_at _ _ _ _ n (omega (arith, e, e')) (omega (arith, f, f'))))

-- digits
pub record IsByte (b : ℕ) : Type 0 where
  pub blank : is_blank b ≡ false
  pub quote : is_quote b ≡ false
  pub brace : eqb b 123 ≡ false
  pub mark : is_mark b ≡ false
  pub slash : eqb b 47 ≡ false
  pub star : eqb b 42 ≡ false
  pub line : eqb b 10 ≡ false
  pub run : is_run b ≡ true

apart : (b c : ℕ) → 48 ≤ b → b ≤ 57 → (c < 48) ⊎ (57 < c) → eqb b c ≡ false
apart b c low high (inl h) = elim (cases_Bool (eqb b c)) [ inl e ↦ (let k = eqb-true b c e in absurd (omega (arith, k))) | inr e ↦ e ]
apart b c low high (inr h) = elim (cases_Bool (eqb b c)) [ inl e ↦ (let k = eqb-true b c e in absurd (omega (arith, k))) | inr e ↦ e ]

pub digit_is : (b : ℕ) → is_digit b ≡ true → IsByte b
digit_is b e =
    let k = and_parts (nat_le 48 b) (nat_le b 57) e in
    let low = leb-true 48 b (k.0) in
    let high = leb-true b 57 (k.1) in
    let a1 = apart b 32 low high (inl (omega arith)) in
    let a2 = apart b 9 low high (inl (omega arith)) in
    let a3 = apart b 10 low high (inl (omega arith)) in
    let a4 = apart b 13 low high (inl (omega arith)) in
    let a5 = apart b 34 low high (inl (omega arith)) in
    let a6 = apart b 39 low high (inl (omega arith)) in
    let a7 = apart b 123 low high (inr (omega arith)) in
    let a8 = apart b 125 low high (inr (omega arith)) in
    let a9 = apart b 59 low high (inr (omega arith)) in
    let b1 = apart b 61 low high (inr (omega arith)) in
    let b2 = apart b 58 low high (inr (omega arith)) in
    let b3 = apart b 33 low high (inl (omega arith)) in
    let b4 = apart b 47 low high (inl (omega arith)) in
    let b5 = apart b 42 low high (inl (omega arith)) in
    record {
      blank = rw (a1, a2, a3, a4) refl;
      quote = rw (a5, a6) refl;
      brace = a7;
      mark = rw (a7, a8, a9, b1, b2, b3) refl;
      slash = b4;
      star = b5;
      line = a3;
      run = rw (a1, a2, a3, a4, a5, a6, a7, a8, a9, b1, b2, b3) refl;
    }

pub run_over : (y r : List ℕ) → list_all is_digit y ≡ true → prefix_len is_run (y ++ r) ≡ length y + prefix_len is_run r
run_over [] r e = omega arith
run_over (b ∷ y) r e =
    let k = and_parts (is_digit b) (list_all is_digit y) e in
    let more = run_over y r k.1 in
    let here : prefix_len is_run (b ∷ (y ++ r)) ≡ 1 + prefix_len is_run (y ++ r) = ap (λ (t : Bool). cond t (1 + prefix_len is_run (y ++ r)) 0) ((digit_is b k.0).run) in
    omega (arith, here, more)

pub number_piece : (b : ℕ) (y r : List ℕ) → list_all is_digit (b ∷ y) ≡ true → piece_at (b ∷ (y ++ r)) ≡ token (1 + (length y + prefix_len is_run r))
unfolding piece_at
number_piece b y r e =
    let k = and_parts (is_digit b) (list_all is_digit y) e in
    let d = digit_is b k.0 in
    let d1 = d.blank in
    let d2 = d.quote in
    let d3 = d.brace in
    let d4 = d.mark in
    let d5 = d.slash in
    rw (d1, d2, d4, d3, d5) (ap (λ (n : ℕ). token (1 + n)) (run_over y r k.1))

-- a comment or blank right before a number
pick : (t : Bool) (x y u v w : Piece) → cond t x y ≡ w → (t ≡ true → x ≡ w → u ≡ w) → (t ≡ false → y ≡ w → v ≡ w) → cond t u v ≡ w
pick true x y u v w e f g = f refl e
pick false x y u v w e f g = g refl e

no_token : (a b : ℕ) (u : Piece) → token a ≡ Blank b → u ≡ Blank b
no_token a b u e = absurd cc

len_step : (t : Bool) (m n : ℕ) → cond t (1 + m) 0 ≡ suc n → m ≡ n
len_step true m n e = omega (arith, e)
len_step false m n e = absurd cc

never_there : (t : ℕ → Bool) (q : List ℕ) (b : ℕ) (r : List ℕ) → t b ≡ true → prefix_len t (q ++ b ∷ r) ≡ length q → ⊥
never_there t [] b r yet e =
    let k : prefix_len t (b ∷ r) ≡ 1 + prefix_len t r = ap (λ (c : Bool). cond c (1 + prefix_len t r) 0) yet in
    absurd (omega (arith, k, e))
never_there t (a ∷ q) b r yet e = never_there t q b r yet (len_step (t a) (prefix_len t (q ++ b ∷ r)) (length q) e)

close_step : (t : Bool) (m n k : ℕ) → cond t 1 (1 + m) ≡ suc k → (m ≡ k → n ≡ k) → cond t 1 (1 + n) ≡ suc k
close_step true m n k e f = e
close_step false m n k e f = let h = f (omega (arith, e)) in omega (arith, h)

close_some : (t : Bool) (m : ℕ) → cond t 1 (1 + m) ≡ 0 → ⊥
close_some true m e = absurd (omega (arith, e))
close_some false m e = absurd (omega (arith, e))

closed_there : (closing : ℕ) (star : Bool) (q : List ℕ) (b : ℕ) (r s : List ℕ) → closed_len closing star (q ++ b ∷ r) ≡ length q → closed_len closing star (q ++ s) ≡ length q
closed_there closing star [] b r s e = absurd (close_some (star && eqb b closing) (closed_len closing (eqb b 42) r) e)
closed_there closing star (a ∷ q) b r s e =
    close_step (star && eqb a closing) (closed_len closing (eqb a 42) (q ++ b ∷ r)) (closed_len closing (eqb a 42) (q ++ s)) (length q) e (closed_there closing (eqb a 42) q b r s)

brace_never : (bs : List ℕ) (n : ℕ) (u : Piece) → brace_piece bs ≡ Blank n → u ≡ Blank n
unfolding brace_piece
brace_never [] n u e = absurd cc
brace_never (b ∷ bs) n u e = by (eqb b 42) e
  where
    by : (t : Bool) → cond t (token (2 + closed_len 125 false bs)) (token 1) ≡ Blank n → u ≡ Blank n
    by true e = absurd cc
    by false e = absurd cc

blank_len : (m n : ℕ) → Blank m ≡ Blank n → m ≡ n
blank_len m n e = ap piece_len e

module _ (b : ℕ) (is : IsByte b) (r s : List ℕ) where
  slash_last : (p : List ℕ) → slash_piece (p ++ b ∷ r) ≡ Blank (suc (length p)) → slash_piece (p ++ s) ≡ Blank (suc (length p))
  unfolding slash_piece
  slash_last [] e = absurd (let d1 = is.slash in let d2 = is.star in
      let k : cond (eqb b 47) (Blank (2 + line_len r)) (cond (eqb b 42) (Blank (2 + closed_len 47 false r)) (token (1 + prefix_len is_run (b ∷ r)))) ≡ token (1 + prefix_len is_run (b ∷ r)) =
      ap (λ (t : Bool). cond t (Blank (2 + line_len r)) (cond (eqb b 42) (Blank (2 + closed_len 47 false r)) (token (1 + prefix_len is_run (b ∷ r))))) d1
      ∙ ap (λ (t : Bool). cond t (Blank (2 + closed_len 47 false r)) (token (1 + prefix_len is_run (b ∷ r)))) d2 in
      let h = sym k ∙ e in cc)
  slash_last (c ∷ p) e =
      pick (eqb c 47) (Blank (2 + line_len (p ++ b ∷ r))) (cond (eqb c 42) (Blank (2 + closed_len 47 false (p ++ b ∷ r))) (token (1 + prefix_len is_run (c ∷ p ++ b ∷ r))))
      (Blank (2 + line_len (p ++ s))) (cond (eqb c 42) (Blank (2 + closed_len 47 false (p ++ s))) (token (1 + prefix_len is_run (c ∷ p ++ s)))) (Blank (suc (suc (length p)))) e
      (λ t e. absurd (let k = blank_len _ _ e in let line = is.line in never_there (λ b. not (eqb b 10)) p b r (ap not line) (omega (arith, k))))
      (λ f e. pick (eqb c 42) (Blank (2 + closed_len 47 false (p ++ b ∷ r))) (token (1 + prefix_len is_run (c ∷ p ++ b ∷ r))) (Blank (2 + closed_len 47 false (p ++ s))) (token (1 + prefix_len is_run (c ∷ p ++ s)))
      (Blank (suc (suc (length p)))) e
      (λ t e. let k = blank_len _ _ e in let h = closed_there 47 false p b r s (omega (arith, k)) in let l : 2 + closed_len 47 false (p ++ s) ≡ suc (suc (length p)) = omega (arith, h) in ap Blank l)
      (λ f e. no_token _ _ _ e))

  blank_last : (c : ℕ) (p : List ℕ) → piece_at (c ∷ (p ++ b ∷ r)) ≡ Blank (suc (length p)) → piece_at (c ∷ (p ++ s)) ≡ Blank (suc (length p))
  unfolding piece_at
  blank_last c p e =
      pick (is_blank c) _ _ _ _ _ e (λ t e. e)
      (λ f e. pick (is_quote c) _ _ _ _ _ e (λ t e. no_token _ _ _ e)
      (λ f e. pick (eqb c 123) _ _ _ _ _ e (λ t e. brace_never _ _ _ e)
      (λ f e. pick (is_mark c) _ _ _ _ _ e (λ t e. no_token _ _ _ e)
      (λ f e. pick (eqb c 47) _ _ _ _ _ e (λ t e. slash_last p e) (λ f e. no_token _ _ _ e)))))

-- what follows a number
pub goes_same : (v y z : List ℕ) → 0 < length v → goes_on (v ++ y) ≡ goes_on (v ++ z)
goes_same [] y z h = absurd (omega arith)
goes_same (b ∷ v) y z h = refl

pub stops_of : (r : List ℕ) → prefix_len is_run r ≡ 0 → goes_on r ≡ false
stops_of [] e = refl
stops_of (b ∷ r) e = by (is_run b) e
  where
    by : (t : Bool) → cond t (1 + prefix_len is_run r) 0 ≡ 0 → t ≡ false
    by true e = absurd (omega (arith, e))
    by false e = refl

goes_behind : (behind : List (Bool × List ℕ)) (z w : List ℕ) → AreLaid (59 ∷ z) behind → goes_on (bytes_in behind ++ 59 ∷ z) ≡ goes_on (bytes_in behind ++ 59 ∷ w)
goes_behind [] z w are = refl
goes_behind (p ∷ ps) z w are =
    ap goes_on (append_assoc p.1 (bytes_in ps) (59 ∷ z)) ∙ goes_same p.1 (bytes_in ps ++ 59 ∷ z) (bytes_in ps ++ 59 ∷ w) are.0 ∙ sym (ap goes_on (append_assoc p.1 (bytes_in ps) (59 ∷ w)))

-- blanks behind it
blank_next : (v : List ℕ) (ps : List (Bool × List ℕ)) (z w : List ℕ) → AreLaid (59 ∷ z) ps → piece_at (v ++ (bytes_in ps ++ 59 ∷ z)) ≡ Blank (length v) → piece_at (v ++ (bytes_in ps ++ 59 ∷ w)) ≡ Blank (length v)
blank_next v [] z w are e = stay_before v (59 ∷ []) z w false (omega arith) e
blank_next v (p ∷ ps) z w are e =
    let a = append_assoc p.1 (bytes_in ps) (59 ∷ z) in
    let b = append_assoc p.1 (bytes_in ps) (59 ∷ w) in
    ap (λ (l : List ℕ). piece_at (v ++ l)) b ∙ stay_before v p.1 (bytes_in ps ++ 59 ∷ z) (bytes_in ps ++ 59 ∷ w) false are.0 (sym (ap (λ (l : List ℕ). piece_at (v ++ l)) a) ∙ e)

pub blank_piece : (t : Bool) (n : ℕ) → t ≡ false → piece_for t n ≡ Blank n
blank_piece t n e = ap (λ (t : Bool). piece_for t n) e

behind_ready : (ps : List (Bool × List ℕ)) (z w : List ℕ) → AreBlank ps → AreLaid (59 ∷ z) ps → AreLaid (59 ∷ w) ps
behind_ready [] z w blank are = tt
behind_ready (p ∷ ps) z w blank are =
    let kind = blank_piece p.0 (length p.1) blank.0 in
    (are.0, blank_next p.1 ps z w are.2 (are.1 ∙ kind) ∙ sym kind, behind_ready ps z w blank.1 are.2)

-- the number itself
number_here : (x y : List ℕ) (r s : List ℕ) → IsNumber x → IsNumber y → goes_on r ≡ goes_on s → piece_at (x ++ r) ≡ token (length x) → piece_at (y ++ s) ≡ token (length y)
number_here [] y r s a b same e = absurd (let k = a.some in omega (arith, k))
number_here (c ∷ x) [] r s a b same e = absurd (let k = b.some in omega (arith, k))
number_here (c ∷ x) (d ∷ y) r s a b same e =
    let old = sym (number_piece c x r a.digits) ∙ e in
    let n : 1 + (length x + prefix_len is_run r) ≡ length (c ∷ x) = ap piece_len old in
    let stops : prefix_len is_run r ≡ 0 = omega (arith, n) in
    let none : prefix_len is_run s ≡ 0 = run_ends s (sym same ∙ stops_of r stops) in
    let m : 1 + (length y + prefix_len is_run s) ≡ length (d ∷ y) = omega (arith, none) in
    number_piece d y s b.digits ∙ ap token m

last_blank : (v x y r s : List ℕ) → 0 < length v → IsNumber x → IsNumber y → piece_at (v ++ (x ++ r)) ≡ Blank (length v) → piece_at (v ++ (y ++ s)) ≡ Blank (length v)
last_blank [] x y r s some a b e = absurd (omega arith)
last_blank (c ∷ v) [] y r s some a b e = absurd (let k = a.some in omega (arith, k))
last_blank (c ∷ v) (d ∷ x) y r s some a b e = blank_last d (digit_is d (and_parts (is_digit d) (list_all is_digit x) a.digits).0) (x ++ r) (y ++ s) c v e

pub number_law : NumberLaw
number_law [] behind x y z w f g a b are =
    (b.some, number_here x y (bytes_in behind ++ 59 ∷ z) (bytes_in behind ++ 59 ∷ w) a b (goes_behind behind z w are.2) are.1, behind_ready behind z w g are.2)
number_law (p ∷ []) behind x y z w f g a b are =
    let kind = blank_piece p.0 (length p.1) f.0 in
    let c = append_assoc x (bytes_in behind) (59 ∷ z) in
    let d = append_assoc y (bytes_in behind) (59 ∷ w) in (
      are.0,
      ap (λ (l : List ℕ). piece_at (p.1 ++ l)) d ∙ last_blank p.1 x y (bytes_in behind ++ 59 ∷ z) (bytes_in behind ++ 59 ∷ w) are.0 a b (sym (ap (λ (l : List ℕ). piece_at (p.1 ++ l)) c) ∙ are.1 ∙ kind) ∙ sym kind,
      number_law [] behind x y z w tt g a b are.2,
    )
number_law (p ∷ q ∷ ps) behind x y z w f g a b are =
    let old = bytes_in (ps ++ (true, x) ∷ behind) in
    let new = bytes_in (ps ++ (true, y) ∷ behind) in
    let c = append_assoc q.1 old (59 ∷ z) in
    let d = append_assoc q.1 new (59 ∷ w) in (
      are.0,
      ap (λ (l : List ℕ). piece_at (p.1 ++ l)) d ∙ stay_before p.1 q.1 (old ++ 59 ∷ z) (new ++ 59 ∷ w) p.0 are.2.0 (sym (ap (λ (l : List ℕ). piece_at (p.1 ++ l)) c) ∙ are.1),
      number_law (q ∷ ps) behind x y z w f.1 g a b are.2,
    )
