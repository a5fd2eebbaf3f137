-- Pieces before other bytes than those they stood before: alone, and behind a name.
use Rattle.std.proofs.Common.{◌≡◌, ℕ, zero, suc, ◌+◌, ◌-◌, ◌<◌, ◌≤◌, Bool, true, false, cond, eqb, ◌&&◌, ◌||◌, not, inl, inr, List, [], ◌∷◌, ◌++◌, length, codes, refl, sym, ap, ◌∙◌, subst, arith, append_assoc}
use Rattle.std.specs.List.{prefix_len}
use Rattle.std.proofs.lemmas.Bool.{cases_Bool, true≢false, eqb-true, not-true, and_parts}
use Rattle.std.proofs.lemmas.List.{append-nil}
use Rattle.token_forms.specs.declared.piece.Piece.{Piece}
use Rattle.token_forms.specs.declared.piece.Piece.TheVariants.{Blank, Token as token}
use Rattle.token_forms.specs.Pieces.{piece_len}
use Rattle.token_forms.specs.Classes.{is_among}
use Rattle.stil_tokens.specs.StilSplit.{goes_on}
use Rattle.stil_tokens.specs.StilTokens.{is_blank, is_quote, is_mark, is_run, quoted_len, closed_len, line_len, brace_piece, slash_piece, piece_at}
use Rattle.stil_syntax.specs.Names.{begins_with, is_enclosed, is_word, is_string}
use Rattle.head_alike.specs.Steps.{changed_words}
use Rattle.head_alike.proofs.Words.{changed}
use Rattle.head_text.specs.Mixes.{bytes_in, piece_for, AreLaid}
use Rattle.head_text.proofs.Mixes.{stay_before, run_ends, bytes_append}
use Rattle.head_text.proofs.Ready.{stops_of}

-- pieces in front of others
pub are_front : (z : List ℕ) (ps qs : List (Bool × List ℕ)) → AreLaid z (ps ++ qs) → AreLaid (bytes_in qs ++ z) ps
are_front z [] qs are = tt
are_front z (p ∷ ps) qs are =
    let e : bytes_in ps ++ (bytes_in qs ++ z) ≡ bytes_in (ps ++ qs) ++ z = sym (append_assoc (bytes_in ps) (bytes_in qs) z) ∙ ap (λ (l : List ℕ). l ++ z) (sym (bytes_append ps qs)) in
    (are.0, ap (λ (l : List ℕ). piece_at (p.1 ++ l)) e ∙ are.1, are_front z ps qs are.2)

-- what follows one of the words
pub word_stops : (w r : List ℕ) → is_among changed_words w ≡ true → piece_at (w ++ r) ≡ token (length w) → goes_on r ≡ false
unfolding piece_at
word_stops w r which e = changed (λ w. piece_at (w ++ r) ≡ token (length w) → goes_on r ≡ false)
    (λ e. let k = ap piece_len e in stops_of r (omega (arith, k)))
    (λ e. let k = ap piece_len e in stops_of r (omega (arith, k)))
    (λ e. let k = ap piece_len e in stops_of r (omega (arith, k))) w which e

-- counts that reach what follows, and no further
count_step : (t : Bool) (m n k : ℕ) → cond t 1 (1 + m) ≡ suc k → (m ≡ k → n ≡ k) → cond t 1 (1 + n) ≡ suc k
count_step true m n k e f = e
count_step false m n k e f = let h = f (omega (arith, e)) in omega (arith, h)

count_none : (t : Bool) (m : ℕ) → cond t 1 (1 + m) ≡ 0 → ⊥
count_none true m e = absurd (omega (arith, e))
count_none false m e = absurd (omega (arith, e))

quoted_alone : (q : ℕ) (x r : List ℕ) → quoted_len q (x ++ r) ≡ length x → quoted_len q x ≡ length x
quoted_alone q [] r e = refl
quoted_alone q (b ∷ x) r e = count_step (eqb b q) (quoted_len q (x ++ r)) (quoted_len q x) (length x) e (quoted_alone q x r)

closed_alone : (closing : ℕ) (star : Bool) (x r : List ℕ) → closed_len closing star (x ++ r) ≡ length x → closed_len closing star x ≡ length x
closed_alone closing star [] r e = refl
closed_alone closing star (b ∷ x) r e = count_step (star && eqb b closing) (closed_len closing (eqb b 42) (x ++ r)) (closed_len closing (eqb b 42) x) (length x) e (closed_alone closing (eqb b 42) x r)

prefix_step : (t : Bool) (m n k : ℕ) → cond t (1 + m) 0 ≡ suc k → (m ≡ k → n ≡ k) → cond t (1 + n) 0 ≡ suc k
prefix_step true m n k e f = let h = f (omega (arith, e)) in omega (arith, h)
prefix_step false m n k e f = absurd cc

prefix_alone : (t : ℕ → Bool) (x r : List ℕ) → prefix_len t (x ++ r) ≡ length x → prefix_len t x ≡ length x
prefix_alone t [] r e = refl
prefix_alone t (b ∷ x) r e = prefix_step (t b) (prefix_len t (x ++ r)) (prefix_len t x) (length x) e (prefix_alone t x r)

-- a quote is found whatever follows
quoted_there : (q : ℕ) (x : List ℕ) (b : ℕ) (r s : List ℕ) → quoted_len q (x ++ b ∷ r) ≡ length x → quoted_len q (x ++ s) ≡ length x
quoted_there q [] b r s e = absurd (count_none (eqb b q) (quoted_len q r) e)
quoted_there q (a ∷ x) b r s e = count_step (eqb a q) (quoted_len q (x ++ b ∷ r)) (quoted_len q (x ++ s)) (length x) e (quoted_there q x b r s)

-- and a run ends before what is none
run_there : (x r s : List ℕ) → prefix_len is_run (x ++ r) ≡ length x → goes_on s ≡ false → prefix_len is_run (x ++ s) ≡ length x
run_there [] r s e stops = run_ends s stops
run_there (b ∷ x) r s e stops = prefix_step (is_run b) (prefix_len is_run (x ++ r)) (prefix_len is_run (x ++ s)) (length x) e (λ k. run_there x r s k stops)

pick : (t : Bool) (x y u v w : Piece) → cond t x y ≡ w → (t ≡ true → x ≡ w → u ≡ w) → (t ≡ false → y ≡ w → v ≡ w) → cond t u v ≡ w
pick true x y u v w e f g = f refl e
pick false x y u v w e f g = g refl e

len_for : (t : Bool) (n : ℕ) → piece_len (piece_for t n) ≡ n
len_for true n = refl
len_for false n = refl

-- a piece of so many bytes, of a count
as_token : (m n k j : ℕ) (w : Piece) → token (k + m) ≡ w → piece_len w ≡ k + j → (m ≡ j → n ≡ j) → token (k + n) ≡ w
as_token m n k j w e len f =
    let a = ap piece_len e in
    let is : m ≡ j = omega (arith, a, len) in
    ap (λ (i : ℕ). token (k + i)) (f is ∙ sym is) ∙ e

as_blank : (m n k j : ℕ) (w : Piece) → Blank (k + m) ≡ w → piece_len w ≡ k + j → (m ≡ j → n ≡ j) → Blank (k + n) ≡ w
as_blank m n k j w e len f =
    let a = ap piece_len e in
    let is : m ≡ j = omega (arith, a, len) in
    ap (λ (i : ℕ). Blank (k + i)) (f is ∙ sym is) ∙ e

one_token : (m : ℕ) (w : Piece) → token (1 + m) ≡ w → piece_len w ≡ 1 → token 1 ≡ w
one_token m w e len = let a = ap piece_len e in let k : 1 + m ≡ 1 = omega (arith, a, len) in ap token (sym k) ∙ e

-- without what follows
brace_alone : (x r : List ℕ) (w : Piece) → piece_len w ≡ suc (length x) → brace_piece (x ++ r) ≡ w → brace_piece x ≡ w
unfolding brace_piece
brace_alone [] [] w len e = e
brace_alone [] (c ∷ r) w len e = by (eqb c 42) e
  where
    by : (t : Bool) → cond t (token (2 + closed_len 125 false r)) (token 1) ≡ w → token 1 ≡ w
    by true e = absurd (let a = ap piece_len e in omega (arith, a, len))
    by false e = e
brace_alone (c ∷ x) r w len e = pick (eqb c 42) _ _ _ _ w e (λ t e. as_token (closed_len 125 false (x ++ r)) (closed_len 125 false x) 2 (length x) w e (omega (arith, len)) (closed_alone 125 false x r)) (λ f e. e)

slash_alone : (x r : List ℕ) (w : Piece) → piece_len w ≡ suc (length x) → slash_piece (x ++ r) ≡ w → slash_piece x ≡ w
unfolding slash_piece
slash_alone [] [] w len e = e
slash_alone [] (c ∷ r) w len e = by (eqb c 47) (eqb c 42) e
  where
    by : (t u : Bool) → cond t (Blank (2 + line_len r)) (cond u (Blank (2 + closed_len 47 false r)) (token (1 + prefix_len is_run (c ∷ r)))) ≡ w → token 1 ≡ w
    by true u e = absurd (let a = ap piece_len e in omega (arith, a, len))
    by false true e = absurd (let a = ap piece_len e in omega (arith, a, len))
    by false false e = one_token (prefix_len is_run (c ∷ r)) w e len
slash_alone (c ∷ x) r w len e = pick (eqb c 47) _ _ _ _ w e
    (λ t e. as_blank (line_len (x ++ r)) (line_len x) 2 (length x) w e (omega (arith, len)) (prefix_alone (λ b. not (eqb b 10)) x r))
    (λ f e. pick (eqb c 42) _ _ _ _ w e
    (λ t e. as_blank (closed_len 47 false (x ++ r)) (closed_len 47 false x) 2 (length x) w e (omega (arith, len)) (closed_alone 47 false x r))
    (λ f e. as_token (prefix_len is_run (c ∷ (x ++ r))) (prefix_len is_run (c ∷ x)) 1 (suc (length x)) w e (omega (arith, len)) (prefix_alone is_run (c ∷ x) r)))

piece_alone : (b : ℕ) (x r : List ℕ) (w : Piece) → piece_len w ≡ suc (length x) → piece_at (b ∷ (x ++ r)) ≡ w → piece_at (b ∷ x) ≡ w
unfolding piece_at
piece_alone b x r w len e =
    pick (is_blank b) _ _ _ _ w e (λ t e. e)
    (λ f e. pick (is_quote b) _ _ _ _ w e (λ t e. as_token (quoted_len b (x ++ r)) (quoted_len b x) 1 (length x) w e (omega (arith, len)) (quoted_alone b x r))
    (λ f e. pick (eqb b 123) _ _ _ _ w e (λ t e. brace_alone x r w len e)
    (λ f e. pick (is_mark b) _ _ _ _ w e (λ t e. e)
    (λ f e. pick (eqb b 47) _ _ _ _ w e (λ t e. slash_alone x r w len e)
    (λ f e. as_token (prefix_len is_run (x ++ r)) (prefix_len is_run x) 1 (length x) w e (omega (arith, len)) (prefix_alone is_run x r))))))

last_alone : (w r : List ℕ) (t : Bool) → 0 < length w → piece_at (w ++ r) ≡ piece_for t (length w) → piece_at w ≡ piece_for t (length w)
last_alone [] r t some e = absurd (omega arith)
last_alone (b ∷ x) r t some e = piece_alone b x r (piece_for t (suc (length x))) (len_for t (suc (length x))) e

-- pieces that stand before other bytes stand alone
pub laid_alone : (ps : List (Bool × List ℕ)) (z : List ℕ) → AreLaid z ps → AreLaid [] ps
laid_alone [] z are = tt
laid_alone (p ∷ []) z are = (are.0, ap piece_at (append-nil p.1) ∙ last_alone p.1 z p.0 are.0 are.1, tt)
laid_alone (p ∷ q ∷ ps) z are =
    let a = append_assoc q.1 (bytes_in ps) z in
    let b = append_assoc q.1 (bytes_in ps) [] in (
      are.0,
      ap (λ (l : List ℕ). piece_at (p.1 ++ l)) b ∙ stay_before p.1 q.1 (bytes_in ps ++ z) (bytes_in ps ++ []) p.0 are.2.0 (sym (ap (λ (l : List ℕ). piece_at (p.1 ++ l)) a) ∙ are.1),
      laid_alone (q ∷ ps) z are.2,
    )

-- a run before what is none
pub record IsRunText (w : List ℕ) : Type 0 where
  pub some : 0 < length w
  pub stands : (r : List ℕ) → goes_on r ≡ false → piece_at (w ++ r) ≡ token (length w)

-- a text in quotes before anything
pub record IsQuoteText (w : List ℕ) : Type 0 where
  pub some : 0 < length w
  pub stands : (r : List ℕ) → piece_at (w ++ r) ≡ token (length w)

no_token : (a n : ℕ) (u : Piece) → Blank a ≡ token n → u ≡ token n
no_token a n u e = absurd cc

slash_there : (x r s : List ℕ) → goes_on s ≡ false → slash_piece (x ++ r) ≡ token (suc (length x)) → slash_piece (x ++ s) ≡ token (suc (length x))
unfolding slash_piece
slash_there [] r [] stops e = refl
slash_there [] r (d ∷ s) stops e = by (eqb d 47) (eqb d 42) refl refl
  where
    by : (t u : Bool) → eqb d 47 ≡ t → eqb d 42 ≡ u → cond t (Blank (2 + line_len s)) (cond u (Blank (2 + closed_len 47 false s)) (token (1 + prefix_len is_run (d ∷ s)))) ≡ token 1
    by true u e f = absurd (let k : goes_on (d ∷ s) ≡ true = ap is_run (eqb-true d 47 e) in true≢false (sym k ∙ stops))
    by false true e f = absurd (let k : goes_on (d ∷ s) ≡ true = ap is_run (eqb-true d 42 f) in true≢false (sym k ∙ stops))
    by false false e f = ap (λ (n : ℕ). token (1 + n)) (run_ends (d ∷ s) stops)
slash_there (c ∷ x) r s stops e = pick (eqb c 47) _ _ _ _ (token (suc (suc (length x)))) e (λ t e. no_token _ _ _ e)
    (λ f e. pick (eqb c 42) _ _ _ _ (token (suc (suc (length x)))) e (λ t e. no_token _ _ _ e)
    (λ f e. as_token (prefix_len is_run (c ∷ (x ++ r))) (prefix_len is_run (c ∷ (x ++ s))) 1 (suc (length x)) (token (suc (suc (length x)))) e (omega arith) (λ k. run_there (c ∷ x) r s k stops)))

none_of : (a b c : Bool) → (a || (b || c)) ≡ false → (a ≡ false) × (b ≡ false) × (c ≡ false)
none_of false false false e = (refl, refl, refl)
none_of false false true e = absurd cc
none_of false true c e = absurd cc
none_of true b c e = absurd cc

word_there : (b : ℕ) (x r s : List ℕ) → is_word (b ∷ x) ≡ true → goes_on s ≡ false → piece_at (b ∷ (x ++ r)) ≡ token (suc (length x)) → piece_at (b ∷ (x ++ s)) ≡ token (suc (length x))
unfolding piece_at
word_there b x r s word stops e =
    let n = none_of (eqb b 34) (eqb b 39) (eqb b 123) (not-true (is_enclosed (b ∷ x)) (and_parts _ (not (is_enclosed (b ∷ x))) word).1) in
    let quote : is_quote b ≡ false = (let n0 = n.0 in let n1 = n.1 in rw (n0, n1) refl) in
    let w = token (suc (length x)) in
    pick (is_blank b) _ _ _ _ w e (λ t e. e)
    (λ f e. pick (is_quote b) _ _ _ _ w e (λ t e. absurd (true≢false (sym t ∙ quote)))
    (λ f e. pick (eqb b 123) _ _ _ _ w e (λ t e. absurd (true≢false (sym t ∙ n.2)))
    (λ f e. pick (is_mark b) _ _ _ _ w e (λ t e. e)
    (λ f e. pick (eqb b 47) _ _ _ _ w e (λ t e. slash_there x r s stops e)
    (λ f e. as_token (prefix_len is_run (x ++ r)) (prefix_len is_run (x ++ s)) 1 (length x) w e (omega arith) (λ k. run_there x r s k stops))))))

pub run_text : (w r : List ℕ) → 0 < length w → is_word w ≡ true → piece_at (w ++ r) ≡ token (length w) → IsRunText w
run_text [] r some word e = absurd (omega arith)
run_text (b ∷ x) r some word e = record { some = some; stands = λ s stops. word_there b x r s word stops e }

quote_there : (b : ℕ) (x : List ℕ) (c : ℕ) (r s : List ℕ) → eqb b 34 ≡ true → piece_at (b ∷ (x ++ c ∷ r)) ≡ token (suc (length x)) → piece_at (b ∷ (x ++ s)) ≡ token (suc (length x))
unfolding piece_at
quote_there b x c r s q e =
    let is = eqb-true b 34 q in
    let old : piece_at (b ∷ (x ++ c ∷ r)) ≡ token (1 + quoted_len 34 (x ++ c ∷ r)) = rw is refl in
    let new : piece_at (b ∷ (x ++ s)) ≡ token (1 + quoted_len 34 (x ++ s)) = rw is refl in
    new ∙ as_token (quoted_len 34 (x ++ c ∷ r)) (quoted_len 34 (x ++ s)) 1 (length x) (token (suc (length x))) (sym old ∙ e) (omega arith) (quoted_there 34 x c r s)

pub quote_text : (w : List ℕ) (c : ℕ) (r : List ℕ) → 0 < length w → is_string w ≡ true → piece_at (w ++ c ∷ r) ≡ token (length w) → IsQuoteText w
quote_text [] c r some is e = absurd (omega arith)
quote_text (b ∷ x) c r some is e = record { some = some; stands = λ s. quote_there b x c r s is e }
