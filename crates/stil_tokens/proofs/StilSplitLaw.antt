-- The tokens of a STIL text are a split of it.
use Rattle.std.proofs.Common.{◌≡◌, ℕ, zero, suc, ◌+◌, ◌<◌, Bool, true, false, cond, ◌&&◌, eqb, List, [], ◌∷◌, length, take, drop, get_or, refl, sym, ap, ◌∙◌, subst, arith}
use Rattle.std.specs.List.{prefix_len, list_all}
use Rattle.std.proofs.lemmas.Bool.{eqb-true, cond_both, and_right}
use Rattle.std.proofs.lemmas.List.{drop_more}
use Rattle.std.proofs.lemmas.List.Sums.{prefix_len-le-length}
use Rattle.token_forms.specs.declared.piece.Piece.{Piece}
use Rattle.token_forms.specs.declared.piece.Piece.TheVariants.{Blank, Token}
use Rattle.token_forms.specs.Splits.{AreBlanks}
use Rattle.token_forms.proofs.SplitLaw.{IsSplitForm, split, one_blank}
use Rattle.stil_tokens.specs.StilTokens.{is_blank, is_quote, is_mark, is_run, closed_len, brace_piece, slash_piece, piece_at, stil_tokens}
use Rattle.stil_tokens.specs.StilSplit.{begins_with_two, begins_comment, goes_on, closes_at, IsClosed, Closed, Unclosed, IsRun, IsBlankPart, Space, LineComment, Comment, IsToken, Quoted, Note, Mark, Run, IsTokenSplit}
use Rattle.stil_tokens.proofs.StilPieces.{stil_cut}

token_is : (m n : ℕ) → Token m ≡ Token n → m ≡ n
token_is m n e = cc

blank_is : (m n : ℕ) → Blank m ≡ Blank n → m ≡ n
blank_is m n e = cc

pub choose : {P : Type 0} (t : Bool) (x y z : Piece) → cond t x y ≡ z → (t ≡ true → x ≡ z → P) → (t ≡ false → y ≡ z → P) → P
choose true x y z h f g = f refl h
choose false x y z h f g = g refl h

-- the longest run
run_all : (bs : List ℕ) → list_all is_run (take (prefix_len is_run bs) bs) ≡ true
run_all [] = refl
run_all (b ∷ bs) =
    let h = run_all bs in
    let k : 1 + prefix_len is_run bs ≡ suc (prefix_len is_run bs) = omega arith in
    cond_both (is_run b) (1 + prefix_len is_run bs) 0 (λ n. list_all is_run (take n (b ∷ bs)) ≡ true) (λ e. rw k (rw e h)) (λ e. refl)

run_ends : (bs : List ℕ) → goes_on (drop (prefix_len is_run bs) bs) ≡ false
run_ends [] = refl
run_ends (b ∷ bs) =
    let h = run_ends bs in
    let k : 1 + prefix_len is_run bs ≡ suc (prefix_len is_run bs) = omega arith in
    cond_both (is_run b) (1 + prefix_len is_run bs) 0 (λ n. goes_on (drop n (b ∷ bs)) ≡ false) (λ e. rw k h) (λ e. e)

run_is : (b : ℕ) (bs : List ℕ) → is_run b ≡ true → IsRun (b ∷ bs) (1 + prefix_len is_run bs)
run_is b bs run =
    let n = prefix_len is_run bs in
    let le = prefix_len-le-length is_run bs in
    let k : 1 + n ≡ suc n = omega arith in
    let all : list_all is_run (take (suc n) (b ∷ bs)) ≡ true = rw run (run_all bs) in
    record { some = omega arith; within = omega arith; each = rw k all; ends = rw k (run_ends bs) }

-- where a comment or an annotation is closed, seen two bytes at a time
module _ (closing : ℕ) where
  abbrev pub two_len : List ℕ → ℕ
  two_len [] = 0
  two_len (b ∷ []) = 1
  two_len (b ∷ c ∷ bs) = cond (eqb b 42 && eqb c closing) 2 (1 + two_len (c ∷ bs))

  step_len : (star : Bool) (b : ℕ) (bs : List ℕ) → closed_len closing star (b ∷ bs) ≡ cond (star && eqb b closing) 1 (two_len (b ∷ bs))
  step_len star b [] = cond_both (star && eqb b closing) 1 (1 + 0) (λ n. n ≡ cond (star && eqb b closing) 1 1) (λ e. rw e refl) (λ e. rw e refl)
  step_len star b (c ∷ bs) =
      let h = step_len (eqb b 42) c bs in
      let inner : 1 + closed_len closing (eqb b 42) (c ∷ bs) ≡ two_len (b ∷ c ∷ bs) =
      ap (λ (n : ℕ). 1 + n) h ∙ cond_both (eqb b 42 && eqb c closing) 1 (two_len (c ∷ bs)) (λ n. 1 + n ≡ two_len (b ∷ c ∷ bs)) (λ e. rw e refl) (λ e. rw e refl)
      in
      ap (λ (n : ℕ). cond (star && eqb b closing) 1 n) inner

  pub closed_two : (bs : List ℕ) → closed_len closing false bs ≡ two_len bs
  closed_two [] = refl
  closed_two (b ∷ bs) = step_len false b bs

  closed_more : (b c : ℕ) (bs : List ℕ) (n : ℕ) → closes_at closing (b ∷ c ∷ bs) 0 ≡ false → IsClosed closing (c ∷ bs) n → IsClosed closing (b ∷ c ∷ bs) (1 + n)
  closed_more b c bs n none (Closed i is here before) =
      Closed (suc i) (omega arith) here (λ j. elim j as (λ j. j < suc i → closes_at closing (b ∷ c ∷ bs) j ≡ false) [ zero ↦ λ lt. none | suc j ↦ λ lt. before j (omega arith) ])
  closed_more b c bs n none (Unclosed is never) =
      Unclosed (omega arith) (λ j. elim j as (λ j. closes_at closing (b ∷ c ∷ bs) j ≡ false) [ zero ↦ none | suc j ↦ never j ])

  module _ (some : eqb 0 closing ≡ false) where
    no_end : (b : ℕ) (j : ℕ) → closes_at closing (b ∷ []) j ≡ false
    no_end b j = and_right (eqb (get_or (b ∷ []) j 0) 42) (eqb 0 closing) some

    two_is : (bs : List ℕ) → IsClosed closing bs (two_len bs)
    two_is [] = Unclosed refl (λ j. refl)
    two_is (b ∷ []) = Unclosed refl (no_end b)
    two_is (b ∷ c ∷ bs) =
        cond_both (eqb b 42 && eqb c closing) 2 (1 + two_len (c ∷ bs)) (IsClosed closing (b ∷ c ∷ bs)) (λ e. Closed 0 refl e (λ j lt. absurd (omega arith)))
        (λ e. closed_more b c bs (two_len (c ∷ bs)) e (two_is (c ∷ bs)))

    pub closed_is : (bs : List ℕ) → IsClosed closing bs (closed_len closing false bs)
    closed_is bs = subst (IsClosed closing bs) (sym (closed_two bs)) (two_is bs)

-- a byte that is no blank, no quote and no mark
plain_run : (b : ℕ) → is_blank b ≡ false → is_quote b ≡ false → is_mark b ≡ false → is_run b ≡ true
plain_run b blank quote mark = rw (blank, quote, mark) refl

brace_mark : (bs : List ℕ) (n : ℕ) → brace_piece bs ≡ Token n → IsToken (123 ∷ bs) n
unfolding brace_piece
brace_mark [] n h = Mark 123 [] refl refl refl (sym (token_is 1 n h))
brace_mark (c ∷ cs) n h =
    choose (eqb c 42) _ _ _ h
    (λ e k. let same = eqb-true c 42 e in Note (closed_len 125 false cs) cs (ap (λ (x : ℕ). 123 ∷ x ∷ cs) same) (closed_is 125 refl cs) (sym (token_is _ n k)))
    (λ e k. Mark 123 (c ∷ cs) refl refl e (sym (token_is 1 n k)))

brace_blank : (bs : List ℕ) (n : ℕ) → brace_piece bs ≡ Blank n → ⊥
unfolding brace_piece
brace_blank [] n h = cc
brace_blank (c ∷ cs) n h = choose (eqb c 42) _ _ _ h (λ e k. cc) (λ e k. cc)

slash_token : (bs : List ℕ) (n : ℕ) → slash_piece bs ≡ Token n → IsToken (47 ∷ bs) n
unfolding slash_piece
slash_token [] n h = let same = token_is 1 n h in rw (← same) (Run (run_is 47 [] refl) refl)
slash_token (c ∷ cs) n h =
    choose (eqb c 47) _ _ _ h (λ e k. absurd cc)
    (λ one k. choose (eqb c 42) _ _ _ k (λ e k. absurd cc)
    (λ two k. let same = token_is (1 + prefix_len is_run (c ∷ cs)) n k in
    let none : begins_comment (47 ∷ c ∷ cs) ≡ false = rw (one, two) refl in
    subst (IsToken (47 ∷ c ∷ cs)) same (Run (run_is 47 (c ∷ cs) refl) none)))

slash_blank : (bs : List ℕ) (n : ℕ) → slash_piece bs ≡ Blank n → IsBlankPart (47 ∷ bs) n
unfolding slash_piece
slash_blank [] n h = absurd cc
slash_blank (c ∷ cs) n h =
    choose (eqb c 47) _ _ _ h
    (λ e k. let same = eqb-true c 47 e in LineComment cs (ap (λ (x : ℕ). 47 ∷ x ∷ cs) same) (sym (blank_is _ n k)))
    (λ one k. choose (eqb c 42) _ _ _ k
    (λ e k. let same = eqb-true c 42 e in Comment (closed_len 47 false cs) cs (ap (λ (x : ℕ). 47 ∷ x ∷ cs) same) (closed_is 47 refl cs) (sym (blank_is _ n k)))
    (λ two k. absurd cc))

no_comment : (b : ℕ) (bs : List ℕ) → eqb b 47 ≡ false → begins_comment (b ∷ bs) ≡ false
no_comment b [] e = refl
no_comment b (c ∷ cs) e = rw e refl

no_note : (b : ℕ) (bs : List ℕ) → eqb b 123 ≡ false → begins_with_two 123 42 (b ∷ bs) ≡ false
no_note b [] e = refl
no_note b (c ∷ cs) e = rw e refl

-- a piece that is a token is the token there
piece_token : (b : ℕ) (bs : List ℕ) (n : ℕ) → piece_at (b ∷ bs) ≡ Token n → IsToken (b ∷ bs) n
unfolding piece_at
piece_token b bs n h =
    choose (is_blank b) _ _ _ h (λ e k. absurd cc)
    (λ blank k. choose (is_quote b) _ _ _ k (λ e k. Quoted b bs refl e (sym (token_is _ n k)))
    (λ quote k. choose (eqb b 123) _ _ _ k (λ e k. let same = eqb-true b 123 e in subst (λ (x : ℕ). IsToken (x ∷ bs) n) (sym same) (brace_mark bs n k))
    (λ opening k. choose (is_mark b) _ _ _ k (λ e k. Mark b bs refl e (no_note b bs opening) (sym (token_is 1 n k)))
    (λ mark k. choose (eqb b 47) _ _ _ k (λ e k. let same = eqb-true b 47 e in subst (λ (x : ℕ). IsToken (x ∷ bs) n) (sym same) (slash_token bs n k))
    (λ slash k. let same = token_is (1 + prefix_len is_run bs) n k in
    subst (IsToken (b ∷ bs)) same (Run (run_is b bs (plain_run b blank quote mark)) (no_comment b bs slash)))))))

-- and one that isn't counts as blanks
piece_blank : (b : ℕ) (bs : List ℕ) (n : ℕ) → piece_at (b ∷ bs) ≡ Blank n → IsBlankPart (b ∷ bs) n
unfolding piece_at
piece_blank b bs n h =
    choose (is_blank b) _ _ _ h (λ e k. Space b bs refl e (sym (blank_is 1 n k)))
    (λ blank k. choose (is_quote b) _ _ _ k (λ e k. absurd cc)
    (λ quote k. choose (eqb b 123) _ _ _ k (λ e k. absurd (brace_blank bs n k))
    (λ opening k. choose (is_mark b) _ _ _ k (λ e k. absurd cc)
    (λ mark k. choose (eqb b 47) _ _ _ k (λ e k. let same = eqb-true b 47 e in subst (λ (x : ℕ). IsBlankPart (x ∷ bs) n) (sym same) (slash_blank bs n k))
    (λ slash k. absurd cc)))))

token_at : (text : List ℕ) (at n : ℕ) → at < length text → piece_at (drop at text) ≡ Token n → IsToken (drop at text) n
token_at text at n lt is =
    let cut = drop_more text at 0 lt in
    rw cut (piece_token (get_or text at 0) (drop (at + 1) text) n (sym (ap piece_at cut) ∙ is))

blank_at : (text : List ℕ) (at n : ℕ) → at < length text → piece_at (drop at text) ≡ Blank n → AreBlanks IsBlankPart text at (at + n)
blank_at text at n lt is =
    let cut = drop_more text at 0 lt in
    one_blank IsBlankPart text at n (rw cut (piece_blank (get_or text at 0) (drop (at + 1) text) n (sym (ap piece_at cut) ∙ is)))

stil_form : IsSplitForm piece_at IsBlankPart IsToken
stil_form = record { cut = stil_cut; blank = blank_at; token = token_at }

pub stil_split : (text : List ℕ) → IsTokenSplit text (stil_tokens text)
stil_split text = split piece_at IsBlankPart IsToken stil_form text
