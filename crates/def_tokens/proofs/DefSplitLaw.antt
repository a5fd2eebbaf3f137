-- The tokens of a LEF or DEF text are a split of it.
use Rattle.std.proofs.Common.{◌≡◌, ℕ, suc, ◌+◌, ◌<◌, Bool, true, false, cond, eqb, List, [], ◌∷◌, length, take, drop, get_or, refl, sym, ap, ◌∙◌, arith}
use Rattle.std.specs.List.{prefix_len, list_all}
use Rattle.std.proofs.lemmas.Bool.{eqb-true}
use Rattle.std.proofs.lemmas.List.{drop_more, drop-drop}
use Rattle.std.proofs.lemmas.List.Sums.{prefix_len-le-length}
use Rattle.token_forms.specs.declared.piece.Piece.{Piece}
use Rattle.token_forms.specs.declared.piece.Piece.TheVariants.{Blank, Token}
use Rattle.token_forms.specs.Splits.{AreBlanks}
use Rattle.token_forms.proofs.SplitLaw.{IsSplitForm, split, no_blanks, one_blank, blanks_join}
use Rattle.def_tokens.specs.DefTokens.{is_blank, is_black, has_end, piece_at, def_tokens}
use Rattle.def_tokens.specs.DefSplit.{goes_on, IsRun, IsBlankPart, Space, Comment, IsToken, Quoted, Whole, Before, IsTokenSplit}
use Rattle.def_tokens.proofs.DefPieces.{def_cut}

-- the longest run passes
run_all : (p : ℕ → Bool) (bs : List ℕ) → list_all p (take (prefix_len p bs) bs) ≡ true
run_all p [] = refl
run_all p (b ∷ bs) =
    let h = run_all p bs in
    let cases : (t : Bool) → p b ≡ t → list_all p (take (cond t (1 + prefix_len p bs) 0) (b ∷ bs)) ≡ true
    = λ t. elim t as (λ t. p b ≡ t → list_all p (take (cond t (1 + prefix_len p bs) 0) (b ∷ bs)) ≡ true) [
      | true ↦ λ e. let k : 1 + prefix_len p bs ≡ suc (prefix_len p bs) = omega arith in rw k (rw e h)
      | false ↦ λ e. refl
    ]
    in cases (p b) refl

-- and goes on with no byte that does
run_ends : (bs : List ℕ) → goes_on (drop (prefix_len is_black bs) bs) ≡ false
run_ends [] = refl
run_ends (b ∷ bs) =
    let h = run_ends bs in
    let cases : (t : Bool) → is_black b ≡ t → goes_on (drop (cond t (1 + prefix_len is_black bs) 0) (b ∷ bs)) ≡ false
    = λ t. elim t as (λ t. is_black b ≡ t → goes_on (drop (cond t (1 + prefix_len is_black bs) 0) (b ∷ bs)) ≡ false) [
      | true ↦ λ e. let k : 1 + prefix_len is_black bs ≡ suc (prefix_len is_black bs) = omega arith in rw k h
      | false ↦ λ e. e
    ]
    in cases (is_black b) refl

-- the run that a byte begins
run_is : (b : ℕ) (bs : List ℕ) → is_blank b ≡ false → eqb b 35 ≡ false → eqb b 34 ≡ false → IsRun (b ∷ bs) (prefix_len is_black bs + 1)
run_is b bs blank sharp quote =
    let n = prefix_len is_black bs in
    let le = prefix_len-le-length is_black bs in
    let k : n + 1 ≡ suc n = omega arith in
    let all : list_all is_black (take (suc n) (b ∷ bs)) ≡ true = rw blank (run_all is_black bs) in
    record { begins = rw (blank, sharp, quote) refl; within = omega arith; black = rw k all; ends = rw k (run_ends bs) }

token_is : (m n : ℕ) → Token m ≡ Token n → m ≡ n
token_is m n e = cc

blank_is : (m n : ℕ) → Blank m ≡ Blank n → m ≡ n
blank_is m n e = cc

choose : {P : Type 0} (t : Bool) (x y z : Piece) → cond t x y ≡ z → (t ≡ true → x ≡ z → P) → (t ≡ false → y ≡ z → P) → P
choose true x y z h f g = f refl h
choose false x y z h f g = g refl h

-- a piece that is a token is the token there
pub piece_token : (b : ℕ) (bs : List ℕ) (n : ℕ) → piece_at (b ∷ bs) ≡ Token n → IsToken (b ∷ bs) n
unfolding piece_at
piece_token b bs n h =
    choose (is_blank b) _ _ _ h (λ e k. absurd cc)
    (λ blank k. choose (eqb b 35) _ _ _ k (λ e k. absurd cc)
    (λ sharp k. choose (eqb b 34) _ _ _ k
    (λ quote k. let same = eqb-true b 34 quote in Quoted bs (ap (λ (x : ℕ). x ∷ bs) same) (sym (token_is _ n k)))
    (λ quote k.
    let run = run_is b bs blank sharp quote in
    choose (has_end (take (prefix_len is_black bs + 1) (b ∷ bs))) _ _ _ k
    (λ is k. let same = token_is (prefix_len is_black bs) n k in rw (← same) (Before run is))
    (λ no k. let same = token_is (prefix_len is_black bs + 1) n k in rw (← same) (Whole run no)))))

-- a blank piece that begins with no blank is a comment
pub piece_comment : (b : ℕ) (bs : List ℕ) (n : ℕ) → is_blank b ≡ false → piece_at (b ∷ bs) ≡ Blank n → IsBlankPart (b ∷ bs) n
unfolding piece_at
piece_comment b bs n black h =
    choose (is_blank b) _ _ _ h (λ e k. absurd cc)
    (λ blank k. choose (eqb b 35) _ _ _ k (λ e k. let same = eqb-true b 35 e in Comment bs (ap (λ (x : ℕ). x ∷ bs) same) (sym (blank_is _ n k)))
    (λ sharp k. choose (eqb b 34) _ _ _ k (λ e k. absurd cc)
    (λ quote k. choose (has_end (take (prefix_len is_black bs + 1) (b ∷ bs))) _ _ _ k (λ e k. absurd cc) (λ e k. absurd cc))))

-- the blanks of a run, one by one
spaces : (text bs : List ℕ) (at : ℕ) → drop at text ≡ bs → AreBlanks IsBlankPart text at (at + prefix_len is_blank bs)
spaces text [] at cut = let k : at + 0 ≡ at = omega arith in rw k (no_blanks IsBlankPart text at)
spaces text (b ∷ bs) at cut =
    let cases : (t : Bool) → is_blank b ≡ t → AreBlanks IsBlankPart text at (at + cond t (1 + prefix_len is_blank bs) 0)
    = λ t. elim t as (λ t. is_blank b ≡ t → AreBlanks IsBlankPart text at (at + cond t (1 + prefix_len is_blank bs) 0)) [
      | true ↦ λ e.
          let k : at + (1 + prefix_len is_blank bs) ≡ at + 1 + prefix_len is_blank bs = omega arith in
          let next : drop (at + 1) text ≡ bs = sym (drop-drop 1 at text) ∙ ap (λ (x : List ℕ). drop 1 x) cut in
          rw k (blanks_join IsBlankPart text at (at + 1) (at + 1 + prefix_len is_blank bs) (one_blank IsBlankPart text at 1 (Space b bs cut e refl)) (spaces text bs (at + 1) next))
      | false ↦ λ e. let k : at + 0 ≡ at = omega arith in rw k (no_blanks IsBlankPart text at)
    ]
    in cases (is_blank b) refl

space_piece : (b : ℕ) (bs : List ℕ) (n : ℕ) → is_blank b ≡ true → piece_at (b ∷ bs) ≡ Blank n → prefix_len is_blank (b ∷ bs) ≡ n
unfolding piece_at
space_piece b bs n blank h = choose (is_blank b) _ _ _ h (λ e k. rw blank (blank_is _ n k)) (λ n k. absurd cc)

piece_blanks : (text : List ℕ) (b : ℕ) (bs : List ℕ) (at n : ℕ) → drop at text ≡ b ∷ bs → piece_at (b ∷ bs) ≡ Blank n → AreBlanks IsBlankPart text at (at + n)
piece_blanks text b bs at n cut h =
    let cases : (t : Bool) → is_blank b ≡ t → AreBlanks IsBlankPart text at (at + n)
    = λ t. elim t as (λ t. is_blank b ≡ t → AreBlanks IsBlankPart text at (at + n)) [
      | true ↦ λ e. let k = space_piece b bs n e h in rw (← k) (spaces text (b ∷ bs) at cut)
      | false ↦ λ e. one_blank IsBlankPart text at n (rw cut (piece_comment b bs n e h))
    ]
    in cases (is_blank b) refl

token_at : (text : List ℕ) (at n : ℕ) → at < length text → piece_at (drop at text) ≡ Token n → IsToken (drop at text) n
token_at text at n lt is =
    let cut = drop_more text at 0 lt in
    rw cut (piece_token (get_or text at 0) (drop (at + 1) text) n (sym (ap piece_at cut) ∙ is))

blank_at : (text : List ℕ) (at n : ℕ) → at < length text → piece_at (drop at text) ≡ Blank n → AreBlanks IsBlankPart text at (at + n)
blank_at text at n lt is =
    let cut = drop_more text at 0 lt in
    piece_blanks text (get_or text at 0) (drop (at + 1) text) at n cut (sym (ap piece_at cut) ∙ is)

def_form : IsSplitForm piece_at IsBlankPart IsToken
def_form = record { cut = def_cut; blank = blank_at; token = token_at }

pub def_split : (text : List ℕ) → IsTokenSplit text (def_tokens text)
def_split text = split piece_at IsBlankPart IsToken def_form text
