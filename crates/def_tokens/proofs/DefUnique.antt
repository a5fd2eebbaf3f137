-- A LEF or DEF text has one split at most: its tokens.
use Rattle.std.proofs.Common.{◌≡◌, ℕ, zero, suc, ◌+◌, ◌<◌, ◌≤◌, Bool, true, false, cond, not, ◌||◌, eqb, List, [], ◌∷◌, ◌++◌, length, take, drop, refl, sym, ap, ◌∙◌, arith}
use Rattle.std.specs.List.{prefix_len, list_all}
use Rattle.std.proofs.lemmas.Bool.{and_parts}
use Rattle.token_forms.specs.declared.piece.Piece.{Piece}
use Rattle.token_forms.specs.declared.piece.Piece.TheVariants.{Blank, Token}
use Rattle.token_forms.specs.Pieces.{piece_len, span_of, tokens_from}
use Rattle.token_forms.proofs.Cuts.{tokens_from-cons}
use Rattle.token_forms.proofs.SplitUnique.{IsExactForm, only}
use Rattle.def_tokens.specs.DefTokens.{is_blank, is_black, len_with, has_end, piece_at}
use Rattle.def_tokens.specs.DefSplit.{begins_run, goes_on, IsRun, IsBlankPart, Space, Comment, IsToken, Quoted, Whole, Before, OnlyLaw}
use Rattle.def_tokens.proofs.DefPieces.{def_cut}

-- the tokens behind a piece that is blank
over : (at b : ℕ) (bs : List ℕ) (n : ℕ) → piece_at (b ∷ bs) ≡ Blank n → tokens_from piece_at at 0 (b ∷ bs) ≡ tokens_from piece_at (at + n) 0 (drop n (b ∷ bs))
over at b bs n is =
    let some = (def_cut.each b bs).some in
    tokens_from-cons piece_at at b bs some ∙ ap (λ (p : Piece). span_of at p ++ tokens_from piece_at (at + piece_len p) 0 (drop (piece_len p) (b ∷ bs))) is

space_piece : (b : ℕ) (bs : List ℕ) → is_blank b ≡ true → piece_at (b ∷ bs) ≡ Blank (1 + prefix_len is_blank bs)
unfolding piece_at
space_piece b bs e = rw e refl

-- behind one blank of a run
over_space : (at b : ℕ) (bs : List ℕ) → is_blank b ≡ true → tokens_from piece_at at 0 (b ∷ bs) ≡ tokens_from piece_at (at + 1) 0 bs
over_space at b bs e = over at b bs (1 + prefix_len is_blank bs) (space_piece b bs e) ∙ behind bs
  where
    behind : (bs : List ℕ) → tokens_from piece_at (at + (1 + prefix_len is_blank bs)) 0 (drop (1 + prefix_len is_blank bs) (b ∷ bs)) ≡ tokens_from piece_at (at + 1) 0 bs
    behind [] = refl
    behind (c ∷ cs) =
        let cases : (t : Bool) → is_blank c ≡ t → tokens_from piece_at (at + (1 + cond t (1 + prefix_len is_blank cs) 0)) 0 (drop (1 + cond t (1 + prefix_len is_blank cs) 0) (b ∷ c ∷ cs)) ≡ tokens_from piece_at (at + 1) 0 (c ∷ cs)
        = λ t. elim t as (λ t. is_blank c ≡ t → tokens_from piece_at (at + (1 + cond t (1 + prefix_len is_blank cs) 0)) 0 (drop (1 + cond t (1 + prefix_len is_blank cs) 0) (b ∷ c ∷ cs)) ≡ tokens_from piece_at (at + 1) 0 (c ∷ cs)) [
          | true ↦ λ f.
              let n = 1 + prefix_len is_blank cs in
              let k : 1 + n ≡ suc n = omega arith in
              let l : at + suc n ≡ at + 1 + n = omega arith in
              ap (λ (x : ℕ). tokens_from piece_at (at + x) 0 (drop x (b ∷ c ∷ cs))) k ∙ ap (λ (x : ℕ). tokens_from piece_at x 0 (drop n (c ∷ cs))) l
              ∙ sym (over (at + 1) c cs n (space_piece c cs f))
          | false ↦ λ f. refl
        ]
        in cases (is_blank c) refl

comment_piece : (bs : List ℕ) → piece_at (35 ∷ bs) ≡ Blank (1 + len_with 10 bs)
unfolding piece_at
comment_piece bs = refl

quoted_piece : (bs : List ℕ) → piece_at (34 ∷ bs) ≡ Token (1 + len_with 34 bs)
unfolding piece_at
quoted_piece bs = refl

blank_at : (at b : ℕ) (bs : List ℕ) (n : ℕ) → IsBlankPart (b ∷ bs) n → tokens_from piece_at at 0 (b ∷ bs) ≡ tokens_from piece_at (at + n) 0 (drop n (b ∷ bs))
blank_at at b bs n (Space c cs cut blank one) =
    let same : b ≡ c = cc in
    let blank' : is_blank b ≡ true = rw same blank in
    rw one (over_space at b bs blank')
blank_at at b bs n (Comment cs cut is) = over at b bs n (ap piece_at cut ∙ comment_piece cs ∙ ap (λ (x : ℕ). Blank x) (sym is))

none_at : (n : ℕ) → IsBlankPart [] n → ⊥
none_at n (Space c cs cut blank one) = cc
none_at n (Comment cs cut is) = cc

-- a run of bytes that aren't blanks, as far as it goes, is the longest one
run_len : (bs : List ℕ) (m : ℕ) → m ≤ length bs → list_all is_black (take m bs) ≡ true → goes_on (drop m bs) ≡ false → prefix_len is_black bs ≡ m
run_len [] m le all ends = omega arith
run_len (b ∷ bs) zero le all ends = rw ends refl
run_len (b ∷ bs) (suc m) le all ends =
    let parts = and_parts (is_black b) (list_all is_black (take m bs)) all in
    let more = run_len bs m (omega arith) parts.1 ends in
    rw parts.0 (omega arith)

none_of : (x y z : Bool) → not (x || (y || z)) ≡ true → (x ≡ false) × (y ≡ false) × (z ≡ false)
none_of true y z h = absurd cc
none_of false true z h = absurd cc
none_of false false true h = absurd cc
none_of false false false h = (refl, refl, refl)

run_piece_is : (b : ℕ) (bs : List ℕ) → begins_run (b ∷ bs) ≡ true → piece_at (b ∷ bs) ≡ cond (has_end (take (prefix_len is_black bs + 1) (b ∷ bs))) (Token (prefix_len is_black bs)) (Token (prefix_len is_black bs + 1))
unfolding piece_at
run_piece_is b bs begins =
    let e = none_of (is_blank b) (eqb b 35) (eqb b 34) begins in
    rw (e.0, e.1, e.2) refl

-- the run that the text begins with has its length
run_is : (b : ℕ) (bs : List ℕ) (m : ℕ) → IsRun (b ∷ bs) m → prefix_len is_black bs + 1 ≡ m
run_is b bs m run =
    let e = none_of (is_blank b) (eqb b 35) (eqb b 34) run.begins in
    let whole = run_len (b ∷ bs) m run.within run.black run.ends in
    let k : 1 + prefix_len is_black bs ≡ m = rw e.0 at whole in
    omega arith

token_at : (b : ℕ) (bs : List ℕ) (n : ℕ) → 0 < n → n ≤ suc (length bs) → IsToken (b ∷ bs) n → piece_at (b ∷ bs) ≡ Token n
token_at b bs n some within (Quoted cs cut is) = ap piece_at cut ∙ quoted_piece cs ∙ ap (λ (x : ℕ). Token x) (sym is)
token_at b bs n some within (Whole run plain) =
    let k = run_is b bs n run in
    run_piece_is b bs run.begins ∙ rw (k, plain) refl
token_at b bs n some within (Before run is) =
    let k = run_is b bs (n + 1) run in
    let l : prefix_len is_black bs ≡ n = omega arith in
    run_piece_is b bs run.begins ∙ rw (l, is) refl

def_exact : IsExactForm piece_at IsBlankPart IsToken
def_exact = record { cut = def_cut; none = none_at; blank = blank_at; token = token_at }

pub only_law : OnlyLaw
only_law text spans split = only piece_at IsBlankPart IsToken def_exact text 0 spans split
