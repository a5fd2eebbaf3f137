-- A STIL text has one split at most: its tokens.
use Rattle.std.proofs.Common.{◌≡◌, ℕ, zero, suc, ◌+◌, ◌<◌, ◌≤◌, Bool, true, false, cond, not, ◌&&◌, ◌||◌, eqb, List, [], ◌∷◌, ◌++◌, length, take, drop, get_or, refl, sym, ap, ◌∙◌, subst, inl, inr, arith}
use Rattle.std.specs.List.{prefix_len, list_all}
use Rattle.std.proofs.lemmas.Bool.{and_parts, and_right, cases_Bool, eqb-true, or_parts}
use Rattle.token_forms.specs.declared.piece.Piece.{Piece}
use Rattle.token_forms.specs.declared.piece.Piece.TheVariants.{Blank, Token}
use Rattle.token_forms.specs.Pieces.{piece_len, span_of, tokens_from}
use Rattle.token_forms.proofs.Cuts.{tokens_from-cons}
use Rattle.token_forms.proofs.SplitUnique.{IsExactForm, only}
use Rattle.stil_tokens.specs.StilTokens.{is_blank, is_quote, is_mark, is_run, quoted_len, closed_len, line_len, brace_piece, slash_piece, piece_at}
use Rattle.stil_tokens.specs.StilSplit.{begins_with_two, begins_comment, goes_on, closes_at, IsClosed, Closed, Unclosed, IsRun, IsBlankPart, Space, LineComment, Comment, IsToken, Quoted, Note, Mark, Run, OnlyLaw}
use Rattle.stil_tokens.proofs.StilPieces.{stil_cut}
use Rattle.stil_tokens.proofs.StilSplitLaw.{two_len, closed_two}

module _ (closing : ℕ) (some : eqb 0 closing ≡ false) where
  never_one : (b i : ℕ) → closes_at closing (b ∷ []) i ≡ false
  never_one b i = and_right (eqb (get_or (b ∷ []) i 0) 42) (eqb 0 closing) some

  two_only : (bs : List ℕ) (m : ℕ) → IsClosed closing bs m → m ≡ two_len closing bs
  two_only [] m (Closed i is here before) = absurd cc
  two_only [] m (Unclosed is never) = is
  two_only (b ∷ []) m (Closed i is here before) = let no = never_one b i in absurd cc
  two_only (b ∷ []) m (Unclosed is never) = is
  two_only (b ∷ c ∷ bs) m closed =
      elim (cases_Bool (eqb b 42 && eqb c closing)) [
        | inl at ↦ closed_first b c bs m at closed ∙ rw at refl
        | inr past ↦ closed_later b c bs m past (two_only (c ∷ bs)) closed ∙ rw past refl
      ]
    where
      closed_first : (b c : ℕ) (bs : List ℕ) (m : ℕ) → closes_at closing (b ∷ c ∷ bs) 0 ≡ true → IsClosed closing (b ∷ c ∷ bs) m → m ≡ 2
      closed_first b c bs m at (Closed zero is here before) = is
      closed_first b c bs m at (Closed (suc i) is here before) = let no = before 0 (omega arith) in absurd cc
      closed_first b c bs m at (Unclosed is never) = let no = never 0 in absurd cc

      closed_later : (b c : ℕ) (bs : List ℕ) (m : ℕ) → closes_at closing (b ∷ c ∷ bs) 0 ≡ false → ((n : ℕ) → IsClosed closing (c ∷ bs) n → n ≡ two_len closing (c ∷ bs)) → IsClosed closing (b ∷ c ∷ bs) m → m ≡ 1 + two_len closing (c ∷ bs)
      closed_later b c bs m past more (Closed zero is here before) = absurd cc
      closed_later b c bs m past more (Closed (suc i) is here before) =
          let k = more (suc (suc i)) (Closed i refl here (λ j lt. before (suc j) (omega arith))) in omega arith
      closed_later b c bs m past more (Unclosed is never) = let k = more (length (c ∷ bs)) (Unclosed refl (λ j. never (suc j))) in omega arith

  closed_only : (bs : List ℕ) (m : ℕ) → IsClosed closing bs m → m ≡ closed_len closing false bs
  closed_only bs m closed = two_only bs m closed ∙ sym (closed_two closing bs)

cond_yes : (t : Bool) (p q : Piece) → t ≡ true → cond t p q ≡ p
cond_yes true p q e = refl
cond_yes false p q e = absurd cc

cond_no : (t : Bool) (p q : Piece) → t ≡ false → cond t p q ≡ q
cond_no true p q e = absurd cc
cond_no false p q e = refl

-- the tokens behind a piece that is blank
over : (at b : ℕ) (bs : List ℕ) (n : ℕ) → piece_at (b ∷ bs) ≡ Blank n → tokens_from piece_at at 0 (b ∷ bs) ≡ tokens_from piece_at (at + n) 0 (drop n (b ∷ bs))
over at b bs n is =
    let some = (stil_cut.each b bs).some in
    tokens_from-cons piece_at at b bs some ∙ ap (λ (p : Piece). span_of at p ++ tokens_from piece_at (at + piece_len p) 0 (drop (piece_len p) (b ∷ bs))) is

space_piece : (b : ℕ) (bs : List ℕ) → is_blank b ≡ true → piece_at (b ∷ bs) ≡ Blank 1
unfolding piece_at
space_piece b bs e = rw e refl

line_piece : (bs : List ℕ) → piece_at (47 ∷ 47 ∷ bs) ≡ Blank (2 + line_len bs)
unfolding piece_at slash_piece
line_piece bs = refl

comment_piece : (bs : List ℕ) → piece_at (47 ∷ 42 ∷ bs) ≡ Blank (2 + closed_len 47 false bs)
unfolding piece_at slash_piece
comment_piece bs = refl

note_piece : (bs : List ℕ) → piece_at (123 ∷ 42 ∷ bs) ≡ Token (2 + closed_len 125 false bs)
unfolding piece_at brace_piece
note_piece bs = refl

blank_part : (b : ℕ) (bs : List ℕ) (n : ℕ) → IsBlankPart (b ∷ bs) n → piece_at (b ∷ bs) ≡ Blank n
blank_part b bs n (Space c cs cut blank one) =
    let same : b ≡ c = cc in
    let blank' : is_blank b ≡ true = rw same blank in
    space_piece b bs blank' ∙ ap (λ (x : ℕ). Blank x) (sym one)
blank_part b bs n (LineComment cs cut is) = ap piece_at cut ∙ line_piece cs ∙ ap (λ (x : ℕ). Blank x) (sym is)
blank_part b bs n (Comment m cs cut closed is) =
    let k : n ≡ 2 + closed_len 47 false cs = is ∙ ap (λ (x : ℕ). 2 + x) (closed_only 47 refl cs m closed) in
    ap piece_at cut ∙ comment_piece cs ∙ ap (λ (x : ℕ). Blank x) (sym k)

blank_at : (at b : ℕ) (bs : List ℕ) (n : ℕ) → IsBlankPart (b ∷ bs) n → tokens_from piece_at at 0 (b ∷ bs) ≡ tokens_from piece_at (at + n) 0 (drop n (b ∷ bs))
blank_at at b bs n is = over at b bs n (blank_part b bs n is)

none_at : (n : ℕ) → IsBlankPart [] n → ⊥
none_at n (Space c cs cut blank one) = cc
none_at n (LineComment cs cut is) = cc
none_at n (Comment m cs cut closed is) = cc

-- a quote is no blank
quote_black : (b : ℕ) → is_quote b ≡ true → is_blank b ≡ false
quote_black b q =
    elim (cases_Bool (eqb b 34)) [
      | inl e ↦ let same = eqb-true b 34 e in rw same refl
      | inr e ↦ let rest : eqb b 39 ≡ true = rw e at q in let same = eqb-true b 39 rest in rw same refl
    ]

quoted_piece : (b : ℕ) (bs : List ℕ) → is_quote b ≡ true → piece_at (b ∷ bs) ≡ Token (1 + quoted_len b bs)
unfolding piece_at
quoted_piece b bs q = rw (quote_black b q, q) refl

-- a mark is no blank and no quote
record IsBareMark (b : ℕ) : Type 0 where
  black : is_blank b ≡ false
  bare : is_quote b ≡ false

mark_is : (b c : ℕ) → eqb b c ≡ true → IsBareMark c → IsBareMark b
mark_is b c e is = let same = eqb-true b c e in rw same is

bare_mark : (b : ℕ) → is_mark b ≡ true → IsBareMark b
bare_mark b m =
    let known : (c : ℕ) → is_blank c ≡ false → is_quote c ≡ false → IsBareMark c = λ c e f. record { black = e; bare = f } in
    elim (cases_Bool (eqb b 123)) [
      | inl e ↦ mark_is b 123 e (known 123 refl refl)
      | inr e ↦ elim (cases_Bool (eqb b 125)) [
        | inl f ↦ mark_is b 125 f (known 125 refl refl)
        | inr f ↦ elim (cases_Bool (eqb b 59)) [
          | inl g ↦ mark_is b 59 g (known 59 refl refl)
          | inr g ↦ elim (cases_Bool (eqb b 61)) [
            | inl h ↦ mark_is b 61 h (known 61 refl refl)
            | inr h ↦ elim (cases_Bool (eqb b 58)) [
              | inl i ↦ mark_is b 58 i (known 58 refl refl)
              | inr i ↦ let last : eqb b 33 ≡ true = rw (e, f, g, h, i) at m in mark_is b 33 last (known 33 refl refl)
            ]
          ]
        ]
      ]
    ]

open_piece : (bs : List ℕ) → begins_with_two 123 42 (123 ∷ bs) ≡ false → brace_piece bs ≡ Token 1
unfolding brace_piece
open_piece [] none = refl
open_piece (c ∷ cs) none = rw none refl

mark_piece : (b : ℕ) (bs : List ℕ) → is_mark b ≡ true → begins_with_two 123 42 (b ∷ bs) ≡ false → piece_at (b ∷ bs) ≡ Token 1
unfolding piece_at
mark_piece b bs m none =
    let bare = bare_mark b m in
    elim (cases_Bool (eqb b 123)) [
      | inl e ↦ let same = eqb-true b 123 e in let none' : begins_with_two 123 42 (123 ∷ bs) ≡ false = subst (λ (x : ℕ). begins_with_two 123 42 (x ∷ bs) ≡ false) same none in rw same (open_piece bs none')
      | inr e ↦ cond_no (is_blank b) _ _ bare.black ∙ cond_no (is_quote b) _ _ bare.bare ∙ cond_no (eqb b 123) _ _ e ∙ cond_yes (is_mark b) _ _ m
    ]

-- a run, as far as it goes, is the longest one
run_len : (bs : List ℕ) (m : ℕ) → m ≤ length bs → list_all is_run (take m bs) ≡ true → goes_on (drop m bs) ≡ false → prefix_len is_run bs ≡ m
run_len [] m le all ends = omega arith
run_len (b ∷ bs) zero le all ends = rw ends refl
run_len (b ∷ bs) (suc m) le all ends =
    let parts = and_parts (is_run b) (list_all is_run (take m bs)) all in
    let more = run_len bs m (omega arith) parts.1 ends in
    rw parts.0 (omega arith)

none_of : (x y z : Bool) → not (x || (y || z)) ≡ true → (x ≡ false) × (y ≡ false) × (z ≡ false)
none_of true y z h = absurd cc
none_of false true z h = absurd cc
none_of false false true h = absurd cc
none_of false false false h = (refl, refl, refl)

run_slash : (bs : List ℕ) → begins_comment (47 ∷ bs) ≡ false → slash_piece bs ≡ Token (1 + prefix_len is_run bs)
unfolding slash_piece
run_slash [] none = refl
run_slash (c ∷ cs) none = let e = or_parts (eqb c 47) (eqb c 42) none in rw (e.0, e.1) refl

run_piece : (b : ℕ) (bs : List ℕ) → is_run b ≡ true → begins_comment (b ∷ bs) ≡ false → piece_at (b ∷ bs) ≡ Token (1 + prefix_len is_run bs)
unfolding piece_at
run_piece b bs r none =
    let e = none_of (is_blank b) (is_quote b) (is_mark b) r in
    let f = or_parts (eqb b 123) _ e.2 in
    elim (cases_Bool (eqb b 47)) [
      | inl s ↦ let same = eqb-true b 47 s in let none' : begins_comment (47 ∷ bs) ≡ false = subst (λ (x : ℕ). begins_comment (x ∷ bs) ≡ false) same none in rw same (run_slash bs none')
      | inr s ↦ cond_no (is_blank b) _ _ e.0 ∙ cond_no (is_quote b) _ _ e.1 ∙ cond_no (eqb b 123) _ _ f.0 ∙ cond_no (is_mark b) _ _ e.2 ∙ cond_no (eqb b 47) _ _ s
    ]

run_first : (b : ℕ) (bs : List ℕ) (n : ℕ) → IsRun (b ∷ bs) n → is_run b ≡ true
run_first b bs zero run = absurd (omega (arith, run.some))
run_first b bs (suc n) run = (and_parts (is_run b) (list_all is_run (take n bs)) run.each).0

token_at : (b : ℕ) (bs : List ℕ) (n : ℕ) → 0 < n → n ≤ suc (length bs) → IsToken (b ∷ bs) n → piece_at (b ∷ bs) ≡ Token n
token_at b bs n some within (Quoted c cs cut is len) =
    ap piece_at cut ∙ quoted_piece c cs is ∙ ap (λ (x : ℕ). Token x) (sym len)
token_at b bs n some within (Note m cs cut closed is) =
    let k : n ≡ 2 + closed_len 125 false cs = is ∙ ap (λ (x : ℕ). 2 + x) (closed_only 125 refl cs m closed) in
    ap piece_at cut ∙ note_piece cs ∙ ap (λ (x : ℕ). Token x) (sym k)
token_at b bs n some within (Mark c cs cut is none len) =
    let none' : begins_with_two 123 42 (c ∷ cs) ≡ false = sym (ap (begins_with_two 123 42) cut) ∙ none in
    ap piece_at cut ∙ mark_piece c cs is none' ∙ ap (λ (x : ℕ). Token x) (sym len)
token_at b bs n some within (Run run none) =
    let first = run_first b bs n run in
    let whole = run_len (b ∷ bs) n run.within run.each run.ends in
    let k : 1 + prefix_len is_run bs ≡ n = rw first at whole in
    run_piece b bs first none ∙ ap (λ (x : ℕ). Token x) k

stil_exact : IsExactForm piece_at IsBlankPart IsToken
stil_exact = record { cut = stil_cut; none = none_at; blank = blank_at; token = token_at }

pub only_law : OnlyLaw
only_law text spans split = only piece_at IsBlankPart IsToken stil_exact text 0 spans split
