-- Where a text ends its head that begins with a written head.
use Rattle.std.specs.Prelude.{⊤}
use Rattle.std.proofs.Common.{◌≡◌, ℕ, zero, suc, ◌+◌, ◌-◌, ◌<◌, ◌≤◌, Bool, true, false, cond, eqb, ◌&&◌, ◌||◌, not, ◌⊎◌, inl, inr, List, [], ◌∷◌, ◌++◌, length, take, drop, Option, Some, None, refl, sym, ap, ◌∙◌, subst, arith, append_assoc, length-append}
use Rattle.std.specs.List.{AllByRecursion as Each}
use Rattle.std.proofs.lemmas.Bool.{cases_Bool, true≢false, eqb-true}
use Rattle.std.proofs.lemmas.List.{append-nil}
use Rattle.token_forms.specs.declared.piece.Piece.TheVariants.{Blank, Token as token}
use Rattle.token_forms.specs.Pieces.{piece_len}
use Rattle.token_forms.specs.Tokens.{Token}
use Rattle.stil_tokens.specs.StilTokens.{brace_piece, piece_at, tokens_in}
use Rattle.stil_tokens.specs.StilStatements.{is_only, is_note, has_end, token_ends, depth_behind, closed_in, is_closed, len_in}
use Rattle.stil_parts.specs.declared.gap.Place.TheVariants.{Top}
use Rattle.stil_parts.specs.declared.gap.Comment.{Comment}
use Rattle.stil_parts.specs.declared.gap.Comment.TheVariants.{Outside, Line, Block}
use Rattle.stil_parts.specs.declared.gap.Gap.{Gap}
use Rattle.stil_parts.specs.declared.scan.Found.{Found}
use Rattle.stil_parts.specs.declared.head.HeadTurn.TheVariants.{Passed, Here}
use Rattle.stil_parts.specs.declared.word.Word.TheVariants.{Start, Known}
use Rattle.stil_parts.specs.Scanner.{end_of}
use Rattle.stil_parts.specs.Parts.{begin}
use Rattle.stil_parts.specs.Gaps.{gap_at}
use Rattle.stil_parts.specs.Ending.{statement_end, end_place}
use Rattle.stil_parts.specs.Heads.{word_of, head_turn, head_end}
use Rattle.stil_parts.proofs.Ends.{end-stable}
use Rattle.stil_parts.proofs.EndLaw.{end_law}
use Rattle.stil_parts.proofs.GapLemmas.{gap-two}
use Rattle.head_alike.proofs.Words.{only_is}
use Rattle.head_alike.proofs.Cuts.{len_here, len_later}
use Rattle.head_text.specs.Mixes.{bytes_in, piece_for, AreLaid, laid, token_of_bytes, Mix, old_pieces, new_pieces}
use Rattle.head_text.specs.Ready.{AreBlank}
use Rattle.head_text.proofs.Mixes.{bytes_append, laid_append, are_append, are_behind, stay_before, tokens_laid}
use Rattle.head_text.proofs.Cutting.{Pieces, Tight, OnePiece, one_piece, no_tokens}
use Rattle.head_text.proofs.Singles.{are_front, laid_alone}
use Rattle.head_text.proofs.Said.{blank_front}
use Rattle.head_text.proofs.Makes.{stays, old_stays, new_stays, new_mixes, NoBrace}
use Rattle.head_text.proofs.ItemRows.{BlockKept}
use Rattle.head_text.proofs.TopRows.{IsPart, KeptStep, KeptParts, StructuresStep, TopParts}
use Rattle.head_text.proofs.WordScan.{Shows, word_stays, word_where_ended, word_where_opened}
use Rattle.head_text.proofs.Passes.{plus, plus_plus, turn_pass, end_here, end_nothing, Passes, passes_none, passes_both, semicolon_gap, Stands, IsOutside, IsLine, IsEnd, Passed_to, blanks_pass, before_token, no_gap, statement_pass, pattern_here}

plus_cancel : (n m : ℕ) (o : Option ℕ) → plus n o ≡ Some (n + m) → o ≡ Some m
plus_cancel n m None e = absurd cc
plus_cancel n m (Some k) e =
    let r : n + k ≡ n + m = (let x = e in cc) in
    let s : k ≡ m = omega (arith, r) in
    ap (λ (i : ℕ). Some i) s

-- tokens at other places are closed alike
closed_at : (ps : Pieces) (a b depth : ℕ) (closed : Bool) → closed_in closed depth (laid a ps) ≡ closed_in closed depth (laid b ps)
closed_at [] a b depth closed = refl
closed_at ((true, w) ∷ ps) a b depth closed = closed_at ps (a + length w) (b + length w) (depth_behind depth w) (token_ends depth w)
closed_at ((false, w) ∷ ps) a b depth closed = closed_at ps (a + length w) (b + length w) depth closed

cond_one : (t : Bool) (m n : ℕ) → m ≡ n → cond t 1 (1 + m) ≡ cond t 1 (1 + n)
cond_one true m n e = refl
cond_one false m n e = ap (λ (k : ℕ). 1 + k) e

len_at : (ps : Pieces) (a b depth : ℕ) → len_in depth (laid a ps) ≡ len_in depth (laid b ps)
len_at [] a b depth = refl
len_at ((true, w) ∷ ps) a b depth = cond_one (token_ends depth w) _ _ (len_at ps (a + length w) (b + length w) (depth_behind depth w))
len_at ((false, w) ∷ ps) a b depth = len_at ps (a + length w) (b + length w) depth

count_at : (ps : Pieces) (a b : ℕ) → length (laid a ps) ≡ length (laid b ps)
count_at [] a b = refl
count_at ((true, w) ∷ ps) a b = ap suc (count_at ps (a + length w) (b + length w))
count_at ((false, w) ∷ ps) a b = count_at ps (a + length w) (b + length w)

-- a statement with its end, and no blanks behind it
record IsOwn (ps : Pieces) : Type 0 where
  one : len_in 0 (laid 0 ps) ≡ length (laid 0 ps)
  closed : closed_in false 0 (laid 0 ps) ≡ true
  tight : Tight ps

own_at : (ps : Pieces) (at : ℕ) → len_in 0 (laid at ps) ≡ length (laid at ps) → closed_in false 0 (laid at ps) ≡ true → Tight ps → IsOwn ps
own_at ps at one closed tight = record { one = len_at ps 0 at 0 ∙ one ∙ count_at ps at 0; closed = closed_at ps 0 at 0 false ∙ closed; tight = tight }

tight_rest : (p : Bool × List ℕ) (ps : Pieces) → Tight (p ∷ ps) → Tight ps
tight_rest p [] t = tt
tight_rest p (q ∷ ps) t = t

tight_behind : (xs ys : Pieces) → Tight (xs ++ ys) → Tight ys
tight_behind [] ys t = t
tight_behind (x ∷ xs) ys t = tight_behind xs ys (tight_rest x (xs ++ ys) t)

tight_none : (ps : Pieces) → AreBlank ps → Tight ps → ps ≡ []
tight_none [] none t = refl
tight_none (p ∷ []) none t = absurd (true≢false (sym t ∙ none.0))
tight_none (p ∷ q ∷ ps) none t = absurd (let k = tight_none (q ∷ ps) none.1 t in cc)

no_len : (ts : List Token) → length ts ≡ 0 → ts ≡ []
no_len [] e = refl
no_len (t ∷ ts) e = absurd (omega (arith, e))

-- its end, by its tokens
end_laid : (ps : Pieces) (at depth : ℕ) → closed_in false depth (laid at ps) ≡ true → len_in depth (laid at ps) ≡ length (laid at ps) → Tight ps → statement_end depth (laid at ps) ≡ Some (at + length (bytes_in ps))
end_laid [] at depth closed one tight = absurd cc
end_laid ((true, w) ∷ ps) at depth closed one tight = elim (cases_Bool (token_ends depth w)) [
  | inl e ↦ (
      let t = token_of_bytes w at in
      let k = len_here depth t (laid (at + length w) ps) e in
      let none = no_len (laid (at + length w) ps) (omega (arith, k, one)) in
      let empty = tight_none ps (no_tokens (at + length w) ps none) (tight_rest (true, w) ps tight) in
      let size = ap length (ap (λ (l : Pieces). w ++ bytes_in l) empty ∙ append-nil w) in
      let place : at + length w ≡ at + length (w ++ bytes_in ps) = omega (arith, size) in
      ap (λ (b : Bool). cond b (Some (at + length w)) (statement_end (depth_behind depth w) (laid (at + length w) ps))) e ∙ ap (λ (n : ℕ). Some n) place)
  | inr e ↦ (
      let t = token_of_bytes w at in
      let k = len_later depth t (laid (at + length w) ps) e in
      let more : closed_in false (depth_behind depth w) (laid (at + length w) ps) ≡ true = ap (λ (b : Bool). closed_in b (depth_behind depth w) (laid (at + length w) ps)) (sym e) ∙ closed in
      let place : at + length w + length (bytes_in ps) ≡ at + length (w ++ bytes_in ps) = omega (arith, length-append w (bytes_in ps)) in
      ap (λ (b : Bool). cond b (Some (at + length w)) (statement_end (depth_behind depth w) (laid (at + length w) ps))) e
      ∙ end_laid ps (at + length w) (depth_behind depth w) more (omega (arith, k, one)) (tight_rest (true, w) ps tight) ∙ ap (λ (n : ℕ). Some n) place)
]
end_laid ((false, w) ∷ ps) at depth closed one tight =
    let place : at + length w + length (bytes_in ps) ≡ at + length (w ++ bytes_in ps) = omega (arith, length-append w (bytes_in ps)) in
    end_laid ps (at + length w) depth closed one (tight_rest (false, w) ps tight) ∙ ap (λ (n : ℕ). Some n) place

-- and by its bytes
record FoundEnd (x : List ℕ) : Type 0 where
  end : Found
  is : end_of false (begin (Known false)) x ≡ Some end
  len : end.len ≡ length x

found_by : (x : List ℕ) (o : Option Found) → end_of false (begin (Known false)) x ≡ o → end_place o ≡ Some (0 + length x) → FoundEnd x
found_by x None e f = absurd cc
found_by x (Some g) e f = (let k : g.len ≡ 0 + length x = (let r = f in cc) in record { end = g; is = e; len = omega (arith, k) })

found_end : (ps : Pieces) → AreLaid [] ps → IsOwn ps → FoundEnd (bytes_in ps)
found_end ps are own =
    found_by (bytes_in ps) (end_of false (begin (Known false)) (bytes_in ps)) refl
    (end_law false (bytes_in ps) ∙ ap (statement_end 0) (tokens_laid ps are) ∙ end_laid ps 0 0 own.closed own.one own.tight)

-- the first byte of a statement that counts
semicolon_len : (x : List ℕ) (n : ℕ) → piece_at (59 ∷ x) ≡ token n → n ≡ 1
unfolding piece_at
semicolon_len x n e = let k = ap piece_len e in omega (arith, k)

not_semicolon : (b : ℕ) (w r : List ℕ) → piece_at (b ∷ (w ++ r)) ≡ token (suc (length w)) → is_only 59 (b ∷ w) ≡ false → eqb b 59 ≡ false
not_semicolon b w r e apart = elim (cases_Bool (eqb b 59)) [
  | inl f ↦ (
      let is = eqb-true b 59 f in
      let k = semicolon_len (w ++ r) (suc (length w)) (subst (λ (c : ℕ). piece_at (c ∷ (w ++ r)) ≡ token (suc (length w))) is e) in
      absurd (true≢false (sym (alone w (omega (arith, k)) f) ∙ apart)))
  | inr f ↦ f
]
  where
    alone : (w : List ℕ) → length w ≡ 0 → eqb b 59 ≡ true → is_only 59 (b ∷ w) ≡ true
    alone [] k f = f
    alone (c ∷ w) k f = absurd (omega (arith, k))

one_byte : (b : ℕ) → eqb b 59 ≡ false → token_ends 0 (b ∷ []) ≡ false
one_byte b e = rw e (by (eqb b 125) (eqb b 123))
  where
    by : (p q : Bool) → (false && true || (p && false || (q && false) && true)) ≡ false
    by true true = refl
    by true false = refl
    by false true = refl
    by false false = refl

two_bytes : (b : ℕ) (w : List ℕ) (ps : Pieces) → AreLaid [] ((true, b ∷ w) ∷ ps) → IsOwn ((true, b ∷ w) ∷ ps) → eqb b 59 ≡ false → 1 < length (b ∷ (w ++ bytes_in ps))
two_bytes b (c ∷ w) ps are own e = omega arith
two_bytes b [] (p ∷ ps) are own e = (let some = are.2.0 in let k = length-append p.1 (bytes_in ps) in omega (arith, some, k))
two_bytes b [] [] are own e = absurd (true≢false (sym own.closed ∙ one_byte b e))

-- a statement of another word is passed whatever follows
module _ (w : List ℕ) (ps : Pieces) (are : AreLaid [] ((true, w) ∷ ps)) (own : IsOwn ((true, w) ∷ ps)) (counts : is_only 59 w ≡ false) where
  abbrev u : List ℕ
  u = w ++ bytes_in ps

  found : FoundEnd u
  found = found_end ((true, w) ∷ ps) are own

  gap_by : (w : List ℕ) → AreLaid [] ((true, w) ∷ ps) → IsOwn ((true, w) ∷ ps) → is_only 59 w ≡ false → (z : List ℕ) → (gap_at Top Outside ((w ++ bytes_in ps) ++ z)).len ≡ 0
  gap_by [] are own counts z = absurd (let k = are.0 in omega arith)
  gap_by (b ∷ w) are own counts z =
      let s = not_semicolon b w (bytes_in ps ++ []) are.1 counts in
      let wide = two_bytes b w ps are own s in
      let here : (gap_at Top Outside (b ∷ (w ++ bytes_in ps))).len ≡ 0 = no_gap b (w ++ bytes_in ps) (suc (length w)) s (ap (λ (l : List ℕ). piece_at (b ∷ (w ++ l))) (sym (append-nil (bytes_in ps))) ∙ are.1) in
      ap (λ (g : Gap). g.len) (gap-two Top Outside (b ∷ (w ++ bytes_in ps)) z wide) ∙ here

  no_gap_here : (z : List ℕ) → (gap_at Top Outside (u ++ z)).len ≡ 0
  no_gap_here z = gap_by w are own counts z

  -- where the word is Pattern, the head would end here
  here_zero : (w : List ℕ) (z : List ℕ) → 0 < length w → head_turn true Outside ((w ++ bytes_in ps) ++ z) ≡ Some Here → head_end true Outside 0 ((w ++ bytes_in ps) ++ z) ≡ Some 0
  here_zero [] z some e = absurd (omega arith)
  here_zero (b ∷ w) z some e = end_here Outside b ((w ++ bytes_in ps) ++ z) e

  size : 0 < length u
  size = let some = are.0 in omega (arith, some, length-append w (bytes_in ps))

  pattern_no : (r : List ℕ) (k : ℕ) → head_end true Outside 0 (u ++ r) ≡ Some (length u + k) → word_of true (begin Start) (u ++ r) ≡ Some true → ⊥
  pattern_no r k old word =
      let h = here_zero w r are.0 (pattern_here (u ++ r) (no_gap_here r) word) in
      absurd (let q : Some 0 ≡ Some (length u + k) = sym h ∙ old in let n : 0 ≡ length u + k = (let x = q in cc) in let s = size in omega (arith, n, s))

  pass_by : (w : List ℕ) (z : List ℕ) → 0 < length w → head_turn true Outside ((w ++ bytes_in ps) ++ z) ≡ Some (Passed (length (w ++ bytes_in ps)) Outside)
      → head_end true Outside 0 ((w ++ bytes_in ps) ++ z) ≡ plus (length (w ++ bytes_in ps)) (head_end true Outside 0 z)
  pass_by [] z some e = absurd (omega arith)
  pass_by (b ∷ w) z some e = turn_pass Outside Outside b (w ++ bytes_in ps) z e

  own_passes : ((z : List ℕ) → word_of true (begin Start) (u ++ z) ≡ Some false) → Passes Outside u Outside
  own_passes word = record {
    is = λ z. pass_by w z are.0 (statement_pass (u ++ z) (length u) found.end (no_gap_here z) (word z) (end-stable true (begin (Known false)) u z found.end found.is) found.len);
  }

  -- its word is shown by its bytes
  by_word : (b : Bool) → word_of false (begin Start) u ≡ Some b → (r : List ℕ) (k : ℕ) → head_end true Outside 0 (u ++ r) ≡ Some (length u + k) → Passes Outside u Outside
  by_word true e r k old = absurd (pattern_no r k old (word_stays true (begin Start) u r true e))
  by_word false e r k old = own_passes (λ z. word_stays true (begin Start) u z false e)

  kept_passes : (r : List ℕ) (k : ℕ) → head_end true Outside 0 (u ++ r) ≡ Some (length u + k) → Passes Outside u Outside
  kept_passes r k old = let s = word_where_ended u found.end found.is in by_word s.word s.is r k old

-- a ; alone is passed too
semicolon_alone : (w : List ℕ) (ps : Pieces) → IsOwn ((true, w) ∷ ps) → is_only 59 w ≡ true → Passes Outside (w ++ bytes_in ps) Outside
semicolon_alone w ps own e =
    let word = only_is 59 w e in
    let ends : token_ends 0 w ≡ true = rw word refl in
    let t = token_of_bytes w 0 in
    let k = len_here 0 t (laid (0 + length w) ps) ends in
    let one = own.one in
    let none = no_len (laid (0 + length w) ps) (omega (arith, k, one)) in
    let empty = tight_none ps (no_tokens (0 + length w) ps none) (tight_rest (true, w) ps own.tight) in
    let bytes : w ++ bytes_in ps ≡ 59 ∷ [] = ap (λ (l : Pieces). w ++ bytes_in l) empty ∙ append-nil w ∙ word in
    subst (λ (l : List ℕ). Passes Outside l Outside) (sym bytes) semicolon_gap

own_any : (w : List ℕ) (ps : Pieces) → AreLaid [] ((true, w) ∷ ps) → IsOwn ((true, w) ∷ ps) → (r : List ℕ) (k : ℕ) → head_end true Outside 0 ((w ++ bytes_in ps) ++ r) ≡ Some (length (w ++ bytes_in ps) + k) → Passes Outside (w ++ bytes_in ps) Outside
own_any w ps are own r k old = elim (cases_Bool (is_only 59 w)) [
  | inl e ↦ semicolon_alone w ps own e
  | inr e ↦ kept_passes w ps are own e r k old
]

-- blanks before a statement
record BlankFirst (blanks : Pieces) (w : List ℕ) (ps : Pieces) : Type 0 where
  passes : Passes Outside (bytes_in blanks) Outside

blank_first : (blanks : Pieces) (w : List ℕ) (ps : Pieces) (z : List ℕ) → AreBlank blanks → AreLaid z (blanks ++ (true, w) ∷ ps) → Passes Outside (bytes_in blanks) Outside
blank_first blanks w ps z none are =
    let own = are_behind z blanks ((true, w) ∷ ps) are in
    let b = blanks_pass blanks (bytes_in ((true, w) ∷ ps) ++ z) Outside none (are_front z blanks ((true, w) ∷ ps) are) (IsOutside refl) in
    let c = before_token b.comment w (bytes_in ps ++ z) own.0 own.1 (subst (Stands b.comment) (append_assoc w (bytes_in ps) z) b.stands) in
    subst (λ (d : Comment). Passes Outside (bytes_in blanks) d) c b.passes

-- what is left of the way
left_over : (c d : Comment) (x y r : List ℕ) (n : ℕ) → Passes c x d → head_end true c 0 ((x ++ y) ++ r) ≡ Some (length (x ++ y) + n) → head_end true d 0 (y ++ r) ≡ Some (length y + n)
left_over c d x y r n p old =
    let len : length (x ++ y) + n ≡ length x + (length y + n) = omega (arith, length-append x y) in
    plus_cancel (length x) (length y + n) (head_end true d 0 (y ++ r)) (sym (p.is (y ++ r)) ∙ ap (head_end true c 0) (sym (append_assoc x y r)) ∙ old ∙ ap (λ (k : ℕ). Some k) len)

-- a part of pieces
record PartCut (qs : Pieces) : Type 0 where
  blanks : Pieces
  word : List ℕ
  rest : Pieces
  is : qs ≡ blanks ++ (true, word) ∷ rest
  none : AreBlank blanks
  own : IsOwn ((true, word) ∷ rest)

cut_by : (qs : Pieces) (at : ℕ) (ts : List Token) → laid at qs ≡ ts → 0 < length ts → len_in 0 (laid at qs) ≡ length (laid at qs) → closed_in false 0 (laid at qs) ≡ true → Tight qs → PartCut qs
cut_by qs at [] e some one closed tight = absurd (omega arith)
cut_by qs at (t ∷ ts) e some one closed tight =
    let o = one_piece at qs t ts e in
    let tokens : laid at qs ≡ laid (at + length (bytes_in o.blanks)) ((true, o.word) ∷ o.rest) = ap (laid at) o.is ∙ blank_front at o.blanks ((true, o.word) ∷ o.rest) o.none in
    record {
      blanks = o.blanks;
      word = o.word;
      rest = o.rest;
      is = o.is;
      none = o.none;
      own = own_at ((true, o.word) ∷ o.rest) (at + length (bytes_in o.blanks)) (subst (λ (l : List Token). len_in 0 l ≡ length l) tokens one) (ap (closed_in false 0) (sym tokens) ∙ closed)
          (tight_behind o.blanks ((true, o.word) ∷ o.rest) (subst Tight o.is tight));
    }

part_cut : (qs : Pieces) → IsPart qs → PartCut qs
part_cut qs p = cut_by qs p.at (laid p.at qs) refl p.some p.one p.closed p.tight

-- a part that stays
part_passes : (qs : Pieces) (z r : List ℕ) (k : ℕ) → IsPart qs → AreLaid z qs → head_end true Outside 0 (bytes_in qs ++ r) ≡ Some (length (bytes_in qs) + k) → Passes Outside (bytes_in qs) Outside
part_passes qs z r k part are old =
    let c = part_cut qs part in
    let own = (true, c.word) ∷ c.rest in
    let laid_is = subst (AreLaid z) c.is are in
    let bytes : bytes_in qs ≡ bytes_in c.blanks ++ bytes_in own = ap bytes_in c.is ∙ bytes_append c.blanks own in
    let a = blank_first c.blanks c.word c.rest z c.none laid_is in
    let left = left_over Outside Outside (bytes_in c.blanks) (bytes_in own) r k a (subst (λ (l : List ℕ). head_end true Outside 0 (l ++ r) ≡ Some (length l + k)) bytes old) in
    let b = own_any c.word c.rest (laid_alone own z (are_behind z c.blanks own laid_is)) c.own r k left in
    subst (λ (l : List ℕ). Passes Outside l Outside) (sym bytes) (passes_both Outside Outside Outside (bytes_in c.blanks) (bytes_in own) a b)

-- all that stays behind ScanStructures
pub record AllPassed (u : List ℕ) (r : List ℕ) : Type 0 where
  pub comment : Comment
  pub passes : Passes Outside u comment
  pub stands : Stands comment []
  pub last : head_end true comment 0 r ≡ Some 0

no_more : (n : ℕ) → n ≡ n + 0
no_more n = omega arith

kept_pass : (qss : List Pieces) (ps : Pieces) (m : List Mix) (r : List ℕ) → KeptParts qss ps m → AreLaid [] ps → head_end true Outside 0 (bytes_in ps ++ r) ≡ Some (length (bytes_in ps) + 0) → (new_pieces m ≡ ps) × AllPassed (bytes_in ps) r
kept_pass [] ps m r k are old =
    let b = blanks_pass ps [] Outside k.0 are (IsOutside refl) in
    let last = plus_cancel (length (bytes_in ps)) 0 (head_end true b.comment 0 r) (sym (b.passes.is r) ∙ old) in
    (ap new_pieces k.1 ∙ new_stays ps, record { comment = b.comment; passes = b.passes; stands = b.stands; last = last })
kept_pass (qs ∷ qss) ps m r k are old =
    let rest = k.rest in
    let both = subst (AreLaid []) k.cut are in
    let bytes : bytes_in ps ≡ bytes_in qs ++ bytes_in rest = ap bytes_in k.cut ∙ bytes_append qs rest in
    let here : head_end true Outside 0 ((bytes_in qs ++ bytes_in rest) ++ r) ≡ Some (length (bytes_in qs ++ bytes_in rest) + 0) = subst (λ (l : List ℕ). head_end true Outside 0 (l ++ r) ≡ Some (length l + 0)) bytes old in
    let size : length (bytes_in qs ++ bytes_in rest) + 0 ≡ length (bytes_in qs) + length (bytes_in rest) = omega (arith, length-append (bytes_in qs) (bytes_in rest)) in
    let a = part_passes qs (bytes_in rest ++ []) (bytes_in rest ++ r) (length (bytes_in rest)) k.part (are_front [] qs rest both) (ap (head_end true Outside 0) (sym (append_assoc (bytes_in qs) (bytes_in rest) r)) ∙ here ∙ ap (λ (k : ℕ). Some k) size) in
    let left = left_over Outside Outside (bytes_in qs) (bytes_in rest) r 0 a here in
    let more = kept_pass qss rest k.left r k.more (are_behind [] qs rest both) left in
    let e = more.1 in (
      ap new_pieces k.is ∙ new_mixes (stays qs) k.left ∙ ap (λ (l : Pieces). l ++ new_pieces k.left) (new_stays qs) ∙ ap (λ (l : Pieces). qs ++ l) more.0 ∙ sym k.cut,
      record { comment = e.comment; passes = subst (λ (l : List ℕ). Passes Outside l e.comment) (sym bytes) (passes_both Outside Outside e.comment (bytes_in qs) (bytes_in rest) a e.passes); stands = e.stands; last = e.last },
    )

-- a block's front shows the word
top_depth : (w : List ℕ) → is_only 123 w ≡ false → depth_behind 0 w ≡ 0
top_depth w e = ap (λ (b : Bool). cond b 1 (cond (is_only 125 w) zero zero)) e ∙ by (is_only 125 w)
  where
    by : (b : Bool) → cond b zero zero ≡ zero
    by true = refl
    by false = refl

lead_closed : (ps : Pieces) (at : ℕ) (closed : Bool) → NoBrace (laid at ps) → closed_in closed 0 (laid at (ps ++ (true, 123 ∷ []) ∷ (true, 125 ∷ []) ∷ [])) ≡ true
lead_closed [] at closed none = refl
lead_closed ((true, w) ∷ ps) at closed none =
    ap (λ (d : ℕ). closed_in (token_ends 0 w) d (laid (at + length w) (ps ++ (true, 123 ∷ []) ∷ (true, 125 ∷ []) ∷ []))) (top_depth w none.0) ∙ lead_closed ps (at + length w) (token_ends 0 w) none.1
lead_closed ((false, w) ∷ ps) at closed none = lead_closed ps (at + length w) closed none

count_two : (ps us : Pieces) (at : ℕ) → 1 < length (laid at (ps ++ (true, 123 ∷ []) ∷ us)) + 1
count_two [] us at = omega arith
count_two ((true, w) ∷ ps) us at = let k = count_two ps us (at + length w) in omega (arith, k)
count_two ((false, w) ∷ ps) us at = count_two ps us (at + length w)

lead_one : (ps us : Pieces) (at : ℕ) → NoBrace (laid at ps) → len_in 0 (laid at (ps ++ (true, 123 ∷ []) ∷ us)) ≡ length (laid at (ps ++ (true, 123 ∷ []) ∷ us))
    → len_in 0 (laid at (ps ++ (true, 123 ∷ []) ∷ (true, 125 ∷ []) ∷ [])) ≡ length (laid at (ps ++ (true, 123 ∷ []) ∷ (true, 125 ∷ []) ∷ []))
lead_one [] us at none one = omega arith
lead_one ((true, w) ∷ ps) us at none one = elim (cases_Bool (token_ends 0 w)) [
  | inl e ↦ absurd (let k = len_here 0 (token_of_bytes w at) (laid (at + length w) (ps ++ (true, 123 ∷ []) ∷ us)) e in let s = count_two ps us (at + length w) in omega (arith, k, one, s))
  | inr e ↦ (
      let depth = top_depth w none.0 in
      let old = len_later 0 (token_of_bytes w at) (laid (at + length w) (ps ++ (true, 123 ∷ []) ∷ us)) e ∙ ap (λ (d : ℕ). suc (len_in d (laid (at + length w) (ps ++ (true, 123 ∷ []) ∷ us)))) depth in
      let more = lead_one ps us (at + length w) none.1 (omega (arith, old, one)) in
      len_later 0 (token_of_bytes w at) (laid (at + length w) (ps ++ (true, 123 ∷ []) ∷ (true, 125 ∷ []) ∷ [])) e
      ∙ ap (λ (d : ℕ). suc (len_in d (laid (at + length w) (ps ++ (true, 123 ∷ []) ∷ (true, 125 ∷ []) ∷ [])))) depth ∙ ap suc more)
]
lead_one ((false, w) ∷ ps) us at none one = lead_one ps us (at + length w) none one

brace_stands : (z : List ℕ) → AreLaid z ((true, 123 ∷ []) ∷ (true, 125 ∷ []) ∷ [])
unfolding piece_at brace_piece
brace_stands z = (omega arith, refl, (omega arith, refl, tt))

lead_laid : (ps us : Pieces) → AreLaid [] (ps ++ (true, 123 ∷ []) ∷ us) → AreLaid [] (ps ++ (true, 123 ∷ []) ∷ (true, 125 ∷ []) ∷ [])
lead_laid [] us are = brace_stands []
lead_laid (p ∷ []) us are = (are.0, stay_before p.1 (123 ∷ []) (bytes_in us ++ []) (125 ∷ []) p.0 (omega arith) are.1, brace_stands [])
lead_laid (p ∷ q ∷ ps) us are =
    let old = bytes_in (ps ++ (true, 123 ∷ []) ∷ us) in
    let new = bytes_in (ps ++ (true, 123 ∷ []) ∷ (true, 125 ∷ []) ∷ []) in (
      are.0,
      ap (λ (l : List ℕ). piece_at (p.1 ++ l)) (append_assoc q.1 new []) ∙ stay_before p.1 q.1 (old ++ []) (new ++ []) p.0 are.2.0 (ap (λ (l : List ℕ). piece_at (p.1 ++ l)) (sym (append_assoc q.1 old [])) ∙ are.1),
      lead_laid (q ∷ ps) us are.2,
    )

tight_end : (ps : Pieces) (w : List ℕ) → Tight (ps ++ (true, w) ∷ [])
tight_end [] w = refl
tight_end (p ∷ []) w = refl
tight_end (p ∷ q ∷ ps) w = tight_end (q ∷ ps) w

-- the first token of a lead, or the brace
record LeadCut (lead : Pieces) : Type 0 where
  blanks : Pieces
  word : List ℕ
  rest : Pieces
  is : lead ++ (true, 123 ∷ []) ∷ [] ≡ blanks ++ (true, word) ∷ rest
  none : AreBlank blanks

lead_cut : (lead : Pieces) → LeadCut lead
lead_cut [] = record { blanks = []; word = 123 ∷ []; rest = []; is = refl; none = tt }
lead_cut ((true, w) ∷ lead) = record { blanks = []; word = w; rest = lead ++ (true, 123 ∷ []) ∷ []; is = refl; none = tt }
lead_cut ((false, w) ∷ lead) = let k = lead_cut lead in record { blanks = (false, w) ∷ k.blanks; word = k.word; rest = k.rest; is = ap (λ (l : Pieces). (false, w) ∷ l) k.is; none = (refl, k.none) }

-- ScanStructures as it is written
no_nil : (xs : Pieces) (p : Bool × List ℕ) (ys : Pieces) → xs ++ p ∷ ys ≡ [] → ⊥
no_nil [] p ys e = absurd cc
no_nil (x ∷ xs) p ys e = absurd cc

semicolon_empty : (w : List ℕ) (ps : Pieces) → IsOwn ((true, w) ∷ ps) → is_only 59 w ≡ true → ps ≡ []
semicolon_empty w ps own e =
    let word = only_is 59 w e in
    let ends : token_ends 0 w ≡ true = rw word refl in
    let k = len_here 0 (token_of_bytes w 0) (laid (0 + length w) ps) ends in
    let one = own.one in
    let none = no_len (laid (0 + length w) ps) (omega (arith, k, one)) in
    tight_none ps (no_tokens (0 + length w) ps none) (tight_rest (true, w) ps own.tight)

counts_by : (w : List ℕ) (xs : Pieces) (p : Bool × List ℕ) (ys : Pieces) → IsOwn ((true, w) ∷ (xs ++ p ∷ ys)) → is_only 59 w ≡ false
counts_by w xs p ys own = elim (cases_Bool (is_only 59 w)) [
  | inl e ↦ absurd (no_nil xs p ys (semicolon_empty w (xs ++ p ∷ ys) own e))
  | inr e ↦ e
]

-- own tokens behind blanks
own_behind : (blanks own : Pieces) (at : ℕ) → AreBlank blanks → len_in 0 (laid at (blanks ++ own)) ≡ length (laid at (blanks ++ own)) → closed_in false 0 (laid at (blanks ++ own)) ≡ true → Tight own → IsOwn own
own_behind blanks own at none one closed tight =
    let tokens = blank_front at blanks own none in
    own_at own (at + length (bytes_in blanks)) (subst (λ (l : List Token). len_in 0 l ≡ length l) tokens one) (ap (closed_in false 0) (sym tokens) ∙ closed) tight

-- a block by its front
module _ (lead old new : Pieces) (last : List ℕ) (tail : Pieces) (none : AreBlank tail) (no_brace : (at : ℕ) → NoBrace (laid at lead)) where
  abbrev old_tail : Pieces
  old_tail = old ++ (true, last) ∷ tail

  abbrev new_tail : Pieces
  new_tail = new ++ (true, last) ∷ tail

  abbrev old_block : Pieces
  old_block = lead ++ (true, 123 ∷ []) ∷ old_tail

  abbrev new_block : Pieces
  new_block = lead ++ (true, 123 ∷ []) ∷ new_tail

  l : LeadCut lead
  l = lead_cut lead

  abbrev front : Pieces
  front = (true, l.word) ∷ l.rest

  cut_of : (us : Pieces) → lead ++ (true, 123 ∷ []) ∷ us ≡ l.blanks ++ (true, l.word) ∷ (l.rest ++ us)
  cut_of us = sym (append_assoc lead ((true, 123 ∷ []) ∷ []) us) ∙ ap (λ (x : Pieces). x ++ us) l.is ∙ append_assoc l.blanks front us

  module _ (at : ℕ) (one : len_in 0 (laid at old_block) ≡ length (laid at old_block)) (closed : closed_in false 0 (laid at old_block) ≡ true) (tight : Tight old_block) (are : AreLaid [] old_block) where
    abbrev closing : Pieces
    closing = (true, l.word) ∷ (l.rest ++ (true, 125 ∷ []) ∷ [])

    closing_cut : lead ++ (true, 123 ∷ []) ∷ (true, 125 ∷ []) ∷ [] ≡ l.blanks ++ closing
    closing_cut = cut_of ((true, 125 ∷ []) ∷ [])

    closing_own : IsOwn closing
    closing_own = own_behind l.blanks closing at l.none
        (subst (λ (q : Pieces). len_in 0 (laid at q) ≡ length (laid at q)) closing_cut (lead_one lead old_tail at (no_brace at) one))
        (subst (λ (q : Pieces). closed_in false 0 (laid at q) ≡ true) closing_cut (lead_closed lead at false (no_brace at))) (tight_end front (125 ∷ []))

    closing_laid : AreLaid [] closing
    closing_laid = are_behind [] l.blanks closing (subst (AreLaid []) closing_cut (lead_laid lead old_tail are))

    closing_bytes : bytes_in closing ≡ bytes_in front ++ 125 ∷ []
    closing_bytes = bytes_append front ((true, 125 ∷ []) ∷ [])

    -- the front shows the word
    shown : Shows false (begin Start) (bytes_in front)
    shown =
        let f = subst FoundEnd closing_bytes (found_end closing closing_laid closing_own) in
        let len = f.len in
        word_where_opened (bytes_in front) f.end f.is (omega (arith, len, length-append (bytes_in front) (125 ∷ [])))

    shown_on : (b : Bool) (us : Pieces) (z : List ℕ) → word_of false (begin Start) (bytes_in front) ≡ Some b → word_of true (begin Start) ((l.word ++ bytes_in (l.rest ++ us)) ++ z) ≡ Some b
    shown_on b us z e =
        let bytes : (l.word ++ bytes_in (l.rest ++ us)) ++ z ≡ bytes_in front ++ (bytes_in us ++ z) = ap (λ (x : List ℕ). x ++ z) (bytes_append front us) ∙ append_assoc (bytes_in front) (bytes_in us) z in
        ap (word_of true (begin Start)) bytes ∙ word_stays true (begin Start) (bytes_in front) (bytes_in us ++ z) b e

    abbrev old_own : Pieces
    old_own = (true, l.word) ∷ (l.rest ++ old_tail)

    abbrev new_own : Pieces
    new_own = (true, l.word) ∷ (l.rest ++ new_tail)

    tail_none : tail ≡ []
    tail_none = tight_none tail none (tight_rest (true, last) tail (tight_behind old ((true, last) ∷ tail) (tight_behind ((true, 123 ∷ []) ∷ []) old_tail (tight_behind lead ((true, 123 ∷ []) ∷ old_tail) tight))))

    old_is_own : IsOwn old_own
    old_is_own = own_behind l.blanks old_own at l.none (subst (λ (q : Pieces). len_in 0 (laid at q) ≡ length (laid at q)) (cut_of old_tail) one)
        (subst (λ (q : Pieces). closed_in false 0 (laid at q) ≡ true) (cut_of old_tail) closed) (tight_behind l.blanks old_own (subst Tight (cut_of old_tail) tight))

    counts : is_only 59 l.word ≡ false
    counts = counts_by l.word (l.rest ++ old) (true, last) tail (subst (λ (q : Pieces). IsOwn ((true, l.word) ∷ q)) (sym (append_assoc l.rest old ((true, last) ∷ tail))) old_is_own)

    new_tight : Tight new_own
    new_tight =
        let whole : ((true, l.word) ∷ (l.rest ++ new)) ++ (true, last) ∷ [] ≡ new_own = ap (λ (q : Pieces). (true, l.word) ∷ q) (append_assoc l.rest new ((true, last) ∷ [])) ∙ ap (λ (t : Pieces). (true, l.word) ∷ (l.rest ++ (new ++ (true, last) ∷ t))) (sym tail_none) in
        subst Tight whole (tight_end ((true, l.word) ∷ (l.rest ++ new)) last)

    module _ (to : ℕ) (new_one : len_in 0 (laid to new_block) ≡ length (laid to new_block)) (new_closed : closed_in false 0 (laid to new_block) ≡ true) (new_are : AreLaid [] new_block) (r : List ℕ) (k : ℕ)
        (was : head_end true Outside 0 (bytes_in old_block ++ r) ≡ Some (length (bytes_in old_block) + k)) where
      new_is_own : IsOwn new_own
      new_is_own = own_behind l.blanks new_own to l.none (subst (λ (q : Pieces). len_in 0 (laid to q) ≡ length (laid to q)) (cut_of new_tail) new_one)
          (subst (λ (q : Pieces). closed_in false 0 (laid to q) ≡ true) (cut_of new_tail) new_closed) new_tight

      old_cut_laid : AreLaid [] (l.blanks ++ old_own)
      old_cut_laid = subst (AreLaid []) (cut_of old_tail) are

      new_cut_laid : AreLaid [] (l.blanks ++ new_own)
      new_cut_laid = subst (AreLaid []) (cut_of new_tail) new_are

      old_blanks : Passes Outside (bytes_in l.blanks) Outside
      old_blanks = blank_first l.blanks l.word (l.rest ++ old_tail) [] l.none old_cut_laid

      left : head_end true Outside 0 (bytes_in old_own ++ r) ≡ Some (length (bytes_in old_own) + k)
      left =
          let bytes : bytes_in old_block ≡ bytes_in l.blanks ++ bytes_in old_own = ap bytes_in (cut_of old_tail) ∙ bytes_append l.blanks old_own in
          left_over Outside Outside (bytes_in l.blanks) (bytes_in old_own) r k old_blanks (subst (λ (x : List ℕ). head_end true Outside 0 (x ++ r) ≡ Some (length x + k)) bytes was)

      new_passes_by : (b : Bool) → word_of false (begin Start) (bytes_in front) ≡ Some b → Passes Outside (bytes_in new_own) Outside
      new_passes_by true e = absurd (pattern_no l.word (l.rest ++ old_tail) (are_behind [] l.blanks old_own old_cut_laid) old_is_own counts r k left (shown_on true old_tail r e))
      new_passes_by false e = own_passes l.word (l.rest ++ new_tail) (are_behind [] l.blanks new_own new_cut_laid) new_is_own counts (λ z. shown_on false new_tail z e)

      block_passes : Passes Outside (bytes_in new_block) Outside
      block_passes =
          let bytes : bytes_in new_block ≡ bytes_in l.blanks ++ bytes_in new_own = ap bytes_in (cut_of new_tail) ∙ bytes_append l.blanks new_own in
          subst (λ (x : List ℕ). Passes Outside x Outside) (sym bytes)
          (passes_both Outside Outside Outside (bytes_in l.blanks) (bytes_in new_own) (blank_first l.blanks l.word (l.rest ++ new_tail) [] l.none new_cut_laid) (new_passes_by shown.word shown.is))

structures_pass : (qs ns : Pieces) (r : List ℕ) (k : ℕ) → IsPart qs → BlockKept qs ns → ((to : ℕ) → (len_in 0 (laid to ns) ≡ length (laid to ns)) × (is_closed (laid to ns) ≡ true)) → AreLaid [] qs → AreLaid [] ns
    → head_end true Outside 0 (bytes_in qs ++ r) ≡ Some (length (bytes_in qs) + k) → Passes Outside (bytes_in ns) Outside
structures_pass qs ns r k part b fresh are new_are was =
    let f = subst (λ (q : Pieces). (len_in 0 (laid 0 q) ≡ length (laid 0 q)) × (is_closed (laid 0 q) ≡ true)) b.new_is (fresh 0) in
    subst (λ (q : Pieces). Passes Outside (bytes_in q) Outside) (sym b.new_is)
    (block_passes b.lead b.old b.new b.last b.tail b.none b.no_brace part.at (subst (λ (q : Pieces). len_in 0 (laid part.at q) ≡ length (laid part.at q)) b.old_is part.one)
    (subst (λ (q : Pieces). closed_in false 0 (laid part.at q) ≡ true) b.old_is part.closed) (subst Tight b.old_is part.tight) (subst (AreLaid []) b.old_is are) 0 f.0 f.1 (subst (AreLaid []) b.new_is new_are) r k
    (subst (λ (q : Pieces). head_end true Outside 0 (bytes_in q ++ r) ≡ Some (length (bytes_in q) + k)) b.old_is was))

by_kept : (qs ns : Pieces) (r : List ℕ) (k : ℕ) → IsPart qs → (ns ≡ qs) ⊎ BlockKept qs ns → ((to : ℕ) → (len_in 0 (laid to ns) ≡ length (laid to ns)) × (is_closed (laid to ns) ≡ true)) → AreLaid [] qs → AreLaid [] ns
    → head_end true Outside 0 (bytes_in qs ++ r) ≡ Some (length (bytes_in qs) + k) → Passes Outside (bytes_in qs) Outside → Passes Outside (bytes_in ns) Outside
by_kept qs ns r k part kept fresh are new_are was old = elim kept [
  | inl e ↦ subst (λ (q : Pieces). Passes Outside (bytes_in q) Outside) (sym e) old
  | inr b ↦ structures_pass qs ns r k part b fresh are new_are was
]

-- all of a written head
pub top_pass : (front : List Pieces) (structures : Pieces) (behind : List Pieces) (ps : Pieces) (m : List Mix) (r : List ℕ) → TopParts front structures behind ps m → AreLaid [] ps → AreLaid [] (new_pieces m)
    → head_end true Outside 0 (bytes_in ps ++ r) ≡ Some (length (bytes_in ps) + 0) → AllPassed (bytes_in (new_pieces m)) r
top_pass [] qs behind ps m r k are new_are old =
    let rest = k.rest in
    let both = subst (AreLaid []) k.cut are in
    let bytes : bytes_in ps ≡ bytes_in qs ++ bytes_in rest = ap bytes_in k.cut ∙ bytes_append qs rest in
    let here : head_end true Outside 0 ((bytes_in qs ++ bytes_in rest) ++ r) ≡ Some (length (bytes_in qs ++ bytes_in rest) + 0) = subst (λ (l : List ℕ). head_end true Outside 0 (l ++ r) ≡ Some (length l + 0)) bytes old in
    let size : length (bytes_in qs ++ bytes_in rest) + 0 ≡ length (bytes_in qs) + length (bytes_in rest) = omega (arith, length-append (bytes_in qs) (bytes_in rest)) in
    let first : head_end true Outside 0 (bytes_in qs ++ (bytes_in rest ++ r)) ≡ Some (length (bytes_in qs) + length (bytes_in rest)) = ap (head_end true Outside 0) (sym (append_assoc (bytes_in qs) (bytes_in rest) r)) ∙ here ∙ ap (λ (k : ℕ). Some k) size in
    let a = part_passes qs (bytes_in rest ++ []) (bytes_in rest ++ r) (length (bytes_in rest)) k.part (are_front [] qs rest both) first in
    let left = left_over Outside Outside (bytes_in qs) (bytes_in rest) r 0 a here in
    let more = kept_pass behind rest k.left r k.more (are_behind [] qs rest both) left in
    let e = more.1 in
    let ns = new_pieces k.own in
    let whole : new_pieces m ≡ ns ++ rest = ap new_pieces k.is ∙ new_mixes k.own k.left ∙ ap (λ (l : Pieces). ns ++ l) more.0 in
    let new_both = subst (AreLaid []) whole new_are in
    let b = by_kept qs ns (bytes_in rest ++ r) (length (bytes_in rest)) k.part k.kept k.new (laid_alone qs (bytes_in rest ++ []) (are_front [] qs rest both)) (laid_alone ns (bytes_in rest ++ []) (are_front [] ns rest new_both)) first a in
    let new_bytes : bytes_in (new_pieces m) ≡ bytes_in ns ++ bytes_in rest = ap bytes_in whole ∙ bytes_append ns rest in
    record { comment = e.comment; passes = subst (λ (l : List ℕ). Passes Outside l e.comment) (sym new_bytes) (passes_both Outside Outside e.comment (bytes_in ns) (bytes_in rest) b e.passes); stands = e.stands; last = e.last }
top_pass (qs ∷ front) structures behind ps m r k are new_are old =
    let rest = k.rest in
    let both = subst (AreLaid []) k.cut are in
    let bytes : bytes_in ps ≡ bytes_in qs ++ bytes_in rest = ap bytes_in k.cut ∙ bytes_append qs rest in
    let here : head_end true Outside 0 ((bytes_in qs ++ bytes_in rest) ++ r) ≡ Some (length (bytes_in qs ++ bytes_in rest) + 0) = subst (λ (l : List ℕ). head_end true Outside 0 (l ++ r) ≡ Some (length l + 0)) bytes old in
    let size : length (bytes_in qs ++ bytes_in rest) + 0 ≡ length (bytes_in qs) + length (bytes_in rest) = omega (arith, length-append (bytes_in qs) (bytes_in rest)) in
    let first : head_end true Outside 0 (bytes_in qs ++ (bytes_in rest ++ r)) ≡ Some (length (bytes_in qs) + length (bytes_in rest)) = ap (head_end true Outside 0) (sym (append_assoc (bytes_in qs) (bytes_in rest) r)) ∙ here ∙ ap (λ (k : ℕ). Some k) size in
    let a = part_passes qs (bytes_in rest ++ []) (bytes_in rest ++ r) (length (bytes_in rest)) k.part (are_front [] qs rest both) first in
    let left = left_over Outside Outside (bytes_in qs) (bytes_in rest) r 0 a here in
    let whole : new_pieces m ≡ qs ++ new_pieces k.left = ap new_pieces k.is ∙ new_mixes (stays qs) k.left ∙ ap (λ (l : Pieces). l ++ new_pieces k.left) (new_stays qs) in
    let new_both = subst (AreLaid []) whole new_are in
    let e = top_pass front structures behind rest k.left r k.more (are_behind [] qs rest both) (are_behind [] qs (new_pieces k.left) new_both) left in
    let new_bytes : bytes_in (new_pieces m) ≡ bytes_in qs ++ bytes_in (new_pieces k.left) = ap bytes_in whole ∙ bytes_append qs (new_pieces k.left) in
    record { comment = e.comment; passes = subst (λ (l : List ℕ). Passes Outside l e.comment) (sym new_bytes) (passes_both Outside Outside e.comment (bytes_in qs) (bytes_in (new_pieces k.left)) a e.passes); stands = e.stands; last = e.last }
