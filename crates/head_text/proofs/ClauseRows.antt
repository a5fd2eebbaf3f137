-- The statements of a ScanChain as they are written.
use Rattle.std.specs.Prelude.{⊤}
use Rattle.std.proofs.Common.{◌≡◌, ℕ, zero, suc, ◌+◌, ◌-◌, ◌^◌, ◌<◌, ◌≤◌, Bool, true, false, cond, eqb, ◌&&◌, ◌||◌, not, inl, inr, List, [], ◌∷◌, ◌++◌, length, take, drop, map, codes, decimal, is_some, Option, Some, None, refl, sym, ap, ◌∙◌, subst, arith, append_assoc, length-append}
use Rattle.std.specs.Prelude.{nat_le}
use Rattle.std.specs.List.{list_all, AllByRecursion as Each}
use Rattle.std.specs.Str.{bytes_eq}
use Rattle.std.proofs.lemmas.Bool.{cases_Bool, true≢false, and_parts}
use Rattle.std.proofs.lemmas.Bool.Decides.{nat_tests}
use Rattle.std.proofs.lemmas.List.{append-nil}
use Rattle.std.proofs.lemmas.Slice.Eq.{bytes_eq-Decides}
use Rattle.base_types.specs.declared.span.Span.{Span}
use Rattle.token_forms.specs.declared.piece.Piece.TheVariants.{Token as token}
use Rattle.token_forms.specs.Classes.{is_among}
use Rattle.token_forms.specs.Parsing.{◌>>=◌}
use Rattle.token_forms.specs.Tokens.{Token}
use Rattle.splice.specs.declared.Edit.{Edit}
use Rattle.stil_tokens.specs.StilSplit.{goes_on}
use Rattle.stil_tokens.specs.StilTokens.{is_run, piece_at}
use Rattle.stil_tokens.specs.StilStatements.{is_only, is_note, is_closed, len_in}
use Rattle.stil_types.specs.declared.head.ScanChainDecl.{ScanChainDecl}
use Rattle.stil_syntax.specs.Digits.{is_digit, count_from}
use Rattle.stil_syntax.specs.Names.{is_word, is_string, inner, string_at, name_at}
use Rattle.stil_syntax.specs.Shapes.{behind_labels}
use Rattle.stil_blocks.specs.declared.cells.Cell.{Cell}
use Rattle.stil_blocks.specs.declared.cells.Cell.TheVariants as cell
use Rattle.stil_blocks.specs.declared.cells.CellList.{CellList}
use Rattle.stil_blocks.specs.declared.clause.Clause.{Clause}
use Rattle.stil_blocks.specs.declared.clause.Clause.TheVariants.{Length, In, Out, Inversion, Cells, OutLength, Passed, NoForm}
use Rattle.stil_blocks.specs.Statements.{span_of, start_of, is_whole, begins_word, is_end}
use Rattle.stil_blocks.specs.Chains.{length_of, length_at, bit_of, inversion_at, cell_by, cell_at, put_cell, no_cells, cells_within, cells_at, cells_span, clause_by, word_clause, unlabelled_clause, clause_of}
use Rattle.head_alike.specs.Steps.{Step, olds, AreSteps, AreFree, starts_behind, changed_words}
use Rattle.head_alike.specs.Chains.{IsTurned, IsTurnedRow, IsOtherClause, IsNewCells}
use Rattle.head_alike.proofs.Words.{only_is, word_free, string_free}
use Rattle.head_alike.proofs.Heads.{wider}
use Rattle.head_alike.proofs.Names.{name_word, name_string, name_none}
use Rattle.head_alike.proofs.Clauses.{WordIs, IsLength, IsInversion, IsCells, IsOther, IsBad, word_cases, as_cells, stays_law, length_law, inversion_law}
use Rattle.head_text.specs.Mixes.{bytes_in, piece_for, AreLaid, laid, token_of_bytes, AreFreePieces, IsReady}
use Rattle.head_text.specs.Ready.{AreBlank, IsNumber}
use Rattle.head_text.specs.Written.{NewBit, NewChain, bit_text, cells_text, edit_at, name_read}
use Rattle.head_text.proofs.Mixes.{bytes_append, laid_append, are_behind, some_laid}
use Rattle.head_text.proofs.Ready.{number_law, goes_same, IsByte, digit_is}
use Rattle.head_text.proofs.Cutting.{Pieces, no_tokens, blank_laid, PieceCut, piece_cut, OnePiece, one_piece}
use Rattle.head_text.proofs.Patches.{patch_edits}
use Rattle.head_text.proofs.Makes.{Row, stays_row}
use Rattle.head_text.proofs.Numbers.{decimal_number, length_back, bit_number, bit_back}
use Rattle.head_text.proofs.Said.{blank_front, said_pieces, Turns, behind_word_is, said_row, WordCut, word_cut}
use Rattle.head_text.proofs.Singles.{are_front, word_stops}
use Rattle.head_text.proofs.NewCells.{Shapes, bits_text, cell_pieces, cell_bytes, cells_stop, cells_stand, cells_free, new_cells}

-- the edits of what a statement says
abbrev pub clause_edits : Bool → NewChain → Clause → List Edit
clause_edits marks new (Length n at) = edit_at at (decimal (length new.bits)) ∷ []
clause_edits marks new (Inversion bit at) = edit_at at (bit_text new.inversion) ∷ []
clause_edits marks new (Cells list at) = edit_at at (cells_text marks new) ∷ []
clause_edits marks new (In port) = []
clause_edits marks new (Out port) = []
clause_edits marks new OutLength = []
clause_edits marks new Passed = []
clause_edits marks new NoForm = []

edit_same : (s e s' e' : ℕ) (t t' : List ℕ) → s ≡ s' → e ≡ e' → t ≡ t' → edit_at (record { start = s; end = e }) t ∷ [] ≡ edit_at (record { start = s'; end = e' }) t' ∷ []
edit_same s e s' e' t t' p q r =
    ap (λ (n : ℕ). edit_at (record { start = n; end = e }) t ∷ []) p ∙ ap (λ (n : ℕ). edit_at (record { start = s'; end = n }) t ∷ []) q ∙ ap (λ (l : List ℕ). edit_at (record { start = s'; end = e' }) l ∷ []) r

-- a number and a ; among pieces
record NumberCut (at : ℕ) (ps : Pieces) (x : Token) : Type 0 where
  front : Pieces
  word : List ℕ
  behind : Pieces
  tail : Pieces
  is : ps ≡ (front ++ ((true, word) ∷ [] ++ behind)) ++ (true, 59 ∷ []) ∷ tail
  front_none : AreBlank front
  behind_none : AreBlank behind
  tail_none : AreBlank tail
  token : x ≡ token_of_bytes word (at + length (bytes_in front))

number_cut : (at : ℕ) (ps : Pieces) (x c : Token) → laid at ps ≡ x ∷ c ∷ [] → c.text ≡ 59 ∷ [] → NumberCut at ps x
number_cut at ps x c e semicolon =
    let a = one_piece at ps x (c ∷ []) e in
    let b = one_piece (at + length (bytes_in a.blanks) + length a.word) a.rest c [] a.rest_is in
    let end : b.word ≡ 59 ∷ [] = sym (ap (λ (t : Token). t.text) b.token) ∙ semicolon in
    record {
      front = a.blanks;
      word = a.word;
      behind = b.blanks;
      tail = b.rest;
      is = a.is ∙ ap (λ (l : Pieces). a.blanks ++ (true, a.word) ∷ l) (b.is ∙ ap (λ (w : List ℕ). b.blanks ++ (true, w) ∷ b.rest) end) ∙ sym (append_assoc a.blanks ((true, a.word) ∷ b.blanks) ((true, 59 ∷ []) ∷ b.rest));
      front_none = a.none;
      behind_none = b.none;
      tail_none = no_tokens _ b.rest b.rest_is;
      token = a.token;
    }

-- digits begin no statement
digits_free : (x : List ℕ) → IsNumber x → starts_behind x ≡ false
digits_free [] n = absurd (let k = n.some in omega arith)
digits_free (b ∷ bs) n =
    let d : (nat_le 48 b && nat_le b 57) ≡ true = (and_parts (is_digit b) (list_all is_digit bs) n.digits).0 in
    let r = and_parts (nat_le 48 b) (nat_le b 57) d in
    let low = r.0 in
    let high = r.1 in
    let a : eqb b 123 ≡ false = grind (arith, nat_tests) in
    let c : eqb b 125 ≡ false = grind (arith, nat_tests) in
    let e : eqb b 59 ≡ false = grind (arith, nat_tests) in
    let f : eqb b 58 ≡ false = grind (arith, nat_tests) in
    by bs a c e f
  where
    by : (bs : List ℕ) → eqb b 123 ≡ false → eqb b 125 ≡ false → eqb b 59 ≡ false → eqb b 58 ≡ false → starts_behind (b ∷ bs) ≡ false
    by [] a c e f = rw (a, c, e, f) refl
    by (d ∷ ds) a c e f = rw a refl

blank_free : (ps : Pieces) → AreBlank ps → AreFreePieces ps
blank_free [] none = tt
blank_free (p ∷ ps) none = (λ e. absurd (true≢false (sym e ∙ none.0)), blank_free ps none.1)

free_both : (ps qs : Pieces) → AreFreePieces ps → AreFreePieces qs → AreFreePieces (ps ++ qs)
free_both [] qs f g = g
free_both (p ∷ ps) qs f g = (f.0, free_both ps qs f.1 g)

number_free : (front behind : Pieces) (x : List ℕ) → AreBlank front → AreBlank behind → IsNumber x → AreFreePieces (front ++ ((true, x) ∷ [] ++ behind))
number_free front behind x f g n = free_both front ((true, x) ∷ behind) (blank_free front f) (λ e. digits_free x n, blank_free behind g)

-- what follows the word isn't a run: else the number would be of the word
digit_goes : (x r : List ℕ) → IsNumber x → goes_on (x ++ r) ≡ true
digit_goes [] r n = absurd (let k = n.some in omega arith)
digit_goes (b ∷ bs) r n = (digit_is b (and_parts (is_digit b) (list_all is_digit bs) n.digits).0).run

number_stops : (front behind : Pieces) (x y r s : List ℕ) → IsNumber x → AreBlank front → AreLaid r (front ++ ((true, x) ∷ [] ++ behind)) → goes_on (bytes_in (front ++ ((true, x) ∷ [] ++ behind)) ++ r) ≡ false
    → goes_on (bytes_in (front ++ ((true, y) ∷ [] ++ behind)) ++ s) ≡ false
number_stops [] behind x y r s n none are e = absurd (true≢false (sym (ap goes_on (append_assoc x (bytes_in behind) r) ∙ digit_goes x (bytes_in behind ++ r) n) ∙ e))
number_stops (p ∷ front) behind x y r s n none are e =
    let old = bytes_in (front ++ ((true, x) ∷ [] ++ behind)) in
    let new = bytes_in (front ++ ((true, y) ∷ [] ++ behind)) in
    ap goes_on (append_assoc p.1 new s) ∙ goes_same p.1 (new ++ s) (old ++ r) are.0 ∙ ap goes_on (sym (append_assoc p.1 old r)) ∙ e

number_laid : (at : ℕ) (front behind : Pieces) (x : List ℕ) → AreBlank front → AreBlank behind → laid at (front ++ ((true, x) ∷ [] ++ behind)) ≡ token_of_bytes x (at + length (bytes_in front)) ∷ []
number_laid at front behind x f g = blank_front at front ((true, x) ∷ behind) f ∙ ap (λ (l : List Token). token_of_bytes x (at + length (bytes_in front)) ∷ l) (blank_laid (at + length (bytes_in front) + length x) behind g)

-- what stands behind the word, read and written
abbrev NumberTurns : ScanChainDecl → List ℕ → List ℕ → List ℕ → Type 0
NumberTurns new word old y = (t u x z c d : Token) → t.text ≡ word → u.text ≡ word → x.text ≡ old → z.text ≡ y → c.text ≡ 59 ∷ [] → d.text ≡ 59 ∷ [] → IsTurned new (word_clause t (x ∷ c ∷ [])) (word_clause u (z ∷ d ∷ []))

-- a number and a ; by their tokens
record NumberAt {A : Type 0} (of : List ℕ → Option A) (ts : List Token) (v : A × Span) : Type 0 where
  number : Token
  last : Token
  two : ts ≡ number ∷ last ∷ []
  semicolon : last.text ≡ 59 ∷ []
  value : of number.text ≡ Some v.0
  place : v.1 ≡ span_of number

end_one : (ts : List Token) → is_end ts ≡ true → (c : Token) × (ts ≡ c ∷ []) × (c.text ≡ 59 ∷ [])
end_one [] e = absurd cc
end_one (c ∷ []) e = (c, refl, only_is 59 c.text e)
end_one (c ∷ u ∷ ts) e = absurd cc

module _ {A : Type 0} (of : List ℕ → Option A) (t : Token) (ts : List Token) (v : A × Span) where
  number_by : (c : Token) → ts ≡ c ∷ [] → c.text ≡ 59 ∷ [] → (o : Option A) → of t.text ≡ o → (o >>= λ n. Some (n, span_of t)) ≡ Some v → NumberAt of (t ∷ ts) v
  number_by c one semicolon None e f = absurd cc
  number_by c one semicolon (Some a) e f =
      let k : (a, span_of t) ≡ v = (let r = f in cc) in
      record { number = t; last = c; two = ap (λ (l : List Token). t ∷ l) one; semicolon = semicolon; value = e ∙ ap (λ (p : A × Span). Some p.0) k; place = sym (ap (λ (p : A × Span). p.1) k) }

  number_here : (b : Bool) → is_end ts ≡ b → cond b (of t.text >>= λ n. Some (n, span_of t)) None ≡ Some v → NumberAt of (t ∷ ts) v
  number_here true e f = let c = end_one ts e in number_by c.0 c.1 c.2 (of t.text) refl f
  number_here false e f = absurd cc

length_here : (ts : List Token) (v : ℕ × Span) → length_at ts ≡ Some v → NumberAt length_of ts v
length_here [] v e = absurd cc
length_here (t ∷ ts) v e = number_here length_of t ts v (is_end ts) refl e

inversion_here : (ts : List Token) (v : Bool × Span) → inversion_at ts ≡ Some v → NumberAt bit_of ts v
inversion_here [] v e = absurd cc
inversion_here (t ∷ ts) v e = number_here bit_of t ts v (is_end ts) refl e

left_of : (a b : Bool) (x : Option ℕ) (n : ℕ) → cond (a && b) x None ≡ Some n → a ≡ true
left_of true b x n e = refl
left_of false b x n e = absurd cc

length_number : (text : List ℕ) (n : ℕ) → length_of text ≡ Some n → IsNumber text
length_number [] n e = absurd cc
length_number (b ∷ bs) n e = record { some = omega arith; digits = left_of (list_all is_digit (b ∷ bs)) (nat_le 1 (count_from 0 (b ∷ bs))) _ n e }

bit_is_number : (text : List ℕ) (bit : Bool) → bit_of text ≡ Some bit → IsNumber text
bit_is_number text bit e = elim (cases_Bool (bytes_eq text (codes "0"))) [
  | inl k ↦ subst IsNumber (sym ((bytes_eq-Decides text (codes "0")).0 k)) (bit_number false)
  | inr k ↦ elim (cases_Bool (bytes_eq text (codes "1"))) [
    | inl l ↦ subst IsNumber (sym ((bytes_eq-Decides text (codes "1")).0 l)) (bit_number true)
    | inr l ↦ absurd (let h : None ≡ Some bit = sym (ap (λ (b : Bool). cond b (Some false) (cond (bytes_eq text (codes "1")) (Some true) None)) k ∙ ap (λ (b : Bool). cond b (Some true) None) l) ∙ e in cc)
  ]
]

-- cells and a ; by their tokens
pub record CellsCut (ts : List Token) (v : CellList × ℕ) : Type 0 where
  pub cells : List Token
  pub last : Token
  pub is : ts ≡ cells ++ last ∷ []
  pub free : AreFree cells
  pub semicolon : last.text ≡ 59 ∷ []
  pub place : v.1 ≡ last.start

record FreeFront (ts rest : List Token) : Type 0 where
  front : List Token
  is : ts ≡ front ++ rest
  free : AreFree front

string_cut : (t : Token) (ts : List Token) → is_string t.text ≡ true → FreeFront (t ∷ ts) (string_at t ts).1
string_cut t [] e = record { front = t ∷ []; is = refl; free = (string_free t.text e, tt) }
string_cut t (u ∷ us) e = by (is_word u.text) (eqb u.start t.end) refl
  where
    by : (a b : Bool) → is_word u.text ≡ a → FreeFront (t ∷ u ∷ us) (cond {A = List ℕ × List Token} (a && b) (inner t.text ++ u.text, us) (inner t.text, u ∷ us)).1
    by true true f = record { front = t ∷ u ∷ []; is = refl; free = (string_free t.text e, (word_free u.text f, tt)) }
    by true false f = record { front = t ∷ []; is = refl; free = (string_free t.text e, tt) }
    by false b f = record { front = t ∷ []; is = refl; free = (string_free t.text e, tt) }

name_cut : (t : Token) (ts : List Token) (n : List ℕ × List Token) → name_at (t ∷ ts) ≡ Some n → FreeFront (t ∷ ts) n.1
name_cut t ts n e = by (is_word t.text) (is_string t.text) refl refl
  where
    by : (a b : Bool) → is_word t.text ≡ a → is_string t.text ≡ b → FreeFront (t ∷ ts) n.1
    by true b f g = (let k : (t.text, ts) ≡ n = (let r = sym (name_word t ts f) ∙ e in cc) in
        subst (λ (p : List ℕ × List Token). FreeFront (t ∷ ts) p.1) k (record { front = t ∷ []; is = refl; free = (word_free t.text f, tt) }))
    by false true f g = (let k : string_at t ts ≡ n = (let r = sym (name_string t ts f g) ∙ e in cc) in subst (λ (p : List ℕ × List Token). FreeFront (t ∷ ts) p.1) k (string_cut t ts g))
    by false false f g = absurd (let r = sym (name_none t ts f g) ∙ e in cc)

cell_cut : (ts : List Token) (c : Cell × List Token) → cell_at ts ≡ Some c → FreeFront ts c.1
unfolding cell_at name_at
cell_cut [] c e = absurd cc
cell_cut (t ∷ ts) c e = by (bytes_eq t.text (codes "!")) refl e
  where
    mark : bytes_eq t.text (codes "!") ≡ true → FreeFront (t ∷ ts) ts
    mark f = record { front = t ∷ []; is = refl; free = (ap starts_behind ((bytes_eq-Decides t.text (codes "!")).0 f), tt) }

    of_name : (o : Option (List ℕ × List Token)) → name_at (t ∷ ts) ≡ o → cell_by o ≡ Some c → FreeFront (t ∷ ts) c.1
    of_name None f g = absurd cc
    of_name (Some n) f g = (let k : (cell.Named n.0, n.1) ≡ c = (let r = g in cc) in subst (λ (p : Cell × List Token). FreeFront (t ∷ ts) p.1) k (name_cut t ts n f))

    by : (b : Bool) → bytes_eq t.text (codes "!") ≡ b → cond b (Some (cell.Mark, ts)) (cell_by (name_at (t ∷ ts))) ≡ Some c → FreeFront (t ∷ ts) c.1
    by true f g = (let k : (cell.Mark, ts) ≡ c = (let r = g in cc) in subst (λ (p : Cell × List Token). FreeFront (t ∷ ts) p.1) k (mark f))
    by false f g = of_name (name_at (t ∷ ts)) refl g

free_append : (xs ys : List Token) → AreFree xs → AreFree ys → AreFree (xs ++ ys)
free_append [] ys f g = g
free_append (x ∷ xs) ys f g = (f.0, free_append xs ys f.1 g)

pub cells_cut : (n : ℕ) (list : CellList) (ts : List Token) (v : CellList × ℕ) → cells_within n list ts ≡ Some v → CellsCut ts v
unfolding cells_within
cells_cut zero list ts v e = absurd cc
cells_cut (suc n) list ts v e = by (λ l us g. cells_cut n l us v g) (is_end ts) refl e
  where
    ends : is_end ts ≡ true → (list, start_of ts) ≡ v → CellsCut ts v
    ends f k = (let c = end_one ts f in record { cells = []; last = c.0; is = c.1; free = tt; semicolon = c.2; place = sym (ap (λ (p : CellList × ℕ). p.1) k) ∙ ap start_of c.1 })

    goes : ((l : CellList) (us : List Token) → cells_within n l us ≡ Some v → CellsCut us v) → (o : Option (Cell × List Token)) → cell_at ts ≡ o → elim o [ None ↦ None | Some c ↦ cells_within n (put_cell list c.0) c.1 ] ≡ Some v → CellsCut ts v
    goes more None f g = absurd cc
    goes more (Some c) f g =
        let front = cell_cut ts c f in
        let k = more (put_cell list c.0) c.1 g in
        record {
          cells = front.front ++ k.cells;
          last = k.last;
          is = front.is ∙ ap (λ (l : List Token). front.front ++ l) k.is ∙ sym (append_assoc front.front k.cells (k.last ∷ []));
          free = free_append front.front k.cells front.free k.free;
          semicolon = k.semicolon;
          place = k.place;
        }

    by : ((l : CellList) (us : List Token) → cells_within n l us ≡ Some v → CellsCut us v) → (b : Bool) → is_end ts ≡ b → cond b (Some (list, start_of ts)) (elim (cell_at ts) [ None ↦ None | Some c ↦ cells_within n (put_cell list c.0) c.1 ]) ≡ Some v → CellsCut ts v
    by more true f g = ends f (let r = g in cc)
    by more false f g = goes more (cell_at ts) refl g

free_pieces : (at : ℕ) (ps : Pieces) → AreFree (laid at ps) → AreFreePieces ps
free_pieces at [] free = tt
free_pieces at ((true, w) ∷ ps) free = (λ e. free.0, free_pieces (at + length w) ps free.1)
free_pieces at ((false, w) ∷ ps) free = (λ e. absurd cc, free_pieces (at + length w) ps free)

module _ (new : ScanChainDecl) (at : ℕ) (z : List ℕ) (qs : Pieces) (are : AreLaid z qs) (one : len_in 0 (laid at qs) ≡ length (laid at qs)) (closed : is_closed (laid at qs) ≡ true) where
  -- a number behind the word
  number_row : (t x c : Token) (ts : List Token) (y : List ℕ) → behind_labels (laid at qs) ≡ t ∷ ts → is_among changed_words t.text ≡ true → ts ≡ x ∷ c ∷ [] → c.text ≡ 59 ∷ [] → IsNumber x.text → IsNumber y
      → NumberTurns new t.text x.text y → Row (IsTurnedRow new) at qs (edit_at (span_of x) y ∷ [])
  number_row t x c ts y behind which two semicolon number other turns =
      let w = word_cut at qs t ts behind in
      let place = at + length (bytes_in w.lead) in
      let n = number_cut (place + length w.word) w.rest x c (w.rest_is ∙ two) semicolon in
      let text : w.word ≡ t.text = sym (ap (λ (t : Token). t.text) w.token) in
      let own : x.text ≡ n.word = ap (λ (t : Token). t.text) n.token in
      let old_number : IsNumber n.word = subst IsNumber own number in
      let old_number_run = n.front ++ ((true, n.word) ∷ [] ++ n.behind) in
      let whole : qs ≡ said_pieces at w.lead w.word n.front ((true, n.word) ∷ []) ((true, y) ∷ []) n.behind n.tail = w.is ∙ ap (λ (l : Pieces). w.lead ++ (true, w.word) ∷ l) n.is in
      let laid_whole = subst (AreLaid z) whole are in
      let from_word = are_behind z w.lead ((true, w.word) ∷ (old_number_run ++ (true, 59 ∷ []) ∷ n.tail)) laid_whole in
      let run_laid : AreLaid (59 ∷ (bytes_in n.tail ++ z)) old_number_run = are_front z old_number_run ((true, 59 ∷ []) ∷ n.tail) from_word.2 in
      let which_word : is_among changed_words w.word ≡ true = ap (is_among changed_words) text ∙ which in
      let stops = word_stops w.word (bytes_in (old_number_run ++ (true, 59 ∷ []) ∷ n.tail) ++ z) which_word from_word.1 in
      let cut : bytes_in (old_number_run ++ (true, 59 ∷ []) ∷ n.tail) ++ z ≡ bytes_in old_number_run ++ 59 ∷ (bytes_in n.tail ++ z) =
      ap (λ (l : List ℕ). l ++ z) (bytes_append old_number_run ((true, 59 ∷ []) ∷ n.tail)) ∙ append_assoc (bytes_in old_number_run) (59 ∷ bytes_in n.tail) z in
      let ready : IsReady w.word old_number_run (n.front ++ ((true, y) ∷ [] ++ n.behind)) = record {
        which = which_word;
        old_free = number_free n.front n.behind n.word n.front_none n.behind_none old_number;
        new_free = number_free n.front n.behind y n.front_none n.behind_none other;
        stops = number_stops n.front n.behind n.word y (59 ∷ (bytes_in n.tail ++ z)) (59 ∷ []) old_number n.front_none run_laid (sym (ap goes_on cut) ∙ stops);
        stands = λ v. number_law n.front n.behind n.word y (bytes_in n.tail ++ z) v n.front_none n.behind_none old_number other run_laid;
      } in
      let turned : Turns at w.lead w.word n.front ((true, n.word) ∷ []) ((true, y) ∷ []) n.behind n.tail w.after_is ready new
      = λ to. subst (λ (l : List Token). IsTurned new (word_clause (token_of_bytes w.word place) (l ++ token_of_bytes (59 ∷ []) (place + length w.word + length (bytes_in old_number_run)) ∷ []))
      (word_clause (token_of_bytes w.word to) (laid (to + length w.word) (n.front ++ ((true, y) ∷ [] ++ n.behind)) ++ token_of_bytes (59 ∷ []) (to + length w.word + length (bytes_in (n.front ++ ((true, y) ∷ [] ++ n.behind)))) ∷ [])))
      (sym (number_laid (place + length w.word) n.front n.behind n.word n.front_none n.behind_none))
      (subst (λ (l : List Token). IsTurned new (word_clause (token_of_bytes w.word place) (token_of_bytes n.word (place + length w.word + length (bytes_in n.front)) ∷ token_of_bytes (59 ∷ []) (place + length w.word + length (bytes_in old_number_run)) ∷ []))
      (word_clause (token_of_bytes w.word to) (l ++ token_of_bytes (59 ∷ []) (to + length w.word + length (bytes_in (n.front ++ ((true, y) ∷ [] ++ n.behind)))) ∷ [])))
      (sym (number_laid (to + length w.word) n.front n.behind y n.front_none n.behind_none))
      (turns (token_of_bytes w.word place) (token_of_bytes w.word to) (token_of_bytes n.word (place + length w.word + length (bytes_in n.front))) (token_of_bytes y (to + length w.word + length (bytes_in n.front)))
      (token_of_bytes (59 ∷ []) (place + length w.word + length (bytes_in old_number_run))) (token_of_bytes (59 ∷ []) (to + length w.word + length (bytes_in (n.front ++ ((true, y) ∷ [] ++ n.behind))))) text text (sym own) refl refl refl)) in
      let row = said_row at w.lead w.word n.front ((true, n.word) ∷ []) ((true, y) ∷ []) n.behind n.tail w.after_is ready n.tail_none new (some_laid z _ laid_whole)
      (subst (λ (q : Pieces). len_in 0 (laid at q) ≡ length (laid at q)) whole one) (subst (λ (q : Pieces). is_closed (laid at q) ≡ true) whole closed)
      (subst (λ (q : Pieces). behind_labels (laid at q) ≡ token_of_bytes w.word place ∷ laid (place + length w.word) (old_number_run ++ (true, 59 ∷ []) ∷ n.tail)) whole
      (behind ∙ ap (λ (k : Token). k ∷ ts) w.token ∙ ap (λ (l : List Token). token_of_bytes w.word place ∷ l) (sym w.rest_is ∙ ap (laid (place + length w.word)) n.is))) turned in
      let len_a = length-append (bytes_in w.lead) (w.word ++ bytes_in n.front) in
      let len_b = length-append w.word (bytes_in n.front) in
      let start : x.start ≡ place + length w.word + length (bytes_in n.front) = ap (λ (t : Token). t.start) n.token in
      let end : x.end ≡ place + length w.word + length (bytes_in n.front) + length n.word = ap (λ (t : Token). t.end) n.token in
      let len_x : length (n.word ++ []) ≡ length n.word = ap length (append-nil n.word) in
      subst (λ (q : Pieces). Row (IsTurnedRow new) at q (edit_at (span_of x) y ∷ [])) (sym whole)
      (subst (Row (IsTurnedRow new) at (said_pieces at w.lead w.word n.front ((true, n.word) ∷ []) ((true, y) ∷ []) n.behind n.tail))
      (edit_same _ _ x.start x.end _ y (omega (arith, len_a, len_b, start)) (omega (arith, len_a, len_b, len_x, end)) (append-nil y)) row)

  -- a list of cells behind it
  cells_row : (marks : Bool) (n : NewChain) (t : Token) (ts : List Token) (v : CellList × ℕ) → behind_labels (laid at qs) ≡ t ∷ ts → t.text ≡ codes "ScanCells" → cells_at ts ≡ Some v
      → new.cells ≡ Some (map (λ (b : NewBit). name_read b.name) n.bits) → Shapes n.bits → Row (IsTurnedRow new) at qs (edit_at (cells_span t v.1) (cells_text marks n) ∷ [])
  cells_row marks n t ts v behind is e meant shapes =
      let w = word_cut at qs t ts behind in
      let place = at + length (bytes_in w.lead) in
      let out = marks && n.out_inverts in
      let k = cells_cut (length ts) no_cells ts v e in
      let p = piece_cut (place + length w.word) w.rest k.cells (k.last ∷ []) (w.rest_is ∙ k.is) in
      let o = one_piece (place + length w.word + length (bytes_in p.front)) p.rest k.last [] p.rest_is in
      let run = p.front ++ o.blanks in
      let fresh = cell_pieces marks out n.bits shapes in
      let text : w.word ≡ t.text = sym (ap (λ (t : Token). t.text) w.token) in
      let end : o.word ≡ 59 ∷ [] = sym (ap (λ (t : Token). t.text) o.token) ∙ k.semicolon in
      let rest_is : w.rest ≡ (run ++ []) ++ (true, 59 ∷ []) ∷ o.rest =
      p.is ∙ ap (λ (l : Pieces). p.front ++ l) (o.is ∙ ap (λ (x : List ℕ). o.blanks ++ (true, x) ∷ o.rest) end) ∙ sym (append_assoc p.front o.blanks ((true, 59 ∷ []) ∷ o.rest))
      ∙ ap (λ (l : Pieces). l ++ (true, 59 ∷ []) ∷ o.rest) (sym (append-nil run)) in
      let whole : qs ≡ said_pieces at w.lead w.word [] run fresh [] o.rest = w.is ∙ ap (λ (l : Pieces). w.lead ++ (true, w.word) ∷ l) rest_is in
      let laid_whole = subst (AreLaid z) whole are in
      let tokens : laid (place + length w.word) run ≡ k.cells =
      laid_append (place + length w.word) p.front o.blanks ∙ ap (λ (l : List Token). laid (place + length w.word) p.front ++ l) (blank_laid (place + length w.word + length (bytes_in p.front)) o.blanks o.none)
      ∙ append-nil (laid (place + length w.word) p.front) ∙ p.front_is in
      let none = no_tokens _ o.rest o.rest_is in
      let ready : IsReady w.word (run ++ []) (fresh ++ []) = record {
        which = ap (is_among changed_words) (text ∙ is);
        old_free = subst AreFreePieces (sym (append-nil run)) (free_pieces (place + length w.word) run (subst AreFree (sym tokens) k.free));
        new_free = subst AreFreePieces (sym (append-nil fresh)) (cells_free marks out n.bits shapes);
        stops = subst (λ (l : Pieces). goes_on (bytes_in l ++ 59 ∷ []) ≡ false) (sym (append-nil fresh)) (cells_stop marks out n.bits shapes []);
        stands = λ r. subst (AreLaid (59 ∷ r)) (sym (append-nil fresh)) (cells_stand marks out n.bits shapes r);
      } in
      let old_last = token_of_bytes (59 ∷ []) (place + length w.word + length (bytes_in (run ++ []))) in
      let behind_is : ts ≡ laid (place + length w.word) (run ++ []) ++ old_last ∷ [] =
      sym w.rest_is ∙ ap (laid (place + length w.word)) rest_is ∙ behind_word_is at w.lead w.word [] run fresh [] o.rest w.after_is ready none in
      let old_clause : word_clause (token_of_bytes w.word place) (laid (place + length w.word) (run ++ []) ++ old_last ∷ []) ≡ Cells v.0 (cells_span t v.1) =
      ap (λ (u : Token). word_clause u (laid (place + length w.word) (run ++ []) ++ old_last ∷ [])) (sym w.token) ∙ ap (word_clause t) (sym behind_is) ∙ as_cells t ts is
      ∙ ap (clause_by (λ (n : CellList × ℕ). Cells n.0 (cells_span t n.1))) e in
      let turned : Turns at w.lead w.word [] run fresh [] o.rest w.after_is ready new
      = λ to.
      let last = token_of_bytes (59 ∷ []) (to + length w.word + length (bytes_in (fresh ++ []))) in
      subst (λ (c : Clause). IsTurned new c (word_clause (token_of_bytes w.word to) (laid (to + length w.word) (fresh ++ []) ++ last ∷ []))) (sym old_clause)
      (subst (λ (l : Pieces). IsNewCells new (word_clause (token_of_bytes w.word to) (laid (to + length w.word) l ++ last ∷ []))) (sym (append-nil fresh))
      (new_cells marks out new n.bits shapes meant (token_of_bytes w.word to) last (to + length w.word) (text ∙ is) refl)) in
      let row = said_row at w.lead w.word [] run fresh [] o.rest w.after_is ready none new (some_laid z _ laid_whole)
      (subst (λ (q : Pieces). len_in 0 (laid at q) ≡ length (laid at q)) whole one) (subst (λ (q : Pieces). is_closed (laid at q) ≡ true) whole closed)
      (subst (λ (q : Pieces). behind_labels (laid at q) ≡ token_of_bytes w.word place ∷ laid (place + length w.word) ((run ++ []) ++ (true, 59 ∷ []) ∷ o.rest)) whole
      (behind ∙ ap (λ (k : Token). k ∷ ts) w.token ∙ ap (λ (l : List Token). token_of_bytes w.word place ∷ l) (sym w.rest_is ∙ ap (laid (place + length w.word)) rest_is))) turned in
      let len_a = length-append (bytes_in w.lead) (w.word ++ []) in
      let len_b = ap length (append-nil w.word) in
      let len_c = ap length (bytes_append p.front o.blanks) ∙ length-append (bytes_in p.front) (bytes_in o.blanks) in
      let start : t.end ≡ place + length w.word = ap (λ (t : Token). t.end) w.token in
      let last_at : k.last.start ≡ place + length w.word + length (bytes_in p.front) + length (bytes_in o.blanks) = ap (λ (t : Token). t.start) o.token in
      let last_is = k.place in
      subst (λ (q : Pieces). Row (IsTurnedRow new) at q (edit_at (cells_span t v.1) (cells_text marks n) ∷ [])) (sym whole)
      (subst (Row (IsTurnedRow new) at (said_pieces at w.lead w.word [] run fresh [] o.rest))
      (edit_same _ _ t.end v.1 _ (cells_text marks n) (omega (arith, len_a, len_b, start)) (omega (arith, len_a, len_b, len_c, last_at, last_is)) (cell_bytes marks out n.bits shapes)) row)

  -- a statement that says nothing of what may change
  other_row : IsOtherClause (clause_of (laid at qs)) → Row (IsTurnedRow new) at qs []
  other_row other = stays_row (IsTurnedRow new) at qs (some_laid z qs are) one closed
      (λ s plain is. stays_law new s (wider s true plain) (subst (λ (l : List Token). IsOtherClause (clause_of l)) (sym is) other))

-- what the new declaration and the new chain are to one another for a statement
abbrev pub FitsClause : ScanChainDecl → NewChain → Clause → Type 0
FitsClause new n (Length k at) = (new.length ≡ length n.bits) × (0 < length n.bits) × (length n.bits < 2 ^ 32)
FitsClause new n (Inversion bit at) = new.inversion ≡ Some n.inversion
FitsClause new n (Cells list at) = (new.cells ≡ Some (map (λ (b : NewBit). name_read b.name) n.bits)) × Shapes n.bits
FitsClause new n (In port) = ⊤
FitsClause new n (Out port) = ⊤
FitsClause new n OutLength = ⊤
FitsClause new n Passed = ⊤
FitsClause new n NoForm = ⊥

no_edits : (marks : Bool) (n : NewChain) (c : Clause) → IsOtherClause c → clause_edits marks n c ≡ []
no_edits marks n (Length k at) o = absurd o
no_edits marks n (Inversion bit at) o = absurd o
no_edits marks n (Cells list at) o = absurd o
no_edits marks n (In port) o = refl
no_edits marks n (Out port) o = refl
no_edits marks n OutLength o = refl
no_edits marks n Passed o = refl
no_edits marks n NoForm o = absurd o

module _ (marks : Bool) (n : NewChain) (new : ScanChainDecl) (at : ℕ) (z : List ℕ) (qs : Pieces) (are : AreLaid z qs) (one : len_in 0 (laid at qs) ≡ length (laid at qs)) (closed : is_closed (laid at qs) ≡ true) where
  row_of : (c : Clause) → clause_of (laid at qs) ≡ c → IsOtherClause c → Row (IsTurnedRow new) at qs (clause_edits marks n c)
  row_of c e o = subst (Row (IsTurnedRow new) at qs) (sym (no_edits marks n c o)) (other_row new at z qs are one closed (subst IsOtherClause (sym e) o))

  length_row : (t : Token) (ts : List Token) (v : ℕ × Span) → behind_labels (laid at qs) ≡ t ∷ ts → t.text ≡ codes "ScanLength" → length_at ts ≡ Some v → FitsClause new n (Length v.0 v.1) → Row (IsTurnedRow new) at qs (clause_edits marks n (Length v.0 v.1))
  length_row t ts v behind is e fits =
      let k = length_here ts v e in
      let size = length n.bits in
      subst (λ (s : Span). Row (IsTurnedRow new) at qs (edit_at s (decimal size) ∷ [])) (sym k.place)
      (number_row new at z qs are one closed t k.number k.last ts (decimal size) behind (ap (is_among changed_words) is) k.two k.semicolon (length_number k.number.text v.0 k.value) (decimal_number size (let few = fits.2 in omega arith))
      (λ t u x z c d p q r s i j. length_law new t u x z c d (p ∙ is) (q ∙ is) i j (ap is_some (ap length_of r ∙ k.value)) (ap length_of s ∙ length_back size fits.1 fits.2 ∙ ap Some (sym fits.0))))

  inversion_row : (t : Token) (ts : List Token) (v : Bool × Span) → behind_labels (laid at qs) ≡ t ∷ ts → t.text ≡ codes "ScanInversion" → inversion_at ts ≡ Some v → FitsClause new n (Inversion v.0 v.1) → Row (IsTurnedRow new) at qs (clause_edits marks n (Inversion v.0 v.1))
  inversion_row t ts v behind is e fits =
      let k = inversion_here ts v e in
      subst (λ (s : Span). Row (IsTurnedRow new) at qs (edit_at s (bit_text n.inversion) ∷ [])) (sym k.place)
      (number_row new at z qs are one closed t k.number k.last ts (bit_text n.inversion) behind (ap (is_among changed_words) is) k.two k.semicolon (bit_is_number k.number.text v.0 k.value) (bit_number n.inversion)
      (λ t u x z c d p q r s i j. inversion_law new n.inversion t u x z c d (p ∙ is) (q ∙ is) i j (ap is_some (ap bit_of r ∙ k.value)) (ap bit_of s ∙ bit_back n.inversion) fits))

  by_word : (t : Token) (ts : List Token) → behind_labels (laid at qs) ≡ t ∷ ts → (c : Clause) → clause_of (laid at qs) ≡ c → WordIs t ts c → FitsClause new n c → Row (IsTurnedRow new) at qs (clause_edits marks n c)
  by_word t ts behind c says w fits = elim w [
    | IsLength is v e k ↦ subst (λ (c : Clause). Row (IsTurnedRow new) at qs (clause_edits marks n c)) (sym k) (length_row t ts v behind is e (subst (FitsClause new n) k fits))
    | IsInversion is v e k ↦ subst (λ (c : Clause). Row (IsTurnedRow new) at qs (clause_edits marks n c)) (sym k) (inversion_row t ts v behind is e (subst (FitsClause new n) k fits))
    | IsCells is v e k ↦ (
        let f = subst (FitsClause new n) k fits in
        subst (λ (c : Clause). Row (IsTurnedRow new) at qs (clause_edits marks n c)) (sym k) (cells_row new at z qs are one closed marks n t ts v behind is e f.0 f.1))
    | IsOther k o ↦ row_of c says o
    | IsBad k ↦ absurd (subst (FitsClause new n) k fits)
  ]

  by_behind : (ts : List Token) → behind_labels (laid at qs) ≡ ts → clause_of (laid at qs) ≡ unlabelled_clause ts → FitsClause new n (unlabelled_clause ts) → Row (IsTurnedRow new) at qs (clause_edits marks n (unlabelled_clause ts))
  by_behind [] behind says fits = row_of Passed says tt
  by_behind (t ∷ ts) behind says fits = by_word t ts behind (word_clause t ts) says (word_cases t ts) fits

  clause_by_whole : (b : Bool) → is_whole (laid at qs) ≡ b → clause_of (laid at qs) ≡ cond b (unlabelled_clause (behind_labels (laid at qs))) NoForm
  unfolding clause_of
  clause_by_whole b e = ap (λ (k : Bool). cond k (unlabelled_clause (behind_labels (laid at qs))) NoForm) e

  by_whole : (b : Bool) → is_whole (laid at qs) ≡ b → FitsClause new n (clause_of (laid at qs)) → Row (IsTurnedRow new) at qs (clause_edits marks n (clause_of (laid at qs)))
  by_whole true e fits =
      let says = clause_by_whole true e in
      subst (λ (c : Clause). Row (IsTurnedRow new) at qs (clause_edits marks n c)) (sym says) (by_behind (behind_labels (laid at qs)) refl says (subst (FitsClause new n) says fits))
  by_whole false e fits = absurd (subst (FitsClause new n) (clause_by_whole false e) fits)

  pub clause_row : FitsClause new n (clause_of (laid at qs)) → Row (IsTurnedRow new) at qs (clause_edits marks n (clause_of (laid at qs)))
  clause_row fits = by_whole (is_whole (laid at qs)) refl fits
