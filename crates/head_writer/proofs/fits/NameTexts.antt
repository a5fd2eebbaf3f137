-- The names of a list of cells, by the tokens between its word and its ;.
use Rattle.std.proofs.Common.{◌≡◌, ℕ, zero, suc, ◌+◌, ◌-◌, ◌<◌, ◌≤◌, Bool, true, false, cond, eqb, ◌&&◌, ◌||◌, not, inl, inr, List, [], ◌∷◌, ◌++◌, length, take, map, codes, Option, Some, None, refl, sym, ap, ap₂, ◌∙◌, arith, append_assoc, length-append}
use Rattle.std.specs.List.{flat_map, AllByRecursion as Each}
use Rattle.std.specs.Str.{bytes_eq}
use Rattle.std.proofs.lemmas.Bool.{cases_Bool, eqb-true, eqb-false, eq-eqb, ne_eqb}
use Rattle.std.proofs.lemmas.List.{append-nil}
use Rattle.std.proofs.lemmas.Option.{same_Some}
use Rattle.base_types.proofs.TruthValues.{and_false}
use Rattle.token_forms.specs.declared.piece.Piece.TheVariants.{Token as token}
use Rattle.token_forms.specs.Classes.{But, is_in}
use Rattle.token_forms.specs.Tokens.{Token, front_of}
use Rattle.stil_tokens.specs.StilStatements.{is_only}
use Rattle.stil_tokens.specs.StilTokens.{piece_at}
use Rattle.stil_syntax.specs.Names.{marks, is_word, is_string, inner, string_at, name_at}
use Rattle.stil_blocks.specs.declared.cells.Cell.{Cell}
use Rattle.stil_blocks.specs.declared.cells.Cell.TheVariants as cell
use Rattle.stil_blocks.specs.declared.cells.CellList.{CellList}
use Rattle.stil_blocks.specs.Statements.{start_of}
use Rattle.stil_blocks.specs.Chains.{cell_by, cell_at, put_cell, cells_within}
use Rattle.head_alike.proofs.Names.{name_word, name_string, name_none}
use Rattle.head_alike.proofs.Clauses.{end_none}
use Rattle.head_text.specs.Mixes.{bytes_in, AreLaid, laid, token_of_bytes}
use Rattle.head_text.specs.Written.{name_in, name_read, name_texts_within}
use Rattle.head_text.proofs.Mixes.{tokens_laid}
use Rattle.head_text.proofs.Cutting.{Pieces}
use Rattle.head_text.proofs.Singles.{IsRunText, IsQuoteText, run_text, quote_text}

-- a token that stands so wherever it is a word or a text in quotes
pub record IsFine (w : List ℕ) : Type 0 where
  pub run : is_word w ≡ true → IsRunText w
  pub quote : is_string w ≡ true → IsQuoteText w

quote_by : (w r : List ℕ) → 0 < length w → 0 < length r → is_string w ≡ true → piece_at (w ++ r) ≡ token (length w) → IsQuoteText w
quote_by w [] some more e is = absurd (omega arith)
quote_by w (c ∷ r) some more e is = quote_text w c r some e is

pub fine_pieces : (ps : Pieces) (c : ℕ) (z : List ℕ) (at : ℕ) → AreLaid (c ∷ z) ps → Each (λ t. IsFine t.text) (laid at ps)
fine_pieces [] c z at are = tt
fine_pieces ((true, w) ∷ ps) c z at are =
    let left : 0 < length (bytes_in ps ++ c ∷ z) = omega (arith, length-append (bytes_in ps) (c ∷ z)) in
    (record { run = λ e. run_text w (bytes_in ps ++ c ∷ z) are.0 e are.1; quote = λ e. quote_by w (bytes_in ps ++ c ∷ z) are.0 left e are.1 }, fine_pieces ps c z (at + length w) are.2)
fine_pieces ((false, w) ∷ ps) c z at are = fine_pieces ps c z (at + length w) are.2

-- what a name's bytes are read as

read_of : (ps : Pieces) → AreLaid [] ps → name_read (bytes_in ps) ≡ name_in (name_at (laid 0 ps))
read_of ps are = ap (λ (l : List Token). name_in (name_at l)) (tokens_laid ps are)

read_run : (w : List ℕ) → is_word w ≡ true → IsRunText w → name_read w ≡ w
read_run w word x =
    let alone : AreLaid [] ((true, w) ∷ []) = (x.some, x.stands [] refl, tt) in
    ap name_read (sym (append-nil w)) ∙ read_of ((true, w) ∷ []) alone ∙ ap name_in (name_word (token_of_bytes w 0) [] word)

no_run : (w : List ℕ) → is_string w ≡ true → is_word w ≡ false
no_run [] e = absurd cc
no_run (b ∷ bs) e = ap (λ (k : Bool). is_in (But marks) (b ∷ bs) && not (k || (eqb b 39 || eqb b 123))) e ∙ and_false (is_in (But marks) (b ∷ bs))

read_quote : (q : List ℕ) → is_string q ≡ true → IsQuoteText q → name_read q ≡ inner q
read_quote q text x =
    let alone : AreLaid [] ((true, q) ∷ []) = (x.some, x.stands [], tt) in
    ap name_read (sym (append-nil q)) ∙ read_of ((true, q) ∷ []) alone ∙ ap name_in (name_string (token_of_bytes q 0) [] (no_run q text) text)

string_meets : (q w : List ℕ) (at : ℕ) (ts : List Token) → is_word w ≡ true
    → string_at (token_of_bytes q at) (token_of_bytes w (at + length q) ∷ ts) ≡ (inner q ++ w, ts)
string_meets q w at ts e = let k = eq-eqb (at + length q) (at + length q) refl in rw (e, k) refl

read_joined : (q w : List ℕ) → is_string q ≡ true → IsQuoteText q → is_word w ≡ true → IsRunText w → name_read (q ++ w) ≡ inner q ++ w
read_joined q w text x word y =
    let bytes : q ++ (w ++ []) ≡ q ++ w = ap (λ (l : List ℕ). q ++ l) (append-nil w) in
    let alone : AreLaid [] ((true, q) ∷ (true, w) ∷ []) = (x.some, x.stands ((w ++ []) ++ []), (y.some, y.stands [] refl, tt)) in
    let both : name_at (token_of_bytes q 0 ∷ token_of_bytes w (0 + length q) ∷ []) ≡ Some (inner q ++ w, []) =
    name_string (token_of_bytes q 0) (token_of_bytes w (0 + length q) ∷ []) (no_run q text) text ∙ ap (λ (p : List ℕ × List Token). Some p) (string_meets q w 0 [] word) in
    ap name_read (sym bytes) ∙ read_of ((true, q) ∷ (true, w) ∷ []) alone ∙ ap name_in both

-- tokens at later places

abbrev pub moved : ℕ → Token → Token
moved k t = record { text = t.text; start = k + t.start; end = k + t.end }

pub laid_moved : (k at : ℕ) (ps : Pieces) → laid (k + at) ps ≡ map (moved k) (laid at ps)
laid_moved k at [] = refl
laid_moved k at ((true, w) ∷ ps) =
    let e : k + at + length w ≡ k + (at + length w) = omega arith in
    let one = λ (n : ℕ). let t : Token = record { text = w; start = k + at; end = n } in t in
    ap₂ (λ (x : Token) (xs : List Token). x ∷ xs) (ap one e) (ap (λ (n : ℕ). laid n ps) e ∙ laid_moved k (at + length w) ps)
laid_moved k at ((false, w) ∷ ps) =
    let e : k + at + length w ≡ k + (at + length w) = omega arith in
    ap (λ (n : ℕ). laid n ps) e ∙ laid_moved k (at + length w) ps

eq_moved : (k a b : ℕ) → eqb (k + a) (k + b) ≡ eqb a b
eq_moved k a b = elim (cases_Bool (eqb a b)) [
  | inl e ↦ (let same = eqb-true a b e in eq-eqb (k + a) (k + b) (omega (arith, same)) ∙ sym e)
  | inr e ↦ (let other = eqb-false a b e in ne_eqb (k + a) (k + b) (λ s. absurd (omega (arith, other, s))) ∙ sym e)
]

text_one : (t : Token) (ts : List Token) → flat_map (λ (u : Token). u.text) (front_of (t ∷ ts) ts) ≡ t.text
text_one t ts =
    let n : length (t ∷ ts) - length ts ≡ suc zero = omega arith in
    ap (λ (k : ℕ). flat_map (λ (u : Token). u.text) (take k (t ∷ ts))) n ∙ append-nil t.text

text_two : (t u : Token) (ts : List Token) → flat_map (λ (u : Token). u.text) (front_of (t ∷ u ∷ ts) ts) ≡ t.text ++ u.text
text_two t u ts =
    let n : length (t ∷ u ∷ ts) - length ts ≡ suc (suc zero) = omega arith in
    ap (λ (k : ℕ). flat_map (λ (u : Token). u.text) (take k (t ∷ u ∷ ts))) n ∙ ap (λ (l : List ℕ). t.text ++ l) (append-nil u.text)

-- no texts are left without tokens
none_left : (m : ℕ) → name_texts_within m [] ≡ []
unfolding name_texts_within
none_left zero = refl
none_left (suc m) = refl

text_mark : (m : ℕ) (t : Token) (ts : List Token) → bytes_eq t.text (codes "!") ≡ true → name_texts_within (suc m) (t ∷ ts) ≡ name_texts_within m ts
unfolding name_texts_within
text_mark m t ts e =
    ap (λ (b : Bool). cond b (name_texts_within m ts) (elim (name_at (t ∷ ts)) [ None ↦ [] | Some name ↦ flat_map (λ (u : Token). u.text) (front_of (t ∷ ts) name.1) ∷ name_texts_within m name.1 ])) e

text_name : (m : ℕ) (t : Token) (ts : List Token) (n : List ℕ × List Token) → bytes_eq t.text (codes "!") ≡ false → name_at (t ∷ ts) ≡ Some n
    → name_texts_within (suc m) (t ∷ ts) ≡ flat_map (λ (u : Token). u.text) (front_of (t ∷ ts) n.1) ∷ name_texts_within m n.1
unfolding name_texts_within
text_name m t ts n e f =
    ap (λ (b : Bool). cond b (name_texts_within m ts) (elim (name_at (t ∷ ts)) [ None ↦ [] | Some name ↦ flat_map (λ (u : Token). u.text) (front_of (t ∷ ts) name.1) ∷ name_texts_within m name.1 ])) e
    ∙ ap (λ (o : Option (List ℕ × List Token)). elim o [ None ↦ [] | Some name ↦ flat_map (λ (u : Token). u.text) (front_of (t ∷ ts) name.1) ∷ name_texts_within m name.1 ]) f

-- the name at the front of tokens: what is left, and what its bytes are read as
record NameAt (t : Token) (ts : List Token) : Type 0 where
  name : List ℕ
  rest : List Token
  is : name_at (t ∷ ts) ≡ Some (name, rest)
  reads : name_read (flat_map (λ (u : Token). u.text) (front_of (t ∷ ts) rest)) ≡ name
  shorter : length rest ≤ length ts
  fine : Each (λ t. IsFine t.text) rest

module _ (k : ℕ) (last : Token) (is : last.text ≡ 59 ∷ []) where
  abbrev there : List Token → List Token
  there ts = map (moved k) ts ++ last ∷ []

  -- and so it is read among the others
  abbrev IsThere : (t : Token) (ts : List Token) → NameAt t ts → Type 0
  IsThere t ts n = name_at (there (t ∷ ts)) ≡ Some (n.name, there n.rest)

  end_there : (t : Token) → string_at (moved k t) (last ∷ []) ≡ (inner t.text, last ∷ [])
  end_there t =
      let none : is_word last.text ≡ false = ap is_word is in
      ap (λ (b : Bool). cond {A = List ℕ × List Token} (b && eqb last.start (k + t.end)) (inner t.text ++ last.text, []) (inner t.text, last ∷ [])) none

  apart_there : (t u : Token) (us : List Token) → (is_word u.text && eqb u.start t.end) ≡ false → string_at (moved k t) (there (u ∷ us)) ≡ (inner t.text, there (u ∷ us))
  apart_there t u us e =
      ap (λ (b : Bool). cond {A = List ℕ × List Token} (is_word u.text && b) (inner t.text ++ u.text, there us) (inner t.text, there (u ∷ us))) (eq_moved k u.start t.end)
      ∙ ap (λ (b : Bool). cond {A = List ℕ × List Token} b (inner t.text ++ u.text, there us) (inner t.text, there (u ∷ us))) e

  joined_there : (t u : Token) (us : List Token) → (is_word u.text && eqb u.start t.end) ≡ true → string_at (moved k t) (there (u ∷ us)) ≡ (inner t.text ++ u.text, there us)
  joined_there t u us e =
      ap (λ (b : Bool). cond {A = List ℕ × List Token} (is_word u.text && b) (inner t.text ++ u.text, there us) (inner t.text, there (u ∷ us))) (eq_moved k u.start t.end)
      ∙ ap (λ (b : Bool). cond {A = List ℕ × List Token} b (inner t.text ++ u.text, there us) (inner t.text, there (u ∷ us))) e

  word_name : (t : Token) (ts : List Token) → is_word t.text ≡ true → IsFine t.text → Each (λ t. IsFine t.text) ts → (n : NameAt t ts) × IsThere t ts n
  word_name t ts e fine each = (
    record { name = t.text; rest = ts; is = name_word t ts e; reads = ap name_read (text_one t ts) ∙ read_run t.text e (fine.run e); shorter = omega arith; fine = each },
    name_word (moved k t) (there ts) e,
  )

  alone_name : (t : Token) (ts : List Token) → is_word t.text ≡ false → is_string t.text ≡ true → IsFine t.text → Each (λ t. IsFine t.text) ts
      → string_at t ts ≡ (inner t.text, ts) → string_at (moved k t) (there ts) ≡ (inner t.text, there ts) → (n : NameAt t ts) × IsThere t ts n
  alone_name t ts e f fine each here far = (
    record {
      name = inner t.text;
      rest = ts;
      is = name_string t ts e f ∙ ap (λ (p : List ℕ × List Token). Some p) here;
      reads = ap name_read (text_one t ts) ∙ read_quote t.text f (fine.quote f);
      shorter = omega arith;
      fine = each;
    },
    name_string (moved k t) (there ts) e f ∙ ap (λ (p : List ℕ × List Token). Some p) far,
  )

  string_name : (t : Token) (ts : List Token) → is_word t.text ≡ false → is_string t.text ≡ true → IsFine t.text → Each (λ t. IsFine t.text) ts → (n : NameAt t ts) × IsThere t ts n
  string_name t [] e f fine each = alone_name t [] e f fine each refl (end_there t)
  string_name t (u ∷ us) e f fine each = by (is_word u.text) (eqb u.start t.end) refl refl
    where
      apart : (is_word u.text && eqb u.start t.end) ≡ false → (n : NameAt t (u ∷ us)) × IsThere t (u ∷ us) n
      apart g =
          alone_name t (u ∷ us) e f fine each
          (ap (λ (b : Bool). cond {A = List ℕ × List Token} b (inner t.text ++ u.text, us) (inner t.text, u ∷ us)) g) (apart_there t u us g)

      by : (a b : Bool) → is_word u.text ≡ a → eqb u.start t.end ≡ b → (n : NameAt t (u ∷ us)) × IsThere t (u ∷ us) n
      by true true g h = (
        record {
          name = inner t.text ++ u.text;
          rest = us;
          is = name_string t (u ∷ us) e f
              ∙ ap (λ (b : Bool). Some (cond {A = List ℕ × List Token} b (inner t.text ++ u.text, us) (inner t.text, u ∷ us))) (ap₂ (λ (a b : Bool). a && b) g h);
          reads = ap name_read (text_two t u us) ∙ read_joined t.text u.text f (fine.quote f) g (each.0.run g);
          shorter = omega arith;
          fine = each.1;
        },
        name_string (moved k t) (there (u ∷ us)) e f ∙ ap (λ (p : List ℕ × List Token). Some p) (joined_there t u us (ap₂ (λ (a b : Bool). a && b) g h)),
      )
      by true false g h = apart (ap₂ (λ (a b : Bool). a && b) g h)
      by false b g h = apart (ap (λ (a : Bool). a && eqb u.start t.end) g)

  -- a list of cells, token by token

  cells_end : (n : ℕ) (list : CellList) → cells_within (suc n) list (last ∷ []) ≡ Some (list, last.start)
  unfolding cells_within
  cells_end n list =
      ap (λ (b : Bool). cond b (Some (list, last.start)) (elim (cell_at (last ∷ [])) [ None ↦ None | Some c ↦ cells_within n (put_cell list c.0) c.1 ])) (ap (is_only 59) is)

  cells_on : (n : ℕ) (list : CellList) (t : Token) (ts : List Token) (o : Option (Cell × List Token)) → cell_at (there (t ∷ ts)) ≡ o
      → cells_within (suc n) list (there (t ∷ ts)) ≡ elim o [ None ↦ None | Some c ↦ cells_within n (put_cell list c.0) c.1 ]
  unfolding cells_within
  cells_on n list t ts o e =
      ap (λ (b : Bool). cond b (Some (list, start_of (there (t ∷ ts)))) (elim (cell_at (there (t ∷ ts))) [ None ↦ None | Some c ↦ cells_within n (put_cell list c.0) c.1 ]))
      (end_none (map (moved k) ts) last [] (moved k t))
      ∙ ap (λ (o : Option (Cell × List Token)). elim o [ None ↦ None | Some c ↦ cells_within n (put_cell list c.0) c.1 ]) e

  mark_there : (t : Token) (ts : List Token) → bytes_eq t.text (codes "!") ≡ true → cell_at (there (t ∷ ts)) ≡ Some (cell.Mark, there ts)
  unfolding cell_at
  mark_there t ts e = ap (λ (b : Bool). cond b (Some (cell.Mark, there ts)) (cell_by (name_at (there (t ∷ ts))))) e

  name_there : (t : Token) (ts : List Token) → bytes_eq t.text (codes "!") ≡ false → cell_at (there (t ∷ ts)) ≡ cell_by (name_at (there (t ∷ ts)))
  unfolding cell_at
  name_there t ts e = ap (λ (b : Bool). cond b (Some (cell.Mark, there ts)) (cell_by (name_at (there (t ∷ ts))))) e

  abbrev AreRead : ℕ → ℕ → CellList → List Token → CellList × ℕ → Type 0
  AreRead n m list ts v = Each (λ t. IsFine t.text) ts → length ts ≤ m → cells_within n list (there ts) ≡ Some v → v.0.names ≡ list.names ++ map name_read (name_texts_within m ts)

  module _ (n m : ℕ) (v : CellList × ℕ) (more : (list : CellList) (ts : List Token) → AreRead n m list ts v) (list : CellList) (t : Token) (ts : List Token)
      (fine : IsFine t.text) (each : Each (λ t. IsFine t.text) ts) (le : length ts ≤ m) (e : cells_within (suc n) list (there (t ∷ ts)) ≡ Some v) where
    abbrev Wanted : Type 0
    Wanted = v.0.names ≡ list.names ++ map name_read (name_texts_within (suc m) (t ∷ ts))

    one_mark : bytes_eq t.text (codes "!") ≡ true → Wanted
    one_mark f =
        more (put_cell list cell.Mark) ts each le (sym (cells_on n list t ts (Some (cell.Mark, there ts)) (mark_there t ts f)) ∙ e)
        ∙ ap (λ (l : List (List ℕ)). list.names ++ map name_read l) (sym (text_mark m t ts f))

    one_name : bytes_eq t.text (codes "!") ≡ false → (a : NameAt t ts) × IsThere t ts a → Wanted
    one_name f g =
        let a = g.0 in
        let cell_is : cell_at (there (t ∷ ts)) ≡ Some (cell.Named a.name, there a.rest) = name_there t ts f ∙ ap cell_by g.1 in
        let short = a.shorter in
        let rest = map name_read (name_texts_within m a.rest) in
        more (put_cell list (cell.Named a.name)) a.rest a.fine (omega (arith, short, le)) (sym (cells_on n list t ts (Some (cell.Named a.name, there a.rest)) cell_is) ∙ e)
        ∙ append_assoc list.names (a.name ∷ []) rest
        ∙ ap (λ (x : List ℕ). list.names ++ x ∷ rest) (sym a.reads)
        ∙ ap (λ (l : List (List ℕ)). list.names ++ map name_read l) (sym (text_name m t ts (a.name, a.rest) f a.is))

    no_name : bytes_eq t.text (codes "!") ≡ false → is_word t.text ≡ false → is_string t.text ≡ false → Wanted
    no_name f g h =
        let none : cell_at (there (t ∷ ts)) ≡ None = name_there t ts f ∙ ap cell_by (name_none (moved k t) (there ts) g h) in
        absurd (let r = sym (cells_on n list t ts None none) ∙ e in cc)

    by_name : bytes_eq t.text (codes "!") ≡ false → (a b : Bool) → is_word t.text ≡ a → is_string t.text ≡ b → Wanted
    by_name f true b g h = one_name f (word_name t ts g fine each)
    by_name f false true g h = one_name f (string_name t ts g h fine each)
    by_name f false false g h = no_name f g h

    by_token : (b : Bool) → bytes_eq t.text (codes "!") ≡ b → Wanted
    by_token true f = one_mark f
    by_token false f = by_name f (is_word t.text) (is_string t.text) refl refl

  cells_none : (list : CellList) (ts : List Token) → cells_within zero list ts ≡ None
  unfolding cells_within
  cells_none list ts = refl

  pub names_are : (n m : ℕ) (list : CellList) (ts : List Token) (v : CellList × ℕ) → AreRead n m list ts v
  names_are zero m list ts v fine le e = absurd (let r = sym (cells_none list (there ts)) ∙ e in cc)
  names_are (suc n) m list [] v fine le e =
      let same : (list, last.start) ≡ v = same_Some _ _ (sym (cells_end n list) ∙ e) in
      ap (λ (p : CellList × ℕ). p.0.names) (sym same) ∙ sym (append-nil list.names) ∙ ap (λ (l : List (List ℕ)). list.names ++ map name_read l) (sym (none_left m))
  names_are (suc n) zero list (t ∷ ts) v fine le e = absurd (omega (arith, le))
  names_are (suc n) (suc m) list (t ∷ ts) v fine le e =
      by_token n m v (λ list ts. names_are n m list ts v) list t ts fine.0 fine.1 (omega (arith, le)) e (bytes_eq t.text (codes "!")) refl
