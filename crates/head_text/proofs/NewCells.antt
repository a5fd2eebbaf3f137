-- A written list of cells: its pieces, and what they are read as.
use Rattle.std.specs.Prelude.{⊤}
use Rattle.std.proofs.Common.{◌≡◌, ℕ, zero, suc, ◌+◌, ◌-◌, ◌<◌, ◌≤◌, Bool, true, false, cond, eqb, ◌&&◌, ◌||◌, not, inl, inr, List, [], ◌∷◌, ◌++◌, length, map, codes, Option, Some, None, refl, sym, ap, ◌∙◌, subst, arith, append_assoc, length-append}
use Rattle.std.specs.List.{flat_map, AllByRecursion as Each}
use Rattle.std.specs.Str.{bytes_eq}
use Rattle.std.proofs.lemmas.Bool.{cases_Bool, eqb-true}
use Rattle.std.proofs.lemmas.List.{append-nil}
use Rattle.base_types.specs.declared.span.Span.{Span}
use Rattle.token_forms.specs.declared.piece.Piece.TheVariants.{Blank, Token as token}
use Rattle.token_forms.specs.Tokens.{Token}
use Rattle.stil_tokens.specs.StilSplit.{goes_on}
use Rattle.stil_tokens.specs.StilTokens.{piece_at}
use Rattle.stil_types.specs.declared.head.ScanChainDecl.{ScanChainDecl}
use Rattle.stil_syntax.specs.Names.{is_word, name_at}
use Rattle.stil_blocks.specs.declared.cells.Cell.{Cell}
use Rattle.stil_blocks.specs.declared.cells.Cell.TheVariants as cell
use Rattle.stil_blocks.specs.declared.cells.CellList.{CellList}
use Rattle.stil_blocks.specs.declared.clause.Clause.{Clause}
use Rattle.stil_blocks.specs.declared.clause.Clause.TheVariants.{Cells}
use Rattle.stil_blocks.specs.Statements.{begins_word, is_end}
use Rattle.stil_blocks.specs.Chains.{cell_by, cell_at, put_cell, no_cells, cells_at, cells_span, clause_by, word_clause}
use Rattle.head_alike.specs.Chains.{IsNewCells}
use Rattle.head_alike.specs.Cells.{AreCells, put_cells}
use Rattle.head_alike.proofs.Cells.{cells_law}
use Rattle.head_alike.proofs.Clauses.{end_none, as_cells}
use Rattle.head_text.specs.Mixes.{bytes_in, AreLaid, laid, token_of_bytes, AreFreePieces}
use Rattle.head_text.specs.Written.{name_read, NewBit, mark_if}
use Rattle.head_text.proofs.Mixes.{bytes_append, laid_append, are_append}
use Rattle.head_text.proofs.Cutting.{Pieces}
use Rattle.head_text.proofs.Shapes.{Apart, NameShape}

abbrev pub Shapes : List NewBit → Type 0
Shapes bits = Each (λ b. NameShape b.name) bits

abbrev mark_pieces : Bool → Pieces
mark_pieces true = (false, 32 ∷ []) ∷ (true, 33 ∷ []) ∷ []
mark_pieces false = []

-- the bytes of a written list
abbrev pub bits_text : Bool → Bool → List NewBit → List ℕ
bits_text marks out bits = flat_map (λ (b : NewBit). mark_if (marks && b.inverts) ++ 32 ∷ b.name) bits ++ mark_if out

-- and its pieces
abbrev pub cell_pieces : Bool → Bool → (bits : List NewBit) → Shapes bits → Pieces
cell_pieces marks out [] shapes = mark_pieces out ++ []
cell_pieces marks out (b ∷ bits) shapes =
    mark_pieces (marks && b.inverts) ++ (false, 32 ∷ []) ∷ (((true, shapes.0.first) ∷ shapes.0.others) ++ cell_pieces marks out bits shapes.1)

mark_bytes : (m : Bool) (ps : Pieces) → bytes_in (mark_pieces m ++ ps) ≡ mark_if m ++ bytes_in ps
mark_bytes true ps = refl
mark_bytes false ps = refl

module _ (marks out : Bool) where
  pub cell_bytes : (bits : List NewBit) (shapes : Shapes bits) → bytes_in (cell_pieces marks out bits shapes) ≡ bits_text marks out bits
  cell_bytes [] shapes = mark_bytes out [] ∙ append-nil (mark_if out)
  cell_bytes (b ∷ bits) shapes =
      let s = shapes.0 in
      let m = mark_if (marks && b.inverts) in
      let rest = cell_pieces marks out bits shapes.1 in
      mark_bytes (marks && b.inverts) ((false, 32 ∷ []) ∷ (((true, s.first) ∷ s.others) ++ rest))
      ∙ ap (λ (l : List ℕ). m ++ 32 ∷ l) (bytes_append ((true, s.first) ∷ s.others) rest ∙ ap (λ (l : List ℕ). l ++ bytes_in rest) s.is ∙ ap (λ (l : List ℕ). b.name ++ l) (cell_bytes bits shapes.1)
      ∙ sym (append_assoc b.name (flat_map (λ (b : NewBit). mark_if (marks && b.inverts) ++ 32 ∷ b.name) bits) (mark_if out)))
      ∙ sym (append_assoc m (32 ∷ (b.name ++ flat_map (λ (b : NewBit). mark_if (marks && b.inverts) ++ 32 ∷ b.name) bits)) (mark_if out))
      ∙ ap (λ (l : List ℕ). l ++ mark_if out) (sym (append_assoc m (32 ∷ b.name) (flat_map (λ (b : NewBit). mark_if (marks && b.inverts) ++ 32 ∷ b.name) bits)))

  mark_stops : (m : Bool) (ps : Pieces) (z : List ℕ) → goes_on (bytes_in (mark_pieces m ++ (false, 32 ∷ []) ∷ ps) ++ z) ≡ false
  mark_stops true ps z = refl
  mark_stops false ps z = refl

  end_stops : (m : Bool) (z : List ℕ) → goes_on (bytes_in (mark_pieces m ++ []) ++ 59 ∷ z) ≡ false
  end_stops true z = refl
  end_stops false z = refl

  pub cells_stop : (bits : List NewBit) (shapes : Shapes bits) (z : List ℕ) → goes_on (bytes_in (cell_pieces marks out bits shapes) ++ 59 ∷ z) ≡ false
  cells_stop [] shapes z = end_stops out z
  cells_stop (b ∷ bits) shapes z = mark_stops (marks && b.inverts) (((true, shapes.0.first) ∷ shapes.0.others) ++ cell_pieces marks out bits shapes.1) (59 ∷ z)

  blank_at : (r : List ℕ) → piece_at (32 ∷ r) ≡ Blank 1
  unfolding piece_at
  blank_at r = refl

  mark_at : (r : List ℕ) → piece_at (33 ∷ r) ≡ token 1
  unfolding piece_at
  mark_at r = refl

  mark_laid : (m : Bool) (ps : Pieces) (z : List ℕ) → AreLaid z ps → AreLaid z (mark_pieces m ++ ps)
  mark_laid true ps z are = (omega arith, blank_at _, (omega arith, mark_at _, are))
  mark_laid false ps z are = are

  pub cells_stand : (bits : List NewBit) (shapes : Shapes bits) (z : List ℕ) → AreLaid (59 ∷ z) (cell_pieces marks out bits shapes)
  cells_stand [] shapes z = mark_laid out [] (59 ∷ z) tt
  cells_stand (b ∷ bits) shapes z =
      let s = shapes.0 in
      let rest = cell_pieces marks out bits shapes.1 in
      mark_laid (marks && b.inverts) ((false, 32 ∷ []) ∷ (((true, s.first) ∷ s.others) ++ rest)) (59 ∷ z)
      (omega arith, blank_at _, are_append (59 ∷ z) ((true, s.first) ∷ s.others) rest (s.stands (bytes_in rest ++ 59 ∷ z) (cells_stop bits shapes.1 z)) (cells_stand bits shapes.1 z))

  free_both : (ps qs : Pieces) → AreFreePieces ps → AreFreePieces qs → AreFreePieces (ps ++ qs)
  free_both [] qs f g = g
  free_both (p ∷ ps) qs f g = (f.0, free_both ps qs f.1 g)

  mark_free : (m : Bool) (ps : Pieces) → AreFreePieces ps → AreFreePieces (mark_pieces m ++ ps)
  mark_free true ps f = (λ e. absurd cc, (λ e. refl, f))
  mark_free false ps f = f

  pub cells_free : (bits : List NewBit) (shapes : Shapes bits) → AreFreePieces (cell_pieces marks out bits shapes)
  cells_free [] shapes = mark_free out [] tt
  cells_free (b ∷ bits) shapes =
      mark_free (marks && b.inverts) _ (λ e. absurd cc, free_both ((true, shapes.0.first) ∷ shapes.0.others) (cell_pieces marks out bits shapes.1) shapes.0.free (cells_free bits shapes.1))

  -- the cells
  abbrev mark_then : Bool → List Cell → List Cell
  mark_then true cs = cell.Mark ∷ cs
  mark_then false cs = cs

  abbrev cell_list : List NewBit → List Cell
  cell_list [] = mark_then out []
  cell_list (b ∷ bits) = mark_then (marks && b.inverts) (cell.Named (name_read b.name) ∷ cell_list bits)

  and_false : (b : Bool) → (b && false) ≡ false
  and_false true = refl
  and_false false = refl

  later_place : (p : ℕ) → eqb (p + 1) p ≡ false
  later_place p = elim (cases_Bool (eqb (p + 1) p)) [ inl e ↦ (let k = eqb-true (p + 1) p e in absurd (omega (arith, k))) | inr e ↦ e ]

  module _ (d : Token) (is : d.text ≡ 59 ∷ []) where
    end_apart : (m : Bool) (p : ℕ) → Apart p (laid p (mark_pieces m ++ []) ++ d ∷ [])
    end_apart true p = refl
    end_apart false p = ap (λ (w : List ℕ). is_word w && eqb d.start p) is

    bit_apart : (m : Bool) (w : List ℕ) (ps : Pieces) (p : ℕ) → Apart p (laid p (mark_pieces m ++ (false, 32 ∷ []) ∷ (true, w) ∷ ps) ++ d ∷ [])
    bit_apart true w ps p = refl
    bit_apart false w ps p = ap (λ (b : Bool). is_word w && b) (later_place p) ∙ and_false (is_word w)

    cells_apart : (bits : List NewBit) (shapes : Shapes bits) (p : ℕ) → Apart p (laid p (cell_pieces marks out bits shapes) ++ d ∷ [])
    cells_apart [] shapes p = end_apart out p
    cells_apart (b ∷ bits) shapes p = bit_apart (marks && b.inverts) shapes.0.first (shapes.0.others ++ cell_pieces marks out bits shapes.1) p

    marks_are : (m : Bool) (ps : Pieces) (cs : List Cell) (at : ℕ) → ((p : ℕ) → AreCells d cs (laid p ps ++ d ∷ [])) → AreCells d (mark_then m cs) (laid at (mark_pieces m ++ ps) ++ d ∷ [])
    unfolding cell_at
    marks_are true ps cs at f = record {
      rest = laid (at + 1 + 1) ps ++ d ∷ [];
      is = refl;
      no_end = end_none (laid (at + 1 + 1) ps) d [] (token_of_bytes (33 ∷ []) (at + 1));
      shorter = omega arith;
      more = f (at + 1 + 1);
    }
    marks_are false ps cs at f = f at

    cell_is : (t : Token) (ts rest : List Token) (name : List ℕ) → bytes_eq t.text (codes "!") ≡ false → name_at (t ∷ ts) ≡ Some (name, rest) → cell_at (t ∷ ts) ≡ Some (cell.Named name, rest)
    unfolding cell_at
    cell_is t ts rest name e f = ap (λ (b : Bool). cond b (Some (cell.Mark, ts)) (cell_by (name_at (t ∷ ts)))) e ∙ ap cell_by f

    name_are : (b : NewBit) (s : NameShape b.name) (ps : Pieces) (cs : List Cell) (at : ℕ) → ((p : ℕ) → AreCells d cs (laid p ps ++ d ∷ [])) → ((p : ℕ) → Apart p (laid p ps ++ d ∷ []))
        → AreCells d (cell.Named (name_read b.name) ∷ cs) (laid at (((true, s.first) ∷ s.others) ++ ps) ++ d ∷ [])
    name_are b s ps cs at f apart =
        let own = (true, s.first) ∷ s.others in
        let size : at + length (bytes_in own) ≡ at + length b.name = ap (λ (l : List ℕ). at + length l) s.is in
        let rest = laid (at + length (bytes_in own)) ps ++ d ∷ [] in
        let inner = laid (at + length s.first) s.others in
        let cut : laid at (own ++ ps) ++ d ∷ [] ≡ laid at own ++ rest = ap (λ (l : List Token). l ++ d ∷ []) (laid_append at own ps) ∙ append_assoc (laid at own) (laid (at + length (bytes_in own)) ps) (d ∷ []) in
        let name : name_at (laid at own ++ rest) ≡ Some (name_read b.name, rest) = s.reads at rest (subst (λ (n : ℕ). Apart n rest) size (apart (at + length (bytes_in own)))) in
        let end : is_end (laid at own ++ rest) ≡ false =
        ap (λ (l : List Token). is_end (token_of_bytes s.first at ∷ l)) (sym (append_assoc inner (laid (at + length (bytes_in own)) ps) (d ∷ [])))
        ∙ end_none (inner ++ laid (at + length (bytes_in own)) ps) d [] (token_of_bytes s.first at) in
        let more = length-append inner rest in
        subst (AreCells d (cell.Named (name_read b.name) ∷ cs)) (sym cut) (record {
          rest = rest;
          is = cell_is (token_of_bytes s.first at) (inner ++ rest) rest (name_read b.name) s.no_mark name;
          no_end = end;
          shorter = omega (arith, more);
          more = f (at + length (bytes_in own));
        })

    cells_are : (bits : List NewBit) (shapes : Shapes bits) (at : ℕ) → AreCells d (cell_list bits) (laid at (cell_pieces marks out bits shapes) ++ d ∷ [])
    cells_are [] shapes at = marks_are out [] [] at (λ p. refl)
    cells_are (b ∷ bits) shapes at =
        let rest = cell_pieces marks out bits shapes.1 in
        marks_are (marks && b.inverts) ((false, 32 ∷ []) ∷ (((true, shapes.0.first) ∷ shapes.0.others) ++ rest)) (cell.Named (name_read b.name) ∷ cell_list bits) at
        (λ p. name_are b shapes.0 rest (cell_list bits) (p + 1) (λ q. cells_are bits shapes.1 q) (λ q. cells_apart bits shapes.1 q))

  -- their names
  names_mark : (m : Bool) (list : CellList) (cs : List Cell) (names : List (List ℕ)) → ((l : CellList) → l.names ≡ list.names → (put_cells l cs).names ≡ names) → (put_cells list (mark_then m cs)).names ≡ names
  names_mark true list cs names f = f (put_cell list cell.Mark) refl
  names_mark false list cs names f = f list refl

  names_are : (bits : List NewBit) (list : CellList) → (put_cells list (cell_list bits)).names ≡ list.names ++ map (λ (b : NewBit). name_read b.name) bits
  names_are [] list = names_mark out list [] (list.names ++ []) (λ l e. e ∙ sym (append-nil list.names))
  names_are (b ∷ bits) list =
      let left = map (λ (b : NewBit). name_read b.name) bits in
      names_mark (marks && b.inverts) list (cell.Named (name_read b.name) ∷ cell_list bits) (list.names ++ name_read b.name ∷ left)
      (λ l e. names_are bits (put_cell l (cell.Named (name_read b.name))) ∙ append_assoc l.names (name_read b.name ∷ []) left ∙ ap (λ (x : List (List ℕ)). x ++ name_read b.name ∷ left) e)

  pub new_cells : (new : ScanChainDecl) (bits : List NewBit) (shapes : Shapes bits) → new.cells ≡ Some (map (λ (b : NewBit). name_read b.name) bits) → (u d : Token) (at : ℕ) → u.text ≡ codes "ScanCells" → d.text ≡ 59 ∷ []
      → IsNewCells new (word_clause u (laid at (cell_pieces marks out bits shapes) ++ d ∷ []))
  new_cells new bits shapes meant u d at word is =
      let ts = laid at (cell_pieces marks out bits shapes) ++ d ∷ [] in
      let list = put_cells no_cells (cell_list bits) in
      record {
        list = list;
        place = cells_span u d.start;
        is = as_cells u ts word ∙ ap (clause_by (λ (n : CellList × ℕ). Cells n.0 (cells_span u n.1))) (cells_law d (cell_list bits) ts is (cells_are d is bits shapes at));
        meant = meant ∙ ap Some (sym (names_are bits no_cells));
      }
