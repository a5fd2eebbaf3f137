-- What a ScanChain block says (IEEE 1450-1999, ScanStructures, in this profile): ScanLength, ScanIn and ScanOut exactly once each,
-- ScanInversion and ScanCells at most once each.
use Rattle.std.specs.Prelude.{ℕ, zero, suc, ◌-◌, ◌^◌, Bool, true, false, ◌&&◌, nat_le, if◌then◌else◌, min}
use Rattle.std.specs.Prelude.{List, [], ◌∷◌, ◌++◌, length, map, drop, codes, Option, Some, None}
use Rattle.std.specs.List.{list_all, flat_map}
use Rattle.std.specs.Str.{bytes_eq}
use Rattle.base_types.specs.Names.{plain_name}
use Rattle.base_types.specs.Lines.{line_at}
use Rattle.base_types.specs.declared.span.Span.{Span}
use Rattle.token_forms.specs.Tokens.{Token}
use Rattle.token_forms.specs.Parsing.{◌>>=◌}
use Rattle.token_forms.specs.Forms.{put_all}
use Rattle.stil_syntax.specs.Digits.{is_digit, count_from}
use Rattle.stil_syntax.specs.Names.{name_at}
use Rattle.stil_syntax.specs.Shapes.{behind_labels}
use Rattle.stil_blocks.specs.declared.cells.Cell.{Cell}
use Rattle.stil_blocks.specs.declared.cells.Cell.TheVariants as cells
use Rattle.stil_blocks.specs.declared.cells.CellList.{CellList}
use Rattle.stil_blocks.specs.declared.clause.Clause.{Clause}
use Rattle.stil_blocks.specs.declared.clause.Clause.TheVariants.{Length, In, Out, Inversion, Cells, OutLength, Passed, NoForm}
use Rattle.stil_blocks.specs.declared.chain.ChainParts.{ChainParts}
use Rattle.stil_blocks.specs.declared.chain.ReadChain.{ReadChain}
use Rattle.stil_blocks.specs.Statements.{statements_of, start_of, span_of, is_whole, has_word, behind_word, begins_word, is_end, opens, statements_in}

-- the number of ScanLength: digits that write one from 1; one beyond 32 bits is the greatest of these
abbrev pub length_of : List ℕ → Option ℕ
length_of text = if list_all is_digit text && nat_le 1 (count_from 0 text) then Some (min (count_from 0 text) (2 ^ 32 - 1)) else None

-- n ;
abbrev pub length_at : List Token → Option (ℕ × Span)
length_at [] = None
length_at (t ∷ ts) = if is_end ts then (length_of t.text >>= λ n. Some (n, span_of t)) else None

-- a name is all that stands before the ;
abbrev pub sole_name : Option (List ℕ × List Token) → Option (List ℕ)
sole_name None = None
sole_name (Some n) = if is_end n.1 then Some n.0 else None

-- name ;    a port goes by its plain name
abbrev pub port_at : List Token → Option (List ℕ)
port_at ts = sole_name (name_at ts) >>= λ name. Some (plain_name name)

-- 0 or 1
abbrev pub bit_of : List ℕ → Option Bool
bit_of text = if bytes_eq text (codes "0") then Some false else (if bytes_eq text (codes "1") then Some true else None)

-- 0 ;    1 ;
abbrev pub inversion_at : List Token → Option (Bool × Span)
inversion_at [] = None
inversion_at (t ∷ ts) = if is_end ts then (bit_of t.text >>= λ bit. Some (bit, span_of t)) else None

-- a name of ScanCells, and what is left behind it
abbrev pub cell_by : Option (List ℕ × List Token) → Option (Cell × List Token)
cell_by None = None
cell_by (Some n) = Some (cells.Named n.0, n.1)

-- a ! or a name of ScanCells
unfoldable pub cell_at : List Token → Option (Cell × List Token)
cell_at ts = if begins_word (codes "!") ts then Some (cells.Mark, drop 1 ts) else cell_by (name_at ts)

-- a list, and a cell more
abbrev pub put_cell : CellList → Cell → CellList
put_cell list cells.Mark = record { names = list.names; marks = true }
put_cell list (cells.Named name) = record { names = list.names ++ name ∷ []; marks = list.marks }

-- names up to a ;, of which there are no more than so many, before, between and behind which a ! may stand; they are put to
-- others. Also where the ; stands
unfoldable pub cells_within : ℕ → CellList → List Token → Option (CellList × ℕ)
cells_within zero list ts = None
cells_within (suc n) list ts =
    if is_end ts then Some (list, start_of ts)
    else (elim (cell_at ts) [ None ↦ None | Some cell ↦ cells_within n (put_cell list cell.0) cell.1 ])

-- no name yet
abbrev pub no_cells : CellList
no_cells = record { names = []; marks = false }

-- names ;
abbrev pub cells_at : List Token → Option (CellList × ℕ)
cells_at ts = cells_within (length ts) no_cells ts

-- from the word's end to the ;
abbrev pub cells_span : Token → ℕ → Span
cells_span word end = record { start = word.end; end = end }

-- what is read of a form, or that it isn't of the form
abbrev pub clause_by : {A : Type 0} → (A → Clause) → Option A → Clause
clause_by made None = NoForm
clause_by made (Some a) = made a

-- a statement that may be missing, by its word and what stands behind it; other words pass unread
abbrev pub further_clause : Token → List Token → Clause
further_clause t ts =
    if bytes_eq t.text (codes "ScanInversion") then clause_by (λ b. Inversion b.0 b.1) (inversion_at ts)
    else (if bytes_eq t.text (codes "ScanCells") then clause_by (λ c. Cells c.0 (cells_span t c.1)) (cells_at ts)
    else (if bytes_eq t.text (codes "ScanOutLength") then OutLength else Passed))

-- a statement in a ScanChain by its word and what stands behind it
abbrev pub word_clause : Token → List Token → Clause
word_clause t ts =
    if bytes_eq t.text (codes "ScanLength") then clause_by (λ n. Length n.0 n.1) (length_at ts)
    else (if bytes_eq t.text (codes "ScanIn") then clause_by In (port_at ts)
    else (if bytes_eq t.text (codes "ScanOut") then clause_by Out (port_at ts)
    else further_clause t ts))

-- a statement by what stands behind its labels
abbrev pub unlabelled_clause : List Token → Clause
unlabelled_clause [] = Passed
unlabelled_clause (t ∷ ts) = word_clause t ts

-- what a statement in a ScanChain says
unfoldable pub clause_of : List Token → Clause
clause_of s = if is_whole s then unlabelled_clause (behind_labels s) else NoForm

-- nothing was said
abbrev pub no_parts : ChainParts
no_parts = record { length = None; scan_in = None; scan_out = None; inversion = None; cells = None; out_length = false }

-- a value where none was
abbrev pub once : {A : Type 0} → Option A → A → Option (Option A)
once None a = Some (Some a)
once (Some b) a = None

-- what was said, and one more; each is said at most once
abbrev pub put_clause : ChainParts → Clause → Option ChainParts
put_clause p (Length n at) =
    once p.length (n, at) >>= λ l. Some (record { length = l; scan_in = p.scan_in; scan_out = p.scan_out; inversion = p.inversion; cells = p.cells; out_length = p.out_length })
put_clause p (In port) =
    once p.scan_in port >>= λ i. Some (record { length = p.length; scan_in = i; scan_out = p.scan_out; inversion = p.inversion; cells = p.cells; out_length = p.out_length })
put_clause p (Out port) =
    once p.scan_out port >>= λ o. Some (record { length = p.length; scan_in = p.scan_in; scan_out = o; inversion = p.inversion; cells = p.cells; out_length = p.out_length })
put_clause p (Inversion bit at) =
    once p.inversion (bit, at) >>= λ v. Some (record { length = p.length; scan_in = p.scan_in; scan_out = p.scan_out; inversion = v; cells = p.cells; out_length = p.out_length })
put_clause p (Cells list at) =
    once p.cells (list, at) >>= λ c. Some (record { length = p.length; scan_in = p.scan_in; scan_out = p.scan_out; inversion = p.inversion; cells = c; out_length = p.out_length })
put_clause p OutLength = Some (record { length = p.length; scan_in = p.scan_in; scan_out = p.scan_out; inversion = p.inversion; cells = p.cells; out_length = true })
put_clause p Passed = Some p
put_clause p NoForm = None

-- the names of a list, and where it stands
abbrev pub cell_names : Option (CellList × Span) → Option (List (List ℕ))
cell_names None = None
cell_names (Some c) = Some c.0.names

-- a list has a !
abbrev pub has_marks : Option (CellList × Span) → Bool
has_marks None = false
has_marks (Some c) = c.0.marks

-- the value of a number that stands somewhere, and where it stands
abbrev pub value_of : {A : Type 0} → Option (A × Span) → Option A
value_of None = None
value_of (Some v) = Some v.0

-- where such a value stands
abbrev pub place_in : {A : Type 0} → Option (A × Span) → Option Span
place_in None = None
place_in (Some v) = Some v.1

-- a chain of this name, whose block begins at a place on a line, by what its block says; ScanLength, ScanIn and ScanOut are there
abbrev pub whole_chain : List ℕ → ℕ → ℕ → ChainParts → Option ReadChain
whole_chain name place line p =
    p.length >>= λ l. p.scan_in >>= λ i. p.scan_out >>= λ o. Some (record {
      place = place;
      decl = record {
        name = name;
        length = l.0;
        scan_in = i;
        scan_out = o;
        inversion = value_of p.inversion;
        cells = cell_names p.cells;
        length_at = l.1;
        inversion_at = place_in p.inversion;
        cells_at = place_in p.cells;
        line = line;
      };
      marks = has_marks p.cells;
      out_length = p.out_length;
    })

-- what the block of a ScanChain says, if its statements are of their forms
unfoldable pub parts_of : List (List Token) → Option ChainParts
parts_of ss = put_all put_clause no_parts (map clause_of ss)

-- a chain of this name by its block
abbrev pub block_chain : List ℕ → List ℕ → List Token → Option ReadChain
block_chain text name s = parts_of (statements_in s) >>= λ p. whole_chain name (start_of s) (line_at text (start_of s)) p

-- ScanChain name { .. } by its name, which is plain
abbrev pub named_chain : List ℕ → List Token → Option (List ℕ × List Token) → Option ReadChain
named_chain text s None = None
named_chain text s (Some n) = if opens n.1 then block_chain text (plain_name n.0) s else None

-- the chain that a ScanChain statement declares, if it is of its form
unfoldable pub chain_at : List ℕ → List Token → Option ReadChain
chain_at text s = if is_whole s then named_chain text s (name_at (behind_word s)) else None

-- a value as a list of one or none
abbrev pub listed : {A : Type 0} → Option A → List A
listed None = []
listed (Some a) = a ∷ []

-- the chain of a statement in ScanStructures, if it is one
unfoldable pub chain_in : List ℕ → List Token → List ReadChain
chain_in text s = if has_word (codes "ScanChain") s then listed (chain_at text s) else []

-- the chains of a statement of the head
unfoldable pub structure_chains : List ℕ → List Token → List ReadChain
structure_chains text s = if has_word (codes "ScanStructures") s then flat_map (chain_in text) (statements_in s) else []

-- the chains that a head declares, in order
abbrev pub chains_of : List ℕ → List ReadChain
chains_of text = flat_map (structure_chains text) (statements_of text)
