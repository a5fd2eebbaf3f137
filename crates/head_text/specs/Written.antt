-- The written form of a STIL head (IEEE 1450-1999, ScanStructures): other numbers and other lists of cells, every other byte as it was.
use Rattle.std.specs.Prelude.{◌≡◌, ℕ, zero, suc, ◌+◌, ◌-◌, ◌<◌, Bool, true, false, ◌&&◌, nat_le, if◌then◌else◌, List, [], ◌∷◌, ◌++◌, length, take, drop, map, codes, decimal, Option, Some, None, ⊤}
use Rattle.std.specs.List.{flat_map}
use Rattle.std.specs.Str.{bytes_eq}
use Rattle.base_types.specs.declared.span.Span.{Span}
use Rattle.token_forms.specs.Tokens.{Token, front_of}
use Rattle.splice.specs.declared.Edit.{Edit}
use Rattle.splice.specs.Spliced.{spliced}
use Rattle.stil_tokens.specs.StilTokens.{tokens_in}
use Rattle.stil_tokens.specs.StilStatements.{is_only}
use Rattle.stil_types.specs.declared.head.ScanChainDecl.{ScanChainDecl}
use Rattle.stil_types.specs.declared.head.StilHead.{StilHead}
use Rattle.stil_syntax.specs.Names.{name_at}
use Rattle.stil_blocks.specs.declared.cells.Cell.{Cell}
use Rattle.stil_blocks.specs.declared.cells.CellList.{CellList}
use Rattle.stil_blocks.specs.Statements.{is_end, start_of}
use Rattle.stil_blocks.specs.Chains.{cell_at, put_cell, no_cells, cells_at}

-- the bytes of the names of a list as they stand, with their quotes, of no more than so many tokens
unfoldable pub name_texts_within : ℕ → List Token → List (List ℕ)
name_texts_within zero ts = []
name_texts_within (suc n) [] = []
name_texts_within (suc n) (t ∷ ts) =
    if bytes_eq t.text (codes "!") then name_texts_within n ts
    else (elim (name_at (t ∷ ts)) [ None ↦ [] | Some name ↦ flat_map (λ u. u.text) (front_of (t ∷ ts) name.1) ∷ name_texts_within n name.1 ])

-- those of the list at a place of a text
abbrev pub name_texts : List ℕ → Span → List (List ℕ)
name_texts text at = let ts = tokens_in (take (at.end - at.start) (drop at.start text)) in name_texts_within (length ts) ts

-- the name in front of tokens, where one stands
abbrev pub name_in : Option (List ℕ × List Token) → List ℕ
name_in None = []
name_in (Some n) = n.0

-- what the bytes of a name are read as
abbrev pub name_read : List ℕ → List ℕ
name_read text = name_in (name_at (tokens_in text))

-- a bit of a chain: its name as it stood, and whether the path inverts before it
pub record NewBit : Type 0 where
  pub name : List ℕ
  pub inverts : Bool

-- what a chain is to say: its bits in their order, whether the path inverts behind the last, and its whole inversion
pub record NewChain : Type 0 where
  pub bits : List NewBit
  pub out_inverts : Bool
  pub inversion : Bool

-- the mark of a cell that inverts, a blank before it
abbrev pub mark_if : Bool → List ℕ
mark_if mark = if mark then codes " !" else []

-- the list of cells; marks tells whether any list of the read head has a !
abbrev pub cells_text : Bool → NewChain → List ℕ
cells_text marks new = flat_map (λ b. mark_if (marks && b.inverts) ++ 32 ∷ b.name) new.bits ++ mark_if (marks && new.out_inverts)

-- 0 or 1
abbrev pub bit_text : Bool → List ℕ
bit_text bit = if bit then codes "1" else codes "0"

-- a text in place of the bytes of a span
abbrev pub edit_at : Span → List ℕ → Edit
edit_at at text = record { span = at; text = text }

-- an edit, where there is a place for it
abbrev pub edit_if : Option Span → List ℕ → List Edit
edit_if None text = []
edit_if (Some at) text = edit_at at text ∷ []

-- in the order of their places
abbrev pub put_edit : Edit → List Edit → List Edit
put_edit e [] = e ∷ []
put_edit e (f ∷ fs) = if nat_le e.span.start f.span.start then e ∷ f ∷ fs else f ∷ put_edit e fs

-- edits in the order of their places
abbrev pub sorted_edits : List Edit → List Edit
sorted_edits [] = []
sorted_edits (e ∷ es) = put_edit e (sorted_edits es)

-- the up to three edits of a chain, in whatever order its statements stand
abbrev pub chain_edits : Bool → ScanChainDecl → NewChain → List Edit
chain_edits marks old new =
    sorted_edits (edit_at old.length_at (decimal (length new.bits)) ∷ (edit_if old.inversion_at (bit_text new.inversion) ++ edit_if old.cells_at (cells_text marks new)))

-- those of all chains
abbrev pub head_edits : Bool → List ScanChainDecl → List NewChain → List Edit
head_edits marks (c ∷ cs) (n ∷ ns) = chain_edits marks c n ++ head_edits marks cs ns
head_edits marks cs ns = []

-- the head with other chains
abbrev pub written_head : List NewChain → StilHead → List ℕ → List ℕ
written_head new head text = spliced text (head_edits head.marks head.chains new)

-- the inversion and the cells that are declared anew, where there were some
abbrev pub inversion_anew : Option Bool → Bool → Option Bool
inversion_anew None bit = None
inversion_anew (Some old) bit = Some bit

-- new names where names stood
abbrev pub cells_anew : Option (List (List ℕ)) → List (List ℕ) → Option (List (List ℕ))
cells_anew None names = None
cells_anew (Some old) names = Some names

-- what the written text declares of a chain
abbrev pub declared_chain : ScanChainDecl → NewChain → ScanChainDecl
declared_chain old new = record {
  name = old.name;
  length = length new.bits;
  scan_in = old.scan_in;
  scan_out = old.scan_out;
  inversion = inversion_anew old.inversion new.inversion;
  cells = cells_anew old.cells (map (λ (b : NewBit). name_read b.name) new.bits);
  length_at = old.length_at;
  inversion_at = old.inversion_at;
  cells_at = old.cells_at;
  line = old.line;
}

-- of all chains
abbrev pub declared : List ScanChainDecl → List NewChain → List ScanChainDecl
declared (c ∷ cs) (n ∷ ns) = declared_chain c n ∷ declared cs ns
declared cs ns = []
