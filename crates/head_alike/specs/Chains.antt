-- What a ScanChain block says anew: another length, another inversion and other cells where there were some, and else what it said
-- (IEEE 1450-1999, ScanStructures).
use Rattle.std.specs.Prelude.{◌≡◌, ℕ, Bool, true, false, List, [], ◌∷◌, ◌++◌, map, codes, Some, is_some, ⊤}
use Rattle.base_types.specs.declared.span.Span.{Span}
use Rattle.token_forms.specs.Tokens.{Token}
use Rattle.token_forms.specs.Classes.{is_among}
use Rattle.head_alike.specs.Steps.{Step, Keep, Anew, olds, news, AreSteps, starts_behind, changed_words}
use Rattle.stil_types.specs.declared.head.ScanChainDecl.{ScanChainDecl}
use Rattle.stil_syntax.specs.Shapes.{behind_labels}
use Rattle.stil_blocks.specs.declared.cells.CellList.{CellList}
use Rattle.stil_blocks.specs.declared.clause.Clause.{Clause}
use Rattle.stil_blocks.specs.declared.clause.Clause.TheVariants.{Length, In, Out, Inversion, Cells, OutLength, Passed, NoForm}
use Rattle.stil_blocks.specs.declared.chain.ReadChain.{ReadChain}
use Rattle.stil_blocks.specs.Chains.{clause_of, chain_at, word_clause, length_of, bit_of}
use Rattle.stil_blocks.specs.Statements.{statements_in}

-- an inversion, with what the new declaration says
pub record IsNewInversion (new : ScanChainDecl) (c : Clause) : Type 0 where
  pub bit : Bool
  pub place : Span
  pub is : c ≡ Inversion bit place
  pub meant : new.inversion ≡ Some bit

-- a list of cells with the names of the new declaration
pub record IsNewCells (new : ScanChainDecl) (c : Clause) : Type 0 where
  pub list : CellList
  pub place : Span
  pub is : c ≡ Cells list place
  pub meant : new.cells ≡ Some list.names

-- the length of the new declaration
pub record IsNewLength (new : ScanChainDecl) (c : Clause) : Type 0 where
  pub place : Span
  pub is : c ≡ Length new.length place

-- what a statement says anew
abbrev pub IsTurned : ScanChainDecl → Clause → Clause → Type 0
IsTurned new (Length n at) c = IsNewLength new c
IsTurned new (Inversion bit at) c = IsNewInversion new c
IsTurned new (Cells list at) c = IsNewCells new c
IsTurned new (In port) c = c ≡ In port
IsTurned new (Out port) c = c ≡ Out port
IsTurned new OutLength c = c ≡ OutLength
IsTurned new Passed c = c ≡ Passed
IsTurned new NoForm c = c ≡ NoForm

-- statements side by side in a block
abbrev pub AreTurned : ScanChainDecl → List Clause → List Clause → Type 0
AreTurned new [] [] = Unit {0}
AreTurned new (c ∷ cs) (d ∷ ds) = IsTurned new c d × AreTurned new cs ds
AreTurned new cs ds = ⊥

-- what the statements in the block of a ScanChain say
abbrev pub clauses_in : List Token → List Clause
clauses_in s = map clause_of (statements_in s)

-- as declared, wherever it stands
pub record SaysAs (new decl : ScanChainDecl) : Type 0 where
  pub name : decl.name ≡ new.name
  pub length : decl.length ≡ new.length
  pub scan_in : decl.scan_in ≡ new.scan_in
  pub scan_out : decl.scan_out ≡ new.scan_out
  pub inversion : decl.inversion ≡ new.inversion
  pub cells : decl.cells ≡ new.cells

-- a new declaration for one that was read: the same names, and an inversion and cells where there were some
pub record IsNewFor (old new : ScanChainDecl) : Type 0 where
  pub name : new.name ≡ old.name
  pub scan_in : new.scan_in ≡ old.scan_in
  pub scan_out : new.scan_out ≡ old.scan_out
  pub inversion : is_some new.inversion ≡ is_some old.inversion
  pub cells : is_some new.cells ≡ is_some old.cells

-- the chain as it is read again
pub record IsReadAnew (new : ScanChainDecl) (text : List ℕ) (s : List Token) (old : ReadChain) : Type 0 where
  pub chain : ReadChain
  pub is : chain_at text s ≡ Some chain
  pub says : SaysAs new chain.decl
  pub out_length : chain.out_length ≡ old.out_length

-- a statement that says nothing of what may change
abbrev pub IsOtherClause : Clause → Type 0
IsOtherClause (Length n at) = ⊥
IsOtherClause (Inversion bit at) = ⊥
IsOtherClause (Cells list at) = ⊥
IsOtherClause (In port) = ⊤
IsOtherClause (Out port) = ⊤
IsOtherClause OutLength = ⊤
IsOtherClause Passed = ⊤
IsOtherClause NoForm = ⊥

-- a statement that says anew what is declared
abbrev pub IsTurnedRow : ScanChainDecl → List Step → Type 0
IsTurnedRow new s = IsTurned new (clause_of (olds s)) (clause_of (news s))

-- one that says nothing of what may change does
abbrev pub StaysLaw : Type 0
StaysLaw = (new : ScanChainDecl) (s : List Step) → AreSteps true true s → IsOtherClause (clause_of (olds s)) → IsTurnedRow new s

-- one whose word stands last but for what is written anew does, where that says what is declared
abbrev pub SaidLaw : Type 0
SaidLaw = (new : ScanChainDecl) (f : List Step) (t u : Token) (xs ys : List Token) (c d : Token) → AreSteps true true (f ++ Anew t u xs ys c d ∷ [])
    → behind_labels (olds (f ++ Anew t u xs ys c d ∷ [])) ≡ t ∷ (xs ++ c ∷ []) → IsTurned new (word_clause t (xs ++ c ∷ [])) (word_clause u (ys ++ d ∷ []))
    → IsTurnedRow new (f ++ Anew t u xs ys c d ∷ [])

-- another number from 1 behind ScanLength
abbrev pub LengthLaw : Type 0
LengthLaw = (new : ScanChainDecl) (t u x y c d : Token) → t.text ≡ codes "ScanLength" → u.text ≡ codes "ScanLength" → c.text ≡ 59 ∷ [] → d.text ≡ 59 ∷ [] → is_some (length_of x.text) ≡ true → length_of y.text ≡ Some new.length
    → IsTurned new (word_clause t (x ∷ c ∷ [])) (word_clause u (y ∷ d ∷ []))

-- the same for ScanInversion, 0 or 1
abbrev pub InversionLaw : Type 0
InversionLaw = (new : ScanChainDecl) (bit : Bool) (t u x y c d : Token) → t.text ≡ codes "ScanInversion" → u.text ≡ codes "ScanInversion" → c.text ≡ 59 ∷ [] → d.text ≡ 59 ∷ [] → is_some (bit_of x.text) ≡ true
    → bit_of y.text ≡ Some bit → new.inversion ≡ Some bit → IsTurned new (word_clause t (x ∷ c ∷ [])) (word_clause u (y ∷ d ∷ []))
