-- What the statements of a DEF text are, and its first fault of form (LEF/DEF 5.8, in this profile).
use Rattle.std.specs.Prelude.{◌≡◌, ◌≤◌, ℕ, true, false, List, [], ◌∷◌, ◌++◌, Some, None, Result, Ok, Err, codes}
use Rattle.std.specs.List.{flat_map, AllByRecursion as Each}
use Rattle.base_types.specs.Lines.{line_at}
use Rattle.base_types.specs.Faults.{at_line}
use Rattle.base_types.specs.declared.fault.Fault.{Fault}
use Rattle.base_types.specs.declared.fault.FileKind.TheVariants.{Def}
use Rattle.base_types.specs.declared.fault.ReadFault.{ReadFault}
use Rattle.base_types.specs.declared.fault.ReadFault.TheVariants as faults
use Rattle.base_types.specs.declared.kind.Kind.TheVariants.{DefSyntax}
use Rattle.token_forms.specs.Tokens.{Token, place_of}
use Rattle.token_forms.specs.Forms.{Form}
use Rattle.def_tokens.specs.DefTokens.{tokens_in}
use Rattle.def_tokens.specs.DefStatements.{def_statements}
use Rattle.def_syntax.specs.Grammar.{units, component, design_pin, net, chain}
use Rattle.def_syntax.specs.Frames.{word_of, opened_by, is_end, is_head, Block, Outside, Section, Begun, Frame, IsFrame, outside, within, start_of}
use Rattle.def_syntax.specs.declared.frame.SectionKind.{SectionKind}
use Rattle.def_syntax.specs.declared.frame.SectionKind.TheVariants.{Components, Pins, Nets, ScanChains}
use Rattle.def_syntax.specs.declared.design.Section.{Section as SectionRow}
use Rattle.def_syntax.specs.declared.design.Located.{Located}
use Rattle.def_syntax.specs.declared.design.DesignText.{DesignText}

-- the statements of a text
abbrev pub statements_of : List ℕ → List (List Token)
statements_of text = def_statements (tokens_in text)

-- none of the statements is END DESIGN
abbrev pub NoneCloses : List (List Token) → Type 0
NoneCloses ss = Each (λ s. is_end (codes "DESIGN") s ≡ false) ss

-- the text's statements up to the first END DESIGN
pub record IsBody (text : List ℕ) (body : List (List Token)) : Type 0 where
  pub end : List Token
  pub behind : List (List Token)
  pub is : statements_of text ≡ body ++ end ∷ behind
  pub ends : is_end (codes "DESIGN") end ≡ true
  pub first : NoneCloses body

-- the form spells the value by the statement's tokens, and these are its place and its line
pub record IsLocated {X : Type 0} (form : Form X) (text : List ℕ) (s : List Token) (x : Located X) : Type 0 where
  pub spelled : form.spells x.statement s
  pub span : x.span ≡ place_of s
  pub line : x.line ≡ line_at text (start_of s)

-- each of the statements is so
abbrev pub AreLocated : {X : Type 0} → Form X → List ℕ → List (List Token) → List (Located X) → Type 0
AreLocated form text [] [] = Unit {0}
AreLocated form text [] (x ∷ xs) = ⊥
AreLocated form text (s ∷ ss) [] = ⊥
AreLocated form text (s ∷ ss) (x ∷ xs) = IsLocated form text s x × AreLocated form text ss xs

-- no value is spelled by the statement
abbrev pub HasNoForm : {X : Type 0} → Form X → List Token → Type 0
HasNoForm {X} form s = (x : X) → form.spells x s → ⊥

-- one of the statements is of the form, and no second one
pub record IsOnly {X : Type 0} (form : Form X) (text : List ℕ) (ss : List (List Token)) (x : Located X) : Type 0 where
  pub front : List (List Token)
  pub statement : List Token
  pub behind : List (List Token)
  pub is : ss ≡ front ++ statement ∷ behind
  pub located : IsLocated form text statement x
  pub others : Each (HasNoForm form) (front ++ behind)

-- a section begins with a word, a count and a semicolon
abbrev pub BeginsWell : Block → Type 0
BeginsWell (Outside s) = Unit {0}
BeginsWell (Section kind first inner last) = is_head first ≡ true

-- a section: from its first token to the token behind its END
abbrev pub section_in : List ℕ → Block → List SectionRow
section_in text (Outside s) = []
section_in text (Section kind first inner last) = record { kind = kind; span = record { start = start_of first; end = (place_of last).end }; line = line_at text (start_of first) } ∷ []

-- the text has this value
pub record IsDesignText (text : List ℕ) (d : DesignText) : Type 0 where
  pub body : List (List Token)
  pub closed : IsBody text body
  pub blocks : List Block
  pub framed : IsFrame (record { blocks = blocks; begun = None }) body
  pub heads : Each BeginsWell blocks
  pub units : IsOnly units text (outside blocks) d.units
  pub components : AreLocated component text (within Components blocks) d.components
  pub pins : AreLocated design_pin text (within Pins blocks) d.pins
  pub nets : AreLocated net text (within Nets blocks) d.nets
  pub chains : AreLocated chain text (within ScanChains blocks) d.chains
  pub sections : d.sections ≡ flat_map (section_in text) blocks

-- the statement is of no form of the section's
abbrev pub HasNoFormIn : SectionKind → List Token → Type 0
HasNoFormIn Components s = HasNoForm component s
HasNoFormIn Pins s = HasNoForm design_pin s
HasNoFormIn Nets s = HasNoForm net s
HasNoFormIn ScanChains s = HasNoForm chain s

-- no END DESIGN stands in the text
abbrev pub HasNoEnd : List ℕ → Type 0
HasNoEnd text = NoneCloses (statements_of text)

-- no UNITS of its form stands in it outside sections
pub record HasNoUnits (text : List ℕ) : Type 0 where
  pub body : List (List Token)
  pub frame : Frame
  pub closed : IsBody text body
  pub framed : IsFrame frame body
  pub none : Each (HasNoForm units) (outside frame.blocks)

-- a section isn't closed, whose first statement is this
pub record IsUnclosed (text : List ℕ) (s : List Token) : Type 0 where
  pub body : List (List Token)
  pub blocks : List Block
  pub begun : Begun
  pub closed : IsBody text body
  pub framed : IsFrame (record { blocks = blocks; begun = Some begun }) body
  pub first : begun.first ≡ s

-- a statement of the body, with the blocks before it
pub record StandsBehind (text : List ℕ) (f : Frame) (s : List Token) : Type 0 where
  pub front : List (List Token)
  pub rest : List (List Token)
  pub closed : IsBody text (front ++ s ∷ rest)
  pub framed : IsFrame f front

-- the statement opens a section, and isn't of the form of a section's first
pub record IsNoHead (text : List ℕ) (s : List Token) : Type 0 where
  pub blocks : List Block
  pub kind : SectionKind
  pub stands : StandsBehind text (record { blocks = blocks; begun = None }) s
  pub opens : opened_by s ≡ Some kind
  pub none : is_head s ≡ false

-- the statement stands within a section, and is of no form there
pub record IsOfNoForm (text : List ℕ) (s : List Token) : Type 0 where
  pub blocks : List Block
  pub begun : Begun
  pub stands : StandsBehind text (record { blocks = blocks; begun = Some begun }) s
  pub inside : is_end (word_of begun.kind) s ≡ false
  pub none : HasNoFormIn begun.kind s

-- the statement is UNITS of its form outside sections, and another one stands before it
pub record IsSecond (text : List ℕ) (s : List Token) : Type 0 where
  pub blocks : List Block
  pub stands : StandsBehind text (record { blocks = blocks; begun = None }) s
  pub opens : opened_by s ≡ None
  pub here : (x : _) × units.spells x s
  pub before : Each (HasNoForm units) (outside blocks) → ⊥

-- a fault stands at this place: at the beginning, or at the first token of a statement
pub data StandsAt (text : List ℕ) (at : ℕ) : Type 0 where
  NoEnd : HasNoEnd text → at ≡ 0 → StandsAt text at
  NoUnits : HasNoUnits text → at ≡ 0 → StandsAt text at
  Unclosed : (s : List Token) → IsUnclosed text s → at ≡ start_of s → StandsAt text at
  NoHead : (s : List Token) → IsNoHead text s → at ≡ start_of s → StandsAt text at
  NoForm : (s : List Token) → IsOfNoForm text s → at ≡ start_of s → StandsAt text at
  Second : (s : List Token) → IsSecond text s → at ≡ start_of s → StandsAt text at

-- the fault is the one at the least place
pub record IsFirstFault (text : List ℕ) (f : Fault) : Type 0 where
  pub at : ℕ
  pub stands : StandsAt text at
  pub least : (other : ℕ) → StandsAt text other → at ≤ other
  pub is : f ≡ at_line DefSyntax Def (line_at text at)

-- the value of the text, and no other is; or its first fault, and it has no value; which want of memory may hide
abbrev pub IsExactDesign : List ℕ → Result DesignText ReadFault → Type 0
IsExactDesign text (Ok d) = IsDesignText text d × ((e : DesignText) → IsDesignText text e → e ≡ d) × ((at : ℕ) → StandsAt text at → ⊥)
IsExactDesign text (Err (faults.Fault f)) = IsFirstFault text f × ((d : DesignText) → IsDesignText text d → ⊥)
IsExactDesign text (Err faults.NoMemory) = Unit {0}
