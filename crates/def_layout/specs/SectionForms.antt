-- What the section SCANCHAINS that is written is read as.
use Rattle.std.specs.Prelude.{◌≡◌, ℕ, Bool, true, ◌&&◌, not, List, [], ◌∷◌, ◌++◌, map, codes, decimal, Option, Some, None}
use Rattle.std.specs.List.{flat_map, list_all}
use Rattle.std.specs.Str.{bytes_eq}
use Rattle.token_forms.specs.Tokens.{Token}
use Rattle.token_forms.specs.Parts.{token_texts}
use Rattle.token_forms.specs.Classes.{But, is_in}
use Rattle.token_forms.specs.Forms.{Form}
use Rattle.def_tokens.specs.DefStatements.{def_statements}
use Rattle.def_syntax.specs.Words.{marks}
use Rattle.def_syntax.specs.Grammar.{chain}
use Rattle.def_syntax.specs.Pieces.{some_list}
use Rattle.def_syntax.specs.Frames.{is_head, IsBlock, Section}
use Rattle.def_syntax.specs.declared.frame.SectionKind.TheVariants.{ScanChains}
use Rattle.def_syntax.specs.declared.element.Element.{Element}
use Rattle.def_syntax.specs.declared.element.ElementList.{ElementList}
use Rattle.def_syntax.specs.declared.element.ElementList.TheVariants as lists
use Rattle.def_syntax.specs.declared.chain.Terminal.{Terminal}
use Rattle.def_syntax.specs.declared.chain.Terminal.TheVariants as terminals
use Rattle.def_syntax.specs.declared.chain.Partition.{Partition}
use Rattle.def_syntax.specs.declared.chain.Chain.{Chain}
use Rattle.def_layout.specs.declared.chains.ElementLayout.{ElementLayout}
use Rattle.def_layout.specs.declared.chains.TerminalLayout.{TerminalLayout}
use Rattle.def_layout.specs.declared.chains.TerminalLayout.TheVariants as written
use Rattle.def_layout.specs.declared.chains.PartitionLayout.{PartitionLayout}
use Rattle.def_layout.specs.declared.chains.ChainLayout.{ChainLayout}
use Rattle.def_layout.specs.Words.{is_whole, HasWords}
use Rattle.def_layout.specs.Sections.{head_words, chain_lines, end_line}

-- a word that is a name of DEF, and one token before a blank
abbrev pub is_name : List ℕ → Bool
is_name w = is_whole w && is_in (But marks) w

-- the element's words are names
abbrev pub names_element : ElementLayout → Bool
names_element e = is_name e.name && (is_name e.input && is_name e.output)

-- so are those of a start or a stop, of which PIN is no component
abbrev pub names_terminal : TerminalLayout → Bool
names_terminal (written.AtPin pin) = is_name pin
names_terminal (written.AtCell component pin) = (is_name component && not (bytes_eq component (codes "PIN"))) && is_name pin

-- so is that of a partition
abbrev pub names_partition : Option PartitionLayout → Bool
names_partition None = true
names_partition (Some p) = is_name p.name

-- an ordered list has an element, and its words are names
abbrev pub names_list : List ElementLayout → Bool
names_list es = some_list es && list_all names_element es

-- a list of the chain has an element, and so has each of its ordered lists
abbrev pub some_element : ChainLayout → Bool
some_element c = some_list (c.floating ++ flat_map (λ es. es) c.ordered)

-- the chain has an element, no empty list, and names alone
abbrev pub is_written_well : ChainLayout → Bool
is_written_well c =
    (is_name c.name && names_partition c.partition) && ((names_terminal c.start && names_terminal c.stop) && ((list_all names_element c.floating && list_all names_list c.ordered) && some_element c))

-- what an element is read as
abbrev pub element_of : ElementLayout → Element
element_of e = record { name = e.name; input = Some e.input; output = Some e.output; bits = Some (decimal e.bits) }

-- the number behind MAXBITS
abbrev pub max_bits_of : Option ℕ → Option (List ℕ)
max_bits_of None = None
max_bits_of (Some n) = Some (decimal n)

-- what a partition is read as
abbrev pub partition_of : Option PartitionLayout → Option Partition
partition_of None = None
partition_of (Some p) = Some (record { name = p.name; max_bits = max_bits_of p.max_bits })

-- what a start or a stop is read as
abbrev pub terminal_of : TerminalLayout → Terminal
terminal_of (written.AtPin pin) = terminals.AtPin pin
terminal_of (written.AtCell component pin) = terminals.AtCell component (Some pin)

-- the floating list, if there is one
abbrev pub floating_of : List ElementLayout → List ElementList
floating_of [] = []
floating_of (e ∷ es) = lists.Floating (map element_of (e ∷ es)) ∷ []

-- what a chain is read as
abbrev pub read_chain : ChainLayout → Chain
read_chain c =
    record {
      name = c.name;
      partition = partition_of c.partition;
      common_pins = None;
      start = terminal_of c.start;
      stop = terminal_of c.stop;
      lists = floating_of c.floating ++ map (λ es. lists.Ordered (map element_of es)) c.ordered;
    }

-- each statement spells its value
abbrev pub AreSpelled : {X : Type 0} → Form X → List X → List (List Token) → Type 0
AreSpelled form [] [] = Unit {0}
AreSpelled form [] (s ∷ ss) = ⊥
AreSpelled form (x ∷ xs) [] = ⊥
AreSpelled form (x ∷ xs) (s ∷ ss) = form.spells x s × AreSpelled form xs ss

-- the words of a chain
abbrev pub chain_words : ChainLayout → List (List ℕ)
chain_words c = flat_map (λ l. l.words) (chain_lines c)

-- the words of the section
abbrev pub section_words : List ChainLayout → List (List ℕ)
section_words cs = head_words cs ++ (flat_map chain_words cs ++ end_line.words)

-- the tokens are a section's statements, whatever stands behind them: the one that opens it, each of the chains, and its END
pub record IsSection (cs : List ChainLayout) (ts : List Token) : Type 0 where
  pub head : List Token
  pub inner : List (List Token)
  pub last : List Token
  pub is : (rest : List Token) → def_statements (ts ++ rest) ≡ head ∷ (inner ++ last ∷ def_statements rest)
  pub block : IsBlock (Section ScanChains head inner last)
  pub well : is_head head ≡ true
  pub chains : AreSpelled chain (map read_chain cs) inner

-- the text has the section's words wherever it stands before a blank or the end, and tokens of these words are the section
pub record IsSectionText (cs : List ChainLayout) (text : List ℕ) : Type 0 where
  pub words : HasWords text (section_words cs)
  pub reads : (ts : List Token) → token_texts ts ≡ section_words cs → IsSection cs ts
