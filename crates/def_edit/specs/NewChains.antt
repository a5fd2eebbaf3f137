-- How chains with other elements are laid out (LEF/DEF 5.8, SCANCHAINS).
use Rattle.std.specs.Prelude.{◌≡◌, ℕ, ◌+◌, ◌<◌, ◌≤◌, Bool, true, ◌||◌, List, [], ◌∷◌, ◌++◌, length, map, Option, Some, None, option_map, unwrap_or}
use Rattle.std.specs.List.{find, list_all, AllByRecursion as Each}
use Rattle.std.specs.Str.{bytes_eq}
use Rattle.base_types.specs.Names.{plain_name}
use Rattle.def_tokens.specs.DefTokens.{is_black}
use Rattle.def_syntax.specs.declared.chain.Chain.{Chain}
use Rattle.def_syntax.specs.declared.chain.Terminal.{Terminal}
use Rattle.def_syntax.specs.declared.chain.Terminal.TheVariants as terminals
use Rattle.def_syntax.specs.declared.chain.Partition.{Partition}
use Rattle.def_syntax.specs.declared.design.Located.{Located}
use Rattle.def_reader.specs.declared.design.Component.{Component}
use Rattle.def_reader.specs.declared.design.Design.{Design}
use Rattle.def_reader.specs.declared.design.Element.{Element}
use Rattle.def_reader.specs.declared.design.ElementList.{ElementList}
use Rattle.def_reader.specs.declared.design.ElementList.TheVariants as lists
use Rattle.def_reader.specs.declared.design.EndText.{EndText}
use Rattle.def_reader.specs.declared.design.EndText.TheVariants as ends
use Rattle.def_reader.specs.declared.design.ScanChainText.{ScanChainText}
use Rattle.def_reader.specs.Numbers.{bits_of}
use Rattle.def_layout.specs.declared.chains.ElementLayout.{ElementLayout}
use Rattle.def_layout.specs.declared.chains.TerminalLayout.{TerminalLayout}
use Rattle.def_layout.specs.declared.chains.TerminalLayout.TheVariants as written
use Rattle.def_layout.specs.declared.chains.PartitionLayout.{PartitionLayout}
use Rattle.def_layout.specs.declared.chains.ChainLayout.{ChainLayout}
use Rattle.def_layout.specs.SectionForms.{is_name}
use Rattle.def_edit.specs.declared.chains.NewElement.{NewElement}
use Rattle.def_edit.specs.declared.chains.NewChain.{NewChain}
use Rattle.def_edit.specs.Words.{word_for, component_word, end_word}

-- an element: its component as COMPONENTS writes it
abbrev pub element_layout : List Component → NewElement → ElementLayout
element_layout components e = record { name = component_word components e.component e.component; input = word_for e.input; output = word_for e.output; bits = e.bits }

-- where a chain starts or stops: at a design pin as the chain's statement wrote it; else at a component, and this pin. A word whose end
-- would be cut off before a blank is escaped
abbrev pub terminal_layout : List Component → Terminal → List ℕ → TerminalLayout
terminal_layout components (terminals.AtPin port) pin = written.AtPin (word_for port)
terminal_layout components (terminals.AtCell component other) pin = written.AtCell (word_for (end_word components component)) (word_for pin)

-- the number of MAXBITS
abbrev pub max_bits : Option (List ℕ) → Option ℕ
max_bits None = None
max_bits (Some word) = Some (unwrap_or (bits_of word) 0)

-- the partition as it was written, with the number of MAXBITS where that stood
abbrev pub partition_layout : Partition → PartitionLayout
partition_layout p = record { name = word_for p.name; max_bits = max_bits p.max_bits }

-- a chain's statement with other elements
abbrev pub chain_layout : List Component → Chain → NewChain → ChainLayout
chain_layout components c new =
    record {
      name = c.name;
      partition = option_map partition_layout c.partition;
      start = terminal_layout components c.start new.start;
      stop = terminal_layout components c.stop new.stop;
      floating = map (element_layout components) new.floating;
      ordered = map (map (element_layout components)) new.ordered;
    }

-- the chains side by side with what they become
unfoldable pub chain_layouts : List Component → List (Located Chain) → List NewChain → List ChainLayout
chain_layouts components [] news = []
chain_layouts components (c ∷ cs) [] = []
chain_layouts components (c ∷ cs) (new ∷ news) = chain_layout components c.statement new ∷ chain_layouts components cs news

-- what an element is read as: a name of DEF has no backslashes
abbrev pub new_element : NewElement → Element
new_element e = record { component = e.component; input = Some (plain_name e.input); output = Some (plain_name e.output); bits = Some e.bits }

-- the floating list, if there is one
abbrev pub floating_list : List NewElement → List ElementList
floating_list [] = []
floating_list (e ∷ es) = lists.Floating (map new_element (e ∷ es)) ∷ []

-- an end of a chain, with this pin at a cell
abbrev pub new_end : EndText → List ℕ → EndText
new_end (ends.Port name) pin = ends.Port name
new_end (ends.Cell component other) pin = ends.Cell component (Some (plain_name pin))

-- a chain with other elements
abbrev pub new_chain : ScanChainText → NewChain → ScanChainText
new_chain c new = record {
  name = c.name;
  partition = c.partition;
  max_bits = c.max_bits;
  has_max_bits = c.has_max_bits;
  start = new_end c.start new.start;
  stop = new_end c.stop new.stop;
  lists = floating_list new.floating ++ map (λ es. lists.Ordered (map new_element es)) new.ordered;
  line = c.line;
}

-- the chains side by side with what they become
abbrev pub new_chains_of : List ScanChainText → List NewChain → List ScanChainText
new_chains_of [] news = []
new_chains_of (c ∷ cs) [] = []
new_chains_of (c ∷ cs) (new ∷ news) = new_chain c new ∷ new_chains_of cs news

-- a name that a word of DEF is read as: a name of DEF itself, or one without blanks
abbrev pub is_plain : List ℕ → Bool
is_plain name = is_name name || list_all is_black name

-- the design has a component of this name
abbrev pub HasComponent : Design → List ℕ → Type 0
HasComponent d name = (c : Component) × (find (λ x. bytes_eq x.name name) d.components ≡ Some c)

-- an element of a component of the design, with pins that can be written and at most 262144 bits
pub record IsNewElement (d : Design) (e : NewElement) : Type 0 where
  pub component : HasComponent d e.component
  pub input : is_plain e.input ≡ true
  pub output : is_plain e.output ≡ true
  pub bits : e.bits ≤ 262144

-- the pin of an end at a cell can be written
abbrev pub IsNewEnd : EndText → List ℕ → Type 0
IsNewEnd (ends.Port name) pin = Unit {0}
IsNewEnd (ends.Cell component other) pin = is_plain pin ≡ true

-- a chain has an element, and so has each of its ordered lists
pub record IsNewChain (d : Design) (c : ScanChainText) (new : NewChain) : Type 0 where
  pub start : IsNewEnd c.start new.start
  pub stop : IsNewEnd c.stop new.stop
  pub floating : Each (IsNewElement d) new.floating
  pub ordered : Each (λ es. (0 < length es) × Each (IsNewElement d) es) new.ordered
  pub some : 0 < length new.floating + length new.ordered

-- one for each chain of the design
abbrev pub AreNewChains : Design → List ScanChainText → List NewChain → Type 0
AreNewChains d [] [] = Unit {0}
AreNewChains d [] (new ∷ news) = ⊥
AreNewChains d (c ∷ cs) [] = ⊥
AreNewChains d (c ∷ cs) (new ∷ news) = IsNewChain d c new × AreNewChains d cs news
