-- What the head of a STIL text denotes (IEEE 1450-1999, in this profile).
use Rattle.std.specs.Prelude.{◌≡◌, ℕ, ◌<◌, ◌≤◌, true, List, [], length, map, codes, Some, None}
use Rattle.std.specs.List.{flat_map, list_any}
use Rattle.base_types.specs.Faults.{at_line}
use Rattle.base_types.specs.Lines.{line_at}
use Rattle.base_types.specs.declared.fault.Fault.{Fault}
use Rattle.base_types.specs.declared.fault.FileKind.TheVariants.{Stil}
use Rattle.base_types.specs.declared.kind.Kind.TheVariants.{StilTwice, Unsupported}
use Rattle.token_forms.specs.Tokens.{Token}
use Rattle.stil_blocks.specs.declared.chain.ReadChain.{ReadChain}
use Rattle.stil_blocks.specs.declared.callee.ReadCallee.{ReadCallee}
use Rattle.list_laws.specs.Leasts.{least_of}
use Rattle.stil_types.specs.declared.head.StilHead.{StilHead}
use Rattle.stil_parts.specs.declared.gap.Comment.TheVariants.{Outside}
use Rattle.stil_parts.specs.declared.head.HeadTurn.{HeadTurn}
use Rattle.stil_parts.specs.declared.head.HeadTurn.TheVariants.{Here, Passed}
use Rattle.stil_parts.specs.Heads.{head_end}
use Rattle.stil_head.specs.Ends.{head_text}
use Rattle.stil_blocks.specs.Chains.{chains_of}
use Rattle.stil_blocks.specs.Callees.{callees_of, keywords_of, statement_keywords}
use Rattle.stil_head.specs.Twice.{twice_places, twice_among}
use Rattle.stil_head.specs.Unsupported.{unsupported_places, unsupported_in}
use Rattle.stil_head.specs.Faults.{syntax_places}

-- what is passed at the front is some of the bytes
abbrev pub HasTurn : List ℕ → HeadTurn → Type 0
HasTurn bytes Here = Unit {0}
HasTurn bytes (Passed n comment) = (0 < n) × (n ≤ length bytes)

-- the bytes before a place are a head in which nothing is wrong, and it says this
pub record IsHead (text : List ℕ) (head : StilHead) : Type 0 where
  pub no_syntax : syntax_places text ≡ []
  pub no_twice : twice_places text ≡ []
  pub no_unsupported : unsupported_places text ≡ []
  pub chains : head.chains ≡ map (λ c. c.decl) (chains_of text)
  pub procedures : head.procedures ≡ map (λ c. c.callee) (callees_of (codes "Procedures") text)
  pub macros : head.macros ≡ map (λ c. c.callee) (callees_of (codes "MacroDefs") text)
  pub keywords : head.keywords ≡ keywords_of text
  pub marks : head.marks ≡ list_any (λ c. c.marks) (chains_of text)

-- a text denotes a head
pub record DenotesHead (bytes : List ℕ) (head : StilHead) : Type 0 where
  pub ends : head_end true Outside 0 bytes ≡ Some head.end
  pub says : IsHead (head_text bytes) head

-- as the reader comes to it: with these chains, procedures and macros in some statements, none of them at fault, a head says this
pub record SaysAll (text : List ℕ) (chains : List ReadChain) (procedures macros : List ReadCallee) (ss : List (List Token)) (head : StilHead) : Type 0 where
  pub no_twice : least_of (twice_among chains procedures macros) ≡ None
  pub no_unsupported : least_of (unsupported_in chains procedures macros ss) ≡ None
  pub chains_are : head.chains ≡ map (λ c. c.decl) chains
  pub procedures_are : head.procedures ≡ map (λ c. c.callee) procedures
  pub macros_are : head.macros ≡ map (λ c. c.callee) macros
  pub keywords : head.keywords ≡ flat_map statement_keywords ss
  pub marks : head.marks ≡ list_any (λ c. c.marks) chains
  pub end : head.end ≡ length text

-- or one of them is at fault, and this is the first
pub data IsLeftFault (text : List ℕ) (chains : List ReadChain) (procedures macros : List ReadCallee) (ss : List (List Token)) : Fault → Type 0 where
  Again : (place : ℕ) → least_of (twice_among chains procedures macros) ≡ Some place → IsLeftFault text chains procedures macros ss (at_line StilTwice Stil (line_at text place))
  Left : (place : ℕ) → least_of (twice_among chains procedures macros) ≡ None → least_of (unsupported_in chains procedures macros ss) ≡ Some place
      → IsLeftFault text chains procedures macros ss (at_line Unsupported Stil (line_at text place))
