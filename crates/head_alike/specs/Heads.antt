-- The statements of a head beside those of its written form (IEEE 1450-1999, in this profile).
use Rattle.std.specs.Prelude.{◌≡◌, ℕ, Bool, true, false, List, [], ◌∷◌, ◌++◌, map, codes, Some, ◌⊎◌}
use Rattle.std.specs.List.{AllByRecursion as Each}
use Rattle.token_forms.specs.Tokens.{Token}
use Rattle.stil_types.specs.declared.head.ScanChainDecl.{ScanChainDecl}
use Rattle.stil_types.specs.declared.head.StilHead.{StilHead}
use Rattle.stil_blocks.specs.declared.chain.ReadChain.{ReadChain}
use Rattle.stil_blocks.specs.Chains.{chain_at}
use Rattle.stil_blocks.specs.Statements.{statements_of, has_word, statements_in}
use Rattle.stil_head.specs.Heads.{IsHead}
use Rattle.head_alike.specs.Steps.{Step, olds, news, AreSteps}
use Rattle.head_alike.specs.Chains.{IsNewFor, AreTurned, clauses_in, SaysAs}

-- a statement that stays whole, and is no ScanStructures
pub record IsKept (s : List Step) : Type 0 where
  pub other : has_word (codes "ScanStructures") (olds s) ≡ false
  pub plain : AreSteps false true s

-- in ScanStructures: another statement than a ScanChain
pub record IsOther (s : List Step) : Type 0 where
  pub other : has_word (codes "ScanChain") (olds s) ≡ false
  pub steps : AreSteps true true s

-- or a ScanChain that says anew what the first of the new declarations says
pub record IsChain (text : List ℕ) (s : List Step) (news_left : List ScanChainDecl) (More : List ScanChainDecl → Type 0) : Type 0 where
  pub new : ScanChainDecl
  pub left : List ScanChainDecl
  pub is : news_left ≡ new ∷ left
  pub steps : AreSteps true true s
  pub has : has_word (codes "ScanChain") (olds s) ≡ true
  pub chain : ReadChain
  pub was : chain_at text (olds s) ≡ Some chain
  pub fits : IsNewFor chain.decl new
  pub turned : AreTurned new (clauses_in (olds s)) (clauses_in (news s))
  pub more : More left

-- the statements in ScanStructures, with the new declarations in their order
abbrev pub AreItems : List ℕ → List ScanChainDecl → List (List Step) → Type 0
AreItems text new [] = new ≡ []
AreItems text new (s ∷ ss) = (IsOther s × AreItems text new ss) ⊎ IsChain text s new (λ left. AreItems text left ss)

-- the statements of a head: some that stay, ScanStructures, and some that stay
pub record StandBeside (text text' : List ℕ) (new : List ScanChainDecl) : Type 0 where
  pub front : List (List Step)
  pub structures : List Step
  pub behind : List (List Step)
  pub old_is : statements_of text ≡ map olds (front ++ structures ∷ behind)
  pub new_is : statements_of text' ≡ map news (front ++ structures ∷ behind)
  pub front_kept : Each IsKept front
  pub behind_kept : Each IsKept behind
  pub steps : AreSteps true true structures
  pub has : has_word (codes "ScanStructures") (olds structures) ≡ true
  pub items : List (List Step)
  pub old_items : statements_in (olds structures) ≡ map olds items
  pub new_items : statements_in (news structures) ≡ map news items
  pub are_items : AreItems text new items

-- chains say what these declare
abbrev pub AllSayAs : List ScanChainDecl → List ScanChainDecl → Type 0
AllSayAs [] [] = Unit {0}
AllSayAs (n ∷ ns) (d ∷ ds) = SaysAs n d × AllSayAs ns ds
AllSayAs ns ds = ⊥

-- a text is a head that says what was read but for the chains, and of these what is declared anew
pub record IsHeadAnew (text' : List ℕ) (head : StilHead) (new : List ScanChainDecl) : Type 0 where
  pub again : StilHead
  pub is : IsHead text' again
  pub chains : AllSayAs new again.chains
  pub procedures : again.procedures ≡ head.procedures
  pub macros : again.macros ≡ head.macros
  pub keywords : again.keywords ≡ head.keywords
