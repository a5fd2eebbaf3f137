-- Laws of the definitions, which know nothing of the code.
use Rattle.std.specs.Prelude.{◌≡◌, ℕ, Bool, true, List, map, length, codes, Some}
use Rattle.std.specs.List.{AllByRecursion as Each}
use Rattle.stil_tokens.specs.StilStatements.{len_in}
use Rattle.stil_syntax.specs.Shapes.{body_statements}
use Rattle.stil_types.specs.declared.head.ScanChainDecl.{ScanChainDecl}
use Rattle.stil_blocks.specs.declared.chain.ReadChain.{ReadChain}
use Rattle.stil_blocks.specs.Chains.{chain_at}
use Rattle.stil_blocks.specs.Statements.{has_word}
use Rattle.head_alike.specs.Chains.{IsNewFor, AreTurned, clauses_in, IsReadAnew}
use Rattle.stil_types.specs.declared.head.StilHead.{StilHead}
use Rattle.stil_head.specs.Heads.{IsHead}
use Rattle.head_alike.specs.Heads.{StandBeside, IsHeadAnew}
use Rattle.head_alike.specs.Steps.{Step, olds, news, AreSteps}

-- the tokens read are one statement, with its end or without
abbrev pub IsOne : List Step → Type 0
IsOne s = len_in 0 (olds s) ≡ length (olds s)

-- the statements of both, side by side
pub record SplitsAlike (allow : Bool) (s : List Step) : Type 0 where
  pub rows : List (List Step)
  pub old : body_statements (olds s) ≡ map olds rows
  pub new : body_statements (news s) ≡ map news rows
  pub each : Each (AreSteps allow true) rows
  pub ones : Each IsOne rows

-- tokens side by side are split into statements alike
abbrev pub SplitLaw : Type 0
SplitLaw = (allow : Bool) (s : List Step) → AreSteps allow true s → SplitsAlike allow s

-- a ScanChain whose block says anew what a declaration says is read as that declaration
abbrev pub ChainLaw : Type 0
ChainLaw = (allow : Bool) (text text' : List ℕ) (s : List Step) (old : ReadChain) (new : ScanChainDecl) → AreSteps allow true s → has_word (codes "ScanChain") (olds s) ≡ true
    → chain_at text (olds s) ≡ Some old → IsNewFor old.decl new → AreTurned new (clauses_in (olds s)) (clauses_in (news s)) → IsReadAnew new text' (news s) old

-- from statements side by side: the written text is a head that says what is meant
abbrev pub HeadLaw : Type 0
HeadLaw = (text text' : List ℕ) (head : StilHead) (new : List ScanChainDecl) → IsHead text head → StandBeside text text' new → IsHeadAnew text' head new
