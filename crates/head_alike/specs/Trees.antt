-- Steps in the order of statements and blocks.
use Rattle.std.specs.Prelude.{◌≡◌, ℕ, Bool, true, false, ◌&&◌, not, if◌then◌else◌, List, [], ◌∷◌, ◌++◌, map, filter, ⊤}
use Rattle.std.specs.List.{AllByRecursion as Each}
use Rattle.token_forms.specs.Tokens.{Token}
use Rattle.token_forms.specs.Classes.{is_among}
use Rattle.stil_tokens.specs.StilStatements.{is_only, is_closed}
use Rattle.stil_syntax.specs.Shapes.{is_empty, body_statements, in_block}
use Rattle.stil_blocks.specs.Statements.{statements_in}
use Rattle.head_alike.specs.Steps.{Step, Keep, Anew, olds, news, AreSteps, starts_behind, changed_words}
use Rattle.stil_types.specs.declared.head.ScanChainDecl.{ScanChainDecl}
use Rattle.head_alike.specs.Chains.{AreTurned, clauses_in, IsTurnedRow}
use Rattle.head_alike.specs.Laws.{IsOne}

-- one behind the other
abbrev pub joined : List (List Step) → List Step
joined [] = []
joined (r ∷ rs) = r ++ joined rs

-- a statement with its end
pub record IsStatement (s : List Step) : Type 0 where
  pub steps : AreSteps true true s
  pub one : IsOne s
  pub closed : is_closed (olds s) ≡ true

-- those that aren't empty
abbrev pub counted : List (List Step) → List (List Step)
counted rows = filter (λ r. not (is_empty (olds r))) rows

-- statements one behind the other are the statements of both
abbrev pub JoinedLaw : Type 0
JoinedLaw = (rows : List (List Step)) → Each IsStatement rows → (body_statements (olds (joined rows)) ≡ map olds (counted rows)) × (body_statements (news (joined rows)) ≡ map news (counted rows))

-- tokens that stay, none of which opens a block
abbrev pub IsLead : List Step → Type 0
IsLead [] = ⊤
IsLead (Keep t u ∷ s) = (t.text ≡ u.text) × (is_only 123 t.text ≡ false) × IsLead s
IsLead (Anew t u xs ys c d ∷ s) = ⊥

-- lead { statements }    the last token stays, whatever it is
abbrev pub block_steps : List Step → Token → Token → List (List Step) → Token → Token → List Step
block_steps lead t u rows v w = lead ++ Keep t u ∷ (joined rows ++ Keep v w ∷ [])

-- statements in a block are the statements in it of both
abbrev pub InnerLaw : Type 0
InnerLaw = (lead : List Step) (t u v w : Token) (rows : List (List Step)) → IsLead lead → t.text ≡ 123 ∷ [] → u.text ≡ 123 ∷ [] → Each IsStatement rows
    → (statements_in (olds (block_steps lead t u rows v w)) ≡ map olds (counted rows)) × (statements_in (news (block_steps lead t u rows v w)) ≡ map news (counted rows))

-- a ScanChain whose block has statements that say anew what is declared: so do its clauses
abbrev pub ClausesLaw : Type 0
ClausesLaw = (new : ScanChainDecl) (lead : List Step) (t u v w : Token) (rows : List (List Step)) → IsLead lead → t.text ≡ 123 ∷ [] → u.text ≡ 123 ∷ [] → Each IsStatement rows → Each (IsTurnedRow new) rows
    → AreTurned new (clauses_in (olds (block_steps lead t u rows v w))) (clauses_in (news (block_steps lead t u rows v w)))
