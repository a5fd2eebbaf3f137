-- The clauses of a ScanChain, one by one.
use Rattle.std.proofs.Common.{◌≡◌, Bool, true, false, not, cond, List, [], ◌∷◌, map, refl, sym, ap, ◌∙◌, subst}
use Rattle.std.specs.List.{AllByRecursion as Each}
use Rattle.token_forms.specs.Tokens.{Token}
use Rattle.stil_types.specs.declared.head.ScanChainDecl.{ScanChainDecl}
use Rattle.stil_syntax.specs.Shapes.{is_empty}
use Rattle.stil_blocks.specs.declared.clause.Clause.{Clause}
use Rattle.stil_blocks.specs.Statements.{statements_in}
use Rattle.stil_blocks.specs.Chains.{clause_of}
use Rattle.head_alike.specs.Steps.{Step, olds, news}
use Rattle.head_alike.specs.Chains.{AreTurned, clauses_in, IsTurnedRow}
use Rattle.head_alike.specs.Trees.{IsStatement, counted, block_steps, ClausesLaw}
use Rattle.head_alike.proofs.Trees.{inner_law}

module _ (new : ScanChainDecl) where
  abbrev Turned : List (List Step) → Type 0
  Turned rows = AreTurned new (map clause_of (map olds rows)) (map clause_of (map news rows))

  put_if : (b : Bool) (r : List Step) (rows : List (List Step)) → Turned (r ∷ rows) → Turned rows → Turned (cond b (r ∷ rows) rows)
  put_if true r rows x y = x
  put_if false r rows x y = y

  each_turned : (rows : List (List Step)) → Each IsStatement rows → Each (IsTurnedRow new) rows → Turned (counted rows)
  each_turned [] a b = tt
  each_turned (r ∷ rows) a b =
      let more = each_turned rows a.1 b.1 in
      put_if (not (is_empty (olds r))) r (counted rows) (b.0, more) more

pub clauses_law : ClausesLaw
clauses_law new lead t u v w rows is t_is u_is each done =
    let k = inner_law lead t u v w rows is t_is u_is each in
    subst (λ (l : List (List Token)). AreTurned new (map clause_of l) (clauses_in (news (block_steps lead t u rows v w)))) (sym k.0)
    (subst (λ (l : List (List Token)). AreTurned new (map clause_of (map olds (counted rows))) (map clause_of l)) (sym k.1) (each_turned new rows each done))
