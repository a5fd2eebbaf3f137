-- How far the writing has come, and what a statement makes of it.
use Rattle.std.specs.Prelude.{◌≡◌, List, [], ◌∷◌}
use Rattle.stil_types.specs.declared.head.StilHead.{StilHead}
use Rattle.stil_types.specs.declared.statement.PatternStatement.{PatternStatement}
use Rattle.stil_tester.specs.declared.chains.Chains.{Chains}
use Rattle.retargeted_patterns.specs.declared.figures.PatternFigures.{PatternFigures}
use Rattle.retargeted_patterns.specs.Figures.{nothing, plus, statement_figures, figures_of}

-- the head beside which patterns are read, the chains that they are read for, those that they are written for, and what was counted
pub record Progress : Type 0 where
  pub head : StilHead
  pub old_chains : Chains
  pub new_chains : Chains
  pub figures : PatternFigures

-- nothing was written
abbrev pub at_first : StilHead → Chains → Chains → Progress
at_first head old new = record { head = head; old_chains = old; new_chains = new; figures = nothing }

-- a statement was written
abbrev pub after_writing : PatternStatement → Progress → Progress
after_writing statement p = record p { figures = plus p.figures (statement_figures p.old_chains p.new_chains statement) }

-- some statements were written in order
abbrev pub after_all : List PatternStatement → Progress → Progress
after_all [] p = p
after_all (statement ∷ statements) p = after_all statements (after_writing statement p)

-- what was counted in the end is what the statements sum up to
abbrev pub FiguresLaw : Type 0
FiguresLaw = (head : StilHead) (old new : Chains) (statements : List PatternStatement)
    → after_all statements (at_first head old new) ≡ record (at_first head old new) { figures = figures_of old new statements }
