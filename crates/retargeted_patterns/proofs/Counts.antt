-- Sums of what is counted.
use Rattle.std.proofs.Common.{◌≡◌, List, [], ◌∷◌, sym, ap, ◌∙◌, arith}
use Rattle.stil_types.specs.declared.head.StilHead.{StilHead}
use Rattle.stil_types.specs.declared.statement.PatternStatement.{PatternStatement}
use Rattle.stil_tester.specs.declared.chains.Chains.{Chains}
use Rattle.retargeted_patterns.specs.declared.figures.PatternFigures.{PatternFigures}
use Rattle.retargeted_patterns.specs.Figures.{nothing, plus, statement_figures, figures_of}
use Rattle.retargeted_patterns.specs.Progress.{Progress, at_first, after_writing, after_all}

figures_same : (a b : PatternFigures) → a.calls ≡ b.calls → a.shifts_read ≡ b.shifts_read → a.shifts_written ≡ b.shifts_written → a ≡ b
figures_same a b calls read written = λ i. record { calls = calls i; shifts_read = read i; shifts_written = written i }

pub plus-nothing : (a : PatternFigures) → plus a nothing ≡ a
plus-nothing a = figures_same (plus a nothing) a (omega arith) (omega arith) (omega arith)

pub nothing-plus : (a : PatternFigures) → plus nothing a ≡ a
nothing-plus a = figures_same (plus nothing a) a (omega arith) (omega arith) (omega arith)

pub plus_assoc : (a b c : PatternFigures) → plus (plus a b) c ≡ plus a (plus b c)
plus_assoc a b c = figures_same (plus (plus a b) c) (plus a (plus b c)) (omega arith) (omega arith) (omega arith)

-- what was counted of all statements
counted : (statements : List PatternStatement) (p : Progress) → after_all statements p ≡ record p { figures = plus p.figures (figures_of p.old_chains p.new_chains statements) }
counted [] p = ap (λ (f : PatternFigures). record p { figures = f }) (sym (plus-nothing p.figures))
counted (statement ∷ statements) p =
    counted statements (after_writing statement p)
    ∙ ap (λ (f : PatternFigures). record p { figures = f }) (plus_assoc p.figures (statement_figures p.old_chains p.new_chains statement) (figures_of p.old_chains p.new_chains statements))

pub all_counted : (head : StilHead) (old new : Chains) (statements : List PatternStatement) → after_all statements (at_first head old new) ≡ record (at_first head old new) { figures = figures_of old new statements }
all_counted head old new statements =
    counted statements (at_first head old new) ∙ ap (λ (f : PatternFigures). record (at_first head old new) { figures = f }) (nothing-plus (figures_of old new statements))
