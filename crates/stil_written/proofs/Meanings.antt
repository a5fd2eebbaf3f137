-- Statements that are kept run alike.
use Rattle.std.proofs.Common.{List, [], ◌∷◌}
use Rattle.stil_types.specs.declared.statement.PatternStatement.{PatternStatement}
use Rattle.stil_tester.specs.declared.chains.Chains.{Chains}
use Rattle.stil_tester.specs.Meaning.{AllAlike, AllShowSame}
use Rattle.stil_tester.proofs.Meanings.{run_alike}
use Rattle.stil_reader.specs.Patterns.{statements_in}
use Rattle.stil_written.specs.Readings.{reading}
use Rattle.stil_written.specs.Unbounded.{says_free}
use Rattle.stil_written.specs.Written.{written_says, AllPairs}
use Rattle.stil_written.specs.Laws.{IsKept, WholeLaw}
use Rattle.stil_written.proofs.Induction.{whole}

module _ (old new : Chains) where
  all_alike : (ss ts : List PatternStatement) → AllPairs (IsKept old new) ss ts → AllAlike reading ss ts
  all_alike [] [] p = tt
  all_alike [] (t ∷ ts) p = absurd p
  all_alike (s ∷ ss) [] p = absurd p
  all_alike (s ∷ ss) (t ∷ ts) p = (p.0.alike, all_alike ss ts p.1)

  all_show : (ss ts : List PatternStatement) → AllPairs (IsKept old new) ss ts → AllShowSame old new ss ts
  all_show [] [] p = tt
  all_show [] (t ∷ ts) p = absurd p
  all_show (s ∷ ss) [] p = absurd p
  all_show (s ∷ ss) (t ∷ ts) p = (p.0.shows, all_show ss ts p.1)

pub whole_law : WholeLaw
whole_law form judging head other old new p q bytes together sound cells well =
    let says = (says_free judging head p bytes).says in
    let w = whole form judging head other (IsKept old new) p q bytes together sound well in
    let ss = statements_in says in
    let ts = statements_in (says_free judging other q (written_says form says)).says in
    record {
      same = w;
      run = run_alike reading (record { chains = old; statements = ss }) (record { chains = new; statements = ts }) cells (all_alike old new ss ts w.statements) (all_show old new ss ts w.statements);
    }
