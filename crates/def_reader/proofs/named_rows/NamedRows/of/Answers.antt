use Rattle.std.proofs.Common.{List, ℕ, map, subst}
use Rattle.def_reader.specs.Faults.{StandsAgain}
use Rattle.list_laws.specs.Leasts.{IsLeast}
use Rattle.def_reader.proofs.named_rows.NamedRows.of.Goals as goal

pub returns-clause-least : goal.returns-clause-least
returns-clause-least g c =
    subst (λ l. IsLeast (StandsAgain (map {B = List ℕ × ℕ} (λ row. (g.T.Named.name_of row, g.T.Named.line_of row)) l)) c.in_ok-index.least) c.as_slice.ensures.value c.in_ok-index.ensures.least
