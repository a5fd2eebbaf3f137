use Rattle.std.proofs.Common.{◌≡◌, ℕ, List, [], length, replicate, sym, ap, ◌∙◌, subst, arith, Option, None}
use Rattle.fail_map.specs.declared.line.LogLine.{LogLine}
use Rattle.fail_map.specs.Progress.{AreMappedSoFar}
use Rattle.fail_map.proofs.Passing.{begun}
use Rattle.fail_map.proofs.mapping.LogMapping.new.Goals as goal

pub returns : goal.returns
returns c =
    let lines = c.in_ok-lines.lines.items in
    let none : replicate (length lines) None ≡ c.in_ok-mapped.mapped.items = sym (c.in_ok-mapped.ensures.value ∙ ap (λ n. replicate n None) (omega (arith, c.len.ensures, c.in_ok-lines.lines.ok.0))) in
    record {
      begun = λ chains others cells.
          subst (λ (counts : List ℕ). AreMappedSoFar chains others [] [] c.args.log.now (record { lines = lines; mapped = c.in_ok-mapped.mapped.items; counts = counts })) (sym c.new.ensures.items)
          (subst (λ (mapped : List (Option LogLine)). AreMappedSoFar chains others [] [] c.args.log.now (record { lines = lines; mapped = mapped; counts = [] })) none
          (begun chains others c.args.log.now lines cells c.in_ok-lines.ensures.value));
    }
