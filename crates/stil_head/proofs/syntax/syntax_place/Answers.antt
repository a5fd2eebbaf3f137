use Rattle.std.proofs.Common.{◌∙◌, sym, ap, not, Bool, codes, ◌++◌}
use Rattle.std.specs.List.{flat_map, list_any}
use Rattle.stil_syntax.specs.Shapes.{body_statements}
use Rattle.list_laws.specs.Leasts.{place_if, found_if}
use Rattle.stil_blocks.specs.Statements.{has_word}
use Rattle.stil_head.specs.Faults.{first_places, statement_faults}
use Rattle.list_laws.proofs.Leasts.{least_if}
use Rattle.stil_head.proofs.Joined.{two_places}
use Rattle.stil_head.proofs.syntax.syntax_place.Goals as goal

pub returns : goal.returns
returns c =
    let ss = body_statements c.args.tokens.now in
    let inner = flat_map (statement_faults c.args.lines.now) ss in
    let none = not (list_any (has_word (codes "ScanStructures")) ss) in
    record {
      value = c.lesser_place-2.ensures.value
          ∙ two_places (first_places ss) (inner ++ place_if none 0) c.first_place-first.result c.lesser_place.result c.first_place-first.ensures.value
          (c.lesser_place.ensures.value
          ∙ two_places inner (place_if none 0) c.in_ok-inner.inner c.found_if-missing.result c.in_ok-inner.ensures.value
          (c.found_if-missing.ensures.value ∙ ap (λ (b : Bool). found_if (not b) 0) c.has_structures.ensures.value ∙ sym (least_if none 0)));
    }
