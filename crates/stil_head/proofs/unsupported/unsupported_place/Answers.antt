use Rattle.stil_syntax.specs.Shapes.{body_statements}
use Rattle.stil_head.specs.Unsupported.{is_name_of}
use Rattle.stil_head.proofs.Same.{all_places}
use Rattle.stil_head.proofs.unsupported.unsupported_place.Goals as goal

pub returns : goal.returns
returns c = record {
  value = rw (c.lesser_place-least.ensures.value, c.lesser_place-top.ensures.value, c.lesser_place-again.ensures.value)
      (all_places (is_name_of c.in_ok-scanning.scanning) (is_name_of c.in_ok-scanned.scanned) c.args.chains.now c.args.procedures.now c.args.macros.now (body_statements c.args.tokens.now) c.out_length_place.result c.unlisted_place.result c.structures_again.result c.in_ok-inner.inner
      c.in_ok-scanning.ensures.value c.in_ok-scanned.ensures.value c.out_length_place.ensures.value c.unlisted_place.ensures.value c.structures_again.ensures.value c.in_ok-inner.ensures.value);
}
