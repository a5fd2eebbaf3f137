use Rattle.std.proofs.Common.{◌∙◌, codes}
use Rattle.stil_syntax.specs.Shapes.{body_statements}
use Rattle.stil_blocks.specs.Statements.{has_word}
use Rattle.stil_head.proofs.Walks.{more_later, last_later}
use Rattle.stil_head.proofs.unsupported.structures_again.Goals as goal

pub loop-s-preserved : goal.loop-s-preserved
loop-s-preserved c =
    more_later (has_word (codes "ScanStructures")) c.loop-s.seen c.either-seen.result c.loop-s.least c.lesser_place-least.result c.found_if.result c.has_word-here.result c.both.result c.start_of.result c.in-Some.s (body_statements c.body_statement.new.tokens) (body_statements c.loop-s.rest)
    c.in-Some.ensures.value c.has_word-here.ensures.value c.both.ensures.value c.start_of.ensures.value c.found_if.ensures.value c.lesser_place-least.ensures.value c.either-seen.ensures.value
    ∙ c.loop-s.invariant

pub returns : goal.returns
returns c = record {
  value = last_later (has_word (codes "ScanStructures")) c.loop-s.seen c.loop-s.least _ (body_statements c.loop-s.rest) c.in_default.ensures.value c.loop-s.invariant;
}
