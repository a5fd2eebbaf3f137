use Rattle.std.proofs.Common.{◌≡◌, length}
use Rattle.token_forms.specs.Tokens.{tokens_left}
use Rattle.def_tokens.specs.DefStatements.{def_statements}
use Rattle.def_syntax.specs.Designs.{statements_of}
use Rattle.def_syntax.specs.Reading.{outline_from, fresh_outline}
use Rattle.def_syntax.proofs.outline.find_outline.Given as goal

abbrev pub invariant-loop-spans : goal.invariant-loop-spans
invariant-loop-spans l = record {
  same : outline_from l.outline (def_statements (tokens_left l.source)) ≡ outline_from fresh_outline (statements_of l.fn.text);
}

abbrev pub decreases-loop-spans : goal.decreases-loop-spans
decreases-loop-spans l = length (tokens_left l.source)
