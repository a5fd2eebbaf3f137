use Rattle.std.proofs.Common.{◌≡◌, length}
use Rattle.token_forms.specs.Tokens.{tokens_left}
use Rattle.def_tokens.specs.DefStatements.{def_statements}
use Rattle.def_syntax.specs.Designs.{statements_of}
use Rattle.def_syntax.specs.Reading.{read_from, fresh_found}
use Rattle.def_syntax.proofs.reading.read_from.Given as goal

abbrev pub invariant-loop-found : goal.invariant-loop-found
invariant-loop-found l = record {
  text : l.lines ≡ l.fn.text;
  same : read_from l.fn.text l.fn.unclosed l.found (def_statements (tokens_left l.source)) ≡ read_from l.fn.text l.fn.unclosed fresh_found (statements_of l.fn.text);
}

abbrev pub decreases-loop-found : goal.decreases-loop-found
decreases-loop-found l = length (tokens_left l.source)
