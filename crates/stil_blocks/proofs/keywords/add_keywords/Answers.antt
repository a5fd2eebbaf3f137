use Rattle.std.proofs.Common.{◌≡◌, ◌++◌, length}
use Rattle.stil_blocks.specs.Callees.{names_within, statement_keywords}
use Rattle.stil_blocks.proofs.NameLists.{keywords_none, keywords_some, on_ok_weaker}
use Rattle.stil_blocks.proofs.keywords.add_keywords.Goals as goal

pub returns-then-not-has_word : goal.returns-then-not-has_word
returns-then-not-has_word c = record {
  value = keywords_none c.args.names.now c.args.s.now c.has_word.result c.has_word.ensures.value c.if-not-has_word.true;
}

pub returns : goal.returns
returns c = record {
  value = on_ok_weaker c.add_names.result (c.add_names.new.names ≡ c.args.names.now ++ names_within (length c.behind_word.result) c.behind_word.result)
      (c.add_names.new.names ≡ c.args.names.now ++ statement_keywords c.args.s.now)
      (λ e. keywords_some c.args.names.now c.add_names.new.names c.args.s.now c.behind_word.result c.has_word.result c.has_word.ensures.value c.if-not-has_word.false
      c.behind_word.ensures.value e) c.add_names.ensures.value;
}
