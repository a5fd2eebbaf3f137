use Rattle.std.proofs.Common.{List, ap, ◌∙◌}
use Rattle.def_syntax.specs.declared.design.Located.{Located}
use Rattle.def_syntax.specs.declared.net.NetStatement.{NetStatement}
use Rattle.def_edit.specs.Lookups.{words_in}
use Rattle.def_edit.proofs.text.written.Goals as goal

pub edits_of-requires-clause-rows : goal.edits_of-requires-clause-rows
edits_of-requires-clause-rows c =
    c.in_ok-nets_of.ensures.value c.args.bytes.now ∙ ap (λ (l : List (Located NetStatement)). words_in c.args.bytes.now l) c.as_slice.ensures.value
