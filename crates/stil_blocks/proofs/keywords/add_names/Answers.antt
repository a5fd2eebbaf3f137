use Rattle.std.proofs.Common.{arith}
use Rattle.stil_blocks.proofs.NameLists.{names_more, names_last}
use Rattle.stil_blocks.proofs.keywords.add_names.Goals as goal

pub loop-left-preserved : goal.loop-left-preserved
loop-left-preserved c = names_more c.loop-left.left c.loop-left.names c.add_name.new.names c.loop-left.rest c.add_name.new.rest _ (omega (arith, c.loop-left-test.true))
    c.in_ok-add_name.ensures.value c.loop-left.invariant

pub returns : goal.returns
returns c = record { value = names_last c.loop-left.left c.loop-left.names _ c.loop-left.rest (omega (arith, c.loop-left-test.false)) c.loop-left.invariant }
