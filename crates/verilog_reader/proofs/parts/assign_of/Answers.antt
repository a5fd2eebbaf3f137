use Rattle.verilog_reader.proofs.FoldingLoops.{left_fits, right_fits, both_nets, assign_made}
use Rattle.verilog_reader.proofs.parts.assign_of.Goals as goal

pub expression_of-requires : goal.expression_of-requires
expression_of-requires c = left_fits c.args.nets.now c.args.left.now c.args.right.now c.requires.left

pub expression_of-requires-2 : goal.expression_of-requires-2
expression_of-requires-2 c = right_fits c.args.nets.now c.expression_of.new.nets c.args.left.now c.args.right.now c.in_ok-left.ensures.ok c.requires.right

pub returns-clause-ok : goal.returns-clause-ok
returns-clause-ok c =
    both_nets c.args.nets.now c.expression_of.new.nets c.expression_of-2.new.nets c.args.left.now.items c.args.right.now.items c.in_ok-left.ensures.ok c.in_ok-right.ensures.ok

pub returns-clause-value : goal.returns-clause-value
returns-clause-value c =
    assign_made c.args.nets.now c.expression_of.new.nets c.expression_of-2.new.nets c.args.line c.args.left.now c.args.right.now c.in_ok-left.left c.in_ok-right.right c.in_ok-left.ensures.ok
    c.in_ok-right.ensures.ok c.in_ok-left.ensures.value c.in_ok-right.ensures.value
