use Rattle.std.proofs.Common.{rules}
use Rattle.rewire_command.proofs.NameRefusals.{passed, not_permutation, pinned_last}
use Rattle.rewire_command.proofs.order.check_names.Goals as goal

pub returns-then-not-branch-clause-fault : goal.returns-then-not-branch-clause-fault
returns-then-not-branch-clause-fault c =
    not_permutation (Unit {0}) c.args.netlist.now c.args.rewire.now c.args.path.now _ _ c.in_ok-are_instances.field-0 _ c.in_ok-units.ensures.value c.in_ok-names.ensures.value c.in_ok-are_instances.ensures.value (search rules) c.of_words.ensures.value

pub returns-then-not-output_free-clause-fault : goal.returns-then-not-output_free-clause-fault
returns-then-not-output_free-clause-fault c =
    pinned_last (Unit {0}) c.args.netlist.now c.args.rewire.now c.args.path.now _ _ c.in_ok-are_instances.field-0 _ _ c.args.output_free _ c.in_ok-units.ensures.value c.in_ok-names.ensures.value c.in_ok-are_instances.ensures.value (search rules)
    c.last.ensures.value c.last-2.ensures.value (search rules) c.requires.free (search rules) c.of_words-then-not-output_free.ensures.value

pub returns-clause-instances : goal.returns-clause-instances
returns-clause-instances c =
    passed c.args.netlist.now c.args.rewire.now c.args.path.now _ _ c.in_ok-are_instances.field-0 c.in_ok-units.ensures.value c.in_ok-names.ensures.value c.in_ok-are_instances.ensures.value (search rules)
