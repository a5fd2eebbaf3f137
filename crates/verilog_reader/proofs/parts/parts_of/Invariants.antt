use Rattle.std.proofs.Common.{◌≡◌, ◌++◌}
use Rattle.std.specs.List.{All}
use Rattle.std.specs.Vec.Iter.{into_iter_items}
use Rattle.verilog_names.specs.Declarations.{mentions}
use Rattle.verilog_reader.specs.Numbering.{with_mentioned, numbered_assigns, numbered_instances, HasFineItems}
use Rattle.verilog_reader.proofs.parts.parts_of.Given as goal

abbrev pub invariant-loop-placed : goal.invariant-loop-placed
invariant-loop-placed l = record {
  nets : with_mentioned l.nets (mentions (into_iter_items l.placed-iterator)) ≡ with_mentioned l.initial.nets (mentions l.fn.statements);
  assigns : l.assigns ++ numbered_assigns (with_mentioned l.initial.nets (mentions l.fn.statements)) (into_iter_items l.placed-iterator)
      ≡ numbered_assigns (with_mentioned l.initial.nets (mentions l.fn.statements)) l.fn.statements;
  instances : l.instances ++ numbered_instances (with_mentioned l.initial.nets (mentions l.fn.statements)) (into_iter_items l.placed-iterator)
      ≡ numbered_instances (with_mentioned l.initial.nets (mentions l.fn.statements)) l.fn.statements;
  fine : All (λ p. HasFineItems (with_mentioned l.initial.nets (mentions l.fn.statements)) p.statement) (into_iter_items l.placed-iterator);
}
