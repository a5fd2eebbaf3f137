use Rattle.std.specs.Vec.Iter.{into_iter_items}
use Rattle.std.proofs.lemmas.List.Elements.{All-rest}
use Rattle.verilog_syntax.specs.declared.reading.Placed.{Placed}
use Rattle.verilog_names.specs.Declarations.{mentions}
use Rattle.verilog_reader.specs.Numbering.{with_mentioned, HasFineItems}
use Rattle.verilog_reader.proofs.FoldingLoops.{first_of_all, statement_fits, statement_nets, statement_assigns, statement_instances}
use Rattle.verilog_reader.proofs.parts.parts_of.Goals as goal

pub push_spent-requires : goal.push_spent-requires
push_spent-requires c =
    let all = with_mentioned c.args.nets.now (mentions c.args.statements) in
    let left = into_iter_items c.loop-placed.placed-iterator in
    let rest = into_iter_items c.next.new.self in
    let p = c.in-Some.placed in
    let is = c.in-Some.ensures.steps.0 in
    statement_fits c.loop-placed.nets all left rest p is c.loop-placed.invariant.nets (first_of_all (λ (p : Placed). HasFineItems all p.statement) left rest p is c.loop-placed.invariant.fine)

pub loop-placed-preserved : goal.loop-placed-preserved
loop-placed-preserved c =
    let all = with_mentioned c.args.nets.now (mentions c.args.statements) in
    let left = into_iter_items c.loop-placed.placed-iterator in
    let rest = into_iter_items c.next.new.self in
    let p = c.in-Some.placed in
    let is = c.in-Some.ensures.steps.0 in
    let nets = c.loop-placed.nets in
    let so = c.loop-placed.invariant in
    let made = c.in_ok-push_spent.ensures in
    record {
      nets = statement_nets nets all left rest p is so.nets c.push_spent.new.nets made.ok;
      assigns = statement_assigns nets all left rest p is so.nets c.push_spent.new.nets c.loop-placed.assigns c.push_spent.new.assigns _ made.ok made.assigns so.assigns;
      instances = statement_instances nets all left rest p is so.nets c.push_spent.new.nets c.loop-placed.instances c.push_spent.new.instances _ made.ok made.instances so.instances;
      fine = All-rest (λ (p : Placed). HasFineItems all p.statement) p rest left is so.fine;
    }
