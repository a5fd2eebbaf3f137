use Rattle.std.proofs.lemmas.Result.{IfOk-weaker}
use Rattle.chain_trace.specs.Faults.{IsTraceFault}
use Rattle.chain_trace.proofs.Unique.{path_unique}
use Rattle.chain_trace.proofs.Meeting.{no_path, fault_then}
use Rattle.chain_trace.proofs.Entries.{path_entries}
use Rattle.chain_trace.proofs.tracer.Tracer.trace.Goals as goal

pub returns-clause-only : goal.returns-clause-only
returns-clause-only c =
    IfOk-weaker c.walk.result _ _ (λ p h other o. path_unique c.args.self.now.netlist c.args.self.now.cells c.args.scan_out other p o h) c.walk.ensures.path

pub returns-clause-none : goal.returns-clause-none
returns-clause-none c =
    fault_then c.walk.result (IsTraceFault c.args.self.now.netlist c.args.self.now.cells c.args.scan_out) _ (λ f h q p. no_path c.args.self.now.netlist c.args.self.now.cells c.args.scan_out f h q p) c.walk.ensures.fault

pub returns-clause-entries : goal.returns-clause-entries
returns-clause-entries c =
    IfOk-weaker c.walk.result _ _ (λ p h. path_entries c.args.self.now.netlist c.args.self.now.cells c.args.scan_out p h) c.walk.ensures.path
