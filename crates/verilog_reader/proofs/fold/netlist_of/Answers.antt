use Rattle.std.proofs.Common.{◌≡◌, ◌<◌, ◌^◌, List, length, sym, subst, Ok, Err, Result}
use Rattle.std.specs.Result.{IfOk}
use Rattle.base_types.specs.declared.memory.NoMemory.{NoMemory}
use Rattle.netlist_core.specs.declared.netlist.Netlist.{Netlist}
use Rattle.netlist_core.specs.Netlists.{IsNetlist}
use Rattle.verilog_syntax.specs.declared.reading.Placed.{Placed}
use Rattle.verilog_checks.specs.Checks.{check_number, check_twice, check_select}
use Rattle.verilog_reader.specs.Denoted.{IsNetlistOf}
use Rattle.verilog_reader.specs.Numbering.{entries, numbered}
use Rattle.verilog_reader.proofs.NetlistOf.{statements_fit, is_netlist_of, is_netlist}
use Rattle.verilog_reader.proofs.fold.netlist_of.Goals as goal

pub folded-requires-clause-fine : goal.folded-requires-clause-fine
folded-requires-clause-fine c = statements_fit c.args.statements c.requires.number c.requires.select

-- what the numbered netlist is, the result is
of_result : (ps : List Placed) (r : Result Netlist NoMemory) → check_number ps ≡ Ok tt → check_twice ps ≡ Ok tt → check_select ps ≡ Ok tt
    → IfOk r (λ n. n ≡ numbered (entries ps) ps) → IfOk r (λ n. IsNetlistOf ps n)
of_result ps (Ok n) number twice select is = subst (IsNetlistOf ps) (sym is) (is_netlist_of ps number twice select)
of_result ps (Err e) number twice select is = tt

well_made : (ps : List Placed) (r : Result Netlist NoMemory) → check_number ps ≡ Ok tt → check_twice ps ≡ Ok tt → check_select ps ≡ Ok tt
    → IfOk r (λ n. n ≡ numbered (entries ps) ps) → IfOk r (λ n. length n.nets < 2 ^ 32) → IfOk r (λ n. length n.instances < 2 ^ 32) → IfOk r (λ n. IsNetlist n)
well_made ps (Ok n) number twice select is few_nets few_instances =
    subst IsNetlist (sym is)
    (is_netlist ps number twice select (subst (λ (n : Netlist). length n.nets < 2 ^ 32) is few_nets) (subst (λ (n : Netlist). length n.instances < 2 ^ 32) is few_instances))
well_made ps (Err e) number twice select is few_nets few_instances = tt

pub returns-clause-value : goal.returns-clause-value
returns-clause-value c = of_result c.args.statements c.folded.result c.requires.number c.requires.twice c.requires.select c.folded.ensures.value

pub returns-clause-netlist : goal.returns-clause-netlist
returns-clause-netlist c = well_made c.args.statements c.folded.result c.requires.number c.requires.twice c.requires.select c.folded.ensures.value c.folded.ensures.few_nets c.folded.ensures.few_instances
