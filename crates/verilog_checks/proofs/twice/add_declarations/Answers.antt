use Rattle.std.proofs.Common.{List, ℕ, Bool, IfOk, subst, rules}
use Rattle.verilog_names.specs.Declarations.{Declaration, declarations_in}
use Rattle.verilog_checks.specs.Seen.{AreKnown, Adds}
use Rattle.verilog_checks.proofs.Again.{adds_none, names_in}
use Rattle.verilog_checks.proofs.twice.add_declarations.Goals as goal

pub returns-in-Declare : goal.returns-in-Declare
returns-in-Declare c = record {
  value = subst (λ (ds : List Declaration). IfOk c.add_names_declared.result (λ (bad : Bool). (before : List Declaration) (all : List (List ℕ)) → AreKnown c.args.declared.now c.args.nets.now before all → Adds bad c.add_names_declared.new.declared before ds all))
      (names_in c.args.statement.now c.in-Declare.kind c.in-Declare.range c.in-Declare.names _ _ c.in-Declare.is c.range_bounds.ensures.value c.as_slice.ensures.value) c.add_names_declared.ensures.value;
}

pub returns-in-Module : goal.returns-in-Module
returns-in-Module c = record { value = λ before all known. adds_none c.args.declared.now c.args.nets.now before (declarations_in c.args.statement.now) all (search rules) known }

pub returns-in-Module-2 : goal.returns-in-Module-2
returns-in-Module-2 c = record { value = λ before all known. adds_none c.args.declared.now c.args.nets.now before (declarations_in c.args.statement.now) all (search rules) known }

pub returns-in-Module-3 : goal.returns-in-Module-3
returns-in-Module-3 c = record { value = λ before all known. adds_none c.args.declared.now c.args.nets.now before (declarations_in c.args.statement.now) all (search rules) known }
