use Rattle.std.proofs.Common.{rules, eqb}
use Rattle.std.specs.HashSet as bag
use Rattle.netlist_core.proofs.Distinct.{numbers_decide}
use Rattle.netlist_core.proofs.form.are_distinct_numbers.Goals as goal

pub returns : goal.returns
returns c =
    let made : bag.IsFromIterResult eqb c.args.numbers.now c.in_ok-set.set = search rules in
    record { value = rw c.len.ensures.len (numbers_decide c.args.numbers.now c.in_ok-set.set made) }
