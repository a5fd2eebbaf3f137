use Rattle.std.proofs.Common.{Bool, not, sym, ◌∙◌, subst}
use Rattle.std.proofs.lemmas.Result.{IfOk-weaker}
use Rattle.verilog_checks.specs.Seen.{AddsOne, declared_at}
use Rattle.verilog_checks.proofs.Again.{known_adds, new_adds}
use Rattle.verilog_checks.proofs.twice.add_name.Goals as goal

pub returns-in-Some : goal.returns-in-Some
returns-in-Some c = record {
  value = λ before all known.
      let d = declared_at c.args.first c.args.name.now in
      subst (λ (t : Bool). AddsOne (not t) c.add.new.self before d all) (sym c.may_stand_beside.ensures.value)
      (known_adds c.add.new.self c.args.declared.now before d all c.in-Some.known (sym c.in_ok-known.ensures.before ∙ c.in-Some.is) c.in_ok-known.ensures.ok known.keeps known.clean);
}

pub returns-in-None : goal.returns-in-None
returns-in-None c = record {
  value = IfOk-weaker c.has_bit_among.result _ _ (λ bad bits before all known.
      new_adds bad c.add.new.self c.args.declared.now before (declared_at c.args.first c.args.name.now) all (sym c.in_ok-known.ensures.before ∙ c.in-None.is) (bits all known.are_nets) c.in_ok-known.ensures.ok known.keeps known.clean) c.has_bit_among.ensures.value;
}
