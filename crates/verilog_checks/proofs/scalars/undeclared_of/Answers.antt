use Rattle.std.proofs.Common.{sym, ◌∙◌}
use Rattle.verilog_names.specs.Declarations.{mentions_of}
use Rattle.verilog_checks.proofs.ClosedNames.{closed_is}
use Rattle.verilog_checks.proofs.Undeclared.{not_closed, no_undeclared, one_undeclared}
use Rattle.verilog_checks.proofs.scalars.undeclared_of.Goals.{else-is_bracketed-via-then-is_bracketed+else-not-contains, else-is_bracketed-via-else-is_bracketed}
use Rattle.verilog_checks.proofs.scalars.undeclared_of.Goals as goal

pub returns-then-not-contains : goal.returns-then-not-contains
returns-then-not-contains c = record {
  value = λ ds closed.
      let name = c.in_ok-name.name in
      let ends = sym c.is_bracketed.ensures.value ∙ c.if-is_bracketed.true in
      one_undeclared ds (mentions_of c.args.item.now) name.now c.in_ok-name.ensures.value ends (sym (closed_is ds name.now ends) ∙ sym (closed name) ∙ sym c.if-not-contains.ensures);
}

pub returns-else-is_bracketed : goal.returns-else-is_bracketed
returns-else-is_bracketed c = record {
  value = λ ds closed.
      let name = c.in_ok-name.name in
      elim c.else-is_bracketed.branch [
        | else-is_bracketed-via-then-is_bracketed+else-not-contains w ↦
            let ends = sym c.is_bracketed.ensures.value ∙ w.if-is_bracketed.true in
            no_undeclared ds (mentions_of c.args.item.now) name.now c.in_ok-name.ensures.value (sym (closed_is ds name.now ends) ∙ sym (closed name) ∙ sym w.if-not-contains.ensures)
        | else-is_bracketed-via-else-is_bracketed w ↦ not_closed ds (mentions_of c.args.item.now) name.now c.in_ok-name.ensures.value (sym c.is_bracketed.ensures.value ∙ w.if-is_bracketed.false)
      ];
}
