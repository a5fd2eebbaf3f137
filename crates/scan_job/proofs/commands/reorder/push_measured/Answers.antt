use Rattle.std.proofs.Common.{◌++◌, ap, sym, ◌∙◌}
use Rattle.reorder_command.specs.declared.figures.Measured.{Measured}
use Rattle.scan_job.specs.Commands.Reorder.{measured_text}
use Rattle.scan_job.proofs.Figures.{two_behind, three_behind}
use Rattle.scan_job.proofs.commands.reorder.push_measured.Goals as goal

pub returns-in_ok-push_figure-in-Lengths-3 : goal.returns-in_ok-push_figure-in-Lengths-3
returns-in_ok-push_figure-in-Lengths-3 c = record {
  value = three_behind c.args.text.now.items c.push_figure.new.text.items c.push_figure-in-Lengths.new.text.items c.push_figure-in-Lengths-2.new.text.items _ _ _
      c.in_ok-push_figure-in-Lengths.ensures.value c.in_ok-push_figure-in-Lengths-2.ensures.value c.in_ok-push_figure-in-Lengths-3.ensures.value
      ∙ ap (λ (m : Measured). c.args.text.now.items ++ measured_text m) (sym c.in-Lengths.is);
}

pub returns-in_ok-push_figure-in-Longest-2 : goal.returns-in_ok-push_figure-in-Longest-2
returns-in_ok-push_figure-in-Longest-2 c = record {
  value = two_behind c.args.text.now.items c.push_figure-in-Longest.new.text.items c.push_figure-in-Longest-2.new.text.items _ _
      c.in_ok-push_figure-in-Longest.ensures.value c.in_ok-push_figure-in-Longest-2.ensures.value
      ∙ ap (λ (m : Measured). c.args.text.now.items ++ measured_text m) (sym c.in-Longest.is);
}
