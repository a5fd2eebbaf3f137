use Rattle.std.proofs.Common.{◌∙◌}
use Rattle.scan_job.proofs.Figures.{all_lines}
use Rattle.scan_job.proofs.commands.patterns.all_figure_lines.Goals as goal

pub returns : goal.returns
returns c = record {
  value = c.of.ensures.value
      ∙ all_lines c.args.figures.now c.args.patterns.now c.in_ok-text.text.items c.push_figure.new.text.items c.push_figure-2.new.text.items c.push_figure-3.new.text.items
      c.in_ok-text.ensures.value c.in_ok-push_figure.ensures.value c.in_ok-push_figure-2.ensures.value c.in_ok-push_figure-3.ensures.value;
}
