use Rattle.scan_job.proofs.Figures.{design_lines}
use Rattle.scan_job.proofs.commands.reorder.figure_lines.Goals as goal

pub returns : goal.returns
returns c = record {
  value = design_lines c.args.figures.now c.new-text.result.items c.push_figure.new.text.items c.push_figure-2.new.text.items c.push_measured.new.text.items c.push_figure-3.new.text.items
      c.push_figure-4.new.text.items c.push_cut_of.new.text.items c.new-text.ensures.items c.in_ok-push_figure.ensures.value c.in_ok-push_figure-2.ensures.value c.in_ok-push_measured.ensures.value
      c.in_ok-push_figure-3.ensures.value c.in_ok-push_figure-4.ensures.value c.in_ok-push_cut_of.ensures.value;
}
