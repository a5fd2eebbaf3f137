use Rattle.std.proofs.Common.{◌∙◌}
use Rattle.std.proofs.lemmas.Result.{IfOk-weaker}
use Rattle.def_writer.proofs.moved.FoundSites.{made_by}
use Rattle.def_writer.proofs.moved.moves.moves_for.Goals as goal

pub returns : goal.returns
returns c = record {
  value = IfOk-weaker c.moves_of.result _ _
      (λ moves is. made_by c.args.netlist.now c.args.table.now c.args.design.now c.args.old.now c.args.new.now c.as_slice.result.now c.in_ok-pairs.pairs.items c.as_slice-2.result.now c.as_slice-4.result.now c.as_slice-3.result.now
      c.in_ok-sites.sites moves.items (c.as_slice.ensures.value ∙ c.in_ok-links.ensures.value) c.in_ok-pairs.ensures.value c.as_slice-3.ensures.value c.as_slice-2.ensures.value c.as_slice-4.ensures.value c.in_ok-sites.ensures.value is)
      c.moves_of.ensures.value;
}
