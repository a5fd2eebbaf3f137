use Rattle.std.proofs.Common.{List, cond, Some, None, ap, ◌∙◌}
use Rattle.std.proofs.lemmas.List.{take_all}
use Rattle.def_reader.specs.declared.design.Net.{Net}
use Rattle.def_reader.specs.Steps.{pin_of_key}
use Rattle.def_writer.specs.Moved.Moves.{site_in}
use Rattle.def_writer.specs.Moved.Sites.{is_wanted}
use Rattle.def_writer.proofs.moved.FoundSites.{net_put}
use Rattle.def_writer.proofs.moved.sites.sites_of.Goals as goal

pub loop-number-preserved : goal.loop-number-preserved
loop-number-preserved c = λ q.
    net_put c.args.nets.now c.loop-number.number c.index-nets-number.result (pin_of_key q) (is_wanted c.args.pairs.now q) _ _ c.loop-number-test.true c.index-nets-number.is (c.in_ok-note_net.ensures.value q) (c.loop-number.invariant q)

pub returns : goal.returns
returns c = record {
  value = λ q.
      c.loop-number.invariant q
      ∙ ap (λ (ns : List Net). cond (is_wanted c.args.pairs.now q) (Some (site_in ns (pin_of_key q))) None) (take_all c.loop-number.number c.args.nets.now c.loop-number-test.false);
}
