use Rattle.std.proofs.Common.{not, ap, ◌∙◌}
use Rattle.std.specs.HashSet.{contains}
use Rattle.path_links.specs.EditKeys.{same_key}
use Rattle.path_links.proofs.EditKeys.{has_link}
use Rattle.net_edit.proofs.moved.lacks.Goals as goal

pub returns : goal.returns
returns c = record {
  value = λ links has. ap not (c.contains.ensures ∙ (ap (contains same_key c.args.set.now) c.key_of.ensures.value ∙ has_link links c.args.set.now c.args.link has));
}
