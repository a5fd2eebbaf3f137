use Rattle.std.proofs.Common.{sym, ap, ◌∙◌}
use Rattle.std.specs.List.{list_any}
use Rattle.std.proofs.lemmas.List.{take_all}
use Rattle.def_reader.specs.Classes.{has_in}
use Rattle.def_reader.proofs.agreement.is_shared.Goals as goal

pub returns : goal.returns
returns c = record {
  value = sym (sym (ap (list_any (has_in c.args.seen.now)) (take_all c.loop-class.class-index c.args.classes.now c.loop-class-test.false)) ∙ c.loop-class.invariant);
}
