use Rattle.std.proofs.Common.{◌≡◌, cond, Some, None, take}
use Rattle.def_reader.specs.Steps.{PinKey}
use Rattle.def_writer.specs.Moved.Sites.{is_wanted, site_by}
use Rattle.def_writer.proofs.moved.sites.wanted.Given as goal

abbrev pub invariant-loop-pair : goal.invariant-loop-pair
invariant-loop-pair l = (q : PinKey) → site_by l.sites q ≡ cond (is_wanted (take l.pair-index l.pairs) q) (Some None) None
