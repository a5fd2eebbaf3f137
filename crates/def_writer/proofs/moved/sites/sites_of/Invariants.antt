use Rattle.std.proofs.Common.{◌≡◌, cond, Some, None, take}
use Rattle.def_reader.specs.Steps.{PinKey, pin_of_key}
use Rattle.def_writer.specs.Moved.Moves.{site_in}
use Rattle.def_writer.specs.Moved.Sites.{is_wanted, site_by}
use Rattle.def_writer.proofs.moved.sites.sites_of.Given as goal

abbrev pub invariant-loop-number : goal.invariant-loop-number
invariant-loop-number l = (q : PinKey) → site_by l.sites q ≡ cond (is_wanted l.pairs q) (Some (site_in (take l.number l.nets) (pin_of_key q))) None
