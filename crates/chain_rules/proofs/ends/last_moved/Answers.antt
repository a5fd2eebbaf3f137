use Rattle.std.proofs.Common.{◌∙◌, sym, arith, remove, slice_index_or}
use Rattle.std.proofs.lemmas.List.Edits.{length-remove}
use Rattle.chain_rules.proofs.Lasts.{last-insert}
use Rattle.chain_rules.proofs.ends.last_moved.Goals as goal

pub returns-else-to-us : goal.returns-else-to-us
returns-else-to-us c =
    let us = c.args.us.now in
    let long = length-remove c.args.us.now c.args.from c.requires.from in
    record { value = c.last_without.ensures.value ∙ sym (last-insert (remove c.args.us.now c.args.from) c.args.to (slice_index_or c.args.us.now c.args.from 0) (omega arith)) }
