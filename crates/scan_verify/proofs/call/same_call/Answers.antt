use Rattle.std.proofs.Common.{sym}
use Rattle.scan_verify.proofs.Same.{AreAccepted, none_where_shown}
use Rattle.scan_verify.proofs.call.same_call.Goals as goal

pub returns : goal.returns
returns c =
    let calls : AreAccepted c.args.map.now.0 c.args.map.now.1 c.args.a.now c.args.b.now
    = record { old_call = c.requires.old_call; old_accepted = c.requires.old_accepted; new_call = c.requires.new_call; new_accepted = c.requires.new_accepted } in
    record {
      value = none_where_shown c.args.map.now.0 c.args.map.now.1 c.args.a.now c.args.b.now c.old_chains.ensures.same calls c.difference_among.result c.is_none.result (sym c.is_none.ensures) c.difference_among.ensures.value;
    }
