use Rattle.std.proofs.Common.{ap}
use Rattle.std.specs.List.{list_any}
use Rattle.std.specs.Str.{bytes_eq}
use Rattle.traced_paths.proofs.Wanted.{none_yet, lacks_one, too_many}
use Rattle.traced_paths.proofs.outputs.outputs_of.Goals as goal

pub loop-ask-init : goal.loop-ask-init
loop-ask-init c = rw c.new-nets.ensures.items (none_yet c.args.ports.now c.new-seen.result (λ q. ap (list_any (λ k. bytes_eq q.now k.now)) c.new-seen.ensures.empty))

pub put_output-requires : goal.put_output-requires
put_output-requires c = record { there = λ line h. c.requires.there line (lacks_one c.args.ports.now c.args.asks.now c.loop-ask.ask-index _ c.loop-ask-test.true line h) }

pub returns-then-not-branch-clause-fault : goal.returns-then-not-branch-clause-fault
returns-then-not-branch-clause-fault c =
    too_many c.args.ports.now c.args.asks.now c.loop-ask.ask-index _ c.loop-ask-test.true c.args.file c.at_line.result c.at_line.ensures.value (c.in_ok-put_output.ensures.full c.if-not-branch.true _ c.loop-ask.invariant)
