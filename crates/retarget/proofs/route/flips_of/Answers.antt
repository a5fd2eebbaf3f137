use Rattle.std.proofs.Common.{ℕ, List, [], Bool, false, get_or}
use Rattle.std.specs.Int.{from_bool}
use Rattle.stil_tester.specs.Symbols.{differ}
use Rattle.retarget.proofs.ExitOrder.{push_range}
use Rattle.retarget.proofs.route.flips_of.Goals as goal

pub loop-place-preserved : goal.loop-place-preserved
loop-place-preserved c =
    let sources : List ℕ = c.args.sources.now in
    let before : List Bool = c.args.before.now in
    let after : List Bool = c.args.after.now in
    push_range (λ (n : ℕ). from_bool (differ (get_or before (get_or sources n 0) false) (get_or after n false))) c.loop-place.place [] c.loop-place.flips c.push.new.self c.from.result c.from.ensures c.in_ok-push.ensures.ok c.loop-place.invariant
