use Rattle.std.proofs.Common.{rules, ◌≡◌, ℕ, ◌≤◌, [], length, get_or, sym, ap, ◌∙◌, arith, subst}
use Rattle.std.specs.Prelude.{vec_capacity}
use Rattle.std.proofs.lemmas.List.{length-map, length-take}
use Rattle.chain_rules.specs.Plans.{lists_of}
use Rattle.partition_moves.specs.Roomy.{most_in, room_in, rooms_of}
use Rattle.partition_moves.proofs.Settled.{copied_more}
use Rattle.partition_moves.proofs.Worked.{rooms_push}
use Rattle.partition_moves.proofs.work.Work.make.Goals as goal

pub loop-c-preserved : goal.loop-c-preserved
loop-c-preserved c =
    let vs = c.loop-c.chains.items in
    let v = c.extend_from_slice.new.self in
    let long : length vs ≡ c.loop-c.c = omega (arith, length-map vs (λ w. w.items), ap length c.loop-c.invariant.copied, length-take c.loop-c.c c.args.plan.now.chains, c.loop-c-test.true) in
    let last : most_in c.args.rules.now c.args.plan.now c.loop-c.c ≤ vec_capacity v = omega (arith, c.most_units-most.ensures.value, c.in_ok-list.ensures.capacity, c.in_ok-extend_from_slice.ensures.capacity) in
    let here : v.items ≡ get_or c.args.plan.now.chains c.loop-c.c [] = search rules in
    record {
      copied = ap (λ xs. lists_of xs) c.in_ok-push.ensures.items ∙ copied_more vs v c.args.plan.now.chains c.loop-c.c (omega (arith, c.loop-c-test.true, c.len-c-end.ensures.value)) here c.loop-c.invariant.copied;
      roomy = λ k h. subst (λ xs. most_in c.args.rules.now c.args.plan.now k ≤ room_in (rooms_of xs) k) (sym c.in_ok-push.ensures.items) (rooms_push (λ (n : ℕ). most_in c.args.rules.now c.args.plan.now n) vs v c.loop-c.c long c.loop-c.invariant.roomy last k h);
    }
