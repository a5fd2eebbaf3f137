use Rattle.std.proofs.Common.{◌≡◌, ◌<◌, length, zero, refl, ap, inr, arith}
use Rattle.std.specs.Prelude.{option_map}
use Rattle.base_types.proofs.TruthValues.{was_there, was_new}
use Rattle.traced_paths.specs.Asked.{told}
use Rattle.traced_paths.proofs.Wanted.{put_none, put_again, put_new, put_full}
use Rattle.traced_paths.proofs.outputs.put_output.Goals as goal

pub returns-in_default-clause-put : goal.returns-in_default-clause-put
returns-in_default-clause-put c _ before has =
    put_none c.args.ports.now before (told c.args.ask.now) c.args.nets.now.items c.args.seen.now has (ap (option_map (λ name. name.now)) c.in_default.is)

pub returns-then-not-branch-clause-put : goal.returns-then-not-branch-clause-put
returns-then-not-branch-clause-put c _ before has =
    put_again c.args.ports.now before (told c.args.ask.now) c.args.nets.now.items c.args.seen.now has c.in-Some.name (ap (option_map (λ name. name.now)) c.in-Some.is) c.insert.new.self
    c.in_ok-insert.ensures.updates.0 (was_there _ _ c.in_ok-insert.ensures.added c.if-not-branch.true)

pub returns-then-len-eq-MOST_PATHS-clause-full : goal.returns-then-len-eq-MOST_PATHS-clause-full
returns-then-len-eq-MOST_PATHS-clause-full c _ before has =
    let full : length c.args.nets.now.items ≡ 256 = omega (arith, c.args.nets.now.ok, c.len.ensures, c.if-len-eq-MOST_PATHS.true) in
    put_full c.args.ports.now before (told c.args.ask.now) c.args.nets.now.items c.args.seen.now has c.in-Some.name (ap (option_map (λ name. name.now)) c.in-Some.is) c.insert.new.self
    c.in_ok-insert.ensures.updates.0 (was_new _ _ c.in_ok-insert.ensures.added c.if-not-branch.false) full

pub unreachable-requires : goal.unreachable-requires
unreachable-requires c =
    c.requires.there c.args.ask.now.line
    (record {
      one = told c.args.ask.now;
      there = (zero, omega arith, refl);
      none = inr (record { name = c.in-Some.name.now; named = ap (option_map (λ name. name.now)) c.in-Some.is; none = c.in_default-output.ensures.value });
      is = refl;
    })

pub returns-clause-put : goal.returns-clause-put
returns-clause-put c _ before has =
    let few : length c.args.nets.now.items < 256 = omega (arith, c.args.nets.now.ok, c.len.ensures, c.if-len-eq-MOST_PATHS.false, has.outputs.few) in
    rw c.in_ok-push.ensures.items
    (put_new c.args.ports.now before (told c.args.ask.now) c.args.nets.now.items c.args.seen.now has c.in-Some.name (ap (option_map (λ name. name.now)) c.in-Some.is) c.insert.new.self
    c.in_ok-insert.ensures.updates.0 (was_new _ _ c.in_ok-insert.ensures.added c.if-not-branch.false) c.in-Some-output.net c.in-Some-output.ensures.value few)
