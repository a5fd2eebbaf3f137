use Rattle.std.proofs.Common.{◌≡◌, ℕ, ◌+◌, ◌<◌, List, length, sym, ap, ◌∙◌, subst, arith, Option}
use Rattle.stil_types.specs.declared.statement.ScanCall.{ScanCall}
use Rattle.stil_tester.specs.declared.chains.Chains.{Chains}
use Rattle.fail_map.specs.declared.line.LogLine.{LogLine}
use Rattle.fail_map.specs.Blocks.{AreSameCalls, call_at, call_of_round, read_calls, round_calls}
use Rattle.fail_map.specs.Carried.{IsCarried}
use Rattle.fail_map.specs.Numbered.{line_at, mapped_at}
use Rattle.fail_map.proofs.Blocks.{length_read}
use Rattle.fail_map.proofs.Calls.{AllSameCalls, round_same, same_length, same_at}
use Rattle.fail_map.proofs.Stretches.{AreTried, tried_more, tried_some, tried_none, stays}
use Rattle.fail_map.proofs.mapping.find_lines.Goals.{then-is_some, else-is_some}
use Rattle.fail_map.proofs.mapping.find_lines.Goals as goal

pub find_line-found-requires-clause-long : goal.find_line-found-requires-clause-long
find_line-found-requires-clause-long c =
    let old : Chains = c.args.map.now.0 in
    let new : Chains = c.args.map.now.1 in
    let calls : AllSameCalls old new (round_calls c.args.a.now) (round_calls c.args.b.now) = round_same old new c.args.a.now c.args.b.now c.requires.old_ready c.requires.new_ready c.requires.same.1 in
    ap length c.as_slice.ensures.value
    ∙ sym (length_read c.in_ok-old.old.items)
    ∙ ap length c.in_ok-old.ensures.value
    ∙ same_length old new (round_calls c.args.a.now) (round_calls c.args.b.now) calls
    ∙ sym (ap length c.in_ok-new.ensures.value)
    ∙ length_read c.in_ok-new.new.items
    ∙ sym (ap length c.as_slice-in-loop-at.ensures.value)

pub find_line-found-requires-clause-same : goal.find_line-found-requires-clause-same
find_line-found-requires-clause-same c k l =
    let old : Chains = c.args.map.now.0 in
    let new : Chains = c.args.map.now.1 in
    let calls : AllSameCalls old new (round_calls c.args.a.now) (round_calls c.args.b.now) = round_same old new c.args.a.now c.args.b.now c.requires.old_ready c.requires.new_ready c.requires.same.1 in
    let first : round_calls c.args.a.now ≡ read_calls c.as_slice.result.now = sym (ap read_calls c.as_slice.ensures.value ∙ c.in_ok-old.ensures.value) in
    let second : round_calls c.args.b.now ≡ read_calls c.as_slice-in-loop-at.result.now = sym (ap read_calls c.as_slice-in-loop-at.ensures.value ∙ c.in_ok-new.ensures.value) in
    let within : k < length (round_calls c.args.b.now) = omega (arith, l, ap length second, length_read c.as_slice-in-loop-at.result.now) in
    subst (λ (xs : List ScanCall). AreSameCalls old new (call_at xs k) (call_at (read_calls c.as_slice-in-loop-at.result.now) k)) first
    (subst (λ (ys : List ScanCall). AreSameCalls old new (call_at (round_calls c.args.a.now) k) (call_at ys k)) second (same_at old new (round_calls c.args.a.now) (round_calls c.args.b.now) calls k within))

pub loop-at-preserved : goal.loop-at-preserved
loop-at-preserved c =
    let old : Chains = c.args.map.now.0 in
    let new : Chains = c.args.map.now.1 in
    let calls : List ScanCall = round_calls c.args.b.now in
    let before : ℕ = c.args.stretch.before in
    let lines = c.args.lines.now in
    let at : ℕ = c.loop-at.at in
    let line : LogLine = line_at lines at in
    let found : Option LogLine = c.find_line-found.result in
    let mapped : List (Option LogLine) = c.loop-at.mapped in
    let are : AreTried old new calls before lines c.args.stretch.first at c.args.mapped.now mapped
    = record { long = c.loop-at.invariant.long; others = c.loop-at.invariant.others; found = c.loop-at.invariant.found } in
    let second : read_calls c.as_slice-in-loop-at.result.now ≡ calls = ap read_calls c.as_slice-in-loop-at.ensures.value ∙ c.in_ok-new.ensures.value in
    let carried : IsCarried old new (call_of_round calls before line) line found = subst (λ (cs : List ScanCall). IsCarried old new (call_of_round cs before line) line found) second c.find_line-found.ensures.value in
    let within : at < length lines = omega (arith, c.loop-at-test.true, c.requires.within) in
    let more : AreTried old new calls before lines c.args.stretch.first (at + 1) c.args.mapped.now c.if-is_some.mapped = elim c.if-is_some.branch [
      | then-is_some w ↦
          tried_more old new calls before lines c.args.stretch.first at c.args.mapped.now mapped c.if-is_some.mapped found are c.loop-at.auto.at within
          (tried_some old new (call_of_round calls before line) line (mapped_at mapped at) found carried (sym c.is_some.ensures ∙ w.if-is_some.true)) w.mapped-is
      | else-is_some w ↦
          tried_more old new calls before lines c.args.stretch.first at c.args.mapped.now mapped c.if-is_some.mapped (mapped_at mapped at) are c.loop-at.auto.at within
          (tried_none old new (call_of_round calls before line) line (mapped_at mapped at) found carried (sym c.is_some.ensures ∙ w.if-is_some.false)) (w.mapped-is ∙ stays mapped at)
    ] in
    record { long = more.long; others = more.others; found = more.found }
