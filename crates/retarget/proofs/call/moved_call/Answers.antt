use Rattle.std.proofs.Common.{◌≡◌, ℕ, List, Option, length, ap, sym, ◌∙◌}
use Rattle.stil_types.specs.declared.statement.ScanCall.{ScanCall}
use Rattle.stil_tester.specs.declared.chains.Chains.{Chains}
use Rattle.stil_tester.proofs.Calls.{length-compares, length-loads}
use Rattle.retarget.specs.declared.side.Side.TheVariants.{Load, Compare}
use Rattle.retarget.specs.Moved.{moved_strings}
use Rattle.retarget.specs.Places.{longest}
use Rattle.retarget.proofs.MovedCalls.{shifting}
use Rattle.retarget.proofs.call.moved_call.Goals as goal

pub moved_strings-requires-clause-strings : goal.moved_strings-requires-clause-strings
moved_strings-requires-clause-strings c = ap length c.as_slice-given.ensures.value ∙ length-loads c.args.old.now c.args.call.now c.requires.call

pub moved_strings-requires-2-clause-strings : goal.moved_strings-requires-2-clause-strings
moved_strings-requires-2-clause-strings c = ap length c.as_slice-given-2.ensures.value ∙ length-compares c.args.old.now c.args.call.now c.requires.call

pub returns : goal.returns
returns c =
    let old : Chains = c.args.old.now in
    let new : Chains = c.args.new.now in
    let call : ScanCall = c.args.call.now in
    let loads : c.in_ok-loads.loads ≡ moved_strings Load old new call.loads = c.in_ok-loads.ensures ∙ ap (moved_strings Load old new) c.as_slice-given.ensures.value in
    let compares : c.in_ok-compares.compares ≡ moved_strings Compare old new call.compares = c.in_ok-compares.ensures ∙ ap (moved_strings Compare old new) c.as_slice-given-2.ensures.value in
    let made : ◌≡◌ {A = ScanCall} (record { shifts = c.args.shifts; loads = c.in_ok-loads.loads; compares = c.in_ok-compares.compares }) (record { shifts = longest new; loads = moved_strings Load old new call.loads; compares = moved_strings Compare old new call.compares })
    = λ i. record { shifts = c.requires.map.longest_new i; loads = loads i; compares = compares i } in
    made ∙ sym (shifting old new call c.requires.some)
