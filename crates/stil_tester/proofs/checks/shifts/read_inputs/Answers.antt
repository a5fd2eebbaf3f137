use Rattle.std.proofs.Common.{ℕ, ◌≤◌, List, sym, subst, ap, arith}
use Rattle.std.specs.Prelude.{Option}
use Rattle.stil_types.specs.Calls.{string_length, longest_string}
use Rattle.stil_tester.proofs.Strings.{string_length-longest}
use Rattle.stil_tester.proofs.checks.shifts.read_inputs.Goals as goal

pub load_at-requires-clause-short : goal.load_at-requires-clause-short
load_at-requires-clause-short c =
    let loads = c.as_slice-load-items.result.now in
    let load = c.load-item.result in
    let bound = subst (λ (s : Option (List ℕ)). string_length s ≤ longest_string loads) (sym c.load-item.is) (string_length-longest loads c.loop-n.n load c.loop-n-test.true) in
    let short = ap longest_string c.as_slice-load-items.ensures.value in
    omega (arith, bound, short, c.requires.short)
