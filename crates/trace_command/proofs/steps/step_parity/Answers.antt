use Rattle.std.proofs.Common.{rules, ◌≡◌, ap, ◌∙◌, Some}
use Rattle.std.specs.Prelude.{Bool}
use Rattle.std.specs.List.{slice_get}
use Rattle.chain_trace.specs.Parities.{plus, odd}
use Rattle.chain_trace.specs.Paths.{scan_path_at, out_pin_at}
use Rattle.trace_command.proofs.Sums.{entry_odd, out_of_path}
use Rattle.trace_command.proofs.steps.step_parity.Goals as goal

pub returns-in-Some-out_pin : goal.returns-in-Some-out_pin
returns-in-Some-out_pin c =
    let n = c.args.netlist.now in
    let t = c.args.table.now in
    let s = c.args.step in
    let path : scan_path_at n t s.instance s.path ≡ Some c.in-Some.path.now = search rules in
    let found : slice_get c.in-Some.path.now.outs s.out ≡ Some c.in-Some-out_pin.out.now = search rules in
    let out = out_of_path n t s c.in-Some.path.now (Some c.in-Some-out_pin.out.now) path found in
    let bits : c.is_odd.result ≡ odd c.in-Some.path.now.bits = search rules in
    let sum : c.plus.result ≡ plus (odd c.in-Some.path.now.bits) c.in-Some-out_pin.out.now.inverted = c.plus.ensures.value ∙ ap (λ (b : Bool). plus b c.in-Some-out_pin.out.now.inverted) bits in
    record { value = sum ∙ entry_odd (scan_path_at n t s.instance s.path) (out_pin_at n t s) c.in-Some.path.now c.in-Some-out_pin.out.now path out }
