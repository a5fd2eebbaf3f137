use Rattle.std.proofs.Common.{◌≡◌, ◌≤◌, ◌+◌, ℕ, drop, take, decimal, ◌∙◌}
use Rattle.std.proofs.lemmas.List.{take_rest}
use Rattle.verilog_checks.proofs.BitNames.{not_closed, not_open, not_plain}
use Rattle.verilog_checks.proofs.bit_names.split_bit.Goals as goal

pub returns-in_err-front : goal.returns-in_err-front
returns-in_err-front c = record { value = rw c.from_residual.ensures (not_closed c.args.name.now c.in_err-front.ensures.value) }

pub returns-in_err-open : goal.returns-in_err-open
returns-in_err-open c = record {
  value = rw c.from_residual-in_err-open.ensures (not_open c.args.name.now c.in_ok-front.front.now c.in_ok-front.ensures.value c.in_err-open.ensures.value);
}

pub returns-in_err-index : goal.returns-in_err-index
returns-in_err-index c =
    let front = c.in_ok-front.front.now in
    let open_at = c.in_ok-open.open in
    let cut = c.in_ok-open.ensures.value in
    let other : (i : ℕ) → i ≤ 65535 → drop (open_at + 1) front ≡ decimal i → ⊥ = λ i h e. c.in_err-index.ensures.value i h (take_rest front (open_at + 1) ∙ e) in
    record { value = rw c.from_residual-in_err-index.ensures (not_plain c.args.name.now front (take open_at front) (drop (open_at + 1) front) c.in_ok-front.ensures.value cut.1 cut.2 other) }
