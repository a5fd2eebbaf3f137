use Rattle.std.proofs.Common.{◌≡◌, ℕ, pos, ◌≤◌, ◌*◌, ◌^◌, get_or, take, length}
use Rattle.wire_cost.specs.Lengths.{ChainEnds, IsNearOrNowhere, forward_sum, end_of}
use Rattle.wire_cost.proofs.sums.fill_row.Given as goal

abbrev pub invariant-loop-i : goal.invariant-loop-i
invariant-loop-i l =
    let w : ChainEnds = record { entry = l.entries; exit = l.exits; start = l.fn.start; stop = l.stop } in
    record {
      near : IsNearOrNowhere l.at;
      at : l.at ≡ end_of w.exit w.start (take l.i l.units);
      total : l.total ≡ forward_sum w l.units l.i;
      small : l.total ≤ 2 ^ 43 * l.i;
      count : length l.row ≡ length l.fn.row;
      smalls : (k : ℕ) → k ≤ l.i → forward_sum w l.units k ≤ 2 ^ 43 * k;
      sums : (k : ℕ) → k ≤ l.i → get_or l.row k (pos 0) ≡ pos (forward_sum w l.units k);
    }
