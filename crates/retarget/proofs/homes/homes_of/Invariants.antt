use Rattle.std.proofs.Common.{◌≡◌, ℕ, ◌<◌, length, get_or}
use Rattle.retarget.specs.Places.{chain_bits, bits_at}
use Rattle.retarget.specs.Homes.{IsHome, home_at}
use Rattle.retarget.proofs.homes.homes_of.Given as goal

abbrev pub invariant-loop-number : goal.invariant-loop-number
invariant-loop-number l = record {
  long : length l.homes.items ≡ l.chains.cells;
  done : (c i : ℕ) → c < l.number → i < bits_at l.chains c → IsHome l.chains (get_or (chain_bits l.chains c).cells i 0) (home_at l.homes.items (get_or (chain_bits l.chains c).cells i 0));
}
