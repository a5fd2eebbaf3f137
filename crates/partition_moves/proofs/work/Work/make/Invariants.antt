use Rattle.std.proofs.Common.{◌≡◌, ℕ, ◌<◌, ◌≤◌, take}
use Rattle.chain_rules.specs.Plans.{lists_of}
use Rattle.partition_moves.specs.Roomy.{most_in, room_in, rooms_of}
use Rattle.partition_moves.proofs.work.Work.make.Given as goal

abbrev pub invariant-loop-c : goal.invariant-loop-c
invariant-loop-c l = record {
  copied : lists_of l.chains.items ≡ take l.c l.plan.chains;
  roomy : (k : ℕ) → k < l.c → most_in l.rules l.plan k ≤ room_in (rooms_of l.chains.items) k;
}
