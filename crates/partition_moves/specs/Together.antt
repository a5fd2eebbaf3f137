-- Which chains are of one partition, and how they are found.
use Rattle.std.specs.Prelude.{◌≡◌, ℕ, ◌<◌, length, slice_index_or}
use Rattle.chain_rules.specs.Legality.{rule_at}
use Rattle.chain_rules.specs.declared.unit.Rules.{Rules}
use Rattle.partition_moves.specs.declared.partitions.Partitions.{Partitions}

-- two chains are of one partition
abbrev pub AreTogether : Rules → ℕ → ℕ → Type 0
AreTogether rules c d = (rule_at rules c).partition ≡ (rule_at rules d).partition

-- no chain before the first of a partition is of it, and none between a chain and the next
pub record AreTogetherBy (rules : Rules) (p : Partitions) : Type 0 where
  pub first : (q k : ℕ) → q < length p.first.items → k < slice_index_or p.first.items q 0 → (rule_at rules k).partition ≡ q → ⊥
  pub count : length p.next.items ≡ length rules.chains
  pub behind : (c : ℕ) → c < length rules.chains → c < slice_index_or p.next.items c 0
  pub between : (c k : ℕ) → c < length rules.chains → c < k → k < slice_index_or p.next.items c 0 → ¬ AreTogether rules k c
