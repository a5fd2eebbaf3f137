-- What a block of places says of each of them. The place k of a chain is that before its unit k, or before its stop.
use Rattle.std.specs.Prelude.{ℕ, ◌+◌, ◌*◌, ◌^◌, ◌<◌, ◌≤◌, List, length, slice_index_or}
use Rattle.partition_moves.specs.declared.blocks.block.Block.{Block}
use Rattle.partition_moves.specs.Areas.{IsInside, IsNearArea}
use Rattle.wire_cost.specs.Lengths.{ChainEnds, link_of}
use Rattle.wire_cost.specs.Rows.{before_at, next_at}

-- the link at a place of a chain
abbrev pub link_at : ChainEnds → List ℕ → ℕ → ℕ
link_at w us k = link_of (before_at w us k) (next_at w us k)

-- the block's bounds are near and small
pub record IsNearBlock (b : Block) : Type 0 where
  pub from : IsNearArea b.from
  pub to : IsNearArea b.to
  pub link : b.link ≤ 2 ^ 43
  pub pair : b.pair ≤ 2 ^ 44

-- the block's bounds hold at place k: where one comes from and goes to there, and behind the unit, and the links there
pub record Covers (w : ChainEnds) (us : List ℕ) (b : Block) (k : ℕ) : Type 0 where
  pub from : IsInside b.from (before_at w us k)
  pub to : IsInside b.to (next_at w us k)
  pub behind : k < length us → IsInside b.to (next_at w us (k + 1))
  pub link : link_at w us k ≤ b.link
  pub pair : k < length us → link_at w us k + link_at w us (k + 1) ≤ b.pair

-- the block with number b covers the places from 32 b on, 32 at most
pub record AreBlocks (w : ChainEnds) (us : List ℕ) (blocks : List Block) : Type 0 where
  pub near : (b : ℕ) (d : Block) → b * 32 ≤ length us → IsNearBlock (slice_index_or blocks b d)
  pub each : (b k : ℕ) (d : Block) → b * 32 ≤ k → k < b * 32 + 32 → k ≤ length us → Covers w us (slice_index_or blocks b d) k
