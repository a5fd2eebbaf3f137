-- Blocks that are written one by one.
use Rattle.std.proofs.Common.{◌≡◌, ℕ, ◌+◌, ◌*◌, ◌/◌, ◌<◌, ◌≤◌, List, length, get_or, set, inl, inr, sym, arith, subst}
use Rattle.std.proofs.lemmas.Bool.{cases_lt}
use Rattle.std.proofs.lemmas.List.{get_or-set_other, get_or-set_same}
use Rattle.wire_cost.specs.Lengths.{ChainEnds}
use Rattle.partition_moves.specs.Covers.{AreBlocks, Covers, IsNearBlock}
use Rattle.partition_moves.specs.declared.blocks.block.Block.{Block}

-- the first n blocks cover their places
pub record AreFirstBlocks (w : ChainEnds) (us : List ℕ) (blocks : List Block) (n : ℕ) : Type 0 where
  pub near : (b : ℕ) (d : Block) → b < n → IsNearBlock (get_or blocks b d)
  pub each : (b k : ℕ) (d : Block) → b < n → b * 32 ≤ k → k < b * 32 + 32 → k ≤ length us → Covers w us (get_or blocks b d) k

pub blocks_none : (w : ChainEnds) (us : List ℕ) (blocks : List Block) → AreFirstBlocks w us blocks 0
blocks_none w us blocks = record { near = λ b d l. absurd (omega arith); each = λ b k d l. absurd (omega arith) }

pub blocks_more : (w : ChainEnds) (us : List ℕ) (blocks : List Block) (n until : ℕ) (x : Block) → n < length blocks → IsNearBlock x → ((k : ℕ) → n * 32 ≤ k → k < until → Covers w us x k)
    → ((k : ℕ) → k < n * 32 + 32 → k ≤ length us → k < until) → AreFirstBlocks w us blocks n → AreFirstBlocks w us (set blocks n x) (n + 1)
blocks_more w us blocks n until x l near covers reach h = record {
  near = λ b d p. elim (cases_lt b n) [
    | inl a ↦ subst IsNearBlock (sym (get_or-set_other blocks n b x d (λ e. omega arith))) (h.near b d a)
    | inr a ↦ (let e : n ≡ b = omega arith in subst (λ (i : ℕ). IsNearBlock (get_or (set blocks n x) i d)) e (subst IsNearBlock (sym (get_or-set_same blocks n x d l)) near))
  ];
  each = λ b k d p q r s. elim (cases_lt b n) [
    | inl a ↦ subst (λ (y : Block). Covers w us y k) (sym (get_or-set_other blocks n b x d (λ e. omega arith))) (h.each b k d a q r s)
    | inr a ↦ (
        let e : n ≡ b = omega arith in
        let c : Covers w us (get_or (set blocks n x) n d) k = subst (λ (y : Block). Covers w us y k) (sym (get_or-set_same blocks n x d l)) (covers k (omega arith) (reach k (omega arith) s)) in
        subst (λ (i : ℕ). Covers w us (get_or (set blocks n x) i d) k) e c
        )
  ];
}

pub blocks_all : (w : ChainEnds) (us : List ℕ) (blocks : List Block) (n : ℕ) → length us / 32 + 1 ≤ n → AreFirstBlocks w us blocks n → AreBlocks w us blocks
blocks_all w us blocks n l h = record {
  near = λ b d p. h.near b d (omega arith);
  each = λ b k d p q r. h.each b k d (omega arith) p q r;
}
