use Rattle.std.proofs.Common.{◌≡◌, ◌++◌, ◌∷◌, ◌&&◌, length}
use Rattle.std.specs.List.{flat_map}
use Rattle.head_text.specs.Written.{mark_if}
use Rattle.head_writer.specs.NewChains.{new_bits}
use Rattle.head_writer.proofs.edits.put_bits.Given as goal

abbrev pub invariant-loop-bit : goal.invariant-loop-bit
invariant-loop-bit l =
    l.out.items ++ flat_map (λ b. mark_if (l.marks && b.inverts) ++ 32 ∷ b.name) (new_bits l.names l.rest l.left)
    ≡ l.initial.out.items ++ flat_map (λ b. mark_if (l.marks && b.inverts) ++ 32 ∷ b.name) (new_bits l.names l.path.bits l.path.parity)

abbrev pub decreases-loop-bit : goal.decreases-loop-bit
decreases-loop-bit l = length l.rest
