use Rattle.std.proofs.Common.{◌≡◌, map, refl, arith}
use Rattle.std.proofs.lemmas.Bool.{false≢true}
use Rattle.same_files.specs.Cells.{seen}
use Rattle.same_files.proofs.Entries.{same_by_places, same_at}
use Rattle.same_files.proofs.cells.are_equal.Goals as goal

pub returns-then-not-is_same : goal.returns-then-not-is_same
returns-then-not-is_same c = record {
  value = (λ h. absurd (false≢true h), λ e. c.if-not-is_same.ensures.value.1 (same_at c.args.a.now c.args.b.now c.loop-index.index _ e));
}

pub returns : goal.returns
returns c =
    let same : map seen c.args.a.now ≡ map seen c.args.b.now = same_by_places c.args.a.now c.args.b.now c.if-a-b.false (λ k d l. c.loop-index.invariant k d (omega arith)) in
    record { value = (λ h. same, λ e. refl) }
