use Rattle.design_elements.proofs.FirstPlaces.{firsts_named, firsts_unnamed}
use Rattle.std.proofs.Common.{List, ℕ, Some, sym, ap, ◌∙◌}
use Rattle.design_elements.proofs.partitions.firsts.Goals as goal
use Rattle.design_elements.proofs.partitions.firsts.Goals.{in-Some+in_ok-add_place, in_default}

pub loop-place-preserved : goal.loop-place-preserved
loop-place-preserved c =
    elim c.match-chain.branch [
      | in-Some+in_ok-add_place w ↦
          rw w.places-is
          (firsts_named c.loop-place.places c.args.chains.now c.loop-place.place c.index-chains-place.result c.loop-place-test.true c.index-chains-place.is c.loop-place.invariant w.add_place.new.places
          w.bytes.result.now (ap (λ (n : List ℕ). Some n) w.bytes.ensures.value ∙ sym w.in-Some.is) w.in_ok-add_place.ensures.ok)
      | in_default w ↦
          rw w.places-is
          (firsts_unnamed c.loop-place.places c.args.chains.now c.loop-place.place c.index-chains-place.result c.loop-place-test.true c.index-chains-place.is c.loop-place.invariant (sym w.in_default.is))
    ]
