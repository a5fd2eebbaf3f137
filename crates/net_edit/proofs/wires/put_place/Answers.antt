use Rattle.std.proofs.Common.{◌≡◌, ◌∙◌, ap, sym, Some, cond, arith}
use Rattle.std.specs.HashMap.{get}
use Rattle.net_edit.specs.NewWires.{source_key, same_key}
use Rattle.net_edit.proofs.Places.{place_put, place_kept}
use Rattle.net_edit.proofs.wires.put_place.Goals as goal

pub returns-in_ok-insert : goal.returns-in_ok-insert
returns-in_ok-insert c =
    let same : c.in-Ok.place ≡ c.args.place = omega (arith, c.in-Ok.ensures) in
    record {
      value = λ other.
          place_put c.args.source other (get same_key c.args.places.now) _ c.source_key-key.result c.args.place c.source_key-key.ensures.value (sym c.if-not-contains_key.ensures)
          (c.in_ok-insert.ensures.updates.0 (source_key other) ∙ ap (λ p. cond (same_key c.source_key-key.result (source_key other)) (Some p) (get same_key c.args.places.now (source_key other))) same);
    }

pub returns-else-not-contains_key : goal.returns-else-not-contains_key
returns-else-not-contains_key c = record {
  value = λ other. place_kept c.args.source other (get same_key c.args.places.now) c.source_key-key.result c.args.place c.source_key-key.ensures.value (sym c.if-not-contains_key.ensures);
}
