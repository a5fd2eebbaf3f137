use Rattle.std.proofs.Common.{◌≡◌, ℕ, pos, ◌-◌, ◌∷◌, [], length, get_or, rules, sym, ap, ◌∙◌, arith, w64, FitsSigned}
use Rattle.std.proofs.lemmas.Int.{ints}
use Rattle.std.proofs.lemmas.List.{length-append}
use Rattle.wire_cost.specs.Lengths.{chain_ends}
use Rattle.wire_cost.specs.Rows.{before_at, next_at}
use Rattle.length_bound.specs.Certificates.{number_at}
use Rattle.length_bound.specs.Growth.{IsNearPlace, IsPlace}
use Rattle.length_bound.proofs.Growths.{place_pushed, places_whole}
use Rattle.length_bound.proofs.trees.places_of.Goals as goal

pub loop-number-preserved : goal.loop-number-preserved
loop-number-preserved c =
    let w = chain_ends c.args.ends.now c.args.chain in
    let us = c.args.units.now in
    let ws = c.args.weights.now in
    let old = c.loop-number.row.items in
    let new = c.push.new.self.items in
    let k = c.loop-number.number in
    let p = c.place_of.result in
    let at = c.place_of.ensures.number in
    let count = c.loop-number.invariant.count in
    let items = c.in_ok-push.ensures.items in
    let g : FitsSigned w64 (get_or ws k (pos 0)) = search rules in
    let same : number_at ws p.number ≡ number_at ws k = ap (number_at ws) at in
    let light = c.place_of.ensures.weight in
    let here : IsPlace w us ws p = record {
      within = omega arith;
      exit = λ le. c.place_of.ensures.exit (omega arith) ∙ ap (before_at w us) (sym at);
      entry = λ lt. c.place_of.ensures.entry (omega arith) ∙ ap (λ (m : ℕ). next_at w us (m - 1)) (sym at);
      weight = omega (arith, ints);
    } in
    record {
      count = ap length items ∙ length-append old (p ∷ []) ∙ omega arith;
      each = place_pushed (λ i q. IsPlace w us ws q) old new k p count items c.loop-number.invariant.each here;
      near = place_pushed (λ i q. IsNearPlace q) old new k p count items c.loop-number.invariant.near c.place_of.ensures.near;
      numbers = place_pushed (λ i q. q.number ≡ i) old new k p count items c.loop-number.invariant.numbers at;
    }

pub returns-clause-places : goal.returns-clause-places
returns-clause-places c =
    places_whole (chain_ends c.args.ends.now c.args.chain) c.args.units.now c.args.weights.now c.loop-number.row.items (omega arith) (λ i lt. c.loop-number.invariant.each i (omega arith))
    (λ i lt. c.loop-number.invariant.numbers i (omega arith))
