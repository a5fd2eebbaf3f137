use Rattle.std.proofs.Common.{rules, None, ◌≡◌, ℕ, ℤ, pos, ◌+◌, ◌-◌, ◌<◌, ◌≤◌, List, length, get_or, refl, ap, ◌∙◌, arith, subst}
use Rattle.std.specs.Prelude.{◌-ℤ◌, unsigned_abs}
use Rattle.std.specs.List.{slice_get}
use Rattle.base_types.specs.declared.span.Point.{Point}
use Rattle.wire_cost.specs.Lengths.{ChainEnds, chain_ends, forward_sum, backward_sum}
use Rattle.wire_cost.specs.Rows.{x_of, y_of, next_at, before_at}
use Rattle.wire_cost.proofs.Places.{kept_at, row_is, next_x, next_y, before_x, before_y}
use Rattle.wire_cost.proofs.sums.Sums.fill_links.Goals as goal

pub returns-clause-rows : goal.returns-clause-rows
returns-clause-rows c =
    let w : ChainEnds = chain_ends c.args.ends.now c.args.chain in
    let us : List ℕ = c.args.units.now in
    let next_xs : (k : ℕ) → k < length us → get_or c.fill_places.new.xs (0 + k) (pos 0) ≡ x_of (slice_get w.entry (get_or us k 0))
    = subst (λ (es : List Point). (k : ℕ) → k < length us → get_or c.fill_places.new.xs (0 + k) (pos 0) ≡ x_of (slice_get es (get_or us k 0))) c.as_slice-entries.ensures.value c.fill_places.ensures.x
    in
    let next_ys : (k : ℕ) → k < length us → get_or c.fill_places.new.ys (0 + k) (pos 0) ≡ y_of (slice_get w.entry (get_or us k 0))
    = subst (λ (es : List Point). (k : ℕ) → k < length us → get_or c.fill_places.new.ys (0 + k) (pos 0) ≡ y_of (slice_get es (get_or us k 0))) c.as_slice-entries.ensures.value c.fill_places.ensures.y
    in
    let before_xs : (k : ℕ) → k < length us → get_or c.fill_places-2.new.xs (1 + k) (pos 0) ≡ x_of (slice_get w.exit (get_or us k 0))
    = subst (λ (es : List Point). (k : ℕ) → k < length us → get_or c.fill_places-2.new.xs (1 + k) (pos 0) ≡ x_of (slice_get es (get_or us k 0))) c.as_slice-exits.ensures.value c.fill_places-2.ensures.x
    in
    let before_ys : (k : ℕ) → k < length us → get_or c.fill_places-2.new.ys (1 + k) (pos 0) ≡ y_of (slice_get w.exit (get_or us k 0))
    = subst (λ (es : List Point). (k : ℕ) → k < length us → get_or c.fill_places-2.new.ys (1 + k) (pos 0) ≡ y_of (slice_get es (get_or us k 0))) c.as_slice-exits.ensures.value c.fill_places-2.ensures.y
    in
    let stop_x : get_or c.set_place.new.xs (length us) (pos 0) ≡ x_of w.stop = search rules in
    let stop_y : get_or c.set_place.new.ys (length us) (pos 0) ≡ y_of w.stop = search rules in
    let start_x : get_or c.set_place-2.new.xs 0 (pos 0) ≡ x_of w.start = search rules in
    let start_y : get_or c.set_place-2.new.ys 0 (pos 0) ≡ y_of w.start = search rules in
    let forward : (k : ℕ) → k ≤ length us + 1 → get_or c.as_slice-forward.result.now k (pos 0) ≡ pos (forward_sum w us k)
    = λ k l.
    ap (λ (xs : List ℤ). get_or xs k (pos 0)) c.as_slice-forward.ensures.value ∙ kept_at c.self.inside.forward.len c.fill_row.new.row c.self.inside.forward.items k (search rules) (search rules) ∙ c.fill_row.ensures.sums k l
    ∙ (λ t. pos (forward_sum (record { entry = c.as_slice-entries.ensures.value t; exit = c.as_slice-exits.ensures.value t; start = get_or (c.as_slice.ensures.value t) c.args.chain None; stop = get_or (c.as_slice-2.ensures.value t) c.args.chain None }) us k))
    in
    let backward : (k : ℕ) → k ≤ length us + 1 → get_or c.as_slice-backward.result.now k (pos 0) ≡ pos (backward_sum w us k)
    = λ k l.
    ap (λ (xs : List ℤ). get_or xs k (pos 0)) c.as_slice-backward.ensures.value ∙ kept_at c.self.inside.backward.len c.fill_row-2.new.row c.self.inside.backward.items k (search rules) (search rules) ∙ c.fill_row-2.ensures.sums k l
    ∙ (λ t. pos (forward_sum (record { entry = c.as_slice-exits.ensures.value t; exit = c.as_slice-entries.ensures.value t; start = get_or (c.as_slice.ensures.value t) c.args.chain None; stop = get_or (c.as_slice-2.ensures.value t) c.args.chain None }) us k))
    in
    record {
      entry_x = row_is (length us + 1) (length us + 1) c.self.inside.entry_x.len (λ (k : ℕ). x_of (next_at w us k)) c.set_place.new.xs c.self.inside.entry_x.items refl (search rules) (search rules)
          (next_x w us c.fill_places.new.xs c.set_place.new.xs next_xs stop_x c.set_place.ensures.x_others);
      entry_y = row_is (length us + 1) (length us + 1) c.self.inside.entry_y.len (λ (k : ℕ). y_of (next_at w us k)) c.set_place.new.ys c.self.inside.entry_y.items refl (search rules) (search rules)
          (next_y w us c.fill_places.new.ys c.set_place.new.ys next_ys stop_y c.set_place.ensures.y_others);
      exit_x = row_is (length us + 1) (length us + 1) c.self.inside.exit_x.len (λ (k : ℕ). x_of (before_at w us k)) c.fill_places-2.new.xs c.self.inside.exit_x.items refl (search rules) (search rules)
          (before_x w us c.set_place-2.new.xs c.fill_places-2.new.xs start_x c.fill_places-2.ensures.x_before before_xs);
      exit_y = row_is (length us + 1) (length us + 1) c.self.inside.exit_y.len (λ (k : ℕ). y_of (before_at w us k)) c.fill_places-2.new.ys c.self.inside.exit_y.items refl (search rules) (search rules)
          (before_y w us c.set_place-2.new.ys c.fill_places-2.new.ys start_y c.fill_places-2.ensures.y_before before_ys);
      turned = row_is (length us) (length us + 1 - 1) c.self.inside.turned.len (λ (k : ℕ). pos (backward_sum w us (k + 1)) -ℤ pos (forward_sum w us (k + 2))) c.fill_turned.new.turned c.self.inside.turned.items (omega arith) (search rules) (search rules)
          (λ k l. c.fill_turned.ensures.each k l ∙ (λ t. backward (k + 1) (omega arith) t -ℤ forward (k + 2) (omega arith) t));
      gaps = row_is (length us + 1) (length us + 1) c.self.inside.gaps.len (λ (k : ℕ). pos (forward_sum w us k) -ℤ pos (forward_sum w us (k + 1))) c.fill_gaps.new.gaps c.self.inside.gaps.items refl (search rules) (search rules)
          (λ k l. c.fill_gaps.ensures.each k (omega arith) ∙ (λ t. forward k (omega arith) t -ℤ forward (k + 1) (omega arith) t));
    }

pub fill_turned-requires-clause-small : goal.fill_turned-requires-clause-small
fill_turned-requires-clause-small c = λ k l.
    let e = ap (λ (xs : List ℤ). get_or xs k (pos 0)) c.as_slice-forward.ensures.value ∙ kept_at c.self.inside.forward.len c.fill_row.new.row c.self.inside.forward.items k (search rules) (search rules) ∙ c.fill_row.ensures.sums k l in
    omega (arith, ap unsigned_abs e, c.fill_row.ensures.small k l, c.requires.chain.few)

pub fill_turned-requires-clause-small_back : goal.fill_turned-requires-clause-small_back
fill_turned-requires-clause-small_back c = λ k l.
    let e = ap (λ (xs : List ℤ). get_or xs k (pos 0)) c.as_slice-backward.ensures.value ∙ kept_at c.self.inside.backward.len c.fill_row-2.new.row c.self.inside.backward.items k (search rules) (search rules) ∙ c.fill_row-2.ensures.sums k l in
    omega (arith, ap unsigned_abs e, c.fill_row-2.ensures.small k l, c.requires.chain.few)
