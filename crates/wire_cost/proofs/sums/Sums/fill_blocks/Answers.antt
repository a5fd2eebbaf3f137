use Rattle.std.proofs.Common.{rules, ◌≡◌, ℕ, ℤ, pos, ◌+◌, ◌-◌, ◌/◌, ◌^◌, ◌<◌, length, take, get_or, List, refl, ap, sym, subst, ◌∙◌, arith}
use Rattle.std.specs.Prelude.{◌-ℤ◌}
use Rattle.std.proofs.lemmas.List.{length-take-le}
use Rattle.wire_cost.specs.Blocks.{AreSmall}
use Rattle.wire_cost.specs.Filled.{Filled, RowLists}
use Rattle.wire_cost.specs.Lengths.{ChainEnds, backward_sum, chain_ends, exchanged, forward_sum}
use Rattle.wire_cost.specs.Rows.{IsLeastSlack, block_count, middle_of, next_at, x_of, y_of}
use Rattle.wire_cost.proofs.Places.{row_is}
use Rattle.wire_cost.proofs.Slacks.{least_slack_there, row_small}
use Rattle.wire_cost.proofs.Small.{difference_small, near_ends, near_exchanged, next_x_small, next_y_small, sum_small}
use Rattle.wire_cost.proofs.sums.Sums.fill_blocks.Goals as goal

pub fill_least-requires-clause-xs : goal.fill_least-requires-clause-xs
fill_least-requires-clause-xs c =
    let w : ChainEnds = chain_ends c.args.ends.now c.args.chain in
    let us : List ℕ = c.args.units.now in
    let links : c.self.inside.links ≡ length us + 1 = omega (arith, c.self.invariant, ap (λ (f : Filled). length f.forward) c.self.view_is, length-take-le (c.self.inside.links + 1) c.self.inside.forward.items (search rules), c.requires.forward) in
    let xs : take (length us + 1) c.deref.result.now ≡ c.args.self.now.rows.entry_x = (λ t. take (sym links t) (c.deref.ensures.value t)) ∙ ap (λ (f : Filled). f.rows.entry_x) c.self.view_is in
    subst (AreSmall (2 ^ 41)) (sym xs) (row_small (length us + 1) (2 ^ 41) (λ (k : ℕ). x_of (next_at w us k)) c.args.self.now.rows.entry_x c.requires.rows.entry_x (λ k l. next_x_small w us k (near_ends c.args.ends.now c.args.chain us c.requires.placed c.requires.chain)))

pub fill_least-requires-clause-ys : goal.fill_least-requires-clause-ys
fill_least-requires-clause-ys c =
    let w : ChainEnds = chain_ends c.args.ends.now c.args.chain in
    let us : List ℕ = c.args.units.now in
    let links : c.self.inside.links ≡ length us + 1 = omega (arith, c.self.invariant, ap (λ (f : Filled). length f.forward) c.self.view_is, length-take-le (c.self.inside.links + 1) c.self.inside.forward.items (search rules), c.requires.forward) in
    let ys : take (length us + 1) c.deref-2.result.now ≡ c.args.self.now.rows.entry_y = (λ t. take (sym links t) (c.deref-2.ensures.value t)) ∙ ap (λ (f : Filled). f.rows.entry_y) c.self.view_is in
    subst (AreSmall (2 ^ 41)) (sym ys) (row_small (length us + 1) (2 ^ 41) (λ (k : ℕ). y_of (next_at w us k)) c.args.self.now.rows.entry_y c.requires.rows.entry_y (λ k l. next_y_small w us k (near_ends c.args.ends.now c.args.chain us c.requires.placed c.requires.chain)))

pub fill_least-requires-clause-turned : goal.fill_least-requires-clause-turned
fill_least-requires-clause-turned c =
    let w : ChainEnds = chain_ends c.args.ends.now c.args.chain in
    let us : List ℕ = c.args.units.now in
    let near = near_ends c.args.ends.now c.args.chain us c.requires.placed c.requires.chain in
    let links : c.self.inside.links ≡ length us + 1 = omega (arith, c.self.invariant, ap (λ (f : Filled). length f.forward) c.self.view_is, length-take-le (c.self.inside.links + 1) c.self.inside.forward.items (search rules), c.requires.forward) in
    let units : length us ≡ c.self.inside.links - 1 = omega arith in
    let ts : take (length us) c.deref-3.result.now ≡ c.args.self.now.rows.turned = (λ t. take (units t) (c.deref-3.ensures.value t)) ∙ ap (λ (f : Filled). f.rows.turned) c.self.view_is in
    subst (AreSmall (2 ^ 61)) (sym ts) (row_small (length us) (2 ^ 61) (λ (k : ℕ). pos (backward_sum w us (k + 1)) -ℤ pos (forward_sum w us (k + 2))) c.args.self.now.rows.turned c.requires.rows.turned
    (λ k l. (let small = difference_small (backward_sum w us (k + 1)) (forward_sum w us (k + 2)) (sum_small (exchanged w) us (k + 1) (near_exchanged w near) c.requires.chain.few (omega arith)) (sum_small w us (k + 2) near c.requires.chain.few (omega arith)) in omega (arith, small))))

pub returns-clause-block_rows : goal.returns-clause-block_rows
returns-clause-block_rows c =
    let w : ChainEnds = chain_ends c.args.ends.now c.args.chain in
    let us : List ℕ = c.args.units.now in
    let n : ℕ = length us in
    let links : c.self.inside.links ≡ n + 1 = omega (arith, c.self.invariant, ap (λ (f : Filled). length f.forward) c.self.view_is, length-take-le (c.self.inside.links + 1) c.self.inside.forward.items (search rules), c.requires.forward) in
    let units : n ≡ c.self.inside.links - 1 = omega arith in
    let rows : RowLists = c.args.self.now.rows in
    let xs : take (n + 1) c.deref.result.now ≡ rows.entry_x = (λ t. take (sym links t) (c.deref.ensures.value t)) ∙ ap (λ (f : Filled). f.rows.entry_x) c.self.view_is in
    let ys : take (n + 1) c.deref-2.result.now ≡ rows.entry_y = (λ t. take (sym links t) (c.deref-2.ensures.value t)) ∙ ap (λ (f : Filled). f.rows.entry_y) c.self.view_is in
    let ts : take n c.deref-3.result.now ≡ rows.turned = (λ t. take (units t) (c.deref-3.ensures.value t)) ∙ ap (λ (f : Filled). f.rows.turned) c.self.view_is in
    let count : block_count n ≡ (c.self.inside.links + 30) / 32 = ap (λ (k : ℕ). k / 32) (omega arith) in
    let long : length (take n c.deref-3.result.now) ≡ n = ap length ts ∙ c.requires.rows.turned.count in
    let row = row_is (block_count n) ((c.self.inside.links + 30) / 32) c.self.inside.slack.len (λ (b : ℕ). get_or c.fill_least.new.slack b (pos 0)) c.fill_least.new.slack c.self.inside.slack.items count (search rules) (search rules) (λ b l. refl) in
    record {
      middle_x = row_is (block_count n) ((c.self.inside.links + 30) / 32) c.self.inside.middle_x.len (λ (b : ℕ). x_of (next_at w us (middle_of n b))) c.fill_middles.new.middle_x c.self.inside.middle_x.items count (search rules) (search rules)
          (λ b l. c.fill_middles.ensures.x b l ∙ ap (λ (zs : List ℤ). get_or zs (middle_of n b) (pos 0)) xs ∙ c.requires.rows.entry_x.each (middle_of n b) (omega arith));
      middle_y = row_is (block_count n) ((c.self.inside.links + 30) / 32) c.self.inside.middle_y.len (λ (b : ℕ). y_of (next_at w us (middle_of n b))) c.fill_middles.new.middle_y c.self.inside.middle_y.items count (search rules) (search rules)
          (λ b l. c.fill_middles.ensures.y b l ∙ ap (λ (zs : List ℤ). get_or zs (middle_of n b) (pos 0)) ys ∙ c.requires.rows.entry_y.each (middle_of n b) (omega arith));
      slack_count = row.count;
      slack = λ b l. subst (IsLeastSlack w us b) (sym (row.each b l))
          (least_slack_there w us rows b (get_or c.fill_least.new.slack b (pos 0)) (take (n + 1) c.deref.result.now) (take (n + 1) c.deref-2.result.now) (take n c.deref-3.result.now) (length (take n c.deref-3.result.now)) xs ys ts long c.requires.rows l (c.fill_least.ensures.each b (subst (λ (k : ℕ). b < block_count k) (sym long) l)));
    }
