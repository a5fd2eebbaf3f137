use Rattle.std.proofs.Common.{◌≡◌, ℕ, ◌+◌, ◌<◌, ◌≤◌, List, [], ◌∷◌, ◌++◌, length, take, drop, get_or, sym, ap, ◌∙◌, arith, subst, Option, None, slice_get}
use Rattle.std.specs.List.{All, remove}
use Rattle.std.proofs.lemmas.List.{get_or_default, length_push, take_rest}
use Rattle.base_types.specs.declared.span.Point.{Point}
use Rattle.chain_rules.specs.Legality.{chain_at}
use Rattle.wire_cost.specs.declared.ends.Ends.{Ends}
use Rattle.wire_cost.specs.Lengths.{AreWithin, IsNearOrNowhere, chain_ends, end_of, link_of}
use Rattle.wire_cost.proofs.Walks.{end_of_push}
use Rattle.order_search.specs.Nearest.{IsNearer, IsNearestChain}
use Rattle.order_search.specs.Runs.{IsFreeCount}
use Rattle.order_search.specs.Searches.{AreSearchable}
use Rattle.chain_rules.specs.declared.unit.Rules.{Rules}
use Rattle.order_search.proofs.Legal.{chain_apart, chain_within, pinned_last_in}
use Rattle.order_search.proofs.Placing.{IsPlacing, free_within, nearer_than_rest, placing_all, placing_more, placing_none}
use Rattle.order_search.proofs.nearest.nearest_chain.Goals as goal

in_read : (rules : Rules) (ends : Ends) (c : ℕ) → AreSearchable rules ends → c < length rules.chains → c < length rules.read.chains
in_read rules ends c s h = omega (arith, s.read.chains)

pub free_count-free-requires : goal.free_count-free-requires
free_count-free-requires c = record {
  units = subst (λ (us : List ℕ). AreWithin us (length c.args.rules.now.units)) (sym c.chain-read.ensures.value)
      (chain_within c.args.rules.now c.args.rules.now.read c.args.chain (in_read c.args.rules.now c.args.ends.now c.args.chain c.requires.searchable c.requires.chain) c.requires.searchable.read);
}

pub loop-init : goal.loop-init
loop-init c =
    let rules = c.args.rules.now in
    let ends = c.args.ends.now in
    let n = c.args.chain in
    let read = chain_at rules.read n in
    let free = c.free_count-free.result in
    let i = in_read rules ends n c.requires.searchable c.requires.chain in
    let f : IsFreeCount rules read free = subst (λ (us : List ℕ). IsFreeCount rules us free) c.chain-read.ensures.value c.free_count-free.ensures.count in
    let w = chain_within rules rules.read n i c.requires.searchable.read in
    let init : IsPlacing ends n read free [] (take free read) = placing_none ends n read free (free_within rules read free f) (chain_apart rules rules.read n i c.requires.searchable.read)
    (λ k l. (let q = w k l in omega arith)) (λ k l. (let q = w k l in omega arith)) in
    let left : take free read ≡ c.in_ok-left.left.items = sym (c.in_ok-left.ensures.items ∙ ap (λ (us : List ℕ). take free us) c.chain-read.ensures.value) in
    let near : IsNearOrNowhere (get_or ends.start n None) = c.requires.searchable.placed.start n None (omega arith) in
    let at : get_or ends.start n None ≡ get_or c.as_slice.result.now n None = ap (λ (ps : List (Option Point)). get_or ps n None) (sym c.as_slice.ensures.value) in
    record {
      count = ap (λ (us : List ℕ). length us) c.in_ok-placed.ensures.items;
      placing = subst (λ (us : List ℕ). IsPlacing ends n read free us c.in_ok-left.left.items) (sym c.in_ok-placed.ensures.items) (subst (IsPlacing ends n read free []) left init);
      from = sym at ∙ ap (end_of ends.exit (get_or ends.start n None)) (sym c.in_ok-placed.ensures.items);
      near = subst IsNearOrNowhere at near;
    }

pub nearest_of-requires-clause-some : goal.nearest_of-requires-clause-some
nearest_of-requires-clause-some c = omega (arith, ap (λ (us : List ℕ). length us) c.as_slice-in-loop.ensures.value, c.loop.invariant.count, c.loop.invariant.placing.count)

pub exit_of-requires-clause-within : goal.exit_of-requires-clause-within
exit_of-requires-clause-within c =
    let us : List ℕ = c.loop.left.items in
    let e : c.remove-unit.result ≡ get_or us c.nearest_of.result 0 = c.remove-unit.ensures.value ∙ get_or_default us c.nearest_of.result c.remove-unit.result 0 (omega (arith, ap (λ (vs : List ℕ). length vs) c.as_slice-in-loop.ensures.value, c.nearest_of.ensures.within)) in
    let w = c.loop.invariant.placing.leave c.nearest_of.result (omega (arith, ap (λ (vs : List ℕ). length vs) c.as_slice-in-loop.ensures.value, c.nearest_of.ensures.within)) in
    omega (arith, e, w)

pub loop-preserved : goal.loop-preserved
loop-preserved c =
    let ends = c.args.ends.now in
    let n = c.args.chain in
    let read = chain_at c.args.rules.now.read n in
    let free = c.free_count-free.result in
    let us : List ℕ = c.loop.left.items in
    let i : ℕ = c.nearest_of.result in
    let u : ℕ = c.remove-unit.result in
    let s : c.as_slice-in-loop.result.now ≡ us = c.as_slice-in-loop.ensures.value in
    let l : i < length us = omega (arith, ap (λ (vs : List ℕ). length vs) s, c.nearest_of.ensures.within) in
    let e : u ≡ get_or us i 0 = c.remove-unit.ensures.value ∙ get_or_default us i u 0 l in
    let first : (k : ℕ) → k < i → link_of c.loop.from (slice_get ends.entry (get_or us i 0)) < link_of c.loop.from (slice_get ends.entry (get_or us k 0)) =
    subst (λ (vs : List ℕ). (k : ℕ) → k < i → link_of c.loop.from (slice_get ends.entry (get_or vs i 0)) < link_of c.loop.from (slice_get ends.entry (get_or vs k 0))) s c.nearest_of.ensures.first in
    let least : (k : ℕ) → k < length us → link_of c.loop.from (slice_get ends.entry (get_or us i 0)) ≤ link_of c.loop.from (slice_get ends.entry (get_or us k 0)) =
    subst (λ (vs : List ℕ). (k : ℕ) → k < length vs → link_of c.loop.from (slice_get ends.entry (get_or vs i 0)) ≤ link_of c.loop.from (slice_get ends.entry (get_or vs k 0))) s c.nearest_of.ensures.least in
    let near : All (IsNearer ends read c.loop.from u) (remove us i) = nearer_than_rest ends read us c.loop.from i u l e c.loop.invariant.placing.order first least in
    let more : IsPlacing ends n read free (c.loop.placed.items ++ u ∷ []) (remove us i) = placing_more ends n read free c.loop.placed.items us c.loop.from i u c.loop.invariant.placing c.loop.invariant.from l e near in
    let p : c.push.new.self.items ≡ c.loop.placed.items ++ u ∷ [] = c.in_ok-push.ensures.items in
    record {
      count = ap (λ (vs : List ℕ). length vs) p ∙ length_push c.loop.placed.items u ∙ ap (λ (k : ℕ). k + 1) c.loop.invariant.count;
      placing = subst (λ (vs : List ℕ). IsPlacing ends n read free vs c.remove-unit.new.self.items) (sym p) (subst (IsPlacing ends n read free (c.loop.placed.items ++ u ∷ [])) (sym c.remove-unit.ensures.items) more);
      from = sym c.exit_of.ensures.value ∙ sym (ap (end_of ends.exit (chain_ends ends n).start) p ∙ end_of_push ends.exit (chain_ends ends n).start c.loop.placed.items u);
      near = c.exit_of.ensures.near;
    }

pub returns : goal.returns
returns c =
    let rules = c.args.rules.now in
    let ends = c.args.ends.now in
    let n = c.args.chain in
    let read = chain_at rules.read n in
    let free = c.free_count-free.result in
    let i = in_read rules ends n c.requires.searchable c.requires.chain in
    let f : IsFreeCount rules read free = subst (λ (us : List ℕ). IsFreeCount rules us free) c.chain-read.ensures.value c.free_count-free.ensures.count in
    let z : length c.loop.left.items ≡ 0 = omega (arith, c.loop.invariant.count, c.loop.invariant.placing.count) in
    let a : IsNearestChain rules ends n (c.loop.placed.items ++ drop free read) = placing_all rules ends n free c.loop.placed.items c.loop.left.items c.loop.invariant.placing f z (pinned_last_in rules rules.read n i c.requires.searchable.read c.requires.searchable.read) in
    let p : c.extend_from_slice.new.self.items ≡ c.loop.placed.items ++ drop free read = c.in_ok-extend_from_slice.ensures.items ∙ ap (λ (us : List ℕ). c.loop.placed.items ++ us) (take_rest c.chain-read.result.now free) ∙ ap (λ (us : List ℕ). c.loop.placed.items ++ drop free us) c.chain-read.ensures.value in
    record { value = subst (IsNearestChain rules ends n) (sym p) a }
