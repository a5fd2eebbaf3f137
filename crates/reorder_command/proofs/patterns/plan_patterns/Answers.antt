use Rattle.std.proofs.Common.{◌≡◌, length, take, ap, subst, sym, refl, ◌∙◌}
use Rattle.stil_tester.specs.declared.chains.Chains.{Chains}
use Rattle.stil_tester.specs.Shifting.{AreChains}
use Rattle.path_chains.specs.Ranked.{ranked_chains, chains_along}
use Rattle.reorder_command.proofs.Movable.{own_is, own_ends, same_cells, counts, rising, written_same}
use Rattle.reorder_command.proofs.patterns.plan_patterns.Goals as goal

pub slice_bounds-own-end : goal.slice_bounds-own-end
slice_bounds-own-end c = own_ends c.args.netlist.now c.args.table.now c.requires.movable.0 c.args.paths.now c.args.new.now c.args.text.now c.args.head c.requires.movable.1

pub map_of-requires-clause-old : goal.map_of-requires-clause-old
map_of-requires-clause-old c =
    let is : c.in_ok-old_chains.old_chains ≡ chains_along c.args.netlist.now c.args.table.now c.args.paths.now = c.in_ok-old_chains.ensures.value ∙ ap (ranked_chains c.args.netlist.now) (c.as_slice.ensures.value ∙ c.in_ok-old_bits.ensures.value) in
    subst (λ (chains : Chains). AreChains chains) (sym is) (same_cells c.args.netlist.now c.args.table.now c.requires.movable.0 c.args.paths.now c.args.new.now c.args.text.now c.args.head c.requires.movable.1 c.declared_law.ensures.law c.ranks_law.ensures.rearranged).old_chains

pub map_of-requires-clause-new : goal.map_of-requires-clause-new
map_of-requires-clause-new c =
    let is : c.in_ok-new_chains.new_chains ≡ chains_along c.args.netlist.now c.args.table.now c.args.new.now = c.in_ok-new_chains.ensures.value ∙ ap (ranked_chains c.args.netlist.now) (c.as_slice-2.ensures.value ∙ c.in_ok-new_bits.ensures.value) in
    subst (λ (chains : Chains). AreChains chains) (sym is) (same_cells c.args.netlist.now c.args.table.now c.requires.movable.0 c.args.paths.now c.args.new.now c.args.text.now c.args.head c.requires.movable.1 c.declared_law.ensures.law c.ranks_law.ensures.rearranged).new_chains

pub map_of-requires-clause-chains : goal.map_of-requires-clause-chains
map_of-requires-clause-chains c =
    let old_is : c.in_ok-old_chains.old_chains ≡ chains_along c.args.netlist.now c.args.table.now c.args.paths.now = c.in_ok-old_chains.ensures.value ∙ ap (ranked_chains c.args.netlist.now) (c.as_slice.ensures.value ∙ c.in_ok-old_bits.ensures.value) in
    let new_is : c.in_ok-new_chains.new_chains ≡ chains_along c.args.netlist.now c.args.table.now c.args.new.now = c.in_ok-new_chains.ensures.value ∙ ap (ranked_chains c.args.netlist.now) (c.as_slice-2.ensures.value ∙ c.in_ok-new_bits.ensures.value) in
    ap (λ (chains : Chains). length chains.chains) new_is ∙ (same_cells c.args.netlist.now c.args.table.now c.requires.movable.0 c.args.paths.now c.args.new.now c.args.text.now c.args.head c.requires.movable.1 c.declared_law.ensures.law c.ranks_law.ensures.rearranged).chains ∙ sym (ap (λ (chains : Chains). length chains.chains) old_is)

pub map_of-requires-clause-cells : goal.map_of-requires-clause-cells
map_of-requires-clause-cells c =
    let old_is : c.in_ok-old_chains.old_chains ≡ chains_along c.args.netlist.now c.args.table.now c.args.paths.now = c.in_ok-old_chains.ensures.value ∙ ap (ranked_chains c.args.netlist.now) (c.as_slice.ensures.value ∙ c.in_ok-old_bits.ensures.value) in
    let new_is : c.in_ok-new_chains.new_chains ≡ chains_along c.args.netlist.now c.args.table.now c.args.new.now = c.in_ok-new_chains.ensures.value ∙ ap (ranked_chains c.args.netlist.now) (c.as_slice-2.ensures.value ∙ c.in_ok-new_bits.ensures.value) in
    ap (λ (chains : Chains). chains.cells) new_is ∙ (same_cells c.args.netlist.now c.args.table.now c.requires.movable.0 c.args.paths.now c.args.new.now c.args.text.now c.args.head c.requires.movable.1 c.declared_law.ensures.law c.ranks_law.ensures.rearranged).cells ∙ sym (ap (λ (chains : Chains). chains.cells) old_is)

pub stil_head-requires-clause-rising : goal.stil_head-requires-clause-rising
stil_head-requires-clause-rising c = rising c.args.netlist.now c.args.table.now c.requires.movable.0 c.args.paths.now c.args.new.now c.args.text.now c.args.head c.requires.movable.1 (take c.args.head.end c.args.text.now) c.as_slice-3.result.now c.as_slice-4.result.now (own_is c.args.netlist.now c.args.table.now c.requires.movable.0 c.args.paths.now c.args.new.now c.args.text.now c.args.head c.requires.movable.1) (c.as_slice-3.ensures.value ∙ c.in_ok-old_bits.ensures.value) (c.as_slice-4.ensures.value ∙ c.in_ok-new_bits.ensures.value) c.fit_law.ensures.fits c.text_law.ensures.law

pub returns : goal.returns
returns c =
    let old_is : c.in_ok-old_chains.old_chains ≡ chains_along c.args.netlist.now c.args.table.now c.args.paths.now = c.in_ok-old_chains.ensures.value ∙ ap (ranked_chains c.args.netlist.now) (c.as_slice.ensures.value ∙ c.in_ok-old_bits.ensures.value) in
    let new_is : c.in_ok-new_chains.new_chains ≡ chains_along c.args.netlist.now c.args.table.now c.args.new.now = c.in_ok-new_chains.ensures.value ∙ ap (ranked_chains c.args.netlist.now) (c.as_slice-2.ensures.value ∙ c.in_ok-new_bits.ensures.value) in
    let both : (c.in_ok-old_chains.old_chains, c.in_ok-new_chains.new_chains) ≡ (chains_along c.args.netlist.now c.args.table.now c.args.paths.now, chains_along c.args.netlist.now c.args.table.now c.args.new.now)
    = rw (old_is, new_is) refl in
    record {
      value = record {
        head_is = refl;
        text_is = c.in_ok-head_text.ensures.value ∙ written_same c.args.netlist.now c.args.table.now c.requires.movable.0 c.args.paths.now c.args.new.now c.args.text.now c.args.head c.requires.movable.1 (take c.args.head.end c.args.text.now) c.as_slice-3.result.now c.as_slice-4.result.now (own_is c.args.netlist.now c.args.table.now c.requires.movable.0 c.args.paths.now c.args.new.now c.args.text.now c.args.head c.requires.movable.1) (c.as_slice-3.ensures.value ∙ c.in_ok-old_bits.ensures.value) (c.as_slice-4.ensures.value ∙ c.in_ok-new_bits.ensures.value);
        chains = c.in_ok-map.ensures.value ∙ both;
        same_cells = same_cells c.args.netlist.now c.args.table.now c.requires.movable.0 c.args.paths.now c.args.new.now c.args.text.now c.args.head c.requires.movable.1 c.declared_law.ensures.law c.ranks_law.ensures.rearranged;
        fits = counts c.args.netlist.now c.args.table.now c.requires.movable.0 c.args.paths.now c.args.new.now c.args.text.now c.args.head c.requires.movable.1 c.declared_law.ensures.law;
      };
    }
