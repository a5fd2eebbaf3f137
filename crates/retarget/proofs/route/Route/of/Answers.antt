use Rattle.std.proofs.Common.{◌≡◌, ◌<◌, ℕ, List, length, map, arith, get_or, ap, sym, subst, ◌∙◌}
use Rattle.stil_tester.specs.declared.chains.Chains.{Chains}
use Rattle.retarget.specs.declared.side.Side.TheVariants.{Load, Compare}
use Rattle.retarget.specs.Exits.{AreApart, ArePlaces, exit_cells, exit_parities, flips_from}
use Rattle.retarget.proofs.ExitOrder.{length-exit_cells, length-exit_parities}
use Rattle.retarget.proofs.Routes.{exit_within, exits_apart, long_sources, route_is, source_within}
use Rattle.retarget.proofs.route.Route.of.Goals as goal

pub places_of-requires-clause-within : goal.places_of-requires-clause-within
places_of-requires-clause-within c =
    let old : Chains = c.args.old.now in
    let before_cells : c.as_slice-3.result.now ≡ exit_cells old.chains = c.as_slice-3.ensures.value ∙ c.in_ok-before.ensures.cells ∙ ap exit_cells c.as_slice.ensures.value in
    subst (λ (cs : List ℕ). (k : ℕ) → k < length cs → get_or cs k 0 < old.cells) (sym before_cells) (exit_within old c.requires.old_chains)

pub places_of-requires-clause-apart : goal.places_of-requires-clause-apart
places_of-requires-clause-apart c =
    let old : Chains = c.args.old.now in
    let before_cells : c.as_slice-3.result.now ≡ exit_cells old.chains = c.as_slice-3.ensures.value ∙ c.in_ok-before.ensures.cells ∙ ap exit_cells c.as_slice.ensures.value in
    subst (λ (cs : List ℕ). AreApart cs) (sym before_cells) (exits_apart old c.requires.old_chains)

pub sources_of-requires : goal.sources_of-requires
sources_of-requires c = λ k l.
    let new : Chains = c.args.new.now in
    let after_cells : c.as_slice-5.result.now ≡ exit_cells new.chains = c.as_slice-5.ensures.value ∙ c.in_ok-after.ensures.cells ∙ ap exit_cells c.as_slice-2.ensures.value in
    let within : (n : ℕ) → n < length c.as_slice-5.result.now → get_or c.as_slice-5.result.now n 0 < new.cells =
    subst (λ (cs : List ℕ). (n : ℕ) → n < length cs → get_or cs n 0 < new.cells) (sym after_cells) (exit_within new c.requires.new_chains) in
    omega (arith, within k l, c.requires.cells, ap length c.as_slice-4.ensures.value, c.in_ok-places.ensures.long)

pub flips_of-requires-clause-within : goal.flips_of-requires-clause-within
flips_of-requires-clause-within c = λ k l.
    let old : Chains = c.args.old.now in
    let new : Chains = c.args.new.now in
    let before_cells : c.as_slice-3.result.now ≡ exit_cells old.chains = c.as_slice-3.ensures.value ∙ c.in_ok-before.ensures.cells ∙ ap exit_cells c.as_slice.ensures.value in
    let after_cells : c.as_slice-5.result.now ≡ exit_cells new.chains = c.as_slice-5.ensures.value ∙ c.in_ok-after.ensures.cells ∙ ap exit_cells c.as_slice-2.ensures.value in
    let places : List ℕ = c.in_ok-places.places.items in
    let are : ArePlaces (exit_cells old.chains) places = subst (λ (cs : List ℕ). ArePlaces cs places) before_cells c.in_ok-places.ensures.places in
    let sources_are : c.in_ok-sources.sources ≡ map (λ (cell : ℕ). get_or places cell 0) (exit_cells new.chains) =
    c.in_ok-sources.ensures ∙ (λ i. map (λ (cell : ℕ). get_or (c.as_slice-4.ensures.value i) cell 0) (after_cells i)) in
    let from : List ℕ = c.as_slice-from.result.now in
    let from_is : from ≡ map (λ (cell : ℕ). get_or places cell 0) (exit_cells new.chains) = c.as_slice-from.ensures.value ∙ sources_are in
    let parities : c.as_slice-6.result.now ≡ exit_parities Load old.chains = c.as_slice-6.ensures.value ∙ c.in_ok-before.ensures.loads ∙ ap (exit_parities Load) c.as_slice.ensures.value in
    omega (arith, source_within old new c.requires places from are from_is k l, ap length parities, length-exit_parities Load old.chains, length-exit_cells old.chains)

pub flips_of-requires-clause-long : goal.flips_of-requires-clause-long
flips_of-requires-clause-long c =
    let old : Chains = c.args.old.now in
    let new : Chains = c.args.new.now in
    let before_cells : c.as_slice-3.result.now ≡ exit_cells old.chains = c.as_slice-3.ensures.value ∙ c.in_ok-before.ensures.cells ∙ ap exit_cells c.as_slice.ensures.value in
    let after_cells : c.as_slice-5.result.now ≡ exit_cells new.chains = c.as_slice-5.ensures.value ∙ c.in_ok-after.ensures.cells ∙ ap exit_cells c.as_slice-2.ensures.value in
    let places : List ℕ = c.in_ok-places.places.items in
    let are : ArePlaces (exit_cells old.chains) places = subst (λ (cs : List ℕ). ArePlaces cs places) before_cells c.in_ok-places.ensures.places in
    let sources_are : c.in_ok-sources.sources ≡ map (λ (cell : ℕ). get_or places cell 0) (exit_cells new.chains) =
    c.in_ok-sources.ensures ∙ (λ i. map (λ (cell : ℕ). get_or (c.as_slice-4.ensures.value i) cell 0) (after_cells i)) in
    let from : List ℕ = c.as_slice-from.result.now in
    let from_is : from ≡ map (λ (cell : ℕ). get_or places cell 0) (exit_cells new.chains) = c.as_slice-from.ensures.value ∙ sources_are in
    let parities : c.as_slice-7.result.now ≡ exit_parities Load new.chains = c.as_slice-7.ensures.value ∙ c.in_ok-after.ensures.loads ∙ ap (exit_parities Load) c.as_slice-2.ensures.value in
    omega (arith, long_sources old new c.requires places from are from_is, ap length parities, length-exit_parities Load new.chains, length-exit_cells new.chains)

pub flips_of-requires-2-clause-within : goal.flips_of-requires-2-clause-within
flips_of-requires-2-clause-within c = λ k l.
    let old : Chains = c.args.old.now in
    let new : Chains = c.args.new.now in
    let before_cells : c.as_slice-3.result.now ≡ exit_cells old.chains = c.as_slice-3.ensures.value ∙ c.in_ok-before.ensures.cells ∙ ap exit_cells c.as_slice.ensures.value in
    let after_cells : c.as_slice-5.result.now ≡ exit_cells new.chains = c.as_slice-5.ensures.value ∙ c.in_ok-after.ensures.cells ∙ ap exit_cells c.as_slice-2.ensures.value in
    let places : List ℕ = c.in_ok-places.places.items in
    let are : ArePlaces (exit_cells old.chains) places = subst (λ (cs : List ℕ). ArePlaces cs places) before_cells c.in_ok-places.ensures.places in
    let sources_are : c.in_ok-sources.sources ≡ map (λ (cell : ℕ). get_or places cell 0) (exit_cells new.chains) =
    c.in_ok-sources.ensures ∙ (λ i. map (λ (cell : ℕ). get_or (c.as_slice-4.ensures.value i) cell 0) (after_cells i)) in
    let from : List ℕ = c.as_slice-from.result.now in
    let from_is : from ≡ map (λ (cell : ℕ). get_or places cell 0) (exit_cells new.chains) = c.as_slice-from.ensures.value ∙ sources_are in
    let parities : c.as_slice-8.result.now ≡ exit_parities Compare old.chains = c.as_slice-8.ensures.value ∙ c.in_ok-before.ensures.compares ∙ ap (exit_parities Compare) c.as_slice.ensures.value in
    omega (arith, source_within old new c.requires places from are from_is k l, ap length parities, length-exit_parities Compare old.chains, length-exit_cells old.chains)

pub flips_of-requires-2-clause-long : goal.flips_of-requires-2-clause-long
flips_of-requires-2-clause-long c =
    let old : Chains = c.args.old.now in
    let new : Chains = c.args.new.now in
    let before_cells : c.as_slice-3.result.now ≡ exit_cells old.chains = c.as_slice-3.ensures.value ∙ c.in_ok-before.ensures.cells ∙ ap exit_cells c.as_slice.ensures.value in
    let after_cells : c.as_slice-5.result.now ≡ exit_cells new.chains = c.as_slice-5.ensures.value ∙ c.in_ok-after.ensures.cells ∙ ap exit_cells c.as_slice-2.ensures.value in
    let places : List ℕ = c.in_ok-places.places.items in
    let are : ArePlaces (exit_cells old.chains) places = subst (λ (cs : List ℕ). ArePlaces cs places) before_cells c.in_ok-places.ensures.places in
    let sources_are : c.in_ok-sources.sources ≡ map (λ (cell : ℕ). get_or places cell 0) (exit_cells new.chains) =
    c.in_ok-sources.ensures ∙ (λ i. map (λ (cell : ℕ). get_or (c.as_slice-4.ensures.value i) cell 0) (after_cells i)) in
    let from : List ℕ = c.as_slice-from.result.now in
    let from_is : from ≡ map (λ (cell : ℕ). get_or places cell 0) (exit_cells new.chains) = c.as_slice-from.ensures.value ∙ sources_are in
    let parities : c.as_slice-9.result.now ≡ exit_parities Compare new.chains = c.as_slice-9.ensures.value ∙ c.in_ok-after.ensures.compares ∙ ap (exit_parities Compare) c.as_slice-2.ensures.value in
    omega (arith, long_sources old new c.requires places from are from_is, ap length parities, length-exit_parities Compare new.chains, length-exit_cells new.chains)

pub returns : goal.returns
returns c =
    let old : Chains = c.args.old.now in
    let new : Chains = c.args.new.now in
    let before_cells : c.as_slice-3.result.now ≡ exit_cells old.chains = c.as_slice-3.ensures.value ∙ c.in_ok-before.ensures.cells ∙ ap exit_cells c.as_slice.ensures.value in
    let after_cells : c.as_slice-5.result.now ≡ exit_cells new.chains = c.as_slice-5.ensures.value ∙ c.in_ok-after.ensures.cells ∙ ap exit_cells c.as_slice-2.ensures.value in
    let places : List ℕ = c.in_ok-places.places.items in
    let are : ArePlaces (exit_cells old.chains) places = subst (λ (cs : List ℕ). ArePlaces cs places) before_cells c.in_ok-places.ensures.places in
    let sources_are : c.in_ok-sources.sources ≡ map (λ (cell : ℕ). get_or places cell 0) (exit_cells new.chains) =
    c.in_ok-sources.ensures ∙ (λ i. map (λ (cell : ℕ). get_or (c.as_slice-4.ensures.value i) cell 0) (after_cells i)) in
    let loads_are : c.in_ok-loads.loads ≡ flips_from c.in_ok-sources.sources (exit_parities Load old.chains) (exit_parities Load new.chains) =
    c.in_ok-loads.ensures
    ∙ (λ i. flips_from (c.as_slice-from.ensures.value i) (c.as_slice-6.ensures.value i) (c.as_slice-7.ensures.value i))
    ∙ (λ i. flips_from c.in_ok-sources.sources (c.in_ok-before.ensures.loads i) (c.in_ok-after.ensures.loads i))
    ∙ (λ i. flips_from c.in_ok-sources.sources (exit_parities Load (c.as_slice.ensures.value i)) (exit_parities Load (c.as_slice-2.ensures.value i))) in
    let compares_are : c.in_ok-compares.compares ≡ flips_from c.in_ok-sources.sources (exit_parities Compare old.chains) (exit_parities Compare new.chains) =
    c.in_ok-compares.ensures
    ∙ (λ i. flips_from (c.as_slice-from.ensures.value i) (c.as_slice-8.ensures.value i) (c.as_slice-9.ensures.value i))
    ∙ (λ i. flips_from c.in_ok-sources.sources (c.in_ok-before.ensures.compares i) (c.in_ok-after.ensures.compares i))
    ∙ (λ i. flips_from c.in_ok-sources.sources (exit_parities Compare (c.as_slice.ensures.value i)) (exit_parities Compare (c.as_slice-2.ensures.value i))) in
    route_is old new c.requires places c.in_ok-sources.sources are sources_are c.in_ok-loads.loads c.in_ok-compares.compares loads_are compares_are
