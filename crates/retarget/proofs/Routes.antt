-- The way of characters from old chains to new ones: each bit of the new chains has one source.
use Rattle.std.proofs.Common.{◌≡◌, ℕ, ◌+◌, ◌<◌, ◌⊎◌, List, [], ◌∷◌, ◌++◌, length, map, reverse, refl, sym, ap, ◌∙◌, arith, get_or, ⊎_elim}
use Rattle.std.proofs.lemmas.Bool.{cases_order}
use Rattle.std.proofs.lemmas.List.{get_or-map, length-map, reverse-append}
use Rattle.stil_tester.specs.declared.chains.ChainBits.{ChainBits}
use Rattle.stil_tester.specs.declared.chains.Chains.{Chains}
use Rattle.stil_tester.specs.Shifting.{AreChains, numbers_of}
use Rattle.stil_tester.proofs.Shifts.{count_of, count_of-append, count_of-cons}
use Rattle.stil_tester.proofs.WellFormed.{once_of}
use Rattle.stil_tester.proofs.WholeCalls.{found}
use Rattle.retarget.specs.declared.route.Route.{Route}
use Rattle.retarget.specs.declared.side.Side.TheVariants.{Load, Compare}
use Rattle.retarget.specs.Retargeting.{HaveSameCells}
use Rattle.retarget.specs.Exits.{AreApart, ArePlaces, IsRoute, exit_cells, exit_parities, flips_from}
use Rattle.retarget.proofs.Numbers.{apart, counted_at}

-- ---- the cells in this order

count_of-reverse : (v : ℕ) (ns : List ℕ) → count_of v (reverse ns) ≡ count_of v ns
count_of-reverse v [] = refl
count_of-reverse v (n ∷ ns) =
    let turned : reverse (n ∷ ns) ≡ reverse ns ++ n ∷ [] = reverse-append (n ∷ []) ns in
    omega (arith, ap (count_of v) turned, count_of-append v (reverse ns) (n ∷ []), count_of-cons v n ns, count_of-cons v n [], count_of-reverse v ns)

count_of-exits : (v : ℕ) (chains : List ChainBits) → count_of v (exit_cells chains) ≡ count_of v (numbers_of chains)
count_of-exits v [] = refl
count_of-exits v (chain ∷ chains) =
    omega (arith, count_of-append v (reverse chain.cells) (exit_cells chains), count_of-append v chain.cells (numbers_of chains), count_of-reverse v chain.cells, count_of-exits v chains)

pub exits_apart : (chains : Chains) → AreChains chains → AreApart (exit_cells chains.chains)
exits_apart chains good = apart (exit_cells chains.chains) (λ v. omega (arith, count_of-exits v chains.chains, once_of chains good v))

pub exit_within : (chains : Chains) → AreChains chains → (k : ℕ) → k < length (exit_cells chains.chains) → get_or (exit_cells chains.chains) k 0 < chains.cells
exit_within chains good k l =
    let v : ℕ = get_or (exit_cells chains.chains) k 0 in
    let at : (i : ℕ) × (i < length (numbers_of chains.chains)) × (get_or (numbers_of chains.chains) i 0 ≡ v)
    = found v (numbers_of chains.chains) (omega (arith, counted_at v (exit_cells chains.chains) k l refl, count_of-exits v chains.chains)) in
    omega (arith, good.others at.0 0 at.1, at.2)

-- a number stands at one place among numbers that differ
pub one_place : (ns : List ℕ) (i j : ℕ) → AreApart ns → i < length ns → j < length ns → get_or ns i 0 ≡ get_or ns j 0 → i ≡ j
one_place ns i j differ l m e =
    ⊎_elim (λ (same : i ≡ j). same)
    (λ (other : (i < j) ⊎ (j < i)). ⊎_elim (λ (before : i < j). absurd (differ i j before m e)) (λ (behind : j < i). absurd (differ j i behind l (sym e))) other)
    (cases_order i j)

-- ---- the sources

-- where a cell of the old chains stands
source_at : (chains : Chains) (places : List ℕ) (v : ℕ) → AreChains chains → ArePlaces (exit_cells chains.chains) places → v < chains.cells
    → (get_or places v 0 < length (exit_cells chains.chains)) × (get_or (exit_cells chains.chains) (get_or places v 0) 0 ≡ v)
source_at chains places v good are l =
    let cells : List ℕ = exit_cells chains.chains in
    let at : (i : ℕ) × (i < length cells) × (get_or cells i 0 ≡ v) = found v cells (omega (arith, good.once v l, count_of-exits v chains.chains)) in
    let is : get_or places v 0 ≡ at.0 = ap (λ w. get_or places w 0) (sym at.2) ∙ are at.0 at.1 in
    (omega (arith, is, at.1), ap (λ i. get_or cells i 0) is ∙ at.2)

module _ (old new : Chains) (same : HaveSameCells old new) (places sources : List ℕ) (are : ArePlaces (exit_cells old.chains) places) (e : sources ≡ map (λ cell. get_or places cell 0) (exit_cells new.chains)) where
  pub long_sources : length sources ≡ length (exit_cells new.chains)
  long_sources = ap length e ∙ length-map (exit_cells new.chains) (λ cell. get_or places cell 0)

  source_is : (k : ℕ) → k < length sources → get_or sources k 0 ≡ get_or places (get_or (exit_cells new.chains) k 0) 0
  source_is k l = ap (λ ss. get_or ss k 0) e ∙ get_or-map (λ cell. get_or places cell 0) (exit_cells new.chains) k 0 0 (omega (arith, long_sources))

  old_cell : (k : ℕ) → k < length sources → get_or (exit_cells new.chains) k 0 < old.cells
  old_cell k l = omega (arith, exit_within new same.new_chains k (omega (arith, long_sources)), same.cells)

  pub source_within : (k : ℕ) → k < length sources → get_or sources k 0 < length (exit_cells old.chains)
  source_within k l = omega (arith, source_is k l, (source_at old places (get_or (exit_cells new.chains) k 0) same.old_chains are (old_cell k l)).0)

  source_same : (k : ℕ) → k < length sources → get_or (exit_cells old.chains) (get_or sources k 0) 0 ≡ get_or (exit_cells new.chains) k 0
  source_same k l =
      ap (λ s. get_or (exit_cells old.chains) s 0) (source_is k l) ∙ (source_at old places (get_or (exit_cells new.chains) k 0) same.old_chains are (old_cell k l)).1

  pub route_is : (loads compares : List ℕ) → loads ≡ flips_from sources (exit_parities Load old.chains) (exit_parities Load new.chains) → compares ≡ flips_from sources (exit_parities Compare old.chains) (exit_parities Compare new.chains)
      → IsRoute old new (record { sources = sources; loads = loads; compares = compares })
  route_is loads compares l c = record { long = long_sources; within = source_within; same = source_same; loads = l; compares = c }
