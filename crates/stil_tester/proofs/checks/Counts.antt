-- How often each cell stands in the chains.
use Rattle.std.proofs.Common.{◌≡◌, ℕ, ◌+◌, ◌<◌, ◌≤◌, List, [], ◌∷◌, length, take, false, sym, ap, ◌∙◌, arith, get_or, ⊎_elim, eq-eqb, subst}
use Rattle.std.specs.Prelude.{nat_eq, count_by, slice_set, All}
use Rattle.std.proofs.lemmas.Bool.{cases_eq, ne_eqb}
use Rattle.std.proofs.lemmas.List.{get_or-set_same, get_or-set_other, get_or_default}
use Rattle.std.proofs.lemmas.List.Sums.{count_by_more_yes, count_by_more_no}
use Rattle.stil_tester.specs.declared.chains.Chains.{Chains}
use Rattle.stil_tester.specs.Shifting.{AreChains, IsChain, numbers_of}

-- one number more
pub counted_more : (numbers counts : List ℕ) (i cells count : ℕ) → i < length numbers → length counts ≡ cells → get_or numbers i 0 < cells → count ≡ get_or counts (get_or numbers i 0) 0
    → ((cell : ℕ) → cell < cells → get_or counts cell 0 ≡ count_by (nat_eq cell) (take i numbers))
    → (cell : ℕ) → cell < cells → get_or (slice_set counts (get_or numbers i 0) (count + 1)) cell 0 ≡ count_by (nat_eq cell) (take (i + 1) numbers)
counted_more numbers counts i cells count l long within e each cell m =
    ⊎_elim (λ (here : cell ≡ get_or numbers i 0).
    ap (λ q. get_or (slice_set counts (get_or numbers i 0) (count + 1)) q 0) here
    ∙ get_or-set_same counts (get_or numbers i 0) (count + 1) 0 (omega arith)
    ∙ ap (λ q. q + 1) (e ∙ ap (λ q. get_or counts q 0) (sym here) ∙ each cell m)
    ∙ sym (count_by_more_yes (nat_eq cell) numbers i 0 l (eq-eqb cell (get_or numbers i 0) here)))
    (λ (other : cell ≡ get_or numbers i 0 → ⊥).
    get_or-set_other counts (get_or numbers i 0) cell (count + 1) 0 other
    ∙ each cell m
    ∙ sym (count_by_more_no (nat_eq cell) numbers i 0 l (ne_eqb cell (get_or numbers i 0) other)))
    (cases_eq cell (get_or numbers i 0))

-- well-formed chains, by their counts
pub chains_from : (chains : Chains) (numbers counts : List ℕ) → numbers ≡ numbers_of chains.chains → All IsChain chains.chains → All (λ number. number < chains.cells) numbers → length counts ≡ chains.cells
    → ((cell : ℕ) → cell < chains.cells → get_or counts cell 0 ≡ count_by (nat_eq cell) numbers) → All (λ count. count ≡ 1) counts → AreChains chains
chains_from chains numbers counts e filled below long each ones = record {
  each = filled;
  once = λ cell l. ap (count_by (nat_eq cell)) (sym e) ∙ sym (each cell l) ∙ ones cell 0 (omega arith);
  others = subst (λ (ns : List ℕ). All (λ number. number < chains.cells) ns) e below;
}

-- and their counts
pub ones_from : (chains : Chains) (numbers counts : List ℕ) → numbers ≡ numbers_of chains.chains → length counts ≡ chains.cells
    → ((cell : ℕ) → cell < chains.cells → get_or counts cell 0 ≡ count_by (nat_eq cell) numbers) → AreChains chains → All (λ count. count ≡ 1) counts
ones_from chains numbers counts e long each good k d l =
    get_or_default counts k d 0 l ∙ each k (omega arith) ∙ ap (count_by (nat_eq k)) e ∙ good.once k (omega arith)
