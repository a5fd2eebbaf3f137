-- Counts of elements, up to 65537.
use Rattle.std.proofs.Common.{◌≡◌, ℕ, ◌+◌, ◌<◌, min, nat_lt, eqb, List, [], ◌∷◌, ◌++◌, length, get_or, take, ap, ◌∙◌, arith}
use Rattle.std.proofs.lemmas.Bool.Decides.{nat_tests}
use Rattle.std.proofs.lemmas.List.Sums.{sum_by-append}
use Rattle.def_reader.specs.declared.design.ScanChainText.{ScanChainText}
use Rattle.list_laws.proofs.RowsMore.{take_next}
use Rattle.design_elements.specs.CellPins.{elements_of}
use Rattle.design_elements.specs.Faults.{element_count}

count_last : (chains : List ScanChainText) (chain : ScanChainText) → element_count (chains ++ chain ∷ []) ≡ element_count chains + length (elements_of chain)
count_last chains chain = let both = sum_by-append (λ (c : ScanChainText). length (elements_of c)) chains (chain ∷ []) in omega arith

-- the elements of one chain more
pub chains_next : (chains : List ScanChainText) (i : ℕ) (chain : ScanChainText) (count result : ℕ) → i < length chains → chain ≡ get_or chains i chain → count ≡ min (element_count (take i chains)) 65537
    → result ≡ min (count + length (elements_of chain)) 65537 → result ≡ min (element_count (take (i + 1) chains)) 65537
chains_next chains i chain count result lt is was here =
    let more = ap element_count (take_next chains i chain lt is) ∙ count_last (take i chains) chain in omega arith

over : (count result : ℕ) → result ≡ min count 65537 → eqb result 65537 ≡ nat_lt 65536 count
over count result is = grind (arith, nat_tests)

-- with the chain there are too many exactly where the count is at its end
pub crowded : (chains : List ScanChainText) (i : ℕ) (chain : ScanChainText) (count result : ℕ) → count ≡ min (element_count (take i chains)) 65537
    → result ≡ min (count + length (elements_of chain)) 65537 → eqb result 65537 ≡ nat_lt 65536 (element_count (take i chains ++ chain ∷ []))
crowded chains i chain count result was here =
    let more = count_last (take i chains) chain in
    let all : result ≡ min (element_count (take i chains ++ chain ∷ [])) 65537 = omega arith in
    over (element_count (take i chains ++ chain ∷ [])) result all
