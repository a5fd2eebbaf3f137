-- Ranks among sorted keys.
use Rattle.std.proofs.Common.{◌≡◌, ℕ, ◌+◌, Bool, true, false, cond, List, [], ◌∷◌, length, map, count_by, get_or, refl, sym, ap, ◌∙◌, Bor}
use Rattle.std.specs.Ordering.{is_lt}
use Rattle.std.specs.Cmp.{IsStrictWeakOrder}
use Rattle.std.specs.List.Sorted.{IsSorted, IsPartitionedBy, IsPermutation}
use Rattle.std.proofs.lemmas.List.MinMax.{ranks_by}
use Rattle.std.proofs.lemmas.List.Sorted.{sorted_far, sum_by-IsPermutation, length_permutation}
use Rattle.std.proofs.lemmas.List.Sums.{sum_by-cons}
use Rattle.std.proofs.lemmas.List.{length-map}
use Rattle.netlist_core.specs.declared.netlist.Netlist.{Netlist}
use Rattle.chain_trace.specs.declared.path.BitId.{BitId}
use Rattle.chain_trace.specs.declared.path.PathBits.{PathBits}
use Rattle.stil_tester.specs.declared.chains.Chains.{Chains}
use Rattle.path_chains.specs.Numbered.{chain_of}
use Rattle.path_chains.specs.Ranked.{key_of, key_cmp, seen, rank_of, bits_of_all, ranked_chains}
use Rattle.path_chains.proofs.BitRanks.{keys_total}

abbrev pub Key : Type 0
Key = Bor (List ℕ) × ℕ × ℕ

order : IsStrictWeakOrder (λ (a b : Key). is_lt (key_cmp (seen a) (seen b)))
order = ranks_by keys_total seen

pub parted : (key : Key) (xs : List Key) → IsSorted (λ a b. key_cmp (seen a) (seen b)) xs → IsPartitionedBy (λ k. is_lt (key_cmp (seen k) (seen key))) xs
parted key xs up i j d le lt e = by (is_lt (key_cmp (seen (get_or xs i d)) (seen key))) refl where
  by : (b : Bool) → is_lt (key_cmp (seen (get_or xs i d)) (seen key)) ≡ b → b ≡ true
  by true f = refl
  by false f = sym (order.chain (get_or xs j d) (get_or xs i d) key (sorted_far (λ (a b : Key). is_lt (key_cmp (seen a) (seen b))) order xs up i j d le lt) f) ∙ e

pub count_map : {X Y : Type 0} (p : Y → Bool) (f : X → Y) (xs : List X) → count_by p (map f xs) ≡ count_by (λ x. p (f x)) xs
count_map p f [] = refl
count_map p f (x ∷ xs) =
    sum_by-cons (λ (y : _). cond (p y) 1 0) (f x) (map f xs) ∙ ap (λ (k : ℕ). cond (p (f x)) 1 0 + k) (count_map p f xs) ∙ sym (sum_by-cons (λ (y : _). cond (p (f y)) 1 0) x xs)

-- the count among the sorted keys is the rank among the bits
pub counted_keys : (n : Netlist) (bits : List BitId) (keys sorted : List Key) → map seen keys ≡ map (key_of n) bits → IsPermutation keys sorted → (bit : BitId)
    → count_by (λ other. is_lt (key_cmp other (key_of n bit))) (map seen sorted) ≡ rank_of n bits bit
counted_keys n bits keys sorted same moved bit =
    let before = λ (other : List ℕ × ℕ × ℕ). is_lt (key_cmp other (key_of n bit)) in
    count_map before seen sorted ∙ sum_by-IsPermutation (λ (k : Key). cond (before (seen k)) 1 0) keys sorted moved ∙ sym (count_map before seen keys)
    ∙ ap (count_by before) same ∙ count_map before (key_of n) bits

pub are_ranked : (n : Netlist) (paths : List PathBits) (keys sorted slice : List Key) → map seen keys ≡ map (key_of n) (bits_of_all paths) → IsPermutation keys sorted → slice ≡ sorted
    → (chains : Chains) → chains.chains ≡ map (chain_of (λ bit. count_by (λ other. is_lt (key_cmp other (key_of n bit))) (map seen slice))) paths → chains.cells ≡ length slice
    → chains ≡ ranked_chains n paths
are_ranked n paths keys sorted slice same moved is chains listed count =
    let bits = bits_of_all paths in
    let numbers : (λ (bit : BitId). count_by (λ other. is_lt (key_cmp other (key_of n bit))) (map seen slice)) ≡ rank_of n bits =
    λ j bit. (ap (λ (xs : List Key). count_by (λ other. is_lt (key_cmp other (key_of n bit))) (map seen xs)) is ∙ counted_keys n bits keys sorted same moved bit) j in
    let each = listed ∙ ap (λ (number : BitId → ℕ). map (chain_of number) paths) numbers in
    let all = count ∙ ap length is ∙ length_permutation keys sorted moved ∙ sym (length-map keys seen) ∙ ap length same ∙ length-map bits (key_of n) in
    λ j. record { chains = each j; cells = all j }
