-- The bits of chains in the order in which they come out: loops over them, and what stands for each bit.
use Rattle.std.proofs.Common.{◌≡◌, ℕ, ◌+◌, ◌-◌, ◌<◌, ◌≤◌, List, [], ◌∷◌, ◌++◌, length, map, take, drop, reverse, replicate, Bool, true, false, refl, sym, ap, ◌∙◌, arith, append_assoc, zero-add, suc, zero, get_or, ⊎_elim, subst, Option, None}
use Rattle.std.specs.List.{flat_map, range_with_len}
use Rattle.std.proofs.lemmas.Bool.{cases_lt}
use Rattle.std.proofs.lemmas.List.{append-nil, drop_all, drop_more, flat_map_more, get_or_append_left, get_or-append_right, get_or-drop, get_or-replicate, get_or-reverse, get_or-take, get_or_default, get_or_past, length-append, length-drop, length-replicate, length-reverse, length-take, take_more}
use Rattle.std.proofs.lemmas.List.Concat.{get_or-flat_map}
use Rattle.std.proofs.lemmas.List.FromFn.{get_or-map-range_with_len, length-map-range_with_len, map-range_with_len_more}
use Rattle.stil_tester.specs.declared.chains.ChainBits.{ChainBits}
use Rattle.stil_tester.specs.Symbols.{differ, parity_of, text_of}
use Rattle.stil_tester.specs.Shifting.{numbers_of, no_bits}
use Rattle.stil_tester.proofs.ChainCalls.{parity_back}
use Rattle.stil_tester.proofs.OneChain.{differ_assoc, differ_false, differ_self}
use Rattle.retarget.specs.declared.side.Side.{Side}
use Rattle.retarget.specs.declared.side.Side.TheVariants.{Load, Compare}
use Rattle.retarget.specs.Places.{parity_to, parity_after}
use Rattle.retarget.specs.Sides.{character_in, parity_at}
use Rattle.retarget.specs.Exits.{chain_characters, chain_parities, exit_cells, exit_characters, exit_parities}
use Rattle.retarget.proofs.AllChains.{start_of}
use Rattle.retarget.proofs.Parities.{parity_after_is}

-- ---- one element, and one chain more

-- behind what was there stands one element more of a list
pub push_more : {A : Type 0} (xs : List A) (k : ℕ) (d : A) (old before after : List A) (x : A) → k < length xs → x ≡ get_or xs k d → after ≡ before ++ x ∷ [] → before ≡ old ++ take k xs → after ≡ old ++ take (k + 1) xs
push_more xs k d old before after x l at is has =
    is
    ∙ (λ i. has i ++ at i ∷ [])
    ∙ append_assoc old (take k xs) (get_or xs k d ∷ [])
    ∙ ap (λ ys. old ++ ys) (sym (take_more xs k d l))

-- and of what a function gives
pub push_range : {A : Type 0} (f : ℕ → A) (k : ℕ) (old before after : List A) (x : A) → x ≡ f k → after ≡ before ++ x ∷ [] → before ≡ old ++ map f (range_with_len 0 k) → after ≡ old ++ map f (range_with_len 0 (k + 1))
push_range f k old before after x at is has =
    is
    ∙ (λ i. has i ++ at i ∷ [])
    ∙ append_assoc old (map f (range_with_len 0 k)) (f k ∷ [])
    ∙ ap (λ ys. old ++ ys) (sym (map-range_with_len_more f 0 k k (omega arith)))

-- what is made of the first chains
pub flat_more : {A : Type 0} (f : ChainBits → List A) (chains : List ChainBits) (n : ℕ) (before after : List A) (chain : ChainBits) → n < length chains → chain ≡ get_or chains n no_bits → after ≡ before ++ f chain
    → before ≡ flat_map f (take n chains) → after ≡ flat_map f (take (n + 1) chains)
flat_more f chains n before after chain l at is has =
    is
    ∙ (λ i. has i ++ f (at i))
    ∙ flat_map_more f [] (take n chains) (get_or chains n no_bits)
    ∙ ap (flat_map f) (sym (take_more chains n no_bits l))

-- the characters of one chain more
pub characters_more : (side : Side) (chains : List ChainBits) (strings : List (Option (List ℕ))) (n : ℕ) (before after : List ℕ) (chain : ChainBits) (string : Option (List ℕ)) → n < length chains → n < length strings
    → chain ≡ get_or chains n no_bits → string ≡ get_or strings n None → after ≡ before ++ chain_characters side (text_of string) (length chain.cells)
    → before ++ exit_characters side (drop n chains) (drop n strings) ≡ exit_characters side chains strings → after ++ exit_characters side (drop (n + 1) chains) (drop (n + 1) strings) ≡ exit_characters side chains strings
characters_more side chains strings n before after chain string l m at given is has =
    let rest : List ℕ = exit_characters side (drop (n + 1) chains) (drop (n + 1) strings) in
    ap (λ ys. ys ++ rest) (is ∙ (λ i. before ++ chain_characters side (text_of (given i)) (length (at i).cells)))
    ∙ append_assoc before (chain_characters side (text_of (get_or strings n None)) (length (get_or chains n no_bits).cells)) rest
    ∙ ap (λ ys. before ++ ys) (λ i. exit_characters side (sym (drop_more chains n no_bits l) i) (sym (drop_more strings n None m) i))
    ∙ has

pub characters_all : (side : Side) (chains : List ChainBits) (strings : List (Option (List ℕ))) (n : ℕ) (all : List ℕ) → length chains ≤ n
    → all ++ exit_characters side (drop n chains) (drop n strings) ≡ exit_characters side chains strings → all ≡ exit_characters side chains strings
characters_all side chains strings n all l has =
    sym (append-nil all) ∙ ap (λ (cs : List ChainBits). all ++ exit_characters side cs (drop n strings)) (sym (drop_all n chains l)) ∙ has

-- ---- the parities of a bit

-- the whole parity frees one part of the other
freed : (p q : Bool) → differ (differ p q) q ≡ p
freed p q = differ_assoc p q q ∙ ap (differ p) (differ_self q) ∙ differ_false p

-- the parity behind a bit
pub behind_is : (chain : ChainBits) (k : ℕ) → k < length chain.cells → differ (parity_of (drop (length chain.cells - k) chain.parity)) chain.out_parity ≡ parity_after chain (length chain.cells - 1 - k)
behind_is chain k l = ap (λ n. differ (parity_of (drop n chain.parity)) chain.out_parity) (let e : length chain.cells - k ≡ length chain.cells - 1 - k + 1 = omega arith in e)

-- one bit more, from the end
pub behind_more : (chain : ChainBits) (k : ℕ) → length chain.parity ≡ length chain.cells → k < length chain.cells
    → differ (differ (parity_of (drop (length chain.cells - k) chain.parity)) chain.out_parity) (get_or chain.parity (length chain.cells - 1 - k) false) ≡ differ (parity_of (drop (length chain.cells - (k + 1)) chain.parity)) chain.out_parity
behind_more chain k e l =
    subst (λ (n : ℕ). differ (differ (parity_of (drop (n - k) chain.parity)) chain.out_parity) (get_or chain.parity (n - 1 - k) false) ≡ differ (parity_of (drop (n - (k + 1)) chain.parity)) chain.out_parity) e
    (parity_back chain.parity chain.out_parity false k (omega arith))

-- and that before it
pub before_is : (chain : ChainBits) (i : ℕ) → differ (parity_after chain i) (differ (parity_of chain.parity) chain.out_parity) ≡ parity_to chain i
before_is chain i =
    let whole : Bool = differ (parity_of chain.parity) chain.out_parity in
    ap (λ p. differ p whole) (sym (parity_after_is chain i)) ∙ freed (parity_to chain i) whole

-- ---- what stands for a bit

pub length_flat : {A : Type 0} (f : ChainBits → List A) (long : (chain : ChainBits) → length (f chain) ≡ length chain.cells) (chains : List ChainBits) → length (flat_map f chains) ≡ length (numbers_of chains)
length_flat f long [] = refl
length_flat f long (chain ∷ chains) =
    omega (arith, length-append (f chain) (flat_map f chains), length-append chain.cells (numbers_of chains), long chain, length_flat f long chains)

get_or_flat : {A : Type 0} (f : ChainBits → List A) (long : (chain : ChainBits) → length (f chain) ≡ length chain.cells) (chains : List ChainBits) (c k : ℕ) (d : A) → c < length chains → k < length (get_or chains c no_bits).cells
    → get_or (flat_map f chains) (start_of chains c + k) d ≡ get_or (f (get_or chains c no_bits)) k d
get_or_flat f long chains c k d l m =
    ap (λ n. get_or (flat_map f chains) (n + k) d) (sym (length_flat f long (take c chains)))
    ∙ get_or-flat_map f chains c k no_bits d l (omega (arith, long (get_or chains c no_bits)))

length-chain_cells : (chain : ChainBits) → length (reverse chain.cells) ≡ length chain.cells
length-chain_cells chain = length-reverse chain.cells

pub length-chain_parities : (side : Side) (chain : ChainBits) → length (chain_parities side chain) ≡ length chain.cells
length-chain_parities side chain = length-map-range_with_len (λ k. parity_at side chain (length chain.cells - 1 - k)) 0 (length chain.cells)

pub length-exit_cells : (chains : List ChainBits) → length (exit_cells chains) ≡ length (numbers_of chains)
length-exit_cells chains = length_flat (λ (chain : ChainBits). reverse chain.cells) length-chain_cells chains

pub length-exit_parities : (side : Side) (chains : List ChainBits) → length (exit_parities side chains) ≡ length (numbers_of chains)
length-exit_parities side chains = length_flat (chain_parities side) (length-chain_parities side) chains

-- its cell
pub exit_cell : (chains : List ChainBits) (c k : ℕ) → c < length chains → k < length (get_or chains c no_bits).cells
    → get_or (exit_cells chains) (start_of chains c + k) 0 ≡ get_or (get_or chains c no_bits).cells (length (get_or chains c no_bits).cells - 1 - k) 0
exit_cell chains c k l m =
    get_or_flat (λ (chain : ChainBits). reverse chain.cells) length-chain_cells chains c k 0 l m ∙ get_or-reverse (get_or chains c no_bits).cells k 0 m

-- its parity
pub exit_parity : (side : Side) (chains : List ChainBits) (c k : ℕ) → c < length chains → k < length (get_or chains c no_bits).cells
    → get_or (exit_parities side chains) (start_of chains c + k) false ≡ parity_at side (get_or chains c no_bits) (length (get_or chains c no_bits).cells - 1 - k)
exit_parity side chains c k l m =
    let chain : ChainBits = get_or chains c no_bits in
    get_or_flat (chain_parities side) (length-chain_parities side) chains c k false l m
    ∙ get_or-map-range_with_len (λ (n : ℕ). parity_at side chain (length chain.cells - 1 - n)) 0 (length chain.cells) k k false m (omega arith)

-- its character
pub length-chain_characters : (side : Side) (text : List ℕ) (bits : ℕ) → length (chain_characters side text bits) ≡ bits
length-chain_characters Load text bits =
    omega (arith, length-append {A = ℕ} (replicate (bits - length text) 78) (drop (length text - bits) text), length-replicate {A = ℕ} (bits - length text) 78, length-drop (length text - bits) text)
length-chain_characters Compare text bits =
    omega (arith, length-append {A = ℕ} (take bits text) (replicate (bits - length text) 88), length-replicate {A = ℕ} (bits - length text) 88, length-take bits text)

pub chain_character : (side : Side) (text : List ℕ) (bits k d : ℕ) → k < bits → get_or (chain_characters side text bits) k d ≡ character_in side text bits (bits - 1 - k)
chain_character Load text bits k d l =
    let fillers : ℕ = bits - length text in
    let unread : ℕ = length text - bits in
    let front : List ℕ = replicate fillers 78 in
    let n : length front ≡ fillers = length-replicate {A = ℕ} fillers 78 in
    ⊎_elim (λ (m : k < fillers).
    get_or_append_left front (drop unread text) d k (omega arith)
    ∙ get_or-replicate fillers k 78 d m
    ∙ sym (get_or_past (reverse text) (bits - 1 - k) 78 (omega (arith, length-reverse text))))
    (λ (g : fillers ≤ k).
    get_or-append_right front (drop unread text) fillers k d n g
    ∙ get_or-drop unread text (k - fillers) d
    ∙ ap (λ i. get_or text i d) (let e : unread + (k - fillers) ≡ length text - 1 - (bits - 1 - k) = omega arith in e)
    ∙ get_or_default text (length text - 1 - (bits - 1 - k)) d 78 (omega arith)
    ∙ sym (get_or-reverse text (bits - 1 - k) 78 (omega arith)))
    (cases_lt k fillers)
chain_character Compare text bits k d l =
    let fillers : ℕ = bits - length text in
    let back : List ℕ = replicate fillers 88 in
    let same : k ≡ bits - 1 - (bits - 1 - k) = omega arith in
    ⊎_elim (λ (m : k < length text).
    get_or_append_left (take bits text) back d k (omega (arith, length-take bits text))
    ∙ get_or-take bits text k d l
    ∙ get_or_default text k d 88 m
    ∙ ap (λ i. get_or text i 88) same)
    (λ (g : length text ≤ k).
    get_or-append_right (take bits text) back (length text) k d (omega (arith, length-take bits text)) g
    ∙ get_or-replicate fillers (k - length text) 88 d (omega arith)
    ∙ sym (get_or_past text (bits - 1 - (bits - 1 - k)) 88 (omega arith)))
    (cases_lt k (length text))

pub length-exit_characters : (side : Side) (chains : List ChainBits) (strings : List (Option (List ℕ))) → length strings ≡ length chains → length (exit_characters side chains strings) ≡ length (numbers_of chains)
length-exit_characters side [] strings e = refl
length-exit_characters side (chain ∷ chains) [] e = absurd (omega arith)
length-exit_characters side (chain ∷ chains) (string ∷ strings) e =
    let here : List ℕ = chain_characters side (text_of string) (length chain.cells) in
    omega (
      arith,
      length-append here (exit_characters side chains strings),
      length-append chain.cells (numbers_of chains),
      length-chain_characters side (text_of string) (length chain.cells),
      length-exit_characters side chains strings (omega arith),
    )

among_all : (side : Side) (chains : List ChainBits) (strings : List (Option (List ℕ))) (c k d : ℕ) → length strings ≡ length chains → c < length chains → k < length (get_or chains c no_bits).cells
    → get_or (exit_characters side chains strings) (start_of chains c + k) d ≡ get_or (chain_characters side (text_of (get_or strings c None)) (length (get_or chains c no_bits).cells)) k d
among_all side [] strings c k d e l m = absurd (omega arith)
among_all side (chain ∷ chains) [] c k d e l m = absurd (omega arith)
among_all side (chain ∷ chains) (string ∷ strings) zero k d e l m =
    let here : List ℕ = chain_characters side (text_of string) (length chain.cells) in
    ap (λ n. get_or (here ++ exit_characters side chains strings) n d) (zero-add k)
    ∙ get_or_append_left here (exit_characters side chains strings) d k (omega (arith, length-chain_characters side (text_of string) (length chain.cells)))
among_all side (chain ∷ chains) (string ∷ strings) (suc c) k d e l m =
    let here : List ℕ = chain_characters side (text_of string) (length chain.cells) in
    let s : length (chain.cells ++ numbers_of (take c chains)) ≡ length chain.cells + start_of chains c = length-append chain.cells (numbers_of (take c chains)) in
    get_or-append_right here (exit_characters side chains strings) (length chain.cells) (length (chain.cells ++ numbers_of (take c chains)) + k) d (length-chain_characters side (text_of string) (length chain.cells)) (omega arith)
    ∙ ap (λ n. get_or (exit_characters side chains strings) n d) (let p : length (chain.cells ++ numbers_of (take c chains)) + k - length chain.cells ≡ start_of chains c + k = omega arith in p)
    ∙ among_all side chains strings c k d (omega arith) (omega arith) m

pub exit_character : (side : Side) (chains : List ChainBits) (strings : List (Option (List ℕ))) (c k d : ℕ) → length strings ≡ length chains → c < length chains → k < length (get_or chains c no_bits).cells
    → get_or (exit_characters side chains strings) (start_of chains c + k) d ≡ character_in side (text_of (get_or strings c None)) (length (get_or chains c no_bits).cells) (length (get_or chains c no_bits).cells - 1 - k)
exit_character side chains strings c k d e l m =
    among_all side chains strings c k d e l m ∙ chain_character side (text_of (get_or strings c None)) (length (get_or chains c no_bits).cells) k d m
