-- One chain in a scan call: what is shifted in, and what comes out.
use Rattle.std.proofs.Common.{◌≡◌, ℕ, ◌+◌, ◌-◌, ◌<◌, ◌≤◌, List, [], ◌∷◌, ◌++◌, length, take, drop, map, set, reverse, Bool, true, false, refl, sym, ap, ◌∙◌, arith, suc, zero, get_or, ⊎_elim, Option, Some, None, replicate, subst, cond, nat_eq}
use Rattle.std.proofs.lemmas.Bool.{cases_lt, cases_eq, ne_eqb}
use Rattle.std.proofs.lemmas.List.{get_or_append_left, get_or-append_right, length-append, length-map, get_or-map, get_or_past, get_or-reverse, length-reverse, length-replicate, get_or-replicate, get_or-take, take_all, take-append-drop, length-take-le, drop_more}
use Rattle.std.specs.Prelude.{All}
use Rattle.stil_types.specs.Calls.{string_length, compare_character}
use Rattle.stil_tester.specs.declared.symbol.Symbol.{Symbol}
use Rattle.stil_tester.specs.declared.symbol.Symbol.TheVariants.{Unknown}
use Rattle.stil_tester.specs.declared.symbol.Expect.TheVariants.{Any}
use Rattle.stil_tester.specs.declared.chains.ChainBits.{ChainBits}
use Rattle.stil_tester.specs.Symbols.{flip, flip_if, symbol_of, expect_of, padded_load, padded_compare, differ, parity_of, text_of}
use Rattle.stil_tester.specs.Shifting.{IsChain, cell_at, held_by, moved_on, with_symbols}
use Rattle.stil_tester.specs.ChainCalls.{after_chain, coming_out, filled, flipped_along, moved_all, pushed}
use Rattle.stil_tester.proofs.OneChain.{flip-flip, flip_if-flip_if, differ_comm, last_bit, length-shown, moved_all_is, parity_of-append, get_or-shown_first, shown}
use Rattle.stil_tester.proofs.ShiftLaws.{held-written}
use Rattle.stil_tester.proofs.Shifts.{AreApart, count_of, count_of-cons, count_of-self, count_of-more, head_apart, held-set, held-with_symbols, length-moved_on}
use Rattle.stil_tester.proofs.Lengths.{length-with_symbols}

-- ---- the strings

pub length-padded_load : (shifts : ℕ) (load : Option (List ℕ)) → string_length load ≤ shifts → length (padded_load shifts load) ≡ shifts
length-padded_load shifts None h = length-replicate shifts Unknown
length-padded_load shifts (Some text) h =
    length-append (replicate (shifts - length text) Unknown) (map symbol_of text)
    ∙ omega (arith, length-replicate (shifts - length text) Unknown, length-map text symbol_of)

-- the character that reaches a place, counted from the end
pub get_or-padded_load : (shifts : ℕ) (load : Option (List ℕ)) (place : ℕ) → string_length load ≤ shifts → place < shifts → get_or (padded_load shifts load) (shifts - 1 - place) Unknown ≡ symbol_of (get_or (reverse (text_of load)) place 78)
get_or-padded_load shifts None place h l =
    let none : List ℕ = reverse [] in
    get_or-replicate shifts (shifts - 1 - place) Unknown Unknown (omega arith) ∙ ap symbol_of (sym (get_or_past none place 78 (omega arith)))
get_or-padded_load shifts (Some text) place h l =
    let n : length (replicate (shifts - length text) Unknown) ≡ shifts - length text = length-replicate (shifts - length text) Unknown in
    ⊎_elim (λ (inside : place < length text).
    get_or-append_right (replicate (shifts - length text) Unknown) (map symbol_of text) (shifts - length text) (shifts - 1 - place) Unknown n (omega arith)
    ∙ ap (λ k. get_or (map symbol_of text) k Unknown) (let e : shifts - 1 - place - (shifts - length text) ≡ length text - 1 - place = omega arith in e)
    ∙ get_or-map symbol_of text (length text - 1 - place) 78 Unknown (omega arith)
    ∙ ap symbol_of (sym (get_or-reverse text place 78 inside)))
    (λ (outside : length text ≤ place).
    get_or_append_left (replicate (shifts - length text) Unknown) (map symbol_of text) Unknown (shifts - 1 - place) (omega arith)
    ∙ get_or-replicate (shifts - length text) (shifts - 1 - place) Unknown Unknown (omega arith)
    ∙ ap symbol_of (sym (get_or_past (reverse text) place 78 (omega (arith, length-reverse text)))))
    (cases_lt place (length text))

get_or-replicate_any : (n k : ℕ) → get_or (replicate n Any) k Any ≡ Any
get_or-replicate_any n k =
    ⊎_elim (λ (l : k < n). get_or-replicate n k Any Any l) (λ (g : n ≤ k). get_or_past (replicate n Any) k Any (omega (arith, length-replicate n Any))) (cases_lt k n)

pub get_or-padded_compare : (shifts : ℕ) (compare : Option (List ℕ)) (k : ℕ) → get_or (padded_compare shifts compare) k Any ≡ expect_of (compare_character compare k)
get_or-padded_compare shifts None k = get_or-replicate_any shifts k
get_or-padded_compare shifts (Some text) k =
    ⊎_elim (λ (inside : k < length text).
    get_or_append_left (map expect_of text) (replicate (shifts - length text) Any) Any k (omega (arith, length-map text expect_of))
    ∙ get_or-map expect_of text k 88 Any inside)
    (λ (outside : length text ≤ k).
    get_or-append_right (map expect_of text) (replicate (shifts - length text) Any) (length text) k Any (length-map text expect_of) outside
    ∙ get_or-replicate_any (shifts - length text) (k - length text)
    ∙ ap expect_of (sym (get_or_past text k 88 outside)))
    (cases_lt k (length text))

-- ---- what is shifted in

pub length-moved_all : (ps : List Bool) (ss held : List Symbol) → length ps ≡ length held → length (moved_all ps ss held) ≡ length held
length-moved_all ps [] held e = refl
length-moved_all ps (s ∷ ss) held e = length-moved_all ps ss (moved_on ps s held) (e ∙ sym (length-moved_on ps s held e)) ∙ length-moved_on ps s held e

filled-is : (ns : List ℕ) (ps : List Bool) (q : Bool) (text : List ℕ) (i : ℕ) (xs cells : List Symbol) → length ps ≡ length ns → length ns ≤ length xs
    → ((j k : ℕ) → k ≡ i + j → j < length ns → get_or xs j Unknown ≡ symbol_of (get_or (reverse text) k 78))
    → filled ns ps q text i cells ≡ with_symbols ns (shown q ps xs) cells
filled-is [] ps q text i xs cells e l h = refl
filled-is (n ∷ ns) [] q text i xs cells e l h = absurd (omega arith)
filled-is (n ∷ ns) (p ∷ ps) q text i [] cells e l h = absurd (omega arith)
filled-is (n ∷ ns) (p ∷ ps) q text i (x ∷ xs) cells e l h =
    let here : x ≡ symbol_of (get_or (reverse text) i 78) = h 0 i (omega arith) (omega arith) in
    (λ t. filled ns ps (differ q p) text (i + 1) (set cells n (flip_if (differ q p) (sym here t))))
    ∙ filled-is ns ps (differ q p) text (i + 1) xs (set cells n (flip_if (differ q p) x)) (omega arith) (omega arith) (λ j k m b. h (suc j) k (omega arith) (omega arith))
    ∙ (λ t. with_symbols ns (shown (differ_comm q p t) ps xs) (set cells n (flip_if (differ_comm q p t) x)))

-- where the shifts reach each bit, nothing is left of what was there
pub filled_chain : (chain : ChainBits) (shifts : ℕ) (load : Option (List ℕ)) (cells : List Symbol) → IsChain chain → string_length load ≤ shifts → length chain.cells ≤ shifts
    → filled chain.cells chain.parity false (text_of load) 0 cells ≡ after_chain chain shifts load cells
filled_chain chain shifts load cells good h l =
    let ss : List Symbol = padded_load shifts load in
    let held : List Symbol = held_by chain cells in
    let xs : List Symbol = reverse ss ++ shown false chain.parity held in
    let n : length ss ≡ shifts = length-padded_load shifts load h in
    let r : length (reverse ss) ≡ shifts = length-reverse ss ∙ n in
    filled-is chain.cells chain.parity false (text_of load) 0 xs cells good.parities (omega (arith, length-append (reverse ss) (shown false chain.parity held)))
    (λ j k m b.
    get_or_append_left (reverse ss) (shown false chain.parity held) Unknown j (omega arith)
    ∙ get_or-reverse ss j Unknown (omega arith)
    ∙ ap (λ t. get_or ss (t - 1 - j) Unknown) n
    ∙ get_or-padded_load shifts load j h (omega arith)
    ∙ ap (λ t. symbol_of (get_or (reverse (text_of load)) t 78)) (let e : j ≡ k = omega arith in e))
    ∙ ap (λ ys. with_symbols chain.cells ys cells) (sym (moved_all_is chain.parity ss held (length-map chain.cells (cell_at cells) ∙ sym good.parities)))

-- ---- numbers in a part of a list

abbrev one_if : Bool → ℕ
one_if b = cond b 1 0

at_most_one : (b : Bool) → one_if b ≤ 1
at_most_one true = omega arith
at_most_one false = omega arith

count_of-drop : (n : ℕ) (ns : List ℕ) (m : ℕ) → count_of n (drop m ns) ≤ count_of n ns
count_of-drop n ns zero = omega arith
count_of-drop n [] (suc m) = omega arith
count_of-drop n (x ∷ ns) (suc m) = omega (arith, count_of-drop n ns m, count_of-more n x ns)

-- a number that stands before a place is counted once more
counted_twice : (n : ℕ) (ns : List ℕ) (i m : ℕ) → i < length ns → get_or ns i 0 ≡ n → i < m → count_of n (drop m ns) + 1 ≤ count_of n ns
counted_twice n [] i m l e b = absurd (omega arith)
counted_twice n (x ∷ ns) i zero l e b = absurd (omega arith)
counted_twice n (x ∷ ns) zero (suc m) l e b =
    omega (arith, subst (λ y. count_of n (y ∷ ns) ≡ 1 + count_of n ns) (sym e) (count_of-self n ns), count_of-drop n ns m)
counted_twice n (x ∷ ns) (suc i) (suc m) l e b = omega (arith, counted_twice n ns i m (omega arith) e (omega arith), count_of-more n x ns)

-- ---- cells that are written twice

set_set-same : (cells : List Symbol) (n : ℕ) (x y : Symbol) → set (set cells n x) n y ≡ set cells n y
set_set-same [] n x y = refl
set_set-same (c ∷ cs) zero x y = refl
set_set-same (c ∷ cs) (suc n) x y = ap (λ q. c ∷ q) (set_set-same cs n x y)

set_set-other : (cells : List Symbol) (n m : ℕ) (x y : Symbol) → (m ≡ n → ⊥) → set (set cells n x) m y ≡ set (set cells m y) n x
set_set-other [] n m x y d = refl
set_set-other (c ∷ cs) zero zero x y d = absurd (d refl)
set_set-other (c ∷ cs) zero (suc m) x y d = refl
set_set-other (c ∷ cs) (suc n) zero x y d = refl
set_set-other (c ∷ cs) (suc n) (suc m) x y d = ap (λ q. c ∷ q) (set_set-other cs n m x y (λ e. d (ap suc e)))

set-with_symbols : (ns : List ℕ) (xs cells : List Symbol) (n : ℕ) (y : Symbol) → count_of n ns ≡ 0 → set (with_symbols ns xs cells) n y ≡ with_symbols ns xs (set cells n y)
set-with_symbols [] xs cells n y e = refl
set-with_symbols (m ∷ ns) [] cells n y e = refl
set-with_symbols (m ∷ ns) (x ∷ xs) cells n y e =
    set-with_symbols ns xs (set cells m x) n y (omega (arith, count_of-more n m ns))
    ∙ ap (with_symbols ns xs) (set_set-other cells m n x y (λ q. head_apart n m ns e (sym q)))

pub with_symbols-twice : (ns : List ℕ) (xs ys cells : List Symbol) → AreApart [] ns → length xs ≡ length ys → with_symbols ns ys (with_symbols ns xs cells) ≡ with_symbols ns ys cells
with_symbols-twice [] xs ys cells h e = refl
with_symbols-twice (n ∷ ns) [] [] cells h e = refl
with_symbols-twice (n ∷ ns) [] (y ∷ ys) cells h e = absurd (omega arith)
with_symbols-twice (n ∷ ns) (x ∷ xs) [] cells h e = absurd (omega arith)
with_symbols-twice (n ∷ ns) (x ∷ xs) (y ∷ ys) cells h e =
    let rest : AreApart [] ns = record { once = λ m. omega (arith, h.once m, count_of-more m n ns) } in
    let none : count_of n ns ≡ 0 = omega (arith, h.once n, count_of-self n ns) in
    ap (with_symbols ns ys) (set-with_symbols ns xs (set cells n x) n y none ∙ ap (with_symbols ns xs) (set_set-same cells n x y))
    ∙ with_symbols-twice ns xs ys (set cells n y) rest (omega arith)

-- what a bit takes last, written at once
pub set_last : (ns : List ℕ) (xs cells : List Symbol) (m : ℕ) (y : Symbol) → AreApart [] ns → length xs ≡ length ns → m < length ns → y ≡ get_or xs m Unknown
    → set (with_symbols (drop (m + 1) ns) (drop (m + 1) xs) cells) (get_or ns m 0) y ≡ with_symbols (drop m ns) (drop m xs) cells
set_last ns xs cells m y h e l is =
    let n : ℕ = get_or ns m 0 in
    let none : count_of n (drop (m + 1) ns) ≡ 0 = omega (arith, h.once n, counted_twice n ns m (m + 1) l refl (omega arith)) in
    set-with_symbols (drop (m + 1) ns) (drop (m + 1) xs) cells n y none
    ∙ ap (λ z. with_symbols (drop (m + 1) ns) (drop (m + 1) xs) (set cells n z)) is
    ∙ (λ i. with_symbols (sym (drop_more ns m 0 l) i) (sym (drop_more xs m Unknown (omega arith)) i) cells)

-- what stands before a place isn't written behind it
pub held-before : (ns : List ℕ) (xs cells : List Symbol) (i m : ℕ) → AreApart [] ns → i < length ns → i < m
    → cell_at (with_symbols (drop m ns) xs cells) (get_or ns i 0) ≡ cell_at cells (get_or ns i 0)
held-before ns xs cells i m h l b =
    let n : ℕ = get_or ns i 0 in
    let apart : AreApart (drop m ns) (n ∷ []) = record {
      once = λ v. ⊎_elim (λ (e : v ≡ n). omega (arith, h.once v, counted_twice v ns i m l (sym e) b, count_of-cons v n [], at_most_one (nat_eq v n)))
          (λ (ne : v ≡ n → ⊥). omega (arith, count_of-cons v n [], ap one_if (ne_eqb v n ne), h.once v, count_of-drop v ns m))
          (cases_eq v n);
    } in
    ap (λ hs. get_or hs 0 Unknown) (held-with_symbols (drop m ns) (n ∷ []) xs cells apart)

-- ---- shifts that don't reach the last bit

flipped_along-is : (ns : List ℕ) (ps : List Bool) (q : Bool) (cells : List Symbol) → AreApart [] ns → length ps ≡ length ns → flipped_along ns ps q cells ≡ with_symbols ns (shown q ps (map (cell_at cells) ns)) cells
flipped_along-is [] ps q cells h e = refl
flipped_along-is (n ∷ ns) [] q cells h e = absurd (omega arith)
flipped_along-is (n ∷ ns) (p ∷ ps) q cells h e =
    let x : Symbol = flip_if (differ q p) (cell_at cells n) in
    let after : List Symbol = set cells n x in
    let rest : AreApart [] ns = record { once = λ m. omega (arith, h.once m, count_of-more m n ns) } in
    let none : count_of n ns ≡ 0 = omega (arith, h.once n, count_of-self n ns) in
    flipped_along-is ns ps (differ q p) after rest (omega arith)
    ∙ ap (λ held. with_symbols ns (shown (differ q p) ps held) after) (held-set n x ns cells none)
    ∙ (λ t. with_symbols ns (shown (differ_comm q p t) ps (map (cell_at cells) ns)) (set cells n (flip_if (differ_comm q p t) (cell_at cells n))))

pub length-pushed : (chain : ChainBits) (ss cells : List Symbol) → length (pushed chain ss cells) ≡ length chain.cells
length-pushed chain ss cells =
    length-take-le (length chain.cells) (reverse ss ++ held_by chain cells) (omega (arith, length-append (reverse ss) (held_by chain cells), length-map chain.cells (cell_at cells)))

-- what is shifted in, from its end
pub pushed-loaded : (chain : ChainBits) (ss cells : List Symbol) (m : ℕ) → m < length ss → m < length chain.cells → get_or (pushed chain ss cells) m Unknown ≡ get_or ss (length ss - 1 - m) Unknown
pushed-loaded chain ss cells m l n =
    get_or-take (length chain.cells) (reverse ss ++ held_by chain cells) m Unknown n
    ∙ get_or_append_left (reverse ss) (held_by chain cells) Unknown m (omega (arith, length-reverse ss))
    ∙ get_or-reverse ss m Unknown l

-- and what was there before
pub pushed-held : (chain : ChainBits) (ss cells : List Symbol) (m : ℕ) → length ss ≤ m → m < length chain.cells → get_or (pushed chain ss cells) m Unknown ≡ cell_at cells (get_or chain.cells (m - length ss) 0)
pushed-held chain ss cells m l n =
    get_or-take (length chain.cells) (reverse ss ++ held_by chain cells) m Unknown n
    ∙ get_or-append_right (reverse ss) (held_by chain cells) (length ss) m Unknown (length-reverse ss) l
    ∙ get_or-map (cell_at cells) chain.cells (m - length ss) 0 Unknown (omega arith)

-- only so many of a history are seen
shown-take : (q : Bool) (ps : List Bool) (xs : List Symbol) → shown q ps (take (length ps) xs) ≡ shown q ps xs
shown-take q [] xs = refl
shown-take q (p ∷ ps) [] = refl
shown-take q (p ∷ ps) (x ∷ xs) = ap (λ ys. flip_if (differ p q) x ∷ ys) (shown-take (differ p q) ps xs)

-- flipped, pushed on and flipped back
pub moved_chain : (chain : ChainBits) (shifts : ℕ) (load : Option (List ℕ)) (a b c d : List Symbol) → IsChain chain → AreApart [] chain.cells → All (λ n. n < length a) chain.cells
    → b ≡ flipped_along chain.cells chain.parity false a
    → c ≡ with_symbols chain.cells (pushed chain (padded_load shifts load) b) b
    → d ≡ flipped_along chain.cells chain.parity false c
    → d ≡ after_chain chain shifts load a
moved_chain chain shifts load a b c d good apart below eb ec ed =
    let ns : List ℕ = chain.cells in
    let ps : List Bool = chain.parity in
    let ss : List Symbol = padded_load shifts load in
    let held : List Symbol = held_by chain a in
    let freed : List Symbol = shown false ps held in
    let n : length held ≡ length ps = length-map ns (cell_at a) ∙ sym good.parities in
    let f : length freed ≡ length ns = length-shown false ps held n ∙ good.parities in
    let b_is : b ≡ with_symbols ns freed a = eb ∙ flipped_along-is ns ps false a apart good.parities in
    let b_long : length b ≡ length a = ap length b_is ∙ length-with_symbols ns freed a in
    let b_holds : held_by chain b ≡ freed = ap (held_by chain) b_is ∙ held-written ns freed a apart below f in
    let xs : List Symbol = pushed chain ss b in
    let m : length xs ≡ length ns = length-pushed chain ss b in
    let c_holds : held_by chain c ≡ xs = ap (held_by chain) ec ∙ held-written ns xs b apart (λ j e l. omega (arith, below j e l, b_long)) m in
    let seen : shown false ps xs ≡ moved_all ps ss held =
    ap (λ k. shown false ps (take k (reverse ss ++ held_by chain b))) (sym good.parities)
    ∙ shown-take false ps (reverse ss ++ held_by chain b)
    ∙ ap (λ hs. shown false ps (reverse ss ++ hs)) b_holds
    ∙ sym (moved_all_is ps ss held n) in
    let g : length (moved_all ps ss held) ≡ length ns = length-moved_all ps ss held (sym n) ∙ length-map ns (cell_at a) in
    ed
    ∙ flipped_along-is ns ps false c apart good.parities
    ∙ ap (λ hs. with_symbols ns (shown false ps hs) c) c_holds
    ∙ ap (λ ys. with_symbols ns ys c) seen
    ∙ ap (with_symbols ns (moved_all ps ss held)) (ec ∙ ap (with_symbols ns xs) b_is)
    ∙ ap (with_symbols ns (moved_all ps ss held)) (with_symbols-twice ns freed xs a apart (f ∙ sym m))
    ∙ with_symbols-twice ns xs (moved_all ps ss held) a apart (m ∙ sym g)

-- ---- what comes out

flips_between : (o p d : Bool) (x : Symbol) → flip_if o (flip_if (differ p d) (flip_if p x)) ≡ flip_if (differ d o) x
flips_between true true true x = flip-flip x
flips_between true true false x = flip-flip (flip x)
flips_between true false true x = flip-flip x
flips_between true false false x = refl
flips_between false true true x = refl
flips_between false true false x = flip-flip x
flips_between false false true x = refl
flips_between false false false x = refl

-- in the first shifts, what the bits held
pub coming_out-held : (chain : ChainBits) (cells ss : List Symbol) (k : ℕ) → IsChain chain → k < length chain.cells → k ≤ length ss
    → coming_out chain ss (held_by chain cells) k ≡ flip_if (differ (parity_of (drop (length chain.parity - k) chain.parity)) chain.out_parity) (cell_at cells (get_or chain.cells (length chain.cells - 1 - k) 0))
coming_out-held chain cells ss k good l m =
    let ps : List Bool = chain.parity in
    let held : List Symbol = held_by chain cells in
    let same : length ps ≡ length chain.cells = good.parities in
    let i : ℕ = length chain.cells - 1 - k in
    let cut : ℕ = length ps - k in
    let total : parity_of (take (suc (length ps - 1)) ps) ≡ differ (parity_of (take cut ps)) (parity_of (drop cut ps))
    = ap parity_of (take_all (suc (length ps - 1)) ps (omega arith) ∙ sym (take-append-drop cut ps)) ∙ parity_of-append (take cut ps) (drop cut ps) in
    ap (flip_if chain.out_parity)
    (ap (λ n. get_or (moved_all ps (take k ss) held) (n - 1) Unknown) (sym same)
    ∙ last_bit ps ss held k Unknown (length-map chain.cells (cell_at cells) ∙ sym same) (omega arith) m
    ∙ ap (λ n. flip_if (parity_of (take (suc (length ps - 1)) ps)) (flip_if (parity_of (take n ps)) (get_or held (length ps - 1 - k) Unknown))) (let e : suc (length ps - 1 - k) ≡ cut = omega arith in e)
    ∙ ap (λ n. flip_if (parity_of (take (suc (length ps - 1)) ps)) (flip_if (parity_of (take cut ps)) (get_or held n Unknown))) (let e : length ps - 1 - k ≡ i = omega arith in e)
    ∙ ap (λ q. flip_if q (flip_if (parity_of (take cut ps)) (get_or held i Unknown))) total)
    ∙ flips_between chain.out_parity (parity_of (take cut ps)) (parity_of (drop cut ps)) (get_or held i Unknown)
    ∙ ap (flip_if (differ (parity_of (drop cut ps)) chain.out_parity)) (get_or-map (cell_at cells) chain.cells i 0 Unknown (omega arith))

-- and then what is shifted in
pub coming_out-loaded : (chain : ChainBits) (cells ss : List Symbol) (k : ℕ) → IsChain chain → length chain.cells ≤ k → k ≤ length ss
    → coming_out chain ss (held_by chain cells) k ≡ flip_if (differ (parity_of chain.parity) chain.out_parity) (get_or ss (k - length chain.cells) Unknown)
coming_out-loaded chain cells ss k good l m =
    let ps : List Bool = chain.parity in
    let held : List Symbol = held_by chain cells in
    let same : length ps ≡ length chain.cells = good.parities in
    let long : length held ≡ length ps = length-map chain.cells (cell_at cells) ∙ sym same in
    let rs : List Symbol = reverse (take k ss) in
    let n : length (take k ss) ≡ k = length-take-le k ss m in
    let r : length rs ≡ k = length-reverse (take k ss) ∙ n in
    let xs : List Symbol = rs ++ shown false ps held in
    ap (flip_if chain.out_parity)
    (ap (λ t. get_or (moved_all ps (take k ss) held) (t - 1) Unknown) (sym same)
    ∙ ap (λ t. get_or t (length ps - 1) Unknown) (moved_all_is ps (take k ss) held long)
    ∙ get_or-shown_first ps xs (length ps - 1) Unknown (omega (arith, good.some)) (omega (arith, length-append rs (shown false ps held)))
    ∙ ap (λ t. flip_if (parity_of t) (get_or xs (length ps - 1) Unknown)) (take_all (suc (length ps - 1)) ps (omega arith))
    ∙ ap (flip_if (parity_of ps))
    (get_or_append_left rs (shown false ps held) Unknown (length ps - 1) (omega (arith, good.some))
    ∙ get_or-reverse (take k ss) (length ps - 1) Unknown (omega (arith, good.some))
    ∙ ap (λ t. get_or (take k ss) t Unknown) (let e : length (take k ss) - 1 - (length ps - 1) ≡ k - length chain.cells = omega (arith, good.some) in e)
    ∙ get_or-take k ss (k - length chain.cells) Unknown (omega (arith, good.some))))
    ∙ flip_if-flip_if chain.out_parity (parity_of ps) (get_or ss (k - length chain.cells) Unknown)
    ∙ ap (λ q. flip_if q (get_or ss (k - length chain.cells) Unknown)) (differ_comm chain.out_parity (parity_of ps))

step_of : (d o p : Bool) → differ (differ d o) p ≡ differ (differ p d) o
step_of true true true = refl
step_of true true false = refl
step_of true false true = refl
step_of true false false = refl
step_of false true true = refl
step_of false true false = refl
step_of false false true = refl
step_of false false false = refl

-- one bit more, from the end
pub parity_back : (ps : List Bool) (o d : Bool) (k : ℕ) → k < length ps
    → differ (differ (parity_of (drop (length ps - k) ps)) o) (get_or ps (length ps - 1 - k) d) ≡ differ (parity_of (drop (length ps - (k + 1)) ps)) o
parity_back ps o d k l =
    let i : ℕ = length ps - 1 - k in
    step_of (parity_of (drop (length ps - k) ps)) o (get_or ps i d)
    ∙ ap (λ n. differ (differ (get_or ps i d) (parity_of (drop n ps))) o) (let e : length ps - k ≡ i + 1 = omega arith in e)
    ∙ ap (λ qs. differ (parity_of qs) o) (sym (drop_more ps i d (omega arith)))
    ∙ ap (λ n. differ (parity_of (drop n ps)) o) (let e : i ≡ length ps - (k + 1) = omega arith in e)
