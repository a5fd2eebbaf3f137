-- One chain: what shifts leave in its bits, and what comes out, in closed form.
-- A history is the list of the symbols shifted in, the newest first. What the bits of a chain hold is what some
-- history shows, each symbol flipped by the parities up to its place.
use Rattle.std.proofs.Common.{◌≡◌, ℕ, ◌-◌, ◌<◌, ◌≤◌, List, [], ◌∷◌, ◌++◌, length, reverse, take, Bool, true, false, refl, sym, ap, ◌∙◌, arith, suc, zero, append_assoc, get_or}
use Rattle.std.proofs.lemmas.List.{reverse-append, length-reverse, length-take-le, length-append, get_or-append_right, get_or-reverse}
use Rattle.stil_tester.specs.declared.symbol.Symbol.{Symbol}
use Rattle.stil_tester.specs.declared.symbol.Symbol.TheVariants.{Zero, One, Unknown}
use Rattle.stil_tester.specs.Symbols.{flip, flip_if, differ, parity_of}
use Rattle.stil_tester.specs.Shifting.{moved_on}
use Rattle.stil_tester.specs.ChainCalls.{moved_all}

-- the bits that show a history, behind a parity q
abbrev pub shown : Bool → List Bool → List Symbol → List Symbol
shown q [] xs = []
shown q (p ∷ ps) [] = []
shown q (p ∷ ps) (x ∷ xs) = flip_if (differ p q) x ∷ shown (differ p q) ps xs

-- the parity up to each place, behind a parity q
abbrev pub parity_from : Bool → List Bool → ℕ → Bool
parity_from q [] i = q
parity_from q (p ∷ ps) zero = differ p q
parity_from q (p ∷ ps) (suc i) = parity_from (differ p q) ps i

-- ---- parities

pub flip-flip : (x : Symbol) → flip (flip x) ≡ x
flip-flip Zero = refl
flip-flip One = refl
flip-flip Unknown = refl

pub flip_if-flip_if : (p q : Bool) (x : Symbol) → flip_if p (flip_if q x) ≡ flip_if (differ p q) x
flip_if-flip_if true true x = flip-flip x
flip_if-flip_if true false x = refl
flip_if-flip_if false true x = refl
flip_if-flip_if false false x = refl

pub differ_self : (p : Bool) → differ p p ≡ false
differ_self true = refl
differ_self false = refl

pub differ_comm : (p q : Bool) → differ p q ≡ differ q p
differ_comm true true = refl
differ_comm true false = refl
differ_comm false true = refl
differ_comm false false = refl

pub differ_assoc : (p q r : Bool) → differ (differ p q) r ≡ differ p (differ q r)
differ_assoc true true true = refl
differ_assoc true true false = refl
differ_assoc true false true = refl
differ_assoc true false false = refl
differ_assoc false true true = refl
differ_assoc false true false = refl
differ_assoc false false true = refl
differ_assoc false false false = refl

pub differ_false : (p : Bool) → differ p false ≡ p
differ_false true = refl
differ_false false = refl

pub false_differ : (p : Bool) → differ false p ≡ p
false_differ true = refl
false_differ false = refl

pub differ_twice : (p q : Bool) → differ p (differ p q) ≡ q
differ_twice true true = refl
differ_twice true false = refl
differ_twice false true = refl
differ_twice false false = refl

pub flip_if_twice : (q : Bool) (x : Symbol) → flip_if q (flip_if q x) ≡ x
flip_if_twice true x = flip-flip x
flip_if_twice false x = refl

pub parity_of-append : (ps qs : List Bool) → parity_of (ps ++ qs) ≡ differ (parity_of ps) (parity_of qs)
parity_of-append [] qs = sym (false_differ (parity_of qs))
parity_of-append (p ∷ ps) qs = ap (differ p) (parity_of-append ps qs) ∙ sym (differ_assoc p (parity_of ps) (parity_of qs))

pub parity_from_is : (q : Bool) (ps : List Bool) (i : ℕ) → parity_from q ps i ≡ differ (parity_of (take (suc i) ps)) q
parity_from_is q [] i = sym (false_differ q)
parity_from_is q (p ∷ ps) zero = ap (λ r. differ r q) (sym (differ_false p))
parity_from_is q (p ∷ ps) (suc i) =
    parity_from_is (differ p q) ps i
    ∙ sym (differ_assoc (parity_of (take (suc i) ps)) p q)
    ∙ ap (λ r. differ r q) (differ_comm (parity_of (take (suc i) ps)) p)

-- ---- shifts

-- one step puts its symbol in front of the history that the bits show
pub moved_on-shown : (q : Bool) (ps : List Bool) (x : Symbol) (xs : List Symbol) → length ps ≤ length xs → moved_on ps (flip_if q x) (shown q ps xs) ≡ shown q ps (x ∷ xs)
moved_on-shown q [] x xs e = refl
moved_on-shown q (p ∷ ps) x [] e = absurd (omega arith)
moved_on-shown q (p ∷ ps) x (y ∷ ys) e = λ i. flip_if-flip_if p q x i ∷ moved_on-shown (differ p q) ps y ys (omega arith) i

-- a whole string, whose last character stands in the first bit
pub moved_all-shown : (ps : List Bool) (ss xs : List Symbol) → length ps ≤ length xs → moved_all ps ss (shown false ps xs) ≡ shown false ps (reverse ss ++ xs)
moved_all-shown ps [] xs e = refl
moved_all-shown ps (s ∷ ss) xs e =
    ap (moved_all ps ss) (moved_on-shown false ps s xs e)
    ∙ moved_all-shown ps ss (s ∷ xs) (omega arith)
    ∙ ap (shown false ps) (sym (ap (λ q. q ++ xs) (reverse-append (s ∷ []) ss) ∙ append_assoc (reverse ss) (s ∷ []) xs))

-- whatever bits hold is what some history shows
pub shown-shown : (q : Bool) (ps : List Bool) (held : List Symbol) → length held ≡ length ps → shown q ps (shown q ps held) ≡ held
shown-shown q [] [] e = refl
shown-shown q [] (c ∷ cs) e = absurd (omega arith)
shown-shown q (p ∷ ps) [] e = absurd (omega arith)
shown-shown q (p ∷ ps) (c ∷ cs) e = λ i. flip_if_twice (differ p q) c i ∷ shown-shown (differ p q) ps cs (omega arith) i

pub length-shown : (q : Bool) (ps : List Bool) (held : List Symbol) → length held ≡ length ps → length (shown q ps held) ≡ length ps
length-shown q [] cs e = refl
length-shown q (p ∷ ps) [] e = absurd (omega arith)
length-shown q (p ∷ ps) (c ∷ cs) e = ap suc (length-shown (differ p q) ps cs (omega arith))

-- only the newest symbols are seen
pub shown-append : (q : Bool) (ps : List Bool) (xs ys : List Symbol) → length ps ≤ length xs → shown q ps (xs ++ ys) ≡ shown q ps xs
shown-append q [] xs ys e = refl
shown-append q (p ∷ ps) [] ys e = absurd (omega arith)
shown-append q (p ∷ ps) (x ∷ xs) ys e = λ i. flip_if (differ p q) x ∷ shown-append (differ p q) ps xs ys (omega arith) i

-- the closed form, from whatever the bits hold
pub moved_all_is : (ps : List Bool) (ss held : List Symbol) → length held ≡ length ps → moved_all ps ss held ≡ shown false ps (reverse ss ++ shown false ps held)
moved_all_is ps ss held e = ap (moved_all ps ss) (sym (shown-shown false ps held e)) ∙ moved_all-shown ps ss (shown false ps held) (omega (arith, length-shown false ps held e))

-- what one bit shows of the history
pub get_or-shown : (q : Bool) (ps : List Bool) (xs : List Symbol) (i : ℕ) (d : Symbol) → i < length ps → length ps ≤ length xs → get_or (shown q ps xs) i d ≡ flip_if (parity_from q ps i) (get_or xs i d)
get_or-shown q [] xs i d l e = absurd (omega arith)
get_or-shown q (p ∷ ps) [] i d l e = absurd (omega arith)
get_or-shown q (p ∷ ps) (x ∷ xs) zero d l e = refl
get_or-shown q (p ∷ ps) (x ∷ xs) (suc i) d l e = get_or-shown (differ p q) ps xs i d (omega arith) (omega arith)

pub get_or-shown_first : (ps : List Bool) (xs : List Symbol) (i : ℕ) (d : Symbol) → i < length ps → length ps ≤ length xs → get_or (shown false ps xs) i d ≡ flip_if (parity_of (take (suc i) ps)) (get_or xs i d)
get_or-shown_first ps xs i d l e =
    get_or-shown false ps xs i d l e
    ∙ ap (λ q. flip_if q (get_or xs i d)) (parity_from_is false ps i ∙ differ_false (parity_of (take (suc i) ps)))

-- one character more
pub moved_all-push : (ps : List Bool) (ss : List Symbol) (x : Symbol) (held : List Symbol) → moved_all ps (ss ++ x ∷ []) held ≡ moved_on ps x (moved_all ps ss held)
moved_all-push ps [] x held = refl
moved_all-push ps (s ∷ ss) x held = moved_all-push ps ss x (moved_on ps s held)

-- A string that is long enough leaves nothing of what was there: the bit at place i holds the symbol shifted in i
-- steps before the last, flipped by the parities from the scan input.
pub loaded_bit : (ps : List Bool) (ss held : List Symbol) (i : ℕ) (d : Symbol) → length held ≡ length ps → length ps ≤ length ss → i < length ps
    → get_or (moved_all ps ss held) i d ≡ flip_if (parity_of (take (suc i) ps)) (get_or ss (length ss - 1 - i) d)
loaded_bit ps ss held i d e l m =
    ap (λ q. get_or q i d) (moved_all_is ps ss held e ∙ shown-append false ps (reverse ss) (shown false ps held) (omega (arith, length-reverse ss)))
    ∙ get_or-shown_first ps (reverse ss) i d m (omega (arith, length-reverse ss))
    ∙ ap (flip_if (parity_of (take (suc i) ps))) (get_or-reverse ss i d (omega arith))

-- What the last bit holds before step k: what the bit k places before it held before the string, flipped by the
-- parities between.
pub last_bit : (ps : List Bool) (ss held : List Symbol) (k : ℕ) (d : Symbol) → length held ≡ length ps → k < length ps → k ≤ length ss
    → get_or (moved_all ps (take k ss) held) (length ps - 1) d
    ≡ flip_if (parity_of (take (suc (length ps - 1)) ps)) (flip_if (parity_of (take (suc (length ps - 1 - k)) ps)) (get_or held (length ps - 1 - k) d))
last_bit ps ss held k d e l m =
    let rs : List Symbol = reverse (take k ss) in
    let n : length rs ≡ k = length-reverse (take k ss) ∙ length-take-le k ss m in
    let s : length (shown false ps held) ≡ length ps = length-shown false ps held e in
    ap (λ q. get_or q (length ps - 1) d) (moved_all_is ps (take k ss) held e)
    ∙ get_or-shown_first ps (rs ++ shown false ps held) (length ps - 1) d (omega arith) (omega (arith, length-append rs (shown false ps held)))
    ∙ ap (flip_if (parity_of (take (suc (length ps - 1)) ps)))
    (get_or-append_right rs (shown false ps held) k (length ps - 1) d n (omega arith)
    ∙ get_or-shown_first ps held (length ps - 1 - k) d (omega arith) (omega arith))
