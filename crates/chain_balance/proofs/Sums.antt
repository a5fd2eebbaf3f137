-- Sums over the numbers below one, and over the chains of plans.
use Rattle.std.proofs.Common.{◌≡◌, ℕ, ◌+◌, ◌<◌, ◌≤◌, List, [], ◌∷◌, length, Bool, true, false, cond, refl, sym, ap, ◌∙◌, arith, suc, zero, get_or, ⊎_elim, eqb, eq-eqb}
use Rattle.std.specs.List.{concat, sum, sum_by}
use Rattle.std.proofs.lemmas.Bool.{cases_lt, ne_eqb}
use Rattle.std.proofs.lemmas.List.Sums.{sum_by-append, sum_by-cons}
use Rattle.chain_balance.specs.Balance.{sum_below, most_below}

-- the same summands
pub sum_below-same : (n : ℕ) (f g : ℕ → ℕ) → ((k : ℕ) → k < n → f k ≡ g k) → sum_below n f ≡ sum_below n g
sum_below-same zero f g h = refl
sum_below-same (suc n) f g h = let last : f n ≡ g n = h n (omega arith) in omega (arith, last, sum_below-same n f g (λ k l. h k (omega arith)))

-- no greater summands
pub sum_below-le : (n : ℕ) (f g : ℕ → ℕ) → ((k : ℕ) → k < n → f k ≤ g k) → sum_below n f ≤ sum_below n g
sum_below-le zero f g h = omega arith
sum_below-le (suc n) f g h = let last : f n ≤ g n = h n (omega arith) in omega (arith, last, sum_below-le n f g (λ k l. h k (omega arith)))

-- and a smaller one
pub sum_below-lt : (n : ℕ) (f g : ℕ → ℕ) (i : ℕ) → i < n → f i < g i → ((k : ℕ) → k < n → f k ≤ g k) → sum_below n f < sum_below n g
sum_below-lt zero f g i l s h = absurd (omega arith)
sum_below-lt (suc n) f g i l s h =
    let last : f n ≤ g n = h n (omega arith) in
    ⊎_elim (λ (b : i < n). omega (arith, last, sum_below-lt n f g i b s (λ k m. h k (omega arith))))
    (λ (e : n ≤ i). let same : i ≡ n = omega arith in
    let here : f n < g n = subst_at f g same s in
    omega (arith, here, sum_below-le n f g (λ k m. h k (omega arith))))
    (cases_lt i n)
  where
    subst_at : (f g : ℕ → ℕ) → {i n : ℕ} → i ≡ n → f i < g i → f n < g n
    subst_at f g e s = omega (arith, ap f e, ap g e, s)

pub sum_below-add : (n : ℕ) (f g : ℕ → ℕ) → sum_below n (λ k. f k + g k) ≡ sum_below n f + sum_below n g
sum_below-add zero f g = refl
sum_below-add (suc n) f g = omega (arith, sum_below-add n f g)

pub sum_below-none : (n : ℕ) (f : ℕ → ℕ) → ((k : ℕ) → k < n → f k ≡ 0) → sum_below n f ≡ 0
sum_below-none zero f h = refl
sum_below-none (suc n) f h = omega (arith, h n (omega arith), sum_below-none n f (λ k l. h k (omega arith)))

-- the first summand apart
sum_below-first : (n : ℕ) (f : ℕ → ℕ) → sum_below (suc n) f ≡ f 0 + sum_below n (λ k. f (suc k))
sum_below-first zero f = omega arith
sum_below-first (suc n) f = omega (arith, sum_below-first n f)

-- one summand alone
pub sum_below-one : (n k v : ℕ) (member : ℕ → Bool) → k < n → sum_below n (λ x. cond (member x) (cond (eqb k x) v 0) 0) ≡ cond (member k) v 0
sum_below-one zero k v member l = absurd (omega arith)
sum_below-one (suc n) k v member l =
    ⊎_elim (λ (b : k < n).
    let other : eqb k n ≡ false = ne_eqb k n (λ e. omega (arith, e, b)) in
    let none : cond (member n) (cond (eqb k n) v 0) 0 ≡ 0 = ap (λ q. cond (member n) (cond q v 0) 0) other ∙ same_choice (member n) 0 in
    omega (arith, none, sum_below-one n k v member b))
    (λ (e : n ≤ k).
    let same : k ≡ n = omega arith in
    let here : cond (member n) (cond (eqb k n) v 0) 0 ≡ cond (member k) v 0
    = ap (λ q. cond (member n) (cond q v 0) 0) (eq-eqb k n same) ∙ ap (λ j. cond (member j) v 0) (sym same) in
    let before : sum_below n (λ x. cond (member x) (cond (eqb k x) v 0) 0) ≡ 0
    = sum_below-none n (λ x. cond (member x) (cond (eqb k x) v 0) 0) (λ x m. ap (λ q. cond (member x) (cond q v 0) 0) (ne_eqb k x (λ f. omega (arith, f, same, m))) ∙ same_choice (member x) 0) in
    omega (arith, here, before))
    (cases_lt k n)
  where
    same_choice : (b : Bool) (x : ℕ) → cond b x x ≡ x
    same_choice true x = refl
    same_choice false x = refl

choice_add : (b : Bool) (x y : ℕ) → cond b (x + y) 0 ≡ cond b x 0 + cond b y 0
choice_add true x y = refl
choice_add false x y = refl

none_chosen : (b : Bool) → ◌≡◌ {A = ℕ} (cond b 0 0) 0
none_chosen true = refl
none_chosen false = refl

-- chains counted path by path
pub sum_below-paths : (n m : ℕ) (member : ℕ → Bool) (path f : ℕ → ℕ) → ((c : ℕ) → c < m → path c < n)
    → sum_below n (λ x. cond (member x) (sum_below m (λ c. cond (eqb (path c) x) (f c) 0)) 0) ≡ sum_below m (λ c. cond (member (path c)) (f c) 0)
sum_below-paths n zero member path f h = sum_below-none n (λ x. cond (member x) 0 0) (λ x l. none_chosen (member x))
sum_below-paths n (suc m) member path f h =
    let before : ℕ → ℕ = λ x. cond (member x) (sum_below m (λ c. cond (eqb (path c) x) (f c) 0)) 0 in
    let last : ℕ → ℕ = λ x. cond (member x) (cond (eqb (path m) x) (f m) 0) 0 in
    sum_below-same n (λ x. cond (member x) (sum_below m (λ c. cond (eqb (path c) x) (f c) 0) + cond (eqb (path m) x) (f m) 0) 0) (λ x. before x + last x)
    (λ x l. choice_add (member x) (sum_below m (λ c. cond (eqb (path c) x) (f c) 0)) (cond (eqb (path m) x) (f m) 0))
    ∙ sum_below-add n before last
    ∙ (λ i. sum_below-paths n m member path f (λ c l. h c (omega arith)) i + sum_below-one n (path m) (f m) member (h m (omega arith)) i)

-- the numbers of all chains, chain by chain
pub sum_below-concat : (f : ℕ → ℕ) (css : List (List ℕ)) → sum_below (length css) (λ c. sum_by f (get_or css c [])) ≡ sum_by f (concat css)
sum_below-concat f [] = refl
sum_below-concat f (cs ∷ css) =
    sum_below-first (length css) (λ c. sum_by f (get_or (cs ∷ css) c []))
    ∙ ap (λ r. sum_by f cs + r) (sum_below-concat f css)
    ∙ sym (sum_by-append f cs (concat css))

-- none is greater than the greatest
pub most_below-at : (n : ℕ) (f : ℕ → ℕ) (k : ℕ) → k < n → f k ≤ most_below n f
most_below-at zero f k l = absurd (omega arith)
most_below-at (suc n) f k l =
    ⊎_elim (λ (b : k < n). omega (arith, most_below-at n f k b)) (λ (e : n ≤ k). let same : k ≡ n = omega arith in omega (arith, ap f same)) (cases_lt k n)

-- the sum over fewer numbers
pub sum_below-fewer : (k n : ℕ) (f : ℕ → ℕ) → k ≤ n → sum_below k f ≤ sum_below n f
sum_below-fewer k zero f l = let same : k ≡ 0 = omega arith in omega (arith, ap (λ j. sum_below j f) same)
sum_below-fewer k (suc n) f l =
    ⊎_elim (λ (b : k < suc n). omega (arith, sum_below-fewer k n f (omega arith)))
    (λ (e : suc n ≤ k). let same : k ≡ suc n = omega arith in omega (arith, ap (λ j. sum_below j f) same))
    (cases_lt k (suc n))

-- one summand is no more than the sum
pub summand_le : (n : ℕ) (f : ℕ → ℕ) (k : ℕ) → k < n → f k ≤ sum_below n f
summand_le zero f k l = absurd (omega arith)
summand_le (suc n) f k l =
    ⊎_elim (λ (b : k < n). omega (arith, summand_le n f k b)) (λ (e : n ≤ k). let same : k ≡ n = omega arith in omega (arith, ap f same)) (cases_lt k n)

-- the numbers of a list, place by place
pub sum_below-list : (ns : List ℕ) → sum_below (length ns) (λ k. get_or ns k 0) ≡ sum ns
sum_below-list [] = refl
sum_below-list (n ∷ ns) = omega (arith, sum_below-first (length ns) (λ k. get_or (n ∷ ns) k 0), sum_below-list ns, sum_by-cons (λ x. x) n ns)
