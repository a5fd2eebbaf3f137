-- Rows of lists, as one more is looked at.
use Rattle.std.proofs.Common.{◌≡◌, ◌⊎◌, inl, inr, Bool, true, false, cond, ◌||◌, eqb, Option, refl, ℕ, ◌+◌, ◌<◌, ◌≤◌, List, [], ◌∷◌, ◌++◌, length, map, get_or, take, sym, ap, ◌∙◌, subst, append_assoc}
use Rattle.std.specs.List.{flat_map, filter_map, cons_option, list_any, fold}
use Rattle.std.proofs.lemmas.List.Elements.{filter_map-append}
use Rattle.std.proofs.lemmas.List.Folds.{list_any-append}
use Rattle.std.proofs.lemmas.List.Sums.{fold-append}
use Rattle.std.proofs.lemmas.List.{take_more, take_all, map-append, append-nil}

pub take_next : {A : Type 0} (xs : List A) (i : ℕ) (x : A) → i < length xs → x ≡ get_or xs i x → take (i + 1) xs ≡ take i xs ++ x ∷ []
take_next xs i x lt is = take_more xs i x lt ∙ ap (λ y. take i xs ++ y ∷ []) (sym is)

pub map_next : {A B : Type 0} (f : A → B) (xs : List A) (i : ℕ) (x : A) → i < length xs → x ≡ get_or xs i x → map f (take (i + 1) xs) ≡ map f (take i xs) ++ f x ∷ []
map_next f xs i x lt is = ap (map f) (take_next xs i x lt is) ∙ map-append f (take i xs) (x ∷ [])

-- over all of them
pub fold_next : {A B : Type 0} (f : B → A → B) (b : B) (xs : List A) (i : ℕ) (x : A) → i < length xs → x ≡ get_or xs i x → fold f b (take (i + 1) xs) ≡ f (fold f b (take i xs)) x
fold_next f b xs i x lt is = ap (fold f b) (take_next xs i x lt is) ∙ fold-append f b (take i xs) (x ∷ [])

flat_last : {A B : Type 0} (f : A → List B) (xs : List A) (x : A) → flat_map f (xs ++ x ∷ []) ≡ flat_map f xs ++ f x
flat_last f [] x = append-nil (f x)
flat_last f (y ∷ ys) x = ap (λ l. f y ++ l) (flat_last f ys x) ∙ sym (append_assoc (f y) (flat_map f ys) (f x))

pub flat_next : {A B : Type 0} (f : A → List B) (xs : List A) (i : ℕ) (x : A) → i < length xs → x ≡ get_or xs i x → flat_map f (take (i + 1) xs) ≡ flat_map f (take i xs) ++ f x
flat_next f xs i x lt is = ap (flat_map f) (take_next xs i x lt is) ∙ flat_last f (take i xs) x

-- of names with their lines
pub row_next : {X : Type 0} (name : X → List ℕ) (line : X → ℕ) (xs : List X) (i : ℕ) (x : X) (n : List ℕ) (l : ℕ) (P : List (List ℕ × ℕ) → Type 0) → i < length xs → x ≡ get_or xs i x → n ≡ name x → l ≡ line x
    → P (map (λ r. (name r, line r)) (take i xs) ++ (n, l) ∷ []) → P (map (λ r. (name r, line r)) (take (i + 1) xs))
row_next name line xs i x n l P lt is named lined holds =
    let last : (n, l) ≡ (name x, line x) = ap (λ (m : List ℕ). (m, l)) named ∙ ap (λ (k : ℕ). (name x, k)) lined in
    subst P (ap (λ (r : List ℕ × ℕ). map (λ r. (name r, line r)) (take i xs) ++ r ∷ []) last ∙ sym (map_next (λ r. (name r, line r)) xs i x lt is)) holds

pub rows_all : {X : Type 0} (name : X → List ℕ) (line : X → ℕ) (xs : List X) (i : ℕ) (P : List (List ℕ × ℕ) → Type 0) → length xs ≤ i
    → P (map (λ r. (name r, line r)) (take i xs)) → P (map (λ r. (name r, line r)) xs)
rows_all name line xs i P le holds = subst P (ap (map (λ r. (name r, line r))) (take_all i xs le)) holds

-- of the connections of a net
pub pins_next : {K : Type 0} (rows : List (K × ℕ)) (items pins : List K) (line i : ℕ) (x : K) → items ≡ pins → i < length items → x ≡ get_or items i x
    → (rows ++ map (λ p. (p, line)) (take i pins)) ++ (x, line) ∷ [] ≡ rows ++ map (λ p. (p, line)) (take (i + 1) pins)
pins_next {K} rows items pins line i x same lt is =
    let f : K → K × ℕ = λ p. (p, line) in
    append_assoc rows (map f (take i pins)) ((x, line) ∷ [])
    ∙ ap (λ (l : List (K × ℕ)). rows ++ l) (ap (λ (ps : List K). map f (take i ps) ++ (x, line) ∷ []) (sym same) ∙ sym (map_next f items i x lt is) ∙ ap (λ (ps : List K). map f (take (i + 1) ps)) same)

pub pins_all : {K : Type 0} (rows : List (K × ℕ)) (items pins : List K) (line i : ℕ) → items ≡ pins → length items ≤ i → rows ++ map (λ p. (p, line)) (take i pins) ≡ rows ++ map (λ p. (p, line)) pins
pins_all {K} rows items pins line i same le = ap (λ (l : List K). rows ++ map (λ p. (p, line)) l) (take_all i pins (subst (λ (l : List K). length l ≤ i) same le))

-- what members give, as far as they give something
pub filter_next : {A B : Type 0} (f : A → Option B) (items xs : List A) (i : ℕ) (x : A) → items ≡ xs → i < length items → x ≡ get_or items i x → filter_map f (take (i + 1) xs) ≡ filter_map f (take i xs) ++ cons_option (f x) []
filter_next {A} f items xs i x same lt is =
    ap (λ (l : List A). filter_map f (take (i + 1) l)) (sym same) ∙ ap (filter_map f) (take_next items i x lt is) ∙ filter_map-append f (take i items) (x ∷ [])
    ∙ ap (λ (l : List A). filter_map f (take i l) ++ cons_option (f x) []) same

or_cond : (a b : Bool) → (a || (b || false)) ≡ cond b true a
or_cond true true = refl
or_cond true false = refl
or_cond false true = refl
or_cond false false = refl

-- a number more is in a set
pub number_added : (before cs : List ℕ) (i q : ℕ) (new old : Bool) → i < length cs → new ≡ cond (eqb (get_or cs i 0) q) true old → old ≡ list_any (λ d. eqb d q) (before ++ take i cs)
    → new ≡ list_any (λ d. eqb d q) (before ++ take (i + 1) cs)
number_added before cs i q new old lt is was =
    let p : ℕ → Bool = λ d. eqb d q in
    let x = get_or cs i 0 in
    is ∙ ap (λ (b : Bool). cond (eqb x q) true b) was ∙ sym (or_cond (list_any p (before ++ take i cs)) (eqb x q)) ∙ sym (list_any-append p (before ++ take i cs) (x ∷ []))
    ∙ ap (list_any p) (append_assoc before (take i cs) (x ∷ []) ∙ ap (λ (l : List ℕ). before ++ l) (sym (take_more cs i 0 lt)))

-- what stands in a list with one more behind it
pub nil_not : {X : Type 0} (front behind : List X) (y : X) → [] ≡ front ++ y ∷ behind → ⊥
nil_not [] behind y e = absurd cc
nil_not (f ∷ fs) behind y e = absurd cc

pub split_last : {X : Type 0} (xs front behind : List X) (x y : X) → xs ++ x ∷ [] ≡ front ++ y ∷ behind → ((b : List X) × (xs ≡ front ++ y ∷ b)) ⊎ ((xs ≡ front) × (x ≡ y))
split_last [] [] behind x y e = let same : x ≡ y = cc in inr (refl, same)
split_last [] (f ∷ fs) behind x y e = let rest : [] ≡ fs ++ y ∷ behind = cc in absurd (nil_not fs behind y rest)
split_last (a ∷ xs) [] behind x y e = let same : a ≡ y = cc in inl (xs, ap (λ z. z ∷ xs) same)
split_last {X} (a ∷ xs) (f ∷ fs) behind x y e =
    let same : a ≡ f = cc in
    let rest : xs ++ x ∷ [] ≡ fs ++ y ∷ behind = cc in
    elim (split_last xs fs behind x y rest) [
      | inl w ↦ let more = w.1 in let whole : a ∷ xs ≡ f ∷ (fs ++ y ∷ w.0) = cc in inl (w.0, whole)
      | inr w ↦ let front = w.0 in let whole : a ∷ xs ≡ f ∷ fs = cc in inr (whole, w.1)
    ]
