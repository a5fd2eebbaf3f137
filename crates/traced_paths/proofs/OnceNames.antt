-- Names of which each stands once, and the chain that asks for the 257th path.
use Rattle.std.proofs.Common.{◌≡◌, ℕ, zero, suc, ◌<◌, ◌≤◌, ◌⊎◌, inl, inr, Bool, true, false, cond, List, [], ◌∷◌, ◌++◌, length, get_or, Contains, refl, sym, ap, ◌∙◌, subst, append_assoc, arith}
use Rattle.std.specs.List.{list_any, filter_map}
use Rattle.std.specs.Str.{bytes_eq}
use Rattle.std.proofs.Math.Seq.{get_or-append_seam}
use Rattle.std.proofs.lemmas.List.{get_or_default}
use Rattle.std.proofs.lemmas.List.Elements.{filter_map-append}
use Rattle.std.proofs.lemmas.Slice.Eq.{bytes_eq-Decides}
use Rattle.base_types.proofs.TruthValues.{or_second, or_first}
use Rattle.netlist_core.specs.Netlists.{AreDistinct}
use Rattle.traced_paths.specs.Asked.{Asked, once_behind, outputs_of}
use Rattle.traced_paths.specs.Traced.{AsksTooMany}

abbrev any : List ℕ → List (List ℕ) → Bool
any name xs = list_any (bytes_eq name) xs

-- a list with one member more at its head
distinct_cons : {X : Type 0} (x : X) (xs : List X) → AreDistinct xs → (Contains xs x → ⊥) → AreDistinct (x ∷ xs)
distinct_cons x xs apart new zero zero d li lj e = refl
distinct_cons x xs apart new zero (suc j) d li lj e = let lt : j < length xs = omega arith in absurd (new (j, lt, get_or_default xs j x d lt ∙ sym e))
distinct_cons x xs apart new (suc i) zero d li lj e = let lt : i < length xs = omega arith in absurd (new (i, lt, get_or_default xs i x d lt ∙ e))
distinct_cons x xs apart new (suc i) (suc j) d li lj e = ap suc (apart i j d (omega arith) (omega arith) e)

out_case : (before ns : List (List ℕ)) (n x : List ℕ) (t : Bool) → any n before ≡ t → (Contains (once_behind before ns) x → any x before ≡ false) → (Contains (once_behind (n ∷ before) ns) x → any x (n ∷ before) ≡ false)
    → Contains (cond t (once_behind before ns) (n ∷ once_behind (n ∷ before) ns)) x → any x before ≡ false
out_case before ns n x true is f g h = f h
out_case before ns n x false is f g (zero, lt, e) = ap (λ (l : List ℕ). any l before) (sym e) ∙ is
out_case before ns n x false is f g (suc k, lt, e) = or_second (bytes_eq x n) (any x before) (g (k, omega arith, e))

-- what stood before isn't among them
out : (before names : List (List ℕ)) (x : List ℕ) → Contains (once_behind before names) x → any x before ≡ false
unfolding once_behind
out before [] x h = absurd (let lt = h.1 in omega arith)
out before (n ∷ ns) x h = out_case before ns n x (any n before) refl (out before ns x) (out (n ∷ before) ns x) h

distinct_case : (a b : List (List ℕ)) (n : List ℕ) (t : Bool) → AreDistinct a → AreDistinct b → (Contains b n → ⊥) → AreDistinct (cond t a (n ∷ b))
distinct_case a b n true ha hb new = ha
distinct_case a b n false ha hb new = distinct_cons n b hb new

pub once_distinct : (before names : List (List ℕ)) → AreDistinct (once_behind before names)
unfolding once_behind
once_distinct before [] = λ i j d li lj e. absurd (omega arith)
once_distinct before (n ∷ ns) =
    distinct_case (once_behind before ns) (once_behind (n ∷ before) ns) n (any n before) (once_distinct before ns) (once_distinct (n ∷ before) ns)
    (λ h. let no = or_first (bytes_eq n n) (any n before) (out (n ∷ before) ns n h) in let yes = (bytes_eq-Decides n n).1 refl in absurd cc)

longer_case : (a b c d : List (List ℕ)) (n : List ℕ) (t : Bool) → length a ≤ length c → length b ≤ length d → length (cond t a (n ∷ b)) ≤ length (cond t c (n ∷ d))
longer_case a b c d n true p q = p
longer_case a b c d n false p q = omega arith

longer : (before xs ys : List (List ℕ)) → length (once_behind before xs) ≤ length (once_behind before (xs ++ ys))
unfolding once_behind
longer before [] ys = omega arith
longer before (x ∷ xs) ys =
    longer_case (once_behind before xs) (once_behind (x ∷ before) xs) (once_behind before (xs ++ ys)) (once_behind (x ∷ before) (xs ++ ys)) x (any x before)
    (longer before xs ys) (longer (x ∷ before) xs ys)

-- more that is asked for doesn't make the outputs fewer
pub outputs_longer : (xs ys : List Asked) → length (outputs_of xs) ≤ length (outputs_of (xs ++ ys))
outputs_longer xs ys =
    subst (λ (l : List (List ℕ)). length (outputs_of xs) ≤ length (once_behind [] l)) (sym (filter_map-append (λ (a : Asked). a.output) xs ys))
    (longer [] (filter_map (λ (a : Asked). a.output) xs) (filter_map (λ (a : Asked). a.output) ys))

-- the front of a list with one member more begins the longer front of the same list
front_begins : {X : Type 0} (xs ys bs cs : List X) (x y : X) → xs ++ x ∷ bs ≡ ys ++ y ∷ cs → length xs < length ys → (rest : List X) × (ys ≡ (xs ++ x ∷ []) ++ rest)
front_begins [] [] bs cs x y e lt = absurd (omega arith)
front_begins [] (z ∷ ys) bs cs x y e lt = let same : x ≡ z = cc in (ys, ap (λ w. w ∷ ys) (sym same))
front_begins (w ∷ xs) [] bs cs x y e lt = absurd (omega arith)
front_begins {X} (w ∷ xs) (z ∷ ys) bs cs x y e lt =
    let same : w ≡ z = cc in
    let rest : xs ++ x ∷ bs ≡ ys ++ y ∷ cs = cc in
    let r = front_begins xs ys bs cs x y rest (omega arith) in
    (r.0, ap (λ (l : List X). z ∷ l) r.1 ∙ ap (λ (v : X). v ∷ ((xs ++ x ∷ []) ++ r.0)) (sym same))

same_place : {X : Type 0} (xs ys bs cs : List X) (x y : X) → xs ++ x ∷ bs ≡ ys ++ y ∷ cs → length xs ≡ length ys → x ≡ y
same_place {X} xs ys bs cs x y e len =
    sym (get_or-append_seam xs x bs x) ∙ ap (λ (l : List X). get_or l (length xs) x) e ∙ ap (λ (k : ℕ). get_or (ys ++ y ∷ cs) k x) len ∙ get_or-append_seam ys y cs x

not_before : (asked : List Asked) (l m : ℕ) (h : AsksTooMany asked l) (k : AsksTooMany asked m) → length h.front < length k.front → ⊥
not_before asked l m h k lt =
    let r = front_begins h.front k.front h.behind k.behind h.one k.one (sym h.is ∙ k.is) lt in
    let le = outputs_longer (h.front ++ h.one ∷ []) r.0 in
    let same = ap (λ (l : List Asked). length (outputs_of l)) r.1 in
    let full = k.full in
    let more = h.more in
    omega arith

pub three_ways : (a b : ℕ) → (a < b) ⊎ ((a ≡ b) ⊎ (b < a))
three_ways zero zero = inr (inl refl)
three_ways zero (suc b) = inl (omega arith)
three_ways (suc a) zero = inr (inr (omega arith))
three_ways (suc a) (suc b) = elim (three_ways a b) [ inl lt ↦ inl (omega arith) | inr (inl e) ↦ inr (inl (ap suc e)) | inr (inr gt) ↦ inr (inr (omega arith)) ]

-- the 257th path is asked for on one line
pub one_count : (asked : List Asked) (l m : ℕ) → AsksTooMany asked l → AsksTooMany asked m → l ≡ m
one_count asked l m h k =
    elim (three_ways (length h.front) (length k.front)) [
      | inl lt ↦ absurd (not_before asked l m h k lt)
      | inr (inl len) ↦ h.line_is ∙ ap (λ (a : Asked). a.line) (same_place h.front k.front h.behind k.behind h.one k.one (sym h.is ∙ k.is) len) ∙ sym k.line_is
      | inr (inr gt) ↦ absurd (not_before asked m l k h gt)
    ]

-- so few outputs have no 257th
pub not_many : (asked : List Asked) (line : ℕ) → length (outputs_of asked) ≤ 256 → AsksTooMany asked line → ⊥
not_many asked line few h =
    let le = outputs_longer (h.front ++ h.one ∷ []) h.behind in
    let same = ap (λ (l : List Asked). length (outputs_of l)) (h.is ∙ sym (append_assoc h.front (h.one ∷ []) h.behind)) in
    let more = h.more in
    omega arith
