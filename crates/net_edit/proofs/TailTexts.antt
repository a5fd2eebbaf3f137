-- Names that a tail could have.
use Rattle.std.proofs.Common.{◌≡◌, ℕ, suc, zero, ◌+◌, ◌<◌, ◌^◌, ◌%◌, ◌==◌, ◌&&◌, ◌||◌, Bool, true, false, cond, List, [], ◌∷◌, ◌++◌, length, take, get_or, refl, sym, ap, ap₂, ◌∙◌, arith}
use Rattle.std.specs.Prelude.{codes, decimal}
use Rattle.std.specs.Str.{bytes_eq}
use Rattle.std.specs.Cmp.Lexicographic.{pointwise}
use Rattle.std.proofs.lemmas.Bool.{false≢true, false_from_ne_true, ne_eqb, and_right, and_left}
use Rattle.std.proofs.lemmas.Bool.Decides.{Decides-eqb}
use Rattle.std.proofs.lemmas.Cmp.{nat_eq_equiv}
use Rattle.std.proofs.lemmas.Fmt.{decimal_by_steps}
use Rattle.std.proofs.lemmas.Slice.Eq.{starts_is, bytes_eq-Decides}
use Rattle.net_edit.specs.TailNames.{tail_name, is_bit_of_vector}
use Rattle.net_edit.specs.TakenNames.{HasNoBracket}

pub or_cond : (a b : Bool) → cond a true b ≡ (b || a)
or_cond true true = refl
or_cond true false = refl
or_cond false true = refl
or_cond false false = refl

pub or_false : (b c : Bool) → c ≡ false → b ≡ (b || c)
or_false true c e = refl
or_false false c e = sym e

-- a name that begins otherwise is no tail's
pub not_tail : (name : List ℕ) (r : Bool) → r ≡ false → r ≡ pointwise ◌==◌ (codes "scan_tail_") (take (length (codes "scan_tail_")) name) → (number : ℕ) → bytes_eq name (tail_name number) ≡ false
not_tail name r other is number =
    false_from_ne_true (bytes_eq name (tail_name number)) (λ (e : bytes_eq name (tail_name number) ≡ true). false≢true (sym other ∙ (starts_is Decides-eqb name (codes "scan_tail_") r is).1 (decimal number) ((bytes_eq-Decides name (tail_name number)).0 e)))

each_more : (xs : List ℕ) (x : ℕ) → HasNoBracket xs → (x == 91) ≡ false → HasNoBracket (xs ++ x ∷ [])
each_more [] x all e = (e, tt)
each_more (y ∷ ys) x all e = (all.0, each_more ys x all.1 e)

small_ne : (n : ℕ) → n < 10 → ((48 + n) == 91) ≡ false
small_ne n lt = ne_eqb (48 + n) 91 (λ e. omega (arith, e))

below_ten : (n : ℕ) → n % 10 < 10
below_ten n = omega arith

no_bracket_decimal : (n : ℕ) → n < 2 ^ 64 → HasNoBracket (decimal n)
no_bracket_decimal n lt = decimal_by_steps (λ (n : ℕ) (ds : List ℕ). HasNoBracket ds) (λ n lt. (small_ne n lt, tt)) (λ n ds le all. each_more ds (48 + n % 10) all (small_ne (n % 10) (below_ten n))) n lt

pub no_bracket : (number : ℕ) → number < 2 ^ 32 → HasNoBracket (tail_name number)
no_bracket number lt = (refl, (refl, (refl, (refl, (refl, (refl, (refl, (refl, (refl, (refl, no_bracket_decimal number (omega arith)))))))))))

-- before a bracket

turned : (a b : ℕ) → (a == b) ≡ (b == a)
turned a b = nat_eq_equiv.symm a b

abbrev is_front : List ℕ → List ℕ → Bool
is_front name text = pointwise ◌==◌ (name ++ 91 ∷ []) (take (length (name ++ 91 ∷ [])) text)

and_true : (b : Bool) → (b && true) ≡ b
and_true true = refl
and_true false = refl

-- what stands before the first bracket is the name, or the text doesn't begin with the name and a bracket
front_at : (text name : List ℕ) (end : ℕ) → end < length text → ((k : ℕ) → k < end → get_or text k 0 ≡ 91 → ⊥) → get_or text end 0 ≡ 91 → HasNoBracket name → bytes_eq (take end text) name ≡ is_front name text
front_at [] name end lt none at free = absurd (omega (arith, lt))
front_at (t ∷ ts) [] zero lt none at free = sym (and_true (91 == t) ∙ ap (λ (b : ℕ). 91 == b) at)
front_at (t ∷ ts) (a ∷ bs) zero lt none at free = sym (and_left (a == t) (is_front bs ts) (ap (λ (b : ℕ). a == b) at ∙ free.0))
front_at (t ∷ ts) [] (suc end) lt none at free = sym (and_left (91 == t) true (ne_eqb 91 t (λ e. none 0 (omega arith) (sym e))))
front_at (t ∷ ts) (a ∷ bs) (suc end) lt none at free =
    ap₂ (λ (b c : Bool). b && c) (turned t a) (front_at ts bs end (omega (arith, lt)) (λ k below. none (suc k) (omega (arith, below))) at free.1)

-- a text without a bracket begins with no name and a bracket
pub no_front : (text name : List ℕ) → ((k : ℕ) → k < length text → get_or text k 0 ≡ 91 → ⊥) → is_bit_of_vector name text ≡ false
no_front [] [] none = refl
no_front [] (a ∷ bs) none = refl
no_front (t ∷ ts) [] none = and_left (91 == t) true (ne_eqb 91 t (λ e. none 0 (omega arith) (sym e)))
no_front (t ∷ ts) (a ∷ bs) none = and_right (a == t) (is_front bs ts) (no_front ts bs (λ k below. none (suc k) (omega (arith, below))))

pub front_is : (text name : List ℕ) (end : ℕ) → end < length text → ((k : ℕ) → k < end → get_or text k 0 ≡ 91 → ⊥) → get_or text end 0 ≡ 91 → HasNoBracket name → bytes_eq (take end text) name ≡ is_bit_of_vector name text
front_is text name end lt none at free = front_at text name end lt none at free
