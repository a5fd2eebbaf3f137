-- The test that words are the names of instances, each once, and the last of some names.
use Rattle.std.proofs.Common.{◌≡◌, ℕ, zero, suc, ◌+◌, ◌-◌, Bool, true, ◌&&◌, ◌||◌, List, [], ◌∷◌, length, Bor, Some, refl, sym, ap, ◌∙◌, inl, arith}
use Rattle.std.specs.List.{list_all, slice_get}
use Rattle.std.specs.Str.{bytes_eq}
use Rattle.std.proofs.lemmas.Bool.{and_parts, and_from}
use Rattle.base_types.proofs.TruthValues.{same_truth, or_true}
use Rattle.rewire_command.specs.Faults.{has, last_from, last_name, AreInstances}
use Rattle.rewire_command.specs.Names.{now_of, have_all, are_distinct, are_instances}
use Rattle.rewire_command.proofs.Members.{has_in, in_has, all_in, distinct_apart, apart_distinct, apart_IsDistinct, IsDistinct_apart}

all_has : (names others : List (List ℕ)) (name : List ℕ) → have_all names others ≡ true → has others name ≡ true → has names name ≡ true
all_has names others name e h = all_in (has names) others name e (has_in name others h)

has_all : (names others : List (List ℕ)) → ((name : List ℕ) → has others name ≡ true → has names name ≡ true) → have_all names others ≡ true
has_all names [] f = refl
has_all names (o ∷ os) f =
    and_from (has names o) (list_all (has names) os) (f o (in_has o (o ∷ os) (inl refl)))
    (has_all names os (λ name h. f name (ap (λ (b : Bool). bytes_eq o name || b) h ∙ or_true (bytes_eq o name))))

-- the test says it
pub test_instances : (words names : List (List ℕ)) → are_instances words names ≡ true → AreInstances words names
test_instances words names e =
    let p = and_parts (are_distinct words) (have_all names words && have_all words names) e in
    let q = and_parts (have_all names words) (have_all words names) p.1 in
    record {
      once = apart_IsDistinct words (distinct_apart words p.0);
      same = λ name. same_truth (has words name) (has names name) (all_has names words name q.0) (all_has words names name q.1);
    }

pub instances_test : (words names : List (List ℕ)) → AreInstances words names → are_instances words names ≡ true
instances_test words names are =
    and_from (are_distinct words) (have_all names words && have_all words names) (apart_distinct words (IsDistinct_apart words are.once))
    (and_from (have_all names words) (have_all words names) (has_all names words (λ name h. sym (are.same name) ∙ h)) (has_all words names (λ name h. are.same name ∙ h)))

last_get : (xs : List (Bor (List ℕ))) (x : Bor (List ℕ)) (k : ℕ) (before : List ℕ) → k + 1 ≡ length xs → slice_get xs k ≡ Some x → last_from before (now_of xs) ≡ x.now
last_get [] x k before len e = absurd (omega (arith, len))
last_get (y ∷ []) x zero before len e = let same : y ≡ x = cc in ap (λ (z : Bor (List ℕ)). z.now) same
last_get (y ∷ []) x (suc k) before len e = absurd (omega (arith, len))
last_get (y ∷ z ∷ zs) x zero before len e = absurd (omega (arith, len))
last_get (y ∷ z ∷ zs) x (suc k) before len e = last_get (z ∷ zs) x k y.now (omega (arith, len)) e

last_more : (y : Bor (List ℕ)) (ys : List (Bor (List ℕ))) (x : Bor (List ℕ)) → slice_get (y ∷ ys) (length (y ∷ ys) - 1) ≡ Some x → last_name (now_of (y ∷ ys)) ≡ x.now
last_more y ys x e = last_get (y ∷ ys) x (length (y ∷ ys) - 1) [] (omega arith) e

-- the last name
pub last_named : (xs : List (Bor (List ℕ))) (x : Bor (List ℕ)) → slice_get xs (length xs - 1) ≡ Some x → x.now ≡ last_name (now_of xs)
last_named [] x e = absurd cc
last_named (y ∷ ys) x e = sym (last_more y ys x e)
