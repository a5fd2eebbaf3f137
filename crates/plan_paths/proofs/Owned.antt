-- The rows that say in which chain each place lies, as the chains are gone through.
use Rattle.std.proofs.Common.{◌≡◌, ◌≢◌, ℕ, suc, ◌+◌, ◌<◌, ◌≤◌, ◌&&◌, ◌==◌, Bool, true, false, cond, List, [], ◌∷◌, ◌++◌, length, get_or, Option, Some, None, inl, inr, refl, sym, ap, ap₂, ◌∙◌, arith}
use Rattle.std.specs.Prelude.{nat_le, nat_lt, Vec, slice_set}
use Rattle.std.specs.List.{position_from, slice_get}
use Rattle.std.proofs.lemmas.Bool.{cases_Bool, eqb-true, eq-eqb, ne_eqb, leb-true, leb-false, le-leb, lt-leb, false≢true}
use Rattle.std.proofs.lemmas.Option.{get_or_from_slice_get, slice_get_within, slice_get-get_or}
use Rattle.std.proofs.lemmas.List.{length-set, get_or-set_same, get_or-set_other, get_or_push, length_push, get_or_append_left}
use Rattle.std.proofs.lemmas.List.FromFn.{length-map-range_with_len, get_or-map-range_with_len, map-range_with_len_more}
use Rattle.chain_trace.specs.declared.path.Path.{Path}
use Rattle.chain_rules.specs.declared.unit.ChainRule.{ChainRule}
use Rattle.plan_paths.specs.NewPaths.{lies_in, path_in}
use Rattle.plan_paths.specs.Owners.{claimed, marked, owners, AreOwners, AreUnmarked, IsRowMarked}

-- one more chain
pub position_more : {X : Type 0} (test : X → Bool) (k : ℕ) (xs : List X) (x : X)
    → position_from test k (xs ++ x ∷ []) ≡ cond (test x) (claimed (k + length xs) (position_from test k xs)) (position_from test k xs)
position_more test k [] x = let e : k ≡ k + 0 = omega arith in more (test x) k (k + 0) e where
  more : (b : Bool) (k l : ℕ) → k ≡ l → cond b (Some k) None ≡ cond b (Some l) None
  more b k l e = ap (λ (j : ℕ). cond b (Some j) None) e
position_more test k (y ∷ ys) x =
    let e : k + 1 + length ys ≡ k + suc (length ys) = omega arith in
    ap (cond (test y) (Some k)) (position_more test (k + 1) ys x ∙ ap (λ (j : ℕ). cond (test x) (claimed j (position_from test (k + 1) ys)) (position_from test (k + 1) ys)) e)
    ∙ both (test y) (test x) k (k + suc (length ys)) (position_from test (k + 1) ys)
  where
    both : (a b : Bool) (k l : ℕ) (o : Option ℕ) → cond a (Some k) (cond b (claimed l o) o) ≡ cond b (claimed l (cond a (Some k) o)) (cond a (Some k) o)
    both true true k l o = refl
    both true false k l o = refl
    both false true k l o = refl
    both false false k l o = refl

same_list : {X : Type 0} (d : X) (xs ys : List X) → length xs ≡ length ys → ((k : ℕ) → k < length xs → get_or xs k d ≡ get_or ys k d) → xs ≡ ys
same_list d [] [] len same = refl
same_list d [] (y ∷ ys) len same = absurd (omega (arith, len))
same_list d (x ∷ xs) [] len same = absurd (omega (arith, len))
same_list {X} d (x ∷ xs) (y ∷ ys) len same =
    ap₂ (λ (a : X) (rest : List X). a ∷ rest) (same 0 (omega arith)) (same_list d xs ys (omega (arith, len)) (λ k lt. same (suc k) (omega (arith, lt))))

pub length_owners : (rules : List ChainRule) (path count : ℕ) → length (owners rules path count) ≡ count
length_owners rules path count = length-map-range_with_len (λ place. position_from (lies_in path place) 0 rules) 0 count

owner_at : (rules : List ChainRule) (path count k : ℕ) → k < count → get_or (owners rules path count) k None ≡ position_from (lies_in path k) 0 rules
owner_at rules path count k lt =
    let e : 0 + k ≡ k = omega arith in
    get_or-map-range_with_len (λ place. position_from (lies_in path place) 0 rules) 0 count k k None lt e

owner_more : (rules : List ChainRule) (rule : ChainRule) (path count k : ℕ) → k < count
    → get_or (owners (rules ++ rule ∷ []) path count) k None ≡ cond (lies_in path k rule) (claimed (length rules) (get_or (owners rules path count) k None)) (get_or (owners rules path count) k None)
owner_more rules rule path count k lt =
    let e : 0 + length rules ≡ length rules = omega arith in
    owner_at (rules ++ rule ∷ []) path count k lt
    ∙ position_more (lies_in path k) 0 rules rule
    ∙ ap₂ (λ (j : ℕ) (o : Option ℕ). cond (lies_in path k rule) (claimed j o) o) e (sym (owner_at rules path count k lt))

le_lt : (k last : ℕ) → nat_lt k (last + 1) ≡ nat_le k last
le_lt k last = elim (cases_Bool (nat_le k last)) [
  | inl e ↦ let le = leb-true k last e in le-leb (suc k) (last + 1) (omega (arith, le)) ∙ sym e
  | inr e ↦ let gt = leb-false k last e in lt-leb (suc k) (last + 1) (omega (arith, gt)) ∙ sym e
]

-- on the chain's path
row_here : (rules : List ChainRule) (rule : ChainRule) (path count : ℕ) (before after : List (Option ℕ)) → rule.path ≡ path → before ≡ owners rules path count
    → IsRowMarked (length rules) rule.first (rule.last + 1) before after → after ≡ owners (rules ++ rule ∷ []) path count
row_here rules rule path count before after at is m =
    let len : length before ≡ count = ap length is ∙ length_owners rules path count in
    let all : length after ≡ count = m.count ∙ len in
    same_list None after (owners (rules ++ rule ∷ []) path count) (all ∙ sym (length_owners (rules ++ rule ∷ []) path count)) (λ k lt.
    let o = get_or before k None in
    let inside : ◌≡◌ {A = Bool} (nat_le rule.first k && nat_lt k (rule.last + 1)) (lies_in path k rule) =
    ap (λ (b : Bool). nat_le rule.first k && b) (le_lt k rule.last) ∙ ap (λ (b : Bool). b && (nat_le rule.first k && nat_le k rule.last)) (sym (eq-eqb rule.path path at)) in
    m.each k (omega (arith, lt, all, len))
    ∙ ap (λ (b : Bool). cond b (claimed (length rules) o) o) inside
    ∙ ap (λ (xs : List (Option ℕ)). cond (lies_in path k rule) (claimed (length rules) (get_or xs k None)) (get_or xs k None)) is
    ∙ sym (owner_more rules rule path count k (omega (arith, lt, all))))

-- on another path
row_there : (rules : List ChainRule) (rule : ChainRule) (path count : ℕ) → rule.path ≢ path → owners rules path count ≡ owners (rules ++ rule ∷ []) path count
row_there rules rule path count ne =
    let len = length_owners rules path count in
    same_list None (owners rules path count) (owners (rules ++ rule ∷ []) path count) (len ∙ sym (length_owners (rules ++ rule ∷ []) path count)) (λ k lt.
    let o = get_or (owners rules path count) k None in
    ap (λ (b : Bool). cond (b && (nat_le rule.first k && nat_le k rule.last)) (claimed (length rules) o) o) (sym (ne_eqb rule.path path ne))
    ∙ sym (owner_more rules rule path count k (omega (arith, lt, len))))

abbrev Row : Type 0 → Type 0
Row A = Vec (Option ℕ) A

module _ {A : Type 0} (paths : List Path) (rules : List ChainRule) (rule : ChainRule) where
  -- a chain is marked on its path
  pub owners_set : (rows : List (Row A)) (old new : Row A) → AreOwners paths rules rows → rule.path < length rows → old ≡ get_or rows rule.path old
      → IsRowMarked (length rules) rule.first (rule.last + 1) old.items new.items → AreOwners paths (rules ++ rule ∷ []) (slice_set rows rule.path new)
  owners_set rows old new are lt is m =
      record {
        count = length-set rows rule.path new ∙ are.count;
        each = λ k row get. set_case k row get (rule.path == k) refl;
      }
    where
      set_case : (k : ℕ) (row : Row A) → slice_get (slice_set rows rule.path new) k ≡ Some row → (b : Bool) → (rule.path == k) ≡ b → row.items ≡ owners (rules ++ rule ∷ []) k (length (path_in paths k).steps)
      set_case k row get true e =
          let at = eqb-true rule.path k e in
          let here : row ≡ new = sym (get_or_from_slice_get (slice_set rows rule.path new) k row new get) ∙ ap (λ (j : ℕ). get_or (slice_set rows rule.path new) j new) (sym at) ∙ get_or-set_same rows rule.path new new lt in
          let was : slice_get rows k ≡ Some old = ap (slice_get rows) (sym at) ∙ slice_get-get_or rows rule.path old lt ∙ ap (λ (r : Row A). Some r) (sym is) in
          ap (λ (r : Row A). r.items) here ∙ row_here rules rule k (length (path_in paths k).steps) old.items new.items at (are.each k old was) m
      set_case k row get false e =
          let ne : rule.path ≢ k = λ s. false≢true (sym e ∙ eq-eqb rule.path k s) in
          let within = slice_get_within (slice_set rows rule.path new) k row get in
          let len = length-set rows rule.path new in
          let same : get_or rows k row ≡ row = sym (get_or-set_other rows rule.path k new row (λ s. ne (sym s))) ∙ get_or_from_slice_get (slice_set rows rule.path new) k row row get in
          let was : slice_get rows k ≡ Some row = slice_get-get_or rows k row (omega (arith, within, len)) ∙ ap (λ (r : Row A). Some r) same in
          are.each k row was ∙ row_there rules rule k (length (path_in paths k).steps) ne

  -- a chain on a path that isn't there
  pub owners_kept : (rows : List (Row A)) → AreOwners paths rules rows → length rows ≤ rule.path → AreOwners paths (rules ++ rule ∷ []) rows
  owners_kept rows are le = record {
    count = are.count;
    each = λ k row get.
        let within = slice_get_within rows k row get in
        are.each k row get ∙ row_there rules rule k (length (path_in paths k).steps) (λ s. omega (arith, s, le, within));
  }

-- the row of one more path
pub unmarked_more : {A : Type 0} (paths : List Path) (some : ℕ) (rows : List (Vec (Option ℕ) A)) (row : Vec (Option ℕ) A)
    → AreUnmarked paths some rows → row.items ≡ owners [] some (length (path_in paths some).steps) → AreUnmarked paths (some + 1) (rows ++ row ∷ [])
unmarked_more {A} paths some rows row are is = record {
  count = length_push rows row ∙ ap (λ (n : ℕ). n + 1) are.count;
  each = λ k other get. push_case k other get (nat_lt k some) refl;
}
  where
    push_case : (k : ℕ) (other : Vec (Option ℕ) A) → slice_get (rows ++ row ∷ []) k ≡ Some other → (b : Bool) → nat_lt k some ≡ b → other.items ≡ owners [] k (length (path_in paths k).steps)
    push_case k other get true e =
        let lt = leb-true (suc k) some e in
        let len = are.count in
        let same : get_or rows k other ≡ other = sym (get_or_append_left rows (row ∷ []) other k (omega (arith, lt, len))) ∙ get_or_from_slice_get (rows ++ row ∷ []) k other other get in
        are.each k other (slice_get-get_or rows k other (omega (arith, lt, len)) ∙ ap (λ (r : Vec (Option ℕ) A). Some r) same)
    push_case k other get false e =
        let ge = leb-false (suc k) some e in
        let len = are.count in
        let all = length_push rows row in
        let within = slice_get_within (rows ++ row ∷ []) k other get in
        let at : k ≡ some = omega (arith, ge, within, all, len) in
        let here : row ≡ other = sym (get_or_push rows row other k (omega (arith, len, at))) ∙ get_or_from_slice_get (rows ++ row ∷ []) k other other get in
        sym (ap (λ (r : Vec (Option ℕ) A). r.items) here) ∙ is ∙ ap (λ (j : ℕ). owners [] j (length (path_in paths j).steps)) (sym at)

-- a row with no place marked
pub row_more : (path some : ℕ) → owners [] path (some + 1) ≡ owners [] path some ++ None ∷ []
row_more path some = let e : 0 + some ≡ some = omega arith in map-range_with_len_more (λ place. position_from (lies_in path place) 0 []) 0 some some e

-- the row of a path, once all chains are gone through
pub row_of : {A : Type 0} (paths : List Path) (rules : List ChainRule) (rows : List (Vec (Option ℕ) A)) (k : ℕ) (row : Vec (Option ℕ) A)
    → AreOwners paths rules rows → k < length paths → row ≡ get_or rows k row → row.items ≡ owners rules k (length (path_in paths k).steps)
row_of {A} paths rules rows k row are lt is =
    let len = are.count in
    are.each k row (slice_get-get_or rows k row (omega (arith, lt, len)) ∙ ap (λ (r : Vec (Option ℕ) A). Some r) (sym is))
