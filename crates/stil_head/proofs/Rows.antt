-- Names that stand a second time, as they are gathered: known names as a test.
use Rattle.std.proofs.Common.{◌≡◌, ℕ, ◌+◌, ◌<◌, ◌≤◌, Bool, true, false, ◌||◌, ◌&&◌, filter, List, [], ◌∷◌, ◌++◌, length, drop, get_or, Option, refl, sym, ap, ◌∙◌, Bor, map, cond, not}
use Rattle.std.specs.List.{flat_map, list_any}
use Rattle.std.proofs.lemmas.List.{drop_more, drop_all}
use Rattle.std.specs.Str.{bytes_eq}
use Rattle.std.proofs.lemmas.List.Folds.{list_any-append}
use Rattle.base_types.proofs.TruthValues.{or_false, or_implied, or_assoc, bytes_are}
use Rattle.indexmap.specs.IndexSet.{insert_key}
use Rattle.list_laws.specs.Leasts.{place_if, lesser, least_of, found_if}
use Rattle.stil_head.specs.Twice.{Row, again_in}
use Rattle.stil_blocks.specs.declared.callee.ReadCallee.{ReadCallee}
use Rattle.stil_head.specs.Unsupported.{is_name_of, scan_names}
use Rattle.list_laws.proofs.Leasts.{lesser_none, then_if}

-- the places of names that pass a test or stand further in front
abbrev pub again_by : (List ℕ → Bool) → List Row → List ℕ
again_by known [] = []
again_by known (row ∷ rows) = place_if (known row.0) row.1 ++ again_by (λ q. known q || bytes_eq q row.0) rows

pub again_same : (f g : List ℕ → Bool) → ((q : List ℕ) → f q ≡ g q) → (rows : List Row) → again_by f rows ≡ again_by g rows
again_same f g same [] = refl
again_same f g same (row ∷ rows) =
    ap (λ (b : Bool). place_if b row.1 ++ again_by (λ q. f q || bytes_eq q row.0) rows) (same row.0)
    ∙ ap (λ (l : List ℕ). place_if (g row.0) row.1 ++ l) (again_same (λ q. f q || bytes_eq q row.0) (λ q. g q || bytes_eq q row.0) (λ q. ap (λ (b : Bool). b || bytes_eq q row.0) (same q)) rows)

pub one_name : (q name : List ℕ) (before : List (List ℕ)) → list_any (bytes_eq q) (before ++ name ∷ []) ≡ (list_any (bytes_eq q) before || bytes_eq q name)
one_name q name before = list_any-append (bytes_eq q) before (name ∷ []) ∙ ap (λ (b : Bool). list_any (bytes_eq q) before || b) (or_false (bytes_eq q name))

again_among : (before : List (List ℕ)) (rows : List Row) → again_by (λ q. list_any (bytes_eq q) before) rows ≡ again_in before rows
again_among before [] = refl
again_among before (row ∷ rows) =
    ap (λ (l : List ℕ). place_if (list_any (bytes_eq row.0) before) row.1 ++ l)
    (again_same (λ q. list_any (bytes_eq q) before || bytes_eq q row.0) (λ q. list_any (bytes_eq q) (before ++ row.0 ∷ [])) (λ q. sym (one_name q row.0 before)) rows ∙ again_among (before ++ row.0 ∷ []) rows)

-- with no name known
pub again_none : (rows : List Row) → again_by (λ q. false) rows ≡ again_in [] rows
again_none rows = again_among [] rows

-- a row more
pub next_row : (old new : List ℕ → Bool) (least now o : Option ℕ) (b : Bool) (name : List ℕ) (place : ℕ) (rows : List Row) → ((q : List ℕ) → new q ≡ (old q || bytes_eq q name)) → b ≡ old name → o ≡ found_if b place → now ≡ lesser least o
    → lesser now (least_of (again_by new rows)) ≡ lesser least (least_of (again_by old ((name, place) ∷ rows)))
next_row old new least now o b name place rows more known is put =
    ap (λ (l : List ℕ). lesser now (least_of l)) (again_same new (λ q. old q || bytes_eq q name) more rows)
    ∙ then_if least now o (old name) place (again_by (λ q. old q || bytes_eq q name) rows) (is ∙ ap (λ (k : Bool). found_if k place) known) put

-- the first rows with no name known
pub first_rows : (known : List ℕ → Bool) → ((q : List ℕ) → known q ≡ false) → (rows : List Row) → again_by known rows ≡ again_by (λ q. false) rows
first_rows known none rows = again_same known (λ q. false) none rows

-- the keys of a set, as a test
abbrev pub key_test : List (Bor (List ℕ)) → List ℕ → Bool
key_test ks q = list_any (λ (k : Bor (List ℕ)). bytes_eq q k.now) ks

key_among : (q : List ℕ) (ks : List (Bor (List ℕ))) (k : Bor (List ℕ)) → key_test (ks ++ k ∷ []) q ≡ (key_test ks q || bytes_eq q k.now)
key_among q ks k = list_any-append (λ (x : Bor (List ℕ)). bytes_eq q x.now) ks (k ∷ []) ∙ ap (λ (b : Bool). key_test ks q || b) (or_false (bytes_eq q k.now))

key_known : (q : List ℕ) (ks : List (Bor (List ℕ))) (k : Bor (List ℕ)) → key_test ks k.now ≡ true → bytes_eq q k.now ≡ true → key_test ks q ≡ true
key_known q ks k known e = let same = bytes_are q k.now e in rw same known

inserted : (q : List ℕ) (ks : List (Bor (List ℕ))) (k : Bor (List ℕ)) (b : Bool) → key_test ks k.now ≡ b → key_test (cond b ks (ks ++ k ∷ [])) q ≡ (key_test ks q || bytes_eq q k.now)
inserted q ks k true known = or_implied (key_test ks q) (bytes_eq q k.now) (key_known q ks k known)
inserted q ks k false known = key_among q ks k

-- a key more
pub key_more : (q : List ℕ) (ks : List (Bor (List ℕ))) (k : Bor (List ℕ)) → key_test (insert_key (λ x y. bytes_eq x.now y.now) ks k) q ≡ (key_test ks q || bytes_eq q k.now)
key_more q ks k = inserted q ks k (key_test ks k.now) refl

-- the names of a set, as they are seen
abbrev pub names_view : List (Bor (List ℕ)) → List (List ℕ)
names_view ks = map (λ k. k.now) ks

pub view_test : (q : List ℕ) (ks : List (Bor (List ℕ))) → key_test ks q ≡ is_name_of (names_view ks) q
view_test q [] = refl
view_test q (k ∷ ks) = ap (λ (b : Bool). bytes_eq q k.now || b) (view_test q ks)

pub view_more : (q : List ℕ) (ks : List (Bor (List ℕ))) (k : Bor (List ℕ)) → is_name_of (names_view (insert_key (λ x y. bytes_eq x.now y.now) ks k)) q ≡ (is_name_of (names_view ks) q || bytes_eq q k.now)
view_more q ks k = sym (view_test q (insert_key (λ x y. bytes_eq x.now y.now) ks k)) ∙ key_more q ks k ∙ ap (λ (b : Bool). b || bytes_eq q k.now) (view_test q ks)

-- no name yet
pub first_names : (names : List (List ℕ)) → names ≡ [] → (rows : List Row) → again_by (is_name_of names) rows ≡ again_by (λ q. false) rows
first_names names none rows = first_rows (is_name_of names) (λ q. ap (λ (ns : List (List ℕ)). is_name_of ns q) none) rows

pub twice_not : (b : Bool) → not (not b) ≡ b
twice_not true = refl
twice_not false = refl

-- the values from a place on
pub cut_at : {X : Type 0} (xs : List X) (i : ℕ) (x : X) → i < length xs → x ≡ get_or xs i x → drop i xs ≡ x ∷ drop (i + 1) xs
cut_at {X} xs i x lt is = drop_more xs i x lt ∙ ap (λ (y : X). y ∷ drop (i + 1) xs) (sym is)

-- a value more, with its row
pub map_more : {X : Type 0} (row : X → Row) (xs : List X) (i : ℕ) (x : X) (old new : List ℕ → Bool) (least now o : Option ℕ) (b : Bool) (total : Option ℕ) → i < length xs → x ≡ get_or xs i x
    → ((q : List ℕ) → new q ≡ (old q || bytes_eq q (row x).0)) → b ≡ old (row x).0 → o ≡ found_if b (row x).1 → now ≡ lesser least o
    → lesser least (least_of (again_by old (map row (drop i xs)))) ≡ total → lesser now (least_of (again_by new (map row (drop (i + 1) xs)))) ≡ total
map_more {X} row xs i x old new least now o b total lt is more known found put e =
    next_row old new least now o b (row x).0 (row x).1 (map row (drop (i + 1) xs)) more known found put
    ∙ ap (λ (l : List X). lesser least (least_of (again_by old (map row l)))) (sym (cut_at xs i x lt is)) ∙ e

-- no value more
pub map_last : {X : Type 0} (row : X → Row) (xs : List X) (i : ℕ) (known : List ℕ → Bool) (least : Option ℕ) (rows : List Row) → length xs ≤ i
    → lesser least (least_of (again_by known (map row (drop i xs)))) ≡ least_of (again_by (λ q. false) rows) → least ≡ least_of (again_in [] rows)
map_last {X} row xs i known least rows all e =
    sym (lesser_none least) ∙ ap (λ (l : List X). lesser least (least_of (again_by known (map row l)))) (sym (drop_all i xs all)) ∙ e ∙ ap least_of (again_none rows)

-- the same with two rows of each value
pub both_more : {X : Type 0} (rows : X → List Row) (xs : List X) (i : ℕ) (x : X) (first second : Row) (old mid new : List ℕ → Bool) (least half now o p : Option ℕ) (b d : Bool) (total : Option ℕ) → i < length xs → x ≡ get_or xs i x → rows x ≡ first ∷ second ∷ []
    → ((q : List ℕ) → mid q ≡ (old q || bytes_eq q first.0)) → b ≡ old first.0 → o ≡ found_if b first.1 → half ≡ lesser least o
    → ((q : List ℕ) → new q ≡ (mid q || bytes_eq q second.0)) → d ≡ mid second.0 → p ≡ found_if d second.1 → now ≡ lesser half p
    → lesser least (least_of (again_by old (flat_map rows (drop i xs)))) ≡ total → lesser now (least_of (again_by new (flat_map rows (drop (i + 1) xs)))) ≡ total
both_more {X} rows xs i x first second old mid new least half now o p b d total lt is two m1 k1 f1 p1 m2 k2 f2 p2 e =
    next_row mid new half now p d second.0 second.1 (flat_map rows (drop (i + 1) xs)) m2 k2 f2 p2
    ∙ next_row old mid least half o b first.0 first.1 (second ∷ flat_map rows (drop (i + 1) xs)) m1 k1 f1 p1
    ∙ ap (λ (l : List Row). lesser least (least_of (again_by old (l ++ flat_map rows (drop (i + 1) xs))))) (sym two)
    ∙ ap (λ (l : List X). lesser least (least_of (again_by old (flat_map rows l)))) (sym (cut_at xs i x lt is)) ∙ e

pub both_last : {X : Type 0} (row : X → List Row) (xs : List X) (i : ℕ) (known : List ℕ → Bool) (least : Option ℕ) (rows : List Row) → length xs ≤ i
    → lesser least (least_of (again_by known (flat_map row (drop i xs)))) ≡ least_of (again_by (λ q. false) rows) → least ≡ least_of (again_in [] rows)
both_last {X} row xs i known least rows all e =
    sym (lesser_none least) ∙ ap (λ (l : List X). lesser least (least_of (again_by known (flat_map row l)))) (sym (drop_all i xs all)) ∙ e ∙ ap least_of (again_none rows)

-- one more that scans
scan_by : (q : List ℕ) (c : ReadCallee) (cs : List ReadCallee) (b : Bool) → is_name_of (map {B = List ℕ} (λ r. r.callee.name) (cond b (c ∷ filter (λ r. r.callee.scan) cs) (filter (λ r. r.callee.scan) cs))) q
    ≡ ((b && bytes_eq q c.callee.name) || is_name_of (scan_names cs) q)
scan_by q c cs true = refl
scan_by q c cs false = refl

pub scan_more : (q : List ℕ) (cs : List ReadCallee) (i : ℕ) (c : ReadCallee) (old new total : Bool) → i < length cs → c ≡ get_or cs i c → new ≡ (old || (c.callee.scan && bytes_eq q c.callee.name))
    → (old || is_name_of (scan_names (drop i cs)) q) ≡ total → (new || is_name_of (scan_names (drop (i + 1) cs)) q) ≡ total
scan_more q cs i c old new total lt is more e =
    ap (λ (b : Bool). b || is_name_of (scan_names (drop (i + 1) cs)) q) more
    ∙ or_assoc old (c.callee.scan && bytes_eq q c.callee.name) (is_name_of (scan_names (drop (i + 1) cs)) q)
    ∙ ap (λ (b : Bool). old || b) (sym (scan_by q c (drop (i + 1) cs) c.callee.scan))
    ∙ ap (λ (l : List ReadCallee). old || is_name_of (scan_names l) q) (sym (cut_at cs i c lt is)) ∙ e

pub scan_last : (q : List ℕ) (cs : List ReadCallee) (i : ℕ) (old total : Bool) → length cs ≤ i → (old || is_name_of (scan_names (drop i cs)) q) ≡ total → old ≡ total
scan_last q cs i old total all e = sym (or_false old) ∙ ap (λ (l : List ReadCallee). old || is_name_of (scan_names l) q) (sym (drop_all i cs all)) ∙ e
