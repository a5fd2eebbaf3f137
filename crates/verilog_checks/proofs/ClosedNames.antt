-- Names that end as those of bits do: no other name is that of a bit.
use Rattle.std.proofs.Common.{◌≡◌, ℕ, ◌+◌, ◌-◌, ◌<◌, Bool, true, false, cond, ◌||◌, List, [], ◌∷◌, ◌++◌, length, map, get_or, take, drop, decimal, Option, Some, None, Bor, refl, sym, ap, ◌∙◌, append_assoc, length-append, arith}
use Rattle.std.specs.List.{list_any, filter}
use Rattle.std.specs.HashSet.{HashSet, hash_set_len}
use Rattle.std.specs.Str.{bytes_eq}
use Rattle.std.proofs.Math.Seq.{drop-append_seam}
use Rattle.std.proofs.lemmas.List.{map_more, map-append, append-nil}
use Rattle.std.proofs.lemmas.List.Elements.{filter-append}
use Rattle.std.proofs.lemmas.Slice.Eq.{bytes_eq-Decides}
use Rattle.std.proofs.lemmas.Bool.{false_from_ne_true}
use Rattle.verilog_syntax.specs.declared.statement.Declared.{Declared}
use Rattle.verilog_syntax.specs.declared.statement.Range.{Range}
use Rattle.verilog_syntax.specs.declared.statement.Statement.{Statement}
use Rattle.verilog_syntax.specs.declared.statement.Statement.TheVariants as statements
use Rattle.verilog_names.specs.declared.bounds.Bounds.{Bounds}
use Rattle.verilog_names.specs.Values.{unescaped, bit_name}
use Rattle.verilog_names.specs.Declarations.{Declaration, declaration_of, declarations_in, has, width, index_at, bounds_in, is_declared}
use Rattle.verilog_checks.specs.Checks.{has_bit_in, are_bits}
use Rattle.verilog_checks.specs.Seen.{is_bit, is_bracketed, AreNets}
use Rattle.verilog_checks.proofs.AnyLemmas.{any_same, any_map, any_none}
use Rattle.verilog_checks.proofs.NameLists.{added}
use Rattle.verilog_checks.proofs.BitNames.{bit_parts}
use Rattle.verilog_checks.proofs.BitLookups.{none_from, are_bits_is}

closed_end : (xs : List ℕ) → is_bracketed (xs ++ 93 ∷ []) ≡ true
closed_end xs =
    let n : length (xs ++ 93 ∷ []) - 1 ≡ length xs = omega (arith, length-append xs (93 ∷ [])) in
    ap (λ k. bytes_eq (93 ∷ []) (drop k (xs ++ 93 ∷ []))) n ∙ ap (bytes_eq (93 ∷ [])) (drop-append_seam xs (93 ∷ []))

bit_closed : (v : List ℕ) (i : ℕ) → is_bracketed (bit_name v i) ≡ true
bit_closed v i = ap is_bracketed (bit_parts v i) ∙ closed_end (v ++ 91 ∷ decimal i)

no_bit_of : (v : List ℕ) (o : Option Bounds) (name : List ℕ) → is_bracketed name ≡ false → has_bit_in v o name ≡ false
no_bit_of v None name other = refl
no_bit_of v (Some b) name other =
    none_from (λ j. bytes_eq (bit_name v j) name) b 0 (width b)
    (λ m lt. false_from_ne_true (bytes_eq (bit_name v (index_at b m)) name) (λ e. let wrong = sym other ∙ sym (ap is_bracketed ((bytes_eq-Decides (bit_name v (index_at b m)) name).0 e)) ∙ bit_closed v (index_at b m) in cc))

no_bit : (ds : List Declaration) (name : List ℕ) → is_bracketed name ≡ false → is_bit ds name ≡ false
no_bit ds name other = any_same (λ d. has_bit_in d.name (bounds_in ds d.name) name) (λ d. false) ds (λ d. no_bit_of d.name (bounds_in ds d.name) name other) ∙ any_none ds

-- a test that closed names alone pass
any_closed : (f : List ℕ → Bool) → ((name : List ℕ) → is_bracketed name ≡ false → f name ≡ false) → (names : List (List ℕ)) → list_any f (filter is_bracketed names) ≡ list_any f names
any_closed f none [] = refl
any_closed f none (name ∷ names) = by (is_bracketed name) refl (any_closed f none names)
  where
    by : (t : Bool) → is_bracketed name ≡ t → list_any f (filter is_bracketed names) ≡ list_any f names → list_any f (cond t (name ∷ filter is_bracketed names) (filter is_bracketed names)) ≡ (f name || list_any f names)
    by true is rest = ap (λ b. f name || b) rest
    by false is rest = rest ∙ sym (ap (λ b. b || list_any f names) (none name is))

closed_among : (names : List (List ℕ)) (q : List ℕ) → is_bracketed q ≡ true → has (filter is_bracketed names) q ≡ has names q
closed_among names q closed =
    any_closed (λ other. bytes_eq other q) (λ other unclosed. false_from_ne_true (bytes_eq other q) (λ e. let wrong = sym unclosed ∙ ap is_bracketed ((bytes_eq-Decides other q).0 e) ∙ closed in cc)) names

-- a closed name is among those that are declared
pub closed_is : (ds : List Declaration) (q : List ℕ) → is_bracketed q ≡ true → has (filter is_bracketed (map (λ d. d.name) ds)) q ≡ is_declared ds q
closed_is ds q closed = closed_among (map (λ d. d.name) ds) q closed ∙ any_map (λ other. bytes_eq other q) (λ (d : Declaration). d.name) ds

abbrev closed_of : List (List ℕ) → List (List ℕ)
closed_of written = filter is_bracketed (map unescaped written)

closed_more : (xs : List (List ℕ)) (i : ℕ) (d : List ℕ) → i < length xs → closed_of (take (i + 1) xs) ≡ closed_of (take i xs) ++ cond (is_bracketed (unescaped (get_or xs i d))) (unescaped (get_or xs i d) ∷ []) []
closed_more xs i d lt = ap (filter is_bracketed) (map_more unescaped xs i d lt) ∙ filter-append is_bracketed (map unescaped (take i xs)) (unescaped (get_or xs i d) ∷ [])

closed_step : (t : Bool) (before xs : List (List ℕ)) (i : ℕ) (d name : List ℕ) → i < length xs → name ≡ unescaped (get_or xs i d) → is_bracketed name ≡ t
    → (before ++ closed_of (take i xs)) ++ cond t (name ∷ []) [] ≡ before ++ closed_of (take (i + 1) xs)
closed_step t before xs i d name lt at is =
    let front = closed_of (take i xs) in
    append_assoc before front (cond t (name ∷ []) [])
    ∙ ap (λ l. before ++ l) (ap (λ b. front ++ cond b (name ∷ []) []) (sym is) ∙ ap (λ n. front ++ cond (is_bracketed n) (n ∷ []) []) at ∙ sym (closed_more xs i d lt))

-- a set to which a closed name was added, and one that another name left as it was
pub closed_added : (before xs : List (List ℕ)) (i : ℕ) (d name q : List ℕ) (new old : Bool) → i < length xs → name ≡ unescaped (get_or xs i d) → is_bracketed name ≡ true → new ≡ cond (bytes_eq name q) true old
    → old ≡ has (before ++ closed_of (take i xs)) q → new ≡ has (before ++ closed_of (take (i + 1) xs)) q
closed_added before xs i d name q new old lt at closed is was =
    added (before ++ closed_of (take i xs)) name q new old is was ∙ ap (λ l. has l q) (closed_step true before xs i d name lt at closed)

pub closed_left : (before xs : List (List ℕ)) (i : ℕ) (d name q : List ℕ) (old : Bool) → i < length xs → name ≡ unescaped (get_or xs i d) → is_bracketed name ≡ false
    → old ≡ has (before ++ closed_of (take i xs)) q → old ≡ has (before ++ closed_of (take (i + 1) xs)) q
closed_left before xs i d name q old lt at other was =
    was ∙ ap (λ l. has l q) (sym (append-nil (before ++ closed_of (take i xs))) ∙ closed_step false before xs i d name lt at other)

names_of : (kind : Declared) (range : Option Range) (names : List (List ℕ)) → map (λ (d : Declaration). d.name) (map (declaration_of kind range) names) ≡ map unescaped names
names_of kind range [] = refl
names_of kind range (name ∷ names) = ap (λ l. unescaped name ∷ l) (names_of kind range names)

-- the closed names that a list of names declares, behind others
pub closed_declared : (before : List Declaration) (s : Statement) (kind : Declared) (range : Option Range) (names listed : List (List ℕ)) → s ≡ statements.Declare kind range names → listed ≡ names
    → filter is_bracketed (map (λ d. d.name) before) ++ closed_of listed ≡ filter is_bracketed (map (λ d. d.name) (before ++ declarations_in s))
closed_declared before s kind range names listed is list =
    let name = λ (d : Declaration). d.name in
    let more = map (declaration_of kind range) names in
    ap (λ l. filter is_bracketed (map name before) ++ closed_of l) list
    ∙ ap (λ l. filter is_bracketed (map name before) ++ filter is_bracketed l) (sym (names_of kind range names))
    ∙ sym (filter-append is_bracketed (map name before) (map name more))
    ∙ ap (filter is_bracketed) (sym (map-append name before more))
    ∙ sym (ap (λ x. filter is_bracketed (map name (before ++ declarations_in x))) is)

pub closed_bits : (v : List ℕ) (o : Option Bounds) (names : List (List ℕ)) → list_any (has_bit_in v o) (filter is_bracketed names) ≡ list_any (has_bit_in v o) names
closed_bits v o names = any_closed (has_bit_in v o) (no_bit_of v o) names

pub closed_are_bits : (ds : List Declaration) (names : List (List ℕ)) → are_bits ds (filter is_bracketed names) ≡ are_bits ds names
closed_are_bits ds names = are_bits_is ds (filter is_bracketed names) ∙ any_closed (is_bit ds) (no_bit ds) names ∙ sym (are_bits_is ds names)

-- where a set is empty, no name passes a test
none_passes : (f : List ℕ → Bool) (names : List (List ℕ)) → ((q : List ℕ) → has names q ≡ false) → list_any f names ≡ false
none_passes f [] none = refl
none_passes f (name ∷ names) none =
    let there : has (name ∷ names) name ≡ true = ap (λ b. b || has names name) ((bytes_eq-Decides name name).1 refl) in
    let wrong = sym there ∙ none name in absurd cc

no_keys : {X : Type 0} (f : X → Bool) (keys : List X) → length keys ≡ 0 → list_any f keys ≡ false
no_keys f [] none = refl
no_keys f (key ∷ keys) none = absurd (omega arith)

pub no_closed_bits : {S : Type 0} (nets : HashSet (Bor (List ℕ)) S) (v : List ℕ) (o : Option Bounds) (all : List (List ℕ)) → hash_set_len nets ≡ 0 → AreNets nets all → list_any (has_bit_in v o) all ≡ false
no_closed_bits nets v o all empty are =
    sym (closed_bits v o all)
    ∙ none_passes (has_bit_in v o) (filter is_bracketed all)
    (λ q. let name : Bor (List ℕ) = record { ref_ptr = (0, 0); now = q } in sym (are name) ∙ no_keys (λ key. bytes_eq q key.now) nets.keys empty)
