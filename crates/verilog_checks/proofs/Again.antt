-- Declarations that stand again, as declarations are added one by one.
use Rattle.std.proofs.Common.{◌≡◌, ℕ, ◌+◌, ◌<◌, ◌≤◌, Bool, true, false, not, ◌||◌, List, [], ◌∷◌, ◌++◌, length, map, get_or, take, drop, Option, Some, None, option_map, Bor, refl, sym, ap, ◌∙◌, subst, append_assoc}
use Rattle.std.specs.HashSet.{HashSet}
use Rattle.std.specs.List.{list_any}
use Rattle.std.proofs.lemmas.List.{take_more, drop_more, drop_all, map-append, append-nil}
use Rattle.verilog_syntax.specs.declared.statement.Declared.{Declared}
use Rattle.verilog_syntax.specs.declared.statement.Range.{Range}
use Rattle.verilog_syntax.specs.declared.statement.Statement.{Statement}
use Rattle.verilog_syntax.specs.declared.statement.Statement.TheVariants as statements
use Rattle.verilog_names.specs.declared.bounds.Bounds.{Bounds}
use Rattle.verilog_names.specs.declared.declared.First.{First}
use Rattle.verilog_names.specs.Declarations.{Declaration, bounds_of, first_of, declarations_in}
use Rattle.verilog_checks.specs.Checks.{stands_again, any_again, has_bit_in, have_bits}
use Rattle.verilog_names.specs.NameTables.{first_in, kept_of, with_first, firsts_of}
use Rattle.verilog_checks.specs.Seen.{Keeps, AddsOne, Adds, AreKnown, IsClean, declared_as, may_stand_beside}
use Rattle.verilog_checks.proofs.AnyLemmas.{or_four}
use Rattle.verilog_checks.proofs.Clean.{known_step, known_clean, new_clean}
use Rattle.verilog_checks.proofs.Firsts.{kept_at, keeps_more}

-- a name that is known
record KeptOf (o : Option Declaration) (k : First) : Type 0 where
  pub declaration : Declaration
  pub is : o ≡ Some declaration
  pub same : kept_of declaration ≡ k

kept_some : (o : Option Declaration) (k : First) → option_map kept_of o ≡ Some k → KeptOf o k
kept_some None k h = absurd cc
kept_some (Some f) k h = record { declaration = f; is = refl; same = cc }

kept_none : (o : Option Declaration) → option_map kept_of o ≡ None → o ≡ None
kept_none None h = refl
kept_none (Some f) h = absurd cc

pub known_adds : (names old : List (List ℕ × First)) (before : List Declaration) (d : Declaration) (all : List (List ℕ)) (k : First) → first_in old d.name ≡ Some k
    → names ≡ with_first old d.name (kept_of d) → Keeps old before → IsClean before all → AddsOne (not (may_stand_beside k d.kind d.bounds)) names before d all
known_adds names old before d all k known adds keeps clean =
    let f = kept_some (first_of d.name before) k (sym (kept_at old before d.name keeps) ∙ known) in
    record {
      is = sym (known_step before d f.declaration all f.is clean ∙ ap (λ o. stands_again o d) f.is ∙ ap (λ x. not (may_stand_beside x d.kind d.bounds)) f.same);
      kept = λ e. keeps_more names old before d adds keeps;
      clean = λ e. known_clean before d f.declaration all f.is clean;
    }

-- a name that is new
pub new_adds : (bad : Bool) (names old : List (List ℕ × First)) (before : List Declaration) (d : Declaration) (all : List (List ℕ)) → first_in old d.name ≡ None → bad ≡ list_any (has_bit_in d.name d.bounds) all
    → names ≡ with_first old d.name (kept_of d) → Keeps old before → IsClean before all → AddsOne bad names before d all
new_adds bad names old before d all new bits adds keeps clean =
    let absent = kept_none (first_of d.name before) (sym (kept_at old before d.name keeps) ∙ new) in
    record {
      is = bits ∙ sym (ap (λ o. stands_again o d || list_any (has_bit_in d.name d.bounds) all) absent);
      kept = λ e. keeps_more names old before d adds keeps;
      clean = λ e. new_clean before d all absent clean (sym bits ∙ e);
    }

-- a loop over names that are declared alike
module _ (first : First) (before : List Declaration) (all : List (List ℕ)) (names : List (List ℕ)) (i : ℕ) (d : List ℕ) (total : Bool) where
  abbrev pub So : ℕ → List Declaration
  So i = before ++ map (declared_as first) (take i names)

  abbrev pub Rest : ℕ → List Declaration
  Rest i = map (declared_as first) (drop i names)

  abbrev pub Both : ℕ → Bool
  Both i = any_again (So i) (Rest i) || have_bits (Rest i) all

  abbrev it : Declaration
  it = declared_as first (get_or names i d)

  pub so_more : i < length names → So i ++ it ∷ [] ≡ So (i + 1)
  so_more lt =
      append_assoc before (map (declared_as first) (take i names)) (it ∷ [])
      ∙ ap (λ l. before ++ l) (sym (ap (map (declared_as first)) (take_more names i d lt) ∙ map-append (declared_as first) (take i names) (get_or names i d ∷ [])))

  both_turn : i < length names → Both i ≡ ((stands_again (first_of it.name (So i)) it || list_any (has_bit_in it.name it.bounds) all) || Both (i + 1))
  unfolding any_again
  both_turn lt =
      ap (λ l. any_again (So i) (map (declared_as first) l) || have_bits (map (declared_as first) l) all) (drop_more names i d lt)
      ∙ ap (λ l. (stands_again (first_of it.name (So i)) it || any_again l (Rest (i + 1))) || (list_any (has_bit_in it.name it.bounds) all || have_bits (Rest (i + 1)) all)) (so_more lt)
      ∙ or_four (stands_again (first_of it.name (So i)) it) (any_again (So (i + 1)) (Rest (i + 1))) (list_any (has_bit_in it.name it.bounds) all) (have_bits (Rest (i + 1)) all)

  pub both_passes : (kept : List (List ℕ × First)) → i < length names → AddsOne false kept (So i) it all → Both i ≡ total → Both (i + 1) ≡ total
  both_passes kept lt one so_far = sym (both_turn lt ∙ ap (λ t. t || Both (i + 1)) (sym one.is)) ∙ so_far

  pub both_fails : (kept : List (List ℕ × First)) → i < length names → AddsOne true kept (So i) it all → Both i ≡ total → true ≡ total
  both_fails kept lt one so_far = sym (both_turn lt ∙ ap (λ t. t || Both (i + 1)) (sym one.is)) ∙ so_far

  pub both_passed : length names ≤ i → Both i ≡ total → false ≡ total
  unfolding any_again
  both_passed le so_far = sym (ap (λ l. any_again (So i) (map (declared_as first) l) || have_bits (map (declared_as first) l) all) (drop_all i names le)) ∙ so_far

-- a statement declares nothing
pub adds_none : {S : Type 0} (names : List (List ℕ × First)) (nets : HashSet (Bor (List ℕ)) S) (before ds : List Declaration) (all : List (List ℕ)) → ds ≡ [] → AreKnown names nets before all → Adds false names before ds all
unfolding any_again
adds_none names nets before ds all none known =
    let same : before ≡ before ++ ds = sym (ap (λ l. before ++ l) none ∙ append-nil before) in
    record {
      is = sym (ap (λ l. any_again before l || have_bits l all) none);
      kept = λ e. known.keeps ∙ ap firsts_of same;
      clean = λ e. subst (λ l. IsClean l all) same known.clean;
    }

-- a list of names that a statement declares
pub names_in : (s : Statement) (kind : Declared) (range : Option Range) (names listed : List (List ℕ)) (bounds : Option Bounds) → s ≡ statements.Declare kind range names → bounds ≡ option_map bounds_of range → listed ≡ names
    → map (declared_as (record { kind = kind; bounds = bounds })) listed ≡ declarations_in s
names_in s kind range names listed bounds is same list =
    ap (λ b. map (declared_as (record { kind = kind; bounds = b })) listed) same ∙ ap (map (declared_as (record { kind = kind; bounds = option_map bounds_of range }))) list ∙ sym (ap declarations_in is)
