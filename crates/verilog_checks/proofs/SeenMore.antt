-- What the check of names has seen, as a statement is added.
use Rattle.std.proofs.Common.{◌≡◌, ℕ, zero, suc, Bool, true, false, not, ◌&&◌, ◌||◌, List, [], ◌∷◌, ◌++◌, map, take, Option, Some, None, option_map, refl, sym, ap, ◌∙◌, subst}
use Rattle.std.specs.List.{list_any, filter, flat_map}
use Rattle.std.proofs.lemmas.List.{append-nil}
use Rattle.std.proofs.lemmas.List.Concat.{flat_map-append}
use Rattle.std.proofs.lemmas.List.Elements.{filter-append}
use Rattle.std.proofs.lemmas.List.Folds.{list_any-append, list_all-append}
use Rattle.std.proofs.lemmas.Bool.{not-true, and_parts}
use Rattle.base_types.proofs.TruthValues.{or_true, or_false, or_first, or_second}
use Rattle.verilog_syntax.specs.declared.statement.Declared.{Declared}
use Rattle.verilog_syntax.specs.declared.statement.Range.{Range}
use Rattle.verilog_syntax.specs.declared.statement.Statement.{Statement}
use Rattle.verilog_syntax.specs.declared.statement.Statement.TheVariants as statements
use Rattle.verilog_syntax.specs.declared.reading.Placed.{Placed}
use Rattle.verilog_checks.specs.declared.twice.Seen.{Seen}
use Rattle.verilog_names.specs.Declarations.{Declaration, declaration_of, bounds_of, declarations_in, declarations, has, ports_in, items_in}
use Rattle.verilog_checks.specs.Checks.{has_twice, any_again, are_bits, have_bits, bad_twice}
use Rattle.verilog_checks.specs.Faults.{instances_named, instance_names, pins_in, scalars_in, scalars, is_bad_number, is_bad_range, range_in}
use Rattle.verilog_names.specs.NameTables.{firsts_of}
use Rattle.verilog_checks.specs.Steps.{has_bad_number, are_small}
use Rattle.verilog_names.specs.NameSets.{HasNames}
use Rattle.verilog_checks.specs.Seen.{is_small, have_small, is_bit, is_bracketed, IsClean, Adds, IsSeen, Tells}
use Rattle.verilog_checks.proofs.AnyLemmas.{any_same}
use Rattle.verilog_checks.proofs.BitLookups.{are_bits_is}
use Rattle.verilog_checks.proofs.Clean.{scalars_stay}
use Rattle.verilog_checks.proofs.ClosedNames.{closed_are_bits}
use Rattle.verilog_checks.proofs.Undeclared.{scalar_names}

-- what one statement more adds
flat_last : {X : Type 0} (f : Placed → List X) (before : List Placed) (p : Placed) → flat_map f before ++ f p ≡ flat_map f (before ++ p ∷ [])
flat_last f before p = sym (flat_map-append f before (p ∷ []) ∙ ap (λ l. flat_map f before ++ l) (append-nil (f p)))

-- the scalars of a statement aren't bits either, also of what it declares itself
scalars_clean : (s : Statement) (ds before : List Declaration) → any_again before (declarations_in s) ≡ false → are_bits before (scalars_in ds s) ≡ false → IsClean (before ++ declarations_in s) (scalars_in ds s)
scalars_clean (statements.Module name ports) ds before good none = refl
scalars_clean (statements.Declare kind None names) ds before good none =
    let so = scalars_in ds (statements.Declare kind None names) in
    any_same (is_bit (before ++ map (declaration_of kind None) names)) (is_bit before) so (scalars_stay kind names before good) ∙ sym (are_bits_is before so) ∙ none
scalars_clean (statements.Declare kind (Some range) names) ds before good none =
    ap (λ l. list_any (is_bit (before ++ map (declaration_of kind (Some range)) names)) (l ++ [])) (scalar_names kind (Some range) names)
scalars_clean (statements.Assign left right) ds before good none =
    let so = scalars_in ds (statements.Assign left right) in
    ap (λ l. list_any (is_bit l) so) (append-nil before) ∙ sym (are_bits_is before so) ∙ none
scalars_clean (statements.Instance cell name connections) ds before good none =
    let so = scalars_in ds (statements.Instance cell name connections) in
    ap (λ l. list_any (is_bit l) so) (append-nil before) ∙ sym (are_bits_is before so) ∙ none

-- the parts of the test in another order
in_order : (a b c d e f : Bool) → ((((a || d) || e) || (b || f)) || c) ≡ (((((a || b) || c) || d) || e) || f)
in_order true b c d e f = refl
in_order false true c d e f = ap (λ t. t || c) (or_true (d || e))
in_order false false true d e f = or_true ((d || e) || f)
in_order false false false true e f = refl
in_order false false false false true f = refl
in_order false false false false false f = or_false f

-- what the code finds out at a statement
pub record IsAdded (itself bits stands again : Bool) (all before : List Placed) (names : List (List ℕ)) (s : Statement) (new : Seen) : Type 0 where
  pub named : names ≡ filter is_bracketed (scalars_in (declarations all) s)
  pub twice : itself ≡ (has_twice (ports_in s) || has_twice (pins_in s))
  pub among : bits ≡ are_bits (declarations before) names
  pub adds : Adds stands new.declared (declarations before) (declarations_in s) (scalars (declarations all) before)
  pub named_again : again ≡ list_any (has (instance_names before)) (instances_named s)
  pub instances : HasNames new.instances (instance_names before ++ instances_named s)
  pub nets : HasNames new.nets (filter is_bracketed (scalars (declarations all) before) ++ names)

module _ (itself bits stands again : Bool) (all before : List Placed) (names : List (List ℕ)) (new : Seen) (p : Placed) where
  abbrev Added : Statement → Type 0
  Added s = IsAdded itself bits stands again all before names s new

  abbrev bad : Bool
  bad = ((itself || bits) || stands) || again

  bits_are : Added p.statement → bits ≡ are_bits (declarations before) (scalars_in (declarations all) p.statement)
  bits_are a = a.among ∙ ap (are_bits (declarations before)) a.named ∙ closed_are_bits (declarations before) (scalars_in (declarations all) p.statement)

  bad_is : Added p.statement → bad ≡ bad_twice all before p
  unfolding bad_twice
  bad_is a =
      ap (λ t. ((t || bits) || stands) || again) a.twice
      ∙ ap (λ t. (((has_twice (ports_in p.statement) || has_twice (pins_in p.statement)) || t) || stands) || again) (bits_are a)
      ∙ ap (λ t. (((has_twice (ports_in p.statement) || has_twice (pins_in p.statement)) || are_bits (declarations before) (scalars_in (declarations all) p.statement)) || t) || again) a.adds.is
      ∙ ap (λ t. (((has_twice (ports_in p.statement) || has_twice (pins_in p.statement)) || are_bits (declarations before) (scalars_in (declarations all) p.statement))
      || (any_again (declarations before) (declarations_in p.statement) || have_bits (declarations_in p.statement) (scalars (declarations all) before))) || t) a.named_again
      ∙ in_order (has_twice (ports_in p.statement)) (any_again (declarations before) (declarations_in p.statement)) (list_any (has (instance_names before)) (instances_named p.statement)) (has_twice (pins_in p.statement))
      (are_bits (declarations before) (scalars_in (declarations all) p.statement)) (have_bits (declarations_in p.statement) (scalars (declarations all) before))

  abbrev so : List (List ℕ)
  so = scalars (declarations all) before

  nets_more : so ++ scalars_in (declarations all) p.statement ≡ scalars (declarations all) (before ++ p ∷ [])
  nets_more = flat_last (λ x. scalars_in (declarations all) x.statement) before p

  closed_more : Added p.statement → filter is_bracketed so ++ names ≡ filter is_bracketed (scalars (declarations all) (before ++ p ∷ []))
  closed_more a = ap (λ l. filter is_bracketed so ++ l) a.named ∙ sym (filter-append is_bracketed so (scalars_in (declarations all) p.statement)) ∙ ap (filter is_bracketed) nets_more

  declared_more : declarations before ++ declarations_in p.statement ≡ declarations (before ++ p ∷ [])
  declared_more = flat_last (λ x. declarations_in x.statement) before p

  clean_more : Added p.statement → bits ≡ false → stands ≡ false → IsClean (declarations (before ++ p ∷ [])) (scalars (declarations all) (before ++ p ∷ []))
  clean_more a none good =
      let ds = declarations before ++ declarations_in p.statement in
      let no_again = or_first (any_again (declarations before) (declarations_in p.statement)) (have_bits (declarations_in p.statement) so) (sym a.adds.is ∙ good) in
      let here = scalars_in (declarations all) p.statement in
      let behind : IsClean ds here = scalars_clean p.statement (declarations all) (declarations before) no_again (sym (bits_are a) ∙ none) in
      let both : IsClean ds (so ++ here) = list_any-append (is_bit ds) so here ∙ ap (λ t. t || list_any (is_bit ds) here) (a.adds.clean good) ∙ behind in
      ap (λ l. list_any (is_bit l) (scalars (declarations all) (before ++ p ∷ []))) (sym declared_more) ∙ ap (list_any (is_bit ds)) (sym nets_more) ∙ both

  seen_more : Added p.statement → bad ≡ false → IsSeen all (before ++ p ∷ []) new
  seen_more a e =
      let front = or_first ((itself || bits) || stands) again e in
      let good = or_second (itself || bits) stands front in
      let none = or_second itself bits (or_first (itself || bits) stands front) in
      record {
        instances = λ q. a.instances q ∙ ap (λ l. has l q.now) (flat_last (λ x. instances_named x.statement) before p);
        known = record {
          keeps = a.adds.kept good ∙ ap firsts_of declared_more;
          are_nets = λ q. a.nets q ∙ ap (λ l. has l q.now) (closed_more a);
          clean = clean_more a none good;
        };
      }

  pub tells : (s : Statement) → p.statement ≡ s → Added s → Tells bad all before p new
  tells s is a =
      let here = subst Added (sym is) a in
      record { is = bad_is here; kept = seen_more here }

-- small numbers
small_range : (range : Option Range) → is_bad_range range ≡ false → is_small (option_map bounds_of range) ≡ true
small_range None h = refl
small_range (Some range) h = ap not h

small_names : (kind : Declared) (range : Option Range) (names : List (List ℕ)) → is_bad_range range ≡ false → have_small (map (declaration_of kind range) names) ≡ true
small_names kind range [] h = refl
small_names kind range (name ∷ names) h = ap (λ t. t && have_small (map (declaration_of kind range) names)) (small_range range h) ∙ small_names kind range names h

small_in : (s : Statement) → is_bad_range (range_in s) ≡ false → have_small (declarations_in s) ≡ true
small_in (statements.Module name ports) h = refl
small_in (statements.Declare kind range names) h = small_names kind range names h
small_in (statements.Assign left right) h = refl
small_in (statements.Instance cell name connections) h = refl

pub small_front : (i : ℕ) (ps : List Placed) → are_small ps ≡ true → have_small (declarations (take i ps)) ≡ true
small_front zero ps h = refl
small_front (suc i) [] h = refl
small_front (suc i) (p ∷ ps) h =
    let parts = and_parts (not (has_bad_number p.statement)) (are_small ps) h in
    let range = or_first (is_bad_range (range_in p.statement)) (list_any is_bad_number (items_in p.statement)) (not-true (has_bad_number p.statement) parts.0) in
    list_all-append (λ d. is_small d.bounds) (declarations_in p.statement) (declarations (take i ps))
    ∙ ap (λ t. t && have_small (declarations (take i ps))) (small_in p.statement range) ∙ small_front i ps parts.1
