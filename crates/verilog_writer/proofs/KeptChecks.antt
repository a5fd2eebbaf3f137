-- The changed statements pass the checks.
use Rattle.std.proofs.Common.{◌≡◌, ℕ, Bool, true, false, cond, not, nat_lt, ◌&&◌, ◌||◌, List, [], ◌∷◌, ◌++◌, map, Option, Some, None, is_some, Result, Ok, Err, refl, sym, ap, ap₂, ◌∙◌, subst, append_assoc, arith}
use Rattle.std.specs.Prelude.{◌==◌}
use Rattle.std.specs.Option.{option_or}
use Rattle.std.specs.List.{list_any, filter}
use Rattle.std.proofs.lemmas.Bool.{false≢true, or_parts, or_from}
use Rattle.std.proofs.lemmas.Bool.Decides.{nat_tests}
use Rattle.std.proofs.lemmas.List.{append-nil}
use Rattle.std.proofs.lemmas.List.Concat.{flat_map-append}
use Rattle.std.proofs.lemmas.List.Folds.{find-append}
use Rattle.std.specs.List.{AllByRecursion as Each}
use Rattle.base_types.specs.declared.kind.Kind.{Kind}
use Rattle.base_types.specs.declared.kind.Kind.TheVariants.{VerilogNumber, VerilogTwice, BadSelect}
use Rattle.base_types.specs.declared.fault.Fault.{Fault}
use Rattle.verilog_syntax.specs.declared.statement.Statement.{Statement}
use Rattle.verilog_syntax.specs.declared.reading.Placed.{Placed}
use Rattle.verilog_syntax.specs.Reading.{fault_at}
use Rattle.verilog_names.specs.declared.bounds.Bounds.{Bounds}
use Rattle.verilog_names.specs.Declarations.{Declaration, declarations_in, declarations, is_named, first_of, is_declared, bounds_or_none, bounds_in, is_port_kind, is_wire, ports_in, header_ports, has, items_in, mentions_in, mentions, undeclared_in}
use Rattle.verilog_checks.specs.Checks.{check_from, check_number, check_twice, check_select, has_twice, stands_again, any_again, has_bit_in, are_bits, have_bits, bad_twice}
use Rattle.verilog_checks.specs.Faults.{is_bad_number, is_bad_range, range_in, vector_bits, bad_number, is_vector, same_bounds, instances_named, instance_names, pins_in, scalars_in, scalars, is_bad_select, has_direction, is_badly_listed, differ_in_width, bad_select}
use Rattle.verilog_reader.specs.Numbering.{entries}
use Rattle.verilog_reader.proofs.Checked.{Passes, passes, IsSound, declared_named, each_left, each_right}
use Rattle.verilog_reader.proofs.Distinct.{each_append}
use Rattle.verilog_reader.proofs.Places.{named, bounds_are}
use Rattle.verilog_reader.proofs.PortNames.{again-append, declarations_push, all_again, find_any}
use Rattle.verilog_reader.proofs.ScalarNames.{clear}
use Rattle.verilog_writer.proofs.KeptNets.{bounds_at, no_bounds}
use Rattle.verilog_writer.proofs.KeptFrames.{IsAlike, AreAlike, same_declarations, same_ports}

-- statements of which none is bad pass
pub passed_all : (bad : List Placed → Placed → Bool) (kind : Kind) (before ps : List Placed) → Passes bad before ps → check_from bad kind before ps ≡ Ok tt
unfolding check_from
passed_all bad kind before [] pass = refl
passed_all bad kind before (p ∷ ps) pass =
    ap (λ (t : Bool). let r : Result (Unit {0}) Fault = cond t (Err (fault_at kind p.line)) (check_from bad kind (before ++ p ∷ []) ps) in r) pass.0 ∙ passed_all bad kind (before ++ p ∷ []) ps pass.1

pub pushed : (before before' : List Placed) (p q : Placed) → declarations before' ≡ declarations before → IsAlike p.statement q.statement → declarations (before' ++ q ∷ []) ≡ declarations (before ++ p ∷ [])
pushed before before' p q same like =
    declarations_push before' q ∙ ap₂ (λ (a b : List Declaration). a ++ b) same like.declarations ∙ sym (declarations_push before p)

-- numbers
number_passes : (all before before' ps qs : List Placed) → declarations before' ≡ declarations before → AreAlike ps qs → Each (λ q. IsSound all q.statement) qs → Passes bad_number before ps → Passes bad_number before' qs
unfolding bad_number
number_passes all before before' [] [] same are sound pass = tt
number_passes all before before' [] (q ∷ qs) same are sound pass = absurd are
number_passes all before before' (p ∷ ps) [] same are sound pass = absurd are
number_passes all before before' (p ∷ ps) (q ∷ qs) same are sound pass =
    let more = pushed before before' p q same are.0 in
    let many = (or_parts (is_bad_range (range_in p.statement) || list_any is_bad_number (items_in p.statement)) (nat_lt 16777216 (vector_bits (declarations (before ++ p ∷ [])))) pass.0).1 in (
      or_from (is_bad_range (range_in q.statement) || list_any is_bad_number (items_in q.statement)) (nat_lt 16777216 (vector_bits (declarations (before' ++ q ∷ []))))
          (or_from (is_bad_range (range_in q.statement)) (list_any is_bad_number (items_in q.statement)) sound.0.range sound.0.number)
          (ap (λ (ds : List Declaration). nat_lt 16777216 (vector_bits ds)) more ∙ many),
      number_passes all (before ++ p ∷ []) (before' ++ q ∷ []) ps qs more are.1 sound.1 pass.1,
    )

-- selects
select_passes : (all all' before before' ps qs : List Placed) → AreAlike all all' → AreAlike ps qs → Each (λ q. IsSound all q.statement) qs → Passes (λ before p. bad_select all p) before ps → Passes (λ before q. bad_select all' q) before' qs
unfolding bad_select
select_passes all all' before before' [] [] whole are sound pass = tt
select_passes all all' before before' [] (q ∷ qs) whole are sound pass = absurd are
select_passes all all' before before' (p ∷ ps) [] whole are sound pass = absurd are
select_passes all all' before before' (p ∷ ps) (q ∷ qs) whole are sound pass =
    let ds = declarations all in
    let same : declarations all' ≡ ds = same_declarations all all' whole in
    let ports : header_ports all' ≡ header_ports all = same_ports all all' whole in
    let a = or_parts (list_any (is_bad_select (bounds_in ds)) (items_in p.statement) || differ_in_width (bounds_in ds) p.statement || list_any (λ port. not (has_direction ds port)) (ports_in p.statement))
    (list_any (is_badly_listed (header_ports all)) (declarations_in p.statement)) pass.0 in
    let b = or_parts (list_any (is_bad_select (bounds_in ds)) (items_in p.statement) || differ_in_width (bounds_in ds) p.statement) (list_any (λ port. not (has_direction ds port)) (ports_in p.statement)) a.0 in
    let whole_same : (list_any (is_bad_select (bounds_in ds)) (items_in q.statement) || differ_in_width (bounds_in ds) q.statement || list_any (λ port. not (has_direction ds port)) (ports_in q.statement)
    || list_any (is_badly_listed (header_ports all)) (declarations_in q.statement)) ≡ false
    = or_from (list_any (is_bad_select (bounds_in ds)) (items_in q.statement) || differ_in_width (bounds_in ds) q.statement || list_any (λ port. not (has_direction ds port)) (ports_in q.statement))
    (list_any (is_badly_listed (header_ports all)) (declarations_in q.statement))
    (or_from (list_any (is_bad_select (bounds_in ds)) (items_in q.statement) || differ_in_width (bounds_in ds) q.statement) (list_any (λ port. not (has_direction ds port)) (ports_in q.statement))
    (or_from (list_any (is_bad_select (bounds_in ds)) (items_in q.statement)) (differ_in_width (bounds_in ds) q.statement) sound.0.select sound.0.widths)
    (ap (λ (l : List (List ℕ)). list_any (λ port. not (has_direction ds port)) l) are.0.ports ∙ b.1))
    (ap (λ (l : List Declaration). list_any (is_badly_listed (header_ports all)) l) are.0.declarations ∙ a.1)
    in (
      subst (λ (l : List (List ℕ)). (list_any (is_bad_select (bounds_in (declarations all'))) (items_in q.statement) || differ_in_width (bounds_in (declarations all')) q.statement
          || list_any (λ port. not (has_direction (declarations all') port)) (ports_in q.statement) || list_any (is_badly_listed l) (declarations_in q.statement)) ≡ false) (sym ports)
          (subst (λ (es : List Declaration). (list_any (is_bad_select (bounds_in es)) (items_in q.statement) || differ_in_width (bounds_in es) q.statement || list_any (λ port. not (has_direction es port)) (ports_in q.statement)
          || list_any (is_badly_listed (header_ports all)) (declarations_in q.statement)) ≡ false) (sym same) whole_same),
      select_passes all all' (before ++ p ∷ []) (before' ++ q ∷ []) ps qs whole are.1 sound.1 pass.1,
    )

-- each declaration has the bounds of the first of its name
abbrev pub Steady : List Declaration → Declaration → Type 0
Steady all d = bounds_in all d.name ≡ d.bounds

same_bounds_are : (a b : Option Bounds) → same_bounds a b ≡ true → a ≡ b
same_bounds_are None None h = refl
same_bounds_are None (Some b) h = absurd (false≢true h)
same_bounds_are (Some a) None h = absurd (false≢true h)
same_bounds_are (Some a) (Some b) h =
    let left : a.left ≡ b.left = ends a.left b.left (a.right == b.right) h in
    let right : a.right ≡ b.right = ends_right a.right b.right (a.left == b.left) h in
    ap₂ (λ l r. let c : Bounds = record { left = l; right = r } in Some c) left right
  where
    ends : (x y : ℕ) (t : Bool) → ((x == y) && t) ≡ true → x ≡ y
    ends x y t is = grind (arith, nat_tests)

    ends_right : (x y : ℕ) (t : Bool) → (t && (x == y)) ≡ true → x ≡ y
    ends_right x y true is = grind (arith, nat_tests)
    ends_right x y false is = absurd (false≢true is)

beside : (first d : Declaration) → stands_again (Some first) d ≡ false → first.bounds ≡ d.bounds
beside first d good = same_bounds_are first.bounds d.bounds (third (is_port_kind first.kind) (is_wire d.kind) (same_bounds first.bounds d.bounds) good)
  where
    third : (a b c : Bool) → not (a && b && c) ≡ false → c ≡ true
    third true true true is = refl
    third true true false is = absurd (false≢true (sym is))
    third true false c is = absurd (false≢true (sym is))
    third false b c is = absurd (false≢true (sym is))

steady_one : (before : List Declaration) (d : Declaration) (after : List Declaration) → stands_again (first_of d.name before) d ≡ false → Steady (before ++ d ∷ after) d
steady_one before d after good = by (first_of d.name before) refl
  where
    by : (o : Option Declaration) → first_of d.name before ≡ o → Steady (before ++ d ∷ after) d
    by None is = bounds_at before d after (sym (find_any (is_named d.name) before) ∙ ap (λ (o : Option Declaration). is_some o) is)
    by (Some first) is =
        ap bounds_or_none (find-append (is_named d.name) before (d ∷ after) ∙ ap (λ (o : Option Declaration). option_or o (first_of d.name (d ∷ after))) is)
        ∙ beside first d (sym (ap (λ (o : Option Declaration). stands_again o d) is) ∙ good)

pub steady : (before ds : List Declaration) → any_again before ds ≡ false → Each (Steady (before ++ ds)) ds
unfolding any_again
steady before [] good = tt
steady before (d ∷ ds) good =
    let both = or_parts (stands_again (first_of d.name before) d) (any_again (before ++ d ∷ []) ds) good in
    (steady_one before d ds both.0, subst (λ (all : List Declaration). Each (Steady all) ds) (append_assoc before (d ∷ []) ds) (steady (before ++ d ∷ []) ds both.1))

-- scalar nets
pub record IsScalar (ps : List Placed) (s : List ℕ) : Type 0 where
  pub there : named (entries ps) s ≡ true
  pub none : bounds_in (declarations ps) s ≡ None

no_vector : (b : Option Bounds) → is_some b ≡ false → b ≡ None
no_vector None is = refl
no_vector (Some b) is = absurd (false≢true (sym is))

module _ (ps : List Placed) where
  abbrev ds : List Declaration
  ds = declarations ps

  declared_scalars : (es : List Declaration) → Each (Steady ds) es → Each (λ d. named (entries ps) d.name ≡ true) es → Each (IsScalar ps) (map (λ (d : Declaration). d.name) (filter (λ d. not (is_vector d)) es))
  declared_scalars [] same there = tt
  declared_scalars (e ∷ es) same there = by (is_vector e) refl (declared_scalars es same.1 there.1)
    where
      by : (t : Bool) → is_vector e ≡ t → Each (IsScalar ps) (map (λ (d : Declaration). d.name) (filter (λ d. not (is_vector d)) es))
          → Each (IsScalar ps) (map (λ (d : Declaration). d.name) (cond (not t) (e ∷ filter (λ d. not (is_vector d)) es) (filter (λ d. not (is_vector d)) es)))
      by true is more = more
      by false is more = (record { there = there.0; none = same.0 ∙ no_vector e.bounds is }, more)

  undeclared_scalars : (names : List (List ℕ)) → Each (λ q. named (entries ps) q ≡ true) names → Each (IsScalar ps) (undeclared_in ds names)
  undeclared_scalars [] there = tt
  undeclared_scalars (name ∷ names) there = by (is_declared ds name) refl (undeclared_scalars names there.1)
    where
      by : (t : Bool) → is_declared ds name ≡ t → Each (IsScalar ps) (undeclared_in ds names) → Each (IsScalar ps) (cond (not t) (name ∷ undeclared_in ds names) (undeclared_in ds names))
      by true is more = more
      by false is more = (record { there = there.0; none = no_bounds ds name is }, more)

  pub are_scalars : (p q : Statement) → IsAlike p q → Each (Steady ds) (declarations_in p) → Each (λ d. named (entries ps) d.name ≡ true) (declarations_in p)
      → Each (λ q. named (entries ps) q ≡ true) (mentions_in q) → Each (IsScalar ps) (scalars_in ds q)
  are_scalars p q like same there mentioned =
      each_append (IsScalar ps) (map (λ (d : Declaration). d.name) (filter (λ d. not (is_vector d)) (declarations_in q))) (undeclared_in ds (mentions_in q))
      (subst (λ (es : List Declaration). Each (IsScalar ps) (map (λ (d : Declaration). d.name) (filter (λ d. not (is_vector d)) es))) (sym like.declarations) (declared_scalars (declarations_in p) same there))
      (undeclared_scalars (mentions_in q) mentioned)

  -- no scalar net is a bit
  module _ (free : (s v : List ℕ) → IsScalar ps s → has_bit_in v (bounds_in ds v) s ≡ false) where
    no_bit : (v : List ℕ) (names : List (List ℕ)) → Each (IsScalar ps) names → list_any (has_bit_in v (bounds_in ds v)) names ≡ false
    no_bit v [] scalar = refl
    no_bit v (s ∷ names) scalar = or_from (has_bit_in v (bounds_in ds v) s) (list_any (has_bit_in v (bounds_in ds v)) names) (free s v scalar.0) (no_bit v names scalar.1)

    no_bits : (all es : List Declaration) (names : List (List ℕ)) → Each (Steady all) es → Each (Steady ds) es → Each (IsScalar ps) names
        → list_any (λ d. list_any (has_bit_in d.name (bounds_in all d.name)) names) es ≡ false
    no_bits all [] names own same scalar = refl
    no_bits all (e ∷ es) names own same scalar =
        or_from (list_any (has_bit_in e.name (bounds_in all e.name)) names) (list_any (λ d. list_any (has_bit_in d.name (bounds_in all d.name)) names) es)
        (ap (λ (b : Option Bounds). list_any (has_bit_in e.name b) names) (own.0 ∙ sym same.0) ∙ no_bit e.name names scalar) (no_bits all es names own.1 same.1 scalar)

    none_have : (es : List Declaration) (names : List (List ℕ)) → Each (Steady ds) es → Each (IsScalar ps) names → have_bits es names ≡ false
    none_have [] names same scalar = refl
    none_have (e ∷ es) names same scalar =
        or_from (list_any (has_bit_in e.name e.bounds) names) (have_bits es names)
        (ap (λ (b : Option Bounds). list_any (has_bit_in e.name b) names) (sym same.0) ∙ no_bit e.name names scalar) (none_have es names same.1 scalar)

    -- what is known of the statements before
    pub record AreBefore (before before' : List Placed) : Type 0 where
      pub same : declarations before' ≡ declarations before
      pub instances : instance_names before' ≡ instance_names before
      pub again : any_again [] (declarations before) ≡ false
      pub steady_so : Each (Steady ds) (declarations before)
      pub scalar : Each (IsScalar ps) (scalars ds before')

    instances_push : (before : List Placed) (p : Placed) → instance_names (before ++ p ∷ []) ≡ instance_names before ++ instances_named p.statement
    instances_push before p =
        flat_map-append (λ (p : Placed). instances_named p.statement) before (p ∷ []) ∙ ap (λ (l : List (List ℕ)). instance_names before ++ l) (append-nil (instances_named p.statement))

    scalars_push : (before : List Placed) (q : Placed) → scalars ds (before ++ q ∷ []) ≡ scalars ds before ++ scalars_in ds q.statement
    scalars_push before q =
        flat_map-append (λ (q : Placed). scalars_in ds q.statement) before (q ∷ []) ∙ ap (λ (l : List (List ℕ)). scalars ds before ++ l) (append-nil (scalars_in ds q.statement))

    -- the parts of the test
    pub record IsOnce (before : List Placed) (p : Placed) : Type 0 where
      pub ports : has_twice (ports_in p.statement) ≡ false
      pub again : any_again (declarations before) (declarations_in p.statement) ≡ false
      pub instances : list_any (has (instance_names before)) (instances_named p.statement) ≡ false
      pub pins : has_twice (pins_in p.statement) ≡ false

    pub is_once : (before : List Placed) (p : Placed) → bad_twice ps before p ≡ false → IsOnce before p
    unfolding bad_twice
    is_once before p is =
        let a = has_twice (ports_in p.statement) in
        let b = any_again (declarations before) (declarations_in p.statement) in
        let c = list_any (has (instance_names before)) (instances_named p.statement) in
        let d = has_twice (pins_in p.statement) in
        let e = are_bits (declarations before) (scalars_in (declarations ps) p.statement) in
        let f = have_bits (declarations_in p.statement) (scalars (declarations ps) before) in
        let five = or_parts (a || b || c || d || e) f is in
        let four = or_parts (a || b || c || d) e five.0 in
        let three = or_parts (a || b || c) d four.0 in
        let two = or_parts (a || b) c three.0 in
        let one = or_parts a b two.0 in
        record { ports = one.0; again = one.1; instances = two.1; pins = three.1 }

    pub once_again : (all' before before' : List Placed) (p q : Placed) → declarations all' ≡ ds → AreBefore before before' → IsAlike p.statement q.statement → IsOnce before p → Each (Steady ds) (declarations_in p.statement)
        → Each (IsScalar ps) (scalars_in ds q.statement) → bad_twice all' before' q ≡ false
    unfolding bad_twice
    once_again all' before before' p q whole known like once same scalar =
        let a = has_twice (ports_in q.statement) in
        let b = any_again (declarations before') (declarations_in q.statement) in
        let c = list_any (has (instance_names before')) (instances_named q.statement) in
        let d = has_twice (pins_in q.statement) in
        let e = are_bits (declarations before') (scalars_in ds q.statement) in
        let f = have_bits (declarations_in q.statement) (scalars ds before') in
        let own : Each (Steady (declarations before)) (declarations before) = steady [] (declarations before) known.again in
        let all : (a || b || c || d || e || f) ≡ false
        = or_from (a || b || c || d || e) f
        (or_from (a || b || c || d) e
        (or_from (a || b || c) d
        (or_from (a || b) c
        (or_from a b (ap has_twice like.ports ∙ once.ports)
        (ap (λ (es : List Declaration). any_again es (declarations_in q.statement)) known.same ∙ ap (any_again (declarations before)) like.declarations ∙ once.again))
        (ap (λ (ns : List (List ℕ)). list_any (has ns) (instances_named q.statement)) known.instances ∙ ap (list_any (has (instance_names before))) like.instances ∙ once.instances))
        (ap has_twice like.pins ∙ once.pins))
        (ap (λ (es : List Declaration). are_bits es (scalars_in ds q.statement)) known.same ∙ no_bits (declarations before) (declarations before) (scalars_in ds q.statement) own known.steady_so scalar))
        (ap (λ (es : List Declaration). have_bits es (scalars ds before')) like.declarations ∙ none_have (declarations_in p.statement) (scalars ds before') same known.scalar)
        in
        subst (λ (es : List Declaration). (a || b || c || d || are_bits (declarations before') (scalars_in es q.statement) || have_bits (declarations_in q.statement) (scalars es before')) ≡ false) (sym whole) all

    pub one_more : (before before' : List Placed) (p q : Placed) → AreBefore before before' → IsAlike p.statement q.statement → IsOnce before p → Each (Steady ds) (declarations_in p.statement)
        → Each (IsScalar ps) (scalars_in ds q.statement) → AreBefore (before ++ p ∷ []) (before' ++ q ∷ [])
    one_more before before' p q known like once same scalar = record {
      same = pushed before before' p q known.same like;
      instances = instances_push before' q ∙ ap₂ (λ (a b : List (List ℕ)). a ++ b) known.instances like.instances ∙ sym (instances_push before p);
      again = ap (any_again []) (declarations_push before p) ∙ again-append [] (declarations before) (declarations_in p.statement)
          ∙ or_from (any_again [] (declarations before)) (any_again (declarations before) (declarations_in p.statement)) known.again once.again;
      steady_so = subst (Each (Steady ds)) (sym (declarations_push before p)) (each_append (Steady ds) (declarations before) (declarations_in p.statement) known.steady_so same);
      scalar = subst (Each (IsScalar ps)) (sym (scalars_push before' q)) (each_append (IsScalar ps) (scalars ds before') (scalars_in ds q.statement) known.scalar scalar);
    }

    twice_passes : (all' before before' olds news : List Placed) → declarations all' ≡ ds → AreBefore before before' → AreAlike olds news → Each (Steady ds) (declarations olds)
        → Each (λ d. named (entries ps) d.name ≡ true) (declarations olds) → Each (λ q. named (entries ps) q ≡ true) (mentions news) → Passes (bad_twice ps) before olds → Passes (bad_twice all') before' news
    twice_passes all' before before' [] [] whole known are same there mentioned pass = tt
    twice_passes all' before before' [] (q ∷ news) whole known are same there mentioned pass = absurd are
    twice_passes all' before before' (p ∷ olds) [] whole known are same there mentioned pass = absurd are
    twice_passes all' before before' (p ∷ olds) (q ∷ news) whole known are same there mentioned pass =
        let P = λ (q : List ℕ). named (entries ps) q ≡ true in
        let D = λ (d : Declaration). named (entries ps) d.name ≡ true in
        let once = is_once before p pass.0 in
        let mine = each_left (Steady ds) (declarations_in p.statement) (declarations olds) same in
        let scalar = are_scalars p.statement q.statement are.0 mine (each_left D (declarations_in p.statement) (declarations olds) there) (each_left P (mentions_in q.statement) (mentions news) mentioned) in (
          once_again all' before before' p q whole known are.0 once mine scalar,
          twice_passes all' (before ++ p ∷ []) (before' ++ q ∷ []) olds news whole (one_more before before' p q known are.0 once mine scalar) are.1
              (each_right (Steady ds) (declarations_in p.statement) (declarations olds) same) (each_right D (declarations_in p.statement) (declarations olds) there)
              (each_right P (mentions_in q.statement) (mentions news) mentioned) pass.1,
        )

-- the checks of the changed statements
module _ (ps qs : List Placed) (are : AreAlike ps qs) (sound : Each (λ q. IsSound ps q.statement) qs) (mentioned : Each (λ q. named (entries ps) q ≡ true) (mentions qs)) where
  pub number_good : check_number ps ≡ Ok tt → check_number qs ≡ Ok tt
  number_good is = passed_all bad_number VerilogNumber [] qs (number_passes ps [] [] ps qs refl are sound (passes bad_number VerilogNumber [] ps is))

  pub select_good : check_select ps ≡ Ok tt → check_select qs ≡ Ok tt
  select_good is =
      passed_all (λ before q. bad_select qs q) BadSelect [] qs (select_passes ps qs [] [] ps qs are are sound (passes (λ before p. bad_select ps p) BadSelect [] ps is))

  pub twice_good : check_twice ps ≡ Ok tt → check_twice qs ≡ Ok tt
  unfolding any_again
  twice_good is =
      let pass = passes (bad_twice ps) VerilogTwice [] ps is in
      let free : (s v : List ℕ) → IsScalar ps s → has_bit_in v (bounds_in (declarations ps) v) s ≡ false
      = λ s v scalar. sym (ap (λ (b : Option Bounds). has_bit_in v b s) (bounds_are ps v)) ∙ clear ps pass s v scalar.there (bounds_are ps s ∙ scalar.none) in
      passed_all (bad_twice qs) VerilogTwice [] qs
      (twice_passes ps free qs [] [] ps qs (same_declarations ps qs are) (record { same = refl; instances = refl; again = refl; steady_so = tt; scalar = tt }) are
      (steady [] (declarations ps) (all_again ps [] ps pass)) (declared_named ps) mentioned pass)
