-- Checks of statements that declare and mention no vectors.
use Rattle.std.proofs.Common.{◌≡◌, ℕ, ◌+◌, ◌≤◌, Bool, true, false, not, List, [], ◌∷◌, ◌++◌, map, Option, None, Ok, refl, sym, ap, ◌∙◌, subst, append_assoc, arith}
use Rattle.std.specs.List.{list_any}
use Rattle.std.specs.Str.{bytes_eq}
use Rattle.std.specs.List.{AllByRecursion as Each}
use Rattle.std.proofs.lemmas.List.{map-append}
use Rattle.std.proofs.lemmas.List.Concat.{flat_map-append}
use Rattle.base_types.specs.declared.kind.Kind.{Kind}
use Rattle.base_types.specs.declared.kind.Kind.TheVariants.{VerilogNumber, VerilogTwice, BadSelect}
use Rattle.base_types.proofs.TruthValues.{bytes_are}
use Rattle.verilog_syntax.specs.declared.statement.Item.{Item}
use Rattle.verilog_syntax.specs.declared.statement.Item.TheVariants as items
use Rattle.verilog_syntax.specs.declared.statement.Statement.{Statement}
use Rattle.verilog_syntax.specs.declared.statement.Statement.TheVariants.{Module, Declare, Assign, Instance}
use Rattle.verilog_syntax.specs.declared.reading.Placed.{Placed}
use Rattle.verilog_names.specs.declared.bounds.Bounds.{Bounds}
use Rattle.verilog_names.specs.Values.{unescaped}
use Rattle.verilog_names.specs.Declarations.{Declaration, declarations_in, declarations, is_named, first_of, is_declared, bounds_in, ports_in, header_ports, has, items_in, mentions_in, undeclared_in}
use Rattle.verilog_checks.specs.Checks.{check_from, has_twice, any_again, has_bit_in, have_bits, bad_twice}
use Rattle.verilog_checks.specs.Faults.{added_bits, vector_bits_from, range_in, bad_number, instances_named, instance_names, pins_in, scalars_in, scalars, is_badly_listed, has_direction, bad_select, is_bad_number, is_bad_select, differ_in_width}
use Rattle.verilog_checks.proofs.AnyLemmas.{any_none}
use Rattle.def_syntax.proofs.FrameLaws.{each_append, each_front}
use Rattle.made_law.proofs.designs.Rising.{Rising}

-- a declaration of no vector
abbrev pub IsScalar : Declaration → Type 0
IsScalar d = d.bounds ≡ None

-- an item that is a name
abbrev pub IsPlain : Item → Type 0
IsPlain items.Open = ⊥
IsPlain items.Comma = ⊥
IsPlain items.Close = ⊥
IsPlain (items.Name name) = Unit {0}
IsPlain (items.Bit name index) = ⊥
IsPlain (items.Part name left right) = ⊥
IsPlain (items.Constant text) = ⊥

-- both sides of an assign are one name
abbrev pub IsEven : Statement → Type 0
IsEven (Module name ports) = Unit {0}
IsEven (Declare kind range names) = Unit {0}
IsEven (Assign left right) = (a : List ℕ) × (b : List ℕ) × (left.items ≡ items.Name a ∷ []) × (right.items ≡ items.Name b ∷ [])
IsEven (Instance cell name connections) = Unit {0}

-- what the checks ask of one statement, where these are declared and these are the header's ports
pub record IsFine (ds : List Declaration) (ports : List (List ℕ)) (p : Placed) : Type 0 where
  pub range : range_in p.statement ≡ None
  pub items : Each IsPlain (items_in p.statement)
  pub scalar : Each IsScalar (declarations_in p.statement)
  pub ports_once : has_twice (ports_in p.statement) ≡ false
  pub pins_once : has_twice (pins_in p.statement) ≡ false
  pub even : IsEven p.statement
  pub directed : list_any (λ port. not (has_direction ds port)) (ports_in p.statement) ≡ false
  pub listed : list_any (is_badly_listed ports) (declarations_in p.statement) ≡ false
  pub declared : undeclared_in ds (mentions_in p.statement) ≡ []

each_member : {X : Type 0} (P : X → Type 0) (xs ys : List X) (y : X) → Each P (xs ++ y ∷ ys) → P y
each_member P [] ys y e = e.0
each_member P (x ∷ xs) ys y e = each_member P xs ys y e.1

-- scalars
pub no_bounds : (name : List ℕ) (ds : List Declaration) → Each IsScalar ds → bounds_in ds name ≡ None
no_bounds name [] e = refl
no_bounds name (d ∷ ds) e =
    let cases : (t : Bool) → is_named name d ≡ t → bounds_in (d ∷ ds) name ≡ None
    = λ t. elim t as (λ t. is_named name d ≡ t → bounds_in (d ∷ ds) name ≡ None) [
      | true ↦ λ is. rw is e.0
      | false ↦ λ is. rw is (no_bounds name ds e.1)
    ]
    in cases (is_named name d) refl

no_vectors : (before ds : List Declaration) → Each IsScalar ds → vector_bits_from before ds ≡ 0
unfolding vector_bits_from
no_vectors before [] e = refl
no_vectors before (d ∷ ds) e =
    let first : added_bits before d d.bounds ≡ 0 = ap (added_bits before d) e.0 in
    let more = no_vectors (before ++ d ∷ []) ds e.1 in
    omega (arith, first, more)

no_bits : (vector : List ℕ) (bounds : Option Bounds) (names : List (List ℕ)) → bounds ≡ None → list_any (has_bit_in vector bounds) names ≡ false
no_bits vector bounds names e = subst (λ (b : Option Bounds). list_any (has_bit_in vector b) names ≡ false) (sym e) (any_none names)

module _ (names : List (List ℕ)) where
  no_have : (ds : List Declaration) → Each IsScalar ds → have_bits ds names ≡ false
  no_have [] e = refl
  no_have (d ∷ ds) e = let here = no_bits d.name d.bounds names e.0 in rw here (no_have ds e.1)

  no_are_in : (all ds : List Declaration) → Each IsScalar all → list_any (λ d. list_any (has_bit_in d.name (bounds_in all d.name)) names) ds ≡ false
  no_are_in all [] e = refl
  no_are_in all (d ∷ ds) e = let here = no_bits d.name (bounds_in all d.name) names (no_bounds d.name all e) in rw here (no_are_in all ds e)

-- items
no_number : (xs : List Item) → Each IsPlain xs → list_any is_bad_number xs ≡ false
no_number [] e = refl
no_number (items.Open ∷ xs) e = absurd e.0
no_number (items.Comma ∷ xs) e = absurd e.0
no_number (items.Close ∷ xs) e = absurd e.0
no_number (items.Name name ∷ xs) e = no_number xs e.1
no_number (items.Bit name index ∷ xs) e = absurd e.0
no_number (items.Part name left right ∷ xs) e = absurd e.0
no_number (items.Constant text ∷ xs) e = absurd e.0

no_select : (bounds : List ℕ → Option Bounds) (xs : List Item) → Each IsPlain xs → list_any (is_bad_select bounds) xs ≡ false
no_select bounds [] e = refl
no_select bounds (items.Open ∷ xs) e = absurd e.0
no_select bounds (items.Comma ∷ xs) e = absurd e.0
no_select bounds (items.Close ∷ xs) e = absurd e.0
no_select bounds (items.Name name ∷ xs) e = no_select bounds xs e.1
no_select bounds (items.Bit name index ∷ xs) e = absurd e.0
no_select bounds (items.Part name left right ∷ xs) e = absurd e.0
no_select bounds (items.Constant text ∷ xs) e = absurd e.0

no_difference : (ds : List Declaration) (s : Statement) → Each IsScalar ds → IsEven s → differ_in_width (bounds_in ds) s ≡ false
no_difference ds (Module name ports) e even = refl
no_difference ds (Declare kind range names) e even = refl
no_difference ds (Assign left right) e (a, b, l, r) =
    let m = no_bounds (unescaped a) ds e in
    let k = no_bounds (unescaped b) ds e in
    rw (l, r, m, k) refl
no_difference ds (Instance cell name connections) e even = refl

-- names that rise
module _ (key : List ℕ → ℕ) where
  apart : (x y : List ℕ) → (key x ≡ key y → ⊥) → bytes_eq x y ≡ false
  apart x y differ =
      let cases : (t : Bool) → bytes_eq x y ≡ t → bytes_eq x y ≡ false
      = λ t. elim t as (λ t. bytes_eq x y ≡ t → bytes_eq x y ≡ false) [
        | true ↦ λ is. absurd (differ (ap key (bytes_are x y is)))
        | false ↦ λ is. is
      ]
      in cases (bytes_eq x y) refl

  least : (a b : ℕ) (xs ys : List (List ℕ)) (y : List ℕ) → Rising key a (xs ++ y ∷ ys) b → a ≤ key y
  least a b [] ys y h = h.0
  least a b (x ∷ xs) ys y h = let below = h.0 in let above = least (key x + 1) b xs ys y h.1 in omega arith

  pub has_none : (a b : ℕ) (xs ys : List (List ℕ)) (y : List ℕ) → Rising key a (xs ++ y ∷ ys) b → has xs y ≡ false
  has_none a b [] ys y h = refl
  has_none a b (x ∷ xs) ys y h =
      let above = least (key x + 1) b xs ys y h.1 in
      let first : bytes_eq x y ≡ false = apart x y (λ e. absurd (omega (arith, above, e))) in
      rw first (has_none (key x + 1) b xs ys y h.1)

  named_none : (a b : ℕ) (before ds : List Declaration) (d : Declaration) → Rising key a (map (λ d. d.name) (before ++ d ∷ ds)) b → first_of d.name before ≡ None
  named_none a b [] ds d h = refl
  named_none a b (x ∷ before) ds d h =
      let more : Rising key (key x.name + 1) (map (λ d. d.name) before ++ d.name ∷ map (λ d. d.name) ds) b = subst (λ (l : List (List ℕ)). Rising key (key x.name + 1) l b) (map-append (λ (d : Declaration). d.name) before (d ∷ ds)) h.1 in
      let above = least (key x.name + 1) b (map (λ d. d.name) before) (map (λ d. d.name) ds) d.name more in
      let first : bytes_eq x.name d.name ≡ false = apart x.name d.name (λ e. absurd (omega (arith, above, e))) in
      rw first (named_none (key x.name + 1) b before ds d h.1)

  pub undeclared_yet : (a b : ℕ) (before ds : List Declaration) (d : Declaration) → Rising key a (map (λ d. d.name) (before ++ d ∷ ds)) b → is_declared before d.name ≡ false
  undeclared_yet a b [] ds d h = refl
  undeclared_yet a b (x ∷ before) ds d h =
      let more : Rising key (key x.name + 1) (map (λ d. d.name) before ++ d.name ∷ map (λ d. d.name) ds) b = subst (λ (l : List (List ℕ)). Rising key (key x.name + 1) l b) (map-append (λ (d : Declaration). d.name) before (d ∷ ds)) h.1 in
      let above = least (key x.name + 1) b (map (λ d. d.name) before) (map (λ d. d.name) ds) d.name more in
      let first : bytes_eq x.name d.name ≡ false = apart x.name d.name (λ e. absurd (omega (arith, above, e))) in
      rw first (undeclared_yet (key x.name + 1) b before ds d h.1)

  pub never : (a b : ℕ) (before ds rest : List Declaration) → Rising key a (map (λ d. d.name) (before ++ (ds ++ rest))) b → any_again before ds ≡ false
  unfolding any_again
  never a b before [] rest h = refl
  never a b before (d ∷ ds) rest h =
      let first = named_none a b before (ds ++ rest) d h in
      rw first (never a b (before ++ d ∷ []) ds rest (subst (λ (l : List Declaration). Rising key a (map (λ d. d.name) l) b) (sym (append_assoc before (d ∷ []) (ds ++ rest))) h))

-- all checks go through
check_ok : (bad : List Placed → Placed → Bool) (kind : Kind) (before ps : List Placed) → ((xs : List Placed) (p : Placed) (ys : List Placed) → before ++ ps ≡ xs ++ p ∷ ys → bad xs p ≡ false) → check_from bad kind before ps ≡ Ok tt
unfolding check_from
check_ok bad kind before [] good = refl
check_ok bad kind before (p ∷ ps) good =
    let here : bad before p ≡ false = good before p ps refl in
    rw here (check_ok bad kind (before ++ p ∷ []) ps (λ xs q ys e. good xs q ys (sym (append_assoc before (p ∷ []) ps) ∙ e)))

module _ (ps : List Placed) (fine : Each (IsFine (declarations ps) (header_ports ps)) ps) where
  abbrev Fine : Placed → Type 0
  Fine = IsFine (declarations ps) (header_ports ps)

  each_scalar : (qs : List Placed) → Each Fine qs → Each IsScalar (declarations qs)
  each_scalar [] f = tt
  each_scalar (q ∷ qs) f = each_append IsScalar (declarations_in q.statement) (declarations qs) f.0.scalar (each_scalar qs f.1)

  pub all_scalar : Each IsScalar (declarations ps)
  all_scalar = each_scalar ps fine

  fine_front : (xs : List Placed) (p : Placed) (ys : List Placed) → ps ≡ xs ++ p ∷ ys → Each Fine xs
  fine_front xs p ys e = each_front Fine xs (p ∷ ys) (subst (Each Fine) e fine)

  fine_at : (xs : List Placed) (p : Placed) (ys : List Placed) → ps ≡ xs ++ p ∷ ys → Fine p
  fine_at xs p ys e = each_member Fine xs ys p (subst (Each Fine) e fine)

  pub number_ok : check_from bad_number VerilogNumber [] ps ≡ Ok tt
  unfolding bad_number
  number_ok = check_ok bad_number VerilogNumber [] ps (λ xs p ys e.
      let f = fine_at xs p ys e in
      let range = f.range in
      let number = no_number (items_in p.statement) f.items in
      let bits = no_vectors [] (declarations (xs ++ p ∷ [])) (each_scalar (xs ++ p ∷ []) (each_append Fine xs (p ∷ []) (fine_front xs p ys e) (f, tt))) in
      rw (range, number, bits) refl)

  pub select_ok : check_from (λ before p. bad_select ps p) BadSelect [] ps ≡ Ok tt
  unfolding bad_select
  select_ok = check_ok (λ before p. bad_select ps p) BadSelect [] ps (λ xs p ys e.
      let f = fine_at xs p ys e in
      let select = no_select (bounds_in (declarations ps)) (items_in p.statement) f.items in
      let widths = no_difference (declarations ps) p.statement all_scalar f.even in
      let directed = f.directed in
      let listed = f.listed in
      rw (select, widths, directed, listed) refl)

  -- an instance's name stands once
  named_once : (before : List (List ℕ)) (s : Statement) → ((name : List ℕ) → instances_named s ≡ name ∷ [] → has before name ≡ false) → list_any (has before) (instances_named s) ≡ false
  named_once before (Module name ports) once = refl
  named_once before (Declare kind range names) once = refl
  named_once before (Assign left right) once = refl
  named_once before (Instance cell name connections) once = let e = once (unescaped name) refl in rw e refl

  pub twice_ok : (key unit_key : List ℕ → ℕ) (a b c d : ℕ) → Rising key a (map (λ d. d.name) (declarations ps)) b → Rising unit_key c (instance_names ps) d
      → check_from (bad_twice ps) VerilogTwice [] ps ≡ Ok tt
  unfolding bad_twice
  twice_ok key unit_key a b c d names units = check_ok (bad_twice ps) VerilogTwice [] ps (λ xs p ys e.
      let f = fine_at xs p ys e in
      let before = each_scalar xs (fine_front xs p ys e) in
      let ports = f.ports_once in
      let pins = f.pins_once in
      let split : declarations ps ≡ declarations xs ++ (declarations_in p.statement ++ declarations ys) = ap declarations e ∙ flat_map-append (λ p. declarations_in p.statement) xs (p ∷ ys) in
      let again = never key a b (declarations xs) (declarations_in p.statement) (declarations ys) (subst (λ (l : List Declaration). Rising key a (map (λ d. d.name) l) b) split names) in
      let parts : instance_names ps ≡ instance_names xs ++ (instances_named p.statement ++ instance_names ys) = ap instance_names e ∙ flat_map-append (λ p. instances_named p.statement) xs (p ∷ ys) in
      let instance = named_once (instance_names xs) p.statement (λ name is. has_none unit_key c d (instance_names xs) (instance_names ys) name (subst (λ (l : List (List ℕ)). Rising unit_key c l d) (parts ∙ ap (λ (l : List (List ℕ)). instance_names xs ++ (l ++ instance_names ys)) is) units)) in
      let are = no_are_in (scalars_in (declarations ps) p.statement) (declarations xs) (declarations xs) before in
      let have = no_have (scalars (declarations ps) xs) (declarations_in p.statement) f.scalar in
      rw (ports, again, instance, pins, are, have) refl)
