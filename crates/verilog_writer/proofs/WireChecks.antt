-- Statements with wires in front and assigns behind pass the checks, where the statements do.
use Rattle.std.proofs.Common.{◌≡◌, ℕ, ◌+◌, ◌≤◌, Bool, true, false, cond, not, nat_lt, ◌&&◌, ◌||◌, ◌⊎◌, inl, inr, ⊎_elim, List, [], ◌∷◌, ◌++◌, map, Option, Some, None, Ok, refl, sym, ap, ap₂, ◌∙◌, subst, append_assoc, arith}
use Rattle.std.specs.List.{flat_map, list_any, AllByRecursion as Each}
use Rattle.std.specs.Str.{bytes_eq}
use Rattle.std.proofs.lemmas.Bool.{false≢true, or_parts, or_from}
use Rattle.std.proofs.lemmas.Bool.Decides.{nat_tests}
use Rattle.std.proofs.lemmas.List.{append-nil}
use Rattle.std.proofs.lemmas.List.Concat.{flat_map-append}
use Rattle.std.proofs.lemmas.List.Folds.{list_any-append}
use Rattle.verilog_syntax.specs.Seams.{is_identifier}
use Rattle.base_types.specs.declared.kind.Kind.TheVariants.{VerilogNumber, VerilogTwice, BadSelect}
use Rattle.verilog_syntax.specs.declared.statement.Statement.{Statement}
use Rattle.verilog_syntax.specs.declared.reading.Placed.{Placed}
use Rattle.verilog_syntax.specs.StatementParts.{is_header}
use Rattle.verilog_names.specs.declared.bounds.Bounds.{Bounds}
use Rattle.verilog_names.specs.Declarations.{Declaration, declarations_in, declarations, is_named, is_declared, bounds_in, is_port_kind, ports_in, header_ports, has, items_in, mentions_in, mentions}
use Rattle.verilog_checks.specs.Checks.{check_number, check_twice, check_select, has_twice, any_again, has_bit_in, bad_twice}
use Rattle.verilog_checks.specs.Faults.{is_bad_number, is_bad_range, range_in, vector_bits_from, vector_bits, bad_number, instances_named, instance_names, pins_in, is_bad_select, has_direction, is_badly_listed, differ_in_width, bad_select}
use Rattle.verilog_reader.specs.Numbering.{entries}
use Rattle.verilog_reader.proofs.Checked.{Passes, passes, IsSound, mentioned_named, declared_named, each_left, each_right}
use Rattle.verilog_reader.proofs.Distinct.{Distinct, each_weaker, each_append}
use Rattle.verilog_reader.proofs.NetlistOf.{sounds}
use Rattle.verilog_reader.proofs.Places.{named, bounds_are}
use Rattle.verilog_reader.proofs.PortNames.{again-append, declarations_push, all_again}
use Rattle.verilog_reader.proofs.ScalarNames.{clear}
use Rattle.verilog_writer.specs.Inserted.{BitAssign, wire_statement, assign_statement, extended, IsPlainName}
use Rattle.verilog_writer.proofs.KeptChecks.{passed_all, steady, Steady, IsScalar, are_scalars, AreBefore, IsOnce, is_once, once_again, one_more}
use Rattle.verilog_writer.proofs.KeptFrames.{IsAlike}
use Rattle.verilog_writer.proofs.WireNames.{IsNew, wire_of, skip_bounds, same_bits, again_same, no_bit_of, wire_bounds, wire_member}
use Rattle.verilog_writer.proofs.WireParts.{IsNearAssign, wires_none, ports_more, declared_more, known_skip, bounds_same, named_back, sound_more}

-- a test of each statement alone
each_passes : (bad : Placed → Bool) (before ps : List Placed) → Each (λ (p : Placed). bad p ≡ false) ps → Passes (λ before p. bad p) before ps
each_passes bad before [] each = tt
each_passes bad before (p ∷ ps) each = (each.0, each_passes bad (before ++ p ∷ []) ps each.1)

passes_each : (bad : Placed → Bool) (before ps : List Placed) → Passes (λ before p. bad p) before ps → Each (λ (p : Placed). bad p ≡ false) ps
passes_each bad before [] pass = tt
passes_each bad before (p ∷ ps) pass = (pass.0, passes_each bad (before ++ p ∷ []) ps pass.1)

-- bits of vectors
bits_append : (before xs ys : List Declaration) → vector_bits_from before (xs ++ ys) ≡ vector_bits_from before xs + vector_bits_from (before ++ xs) ys
unfolding vector_bits_from
bits_append before [] ys = let e : vector_bits_from before ys ≡ 0 + vector_bits_from before ys = omega arith in e ∙ ap (λ (l : List Declaration). 0 + vector_bits_from l ys) (sym (append-nil before))
bits_append before (x ∷ xs) ys =
    let more = bits_append (before ++ x ∷ []) xs ys in
    let cut = ap (λ (l : List Declaration). vector_bits_from l ys) (append_assoc before (x ∷ []) xs) in
    omega (arith, more, cut)

small_front : (all xs ys : List Declaration) → all ≡ xs ++ ys → nat_lt 16777216 (vector_bits all) ≡ false → nat_lt 16777216 (vector_bits xs) ≡ false
small_front all xs ys is small =
    let cut = bits_append [] xs ys in
    let whole : vector_bits all ≡ vector_bits xs + vector_bits_from xs ys = ap vector_bits is ∙ cut in
    below (vector_bits all) (vector_bits xs) (vector_bits_from xs ys) whole small
  where
    below : (a b c : ℕ) → a ≡ b + c → nat_lt 16777216 a ≡ false → nat_lt 16777216 b ≡ false
    below a b c e s = grind (arith, nat_tests)

all_small : (before ps : List Placed) → nat_lt 16777216 (vector_bits (declarations before)) ≡ false → Passes bad_number before ps → nat_lt 16777216 (vector_bits (declarations (before ++ ps))) ≡ false
unfolding bad_number
all_small before [] small pass = subst (λ (l : List Placed). nat_lt 16777216 (vector_bits (declarations l)) ≡ false) (sym (append-nil before)) small
all_small before (p ∷ ps) small pass =
    let last = (or_parts (is_bad_range (range_in p.statement) || list_any is_bad_number (items_in p.statement)) (nat_lt 16777216 (vector_bits (declarations (before ++ p ∷ [])))) pass.0).1 in
    subst (λ (l : List Placed). nat_lt 16777216 (vector_bits (declarations l)) ≡ false) (append_assoc before (p ∷ []) ps) (all_small (before ++ p ∷ []) ps last pass.1)

number_from : (all before ps : List Placed) → before ++ ps ≡ all → nat_lt 16777216 (vector_bits (declarations all)) ≡ false → Each (λ (p : Placed). IsSound all p.statement) ps → Passes bad_number before ps
unfolding bad_number
number_from all before [] is small sound = tt
number_from all before (p ∷ ps) is small sound =
    let next : (before ++ p ∷ []) ++ ps ≡ all = append_assoc before (p ∷ []) ps ∙ is in
    let cut : declarations all ≡ declarations (before ++ p ∷ []) ++ declarations ps = ap declarations (sym next) ∙ flat_map-append (λ (p : Placed). declarations_in p.statement) (before ++ p ∷ []) ps in (
      or_from (is_bad_range (range_in p.statement) || list_any is_bad_number (items_in p.statement)) (nat_lt 16777216 (vector_bits (declarations (before ++ p ∷ []))))
          (or_from (is_bad_range (range_in p.statement)) (list_any is_bad_number (items_in p.statement)) sound.0.range sound.0.number)
          (small_front (declarations all) (declarations (before ++ p ∷ [])) (declarations ps) cut small),
      number_from all (before ++ p ∷ []) ps next small sound.1,
    )

-- ports and directions
abbrev PortsFit : List Placed → Placed → Type 0
PortsFit all p =
    (list_any (λ port. not (has_direction (declarations all) port)) (ports_in p.statement) ≡ false) × (list_any (is_badly_listed (header_ports all)) (declarations_in p.statement) ≡ false)

ports_fit : (all : List Placed) (p : Placed) → bad_select all p ≡ false → PortsFit all p
unfolding bad_select
ports_fit all p is =
    let ds = declarations all in
    let a = or_parts (list_any (is_bad_select (bounds_in ds)) (items_in p.statement) || differ_in_width (bounds_in ds) p.statement || list_any (λ port. not (has_direction ds port)) (ports_in p.statement))
    (list_any (is_badly_listed (header_ports all)) (declarations_in p.statement)) is in
    let b = or_parts (list_any (is_bad_select (bounds_in ds)) (items_in p.statement) || differ_in_width (bounds_in ds) p.statement) (list_any (λ port. not (has_direction ds port)) (ports_in p.statement)) a.0 in
    (b.1, a.1)

fits_select : (all : List Placed) (p : Placed) → IsSound all p.statement → PortsFit all p → bad_select all p ≡ false
unfolding bad_select
fits_select all p sound fit =
    let ds = declarations all in
    or_from (list_any (is_bad_select (bounds_in ds)) (items_in p.statement) || differ_in_width (bounds_in ds) p.statement || list_any (λ port. not (has_direction ds port)) (ports_in p.statement))
    (list_any (is_badly_listed (header_ports all)) (declarations_in p.statement))
    (or_from (list_any (is_bad_select (bounds_in ds)) (items_in p.statement) || differ_in_width (bounds_in ds) p.statement) (list_any (λ port. not (has_direction ds port)) (ports_in p.statement))
    (or_from (list_any (is_bad_select (bounds_in ds)) (items_in p.statement)) (differ_in_width (bounds_in ds) p.statement) sound.select sound.widths) fit.0) fit.1

selects_fit : (all : List Placed) (ps : List Placed) → Each (λ (p : Placed). IsSound all p.statement) ps → Each (PortsFit all) ps → Each (λ (p : Placed). bad_select all p ≡ false) ps
selects_fit all [] sound fit = tt
selects_fit all (p ∷ ps) sound fit = (fits_select all p sound.0 fit.0, selects_fit all ps sound.1 fit.1)

any_false : {X : Type 0} (f g : X → Bool) (xs : List X) → ((x : X) → f x ≡ g x) → list_any g xs ≡ false → list_any f xs ≡ false
any_false f g [] same none = refl
any_false f g (x ∷ xs) same none = let both = or_parts (g x) (list_any g xs) none in or_from (f x) (list_any f xs) (same x ∙ both.0) (any_false f g xs same both.1)

-- one statement is alike itself
alike_itself : (s : Statement) → IsAlike s s
alike_itself s = record { declarations = refl; range = refl; ports = refl; instances = refl; pins = refl; module_is = refl }

-- what is once in a statement, beside the instances before it
record IsOnceHere (before : List Placed) (p : Placed) : Type 0 where
  ports : has_twice (ports_in p.statement) ≡ false
  instances : list_any (has (instance_names before)) (instances_named p.statement) ≡ false
  pins : has_twice (pins_in p.statement) ≡ false

abbrev OnceFrom : List Placed → List Placed → Type 0
OnceFrom before [] = Unit {0}
OnceFrom before (p ∷ ps) = IsOnceHere before p × OnceFrom (before ++ p ∷ []) ps

once_append : (before xs ys : List Placed) → OnceFrom before xs → OnceFrom (before ++ xs) ys → OnceFrom before (xs ++ ys)
once_append before [] ys a b = subst (λ (l : List Placed). OnceFrom l ys) (append-nil before) b
once_append before (x ∷ xs) ys a b = (a.0, once_append (before ++ x ∷ []) xs ys a.1 (subst (λ (l : List Placed). OnceFrom l ys) (sym (append_assoc before (x ∷ []) xs)) b))

once_wires : (before : List Placed) (names : List (List ℕ)) → OnceFrom before (map wire_statement names)
once_wires before [] = tt
once_wires before (name ∷ names) = (record { ports = refl; instances = refl; pins = refl }, once_wires (before ++ wire_statement name ∷ []) names)

once_assigns : (before : List Placed) (all : List BitAssign) → OnceFrom before (map assign_statement all)
once_assigns before [] = tt
once_assigns before (a ∷ all) = (record { ports = refl; instances = refl; pins = refl }, once_assigns (before ++ assign_statement a ∷ []) all)

instances_push : (before : List Placed) (p : Placed) → instance_names (before ++ p ∷ []) ≡ instance_names before ++ instances_named p.statement
instances_push before p =
    flat_map-append (λ (p : Placed). instances_named p.statement) before (p ∷ []) ∙ ap (λ (l : List (List ℕ)). instance_names before ++ l) (append-nil (instances_named p.statement))

-- a scalar net is no bit of a vector
abbrev IsClear : List Placed → Type 0
IsClear ps = (s v : List ℕ) → IsScalar ps s → has_bit_in v (bounds_in (declarations ps) v) s ≡ false

clear_of : (ps : List Placed) → Passes (bad_twice ps) [] ps → IsClear ps
clear_of ps pass s v scalar = sym (ap (λ (b : Option Bounds). has_bit_in v b s) (bounds_are ps v)) ∙ clear ps pass s v scalar.there (bounds_are ps s ∙ scalar.none)

once_old : (all : List Placed) (free : IsClear all) (before now ps : List Placed) → instance_names now ≡ instance_names before → Passes (bad_twice all) before ps → OnceFrom now ps
once_old all free before now [] same pass = tt
once_old all free before now (p ∷ ps) same pass =
    let once = is_once all free before p pass.0 in (
      record { ports = once.ports; instances = ap (λ (ns : List (List ℕ)). list_any (has ns) (instances_named p.statement)) same ∙ once.instances; pins = once.pins },
      once_old all free (before ++ p ∷ []) (now ++ p ∷ []) ps (instances_push now p ∙ ap (λ (l : List (List ℕ)). l ++ instances_named p.statement) same ∙ sym (instances_push before p)) pass.1,
    )

-- the check of names, from what holds of all statements together
module _ (all : List Placed) (free : IsClear all) (again : any_again [] (declarations all) ≡ false) where
  same_all : Each (Steady (declarations all)) (declarations all)
  same_all = steady [] (declarations all) again

  again_at : (before : List Placed) (p : Placed) (ps : List Placed) → before ++ p ∷ ps ≡ all → any_again (declarations before) (declarations_in p.statement) ≡ false
  again_at before p ps is =
      let cut : declarations all ≡ declarations before ++ (declarations_in p.statement ++ declarations ps) = ap declarations (sym is) ∙ flat_map-append (λ (p : Placed). declarations_in p.statement) before (p ∷ ps) in
      let a = or_parts (any_again [] (declarations before)) (any_again (declarations before) (declarations_in p.statement ++ declarations ps))
      (sym (again-append [] (declarations before) (declarations_in p.statement ++ declarations ps)) ∙ ap (any_again []) (sym cut) ∙ again) in
      (or_parts (any_again (declarations before) (declarations_in p.statement)) (any_again (declarations before ++ declarations_in p.statement) (declarations ps))
      (sym (again-append (declarations before) (declarations_in p.statement) (declarations ps)) ∙ a.1)).0

  twice_from : (before ps : List Placed) → before ++ ps ≡ all → AreBefore all free before before → OnceFrom before ps → Each (Steady (declarations all)) (declarations ps)
      → Each (λ d. named (entries all) d.name ≡ true) (declarations ps) → Each (λ q. named (entries all) q ≡ true) (mentions ps) → Passes (bad_twice all) before ps
  twice_from before [] is known once same there mentioned = tt
  twice_from before (p ∷ ps) is known once same there mentioned =
      let P = λ (q : List ℕ). named (entries all) q ≡ true in
      let D = λ (d : Declaration). named (entries all) d.name ≡ true in
      let S = Steady (declarations all) in
      let like = alike_itself p.statement in
      let mine = each_left S (declarations_in p.statement) (declarations ps) same in
      let scalar = are_scalars all p.statement p.statement like mine (each_left D (declarations_in p.statement) (declarations ps) there) (each_left P (mentions_in p.statement) (mentions ps) mentioned) in
      let here : IsOnce all free before p = record { ports = once.0.ports; again = again_at before p ps is; instances = once.0.instances; pins = once.0.pins } in (
        once_again all free all before before p p refl known like here mine scalar,
        twice_from (before ++ p ∷ []) ps (append_assoc before (p ∷ []) ps ∙ is) (one_more all free before before p p known like here mine scalar) once.1
            (each_right S (declarations_in p.statement) (declarations ps) same) (each_right D (declarations_in p.statement) (declarations ps) there) (each_right P (mentions_in p.statement) (mentions ps) mentioned),
      )

no_bits : nat_lt 16777216 (vector_bits []) ≡ false
unfolding vector_bits_from
no_bits = refl

module _ (h : Placed) (body : List Placed) (header : is_header h.statement ≡ true) (names : List (List ℕ)) (assigns : List BitAssign) (news : Each (IsNew (h ∷ body)) names) (near : Each (IsNearAssign (h ∷ body) names) assigns)
    (number : check_number (h ∷ body) ≡ Ok tt) (twice : check_twice (h ∷ body) ≡ Ok tt) (select : check_select (h ∷ body) ≡ Ok tt) where
  abbrev ps : List Placed
  ps = h ∷ body

  abbrev more : List Placed
  more = extended names assigns (h ∷ body)

  abbrev ws : List Declaration
  ws = map wire_of names

  -- all statements are sound
  pub sound : Each (λ (q : Placed). IsSound more q.statement) more
  sound = sound_more h body header names assigns news (sounds ps number select) near

  small : nat_lt 16777216 (vector_bits (declarations more)) ≡ false
  small =
      ap (λ (ds : List Declaration). nat_lt 16777216 (vector_bits ds)) (declared_more h body header names assigns news)
      ∙ ap (nat_lt 16777216) (same_bits names (declarations ps))
      ∙ all_small [] ps no_bits (passes bad_number VerilogNumber [] ps number)

  pub number_more : check_number more ≡ Ok tt
  number_more = passed_all bad_number VerilogNumber [] more (number_from more [] more refl small sound)

  -- directions
  no_direction : (q : List ℕ) (all : List (List ℕ)) → has_direction (map wire_of all) q ≡ false
  no_direction q [] = refl
  no_direction q (name ∷ all) = by (bytes_eq name q) (no_direction q all)
    where
      by : (t : Bool) → has_direction (map wire_of all) q ≡ false → ((t && false) || has_direction (map wire_of all) q) ≡ false
      by true none = none
      by false none = none

  direction_same : (q : List ℕ) → has_direction (declarations more) q ≡ has_direction (declarations ps) q
  direction_same q =
      ap (λ (ds : List Declaration). has_direction ds q) (declared_more h body header names assigns news) ∙ list_any-append _ ws (declarations ps)
      ∙ ap (λ (t : Bool). t || has_direction (declarations ps) q) (no_direction q names)

  fit_old : (qs : List Placed) → Each (λ (q : Placed). bad_select ps q ≡ false) qs → Each (PortsFit more) qs
  fit_old [] pass = tt
  fit_old (q ∷ qs) pass =
      let fit = ports_fit ps q pass.0 in (
        (
          any_false (λ port. not (has_direction (declarations more) port)) (λ port. not (has_direction (declarations ps) port)) (ports_in q.statement) (λ port. ap not (direction_same port)) fit.0,
          ap (λ (l : List (List ℕ)). list_any (is_badly_listed l) (declarations_in q.statement)) (ports_more h body header names assigns) ∙ fit.1,
        ),
        fit_old qs pass.1,
      )

  fit_wires : (all : List (List ℕ)) → Each (PortsFit more) (map wire_statement all)
  fit_wires [] = tt
  fit_wires (name ∷ all) = ((refl, refl), fit_wires all)

  fit_assigns : (all : List BitAssign) → Each (PortsFit more) (map assign_statement all)
  fit_assigns [] = tt
  fit_assigns (a ∷ all) = ((refl, refl), fit_assigns all)

  pub select_more : check_select more ≡ Ok tt
  select_more =
      let olds = fit_old ps (passes_each (bad_select ps) [] ps (passes (λ before p. bad_select ps p) BadSelect [] ps select)) in
      let fit : Each (PortsFit more) more = (
        olds.0,
        each_append (PortsFit more) (map wire_statement names) (body ++ map assign_statement assigns) (fit_wires names)
            (each_append (PortsFit more) body (map assign_statement assigns) olds.1 (fit_assigns assigns)),
      ) in
      passed_all (λ before p. bad_select more p) BadSelect [] more (each_passes (bad_select more) [] more (selects_fit more more sound fit))

  -- names
  pass : Passes (bad_twice ps) [] ps
  pass = passes (bad_twice ps) VerilogTwice [] ps twice

  free_old : (s v : List ℕ) → IsScalar ps s → has_bit_in v (bounds_in (declarations more) v) s ≡ false
  free_old s v scalar = by (is_declared ws v) refl
    where
      by : (t : Bool) → is_declared ws v ≡ t → has_bit_in v (bounds_in (declarations more) v) s ≡ false
      by true wire = ap (λ (b : Option Bounds). has_bit_in v b s) (ap (λ (ds : List Declaration). bounds_in ds v) (declared_more h body header names assigns news) ∙ wire_bounds v names (declarations ps) wire)
      by false other =
          ap (λ (b : Option Bounds). has_bit_in v b s) (ap (λ (ds : List Declaration). bounds_in ds v) (declared_more h body header names assigns news) ∙ skip_bounds v ws (declarations ps) other)
          ∙ clear_of ps pass s v scalar

  free : IsClear more
  free s v scalar = by (is_declared ws s) refl
    where
      by : (t : Bool) → is_declared ws s ≡ t → has_bit_in v (bounds_in (declarations more) v) s ≡ false
      by true wire = no_bit_of v s (bounds_in (declarations more) v) (wire_member (λ (name : List ℕ). is_identifier name ≡ true) names s (each_weaker (IsNew ps) (λ (name : List ℕ). is_identifier name ≡ true) names (λ name n. n.plain.identifier) news) wire)
      by false other =
          let there = named_back h body header names assigns news near s scalar.there other in
          free_old s v (record { there = there; none = sym (bounds_same h body header names assigns news s there) ∙ scalar.none })

  module _ (apart : Distinct names) where
    again : any_again [] (declarations more) ≡ false
    again =
        ap (any_again []) (declared_more h body header names assigns news)
        ∙ again_same names (declarations ps) apart
        (each_weaker (λ (d : Declaration). named (entries ps) d.name ≡ true) (λ (d : Declaration). is_declared ws d.name ≡ false) (declarations ps) (λ d k. known_skip h body header names assigns news d.name k) (declared_named ps))
        ∙ all_again ps [] ps pass

    once : OnceFrom [] more
    once =
        let olds = once_old ps (clear_of ps pass) [] [] ps refl pass in
        let same : instance_names (h ∷ map wire_statement names) ≡ instance_names (h ∷ []) = ap (λ (l : List (List ℕ)). instances_named h.statement ++ l) (wires_none instances_named (λ name. refl) names) in (
          olds.0,
          once_append (h ∷ []) (map wire_statement names) (body ++ map assign_statement assigns) (once_wires (h ∷ []) names)
              (once_append (h ∷ map wire_statement names) body (map assign_statement assigns) (once_old ps (clear_of ps pass) (h ∷ []) (h ∷ map wire_statement names) body same pass.1)
              (once_assigns (h ∷ (map wire_statement names ++ body)) assigns)),
        )

    pub twice_more : check_twice more ≡ Ok tt
    unfolding any_again
    twice_more =
        passed_all (bad_twice more) VerilogTwice [] more
        (twice_from more free again [] more refl (record { same = refl; instances = refl; again = refl; steady_so = tt; scalar = tt }) once (same_all more free again) (declared_named more) (mentioned_named more))
