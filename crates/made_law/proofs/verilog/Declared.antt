-- What the made Verilog declares, and that each of its statements is fine beside it.
use Rattle.std.proofs.Common.{◌≡◌, ℕ, zero, suc, ◌+◌, ◌-◌, ◌<◌, ◌≤◌, Bool, true, false, ◌||◌, if◌then◌else◌, List, [], ◌∷◌, ◌++◌, map, None, refl, sym, ap, ◌∙◌, append_assoc, codes, arith, ◌⊎◌, inl, inr}
use Rattle.std.specs.Prelude.{nat_lt}
use Rattle.std.specs.List.{flat_map, list_any, range_with_len}
use Rattle.std.specs.Fmt.{digits}
use Rattle.std.specs.List.{AllByRecursion as Each}
use Rattle.std.proofs.lemmas.Bool.Decides.{nat_tests}
use Rattle.std.proofs.lemmas.List.{append-nil}
use Rattle.std.proofs.lemmas.List.Concat.{flat_map-append}
use Rattle.std.proofs.lemmas.Bool.{cases_lt}
use Rattle.verilog_syntax.specs.declared.statement.Declared.{Declared}
use Rattle.verilog_syntax.specs.declared.statement.Declared.TheVariants.{Input, Output, Wire}
use Rattle.verilog_syntax.specs.declared.statement.Statement.{Statement}
use Rattle.verilog_syntax.specs.declared.statement.Statement.TheVariants.{Module, Declare, Assign, Instance}
use Rattle.verilog_syntax.specs.declared.reading.Placed.{Placed}
use Rattle.base_types.specs.declared.span.Span.{Span}
use Rattle.base_types.proofs.TruthValues.{or_true, bytes_same}
use Rattle.verilog_names.specs.Values.{unescaped}
use Rattle.verilog_names.specs.Declarations.{Declaration, declaration_of, declarations_in, declarations, is_named, is_declared, ports_in, header_ports}
use Rattle.verilog_checks.specs.Faults.{instances_named, instance_names, is_badly_listed}
use Rattle.design_maker.specs.Chains.{last_unit}
use Rattle.made_law.specs.Designs.Names.{unit, unit_net, in_port, out_port}
use Rattle.made_law.specs.Designs.MadeComponents.{units}
use Rattle.made_law.specs.Paths.MadeNetlist.{net_names}
use Rattle.made_law.proofs.paths.Sources.{below_eight}
use Rattle.made_law.specs.Verilog.MadeWords.{input_names, output_names, wire_names}
use Rattle.made_law.specs.Verilog.MadeModule.{instance_of, first_unit, later_unit, port_assign, made_header, made_module}
use Rattle.made_law.proofs.verilog.Placing.{Place, put_in, put_at, put_all, given, Everywhere, all_join, all_range}
use Rattle.made_law.proofs.verilog.Scalars.{IsScalar, IsFine}

-- the units in one row
abbrev pub source : ℕ → List ℕ
source i = if nat_lt i 8 then in_port i else unit_net (i - 8)

abbrev pub unit_at : ℕ → Statement
unit_at i = instance_of (unit i) (source i) (unit_net i)

abbrev pub rest_of : ℕ → List Statement
rest_of n = map unit_at (units n) ++ map (port_assign n) (range_with_len 0 8)

abbrev pub even_module : ℕ → List Statement
even_module n = made_header ∷ Declare Input None input_names ∷ Declare Output None output_names ∷ Declare Wire None (wire_names n) ∷ rest_of n

later_is : (i : ℕ) → later_unit i ≡ unit_at (i + 8)
later_is i =
    let no : nat_lt (i + 8) 8 ≡ false = grind (arith, nat_tests) in
    let same : i + 8 - 8 ≡ i = omega arith in
    rw (no, same) refl

laters : (a m : ℕ) → map later_unit (range_with_len a m) ≡ map unit_at (range_with_len (a + 8) m)
laters a zero = refl
laters a (suc m) =
    let on : a + 1 + 8 ≡ a + 8 + 1 = omega arith in
    ap (λ (s : Statement). s ∷ map later_unit (range_with_len (a + 1) m)) (later_is a) ∙ ap (λ (l : List Statement). unit_at (a + 8) ∷ l) (laters (a + 1) m ∙ ap (λ (b : ℕ). map unit_at (range_with_len b m)) on)

pub module_even : (n : ℕ) → 8 ≤ n → made_module n ≡ even_module n
module_even n le =
    let top = λ (l : List Statement). made_header ∷ Declare Input None input_names ∷ Declare Output None output_names ∷ Declare Wire None (wire_names n) ∷ l in
    let assigns = map (port_assign n) (range_with_len 0 8) in
    let all : map first_unit (range_with_len 0 8) ++ map later_unit (range_with_len 0 (n - 8)) ≡ map unit_at (units n)
    = ap (λ (l : List Statement). map unit_at (range_with_len 0 8) ++ l) (laters 0 (n - 8)) ∙ ends n le
    in
    ap top (sym (append_assoc (map first_unit (range_with_len 0 8)) (map later_unit (range_with_len 0 (n - 8))) assigns) ∙ ap (λ (l : List Statement). l ++ assigns) all)
  where
    ends : (n : ℕ) → 8 ≤ n → map unit_at (range_with_len 0 8) ++ map unit_at (range_with_len (0 + 8) (n - 8)) ≡ map unit_at (units n)
    ends (suc (suc (suc (suc (suc (suc (suc (suc m)))))))) le = let e : suc (suc (suc (suc (suc (suc (suc (suc m))))))) - 8 ≡ m = omega arith in rw e refl
    ends zero le = absurd (omega arith)
    ends (suc zero) le = absurd (omega arith)
    ends (suc (suc zero)) le = absurd (omega arith)
    ends (suc (suc (suc zero))) le = absurd (omega arith)
    ends (suc (suc (suc (suc zero)))) le = absurd (omega arith)
    ends (suc (suc (suc (suc (suc zero))))) le = absurd (omega arith)
    ends (suc (suc (suc (suc (suc (suc zero)))))) le = absurd (omega arith)
    ends (suc (suc (suc (suc (suc (suc (suc zero))))))) le = absurd (omega arith)

-- what units and assigns don't give
module _ {X : Type 0} (f : Statement → List X) (n : ℕ) where
  maps_none : (make : ℕ → Statement) → ((i : ℕ) → f (make i) ≡ []) → (is : List ℕ) → flat_map f (map make is) ≡ []
  maps_none make none [] = refl
  maps_none make none (i ∷ is) = ap (λ (l : List X). l ++ flat_map f (map make is)) (none i) ∙ maps_none make none is

  pub rest_none : ((i : ℕ) → f (unit_at i) ≡ []) → ((k : ℕ) → f (port_assign n k) ≡ []) → flat_map f (rest_of n) ≡ []
  rest_none units_none assigns_none =
      flat_map-append f (map unit_at (units n)) (map (port_assign n) (range_with_len 0 8)) ∙ ap (λ (l : List X). l ++ flat_map f (map (port_assign n) (range_with_len 0 8))) (maps_none unit_at units_none (units n))
      ∙ maps_none (port_assign n) assigns_none (range_with_len 0 8)

-- the declarations
abbrev pub ins : List Declaration
ins = map (declaration_of Input None) input_names

abbrev pub outs : List Declaration
outs = map (declaration_of Output None) output_names

abbrev pub wires : ℕ → List Declaration
wires n = map (declaration_of Wire None) (wire_names n)

abbrev pub made_declared : ℕ → List Declaration
made_declared n = ins ++ (outs ++ wires n)

abbrev pub made_ports : List (List ℕ)
made_ports = input_names ++ output_names

same_declared : (spans : ℕ → Span) (s : Statement) → declarations_in (put_in spans s) ≡ declarations_in s
same_declared spans (Module name ports) = refl
same_declared spans (Declare kind range names) = refl
same_declared spans (Assign left right) = refl
same_declared spans (Instance cell name cs) = refl

same_ports : (spans : ℕ → Span) (s : Statement) → ports_in (put_in spans s) ≡ ports_in s
same_ports spans (Module name ports) = refl
same_ports spans (Declare kind range names) = refl
same_ports spans (Assign left right) = refl
same_ports spans (Instance cell name cs) = refl

same_named : (spans : ℕ → Span) (s : Statement) → instances_named (put_in spans s) ≡ instances_named s
same_named spans (Module name ports) = refl
same_named spans (Declare kind range names) = refl
same_named spans (Assign left right) = refl
same_named spans (Instance cell name cs) = refl

pub declared_are : (at : ℕ → Place) (n : ℕ) → declarations (put_all at (even_module n)) ≡ made_declared n
declared_are at n =
    given declarations_in same_declared at (even_module n) ∙ ap (λ (l : List Declaration). ins ++ (outs ++ (wires n ++ l))) (rest_none declarations_in n (λ i. refl) (λ k. refl))
    ∙ ap (λ (l : List Declaration). ins ++ (outs ++ l)) (append-nil (wires n))

pub ports_are : (at : ℕ → Place) (n : ℕ) → header_ports (put_all at (even_module n)) ≡ made_ports
ports_are at n = given ports_in same_ports at (even_module n) ∙ ap (λ (l : List (List ℕ)). made_ports ++ l) (rest_none ports_in n (λ i. refl) (λ k. refl))

unit_names : (is : List ℕ) → flat_map instances_named (map unit_at is) ≡ map unit is
unit_names [] = refl
unit_names (i ∷ is) = ap (λ (l : List (List ℕ)). unit i ∷ l) (unit_names is)

pub instances_are : (at : ℕ → Place) (n : ℕ) → instance_names (put_all at (even_module n)) ≡ map unit (units n)
instances_are at n =
    given instances_named same_named at (even_module n) ∙ flat_map-append instances_named (map unit_at (units n)) (map (port_assign n) (range_with_len 0 8)) ∙ append-nil (flat_map instances_named (map unit_at (units n)))
    ∙ unit_names (units n)

wire_named : (is : List ℕ) → map (λ d. d.name) (map (declaration_of Wire None) (map unit_net is)) ≡ map unit_net is
wire_named [] = refl
wire_named (i ∷ is) = ap (λ (l : List (List ℕ)). unit_net i ∷ l) (wire_named is)

pub names_are : (n : ℕ) → map (λ d. d.name) (made_declared n) ≡ net_names n
names_are n = ap (λ (l : List (List ℕ)). codes "clk" ∷ codes "se" ∷ codes "d" ∷ (map in_port (range_with_len 0 8) ++ (map out_port (range_with_len 0 8) ++ l))) (wire_named (units n))

-- names that are declared
wire_declared : (a m i : ℕ) → a ≤ i → i < a + m → list_any (is_named (unit_net i)) (map (declaration_of Wire None) (map unit_net (range_with_len a m))) ≡ true
wire_declared a zero i from to = absurd (omega arith)
wire_declared a (suc m) i from to = of (λ lt. wire_declared (a + 1) m i (omega arith) (omega arith)) (cases_lt a i)
  where
    of : (a < i → list_any (is_named (unit_net i)) (map (declaration_of Wire None) (map unit_net (range_with_len (a + 1) m))) ≡ true) → (a < i) ⊎ (i ≤ a)
        → list_any (is_named (unit_net i)) (map (declaration_of Wire None) (map unit_net (range_with_len a (suc m)))) ≡ true
    of more (inl lt) = ap (λ (b : Bool). is_named (unit_net i) (declaration_of Wire None (unit_net a)) || b) (more lt) ∙ or_true _
    of more (inr le) =
        let e : a ≡ i = omega arith in
        let same : is_named (unit_net i) (declaration_of Wire None (unit_net a)) ≡ true = bytes_same (unit_net a) (unit_net i) (ap unit_net e) in
        rw same refl

pub net_declared : (n i : ℕ) → i < n → is_declared (made_declared n) (unit_net i) ≡ true
net_declared n i lt = wire_declared 0 n i (omega arith) (omega arith)

in_declared : (n k : ℕ) → k < 8 → is_declared (made_declared n) (in_port k) ≡ true
unfolding digits
in_declared n = below_eight (λ k. is_declared (made_declared n) (in_port k) ≡ true) refl refl refl refl refl refl refl refl

out_declared : (n k : ℕ) → k < 8 → is_declared (made_declared n) (out_port k) ≡ true
unfolding digits
out_declared n = below_eight (λ k. is_declared (made_declared n) (out_port k) ≡ true) refl refl refl refl refl refl refl refl

-- what the statements are beside them
each_scalar : (kind : Declared) (names : List (List ℕ)) → Each IsScalar (map (declaration_of kind None) names)
each_scalar kind [] = tt
each_scalar kind (name ∷ names) = (refl, each_scalar kind names)

wires_unlisted : (is : List ℕ) → list_any (is_badly_listed made_ports) (map (declaration_of Wire None) (map unit_net is)) ≡ false
wires_unlisted [] = refl
wires_unlisted (i ∷ is) = wires_unlisted is

module _ (n : ℕ) (some : 8 ≤ n) where
  abbrev pub Fine : Placed → Type 0
  Fine = IsFine (made_declared n) made_ports

  header_fine : (at : Place) → Fine (put_at at made_header)
  unfolding digits
  header_fine at = record { range = refl; items = tt; scalar = tt; ports_once = refl; pins_once = refl; even = tt; directed = refl; listed = refl; declared = refl }

  inputs_fine : (at : Place) → Fine (put_at at (Declare Input None input_names))
  unfolding digits
  inputs_fine at = record { range = refl; items = tt; scalar = each_scalar Input input_names; ports_once = refl; pins_once = refl; even = tt; directed = refl; listed = refl; declared = refl }

  outputs_fine : (at : Place) → Fine (put_at at (Declare Output None output_names))
  unfolding digits
  outputs_fine at = record { range = refl; items = tt; scalar = each_scalar Output output_names; ports_once = refl; pins_once = refl; even = tt; directed = refl; listed = refl; declared = refl }

  wires_fine : (at : Place) → Fine (put_at at (Declare Wire None (wire_names n)))
  wires_fine at = record { range = refl; items = tt; scalar = each_scalar Wire (wire_names n); ports_once = refl; pins_once = refl; even = tt; directed = refl; listed = wires_unlisted (units n); declared = refl }

  instance_fine : (name from to : List ℕ) (at : Place) → is_declared (made_declared n) (unescaped from) ≡ true → is_declared (made_declared n) (unescaped to) ≡ true → Fine (put_at at (instance_of name from to))
  instance_fine name from to at f t = record { range = refl; items = (tt, (tt, (tt, (tt, (tt, tt))))); scalar = tt; ports_once = refl; pins_once = refl; even = tt; directed = refl; listed = refl; declared = rw (f, t) refl }

  source_declared : (i : ℕ) → i < n → is_declared (made_declared n) (unescaped (source i)) ≡ true
  source_declared i lt = of (nat_lt i 8) refl
    where
      of : (b : Bool) → nat_lt i 8 ≡ b → is_declared (made_declared n) (unescaped (if b then in_port i else unit_net (i - 8))) ≡ true
      of true e = let low : i < 8 = grind (arith, nat_tests) in in_declared n i low
      of false e = net_declared n (i - 8) (omega arith)

  unit_fine : (i : ℕ) → 0 ≤ i → i < 0 + n → (at : Place) → Fine (put_at at (unit_at i))
  unit_fine i from to at = instance_fine (unit i) (source i) (unit_net i) at (source_declared i (omega arith)) (net_declared n i (omega arith))

  last_low : (k : ℕ) → k < 8 → last_unit n k < n
  last_low k lt = omega arith

  assign_fine : (k : ℕ) → 0 ≤ k → k < 0 + 8 → (at : Place) → Fine (put_at at (port_assign n k))
  assign_fine k from to at =
      let f = out_declared n k (omega arith) in
      let t = net_declared n (last_unit n k) (last_low k (omega arith)) in
      record { range = refl; items = (tt, (tt, tt)); scalar = tt; ports_once = refl; pins_once = refl; even = (out_port k, unit_net (last_unit n k), refl, refl); directed = refl; listed = refl; declared = rw (f, t) refl }

  pub all_fine : Everywhere Fine (even_module n)
  all_fine = (
    header_fine,
    (
      inputs_fine,
      (outputs_fine, (wires_fine, all_join Fine (map unit_at (units n)) (map (port_assign n) (range_with_len 0 8)) (all_range Fine unit_at 0 n unit_fine) (all_range Fine (port_assign n) 0 8 assign_fine))),
    ),
  )
