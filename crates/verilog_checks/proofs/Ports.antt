-- The names of the header and those with a direction, as a set of the code has them.
use Rattle.std.proofs.Common.{◌≡◌, ℕ, ◌+◌, ◌<◌, Bool, true, false, cond, not, ◌&&◌, ◌||◌, List, [], ◌∷◌, ◌++◌, length, map, get_or, take, Option, refl, sym, ap, ◌∙◌}
use Rattle.std.specs.List.{list_any}
use Rattle.std.specs.Str.{bytes_eq}
use Rattle.std.proofs.lemmas.List.{take_more, append-nil, map_more}
use Rattle.std.proofs.lemmas.List.Concat.{flat_map-append}
use Rattle.std.proofs.lemmas.List.Folds.{list_any-append}
use Rattle.base_types.proofs.TruthValues.{and_false}
use Rattle.verilog_syntax.specs.declared.statement.Declared.{Declared}
use Rattle.verilog_syntax.specs.declared.statement.Range.{Range}
use Rattle.verilog_syntax.specs.declared.statement.Statement.{Statement}
use Rattle.verilog_syntax.specs.declared.statement.Statement.TheVariants as statements
use Rattle.verilog_syntax.specs.declared.reading.Placed.{Placed}
use Rattle.verilog_names.specs.declared.declared.First.{First}
use Rattle.verilog_checks.specs.declared.select.Known.{Known}
use Rattle.verilog_names.specs.Values.{unescaped}
use Rattle.verilog_names.specs.Declarations.{Declaration, declaration_of, is_named, is_port_kind, bounds_in, declarations_in, declarations, ports_in, header_ports, has, items_in}
use Rattle.verilog_checks.specs.Faults.{BoundsAt, is_bad_select, differ_in_width, has_direction, is_badly_listed, bad_select}
use Rattle.verilog_names.specs.NameTables.{kept_bounds, known_bounds}
use Rattle.verilog_checks.specs.Steps.{has_key, listed_in, directed_in, IsGathered, is_bad_beside}
use Rattle.verilog_checks.specs.Seen.{Keeps}
use Rattle.verilog_checks.proofs.Firsts.{bounds_is, kept_at, declarations_more}

or_last : (b s h : Bool) → cond b true (s || h) ≡ (s || (h || (b || false)))
or_last true true h = refl
or_last true false true = refl
or_last true false false = refl
or_last false true h = refl
or_last false false true = refl
or_last false false false = refl

-- one name more
pub key_added : (s : Bool) (names : List (List ℕ)) (i : ℕ) (d name q : List ℕ) (new old : Bool) → i < length names → name ≡ unescaped (get_or names i d) → new ≡ cond (bytes_eq name q) true old
    → old ≡ (s || has (map unescaped (take i names)) q) → new ≡ (s || has (map unescaped (take (i + 1) names)) q)
key_added s names i d name q new old lt e is was =
    let front = map unescaped (take i names) in
    let last = unescaped (get_or names i d) in
    is ∙ ap (λ (t : Bool). cond (bytes_eq name q) true t) was ∙ ap (λ (n : List ℕ). cond (bytes_eq n q) true (s || has front q)) e
    ∙ or_last (bytes_eq last q) s (has front q)
    ∙ ap (λ (t : Bool). s || t) (sym (ap (λ (l : List (List ℕ)). has l q) (map_more unescaped names i d lt) ∙ list_any-append (λ other. bytes_eq other q) front (last ∷ [])))

listed_is : (s : Statement) → map unescaped (listed_in s) ≡ ports_in s
listed_is (statements.Module name ports) = refl
listed_is (statements.Declare kind range names) = refl
listed_is (statements.Assign left right) = refl
listed_is (statements.Instance cell name connections) = refl

-- one statement's ports more
pub ports_more : (ps : List Placed) (i : ℕ) (d p : Placed) (q : List ℕ) (new old : Bool) → i < length ps → p ≡ get_or ps i d → new ≡ (old || has (map unescaped (listed_in p.statement)) q) → old ≡ has (header_ports (take i ps)) q
    → new ≡ has (header_ports (take (i + 1) ps)) q
ports_more ps i d p q new old lt at is was =
    let front = header_ports (take i ps) in
    is ∙ ap (λ (t : Bool). t || has (map unescaped (listed_in p.statement)) q) was
    ∙ ap (λ (x : Placed). has front q || has (map unescaped (listed_in x.statement)) q) at
    ∙ ap (λ (l : List (List ℕ)). has front q || has l q) (listed_is (get_or ps i d).statement)
    ∙ sym (ap (λ (l : List Placed). has (header_ports l) q) (take_more ps i d lt)
    ∙ ap (λ (l : List (List ℕ)). has l q) (flat_map-append (λ (x : Placed). ports_in x.statement) (take i ps) (get_or ps i d ∷ []) ∙ ap (λ (l : List (List ℕ)). front ++ l) (append-nil (ports_in (get_or ps i d).statement)))
    ∙ list_any-append (λ other. bytes_eq other q) front (ports_in (get_or ps i d).statement))

and_true : (a : Bool) → (a && true) ≡ a
and_true true = refl
and_true false = refl

module _ (kind : Declared) (range : Option Range) where
  directed : (t : Bool) (names : List (List ℕ)) (q : List ℕ) → is_port_kind kind ≡ t → has (map unescaped (cond t names [])) q ≡ has_direction (map (declaration_of kind range) names) q
  directed true [] q is = refl
  directed false [] q is = refl
  directed true (name ∷ names) q is =
      let first = sym (ap (λ (t : Bool). bytes_eq (unescaped name) q && t) is ∙ and_true (bytes_eq (unescaped name) q)) in
      ap (λ (t : Bool). t || has (map unescaped names) q) first
      ∙ ap (λ (t : Bool). (bytes_eq (unescaped name) q && is_port_kind kind) || t) (directed true names q is)
  directed false (name ∷ names) q is =
      let first = sym (ap (λ (t : Bool). bytes_eq (unescaped name) q && t) is ∙ and_false (bytes_eq (unescaped name) q)) in
      directed false names q is ∙ ap (λ (t : Bool). t || has_direction (map (declaration_of kind range) names) q) first

  listed : (ports : List (List ℕ)) (t : Bool) (names : List (List ℕ)) → is_port_kind kind ≡ t → list_any (λ name. not (has ports (unescaped name))) (cond t names []) ≡ list_any (is_badly_listed ports) (map (declaration_of kind range) names)
  listed ports true [] is = refl
  listed ports false [] is = refl
  listed ports true (name ∷ names) is =
      ap (λ (t : Bool). (t && not (has ports (unescaped name))) || list_any (λ name. not (has ports (unescaped name))) names) (sym is)
      ∙ ap (λ (t : Bool). (is_port_kind kind && not (has ports (unescaped name))) || t) (listed ports true names is)
  listed ports false (name ∷ names) is =
      listed ports false names is
      ∙ ap (λ (t : Bool). (t && not (has ports (unescaped name))) || list_any (is_badly_listed ports) (map (declaration_of kind range) names)) (sym is)

directed_is : (s : Statement) (q : List ℕ) → has (map unescaped (directed_in s)) q ≡ has_direction (declarations_in s) q
directed_is (statements.Module name ports) q = refl
directed_is (statements.Declare kind range names) q = directed kind range (is_port_kind kind) names q refl
directed_is (statements.Assign left right) q = refl
directed_is (statements.Instance cell name connections) q = refl

badly_is : (s : Statement) (ports : List (List ℕ)) → list_any (λ name. not (has ports (unescaped name))) (directed_in s) ≡ list_any (is_badly_listed ports) (declarations_in s)
badly_is (statements.Module name ports) all = refl
badly_is (statements.Declare kind range names) all = listed kind range all (is_port_kind kind) names refl
badly_is (statements.Assign left right) all = refl
badly_is (statements.Instance cell name connections) all = refl

-- one statement's names with a direction more
pub directed_more : (ps : List Placed) (i : ℕ) (d p : Placed) (q : List ℕ) (new old : Bool) → i < length ps → p ≡ get_or ps i d → new ≡ (old || has (map unescaped (directed_in p.statement)) q) → old ≡ has_direction (declarations (take i ps)) q
    → new ≡ has_direction (declarations (take (i + 1) ps)) q
directed_more ps i d p q new old lt at is was =
    let front = declarations (take i ps) in
    is ∙ ap (λ (t : Bool). t || has (map unescaped (directed_in p.statement)) q) was
    ∙ ap (λ (x : Placed). has_direction front q || has (map unescaped (directed_in x.statement)) q) at
    ∙ ap (λ (t : Bool). has_direction front q || t) (directed_is (get_or ps i d).statement q)
    ∙ sym (ap (λ (ds : List Declaration). has_direction ds q) (declarations_more ps i d lt) ∙ list_any-append (λ (x : Declaration). is_named q x && is_port_kind x.kind) front (declarations_in (get_or ps i d).statement))

any_same : {X : Type 0} (f g : X → Bool) → ((x : X) → f x ≡ g x) → (xs : List X) → list_any f xs ≡ list_any g xs
any_same f g same [] = refl
any_same f g same (x ∷ xs) = ap (λ (t : Bool). t || list_any f xs) (same x) ∙ ap (λ (t : Bool). g x || t) (any_same f g same xs)

any_map : {X Y : Type 0} (f : Y → Bool) (h : X → Y) (xs : List X) → list_any (λ x. f (h x)) xs ≡ list_any f (map h xs)
any_map f h [] = refl
any_map f h (x ∷ xs) = ap (λ (t : Bool). f (h x) || t) (any_map f h xs)

module _ (names : List (List ℕ × First)) (known : Known) (ps : List Placed) (keeps : Keeps names (declarations ps)) (is : IsGathered known ps) where
  bounds_known : known_bounds names ≡ bounds_in (declarations ps)
  bounds_known = λ i q. (ap kept_bounds (kept_at names (declarations ps) q keeps) ∙ bounds_is (declarations ps) q) i

  lacks_direction : (s : Statement) → list_any (λ name. not (has_key known.directed (unescaped name))) (listed_in s) ≡ list_any (λ port. not (has_direction (declarations ps) port)) (ports_in s)
  lacks_direction s =
      any_same (λ name. not (has_key known.directed (unescaped name))) (λ name. not (has_direction (declarations ps) (unescaped name))) (λ name. ap not (is.directed (unescaped name))) (listed_in s)
      ∙ any_map (λ port. not (has_direction (declarations ps) port)) unescaped (listed_in s)
      ∙ ap (λ (l : List (List ℕ)). list_any (λ port. not (has_direction (declarations ps) port)) l) (listed_is s)

  lacks_port : (s : Statement) → list_any (λ name. not (has_key known.ports (unescaped name))) (directed_in s) ≡ list_any (is_badly_listed (header_ports ps)) (declarations_in s)
  lacks_port s =
      any_same (λ name. not (has_key known.ports (unescaped name))) (λ name. not (has (header_ports ps) (unescaped name))) (λ name. ap not (is.ports (unescaped name))) (directed_in s)
      ∙ badly_is s (header_ports ps)

  pub bad_is : (p : Placed) → is_bad_beside names known p.statement ≡ bad_select ps p
  unfolding bad_select
  bad_is p =
      ap (λ (bounds : BoundsAt). list_any (is_bad_select bounds) (items_in p.statement) || differ_in_width bounds p.statement
      || list_any (λ name. not (has_key known.directed (unescaped name))) (listed_in p.statement)
      || list_any (λ name. not (has_key known.ports (unescaped name))) (directed_in p.statement)) bounds_known
      ∙ ap (λ (t : Bool). list_any (is_bad_select (bounds_in (declarations ps))) (items_in p.statement) || differ_in_width (bounds_in (declarations ps)) p.statement || t
      || list_any (λ name. not (has_key known.ports (unescaped name))) (directed_in p.statement)) (lacks_direction p.statement)
      ∙ ap (λ (t : Bool). list_any (is_bad_select (bounds_in (declarations ps))) (items_in p.statement) || differ_in_width (bounds_in (declarations ps)) p.statement
      || list_any (λ port. not (has_direction (declarations ps) port)) (ports_in p.statement) || t) (lacks_port p.statement)
