-- The port bits of a declaration.
use Rattle.std.proofs.Common.{◌≡◌, ℕ, List, [], ◌∷◌, ◌++◌, map, Option, refl, sym, ap, ◌∙◌}
use Rattle.std.specs.List.{flat_map}
use Rattle.std.proofs.lemmas.List.{append-nil}
use Rattle.netlist_core.specs.declared.netlist.Direction.{Direction}
use Rattle.netlist_core.specs.declared.netlist.Port.{Port}
use Rattle.verilog_syntax.specs.declared.statement.Declared.{Declared}
use Rattle.verilog_syntax.specs.declared.statement.Range.{Range}
use Rattle.verilog_syntax.specs.declared.statement.Statement.{Statement}
use Rattle.verilog_syntax.specs.declared.statement.Statement.TheVariants as statements
use Rattle.verilog_names.specs.declared.bounds.Bounds.{Bounds}
use Rattle.verilog_names.specs.Values.{unescaped}
use Rattle.verilog_names.specs.Declarations.{declaration_of}
use Rattle.verilog_reader.specs.Denoted.{directions_of}
use Rattle.verilog_names.specs.NameTables.{place}
use Rattle.verilog_reader.specs.Numbering.{port_bits, numbered_ports_of, numbered_ports_in}

module _ (es : List (List ℕ × Option Bounds)) (line : ℕ) (kind : Declared) (range : Option Range) where
  -- with a direction
  pub directed : (direction : Direction) → directions_of kind ≡ direction ∷ [] → (names : List (List ℕ))
      → flat_map (λ (name : List ℕ). port_bits line direction (place es (unescaped name))) names ≡ flat_map (numbered_ports_of es line) (map (declaration_of kind range) names)
  directed direction is [] = refl
  directed direction is (name ∷ names) =
      ap (λ (rest : List Port). port_bits line direction (place es (unescaped name)) ++ rest) (directed direction is names)
      ∙ ap (λ (here : List Port). here ++ flat_map (numbered_ports_of es line) (map (declaration_of kind range) names))
      (sym (ap (λ (ds : List Direction). flat_map (λ (d : Direction). port_bits line d (place es (unescaped name))) ds) is ∙ append-nil (port_bits line direction (place es (unescaped name)))))

  -- without one
  pub undirected : directions_of kind ≡ [] → (names : List (List ℕ)) → flat_map (numbered_ports_of es line) (map (declaration_of kind range) names) ≡ []
  undirected is [] = refl
  undirected is (name ∷ names) =
      ap (λ (here : List Port). here ++ flat_map (numbered_ports_of es line) (map (declaration_of kind range) names)) (ap (λ (ds : List Direction). flat_map (λ (d : Direction). port_bits line d (place es (unescaped name))) ds) is)
      ∙ undirected is names

  -- what a loop over the names leaves
  pub with_ports : (statement : Statement) (names slice : List (List ℕ)) (direction : Direction) (old new : List Port) → statement ≡ statements.Declare kind range names → directions_of kind ≡ direction ∷ []
      → slice ≡ names → new ≡ old ++ flat_map (λ (name : List ℕ). port_bits line direction (place es (unescaped name))) slice → new ≡ old ++ numbered_ports_in es line statement
  with_ports statement names slice direction old new is one same made =
      made ∙ ap (λ (ports : List Port). old ++ ports) (directed direction one slice ∙ ap (λ (names : List (List ℕ)). flat_map (numbered_ports_of es line) (map (declaration_of kind range) names)) same
      ∙ sym (ap (numbered_ports_in es line) is))

  pub no_ports : (statement : Statement) (names : List (List ℕ)) (old : List Port) → statement ≡ statements.Declare kind range names → directions_of kind ≡ [] → old ≡ old ++ numbered_ports_in es line statement
  no_ports statement names old is none =
      sym (ap (λ (ports : List Port). old ++ ports) (ap (numbered_ports_in es line) is ∙ undirected none names) ∙ append-nil old)
