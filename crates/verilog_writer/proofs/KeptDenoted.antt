-- What stands by names in the netlist of a text with edits: its ports and its declared nets.
use Rattle.std.proofs.Common.{◌≡◌, ℕ, suc, ◌+◌, List, [], ◌∷◌, ◌++◌, length, map, take, Option, refl, sym, ap, ap₂, ◌∙◌}
use Rattle.std.specs.List.{flat_map}
use Rattle.std.proofs.lemmas.List.{map-append, length-map}
use Rattle.std.proofs.lemmas.List.Concat.{flat_map-append}
use Rattle.netlist_core.specs.declared.netlist.Direction.{Direction}
use Rattle.netlist_core.specs.declared.netlist.NetName.{NetName}
use Rattle.netlist_core.specs.declared.netlist.Port.{Port}
use Rattle.netlist_core.specs.Netlists.{NamedPort, named_port}
use Rattle.path_links.specs.Edited.{map_from}
use Rattle.verilog_syntax.specs.declared.statement.Statement.{Statement}
use Rattle.verilog_syntax.specs.declared.reading.Placed.{Placed}
use Rattle.verilog_names.specs.declared.bounds.Bounds.{Bounds}
use Rattle.verilog_names.specs.Declarations.{Declaration, declarations_in, declarations, mentions, undeclared_in}
use Rattle.verilog_reader.specs.Denoted.{SeenPort, name_bits, directions_of, said_port, said_ports_of, said_ports, seen_port, first_declared, first_mentioned, entry_nets, declared_nets, said_nets}
use Rattle.verilog_reader.proofs.Filling.{Entries}
use Rattle.verilog_writer.specs.VerilogText.{BitEdit, changed_statement, changed_statements}
use Rattle.verilog_writer.proofs.KeptFrames.{AreAlike}

-- ports by names
abbrev strip_port : SeenPort → NamedPort
strip_port s = record { name = s.name; direction = s.direction }

abbrev port_named : Direction → List ℕ → NamedPort
port_named direction name = record { name = name; direction = direction }

abbrev pub ports_named : Declaration → List NamedPort
ports_named d = flat_map (λ direction. map (port_named direction) (name_bits d.name d.bounds)) (directions_of d.kind)

map_flat : {X Y Z : Type 0} (g : Y → Z) (f : X → List Y) (h : X → List Z) → ((x : X) → map g (f x) ≡ h x) → (xs : List X) → map g (flat_map f xs) ≡ flat_map h xs
map_flat g f h same [] = refl
map_flat {X} {Y} {Z} g f h same (x ∷ xs) = map-append g (f x) (flat_map f xs) ∙ ap₂ (λ (a b : List Z). a ++ b) (same x) (map_flat g f h same xs)

port_run : (line : ℕ) (direction : Direction) (names : List (List ℕ)) → map strip_port (map (said_port line direction) names) ≡ map (port_named direction) names
port_run line direction [] = refl
port_run line direction (name ∷ names) = ap (λ (l : List NamedPort). port_named direction name ∷ l) (port_run line direction names)

said_ports_named : (ps : List Placed) → map strip_port (said_ports ps) ≡ flat_map (λ (p : Placed). flat_map ports_named (declarations_in p.statement)) ps
said_ports_named ps =
    map_flat strip_port (λ (p : Placed). flat_map (said_ports_of p.line) (declarations_in p.statement)) (λ (p : Placed). flat_map ports_named (declarations_in p.statement))
    (λ p. map_flat strip_port (said_ports_of p.line) ports_named
    (λ d. map_flat strip_port (λ direction. map (said_port p.line direction) (name_bits d.name d.bounds)) (λ direction. map (port_named direction) (name_bits d.name d.bounds))
    (λ direction. port_run p.line direction (name_bits d.name d.bounds)) (directions_of d.kind)) (declarations_in p.statement)) ps

ports_stripped : (nets : List NetName) (all : List Port) → map (named_port nets) all ≡ map strip_port (map (seen_port nets) all)
ports_stripped nets [] = refl
ports_stripped nets (p ∷ all) = ap (λ (l : List NamedPort). named_port nets p ∷ l) (ports_stripped nets all)

pub ports_are_named : (nets : List NetName) (all : List Port) (ps : List Placed) → map (seen_port nets) all ≡ said_ports ps → map (named_port nets) all ≡ flat_map (λ (p : Placed). flat_map ports_named (declarations_in p.statement)) ps
ports_are_named nets all ps same = ports_stripped nets all ∙ ap (λ (l : List SeenPort). map strip_port l) same ∙ said_ports_named ps

pub ports_alike : (ps qs : List Placed) → AreAlike ps qs → flat_map (λ (p : Placed). flat_map ports_named (declarations_in p.statement)) qs ≡ flat_map (λ (p : Placed). flat_map ports_named (declarations_in p.statement)) ps
ports_alike [] [] are = refl
ports_alike [] (q ∷ qs) are = absurd are
ports_alike (p ∷ ps) [] are = absurd are
ports_alike (p ∷ ps) (q ∷ qs) are = ap₂ (λ (a b : List NamedPort). a ++ b) (ap (flat_map ports_named) are.0.declarations) (ports_alike ps qs are.1)

-- the declared nets
take_front : {X : Type 0} (xs ys : List X) → take (length xs) (xs ++ ys) ≡ xs
take_front [] ys = refl
take_front {X} (x ∷ xs) ys = ap (λ (l : List X). x ∷ l) (take_front xs ys)

abbrev pub nets_from : Entries → List NetName
nets_from es = flat_map (λ (e : List ℕ × Option Bounds). entry_nets e.0 e.1) es

abbrev pub plains : List NetName → List (List ℕ)
plains nets = map (λ (net : NetName). net.plain) nets

pub declared_plains : (ps : List Placed) → take (length (declared_nets ps)) (plains (said_nets ps)) ≡ plains (declared_nets ps)
declared_plains ps =
    let mentioned = first_mentioned [] (undeclared_in (declarations ps) (mentions ps)) in
    ap (λ (l : List NetName). take (length (declared_nets ps)) (plains l)) (flat_map-append (λ (e : List ℕ × Option Bounds). entry_nets e.0 e.1) (first_declared [] (declarations ps)) mentioned)
    ∙ ap₂ (λ (k : ℕ) (l : List (List ℕ)). take k l) (sym (length-map (declared_nets ps) (λ (net : NetName). net.plain))) (map-append (λ (net : NetName). net.plain) (declared_nets ps) (nets_from mentioned))
    ∙ take_front (plains (declared_nets ps)) (plains (nets_from mentioned))

pub length_map_from : {X Y : Type 0} (f : ℕ → X → Y) (k : ℕ) (xs : List X) → length (map_from f k xs) ≡ length xs
length_map_from f k [] = refl
length_map_from f k (x ∷ xs) = ap (λ (m : ℕ). suc m) (length_map_from f (k + 1) xs)

pub flat_changed : {Y : Type 0} (f : Statement → List Y) (bits : List BitEdit) (ps : List Placed) → flat_map (λ (p : Placed). f p.statement) (changed_statements bits ps) ≡ flat_map (λ (p : Placed). f (changed_statement bits p.statement)) ps
flat_changed f bits [] = refl
flat_changed {Y} f bits (p ∷ ps) = ap (λ (l : List Y). f (changed_statement bits p.statement) ++ l) (flat_changed f bits ps)
