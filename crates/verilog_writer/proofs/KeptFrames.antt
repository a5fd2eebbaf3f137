-- What edits leave alone in statements: all but the items of expressions.
use Rattle.std.proofs.Common.{◌≡◌, ℕ, List, [], ◌∷◌, ◌++◌, map, refl, sym, ap, ap₂, ◌∙◌}
use Rattle.std.specs.List.{flat_map}
use Rattle.verilog_syntax.specs.declared.statement.Item.{Item}
use Rattle.verilog_syntax.specs.declared.statement.Expression.{Expression}
use Rattle.verilog_syntax.specs.declared.statement.Connection.{Connection}
use Rattle.verilog_syntax.specs.declared.statement.Statement.{Statement}
use Rattle.verilog_syntax.specs.declared.statement.Statement.TheVariants as statements
use Rattle.verilog_syntax.specs.declared.reading.Placed.{Placed}
use Rattle.verilog_syntax.specs.Laws.{nowhere, bare_connection, bare_statement, bare}
use Rattle.verilog_names.specs.Values.{unescaped}
use Rattle.verilog_names.specs.Declarations.{declarations_in, declarations, ports_in, header_ports, connection_items, items_in}
use Rattle.verilog_checks.specs.Faults.{BoundsAt, range_in, instances_named, instance_names, pins_in, differ_in_width}
use Rattle.verilog_reader.specs.Denoted.{module_name, header_name}
use Rattle.verilog_writer.specs.VerilogText.{BitEdit, changed_connection, changed_statement, changed_statements}

abbrev blank : Expression
blank = record { items = []; span = nowhere }

abbrev blank_connection : Connection → Connection
blank_connection c = record { pin = c.pin; expression = blank }

-- a statement without its expressions
abbrev pub frame : Statement → Statement
frame (statements.Module name ports) = statements.Module name ports
frame (statements.Declare kind range names) = statements.Declare kind range names
frame (statements.Assign left right) = statements.Assign blank blank
frame (statements.Instance cell name connections) = statements.Instance cell name (map blank_connection connections)

bare_frames : (cs : List Connection) → map blank_connection (map bare_connection cs) ≡ map blank_connection cs
bare_frames [] = refl
bare_frames (c ∷ cs) = ap (λ (l : List Connection). blank_connection c ∷ l) (bare_frames cs)

frame_bare : (s : Statement) → frame (bare_statement s) ≡ frame s
frame_bare (statements.Module name ports) = refl
frame_bare (statements.Declare kind range names) = refl
frame_bare (statements.Assign left right) = refl
frame_bare (statements.Instance cell name connections) = ap (λ (cs : List Connection). statements.Instance cell name cs) (bare_frames connections)

changed_frames : (bits : List BitEdit) (cs : List Connection) → map blank_connection (map (changed_connection bits) cs) ≡ map blank_connection cs
changed_frames bits [] = refl
changed_frames bits (c ∷ cs) = ap (λ (l : List Connection). blank_connection c ∷ l) (changed_frames bits cs)

frame_changed : (bits : List BitEdit) (s : Statement) → frame (changed_statement bits s) ≡ frame s
frame_changed bits (statements.Module name ports) = refl
frame_changed bits (statements.Declare kind range names) = refl
frame_changed bits (statements.Assign left right) = refl
frame_changed bits (statements.Instance cell name connections) = ap (λ (cs : List Connection). statements.Instance cell name cs) (changed_frames bits connections)

-- what a frame tells
declarations_frame : (s : Statement) → declarations_in (frame s) ≡ declarations_in s
declarations_frame (statements.Module name ports) = refl
declarations_frame (statements.Declare kind range names) = refl
declarations_frame (statements.Assign left right) = refl
declarations_frame (statements.Instance cell name connections) = refl

range_frame : (s : Statement) → range_in (frame s) ≡ range_in s
range_frame (statements.Module name ports) = refl
range_frame (statements.Declare kind range names) = refl
range_frame (statements.Assign left right) = refl
range_frame (statements.Instance cell name connections) = refl

ports_frame : (s : Statement) → ports_in (frame s) ≡ ports_in s
ports_frame (statements.Module name ports) = refl
ports_frame (statements.Declare kind range names) = refl
ports_frame (statements.Assign left right) = refl
ports_frame (statements.Instance cell name connections) = refl

instances_frame : (s : Statement) → instances_named (frame s) ≡ instances_named s
instances_frame (statements.Module name ports) = refl
instances_frame (statements.Declare kind range names) = refl
instances_frame (statements.Assign left right) = refl
instances_frame (statements.Instance cell name connections) = refl

pins_blank : (cs : List Connection) → map (λ (c : Connection). unescaped c.pin) (map blank_connection cs) ≡ map (λ (c : Connection). unescaped c.pin) cs
pins_blank [] = refl
pins_blank (c ∷ cs) = ap (λ (l : List (List ℕ)). unescaped c.pin ∷ l) (pins_blank cs)

pins_frame : (s : Statement) → pins_in (frame s) ≡ pins_in s
pins_frame (statements.Module name ports) = refl
pins_frame (statements.Declare kind range names) = refl
pins_frame (statements.Assign left right) = refl
pins_frame (statements.Instance cell name connections) = pins_blank connections

module_frame : (s : Statement) → module_name (frame s) ≡ module_name s
module_frame (statements.Module name ports) = refl
module_frame (statements.Declare kind range names) = refl
module_frame (statements.Assign left right) = refl
module_frame (statements.Instance cell name connections) = refl

-- two statements with one frame
pub record IsAlike (s t : Statement) : Type 0 where
  pub declarations : declarations_in t ≡ declarations_in s
  pub range : range_in t ≡ range_in s
  pub ports : ports_in t ≡ ports_in s
  pub instances : instances_named t ≡ instances_named s
  pub pins : pins_in t ≡ pins_in s
  pub module_is : module_name t ≡ module_name s

alike_one : (s t : Statement) → frame t ≡ frame s → IsAlike s t
alike_one s t e = record {
  declarations = sym (declarations_frame t) ∙ ap declarations_in e ∙ declarations_frame s;
  range = sym (range_frame t) ∙ ap range_in e ∙ range_frame s;
  ports = sym (ports_frame t) ∙ ap ports_in e ∙ ports_frame s;
  instances = sym (instances_frame t) ∙ ap instances_named e ∙ instances_frame s;
  pins = sym (pins_frame t) ∙ ap pins_in e ∙ pins_frame s;
  module_is = sym (module_frame t) ∙ ap module_name e ∙ module_frame s;
}

abbrev pub AreAlike : List Placed → List Placed → Type 0
AreAlike [] [] = Unit {0}
AreAlike [] (q ∷ qs) = ⊥
AreAlike (p ∷ ps) [] = ⊥
AreAlike (p ∷ ps) (q ∷ qs) = IsAlike p.statement q.statement × AreAlike ps qs

pub alike : (bits : List BitEdit) (ps qs : List Placed) → bare qs ≡ bare (changed_statements bits ps) → AreAlike ps qs
alike bits [] [] same = tt
alike bits [] (q ∷ qs) same = absurd cc
alike bits (p ∷ ps) [] same = absurd cc
alike bits (p ∷ ps) (q ∷ qs) same =
    let first : bare_statement q.statement ≡ bare_statement (changed_statement bits p.statement) = cc in
    let others : bare qs ≡ bare (changed_statements bits ps) = cc in
    (alike_one p.statement q.statement (sym (frame_bare q.statement) ∙ ap frame first ∙ frame_bare (changed_statement bits p.statement) ∙ frame_changed bits p.statement), alike bits ps qs others)

pub same_declarations : (ps qs : List Placed) → AreAlike ps qs → declarations qs ≡ declarations ps
same_declarations [] [] are = refl
same_declarations [] (q ∷ qs) are = absurd are
same_declarations (p ∷ ps) [] are = absurd are
same_declarations (p ∷ ps) (q ∷ qs) are = ap₂ (λ (a b : List _). a ++ b) are.0.declarations (same_declarations ps qs are.1)

pub same_ports : (ps qs : List Placed) → AreAlike ps qs → header_ports qs ≡ header_ports ps
same_ports [] [] are = refl
same_ports [] (q ∷ qs) are = absurd are
same_ports (p ∷ ps) [] are = absurd are
same_ports (p ∷ ps) (q ∷ qs) are = ap₂ (λ (a b : List (List ℕ)). a ++ b) are.0.ports (same_ports ps qs are.1)

pub same_header : (ps qs : List Placed) → AreAlike ps qs → header_name qs ≡ header_name ps
same_header [] [] are = refl
same_header [] (q ∷ qs) are = absurd are
same_header (p ∷ ps) [] are = absurd are
same_header (p ∷ ps) (q ∷ qs) are = are.0.module_is

-- what places don't change
bare_items : (cs : List Connection) → connection_items (map bare_connection cs) ≡ connection_items cs
bare_items [] = refl
bare_items (c ∷ cs) = ap (λ (l : List Item). c.expression.items ++ l) (bare_items cs)

pub items_bare : (s : Statement) → items_in (bare_statement s) ≡ items_in s
items_bare (statements.Module name ports) = refl
items_bare (statements.Declare kind range names) = refl
items_bare (statements.Assign left right) = refl
items_bare (statements.Instance cell name connections) = bare_items connections

pub widths_bare : (bounds : BoundsAt) (s : Statement) → differ_in_width bounds (bare_statement s) ≡ differ_in_width bounds s
widths_bare bounds (statements.Module name ports) = refl
widths_bare bounds (statements.Declare kind range names) = refl
widths_bare bounds (statements.Assign left right) = refl
widths_bare bounds (statements.Instance cell name connections) = refl

pub bare_flat : {Y : Type 0} (f : Statement → List Y) → ((s : Statement) → f (bare_statement s) ≡ f s) → (ps qs : List Placed) → bare qs ≡ bare ps
    → flat_map (λ (p : Placed). f p.statement) qs ≡ flat_map (λ (p : Placed). f p.statement) ps
bare_flat f so [] [] same = refl
bare_flat f so [] (q ∷ qs) same = absurd cc
bare_flat f so (p ∷ ps) [] same = absurd cc
bare_flat f so (p ∷ ps) (q ∷ qs) same =
    let first : bare_statement q.statement ≡ bare_statement p.statement = cc in
    let others : bare qs ≡ bare ps = cc in
    ap₂ (λ (a b : List _). a ++ b) (sym (so q.statement) ∙ ap f first ∙ so p.statement) (bare_flat f so ps qs others)
