-- By names the changed statements say what the netlist with edits shows.
use Rattle.std.proofs.Common.{◌≡◌, ℕ, suc, ◌+◌, false, not, List, [], ◌∷◌, ◌++◌, length, map, Option, Some, None, refl, sym, ap, ap₂, ◌∙◌, subst, inl, inr, arith}
use Rattle.std.specs.Prelude.{◌==◌}
use Rattle.std.specs.List.{flat_map, slice_get, sum_by}
use Rattle.std.proofs.lemmas.Bool.Decides.{nat_tests}
use Rattle.std.proofs.lemmas.List.{append-nil, map-append, length-append, length-map}
use Rattle.std.proofs.lemmas.List.Sums.{sum_by-cons}
use Rattle.std.specs.List.{AllByRecursion as Each}
use Rattle.base_types.specs.declared.span.Span.{Span}
use Rattle.netlist_core.specs.declared.netlist.NetId.{NetId}
use Rattle.netlist_core.specs.declared.netlist.Bit.{Bit}
use Rattle.netlist_core.specs.declared.netlist.NetName.{NetName}
use Rattle.netlist_core.specs.declared.netlist.Expr.{Expr}
use Rattle.netlist_core.specs.declared.netlist.Assign.{Assign}
use Rattle.netlist_core.specs.declared.netlist.Connection.{Connection as NetConnection}
use Rattle.netlist_core.specs.declared.netlist.Instance.{Instance}
use Rattle.netlist_core.specs.declared.netlist.Netlist.{Netlist}
use Rattle.netlist_core.specs.Netlists.{NamedBit, Named, NamedInstance, pairs, named_bit, named_pin, named_instance, named_assign}
use Rattle.path_links.specs.Edited.{edited_expr, map_from}
use Rattle.verilog_syntax.specs.declared.statement.Item.{Item}
use Rattle.verilog_syntax.specs.declared.statement.Item.TheVariants as items
use Rattle.verilog_syntax.specs.declared.statement.Expression.{Expression}
use Rattle.verilog_syntax.specs.declared.statement.Connection.{Connection}
use Rattle.verilog_syntax.specs.declared.statement.Statement.{Statement}
use Rattle.verilog_syntax.specs.declared.statement.Statement.TheVariants as statements
use Rattle.verilog_syntax.specs.declared.reading.Placed.{Placed}
use Rattle.verilog_syntax.specs.Laws.{bare_connection, bare_statement}
use Rattle.verilog_names.specs.declared.bounds.Bounds.{Bounds}
use Rattle.verilog_names.specs.Values.{unescaped, bit_name}
use Rattle.verilog_reader.specs.Constants.{constant_bits}
use Rattle.verilog_names.specs.Declarations.{width, indexes, Declaration, declarations, bounds_in, part_of, width_or_one}
use Rattle.verilog_reader.specs.Denoted.{SeenAssign, SeenConnection, SeenInstance, name_bits, named_of, item_bits, seen_assign, seen_connection, seen_instance, said_expression, said_connection, said_assigns_in, said_instances_in}
use Rattle.verilog_checks.specs.Faults.{item_width, expression_width, differ_in_width}
use Rattle.verilog_reader.proofs.NumberedLists.{length-indexes_from}
use Rattle.verilog_reader.proofs.Within.{length-constant}
use Rattle.verilog_writer.specs.NetTexts.{net_name, IsScalarWithout}
use Rattle.verilog_writer.specs.VerilogText.{NetBit, BitEdit, indexed_item, net_item, changed_items, changed_connection, changed_statement}
use Rattle.verilog_writer.proofs.Names.{name_again, bit_law}
use Rattle.verilog_writer.proofs.KeptLists.{Has}
use Rattle.verilog_writer.proofs.KeptNets.{IsKnown}
use Rattle.verilog_writer.proofs.KeptBits.{IsKnownBit, Comes}

abbrev pub bits_of : List Declaration → List Item → List NamedBit
bits_of ds all = flat_map (item_bits ds) all

-- the assigns and instances of a statement by the names of their bits
abbrev pub assigns_named : List Declaration → Statement → List (List (NamedBit × NamedBit))
assigns_named ds (statements.Module name ports) = []
assigns_named ds (statements.Declare kind range names) = []
assigns_named ds (statements.Assign left right) = pairs (bits_of ds left.items) (bits_of ds right.items) ∷ []
assigns_named ds (statements.Instance cell name connections) = []

abbrev pin_named : List Declaration → Connection → List ℕ × List NamedBit
pin_named ds c = (unescaped c.pin, bits_of ds c.expression.items)

abbrev pub instances_named : List Declaration → Statement → List NamedInstance
instances_named ds (statements.Module name ports) = []
instances_named ds (statements.Declare kind range names) = []
instances_named ds (statements.Assign left right) = []
instances_named ds (statements.Instance cell name connections) = record { name = unescaped name; cell = unescaped cell; pins = map (pin_named ds) connections } ∷ []

-- places don't count
pub assigns_bare : (ds : List Declaration) (s : Statement) → assigns_named ds (bare_statement s) ≡ assigns_named ds s
assigns_bare ds (statements.Module name ports) = refl
assigns_bare ds (statements.Declare kind range names) = refl
assigns_bare ds (statements.Assign left right) = refl
assigns_bare ds (statements.Instance cell name connections) = refl

pins_bare : (ds : List Declaration) (cs : List Connection) → map (pin_named ds) (map bare_connection cs) ≡ map (pin_named ds) cs
pins_bare ds [] = refl
pins_bare ds (c ∷ cs) = ap (λ (l : List (List ℕ × List NamedBit)). pin_named ds c ∷ l) (pins_bare ds cs)

pub instances_bare : (ds : List Declaration) (s : Statement) → instances_named ds (bare_statement s) ≡ instances_named ds s
instances_bare ds (statements.Module name ports) = refl
instances_bare ds (statements.Declare kind range names) = refl
instances_bare ds (statements.Assign left right) = refl
instances_bare ds (statements.Instance cell name connections) =
    ap (λ (ps : List (List ℕ × List NamedBit)). let i : NamedInstance = record { name = unescaped name; cell = unescaped cell; pins = ps } in i ∷ []) (pins_bare ds connections)

-- what a netlist shows, by names
abbrev strip_assign : SeenAssign → List (NamedBit × NamedBit)
strip_assign s = pairs s.left.bits s.right.bits

abbrev strip_pin : SeenConnection → List ℕ × List NamedBit
strip_pin c = (c.pin, c.expression.bits)

abbrev strip_instance : SeenInstance → NamedInstance
strip_instance s = record { name = s.name; cell = s.cell; pins = map strip_pin s.connections }

module _ (nets : List NetName) where
  named_pairs : (ls rs : List Bit) → map (λ (p : Bit × Bit). let q : NamedBit × NamedBit = (named_bit nets p.0, named_bit nets p.1) in q) (pairs ls rs) ≡ pairs (map (named_bit nets) ls) (map (named_bit nets) rs)
  named_pairs [] rs = refl
  named_pairs (l ∷ ls) [] = refl
  named_pairs (l ∷ ls) (r ∷ rs) = ap (λ (qs : List (NamedBit × NamedBit)). (named_bit nets l, named_bit nets r) ∷ qs) (named_pairs ls rs)

  assigns_stripped : (all : List Assign) → map (named_assign nets) all ≡ map strip_assign (map (seen_assign nets) all)
  assigns_stripped [] = refl
  assigns_stripped (a ∷ all) =
      ap₂ (λ (q : List (NamedBit × NamedBit)) (qs : List (List (NamedBit × NamedBit))). q ∷ qs) (named_pairs a.left.bits a.right.bits) (assigns_stripped all)

  pins_stripped : (cs : List NetConnection) → map (named_pin nets) cs ≡ map strip_pin (map (seen_connection nets) cs)
  pins_stripped [] = refl
  pins_stripped (c ∷ cs) = ap (λ (l : List (List ℕ × List NamedBit)). named_pin nets c ∷ l) (pins_stripped cs)

  instances_stripped : (all : List Instance) → map (named_instance nets) all ≡ map strip_instance (map (seen_instance nets) all)
  instances_stripped [] = refl
  instances_stripped (i ∷ all) =
      ap₂ (λ (ps : List (List ℕ × List NamedBit)) (is : List NamedInstance). let j : NamedInstance = record { name = i.name; cell = i.cell; pins = ps } in j ∷ is) (pins_stripped i.connections) (instances_stripped all)

-- what statements say, by names
said_pins : (ds : List Declaration) (cs : List Connection) → map strip_pin (map (said_connection ds) cs) ≡ map (pin_named ds) cs
said_pins ds [] = refl
said_pins ds (c ∷ cs) = ap (λ (l : List (List ℕ × List NamedBit)). pin_named ds c ∷ l) (said_pins ds cs)

said_assign : (ds : List Declaration) (line : ℕ) (s : Statement) → map strip_assign (said_assigns_in ds line s) ≡ assigns_named ds s
said_assign ds line (statements.Module name ports) = refl
said_assign ds line (statements.Declare kind range names) = refl
said_assign ds line (statements.Assign left right) = refl
said_assign ds line (statements.Instance cell name connections) = refl

said_assigns : (ds : List Declaration) (ps : List Placed) → map strip_assign (flat_map (λ (p : Placed). said_assigns_in ds p.line p.statement) ps) ≡ flat_map (λ (p : Placed). assigns_named ds p.statement) ps
said_assigns ds [] = refl
said_assigns ds (p ∷ ps) =
    map-append strip_assign (said_assigns_in ds p.line p.statement) (flat_map (λ (p : Placed). said_assigns_in ds p.line p.statement) ps)
    ∙ ap₂ (λ (a b : List (List (NamedBit × NamedBit))). a ++ b) (said_assign ds p.line p.statement) (said_assigns ds ps)

said_instance : (ds : List Declaration) (line : ℕ) (s : Statement) → map strip_instance (said_instances_in ds line s) ≡ instances_named ds s
said_instance ds line (statements.Module name ports) = refl
said_instance ds line (statements.Declare kind range names) = refl
said_instance ds line (statements.Assign left right) = refl
said_instance ds line (statements.Instance cell name connections) =
    ap (λ (ps : List (List ℕ × List NamedBit)). let i : NamedInstance = record { name = unescaped name; cell = unescaped cell; pins = ps } in i ∷ []) (said_pins ds connections)

said_instances : (ds : List Declaration) (ps : List Placed) → map strip_instance (flat_map (λ (p : Placed). said_instances_in ds p.line p.statement) ps) ≡ flat_map (λ (p : Placed). instances_named ds p.statement) ps
said_instances ds [] = refl
said_instances ds (p ∷ ps) =
    map-append strip_instance (said_instances_in ds p.line p.statement) (flat_map (λ (p : Placed). said_instances_in ds p.line p.statement) ps)
    ∙ ap₂ (λ (a b : List NamedInstance). a ++ b) (said_instance ds p.line p.statement) (said_instances ds ps)

pub assigns_are_named : (nets : List NetName) (all : List Assign) (ds : List Declaration) (ps : List Placed) → map (seen_assign nets) all ≡ flat_map (λ (p : Placed). said_assigns_in ds p.line p.statement) ps
    → map (named_assign nets) all ≡ flat_map (λ (p : Placed). assigns_named ds p.statement) ps
assigns_are_named nets all ds ps same = assigns_stripped nets all ∙ ap (λ (l : List SeenAssign). map strip_assign l) same ∙ said_assigns ds ps

pub instances_are_named : (nets : List NetName) (all : List Instance) (ds : List Declaration) (ps : List Placed) → map (seen_instance nets) all ≡ flat_map (λ (p : Placed). said_instances_in ds p.line p.statement) ps
    → map (named_instance nets) all ≡ flat_map (λ (p : Placed). instances_named ds p.statement) ps
instances_are_named nets all ds ps same = instances_stripped nets all ∙ ap (λ (l : List SeenInstance). map strip_instance l) same ∙ said_instances ds ps

-- an instance with what stands newly at its pins, and an assign with what stands newly at its right
abbrev pub put_instance : (ℕ → List ℕ → Option NetId) → ℕ → Instance → Instance
put_instance at_pin k placed = record {
  name = placed.name;
  cell = placed.cell;
  connections = map (λ (c : NetConnection). let d : NetConnection = record { pin = c.pin; expr = edited_expr (at_pin k c.pin) c.expr } in d) placed.connections;
  line = placed.line;
}

abbrev pub put_assign : (ℕ → Option NetId) → ℕ → Assign → Assign
put_assign at_right k assign = record { left = assign.left; right = edited_expr (at_right k) assign.right; line = assign.line }

-- how many bits an expression has
names_wide : (name : List ℕ) (b : Option Bounds) → length (named_of (name_bits name b)) ≡ width_or_one b
names_wide name None = refl
names_wide name (Some b) = length-map (map (bit_name name) (indexes b)) Named ∙ length-map (indexes b) (bit_name name) ∙ length-indexes_from b 0 (width b)

item_wide : (ds : List Declaration) (x : Item) → length (item_bits ds x) ≡ item_width (bounds_in ds) x
item_wide ds items.Open = refl
item_wide ds items.Comma = refl
item_wide ds items.Close = refl
item_wide ds (items.Name name) = names_wide (unescaped name) (bounds_in ds (unescaped name))
item_wide ds (items.Bit name index) = refl
item_wide ds (items.Part name left right) = names_wide (unescaped name) (Some (part_of left right))
item_wide ds (items.Constant text) = length-map (constant_bits text) (named_bit []) ∙ length-constant text

pub items_wide : (ds : List Declaration) (xs : List Item) → length (bits_of ds xs) ≡ sum_by (item_width (bounds_in ds)) xs
items_wide ds [] = refl
items_wide ds (x ∷ xs) =
    length-append (item_bits ds x) (bits_of ds xs) ∙ ap₂ (λ (a b : ℕ). a + b) (item_wide ds x) (items_wide ds xs) ∙ sym (sum_by-cons (item_width (bounds_in ds)) x xs)

pub index_wide : (ps : List Placed) (bit : NetBit) → IsKnownBit ps bit → item_width (bounds_in (declarations ps)) (net_item bit) ≡ 1
index_wide ps bit known = by bit.index known.known
  where
    by : (i : Option ℕ) → IsKnown ps bit.name i → item_width (bounds_in (declarations ps)) (indexed_item bit.name i) ≡ 1
    by None is = ap (λ (q : List ℕ). width_or_one (bounds_in (declarations ps) q)) (name_again bit.name known.is.name) ∙ ap width_or_one is.1
    by (Some i) is = refl

pub bit_bits : (ps : List Placed) (bit : NetBit) → IsKnownBit ps bit → item_bits (declarations ps) (net_item bit) ≡ Named (net_name bit) ∷ []
bit_bits ps bit known = bit_law (declarations ps) bit known.is (by bit.index known.known)
  where
    by : (i : Option ℕ) → IsKnown ps bit.name i → IsScalarWithout (declarations ps) bit.name i
    by None is = is.1
    by (Some i) is = tt

module _ (ps : List Placed) (n : Netlist) (bits : List BitEdit) where
  abbrev ds : List Declaration
  ds = declarations ps

  place_bits : (place : Span) (o : Option NetId) (old : List Item) (expr : Expr) → Comes ps n bits place o → map (named_bit n.nets) expr.bits ≡ bits_of ds old
      → bits_of ds (changed_items bits place old) ≡ map (named_bit n.nets) (edited_expr o expr).bits
  place_bits place None old expr comes same = ap (bits_of ds) (comes old) ∙ sym same
  place_bits place (Some net) old expr comes same =
      ap (bits_of ds) (comes.is old) ∙ append-nil (item_bits ds (net_item comes.bit)) ∙ bit_bits ps comes.bit comes.known ∙ ap (λ (q : List ℕ). Named q ∷ []) comes.named

  -- the pins of an instance
  pins_come : (source : List ℕ → Option NetId) (cs : List Connection) (conns : List NetConnection) → map (seen_connection n.nets) conns ≡ map (said_connection ds) cs
      → ((c : NetConnection) → Has c conns → Comes ps n bits c.expr.span (source c.pin))
      → map (pin_named ds) (map (changed_connection bits) cs) ≡ map (named_pin n.nets) (map (λ (c : NetConnection). let d : NetConnection = record { pin = c.pin; expr = edited_expr (source c.pin) c.expr } in d) conns)
  pins_come source [] [] same comes = refl
  pins_come source [] (x ∷ conns) same comes = absurd cc
  pins_come source (c ∷ cs) [] same comes = absurd cc
  pins_come source (c ∷ cs) (x ∷ conns) same comes =
      let first : seen_connection n.nets x ≡ said_connection ds c = cc in
      let others : map (seen_connection n.nets) conns ≡ map (said_connection ds) cs = cc in
      let pin : x.pin ≡ unescaped c.pin = ap (λ (s : SeenConnection). s.pin) first in
      let span : x.expr.span ≡ c.expression.span = ap (λ (s : SeenConnection). s.expression.span) first in
      let old : map (named_bit n.nets) x.expr.bits ≡ bits_of ds c.expression.items = ap (λ (s : SeenConnection). s.expression.bits) first in
      let here : Comes ps n bits c.expression.span (source x.pin) = subst (λ (s : Span). Comes ps n bits s (source x.pin)) span (comes x (inl refl)) in
      let new = place_bits c.expression.span (source x.pin) c.expression.items x.expr here old in
      ap₂ (λ (p : List ℕ × List NamedBit) (rest : List (List ℕ × List NamedBit)). p ∷ rest)
      (ap₂ (λ (q : List ℕ) (b : List NamedBit). let p : List ℕ × List NamedBit = (q, b) in p) (sym pin) new)
      (pins_come source cs conns others (λ y h. comes y (inr h)))

  module _ (at_pin : ℕ → List ℕ → Option NetId) (comes : (k : ℕ) (placed : Instance) (c : NetConnection) → slice_get n.instances k ≡ Some placed → Has c placed.connections → Comes ps n bits c.expr.span (at_pin k c.pin)) where
    abbrev changed_instances : List Placed → List NamedInstance
    changed_instances olds = flat_map (λ (p : Placed). instances_named ds (changed_statement bits p.statement)) olds

    abbrev InstancesCome : ℕ → List Instance → List Placed → Type 0
    InstancesCome k all olds = changed_instances olds ≡ map (named_instance n.nets) (map_from (put_instance at_pin) k all)

    abbrev AreInstancesFrom : ℕ → List Instance → Type 0
    AreInstancesFrom k all = (j : ℕ) (i : Instance) → slice_get all j ≡ Some i → slice_get n.instances (k + j) ≡ Some i

    abbrev said_rest : List Placed → List SeenInstance
    said_rest olds = flat_map (λ (p : Placed). said_instances_in ds p.line p.statement) olds

    instance_step : (s : Statement) (line : ℕ) (olds : List Placed) (k : ℕ) (all : List Instance) → map (seen_instance n.nets) all ≡ said_instances_in ds line s ++ said_rest olds → AreInstancesFrom k all
        → ((k : ℕ) (all : List Instance) → map (seen_instance n.nets) all ≡ said_rest olds → AreInstancesFrom k all → InstancesCome k all olds)
        → instances_named ds (changed_statement bits s) ++ changed_instances olds ≡ map (named_instance n.nets) (map_from (put_instance at_pin) k all)
    instance_step (statements.Module name ports) line olds k all same at more = more k all same at
    instance_step (statements.Declare kind range names) line olds k all same at more = more k all same at
    instance_step (statements.Assign left right) line olds k all same at more = more k all same at
    instance_step (statements.Instance cell name connections) line olds k [] same at more = absurd cc
    instance_step (statements.Instance cell name connections) line olds k (i ∷ all) same at more =
        let said : SeenInstance = record { name = unescaped name; cell = unescaped cell; connections = map (said_connection ds) connections; line = line } in
        let first : seen_instance n.nets i ≡ said = cc in
        let others : map (seen_instance n.nets) all ≡ said_rest olds = cc in
        let k_is : k + 0 ≡ k = omega arith in
        let here : slice_get n.instances k ≡ Some i = subst (λ (x : ℕ). slice_get n.instances x ≡ Some i) k_is (at 0 i refl) in
        let name_is : i.name ≡ unescaped name = ap (λ (s : SeenInstance). s.name) first in
        let cell_is : i.cell ≡ unescaped cell = ap (λ (s : SeenInstance). s.cell) first in
        let pins_are = pins_come (at_pin k) connections i.connections (ap (λ (s : SeenInstance). s.connections) first) (λ c h. comes k i c here h) in
        let behind : AreInstancesFrom (k + 1) all = λ j x is. let e : k + suc j ≡ (k + 1) + j = omega arith in subst (λ (y : ℕ). slice_get n.instances y ≡ Some x) e (at (suc j) x is) in
        ap₂ (λ (x : NamedInstance) (xs : List NamedInstance). x ∷ xs)
        (ap₂ (λ (a b : List ℕ). let x : NamedInstance = record { name = a; cell = b; pins = map (pin_named ds) (map (changed_connection bits) connections) } in x) (sym name_is) (sym cell_is)
        ∙ ap (λ (ps : List (List ℕ × List NamedBit)). let x : NamedInstance = record { name = i.name; cell = i.cell; pins = ps } in x) pins_are)
        (more (k + 1) all others behind)

    pub instances_come : (olds : List Placed) (k : ℕ) (all : List Instance) → map (seen_instance n.nets) all ≡ said_rest olds → AreInstancesFrom k all → InstancesCome k all olds
    instances_come [] k [] same at = refl
    instances_come [] k (i ∷ all) same at = absurd cc
    instances_come (p ∷ olds) k all same at = instance_step p.statement p.line olds k all same at (λ k all same at. instances_come olds k all same at)

  module _ (at_right : ℕ → Option NetId) (comes : (k : ℕ) (a : Assign) → slice_get n.assigns k ≡ Some a → Comes ps n bits a.right.span (at_right k))
      (wide : (k : ℕ) (a : Assign) (net : NetId) → slice_get n.assigns k ≡ Some a → at_right k ≡ Some net → length a.left.bits ≡ 1) where
    abbrev changed_assigns : List Placed → List (List (NamedBit × NamedBit))
    changed_assigns olds = flat_map (λ (p : Placed). assigns_named ds (changed_statement bits p.statement)) olds

    abbrev Fits : Statement → Type 0
    Fits s = differ_in_width (bounds_in ds) s ≡ false

    pub record AssignsCome (k : ℕ) (all : List Assign) (olds : List Placed) : Type 0 where
      pub are_named : changed_assigns olds ≡ map (named_assign n.nets) (map_from (put_assign at_right) k all)
      pub widths : Each (λ (p : Placed). Fits (changed_statement bits p.statement)) olds

    abbrev AreAssignsFrom : ℕ → List Assign → Type 0
    AreAssignsFrom k all = (j : ℕ) (a : Assign) → slice_get all j ≡ Some a → slice_get n.assigns (k + j) ≡ Some a

    abbrev said_assigns_rest : List Placed → List SeenAssign
    said_assigns_rest olds = flat_map (λ (p : Placed). said_assigns_in ds p.line p.statement) olds

    one_wide : (x y : ℕ) → x ≡ 1 → y ≡ 1 → not (x == y) ≡ false
    one_wide x y a b = grind (arith, nat_tests)

    width_kept : (place : Span) (o : Option NetId) (left right : Expression) → Comes ps n bits place o → Fits (statements.Assign left right) → ((net : NetId) → o ≡ Some net → expression_width (bounds_in ds) left ≡ 1)
        → right.span ≡ place → not (expression_width (bounds_in ds) left == sum_by (item_width (bounds_in ds)) (changed_items bits place right.items)) ≡ false
    width_kept place None left right come fits one span = ap (λ (xs : List Item). not (expression_width (bounds_in ds) left == sum_by (item_width (bounds_in ds)) xs)) (come right.items) ∙ fits
    width_kept place (Some net) left right come fits one span =
        ap (λ (xs : List Item). not (expression_width (bounds_in ds) left == sum_by (item_width (bounds_in ds)) xs)) (come.is right.items)
        ∙ one_wide (expression_width (bounds_in ds) left) (sum_by (item_width (bounds_in ds)) (net_item come.bit ∷ [])) (one net refl)
        (let w = index_wide ps come.bit come.known in let s = sum_by-cons (item_width (bounds_in ds)) (net_item come.bit) [] in omega (arith, w, s))

    record StepComes (s : Statement) (k : ℕ) (all : List Assign) (olds : List Placed) : Type 0 where
      are_named : assigns_named ds (changed_statement bits s) ++ changed_assigns olds ≡ map (named_assign n.nets) (map_from (put_assign at_right) k all)
      mine : Fits (changed_statement bits s)
      widths : Each (λ (p : Placed). Fits (changed_statement bits p.statement)) olds

    assign_step : (s : Statement) (line : ℕ) (olds : List Placed) (k : ℕ) (all : List Assign) → map (seen_assign n.nets) all ≡ said_assigns_in ds line s ++ said_assigns_rest olds → AreAssignsFrom k all → Fits s
        → ((k : ℕ) (all : List Assign) → map (seen_assign n.nets) all ≡ said_assigns_rest olds → AreAssignsFrom k all → AssignsCome k all olds) → StepComes s k all olds
    assign_step (statements.Module name ports) line olds k all same at fits more = let m = more k all same at in record { are_named = m.are_named; mine = refl; widths = m.widths }
    assign_step (statements.Declare kind range names) line olds k all same at fits more = let m = more k all same at in record { are_named = m.are_named; mine = refl; widths = m.widths }
    assign_step (statements.Instance cell name connections) line olds k all same at fits more = let m = more k all same at in record { are_named = m.are_named; mine = refl; widths = m.widths }
    assign_step (statements.Assign left right) line olds k [] same at fits more = absurd cc
    assign_step (statements.Assign left right) line olds k (a ∷ all) same at fits more =
        let said : SeenAssign = record { left = said_expression ds left; right = said_expression ds right; line = line } in
        let first : seen_assign n.nets a ≡ said = cc in
        let others : map (seen_assign n.nets) all ≡ said_assigns_rest olds = cc in
        let k_is : k + 0 ≡ k = omega arith in
        let here : slice_get n.assigns k ≡ Some a = subst (λ (x : ℕ). slice_get n.assigns x ≡ Some a) k_is (at 0 a refl) in
        let span : a.right.span ≡ right.span = ap (λ (s : SeenAssign). s.right.span) first in
        let lefts : map (named_bit n.nets) a.left.bits ≡ bits_of ds left.items = ap (λ (s : SeenAssign). s.left.bits) first in
        let rights : map (named_bit n.nets) a.right.bits ≡ bits_of ds right.items = ap (λ (s : SeenAssign). s.right.bits) first in
        let come : Comes ps n bits right.span (at_right k) = subst (λ (s : Span). Comes ps n bits s (at_right k)) span (comes k a here) in
        let new = place_bits right.span (at_right k) right.items a.right come rights in
        let behind : AreAssignsFrom (k + 1) all = λ j x is. let e : k + suc j ≡ (k + 1) + j = omega arith in subst (λ (y : ℕ). slice_get n.assigns y ≡ Some x) e (at (suc j) x is) in
        let m = more (k + 1) all others behind in
        record {
          are_named = ap₂ (λ (x : List (NamedBit × NamedBit)) (xs : List (List (NamedBit × NamedBit))). x ∷ xs)
              (ap₂ (λ (x y : List NamedBit). pairs x y) (sym lefts) new ∙ sym (named_pairs n.nets a.left.bits (edited_expr (at_right k) a.right).bits)) m.are_named;
          mine = width_kept right.span (at_right k) left right come fits
              (λ net is. sym (items_wide ds left.items) ∙ ap (λ (l : List NamedBit). length l) (sym lefts) ∙ length-map a.left.bits (named_bit n.nets) ∙ wide k a net here is) refl;
          widths = m.widths;
        }

    pub assigns_come : (olds : List Placed) (k : ℕ) (all : List Assign) → map (seen_assign n.nets) all ≡ said_assigns_rest olds → AreAssignsFrom k all → Each (λ (p : Placed). Fits p.statement) olds → AssignsCome k all olds
    assigns_come [] k [] same at fits = record { are_named = refl; widths = tt }
    assigns_come [] k (a ∷ all) same at fits = absurd cc
    assigns_come (p ∷ olds) k all same at fits =
        let s = assign_step p.statement p.line olds k all same at fits.0 (λ k all same at. assigns_come olds k all same at fits.1) in
        record { are_named = s.are_named; widths = (s.mine, s.widths) }
