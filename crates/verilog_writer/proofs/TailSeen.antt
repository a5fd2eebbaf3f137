-- What a netlist shows and statements say, where more nets stand behind the netlist's and more wires are declared.
use Rattle.std.proofs.Common.{◌≡◌, ℕ, zero, suc, ◌+◌, ◌<◌, List, [], ◌∷◌, ◌++◌, length, map, slice_index_or, Option, Some, None, refl, sym, ap, ap₂, ◌∙◌, subst, arith}
use Rattle.std.specs.List.{flat_map, slice_get, AllByRecursion as Each}
use Rattle.std.specs.Prelude.{All}
use Rattle.std.proofs.Math.ListN.{get_or-append}
use Rattle.std.proofs.lemmas.List.{get_or-append-add}
use Rattle.std.proofs.lemmas.List.Concat.{flat_map-append}
use Rattle.base_types.specs.declared.span.Span.{Span}
use Rattle.netlist_core.specs.declared.netlist.NetId.{NetId}
use Rattle.netlist_core.specs.declared.netlist.NetName.{NetName}
use Rattle.netlist_core.specs.declared.netlist.Bit.{Bit}
use Rattle.netlist_core.specs.declared.netlist.Bit.TheVariants.{Net, Zero, One, Unknown}
use Rattle.netlist_core.specs.declared.netlist.Port.{Port}
use Rattle.netlist_core.specs.declared.netlist.Assign.{Assign}
use Rattle.netlist_core.specs.declared.netlist.Connection.{Connection as NetConnection}
use Rattle.netlist_core.specs.declared.netlist.Instance.{Instance}
use Rattle.netlist_core.specs.declared.netlist.Netlist.{Netlist}
use Rattle.netlist_core.specs.Netlists.{NamedBit, Named, NamedPort, named_bit, named_port, plain_of, IsBitWithin, IsAssign, IsInstance, IsNetlist}
use Rattle.verilog_syntax.specs.declared.statement.Item.{Item}
use Rattle.verilog_syntax.specs.declared.statement.Item.TheVariants as items
use Rattle.verilog_syntax.specs.declared.statement.Expression.{Expression}
use Rattle.verilog_syntax.specs.declared.statement.Connection.{Connection}
use Rattle.verilog_syntax.specs.declared.statement.Statement.{Statement}
use Rattle.verilog_syntax.specs.declared.statement.Statement.TheVariants as statements
use Rattle.verilog_syntax.specs.declared.reading.Placed.{Placed}
use Rattle.verilog_names.specs.declared.bounds.Bounds.{Bounds}
use Rattle.verilog_names.specs.Values.{unescaped}
use Rattle.verilog_names.specs.Declarations.{Declaration, bounds_in, connection_items, mentions_of, mentions_in, mentions}
use Rattle.verilog_reader.specs.Denoted.{SeenExpression, SeenAssign, SeenConnection, SeenInstance, name_bits, named_of, item_bits, said_expression, said_connection, said_assigns_in, said_instances_in, seen_assign, seen_connection, seen_instance}
use Rattle.verilog_reader.proofs.Checked.{each_left, each_right, each_from}
use Rattle.verilog_reader.proofs.Distinct.{each_weaker}

-- nets behind others
module _ (nets more : List NetName) where
  pub front_net : (net : NetId) → net.0 < length nets → plain_of (nets ++ more) net ≡ plain_of nets net
  front_net net lt = ap (λ (x : NetName). x.plain) (get_or-append nets more (record { plain = []; text = [] }) net.0 lt)

  pub behind_net : (k : ℕ) → plain_of (nets ++ more) (record { 0 = length nets + k }) ≡ plain_of more (record { 0 = k })
  behind_net k = ap (λ (x : NetName). x.plain) (get_or-append-add nets more k (record { plain = []; text = [] }))

  pub front_bit : (b : Bit) → IsBitWithin (length nets) b → named_bit (nets ++ more) b ≡ named_bit nets b
  front_bit (Net net) within = ap Named (front_net net within)
  front_bit Zero within = refl
  front_bit One within = refl
  front_bit Unknown within = refl

  pub front_bits : (bs : List Bit) → Each (IsBitWithin (length nets)) bs → map (named_bit (nets ++ more)) bs ≡ map (named_bit nets) bs
  front_bits [] within = refl
  front_bits (b ∷ bs) within = ap₂ (λ (x : NamedBit) (xs : List NamedBit). x ∷ xs) (front_bit b within.0) (front_bits bs within.1)

  front_pins : (cs : List NetConnection) → Each (λ (c : NetConnection). Each (IsBitWithin (length nets)) c.expr.bits) cs → map (seen_connection (nets ++ more)) cs ≡ map (seen_connection nets) cs
  front_pins [] within = refl
  front_pins (c ∷ cs) within =
      ap₂ (λ (bs : List NamedBit) (xs : List SeenConnection). let x : SeenConnection = record { pin = c.pin; expression = record { bits = bs; span = c.expr.span } } in x ∷ xs) (front_bits c.expr.bits within.0) (front_pins cs within.1)

  pub front_instances : (is : List Instance) → Each (IsInstance (length nets)) is → map (seen_instance (nets ++ more)) is ≡ map (seen_instance nets) is
  front_instances [] within = refl
  front_instances (i ∷ is) within =
      let pins = each_weaker (λ (c : NetConnection). All (IsBitWithin (length nets)) c.expr.bits) (λ (c : NetConnection). Each (IsBitWithin (length nets)) c.expr.bits) i.connections (λ c a. each_from (IsBitWithin (length nets)) c.expr.bits a)
      (each_from (λ (c : NetConnection). All (IsBitWithin (length nets)) c.expr.bits) i.connections within.0.nets) in
      ap₂ (λ (cs : List SeenConnection) (xs : List SeenInstance). let x : SeenInstance = record { name = i.name; cell = i.cell; connections = cs; line = i.line } in x ∷ xs) (front_pins i.connections pins) (front_instances is within.1)

  pub front_assigns : (all : List Assign) → Each (IsAssign (length nets)) all → map (seen_assign (nets ++ more)) all ≡ map (seen_assign nets) all
  front_assigns [] within = refl
  front_assigns (a ∷ all) within =
      ap₂ (λ (x : SeenAssign) (xs : List SeenAssign). x ∷ xs)
      (ap₂ (λ (l r : List NamedBit). let x : SeenAssign = record { left = record { bits = l; span = a.left.span }; right = record { bits = r; span = a.right.span }; line = a.line } in x)
      (front_bits a.left.bits (each_from (IsBitWithin (length nets)) a.left.bits within.0.left)) (front_bits a.right.bits (each_from (IsBitWithin (length nets)) a.right.bits within.0.right)))
      (front_assigns all within.1)

  pub front_ports : (all : List Port) → Each (λ (port : Port). port.net.0 < length nets) all → map (named_port (nets ++ more)) all ≡ map (named_port nets) all
  front_ports [] within = refl
  front_ports (p ∷ all) within =
      ap₂ (λ (q : List ℕ) (xs : List NamedPort). let x : NamedPort = record { name = q; direction = p.direction } in x ∷ xs) (front_net p.net within.0) (front_ports all within.1)

-- declarations that agree on names
module _ (ds es : List Declaration) (K : List ℕ → Type 0) (agree : (q : List ℕ) → K q → bounds_in es q ≡ bounds_in ds q) where
  item_same : (x : Item) → Each K (mentions_of x) → item_bits es x ≡ item_bits ds x
  item_same items.Open known = refl
  item_same items.Comma known = refl
  item_same items.Close known = refl
  item_same (items.Name name) known = ap (λ (b : Option Bounds). named_of (name_bits (unescaped name) b)) (agree (unescaped name) known.0)
  item_same (items.Bit name index) known = refl
  item_same (items.Part name left right) known = refl
  item_same (items.Constant text) known = refl

  items_same : (xs : List Item) → Each K (flat_map mentions_of xs) → flat_map (item_bits es) xs ≡ flat_map (item_bits ds) xs
  items_same [] known = refl
  items_same (x ∷ xs) known =
      ap₂ (λ (a b : List NamedBit). a ++ b) (item_same x (each_left K (mentions_of x) (flat_map mentions_of xs) known)) (items_same xs (each_right K (mentions_of x) (flat_map mentions_of xs) known))

  expression_same : (e : Expression) → Each K (flat_map mentions_of e.items) → said_expression es e ≡ said_expression ds e
  expression_same e known = ap (λ (bs : List NamedBit). let x : SeenExpression = record { bits = bs; span = e.span } in x) (items_same e.items known)

  connections_same : (cs : List Connection) → Each K (flat_map mentions_of (connection_items cs)) → map (said_connection es) cs ≡ map (said_connection ds) cs
  connections_same [] known = refl
  connections_same (c ∷ cs) known =
      let parts = subst (Each K) (flat_map-append mentions_of c.expression.items (connection_items cs)) known in
      ap₂ (λ (e : SeenExpression) (xs : List SeenConnection). let x : SeenConnection = record { pin = unescaped c.pin; expression = e } in x ∷ xs)
      (expression_same c.expression (each_left K (flat_map mentions_of c.expression.items) (flat_map mentions_of (connection_items cs)) parts))
      (connections_same cs (each_right K (flat_map mentions_of c.expression.items) (flat_map mentions_of (connection_items cs)) parts))

  assigns_in : (line : ℕ) (s : Statement) → Each K (mentions_in s) → said_assigns_in es line s ≡ said_assigns_in ds line s
  assigns_in line (statements.Module name ports) known = refl
  assigns_in line (statements.Declare kind range names) known = refl
  assigns_in line (statements.Assign left right) known =
      let parts = subst (Each K) (flat_map-append mentions_of left.items right.items) known in
      ap₂ (λ (l r : SeenExpression). let x : SeenAssign = record { left = l; right = r; line = line } in x ∷ []) (expression_same left (each_left K (flat_map mentions_of left.items) (flat_map mentions_of right.items) parts))
      (expression_same right (each_right K (flat_map mentions_of left.items) (flat_map mentions_of right.items) parts))
  assigns_in line (statements.Instance cell name connections) known = refl

  instances_in : (line : ℕ) (s : Statement) → Each K (mentions_in s) → said_instances_in es line s ≡ said_instances_in ds line s
  instances_in line (statements.Module name ports) known = refl
  instances_in line (statements.Declare kind range names) known = refl
  instances_in line (statements.Assign left right) known = refl
  instances_in line (statements.Instance cell name connections) known =
      ap (λ (cs : List SeenConnection). let x : SeenInstance = record { name = unescaped name; cell = unescaped cell; connections = cs; line = line } in x ∷ []) (connections_same connections known)

  pub assigns_same : (ps : List Placed) → Each K (mentions ps) → flat_map (λ (p : Placed). said_assigns_in es p.line p.statement) ps ≡ flat_map (λ (p : Placed). said_assigns_in ds p.line p.statement) ps
  assigns_same [] known = refl
  assigns_same (p ∷ ps) known =
      ap₂ (λ (a b : List SeenAssign). a ++ b) (assigns_in p.line p.statement (each_left K (mentions_in p.statement) (mentions ps) known)) (assigns_same ps (each_right K (mentions_in p.statement) (mentions ps) known))

  pub instances_same : (ps : List Placed) → Each K (mentions ps) → flat_map (λ (p : Placed). said_instances_in es p.line p.statement) ps ≡ flat_map (λ (p : Placed). said_instances_in ds p.line p.statement) ps
  instances_same [] known = refl
  instances_same (p ∷ ps) known =
      ap₂ (λ (a b : List SeenInstance). a ++ b) (instances_in p.line p.statement (each_left K (mentions_in p.statement) (mentions ps) known)) (instances_same ps (each_right K (mentions_in p.statement) (mentions ps) known))
