-- The ports of a module by the entries of what it declares, before any that it only mentions.
use Rattle.std.proofs.Common.{◌≡◌, ℕ, Bool, true, ◌||◌, List, [], ◌∷◌, ◌++◌, map, Option, refl, sym, ap, subst, ◌∙◌}
use Rattle.std.specs.List.{flat_map, All}
use Rattle.std.specs.Str.{bytes_eq}
use Rattle.std.proofs.lemmas.List.Elements.{All-weaker}
use Rattle.std.specs.List.{AllByRecursion as Each}
use Rattle.base_types.proofs.TruthValues.{or_true, bytes_same}
use Rattle.netlist_core.specs.declared.netlist.Assign.{Assign}
use Rattle.netlist_core.specs.declared.netlist.Instance.{Instance}
use Rattle.netlist_core.specs.declared.netlist.Netlist.{Netlist}
use Rattle.netlist_core.specs.declared.netlist.NetName.{NetName}
use Rattle.netlist_core.specs.declared.netlist.Port.{Port}
use Rattle.verilog_syntax.specs.declared.statement.Declared.{Declared}
use Rattle.verilog_syntax.specs.declared.statement.Range.{Range}
use Rattle.verilog_syntax.specs.declared.statement.Statement.{Statement}
use Rattle.verilog_syntax.specs.declared.statement.Statement.TheVariants as statements
use Rattle.verilog_syntax.specs.declared.reading.Placed.{Placed}
use Rattle.verilog_names.specs.declared.bounds.Bounds.{Bounds}
use Rattle.verilog_names.specs.declared.entry.Entry.{Entry}
use Rattle.verilog_names.specs.Values.{unescaped}
use Rattle.verilog_names.specs.Declarations.{Declaration, declaration_of, declarations_in, declarations, is_declared, mentions}
use Rattle.verilog_reader.specs.Denoted.{directions_of, header_name, header_line, entry_nets}
use Rattle.verilog_names.specs.NameTables.{total, with_entries, with_declared}
use Rattle.verilog_reader.specs.Numbering.{with_mentioned, entries, port_bits, numbered_ports_of, numbered_ports_in, numbered_ports, numbered_assigns, numbered_instances, numbered, IsListed, AreListed, IsFineStatement, HasFineItems}
use Rattle.verilog_reader.proofs.Distinct.{all_of}
use Rattle.verilog_reader.proofs.Filling.{Entries, mentioned_entries}
use Rattle.verilog_reader.proofs.FoldingPlaces.{kept, each_left, each_right, items_of_fine}
use Rattle.verilog_reader.proofs.Places.{named, placed, named_all, declared_named}

abbrev declared_of : List Placed → Entries
declared_of ps = with_declared [] (declarations ps)

module _ (es : Entries) where
  abbrev AllNamed : List Declaration → Type 0
  AllNamed ds = Each (λ (d : Declaration). named es d.name ≡ true) ds

  all_named : (ds : List Declaration) → ((q : List ℕ) → is_declared ds q ≡ true → named es q ≡ true) → AllNamed ds
  all_named [] h = tt
  all_named (d ∷ ds) h = (
    h d.name (ap (λ (t : Bool). t || is_declared ds d.name) (bytes_same d.name d.name refl)),
    all_named ds (λ q is. h q (ap (λ (t : Bool). bytes_eq d.name q || t) is ∙ or_true (bytes_eq d.name q))),
  )

  names_listed : (kind : Declared) (range : Option Range) (names : List (List ℕ)) → AllNamed (map (declaration_of kind range) names) → Each (IsListed es) names
  names_listed kind range [] are = tt
  names_listed kind range (n ∷ names) are = (placed es (unescaped n) ∙ are.0, names_listed kind range names are.1)

  statement_listed : (s : Statement) → AllNamed (declarations_in s) → AreListed es s
  statement_listed (statements.Module name ports) are = tt
  statement_listed (statements.Declare kind range names) are = all_of (IsListed es) names (names_listed kind range names are)
  statement_listed (statements.Assign left right) are = tt
  statement_listed (statements.Instance cell name connections) are = tt

  statements_listed : (ps : List Placed) → AllNamed (declarations ps) → Each (λ (p : Placed). AreListed es p.statement) ps
  statements_listed [] are = tt
  statements_listed (p ∷ ps) are = (
    statement_listed p.statement (each_left (λ (d : Declaration). named es d.name ≡ true) (declarations_in p.statement) (declarations ps) are),
    statements_listed ps (each_right (λ (d : Declaration). named es d.name ≡ true) (declarations_in p.statement) (declarations ps) are),
  )

  -- entries behind these leave the ports
  module _ (xs : Entries) where
    same_of : (line : ℕ) (ds : List Declaration) → AllNamed ds → flat_map (numbered_ports_of (with_entries es xs) line) ds ≡ flat_map (numbered_ports_of es line) ds
    same_of line [] are = refl
    same_of line (d ∷ ds) are =
        ap (λ (o : Option Entry). flat_map (λ direction. port_bits line direction o) (directions_of d.kind) ++ flat_map (numbered_ports_of (with_entries es xs) line) ds) (kept es xs d.name are.0)
        ∙ ap (λ (ports : List Port). numbered_ports_of es line d ++ ports) (same_of line ds are.1)

    same_ports : (ps : List Placed) → AllNamed (declarations ps) → numbered_ports (with_entries es xs) ps ≡ numbered_ports es ps
    same_ports [] are = refl
    same_ports (p ∷ ps) are =
        ap (λ (ports : List Port). ports ++ numbered_ports (with_entries es xs) ps)
        (same_of p.line (declarations_in p.statement) (each_left (λ (d : Declaration). named es d.name ≡ true) (declarations_in p.statement) (declarations ps) are))
        ∙ ap (λ (ports : List Port). numbered_ports_in es p.line p.statement ++ ports)
        (same_ports ps (each_right (λ (d : Declaration). named es d.name ≡ true) (declarations_in p.statement) (declarations ps) are))

declared_are : (ps : List Placed) → AllNamed (declared_of ps) (declarations ps)
declared_are ps =
    all_named (declared_of ps) (declarations ps)
    (λ q is. named_all [] (map (λ (d : Declaration). let e : List ℕ × Option Bounds = (d.name, d.bounds) in e) (declarations ps)) q ∙ declared_named (declarations ps) q ∙ is)

pub all_listed : (ps : List Placed) (es : Entries) → es ≡ declared_of ps → All (λ (p : Placed). AreListed es p.statement) ps
all_listed ps es is =
    subst (λ (es : Entries). All (λ (p : Placed). AreListed es p.statement) ps) (sym is)
    (all_of (λ (p : Placed). AreListed (declared_of ps) p.statement) ps (statements_listed (declared_of ps) ps (declared_are ps)))

pub all_fine : (ps : List Placed) (es : Entries) → es ≡ declared_of ps → All (λ (p : Placed). IsFineStatement (entries ps) p.statement) ps
    → All (λ (p : Placed). HasFineItems (with_mentioned es (mentions ps)) p.statement) ps
all_fine ps es is fine =
    subst (λ (es : Entries). All (λ (p : Placed). HasFineItems (with_mentioned es (mentions ps)) p.statement) ps) (sym is)
    (All-weaker (λ (p : Placed). IsFineStatement (entries ps) p.statement) (λ (p : Placed). HasFineItems (entries ps) p.statement) (λ p. items_of_fine (entries ps) p.statement) ps fine)

-- the netlist whose nets are counted before the mentioned ones come
pub folded_is : (ps : List Placed) (old new : Entries) (name : List ℕ) (line declared : ℕ) (nets : List NetName) (ports : List Port) (assigns : List Assign) (instances : List Instance)
    → old ≡ declared_of ps → new ≡ with_mentioned old (mentions ps) → name ≡ header_name ps → line ≡ header_line ps → nets ≡ flat_map (λ e. entry_nets e.0 e.1) new → declared ≡ total old
    → ports ≡ numbered_ports old ps → assigns ≡ numbered_assigns new ps → instances ≡ numbered_instances new ps
    → ◌≡◌ {A = Netlist} (record { «module» = name; line = line; nets = nets; declared = declared; ports = ports; assigns = assigns; instances = instances }) (numbered (entries ps) ps)
folded_is ps old new name line declared nets ports assigns instances first second is_name is_line are_nets many are_ports are_assigns are_instances =
    let all : new ≡ entries ps = second ∙ ap (λ (es : Entries). with_mentioned es (mentions ps)) first in
    let e_nets = are_nets ∙ ap (λ (es : Entries). flat_map (λ (e : List ℕ × Option Bounds). entry_nets e.0 e.1) es) all in
    let e_many = many ∙ ap total first in
    let e_ports = are_ports ∙ ap (λ (es : Entries). numbered_ports es ps) first ∙ sym (same_ports (declared_of ps) (mentioned_entries (mentions ps)) ps (declared_are ps)) in
    let e_assigns = are_assigns ∙ ap (λ (es : Entries). numbered_assigns es ps) all in
    let e_instances = are_instances ∙ ap (λ (es : Entries). numbered_instances es ps) all in
    λ j. record { «module» = is_name j; line = is_line j; nets = e_nets j; declared = e_many j; ports = e_ports j; assigns = e_assigns j; instances = e_instances j }
