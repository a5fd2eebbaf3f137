-- Nets of two netlists that have one name, and what a netlist shows by names alone.
use Rattle.std.proofs.Common.{◌≡◌, ℕ, ◌<◌, Bool, true, false, ◌&&◌, ◌||◌, cond, eqb, List, [], ◌∷◌, ◌++◌, length, map, refl, sym, ap, ap₂, ◌∙◌, arith}
use Rattle.std.specs.Prelude.{All, Option, Some, None, option_and_then, option_map, slice_index_or}
use Rattle.std.specs.List.{list_any, slice_get, find, flat_map}
use Rattle.std.specs.Str.{bytes_eq}
use Rattle.std.proofs.lemmas.Bool.{eqb-true}
use Rattle.std.proofs.lemmas.List.{length-map, get_or-map, map-append}
use Rattle.std.proofs.lemmas.List.Elements.{All-head, All-tail}
use Rattle.std.proofs.lemmas.Option.{slice_get-map}
use Rattle.std.proofs.lemmas.Slice.Eq.{bytes_eq-Decides}
use Rattle.base_types.proofs.TruthValues.{same_truth}
use Rattle.netlist_core.specs.declared.netlist.NetId.{NetId}
use Rattle.netlist_core.specs.declared.netlist.Bit.{Bit}
use Rattle.netlist_core.specs.declared.netlist.Bit.TheVariants.{Net, Zero, One, Unknown}
use Rattle.netlist_core.specs.declared.netlist.Direction.{Direction}
use Rattle.netlist_core.specs.declared.netlist.NetName.{NetName}
use Rattle.netlist_core.specs.declared.netlist.Port.{Port}
use Rattle.netlist_core.specs.declared.netlist.Assign.{Assign}
use Rattle.netlist_core.specs.declared.netlist.Connection.{Connection}
use Rattle.netlist_core.specs.declared.netlist.Instance.{Instance}
use Rattle.netlist_core.specs.declared.netlist.Netlist.{Netlist}
use Rattle.netlist_core.specs.Netlists.{NamedBit, Named, Low, High, Undefined, NamedPort, NamedInstance, NamedNetlist, named, named_bit, named_port, named_pin, named_instance, named_assign, bit_pairs, plain_of, AreWiredAlike, AreDistinct, IsNetlist, single_net, connection_at, net_at}
use Rattle.netlist_core.specs.Joining.{assigned}
use Rattle.cell_table.specs.declared.paths.ScanPath.{ScanPath}
use Rattle.cell_table.specs.Cells.{Cells}
use Rattle.cell_table.specs.Table.{paths_at}
use Rattle.chain_trace.specs.Paths.{scan_path_at, pin_net, has_port}
use Rattle.chain_trace.proofs.Named.{eqb_same}

-- the ports, assigns and instances by names, and nothing else
abbrev pub wiring : Netlist → NamedNetlist
wiring n = record { module_name = []; nets = []; ports = (named n).ports; assigns = (named n).assigns; instances = (named n).instances }

pub same_wiring : (n m : Netlist) → AreWiredAlike n m → wiring n ≡ wiring m
same_wiring n m same =
    ap₂ (λ (ports : List NamedPort) (assigns : List (List (NamedBit × NamedBit))). let x : NamedNetlist = record { module_name = []; nets = []; ports = ports; assigns = assigns; instances = (named n).instances } in x) same.ports same.assigns
    ∙ ap (λ (instances : List NamedInstance). let x : NamedNetlist = record { module_name = []; nets = []; ports = (named m).ports; assigns = (named m).assigns; instances = instances } in x) same.instances

pub turned_wiring : (n m : Netlist) → AreWiredAlike n m → AreWiredAlike m n
turned_wiring n m same = record { ports = sym same.ports; assigns = sym same.assigns; instances = sym same.instances }

-- a net of one netlist and a net of another have one name
pub record IsSameNet (n m : Netlist) (a b : NetId) : Type 0 where
  pub old : a.0 < length n.nets
  pub new : b.0 < length m.nets
  pub name : plain_of n.nets a ≡ plain_of m.nets b

pub turned : (n m : Netlist) (a b : NetId) → IsSameNet n m a b → IsSameNet m n b a
turned n m a b s = record { old = s.new; new = s.old; name = sym s.name }

abbrev none : NetName
none = record { plain = []; text = [] }

-- the name of a net tells its number
pub net_tells : (nets : List NetName) → AreDistinct (map (λ (net : NetName). net.plain) nets) → (a b : NetId) → a.0 < length nets → b.0 < length nets
    → plain_of nets a ≡ plain_of nets b → a ≡ b
net_tells nets names a b ha hb e =
    let plain = λ (net : NetName). net.plain in
    let at_a : slice_index_or (map plain nets) a.0 [] ≡ plain_of nets a = get_or-map plain nets a.0 none [] ha in
    let at_b : slice_index_or (map plain nets) b.0 [] ≡ plain_of nets b = get_or-map plain nets b.0 none [] hb in
    let len : length (map plain nets) ≡ length nets = length-map nets plain in
    let same : a.0 ≡ b.0 = names a.0 b.0 [] (omega (arith, ha, len)) (omega (arith, hb, len)) (at_a ∙ e ∙ sym at_b) in
    ap (λ (k : ℕ). record { 0 = k }) same

pub one_new : (n m : Netlist) → IsNetlist m → (a b c : NetId) → IsSameNet n m a b → IsSameNet n m a c → b ≡ c
one_new n m ok a b c p q = net_tells m.nets ok.names b c p.new q.new (sym p.name ∙ q.name)

pub one_old : (n m : Netlist) → IsNetlist n → (a b c : NetId) → IsSameNet n m a c → IsSameNet n m b c → a ≡ b
one_old n m ok a b c p q = net_tells n.nets ok.names a b p.old q.old (p.name ∙ sym q.name)

-- a port by its name
abbrev pub is_port_named : (Direction → Bool) → List ℕ → NamedPort → Bool
is_port_named test name port = bytes_eq port.name name && test port.direction

abbrev pub has_port_named : (Direction → Bool) → NamedNetlist → List ℕ → Bool
has_port_named test N name = list_any (is_port_named test name) N.ports

by_name : (nets : List NetName) → AreDistinct (map (λ (net : NetName). net.plain) nets) → (a b : NetId) → a.0 < length nets → b.0 < length nets
    → eqb a.0 b.0 ≡ bytes_eq (plain_of nets a) (plain_of nets b)
by_name nets names a b ha hb =
    let decides = bytes_eq-Decides (plain_of nets a) (plain_of nets b) in
    same_truth (eqb a.0 b.0) (bytes_eq (plain_of nets a) (plain_of nets b))
    (λ e. decides.1 (ap (λ (k : ℕ). plain_of nets (record { 0 = k })) (eqb-true a.0 b.0 e)))
    (λ e. ap (λ (net : NetId). eqb a.0 net.0) (sym (net_tells nets names a b ha hb (decides.0 e))) ∙ eqb_same a.0)

ports_by_name : (nets : List NetName) → AreDistinct (map (λ (net : NetName). net.plain) nets) → (test : Direction → Bool) (net : NetId) → net.0 < length nets
    → (ports : List Port) → All (λ port. port.net.0 < length nets) ports
    → list_any (λ port. eqb port.net.0 net.0 && test port.direction) ports ≡ list_any (is_port_named test (plain_of nets net)) (map (named_port nets) ports)
ports_by_name nets names test net lt [] all = refl
ports_by_name nets names test net lt (p ∷ ps) all =
    let first = by_name nets names p.net net (All-head (λ (port : Port). port.net.0 < length nets) p ps all) lt in
    ap₂ (λ (a b : Bool). (a && test p.direction) || b) first
    (ports_by_name nets names test net lt ps (All-tail (λ (port : Port). port.net.0 < length nets) p ps all))

pub port_by_name : (n : Netlist) (test : Direction → Bool) (net : NetId) → IsNetlist n → net.0 < length n.nets → has_port test n net ≡ has_port_named test (named n) (plain_of n.nets net)
port_by_name n test net ok lt = ports_by_name n.nets ok.names test net lt n.ports ok.port_nets

-- the net of a pin by its name
abbrev single_name : List NamedBit → Option (List ℕ)
single_name [] = None
single_name (Named name ∷ []) = Some name
single_name (Named name ∷ (b ∷ bs)) = None
single_name (Low ∷ bs) = None
single_name (High ∷ bs) = None
single_name (Undefined ∷ bs) = None

abbrev name_at : List ℕ → List (List ℕ × List NamedBit) → Option (List ℕ)
name_at pin pins = option_and_then (λ p. single_name p.1) (find (λ p. bytes_eq p.0 pin) pins)

abbrev pub pin_name : NamedNetlist → ℕ → List ℕ → Option (List ℕ)
pin_name N instance pin = option_and_then (λ i. name_at pin i.pins) (slice_get N.instances instance)

module _ (nets : List NetName) where
  single_by_name : (bits : List Bit) → option_map (plain_of nets) (single_net bits) ≡ single_name (map (named_bit nets) bits)
  single_by_name [] = refl
  single_by_name (Net net ∷ []) = refl
  single_by_name (Net net ∷ (b ∷ bs)) = refl
  single_by_name (Zero ∷ bs) = refl
  single_by_name (One ∷ bs) = refl
  single_by_name (Unknown ∷ bs) = refl

  abbrev net_in : Option Connection → Option NetId
  net_in o = option_and_then (λ (c : Connection). single_net c.expr.bits) o

  abbrev name_in : Option (List ℕ × List NamedBit) → Option (List ℕ)
  name_in o = option_and_then (λ p. single_name p.1) o

  first_by_name : (c : Connection) (rest : Option Connection) (others : Option (List ℕ × List NamedBit)) → option_map (plain_of nets) (net_in rest) ≡ name_in others
      → (t : Bool) → option_map (plain_of nets) (net_in (cond t (Some c) rest)) ≡ name_in (cond t (Some (named_pin nets c)) others)
  first_by_name c rest others e true = single_by_name c.expr.bits
  first_by_name c rest others e false = e

  connection_by_name : (pin : List ℕ) (cs : List Connection) → option_map (plain_of nets) (net_in (connection_at pin cs)) ≡ name_at pin (map (named_pin nets) cs)
  connection_by_name pin [] = refl
  connection_by_name pin (c ∷ cs) =
      first_by_name c (connection_at pin cs) (find (λ (p : List ℕ × List NamedBit). bytes_eq p.0 pin) (map (named_pin nets) cs)) (connection_by_name pin cs) (bytes_eq c.pin pin)

  placed_by_name : (pin : List ℕ) (o : Option Instance)
      → option_map (plain_of nets) (option_and_then (net_at pin) o) ≡ option_and_then (λ (i : NamedInstance). name_at pin i.pins) (option_map (named_instance nets) o)
  placed_by_name pin None = refl
  placed_by_name pin (Some placed) = connection_by_name pin placed.connections

pub pin_by_name : (n : Netlist) (instance : ℕ) (pin : List ℕ) → option_map (plain_of n.nets) (pin_net n instance pin) ≡ pin_name (named n) instance pin
pin_by_name n instance pin =
    placed_by_name n.nets pin (slice_get n.instances instance)
    ∙ ap (λ (o : Option NamedInstance). option_and_then (λ (i : NamedInstance). name_at pin i.pins) o) (sym (slice_get-map (named_instance n.nets) n.instances instance))

-- a scan path by the name of its cell
abbrev paths_in : Cells → ℕ → List ℕ → Option ScanPath
paths_in cells path cell = option_and_then (λ (paths : List ScanPath). slice_get paths path) (paths_at cell cells)

abbrev pub scan_path_named : NamedNetlist → Cells → ℕ → ℕ → Option ScanPath
scan_path_named N cells instance path = option_and_then (λ (i : NamedInstance). paths_in cells path i.cell) (slice_get N.instances instance)

path_in_cell : (nets : List NetName) (cells : Cells) (path : ℕ) (o : Option Instance)
    → option_and_then (λ (i : Instance). paths_in cells path i.cell) o ≡ option_and_then (λ (i : NamedInstance). paths_in cells path i.cell) (option_map (named_instance nets) o)
path_in_cell nets cells path None = refl
path_in_cell nets cells path (Some placed) = refl

pub scan_path_by_name : (n : Netlist) (cells : Cells) (instance path : ℕ) → scan_path_at n cells instance path ≡ scan_path_named (named n) cells instance path
scan_path_by_name n cells instance path =
    path_in_cell n.nets cells path (slice_get n.instances instance)
    ∙ ap (λ (o : Option NamedInstance). option_and_then (λ (i : NamedInstance). paths_in cells path i.cell) o) (sym (slice_get-map (named_instance n.nets) n.instances instance))

-- the pairs of bits of all assigns by their names
abbrev pub named_pair : List NetName → Bit × Bit → NamedBit × NamedBit
named_pair nets p = (named_bit nets p.0, named_bit nets p.1)

all_by_name : (nets : List NetName) (assigns : List Assign) → map (named_pair nets) (flat_map bit_pairs assigns) ≡ flat_map (λ ps. ps) (map (named_assign nets) assigns)
all_by_name nets [] = refl
all_by_name nets (a ∷ rest) =
    map-append (named_pair nets) (bit_pairs a) (flat_map bit_pairs rest)
    ∙ ap (λ (ps : List (NamedBit × NamedBit)). named_assign nets a ++ ps) (all_by_name nets rest)

pub assigned_by_name : (n : Netlist) → map (named_pair n.nets) (assigned n) ≡ flat_map (λ ps. ps) (named n).assigns
assigned_by_name n = all_by_name n.nets n.assigns
