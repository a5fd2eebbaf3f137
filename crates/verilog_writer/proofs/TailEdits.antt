-- The edits of a text with tails: what each is of, and that it has the text of a net bit that is near.
use Rattle.std.proofs.Common.{◌≡◌, ℕ, zero, suc, ◌+◌, ◌<◌, Bool, true, false, cond, ◌||◌, ◌⊎◌, inl, inr, ⊎_elim, List, [], ◌∷◌, ◌++◌, length, map, option_and_then, Option, Some, None, refl, sym, ap, ◌∙◌, subst, arith}
use Rattle.std.specs.List.{flat_map, slice_get, position_from, AllByRecursion as Each}
use Rattle.std.specs.Str.{bytes_eq}
use Rattle.std.proofs.lemmas.Bool.{false≢true}
use Rattle.base_types.specs.declared.span.Span.{Span}
use Rattle.base_types.proofs.TruthValues.{bytes_same}
use Rattle.splice.specs.declared.Edit.{Edit}
use Rattle.netlist_core.specs.declared.netlist.NetId.{NetId}
use Rattle.netlist_core.specs.declared.netlist.NetName.{NetName}
use Rattle.netlist_core.specs.declared.netlist.Assign.{Assign}
use Rattle.netlist_core.specs.declared.netlist.Connection.{Connection}
use Rattle.netlist_core.specs.declared.netlist.Instance.{Instance}
use Rattle.netlist_core.specs.declared.netlist.Netlist.{Netlist}
use Rattle.netlist_core.specs.Netlists.{connection_at, plain_of}
use Rattle.cell_table.specs.Cells.{Cells}
use Rattle.path_links.specs.Edited.{in_connection}
use Rattle.net_edit.specs.declared.edits.Wire.{Wire}
use Rattle.net_edit.specs.declared.edits.Wire.TheVariants.{Net, Tail}
use Rattle.net_edit.specs.declared.edits.PinEdit.{PinEdit}
use Rattle.net_edit.specs.declared.edits.PortEdit.{PortEdit}
use Rattle.net_edit.specs.declared.edits.TailEdit.{TailEdit}
use Rattle.net_edit.specs.declared.edits.Edits.{Edits}
use Rattle.net_edit.specs.Tails.{net_named}
use Rattle.net_edit.specs.Wires.{net_of_wire, IsWire, names_of}
use Rattle.verilog_syntax.specs.declared.reading.Placed.{Placed}
use Rattle.verilog_names.specs.Declarations.{is_declared}
use Rattle.verilog_reader.specs.Denoted.{DenotesNetlist}
use Rattle.verilog_reader.proofs.Distinct.{each_weaker}
use Rattle.verilog_writer.specs.NetTexts.{net_name}
use Rattle.verilog_writer.specs.VerilogText.{NetBit, net_text}
use Rattle.verilog_writer.specs.Written.{text_of, edit_at, right_edit}
use Rattle.verilog_writer.specs.Inserted.{IsPlainName}
use Rattle.verilog_writer.specs.Wired.{name_or_none, wire_text, pin_connection, pin_edit, port_edit, tail_edit, expression_edits}
use Rattle.verilog_writer.proofs.KeptBits.{IsKnownEdit, IsKnownBit, get_has}
use Rattle.verilog_writer.proofs.KeptLists.{Has, has_either, has_map, each_self, each_has}
use Rattle.verilog_writer.proofs.KeptNets.{net_known}
use Rattle.verilog_writer.proofs.Names.{plain_black}
use Rattle.verilog_writer.proofs.TailSeen.{front_net, behind_net}
use Rattle.verilog_writer.proofs.WireNames.{IsNew, wire_of, plain_text}
use Rattle.verilog_writer.proofs.WireParts.{IsNearBit}

-- members of lists
pub record IsMadeOf {X Y : Type 0} (f : X → List Y) (xs : List X) (y : Y) : Type 0 where
  pub from : X
  pub has : Has from xs
  pub made : Has y (f from)

pub flat_made : {X Y : Type 0} (f : X → List Y) (xs : List X) (y : Y) → Has y (flat_map f xs) → IsMadeOf f xs y
flat_made f [] y h = absurd h
flat_made f (x ∷ xs) y h =
    ⊎_elim (λ (a : Has y (f x)). record { from = x; has = inl refl; made = a })
    (λ (b : Has y (flat_map f xs)). let m = flat_made f xs y b in record { from = m.from; has = inr m.has; made = m.made })
    (has_either y (f x) (flat_map f xs) h)

pub each_of : {X : Type 0} (P : X → Type 0) (xs : List X) → ((x : X) → Has x xs → P x) → Each P xs
each_of {X} P xs all = each_weaker (λ (x : X). Has x xs) P xs all (each_self xs)

-- an edit at a connection, or at a right side
pub record IsAtConnection (o : Option Connection) (text : List ℕ) (y : Edit) : Type 0 where
  pub connection : Connection
  pub is : o ≡ Some connection
  pub edit : y ≡ record { span = connection.expr.span; text = text }

pub at_connection : (o : Option Connection) (text : List ℕ) (y : Edit) → Has y (edit_at o text) → IsAtConnection o text y
at_connection None text y h = absurd h
at_connection (Some c) text y h = ⊎_elim (λ (e : y ≡ record { span = c.expr.span; text = text }). record { connection = c; is = refl; edit = e }) (λ (n : ⊥). absurd n) h

pub record IsAtRight (o : Option Assign) (text : List ℕ) (y : Edit) : Type 0 where
  pub assign : Assign
  pub is : o ≡ Some assign
  pub edit : y ≡ record { span = assign.right.span; text = text }

pub at_right : (o : Option Assign) (text : List ℕ) (y : Edit) → Has y (right_edit o text) → IsAtRight o text y
at_right None text y h = absurd h
at_right (Some a) text y h = ⊎_elim (λ (e : y ≡ record { span = a.right.span; text = text }). record { assign = a; is = refl; edit = e }) (λ (n : ⊥). absurd n) h

-- what an edit of the text is of
module _ (n : Netlist) (cells : Cells) (edits : Edits) where
  pub data IsOfKind (y : Edit) : Type 0 where
    OfPin : (e : PinEdit) → Has e edits.pins → IsAtConnection (in_connection n cells e.instance e.path) (wire_text n edits.tails e.source) y → IsOfKind y
    OfPort : (e : PortEdit) → Has e edits.ports → IsAtRight (slice_get n.assigns e.assign) (wire_text n edits.tails e.source) y → IsOfKind y
    OfTail : (t : TailEdit) → Has t edits.tails → IsAtConnection (pin_connection n t.instance t.pin) t.tail y → IsOfKind y

  pub kind_of : (y : Edit) → Has y (expression_edits n cells edits) → IsOfKind y
  kind_of y h =
      let ports = flat_map (port_edit n edits.tails) edits.ports in
      let tails = flat_map (tail_edit n) edits.tails in
      ⊎_elim
      (λ (a : Has y (flat_map (pin_edit n cells edits.tails) edits.pins)). let m = flat_made (pin_edit n cells edits.tails) edits.pins y a in OfPin m.from m.has (at_connection _ _ y m.made))
      (λ (b : Has y (ports ++ tails)).
      ⊎_elim (λ (p : Has y ports). let m = flat_made (port_edit n edits.tails) edits.ports y p in OfPort m.from m.has (at_right _ _ y m.made))
      (λ (t : Has y tails). let m = flat_made (tail_edit n) edits.tails y t in OfTail m.from m.has (at_connection _ _ y m.made))
      (has_either y ports tails b))
      (has_either y (flat_map (pin_edit n cells edits.tails) edits.pins) (ports ++ tails) h)

-- a tail by its number
pub record IsTailAt (ts : List TailEdit) (k : ℕ) : Type 0 where
  pub tail : TailEdit
  pub get : slice_get ts k ≡ Some tail
  pub has : Has tail ts
  pub plain : plain_of (map net_named (map (λ (t : TailEdit). t.tail) ts)) (record { 0 = k }) ≡ tail.tail

pub tail_at : (ts : List TailEdit) (k : ℕ) → k < length ts → IsTailAt ts k
tail_at [] k lt = absurd (omega arith)
tail_at (t ∷ ts) zero lt = record { tail = t; get = refl; has = inl refl; plain = refl }
tail_at (t ∷ ts) (suc k) lt =
    let m = tail_at ts k (omega arith) in
    record { tail = m.tail; get = m.get; has = inr m.has; plain = m.plain }

-- the number of a tail
pub record HasNumber (t : TailEdit) (ts : List TailEdit) : Type 0 where
  pub number : ℕ
  pub plain : plain_of (map net_named (map (λ (t : TailEdit). t.tail) ts)) (record { 0 = number }) ≡ t.tail

pub has_number : (t : TailEdit) (ts : List TailEdit) → Has t ts → HasNumber t ts
has_number t [] h = absurd h
has_number t (x ∷ ts) h =
    ⊎_elim (λ (e : t ≡ x). record { number = 0; plain = sym (ap (λ (z : TailEdit). z.tail) e) }) (λ (l : Has t ts). let m = has_number t ts l in record { number = suc m.number; plain = m.plain }) h

pub declared_has : (ts : List TailEdit) (t : TailEdit) → Has t ts → is_declared (map wire_of (map (λ (t : TailEdit). t.tail) ts)) t.tail ≡ true
declared_has [] t h = absurd h
declared_has (x ∷ ts) t h =
    ⊎_elim (λ (e : t ≡ x). ap (λ (b : Bool). b || is_declared (map wire_of (map (λ (t : TailEdit). t.tail) ts)) t.tail) (bytes_same x.tail t.tail (sym (ap (λ (z : TailEdit). z.tail) e))))
    (λ (l : Has t ts). or_right (bytes_eq x.tail t.tail) (is_declared (map wire_of (map (λ (t : TailEdit). t.tail) ts)) t.tail) (declared_has ts t l)) h
  where
    or_right : (a b : Bool) → b ≡ true → (a || b) ≡ true
    or_right true b is = refl
    or_right false b is = is

-- the in pin is connected
pub record IsConnected (n : Netlist) (cells : Cells) (e : PinEdit) : Type 0 where
  pub connection : Connection
  pub is : in_connection n cells e.instance e.path ≡ Some connection

-- what edits with tails need: names that stand nowhere, wires that are there, and connected pins
pub record AreTailed (n : Netlist) (cells : Cells) (ps : List Placed) (edits : Edits) : Type 0 where
  pub there : Each (IsConnected n cells) edits.pins
  pub news : Each (IsNew ps) (names_of edits)
  pub pins : Each (λ e. IsWire n (length edits.tails) e.source) edits.pins
  pub ports : Each (λ e. IsWire n (length edits.tails) e.source) edits.ports
  pub tails : Each (λ t. IsWire n (length edits.tails) t.source) edits.tails
  pub freed : Each (λ t. t.port.0 < length n.nets) edits.tails
  pub lefts : Each (λ e. (a : Assign) → slice_get n.assigns e.assign ≡ Some a → length a.left.bits ≡ 1) edits.ports

-- the netlist with the tails behind its nets
abbrev pub longer : Netlist → Edits → Netlist
longer n edits = record {
  «module» = n.«module»;
  line = n.line;
  nets = n.nets ++ map net_named (names_of edits);
  declared = n.declared;
  ports = n.ports;
  assigns = n.assigns;
  instances = n.instances;
}

-- a text of a near net bit
pub record IsNearText (n : Netlist) (ps : List Placed) (edits : Edits) (text : List ℕ) (net : NetId) : Type 0 where
  pub bit : NetBit
  pub near : IsNearBit ps (names_of edits) bit
  pub written : text ≡ net_text bit
  pub named : plain_of (longer n edits).nets net ≡ net_name bit

module _ (text : List ℕ) (n : Netlist) (d : DenotesNetlist text n) (cells : Cells) (edits : Edits) (are : AreTailed n cells d.statements edits) where
  pub near_net : (net : NetId) → net.0 < length n.nets → IsNearText n d.statements edits (text_of n net) net
  near_net net lt =
      let k = net_known text n d net lt in
      record { bit = k.bit; near = record { is = k.is; near = inr k.known }; written = k.written; named = front_net n.nets (map net_named (names_of edits)) net lt ∙ k.named }

  -- each tail's name is plain
  plain_tail : (t : TailEdit) → Has t edits.tails → IsPlainName t.tail
  plain_tail t h = (each_has (IsNew d.statements) t.tail (names_of edits) are.news (has_map (λ (t : TailEdit). t.tail) t edits.tails h)).plain

  pub near_tail : (t : TailEdit) (k : ℕ) → Has t edits.tails → plain_of (map net_named (names_of edits)) (record { 0 = k }) ≡ t.tail → IsNearText n d.statements edits t.tail (record { 0 = length n.nets + k })
  near_tail t k h plain =
      let p = plain_tail t h in
      record {
        bit = record { name = t.tail; index = None };
        near = record { is = record { name = plain_black t.tail p.identifier; index = tt }; near = inl (declared_has edits.tails t h, refl) };
        written = sym (plain_text t.tail p);
        named = behind_net n.nets (map net_named (names_of edits)) k ∙ plain;
      }

  pub near_wire : (w : Wire) → IsWire n (length edits.tails) w → IsNearText n d.statements edits (wire_text n edits.tails w) (net_of_wire n w)
  near_wire (Net net) lt = near_net net lt
  near_wire (Tail k) lt =
      let a = tail_at edits.tails k lt in
      subst (λ (t : List ℕ). IsNearText n d.statements edits t (record { 0 = length n.nets + k })) (sym (ap name_or_none a.get)) (near_tail a.tail k a.has a.plain)

  -- each edit has the text of a near bit
  pub record IsNearEdit (y : Edit) : Type 0 where
    pub net : NetId
    pub near : IsNearText n d.statements edits y.text net

  pub near_edit : (y : Edit) → Has y (expression_edits n cells edits) → IsNearEdit y
  near_edit y h = by (kind_of n cells edits y h)
    where
      text_is : (t : List ℕ) (net : NetId) → y.text ≡ t → IsNearText n d.statements edits t net → IsNearEdit y
      text_is t net same near = record { net = net; near = subst (λ (v : List ℕ). IsNearText n d.statements edits v net) (sym same) near }

      by : IsOfKind n cells edits y → IsNearEdit y
      by (OfPin e has at) =
          text_is (wire_text n edits.tails e.source) (net_of_wire n e.source) (ap (λ (z : Edit). z.text) at.edit) (near_wire e.source (each_has (λ e. IsWire n (length edits.tails) e.source) e edits.pins are.pins has))
      by (OfPort e has at) =
          text_is (wire_text n edits.tails e.source) (net_of_wire n e.source) (ap (λ (z : Edit). z.text) at.edit) (near_wire e.source (each_has (λ e. IsWire n (length edits.tails) e.source) e edits.ports are.ports has))
      by (OfTail t has at) =
          let i = has_number t edits.tails has in
          text_is t.tail (record { 0 = length n.nets + i.number }) (ap (λ (z : Edit). z.text) at.edit) (near_tail t i.number has i.plain)
