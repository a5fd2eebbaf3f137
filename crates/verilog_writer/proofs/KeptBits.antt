-- The edits of a text as net bits, and what becomes of the items at a place.
use Rattle.std.proofs.Common.{◌≡◌, ℕ, zero, suc, Bool, true, false, cond, inl, inr, ⊎_elim, List, [], ◌∷◌, map, Option, Some, None, refl, sym, ap, ◌∙◌, arith}
use Rattle.std.specs.Prelude.{◌==◌, find}
use Rattle.std.specs.List.{slice_get}
use Rattle.std.proofs.lemmas.Bool.Decides.{nat_tests}
use Rattle.std.specs.List.{AllByRecursion as Each}
use Rattle.base_types.specs.declared.span.Span.{Span}
use Rattle.splice.specs.declared.Edit.{Edit}
use Rattle.netlist_core.specs.declared.netlist.NetId.{NetId}
use Rattle.netlist_core.specs.declared.netlist.Connection.{Connection}
use Rattle.netlist_core.specs.declared.netlist.Netlist.{Netlist}
use Rattle.netlist_core.specs.Netlists.{plain_of as net_plain}
use Rattle.verilog_syntax.specs.declared.statement.Item.{Item}
use Rattle.verilog_syntax.specs.declared.reading.Placed.{Placed}
use Rattle.verilog_reader.proofs.Distinct.{Distinct, IsApartFrom}
use Rattle.verilog_writer.specs.NetTexts.{net_name}
use Rattle.verilog_writer.specs.VerilogText.{NetBit, BitEdit, net_text, net_item, text_edit, text_edits, is_at, changed_items, IsNetBit}
use Rattle.verilog_writer.proofs.Edited.{at_same, at_apart}
use Rattle.verilog_writer.proofs.KeptLists.{Has, each_has}
use Rattle.verilog_writer.proofs.KeptEdits.{StartsApart}
use Rattle.verilog_writer.proofs.KeptNets.{IsKnown}

-- an edit with the text of a known net bit
pub record IsKnownEdit (ps : List Placed) (y : Edit) : Type 0 where
  pub bit : NetBit
  pub is : IsNetBit bit
  pub written : y.text ≡ net_text bit
  pub known : IsKnown ps bit.name bit.index

pub bit_edits : (ps : List Placed) (ys : List Edit) → Each (IsKnownEdit ps) ys → List BitEdit
bit_edits ps [] each = []
bit_edits ps (y ∷ ys) each = record { span = y.span; bit = each.0.bit } ∷ bit_edits ps ys each.1

pub bit_edits_texts : (ps : List Placed) (ys : List Edit) (each : Each (IsKnownEdit ps) ys) → text_edits (bit_edits ps ys each) ≡ ys
unfolding bit_edits
bit_edits_texts ps [] each = refl
bit_edits_texts ps (y ∷ ys) each =
    ap (λ (t : List ℕ). let e : Edit = record { span = y.span; text = t } in e ∷ text_edits (bit_edits ps ys each.1)) (sym each.0.written)
    ∙ ap (λ (l : List Edit). y ∷ l) (bit_edits_texts ps ys each.1)

-- a known net bit
pub record IsKnownBit (ps : List Placed) (bit : NetBit) : Type 0 where
  pub is : IsNetBit bit
  pub known : IsKnown ps bit.name bit.index

pub bit_edits_known : (ps : List Placed) (ys : List Edit) (each : Each (IsKnownEdit ps) ys) → Each (λ (e : BitEdit). IsKnownBit ps e.bit) (bit_edits ps ys each)
unfolding bit_edits
bit_edits_known ps [] each = tt
bit_edits_known ps (y ∷ ys) each = (record { is = each.0.is; known = each.0.known }, bit_edits_known ps ys each.1)

pub bit_edits_are : (P : Span → Type 0) (ps : List Placed) (ys : List Edit) (each : Each (IsKnownEdit ps) ys) → Each (λ (y : Edit). P y.span) ys → Each (λ (e : BitEdit). P e.span) (bit_edits ps ys each)
unfolding bit_edits
bit_edits_are P ps [] each is = tt
bit_edits_are P ps (y ∷ ys) each is = (is.0, bit_edits_are P ps ys each.1 is.1)

-- where no edit begins, nothing changes
pub kept_items : (bits : List BitEdit) (place : Span) (old : List Item) → Each (λ (y : Edit). y.span.start ≡ place.start → ⊥) (text_edits bits) → changed_items bits place old ≡ old
kept_items [] place old none = refl
kept_items (b ∷ bits) place old none = rw (at_apart b.span place none.0) (kept_items bits place old none.1)

-- at an edit the items are that of its net bit
pub record IsReplacedBy (ps : List Placed) (bits : List BitEdit) (y : Edit) : Type 0 where
  pub edit : BitEdit
  pub known : IsKnownBit ps edit.bit
  pub same : text_edit edit ≡ y
  pub is : (old : List Item) → changed_items bits y.span old ≡ net_item edit.bit ∷ []

pub replaced_items : (ps : List Placed) (bits : List BitEdit) (y : Edit) → Each (λ (e : BitEdit). IsKnownBit ps e.bit) bits → StartsApart (text_edits bits) → Has y (text_edits bits) → IsReplacedBy ps bits y
replaced_items ps [] y known apart h = absurd h
replaced_items ps (b ∷ bits) y known apart h =
    ⊎_elim
    (λ (e : y ≡ text_edit b).
    let here : is_at b.span y.span ≡ true = at_same b.span y.span (sym (ap (λ (z : Edit). z.span) e)) in
    record {
      edit = b;
      known = known.0;
      same = sym e;
      is = λ old. ap (λ (t : Bool). cond t (net_item b.bit ∷ []) (changed_items bits y.span old)) here;
    })
    (λ (l : Has y (text_edits bits)).
    let more = replaced_items ps bits y known.1 apart.1 l in
    let other : is_at b.span y.span ≡ false = at_apart b.span y.span (each_has (λ (z : Edit). b.span.start ≡ z.span.start → ⊥) y (text_edits bits) apart.0 l) in
    record {
      edit = more.edit;
      known = more.known;
      same = more.same;
      is = λ old. ap (λ (t : Bool). cond t (net_item b.bit ∷ []) (changed_items bits y.span old)) other ∙ more.is old;
    }) h

-- what becomes of the items at a place: they stay, or a known net bit with the name of the net stands there
pub record IsReplaced (ps : List Placed) (n : Netlist) (bits : List BitEdit) (place : Span) (net : NetId) : Type 0 where
  pub bit : NetBit
  pub known : IsKnownBit ps bit
  pub named : net_name bit ≡ net_plain n.nets net
  pub is : (old : List Item) → changed_items bits place old ≡ net_item bit ∷ []

abbrev pub Comes : List Placed → Netlist → List BitEdit → Span → Option NetId → Type 0
Comes ps n bits place None = (old : List Item) → changed_items bits place old ≡ old
Comes ps n bits place (Some net) = IsReplaced ps n bits place net

-- pins of an instance stand once
pub one_of_pins : (cs : List Connection) (c d : Connection) → Distinct (map (λ (c : Connection). c.pin) cs) → Has c cs → Has d cs → c.pin ≡ d.pin → c ≡ d
one_of_pins [] c d apart hc hd same = absurd hc
one_of_pins (x ∷ xs) c d apart hc hd same =
    let other : (e : Connection) (ys : List Connection) → IsApartFrom x.pin (map (λ (c : Connection). c.pin) ys) → Has e ys → x.pin ≡ e.pin → ⊥
    = pin_not x.pin in
    ⊎_elim
    (λ (a : c ≡ x). ⊎_elim (λ (b : d ≡ x). a ∙ sym b) (λ (l : Has d xs). absurd (other d xs apart.0 l (sym (ap (λ (z : Connection). z.pin) a) ∙ same))) hd)
    (λ (k : Has c xs). ⊎_elim (λ (b : d ≡ x). absurd (other c xs apart.0 k (sym (ap (λ (z : Connection). z.pin) b) ∙ sym same))) (λ (l : Has d xs). one_of_pins xs c d apart.1 k l same) hd) hc
  where
    pin_not : (pin : List ℕ) (e : Connection) (ys : List Connection) → IsApartFrom pin (map (λ (c : Connection). c.pin) ys) → Has e ys → pin ≡ e.pin → ⊥
    pin_not pin e [] apart h same = h
    pin_not pin e (y ∷ ys) apart h same = ⊎_elim (λ (a : e ≡ y). apart.0 (same ∙ ap (λ (z : Connection). z.pin) a)) (λ (l : Has e ys). pin_not pin e ys apart.1 l same) h

-- what is found, and that nothing is
pub record IsFound {X : Type 0} (test : X → Bool) (x : X) (xs : List X) : Type 0 where
  pub has : Has x xs
  pub passes : test x ≡ true

pub find_some : {X : Type 0} (test : X → Bool) (x : X) (xs : List X) → find test xs ≡ Some x → IsFound test x xs
find_some test x [] is = absurd cc
find_some {X} test x (z ∷ zs) is = by (test z) refl is (λ more. find_some test x zs more)
  where
    by : (t : Bool) → test z ≡ t → cond t (Some z) (find test zs) ≡ Some x → (find test zs ≡ Some x → IsFound test x zs) → IsFound test x (z ∷ zs)
    by true here is rest = let same : z ≡ x = cc in record { has = inl (sym same); passes = sym (ap test same) ∙ here }
    by false other is rest = let more = rest is in record { has = inr more.has; passes = more.passes }

pub find_none : {X : Type 0} (test : X → Bool) (x : X) (xs : List X) → find test xs ≡ None → Has x xs → test x ≡ false
find_none test x [] is h = absurd h
find_none {X} test x (z ∷ zs) is h = by (test z) refl is (λ more l. find_none test x zs more l)
  where
    by : (t : Bool) → test z ≡ t → ◌≡◌ {A = Option X} (cond t (Some z) (find test zs)) None → (find test zs ≡ None → Has x zs → test x ≡ false) → test x ≡ false
    by true here is rest = absurd cc
    by false other is rest = ⊎_elim (λ (e : x ≡ z). ap test e ∙ other) (λ (l : Has x zs). rest is l) h

pub same_number : (a b : ℕ) → (a == b) ≡ true → a ≡ b
same_number a b is = grind (arith, nat_tests)

pub number_same : (a b : ℕ) → a ≡ b → (a == b) ≡ true
number_same a b is = grind (arith, nat_tests)

pub some_same : {X : Type 0} (o : Option X) (x y : X) → o ≡ Some x → o ≡ Some y → x ≡ y
some_same o x y a b = let e : Some x ≡ Some y = sym a ∙ b in cc

pub get_has : {X : Type 0} (xs : List X) (k : ℕ) (x : X) → slice_get xs k ≡ Some x → Has x xs
get_has [] k x is = absurd cc
get_has (z ∷ zs) zero x is = let same : z ≡ x = cc in inl (sym same)
get_has (z ∷ zs) (suc k) x is = inr (get_has zs k x is)
