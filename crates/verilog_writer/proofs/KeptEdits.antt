-- The connections at in pins, and edits of a text: no two at one place, and in the order of their places they rise.
use Rattle.std.proofs.Common.{◌≡◌, ℕ, zero, suc, ◌+◌, ◌<◌, ◌≤◌, Bool, true, false, cond, inl, inr, ⊎_elim, List, [], ◌∷◌, ◌++◌, length, map, get_or, Option, Some, None, refl, sym, ap, ◌∙◌, subst, arith}
use Rattle.std.specs.Prelude.{IsPermutation, ◌==◌, option_and_then}
use Rattle.std.specs.List.{slice_get, IsDistinct, AllByRecursion}
use Rattle.std.specs.List.Sorted.{IsNonDecreasingBy}
use Rattle.std.specs.Str.{bytes_eq}
use Rattle.std.proofs.lemmas.Bool.{ne_eqb}
use Rattle.std.proofs.lemmas.Bool.Decides.{nat_tests}
use Rattle.std.proofs.lemmas.Map.Keys.{IsDistinct-IsPermutation}
use Rattle.std.specs.List.{AllByRecursion as Each}
use Rattle.base_types.specs.declared.span.Span.{Span}
use Rattle.base_types.proofs.TruthValues.{bytes_are}
use Rattle.splice.specs.declared.Edit.{Edit}
use Rattle.splice.specs.Spliced.{AreRising}
use Rattle.netlist_core.specs.declared.netlist.Connection.{Connection}
use Rattle.netlist_core.specs.declared.netlist.Instance.{Instance}
use Rattle.netlist_core.specs.declared.netlist.Netlist.{Netlist}
use Rattle.netlist_core.specs.Netlists.{connection_at, AreDistinct}
use Rattle.cell_table.specs.Cells.{Cells}
use Rattle.cell_table.specs.declared.paths.ScanPath.{ScanPath}
use Rattle.chain_trace.specs.Paths.{scan_path_at}
use Rattle.path_links.specs.declared.edits.PinEdit.{PinEdit}
use Rattle.path_links.specs.Edited.{input_of, in_connection}
use Rattle.verilog_reader.proofs.Checked.{each_from}
use Rattle.verilog_reader.proofs.Distinct.{Distinct, IsApartFrom, each_both, each_append}
use Rattle.verilog_writer.proofs.KeptLists.{Has, Spaced, inside, in_order}
use Rattle.verilog_writer.proofs.KeptPlaces.{instance_spans, right_spans}

-- the connection at a pin
pub record IsConnectionAt (n : Netlist) (cells : Cells) (e : PinEdit) (c : Connection) : Type 0 where
  pub placed : Instance
  pub at : slice_get n.instances e.instance ≡ Some placed
  pub pin : c.pin ≡ input_of (scan_path_at n cells e.instance e.path)
  pub found : connection_at (input_of (scan_path_at n cells e.instance e.path)) placed.connections ≡ Some c

pub found_pin : (pin : List ℕ) (cs : List Connection) (c : Connection) → connection_at pin cs ≡ Some c → c.pin ≡ pin
found_pin pin [] c is = absurd cc
found_pin pin (x ∷ xs) c is = by (bytes_eq x.pin pin) refl is (λ more. found_pin pin xs c more)
  where
    by : (t : Bool) → bytes_eq x.pin pin ≡ t → cond t (Some x) (connection_at pin xs) ≡ Some c → (connection_at pin xs ≡ Some c → c.pin ≡ pin) → c.pin ≡ pin
    by true here is rest = let same : x ≡ c = cc in subst (λ (z : Connection). z.pin ≡ pin) same (bytes_are x.pin pin here)
    by false other is rest = rest is

pub found_has : (pin : List ℕ) (cs : List Connection) (c : Connection) → connection_at pin cs ≡ Some c → Has c cs
found_has pin [] c is = absurd cc
found_has pin (x ∷ xs) c is = by (bytes_eq x.pin pin) is (λ more. found_has pin xs c more)
  where
    by : (t : Bool) → cond t (Some x) (connection_at pin xs) ≡ Some c → (connection_at pin xs ≡ Some c → Has c xs) → Has c (x ∷ xs)
    by true is rest = let same : x ≡ c = cc in inl (sym same)
    by false is rest = inr (rest is)

pub connection_is : (n : Netlist) (cells : Cells) (e : PinEdit) (c : Connection) → in_connection n cells e.instance e.path ≡ Some c → IsConnectionAt n cells e c
connection_is n cells e c is = by (slice_get n.instances e.instance) (scan_path_at n cells e.instance e.path) refl refl is
  where
    by : (o : Option Instance) (p : Option ScanPath) → slice_get n.instances e.instance ≡ o → scan_path_at n cells e.instance e.path ≡ p
        → option_and_then (λ (placed : Instance). option_and_then (λ (entered : ScanPath). connection_at entered.input placed.connections) p) o ≡ Some c
        → IsConnectionAt n cells e c
    by None p at path is = absurd cc
    by (Some placed) None at path is = absurd cc
    by (Some placed) (Some entered) at path is =
        let input : input_of (scan_path_at n cells e.instance e.path) ≡ entered.input = ap input_of path in
        record {
          placed = placed;
          at = at;
          pin = found_pin entered.input placed.connections c is ∙ sym input;
          found = subst (λ (pin : List ℕ). connection_at pin placed.connections ≡ Some c) (sym input) is;
        }

-- what stands once in a list
apart_places : {X : Type 0} (x : X) (xs : List X) → ((k : ℕ) (d : X) → k < length xs → x ≡ get_or xs k d → ⊥) → IsApartFrom x xs
apart_places {X} x xs h = each_from (λ (y : X). x ≡ y → ⊥) xs h

no_zero : (k : ℕ) → zero ≡ suc k → ⊥
no_zero k is = absurd cc

pub once : {X : Type 0} (xs : List X) → AreDistinct xs → Distinct xs
once [] is = tt
once (x ∷ xs) is = (
  apart_places x xs (λ k d lt same. no_zero k (is zero (suc k) d (omega arith) (omega arith) same)),
  once xs (λ i j d li lj same. let e : suc i ≡ suc j = is (suc i) (suc j) d (omega arith) (omega arith) same in omega arith),
)

pub has_not : {X Y : Type 0} (f : X → Y) (x : X) (y : Y) (xs : List X) → IsApartFrom y (map f xs) → Has x xs → y ≡ f x → ⊥
has_not f x y [] apart h same = h
has_not {X} f x y (z ∷ xs) apart h same = ⊎_elim (λ (e : x ≡ z). apart.0 (same ∙ ap f e)) (λ (l : Has x xs). has_not f x y xs apart.1 l same) h

-- edits at different places
abbrev pub StartsApart : List Edit → Type 0
StartsApart [] = Unit {0}
StartsApart (x ∷ xs) = Each (λ (y : Edit). x.span.start ≡ y.span.start → ⊥) xs × StartsApart xs

pub starts_append : (xs ys : List Edit) → StartsApart xs → StartsApart ys → Each (λ (x : Edit). Each (λ (y : Edit). x.span.start ≡ y.span.start → ⊥) ys) xs → StartsApart (xs ++ ys)
starts_append [] ys a b apart = b
starts_append (x ∷ xs) ys a b apart = (each_append (λ (y : Edit). x.span.start ≡ y.span.start → ⊥) xs ys a.0 apart.0, starts_append xs ys a.1 b apart.1)

-- where all places stand
pub record AreSlots (n : Netlist) (ps : List Span) (end : ℕ) : Type 0 where
  pub spaced : Spaced 0 end ps
  pub pins : Spaced 0 end (instance_spans n.instances)
  pub rights : Spaced 0 end (right_spans n.assigns)
  pub pin : (s : Span) → Has s (instance_spans n.instances) → Has s ps
  pub right : (s : Span) → Has s (right_spans n.assigns) → Has s ps
  pub apart : (s : Span) → Has s (instance_spans n.instances) → Has s (right_spans n.assigns) → ⊥

-- another order
abbrev start_together : Edit → Edit → Bool
start_together x y = x.span.start == y.span.start

together_swap : (a b : ℕ) → (a == b) ≡ (b == a)
together_swap a b = grind (arith, nat_tests)

together : (a b : ℕ) → (a == b) ≡ false → a ≡ b → ⊥
together a b is same = grind (arith, nat_tests)

distinct_starts : (xs : List Edit) → StartsApart xs → IsDistinct start_together xs
unfolding IsDistinct
distinct_starts [] apart = tt
distinct_starts (x ∷ xs) apart = (by xs apart.0, distinct_starts xs apart.1)
  where
    by : (ys : List Edit) → Each (λ (y : Edit). x.span.start ≡ y.span.start → ⊥) ys → AllByRecursion (λ (y : Edit). start_together x y ≡ false) ys
    by [] each = tt
    by (y ∷ ys) each = (ne_eqb x.span.start y.span.start each.0, by ys each.1)

starts_distinct : (xs : List Edit) → IsDistinct start_together xs → StartsApart xs
unfolding IsDistinct
starts_distinct [] apart = tt
starts_distinct (x ∷ xs) apart = (by xs apart.0, starts_distinct xs apart.1)
  where
    by : (ys : List Edit) → AllByRecursion (λ (y : Edit). start_together x y ≡ false) ys → Each (λ (y : Edit). x.span.start ≡ y.span.start → ⊥) ys
    by [] each = tt
    by (y ∷ ys) each = (together x.span.start y.span.start each.0, by ys each.1)

pub starts_permuted : (xs ys : List Edit) → IsPermutation xs ys → StartsApart xs → StartsApart ys
starts_permuted xs ys same apart =
    starts_distinct ys (IsDistinct-IsPermutation start_together (λ x y. together_swap x.span.start y.span.start) xs ys same (distinct_starts xs apart))

-- in the order of their places they rise
module _ (ps : List Span) (end : ℕ) (spaced : Spaced 0 end ps) where
  pub in_row : (es : List Edit) (at : ℕ) → Each (λ (y : Edit). Has y.span ps) es → StartsApart es → IsNonDecreasingBy (λ (y : Edit). y.span.start) es → Each (λ (y : Edit). at ≤ y.span.start) es → at ≤ end + 1 → AreRising at end es
  in_row [] at placed apart order low le = le
  in_row (e ∷ es) at placed apart order low le =
      let mine = inside ps 0 end e.span spaced placed.0 in
      let ordered = mine.ordered in
      let high = mine.high in
      let later : Each (λ (y : Edit). e.span.start ≤ y.span.start) es = each_from (λ (y : Edit). e.span.start ≤ y.span.start) es (λ k d lt. order zero (suc k) d (omega arith) (omega arith)) in
      let strict : Each (λ (y : Edit). e.span.start < y.span.start) es
      = each_both (λ (y : Edit). e.span.start ≤ y.span.start) (λ (y : Edit). e.span.start ≡ y.span.start → ⊥) (λ (y : Edit). e.span.start < y.span.start) es (λ y a b. below e.span.start y.span.start a b) later apart.0 in
      let behind : Each (λ (y : Edit). e.span.end + 1 ≤ y.span.start) es
      = each_both (λ (y : Edit). e.span.start < y.span.start) (λ (y : Edit). Has y.span ps) (λ (y : Edit). e.span.end + 1 ≤ y.span.start) es (λ y a b. in_order ps 0 end e.span y.span spaced placed.0 b a) strict placed.1 in
      (low.0, ordered, high, in_row es (e.span.end + 1) placed.1 apart.1 (λ i j d a b. order (suc i) (suc j) d (omega arith) (omega arith)) behind (omega arith))
    where
      below : (a b : ℕ) → a ≤ b → (a ≡ b → ⊥) → a < b
      below a b le ne = omega (arith, ne)
