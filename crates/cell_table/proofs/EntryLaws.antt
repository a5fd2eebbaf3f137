-- What is read as cells is what is written: the functions of Cells and the relations of Entries agree.
use Rattle.std.proofs.Common.{◌≡◌, ◌≢◌, ◌<◌, ◌≤◌, ◌==◌, ℕ, zero, suc, ℤ, pos, Bool, true, false, not, if◌then◌else◌, List, [], ◌∷◌, ◌++◌, length, Option, Some, None, Result, Ok, Err, refl, sym, ap, ◌∙◌, subst, arith}
use Rattle.std.specs.Prelude.{nat_le}
use Rattle.std.specs.List.{list_any, AllByRecursion as Each}
use Rattle.std.specs.Ordering.{int_eq}
use Rattle.std.specs.Str.{bytes_eq}
use Rattle.std.proofs.lemmas.Option.{option_and_then_some, same_Some}
use Rattle.std.proofs.lemmas.Bool.{ne_eqb, and_parts, or_parts}
use Rattle.std.proofs.lemmas.Bool.Decides.{Decides-int_eq, nat_tests}
use Rattle.std.proofs.lemmas.Slice.Eq.{bytes_eq-Decides}
use Rattle.base_types.specs.declared.fault.Fault.{Fault}
use Rattle.toml.specs.Data.{Data, Items, no_items, item, Members, no_members, member, as_integer}
use Rattle.cell_table.specs.declared.paths.OutPin.{OutPin}
use Rattle.cell_table.specs.declared.paths.ScanPath.{ScanPath}
use Rattle.cell_table.specs.Cells.{Cells, only_if, items_len, members_len, bit_at, bit_of, each_item, each_member, out_of, are_sized, path_of, pins_of, twice_behind, has_pin_twice, cell_of, with_cell, cells_of, named_cells, cells_in, document_of, cells_at, table_of}
use Rattle.cell_table.specs.Entries.{IsBit, AreItems, AreMembers, IsOut, IsPath, AreDistinct, IsCell, IsNamedCell, HasCells, DenotesCells}

only_true : (t : Bool) (u : Unit {0}) → only_if t ≡ Some u → t ≡ true
only_true true u e = refl
only_true false u e = absurd cc

some_of : (n : ℕ) → not (n == 0) ≡ true → 0 < n
some_of zero e = absurd cc
some_of (suc n) e = omega arith

of_some : (n : ℕ) → 0 < n → not (n == 0) ≡ true
of_some zero h = absurd (omega arith)
of_some (suc n) h = let other : (suc n == 0) ≡ false = ne_eqb _ _ (λ z. absurd (omega arith)) in rw other refl

int_is : (x y : ℤ) → int_eq x y ≡ true → x ≡ y
int_is x y e = (Decides-int_eq x y).0 e

module _ {X : Type 0} (f : Data → Option X) (P : Data → X → Type 0) where
  pub items_are : ((d : Data) (x : X) → f d ≡ Some x → P d x) → (ds : Items) (xs : List X) → each_item f ds ≡ Some xs → AreItems P ds xs
  unfolding each_item
  items_are h no_items xs e = subst (AreItems P no_items) (same_Some _ _ e) tt
  items_are h (item d ds) xs e =
      option_and_then_some _ (f d) xs e (λ x r e. option_and_then_some _ (each_item f ds) xs e (λ ys s e. subst (AreItems P (item d ds)) (same_Some _ _ e) (h d x r, items_are h ds ys s)))

  pub are_items : ((d : Data) (x : X) → P d x → f d ≡ Some x) → (ds : Items) (xs : List X) → AreItems P ds xs → each_item f ds ≡ Some xs
  unfolding each_item
  are_items h no_items [] a = refl
  are_items h no_items (x ∷ xs) a = absurd a
  are_items h (item d ds) [] a = absurd a
  are_items h (item d ds) (x ∷ xs) a = rw (h d x a.0, are_items h ds xs a.1) refl

  pub items_count : (ds : Items) (xs : List X) → AreItems P ds xs → length xs ≡ items_len ds
  items_count no_items [] a = refl
  items_count no_items (x ∷ xs) a = absurd a
  items_count (item d ds) [] a = absurd a
  items_count (item d ds) (x ∷ xs) a = ap suc (items_count ds xs a.1)

module _ {X : Type 0} (f : List ℕ → Data → Option X) (P : List ℕ → Data → X → Type 0) where
  pub members_are : ((k : List ℕ) (d : Data) (x : X) → f k d ≡ Some x → P k d x) → (ms : Members) (xs : List X) → each_member f ms ≡ Some xs → AreMembers P ms xs
  unfolding each_member
  members_are h no_members xs e = subst (AreMembers P no_members) (same_Some _ _ e) tt
  members_are h (member k d ms) xs e =
      option_and_then_some _ (f k d) xs e (λ x r e. option_and_then_some _ (each_member f ms) xs e (λ ys s e. subst (AreMembers P (member k d ms)) (same_Some _ _ e) (h k d x r, members_are h ms ys s)))

  pub are_members : ((k : List ℕ) (d : Data) (x : X) → P k d x → f k d ≡ Some x) → (ms : Members) (xs : List X) → AreMembers P ms xs → each_member f ms ≡ Some xs
  unfolding each_member
  are_members h no_members [] a = refl
  are_members h no_members (x ∷ xs) a = absurd a
  are_members h (member k d ms) [] a = absurd a
  are_members h (member k d ms) (x ∷ xs) a = rw (h k d x a.0, are_members h ms xs a.1) refl

module _ {X : Type 0} (P : List ℕ → Data → X → Type 0) where
  pub members_count : (ms : Members) (xs : List X) → AreMembers P ms xs → length xs ≡ members_len ms
  members_count no_members [] a = refl
  members_count no_members (x ∷ xs) a = absurd a
  members_count (member k d ms) [] a = absurd a
  members_count (member k d ms) (x ∷ xs) a = ap suc (members_count ms xs a.1)

-- bits and pins
by_bit : (d : Data) (z : ℤ) (b s t : Bool) → as_integer d ≡ Some z → s ≡ int_eq z (pos 0) → t ≡ int_eq z (pos 1) → (if s then Some false else (if t then Some true else None)) ≡ Some b → IsBit d b
by_bit d z b true t r is-s is-t e = subst (IsBit d) (same_Some _ _ e) (r ∙ ap (λ (y : ℤ). Some y) (int_is z (pos 0) (sym is-s)))
by_bit d z b false true r is-s is-t e = subst (IsBit d) (same_Some _ _ e) (r ∙ ap (λ (y : ℤ). Some y) (int_is z (pos 1) (sym is-t)))
by_bit d z b false false r is-s is-t e = absurd cc

bit_is : (d : Data) (b : Bool) → bit_of d ≡ Some b → IsBit d b
unfolding bit_of
bit_is d b e = option_and_then_some bit_at (as_integer d) b e (λ z r e. by_bit d z b (int_eq z (pos 0)) (int_eq z (pos 1)) r refl refl e)

is_bit : (d : Data) (b : Bool) → IsBit d b → bit_of d ≡ Some b
unfolding bit_of
is_bit d false e = rw e refl
is_bit d true e = rw e refl

out_is : (pin : List ℕ) (d : Data) (out : OutPin) → out_of pin d ≡ Some out → IsOut pin d out
unfolding out_of
out_is pin d out e =
    option_and_then_some _ (bit_of d) out e (λ b r e.
    let same = same_Some _ _ e in
    record { named = sym (ap (λ (o : OutPin). o.pin) same); inverted = subst (IsBit d) (ap (λ (o : OutPin). o.inverted) same) (bit_is d b r) })

is_out : (pin : List ℕ) (d : Data) (out : OutPin) → IsOut pin d out → out_of pin d ≡ Some out
unfolding out_of
is_out pin d out o = rw (is_bit d out.inverted o.inverted) (ap (λ (p : List ℕ). Some (record { pin = p; inverted = out.inverted })) (sym o.named))

-- paths
record AreSized (input : List ℕ) (bits : Items) (outs : Members) : Type 0 where
  named : 0 < length input
  few : items_len bits ≤ 1024
  some : 0 < members_len outs

sized : (input : List ℕ) (bits : Items) (outs : Members) → are_sized input bits outs ≡ true → AreSized input bits outs
sized input bits outs e =
    let h = and_parts _ _ e in
    let g = and_parts _ _ h.0 in
    let le = g.1 in
    record { named = some_of _ g.0; few = grind (arith, nat_tests, le); some = some_of _ h.1 }

is_sized : (input : List ℕ) (bits : Items) (outs : Members) → AreSized input bits outs → are_sized input bits outs ≡ true
is_sized input bits outs s =
    let few = s.few in
    let le : nat_le (items_len bits) 1024 ≡ true = grind (arith, nat_tests, few) in
    rw (of_some _ s.named, le, of_some _ s.some) refl

path_is : (d : Data) (path : ScanPath) → path_of d ≡ Some path → IsPath d path
unfolding path_of
path_is d path e =
    option_and_then_some _ _ path e (λ u keys e. option_and_then_some _ _ path e (λ input at-in e. option_and_then_some _ _ path e (λ bits at-bits e. option_and_then_some _ _ path e (λ outs at-outs e.
    option_and_then_some _ _ path e (λ v sizes e. option_and_then_some _ _ path e (λ bs of-bits e. option_and_then_some _ _ path e (λ os of-outs e.
    let s = sized input bits outs (only_true _ v sizes) in
    let are-bits = items_are bit_of IsBit bit_is bits bs of-bits in
    let are-outs = members_are out_of IsOut out_is outs os of-outs in
    let few = s.few in
    let some = s.some in
    let count = items_count bit_of IsBit bits bs are-bits in
    let pins = members_count IsOut outs os are-outs in
    subst (IsPath d) (same_Some _ _ e)
    (record {
      bits = bits;
      outs = outs;
      keys = only_true _ u keys;
      input_at = at-in;
      bits_at = at-bits;
      outs_at = at-outs;
      named = s.named;
      few = omega (arith, count, few);
      some = omega (arith, pins, some);
      bits_are = are-bits;
      outs_are = are-outs;
    }))))))))

is_path : (d : Data) (path : ScanPath) → IsPath d path → path_of d ≡ Some path
unfolding path_of
is_path d path p =
    let few = p.few in
    let some = p.some in
    let count = items_count bit_of IsBit p.bits path.bits p.bits_are in
    let pins = members_count IsOut p.outs path.outs p.outs_are in
    let sizes : are_sized path.input p.bits p.outs ≡ true = is_sized path.input p.bits p.outs (record { named = p.named; few = omega (arith, count, few); some = omega (arith, pins, some) }) in
    rw (p.keys, p.input_at, p.bits_at, p.outs_at, sizes, are_items bit_of IsBit is_bit p.bits path.bits p.bits_are, are_members out_of IsOut is_out p.outs path.outs p.outs_are) refl

-- names that stand once
abbrev Apart : List (List ℕ) → List (List ℕ) → Type 0
Apart before ns = Each (λ n. list_any (λ m. bytes_eq m n) before ≡ false) ns

bytes_apart : (m n : List ℕ) → bytes_eq m n ≡ false → m ≢ n
bytes_apart m n e same = let yes = (bytes_eq-Decides m n).1 same in absurd cc

apart_bytes : (m n : List ℕ) (b : Bool) → b ≡ bytes_eq m n → m ≢ n → b ≡ false
apart_bytes m n true e ne = absurd (ne ((bytes_eq-Decides m n).0 (sym e)))
apart_bytes m n false e ne = refl

-- each of these names is apart from those before it, and no two of them are the same
record AreNew (before ns : List (List ℕ)) : Type 0 where
  apart : Each (λ n. Each (λ m. n ≢ m) before) ns
  distinct : AreDistinct ns

not_among : (before : List (List ℕ)) (n : List ℕ) → list_any (λ m. bytes_eq m n) before ≡ false → Each (λ m. n ≢ m) before
not_among [] n e = tt
not_among (m ∷ ms) n e = let h = or_parts _ _ e in (λ same. bytes_apart m n h.0 (sym same), not_among ms n h.1)

among_not : (before : List (List ℕ)) (n : List ℕ) → Each (λ m. n ≢ m) before → list_any (λ m. bytes_eq m n) before ≡ false
among_not [] n h = refl
among_not (m ∷ ms) n h = rw (apart_bytes m n _ refl (λ same. h.0 (sym same)), among_not ms n h.1) refl

each_end : {X : Type 0} (P : X → Type 0) (xs : List X) (y : X) → Each P (xs ++ y ∷ []) → Each P xs × P y
each_end P [] y e = (tt, e.0)
each_end P (x ∷ xs) y e = let r = each_end P xs y e.1 in ((e.0, r.0), r.1)

end_each : {X : Type 0} (P : X → Type 0) (xs : List X) (y : X) → Each P xs → P y → Each P (xs ++ y ∷ [])
end_each P [] y e p = (p, tt)
end_each P (x ∷ xs) y e p = (e.0, end_each P xs y e.1 p)

split_apart : (before : List (List ℕ)) (n : List ℕ) (ns : List (List ℕ)) → Each (λ k. Each (λ m. k ≢ m) (before ++ n ∷ [])) ns → Each (λ k. Each (λ m. k ≢ m) before) ns × Each (λ k. k ≢ n) ns
split_apart before n [] e = (tt, tt)
split_apart before n (k ∷ ks) e =
    let h = each_end (λ m. k ≢ m) before n e.0 in
    let r = split_apart before n ks e.1 in
    ((h.0, r.0), (h.1, r.1))

join_apart : (before : List (List ℕ)) (n : List ℕ) (ns : List (List ℕ)) → Each (λ k. Each (λ m. k ≢ m) before) ns → Each (λ k. k ≢ n) ns → Each (λ k. Each (λ m. k ≢ m) (before ++ n ∷ [])) ns
join_apart before n [] e f = tt
join_apart before n (k ∷ ks) e f = (end_each (λ m. k ≢ m) before n e.0 f.0, join_apart before n ks e.1 f.1)

new_from : (before ns : List (List ℕ)) → twice_behind before ns ≡ false → AreNew before ns
unfolding twice_behind
new_from before [] e = record { apart = tt; distinct = tt }
new_from before (n ∷ ns) e =
    let h = or_parts _ _ e in
    let r = new_from (before ++ n ∷ []) ns h.1 in
    let s = split_apart before n ns r.apart in
    record { apart = (not_among before n h.0, s.0); distinct = (s.1, r.distinct) }

from_new : (before ns : List (List ℕ)) → AreNew before ns → twice_behind before ns ≡ false
unfolding twice_behind
from_new before [] w = refl
from_new before (n ∷ ns) w =
    let here = among_not before n w.apart.0 in
    let more = from_new (before ++ n ∷ []) ns (record { apart = join_apart before n ns w.apart.1 w.distinct.0; distinct = w.distinct.1 }) in
    rw (here, more) refl

none_before : (ns : List (List ℕ)) → Each (λ n. Each (λ m. n ≢ m) []) ns
none_before [] = tt
none_before (n ∷ ns) = (tt, none_before ns)

distinct_is : (paths : List ScanPath) → not (has_pin_twice paths) ≡ true → AreDistinct (pins_of paths)
unfolding has_pin_twice
distinct_is paths e = (new_from [] (pins_of paths) (not_true _ e)).distinct
  where
    not_true : (b : Bool) → not b ≡ true → b ≡ false
    not_true true e = absurd cc
    not_true false e = refl

is_distinct : (paths : List ScanPath) → AreDistinct (pins_of paths) → has_pin_twice paths ≡ false
unfolding has_pin_twice
is_distinct paths d = from_new [] (pins_of paths) (record { apart = none_before (pins_of paths); distinct = d })

-- cells
pub cell_is : (d : Data) (paths : List ScanPath) → cell_of d ≡ Some paths → IsCell d paths
unfolding cell_of
cell_is d paths e =
    option_and_then_some _ _ paths e (λ u keys e. option_and_then_some _ _ paths e (λ values at e. option_and_then_some _ _ paths e (λ v some e. option_and_then_some _ _ paths e (λ ps of e.
    option_and_then_some _ _ paths e (λ w once e.
    let are = items_are path_of IsPath path_is values ps of in
    let count = items_count path_of IsPath values ps are in
    let more = some_of (items_len values) (only_true (not (items_len values == 0)) v some) in
    subst (IsCell d) (same_Some _ _ e)
    (record { values = values; keys = only_true _ u keys; at = at; some = omega (arith, count, more); are = are; once = distinct_is ps (only_true _ w once) }))))))

pub is_cell : (d : Data) (paths : List ScanPath) → IsCell d paths → cell_of d ≡ Some paths
unfolding cell_of
is_cell d paths c =
    let count = items_count path_of IsPath c.values paths c.are in
    let some = c.some in
    let more : 0 < items_len c.values = omega (arith, count, some) in
    rw (c.keys, c.at, of_some _ more, are_items path_of IsPath is_path c.values paths c.are, is_distinct paths c.once) refl

by_entry : (name : List ℕ) (d : Data) (ms : Members) (o : Option (List ScanPath)) (r : Result Cells Fault) (cells : Cells) → o ≡ cell_of d → with_cell name o r ≡ Ok cells
    → ((cs : Cells) → r ≡ Ok cs → AreMembers IsNamedCell ms cs) → AreMembers IsNamedCell (member name d ms) cells
by_entry name d ms None r cells is e later = absurd cc
by_entry name d ms (Some paths) (Err f) cells is e later = absurd cc
by_entry name d ms (Some paths) (Ok cs) cells is e later =
    let same : (name, paths) ∷ cs ≡ cells = cc in
    subst (AreMembers IsNamedCell (member name d ms)) same (record { named = refl; is = cell_is d paths (sym is) }, later cs refl)

pub cells_are : (ms : Members) (cells : Cells) → cells_of ms ≡ Ok cells → AreMembers IsNamedCell ms cells
unfolding cells_of
cells_are no_members cells e = let same : [] ≡ cells = cc in subst (AreMembers IsNamedCell no_members) same tt
cells_are (member name d ms) cells e = by_entry name d ms (cell_of d) (cells_of ms) cells refl e (cells_are ms)

pub are_cells : (ms : Members) (cells : Cells) → AreMembers IsNamedCell ms cells → cells_of ms ≡ Ok cells
unfolding cells_of
are_cells no_members [] a = refl
are_cells no_members (c ∷ cs) a = absurd a
are_cells (member name d ms) [] a = absurd a
are_cells (member name d ms) (c ∷ cs) a = rw (is_cell d c.1 a.0.is, are_cells ms cs a.1) (ap (λ (n : List ℕ). Ok ((n, c.1) ∷ cs)) (sym a.0.named))

-- documents
pub has_is : (document entries : Members) → named_cells document ≡ Some entries → HasCells document entries
unfolding named_cells
has_is document entries e =
    option_and_then_some _ _ entries e (λ cells at e. option_and_then_some _ _ entries e (λ u sizes e.
    let h = and_parts (members_len document == 1) (not (members_len cells == 0)) (only_true _ u sizes) in
    let one = h.0 in
    subst (HasCells document) (same_Some _ _ e) (record { keys = grind (arith, nat_tests, one); at = at; some = some_of (members_len cells) h.1 })))

pub is_has : (document entries : Members) → HasCells document entries → named_cells document ≡ Some entries
unfolding named_cells
is_has document entries h =
    let keys = h.keys in
    let one : (members_len document == 1) ≡ true = grind (arith, nat_tests, keys) in
    rw (h.at, one, of_some _ h.some) refl

in_document : (o : Option Members) (cells : Cells) → cells_in o ≡ Ok cells → (entries : Members) × (o ≡ Some entries) × (cells_of entries ≡ Ok cells)
in_document None cells e = absurd cc
in_document (Some entries) cells e = (entries, refl, e)

at_document : (o : Option Members) (cells : Cells) → cells_at o ≡ Ok cells → (document : Members) × (o ≡ Some document) × (document_of document ≡ Ok cells)
at_document None cells e = absurd cc
at_document (Some document) cells e = (document, refl, e)

pub table_denotes : (text : List ℕ) (cells : Cells) → table_of text ≡ Ok cells → DenotesCells text cells
unfolding table_of document_of
table_denotes text cells e =
    let d = at_document _ cells e in
    let c = in_document _ cells d.2 in
    record { document = d.0; entries = c.0; is = d.1; has = has_is d.0 c.0 c.1; are = cells_are c.0 cells c.2 }

pub denotes_table : (text : List ℕ) (cells : Cells) → DenotesCells text cells → table_of text ≡ Ok cells
unfolding table_of document_of
denotes_table text cells w = rw (w.is, is_has w.document w.entries w.has) (are_cells w.entries cells w.are)
