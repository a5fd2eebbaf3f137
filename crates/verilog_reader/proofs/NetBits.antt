-- The bits of expressions by their names.
use Rattle.std.proofs.Common.{◌≡◌, ℕ, zero, suc, ◌+◌, ◌-◌, ◌<◌, ◌≤◌, Bool, true, false, cond, ◌&&◌, min, max, leb, List, [], ◌∷◌, ◌++◌, length, map, get_or, Option, Some, None, refl, sym, ap, subst, inl, inr, ◌∙◌, arith}
use Rattle.std.specs.List.{flat_map}
use Rattle.std.specs.Str.{bytes_eq}
use Rattle.std.proofs.lemmas.Bool.{cases_Bool, and_parts, leb-true, leb-false}
use Rattle.std.proofs.lemmas.Option.{none-some, same_Some}
use Rattle.std.proofs.lemmas.List.{append_assoc, get_or_append_left, get_or-append-add, get_or-map, length-append}
use Rattle.base_types.proofs.TruthValues.{bytes_are}
use Rattle.netlist_core.specs.declared.netlist.NetName.{NetName}
use Rattle.netlist_core.specs.Netlists.{NamedBit, Named, named_bit, plain_of as net_plain}
use Rattle.verilog_names.specs.declared.bounds.Bounds.{Bounds}
use Rattle.verilog_names.specs.declared.entry.Entry.{Entry}
use Rattle.verilog_names.specs.Values.{bit_name}
use Rattle.verilog_names.specs.Declarations.{width, has_index, has_part, offset, index_at, indexes_from, indexes, width_or_one}
use Rattle.verilog_reader.specs.Denoted.{entry_nets, name_bits, named_of, bit_text}
use Rattle.verilog_names.specs.NameTables.{place_from, place}
use Rattle.verilog_reader.specs.Numbering.{net_bits}
use Rattle.verilog_reader.proofs.Filling.{Entries}
use Rattle.verilog_reader.proofs.NumberedLists.{length-entry, length-indexes_from}

abbrev pub nets_of : Entries → List NetName
nets_of es = flat_map (λ e. entry_nets e.0 e.1) es

-- the name of a bit by its place from the left
abbrev pub bit_at : List ℕ → Option Bounds → ℕ → List ℕ
bit_at name None k = name
bit_at name (Some b) k = bit_name name (index_at b k)

no_net : NetName
no_net = record { plain = []; text = [] }

get_indexes : (b : Bounds) (from n k d : ℕ) → k < n → get_or (indexes_from b from n) k d ≡ index_at b (from + k)
get_indexes b from zero k d lt = absurd (omega arith)
get_indexes b from (suc n) zero d lt = let e : from + 0 ≡ from = omega arith in ap (index_at b) (sym e)
get_indexes b from (suc n) (suc k) d lt =
    let e : from + 1 + k ≡ from + suc k = omega arith in get_indexes b (from + 1) n k d (omega arith) ∙ ap (index_at b) e

at_entry : (name : List ℕ) (b : Option Bounds) (k : ℕ) (d : NetName) → k < width_or_one b → (get_or (entry_nets name b) k d).plain ≡ bit_at name b k
at_entry name None zero d lt = refl
at_entry name None (suc k) d lt = absurd (omega arith)
at_entry name (Some b) k d lt =
    let long = length-indexes_from b 0 (width b) in
    let in' : k < length (indexes b) = omega arith in
    ap (λ (n : NetName). n.plain) (get_or-map (λ (i : ℕ). let n : NetName = record { plain = bit_name name i; text = bit_text name i } in n) (indexes b) k 0 d in')
    ∙ ap (bit_name name) (get_indexes b 0 (width b) k 0 lt ∙ (let e : 0 + k ≡ k = omega arith in ap (index_at b) e))

-- the nets of a name from its place on
at_place : (q : List ℕ) (front : List NetName) (at : ℕ) (es : Entries) (e : Entry) (k : ℕ) (d : NetName) → length front ≡ at → place_from at es q ≡ Some e → k < width_or_one e.bounds
    → (get_or (front ++ nets_of es) (e.first + k) d).plain ≡ bit_at q e.bounds k
at_place q front at [] e k d long is lt = absurd (none-some e is)
at_place q front at (x ∷ es) e k d long is lt =
    elim (cases_Bool (bytes_eq q x.0)) [
      | inl same ↦
          let here : Entry = record { first = at; bounds = x.1 } in
          let one = same_Some here e (ap (λ (t : Bool). cond t (Some here) (place_from (at + width_or_one x.1) es q)) (sym same) ∙ is) in
          let lt' : k < width_or_one x.1 = subst (λ (e : Entry). k < width_or_one e.bounds) (sym one) lt in
          let l = length-entry x.0 x.1 in
          let in' : k < length (entry_nets x.0 x.1) = omega arith in
          subst (λ (e : Entry). (get_or (front ++ nets_of (x ∷ es)) (e.first + k) d).plain ≡ bit_at q e.bounds k) one
          (ap (λ (n : ℕ). (get_or (front ++ nets_of (x ∷ es)) (n + k) d).plain) (sym long)
          ∙ ap (λ (n : NetName). n.plain) (get_or-append-add front (nets_of (x ∷ es)) k d ∙ get_or_append_left (entry_nets x.0 x.1) (nets_of es) d k in')
          ∙ at_entry x.0 x.1 k d lt' ∙ ap (λ (n : List ℕ). bit_at n x.1 k) (sym (bytes_are q x.0 same)))
      | inr other ↦
          let l = length-entry x.0 x.1 in
          let long' : length (front ++ entry_nets x.0 x.1) ≡ at + width_or_one x.1 = length-append front (entry_nets x.0 x.1) ∙ omega arith in
          ap (λ (ns : List NetName). (get_or ns (e.first + k) d).plain) (sym (append_assoc front (entry_nets x.0 x.1) (nets_of es)))
          ∙ at_place q (front ++ entry_nets x.0 x.1) (at + width_or_one x.1) es e k d long'
          (ap (λ (t : Bool). cond t (Some (record { first = at; bounds = x.1 })) (place_from (at + width_or_one x.1) es q)) (sym other) ∙ is) lt
    ]

-- a net of a name is named by its place from the left
pub at_bit : (es : Entries) (q : List ℕ) (e : Entry) (k : ℕ) → place es q ≡ Some e → k < width_or_one e.bounds → net_plain (nets_of es) (record { 0 = e.first + k }) ≡ bit_at q e.bounds k
at_bit es q e k is lt = at_place q [] 0 es e k (record { plain = []; text = [] }) refl is lt

-- nets in a row are the bits of a vector in a row
pub run : (nets : List NetName) (q : List ℕ) (b : Bounds) (first from n : ℕ) → ((k : ℕ) → k < n → net_plain nets (record { 0 = first + k }) ≡ bit_name q (index_at b (from + k)))
    → map (named_bit nets) (net_bits first n) ≡ named_of (map (bit_name q) (indexes_from b from n))
run nets q b first from zero are = refl
run nets q b first from (suc n) are =
    let here : first + 0 ≡ first = omega arith in
    let there : from + 0 ≡ from = omega arith in
    let head = ap (λ (m : ℕ). net_plain nets (record { 0 = m })) (sym here) ∙ are 0 (omega arith) ∙ ap (λ (m : ℕ). bit_name q (index_at b m)) there in
    ap (λ (name : List ℕ). Named name ∷ map (named_bit nets) (net_bits (first + 1) n)) head
    ∙ ap (λ (rest : List NamedBit). Named (bit_name q (index_at b from)) ∷ rest)
    (run nets q b (first + 1) (from + 1) n
    (λ k lt.
    let e : first + 1 + k ≡ first + suc k = omega arith in
    let f : from + suc k ≡ from + 1 + k = omega arith in
    ap (λ (m : ℕ). net_plain nets (record { 0 = m })) e ∙ are (suc k) (omega arith) ∙ ap (λ (m : ℕ). bit_name q (index_at b m)) f))

-- all bits of a name
pub all_named : (es : Entries) (q : List ℕ) (e : Entry) → place es q ≡ Some e → map (named_bit (nets_of es)) (net_bits e.first (width_or_one e.bounds)) ≡ named_of (name_bits q e.bounds)
all_named es q e is = by e.bounds refl
  where
    by : (b : Option Bounds) → e.bounds ≡ b → map (named_bit (nets_of es)) (net_bits e.first (width_or_one b)) ≡ named_of (name_bits q b)
    by None none =
        let here : e.first ≡ e.first + 0 = omega arith in
        ap (λ (name : List ℕ). Named name ∷ [])
        (ap (λ (m : ℕ). net_plain (nets_of es) (record { 0 = m })) here ∙ at_bit es q e 0 is (subst (λ (b : Option Bounds). 0 < width_or_one b) (sym none) (omega arith)) ∙ ap (λ (b : Option Bounds). bit_at q b 0) none)
    by (Some b) some =
        run (nets_of es) q b e.first 0 (width b)
        (λ k lt. let zero_k : k ≡ 0 + k = omega arith in at_bit es q e k is (subst (λ (b : Option Bounds). k < width_or_one b) (sym some) lt) ∙ ap (λ (b : Option Bounds). bit_at q b k) some ∙ ap (λ (m : ℕ). bit_name q (index_at b m)) zero_k)

-- an index and its place from the left
pub back : (b : Bounds) (i : ℕ) → has_index b i ≡ true → index_at b (offset b i) ≡ i
back b i is = by (leb b.right b.left) refl
  where
    parts : (min b.left b.right ≤ i) × (i ≤ max b.left b.right)
    parts = let both = and_parts (leb (min b.left b.right) i) (leb i (max b.left b.right)) is in (leb-true (min b.left b.right) i both.0, leb-true i (max b.left b.right) both.1)

    by : (t : Bool) → leb b.right b.left ≡ t → cond t (b.left - cond t (b.left - i) (i - b.left)) (b.left + cond t (b.left - i) (i - b.left)) ≡ i
    by true down = omega (arith, parts.0, parts.1, leb-true b.right b.left down)
    by false up = omega (arith, parts.0, parts.1, leb-false b.right b.left up)

pub offset_within : (b : Bounds) (i : ℕ) → has_index b i ≡ true → offset b i < width b
offset_within b i is = by (leb b.right b.left) refl
  where
    parts : (min b.left b.right ≤ i) × (i ≤ max b.left b.right)
    parts = let both = and_parts (leb (min b.left b.right) i) (leb i (max b.left b.right)) is in (leb-true (min b.left b.right) i both.0, leb-true i (max b.left b.right) both.1)

    by : (t : Bool) → leb b.right b.left ≡ t → cond t (b.left - i) (i - b.left) < (max b.left b.right - min b.left b.right) + 1
    by true down = omega (arith, parts.0, parts.1, leb-true b.right b.left down)
    by false up = omega (arith, parts.0, parts.1, leb-false b.right b.left up)

-- a part of a vector
record IsPart (b part : Bounds) : Type 0 where
  low_left : min b.left b.right ≤ part.left
  high_left : part.left ≤ max b.left b.right
  low_right : min b.left b.right ≤ part.right
  high_right : part.right ≤ max b.left b.right
  order : offset b part.left ≤ offset b part.right

is_part : (b part : Bounds) → has_part b part ≡ true → IsPart b part
is_part b part is =
    let all = and_parts (has_index b part.left && has_index b part.right) (leb (offset b part.left) (offset b part.right)) is in
    let both = and_parts (has_index b part.left) (has_index b part.right) all.0 in
    let left = and_parts (leb (min b.left b.right) part.left) (leb part.left (max b.left b.right)) both.0 in
    let right = and_parts (leb (min b.left b.right) part.right) (leb part.right (max b.left b.right)) both.1 in
    record {
      low_left = leb-true (min b.left b.right) part.left left.0;
      high_left = leb-true part.left (max b.left b.right) left.1;
      low_right = leb-true (min b.left b.right) part.right right.0;
      high_right = leb-true part.right (max b.left b.right) right.1;
      order = leb-true (offset b part.left) (offset b part.right) all.1;
    }

part_at : (b part : Bounds) (k : ℕ) → IsPart b part → k < width part → index_at b (offset b part.left + k) ≡ index_at part k
part_at b part k p lt = by (leb b.right b.left) (leb part.right part.left) refl refl p.order
  where
    by : (t s : Bool) → leb b.right b.left ≡ t → leb part.right part.left ≡ s → cond t (b.left - part.left) (part.left - b.left) ≤ cond t (b.left - part.right) (part.right - b.left)
        → cond t (b.left - (cond t (b.left - part.left) (part.left - b.left) + k)) (b.left + (cond t (b.left - part.left) (part.left - b.left) + k)) ≡ cond s (part.left - k) (part.left + k)
    by true true down same order = omega (arith, p.low_left, p.high_left, p.low_right, p.high_right, order, lt, leb-true b.right b.left down, leb-true part.right part.left same)
    by true false down other order = omega (arith, p.low_left, p.high_left, p.low_right, p.high_right, order, lt, leb-true b.right b.left down, leb-false part.right part.left other)
    by false true up other order = omega (arith, p.low_left, p.high_left, p.low_right, p.high_right, order, lt, leb-false b.right b.left up, leb-true part.right part.left other)
    by false false up same order = omega (arith, p.low_left, p.high_left, p.low_right, p.high_right, order, lt, leb-false b.right b.left up, leb-false part.right part.left same)

part_within : (b part : Bounds) (k : ℕ) → IsPart b part → k < width part → offset b part.left + k < width b
part_within b part k p lt = by (leb b.right b.left) refl p.order
  where
    by : (t : Bool) → leb b.right b.left ≡ t → cond t (b.left - part.left) (part.left - b.left) ≤ cond t (b.left - part.right) (part.right - b.left)
        → cond t (b.left - part.left) (part.left - b.left) + k < (max b.left b.right - min b.left b.right) + 1
    by true down order = omega (arith, p.low_left, p.high_left, p.low_right, p.high_right, order, lt, leb-true b.right b.left down)
    by false up order = omega (arith, p.low_left, p.high_left, p.low_right, p.high_right, order, lt, leb-false b.right b.left up)

-- the bits of a part
pub part_named : (es : Entries) (q : List ℕ) (e : Entry) (b part : Bounds) → place es q ≡ Some e → e.bounds ≡ Some b → has_part b part ≡ true
    → map (named_bit (nets_of es)) (net_bits (e.first + offset b part.left) (width part)) ≡ named_of (name_bits q (Some part))
part_named es q e b part is some has =
    let p = is_part b part has in
    run (nets_of es) q part (e.first + offset b part.left) 0 (width part)
    (λ k lt.
    let sums : e.first + offset b part.left + k ≡ e.first + (offset b part.left + k) = omega arith in
    let zero_k : k ≡ 0 + k = omega arith in
    ap (λ (m : ℕ). net_plain (nets_of es) (record { 0 = m })) sums
    ∙ at_bit es q e (offset b part.left + k) is (subst (λ (x : Option Bounds). offset b part.left + k < width_or_one x) (sym some) (part_within b part k p lt))
    ∙ ap (λ (x : Option Bounds). bit_at q x (offset b part.left + k)) some ∙ ap (bit_name q) (part_at b part k p lt ∙ ap (index_at part) zero_k))

-- one bit
pub one_named : (es : Entries) (q : List ℕ) (e : Entry) (b : Bounds) (i : ℕ) → place es q ≡ Some e → e.bounds ≡ Some b → has_index b i ≡ true
    → net_plain (nets_of es) (record { 0 = e.first + offset b i }) ≡ bit_name q i
one_named es q e b i is some has =
    at_bit es q e (offset b i) is (subst (λ (x : Option Bounds). offset b i < width_or_one x) (sym some) (offset_within b i has))
    ∙ ap (λ (x : Option Bounds). bit_at q x (offset b i)) some ∙ ap (bit_name q) (back b i has)

-- parts lie within the nets of their names
pub part_end : (b part : Bounds) → has_part b part ≡ true → offset b part.left + width part ≤ width b
part_end b part has =
    let last : width part - 1 < width part = omega arith in
    let w = part_within b part (width part - 1) (is_part b part has) last in
    omega (arith, w)
