-- The calls of the made STIL beside its head.
use Rattle.std.proofs.Common.{◌≡◌, ℕ, zero, suc, ◌<◌, ◌≤◌, true, false, max, List, [], ◌∷◌, ◌++◌, map, refl, ap, codes, Some, None, arith}
use Rattle.std.specs.Prelude.{nat_lt}
use Rattle.std.specs.List.{flat_map}
use Rattle.std.specs.Fmt.{digits}
use Rattle.std.proofs.lemmas.Bool.Decides.{nat_tests}
use Rattle.base_types.specs.declared.span.Span.{Span}
use Rattle.base_types.proofs.TruthValues.{and_false}
use Rattle.stil_types.specs.declared.head.StilHead.{StilHead}
use Rattle.stil_types.specs.Calls.{most_bits, longest_string}
use Rattle.stil_syntax.specs.declared.item.Item.{Item}
use Rattle.stil_syntax.specs.declared.shape.Shape.TheVariants.{Scan}
use Rattle.stil_syntax.specs.Names.{name_at}
use Rattle.stil_syntax.specs.Shapes.{shape_of}
use Rattle.stil_calls.specs.declared.judging.Judging.TheVariants.{Lengths}
use Rattle.stil_calls.specs.Scans.{gives_twice, has_unsound, is_foreign, is_short, is_long, is_vast, shifts_in, bits_of, call_of}
use Rattle.stil_calls.specs.Faults.{kind_of}
use Rattle.design_maker.specs.Chains.{chain_length}
use Rattle.made_law.specs.Designs.Names.{in_port, out_port}
use Rattle.made_law.specs.Patterns.MadeHead.{BlockPlace, chain_numbers, made_block, made_head}
use Rattle.made_law.specs.Patterns.MadePatterns.{load_string, compare_string, made_call}
use Rattle.design_maker.specs.Pieces.{pieces}
use Rattle.design_maker.specs.MadeStil.{load_character, compare_character}
use Rattle.made_law.proofs.patterns.Numbers.{decimal_letters, length_is}
use Rattle.made_law.proofs.patterns.Strings.{load_is, compare_is}
use Rattle.made_law.proofs.patterns.Tokens.{tokens_by, on, ends, pass_ends, closed_is, nothing_is, no_labels}
use Rattle.made_law.proofs.patterns.HeadValues.{AreChains, numbers_are}
use Rattle.made_law.proofs.patterns.Items.{Row, row_words, item_of, IsRow, AreRows, row_is, call_reads, rows_pass}

-- what a call gives chain k
abbrev pub rows_of : ℕ → ℕ → ℕ → List Row
rows_of n zero k = record { name = in_port k; string = pieces (load_character zero k) (chain_length n k) } ∷ []
rows_of n (suc r) k =
    record { name = in_port k; string = pieces (load_character (suc r) k) (chain_length n k) } ∷ record { name = out_port k; string = pieces (compare_character (suc r) k) (chain_length n k) } ∷ []

abbrev pub rows : ℕ → ℕ → List Row
rows n r = flat_map (rows_of n r) chain_numbers

abbrev pub call_words : ℕ → ℕ → List (List ℕ)
call_words n r = codes "Call" ∷ codes "load_unload" ∷ codes "{" ∷ (flat_map row_words (rows n r) ++ codes "}" ∷ [])

twice : (m : ℕ) → max m m ≡ m
twice m = omega arith

none_below : (m : ℕ) → nat_lt m 0 ≡ false
none_below m = grind (arith, nat_tests)

kind_none : (head : StilHead) (items : List Item) → gives_twice items ≡ false → has_unsound head.chains items ≡ false → is_foreign head.chains items ≡ false → is_short head.chains items ≡ false
    → is_long head.chains items ≡ false → is_vast head.chains items ≡ false → kind_of Lengths head (Scan items) ≡ None
kind_none head items twice unsound foreign short long vast = rw (twice, unsound, foreign, short, long, vast) refl

module _ (n : ℕ) (least : 8 ≤ n) (most : n ≤ 16384) where
  load_row : (r k : ℕ) → k < 8 → IsRow (record { name = in_port k; string = pieces (load_character r k) (chain_length n k) })
  load_row r k lt =
      let l = length_is n k least most lt in
      let s = load_is r k (chain_length n k) in
      row_is (in_port k) (pieces (load_character r k) (chain_length n k)) (omega arith) (rw (decimal_letters k (omega arith)) refl) (omega (arith, l.some, s.count)) s.letters

  compare_row : (r k : ℕ) → k < 8 → IsRow (record { name = out_port k; string = pieces (compare_character r k) (chain_length n k) })
  compare_row r k lt =
      let l = length_is n k least most lt in
      let s = compare_is r k (chain_length n k) in
      row_is (out_port k) (pieces (compare_character r k) (chain_length n k)) (omega arith) (rw (decimal_letters k (omega arith)) refl) (omega (arith, l.some, s.count)) s.letters

  rows_are : (r : ℕ) (ks : List ℕ) → AreChains ks → AreRows (flat_map (rows_of n r) ks)
  rows_are r [] all = tt
  rows_are zero (k ∷ ks) all = (load_row zero k all.0, rows_are zero ks all.1)
  rows_are (suc r) (k ∷ ks) all = (load_row (suc r) k all.0, (compare_row (suc r) k all.0, rows_are (suc r) ks all.1))

  pub call_ends : (r : ℕ) → ends 0 (call_words n r) ≡ true
  call_ends r = pass_ends 0 1 (codes "Call" ∷ codes "load_unload" ∷ codes "{" ∷ flat_map row_words (rows n r)) (codes "}") [] (rows_pass (rows n r) (rows_are r chain_numbers numbers_are))

  pub call_shape : (r : ℕ) (by : ℕ → BlockPlace) (at : ℕ → Span) → shape_of (made_head by n) false (tokens_by at (call_words n r)) ≡ Scan (map item_of (rows n r))
  unfolding shape_of name_at
  call_shape r by at =
      let ws = codes "{" ∷ (flat_map row_words (rows n r) ++ codes "}" ∷ []) in
      rw (
        closed_is at (call_words n r) (call_ends r),
        nothing_is at (call_words n r) (call_ends r),
        no_labels at (codes "Call") (codes "load_unload") ws refl refl,
        call_reads (on 2 at) (rows n r) (rows_are r chain_numbers numbers_are),
      ) refl

  first_unsound : (by : ℕ → BlockPlace) → has_unsound (map (made_block by n) chain_numbers) (map item_of (rows n 0)) ≡ false
  unfolding digits
  first_unsound by =
      let l = λ (k : ℕ). load_is 0 k (chain_length n k) in
      rw ((l 0).sound, (l 1).sound, (l 2).sound, (l 3).sound, (l 4).sound, (l 5).sound, (l 6).sound, (l 7).sound) refl

  later_unsound : (r : ℕ) (by : ℕ → BlockPlace) → has_unsound (map (made_block by n) chain_numbers) (map item_of (rows n (suc r))) ≡ false
  unfolding digits
  later_unsound r by =
      let l = λ (k : ℕ). load_is (suc r) k (chain_length n k) in
      let c = λ (k : ℕ). compare_is (suc r) k (chain_length n k) in
      rw (
        (l 0).sound,
        (l 1).sound,
        (l 2).sound,
        (l 3).sound,
        (l 4).sound,
        (l 5).sound,
        (l 6).sound,
        (l 7).sound,
        (c 0).sound,
        (c 1).sound,
        (c 2).sound,
        (c 3).sound,
        (c 4).sound,
        (c 5).sound,
        (c 6).sound,
        (c 7).sound,
      ) refl

  first_shifts : (by : ℕ → BlockPlace) → shifts_in (map (made_block by n) chain_numbers) (map item_of (rows n 0)) ≡ chain_length n 0
  unfolding digits
  first_shifts by =
      let l = λ (k : ℕ). load_is 0 k (chain_length n k) in
      rw ((l 0).given, (l 1).given, (l 2).given, (l 3).given, (l 4).given, (l 5).given, (l 6).given, (l 7).given) (omega arith)

  later_shifts : (r : ℕ) (by : ℕ → BlockPlace) → shifts_in (map (made_block by n) chain_numbers) (map item_of (rows n (suc r))) ≡ chain_length n 0
  unfolding digits
  later_shifts r by =
      let l = λ (k : ℕ). load_is (suc r) k (chain_length n k) in
      let c = λ (k : ℕ). compare_is (suc r) k (chain_length n k) in
      rw (
        (l 0).given,
        (l 1).given,
        (l 2).given,
        (l 3).given,
        (l 4).given,
        (l 5).given,
        (l 6).given,
        (l 7).given,
        (c 0).given,
        (c 1).given,
        (c 2).given,
        (c 3).given,
        (c 4).given,
        (c 5).given,
        (c 6).given,
        (c 7).given,
        twice (chain_length n 0),
        twice (chain_length n 1),
        twice (chain_length n 2),
        twice (chain_length n 3),
        twice (chain_length n 4),
        twice (chain_length n 5),
        twice (chain_length n 6),
        twice (chain_length n 7),
      ) (omega arith)

  longest : (by : ℕ → BlockPlace) → most_bits (bits_of (map (made_block by n) chain_numbers)) ≡ chain_length n 0
  longest by = omega arith

  first_long : (by : ℕ → BlockPlace) → is_long (map (made_block by n) chain_numbers) (map item_of (rows n 0)) ≡ false
  unfolding digits
  first_long by =
      rw (
        none_below (chain_length n 0),
        none_below (chain_length n 1),
        none_below (chain_length n 2),
        none_below (chain_length n 3),
        none_below (chain_length n 4),
        none_below (chain_length n 5),
        none_below (chain_length n 6),
        none_below (chain_length n 7),
      ) refl

  later_long : (r : ℕ) (by : ℕ → BlockPlace) → is_long (map (made_block by n) chain_numbers) (map item_of (rows n (suc r))) ≡ false
  unfolding digits
  later_long r by =
      let c = λ (k : ℕ). compare_is (suc r) k (chain_length n k) in
      rw ((c 0).reach, (c 1).reach, (c 2).reach, (c 3).reach, (c 4).reach, (c 5).reach, (c 6).reach, (c 7).reach) refl

  kind_by : (by : ℕ → BlockPlace) (items : List Item) → gives_twice items ≡ false → is_foreign (map (made_block by n) chain_numbers) items ≡ false
      → has_unsound (map (made_block by n) chain_numbers) items ≡ false → shifts_in (map (made_block by n) chain_numbers) items ≡ chain_length n 0 → is_long (map (made_block by n) chain_numbers) items ≡ false
      → kind_of Lengths (made_head by n) (Scan items) ≡ None
  kind_by by items twice foreign unsound shifts long =
      let head = made_head by n in
      let cs = head.chains in
      let l = length_is n 0 least most (omega arith) in
      let few = l.few in
      let none : nat_lt (chain_length n 0) (chain_length n 0) ≡ false = grind (arith, nat_tests) in
      let short : is_short cs items ≡ false = rw (shifts, longest by, none) (and_false (nat_lt 0 (chain_length n 0))) in
      let small : nat_lt 524288 (chain_length n 0) ≡ false = grind (arith, nat_tests) in
      let vast : is_vast cs items ≡ false = rw (shifts, small) refl in
      kind_none head items twice unsound foreign short long vast

  pub call_kind : (r : ℕ) (by : ℕ → BlockPlace) → kind_of Lengths (made_head by n) (Scan (map item_of (rows n r))) ≡ None
  unfolding digits
  call_kind zero by = kind_by by (map item_of (rows n 0)) refl refl (first_unsound by) (first_shifts by) (first_long by)
  call_kind (suc r) by = kind_by by (map item_of (rows n (suc r))) refl refl (later_unsound r by) (later_shifts r by) (later_long r by)

  pub call_is : (r : ℕ) (by : ℕ → BlockPlace) → call_of (map (made_block by n) chain_numbers) (map item_of (rows n r)) ≡ made_call n r
  unfolding digits
  call_is zero by =
      let l = λ (k : ℕ). load_is 0 k (chain_length n k) in
      let s : max (longest_string (map (λ k. Some (load_string n 0 k)) chain_numbers)) (longest_string (map (compare_string n 0) chain_numbers)) ≡ chain_length n 0 =
      rw ((l 0).count, (l 1).count, (l 2).count, (l 3).count, (l 4).count, (l 5).count, (l 6).count, (l 7).count) (omega arith)
      in
      rw ((l 0).same, (l 1).same, (l 2).same, (l 3).same, (l 4).same, (l 5).same, (l 6).same, (l 7).same)
      (ap (λ (m : ℕ). record { shifts = m; loads = map (λ k. Some (load_string n 0 k)) chain_numbers; compares = map (compare_string n 0) chain_numbers }) s)
  call_is (suc r) by =
      let l = λ (k : ℕ). load_is (suc r) k (chain_length n k) in
      let c = λ (k : ℕ). compare_is (suc r) k (chain_length n k) in
      let s : max (longest_string (map (λ k. Some (load_string n (suc r) k)) chain_numbers)) (longest_string (map (compare_string n (suc r)) chain_numbers)) ≡ chain_length n 0 =
      rw (
        (l 0).count,
        (l 1).count,
        (l 2).count,
        (l 3).count,
        (l 4).count,
        (l 5).count,
        (l 6).count,
        (l 7).count,
        (c 0).count,
        (c 1).count,
        (c 2).count,
        (c 3).count,
        (c 4).count,
        (c 5).count,
        (c 6).count,
        (c 7).count,
      ) (omega arith)
      in
      rw (
        (l 0).same,
        (l 1).same,
        (l 2).same,
        (l 3).same,
        (l 4).same,
        (l 5).same,
        (l 6).same,
        (l 7).same,
        (c 0).same,
        (c 1).same,
        (c 2).same,
        (c 3).same,
        (c 4).same,
        (c 5).same,
        (c 6).same,
        (c 7).same,
      )
      (ap (λ (m : ℕ). record { shifts = m; loads = map (λ k. Some (load_string n (suc r) k)) chain_numbers; compares = map (compare_string n (suc r)) chain_numbers }) s)
