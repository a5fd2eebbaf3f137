-- The nets of a netlist are declared or mentioned as their texts say, and a text tells its net.
use Rattle.std.proofs.Common.{◌≡◌, ℕ, ◌≤◌, ◌<◌, ◌^◌, Bool, true, false, cond, not, nat_lt, nat_le, ◌&&◌, ◌||◌, min, max, List, [], ◌∷◌, ◌++◌, length, map, decimal, Option, Some, None, is_some, refl, sym, ap, ◌∙◌, subst, append_assoc, arith}
use Rattle.std.specs.Option.{option_or}
use Rattle.std.specs.Str.{bytes_eq}
use Rattle.verilog_syntax.specs.VerilogTokens.{texts}
use Rattle.std.specs.List.{flat_map, find}
use Rattle.std.proofs.lemmas.Bool.{false≢true, or_right}
use Rattle.std.proofs.lemmas.Bool.Decides.{nat_tests}
use Rattle.std.proofs.lemmas.Fmt.{digits_value-decimal}
use Rattle.std.proofs.lemmas.List.Folds.{find-append}
use Rattle.std.specs.List.{AllByRecursion as Each}
use Rattle.base_types.proofs.TruthValues.{bytes_same}
use Rattle.verilog_syntax.specs.Seams.{is_escapable}
use Rattle.netlist_core.specs.declared.netlist.NetId.{NetId}
use Rattle.netlist_core.specs.declared.netlist.NetName.{NetName}
use Rattle.netlist_core.specs.declared.netlist.Netlist.{Netlist}
use Rattle.netlist_core.specs.Netlists.{plain_of as net_plain}
use Rattle.verilog_syntax.specs.declared.reading.Placed.{Placed}
use Rattle.verilog_syntax.specs.StatementParts.{item_texts}
use Rattle.verilog_names.specs.declared.bounds.Bounds.{Bounds}
use Rattle.verilog_names.specs.Values.{unescaped, name_text, bit_name, decimal_value}
use Rattle.verilog_names.specs.Declarations.{width, indexes, Declaration, declarations, is_named, first_of, is_declared, bounds_or_none, bounds_in, has, mentions, undeclared_in, selects}
use Rattle.verilog_checks.proofs.Faultless.{passed}
use Rattle.verilog_reader.specs.Denoted.{first_declared, first_mentioned, net_entries, entry_nets, bit_text, DenotesNetlist}
use Rattle.verilog_reader.specs.Numbering.{entries}
use Rattle.verilog_reader.proofs.BitNaming.{IsSmall, indexes_within}
use Rattle.verilog_reader.proofs.BitNaming as naming
use Rattle.verilog_reader.proofs.Distinct.{all_of, each_weaker, each_append}
use Rattle.verilog_reader.proofs.Filling.{Entries}
use Rattle.verilog_reader.proofs.Places.{named, entries_are}
use Rattle.verilog_reader.proofs.PortNames.{find_any}
use Rattle.verilog_writer.specs.NetTexts.{indexed_name, net_name}
use Rattle.verilog_writer.specs.VerilogText.{NetBit, indexed_item, net_text, IsIndex, IsNetBit}
use Rattle.verilog_writer.specs.Written.{text_of}
use Rattle.verilog_writer.proofs.Bits.{own, bit_item}
use Rattle.verilog_writer.proofs.Names.{name_again}
use Rattle.verilog_writer.proofs.Nets.{CanBeEscaped, HasSmall, IsSoundEntry, entries_sound}

-- a scalar net that is declared or mentioned, or a bit of a declared vector
abbrev pub IsKnown : List Placed → List ℕ → Option ℕ → Type 0
IsKnown ps name None = (named (entries ps) name ≡ true) × (bounds_in (declarations ps) name ≡ None)
IsKnown ps name (Some i) = (nat_lt 65535 i ≡ false) × (selects (bounds_in (declarations ps) name) i ≡ true)

pub record IsKnownNet (ps : List Placed) (plain text : List ℕ) : Type 0 where
  pub bit : NetBit
  pub is : IsNetBit bit
  pub named : plain ≡ net_name bit
  pub written : text ≡ net_text bit
  pub known : IsKnown ps bit.name bit.index

-- the bounds of an entry are those of its name
pub bounds_at : (before : List Declaration) (d : Declaration) (after : List Declaration) → is_declared before d.name ≡ false → bounds_in (before ++ d ∷ after) d.name ≡ d.bounds
bounds_at before d after new =
    ap bounds_or_none (find-append (is_named d.name) before (d ∷ after)) ∙ by (first_of d.name before) (is_named d.name d) (find_any (is_named d.name) before ∙ new) (bytes_same d.name d.name refl)
  where
    by : (o : Option Declaration) (t : Bool) → is_some o ≡ false → t ≡ true → bounds_or_none (option_or o (cond t (Some d) (find (is_named d.name) after))) ≡ d.bounds
    by None t new same = ap (λ (t : Bool). bounds_or_none (cond t (Some d) (find (is_named d.name) after))) same
    by (Some first) t new same = absurd (false≢true (sym new))

pub no_bounds : (ds : List Declaration) (q : List ℕ) → is_declared ds q ≡ false → bounds_in ds q ≡ None
no_bounds ds q is = by (first_of q ds) (find_any (is_named q) ds ∙ is)
  where
    by : (o : Option Declaration) → is_some o ≡ false → bounds_or_none o ≡ None
    by None is = refl
    by (Some d) is = absurd (false≢true (sym is))

abbrev HasBounds : List Declaration → List ℕ × Option Bounds → Type 0
HasBounds ds e = bounds_in ds e.0 ≡ e.1

declared_bounds : (before ds : List Declaration) → Each (HasBounds (before ++ ds)) (first_declared before ds)
unfolding first_declared
declared_bounds before [] = tt
declared_bounds before (d ∷ ds) =
    let more : Each (HasBounds (before ++ d ∷ ds)) (first_declared (before ++ d ∷ []) ds)
    = subst (λ (all : List Declaration). Each (HasBounds all) (first_declared (before ++ d ∷ []) ds)) (append_assoc before (d ∷ []) ds) (declared_bounds (before ++ d ∷ []) ds) in
    by (is_declared before d.name) refl more
  where
    by : (t : Bool) → is_declared before d.name ≡ t → Each (HasBounds (before ++ d ∷ ds)) (first_declared (before ++ d ∷ []) ds)
        → Each (HasBounds (before ++ d ∷ ds)) (cond t (first_declared (before ++ d ∷ []) ds) ((d.name, d.bounds) ∷ first_declared (before ++ d ∷ []) ds))
    by true is more = more
    by false is more = (bounds_at before d ds is, more)

pub undeclared_new : (ds : List Declaration) (names : List (List ℕ)) → Each (λ q. is_declared ds q ≡ false) (undeclared_in ds names)
undeclared_new ds [] = tt
undeclared_new ds (name ∷ names) = by (is_declared ds name) refl (undeclared_new ds names)
  where
    by : (t : Bool) → is_declared ds name ≡ t → Each (λ q. is_declared ds q ≡ false) (undeclared_in ds names) → Each (λ q. is_declared ds q ≡ false) (cond (not t) (name ∷ undeclared_in ds names) (undeclared_in ds names))
    by true is more = more
    by false is more = (is, more)

mentioned_bounds : (ds : List Declaration) (before names : List (List ℕ)) → Each (λ q. is_declared ds q ≡ false) names → Each (HasBounds ds) (first_mentioned before names)
unfolding first_mentioned
mentioned_bounds ds before [] new = tt
mentioned_bounds ds before (name ∷ names) new = by (has before name) (mentioned_bounds ds (before ++ name ∷ []) names new.1)
  where
    by : (t : Bool) → Each (HasBounds ds) (first_mentioned (before ++ name ∷ []) names) → Each (HasBounds ds) (cond t (first_mentioned (before ++ name ∷ []) names) ((name, None) ∷ first_mentioned (before ++ name ∷ []) names))
    by true more = more
    by false more = (no_bounds ds name new.0, more)

entries_bound : (ps : List Placed) → Each (HasBounds (declarations ps)) (net_entries ps)
entries_bound ps =
    let ds = declarations ps in
    each_append (HasBounds ds) (first_declared [] ds) (first_mentioned [] (undeclared_in ds (mentions ps))) (declared_bounds [] ds) (mentioned_bounds ds [] (undeclared_in ds (mentions ps)) (undeclared_new ds (mentions ps)))

all_named : (es : Entries) → Each (λ (e : List ℕ × Option Bounds). named es e.0 ≡ true) es
all_named [] = tt
all_named (e ∷ es) = (
  ap (λ (t : Bool). t || named es e.0) (bytes_same e.0 e.0 refl),
  each_weaker (λ (x : List ℕ × Option Bounds). named es x.0 ≡ true) (λ (x : List ℕ × Option Bounds). named (e ∷ es) x.0 ≡ true) es (λ x is. or_right (bytes_eq x.0 e.0) (named es x.0) is) (all_named es),
)

entries_named : (ps : List Placed) → Each (λ (e : List ℕ × Option Bounds). named (entries ps) e.0 ≡ true) (net_entries ps)
entries_named ps = subst (λ (es : Entries). Each (λ (e : List ℕ × Option Bounds). named (entries ps) e.0 ≡ true) es) (entries_are ps) (all_named (entries ps))

-- so the nets are known
within_both : (low high i : ℕ) → low ≤ i → i ≤ high → (nat_le low i && nat_le i high) ≡ true
within_both low high i a b = grind (arith, nat_tests)

not_beyond : (i : ℕ) → i ≤ 65535 → nat_lt 65535 i ≡ false
not_beyond i a = grind (arith, nat_tests)

abbrev IsKnownName : List Placed → NetName → Type 0
IsKnownName ps net = IsKnownNet ps net.plain net.text

bits_known : (ps : List Placed) (name : List ℕ) (b : Bounds) → bounds_in (declarations ps) name ≡ Some b → CanBeEscaped name → IsSmall b → (is : List ℕ) → Each (naming.IsIndex b) is
    → Each (IsKnownName ps) (map (λ i. record { plain = bit_name name i; text = bit_text name i }) is)
bits_known ps name b bounds black small [] within = tt
bits_known ps name b bounds black small (i ∷ is) within =
    let low : i ≤ 65535 = omega (arith, small.0, small.1, within.0.1) in (
      record {
        bit = record { name = name; index = Some i };
        is = record { name = black; index = omega (arith, low) };
        named = refl;
        written = refl;
        known = (not_beyond i low, ap (λ (o : Option Bounds). selects o i) bounds ∙ within_both (min b.left b.right) (max b.left b.right) i within.0.0 within.0.1);
      },
      bits_known ps name b bounds black small is within.1,
    )

entry_known : (ps : List Placed) (name : List ℕ) (bounds : Option Bounds) → CanBeEscaped name → HasSmall bounds → bounds_in (declarations ps) name ≡ bounds → named (entries ps) name ≡ true
    → Each (IsKnownName ps) (entry_nets name bounds)
entry_known ps name None black small is there =
    (record { bit = record { name = name; index = None }; is = record { name = black; index = tt }; named = refl; written = refl; known = (there, is) }, tt)
entry_known ps name (Some b) black small is there = bits_known ps name b is black small (indexes b) (indexes_within b 0 (width b) (omega arith))

entries_known : (ps : List Placed) (es : Entries) → Each IsSoundEntry es → Each (HasBounds (declarations ps)) es → Each (λ (e : List ℕ × Option Bounds). named (entries ps) e.0 ≡ true) es
    → Each (IsKnownName ps) (flat_map (λ (e : List ℕ × Option Bounds). entry_nets e.0 e.1) es)
entries_known ps [] sound bounds there = tt
entries_known ps (e ∷ es) sound bounds there =
    each_append (IsKnownName ps) (entry_nets e.0 e.1) (flat_map (λ (e : List ℕ × Option Bounds). entry_nets e.0 e.1) es) (entry_known ps e.0 e.1 sound.0.0 sound.0.1 bounds.0 there.0)
    (entries_known ps es sound.1 bounds.1 there.1)

nets_known : (text : List ℕ) (n : Netlist) (d : DenotesNetlist text n) → Each (IsKnownName d.statements) n.nets
nets_known text n d =
    let ps = d.statements in
    subst (Each (IsKnownName ps)) (sym d.is.nets) (entries_known ps (net_entries ps) (entries_sound text ps (passed text ps d.reads)) (entries_bound ps) (entries_named ps))

pub net_known : (text : List ℕ) (n : Netlist) (d : DenotesNetlist text n) (net : NetId) → net.0 < length n.nets → IsKnownNet d.statements (net_plain n.nets net) (text_of n net)
net_known text n d net lt = all_of (IsKnownName d.statements) n.nets (nets_known text n d) net.0 (record { plain = []; text = [] }) lt

-- a text tells its net
module _ (m k : List ℕ) (black : is_escapable m ≡ true) (dark : is_escapable k ≡ true) where
  same_name : name_text m ≡ name_text k → m ≡ k
  same_name same = sym (name_again m black) ∙ ap unescaped same ∙ name_again k dark

  names_same : (i j : Option ℕ) → IsIndex i → IsIndex j → item_texts (indexed_item m i) ≡ item_texts (indexed_item k j) → indexed_name m i ≡ indexed_name k j
  names_same None None a b same = let first : name_text m ≡ name_text k = cc in same_name first
  names_same None (Some j) a b same = absurd cc
  names_same (Some i) None a b same = absurd cc
  names_same (Some i) (Some j) a b same =
      let first : name_text m ≡ name_text k = cc in
      let third : decimal i ≡ decimal j = cc in
      let low : i < 2 ^ 64 = omega arith in
      let high : j < 2 ^ 64 = omega arith in
      let index : i ≡ j = sym (digits_value-decimal own i low) ∙ ap decimal_value third ∙ digits_value-decimal own j high in
      ap (λ (n : List ℕ). bit_name n i) (same_name first) ∙ ap (λ (x : ℕ). bit_name k x) index

pub text_tells : (a b : NetBit) → IsNetBit a → IsNetBit b → net_text a ≡ net_text b → net_name a ≡ net_name b
text_tells a b ga gb same =
    names_same a.name b.name ga.name gb.name a.index b.index ga.index gb.index
    (sym (bit_item a ga).texts.are ∙ ap (λ (t : List ℕ). texts t) same ∙ (bit_item b gb).texts.are)
