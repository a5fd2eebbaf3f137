-- The text of a net bit has the tokens of its item.
use Rattle.std.proofs.Common.{◌≡◌, ℕ, suc, ◌+◌, ◌<◌, ◌^◌, Bool, true, false, cond, not, nat_lt, ◌&&◌, List, [], ◌∷◌, ◌++◌, length, decimal, Option, Some, None, refl, sym, subst, arith, rules, append_assoc, length-append}
use Rattle.std.specs.Prelude.{◌==◌, fold}
use Rattle.std.specs.List.{list_all, prefix_len}
use Rattle.std.proofs.lemmas.Str.Parse.{IsNumeralModel, numerals_by_fold}
use Rattle.std.proofs.lemmas.Bool.Decides.{nat_tests}
use Rattle.std.proofs.lemmas.Fmt.{decimal_nonempty, digits_decimal}
use Rattle.base_types.proofs.TruthValues.{and_first, and_second}
use Rattle.verilog_syntax.specs.VerilogTokens.{is_blank, is_digit, is_word_start, is_word}
use Rattle.verilog_syntax.specs.VerilogSplit.{is_escaped}
use Rattle.verilog_syntax.specs.Seams.{is_identifier, is_escapable, is_decimal, HasTexts}
use Rattle.verilog_syntax.proofs.NameTokens.{plain_law, plain_bit_law, escaped_law, escaped_bit_law}
use Rattle.verilog_syntax.specs.Words.{is_name, is_reserved}
use Rattle.verilog_syntax.specs.Words as words
use Rattle.verilog_syntax.specs.StatementParts.{IsName, IsDecimal, item_texts, IsOperand}
use Rattle.verilog_names.specs.Values.{decimal_value}
use Rattle.verilog_names.proofs.Indexes.{with_digit}
use Rattle.verilog_writer.specs.VerilogText.{NetBit, indexed_text, indexed_item, net_text, net_item, IsIndex, IsNetBit}

-- an index
pub own : IsNumeralModel (λ ds. list_all is_digit ds ≡ true) decimal_value
own = numerals_by_fold _ (search rules) (fold with_digit) (search rules)

pub positive : (n : ℕ) → nat_lt 0 (suc n) ≡ true
positive n = grind (arith, nat_tests)

some_all : (w : List ℕ) → 0 < length w → list_all is_digit w ≡ true → is_decimal w ≡ true
some_all [] some all = absurd (omega arith)
some_all (b ∷ bs) some all = rw (positive (length bs)) all

index_decimal : (i : ℕ) → i < 2 ^ 32 → is_decimal (decimal i) ≡ true
index_decimal i small = let low : i < 2 ^ 64 = omega arith in some_all (decimal i) (decimal_nonempty i low) (digits_decimal own i low)

index_good : (w : List ℕ) → is_decimal w ≡ true → IsDecimal w
unfolding words.is_decimal
index_good [] e = absurd cc
index_good (b ∷ bs) e = and_second (nat_lt 0 (suc (length bs))) _ e

-- a name
abbrev pub is_plain : List ℕ → Bool
is_plain name = is_identifier name && not (is_reserved name)

pub no_backslash : (b : ℕ) → (b == 92) ≡ true → is_word_start b ≡ true → ⊥
no_backslash b e start = grind (arith, nat_tests)

start_plain : (b : ℕ) (bs : List ℕ) (t : Bool) → (b == 92) ≡ t → is_plain (b ∷ bs) ≡ true → cond t (is_escaped bs) (is_plain (b ∷ bs)) ≡ true
start_plain b bs true e plain =
    let start = and_first (is_word_start b) (list_all is_word bs) (and_first (is_identifier (b ∷ bs)) _ plain) in
    absurd (no_backslash b e start)
start_plain b bs false e plain = plain

pub plain_good : (name : List ℕ) → is_plain name ≡ true → IsName name
unfolding is_name
plain_good [] e = absurd cc
plain_good (b ∷ bs) e = start_plain b bs (b == 92) refl e

pub blank_ends : (bs : List ℕ) → list_all (λ c. not (is_blank c)) bs ≡ true → prefix_len (λ c. not (is_blank c)) (bs ++ 32 ∷ []) ≡ length bs
blank_ends [] e = refl
blank_ends (b ∷ bs) e =
    let black = and_first (not (is_blank b)) _ e in
    let more = blank_ends bs (and_second (not (is_blank b)) _ e) in
    rw (black, more) (omega arith)

escaped_by : (name : List ℕ) → length (name ++ 32 ∷ []) ≡ length name + 1 → prefix_len (λ c. not (is_blank c)) (name ++ 32 ∷ []) ≡ length name → nat_lt 0 (length name) ≡ true
    → is_escaped (name ++ 32 ∷ []) ≡ true
escaped_by name long size some = rw (size, long, some) (grind (arith, nat_tests))

escaped_good : (name : List ℕ) → is_escapable name ≡ true → IsName (92 ∷ (name ++ 32 ∷ []))
unfolding is_name
escaped_good name e =
    let size = blank_ends name (and_second (nat_lt 0 (length name)) _ e) in
    let some = and_first (nat_lt 0 (length name)) _ e in
    escaped_by name (length-append name (32 ∷ [])) size some

name_texts : (name : List ℕ) (t : Bool) → is_plain name ≡ t → is_escapable name ≡ true
    → HasTexts (cond t name (92 ∷ (name ++ 32 ∷ []))) (cond t name (92 ∷ (name ++ 32 ∷ [])) ∷ []) × IsName (cond t name (92 ∷ (name ++ 32 ∷ [])))
name_texts name true plain e = (plain_law name (and_first (is_identifier name) _ plain), plain_good name plain)
name_texts name false plain e = (escaped_law name e, escaped_good name e)

bit_texts : (name d : List ℕ) (t : Bool) → is_plain name ≡ t → is_escapable name ≡ true → is_decimal d ≡ true
    → HasTexts (cond t name (92 ∷ (name ++ 32 ∷ [])) ++ (91 ∷ (d ++ 93 ∷ []))) (cond t name (92 ∷ (name ++ 32 ∷ [])) ∷ (91 ∷ []) ∷ d ∷ (93 ∷ []) ∷ [])
bit_texts name d true plain e f = plain_bit_law name d (and_first (is_identifier name) _ plain) f
bit_texts name d false plain e f =
    subst (λ (l : List ℕ). HasTexts (92 ∷ l) ((92 ∷ (name ++ 32 ∷ [])) ∷ (91 ∷ []) ∷ d ∷ (93 ∷ []) ∷ [])) (sym (append_assoc name (32 ∷ []) (91 ∷ (d ++ 93 ∷ [])))) (escaped_bit_law name d e f)

-- the tokens of a net bit, and that they make an operand
pub record HasItem (bit : NetBit) : Type 0 where
  pub texts : HasTexts (net_text bit) (item_texts (net_item bit))
  pub operand : IsOperand (net_item bit)

has_item : (name : List ℕ) (index : Option ℕ) → is_escapable name ≡ true → IsIndex index → HasTexts (indexed_text name index) (item_texts (indexed_item name index)) × IsOperand (indexed_item name index)
has_item name None e i = name_texts name (is_plain name) refl e
has_item name (Some index) e i =
    let number = index_decimal index i in
    (bit_texts name (decimal index) (is_plain name) refl e number, ((name_texts name (is_plain name) refl e).1, index_good (decimal index) number))

pub bit_item : (bit : NetBit) → IsNetBit bit → HasItem bit
bit_item bit is = let h = has_item bit.name bit.index is.name is.index in record { texts = h.0; operand = h.1 }
