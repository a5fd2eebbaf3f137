-- Names as they are written, and without their escapes.
use Rattle.std.proofs.Common.{◌≡◌, ℕ, suc, ◌+◌, ◌<◌, ◌^◌, Bool, true, false, cond, not, nat_lt, List, [], ◌∷◌, ◌++◌, length, take, Option, Some, None, refl, ap, ◌∙◌, arith}
use Rattle.std.specs.Prelude.{◌==◌}
use Rattle.std.specs.List.{list_all, prefix_len}
use Rattle.std.proofs.lemmas.Bool.Decides.{nat_tests}
use Rattle.std.proofs.lemmas.Fmt.{digits_value-decimal}
use Rattle.base_types.proofs.TruthValues.{and_first, and_second}
use Rattle.verilog_syntax.specs.VerilogTokens.{is_blank, is_word_start, is_word}
use Rattle.verilog_syntax.specs.VerilogSplit.{is_escaped}
use Rattle.verilog_syntax.specs.Seams.{is_identifier, is_escapable}
use Rattle.verilog_syntax.proofs.NameTokens.{no_blank_start}
use Rattle.netlist_core.specs.Netlists.{Named}
use Rattle.verilog_syntax.specs.Words.{is_name}
use Rattle.verilog_syntax.specs.StatementParts.{IsName}
use Rattle.verilog_names.specs.Values.{unescaped, name_text}
use Rattle.verilog_names.specs.Declarations.{Declaration}
use Rattle.verilog_reader.specs.Denoted.{item_bits}
use Rattle.verilog_writer.specs.VerilogText.{indexed_item, IsIndex}
use Rattle.verilog_writer.specs.NetTexts.{indexed_name, IsScalarWithout, BitLaw}
use Rattle.verilog_writer.proofs.Bits.{own, positive, is_plain, no_backslash, blank_ends}

-- the bytes up to the first that fails
run_length : (p : ℕ → Bool) (bs : List ℕ) → length (take (prefix_len p bs) bs) ≡ prefix_len p bs
run_length p [] = refl
run_length p (b ∷ bs) =
    let more = run_length p bs in
    let e : 1 + prefix_len p bs ≡ suc (prefix_len p bs) = omega arith in
    elim (p b) as (λ t. length (take (cond t (1 + prefix_len p bs) 0) (b ∷ bs)) ≡ cond t (1 + prefix_len p bs) 0) [
      | true ↦ rw e (ap (λ (n : ℕ). suc n) more)
      | false ↦ refl
    ]

run_all : (p : ℕ → Bool) (bs : List ℕ) → list_all p (take (prefix_len p bs) bs) ≡ true
run_all p [] = refl
run_all p (b ∷ bs) =
    let more = run_all p bs in
    let e : 1 + prefix_len p bs ≡ suc (prefix_len p bs) = omega arith in
    let cases : (t : Bool) → p b ≡ t → list_all p (take (cond t (1 + prefix_len p bs) 0) (b ∷ bs)) ≡ true
    = λ t. elim t as (λ t. p b ≡ t → list_all p (take (cond t (1 + prefix_len p bs) 0) (b ∷ bs)) ≡ true) [
      | true ↦ λ h. rw (e, h) more
      | false ↦ λ h. refl
    ]
    in cases (p b) refl

-- the bytes of an identifier aren't blanks
word_black : (c : ℕ) → is_word c ≡ true → not (is_blank c) ≡ true
word_black c e = grind (arith, nat_tests)

words_black : (cs : List ℕ) → list_all is_word cs ≡ true → list_all (λ c. not (is_blank c)) cs ≡ true
words_black [] e = refl
words_black (c ∷ cs) e = rw (word_black c (and_first (is_word c) _ e)) (words_black cs (and_second (is_word c) _ e))

identifier_black : (b : ℕ) (bs : List ℕ) → is_identifier (b ∷ bs) ≡ true → is_escapable (b ∷ bs) ≡ true
identifier_black b bs e =
    rw (positive (length bs), no_blank_start b (and_first (is_word_start b) _ e)) (words_black bs (and_second (is_word_start b) _ e))

pub plain_black : (name : List ℕ) → is_identifier name ≡ true → is_escapable name ≡ true
plain_black [] e = absurd cc
plain_black (b ∷ bs) e = identifier_black b bs e

escaped_black : (bs : List ℕ) → is_escaped bs ≡ true → is_escapable (take (prefix_len (λ c. not (is_blank c)) bs) bs) ≡ true
escaped_black bs e = rw (run_length (λ c. not (is_blank c)) bs, and_first (nat_lt 0 (prefix_len (λ c. not (is_blank c)) bs)) _ e) (run_all (λ c. not (is_blank c)) bs)

-- the plain name of a name can be escaped
pub plain_escapable : (name : List ℕ) → IsName name → is_escapable (unescaped name) ≡ true
unfolding is_name
plain_escapable [] e = absurd cc
plain_escapable (b ∷ bs) e = by (b == 92) e
  where
    by : (t : Bool) → cond t (is_escaped bs) (is_plain (b ∷ bs)) ≡ true → is_escapable (cond t (take (prefix_len (λ c. not (is_blank c)) bs) bs) (b ∷ bs)) ≡ true
    by true e = escaped_black bs e
    by false e = identifier_black b bs (and_first (is_identifier (b ∷ bs)) _ e)

-- a written name has the plain name that it was written from
take_front : (bs cs : List ℕ) → take (length bs) (bs ++ cs) ≡ bs
take_front [] cs = refl
take_front (b ∷ bs) cs = ap (λ (l : List ℕ). b ∷ l) (take_front bs cs)

plain_start : (b : ℕ) (bs : List ℕ) (t : Bool) → (b == 92) ≡ t → is_plain (b ∷ bs) ≡ true → cond t (take (prefix_len (λ c. not (is_blank c)) bs) bs) (b ∷ bs) ≡ b ∷ bs
plain_start b bs true e plain = absurd (no_backslash b e (and_first (is_word_start b) _ (and_first (is_identifier (b ∷ bs)) _ plain)))
plain_start b bs false e plain = refl

plain_again : (name : List ℕ) (t : Bool) → is_plain name ≡ t → is_escapable name ≡ true → unescaped (cond t name (92 ∷ (name ++ 32 ∷ []))) ≡ name
plain_again [] true e black = refl
plain_again (b ∷ bs) true e black = plain_start b bs (b == 92) refl e
plain_again name false e black =
    let size = blank_ends name (and_second (nat_lt 0 (length name)) _ black) in
    ap (λ (k : ℕ). take k (name ++ 32 ∷ [])) size ∙ take_front name (32 ∷ [])

pub name_again : (name : List ℕ) → is_escapable name ≡ true → unescaped (name_text name) ≡ name
name_again name black = plain_again name (is_plain name) refl black

indexed_bits : (ds : List Declaration) (name : List ℕ) (index : Option ℕ) → is_escapable name ≡ true → IsIndex index → IsScalarWithout ds name index
    → item_bits ds (indexed_item name index) ≡ Named (indexed_name name index) ∷ []
indexed_bits ds name None black small scalar = rw (name_again name black, scalar) refl
indexed_bits ds name (Some index) black small scalar =
    let low : index < 2 ^ 64 = omega arith in
    rw (name_again name black, digits_value-decimal own index low) refl

pub bit_law : BitLaw
bit_law ds bit is scalar = indexed_bits ds bit.name bit.index is.name is.index scalar
