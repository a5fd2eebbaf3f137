-- The data of a scan call, by tokens.
use Rattle.std.proofs.Common.{◌≡◌, ℕ, zero, suc, ◌<◌, ◌≤◌, true, false, ◌&&◌, ◌||◌, if◌then◌else◌, List, [], ◌∷◌, ◌++◌, length, map, refl, sym, ap, ◌∙◌, append_assoc, append-nil, codes, Some, arith}
use Rattle.std.specs.List.{flat_map, list_all}
use Rattle.std.specs.Str.{bytes_eq}
use Rattle.std.proofs.lemmas.Bool.{and_parts}
use Rattle.base_types.specs.declared.span.Span.{Span}
use Rattle.token_forms.specs.Tokens.{Token}
use Rattle.token_forms.specs.Parsing.{word_at}
use Rattle.token_forms.specs.Classes.{But, is_in, begins}
use Rattle.token_forms.specs.Forms.{many_within, many_at, text_at, gathered_at, put_all}
use Rattle.stil_syntax.specs.declared.item.Item.{Item}
use Rattle.stil_syntax.specs.declared.item.Entry.TheVariants as entries
use Rattle.stil_syntax.specs.Names.{marks, is_word, name_at}
use Rattle.stil_syntax.specs.Grammar.{ends_data, put_entry, item, entry, block, call_end}
use Rattle.made_law.proofs.patterns.Plain.{Plain, is_letter, letter_apart, plain_word}
use Rattle.made_law.proofs.patterns.Strings.{with_blank}
use Rattle.made_law.proofs.patterns.Tokens.{tokens_by, on, behind, pass, pass_both}

-- a name, and the string that it is given
pub record Row : Type 0 where
  pub name : List ℕ
  pub string : List ℕ

-- name = string ;
abbrev pub row_words : Row → List (List ℕ)
row_words r = r.name ∷ codes "=" ∷ r.string ∷ codes ";" ∷ []

abbrev pub item_of : Row → Item
item_of r = record { name = r.name; «data» = with_blank r.string }

-- the name is plain, and the string is of letters
pub record IsRow (r : Row) : Type 0 where
  pub name : Plain r.name
  pub string : Plain r.string
  pub begins : bytes_eq r.name (codes ";") ≡ false
  pub first : is_in (But marks) r.name ≡ true
  pub free : is_in (But ends_data) r.string ≡ true

abbrev pub AreRows : List Row → Type 0
AreRows [] = Unit {0}
AreRows (r ∷ rs) = IsRow r × AreRows rs

pub rows_append : (rs us : List Row) → AreRows rs → AreRows us → AreRows (rs ++ us)
rows_append [] us a b = b
rows_append (r ∷ rs) us a b = (a.0, rows_append rs us a.1 b)

first_no_end : (b : ℕ) (bs : List ℕ) → is_letter b ≡ true → bytes_eq (b ∷ bs) (codes ";") ≡ false
first_no_end b bs h = rw (letter_apart b 59 h refl) refl

first_mark : (b : ℕ) (bs : List ℕ) → is_letter b ≡ true → is_in (But marks) (b ∷ bs) ≡ true
first_mark b bs h = rw (letter_apart b 123 h refl, letter_apart b 125 h refl, letter_apart b 59 h refl, letter_apart b 61 h refl, letter_apart b 58 h refl, letter_apart b 33 h refl) refl

first_free : (b : ℕ) (bs : List ℕ) → is_letter b ≡ true → is_in (But ends_data) (b ∷ bs) ≡ true
first_free b bs h = rw (letter_apart b 59 h refl, letter_apart b 123 h refl, letter_apart b 125 h refl) refl

pub row_is : (name string : List ℕ) → 0 < length name → list_all is_letter name ≡ true → 0 < length string → list_all is_letter string ≡ true → IsRow (record { name = name; string = string })
row_is [] string some all few letters = absurd (omega arith)
row_is (b ∷ bs) [] some all few letters = absurd (omega arith)
row_is (b ∷ bs) (c ∷ cs) some all few letters =
    let h = and_parts (is_letter b) (list_all is_letter bs) all in
    let g = and_parts (is_letter c) (list_all is_letter cs) letters in
    record { name = plain_word b bs all; string = plain_word c cs letters; begins = first_no_end b bs h.0; first = first_mark b bs h.0; free = first_free c cs g.0 }

name_is : (t : Token) (ts : List Token) → is_word t.text ≡ true → name_at (t ∷ ts) ≡ Some (t.text, ts)
unfolding name_at
name_is t ts e = rw e refl

entry_reads : (at : ℕ → Span) (r : Row) (rest : List Token) → IsRow r → entry.reads (tokens_by at (row_words r) ++ rest) ≡ Some (entries.Given (item_of r), rest)
unfolding entry item word_at many_at many_within text_at gathered_at put_all
entry_reads at r rest is =
    rw (
      if◌then◌else◌,
      ◌&&◌,
      ◌||◌,
      is.begins,
      name_is (record { text = r.name; start = (at 0).start; end = (at 0).end }) (tokens_by (λ i. at (suc i)) (codes "=" ∷ r.string ∷ codes ";" ∷ []) ++ rest) is.name.run,
      is.name.plain,
      is.free,
    ) refl

entry_begins : (at : ℕ → Span) (r : Row) (rest : List Token) → IsRow r → begins entry.starts (tokens_by at (row_words r) ++ rest) ≡ true
unfolding entry item
entry_begins at r rest is = rw (is.first, is.begins) refl

closes_rows : (at : ℕ → Span) → begins entry.starts (tokens_by at (codes "}" ∷ [])) ≡ false
unfolding entry item
closes_rows at = refl

rows_read : (at : ℕ → Span) (rs : List Row) (n : ℕ) → AreRows rs → length rs ≤ n
    → many_within entry.starts entry.reads n (tokens_by at (flat_map row_words rs ++ codes "}" ∷ [])) ≡ Some (map (λ r. entries.Given (item_of r)) rs, tokens_by (behind (flat_map row_words rs) at) (codes "}" ∷ []))
unfolding many_within
rows_read at [] zero all le = rw (closes_rows at) refl
rows_read at [] (suc n) all le = rw (closes_rows at) refl
rows_read at (r ∷ rs) zero all le = absurd (omega arith)
rows_read at (r ∷ rs) (suc n) all le =
    let rest = tokens_by (on 4 at) (flat_map row_words rs ++ codes "}" ∷ []) in
    rw (many_within, entry_begins at r rest all.0, entry_reads at r rest all.0, rows_read (on 4 at) rs n all.1 (omega arith)) refl

puts : (acc : List Item) (rs : List Row) → put_all put_entry acc (map (λ r. entries.Given (item_of r)) rs) ≡ Some (acc ++ map item_of rs)
unfolding put_all
puts acc [] = ap Some (sym (append-nil acc))
puts acc (r ∷ rs) = puts (acc ++ item_of r ∷ []) rs ∙ ap Some (append_assoc acc (item_of r ∷ []) (map item_of rs))

few_words : (at : ℕ → Span) (rs : List Row) → length rs ≤ length (tokens_by at (flat_map row_words rs ++ codes "}" ∷ []))
few_words at [] = omega arith
few_words at (r ∷ rs) = let more = few_words (on 4 at) rs in omega (arith, more)

-- what stands behind the name of the procedure
pub call_reads : (at : ℕ → Span) (rs : List Row) → AreRows rs → call_end.reads (tokens_by at (codes "{" ∷ (flat_map row_words rs ++ codes "}" ∷ []))) ≡ Some (map item_of rs, [])
unfolding call_end block word_at gathered_at many_at
call_reads at rs all =
    let ts = tokens_by (λ i. at (suc i)) (flat_map row_words rs ++ codes "}" ∷ []) in
    rw (rows_read (λ i. at (suc i)) rs (length ts) all (few_words (λ i. at (suc i)) rs), puts [] rs) refl

pub row_pass : (r : Row) → IsRow r → pass 1 (row_words r) ≡ Some 1
row_pass r is =
    let p = is.name in
    let q = is.string in
    rw (if◌then◌else◌, ◌&&◌, ◌||◌, p.semicolon, p.closing, p.opening, p.note, q.semicolon, q.closing, q.opening, q.note) refl

pub rows_pass : (rs : List Row) → AreRows rs → pass 1 (flat_map row_words rs) ≡ Some 1
rows_pass [] all = refl
rows_pass (r ∷ rs) all = pass_both 1 1 (row_words r) (flat_map row_words rs) (row_pass r all.0) ∙ rows_pass rs all.1
