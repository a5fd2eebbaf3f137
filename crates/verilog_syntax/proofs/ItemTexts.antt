-- What items are spelled by: their texts, of names, decimals and constants.
use Rattle.std.proofs.Common.{◌≡◌, ℕ, Bool, true, false, ◌||◌, List, [], ◌∷◌, ◌++◌, Option, Some, None, inl, inr, refl, sym, ap, ◌∙◌, subst, append-nil}
use Rattle.std.specs.List.{AllByRecursion as Each, flat_map}
use Rattle.std.proofs.lemmas.List.{map-id}
use Rattle.std.proofs.lemmas.Option.{same_Some, none-some}
use Rattle.token_forms.specs.Tokens.{Token}
use Rattle.token_forms.specs.Classes.{But}
use Rattle.token_forms.specs.Parts.{token_texts}
use Rattle.token_forms.specs.Forms.{IsWord, IsMade, AreMany, maybe, ◌&◌, ◌▸◌, ◌◂◌}
use Rattle.token_forms.proofs.Spelled.{choose}
use Rattle.token_forms.proofs.Parted.{word_texts, text_texts, split_texts, behind_word, before_word, SpellsAll, many_texts}
use Rattle.token_forms.proofs.Joined.{no_texts, word_joined, text_joined, split_joined, front_joined, back_joined, many_joined}
use Rattle.verilog_syntax.specs.declared.statement.Item.{Item}
use Rattle.verilog_syntax.specs.declared.statement.Item.TheVariants as items
use Rattle.verilog_syntax.specs.declared.expression.Select.{Select}
use Rattle.verilog_syntax.specs.StatementParts.{IsName, IsDecimal, item_texts}
use Rattle.verilog_syntax.specs.Words.{no_operands, marks, is_name, is_decimal, is_constant, is_operand, begins_number}
use Rattle.verilog_syntax.specs.Items.{selected, operand_of}
use Rattle.verilog_syntax.specs.Grammar.{decimal, operand_word, select, operand, item}
use Rattle.verilog_syntax.proofs.Apart.{number_no_name, constant_number, no_number_no_constant}
use Rattle.verilog_syntax.proofs.WordKinds.{decimal_in, operand_in}
use Rattle.verilog_syntax.proofs.Nesting.{IsItem}

-- [ left ]    [ left : right ]
abbrev select_texts : List ℕ → Option (List ℕ) → List (List ℕ)
select_texts left None = (91 ∷ []) ∷ left ∷ (93 ∷ []) ∷ []
select_texts left (Some right) = (91 ∷ []) ∷ left ∷ (58 ∷ []) ∷ right ∷ (93 ∷ []) ∷ []

abbrev AreDecimals : List ℕ → Option (List ℕ) → Type 0
AreDecimals left None = IsDecimal left
AreDecimals left (Some right) = IsDecimal left × IsDecimal right

abbrev second_texts : Option (List ℕ) → List (List ℕ)
second_texts None = []
second_texts (Some right) = (58 ∷ []) ∷ right ∷ []

abbrev IsSecond : Option (List ℕ) → Type 0
IsSecond None = Unit {0}
IsSecond (Some right) = IsDecimal right

bracketed : (left : List ℕ) (right : Option (List ℕ)) → (91 ∷ []) ∷ ((left ∷ second_texts right) ++ (93 ∷ []) ∷ []) ≡ select_texts left right
bracketed left None = refl
bracketed left (Some right) = refl

decimals : (left : List ℕ) (right : Option (List ℕ)) → IsDecimal left → IsSecond right → AreDecimals left right
decimals left None a b = a
decimals left (Some right) a b = (a, b)

bounds : (left : List ℕ) (right : Option (List ℕ)) → AreDecimals left right → IsDecimal left × IsSecond right
bounds left None a = (a, tt)
bounds left (Some right) a = a

second_said : (right : Option (List ℕ)) (ts : List Token) → (maybe (":" ▸ decimal)).spells right ts → (token_texts ts ≡ second_texts right) × IsSecond right
second_said None ts h = (ap token_texts h, tt)
second_said (Some right) ts h =
    let s = behind_word ":" decimal right ts h in
    (split_texts ts s ∙ rw (word_texts _ s.front s.first, text_texts (But marks) is_decimal right s.back s.second) refl, s.second.passes)

select_said : (s : Select) (ts : List Token) → select.spells s ts → (token_texts ts ≡ select_texts s.left s.right) × AreDecimals s.left s.right
unfolding select
select_said s ts m =
    let p = m.parts in
    let a = behind_word "[" ((decimal & maybe (":" ▸ decimal)) ◂ "]") p ts m.holds in
    let b = before_word (decimal & maybe (":" ▸ decimal)) "]" p a.back a.second in
    let pair = b.first in
    let right = second_said p.1 pair.back pair.second in
    let left = text_texts (But marks) is_decimal p.0 pair.front pair.first in
    let inner : token_texts b.front ≡ p.0 ∷ second_texts p.1 = split_texts b.front pair ∙ rw (left, right.0) refl in
    let back : token_texts a.back ≡ (p.0 ∷ second_texts p.1) ++ (93 ∷ []) ∷ [] = split_texts a.back b ∙ rw (inner, word_texts _ b.back b.second) refl in
    let all : token_texts ts ≡ (91 ∷ []) ∷ ((p.0 ∷ second_texts p.1) ++ (93 ∷ []) ∷ []) = split_texts ts a ∙ rw (word_texts _ a.front a.first, back) refl in
    subst (λ (s : Select). (token_texts ts ≡ select_texts s.left s.right) × AreDecimals s.left s.right) m.is (all ∙ bracketed p.0 p.1, decimals p.0 p.1 pair.first.passes right.1)

-- a word is a constant where it begins with a digit, and a name elsewhere
or_second : (a b : Bool) → (a || b) ≡ true → a ≡ false → b ≡ true
or_second true b e f = absurd cc
or_second false b e f = e

or_first : (a b : Bool) → (a || b) ≡ true → b ≡ false → a ≡ true
or_first true b e f = refl
or_first false b e f = absurd cc

operand_constant : (word : List ℕ) → is_operand word ≡ true → begins_number word ≡ true → is_constant word ≡ true
unfolding is_operand
operand_constant word good e = or_second (is_name word) (is_constant word) good (number_no_name word e)

operand_name : (word : List ℕ) → is_operand word ≡ true → begins_number word ≡ false → is_name word ≡ true
unfolding is_operand
operand_name word good e = or_first (is_name word) (is_constant word) good (no_number_no_constant word e)

-- the texts of an item, and what its words are
abbrev Said : Item → List (List ℕ) → Type 0
Said i ws = (ws ≡ item_texts i) × IsItem i

selected_said : (word left : List ℕ) (right : Option (List ℕ)) → IsName word → AreDecimals left right → Said (selected word left right) (word ∷ select_texts left right)
selected_said word left None name good = (refl, (name, good))
selected_said word left (Some right) name good = (refl, (name, good.0, good.1))

word_said : (word : List ℕ) (i : Item) → is_operand word ≡ true → operand_of word None ≡ Some i → Said i (word ∷ [])
word_said word i good is =
    choose (begins_number word) _ _ _ is
    (λ number e. subst (λ (i : Item). Said i (word ∷ [])) (same_Some _ _ e) (refl, operand_constant word good number))
    (λ number e. subst (λ (i : Item). Said i (word ∷ [])) (same_Some _ _ e) (refl, operand_name word good number))

chosen_said : (word : List ℕ) (s : Select) (i : Item) → is_operand word ≡ true → AreDecimals s.left s.right → operand_of word (Some s) ≡ Some i → Said i (word ∷ select_texts s.left s.right)
chosen_said word s i good bounds is =
    choose (begins_number word) _ _ _ is
    (λ number e. absurd (none-some i e))
    (λ number e. subst (λ (i : Item). Said i (word ∷ select_texts s.left s.right)) (same_Some _ _ e) (selected_said word s.left s.right (operand_name word good number) bounds))

parts_said : (word : List ℕ) (s : Option Select) (i : Item) (ts : List Token) → (operand_word & maybe select).spells (word, s) ts → operand_of word s ≡ Some i → Said i (token_texts ts)
parts_said word None i ts h is =
    let texts = split_texts ts h ∙ rw (text_texts (But no_operands) is_operand word h.front h.first, ap token_texts h.second) refl in
    subst (Said i) (sym texts) (word_said word i h.first.passes is)
parts_said word (Some s) i ts h is =
    let chosen = select_said s h.back h.second in
    let texts = split_texts ts h ∙ rw (text_texts (But no_operands) is_operand word h.front h.first, chosen.0) refl in
    subst (Said i) (sym texts) (chosen_said word s i h.first.passes chosen.1 is)

operand_said : (i : Item) (ts : List Token) → operand.spells i ts → Said i (token_texts ts)
unfolding operand
operand_said i ts m = parts_said m.parts.0 m.parts.1 i ts m.holds m.is

mark_said : (w : List ℕ) (x i : Item) (ts : List Token) → Said x (w ∷ []) → IsMade (λ (nothing : Unit {0}). x) (λ p. IsWord w ts) i → Said i (token_texts ts)
mark_said w x i ts said m = subst (λ (i : Item). Said i (token_texts ts)) m.is (subst (Said x) (sym (word_texts w ts m.holds)) said)

pub item_said : (i : Item) (ts : List Token) → item.spells i ts → (token_texts ts ≡ item_texts i) × IsItem i
unfolding item
item_said i ts h =
    elim h [
      | inl m ↦ mark_said (123 ∷ []) items.Open i ts (refl, tt) m
      | inr h ↦ elim h [
        | inl m ↦ mark_said (44 ∷ []) items.Comma i ts (refl, tt) m
        | inr h ↦ elim h [
          | inl m ↦ mark_said (125 ∷ []) items.Close i ts (refl, tt) m
          | inr m ↦ operand_said i ts m
        ]
      ]
    ]

pub items_said : (all : List Item) (ts : List Token) → AreMany item.spells all ts → SpellsAll item_texts IsItem all ts
items_said all ts h = many_texts item.spells item_texts IsItem item_said all ts h

-- and back
second_joined : (right : Option (List ℕ)) (ts : List Token) → IsSecond right → token_texts ts ≡ second_texts right → (maybe (":" ▸ decimal)).spells right ts
second_joined None ts good e = no_texts ts e
second_joined (Some right) ts good e = front_joined ":" decimal right (right ∷ []) ts (λ vs e. text_joined (But marks) is_decimal right vs (decimal_in right good) good e) e

select_joined : (left : List ℕ) (right : Option (List ℕ)) (ts : List Token) → IsDecimal left → IsSecond right → token_texts ts ≡ select_texts left right → select.spells (record { left = left; right = right }) ts
unfolding select
select_joined left right ts a b e =
    let inner = decimal & maybe (":" ▸ decimal) in
    record {
      parts = (left, right);
      is = refl;
      holds = front_joined "[" (inner ◂ "]") (left, right) ((left ∷ second_texts right) ++ (93 ∷ []) ∷ []) ts
          (λ vs e. back_joined inner "]" (left, right) (left ∷ second_texts right) vs
          (λ us e. split_joined (left ∷ []) (second_texts right) us (λ ws e. text_joined (But marks) is_decimal left ws (decimal_in left a) a e) (λ ws e. second_joined right ws b e) e) e)
          (e ∙ sym (bracketed left right));
    }

word_operand : (word : List ℕ) (i : Item) (ts : List Token) → is_operand word ≡ true → operand_of word None ≡ Some i → token_texts ts ≡ word ∷ [] → operand.spells i ts
unfolding operand
word_operand word i ts good is e =
    record { parts = (word, None); is = is; holds = record { front = ts; back = []; is = sym (append-nil ts); first = text_joined (But no_operands) is_operand word ts (operand_in word good) good e; second = refl } }

select_operand : (word left : List ℕ) (right : Option (List ℕ)) (i : Item) (ts : List Token) → is_operand word ≡ true → IsDecimal left → IsSecond right
    → operand_of word (Some (record { left = left; right = right })) ≡ Some i → token_texts ts ≡ word ∷ select_texts left right → operand.spells i ts
unfolding operand
select_operand word left right i ts good a b is e =
    record {
      parts = (word, Some (record { left = left; right = right }));
      is = is;
      holds = split_joined (word ∷ []) (select_texts left right) ts (λ vs e. text_joined (But no_operands) is_operand word vs (operand_in word good) good e) (λ vs e. select_joined left right vs a b e) e;
    }

name_operand : (word : List ℕ) → IsName word → is_operand word ≡ true
unfolding is_operand
name_operand word good = rw good refl

constant_operand : (word : List ℕ) → is_constant word ≡ true → is_operand word ≡ true
unfolding is_operand
constant_operand word good = rw (number_no_name word (constant_number word good), good) refl

name_no_number : (word : List ℕ) → IsName word → begins_number word ≡ false
name_no_number word good = decide (begins_number word) refl
  where
    decide : (b : Bool) → begins_number word ≡ b → begins_number word ≡ false
    decide true e = let none = number_no_name word e in absurd (let both = sym good ∙ none in cc)
    decide false e = e

item_spells : (i : Item) (ts : List Token) → IsItem i → token_texts ts ≡ item_texts i → item.spells i ts
unfolding item
item_spells items.Open ts good e = inl (record { parts = tt; is = refl; holds = word_joined (123 ∷ []) ts e })
item_spells items.Comma ts good e = inr (inl (record { parts = tt; is = refl; holds = word_joined (44 ∷ []) ts e }))
item_spells items.Close ts good e = inr (inr (inl (record { parts = tt; is = refl; holds = word_joined (125 ∷ []) ts e })))
item_spells (items.Name name) ts good e = inr (inr (inr (word_operand name (items.Name name) ts (name_operand name good) (rw (name_no_number name good) refl) e)))
item_spells (items.Bit name index) ts good e =
    inr (inr (inr (select_operand name index None (items.Bit name index) ts (name_operand name good.0) good.1 tt (rw (name_no_number name good.0) refl) e)))
item_spells (items.Part name left right) ts good e =
    inr (inr (inr (select_operand name left (Some right) (items.Part name left right) ts (name_operand name good.0) good.1 good.2 (rw (name_no_number name good.0) refl) e)))
item_spells (items.Constant text) ts good e = inr (inr (inr (word_operand text (items.Constant text) ts (constant_operand text good) (rw (constant_number text good) refl) e)))

pub items_joined : (all : List Item) (ts : List Token) → Each IsItem all → token_texts ts ≡ flat_map item_texts all → AreMany item.spells all ts
items_joined all ts good e =
    let j = many_joined item.spells (λ (i : Item). i) item_texts IsItem (λ i ts good e. record { value = i; holds = item_spells i ts good e; same = refl }) all ts good e in
    subst (λ (l : List Item). AreMany item.spells l ts) (sym (map-id j.values) ∙ j.same ∙ map-id all) j.holds
