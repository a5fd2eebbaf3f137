-- The tokens of a written block spell the items that were meant.
use Rattle.std.proofs.Common.{◌≡◌, inl, inr, ℕ, ◌+◌, ◌-◌, Bool, true, false, eqb, ◌&&◌, not, List, [], ◌∷◌, ◌++◌, length, take, map, codes, All, Option, Some, None, refl, sym, ap, ◌∙◌, subst, arith, append_assoc, length-append}
use Rattle.std.specs.List.{AllByRecursion as Each, flat_map, list_all}
use Rattle.std.specs.Str.{bytes_eq}
use Rattle.std.proofs.lemmas.Bool.{cases_Bool, true≢false, eq-eqb, or_from, or_parts, not-true}
use Rattle.std.proofs.lemmas.List.Elements.{All-head, All-tail}
use Rattle.std.proofs.lemmas.List.Sums.{list_all-from_AllPass}
use Rattle.base_types.specs.Names.{plain_name}
use Rattle.base_types.proofs.TruthValues.{bytes_are}
use Rattle.token_forms.specs.Classes.{But, is_in, is_among}
use Rattle.token_forms.specs.Tokens.{Token}
use Rattle.token_forms.specs.Parts.{token_texts}
use Rattle.token_forms.specs.Forms.{IsWord, AreMany, key, put_all, gathered, made, ◌◂◌}
use Rattle.token_forms.proofs.Joined.{no_texts, cut_texts, word_joined, text_joined, back_joined, Joins, many_joined}
use Rattle.stil_types.specs.Calls.{IsStringOf, is_load_character, is_compare_character}
use Rattle.stil_types.specs.declared.head.ScanChainDecl.{ScanChainDecl}
use Rattle.stil_syntax.specs.declared.item.Item.{Item}
use Rattle.stil_syntax.specs.declared.item.Entry.TheVariants as entries
use Rattle.stil_syntax.specs.Names.{Quoted, name, inner, is_string}
use Rattle.stil_syntax.specs.Grammar.{any, ends_data, data_token, fresh_item, put_token, item, entry, put_entry, block, call_end}
use Rattle.stil_calls.specs.declared.repeats.Side.{Side}
use Rattle.stil_calls.specs.declared.repeats.Side.TheVariants.{Load, Compare}
use Rattle.stil_calls.specs.Repeats.{is_character}
use Rattle.stil_writer.specs.Calls.{is_plain, ports_of}
use Rattle.stil_writer.proofs.Data.{IsDatum, datum, and_one, data_text, put_item, items_for}
use Rattle.stil_writer.proofs.Lays.{laid}
use Rattle.stil_writer.proofs.Blocks.{put_data, put_line, put_side, put_lines}

-- the texts of the tokens among pieces
abbrev pub piece_texts : List (Bool × List ℕ) → List (List ℕ)
piece_texts [] = []
piece_texts ((true, w) ∷ ps) = w ∷ piece_texts ps
piece_texts ((false, w) ∷ ps) = piece_texts ps

pub laid_texts : (at : ℕ) (ps : List (Bool × List ℕ)) → token_texts (laid at ps) ≡ piece_texts ps
laid_texts at [] = refl
laid_texts at ((true, w) ∷ ps) = ap (λ (l : List (List ℕ)). w ∷ l) (laid_texts (at + length w) ps)
laid_texts at ((false, w) ∷ ps) = laid_texts (at + length w) ps

-- a port and what it is given
abbrev Pair : Type 0
Pair = List ℕ × List ℕ

abbrev pub put_pair : List ℕ → Option (List ℕ) → List Pair → List Pair
put_pair port None more = more
put_pair port (Some given) more = (port, given) ∷ more

abbrev pub pairs_for : List ScanChainDecl → List (Option (List ℕ)) → List (Option (List ℕ)) → List Pair
pairs_for (c ∷ cs) (load ∷ loads) (compare ∷ compares) = put_pair c.scan_in load (put_pair c.scan_out compare (pairs_for cs loads compares))
pairs_for chains loads compares = []

abbrev pub item_of : Pair → Item
item_of x = record { name = x.0; «data» = data_text x.1 }

abbrev data_texts : List ℕ → List (List ℕ)
data_texts [] = []
data_texts (b ∷ bs) = (b ∷ bs) ∷ []

abbrev pub pair_texts : Pair → List (List ℕ)
pair_texts x = (34 ∷ (x.0 ++ 34 ∷ [])) ∷ (61 ∷ []) ∷ (data_texts x.1 ++ (59 ∷ []) ∷ [])

side_items : (port : List ℕ) (string : Option (List ℕ)) (more : List Item) (pairs : List Pair) → more ≡ map item_of pairs → put_item port string more ≡ map item_of (put_pair port string pairs)
side_items port None more pairs e = e
side_items port (Some given) more pairs e = ap (λ (l : List Item). item_of (port, given) ∷ l) e

pub items_are : (chains : List ScanChainDecl) (loads compares : List (Option (List ℕ))) → items_for chains loads compares ≡ map item_of (pairs_for chains loads compares)
items_are [] loads compares = refl
items_are (c ∷ cs) [] compares = refl
items_are (c ∷ cs) (load ∷ loads) [] = refl
items_are (c ∷ cs) (load ∷ loads) (compare ∷ compares) = side_items c.scan_in load _ _ (side_items c.scan_out compare _ _ (items_are cs loads compares))

data_pieces : (given : List ℕ) (more : List (Bool × List ℕ)) → piece_texts (put_data given more) ≡ data_texts given ++ piece_texts more
data_pieces [] more = refl
data_pieces (b ∷ bs) more = refl

line_pieces : (port given : List ℕ) (more : List (Bool × List ℕ)) → piece_texts (put_line port given more) ≡ pair_texts (port, given) ++ piece_texts more
line_pieces port given more =
    ap (λ (l : List (List ℕ)). (34 ∷ (port ++ 34 ∷ [])) ∷ (61 ∷ []) ∷ l) (data_pieces given ((true, 59 ∷ []) ∷ (false, 10 ∷ []) ∷ more) ∙ sym (append_assoc (data_texts given) ((59 ∷ []) ∷ []) (piece_texts more)))

side_pieces : (port : List ℕ) (string : Option (List ℕ)) (more : List (Bool × List ℕ)) (pairs : List Pair) (ws : List (List ℕ)) → piece_texts more ≡ flat_map pair_texts pairs ++ ws → piece_texts (put_side port string more) ≡ flat_map pair_texts (put_pair port string pairs) ++ ws
side_pieces port None more pairs ws e = e
side_pieces port (Some given) more pairs ws e = line_pieces port given more ∙ ap (λ (l : List (List ℕ)). pair_texts (port, given) ++ l) e ∙ sym (append_assoc (pair_texts (port, given)) (flat_map pair_texts pairs) ws)

pub lines_pieces : (chains : List ScanChainDecl) (loads compares : List (Option (List ℕ))) (more : List (Bool × List ℕ)) → piece_texts (put_lines chains loads compares more) ≡ flat_map pair_texts (pairs_for chains loads compares) ++ piece_texts more
lines_pieces [] loads compares more = refl
lines_pieces (c ∷ cs) [] compares more = refl
lines_pieces (c ∷ cs) (load ∷ loads) [] more = refl
lines_pieces (c ∷ cs) (load ∷ loads) (compare ∷ compares) more =
    side_pieces c.scan_in load _ _ (piece_texts more) (side_pieces c.scan_out compare _ _ (piece_texts more) (lines_pieces cs loads compares more))

-- a pair that can be written
pub record IsGood (x : Pair) : Type 0 where
  pub side : Side
  pub plain : is_plain x.0 ≡ true
  pub given : list_all (is_character side) x.1 ≡ true

side_good : (side : Side) (port : List ℕ) (string : Option (List ℕ)) (pairs : List Pair) → is_plain port ≡ true → IsStringOf (is_character side) string → Each IsGood pairs → Each IsGood (put_pair port string pairs)
side_good side port None pairs p s e = e
side_good side port (Some given) pairs p s e = (record { side = side; plain = p; given = list_all-from_AllPass (is_character side) given s }, e)

pub all_good : (chains : List ScanChainDecl) (loads compares : List (Option (List ℕ))) → list_all is_plain (ports_of chains) ≡ true → All (IsStringOf is_load_character) loads → All (IsStringOf is_compare_character) compares → Each IsGood (pairs_for chains loads compares)
all_good [] loads compares p a b = tt
all_good (c ∷ cs) [] compares p a b = tt
all_good (c ∷ cs) (load ∷ loads) [] p a b = tt
all_good (c ∷ cs) (load ∷ loads) (compare ∷ compares) p a b =
    and_one (is_plain c.scan_in) _ (Each IsGood (pairs_for (c ∷ cs) (load ∷ loads) (compare ∷ compares))) p
    (λ f g. and_one (is_plain c.scan_out) (list_all is_plain (ports_of cs)) (Each IsGood (pairs_for (c ∷ cs) (load ∷ loads) (compare ∷ compares))) g
    (λ h i. side_good Load c.scan_in load _ f (All-head (IsStringOf is_load_character) load loads a)
    (side_good Compare c.scan_out compare _ h (All-head (IsStringOf is_compare_character) compare compares b)
    (all_good cs loads compares i (All-tail (IsStringOf is_load_character) load loads a) (All-tail (IsStringOf is_compare_character) compare compares b)))))

-- a plain name is its own
pub plain_same : (port : List ℕ) → is_plain port ≡ true → plain_name port ≡ port
plain_same [] e = refl
plain_same (b ∷ bs) e = and_one (not (eqb b 34) && not (eqb b 92)) (is_plain bs) (plain_name (b ∷ bs) ≡ b ∷ bs) e
    (λ f g. and_one (not (eqb b 34)) (not (eqb b 92)) (plain_name (b ∷ bs) ≡ b ∷ bs) f (λ h i. let k = not-true (eqb b 92) i in rw k (ap (λ (l : List ℕ). b ∷ l) (plain_same bs g))))

take_first : (x w : List ℕ) → take (length x) (x ++ w) ≡ x
take_first [] w = refl
take_first (b ∷ bs) w = ap (λ (l : List ℕ). b ∷ l) (take_first bs w)

inner_is : (port : List ℕ) → inner (34 ∷ (port ++ 34 ∷ [])) ≡ port
inner_is port =
    let k : length (34 ∷ (port ++ 34 ∷ [])) - 2 ≡ length port = omega (arith, length-append port (34 ∷ [])) in
    ap (λ (n : ℕ). take n (port ++ 34 ∷ [])) k ∙ take_first port (34 ∷ [])

name_spelled : (port : List ℕ) (ts : List Token) → token_texts ts ≡ (34 ∷ (port ++ 34 ∷ [])) ∷ [] → name.spells port ts
name_spelled port [] e = absurd cc
name_spelled port (t ∷ u ∷ us) e = absurd cc
name_spelled port (t ∷ []) e =
    let k : t.text ≡ 34 ∷ (port ++ 34 ∷ []) = cc in
    Quoted t refl (ap is_string k) (ap inner k ∙ inner_is port)

is_not : (b n : ℕ) (bs : List ℕ) → eqb b n ≡ false → bytes_eq (b ∷ bs) (n ∷ []) ≡ false
is_not b n bs e = elim (cases_Bool (bytes_eq (b ∷ bs) (n ∷ []))) [
  | inl f ↦ absurd (let k : b ≡ n = (let s = bytes_are (b ∷ bs) (n ∷ []) f in cc) in true≢false (sym (eq-eqb b n k) ∙ e))
  | inr f ↦ f
]

pub marks_none : (b : ℕ) → IsDatum b → (eqb b 125 ≡ false) × (eqb b 59 ≡ false)
marks_none b d =
    let a = or_parts (eqb b 123) _ d.mark in
    let c = or_parts (eqb b 125) _ a.1 in
    let f = or_parts (eqb b 59) _ c.1 in
    (c.0, f.0)

among : (side : Side) (b : ℕ) (bs : List ℕ) → is_character side b ≡ true → is_among ends_data (b ∷ bs) ≡ true → ⊥
among side b bs e f =
    let d = datum side b e in
    let m = marks_none b d in
    let none : is_among ends_data (b ∷ bs) ≡ false = or_from _ _ (is_not b 59 bs m.1) (or_from _ _ (is_not b 123 bs d.brace) (or_from _ _ (is_not b 125 bs m.0) refl)) in
    true≢false (sym f ∙ none)

nil_behind : (ts : List Token) → ts ++ [] ≡ ts
nil_behind [] = refl
nil_behind (t ∷ ts) = ap (λ (l : List Token). t ∷ l) (nil_behind ts)

nil_items : (is : List Item) → is ++ [] ≡ is
nil_items [] = refl
nil_items (i ∷ is) = ap (λ (l : List Item). i ∷ l) (nil_items is)

map_id : (xs : List Pair) → map (λ (y : Pair). y) xs ≡ xs
map_id [] = refl
map_id (x ∷ xs) = ap (λ (l : List Pair). x ∷ l) (map_id xs)

data_class : (side : Side) (b : ℕ) (bs : List ℕ) → is_character side b ≡ true → is_in (But ends_data) (b ∷ bs) ≡ true
data_class side b bs e = elim (cases_Bool (is_among ends_data (b ∷ bs))) [
  | inl f ↦ absurd (among side b bs e f)
  | inr f ↦ ap not f
]

data_spelled : (side : Side) (given : List ℕ) (ts : List Token) → list_all (is_character side) given ≡ true → token_texts ts ≡ data_texts given → AreMany data_token.spells (data_texts given) ts
data_spelled side [] ts e h = no_texts ts h
data_spelled side (b ∷ bs) ts e h = and_one (is_character side b) (list_all (is_character side) bs) (AreMany data_token.spells ((b ∷ bs) ∷ []) ts) e
    (λ f g. record { front = ts; back = []; is = sym (nil_behind ts); first = text_joined (But ends_data) any (b ∷ bs) ts (data_class side b bs f) refl h; second = refl })

put_data_all : (x : List ℕ) (given : List ℕ) → put_all put_token (record { name = x; «data» = [] }) (data_texts given) ≡ Some (record { name = x; «data» = data_text given })
unfolding put_all
put_data_all x [] = refl
put_data_all x (b ∷ bs) = refl

start_spelled : (port : List ℕ) (ts : List Token) → is_plain port ≡ true → token_texts ts ≡ (34 ∷ (port ++ 34 ∷ [])) ∷ (61 ∷ []) ∷ [] → (made fresh_item (name ◂ "=")).spells (record { name = port; «data» = [] }) ts
start_spelled port ts p e = record {
  parts = port;
  is = ap (λ (l : List ℕ). record { name = l; «data» = [] }) (plain_same port p);
  holds = back_joined name "=" port ((34 ∷ (port ++ 34 ∷ [])) ∷ []) ts (name_spelled port) e;
}

front_spelled : (x : Pair) (ts : List Token) → IsGood x → token_texts ts ≡ (34 ∷ (x.0 ++ 34 ∷ [])) ∷ (61 ∷ []) ∷ data_texts x.1 → (gathered (made fresh_item (name ◂ "=")) put_token data_token).spells (item_of x) ts
front_spelled x ts good e =
    let c = cut_texts ((34 ∷ (x.0 ++ 34 ∷ [])) ∷ (61 ∷ []) ∷ []) (data_texts x.1) ts e in
    record {
      parts = (record { name = x.0; «data» = [] }, data_texts x.1);
      is = put_data_all x.0 x.1;
      holds = record { front = c.front; back = c.behind; is = c.is; first = start_spelled x.0 c.front good.plain c.first; second = data_spelled good.side x.1 c.behind good.given c.second };
    }

item_spelled : (x : Pair) (ts : List Token) → IsGood x → token_texts ts ≡ pair_texts x → item.spells (item_of x) ts
unfolding item
item_spelled x ts good e = back_joined (gathered (made fresh_item (name ◂ "=")) put_token data_token) ";" (item_of x) ((34 ∷ (x.0 ++ 34 ∷ [])) ∷ (61 ∷ []) ∷ data_texts x.1) ts (λ vs h. front_spelled x vs good h) e

entry_spelled : (x : Pair) (ts : List Token) → IsGood x → token_texts ts ≡ pair_texts x → Joins (λ y us. entry.spells (entries.Given (item_of y)) us) (λ y. y) x ts
unfolding entry
entry_spelled x ts good e = record { value = x; holds = inr (record { parts = item_of x; is = refl; holds = item_spelled x ts good e }); same = refl }

same_list : (xs ys : List Pair) → map (λ (y : Pair). y) xs ≡ map (λ (y : Pair). y) ys → xs ≡ ys
same_list xs ys e = sym (map_id xs) ∙ e ∙ map_id ys

put_entries : (done : List Item) (xs : List Pair) → put_all put_entry done (map (λ (x : Pair). entries.Given (item_of x)) xs) ≡ Some (done ++ map item_of xs)
unfolding put_all
put_entries done [] = ap (λ (l : List Item). Some l) (sym (nil_items done))
put_entries done (x ∷ xs) = put_entries (done ++ item_of x ∷ []) xs ∙ ap (λ (l : List Item). Some l) (append_assoc done (item_of x ∷ []) (map item_of xs))

many_entries : (xs : List Pair) (ts : List Token) → AreMany (λ (y : Pair) us. entry.spells (entries.Given (item_of y)) us) xs ts → AreMany entry.spells (map (λ (x : Pair). entries.Given (item_of x)) xs) ts
many_entries [] ts s = s
many_entries (x ∷ xs) ts s = record { front = s.front; back = s.back; is = s.is; first = s.first; second = many_entries xs s.back s.second }

open_spelled : (ts : List Token) → token_texts ts ≡ (123 ∷ []) ∷ [] → IsWord (codes "{") ts
open_spelled ts e = word_joined (codes "{") ts e

inside_spelled : (xs : List Pair) (ts : List Token) → Each IsGood xs → token_texts ts ≡ (123 ∷ []) ∷ flat_map pair_texts xs → (gathered (made (λ nothing. []) (key "{")) put_entry entry).spells (map item_of xs) ts
inside_spelled xs ts good e =
    let c = cut_texts ((123 ∷ []) ∷ []) (flat_map pair_texts xs) ts e in
    let m = many_joined (λ (y : Pair) us. entry.spells (entries.Given (item_of y)) us) (λ (y : Pair). y) pair_texts IsGood entry_spelled xs c.behind good c.second in
    let same = same_list m.values xs m.same in
    record {
      parts = ([], map (λ (x : Pair). entries.Given (item_of x)) xs);
      is = put_entries [] xs;
      holds = record {
        front = c.front;
        back = c.behind;
        is = c.is;
        first = record { parts = tt; is = refl; holds = open_spelled c.front c.first };
        second = many_entries xs c.behind (subst (λ (l : List Pair). AreMany (λ (y : Pair) us. entry.spells (entries.Given (item_of y)) us) l c.behind) same m.holds);
      };
    }

-- the block
pub block_spelled : (xs : List Pair) (ts : List Token) → Each IsGood xs → token_texts ts ≡ (123 ∷ []) ∷ (flat_map pair_texts xs ++ (125 ∷ []) ∷ []) → call_end.spells (map item_of xs) ts
unfolding call_end block
block_spelled xs ts good e = inr (back_joined (gathered (made (λ nothing. []) (key "{")) put_entry entry) "}" (map item_of xs) ((123 ∷ []) ∷ flat_map pair_texts xs) ts (λ vs h. inside_spelled xs vs good h) e)
