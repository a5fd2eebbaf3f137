-- A design that a DEF text denotes is within its limits.
use Rattle.std.proofs.Common.{◌≡◌, inl, inr, ℕ, ◌<◌, ◌≤◌, ◌^◌, Bool, true, false, cond, ◌&&◌, List, [], ◌∷◌, length, map, Option, Some, None, refl, sym, ap, ◌∙◌, subst, arith}
use Rattle.std.specs.Prelude.{All, is_none, option_map, option_and_then, unwrap_or, nat_le, nat_lt, ℤ, pos, negsuc, unsigned_abs}
use Rattle.std.proofs.lemmas.Bool.{ltb-true, leb-true}
use Rattle.std.proofs.lemmas.Int.{ints}
use Rattle.std.proofs.lemmas.List.{length-map}
use Rattle.std.proofs.lemmas.List.Elements.{All-nil, All-cons, All-append, All-map}
use Rattle.std.proofs.lemmas.Option.{none-some, same_Some, cond_some, option_and_then_some}
use Rattle.base_types.specs.declared.span.Point.{Point}
use Rattle.token_forms.specs.Tokens.{Token}
use Rattle.token_forms.specs.Forms.{Form, AreMany, put_all}
use Rattle.cell_table.specs.Cells.{Cells}
use Rattle.def_tokens.specs.Numbers.{integer_of}
use Rattle.def_tokens.specs.declared.orient.Orient.{Orient}
use Rattle.def_syntax.specs.Designs.{AreLocated, IsDesignText}
use Rattle.def_syntax.specs.Grammar.{elements, element_list, clause, chain}
use Rattle.def_syntax.specs.Pieces.{once, put_clause, some_list}
use Rattle.def_syntax.specs.declared.placement.Placement.{Placement}
use Rattle.def_syntax.specs.declared.element.Element.{Element as ElementText}
use Rattle.def_syntax.specs.declared.element.ElementList.{ElementList as ListText}
use Rattle.def_syntax.specs.declared.element.ElementList.TheVariants.{Floating, Ordered}
use Rattle.def_syntax.specs.declared.chain.Chain.{Chain}
use Rattle.def_syntax.specs.declared.chain.CommonPins.{CommonPins}
use Rattle.def_syntax.specs.declared.chain.Terminal.{Terminal}
use Rattle.def_syntax.specs.declared.design.Located.{Located}
use Rattle.def_syntax.specs.declared.design.DesignText.{DesignText}
use Rattle.def_reader.specs.declared.design.Component.{Component}
use Rattle.def_reader.specs.Designs.{point_at, point_of, pin_place, place_of, component_of, pin_of, max_bits_in, list_of, chain_of as text_chain, design_of}
use Rattle.def_reader.specs.Faults.{NumberAt, BadUnits}
use Rattle.def_reader.specs.Numbers.{in_32_bits, coordinate_of, between, bits_of, units_of}
use Rattle.def_reader.specs.Sound.{IsSoundPlace, IsSoundPoint, elements_in, HasLists, IsSound}

-- ---- numbers

within_case : (b : Bool) (z x : ℤ) → (b ≡ true → unsigned_abs z ≤ 2 ^ 31) → cond b (Some z) None ≡ Some x → unsigned_abs x ≤ 2 ^ 31
within_case true z x h e = subst (λ (y : ℤ). unsigned_abs y ≤ 2 ^ 31) (same_Some z x e) (h refl)
within_case false z x h e = absurd (none-some x e)

within : (o : Option ℤ) (x : ℤ) → in_32_bits o ≡ Some x → unsigned_abs x ≤ 2 ^ 31
within None x e = absurd (none-some x e)
within (Some (pos n)) x e = within_case (nat_lt n (2 ^ 31)) (pos n) x (λ h. let lt = ltb-true n (2 ^ 31) h in omega arith) e
within (Some (negsuc n)) x e = within_case (nat_lt n (2 ^ 31)) (negsuc n) x (λ h. let lt = ltb-true n (2 ^ 31) h in omega arith) e

record IsBetween (low high n : ℕ) : Type 0 where
  pub least : low ≤ n
  pub most : n ≤ high

between_case : (least most m n : ℕ) (a b : Bool) → (a ≡ true → least ≤ m) → (b ≡ true → m ≤ most) → cond (a && b) (Some m) None ≡ Some n → IsBetween least most n
between_case least most m n true true f g e = subst (IsBetween least most) (same_Some m n e) (record { least = f refl; most = g refl })
between_case least most m n true false f g e = absurd (none-some n e)
between_case least most m n false b f g e = absurd (none-some n e)

is_between : (least most : ℕ) (o : Option ℤ) (n : ℕ) → between least most o ≡ Some n → IsBetween least most n
is_between least most None n e = absurd (none-some n e)
is_between least most (Some (pos m)) n e = between_case least most m n (nat_le least m) (nat_le m most) (leb-true least m) (leb-true m most) e
is_between least most (Some (negsuc m)) n e = absurd (none-some n e)

units_case : (o : Option ℕ) → ((n : ℕ) → o ≡ Some n → IsBetween 1 100000 n) → (is_none o ≡ true → ⊥) → IsBetween 1 100000 (unwrap_or o 0)
units_case None f fails = absurd (fails refl)
units_case (Some n) f fails = f n refl

bits_case : (o : Option (List ℕ)) (p : Option ℕ) → option_and_then bits_of o ≡ p → unwrap_or p 0 ≤ 262144
bits_case o None e = omega arith
bits_case None (Some n) e = absurd (none-some n e)
bits_case (Some text) (Some n) e = (is_between 0 262144 (integer_of text) n e).most

-- ---- places

point_sound : (x y : Option ℤ) → ((z : ℤ) → x ≡ Some z → unsigned_abs z ≤ 2 ^ 31) → ((z : ℤ) → y ≡ Some z → unsigned_abs z ≤ 2 ^ 31) → IsSoundPoint (point_at x y)
point_sound None y f g = tt
point_sound (Some x) None f g = tt
point_sound (Some x) (Some y) f g = record { x = f x refl; y = g y refl }

placed_sound : (o : Option Point) (orient : Orient) → IsSoundPoint o → IsSoundPlace (option_map (λ point. (point, orient)) o)
placed_sound None orient s = tt
placed_sound (Some p) orient s = s

placement_sound : (p : Placement) → IsSoundPoint (point_of p)
placement_sound p = point_sound (coordinate_of p.x) (coordinate_of p.y) (within (integer_of p.x)) (within (integer_of p.y))

place_sound : (p : Option Placement) → IsSoundPlace (place_of p)
place_sound None = tt
place_sound (Some p) = placed_sound (point_of p) p.orient (placement_sound p)

pin_sound : (p : Option Placement) → IsSoundPoint (pin_place p)
pin_sound None = tt
pin_sound (Some p) = placement_sound p

all_of : {X : Type 0} (P : X → Type 0) → ((x : X) → P x) → (xs : List X) → All P xs
all_of P h [] = All-nil P
all_of P h (x ∷ xs) = All-cons P x xs (h x) (all_of P h xs)

all_more : {X : Type 0} (P Q : X → Type 0) → ((x : X) → P x → Q x) → (xs : List X) → All P xs → All Q xs
all_more P Q h xs all = λ k d lt. h _ (all k d lt)

-- ---- chains

abbrev texts_in : ListText → List ElementText
texts_in (Floating es) = es
texts_in (Ordered es) = es

record IsFull (list : ListText) : Type 0 where
  pub some : 0 < length (texts_in list)

record IsFullChain (c : Chain) : Type 0 where
  pub some : 0 < length c.lists
  pub each : All IsFull c.lists

some_elements : (es : List ElementText) (ts : List Token) → elements.spells es ts → 0 < length es
unfolding elements
some_elements es ts h = subst (λ (l : List ElementText). 0 < length l) h.is (omega arith)

full_list : (list : ListText) (ts : List Token) → element_list.spells list ts → IsFull list
unfolding element_list
full_list list ts (inl h) = subst IsFull h.is (record { some = subst (λ (es : List ElementText). 0 < length es) h.holds.is (some_elements h.holds.parts.1 h.holds.holds.back h.holds.holds.second) })
full_list list ts (inr h) = subst IsFull h.is (record { some = subst (λ (es : List ElementText). 0 < length es) h.holds.is (some_elements h.holds.parts.1 h.holds.holds.back h.holds.holds.second) })

-- a chain so far keeps its lists full with each piece that is put to it
abbrev Keeps : {S X : Type 0} → (S → X → Option S) → Form X → (S → List ListText) → Type 0
Keeps {S} {X} put form lists = (s t : S) (c : X) (ts : List Token) → form.spells c ts → All IsFull (lists s) → put s c ≡ Some t → All IsFull (lists t)

kept : {S : Type 0} (s t : S) (lists : S → List ListText) → s ≡ t → All IsFull (lists s) → All IsFull (lists t)
kept {S} s t lists e all = subst (λ (r : S). All IsFull (lists r)) e all

once_kept : {S X : Type 0} (o : Option X) (s t : S) (lists : S → List ListText) → once o s ≡ Some t → All IsFull (lists s) → All IsFull (lists t)
once_kept None s t lists e all = kept s t lists (same_Some s t e) all
once_kept (Some x) s t lists e all = absurd (none-some t e)

put_kept : {S : Type 0} (b : Bool) (s t : S) (lists : S → List ListText) → cond b None (Some s) ≡ Some t → All IsFull (lists s) → All IsFull (lists t)
put_kept true s t lists e all = absurd (none-some t e)
put_kept false s t lists e all = kept s t lists (same_Some s t e) all

-- one clause more
put_full : Keeps put_clause clause (λ s. s.lists)
unfolding clause
put_full s t c ts h all e =
    elim h.holds.second [
      | inl a ↦ once_kept s.partition _ t (λ s. s.lists) (ap (put_clause s) (a.is ∙ h.is) ∙ e) all
      | inr b ↦ elim b [
        | inl a ↦ once_kept s.common_pins _ t (λ s. s.lists) (ap (put_clause s) (a.is ∙ h.is) ∙ e) all
        | inr b ↦ elim b [
          | inl a ↦ once_kept s.start _ t (λ s. s.lists) (ap (put_clause s) (a.is ∙ h.is) ∙ e) all
          | inr b ↦ elim b [
            | inl a ↦ once_kept s.stop _ t (λ s. s.lists) (ap (put_clause s) (a.is ∙ h.is) ∙ e) all
            | inr a ↦
                put_kept _ _ t (λ s. s.lists) (ap (put_clause s) (a.is ∙ h.is) ∙ e)
                (All-append IsFull s.lists (a.parts ∷ []) all (All-cons IsFull a.parts [] (full_list a.parts h.holds.back a.holds) (All-nil IsFull)))
          ]
        ]
      ]
    ]

-- all clauses
puts_full : {S X : Type 0} (put : S → X → Option S) (form : Form X) (lists : S → List ListText) → Keeps put form lists → (cs : List X) (s t : S) (ts : List Token) → AreMany form.spells cs ts → All IsFull (lists s)
    → put_all put s cs ≡ Some t → All IsFull (lists t)
unfolding put_all
puts_full put form lists keeps [] s t ts h all e = kept s t lists (same_Some s t e) all
puts_full put form lists keeps (c ∷ cs) s t ts h all e =
    option_and_then_some (λ r. put_all put r cs) (put s c) t e (λ r one rest. puts_full put form lists keeps cs r t h.back h.second (keeps s r c h.front h.first all one) rest)

some_length : (ls : List ListText) → some_list ls ≡ true → 0 < length ls
some_length [] e = absurd cc
some_length (l ∷ ls) e = omega arith

made_full : (start stop : Option Terminal) (ls : List ListText) (whole : Terminal → Terminal → Chain) (x : Chain) → ((a b : Terminal) → (whole a b).lists ≡ ls) → All IsFull ls
    → option_and_then (λ a. option_and_then (λ b. cond (some_list ls) (Some (whole a b)) None) stop) start ≡ Some x → IsFullChain x
made_full start stop ls whole x same all e =
    option_and_then_some (λ a. option_and_then (λ b. cond (some_list ls) (Some (whole a b)) None) stop) start x e (λ a here rest.
    option_and_then_some (λ b. cond (some_list ls) (Some (whole a b)) None) stop x rest (λ b there last.
    let both = cond_some (some_list ls) (whole a b) x last in
    let lists : ls ≡ x.lists = sym (same a b) ∙ ap (λ (c : Chain). c.lists) both.1 in
    record { some = subst (λ (l : List ListText). 0 < length l) lists (some_length ls both.0); each = subst (λ (l : List ListText). All IsFull l) lists all }))

-- a chain of its form
full_chain : (x : Chain) (ts : List Token) → chain.spells x ts → IsFullChain x
unfolding chain
full_chain x ts h =
    let gathered = h.holds.holds.first in
    let parts = gathered.parts in
    let fresh = kept _ parts.0 (λ s. s.lists) gathered.holds.first.is (All-nil IsFull) in
    let all = puts_full put_clause clause (λ s. s.lists) put_full parts.1 parts.0 h.holds.parts.0 gathered.holds.back gathered.holds.second fresh gathered.is in
    let so_far = h.parts in
    made_full so_far.start so_far.stop so_far.lists (λ start stop. record { name = so_far.name; partition = so_far.partition; common_pins = so_far.common_pins; start = start; stop = stop; lists = so_far.lists }) x (λ a b. refl)
    (kept h.holds.parts.0 so_far (λ s. s.lists) h.holds.is all) h.is

chains_full : (text : List ℕ) (ss : List (List Token)) (xs : List (Located Chain)) → AreLocated chain text ss xs → All (λ c. IsFullChain c.statement) xs
chains_full text [] [] h = All-nil (λ (c : Located Chain). IsFullChain c.statement)
chains_full text [] (x ∷ xs) h = absurd h
chains_full text (s ∷ ss) [] h = absurd h
chains_full text (s ∷ ss) (x ∷ xs) h = All-cons (λ (c : Located Chain). IsFullChain c.statement) x xs (full_chain x.statement s h.0.spelled) (chains_full text ss xs h.1)

list_full : (cells : Cells) (components : List Component) (common : Option CommonPins) (list : ListText) → IsFull list → 0 < length (elements_in (list_of cells components common list))
list_full cells components common (Floating es) h = let some = h.some in simp length-map some
list_full cells components common (Ordered es) h = let some = h.some in simp length-map some

chain_sound : (cells : Cells) (components : List Component) (c : Located Chain) → IsFullChain c.statement → HasLists (text_chain cells components c)
chain_sound cells components c h =
    let some = h.some in
    let f = list_of cells components c.statement.common_pins in
    record {
      some = simp length-map some;
      each = All-map (λ list. 0 < length (elements_in list)) f c.statement.lists (all_more IsFull (λ list. 0 < length (elements_in (f list))) (list_full cells components c.statement.common_pins) c.statement.lists h.each);
      max_bits = bits_case (max_bits_in c.statement.partition) _ refl;
    }

-- ---- the design
pub sound_design : (text : List ℕ) (cells : Cells) (t : DesignText) → IsDesignText text t → ((line : ℕ) → NumberAt t line → ⊥) → IsSound (design_of text cells t)
unfolding design_of
sound_design text cells t reads none =
    let units = units_case (units_of t.units.statement.number) (is_between 1 100000 (integer_of t.units.statement.number)) (λ e. none t.units.line (BadUnits (record { row = t.units; there = (0, omega arith, refl); fails = e; is = refl }))) in
    let least = units.least in
    let most = units.most in
    record {
      units_some = omega (arith, ints);
      units_most = omega (arith, ints);
      components = All-map (λ c. IsSoundPlace c.place) component_of t.components (all_of (λ c. IsSoundPlace (component_of c).place) (λ c. place_sound c.statement.place) t.components);
      pins = All-map (λ p. IsSoundPoint p.place) pin_of t.pins (all_of (λ p. IsSoundPoint (pin_of p).place) (λ p. pin_sound p.statement.place) t.pins);
      chains = All-map HasLists (text_chain cells (map component_of t.components)) t.chains
          (all_more (λ c. IsFullChain c.statement) (λ c. HasLists (text_chain cells (map component_of t.components) c)) (chain_sound cells (map component_of t.components)) t.chains (chains_full text _ t.chains reads.chains));
    }
