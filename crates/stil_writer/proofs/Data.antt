-- The data of a written call, read again.
use Rattle.std.proofs.Common.{◌≡◌, ℕ, Bool, true, false, eqb, ◌&&◌, ◌||◌, inl, inr, List, [], ◌∷◌, ◌++◌, Option, Some, None, refl, sym, ap, ◌∙◌, subst}
use Rattle.std.specs.List.{list_any, list_all}
use Rattle.std.specs.Str.{bytes_eq}
use Rattle.std.proofs.lemmas.Bool.{cases_Bool, true≢false, eqb-true, or_parts}
use Rattle.base_types.proofs.TruthValues.{bytes_are, bytes_same}
use Rattle.stil_types.specs.declared.head.ScanChainDecl.{ScanChainDecl}
use Rattle.stil_syntax.specs.declared.item.Item.{Item}
use Rattle.stil_tokens.specs.StilTokens.{is_blank, is_quote, is_mark, is_run}
use Rattle.stil_calls.specs.declared.repeats.Repeat.{Repeat}
use Rattle.stil_calls.specs.declared.repeats.Side.{Side}
use Rattle.stil_calls.specs.declared.repeats.Side.TheVariants.{Load, Compare}
use Rattle.stil_calls.specs.declared.repeats.Escape.TheVariants.{Outside}
use Rattle.stil_calls.specs.Repeats.{repeats_from, whole_from, repeats_of, is_character, is_sound, written}
use Rattle.stil_calls.specs.Scans.{data_for}
use Rattle.stil_writer.specs.Calls.{ports_of}

-- a character of data is no other byte
pub record IsDatum (b : ℕ) : Type 0 where
  pub blank : is_blank b ≡ false
  pub quote : is_quote b ≡ false
  pub brace : eqb b 123 ≡ false
  pub mark : is_mark b ≡ false
  pub slash : eqb b 47 ≡ false
  pub run : is_run b ≡ true
  pub space : eqb b 32 ≡ false
  pub back : eqb b 92 ≡ false

is_one : (b n : ℕ) → IsDatum n → eqb b n ≡ true → IsDatum b
is_one b n d e = subst IsDatum (sym (eqb-true b n e)) d

or_one : (t u : Bool) (X : Type 0) → (t || u) ≡ true → (t ≡ true → X) → (u ≡ true → X) → X
or_one true u X e f g = f refl
or_one false u X e f g = g e

pub and_one : (t u : Bool) (X : Type 0) → (t && u) ≡ true → (t ≡ true → u ≡ true → X) → X
and_one true u X e f = f refl e
and_one false u X e f = absurd (true≢false (sym e))

pub datum : (side : Side) (b : ℕ) → is_character side b ≡ true → IsDatum b
datum Load b e = or_one (eqb b 48 || eqb b 49) (eqb b 78) (IsDatum b) e
    (λ f. or_one (eqb b 48) (eqb b 49) (IsDatum b) f (λ g. is_one b 48 (record { blank = refl; quote = refl; brace = refl; mark = refl; slash = refl; run = refl; space = refl; back = refl }) g)
    (λ g. is_one b 49 (record { blank = refl; quote = refl; brace = refl; mark = refl; slash = refl; run = refl; space = refl; back = refl }) g))
    (λ f. is_one b 78 (record { blank = refl; quote = refl; brace = refl; mark = refl; slash = refl; run = refl; space = refl; back = refl }) f)
datum Compare b e = or_one (eqb b 76 || eqb b 72) (eqb b 88) (IsDatum b) e
    (λ f. or_one (eqb b 76) (eqb b 72) (IsDatum b) f (λ g. is_one b 76 (record { blank = refl; quote = refl; brace = refl; mark = refl; slash = refl; run = refl; space = refl; back = refl }) g)
    (λ g. is_one b 72 (record { blank = refl; quote = refl; brace = refl; mark = refl; slash = refl; run = refl; space = refl; back = refl }) g))
    (λ f. is_one b 88 (record { blank = refl; quote = refl; brace = refl; mark = refl; slash = refl; run = refl; space = refl; back = refl }) f)

-- the data of an item for a string: a blank stands behind its run
abbrev pub data_text : List ℕ → List ℕ
data_text [] = []
data_text (b ∷ bs) = (b ∷ bs) ++ 32 ∷ []

module _ (side : Side) where
  one_each : (bs : List ℕ) → list_all (is_character side) bs ≡ true → written (repeats_from Outside (bs ++ 32 ∷ [])) ≡ bs
  unfolding repeats_from
  one_each [] e = refl
  one_each (b ∷ bs) e = and_one (is_character side b) (list_all (is_character side) bs) (written (repeats_from Outside ((b ∷ bs) ++ 32 ∷ [])) ≡ b ∷ bs) e
      (λ f g. let d = datum side b f in rw (d.space, d.back) (ap (λ (l : List ℕ). b ∷ l) (one_each bs g)))

  whole_each : (bs : List ℕ) → list_all (is_character side) bs ≡ true → whole_from Outside (bs ++ 32 ∷ []) ≡ true
  unfolding whole_from
  whole_each [] e = refl
  whole_each (b ∷ bs) e = and_one (is_character side b) (list_all (is_character side) bs) (whole_from Outside ((b ∷ bs) ++ 32 ∷ []) ≡ true) e
      (λ f g. let d = datum side b f in rw (d.back, whole_from) (whole_each bs g))

  all_each : (bs : List ℕ) → list_all (is_character side) bs ≡ true → list_all (λ (r : Repeat). is_character side r.character) (repeats_from Outside (bs ++ 32 ∷ [])) ≡ true
  unfolding repeats_from
  all_each [] e = refl
  all_each (b ∷ bs) e = and_one (is_character side b) (list_all (is_character side) bs) (list_all (λ (r : Repeat). is_character side r.character) (repeats_from Outside ((b ∷ bs) ++ 32 ∷ [])) ≡ true) e
      (λ f g. let d = datum side b f in rw (d.space, d.back, f) (all_each bs g))

  -- what is written of a string is read as it
  pub data_written : (bs : List ℕ) → list_all (is_character side) bs ≡ true → written (repeats_of (data_text bs)) ≡ bs
  unfolding repeats_from
  data_written [] e = refl
  data_written (b ∷ bs) e = one_each (b ∷ bs) e

  pub data_sound : (bs : List ℕ) → list_all (is_character side) bs ≡ true → is_sound side (data_text bs) ≡ true
  unfolding repeats_from whole_from
  data_sound [] e = refl
  data_sound (b ∷ bs) e = rw (whole_each (b ∷ bs) e) (all_each (b ∷ bs) e)

-- the items of a written call
abbrev pub put_item : List ℕ → Option (List ℕ) → List Item → List Item
put_item name None more = more
put_item name (Some bytes) more = record { name = name; «data» = data_text bytes } ∷ more

abbrev pub items_for : List ScanChainDecl → List (Option (List ℕ)) → List (Option (List ℕ)) → List Item
items_for (c ∷ cs) (load ∷ loads) (compare ∷ compares) = put_item c.scan_in load (put_item c.scan_out compare (items_for cs loads compares))
items_for chains loads compares = []

-- no one has the name
abbrev pub NoneIs : List ℕ → List (List ℕ) → Type 0
NoneIs name names = list_any (bytes_eq name) names ≡ false

pub same_ways : (a b : List ℕ) → bytes_eq a b ≡ false → bytes_eq b a ≡ false
same_ways a b e = elim (cases_Bool (bytes_eq b a)) [
  | inl f ↦ absurd (let k = bytes_same a b (sym (bytes_are b a f)) in true≢false (sym k ∙ e))
  | inr f ↦ f
]

pub put_absent : (name key : List ℕ) (string : Option (List ℕ)) (more : List Item) → bytes_eq key name ≡ false → data_for (put_item key string more) name ≡ data_for more name
put_absent name key None more e = refl
put_absent name key (Some bytes) more e = rw e refl

pub put_present : (key : List ℕ) (string : Option (List ℕ)) (more : List Item) → data_for more key ≡ None → data_for (put_item key string more) key ≡ elim string [ None ↦ None | Some bytes ↦ Some (data_text bytes) ]
put_present key None more e = e
put_present key (Some bytes) more e = rw (bytes_same key key refl) refl

-- data for a name that is no port
pub absent : (chains : List ScanChainDecl) (loads compares : List (Option (List ℕ))) (name : List ℕ) → NoneIs name (ports_of chains) → data_for (items_for chains loads compares) name ≡ None
absent [] loads compares name e = refl
absent (c ∷ cs) [] compares name e = refl
absent (c ∷ cs) (load ∷ loads) [] name e = refl
absent (c ∷ cs) (load ∷ loads) (compare ∷ compares) name e =
    let a = or_parts (bytes_eq name c.scan_in) _ e in
    let b = or_parts (bytes_eq name c.scan_out) _ a.1 in
    put_absent name c.scan_in load _ (same_ways name c.scan_in a.0) ∙ put_absent name c.scan_out compare _ (same_ways name c.scan_out b.0) ∙ absent cs loads compares name b.1
