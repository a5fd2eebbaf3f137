-- The order that a parse finds is that of the words.
use Rattle.std.proofs.Common.{◌≡◌, true, false, Bool, cond, not, ◌&&◌, List, [], ◌∷◌, ◌++◌, length, map, codes, Option, Some, None, is_some, refl, sym, ap, ap₂, ◌∙◌}
use Rattle.std.specs.Prelude.{unwrap_or, option_map}
use Rattle.clap.proofs.WalkLemmas.{raw_values-rows}
use Rattle.clap.specs.Matches.{found_of}
use Rattle.clap.specs.Simple.{subcommand_of}
use Rattle.std.proofs.lemmas.Option.{same_Some}
use Rattle.clap.specs.Takes.{takes}
use Rattle.clap.specs.Walk.{rows_of}
use Rattle.clap.specs.declared.parser.matches.ArgMatches.{ArgMatches}
use Rattle.scan_words.specs.declared.verb.Verb.{Verb}
use Rattle.std.specs.Str.{bytes_eq}
use Rattle.std.proofs.lemmas.Slice.Eq.{bytes_eq-Decides}
use Rattle.scan_words.specs.Command.{program, raw_of}
use Rattle.scan_words.specs.Form.{◌>>=◌, Text, only_if, Part, values_of, parts_from, have_parts}
use Rattle.scan_words.specs.declared.table.Need.{Need}
use Rattle.scan_words.specs.declared.table.Need.TheVariants.{Needed, Optional, With}
use Rattle.scan_words.specs.declared.table.OptionForm.{OptionForm}
use Rattle.scan_words.specs.declared.table.ValueForm.{ValueForm}
use Rattle.scan_words.specs.declared.table.ValueForm.TheVariants as forms
use Rattle.scan_words.specs.Table.{Values, option_text, value_form, has_form, is_given, may_lack, may_stand, value_among, option_value, value_list, each_value, is_like, values_like, are_distinct, are_apart}
use Rattle.scan_words.specs.Verbs.{verbs, options_of, verb_name, option_names, takes_further, verb_among, verb_of}
use Rattle.scan_words.specs.Orders.{values_by, is_count, order_by, verb_order, order_in}
use Rattle.scan_words.proofs.Found.{values_in, values_in-parts}
use Rattle.scan_words.proofs.Sim.{add_parts}
use Rattle.scan_words.proofs.Top.{taken, matched, parts_exist}

-- what the words are found to say hangs on the values of each name alone
module _ (f g : Values) (same : (name : Text) → f name ≡ g name) where
  lack_same : (need : Need) → may_lack need f ≡ may_lack need g
  lack_same Needed = refl
  lack_same Optional = refl
  lack_same (With other) = ap (λ (vs : List Text). not (is_given vs)) (same (option_text other))

  stand_same : (need : Need) → may_stand need f ≡ may_stand need g
  stand_same Needed = refl
  stand_same Optional = refl
  stand_same (With other) = ap is_given (same (option_text other))

  among_same : (o : OptionForm) (vs : List Text) → value_among o f vs ≡ value_among o g vs
  among_same o [] = ap (λ (b : Bool). cond b (Some None) None) (lack_same o.need)
  among_same o (v ∷ []) = ap (λ (b : Bool). cond (b && has_form (value_form o.name) v) (Some (Some v)) None) (stand_same o.need)
  among_same o (v ∷ w ∷ ws) = refl

  value_same : (o : OptionForm) → option_value o f ≡ option_value o g
  value_same o = ap (value_among o f) (same (option_text o.name)) ∙ among_same o (g (option_text o.name))

  each_same : (table : List OptionForm) → each_value f table ≡ each_value g table
  unfolding each_value
  each_same [] = refl
  each_same (o ∷ os) = ap₂ (λ (v : Option (Option Text)) (vs : Option (List Text)). v >>= λ value. vs >>= λ others. Some (value_list value ++ others)) (value_same o) (each_same os)

  like_same : (form : ValueForm) (table : List OptionForm) → values_like form f table ≡ values_like form g table
  like_same form [] = refl
  like_same form (o ∷ os) = ap₂ (λ (xs ys : List Text). cond (is_like form (value_form o.name)) xs [] ++ ys) (same (option_text o.name)) (like_same form os)

  apart_same : (table : List OptionForm) → are_apart f table ≡ are_apart g table
  apart_same table = ap₂ (λ (xs ys : List Text). are_distinct xs && are_distinct ys) (like_same forms.File table) (like_same forms.Pin table)

  by_same : (table : List OptionForm) → values_by f table ≡ values_by g table
  by_same table = ap₂ (λ (o : Option (List Text)) (b : Bool). o >>= λ given. only_if b >>= λ apart. Some given) (each_same table) (apart_same table)

  pub order_same : (verb : Verb) → order_by verb f ≡ order_by verb g
  unfolding order_by
  order_same verb = ap₂ (λ (o : Option (List Text)) (xs : List Text). o >>= λ given. only_if (is_count (takes_further verb) (length xs)) >>= λ count. Some (record { verb = verb; values = given; further = xs }))
      (by_same (options_of verb)) (same (codes "further"))

pub found_values : (m : ArgMatches) (parts : List Part) → rows_of (found_of m) ≡ add_parts [] parts → (name : Text) → raw_of m name ≡ values_of name parts
found_values m parts rows name =
    ap (λ (o : Option (List Text)). unwrap_or o []) (raw_values-rows (found_of m) name) ∙ ap (values_in name) rows ∙ values_in-parts name parts []

-- the words by their cases
pub no_parts : (verb : Verb) (words : List Text) → have_parts (option_names verb) (takes_further verb) false words ≡ false → verb_order verb words ≡ None
unfolding verb_order
no_parts verb words none =
    let cases : (o : Option (List Part)) → is_some o ≡ false → (o >>= λ parts. order_by verb (λ name. values_of name parts)) ≡ None
    = λ o. elim o as (λ o. is_some o ≡ false → (o >>= λ parts. order_by verb (λ name. values_of name parts)) ≡ None) [ None ↦ λ e. refl | Some ps ↦ λ e. absurd cc ]
    in cases (parts_from (option_names verb) (takes_further verb) None words) (sym (parts_exist (option_names verb) (takes_further verb) words None) ∙ none)

pub some_parts : (verb : Verb) (words : List Text) → have_parts (option_names verb) (takes_further verb) false words ≡ true → (parts : List Part) × (parts_from (option_names verb) (takes_further verb) None words ≡ Some parts)
some_parts verb words fact =
    let cases : (o : Option (List Part)) → parts_from (option_names verb) (takes_further verb) None words ≡ o → is_some o ≡ true → (parts : List Part) × (parts_from (option_names verb) (takes_further verb) None words ≡ Some parts)
    = λ o. elim o as (λ o. parts_from (option_names verb) (takes_further verb) None words ≡ o → is_some o ≡ true → (parts : List Part) × (parts_from (option_names verb) (takes_further verb) None words ≡ Some parts)) [ None ↦ λ e k. absurd cc | Some ps ↦ λ e k. (ps, e) ]
    in cases (parts_from (option_names verb) (takes_further verb) None words) refl (sym (parts_exist (option_names verb) (takes_further verb) words None) ∙ fact)

with_parts : (verb : Verb) (words : List Text) (parts : List Part) → parts_from (option_names verb) (takes_further verb) None words ≡ Some parts
    → verb_order verb words ≡ order_by verb (λ name. values_of name parts)
unfolding verb_order
with_parts verb words parts read = rw read refl

-- what clap found in words that have parts is the order that they say
pub clap_agrees : (verb : Verb) (words : List Text) (m : ArgMatches) → have_parts (option_names verb) (takes_further verb) false words ≡ true
    → option_map (λ p. p.1) (subcommand_of program (verb_name verb ∷ words)) ≡ Some (rows_of (found_of m)) → order_by verb (raw_of m) ≡ verb_order verb words
clap_agrees verb words m fact found =
    let parts = some_parts verb words fact in
    let rows : rows_of (found_of m) ≡ add_parts [] parts.0 = same_Some _ _ (sym found ∙ ap (option_map (λ p. p.1)) (matched verb words parts.0 parts.1)) in
    order_same (raw_of m) (λ name. values_of name parts.0) (found_values m parts.0 rows) verb ∙ sym (with_parts verb words parts.0 parts.1)

-- and it refuses none of them
pub clap_takes : (verb : Verb) (words : List Text) → have_parts (option_names verb) (takes_further verb) false words ≡ true → takes program (verb_name verb ∷ words) ≡ true
clap_takes verb words fact =
    let parts = some_parts verb words fact in
    taken verb words parts.0 parts.1

-- and enters the subcommand
pub clap_enters : (verb : Verb) (words : List Text) → have_parts (option_names verb) (takes_further verb) false words ≡ true → is_some (subcommand_of program (verb_name verb ∷ words)) ≡ true
clap_enters verb words fact =
    let parts = some_parts verb words fact in
    ap is_some (matched verb words parts.0 parts.1)

pub same_words : (words : List Text) → map (λ word. word) words ≡ words
same_words [] = refl
same_words (w ∷ ws) = ap (λ (rest : List Text). w ∷ rest) (same_words ws)

-- a command that is found among some has the word
found_verb : (others : List Verb) (word : Text) (verb : Verb) → verb_among others word ≡ Some verb → word ≡ verb_name verb
found_verb [] word verb is = absurd cc
found_verb (first ∷ others) word verb is =
    let cases : (b : Bool) → bytes_eq word (verb_name first) ≡ b → cond b (Some first) (verb_among others word) ≡ Some verb → word ≡ verb_name verb
    = λ b. elim b as (λ b. bytes_eq word (verb_name first) ≡ b → cond b (Some first) (verb_among others word) ≡ Some verb → word ≡ verb_name verb) [
      | true ↦ λ f k. let same : first ≡ verb = cc in (bytes_eq-Decides word (verb_name first)).0 f ∙ ap verb_name same
      | false ↦ λ f k. found_verb others word verb k
    ]
    in cases (bytes_eq word (verb_name first)) refl is

-- the word that names a command
pub verb_word : (word : Text) (verb : Verb) → verb_of word ≡ Some verb → word ≡ verb_name verb
unfolding verb_of
verb_word word verb is = found_verb verbs word verb is

pub no_order : (words : List Text) (command : Text) (behind : List Text) (verb : Verb) → words ≡ command ∷ behind → verb_of command ≡ Some verb → have_parts (option_names verb) (takes_further verb) false behind ≡ false → order_in words ≡ None
unfolding order_in
no_order words command behind verb split is none = rw (split, is) (no_parts verb behind none)

pub second_some : {A B : Type 0} (o : Option (A × B)) → is_some (option_map (λ p. p.1) o) ≡ is_some o
second_some None = refl
second_some (Some p) = refl
