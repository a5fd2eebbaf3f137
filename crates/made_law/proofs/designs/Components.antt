-- The components of the made DEF, read by computing beside what is known of their words.
use Rattle.std.proofs.Common.{◌≡◌, ℕ, true, List, [], ◌∷◌, map, Some, refl, sym, ap, ◌∙◌, subst, append-nil, codes, decimal}
use Rattle.std.specs.List.{AllByRecursion as Each}
use Rattle.base_types.specs.declared.span.Span.{Span}
use Rattle.token_forms.specs.Tokens.{Token, place_of}
use Rattle.token_forms.specs.Parts.{token_texts}
use Rattle.token_forms.specs.Parsing.{word_at}
use Rattle.token_forms.specs.Classes.{But, is_in}
use Rattle.token_forms.specs.Forms.{text_at, many_within, many_at, put_all, gathered_at}
use Rattle.base_types.specs.Lines.{line_at}
use Rattle.def_tokens.specs.Numbers.{is_integer}
use Rattle.def_tokens.specs.declared.orient.Orient.TheVariants as orient
use Rattle.def_syntax.specs.Words.{marks}
use Rattle.def_syntax.specs.Frames.{start_of}
use Rattle.def_syntax.specs.Options.{rest_at, depth_at, word_in, unread_at}
use Rattle.def_syntax.specs.Placements.{orient_of, turned, placement}
use Rattle.def_syntax.specs.OptionForms.{component_form, component_option}
use Rattle.def_syntax.specs.Grammar.{component}
use Rattle.def_syntax.specs.declared.component.Component.{Component}
use Rattle.def_syntax.proofs.Lawful.{component_statement}
use Rattle.def_layout.specs.NetForms.{AreIn}
use Rattle.def_reader.specs.Designs.{component_of}
use Rattle.def_reader.specs.Faults.{has_far_component}
use Rattle.design_maker.specs.Numbers.{place_x, place_y}
use Rattle.made_law.specs.Designs.Names.{unit}
use Rattle.made_law.specs.Designs.MadeComponents.{component_words, made_component, units}
use Rattle.made_law.proofs.designs.Words.{number_free}
use Rattle.made_law.proofs.designs.Numbers.{plain_unit, number_integer, coordinate_is, x_small, y_small}
use Rattle.made_law.proofs.designs.ByPlace.{tokens_by, place_in, tokens_of_words}
use Rattle.made_law.proofs.designs.Rows.{Row, Rows, rows_of}

-- what the words of a component say
abbrev component_text : List ℕ → List ℕ → List ℕ → Component
component_text name x y = record { name = name; cell = codes "SDF"; place = Some (record { x = x; y = y; orient = orient.N }) }

abbrev words_of : List ℕ → List ℕ → List ℕ → List (List ℕ)
words_of name x y = codes "-" ∷ name ∷ codes "SDF" ∷ codes "+" ∷ codes "PLACED" ∷ codes "(" ∷ x ∷ y ∷ codes ")" ∷ codes "N" ∷ codes ";" ∷ []

component_read : (place : ℕ → Span) (name x y : List ℕ) → is_in (But marks) name ≡ true → is_in (But marks) x ≡ true → is_integer x ≡ true → is_in (But marks) y ≡ true → is_integer y ≡ true
    → component.reads (tokens_by place 0 (words_of name x y)) ≡ Some (component_text name x y, [])
unfolding component component_form component_option placement turned orient_of word_at text_at many_within many_at put_all gathered_at rest_at depth_at word_in unread_at
component_read place name x y a b c d e = rw (a, b, c, d, e) refl

component_spelled : (i : ℕ) (s : List Token) → token_texts s ≡ component_words i → component.spells (component_text (unit i) (decimal (place_x i)) (decimal (place_y i))) s
component_spelled i s e =
    let x = decimal (place_x i) in
    let y = decimal (place_y i) in
    let value = component_text (unit i) x y in
    let is = tokens_of_words s (words_of (unit i) x y) e in
    let read : component.reads s ≡ Some (value, []) = ap component.reads is ∙ component_read (place_in s) (unit i) x y refl (number_free (place_x i)) (number_integer (place_x i)) (number_free (place_y i)) (number_integer (place_y i)) in
    let r = component_statement.lawful.spelled s value [] read in
    subst (component.spells value) (sym (r.is ∙ append-nil r.front)) r.holds

-- any number of units
abbrev pub Any : ℕ → Type 0
Any i = Unit {0}

abbrev pub ComponentRows : List ℕ → ℕ → List (List Token) → Type 0
ComponentRows text n ss = Rows {C = Unit {0}} component text component_words (λ c. component_of) made_component has_far_component Any (units n) ss

component_row : (text : List ℕ) (i : ℕ) (s : List Token) → Any i → AreIn text s → token_texts s ≡ component_words i → Row {C = Unit {0}} component text component_words (λ c. component_of) made_component has_far_component Any i s
component_row text i s any inside e = record {
  value = component_text (unit i) (decimal (place_x i)) (decimal (place_y i));
  spelled = component_spelled i s e;
  place = record { line = line_at text (start_of s); span = place_of s };
  is = λ c. rw (plain_unit i, coordinate_is (place_x i) (x_small i), coordinate_is (place_y i) (y_small i)) refl;
  fits = rw (coordinate_is (place_x i) (x_small i), coordinate_is (place_y i) (y_small i)) refl;
}

any_of : (is : List ℕ) → Each Any is
any_of [] = tt
any_of (i ∷ is) = (tt, any_of is)

pub component_rows : (text : List ℕ) (n : ℕ) (ss : List (List Token)) → Each (AreIn text) ss → map token_texts ss ≡ map component_words (units n) → ComponentRows text n ss
component_rows text n ss inside e = rows_of component text component_words (λ c. component_of) made_component has_far_component Any (component_row text) (units n) ss (any_of (units n)) inside e
