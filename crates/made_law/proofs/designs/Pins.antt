-- The design pins of the made DEF, read by computing beside what is known of their words.
use Rattle.std.proofs.Common.{◌≡◌, ℕ, ◌^◌, ◌<◌, true, false, not, List, [], ◌∷◌, map, Option, Some, None, refl, sym, ap, ◌∙◌, subst, append-nil, codes, decimal, arith}
use Rattle.std.specs.List.{range_with_len, AllByRecursion as Each}
use Rattle.std.specs.Str.{bytes_eq}
use Rattle.base_types.specs.Names.{plain_name}
use Rattle.base_types.specs.Lines.{line_at}
use Rattle.base_types.specs.declared.span.Span.{Span}
use Rattle.token_forms.specs.Tokens.{Token}
use Rattle.token_forms.specs.Parts.{token_texts}
use Rattle.token_forms.specs.Parsing.{word_at}
use Rattle.token_forms.specs.Classes.{But, is_in}
use Rattle.token_forms.specs.Forms.{text_at, many_within, many_at, put_all, gathered_at}
use Rattle.def_tokens.specs.Numbers.{is_integer}
use Rattle.def_tokens.specs.declared.orient.Orient.TheVariants as orient
use Rattle.def_syntax.specs.Words.{marks}
use Rattle.def_syntax.specs.Frames.{start_of}
use Rattle.def_syntax.specs.Options.{rest_at, depth_at, word_in, unread_at}
use Rattle.def_syntax.specs.Placements.{orient_of, turned, placement}
use Rattle.def_syntax.specs.OptionForms.{design_pin_form, pin_option}
use Rattle.def_syntax.specs.Grammar.{design_pin}
use Rattle.def_syntax.specs.declared.placement.Placement.{Placement}
use Rattle.def_syntax.specs.declared.pin.DesignPin.{DesignPin}
use Rattle.def_syntax.proofs.Lawful.{pin_statement}
use Rattle.def_syntax.proofs.FrameLaws.{each_append}
use Rattle.def_layout.specs.NetForms.{AreIn}
use Rattle.def_reader.specs.Designs.{pin_of, pin_place}
use Rattle.def_reader.specs.Faults.{has_far_pin, is_far}
use Rattle.design_maker.specs.Chains.{last_unit}
use Rattle.made_law.specs.Designs.MadePins.{PinRow, wide_pin, in_pin, out_pin, pin_rows, pin_words, made_pin, point_of}
use Rattle.made_law.proofs.designs.Words.{number_free}
use Rattle.made_law.proofs.designs.Numbers.{plain_unit_net, plain_in_port, plain_out_port, number_integer, coordinate_is}
use Rattle.made_law.proofs.designs.ByPlace.{tokens_by, place_in, tokens_of_words}
use Rattle.made_law.proofs.designs.Statements.{Shut, shut_pin, each_of}
use Rattle.made_law.proofs.designs.Rows.{Row, Rows, rows_of}

-- what the words of a pin's place say
abbrev pub place_text : Option (ℕ × ℕ) → Option Placement
place_text None = None
place_text (Some p) = Some (record { x = decimal p.0; y = decimal p.1; orient = orient.N })

-- both coordinates have 31 bits
abbrev pub IsSmall : Option (ℕ × ℕ) → Type 0
IsSmall None = Unit {0}
IsSmall (Some p) = (p.0 < 2 ^ 31) × (p.1 < 2 ^ 31)

-- names that are no marks, and that are written as they are; and a place in range
pub record GoodPin (r : PinRow) : Type 0 where
  pub name : is_in (But marks) r.name ≡ true
  pub net : is_in (But marks) r.net ≡ true
  pub name_open : not (bytes_eq r.name (codes ";")) ≡ true
  pub net_open : not (bytes_eq r.net (codes ";")) ≡ true
  pub plain : plain_name r.name ≡ r.name
  pub plain_net : plain_name r.net ≡ r.net
  pub small : IsSmall r.place

placed_read : (place : ℕ → Span) (name net x y : List ℕ) → is_in (But marks) name ≡ true → is_in (But marks) net ≡ true → is_in (But marks) x ≡ true → is_integer x ≡ true → is_in (But marks) y ≡ true → is_integer y ≡ true
    → design_pin.reads (tokens_by place 0 (codes "-" ∷ name ∷ codes "+" ∷ codes "NET" ∷ net ∷ codes "+" ∷ codes "PLACED" ∷ codes "(" ∷ x ∷ y ∷ codes ")" ∷ codes "N" ∷ codes ";" ∷ []))
    ≡ Some (record { name = name; net = net; net_span = place 4; place = Some (record { x = x; y = y; orient = orient.N }) }, [])
unfolding design_pin design_pin_form pin_option placement turned orient_of word_at text_at many_within many_at put_all gathered_at rest_at depth_at word_in unread_at
placed_read place name net x y a b c d e f = rw (a, b, c, d, e, f) refl

wide_read : (place : ℕ → Span) (name net : List ℕ) → is_in (But marks) name ≡ true → is_in (But marks) net ≡ true
    → design_pin.reads (tokens_by place 0 (codes "-" ∷ name ∷ codes "+" ∷ codes "NET" ∷ net ∷ codes ";" ∷ [])) ≡ Some (record { name = name; net = net; net_span = place 4; place = None }, [])
unfolding design_pin design_pin_form pin_option placement turned orient_of word_at text_at many_within many_at put_all gathered_at rest_at depth_at word_in unread_at
wide_read place name net a b = rw (a, b) refl

pin_read : (place : ℕ → Span) (name net : List ℕ) (o : Option (ℕ × ℕ)) → is_in (But marks) name ≡ true → is_in (But marks) net ≡ true
    → design_pin.reads (tokens_by place 0 (pin_words (record { name = name; net = net; place = o }))) ≡ Some (record { name = name; net = net; net_span = place 4; place = place_text o }, [])
pin_read place name net None a b = wide_read place name net a b
pin_read place name net (Some p) a b = placed_read place name net (decimal p.0) (decimal p.1) a b (number_free p.0) (number_integer p.0) (number_free p.1) (number_integer p.1)

pin_spelled : (r : PinRow) (s : List Token) → GoodPin r → token_texts s ≡ pin_words r → design_pin.spells (record { name = r.name; net = r.net; net_span = place_in s 4; place = place_text r.place }) s
pin_spelled r s good e =
    let value : DesignPin = record { name = r.name; net = r.net; net_span = place_in s 4; place = place_text r.place } in
    let read : design_pin.reads s ≡ Some (value, []) = ap design_pin.reads (tokens_of_words s (pin_words r) e) ∙ pin_read (place_in s) r.name r.net r.place good.name good.net in
    let h = pin_statement.lawful.spelled s value [] read in
    subst (design_pin.spells value) (sym (h.is ∙ append-nil h.front)) h.holds

place_is : (o : Option (ℕ × ℕ)) → IsSmall o → pin_place (place_text o) ≡ point_of o
place_is None h = refl
place_is (Some p) h = rw (coordinate_is p.0 h.0, coordinate_is p.1 h.1) refl

place_fits : (o : Option (ℕ × ℕ)) → IsSmall o → is_far (place_text o) ≡ false
place_fits None h = refl
place_fits (Some p) h = rw (coordinate_is p.0 h.0, coordinate_is p.1 h.1) refl

pin_row : (text : List ℕ) (r : PinRow) (s : List Token) → GoodPin r → AreIn text s → token_texts s ≡ pin_words r → Row {C = Unit {0}} design_pin text pin_words (λ c. pin_of) made_pin has_far_pin GoodPin r s
pin_row text r s good inside e = record {
  value = record { name = r.name; net = r.net; net_span = place_in s 4; place = place_text r.place };
  spelled = pin_spelled r s good e;
  place = record { line = line_at text (start_of s); span = place_in s 4 };
  is = λ c. rw (good.plain, good.plain_net, place_is r.place good.small) refl;
  fits = place_fits r.place good.small;
}

good_wide : (name : List ℕ) → is_in (But marks) name ≡ true → not (bytes_eq name (codes ";")) ≡ true → plain_name name ≡ name → GoodPin (wide_pin name)
good_wide name a b c = record { name = a; net = a; name_open = b; net_open = b; plain = c; plain_net = c; small = tt }

good_in : (k : ℕ) → k < 8 → GoodPin (in_pin k)
good_in k lt = record { name = refl; net = refl; name_open = refl; net_open = refl; plain = plain_in_port k; plain_net = plain_in_port k; small = (omega arith, omega (arith, lt)) }

good_out : (n k : ℕ) → k < 8 → GoodPin (out_pin n k)
good_out n k lt = record { name = refl; net = refl; name_open = refl; net_open = refl; plain = plain_out_port k; plain_net = plain_unit_net (last_unit n k); small = (omega arith, omega (arith, lt)) }

-- of the eight chains
pub each_eight : (P : ℕ → Type 0) → ((k : ℕ) → k < 8 → P k) → Each P (range_with_len 0 8)
each_eight P f = (f 0 (omega arith), (f 1 (omega arith), (f 2 (omega arith), (f 3 (omega arith), (f 4 (omega arith), (f 5 (omega arith), (f 6 (omega arith), (f 7 (omega arith), tt))))))))

pub good_pins : (n : ℕ) → Each GoodPin (pin_rows n)
good_pins n = (
  good_wide (codes "clk") refl refl refl,
  (
    good_wide (codes "se") refl refl refl,
    (
      good_wide (codes "d") refl refl refl,
      each_append GoodPin (map in_pin (range_with_len 0 8)) (map (out_pin n) (range_with_len 0 8))
          (each_of (λ k. k < 8) GoodPin in_pin good_in (range_with_len 0 8) (each_eight (λ k. k < 8) (λ k lt. lt)))
          (each_of (λ k. k < 8) GoodPin (out_pin n) (good_out n) (range_with_len 0 8) (each_eight (λ k. k < 8) (λ k lt. lt))),
    ),
  ),
)

pub shut_pins : (n : ℕ) → Each Shut (map pin_words (pin_rows n))
shut_pins n = each_of GoodPin Shut pin_words (λ r good. shut_pin r.name r.net r.place good.name_open good.net_open) (pin_rows n) (good_pins n)

abbrev pub PinRows : List ℕ → ℕ → List (List Token) → Type 0
PinRows text n ss = Rows {C = Unit {0}} design_pin text pin_words (λ c. pin_of) made_pin has_far_pin GoodPin (pin_rows n) ss

pub pins_are : (text : List ℕ) (n : ℕ) (ss : List (List Token)) → Each (AreIn text) ss → map token_texts ss ≡ map pin_words (pin_rows n) → PinRows text n ss
pins_are text n ss inside e = rows_of design_pin text pin_words (λ c. pin_of) made_pin has_far_pin GoodPin (pin_row text) (pin_rows n) ss (good_pins n) inside e
