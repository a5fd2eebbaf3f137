-- The lines of the made DEF, section by section.
use Rattle.std.proofs.Common.{◌≡◌, ℕ, ◌+◌, ◌-◌, ◌*◌, ◌/◌, ◌%◌, true, false, List, [], ◌∷◌, ◌++◌, map, refl, sym, ap, ◌∙◌, subst, append_assoc, codes, decimal}
use Rattle.def_reader.specs.declared.design.NetPin.{NetPin}
use Rattle.def_reader.specs.declared.design.NetPin.TheVariants.{Cell}
use Rattle.std.specs.List.{list_all, flat_map, range_with_len}
use Rattle.std.specs.Fmt.{digits}
use Rattle.std.proofs.lemmas.List.{append-nil, map-append}
use Rattle.token_forms.specs.Pieces.{texts_from}
use Rattle.def_tokens.specs.DefSplit.{goes_on}
use Rattle.def_layout.specs.Words.{texts, is_whole, HasWords}
use Rattle.design_maker.specs.Pieces.{pieces}
use Rattle.design_maker.specs.Numbers.{place_x, place_y}
use Rattle.design_maker.specs.Chains.{chain_length, unit_of, last_unit, max_bits}
use Rattle.design_maker.specs.MadeDef as text
use Rattle.made_law.specs.Designs.Names.{unit, unit_net, in_port, out_port}
use Rattle.made_law.specs.Designs.MadeComponents.{component_words, units}
use Rattle.made_law.specs.Designs.MadePins.{pin_words, pin_rows, wide_pin, in_pin, out_pin}
use Rattle.made_law.specs.Designs.MadeNets.{NetRow, net_words, net_rows, connection_words, wide_net, in_net, inner_net, out_net}
use Rattle.made_law.specs.Designs.MadeChains.{element_words, element_numbers, head_words, tail_words, chain_words, chain_numbers}
use Rattle.made_law.specs.Designs.MadeStatements.{flat, opening, closing, section, made_sections, units_words, made_statements}
use Rattle.made_law.specs.Designs.Laws.{StatementsLaw}
use Rattle.made_law.proofs.designs.Words.{number_whole, unit_whole, unit_net_whole, in_port_whole, out_port_whole, chain_whole, partition_whole}
use Rattle.made_law.proofs.designs.Lines.{line, led_words, line_words, open_pieces, Lines, line_and, one_line, led_line, open_line, pieces_free, both_lines, line_pieces}

zero_is : decimal 0 ≡ codes "0"
unfolding digits
zero_is = refl

million_is : decimal 1000000 ≡ codes "1000000"
unfolding digits
million_is = refl

-- lines that are the same
same_lines : (x : List ℕ) (ss us : List (List (List ℕ))) → ss ≡ us → Lines x ss → Lines x us
same_lines x ss us e h = subst (Lines x) e h

-- a section: its opening, what stands within, its END, and what stands behind it
section_lines : (word count : List ℕ) (text_in text_behind : List ℕ) (inner behind : List (List (List ℕ))) → list_all is_whole (opening word count) ≡ true → list_all is_whole (closing word) ≡ true
    → Lines text_in inner → Lines text_behind behind → Lines (line (opening word count) (10 ∷ (text_in ++ line (closing word) (10 ∷ []))) ++ text_behind) (section word count inner behind)
section_lines word count text_in text_behind inner behind o c has more =
    let ends = one_line (closing word) c in
    let inside = both_lines text_in (line (closing word) (10 ∷ [])) inner (closing word ∷ []) has ends in
    let whole = line_and (opening word count) (text_in ++ line (closing word) (10 ∷ [])) (inner ++ closing word ∷ []) o inside in
    let all = both_lines (line (opening word count) (10 ∷ (text_in ++ line (closing word) (10 ∷ [])))) text_behind (opening word count ∷ (inner ++ closing word ∷ [])) behind whole more in
    same_lines _ _ (section word count inner behind) (ap (λ (l : List (List (List ℕ))). opening word count ∷ l) (append_assoc inner (closing word ∷ []) behind)) all

-- COMPONENTS
component_line : (i : ℕ) → Lines (text.component i) (component_words i ∷ [])
component_line i = one_line (component_words i) (rw (unit_whole i, number_whole (place_x i), number_whole (place_y i)) refl)

components_in : (n : ℕ) → Lines (pieces text.component n) (map component_words (units n))
components_in n = line_pieces text.component component_words component_line n

components_lines : (n : ℕ) (text_behind : List ℕ) (behind : List (List (List ℕ))) → Lines text_behind behind → Lines (text.components_text n ++ text_behind) (section (codes "COMPONENTS") (decimal n) (map component_words (units n)) behind)
unfolding text.components_text
components_lines n text_behind behind more =
    section_lines (codes "COMPONENTS") (decimal n) (pieces text.component n) text_behind (map component_words (units n)) behind (rw (number_whole n) refl) refl (components_in n) more

-- PINS
in_pin_line : (k : ℕ) → Lines (text.in_pin k) (pin_words (in_pin k) ∷ [])
in_pin_line k =
    let ws = λ (zero_word : List ℕ).
    codes "-" ∷ in_port k ∷ codes "+" ∷ codes "NET" ∷ in_port k ∷ codes "+" ∷ codes "PLACED" ∷ codes "(" ∷ zero_word ∷ decimal (100000 * k) ∷ codes ")" ∷ codes "N" ∷ codes ";" ∷ []
    in
    subst (λ (w : List ℕ). Lines (text.in_pin k) (ws w ∷ [])) (sym zero_is) (one_line (ws (codes "0")) (rw (in_port_whole k, number_whole (100000 * k)) refl))

out_pin_line : (n k : ℕ) → Lines (text.out_pin n k) (pin_words (out_pin n k) ∷ [])
out_pin_line n k =
    let ws = λ (edge : List ℕ).
    codes "-" ∷ out_port k ∷ codes "+" ∷ codes "NET" ∷ unit_net (last_unit n k) ∷ codes "+" ∷ codes "PLACED" ∷ codes "(" ∷ edge ∷ decimal (100000 * k) ∷ codes ")" ∷ codes "N" ∷ codes ";" ∷ []
    in
    subst (λ (w : List ℕ). Lines (text.out_pin n k) (ws w ∷ [])) (sym million_is) (one_line (ws (codes "1000000")) (rw (out_port_whole k, unit_net_whole (last_unit n k), number_whole (100000 * k)) refl))

pins_in : (n : ℕ) → Lines (codes "- clk + NET clk ;\n- se + NET se ;\n- d + NET d ;\n" ++ (pieces text.in_pin 8 ++ pieces (text.out_pin n) 8)) (map pin_words (pin_rows n))
pins_in n =
    let a = pieces text.in_pin 8 in
    let b = pieces (text.out_pin n) 8 in
    let ins = line_pieces text.in_pin (λ k. pin_words (in_pin k)) in_pin_line 8 in
    let outs = line_pieces (text.out_pin n) (λ k. pin_words (out_pin n k)) (out_pin_line n) 8 in
    let us = map (λ k. pin_words (in_pin k)) (range_with_len 0 8) ++ map (λ k. pin_words (out_pin n k)) (range_with_len 0 8) in
    let both = both_lines a b (map (λ k. pin_words (in_pin k)) (range_with_len 0 8)) (map (λ k. pin_words (out_pin n k)) (range_with_len 0 8)) ins outs in
    let d = line_and (pin_words (wide_pin (codes "d"))) (a ++ b) us refl both in
    let se = line_and (pin_words (wide_pin (codes "se"))) (line (pin_words (wide_pin (codes "d"))) (10 ∷ (a ++ b))) (pin_words (wide_pin (codes "d")) ∷ us) refl d in
    line_and (pin_words (wide_pin (codes "clk"))) (line (pin_words (wide_pin (codes "se"))) (10 ∷ line (pin_words (wide_pin (codes "d"))) (10 ∷ (a ++ b)))) (pin_words (wide_pin (codes "se")) ∷ pin_words (wide_pin (codes "d")) ∷ us) refl se

pins_lines : (n : ℕ) (text_behind : List ℕ) (behind : List (List (List ℕ))) → Lines text_behind behind → Lines (text.pins_text n ++ text_behind) (section (codes "PINS") (codes "19") (map pin_words (pin_rows n)) behind)
unfolding text.pins_text
pins_lines n text_behind behind more =
    let a = pieces text.in_pin 8 in
    let b = pieces (text.out_pin n) 8 in
    let h = section_lines (codes "PINS") (codes "19") (codes "- clk + NET clk ;\n- se + NET se ;\n- d + NET d ;\n" ++ (a ++ b)) text_behind (map pin_words (pin_rows n)) behind refl refl (pins_in n) more in
    subst (λ (l : List ℕ). Lines ((codes "PINS 19 ;\n- clk + NET clk ;\n- se + NET se ;\n- d + NET d ;\n" ++ l) ++ text_behind) (section (codes "PINS") (codes "19") (map pin_words (pin_rows n)) behind))
    (append_assoc a b (codes "END PINS\n")) h

-- NETS
unit_pin_words : (pin : List ℕ) (i : ℕ) → is_whole pin ≡ true → HasWords (text.unit_pin pin i) (codes "(" ∷ unit i ∷ pin ∷ codes ")" ∷ [])
unit_pin_words pin i whole = led_words (codes "(" ∷ unit i ∷ pin ∷ codes ")" ∷ []) (rw (unit_whole i, whole) refl)

unit_pins : (pin : List ℕ) (n : ℕ) → is_whole pin ≡ true → HasWords (pieces (text.unit_pin pin) n) (flat_map (λ i. codes "(" ∷ unit i ∷ pin ∷ codes ")" ∷ []) (range_with_len 0 n))
unit_pins pin n whole = open_pieces (text.unit_pin pin) (λ i. codes "(" ∷ unit i ∷ pin ∷ codes ")" ∷ []) (λ i. unit_pin_words pin i whole) (λ i z. refl) n

ends_line : Lines (codes " ;\n") ((codes ";" ∷ []) ∷ [])
ends_line = led_line (codes ";" ∷ []) refl

abbrev wide_words : List ℕ → List ℕ → ℕ → List (List ℕ)
wide_words port pin n =
    (codes "-" ∷ port ∷ codes "(" ∷ codes "PIN" ∷ port ∷ codes ")" ∷ []) ++ (flat_map (λ i. codes "(" ∷ unit i ∷ pin ∷ codes ")" ∷ []) (range_with_len 0 n) ++ codes ";" ∷ [])

wide_line : (front : List ℕ) (us : List (List ℕ)) (pin : List ℕ) (n : ℕ) → is_whole pin ≡ true → HasWords front us
    → Lines (front ++ (pieces (text.unit_pin pin) n ++ codes " ;\n")) ((us ++ (flat_map (λ i. codes "(" ∷ unit i ∷ pin ∷ codes ")" ∷ []) (range_with_len 0 n) ++ codes ";" ∷ [])) ∷ [])
wide_line front us pin n whole has =
    let ps = flat_map (λ i. codes "(" ∷ unit i ∷ pin ∷ codes ")" ∷ []) (range_with_len 0 n) in
    open_line front (pieces (text.unit_pin pin) n ++ codes " ;\n") us (ps ++ codes ";" ∷ []) (λ z. pieces_free (text.unit_pin pin) (λ i z. refl) n (codes " ;\n") z refl) has
    (open_line (pieces (text.unit_pin pin) n) (codes " ;\n") ps (codes ";" ∷ []) (λ z. refl) (unit_pins pin n whole) ends_line)

clk_line : (n : ℕ) → Lines (text.wide_net (codes "clk") (codes "CK") n) (wide_words (codes "clk") (codes "CK") n ∷ [])
unfolding text.wide_net
clk_line n = wide_line (codes "- clk ( PIN clk )") (codes "-" ∷ codes "clk" ∷ codes "(" ∷ codes "PIN" ∷ codes "clk" ∷ codes ")" ∷ []) (codes "CK") n refl (line_words (codes "-" ∷ codes "clk" ∷ codes "(" ∷ codes "PIN" ∷ codes "clk" ∷ codes ")" ∷ []) refl)

se_line : (n : ℕ) → Lines (text.wide_net (codes "se") (codes "SE") n) (wide_words (codes "se") (codes "SE") n ∷ [])
unfolding text.wide_net
se_line n = wide_line (codes "- se ( PIN se )") (codes "-" ∷ codes "se" ∷ codes "(" ∷ codes "PIN" ∷ codes "se" ∷ codes ")" ∷ []) (codes "SE") n refl (line_words (codes "-" ∷ codes "se" ∷ codes "(" ∷ codes "PIN" ∷ codes "se" ∷ codes ")" ∷ []) refl)

d_line : (n : ℕ) → Lines (text.wide_net (codes "d") (codes "D") n) (wide_words (codes "d") (codes "D") n ∷ [])
unfolding text.wide_net
d_line n = wide_line (codes "- d ( PIN d )") (codes "-" ∷ codes "d" ∷ codes "(" ∷ codes "PIN" ∷ codes "d" ∷ codes ")" ∷ []) (codes "D") n refl (line_words (codes "-" ∷ codes "d" ∷ codes "(" ∷ codes "PIN" ∷ codes "d" ∷ codes ")" ∷ []) refl)

-- the words of a wide net's row
row_words : (f : ℕ → NetPin) (g : ℕ → List (List ℕ)) → ((i : ℕ) → g i ≡ connection_words (f i)) → (is : List ℕ) → flat_map g is ≡ flat_map connection_words (map f is)
row_words f g same [] = refl
row_words f g same (i ∷ is) = ap (λ (l : List (List ℕ)). l ++ flat_map g is) (same i) ∙ ap (λ (l : List (List ℕ)). connection_words (f i) ++ l) (row_words f g same is)

wide_is : (port pin : List ℕ) (n : ℕ) → wide_words port pin n ≡ net_words (wide_net port pin n)
wide_is port pin n =
    ap (λ (l : List (List ℕ)). (codes "-" ∷ port ∷ codes "(" ∷ codes "PIN" ∷ port ∷ codes ")" ∷ []) ++ (l ++ codes ";" ∷ []))
    (row_words (λ i. Cell (unit i) pin) (λ i. codes "(" ∷ unit i ∷ pin ∷ codes ")" ∷ []) (λ i. refl) (range_with_len 0 n))

wide_lines : (n : ℕ) → Lines (text.wide_nets n) (net_words (wide_net (codes "clk") (codes "CK") n) ∷ net_words (wide_net (codes "se") (codes "SE") n) ∷ net_words (wide_net (codes "d") (codes "D") n) ∷ [])
unfolding text.wide_nets
wide_lines n =
    let clk = same_lines _ _ (net_words (wide_net (codes "clk") (codes "CK") n) ∷ []) (ap (λ (l : List (List ℕ)). l ∷ []) (wide_is (codes "clk") (codes "CK") n)) (clk_line n) in
    let se = same_lines _ _ (net_words (wide_net (codes "se") (codes "SE") n) ∷ []) (ap (λ (l : List (List ℕ)). l ∷ []) (wide_is (codes "se") (codes "SE") n)) (se_line n) in
    let d = same_lines _ _ (net_words (wide_net (codes "d") (codes "D") n) ∷ []) (ap (λ (l : List (List ℕ)). l ∷ []) (wide_is (codes "d") (codes "D") n)) (d_line n) in
    both_lines _ _ (net_words (wide_net (codes "clk") (codes "CK") n) ∷ []) (net_words (wide_net (codes "se") (codes "SE") n) ∷ net_words (wide_net (codes "d") (codes "D") n) ∷ []) clk
    (both_lines _ _ (net_words (wide_net (codes "se") (codes "SE") n) ∷ []) (net_words (wide_net (codes "d") (codes "D") n) ∷ []) se d)

in_net_line : (k : ℕ) → Lines (text.in_net k) (net_words (in_net k) ∷ [])
in_net_line k = one_line (net_words (in_net k)) (rw (in_port_whole k, unit_whole k) refl)

inner_net_line : (i : ℕ) → Lines (text.inner_net i) (net_words (inner_net i) ∷ [])
inner_net_line i = one_line (net_words (inner_net i)) (rw (unit_net_whole i, unit_whole i, unit_whole (i + 8)) refl)

out_net_line : (i : ℕ) → Lines (text.out_net i) (net_words (out_net i) ∷ [])
out_net_line i = one_line (net_words (out_net i)) (rw (unit_net_whole i, unit_whole i, out_port_whole (i % 8)) refl)

map_of_map : {X Y Z : Type 0} (g : Y → Z) (f : X → Y) (xs : List X) → map (λ x. g (f x)) xs ≡ map g (map f xs)
map_of_map g f [] = refl
map_of_map {X} {Y} {Z} g f (x ∷ xs) = ap (λ (l : List Z). g (f x) ∷ l) (map_of_map g f xs)

abbrev scan_rows : ℕ → List NetRow
scan_rows n = map in_net (range_with_len 0 8) ++ (map inner_net (range_with_len 0 (n - 8)) ++ map (λ j. out_net (n - 8 + j)) (range_with_len 0 8))

scan_lines : (n : ℕ) → Lines (text.scan_nets n) (map net_words (scan_rows n))
unfolding text.scan_nets
scan_lines n =
    let ins = line_pieces text.in_net (λ k. net_words (in_net k)) in_net_line 8 in
    let inner = line_pieces text.inner_net (λ i. net_words (inner_net i)) inner_net_line (n - 8) in
    let outs = line_pieces (λ j. text.out_net (n - 8 + j)) (λ j. net_words (out_net (n - 8 + j))) (λ j. out_net_line (n - 8 + j)) 8 in
    let all = both_lines _ _ _ _ ins (both_lines _ _ _ _ inner outs) in
    same_lines _ _ (map net_words (scan_rows n))
    (ap (λ (l : List (List (List ℕ))). map net_words (map in_net (range_with_len 0 8)) ++ (l ++ map net_words (map (λ j. out_net (n - 8 + j)) (range_with_len 0 8)))) (map_of_map net_words inner_net (range_with_len 0 (n - 8)))
    ∙ ap (λ (l : List (List (List ℕ))). map net_words (map in_net (range_with_len 0 8)) ++ l) (sym (map-append net_words (map inner_net (range_with_len 0 (n - 8))) (map (λ j. out_net (n - 8 + j)) (range_with_len 0 8))))) all

nets_in : (n : ℕ) → Lines (text.wide_nets n ++ text.scan_nets n) (map net_words (net_rows n))
nets_in n = both_lines _ _ _ (map net_words (scan_rows n)) (wide_lines n) (scan_lines n)

nets_lines : (n : ℕ) (text_behind : List ℕ) (behind : List (List (List ℕ))) → Lines text_behind behind → Lines (text.nets_text n ++ text_behind) (section (codes "NETS") (decimal (11 + n)) (map net_words (net_rows n)) behind)
unfolding text.nets_text
nets_lines n text_behind behind more =
    let h = section_lines (codes "NETS") (decimal (11 + n)) (text.wide_nets n ++ text.scan_nets n) text_behind (map net_words (net_rows n)) behind (rw (number_whole (11 + n)) refl) refl (nets_in n) more in
    subst (λ (l : List ℕ). Lines ((78 ∷ 69 ∷ 84 ∷ 83 ∷ 32 ∷ (decimal (11 + n) ++ (32 ∷ 59 ∷ 10 ∷ l))) ++ text_behind) (section (codes "NETS") (decimal (11 + n)) (map net_words (net_rows n)) behind))
    (append_assoc (text.wide_nets n) (text.scan_nets n) (codes "END NETS\n")) h

-- SCANCHAINS
element_has : (k t : ℕ) → HasWords (text.element k t) (element_words k t)
element_has k t = led_words (element_words k t) (rw (unit_whole (unit_of k t)) refl)

head_has : (n k : ℕ) → HasWords (text.chain_head n k) (head_words n k)
unfolding text.chain_head
head_has n k = line_words (head_words n k) (rw (chain_whole k, partition_whole (k / 4), number_whole (max_bits n), in_port_whole k) refl)

tail_line : (k : ℕ) → Lines (text.chain_tail k) (tail_words k ∷ [])
unfolding text.chain_tail
tail_line k = led_line (tail_words k) (rw (out_port_whole k) refl)

tail_free : (k : ℕ) (z : List ℕ) → goes_on (text.chain_tail k ++ z) ≡ false
unfolding text.chain_tail
tail_free k z = refl

chain_line : (n k : ℕ) → Lines (text.chain n k) (chain_words n k ∷ [])
unfolding text.chain
chain_line n k =
    let es = pieces (text.element k) (chain_length n k) in
    let ws = flat_map (element_words k) (element_numbers n k) in
    open_line (text.chain_head n k) (es ++ text.chain_tail k) (head_words n k) (ws ++ tail_words k) (λ z. pieces_free (text.element k) (λ t z. refl) (chain_length n k) (text.chain_tail k) z (tail_free k z)) (head_has n k)
    (open_line es (text.chain_tail k) ws (tail_words k) (tail_free k) (open_pieces (text.element k) (element_words k) (element_has k) (λ t z. refl) (chain_length n k)) (tail_line k))

chains_lines : (n : ℕ) (text_behind : List ℕ) (behind : List (List (List ℕ))) → Lines text_behind behind → Lines (text.chains_text n ++ text_behind) (section (codes "SCANCHAINS") (codes "8") (map (chain_words n) chain_numbers) behind)
unfolding text.chains_text
chains_lines n text_behind behind more =
    section_lines (codes "SCANCHAINS") (codes "8") (pieces (text.chain n) 8) text_behind (map (chain_words n) chain_numbers) behind refl refl (line_pieces (text.chain n) (chain_words n) (chain_line n) 8) more

-- all of it
sections_lines : (n : ℕ) → Lines (text.components_text n ++ (text.pins_text n ++ (text.nets_text n ++ (text.chains_text n ++ codes "END DESIGN\n")))) (made_sections n)
sections_lines n = components_lines n _ _ (pins_lines n _ _ (nets_lines n _ _ (chains_lines n (codes "END DESIGN\n") (closing (codes "DESIGN") ∷ []) (one_line (closing (codes "DESIGN")) refl))))

def_lines : (n : ℕ) → Lines (text.def_text n) (made_statements n)
unfolding text.def_text
def_lines n =
    let body = text.components_text n ++ (text.pins_text n ++ (text.nets_text n ++ (text.chains_text n ++ codes "END DESIGN\n"))) in
    let version = codes "VERSION" ∷ codes "5.8" ∷ codes ";" ∷ [] in
    let divider = codes "DIVIDERCHAR" ∷ codes "\"/\"" ∷ codes ";" ∷ [] in
    let bus = codes "BUSBITCHARS" ∷ codes "\"[]\"" ∷ codes ";" ∷ [] in
    let design = codes "DESIGN" ∷ codes "top" ∷ codes ";" ∷ [] in
    let u = line_and units_words body (made_sections n) refl (sections_lines n) in
    let d = line_and design (line units_words (10 ∷ body)) (units_words ∷ made_sections n) refl u in
    let b = line_and bus (line design (10 ∷ line units_words (10 ∷ body))) (design ∷ units_words ∷ made_sections n) refl d in
    let v = line_and divider (line bus (10 ∷ line design (10 ∷ line units_words (10 ∷ body)))) (bus ∷ design ∷ units_words ∷ made_sections n) refl b in
    line_and version (line divider (10 ∷ line bus (10 ∷ line design (10 ∷ line units_words (10 ∷ body))))) (divider ∷ bus ∷ design ∷ units_words ∷ made_sections n) refl v

nothing_left : texts [] ≡ []
unfolding texts_from
nothing_left = refl

pub statements_are : StatementsLaw
statements_are n =
    ap texts (sym (append-nil (text.def_text n))) ∙ (def_lines n).goes []
    ∙ ap (λ (l : List (List ℕ)). flat (made_statements n) ++ l) nothing_left ∙ append-nil (flat (made_statements n))
