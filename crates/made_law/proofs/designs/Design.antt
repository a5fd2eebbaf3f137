-- The statements of the made DEF as a design text.
use Rattle.std.proofs.Common.{◌≡◌, ℕ, ◌+◌, ◌≤◌, true, false, List, [], ◌∷◌, ◌++◌, map, drop, Some, None, refl, sym, ap, ◌∙◌, subst, append_assoc, append-nil, codes, decimal}
use Rattle.def_syntax.specs.declared.design.Located.{Located}
use Rattle.std.specs.List.{flat_map, AllByRecursion as Each}
use Rattle.std.specs.Str.{bytes_eq}
use Rattle.base_types.specs.declared.span.Span.{Span}
use Rattle.token_forms.specs.Tokens.{Token}
use Rattle.token_forms.specs.Parts.{token_texts}
use Rattle.token_forms.specs.Parsing.{word_at}
use Rattle.token_forms.specs.Forms.{text_at}
use Rattle.token_forms.specs.Classes.{is_in_any}
use Rattle.def_tokens.specs.DefTokens.{def_tokens, tokens_in}
use Rattle.def_syntax.specs.Grammar.{units, component, design_pin, net, chain}
use Rattle.def_syntax.specs.Frames.{section_named, opened_by, is_end, Block, Outside, Section, IsBlock, statements_in, outside}
use Rattle.def_syntax.specs.Designs.{statements_of, NoneCloses, IsBody, HasNoForm, IsOnly, BeginsWell, section_in, IsDesignText}
use Rattle.def_syntax.specs.declared.frame.SectionKind.TheVariants.{Components, Pins, Nets, ScanChains}
use Rattle.def_syntax.specs.declared.units.Units.{Units}
use Rattle.def_syntax.specs.declared.design.DesignText.{DesignText}
use Rattle.def_syntax.proofs.Lawful.{units_statement}
use Rattle.def_syntax.proofs.FrameLaws.{each_append}
use Rattle.def_layout.specs.NetForms.{AreIn}
use Rattle.def_layout.proofs.NetTexts.{texts_are}
use Rattle.def_layout.proofs.NetLaw.{tokens_are_in}
use Rattle.design_maker.specs.MadeDef.{def_text}
use Rattle.made_law.specs.Designs.MadeComponents as components
use Rattle.made_law.specs.Designs.MadePins as pins
use Rattle.made_law.specs.Designs.MadeNets as nets
use Rattle.made_law.specs.Designs.MadeChains as chains
use Rattle.made_law.specs.Designs.MadeStatements.{closing, section, made_sections, units_words, made_statements}
use Rattle.made_law.proofs.designs.ByPlace.{tokens_by, place_in, tokens_of_words}
use Rattle.made_law.proofs.designs.SectionLines.{statements_are}
use Rattle.made_law.proofs.designs.Statements.{Shut, shut_before, shut_end, shut_opening, shut_component, shut_chain, each_map, each_section, number_open, Cuts, cuts}
use Rattle.made_law.proofs.designs.Rows.{at_statement, located_nil}
use Rattle.made_law.proofs.designs.Frames.{FirstWords, first_words, SectionCut, section_cut, no_end_of, end_of, opened_of, head_of, none_ends, block_of, none_closes, InsideOf, inside_of}
use Rattle.made_law.proofs.designs.Components.{Any, ComponentRows, component_rows}
use Rattle.made_law.proofs.designs.Pins.{GoodPin, PinRows, pins_are, shut_pins}
use Rattle.made_law.proofs.designs.Nets.{GoodNet, some_net, is_right, NetRows, nets_are, shut_nets}
use Rattle.made_law.proofs.designs.Chains.{chain_beside, IsEight, ChainRows, chains_are}
use Rattle.def_reader.specs.Designs.{component_of, pin_of, net_of}
use Rattle.def_reader.specs.Faults.{has_far_component, has_far_pin, has_many_bits}

-- the sections behind one
abbrev pub behind_nets : ℕ → List (List (List ℕ))
behind_nets n = section (codes "SCANCHAINS") (codes "8") (map (chains.chain_words n) chains.chain_numbers) (closing (codes "DESIGN") ∷ [])

abbrev pub behind_pins : ℕ → List (List (List ℕ))
behind_pins n = section (codes "NETS") (decimal (11 + n)) (map nets.net_words (nets.net_rows n)) (behind_nets n)

abbrev pub behind_components : ℕ → List (List (List ℕ))
behind_components n = section (codes "PINS") (codes "19") (map pins.pin_words (pins.pin_rows n)) (behind_pins n)

-- each statement ends by itself
shut_sections : (n : ℕ) → Each Shut (made_sections n)
shut_sections n =
    let open_chains = shut_opening (codes "SCANCHAINS") (codes "8") refl refl refl refl in
    let open_nets = shut_opening (codes "NETS") (decimal (11 + n)) (rw (number_open (11 + n)) refl) refl refl refl in
    let open_pins = shut_opening (codes "PINS") (codes "19") refl refl refl refl in
    let open_components = shut_opening (codes "COMPONENTS") (decimal n) (rw (number_open n) refl) refl refl refl in
    let end : Each Shut (closing (codes "DESIGN") ∷ []) = (shut_end (codes "DESIGN"), tt) in
    let h = each_section (codes "SCANCHAINS") (codes "8") (map (chains.chain_words n) chains.chain_numbers) (closing (codes "DESIGN") ∷ []) open_chains (each_map Shut (chains.chain_words n) (shut_chain n) chains.chain_numbers) end in
    let m = each_section (codes "NETS") (decimal (11 + n)) (map nets.net_words (nets.net_rows n)) (behind_nets n) open_nets (shut_nets n) h in
    let p = each_section (codes "PINS") (codes "19") (map pins.pin_words (pins.pin_rows n)) (behind_pins n) open_pins (shut_pins n) m in
    each_section (codes "COMPONENTS") (decimal n) (map components.component_words (components.units n)) (behind_components n) open_components (each_map Shut components.component_words shut_component (components.units n)) p

all_shut : (n : ℕ) → Each Shut (made_statements n)
all_shut n = (
  shut_before (codes "VERSION") (codes "5.8" ∷ []) refl refl refl refl,
  (
    shut_before (codes "DIVIDERCHAR") (codes "\"/\"" ∷ []) refl refl refl refl,
    (
      shut_before (codes "BUSBITCHARS") (codes "\"[]\"" ∷ []) refl refl refl refl,
      (
        shut_before (codes "DESIGN") (codes "top" ∷ []) refl refl refl refl,
        (shut_before (codes "UNITS") (codes "DISTANCE" ∷ codes "MICRONS" ∷ codes "1000" ∷ []) refl refl refl refl, shut_sections n),
      ),
    ),
  ),
)

pub def_cuts : (n : ℕ) → Cuts (def_text n) (tokens_in (def_text n)) (made_statements n)
def_cuts n = cuts (def_text n) (tokens_in (def_text n)) (made_statements n) (all_shut n) (tokens_are_in (def_text n) (def_tokens (def_text n))) (sym (texts_are (def_text n)) ∙ statements_are n)

-- UNITS, and statements that aren't
units_read : (place : ℕ → Span) → units.reads (tokens_by place 0 units_words) ≡ Some (record { number = codes "1000" }, [])
unfolding units word_at text_at
units_read place = refl

units_spelled : (s : List Token) → token_texts s ≡ units_words → units.spells (record { number = codes "1000" }) s
units_spelled s e =
    let value : Units = record { number = codes "1000" } in
    let read : units.reads s ≡ Some (value, []) = ap units.reads (tokens_of_words s units_words e) ∙ units_read (place_in s) in
    let h = units_statement.lawful.spelled s value [] read in
    subst (units.spells value) (sym (h.is ∙ append-nil h.front)) h.holds

no_units : (w : List ℕ) (ws : List (List ℕ)) (s : List Token) → token_texts s ≡ w ∷ ws → bytes_eq w (codes "UNITS") ≡ false → HasNoForm units s
unfolding units
no_units w ws [] e differs x h = absurd cc
no_units w ws (t ∷ s) e differs x h =
    let here : t.text ≡ w = cc in
    let starts : is_in_any units.starts t.text ≡ true = units_statement.lawful.first x t s h in
    let none : is_in_any units.starts t.text ≡ false = rw (here, differs) refl in
    let both : true ≡ false = sym starts ∙ none in
    absurd cc

opens_none : (w : List ℕ) (ws : List (List ℕ)) (s : List Token) → token_texts s ≡ w ∷ ws → section_named w ≡ None → opened_by s ≡ None
opens_none w ws s e named = opened_of w ws s e ∙ named

-- the statements of a text by their words, section by section
abbrev pub version_words : List (List ℕ)
version_words = codes "VERSION" ∷ codes "5.8" ∷ codes ";" ∷ []

abbrev pub divider_words : List (List ℕ)
divider_words = codes "DIVIDERCHAR" ∷ codes "\"/\"" ∷ codes ";" ∷ []

abbrev pub bus_words : List (List ℕ)
bus_words = codes "BUSBITCHARS" ∷ codes "\"[]\"" ∷ codes ";" ∷ []

abbrev pub design_words : List (List ℕ)
design_words = codes "DESIGN" ∷ codes "top" ∷ codes ";" ∷ []

pub record Whole (n : ℕ) (ss : List (List Token)) : Type 0 where
  pub version : FirstWords version_words (divider_words ∷ bus_words ∷ design_words ∷ units_words ∷ made_sections n) ss
  pub divider : FirstWords divider_words (bus_words ∷ design_words ∷ units_words ∷ made_sections n) version.behind
  pub bus : FirstWords bus_words (design_words ∷ units_words ∷ made_sections n) divider.behind
  pub design : FirstWords design_words (units_words ∷ made_sections n) bus.behind
  pub unit : FirstWords units_words (made_sections n) design.behind
  pub c : SectionCut (codes "COMPONENTS") (decimal n) (map components.component_words (components.units n)) (behind_components n) unit.behind
  pub p : SectionCut (codes "PINS") (codes "19") (map pins.pin_words (pins.pin_rows n)) (behind_pins n) c.rest
  pub m : SectionCut (codes "NETS") (decimal (11 + n)) (map nets.net_words (nets.net_rows n)) (behind_nets n) p.rest
  pub h : SectionCut (codes "SCANCHAINS") (codes "8") (map (chains.chain_words n) chains.chain_numbers) (closing (codes "DESIGN") ∷ []) m.rest
  pub end : FirstWords (closing (codes "DESIGN")) [] h.rest
  pub alone : end.behind ≡ []

no_more : (ss : List (List Token)) → map token_texts ss ≡ [] → ss ≡ []
no_more [] e = refl
no_more (s ∷ ss) e = absurd cc

whole_of : (n : ℕ) (ss : List (List Token)) → map token_texts ss ≡ made_statements n → Whole n ss
whole_of n ss e =
    let version = first_words _ _ ss e in
    let divider = first_words _ _ version.behind version.second in
    let bus = first_words _ _ divider.behind divider.second in
    let design = first_words _ _ bus.behind bus.second in
    let unit = first_words _ _ design.behind design.second in
    let c = section_cut (codes "COMPONENTS") (decimal n) (map components.component_words (components.units n)) (behind_components n) unit.behind unit.second in
    let p = section_cut (codes "PINS") (codes "19") (map pins.pin_words (pins.pin_rows n)) (behind_pins n) c.rest c.rest_is in
    let m = section_cut (codes "NETS") (decimal (11 + n)) (map nets.net_words (nets.net_rows n)) (behind_nets n) p.rest p.rest_is in
    let h = section_cut (codes "SCANCHAINS") (codes "8") (map (chains.chain_words n) chains.chain_numbers) (closing (codes "DESIGN") ∷ []) m.rest m.rest_is in
    let end = first_words (closing (codes "DESIGN")) [] h.rest h.rest_is in
    record { version = version; divider = divider; bus = bus; design = design; unit = unit; c = c; p = p; m = m; h = h; end = end; alone = no_more end.behind end.second }

joined : {X : Type 0} (a b c d e : List X) → a ++ (b ++ (c ++ (d ++ e))) ≡ ((a ++ (b ++ (c ++ (d ++ [])))) ++ []) ++ e
joined a b c d e = simp (append_assoc, append-nil) refl

module _ (n : ℕ) (some : 8 ≤ n) (most : n ≤ 16384) (text : List ℕ) (ss : List (List Token)) (cut : statements_of text ≡ ss) (words : map token_texts ss ≡ made_statements n) (inside : Each (AreIn text) ss) where
  pub w : Whole n ss
  w = whole_of n ss words

  abbrev pub statements_c : List (List Token)
  statements_c = w.c.first ∷ (w.c.within ++ w.c.last ∷ [])

  abbrev pub statements_p : List (List Token)
  statements_p = w.p.first ∷ (w.p.within ++ w.p.last ∷ [])

  abbrev pub statements_m : List (List Token)
  statements_m = w.m.first ∷ (w.m.within ++ w.m.last ∷ [])

  abbrev pub statements_h : List (List Token)
  statements_h = w.h.first ∷ (w.h.within ++ w.h.last ∷ [])

  abbrev pub blocks : List Block
  blocks =
      Outside w.version.statement ∷ Outside w.divider.statement ∷ Outside w.bus.statement ∷ Outside w.design.statement ∷ Outside w.unit.statement
      ∷ Section Components w.c.first w.c.within w.c.last ∷ Section Pins w.p.first w.p.within w.p.last ∷ Section Nets w.m.first w.m.within w.m.last ∷ Section ScanChains w.h.first w.h.within w.h.last ∷ []

  abbrev pub body : List (List Token)
  body = flat_map statements_in blocks ++ []

  sections_are : w.unit.behind ≡ statements_c ++ (statements_p ++ (statements_m ++ (statements_h ++ w.end.statement ∷ [])))
  sections_are =
      w.c.is ∙ ap (λ (l : List (List Token)). statements_c ++ l)
      (w.p.is ∙ ap (λ (l : List (List Token)). statements_p ++ l)
      (w.m.is ∙ ap (λ (l : List (List Token)). statements_m ++ l)
      (w.h.is ∙ ap (λ (l : List (List Token)). statements_h ++ l) (w.end.is ∙ ap (λ (l : List (List Token)). w.end.statement ∷ l) w.alone))))

  statements_whole : ss ≡ w.version.statement ∷ w.divider.statement ∷ w.bus.statement ∷ w.design.statement ∷ w.unit.statement ∷ w.unit.behind
  statements_whole =
      w.version.is ∙ ap (λ (l : List (List Token)). w.version.statement ∷ l)
      (w.divider.is ∙ ap (λ (l : List (List Token)). w.divider.statement ∷ l)
      (w.bus.is ∙ ap (λ (l : List (List Token)). w.bus.statement ∷ l)
      (w.design.is ∙ ap (λ (l : List (List Token)). w.design.statement ∷ l) w.unit.is)))

  body_is : statements_of text ≡ body ++ w.end.statement ∷ []
  body_is =
      cut ∙ statements_whole
      ∙ ap (λ (l : List (List Token)). w.version.statement ∷ w.divider.statement ∷ w.bus.statement ∷ w.design.statement ∷ w.unit.statement ∷ l)
      (sections_are ∙ joined statements_c statements_p statements_m statements_h (w.end.statement ∷ []))

  -- what stands in each section
  components_end : (word : List ℕ) → Each (λ s. is_end word s ≡ false) w.c.within
  components_end word = none_ends components.component_words (λ i. drop 1 (components.component_words i)) (λ i. refl) word (components.units n) w.c.within w.c.inner_is

  pins_end : (word : List ℕ) → Each (λ s. is_end word s ≡ false) w.p.within
  pins_end word = none_ends pins.pin_words (λ r. drop 1 (pins.pin_words r)) (λ r. refl) word (pins.pin_rows n) w.p.within w.p.inner_is

  nets_end : (word : List ℕ) → Each (λ s. is_end word s ≡ false) w.m.within
  nets_end word = none_ends nets.net_words (λ r. drop 1 (nets.net_words r)) (λ r. refl) word (nets.net_rows n) w.m.within w.m.inner_is

  chains_end : (word : List ℕ) → Each (λ s. is_end word s ≡ false) w.h.within
  chains_end word = none_ends (chains.chain_words n) (λ k. drop 1 (chains.chain_words n k)) (λ k. refl) word chains.chain_numbers w.h.within w.h.inner_is

  are_blocks : Each IsBlock blocks
  unfolding section_named
  are_blocks = (
    opens_none (codes "VERSION") _ w.version.statement w.version.first refl,
    (
      opens_none (codes "DIVIDERCHAR") _ w.divider.statement w.divider.first refl,
      (
        opens_none (codes "BUSBITCHARS") _ w.bus.statement w.bus.first refl,
        (
          opens_none (codes "DESIGN") _ w.design.statement w.design.first refl,
          (
            opens_none (codes "UNITS") _ w.unit.statement w.unit.first refl,
            (
              block_of Components (decimal n) _ _ w.unit.behind w.c refl (components_end (codes "COMPONENTS")),
              (
                block_of Pins (codes "19") _ _ w.c.rest w.p refl (pins_end (codes "PINS")),
                (block_of Nets (decimal (11 + n)) _ _ w.p.rest w.m refl (nets_end (codes "NETS")), (block_of ScanChains (codes "8") _ _ w.m.rest w.h refl (chains_end (codes "SCANCHAINS")), tt)),
              ),
            ),
          ),
        ),
      ),
    ),
  )

  abbrev NoDesign : List Token → Type 0
  NoDesign s = is_end (codes "DESIGN") s ≡ false

  none_end : NoneCloses body
  none_end =
      let c = none_closes (codes "COMPONENTS") (decimal n) _ _ w.unit.behind w.c refl refl (components_end (codes "DESIGN")) in
      let p = none_closes (codes "PINS") (codes "19") _ _ w.c.rest w.p refl refl (pins_end (codes "DESIGN")) in
      let m = none_closes (codes "NETS") (decimal (11 + n)) _ _ w.p.rest w.m refl refl (nets_end (codes "DESIGN")) in
      let h = none_closes (codes "SCANCHAINS") (codes "8") _ _ w.m.rest w.h refl refl (chains_end (codes "DESIGN")) in
      each_append NoDesign (flat_map statements_in blocks) [] (
        no_end_of (codes "DESIGN") (codes "VERSION") _ w.version.statement w.version.first refl,
        (
          no_end_of (codes "DESIGN") (codes "DIVIDERCHAR") _ w.divider.statement w.divider.first refl,
          (
            no_end_of (codes "DESIGN") (codes "BUSBITCHARS") _ w.bus.statement w.bus.first refl,
            (
              no_end_of (codes "DESIGN") (codes "DESIGN") _ w.design.statement w.design.first refl,
              (
                no_end_of (codes "DESIGN") (codes "UNITS") _ w.unit.statement w.unit.first refl,
                each_append NoDesign statements_c (statements_p ++ (statements_m ++ (statements_h ++ []))) c
                    (each_append NoDesign statements_p (statements_m ++ (statements_h ++ [])) p
                    (each_append NoDesign statements_m (statements_h ++ []) m (each_append NoDesign statements_h [] h tt))),
              ),
            ),
          ),
        ),
      ) tt

  closed : IsBody text body
  closed = record { end = w.end.statement; behind = []; is = body_is; ends = end_of (codes "DESIGN") w.end.statement w.end.first; first = none_end }

  heads : Each BeginsWell blocks
  heads = (
    tt,
    (
      tt,
      (
        tt,
        (
          tt,
          (
            tt,
            (
              head_of (codes "COMPONENTS") (decimal n) w.c.first w.c.opens,
              (
                head_of (codes "PINS") (codes "19") w.p.first w.p.opens,
                (head_of (codes "NETS") (decimal (11 + n)) w.m.first w.m.opens, (head_of (codes "SCANCHAINS") (codes "8") w.h.first w.h.opens, tt)),
              ),
            ),
          ),
        ),
      ),
    ),
  )

  -- where the statements stand
  inside_sections : Each (AreIn text) w.unit.behind
  inside_sections = (subst (Each (AreIn text)) statements_whole inside).1.1.1.1.1

  inside_c : InsideOf text w.c.within w.c.rest
  inside_c = inside_of text w.c.first w.c.last w.c.within w.c.rest (subst (Each (AreIn text)) w.c.is inside_sections)

  inside_p : InsideOf text w.p.within w.p.rest
  inside_p = inside_of text w.p.first w.p.last w.p.within w.p.rest (subst (Each (AreIn text)) w.p.is inside_c.behind)

  inside_m : InsideOf text w.m.within w.m.rest
  inside_m = inside_of text w.m.first w.m.last w.m.within w.m.rest (subst (Each (AreIn text)) w.m.is inside_p.behind)

  inside_h : InsideOf text w.h.within w.h.rest
  inside_h = inside_of text w.h.first w.h.last w.h.within w.h.rest (subst (Each (AreIn text)) w.h.is inside_m.behind)

  pub c_rows : ComponentRows text n w.c.within
  c_rows = component_rows text n w.c.within inside_c.inner w.c.inner_is

  pub p_rows : PinRows text n w.p.within
  p_rows = pins_are text n w.p.within inside_p.inner w.p.inner_is

  pub m_rows : NetRows text n w.m.within
  m_rows = nets_are text n w.m.within inside_m.inner w.m.inner_is

  pub h_rows : ChainRows text n w.h.within
  h_rows = chains_are n some most text w.h.within inside_h.inner w.h.inner_is

  abbrev pub statements : DesignText
  statements =
      record {
        units = at_statement text w.unit.statement (record { number = codes "1000" });
        components = c_rows.rows;
        pins = p_rows.rows;
        nets = m_rows.rows;
        chains = h_rows.rows;
        sections = flat_map (section_in text) blocks;
      }

  -- UNITS alone is of its form outside sections
  abbrev located_units : Located Units
  located_units = at_statement text w.unit.statement (record { number = codes "1000" })

  only_units : IsOnly units text (outside blocks) located_units
  only_units = record {
    front = w.version.statement ∷ w.divider.statement ∷ w.bus.statement ∷ w.design.statement ∷ [];
    statement = w.unit.statement;
    behind = [];
    is = refl;
    located = record { spelled = units_spelled w.unit.statement w.unit.first; span = refl; line = refl };
    others = (
      no_units (codes "VERSION") _ w.version.statement w.version.first refl,
      (
        no_units (codes "DIVIDERCHAR") _ w.divider.statement w.divider.first refl,
        (no_units (codes "BUSBITCHARS") _ w.bus.statement w.bus.first refl, (no_units (codes "DESIGN") _ w.design.statement w.design.first refl, tt)),
      ),
    );
  }

  pub is_design : IsDesignText text statements
  is_design = record {
    body = body;
    closed = closed;
    blocks = blocks;
    framed = record { blocks = are_blocks; begun = tt; is = refl };
    heads = heads;
    units = only_units;
    components = located_nil component text components.component_words (λ c. component_of) components.made_component has_far_component Any (components.units n) w.c.within c_rows;
    pins = located_nil design_pin text pins.pin_words (λ c. pin_of) pins.made_pin has_far_pin GoodPin (pins.pin_rows n) w.p.within p_rows;
    nets = located_nil net text nets.net_words (λ c. net_of text) some_net is_right GoodNet (nets.net_rows n) w.m.within m_rows;
    chains = located_nil chain text (chains.chain_words n) chain_beside (chains.made_chain n) has_many_bits IsEight chains.chain_numbers w.h.within h_rows;
    sections = refl;
  }
