-- What of a design hangs on a part of its statements alone.
use Rattle.std.proofs.Common.{◌≡◌, ℕ, ◌≤◌, ◌^◌, ◌-◌, eqb, Bool, true, false, cond, List, [], ◌∷◌, ◌++◌, length, map, decimal, Option, Some, None, Contains, refl, sym, ap, ◌∙◌, subst, arith}
use Rattle.std.specs.Prelude.{option_map, nat_le, nat_lt}
use Rattle.std.specs.List.{find, list_all}
use Rattle.std.specs.Str.{bytes_eq}
use Rattle.std.specs.Str.Parse.{digits_value}
use Rattle.std.proofs.lemmas.Bool.Decides.{nat_tests}
use Rattle.std.proofs.lemmas.Fmt.{decimal_is_IsNumeral}
use Rattle.std.proofs.lemmas.List.{map-append}
use Rattle.std.proofs.lemmas.Bool.{and_parts}
use Rattle.base_types.specs.Names.{plain_name}
use Rattle.base_types.specs.declared.span.Span.{Span}
use Rattle.cell_table.specs.Cells.{Cells}
use Rattle.def_tokens.specs.Numbers.{is_digit, unsigned, has_minus, integer_of}
use Rattle.def_syntax.specs.Words.{is_number}
use Rattle.def_syntax.specs.declared.frame.SectionKind.{SectionKind}
use Rattle.def_syntax.specs.declared.design.Section.{Section}
use Rattle.def_syntax.specs.declared.design.Located.{Located}
use Rattle.def_syntax.specs.declared.element.Element.{Element as ElementText}
use Rattle.def_syntax.specs.declared.element.ElementList.{ElementList as ListText}
use Rattle.def_syntax.specs.declared.element.ElementList.TheVariants as list_texts
use Rattle.def_syntax.specs.declared.chain.Chain.{Chain}
use Rattle.def_syntax.specs.declared.chain.CommonPins.{CommonPins}
use Rattle.def_syntax.specs.declared.chain.Terminal.{Terminal}
use Rattle.def_syntax.specs.declared.chain.Terminal.TheVariants as terminals
use Rattle.def_reader.specs.declared.design.Component.{Component}
use Rattle.def_reader.specs.Numbers.{bits_of}
use Rattle.def_reader.specs.Designs.{cell_of, scan_paths, element_of, list_of, end_of, chain_of, is_chains, chains_span}
use Rattle.def_reader.specs.Faults.{FailsAt, StandsAgain, names_in}
use Rattle.def_edit.proofs.alike.Lists.{cut_map, first_map, also_in, map_same}

-- a name stands again in rows of the same names
pub stands_same : {K : Type 0} (rows others : List (K × ℕ)) (line : ℕ) → names_in rows ≡ names_in others → StandsAgain rows line → (n : ℕ) × StandsAgain others n
stands_same {K} rows others line e h =
    let name = λ (r : K × ℕ). r.0 in
    let cut = cut_map name (names_in h.front) (h.name ∷ names_in h.behind) others (sym e ∙ ap names_in h.is ∙ map-append name h.front ((h.name, line) ∷ h.behind)) in
    let one = first_map name h.name (names_in h.behind) cut.behind cut.second in
    let row : one.member ≡ (h.name, one.member.1) = ap (λ (k : K). (k, one.member.1)) one.first in (
      one.member.1,
      record {
        front = cut.front;
        name = h.name;
        behind = one.rest;
        is = cut.is ∙ ap (λ (l : List (K × ℕ)). cut.front ++ l) (one.is ∙ ap (λ (r : K × ℕ). r ∷ one.rest) row);
        before = subst (λ (ks : List K). Contains ks h.name) (sym cut.first) h.before;
      },
    )

-- a statement fails among statements that fail alike
pub fails_same : {X Y : Type 0} (bad : X → Bool) (other : Y → Bool) (us : List (Located X)) (ts : List (Located Y)) (line : ℕ) → map (λ r. bad r.statement) us ≡ map (λ r. other r.statement) ts → FailsAt bad us line
    → (n : ℕ) × FailsAt other ts n
fails_same bad other us ts line e h =
    let a = also_in (λ r. bad r.statement) (λ r. other r.statement) us ts h.row e h.there in
    (a.member.line, record { row = a.member; there = a.there; fails = a.same ∙ h.fails; is = refl })

-- components by what a chain looks at
abbrev pub name_and_cell : Component → List ℕ × List ℕ
name_and_cell c = (c.name, c.cell)

pub same_cell : (cs ds : List Component) → map name_and_cell cs ≡ map name_and_cell ds → (name : List ℕ) → cell_of cs name ≡ cell_of ds name
same_cell [] [] e name = refl
same_cell [] (d ∷ ds) e name = absurd cc
same_cell (c ∷ cs) [] e name = absurd cc
same_cell (c ∷ cs) (d ∷ ds) e name =
    let head : name_and_cell c ≡ name_and_cell d = cc in
    let tail : map name_and_cell cs ≡ map name_and_cell ds = cc in
    let names : c.name ≡ d.name = ap (λ (p : List ℕ × List ℕ). p.0) head in
    let cells : c.cell ≡ d.cell = ap (λ (p : List ℕ × List ℕ). p.1) head in
    of (bytes_eq c.name name) cells (same_cell cs ds tail name) ∙ ap (λ (b : Bool). option_map (λ x. x.cell) (cond b (Some d) (find (λ x. bytes_eq x.name name) ds))) (ap (λ (n : List ℕ). bytes_eq n name) names)
  where
    of : (b : Bool) → c.cell ≡ d.cell → cell_of cs name ≡ cell_of ds name
        → option_map (λ x. x.cell) (cond b (Some c) (find (λ x. bytes_eq x.name name) cs)) ≡ option_map (λ x. x.cell) (cond b (Some d) (find (λ x. bytes_eq x.name name) ds))
    of true e r = ap Some e
    of false e r = r

abbrev argument_type : {A B : Type 0} → (A → B) → Type 0
argument_type {A} f = A

abbrev Side : Type 0
Side = argument_type end_of

-- a chain beside other components of the same cells
module _ (cells : Cells) (cs ds : List Component) (same : (name : List ℕ) → cell_of cs name ≡ cell_of ds name) where
  paths_same : (name : List ℕ) → scan_paths cells cs name ≡ scan_paths cells ds name
  paths_same name = rw (same name) refl

  element_same : (common : Option CommonPins) (e : ElementText) → element_of cells cs common e ≡ element_of cells ds common e
  element_same common e = rw (paths_same (plain_name e.name)) refl

  list_same : (common : Option CommonPins) (l : ListText) → list_of cells cs common l ≡ list_of cells ds common l
  list_same common (list_texts.Floating es) = rw (map_same (element_of cells cs common) (element_of cells ds common) es (element_same common)) refl
  list_same common (list_texts.Ordered es) = rw (map_same (element_of cells cs common) (element_of cells ds common) es (element_same common)) refl

  end_same : (side : Side) (common : Option CommonPins) (t : Terminal) → end_of side cells cs common t ≡ end_of side cells ds common t
  end_same side common (terminals.AtPin pin) = refl
  end_same side common (terminals.AtCell component pin) = rw (paths_same (plain_name component)) refl

  pub chain_same : (c : Located Chain) → chain_of cells cs c ≡ chain_of cells ds c
  chain_same c =
      let common = c.statement.common_pins in
      let a = map_same (list_of cells cs common) (list_of cells ds common) c.statement.lists (list_same common) in
      rw (end_same _ common c.statement.start, end_same _ common c.statement.stop, a) refl

-- whether SCANCHAINS stands hangs on the kinds of the sections
pub span_same : (nowhere : Span) (us ts : List Section) → map (λ s. s.kind) us ≡ map (λ s. s.kind) ts → option_map (λ s. nowhere) (chains_span us) ≡ option_map (λ s. nowhere) (chains_span ts)
span_same nowhere [] [] e = refl
span_same nowhere [] (t ∷ ts) e = absurd cc
span_same nowhere (u ∷ us) [] e = absurd cc
span_same nowhere (u ∷ us) (t ∷ ts) e =
    let head : u.kind ≡ t.kind = cc in
    let tail : map (λ s. s.kind) us ≡ map (λ s. s.kind) ts = cc in
    of (is_chains u.kind) (span_same nowhere us ts tail)
    ∙ ap (λ (k : SectionKind). option_map (λ s. nowhere) (option_map (λ s. s.span) (cond (is_chains k) (Some t) (find (λ s. is_chains s.kind) ts)))) head
  where
    of : (b : Bool) → option_map (λ s. nowhere) (chains_span us) ≡ option_map (λ s. nowhere) (chains_span ts)
        → option_map (λ s. nowhere) (option_map (λ s. s.span) (cond b (Some u) (find (λ s. is_chains s.kind) us))) ≡ option_map (λ s. nowhere) (option_map (λ s. s.span) (cond b (Some t) (find (λ s. is_chains s.kind) ts)))
    of true r = refl
    of false r = r

-- a number of bits that is written in digits
no_sign : (ds : List ℕ) → list_all is_digit ds ≡ true → (has_minus ds ≡ false) × (unsigned ds ≡ ds)
no_sign [] all = (refl, refl)
no_sign (c ∷ cs) all =
    let d = (and_parts (is_digit c) (list_all is_digit cs) all).0 in
    let minus : eqb c 45 ≡ false = grind (arith, nat_tests) in
    let plus : eqb c 43 ≡ false = grind (arith, nat_tests) in
    (minus, rw (minus, plus) refl)

pub few_bits : (n : ℕ) → is_number (decimal n) ≡ true → n ≤ 262144 → bits_of (decimal n) ≡ Some n
unfolding integer_of
few_bits n number few =
    let h = and_parts (list_all is_digit (decimal n)) (nat_lt 0 (length (decimal n))) number in
    let sign = no_sign (decimal n) h.0 in
    let value : digits_value 10 (decimal n) ≡ n = (decimal_is_IsNumeral n (omega arith)).1 in
    let most : nat_le n (2 ^ 63 - 1) ≡ true = grind (arith, nat_tests) in
    let least : nat_le 0 n ≡ true = grind (arith, nat_tests) in
    let top : nat_le n 262144 ≡ true = grind (arith, nat_tests) in
    rw (sign.1, sign.0, h.0, h.1, value, most, least, top) refl
