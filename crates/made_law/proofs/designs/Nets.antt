-- The nets of the made DEF.
use Rattle.std.proofs.Common.{◌≡◌, ℕ, ◌+◌, ◌-◌, ◌%◌, Bool, true, false, List, [], ◌∷◌, ◌++◌, map, Option, Some, refl, sym, ap, ◌∙◌, subst, append-nil, codes, suc}
use Rattle.std.specs.List.{flat_map, list_all, filter_map, cons_option, range_with_len, AllByRecursion as Each}
use Rattle.std.proofs.lemmas.Bool.{and_from}
use Rattle.base_types.specs.Names.{plain_name}
use Rattle.base_types.specs.Lines.{line_at}
use Rattle.token_forms.specs.Tokens.{Token, place_of}
use Rattle.token_forms.specs.Parts.{token_texts}
use Rattle.token_forms.specs.Classes.{But, is_in}
use Rattle.def_syntax.specs.Words.{marks}
use Rattle.def_syntax.specs.Frames.{start_of}
use Rattle.def_syntax.specs.Grammar.{net}
use Rattle.def_syntax.specs.declared.net.Connection.{Connection}
use Rattle.def_syntax.specs.declared.net.NetStatement.{NetStatement}
use Rattle.def_syntax.specs.declared.net.NetStatement.TheVariants as statements
use Rattle.def_syntax.proofs.FrameLaws.{each_append}
use Rattle.def_layout.specs.declared.net.ConnectionLayout.{ConnectionLayout}
use Rattle.def_layout.specs.Nets as layout
use Rattle.def_layout.specs.NetForms.{AreIn, IsNet}
use Rattle.def_layout.proofs.Closing.{are_free}
use Rattle.def_layout.proofs.NetThere.{is_good}
use Rattle.def_layout.proofs.NetBack.{options_back, net_back}
use Rattle.def_layout.proofs.NetWritten.{free_net_name, free_words}
use Rattle.def_reader.specs.Designs.{net_pin_of, net_pins_of, net_of}
use Rattle.def_reader.specs.declared.design.NetPin.{NetPin}
use Rattle.def_reader.specs.declared.design.NetPin.TheVariants.{Cell, Port}
use Rattle.def_reader.specs.declared.design.Net.{Net}
use Rattle.made_law.specs.Designs.Names.{unit}
use Rattle.made_law.specs.Designs.Places.{Place, placed}
use Rattle.made_law.specs.Designs.MadeNets.{NetRow, wide_net, in_net, inner_net, out_net, net_rows, connection_words, net_words, made_net}
use Rattle.made_law.proofs.designs.Numbers.{plain_unit, plain_unit_net, plain_in_port, plain_out_port}
use Rattle.made_law.proofs.designs.Statements.{Shut, shut_before, each_map, each_of}
use Rattle.made_law.proofs.designs.Rows.{Row, Rows, rows_of}

-- a connection as it is laid out
abbrev pub laid_out : NetPin → ConnectionLayout
laid_out (Cell component pin) = record { component = component; pin = pin; synthesized = false }
laid_out (Port port) = record { component = codes "PIN"; pin = port; synthesized = false }

-- names that are no marks, and that are read as they are
pub record GoodConnection (p : NetPin) : Type 0 where
  pub good : is_good (laid_out p) ≡ true
  pub same : net_pin_of (laid_out p).component (laid_out p).pin ≡ Some p

pub record GoodNet (r : NetRow) : Type 0 where
  pub named : is_in (But (codes "MUSTJOIN" ∷ marks)) r.name ≡ true
  pub plain : plain_name r.name ≡ r.name
  pub pins : Each GoodConnection r.pins

laid_words : (ps : List NetPin) → flat_map layout.connection_words (map laid_out ps) ≡ flat_map connection_words ps
laid_words [] = refl
laid_words (Cell component pin ∷ ps) = ap (λ (l : List (List ℕ)). (codes "(" ∷ component ∷ pin ∷ codes ")" ∷ []) ++ l) (laid_words ps)
laid_words (Port port ∷ ps) = ap (λ (l : List (List ℕ)). (codes "(" ∷ codes "PIN" ∷ port ∷ codes ")" ∷ []) ++ l) (laid_words ps)

all_good : (ps : List NetPin) → Each GoodConnection ps → list_all is_good (map laid_out ps) ≡ true
all_good [] h = refl
all_good (p ∷ ps) h = and_from (is_good (laid_out p)) (list_all is_good (map laid_out ps)) h.0.good (all_good ps h.1)

-- what a layout connects
abbrev pub connects : ConnectionLayout → Option NetPin
connects c = net_pin_of c.component c.pin

pins_back : (ps : List NetPin) → Each GoodConnection ps → filter_map connects (map laid_out ps) ≡ ps
pins_back [] h = refl
pins_back (p ∷ ps) h = ap (λ (o : Option NetPin). cons_option o (filter_map connects (map laid_out ps))) h.0.same ∙ ap (λ (l : List NetPin). p ∷ l) (pins_back ps h.1)

in_words : (text : List ℕ) (cs : List Connection) → net_pins_of text cs ≡ filter_map connects (map (layout.connection_in text) cs)
in_words text [] = refl
in_words text (c ∷ cs) = ap (λ (l : List NetPin). cons_option (connects (layout.connection_in text c)) l) (in_words text cs)

free_row : (r : NetRow) → GoodNet r → are_free (flat_map connection_words r.pins) ≡ true
free_row r good = subst (λ (l : List (List ℕ)). are_free l ≡ true) (laid_words r.pins) (free_words (map laid_out r.pins) (all_good r.pins good.pins))

shut_net : (r : NetRow) → GoodNet r → Shut (net_words r)
shut_net r good = shut_before (codes "-") (r.name ∷ flat_map connection_words r.pins) (rw (free_net_name r.name good.named) (free_row r good)) refl refl refl

net_here : (text : List ℕ) (r : NetRow) (s : List Token) → GoodNet r → AreIn text s → token_texts s ≡ net_words r → IsNet r.name (map laid_out r.pins) text s
net_here text r s good inside e =
    let cs = map laid_out r.pins in
    let free : are_free (r.name ∷ (flat_map layout.connection_words cs ++ [])) ≡ true =
    rw (free_net_name r.name good.named) (ap (λ (l : List (List ℕ)). are_free l) (append-nil (flat_map layout.connection_words cs) ∙ laid_words r.pins) ∙ free_row r good)
    in
    net_back text r.name cs [] s inside good.named (all_good r.pins good.pins) (options_back [] refl) free
    (e ∙ ap (λ (l : List (List ℕ)). codes "-" ∷ r.name ∷ (l ++ codes ";" ∷ [])) (sym (laid_words r.pins)))

-- a statement of NETS may be none
abbrev pub some_net : Place → NetRow → Option Net
some_net at r = Some (made_net at r)

abbrev pub is_right : NetStatement → Bool
is_right s = false

abbrev pub NetRows : List ℕ → ℕ → List (List Token) → Type 0
NetRows text n ss = Rows {C = Unit {0}} net text net_words (λ c. net_of text) some_net is_right GoodNet (net_rows n) ss

net_row : (text : List ℕ) (r : NetRow) (s : List Token) → GoodNet r → AreIn text s → token_texts s ≡ net_words r → Row {C = Unit {0}} net text net_words (λ c. net_of text) some_net is_right GoodNet r s
net_row text r s good inside e =
    let b = net_here text r s good inside e in
    let name : plain_name b.value.name ≡ r.name = ap plain_name b.named ∙ good.plain in
    let pins : net_pins_of text b.value.connections ≡ r.pins = in_words text b.value.connections ∙ ap (λ (l : List ConnectionLayout). filter_map connects l) b.connections ∙ pins_back r.pins good.pins in
    record {
      value = statements.Net b.value;
      spelled = b.spelled;
      place = record { line = line_at text (start_of s); span = place_of s };
      is = λ c. rw (name, pins) refl;
      fits = refl;
    }

-- of statements that are all nets
pub all_some : {X Y Z : Type 0} (f : X → Option Y) (make : Place → Z → Y) (rows : List X) (at : ℕ → Place) (xs : List Z) → map f rows ≡ placed (λ p x. Some (make p x)) at xs → filter_map f rows ≡ placed make at xs
all_some f make [] at [] e = refl
all_some f make [] at (x ∷ xs) e = absurd cc
all_some f make (r ∷ rows) at [] e = absurd cc
all_some {Y = Y} f make (r ∷ rows) at (x ∷ xs) e =
    let here : f r ≡ Some (make (at 0) x) = cc in
    let tail : map f rows ≡ placed (λ p x. Some (make p x)) (λ k. at (suc k)) xs = cc in
    ap (λ (o : Option Y). cons_option o (filter_map f rows)) here ∙ ap (λ (l : List Y). make (at 0) x ∷ l) (all_some f make rows (λ k. at (suc k)) xs tail)

good_cell : (i : ℕ) (pin : List ℕ) → is_in (But marks) pin ≡ true → plain_name pin ≡ pin → GoodConnection (Cell (unit i) pin)
good_cell i pin a b = record { good = a; same = rw (plain_unit i, b) refl }

good_wide : (port pin : List ℕ) (n : ℕ) → is_in (But (codes "MUSTJOIN" ∷ marks)) port ≡ true → plain_name port ≡ port → GoodConnection (Port port) → is_in (But marks) pin ≡ true → plain_name pin ≡ pin → GoodNet (wide_net port pin n)
good_wide port pin n a b c d e = record { named = a; plain = b; pins = (c, each_map GoodConnection (λ i. Cell (unit i) pin) (λ i. good_cell i pin d e) (range_with_len 0 n)) }

good_in : (k : ℕ) → GoodNet (in_net k)
good_in k = record { named = refl; plain = plain_in_port k; pins = (record { good = refl; same = rw (plain_in_port k) refl }, (good_cell k (codes "SI") refl refl, tt)) }

good_inner : (i : ℕ) → GoodNet (inner_net i)
good_inner i = record { named = refl; plain = plain_unit_net i; pins = (good_cell i (codes "Q") refl refl, (good_cell (i + 8) (codes "SI") refl refl, tt)) }

good_out : (i : ℕ) → GoodNet (out_net i)
good_out i = record { named = refl; plain = plain_unit_net i; pins = (good_cell i (codes "Q") refl refl, (record { good = refl; same = rw (plain_out_port (i % 8)) refl }, tt)) }

pub good_nets : (n : ℕ) → Each GoodNet (net_rows n)
good_nets n = (
  good_wide (codes "clk") (codes "CK") n refl refl (record { good = refl; same = refl }) refl refl,
  (
    good_wide (codes "se") (codes "SE") n refl refl (record { good = refl; same = refl }) refl refl,
    (
      good_wide (codes "d") (codes "D") n refl refl (record { good = refl; same = refl }) refl refl,
      each_append GoodNet (map in_net (range_with_len 0 8)) (map inner_net (range_with_len 0 (n - 8)) ++ map (λ j. out_net (n - 8 + j)) (range_with_len 0 8)) (each_map GoodNet in_net good_in (range_with_len 0 8))
          (each_append GoodNet (map inner_net (range_with_len 0 (n - 8))) (map (λ j. out_net (n - 8 + j)) (range_with_len 0 8)) (each_map GoodNet inner_net good_inner (range_with_len 0 (n - 8)))
          (each_map GoodNet (λ j. out_net (n - 8 + j)) (λ j. good_out (n - 8 + j)) (range_with_len 0 8))),
    ),
  ),
)

pub shut_nets : (n : ℕ) → Each Shut (map net_words (net_rows n))
shut_nets n = each_of GoodNet Shut net_words shut_net (net_rows n) (good_nets n)

pub nets_are : (text : List ℕ) (n : ℕ) (ss : List (List Token)) → Each (AreIn text) ss → map token_texts ss ≡ map net_words (net_rows n) → NetRows text n ss
nets_are text n ss inside e = rows_of net text net_words (λ c. net_of text) some_net is_right GoodNet (net_row text) (net_rows n) ss (good_nets n) inside e
