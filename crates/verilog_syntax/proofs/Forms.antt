-- What a form of Grammar spells is made of the parts of its value, whose names are names and whose expressions are expressions.
use Rattle.std.proofs.Common.{◌≡◌, ℕ, Bool, true, false, not, List, [], ◌∷◌, ◌++◌, length, codes, Option, Some, None, refl, sym, ap, ◌∙◌, subst, inl, inr, append-nil, append_assoc}
use Rattle.std.specs.Str.{bytes_eq}
use Rattle.std.specs.List.{AllByRecursion as Each, list_any, flat_map}
use Rattle.std.proofs.lemmas.Bool.{eqb-true, and_parts, not-true}
use Rattle.std.proofs.lemmas.List.{nil_from_length}
use Rattle.std.proofs.lemmas.Option.{cond_some, same_Some, none-some}
use Rattle.base_types.specs.declared.span.Span.{Span}
use Rattle.base_types.proofs.TruthValues.{bytes_are}
use Rattle.token_forms.specs.Tokens.{Token}
use Rattle.token_forms.specs.Classes.{Only, But}
use Rattle.token_forms.specs.Parts.{Part, Fixed, Slot, list_parts, Fits}
use Rattle.token_forms.specs.Forms.{Form, IsWord, maybe, many, listed, at, between, ◌&◌, ◌▸◌, ◌◂◌, ◌only_if◌}
use Rattle.token_forms.proofs.Spelled.{choose}
use Rattle.token_forms.proofs.Parted.{behind_word, before_word, Makes, makes_nothing, makes_word, makes_text, makes_texts, makes_join, makes_split, makes_between, MakesList, makes_list}
use Rattle.verilog_syntax.specs.declared.statement.Declared.{Declared}
use Rattle.verilog_syntax.specs.declared.statement.Range.{Range}
use Rattle.verilog_syntax.specs.declared.statement.Item.{Item}
use Rattle.verilog_syntax.specs.declared.statement.Item.TheVariants as items
use Rattle.verilog_syntax.specs.declared.statement.Connection.{Connection}
use Rattle.verilog_syntax.specs.declared.statement.Statement.{Statement}
use Rattle.verilog_syntax.specs.Words.{kinds, no_operands, marks, any, is_name, is_decimal}
use Rattle.verilog_syntax.specs.Items.{is_expression, is_any_expression, is_a_constant, is_target}
use Rattle.verilog_syntax.specs.Grammar.{name, decimal, item, listed_or_none, connection, connections, instance, assign, kind_of, kind, range, declaration, statement, ports, header}
use Rattle.verilog_syntax.specs.StatementParts.{IsName, IsAnyExpression, IsVariable, item_texts, texts_parts, name_parts, range_parts, declared_text, connection_parts, header_parts, statement_parts, IsGoodRange, IsGoodConnection, IsGoodHeader, IsGoodStatement, is_header}
use Rattle.verilog_syntax.specs.Reading.{all_of, statement_of, header_of}
use Rattle.verilog_syntax.proofs.Nesting.{IsItem, nested_expression}
use Rattle.verilog_syntax.proofs.ItemTexts.{items_said}
use Rattle.verilog_syntax.proofs.Lawful.{is_statement, is_header_statement}

any_good : (all : List Item) → is_any_expression all ≡ true → Each IsItem all → IsAnyExpression all
any_good [] e good = tt
any_good (i ∷ others) e good = nested_expression (i ∷ others) e good

variables : (all : List Item) → list_any is_a_constant all ≡ false → Each IsVariable all
variables [] e = tt
variables (items.Open ∷ others) e = (tt, variables others e)
variables (items.Comma ∷ others) e = (tt, variables others e)
variables (items.Close ∷ others) e = (tt, variables others e)
variables (items.Name n ∷ others) e = (tt, variables others e)
variables (items.Bit n index ∷ others) e = (tt, variables others e)
variables (items.Part n left right ∷ others) e = (tt, variables others e)
variables (items.Constant text ∷ others) e = absurd cc

-- . pin ( expression )
abbrev pin_form : Form (List ℕ × (List Item × Span))
pin_form = name & between "(" (many item only_if is_any_expression) ")"

connection_said : (c : Connection) (ts : List Token) → connection.spells c ts → Makes (connection_parts c) ts × IsGoodConnection c
unfolding connection
connection_said c ts m =
    let p = m.parts in
    let a = behind_word "." pin_form p ts m.holds in
    let s = a.second in
    let all = items_said p.1.0 s.second.run s.second.holds.holds in
    let slot = makes_between 40 41 _ p.1.1 (flat_map item_texts p.1.0) s.back s.second all.texts in
    let pin = makes_text (But no_operands) is_name p.0 s.front s.first in
    let slots : List Part = Slot 40 p.1.1 (flat_map item_texts p.1.0) 41 ∷ [] in
    let behind = makes_split (Fixed p.0 ∷ []) slots a.back s pin slot in
    let whole = makes_split (Fixed (46 ∷ []) ∷ []) (Fixed p.0 ∷ slots) ts a (makes_word (46 ∷ []) a.front a.first) behind in
    subst (λ (c : Connection). Makes (connection_parts c) ts × IsGoodConnection c) m.is (whole, record { pin = s.first.passes; expression = any_good p.1.0 s.second.holds.passes all.good })

-- a list, or none, and its closing mark
module _ {X : Type 0} (f : Form X) (parts : X → List Part) (Good : X → Type 0)
    (law : (x : X) (ts : List Token) → f.spells x ts → Makes (parts x) ts × Good x) (closing : ℕ) (us : List Token) (close : IsWord (closing ∷ []) us) where
  any_said : (o : Option (List X)) (ts : List Token) → (maybe (listed f ",")).spells o ts → MakesList parts Good closing (listed_or_none o) (ts ++ us)
  any_said None ts none =
      let closed : us ≡ ts ++ us = ap (λ (l : List Token). l ++ us) (sym none) in
      record { makes = subst (Makes (Fixed (closing ∷ []) ∷ [])) closed (makes_word (closing ∷ []) us close); good = tt }
  any_said (Some xs) ts h = (makes_list f parts Good law closing us close xs ts h).1

connections_said : (cs : List Connection) (ts us : List Token) → connections.spells cs ts → IsWord (41 ∷ []) us → MakesList connection_parts IsGoodConnection 41 cs (ts ++ us)
unfolding connections
connections_said cs ts us m close =
    subst (λ (cs : List Connection). MakesList connection_parts IsGoodConnection 41 cs (ts ++ us)) m.is
    (any_said connection connection_parts IsGoodConnection connection_said 41 us close m.parts ts m.holds)

-- a statement behind the header
pub record MakesOne (listed : Bool) (s : Statement) (ts : List Token) : Type 0 where
  pub makes : Makes (statement_parts listed s) ts
  pub good : IsGoodStatement listed s
  pub behind : is_header s ≡ false

-- cell name ( connection , .. )
abbrev instance_form : Form (List ℕ × (List ℕ × List Connection))
instance_form = name & name & ("(" ▸ (connections ◂ ")"))

instance_said : (listed : Bool) (s : Statement) (ts : List Token) → instance.spells s ts → MakesOne listed s ts
unfolding instance
instance_said listed s ts m =
    let p = m.parts in
    let whole = before_word instance_form ";" p ts m.holds in
    let cell = whole.first in
    let name_ = cell.second in
    let open_ = behind_word "(" (connections ◂ ")") p.1.1 name_.back name_.second in
    let inner = before_word connections ")" p.1.1 open_.back open_.second in
    let list = connections_said p.1.1 inner.front inner.back inner.first inner.second in
    let parts : List Part = list_parts connection_parts 41 p.1.1 in
    let listed_ = subst (Makes parts) (sym inner.is) list.makes in
    let behind = makes_split (Fixed (40 ∷ []) ∷ []) parts name_.back open_ (makes_word (40 ∷ []) open_.front open_.first) listed_ in
    let names = makes_split (Fixed p.1.0 ∷ []) (Fixed (40 ∷ []) ∷ parts) cell.back name_ (makes_text (But no_operands) is_name p.1.0 name_.front name_.first) behind in
    let all = makes_split (Fixed p.0 ∷ []) (Fixed p.1.0 ∷ Fixed (40 ∷ []) ∷ parts) whole.front cell (makes_text (But no_operands) is_name p.0 cell.front cell.first) names in
    let made = makes_split (Fixed p.0 ∷ Fixed p.1.0 ∷ Fixed (40 ∷ []) ∷ parts) (Fixed (59 ∷ []) ∷ []) ts whole all (makes_word (59 ∷ []) whole.back whole.second) in
    subst (λ (s : Statement). MakesOne listed s ts) m.is (record { makes = made; good = (cell.first.passes, name_.first.passes, list.good); behind = refl })

-- expression = expression ;
abbrev assign_form : Form ((List Item × Span) × (List Item × Span))
assign_form = at (many item only_if is_target) & between "=" (many item only_if is_expression) ";"

assign_said : (listed : Bool) (s : Statement) (ts : List Token) → assign.spells s ts → MakesOne listed s ts
unfolding assign
assign_said listed s ts m =
    let p = m.parts in
    let whole = behind_word "assign" assign_form p ts m.holds in
    let sides = whole.second in
    let target = items_said p.0.0 sides.front sides.first.holds.holds in
    let source = items_said p.1.0 sides.second.run sides.second.holds.holds in
    let passes = and_parts (is_expression p.0.0) (not (list_any is_a_constant p.0.0)) sides.first.holds.passes in
    let left : List Part = texts_parts (flat_map item_texts p.0.0) in
    let right : List Part = Slot 61 p.1.1 (flat_map item_texts p.1.0) 59 ∷ [] in
    let targets = subst (λ (ws : List (List ℕ)). Makes (texts_parts ws) sides.front) target.texts (makes_texts sides.front) in
    let both_sides = makes_split left right whole.back sides targets (makes_between 61 59 _ p.1.1 (flat_map item_texts p.1.0) sides.back sides.second source.texts) in
    let made = makes_split (Fixed (codes "assign") ∷ []) (left ++ right) ts whole (makes_word (codes "assign") whole.front whole.first) both_sides in
    subst (λ (s : Statement). MakesOne listed s ts) m.is
    (record {
      makes = made;
      good = (
        nested_expression p.0.0 passes.0 target.good,
        variables p.0.0 (not-true _ passes.1),
        nested_expression p.1.0 sides.second.holds.passes source.good,
      );
      behind = refl;
    })

kind_text : (text : List ℕ) (kind : Declared) → kind_of text ≡ Some kind → text ≡ declared_text kind
unfolding kind_of
kind_text text kind e =
    choose (bytes_eq text (codes "input")) _ _ _ e (λ w k. bytes_are text _ w ∙ ap declared_text (same_Some _ _ k))
    (λ w k. choose (bytes_eq text (codes "output")) _ _ _ k (λ w k. bytes_are text _ w ∙ ap declared_text (same_Some _ _ k))
    (λ w k. choose (bytes_eq text (codes "inout")) _ _ _ k (λ w k. bytes_are text _ w ∙ ap declared_text (same_Some _ _ k))
    (λ w k. choose (bytes_eq text (codes "wire")) _ _ _ k (λ w k. bytes_are text _ w ∙ ap declared_text (same_Some _ _ k))
    (λ w k. choose (bytes_eq text (codes "tri")) _ _ _ k (λ w k. bytes_are text _ w ∙ ap declared_text (same_Some _ _ k))
    (λ w k. choose (bytes_eq text (codes "supply0")) _ _ _ k (λ w k. bytes_are text _ w ∙ ap declared_text (same_Some _ _ k))
    (λ w k. choose (bytes_eq text (codes "supply1")) _ _ _ k (λ w k. bytes_are text _ w ∙ ap declared_text (same_Some _ _ k)) (λ w k. absurd (none-some kind k))))))))

kind_said : (k : Declared) (ts : List Token) → kind.spells k ts → Makes (Fixed (declared_text k) ∷ []) ts
unfolding kind
kind_said k ts m = subst (λ (w : List ℕ). Makes (Fixed w ∷ []) ts) (kind_text m.parts k m.is) (makes_text (Only kinds) any m.parts ts m.holds)

-- [ left : right ]
abbrev bounds_form : Form (List ℕ × List ℕ)
bounds_form = decimal & (":" ▸ decimal)

range_said : (r : Range) (ts : List Token) → range.spells r ts → Makes (range_parts (Some r)) ts × IsGoodRange (Some r)
unfolding range
range_said r ts m =
    let p = m.parts in
    let open_ = behind_word "[" (bounds_form ◂ "]") p ts m.holds in
    let close = before_word bounds_form "]" p open_.back open_.second in
    let pair = close.first in
    let colon = behind_word ":" decimal p.1 pair.back pair.second in
    let right = makes_split (Fixed (58 ∷ []) ∷ []) (Fixed p.1 ∷ []) pair.back colon (makes_word (58 ∷ []) colon.front colon.first) (makes_text (But marks) is_decimal p.1 colon.back colon.second) in
    let inner = makes_split (Fixed p.0 ∷ []) (Fixed (58 ∷ []) ∷ Fixed p.1 ∷ []) close.front pair (makes_text (But marks) is_decimal p.0 pair.front pair.first) right in
    let closed = makes_split (Fixed p.0 ∷ Fixed (58 ∷ []) ∷ Fixed p.1 ∷ []) (Fixed (93 ∷ []) ∷ []) open_.back close inner (makes_word (93 ∷ []) close.back close.second) in
    let made = makes_split (Fixed (91 ∷ []) ∷ []) (Fixed p.0 ∷ Fixed (58 ∷ []) ∷ Fixed p.1 ∷ Fixed (93 ∷ []) ∷ []) ts open_ (makes_word (91 ∷ []) open_.front open_.first) closed in
    subst (λ (r : Range). Makes (range_parts (Some r)) ts × IsGoodRange (Some r)) m.is (made, (pair.first.passes, colon.second.passes))

any_range_said : (r : Option Range) (ts : List Token) → (maybe range).spells r ts → Makes (range_parts r) ts × IsGoodRange r
any_range_said None ts none = (makes_nothing ts none, tt)
any_range_said (Some r) ts h = range_said r ts h

name_said : (n : List ℕ) (ts : List Token) → name.spells n ts → Makes (name_parts n) ts × IsName n
name_said n ts h = (makes_text (But no_operands) is_name n ts h, h.passes)

-- kind [ left : right ] name , ..
abbrev declaration_form : Form (Declared × (Option Range × List (List ℕ)))
declaration_form = kind & maybe range & listed name ","

declaration_said : (listed : Bool) (s : Statement) (ts : List Token) → declaration.spells s ts → MakesOne listed s ts
unfolding declaration
declaration_said listed_ s ts m =
    let p = m.parts in
    let whole = before_word declaration_form ";" p ts m.holds in
    let first = whole.first in
    let more = first.second in
    let word = kind_said p.0 first.front first.first in
    let bounds = any_range_said p.1.0 more.front more.first in
    let list = makes_list name name_parts IsName name_said 59 whole.back whole.second p.1.1 more.back more.second in
    let names : List Part = list_parts name_parts 59 p.1.1 in
    let behind = makes_join (range_parts p.1.0) names more.front (more.back ++ whole.back) bounds.0 list.1.makes in
    let all = makes_join (Fixed (declared_text p.0) ∷ []) (range_parts p.1.0 ++ names) first.front (more.front ++ (more.back ++ whole.back)) word behind in
    let cut : first.front ++ (more.front ++ (more.back ++ whole.back)) ≡ ts
    = ap (λ (l : List Token). first.front ++ l) (sym (append_assoc more.front more.back whole.back) ∙ ap (λ (l : List Token). l ++ whole.back) (sym more.is))
    ∙ sym (append_assoc first.front first.back whole.back) ∙ ap (λ (l : List Token). l ++ whole.back) (sym first.is) ∙ sym whole.is
    in
    let made = subst (Makes (Fixed (declared_text p.0) ∷ (range_parts p.1.0 ++ names))) cut all in
    subst (λ (s : Statement). MakesOne listed_ s ts) m.is (record { makes = made; good = (bounds.1, list.0, list.1.good); behind = refl })

statement_said : (listed : Bool) (s : Statement) (ts : List Token) → statement.spells s ts → MakesOne listed s ts
unfolding statement
statement_said listed s ts h = elim h [ inl a ↦ assign_said listed s ts a | inr h ↦ elim h [ inl d ↦ declaration_said listed s ts d | inr i ↦ instance_said listed s ts i ] ]

-- the ports of a header
abbrev ports_form : Form (Option (List (List ℕ)))
ports_form = maybe (listed name ",")

ports_said : (names : List (List ℕ)) (ts : List Token) → ports.spells names ts → Makes (Fixed (40 ∷ []) ∷ list_parts name_parts 41 names) ts × Each IsName names
unfolding ports
ports_said names ts m =
    let open_ = behind_word "(" (ports_form ◂ ")") m.parts ts m.holds in
    let inner = before_word ports_form ")" m.parts open_.back open_.second in
    let list = any_said name name_parts IsName name_said 41 inner.back inner.second m.parts inner.front inner.first in
    let parts : List Part = list_parts name_parts 41 (listed_or_none m.parts) in
    let made = makes_split (Fixed (40 ∷ []) ∷ []) parts ts open_ (makes_word (40 ∷ []) open_.front open_.first) (subst (Makes parts) (sym inner.is) list.makes) in
    subst (λ (names : List (List ℕ)). Makes (Fixed (40 ∷ []) ∷ list_parts name_parts 41 names) ts × Each IsName names) m.is (made, list.good)

-- and its semicolon
record MakesPorts (names : List (List ℕ)) (ts : List Token) : Type 0 where
  pub listed : Bool
  pub makes : Makes (header_parts listed names) ts
  pub good : IsGoodHeader listed names

any_ports_said : (o : Option (List (List ℕ))) (ts us : List Token) → (maybe ports).spells o ts → IsWord (59 ∷ []) us → MakesPorts (listed_or_none o) (ts ++ us)
any_ports_said None ts us none close =
    let closed : us ≡ ts ++ us = ap (λ (l : List Token). l ++ us) (sym none) in
    record { listed = false; makes = subst (Makes (Fixed (59 ∷ []) ∷ [])) closed (makes_word (59 ∷ []) us close); good = refl }
any_ports_said (Some names) ts us h close =
    let list = ports_said names ts h in
    record { listed = true; makes = makes_join (Fixed (40 ∷ []) ∷ list_parts name_parts 41 names) (Fixed (59 ∷ []) ∷ []) ts us list.0 (makes_word (59 ∷ []) us close); good = list.1 }

record MakesHeader (s : Statement) (ts : List Token) : Type 0 where
  pub listed : Bool
  pub makes : Makes (statement_parts listed s) ts
  pub good : IsGoodStatement listed s
  pub first : is_header s ≡ true

-- module name ports
abbrev header_form : Form (List ℕ × Option (List (List ℕ)))
header_form = "module" ▸ (name & maybe ports)

header_said : (s : Statement) (ts : List Token) → header.spells s ts → MakesHeader s ts
unfolding header
header_said s ts m =
    let p = m.parts in
    let whole = before_word header_form ";" p ts m.holds in
    let word = behind_word "module" (name & maybe ports) p whole.front whole.first in
    let named = word.second in
    let list = any_ports_said p.1 named.back whole.back named.second whole.second in
    let parts : List Part = header_parts list.listed (listed_or_none p.1) in
    let behind = makes_join (Fixed p.0 ∷ []) parts named.front (named.back ++ whole.back) (makes_text (But no_operands) is_name p.0 named.front named.first) list.makes in
    let all = makes_join (Fixed (codes "module") ∷ []) (Fixed p.0 ∷ parts) word.front (named.front ++ (named.back ++ whole.back)) (makes_word (codes "module") word.front word.first) behind in
    let cut : word.front ++ (named.front ++ (named.back ++ whole.back)) ≡ ts
    = ap (λ (l : List Token). word.front ++ l) (sym (append_assoc named.front named.back whole.back) ∙ ap (λ (l : List Token). l ++ whole.back) (sym named.is))
    ∙ sym (append_assoc word.front word.back whole.back) ∙ ap (λ (l : List Token). l ++ whole.back) (sym word.is) ∙ sym whole.is
    in
    let made = subst (Makes (Fixed (codes "module") ∷ Fixed p.0 ∷ parts)) cut all in
    subst (λ (s : Statement). MakesHeader s ts) m.is (record { listed = list.listed; makes = made; good = (named.first.passes, list.good); first = refl })

-- all of some tokens
record Found (read : Option (Statement × List Token)) (s : Statement) : Type 0 where
  pub is : read ≡ Some (s, [])

all-found : (read : Option (Statement × List Token)) (s : Statement) → all_of read ≡ Some s → Found read s
all-found None s e = absurd cc
all-found (Some found) s e =
    let c = cond_some _ found.0 s e in
    let none : found.1 ≡ [] = nil_from_length found.1 (eqb-true (length found.1) 0 c.0) in
    record { is = rw (sym c.1, sym none) refl }

pub statement_spells : (ts : List Token) (s : Statement) → statement_of ts ≡ Some s → statement.spells s ts
unfolding statement_of
statement_spells ts s e =
    let f = all-found (statement.reads ts) s e in
    let u = is_statement.lawful.spelled ts s [] f.is in
    subst (statement.spells s) (sym (append-nil u.front) ∙ sym u.is) u.holds

pub header_spells : (ts : List Token) (s : Statement) → header_of ts ≡ Some s → header.spells s ts
unfolding header_of
header_spells ts s e =
    let f = all-found (header.reads ts) s e in
    let u = is_header_statement.lawful.spelled ts s [] f.is in
    subst (header.spells s) (sym (append-nil u.front) ∙ sym u.is) u.holds

-- the parts, and nothing behind them
all_fits : (ps : List Part) (ts : List Token) → Makes ps ts → Fits ps [] ts
all_fits ps ts m = subst (Fits ps []) (append-nil ts) (m.fits [])

pub record SpellsOne (listed : Bool) (s : Statement) (ts : List Token) : Type 0 where
  pub fits : Fits (statement_parts listed s) [] ts
  pub good : IsGoodStatement listed s
  pub behind : is_header s ≡ false

pub statement_of-spells : (listed : Bool) (ts : List Token) (s : Statement) → statement_of ts ≡ Some s → SpellsOne listed s ts
statement_of-spells listed ts s e =
    let one = statement_said listed s ts (statement_spells ts s e) in
    record { fits = all_fits (statement_parts listed s) ts one.makes; good = one.good; behind = one.behind }

pub record SpellsHeader (s : Statement) (ts : List Token) : Type 0 where
  pub listed : Bool
  pub fits : Fits (statement_parts listed s) [] ts
  pub good : IsGoodStatement listed s
  pub first : is_header s ≡ true

pub header_of-spells : (ts : List Token) (s : Statement) → header_of ts ≡ Some s → SpellsHeader s ts
header_of-spells ts s e =
    let one = header_said s ts (header_spells ts s e) in
    record { listed = one.listed; fits = all_fits (statement_parts one.listed s) ts one.makes; good = one.good; first = one.first }
