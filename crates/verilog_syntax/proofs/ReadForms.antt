-- Tokens that spell a statement by its parts are spelled so by its form, and so they are read as it.
use Rattle.std.proofs.Common.{◌≡◌, ℕ, Bool, true, false, ◌&&◌, not, List, [], ◌∷◌, ◌++◌, codes, Option, Some, None, inl, inr, refl, sym, ap, ◌∙◌, subst, append_assoc, append-nil, arith}
use Rattle.std.specs.List.{AllByRecursion as Each, list_any}
use Rattle.std.proofs.lemmas.List.{map-id}
use Rattle.token_forms.specs.Tokens.{Token, place_of}
use Rattle.token_forms.specs.Classes.{Only, But, is_in}
use Rattle.token_forms.specs.Parts.{Part, Fixed, Slot, list_parts, spelled, token_texts}
use Rattle.token_forms.specs.Forms.{maybe, many, listed, at, between, ◌&◌, ◌▸◌, ◌◂◌, ◌only_if◌}
use Rattle.token_forms.proofs.Spelled.{spelled_append}
use Rattle.token_forms.proofs.Joined.{no_texts, cut_texts, text_joined, split_cut, front_cut, back_cut, Joins, between_joined, JoinsAll, listed_texts, listed_joined, list_texts}
use Rattle.verilog_syntax.specs.declared.statement.Declared.{Declared}
use Rattle.verilog_syntax.specs.declared.statement.Declared.TheVariants as declared
use Rattle.verilog_syntax.specs.declared.statement.Range.{Range}
use Rattle.verilog_syntax.specs.declared.statement.Item.{Item}
use Rattle.verilog_syntax.specs.declared.statement.Item.TheVariants as items
use Rattle.verilog_syntax.specs.declared.statement.Expression.{Expression}
use Rattle.verilog_syntax.specs.declared.statement.Connection.{Connection}
use Rattle.verilog_syntax.specs.declared.statement.Statement.{Statement}
use Rattle.verilog_syntax.specs.declared.statement.Statement.TheVariants as statements
use Rattle.verilog_syntax.specs.Words.{kinds, no_operands, marks, any, is_name, is_decimal}
use Rattle.verilog_syntax.specs.Items.{is_expression, is_any_expression, is_a_constant, is_target}
use Rattle.verilog_syntax.specs.Grammar.{name, decimal, item, connection, connections, listed_or_none, instance, assign, kind_of, kind, range, declaration, statement, ports, header}
use Rattle.verilog_syntax.specs.StatementParts.{IsName, IsDecimal, IsExpression, IsAnyExpression, IsVariable, expression_texts, texts_parts, name_parts, declared_text, range_parts, connection_parts, header_parts, statement_parts, IsGoodRange, IsGoodConnection, IsGoodHeader, IsGoodStatement, is_header}
use Rattle.verilog_syntax.specs.Reading.{all_of, statement_of, header_of}
use Rattle.verilog_syntax.specs.Laws.{bare_connection, bare_statement}
use Rattle.verilog_syntax.proofs.WordKinds.{name_in, decimal_in}
use Rattle.verilog_syntax.proofs.Nesting.{IsItem, expression_nests}
use Rattle.verilog_syntax.proofs.ItemTexts.{items_joined}
use Rattle.verilog_syntax.proofs.Lawful.{is_statement, is_header_statement}

name_joined : (n : List ℕ) (ts : List Token) → IsName n → token_texts ts ≡ n ∷ [] → name.spells n ts
name_joined n ts good e = text_joined (But no_operands) is_name n ts (name_in n good) good e

decimal_joined : (n : List ℕ) (ts : List Token) → IsDecimal n → token_texts ts ≡ n ∷ [] → decimal.spells n ts
decimal_joined n ts good e = text_joined (But marks) is_decimal n ts (decimal_in n good) good e

any_nests : (all : List Item) → IsAnyExpression all → (is_any_expression all ≡ true) × Each IsItem all
any_nests [] good = (refl, tt)
any_nests (i ∷ others) good = expression_nests (i ∷ others) good

no_constant : (all : List Item) → Each IsVariable all → list_any is_a_constant all ≡ false
no_constant [] e = refl
no_constant (items.Open ∷ others) e = no_constant others e.1
no_constant (items.Comma ∷ others) e = no_constant others e.1
no_constant (items.Close ∷ others) e = no_constant others e.1
no_constant (items.Name n ∷ others) e = no_constant others e.1
no_constant (items.Bit n index ∷ others) e = no_constant others e.1
no_constant (items.Part n left right ∷ others) e = no_constant others e.1
no_constant (items.Constant text ∷ others) e = absurd e.0

-- . pin ( expression )
connection_joined : (c : Connection) (ts : List Token) → IsGoodConnection c → token_texts ts ≡ spelled (connection_parts c) → Joins connection.spells bare_connection c ts
unfolding connection
connection_joined c ts good e =
    let all = c.expression.items in
    let texts = expression_texts c.expression in
    let inner = many item only_if is_any_expression in
    let nests = any_nests all good.expression in
    let dot = cut_texts ((46 ∷ []) ∷ []) (c.pin ∷ (40 ∷ []) ∷ (texts ++ (41 ∷ []) ∷ [])) ts e in
    let pin = cut_texts (c.pin ∷ []) ((40 ∷ []) ∷ (texts ++ (41 ∷ []) ∷ [])) dot.behind dot.second in
    let x = between_joined "(" inner ")" all texts pin.behind (λ run e. record { holds = items_joined all run nests.1 e; passes = nests.0 }) pin.second in
    let named = split_cut pin (name_joined c.pin pin.front good.pin pin.first) x.holds in
    record {
      value = record { pin = c.pin; expression = record { items = all; span = x.place } };
      holds = record { parts = (c.pin, (all, x.place)); is = refl; holds = front_cut "." (name & between "(" inner ")") (c.pin, (all, x.place)) _ ts dot named };
      same = refl;
    }

-- connection , ..    or none
connections_joined : (cs : List Connection) (ts : List Token) → Each IsGoodConnection cs → token_texts ts ≡ listed_texts (λ c. spelled (connection_parts c)) cs → JoinsAll connections.spells bare_connection cs ts
unfolding connections
connections_joined [] ts good e = record { values = []; holds = record { parts = None; is = refl; holds = no_texts ts e }; same = refl }
connections_joined (c ∷ cs) ts good e =
    let l = listed_joined connection bare_connection (λ (c : Connection). spelled (connection_parts c)) IsGoodConnection connection_joined c cs ts good e in
    record { values = l.values; holds = record { parts = Some l.values; is = refl; holds = l.holds }; same = l.same }

abbrev list_of : List Connection → List (List ℕ)
list_of cs = listed_texts (λ (c : Connection). spelled (connection_parts c)) cs

instance_texts : (cell name : List ℕ) (cs : List Connection) → cell ∷ name ∷ (40 ∷ []) ∷ spelled (list_parts connection_parts 41 cs ++ Fixed (59 ∷ []) ∷ [])
    ≡ (cell ∷ name ∷ (40 ∷ []) ∷ (list_of cs ++ (41 ∷ []) ∷ [])) ++ (59 ∷ []) ∷ []
instance_texts cell name cs =
    ap (λ (l : List (List ℕ)). cell ∷ name ∷ (40 ∷ []) ∷ l)
    (spelled_append (list_parts connection_parts 41 cs) (Fixed (59 ∷ []) ∷ []) ∙ ap (λ (l : List (List ℕ)). l ++ (59 ∷ []) ∷ []) (list_texts connection_parts 41 cs))

-- cell name ( connections ) ;
instance_joined : (cell named : List ℕ) (cs : List Connection) (ts : List Token) → IsName cell → IsName named → Each IsGoodConnection cs
    → token_texts ts ≡ cell ∷ named ∷ (40 ∷ []) ∷ spelled (list_parts connection_parts 41 cs ++ Fixed (59 ∷ []) ∷ []) → Joins instance.spells bare_statement (statements.Instance cell named cs) ts
unfolding instance
instance_joined cell named cs ts c n good e =
    let closed = list_of cs ++ (41 ∷ []) ∷ [] in
    let whole = cut_texts (cell ∷ named ∷ (40 ∷ []) ∷ closed) ((59 ∷ []) ∷ []) ts (e ∙ instance_texts cell named cs) in
    let first = cut_texts (cell ∷ []) (named ∷ (40 ∷ []) ∷ closed) whole.front whole.first in
    let second = cut_texts (named ∷ []) ((40 ∷ []) ∷ closed) first.behind first.second in
    let opened = cut_texts ((40 ∷ []) ∷ []) closed second.behind second.second in
    let inner = cut_texts (list_of cs) ((41 ∷ []) ∷ []) opened.behind opened.second in
    let list = connections_joined cs inner.front good inner.first in
    let pins = front_cut "(" (connections ◂ ")") list.values closed second.behind opened (back_cut connections ")" list.values (list_of cs) opened.behind inner list.holds) in
    let parts = split_cut first (name_joined cell first.front c first.first) (split_cut second (name_joined named second.front n second.first) pins) in
    let form = name & name & ("(" ▸ (connections ◂ ")")) in
    record {
      value = statements.Instance cell named list.values;
      holds = record { parts = (cell, (named, list.values)); is = refl; holds = back_cut form ";" (cell, (named, list.values)) _ ts whole parts };
      same = ap (λ (cs : List Connection). statements.Instance cell named cs) list.same;
    }

pub spelled_texts : (us : List (List ℕ)) → spelled (texts_parts us) ≡ us
spelled_texts [] = refl
spelled_texts (u ∷ us) = ap (λ (l : List (List ℕ)). u ∷ l) (spelled_texts us)

assign_texts : (left right : Expression) → spelled (texts_parts (expression_texts left) ++ Slot 61 right.span (expression_texts right) 59 ∷ [])
    ≡ expression_texts left ++ ((61 ∷ []) ∷ (expression_texts right ++ (59 ∷ []) ∷ []))
assign_texts left right =
    let slot : List Part = Slot 61 right.span (expression_texts right) 59 ∷ [] in
    spelled_append (texts_parts (expression_texts left)) slot ∙ ap (λ (l : List (List ℕ)). l ++ spelled slot) (spelled_texts (expression_texts left))

-- assign left = right ;
assign_joined : (left right : Expression) (ts : List Token) → IsExpression left.items → Each IsVariable left.items → IsExpression right.items
    → token_texts ts ≡ codes "assign" ∷ spelled (texts_parts (expression_texts left) ++ Slot 61 right.span (expression_texts right) 59 ∷ []) → Joins assign.spells bare_statement (statements.Assign left right) ts
unfolding assign
assign_joined left right ts l variable r e =
    let behind = (61 ∷ []) ∷ (expression_texts right ++ (59 ∷ []) ∷ []) in
    let target = expression_nests left.items l in
    let source = expression_nests right.items r in
    let passes : (is_expression left.items && not (list_any is_a_constant left.items)) ≡ true = rw (target.0, no_constant left.items variable) refl in
    let word = cut_texts (codes "assign" ∷ []) (expression_texts left ++ behind) ts (e ∙ ap (λ (l : List (List ℕ)). codes "assign" ∷ l) (assign_texts left right)) in
    let sides = cut_texts (expression_texts left) behind word.behind word.second in
    let x = between_joined "=" (many item only_if is_expression) ";" right.items (expression_texts right) sides.behind (λ run e. record { holds = items_joined right.items run source.1 e; passes = source.0 }) sides.second in
    let place = place_of sides.front in
    let form = at (many item only_if is_target) & between "=" (many item only_if is_expression) ";" in
    let parts = split_cut sides (record { holds = record { holds = items_joined left.items sides.front target.1 sides.first; passes = passes }; place = refl }) x.holds in
    record {
      value = statements.Assign (record { items = left.items; span = place }) (record { items = right.items; span = x.place });
      holds = record { parts = ((left.items, place), (right.items, x.place)); is = refl; holds = front_cut "assign" form ((left.items, place), (right.items, x.place)) _ ts word parts };
      same = refl;
    }

kind_is : (k : Declared) → kind_of (declared_text k) ≡ Some k
unfolding kind_of
kind_is declared.Input = refl
kind_is declared.Output = refl
kind_is declared.Inout = refl
kind_is declared.Wire = refl
kind_is declared.Tri = refl
kind_is declared.Supply0 = refl
kind_is declared.Supply1 = refl

kind_in : (k : Declared) → is_in (Only kinds) (declared_text k) ≡ true
kind_in declared.Input = refl
kind_in declared.Output = refl
kind_in declared.Inout = refl
kind_in declared.Wire = refl
kind_in declared.Tri = refl
kind_in declared.Supply0 = refl
kind_in declared.Supply1 = refl

kind_joined : (k : Declared) (ts : List Token) → token_texts ts ≡ declared_text k ∷ [] → kind.spells k ts
unfolding kind
kind_joined k ts e = record { parts = declared_text k; is = kind_is k; holds = text_joined (Only kinds) any (declared_text k) ts (kind_in k) refl e }

range_joined : (r : Range) (ts : List Token) → IsGoodRange (Some r) → token_texts ts ≡ (91 ∷ []) ∷ r.left ∷ (58 ∷ []) ∷ r.right ∷ (93 ∷ []) ∷ [] → range.spells r ts
unfolding range
range_joined r ts good e =
    let opened = cut_texts ((91 ∷ []) ∷ []) (r.left ∷ (58 ∷ []) ∷ r.right ∷ (93 ∷ []) ∷ []) ts e in
    let closed = cut_texts (r.left ∷ (58 ∷ []) ∷ r.right ∷ []) ((93 ∷ []) ∷ []) opened.behind opened.second in
    let first = cut_texts (r.left ∷ []) ((58 ∷ []) ∷ r.right ∷ []) closed.front closed.first in
    let colon = cut_texts ((58 ∷ []) ∷ []) (r.right ∷ []) first.behind first.second in
    let pair = split_cut first (decimal_joined r.left first.front good.0 first.first) (front_cut ":" decimal r.right _ first.behind colon (decimal_joined r.right colon.behind good.1 colon.second)) in
    let form = decimal & (":" ▸ decimal) in
    record { parts = (r.left, r.right); is = refl; holds = front_cut "[" (form ◂ "]") (r.left, r.right) _ ts opened (back_cut form "]" (r.left, r.right) _ opened.behind closed pair) }

any_range_joined : (r : Option Range) (ts : List Token) → IsGoodRange r → token_texts ts ≡ spelled (range_parts r) → (maybe range).spells r ts
any_range_joined None ts good e = no_texts ts e
any_range_joined (Some r) ts good e = range_joined r ts good e

abbrev names_of : List (List ℕ) → List (List ℕ)
names_of names = listed_texts (λ (n : List ℕ). spelled (name_parts n)) names

names_joined : (n : List ℕ) (names : List (List ℕ)) (ts : List Token) → Each IsName (n ∷ names) → token_texts ts ≡ names_of (n ∷ names) → (listed name ",").spells (n ∷ names) ts
names_joined n names ts good e =
    let l = listed_joined name (λ (n : List ℕ). n) (λ (n : List ℕ). spelled (name_parts n)) IsName (λ n ts good e. record { value = n; holds = name_joined n ts good e; same = refl }) n names ts good e in
    subst (λ (all : List (List ℕ)). (listed name ",").spells all ts) (sym (map-id l.values) ∙ l.same ∙ map-id (n ∷ names)) l.holds

declaration_texts : (k : Declared) (r : Option Range) (names : List (List ℕ)) → declared_text k ∷ spelled (range_parts r ++ list_parts name_parts 59 names)
    ≡ (declared_text k ∷ (spelled (range_parts r) ++ names_of names)) ++ (59 ∷ []) ∷ []
declaration_texts k r names =
    ap (λ (l : List (List ℕ)). declared_text k ∷ l)
    (spelled_append (range_parts r) (list_parts name_parts 59 names) ∙ ap (λ (l : List (List ℕ)). spelled (range_parts r) ++ l) (list_texts name_parts 59 names)
    ∙ sym (append_assoc (spelled (range_parts r)) (names_of names) ((59 ∷ []) ∷ [])))

-- kind range names ;
declaration_joined : (k : Declared) (r : Option Range) (n : List ℕ) (names : List (List ℕ)) (ts : List Token) → IsGoodRange r → Each IsName (n ∷ names)
    → token_texts ts ≡ declared_text k ∷ spelled (range_parts r ++ list_parts name_parts 59 (n ∷ names)) → declaration.spells (statements.Declare k r (n ∷ names)) ts
unfolding declaration
declaration_joined k r n names ts bounds good e =
    let whole = cut_texts (declared_text k ∷ (spelled (range_parts r) ++ names_of (n ∷ names))) ((59 ∷ []) ∷ []) ts (e ∙ declaration_texts k r (n ∷ names)) in
    let word = cut_texts (declared_text k ∷ []) (spelled (range_parts r) ++ names_of (n ∷ names)) whole.front whole.first in
    let list = cut_texts (spelled (range_parts r)) (names_of (n ∷ names)) word.behind word.second in
    let more = split_cut list (any_range_joined r list.front bounds list.first) (names_joined n names list.behind good list.second) in
    let parts = split_cut word (kind_joined k word.front word.first) more in
    let form = kind & maybe range & listed name "," in
    record { parts = (k, (r, n ∷ names)); is = refl; holds = back_cut form ";" (k, (r, n ∷ names)) _ ts whole parts }

statement_joined : (listed : Bool) (s : Statement) (ts : List Token) → is_header s ≡ false → IsGoodStatement listed s → token_texts ts ≡ spelled (statement_parts listed s) → Joins statement.spells bare_statement s ts
unfolding statement
statement_joined listed (statements.Module name ports) ts behind good e = absurd cc
statement_joined listed (statements.Declare k r []) ts behind good e = let some = good.1 in absurd (omega arith)
statement_joined listed (statements.Declare k r (n ∷ names)) ts behind good e =
    record { value = statements.Declare k r (n ∷ names); holds = inr (inl (declaration_joined k r n names ts good.0 good.2 e)); same = refl }
statement_joined listed (statements.Assign left right) ts behind good e =
    let j = assign_joined left right ts good.0 good.1 good.2 e in
    record { value = j.value; holds = inl j.holds; same = j.same }
statement_joined listed (statements.Instance cell named cs) ts behind good e =
    let j = instance_joined cell named cs ts good.0 good.1 good.2 e in
    record { value = j.value; holds = inr (inr j.holds); same = j.same }

-- ( name , .. )    ( )
ports_joined : (names : List (List ℕ)) (ts : List Token) → Each IsName names → token_texts ts ≡ (40 ∷ []) ∷ (names_of names ++ (41 ∷ []) ∷ []) → ports.spells names ts
unfolding ports
ports_joined names ts good e =
    let opened = cut_texts ((40 ∷ []) ∷ []) (names_of names ++ (41 ∷ []) ∷ []) ts e in
    let inner = cut_texts (names_of names) ((41 ∷ []) ∷ []) opened.behind opened.second in
    let list = maybe (listed name ",") in
    let all = any_of names inner.front good inner.first in
    record { parts = all.0; is = all.2; holds = front_cut "(" (list ◂ ")") all.0 _ ts opened (back_cut list ")" all.0 _ opened.behind inner all.1) }
  where
    any_of : (names : List (List ℕ)) (ts : List Token) → Each IsName names → token_texts ts ≡ names_of names
        → (o : Option (List (List ℕ))) × (maybe (listed name ",")).spells o ts × (listed_or_none o ≡ names)
    any_of [] ts good e = (None, no_texts ts e, refl)
    any_of (n ∷ names) ts good e = (Some (n ∷ names), names_joined n names ts good e, refl)

abbrev ports_of : Bool → List (List ℕ) → List (List ℕ)
ports_of false names = []
ports_of true names = (40 ∷ []) ∷ (names_of names ++ (41 ∷ []) ∷ [])

ports_texts : (listed : Bool) (names : List (List ℕ)) → spelled (header_parts listed names) ≡ ports_of listed names ++ (59 ∷ []) ∷ []
ports_texts false names = refl
ports_texts true names =
    ap (λ (l : List (List ℕ)). (40 ∷ []) ∷ l) (spelled_append (list_parts name_parts 41 names) (Fixed (59 ∷ []) ∷ []) ∙ ap (λ (l : List (List ℕ)). l ++ (59 ∷ []) ∷ []) (list_texts name_parts 41 names))

any_ports_joined : (listed : Bool) (names : List (List ℕ)) (ts : List Token) → IsGoodHeader listed names → token_texts ts ≡ ports_of listed names
    → (o : Option (List (List ℕ))) × (maybe ports).spells o ts × (listed_or_none o ≡ names)
any_ports_joined false names ts none e = (None, no_texts ts e, sym none)
any_ports_joined true names ts good e = (Some names, ports_joined names ts good e, refl)

-- module name ports ;
header_joined : (listed : Bool) (s : Statement) (ts : List Token) → is_header s ≡ true → IsGoodStatement listed s → token_texts ts ≡ spelled (statement_parts listed s) → header.spells s ts
unfolding header
header_joined listed (statements.Module named names) ts first good e =
    let closed = e ∙ ap (λ (l : List (List ℕ)). codes "module" ∷ named ∷ l) (ports_texts listed names) in
    let whole = cut_texts (codes "module" ∷ named ∷ ports_of listed names) ((59 ∷ []) ∷ []) ts closed in
    let word = cut_texts (codes "module" ∷ []) (named ∷ ports_of listed names) whole.front whole.first in
    let second = cut_texts (named ∷ []) (ports_of listed names) word.behind word.second in
    let list = any_ports_joined listed names second.behind good.1 second.second in
    let parts = split_cut second (name_joined named second.front good.0 second.first) list.1 in
    let form = "module" ▸ (name & maybe ports) in
    record {
      parts = (named, list.0);
      is = ap (λ (names : List (List ℕ)). statements.Module named names) list.2;
      holds = back_cut form ";" (named, list.0) _ ts whole (front_cut "module" (name & maybe ports) (named, list.0) _ whole.front word parts);
    }
header_joined listed (statements.Declare k r names) ts first good e = absurd cc
header_joined listed (statements.Assign left right) ts first good e = absurd cc
header_joined listed (statements.Instance cell named cs) ts first good e = absurd cc

-- what is spelled so is read
pub statement_reads : (s : Statement) (ts : List Token) → statement.spells s ts → statement_of ts ≡ Some s
unfolding statement_of
statement_reads s ts h =
    let read = is_statement.lawful.read is_statement.clear s ts [] h refl in
    ap all_of (ap statement.reads (sym (append-nil ts)) ∙ read)

pub header_reads : (s : Statement) (ts : List Token) → header.spells s ts → header_of ts ≡ Some s
unfolding header_of
header_reads s ts h =
    let read = is_header_statement.lawful.read is_header_statement.clear s ts [] h refl in
    ap all_of (ap header.reads (sym (append-nil ts)) ∙ read)

-- all of the tokens
pub record IsRead (read : Option Statement) (s : Statement) : Type 0 where
  pub value : Statement
  pub is : read ≡ Some value
  pub same : bare_statement value ≡ bare_statement s

pub statement-read : (listed : Bool) (s : Statement) (ts : List Token) → is_header s ≡ false → IsGoodStatement listed s → token_texts ts ≡ spelled (statement_parts listed s) → IsRead (statement_of ts) s
statement-read listed s ts behind good e =
    let j = statement_joined listed s ts behind good e in
    record { value = j.value; is = statement_reads j.value ts j.holds; same = j.same }

pub header-read : (listed : Bool) (s : Statement) (ts : List Token) → is_header s ≡ true → IsGoodStatement listed s → token_texts ts ≡ spelled (statement_parts listed s) → IsRead (header_of ts) s
header-read listed s ts first good e = record { value = s; is = header_reads s ts (header_joined listed s ts first good e); same = refl }
