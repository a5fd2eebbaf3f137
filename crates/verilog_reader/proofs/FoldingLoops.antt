-- A loop that adds what its members mention, and makes something of each by its place.
use Rattle.std.proofs.Common.{◌≡◌, ℕ, ◌+◌, ◌<◌, List, [], ◌∷◌, ◌++◌, length, map, get_or, drop, refl, sym, ap, subst, ◌∙◌}
use Rattle.std.specs.List.{flat_map, All}
use Rattle.std.proofs.lemmas.List.{append_assoc, drop_more}
use Rattle.std.proofs.lemmas.List.Concat.{flat_map-append}
use Rattle.std.proofs.lemmas.List.Elements.{All-head, All-get_or}
use Rattle.netlist_core.specs.declared.netlist.Bit.{Bit}
use Rattle.netlist_core.specs.declared.netlist.Assign.{Assign}
use Rattle.netlist_core.specs.declared.netlist.Expr.{Expr}
use Rattle.netlist_core.specs.declared.netlist.Connection.{Connection as NetConnection}
use Rattle.netlist_core.specs.declared.netlist.Instance.{Instance}
use Rattle.verilog_syntax.specs.declared.statement.Item.{Item}
use Rattle.verilog_syntax.specs.declared.statement.Expression.{Expression}
use Rattle.verilog_syntax.specs.declared.statement.Connection.{Connection}
use Rattle.verilog_syntax.specs.declared.reading.Placed.{Placed}
use Rattle.verilog_names.specs.Declarations.{mentions_of, mentions_in, mentions, connection_items}
use Rattle.verilog_names.specs.NameTables.{with_entries}
use Rattle.verilog_reader.specs.Numbering.{with_mentioned, with_items, numbered_item, numbered_items, numbered_expression, numbered_connection, numbered_assign, numbered_assigns_in, numbered_assigns, numbered_instances_in, numbered_instances, IsFineItem, IsFineExpression, HasFineItems}
use Rattle.verilog_reader.proofs.Filling.{Entries, with_entries-append, mentioned_entries, mentions-append}
use Rattle.verilog_reader.proofs.FoldingPlaces.{Agree, settled, same_item, fine_item, same_expression, same_connection, fine_items, same_assigns, same_instances, has_fine_items}

pub mentioned-append : (es : Entries) (xs ys : List (List ℕ)) → with_mentioned es (xs ++ ys) ≡ with_mentioned (with_mentioned es xs) ys
mentioned-append es xs ys = ap (with_entries es) (mentions-append xs ys) ∙ with_entries-append es (mentioned_entries xs) (mentioned_entries ys)

pub items-append : (es : Entries) (xs ys : List Item) → with_items es (xs ++ ys) ≡ with_items (with_items es xs) ys
items-append es xs ys = ap (with_mentioned es) (flat_map-append mentions_of xs ys) ∙ mentioned-append es (flat_map mentions_of xs) (flat_map mentions_of ys)

pub left_is : {X : Type 0} (xs : List X) (i : ℕ) (x : X) → i < length xs → x ≡ get_or xs i x → drop i xs ≡ x ∷ drop (i + 1) xs
left_is xs i x lt at = drop_more xs i x lt ∙ ap (λ y. y ∷ drop (i + 1) xs) (sym at)

pub at_index : {X : Type 0} (P : X → Type 0) (xs : List X) (i : ℕ) (x : X) → i < length xs → x ≡ get_or xs i x → All P xs → P x
at_index P xs i x lt at all = subst P (sym at) (All-get_or P xs i x lt all)

pub first_of_all : {X : Type 0} (P : X → Type 0) (left rest : List X) (x : X) → left ≡ x ∷ rest → All P left → P x
first_of_all P left rest x is all = All-head P x rest (subst (All P) is all)

module _ {X : Type 0} (mentioned : X → List (List ℕ)) (M : List X → List (List ℕ)) (M_cons : (x : X) (xs : List X) → M (x ∷ xs) ≡ mentioned x ++ M xs)
    (old all : Entries) (left rest : List X) (x : X) (is : left ≡ x ∷ rest) (was : with_mentioned old (M left) ≡ all) where
  -- what a member mentions comes before the rest
  one_first : with_mentioned (with_mentioned old (mentioned x)) (M rest) ≡ all
  one_first = sym (mentioned-append old (mentioned x) (M rest)) ∙ ap (with_mentioned old) (sym (M_cons x rest) ∙ ap M (sym is)) ∙ was

  -- and is settled
  settled_first : Agree (with_mentioned old (mentioned x)) all (mentioned x)
  settled_first = subst (λ (all : Entries). Agree (with_mentioned old (mentioned x)) all (mentioned x)) one_first (settled old (mentioned x) (mentioned_entries (M rest)))

  nets_on : (new : Entries) → new ≡ with_mentioned old (mentioned x) → with_mentioned new (M rest) ≡ all
  nets_on new same = ap (λ (es : Entries). with_mentioned es (M rest)) same ∙ one_first

  -- so what is made of it is what all entries give
  made_on : {O : Type 0} (make : Entries → X → List O) (G : Entries → List X → List O) → ((y : X) (ys : List X) → G all (y ∷ ys) ≡ make all y ++ G all ys)
      → ((es more : Entries) → Agree es more (mentioned x) → make more x ≡ make es x)
      → (new : Entries) (out out' whole : List O) → new ≡ with_mentioned old (mentioned x) → out' ≡ out ++ make new x → out ++ G all left ≡ whole → out' ++ G all rest ≡ whole
  made_on {O} make G G_cons same new out out' whole so made so_far =
      ap (λ (l : List O). l ++ G all rest) (made ∙ ap (λ (es : Entries). out ++ make es x) so) ∙ append_assoc out (make (with_mentioned old (mentioned x)) x) (G all rest)
      ∙ ap (λ (l : List O). out ++ (l ++ G all rest)) (sym (same (with_mentioned old (mentioned x)) all settled_first))
      ∙ ap (λ (l : List O). out ++ l) (sym (G_cons x rest) ∙ ap (G all) (sym is)) ∙ so_far

-- the items of an expression
module _ (old all : Entries) (left rest : List Item) (x : Item) (is : left ≡ x ∷ rest) (was : with_items old left ≡ all) where
  pub item_fits : IsFineItem all x → IsFineItem (with_mentioned old (mentions_of x)) x
  item_fits fine = fine_item (with_mentioned old (mentions_of x)) all x (settled_first mentions_of (flat_map mentions_of) (λ x xs. refl) old all left rest x is was) fine

  pub item_nets : (new : Entries) → new ≡ with_mentioned old (mentions_of x) → with_items new rest ≡ all
  item_nets new same = nets_on mentions_of (flat_map mentions_of) (λ x xs. refl) old all left rest x is was new same

  pub item_bits : (new : Entries) (out out' whole : List Bit) → new ≡ with_mentioned old (mentions_of x) → out' ≡ out ++ numbered_item new x → out ++ numbered_items all left ≡ whole
      → out' ++ numbered_items all rest ≡ whole
  item_bits new out out' whole so made so_far =
      made_on mentions_of (flat_map mentions_of) (λ x xs. refl) old all left rest x is was numbered_item numbered_items (λ y ys. refl) (λ es more. same_item es more x) new out out' whole so made so_far

-- the connections of an instance
abbrev pub connection_mentions : List Connection → List (List ℕ)
connection_mentions cs = flat_map mentions_of (connection_items cs)

module _ (old all : Entries) (left rest : List Connection) (x : Connection) (is : left ≡ x ∷ rest) (was : with_items old (connection_items left) ≡ all) where
  cons : (c : Connection) (cs : List Connection) → connection_mentions (c ∷ cs) ≡ flat_map mentions_of c.expression.items ++ connection_mentions cs
  cons c cs = flat_map-append mentions_of c.expression.items (connection_items cs)

  pub connection_fits : IsFineExpression all x.expression → IsFineExpression (with_items old x.expression.items) x.expression
  connection_fits fine =
      fine_items (with_items old x.expression.items) all x.expression.items
      (settled_first (λ (c : Connection). flat_map mentions_of c.expression.items) connection_mentions cons old all left rest x is was) fine

  pub connection_nets : (new : Entries) → new ≡ with_items old x.expression.items → with_items new (connection_items rest) ≡ all
  connection_nets new same = nets_on (λ (c : Connection). flat_map mentions_of c.expression.items) connection_mentions cons old all left rest x is was new same

  pub connection_pins : (new : Entries) (out out' whole : List NetConnection) (pin : NetConnection) → new ≡ with_items old x.expression.items → pin ≡ numbered_connection new x → out' ≡ out ++ pin ∷ []
      → out ++ map (numbered_connection all) left ≡ whole → out' ++ map (numbered_connection all) rest ≡ whole
  connection_pins new out out' whole pin so made pushed so_far =
      made_on (λ (c : Connection). flat_map mentions_of c.expression.items) connection_mentions cons old all left rest x is was (λ es c. numbered_connection es c ∷ []) (λ es cs. map (numbered_connection es) cs)
      (λ y ys. refl) (λ es more agree. ap (λ (made : NetConnection). made ∷ []) (same_connection es more x agree)) new out out' whole so
      (pushed ∙ ap (λ (made : NetConnection). out ++ made ∷ []) made) so_far

-- statements
module _ (old all : Entries) (left rest : List Placed) (x : Placed) (is : left ≡ x ∷ rest) (was : with_mentioned old (mentions left) ≡ all) where
  pub statement_fits : HasFineItems all x.statement → HasFineItems (with_mentioned old (mentions_in x.statement)) x.statement
  statement_fits fine =
      has_fine_items (with_mentioned old (mentions_in x.statement)) all x.statement (settled_first (λ (p : Placed). mentions_in p.statement) mentions (λ x xs. refl) old all left rest x is was) fine

  pub statement_nets : (new : Entries) → new ≡ with_mentioned old (mentions_in x.statement) → with_mentioned new (mentions rest) ≡ all
  statement_nets new same = nets_on (λ (p : Placed). mentions_in p.statement) mentions (λ x xs. refl) old all left rest x is was new same

  pub statement_assigns : (new : Entries) (out out' whole : List Assign) → new ≡ with_mentioned old (mentions_in x.statement) → out' ≡ out ++ numbered_assigns_in new x.line x.statement
      → out ++ numbered_assigns all left ≡ whole → out' ++ numbered_assigns all rest ≡ whole
  statement_assigns new out out' whole so made so_far =
      made_on (λ (p : Placed). mentions_in p.statement) mentions (λ x xs. refl) old all left rest x is was (λ es p. numbered_assigns_in es p.line p.statement) numbered_assigns (λ y ys. refl)
      (λ es more. same_assigns es more x.line x.statement) new out out' whole so made so_far

  pub statement_instances : (new : Entries) (out out' whole : List Instance) → new ≡ with_mentioned old (mentions_in x.statement) → out' ≡ out ++ numbered_instances_in new x.line x.statement
      → out ++ numbered_instances all left ≡ whole → out' ++ numbered_instances all rest ≡ whole
  statement_instances new out out' whole so made so_far =
      made_on (λ (p : Placed). mentions_in p.statement) mentions (λ x xs. refl) old all left rest x is was (λ es p. numbered_instances_in es p.line p.statement) numbered_instances (λ y ys. refl)
      (λ es more. same_instances es more x.line x.statement) new out out' whole so made so_far

-- the sides of an assign: the left one is settled before the right one
sides_agree : (es : Entries) (xs ys : List Item) → Agree (with_items es xs) (with_items es (xs ++ ys)) (flat_map mentions_of xs)
sides_agree es xs ys =
    subst (λ (all : Entries). Agree (with_items es xs) all (flat_map mentions_of xs)) (sym (items-append es xs ys)) (settled es (flat_map mentions_of xs) (mentioned_entries (flat_map mentions_of ys)))

pub left_fits : (es : Entries) (l r : Expression) → IsFineExpression (with_items es (l.items ++ r.items)) l → IsFineExpression (with_items es l.items) l
left_fits es l r fine = fine_items (with_items es l.items) (with_items es (l.items ++ r.items)) l.items (sides_agree es l.items r.items) fine

pub right_fits : (es one : Entries) (l r : Expression) → one ≡ with_items es l.items → IsFineExpression (with_items es (l.items ++ r.items)) r → IsFineExpression (with_items one r.items) r
right_fits es one l r is fine =
    subst (λ (es : Entries). IsFineExpression es r) (items-append es l.items r.items ∙ ap (λ (es : Entries). with_items es r.items) (sym is)) fine

pub both_nets : (es one two : Entries) (xs ys : List Item) → one ≡ with_items es xs → two ≡ with_items one ys → two ≡ with_items es (xs ++ ys)
both_nets es one two xs ys first second = second ∙ ap (λ (es : Entries). with_items es ys) first ∙ sym (items-append es xs ys)

left_made : (es one two : Entries) (l r : Expression) (made : Expr) → one ≡ with_items es l.items → two ≡ with_items one r.items → made ≡ numbered_expression one l → made ≡ numbered_expression two l
left_made es one two l r made first second is =
    is ∙ ap (λ (es : Entries). numbered_expression es l) first ∙ sym (same_expression (with_items es l.items) (with_items es (l.items ++ r.items)) l (sides_agree es l.items r.items))
    ∙ ap (λ (es : Entries). numbered_expression es l) (sym (both_nets es one two l.items r.items first second))

pub assign_made : (es one two : Entries) (line : ℕ) (l r : Expression) (left right : Expr) → one ≡ with_items es l.items → two ≡ with_items one r.items → left ≡ numbered_expression one l
    → right ≡ numbered_expression two r → ◌≡◌ {A = Assign} (record { left = left; right = right; line = line }) (numbered_assign two line l r)
assign_made es one two line l r left right first second is_left is_right =
    let first_made = left_made es one two l r left first second is_left in
    λ j. record { left = first_made j; right = is_right j; line = line }
