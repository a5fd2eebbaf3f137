-- The places of connections and of right sides, in the statements and in their netlist.
use Rattle.std.proofs.Common.{◌≡◌, ℕ, zero, suc, ◌+◌, Bool, true, false, ◌⊎◌, inl, inr, ⊎_elim, List, [], ◌∷◌, ◌++◌, map, Option, Some, None, refl, sym, ap, ◌∙◌, subst}
use Rattle.std.specs.List.{flat_map, slice_get}
use Rattle.std.proofs.lemmas.List.{append-nil}
use Rattle.std.proofs.lemmas.List.Concat.{flat_map-append}
use Rattle.base_types.specs.declared.span.Span.{Span}
use Rattle.token_forms.specs.Parts.{Part, Fixed, Slot, list_parts}
use Rattle.splice.specs.Spliced.{AreRising}
use Rattle.verilog_syntax.specs.declared.statement.Range.{Range}
use Rattle.verilog_syntax.specs.declared.statement.Connection.{Connection}
use Rattle.verilog_syntax.specs.declared.statement.Statement.{Statement}
use Rattle.verilog_syntax.specs.declared.statement.Statement.TheVariants as statements
use Rattle.verilog_syntax.specs.declared.reading.Placed.{Placed}
use Rattle.verilog_syntax.specs.StatementParts.{expression_texts, texts_parts, name_parts, range_parts, connection_parts, header_parts, statement_parts}
use Rattle.verilog_syntax.specs.Laws.{module_parts}
use Rattle.netlist_core.specs.declared.netlist.NetName.{NetName}
use Rattle.netlist_core.specs.declared.netlist.Assign.{Assign}
use Rattle.netlist_core.specs.declared.netlist.Connection.{Connection as NetConnection}
use Rattle.netlist_core.specs.declared.netlist.Instance.{Instance}
use Rattle.verilog_names.specs.Declarations.{Declaration}
use Rattle.verilog_reader.specs.Denoted.{SeenAssign, SeenConnection, SeenInstance, seen_assign, seen_connection, seen_instance, said_connection, said_assigns_in, said_instances_in}
use Rattle.verilog_writer.specs.VerilogText.{places_in, IsOneOf, IsPlaceIn}
use Rattle.verilog_writer.proofs.Edited.{slot_edits}
use Rattle.verilog_writer.proofs.KeptLists.{Has, has_left, has_right, has_map, Spaced, spaced_left, spaced_right, spaced_behind, no_common}

-- the places of the slots
abbrev pub slot_places : List Part → List Span
slot_places [] = []
slot_places (Fixed w ∷ ps) = slot_places ps
slot_places (Slot o place ws c ∷ ps) = place ∷ slot_places ps

slots_spaced : (ps : List Part) (at end : ℕ) → AreRising at end (slot_edits ps) → Spaced at end (slot_places ps)
slots_spaced [] at end rising = tt
slots_spaced (Fixed w ∷ ps) at end rising = slots_spaced ps at end rising
slots_spaced (Slot o place ws c ∷ ps) at end rising = (rising.0, rising.1, rising.2, slots_spaced ps (place.end + 1) end rising.3)

pub slots_append : (ps qs : List Part) → slot_places (ps ++ qs) ≡ slot_places ps ++ slot_places qs
slots_append [] qs = refl
slots_append (Fixed w ∷ ps) qs = slots_append ps qs
slots_append (Slot o place ws c ∷ ps) qs = ap (λ (l : List Span). place ∷ l) (slots_append ps qs)

no_slots : (ws : List (List ℕ)) → slot_places (texts_parts ws) ≡ []
no_slots [] = refl
no_slots (w ∷ ws) = no_slots ws

no_name_slots : (closing : ℕ) (names : List (List ℕ)) → slot_places (list_parts name_parts closing names) ≡ []
no_name_slots closing [] = refl
no_name_slots closing (x ∷ []) = refl
no_name_slots closing (x ∷ y ∷ ys) = no_name_slots closing (y ∷ ys)

no_range_slots : (range : Option Range) → slot_places (range_parts range) ≡ []
no_range_slots None = refl
no_range_slots (Some range) = refl

no_header_slots : (listed : Bool) (ports : List (List ℕ)) → slot_places (header_parts listed ports) ≡ []
no_header_slots false ports = refl
no_header_slots true ports = slots_append (list_parts name_parts 41 ports) (Fixed (59 ∷ []) ∷ []) ∙ ap (λ (l : List Span). l ++ []) (no_name_slots 41 ports)

abbrev spans_of : List Connection → List Span
spans_of cs = map (λ (c : Connection). c.expression.span) cs

connection_slots : (closing : ℕ) (cs : List Connection) → slot_places (list_parts connection_parts closing cs) ≡ spans_of cs
connection_slots closing [] = refl
connection_slots closing (c ∷ []) = refl
connection_slots closing (c ∷ d ∷ ds) = ap (λ (l : List Span). c.expression.span ∷ l) (connection_slots closing (d ∷ ds))

pub statement_slots : (listed : Bool) (s : Statement) → slot_places (statement_parts listed s) ≡ places_in s
statement_slots listed (statements.Module name ports) = no_header_slots listed ports
statement_slots listed (statements.Declare kind range names) =
    slots_append (range_parts range) (list_parts name_parts 59 names)
    ∙ ap (λ (l : List Span). l ++ slot_places (list_parts name_parts 59 names)) (no_range_slots range)
    ∙ no_name_slots 59 names
statement_slots listed (statements.Assign left right) =
    slots_append (texts_parts (expression_texts left)) (Slot 61 right.span (expression_texts right) 59 ∷ [])
    ∙ ap (λ (l : List Span). l ++ right.span ∷ []) (no_slots (expression_texts left))
statement_slots listed (statements.Instance cell name connections) =
    slots_append (list_parts connection_parts 41 connections) (Fixed (59 ∷ []) ∷ []) ∙ append-nil (slot_places (list_parts connection_parts 41 connections)) ∙ connection_slots 41 connections

abbrev pub places : List Placed → List Span
places ps = flat_map (λ (p : Placed). places_in p.statement) ps

pub module_slots : (listed : Bool) (ps : List Placed) → slot_places (module_parts listed ps) ≡ places ps
module_slots listed [] = refl
module_slots listed (p ∷ ps) =
    slots_append (statement_parts listed p.statement) (module_parts listed ps)
    ∙ ap (λ (l : List Span). l ++ slot_places (module_parts listed ps)) (statement_slots listed p.statement)
    ∙ ap (λ (l : List Span). places_in p.statement ++ l) (module_slots listed ps)

pub places_spaced : (listed : Bool) (ps : List Placed) (end : ℕ) → AreRising 0 end (slot_edits (module_parts listed ps)) → Spaced 0 end (places ps)
places_spaced listed ps end rising = subst (λ (l : List Span). Spaced 0 end l) (module_slots listed ps) (slots_spaced (module_parts listed ps) 0 end rising)

-- those of connections, and those of right sides
abbrev pin_places_in : Statement → List Span
pin_places_in (statements.Module name ports) = []
pin_places_in (statements.Declare kind range names) = []
pin_places_in (statements.Assign left right) = []
pin_places_in (statements.Instance cell name connections) = spans_of connections

abbrev right_places_in : Statement → List Span
right_places_in (statements.Module name ports) = []
right_places_in (statements.Declare kind range names) = []
right_places_in (statements.Assign left right) = right.span ∷ []
right_places_in (statements.Instance cell name connections) = []

abbrev pub pin_places : List Placed → List Span
pin_places ps = flat_map (λ (p : Placed). pin_places_in p.statement) ps

abbrev pub right_places : List Placed → List Span
right_places ps = flat_map (λ (p : Placed). right_places_in p.statement) ps

-- each list of them, statement by statement
pins_more : (s : Statement) (rest less : List Span) (at end : ℕ) → ((from : ℕ) → Spaced from end rest → Spaced from end less) → Spaced at end (places_in s ++ rest) → Spaced at end (pin_places_in s ++ less)
pins_more (statements.Module name ports) rest less at end behind spaced = behind at spaced
pins_more (statements.Declare kind range names) rest less at end behind spaced = behind at spaced
pins_more (statements.Assign left right) rest less at end behind spaced = behind at (spaced_right (right.span ∷ []) rest at end spaced)
pins_more (statements.Instance cell name connections) rest less at end behind spaced = spaced_behind (spans_of connections) rest less at end behind spaced

pub pins_spaced : (ps : List Placed) (at end : ℕ) → Spaced at end (places ps) → Spaced at end (pin_places ps)
pins_spaced [] at end spaced = tt
pins_spaced (p ∷ ps) at end spaced = pins_more p.statement (places ps) (pin_places ps) at end (λ from more. pins_spaced ps from end more) spaced

rights_more : (s : Statement) (rest less : List Span) (at end : ℕ) → ((from : ℕ) → Spaced from end rest → Spaced from end less) → Spaced at end (places_in s ++ rest) → Spaced at end (right_places_in s ++ less)
rights_more (statements.Module name ports) rest less at end behind spaced = behind at spaced
rights_more (statements.Declare kind range names) rest less at end behind spaced = behind at spaced
rights_more (statements.Assign left right) rest less at end behind spaced = spaced_behind (right.span ∷ []) rest less at end behind spaced
rights_more (statements.Instance cell name connections) rest less at end behind spaced = behind at (spaced_right (spans_of connections) rest at end spaced)

pub rights_spaced : (ps : List Placed) (at end : ℕ) → Spaced at end (places ps) → Spaced at end (right_places ps)
rights_spaced [] at end spaced = tt
rights_spaced (p ∷ ps) at end spaced = rights_more p.statement (places ps) (right_places ps) at end (λ from more. rights_spaced ps from end more) spaced

module _ (place : Span) where
  pin_or_more : (s : Statement) (less rest : List Span) → (Has place less → Has place rest) → Has place (pin_places_in s ++ less) → Has place (places_in s ++ rest)
  pin_or_more (statements.Module name ports) less rest behind h = behind h
  pin_or_more (statements.Declare kind range names) less rest behind h = behind h
  pin_or_more (statements.Assign left right) less rest behind h = inr (behind h)
  pin_or_more (statements.Instance cell name connections) less rest behind h = by (spans_of connections) h
    where
      by : (xs : List Span) → Has place (xs ++ less) → Has place (xs ++ rest)
      by [] h = behind h
      by (x ∷ xs) h = ⊎_elim (λ (e : place ≡ x). inl e) (λ (l : Has place (xs ++ less)). inr (by xs l)) h

  pub pin_within : (ps : List Placed) → Has place (pin_places ps) → Has place (places ps)
  pin_within [] h = absurd h
  pin_within (p ∷ ps) h = pin_or_more p.statement (pin_places ps) (places ps) (λ l. pin_within ps l) h

  right_or_more : (s : Statement) (less rest : List Span) → (Has place less → Has place rest) → Has place (right_places_in s ++ less) → Has place (places_in s ++ rest)
  right_or_more (statements.Module name ports) less rest behind h = behind h
  right_or_more (statements.Declare kind range names) less rest behind h = behind h
  right_or_more (statements.Assign left right) less rest behind h = ⊎_elim (λ (e : place ≡ right.span). inl e) (λ (l : Has place less). inr (behind l)) h
  right_or_more (statements.Instance cell name connections) less rest behind h = has_right place (spans_of connections) rest (behind h)

  pub right_within : (ps : List Placed) → Has place (right_places ps) → Has place (places ps)
  right_within [] h = absurd h
  right_within (p ∷ ps) h = right_or_more p.statement (right_places ps) (places ps) (λ l. right_within ps l) h

  -- none is of both kinds
  two_kinds : (s : Statement) (ps : List Placed) (at end : ℕ) → Spaced at end (places_in s ++ places ps) → (Has place (pin_places ps) → Has place (right_places ps) → ⊥)
      → Has place (pin_places_in s ++ pin_places ps) → Has place (right_places_in s ++ right_places ps) → ⊥
  two_kinds (statements.Module name ports) ps at end spaced behind hp hr = behind hp hr
  two_kinds (statements.Declare kind range names) ps at end spaced behind hp hr = behind hp hr
  two_kinds (statements.Assign left right) ps at end spaced behind hp hr =
      ⊎_elim (λ (e : place ≡ right.span). no_common (right.span ∷ []) (places ps) at end place spaced (inl e) (pin_within ps hp)) (λ (l : Has place (right_places ps)). behind hp l) hr
  two_kinds (statements.Instance cell name connections) ps at end spaced behind hp hr = by (spans_of connections) hp (λ h. no_common (spans_of connections) (places ps) at end place spaced h (right_within ps hr))
    where
      by : (xs : List Span) → Has place (xs ++ pin_places ps) → (Has place xs → ⊥) → ⊥
      by [] h not = behind h hr
      by (x ∷ xs) h not = ⊎_elim (λ (e : place ≡ x). not (inl e)) (λ (l : Has place (xs ++ pin_places ps)). by xs l (λ k. not (inr k))) h

  pub one_kind : (ps : List Placed) (at end : ℕ) → Spaced at end (places ps) → Has place (pin_places ps) → Has place (right_places ps) → ⊥
  one_kind [] at end spaced hp hr = hp
  one_kind (p ∷ ps) at end spaced hp hr = two_kinds p.statement ps at end spaced (λ a b. one_kind ps at end (spaced_right (places_in p.statement) (places ps) at end spaced) a b) hp hr

  place_in_one : (xs : List Span) → Has place xs → IsOneOf place xs
  place_in_one [] h = h
  place_in_one (x ∷ xs) h = ⊎_elim (λ (e : place ≡ x). inl e) (λ (l : Has place xs). inr (place_in_one xs l)) h

  pub place_is_in : (ps : List Placed) → Has place (places ps) → IsPlaceIn place ps
  place_is_in [] h = h
  place_is_in (p ∷ ps) h = by (places_in p.statement) h (λ l. place_in_one (places_in p.statement) l) (λ l. place_is_in ps l)
    where
      by : (xs : List Span) → Has place (xs ++ places ps) → (Has place xs → IsOneOf place (places_in p.statement)) → (Has place (places ps) → IsPlaceIn place ps)
          → IsOneOf place (places_in p.statement) ⊎ IsPlaceIn place ps
      by [] h first behind = inr (behind h)
      by (x ∷ xs) h first behind = ⊎_elim (λ (e : place ≡ x). inl (first (inl e))) (λ (l : Has place (xs ++ places ps)). by xs l (λ k. first (inr k)) behind) h

-- the netlist has the same places
abbrev pub connection_spans : List NetConnection → List Span
connection_spans cs = map (λ (c : NetConnection). c.expr.span) cs

abbrev pub instance_spans : List Instance → List Span
instance_spans is = flat_map (λ (i : Instance). connection_spans i.connections) is

abbrev pub right_spans : List Assign → List Span
right_spans assigns = map (λ (a : Assign). a.right.span) assigns

abbrev seen_spans : SeenInstance → List Span
seen_spans i = map (λ (c : SeenConnection). c.expression.span) i.connections

connections_seen : (nets : List NetName) (cs : List NetConnection) → connection_spans cs ≡ map (λ (c : SeenConnection). c.expression.span) (map (seen_connection nets) cs)
connections_seen nets [] = refl
connections_seen nets (c ∷ cs) = ap (λ (l : List Span). c.expr.span ∷ l) (connections_seen nets cs)

instances_seen : (nets : List NetName) (is : List Instance) → instance_spans is ≡ flat_map seen_spans (map (seen_instance nets) is)
instances_seen nets [] = refl
instances_seen nets (i ∷ is) =
    ap (λ (l : List Span). l ++ instance_spans is) (connections_seen nets i.connections)
    ∙ ap (λ (l : List Span). map (λ (c : SeenConnection). c.expression.span) (map (seen_connection nets) i.connections) ++ l) (instances_seen nets is)

connections_said : (ds : List Declaration) (cs : List Connection) → map (λ (c : SeenConnection). c.expression.span) (map (said_connection ds) cs) ≡ spans_of cs
connections_said ds [] = refl
connections_said ds (c ∷ cs) = ap (λ (l : List Span). c.expression.span ∷ l) (connections_said ds cs)

instance_said : (ds : List Declaration) (line : ℕ) (s : Statement) → flat_map seen_spans (said_instances_in ds line s) ≡ pin_places_in s
instance_said ds line (statements.Module name ports) = refl
instance_said ds line (statements.Declare kind range names) = refl
instance_said ds line (statements.Assign left right) = refl
instance_said ds line (statements.Instance cell name connections) = append-nil (map (λ (c : SeenConnection). c.expression.span) (map (said_connection ds) connections)) ∙ connections_said ds connections

instances_said : (ds : List Declaration) (ps : List Placed) → flat_map seen_spans (flat_map (λ (p : Placed). said_instances_in ds p.line p.statement) ps) ≡ pin_places ps
instances_said ds [] = refl
instances_said ds (p ∷ ps) =
    flat_map-append seen_spans (said_instances_in ds p.line p.statement) (flat_map (λ (p : Placed). said_instances_in ds p.line p.statement) ps)
    ∙ ap (λ (l : List Span). l ++ flat_map seen_spans (flat_map (λ (p : Placed). said_instances_in ds p.line p.statement) ps)) (instance_said ds p.line p.statement)
    ∙ ap (λ (l : List Span). pin_places_in p.statement ++ l) (instances_said ds ps)

pub instances_placed : (nets : List NetName) (is : List Instance) (ds : List Declaration) (ps : List Placed) → map (seen_instance nets) is ≡ flat_map (λ (p : Placed). said_instances_in ds p.line p.statement) ps
    → instance_spans is ≡ pin_places ps
instances_placed nets is ds ps same = instances_seen nets is ∙ ap (λ (l : List SeenInstance). flat_map seen_spans l) same ∙ instances_said ds ps

assigns_seen : (nets : List NetName) (assigns : List Assign) → right_spans assigns ≡ map (λ (a : SeenAssign). a.right.span) (map (seen_assign nets) assigns)
assigns_seen nets [] = refl
assigns_seen nets (a ∷ assigns) = ap (λ (l : List Span). a.right.span ∷ l) (assigns_seen nets assigns)

assign_said : (ds : List Declaration) (line : ℕ) (s : Statement) (rest : List SeenAssign)
    → map (λ (a : SeenAssign). a.right.span) (said_assigns_in ds line s ++ rest) ≡ right_places_in s ++ map (λ (a : SeenAssign). a.right.span) rest
assign_said ds line (statements.Module name ports) rest = refl
assign_said ds line (statements.Declare kind range names) rest = refl
assign_said ds line (statements.Assign left right) rest = refl
assign_said ds line (statements.Instance cell name connections) rest = refl

assigns_said : (ds : List Declaration) (ps : List Placed) → map (λ (a : SeenAssign). a.right.span) (flat_map (λ (p : Placed). said_assigns_in ds p.line p.statement) ps) ≡ right_places ps
assigns_said ds [] = refl
assigns_said ds (p ∷ ps) =
    assign_said ds p.line p.statement (flat_map (λ (p : Placed). said_assigns_in ds p.line p.statement) ps) ∙ ap (λ (l : List Span). right_places_in p.statement ++ l) (assigns_said ds ps)

pub assigns_placed : (nets : List NetName) (assigns : List Assign) (ds : List Declaration) (ps : List Placed) → map (seen_assign nets) assigns ≡ flat_map (λ (p : Placed). said_assigns_in ds p.line p.statement) ps
    → right_spans assigns ≡ right_places ps
assigns_placed nets assigns ds ps same = assigns_seen nets assigns ∙ ap (λ (l : List SeenAssign). map (λ (a : SeenAssign). a.right.span) l) same ∙ assigns_said ds ps

-- a place tells its pin, and its assign
same_connection : (cs : List NetConnection) (at end : ℕ) (c d : NetConnection) → Spaced at end (connection_spans cs) → Has c cs → Has d cs → c.expr.span ≡ d.expr.span → c ≡ d
same_connection [] at end c d spaced hc hd same = absurd hc
same_connection (x ∷ xs) at end c d spaced hc hd same =
    let apart : (e : NetConnection) → Has e xs → e.expr.span ≡ x.expr.span → ⊥
    = λ e h is. no_common (x.expr.span ∷ []) (connection_spans xs) at end x.expr.span spaced (inl refl) (subst (λ (s : Span). Has s (connection_spans xs)) is (has_map (λ (c : NetConnection). c.expr.span) e xs h))
    in
    ⊎_elim
    (λ (a : c ≡ x). ⊎_elim (λ (b : d ≡ x). subst (λ (z : NetConnection). c ≡ z) (sym b) a) (λ (l : Has d xs). absurd (apart d l (sym same ∙ ap (λ (z : NetConnection). z.expr.span) a))) hd)
    (λ (k : Has c xs). ⊎_elim (λ (b : d ≡ x). absurd (apart c k (same ∙ ap (λ (z : NetConnection). z.expr.span) b)))
    (λ (l : Has d xs). same_connection xs (x.expr.span.end + 1) end c d spaced.3 k l same) hd) hc

pub has_span : (is : List Instance) (k : ℕ) (i : Instance) (c : NetConnection) → slice_get is k ≡ Some i → Has c i.connections → Has c.expr.span (instance_spans is)
has_span [] k i c at h = absurd cc
has_span (x ∷ xs) zero i c at h =
    let same : x ≡ i = cc in
    has_left c.expr.span (connection_spans x.connections) (instance_spans xs)
    (subst (λ (z : Instance). Has c.expr.span (connection_spans z.connections)) (sym same) (has_map (λ (c : NetConnection). c.expr.span) c i.connections h))
has_span (x ∷ xs) (suc k) i c at h = has_right c.expr.span (connection_spans x.connections) (instance_spans xs) (has_span xs k i c at h)

head_span : (x i : Instance) (c : NetConnection) → x ≡ i → Has c i.connections → Has c.expr.span (connection_spans x.connections)
head_span x i c same h = subst (λ (z : Instance). Has c.expr.span (connection_spans z.connections)) (sym same) (has_map (λ (c : NetConnection). c.expr.span) c i.connections h)

pub record AreOnePin (k l : ℕ) (c d : NetConnection) : Type 0 where
  pub instance : k ≡ l
  pub connection : c ≡ d

pub one_pin : (is : List Instance) (at end : ℕ) → Spaced at end (instance_spans is) → (k l : ℕ) (i j : Instance) (c d : NetConnection) → slice_get is k ≡ Some i → slice_get is l ≡ Some j
    → Has c i.connections → Has d j.connections → c.expr.span ≡ d.expr.span → AreOnePin k l c d
one_pin [] at end spaced k l i j c d ik jl hc hd same = absurd cc
one_pin (x ∷ xs) at end spaced zero zero i j c d ik jl hc hd same =
    let a : x ≡ i = cc in
    let b : x ≡ j = cc in
    let mine = spaced_left (connection_spans x.connections) (instance_spans xs) at end spaced in
    record {
      instance = refl;
      connection = same_connection x.connections at end c d mine (subst (λ (z : Instance). Has c z.connections) (sym a) hc) (subst (λ (z : Instance). Has d z.connections) (sym b) hd) same;
    }
one_pin (x ∷ xs) at end spaced zero (suc l) i j c d ik jl hc hd same =
    let a : x ≡ i = cc in
    absurd (no_common (connection_spans x.connections) (instance_spans xs) at end d.expr.span spaced
    (subst (λ (s : Span). Has s (connection_spans x.connections)) same (head_span x i c a hc)) (has_span xs l j d jl hd))
one_pin (x ∷ xs) at end spaced (suc k) zero i j c d ik jl hc hd same =
    let b : x ≡ j = cc in
    absurd (no_common (connection_spans x.connections) (instance_spans xs) at end c.expr.span spaced
    (subst (λ (s : Span). Has s (connection_spans x.connections)) (sym same) (head_span x j d b hd)) (has_span xs k i c ik hc))
one_pin (x ∷ xs) at end spaced (suc k) (suc l) i j c d ik jl hc hd same =
    let more = one_pin xs at end (spaced_right (connection_spans x.connections) (instance_spans xs) at end spaced) k l i j c d ik jl hc hd same in
    record { instance = ap (λ (n : ℕ). suc n) more.instance; connection = more.connection }

pub has_right_span : (assigns : List Assign) (k : ℕ) (a : Assign) → slice_get assigns k ≡ Some a → Has a.right.span (right_spans assigns)
has_right_span [] k a at = absurd cc
has_right_span (x ∷ xs) zero a at = let same : x ≡ a = cc in inl (ap (λ (z : Assign). z.right.span) (sym same))
has_right_span (x ∷ xs) (suc k) a at = inr (has_right_span xs k a at)

pub one_assign : (assigns : List Assign) (at end : ℕ) → Spaced at end (right_spans assigns) → (k l : ℕ) (a b : Assign) → slice_get assigns k ≡ Some a → slice_get assigns l ≡ Some b → a.right.span ≡ b.right.span → k ≡ l
one_assign [] at end spaced k l a b ak bl same = absurd cc
one_assign (x ∷ xs) at end spaced zero zero a b ak bl same = refl
one_assign (x ∷ xs) at end spaced zero (suc l) a b ak bl same =
    let e : x ≡ a = cc in
    absurd (no_common (x.right.span ∷ []) (right_spans xs) at end b.right.span spaced (inl (sym (ap (λ (z : Assign). z.right.span) e ∙ same))) (has_right_span xs l b bl))
one_assign (x ∷ xs) at end spaced (suc k) zero a b ak bl same =
    let e : x ≡ b = cc in
    absurd (no_common (x.right.span ∷ []) (right_spans xs) at end a.right.span spaced (inl (same ∙ sym (ap (λ (z : Assign). z.right.span) e))) (has_right_span xs k a ak))
one_assign (x ∷ xs) at end spaced (suc k) (suc l) a b ak bl same = ap (λ (n : ℕ). suc n) (one_assign xs (x.right.span.end + 1) end spaced.3 k l a b ak bl same)
