-- The places that edits may replace are those of slots between two marks.
use Rattle.std.proofs.Common.{◌≡◌, ℕ, Bool, true, false, ◌⊎◌, inl, inr, ⊎_elim, List, [], ◌∷◌, ◌++◌, map, Option, Some, None, refl}
use Rattle.base_types.specs.declared.span.Span.{Span}
use Rattle.token_forms.specs.Parts.{Part, Fixed, Slot, list_parts}
use Rattle.splice.proofs.Parts.{AreMarked}
use Rattle.verilog_syntax.specs.declared.statement.Range.{Range}
use Rattle.verilog_syntax.specs.declared.statement.Connection.{Connection}
use Rattle.verilog_syntax.specs.declared.statement.Statement.{Statement}
use Rattle.verilog_syntax.specs.declared.statement.Statement.TheVariants as statements
use Rattle.verilog_syntax.specs.declared.reading.Placed.{Placed}
use Rattle.verilog_syntax.specs.StatementParts.{expression_texts, texts_parts, name_parts, range_parts, connection_parts, header_parts, statement_parts}
use Rattle.verilog_syntax.specs.Laws.{module_parts}
use Rattle.verilog_writer.specs.VerilogText.{places_in, IsOneOf, IsPlaceIn}
use Rattle.verilog_writer.proofs.Seams.{verilog}

-- the place is that of a slot
abbrev pub IsSlotOf : Span → List Part → Type 0
IsSlotOf place [] = ⊥
IsSlotOf place (Fixed w ∷ ps) = IsSlotOf place ps
IsSlotOf place (Slot o p ws c ∷ ps) = (place ≡ p) ⊎ IsSlotOf place ps

module _ (place : Span) where
  in_front : (ps qs : List Part) → IsSlotOf place ps → IsSlotOf place (ps ++ qs)
  in_front [] qs h = absurd h
  in_front (Fixed w ∷ ps) qs h = in_front ps qs h
  in_front (Slot o p ws c ∷ ps) qs h = ⊎_elim (λ (e : place ≡ p). inl e) (λ (l : IsSlotOf place ps). inr (in_front ps qs l)) h

  behind : (ps qs : List Part) → IsSlotOf place qs → IsSlotOf place (ps ++ qs)
  behind [] qs h = h
  behind (Fixed w ∷ ps) qs h = behind ps qs h
  behind (Slot o p ws c ∷ ps) qs h = inr (behind ps qs h)

  in_connections : (closing : ℕ) (cs : List Connection) → IsOneOf place (map (λ (c : Connection). c.expression.span) cs) → IsSlotOf place (list_parts connection_parts closing cs)
  in_connections closing [] h = absurd h
  in_connections closing (c ∷ []) h = ⊎_elim (λ (e : place ≡ c.expression.span). inl e) (λ (n : ⊥). absurd n) h
  in_connections closing (c ∷ d ∷ ds) h =
      ⊎_elim (λ (e : place ≡ c.expression.span). inl e) (λ (l : IsOneOf place (map (λ (c : Connection). c.expression.span) (d ∷ ds))). inr (in_connections closing (d ∷ ds) l)) h

  in_statement : (listed : Bool) (s : Statement) → IsOneOf place (places_in s) → IsSlotOf place (statement_parts listed s)
  in_statement listed (statements.Module name ports) h = absurd h
  in_statement listed (statements.Declare kind range names) h = absurd h
  in_statement listed (statements.Assign left right) h =
      behind (texts_parts (expression_texts left)) (Slot 61 right.span (expression_texts right) 59 ∷ []) h
  in_statement listed (statements.Instance cell name connections) h = in_front (list_parts connection_parts 41 connections) (Fixed (59 ∷ []) ∷ []) (in_connections 41 connections h)

  pub in_module : (listed : Bool) (ps : List Placed) → IsPlaceIn place ps → IsSlotOf place (module_parts listed ps)
  in_module listed [] h = absurd h
  in_module listed (p ∷ ps) h =
      ⊎_elim (λ (l : IsOneOf place (places_in p.statement)). in_front (statement_parts listed p.statement) (module_parts listed ps) (in_statement listed p.statement l))
      (λ (l : IsPlaceIn place ps). behind (statement_parts listed p.statement) (module_parts listed ps) (in_module listed ps l)) h

-- the marks of the slots are marks
abbrev Marked : List Part → Type 0
Marked ps = AreMarked verilog ps

marked_append : (ps qs : List Part) → Marked ps → Marked qs → Marked (ps ++ qs)
marked_append [] qs m n = n
marked_append (Fixed w ∷ ps) qs m n = marked_append ps qs m n
marked_append (Slot o p ws c ∷ ps) qs m n = (m.0, m.1, marked_append ps qs m.2 n)

marked_list : {X : Type 0} (parts : X → List Part) (closing : ℕ) (xs : List X) → ((x : X) → Marked (parts x)) → Marked (list_parts parts closing xs)
marked_list parts closing [] each = tt
marked_list parts closing (x ∷ []) each = marked_append (parts x) (Fixed (closing ∷ []) ∷ []) (each x) tt
marked_list parts closing (x ∷ y ∷ ys) each = marked_append (parts x) (Fixed (44 ∷ []) ∷ list_parts parts closing (y ∷ ys)) (each x) (marked_list parts closing (y ∷ ys) each)

marked_texts : (ws : List (List ℕ)) → Marked (texts_parts ws)
marked_texts [] = tt
marked_texts (w ∷ ws) = marked_texts ws

marked_range : (range : Option Range) → Marked (range_parts range)
marked_range None = tt
marked_range (Some range) = tt

marked_header : (listed : Bool) (ports : List (List ℕ)) → Marked (header_parts listed ports)
marked_header false ports = tt
marked_header true ports = marked_append (list_parts name_parts 41 ports) (Fixed (59 ∷ []) ∷ []) (marked_list name_parts 41 ports (λ n. tt)) tt

marked_statement : (listed : Bool) (s : Statement) → Marked (statement_parts listed s)
marked_statement listed (statements.Module name ports) = marked_header listed ports
marked_statement listed (statements.Declare kind range names) = marked_append (range_parts range) (list_parts name_parts 59 names) (marked_range range) (marked_list name_parts 59 names (λ n. tt))
marked_statement listed (statements.Assign left right) =
    marked_append (texts_parts (expression_texts left)) (Slot 61 right.span (expression_texts right) 59 ∷ []) (marked_texts (expression_texts left)) (refl, refl, tt)
marked_statement listed (statements.Instance cell name connections) =
    marked_append (list_parts connection_parts 41 connections) (Fixed (59 ∷ []) ∷ []) (marked_list connection_parts 41 connections (λ c. (refl, refl, tt))) tt

pub marked_module : (listed : Bool) (ps : List Placed) → Marked (module_parts listed ps)
marked_module listed [] = tt
marked_module listed (p ∷ ps) = marked_append (statement_parts listed p.statement) (module_parts listed ps) (marked_statement listed p.statement) (marked_module listed ps)
