-- Rising edits at the places of slots are edits of the parts, and make the changed parts.
use Rattle.std.proofs.Common.{◌≡◌, ℕ, ◌+◌, ◌<◌, true, false, ⊎_elim, List, [], ◌∷◌, ◌++◌, length, refl, sym, ap, subst, arith}
use Rattle.std.specs.Prelude.{◌==◌}
use Rattle.std.proofs.lemmas.Bool.{ne_eqb}
use Rattle.std.proofs.lemmas.Bool.Decides.{nat_tests}
use Rattle.std.specs.List.{AllByRecursion as Each}
use Rattle.splice.proofs.Seams.{IsReady}
use Rattle.verilog_syntax.specs.VerilogTokens.{texts}
use Rattle.base_types.specs.declared.span.Span.{Span}
use Rattle.token_forms.specs.Parts.{Part, Fixed, Slot, Fits}
use Rattle.splice.specs.declared.Edit.{Edit}
use Rattle.splice.specs.Spliced.{AreRising}
use Rattle.splice.proofs.Edited.{AreEdits}
use Rattle.splice.proofs.Joined.{edits_join}
use Rattle.splice.proofs.Law.{are_rising}
use Rattle.verilog_syntax.specs.Laws.{tokens_in}
use Rattle.verilog_syntax.specs.StatementParts.{item_texts}
use Rattle.verilog_writer.specs.VerilogText.{BitEdit, net_item, text_edits, is_at, IsNetBit}
use Rattle.verilog_writer.proofs.Bits.{bit_item}
use Rattle.verilog_writer.proofs.Changed.{new_texts, changed_parts, changed_none}
use Rattle.verilog_writer.proofs.Seams.{verilog, ready}
use Rattle.verilog_writer.proofs.Slots.{IsSlotOf}

-- parts in front that stay
edits_behind : (xs : List Part) (es : List Edit) (ps qs : List Part) → AreEdits texts es ps qs → AreEdits texts es (xs ++ ps) (xs ++ qs)
edits_behind xs es ps qs f = edits_join texts [] es xs xs ps qs refl f

-- an edit at each slot: that these rise says that the slots stand in order
abbrev pub slot_edits : List Part → List Edit
slot_edits [] = []
slot_edits (Fixed w ∷ ps) = slot_edits ps
slot_edits (Slot o place ws c ∷ ps) = record { span = place; text = [] } ∷ slot_edits ps

abbrev emptied : List Part → List Part
emptied [] = []
emptied (Fixed w ∷ ps) = Fixed w ∷ emptied ps
emptied (Slot o place ws c ∷ ps) = Slot o place (texts []) c ∷ emptied ps

slots_edited : (ps : List Part) → AreEdits texts (slot_edits ps) ps (emptied ps)
slots_edited [] = refl
slots_edited (Fixed w ∷ ps) = edits_behind (Fixed w ∷ []) (slot_edits ps) ps (emptied ps) (slots_edited ps)
slots_edited (Slot o place ws c ∷ ps) = record { before = []; opening = o; inner = ws; closing = c; behind = ps; later = emptied ps; is = refl; edited = refl; more = slots_edited ps }

pub slots_rising : (text : List ℕ) (ps : List Part) → Fits ps [] (tokens_in text) → AreRising 0 (length text) (slot_edits ps)
slots_rising text ps fits = are_rising verilog text (slot_edits ps) ps (emptied ps) fits (slots_edited ps)

-- places are compared by both ends
same_number : (n : ℕ) → (n == n) ≡ true
same_number n = grind (arith, nat_tests)

pub at_same : (a b : Span) → a ≡ b → is_at a b ≡ true
at_same a b e = subst (λ (s : Span). is_at a s ≡ true) e (rw (same_number a.start) (same_number a.end))

pub at_apart : (a b : Span) → (a.start ≡ b.start → ⊥) → is_at a b ≡ false
at_apart a b ne = rw (ne_eqb a.start b.start ne) refl

-- later edits, and later slots
edits_later : (edits : List BitEdit) (n at end : ℕ) → n < at → AreRising at end (text_edits edits) → Each (λ (e : BitEdit). n < e.span.start) edits
edits_later [] n at end lt rising = tt
edits_later (e ∷ edits) n at end lt rising =
    let a = rising.0 in
    let b = rising.1 in
    (omega arith, edits_later edits n (e.span.end + 1) end (omega arith) rising.3)

slot_later : (ps : List Part) (n at end : ℕ) (place : Span) → n < at → AreRising at end (slot_edits ps) → IsSlotOf place ps → n < place.start
slot_later [] n at end place lt order h = absurd h
slot_later (Fixed w ∷ ps) n at end place lt order h = slot_later ps n at end place lt order h
slot_later (Slot o p ws c ∷ ps) n at end place lt order h =
    let a = order.0 in
    let b = order.1 in
    ⊎_elim (λ (e : place ≡ p). let s = ap (λ (x : Span). x.start) e in omega arith) (λ (l : IsSlotOf place ps). slot_later ps n (p.end + 1) end place (omega arith) order.3 l) h

-- an edit before all slots changes none
passed : (ps : List Part) (e : BitEdit) (edits : List BitEdit) (at end : ℕ) → e.span.start < at → AreRising at end (slot_edits ps) → changed_parts (e ∷ edits) ps ≡ changed_parts edits ps
passed [] e edits at end lt order = refl
passed (Fixed w ∷ ps) e edits at end lt order = ap (λ (l : List Part). Fixed w ∷ l) (passed ps e edits at end lt order)
passed (Slot o p ws c ∷ ps) e edits at end lt order =
    let a = order.0 in
    let b = order.1 in
    let apart = at_apart e.span p (λ (s : e.span.start ≡ p.start). omega arith) in
    rw (apart, passed ps e edits (p.end + 1) end (omega arith) order.3) refl

-- nor do edits behind a slot change it
stays : (edits : List BitEdit) (place : Span) (ws : List (List ℕ)) → Each (λ (e : BitEdit). place.start < e.span.start) edits → new_texts edits place ws ≡ ws
stays [] place ws later = refl
stays (e ∷ edits) place ws later =
    let a = later.0 in
    rw (at_apart e.span place (λ (s : e.span.start ≡ place.start). omega arith)) (stays edits place ws later.1)

not_here : (o c : ℕ) (place : Span) (ws : List (List ℕ)) (ps : List Part) (edits : List BitEdit) → Each (λ (e : BitEdit). place.start < e.span.start) edits
    → Each (λ (e : BitEdit). IsSlotOf e.span (Slot o place ws c ∷ ps)) edits → Each (λ (e : BitEdit). IsSlotOf e.span ps) edits
not_here o c place ws ps [] later slots = tt
not_here o c place ws ps (e ∷ edits) later slots =
    let a = later.0 in
    (⊎_elim (λ (is : e.span ≡ place). let s = ap (λ (x : Span). x.start) is in absurd (omega arith)) (λ (l : IsSlotOf e.span ps). l) slots.0, not_here o c place ws ps edits later.1 slots.1)

abbrev pub AreMade : List BitEdit → List Part → Type 0
AreMade edits ps = AreEdits texts (text_edits edits) ps (changed_parts edits ps)

-- the first edit is of the first slot
here : (o c : ℕ) (place : Span) (ws : List (List ℕ)) (ps : List Part) (e : BitEdit) (edits : List BitEdit) → e.span ≡ place → IsNetBit e.bit → changed_parts (e ∷ edits) ps ≡ changed_parts edits ps
    → AreMade edits ps → AreMade (e ∷ edits) (Slot o place ws c ∷ ps)
here o c place ws ps e edits is bit past made = record {
  before = [];
  opening = o;
  inner = ws;
  closing = c;
  behind = ps;
  later = changed_parts edits ps;
  is = ap (λ (s : Span). Slot o s ws c ∷ ps) (sym is);
  edited = rw (at_same e.span place is, past, (bit_item e.bit bit).texts.are) (ap (λ (s : Span). Slot o s (item_texts (net_item e.bit)) c ∷ changed_parts edits ps) (sym is));
  more = made;
}

-- all edits are of later ones
there : (o c : ℕ) (place : Span) (ws : List (List ℕ)) (ps : List Part) (edits : List BitEdit) → Each (λ (e : BitEdit). place.start < e.span.start) edits → AreMade edits ps
    → AreMade edits (Slot o place ws c ∷ ps)
there o c place ws ps edits later made =
    subst (λ (new : List (List ℕ)). AreEdits texts (text_edits edits) (Slot o place ws c ∷ ps) (Slot o place new c ∷ changed_parts edits ps)) (sym (stays edits place ws later))
    (edits_behind (Slot o place ws c ∷ []) (text_edits edits) ps (changed_parts edits ps) made)

pub edits_made : (ps : List Part) (edits : List BitEdit) (at from end : ℕ) → AreRising at end (slot_edits ps) → AreRising from end (text_edits edits)
    → Each (λ (e : BitEdit). IsSlotOf e.span ps) edits → Each (λ (e : BitEdit). IsNetBit e.bit) edits → AreMade edits ps
edits_made ps [] at from end order rising slots bits = changed_none ps
edits_made [] (e ∷ edits) at from end order rising slots bits = absurd slots.0
edits_made (Fixed w ∷ ps) (e ∷ edits) at from end order rising slots bits =
    edits_behind (Fixed w ∷ []) (text_edits (e ∷ edits)) ps (changed_parts (e ∷ edits) ps) (edits_made ps (e ∷ edits) at from end order rising slots bits)
edits_made (Slot o place ws c ∷ ps) (e ∷ edits) at from end order rising slots bits =
    let inside = order.1 in
    let ordered = rising.1 in
    ⊎_elim
    (λ (is : e.span ≡ place).
    let start = ap (λ (x : Span). x.start) is in
    let later = edits_later edits place.start (e.span.end + 1) end (omega arith) rising.3 in
    let past = passed ps e edits (place.end + 1) end (omega arith) order.3 in
    here o c place ws ps e edits is bits.0 past (edits_made ps edits (place.end + 1) (e.span.end + 1) end order.3 rising.3 (not_here o c place ws ps edits later slots.1) bits.1))
    (λ (l : IsSlotOf e.span ps).
    let first = slot_later ps place.start (place.end + 1) end e.span (omega arith) order.3 l in
    let later = edits_later edits place.start (e.span.end + 1) end (omega arith) rising.3 in
    there o c place ws ps (e ∷ edits) (first, later) (edits_made ps (e ∷ edits) (place.end + 1) from end order.3 rising (l, not_here o c place ws ps edits later slots.1) bits))
    slots.0

pub edits_ready : (edits : List BitEdit) → Each (λ (e : BitEdit). IsNetBit e.bit) edits → Each (λ (e : Edit). IsReady verilog e.text) (text_edits edits)
edits_ready [] bits = tt
edits_ready (e ∷ edits) bits = (ready _ (bit_item e.bit bits.0).texts.ready, edits_ready edits bits.1)
