-- The expressions of a text stand between the end of its header and endmodule, with a byte at least on both sides.
use Rattle.std.proofs.Common.{◌≡◌, ℕ, zero, suc, ◌+◌, ◌<◌, ◌≤◌, Bool, true, List, [], ◌∷◌, ◌++◌, length, map, codes, Ok, refl, sym, ap, ◌∙◌, subst, arith, append_assoc}
use Rattle.std.specs.List.{flat_map, AllByRecursion as Each}
use Rattle.base_types.specs.declared.span.Span.{Span}
use Rattle.token_forms.specs.Tokens.{Token, tokens_of}
use Rattle.token_forms.specs.Parts.{Part, Fixed, Slot, Fits, spelled}
use Rattle.token_forms.proofs.Spelled.{split_fits, fits_front}
use Rattle.splice.specs.declared.Edit.{Edit}
use Rattle.splice.specs.Spliced.{AreRising}
use Rattle.splice.proofs.Rising.{AreAhead, Ahead, Between, between, text_ahead}
use Rattle.splice.proofs.Tokens.{back}
use Rattle.std.proofs.lemmas.Bool.{false≢true}
use Rattle.verilog_syntax.specs.declared.statement.Statement.{Statement}
use Rattle.verilog_syntax.specs.declared.statement.Statement.TheVariants as statements
use Rattle.verilog_syntax.specs.declared.reading.Placed.{Placed}
use Rattle.verilog_syntax.specs.Reading.{read_statements}
use Rattle.verilog_syntax.specs.StatementParts.{statement_parts, is_header}
use Rattle.verilog_syntax.specs.Laws.{module_parts, tokens_in, AreGood}
use Rattle.verilog_syntax.proofs.Closing.{statement_shape}
use Rattle.verilog_syntax.proofs.SpelledLaw.{spelled_law}
use Rattle.verilog_writer.specs.VerilogText.{places_in}
use Rattle.verilog_writer.specs.Inserted.{header_end, last_start, put_in}
use Rattle.verilog_writer.proofs.Ends.{header}
use Rattle.verilog_writer.proofs.KeptLists.{Has, each_has}
use Rattle.verilog_writer.proofs.KeptPlaces.{places, slot_places, slots_append, statement_slots}
use Rattle.verilog_writer.proofs.Lines.{parts_of}
use Rattle.verilog_writer.proofs.Seams.{verilog}

-- a place between two others, with a byte on both sides
pub record IsWithin (low high : ℕ) (s : Span) : Type 0 where
  pub low_is : low + 1 ≤ s.start
  pub high_is : s.end + 1 ≤ high

-- the places of slots up to the last token
record AreWithin (low : ℕ) (end : ℕ) (ts : List Token) (ss : List Span) : Type 0 where
  first : Token
  rest : List Token
  some : ts ≡ first ∷ rest
  low_is : low ≤ last_start ts
  high_is : last_start ts < end
  each : Each (IsWithin low (last_start ts)) ss

lower_all : (a b high : ℕ) (ss : List Span) → a ≤ b → Each (IsWithin b high) ss → Each (IsWithin a high) ss
lower_all a b high [] le each = tt
lower_all a b high (s ∷ ss) le each = let x = each.0.low_is in (record { low_is = omega (arith, x); high_is = each.0.high_is }, lower_all a b high ss le each.1)

last_skip : (xs : List Token) (b : Token) (bs : List Token) → last_start (xs ++ b ∷ bs) ≡ last_start (b ∷ bs)
last_skip [] b bs = refl
last_skip (x ∷ []) b bs = refl
last_skip (x ∷ y ∷ xs) b bs = last_skip (y ∷ xs) b bs

slots_within : (ps : List Part) (w : List ℕ) (ts : List Token) (at end : ℕ) → Fits (ps ++ Fixed w ∷ []) [] ts → Ahead at end ts → AreWithin at end ts (slot_places ps)
slots_within [] w ts at end fits ahead =
    let only : ts ≡ fits.token ∷ [] = fits.is ∙ ap (λ (l : List Token). fits.token ∷ l) fits.more in
    let a : Ahead at end (fits.token ∷ []) = subst (Ahead at end) only ahead in
    let x = a.0 in
    let y = a.1 in
    let z = a.2 in
    let start : last_start ts ≡ fits.token.start = ap last_start only in
    record { first = fits.token; rest = []; some = only; low_is = omega (arith, x, start); high_is = omega (arith, y, z, start); each = tt }
slots_within (Fixed v ∷ ps) w ts at end fits ahead =
    let a : Ahead at end (fits.token ∷ fits.behind) = subst (Ahead at end) fits.is ahead in
    let r = slots_within ps w fits.behind fits.token.end end fits.more a.2 in
    let x = a.0 in
    let y = a.1 in
    let start : last_start ts ≡ last_start fits.behind
    = ap last_start fits.is ∙ ap (λ (l : List Token). last_start (fits.token ∷ l)) r.some ∙ ap last_start (sym r.some)
    in
    let low = r.low_is in
    let high = r.high_is in
    record {
      first = fits.token;
      rest = fits.behind;
      some = fits.is;
      low_is = omega (arith, low, x, y, start);
      high_is = omega (arith, high, start);
      each = subst (λ (m : ℕ). Each (IsWithin at m) (slot_places ps)) (sym start) (lower_all at fits.token.end (last_start fits.behind) (slot_places ps) (omega (arith, x, y)) r.each);
    }
slots_within (Slot o place vs c ∷ ps) w ts at end fits ahead =
    let a : Ahead at end (fits.mark ∷ (fits.run ++ fits.next ∷ fits.behind)) = subst (Ahead at end) fits.is ahead in
    let b = between fits.mark.end end place fits.run fits.next fits.behind fits.placed a.2 in
    let r = slots_within ps w fits.behind fits.next.end end fits.more b.ahead in
    let x = a.0 in
    let y = a.1 in
    let ordered = b.ordered in
    let inside = b.inside in
    let before = b.before in
    let here = b.here in
    let start : last_start ts ≡ last_start fits.behind
    = ap last_start fits.is
    ∙ ap (λ (l : List Token). last_start (fits.mark ∷ (fits.run ++ fits.next ∷ l))) r.some
    ∙ last_skip (fits.mark ∷ fits.run) fits.next (r.first ∷ r.rest)
    ∙ ap last_start (sym r.some)
    in
    let low = r.low_is in
    let high = r.high_is in
    record {
      first = fits.mark;
      rest = fits.run ++ fits.next ∷ fits.behind;
      some = fits.is;
      low_is = omega (arith, low, x, y, ordered, inside, before, here, start);
      high_is = omega (arith, high, start);
      each = (
        record { low_is = omega (arith, x, y, ordered); high_is = omega (arith, before, here, low, start) },
        subst (λ (m : ℕ). Each (IsWithin at m) (slot_places ps)) (sym start) (lower_all at fits.next.end (last_start fits.behind) (slot_places ps) (omega (arith, x, y, ordered, inside, before, here)) r.each),
      );
    }

-- tokens behind some others
ahead_behind : (at end : ℕ) (xs : List Token) (t : Token) (ts : List Token) → Ahead at end (xs ++ t ∷ ts) → Ahead t.end end ts
ahead_behind at end [] t ts a = a.2
ahead_behind at end (x ∷ xs) t ts a = ahead_behind x.end end xs t ts a.2

module_split : (listed : Bool) (ps : List Placed) → module_parts listed ps ≡ parts_of listed ps ++ Fixed (codes "endmodule") ∷ []
module_split listed [] = refl
module_split listed (p ∷ ps) =
    ap (λ (l : List Part). statement_parts listed p.statement ++ l) (module_split listed ps) ∙ sym (append_assoc (statement_parts listed p.statement) (parts_of listed ps) (Fixed (codes "endmodule") ∷ []))

parts_slots : (listed : Bool) (ps : List Placed) → slot_places (parts_of listed ps) ≡ places ps
parts_slots listed [] = refl
parts_slots listed (p ∷ ps) =
    slots_append (statement_parts listed p.statement) (parts_of listed ps) ∙ ap (λ (l : List Span). l ++ slot_places (parts_of listed ps)) (statement_slots listed p.statement)
    ∙ ap (λ (l : List Span). places_in p.statement ++ l) (parts_slots listed ps)

-- all places of expressions
pub record HasRoom (text : List ℕ) (ps : List Placed) : Type 0 where
  pub ordered : header_end (tokens_in text) ≤ last_start (tokens_in text)
  pub within : last_start (tokens_in text) < length text
  pub each : Each (IsWithin (header_end (tokens_in text)) (last_start (tokens_in text))) (places ps)

pub has_room : (text : List ℕ) (h : Placed) (body : List Placed) → read_statements text ≡ Ok (h ∷ body) → HasRoom text (h ∷ body)
has_room text h body read =
    let s = spelled_law text (h ∷ body) read in
    let tokens = tokens_in text in
    let cut = split_fits (statement_parts s.listed h.statement) (module_parts s.listed body) [] tokens s.fits in
    let f = fits_front (statement_parts s.listed h.statement) cut.middle tokens cut.first in
    let shape = statement_shape s.listed h.statement s.good.good.0 in
    let e = header f.front cut.middle shape.front (f.texts ∙ shape.is) shape.inner in
    let whole : tokens ≡ e.before ++ e.semicolon ∷ cut.middle = f.is ∙ ap (λ (l : List Token). l ++ cut.middle) e.is ∙ append_assoc e.before (e.semicolon ∷ []) cut.middle in
    let low : header_end tokens ≡ e.semicolon.end = ap header_end f.is ∙ e.ends in
    let ahead = ahead_behind 0 (length text) e.before e.semicolon cut.middle (subst (Ahead 0 (length text)) whole (text_ahead verilog text)) in
    let w = slots_within (parts_of s.listed body) (codes "endmodule") cut.middle e.semicolon.end (length text) (subst (λ (l : List Part). Fits l [] cut.middle) (module_split s.listed body) cut.second) ahead in
    let last : last_start tokens ≡ last_start cut.middle
    = ap last_start whole ∙ ap (λ (l : List Token). last_start (e.before ++ e.semicolon ∷ l)) w.some
    ∙ ap last_start (sym (append_assoc e.before (e.semicolon ∷ []) (w.first ∷ w.rest))) ∙ last_skip (e.before ++ e.semicolon ∷ []) w.first w.rest ∙ ap last_start (sym w.some)
    in
    let none : places (h ∷ body) ≡ places body = ap (λ (l : List Span). l ++ places body) (no_places h.statement s.good.order.0) in
    let a = w.low_is in
    let b = w.high_is in
    record {
      ordered = omega (arith, a, low, last);
      within = omega (arith, b, last);
      each = subst (λ (l : List Span). Each (IsWithin (header_end tokens) (last_start tokens)) l) (sym none)
          (subst (λ (m : ℕ). Each (IsWithin m (last_start tokens)) (places body)) (sym low)
          (subst (λ (m : ℕ). Each (IsWithin e.semicolon.end m) (places body)) (sym last) (subst (λ (l : List Span). Each (IsWithin e.semicolon.end (last_start cut.middle)) l) (parts_slots s.listed body) w.each)));
    }
  where
    no_places : (s : Statement) → is_header s ≡ true → places_in s ≡ []
    no_places (statements.Module name ports) is = refl
    no_places (statements.Declare kind range names) is = refl
    no_places (statements.Assign left right) is = absurd (false≢true is)
    no_places (statements.Instance cell name connections) is = absurd (false≢true is)

-- edits at such places rise with the lines around them
pub lines_rise : (low high end : ℕ) (wires assigns : List ℕ) (e : Edit) (es : List Edit) → high ≤ end → Each (λ (y : Edit). IsWithin low high y.span) (e ∷ es) → AreRising 0 end (e ∷ es) → AreRising 0 end (put_in low wires ∷ ((e ∷ es) ++ put_in high assigns ∷ []))
lines_rise low high end wires assigns e es le within rising =
    let a = within.0.low_is in
    let b = rising.1 in
    let c = within.0.high_is in
    (omega arith, omega arith, omega (arith, a, b, c, le), (a, rising.1, rising.2, behind es (e.span.end + 1) within.1 rising.3 c))
  where
    behind : (es : List Edit) (at : ℕ) → Each (λ (y : Edit). IsWithin low high y.span) es → AreRising at end es → at ≤ high → AreRising at end (es ++ put_in high assigns ∷ [])
    behind [] at within rising ordered = (ordered, omega arith, le, omega (arith, le))
    behind (y ∷ es) at within rising ordered = (rising.0, rising.1, rising.2, behind es (y.span.end + 1) within.1 rising.3 within.0.high_is)
