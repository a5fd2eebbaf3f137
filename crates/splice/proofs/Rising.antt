-- Edits of parts that a text spells stand in it in their order.
use Rattle.std.proofs.Common.{◌≡◌, ℕ, zero, suc, ◌+◌, ◌<◌, ◌≤◌, List, [], ◌∷◌, ◌++◌, length, drop, map, refl, sym, ap, ◌∙◌, subst, arith}
use Rattle.base_types.specs.declared.span.Span.{Span}
use Rattle.token_forms.specs.Pieces.{tokens_from}
use Rattle.token_forms.specs.Tokens.{Token, tokens_of}
use Rattle.token_forms.proofs.Reaches.{Turn, Over, First, turn}
use Rattle.splice.specs.declared.Edit.{Edit}
use Rattle.splice.specs.Spliced.{AreRising}
use Rattle.token_forms.specs.Parts.{Part, Fixed, Slot, Fits, IsPlace, last_end}
use Rattle.token_forms.proofs.Spelled.{split_fits, fits_front}
use Rattle.splice.proofs.Edited.{AreEdits}
use Rattle.splice.proofs.Seams.{Seams, spans_in, texts_in}
use Rattle.splice.proofs.Tokens.{back, back_again}

-- spans one behind the other, each of a byte at least
abbrev pub AreAhead : ℕ → ℕ → List Span → Type 0
AreAhead at end [] = at ≤ end
AreAhead at end (s ∷ ss) = (at ≤ s.start) × (s.start < s.end) × AreAhead s.end end ss

ahead_from : (at to end : ℕ) (ss : List Span) → at ≤ to → AreAhead to end ss → AreAhead at end ss
ahead_from at to end [] le a = omega arith
ahead_from at to end (s ∷ ss) le a = let o = a.0 in (omega arith, a.1, a.2)

abbrev pub Ahead : ℕ → ℕ → List Token → Type 0
Ahead at end ts = AreAhead at end (map back ts)

-- tokens in front are passed over
record Past (at end : ℕ) (ts : List Token) : Type 0 where
  pub from : ℕ
  pub ordered : at ≤ from
  pub ahead : Ahead from end ts

past : (at end : ℕ) (front ts : List Token) → Ahead at end (front ++ ts) → Past at end ts
past at end [] ts a = record { from = at; ordered = omega arith; ahead = a }
past at end (t ∷ front) ts a =
    let p = past t.end end front ts a.2 in
    let x = a.0 in
    let y = a.1 in
    let z = p.ordered in
    record { from = p.from; ordered = omega arith; ahead = p.ahead }

-- a run of tokens: where the next one stands
record Ran (at end : ℕ) (t : Token) (run : List Token) (next : Token) (behind : List Token) : Type 0 where
  pub some : t.start < last_end t run
  pub before : last_end t run ≤ next.start
  pub here : next.start < next.end
  pub ahead : Ahead next.end end behind

ran : (at end : ℕ) (t : Token) (run : List Token) (next : Token) (behind : List Token) → Ahead at end (t ∷ run ++ next ∷ behind) → Ran at end t run next behind
ran at end t [] next behind a = record { some = a.1; before = a.2.0; here = a.2.1; ahead = a.2.2 }
ran at end t (u ∷ us) next behind a =
    let r = ran t.end end u us next behind a.2 in
    let x = a.1 in
    let y = a.2.0 in
    let z = r.some in
    record { some = omega arith; before = r.before; here = r.here; ahead = r.ahead }

-- a place between two marks
pub record Between (at end : ℕ) (place : Span) (next : Token) (behind : List Token) : Type 0 where
  pub ordered : at ≤ place.start
  pub inside : place.start ≤ place.end
  pub before : place.end ≤ next.start
  pub here : next.start < next.end
  pub ahead : Ahead next.end end behind

pub between : (at end : ℕ) (place : Span) (run : List Token) (next : Token) (behind : List Token) → IsPlace place run next → Ahead at end (run ++ next ∷ behind) → Between at end place next behind
between at end place [] next behind is a =
    let x = is.0 in
    let y = is.1 in
    let o = a.0 in
    record { ordered = omega arith; inside = omega arith; before = omega arith; here = a.1; ahead = a.2 }
between at end place (t ∷ run) next behind is a =
    let x = is.0 in
    let y = is.1 in
    let o = a.0 in
    let r = ran at end t run next behind a in
    let s = r.some in
    let b = r.before in
    record { ordered = omega arith; inside = omega arith; before = omega arith; here = r.here; ahead = r.ahead }

pub ends : (at end : ℕ) (ts : List Token) → Ahead at end ts → at ≤ end
ends at end [] a = a
ends at end (t ∷ ts) a = let r = ends t.end end ts a.2 in let x = a.0 in let y = a.1 in omega arith

module _ (s : Seams) where
  tokens_ahead : (k : ℕ) (text : List ℕ) (at : ℕ) (ss : List Span) → at ≤ length text → length text ≤ at + k → tokens_from s.piece_at at 0 (drop at text) ≡ ss → AreAhead at (length text) ss
  tokens_ahead k text at [] within short e = within
  tokens_ahead zero text at (t ∷ ss) within short e =
      elim (turn s.piece_at s.form.cut text at t ss e) [
        | Over n some inside is more ↦ absurd (omega arith)
        | First n rest some inside is more whole ↦ absurd (omega arith)
      ]
  tokens_ahead (suc k) text at (t ∷ ss) within short e =
      elim (turn s.piece_at s.form.cut text at t ss e) [
        | Over n some inside is more ↦ ahead_from at (at + n) (length text) (t ∷ ss) (omega arith) (tokens_ahead k text (at + n) (t ∷ ss) inside (omega arith) more)
        | First n rest some inside is more whole ↦
            let here : t ≡ record { start = at; end = at + n } = cc in
            let start = ap (λ (x : Span). x.start) here in
            let end = ap (λ (x : Span). x.end) here in
            let later : ss ≡ rest = cc in
            let r = tokens_ahead k text (at + n) rest inside (omega arith) more in
            (omega arith, omega arith, subst (λ (n : ℕ). AreAhead n (length text) ss) (sym end) (subst (AreAhead (at + n) (length text)) (sym later) r))
      ]

  pub rising : (es : List Edit) (ps qs : List Part) (ts : List Token) (at end : ℕ) → Fits ps [] ts → AreEdits (texts_in s) es ps qs → Ahead at end ts → AreRising at end es
  rising [] ps qs ts at end fits edits a = let e = ends at end ts a in omega arith
  rising (e ∷ es) ps qs ts at end fits edits a =
      let cut = split_fits edits.before (Slot edits.opening e.span edits.inner edits.closing ∷ edits.behind) [] ts (subst (λ (l : List Part). Fits l [] ts) edits.is fits) in
      let f = fits_front edits.before cut.middle ts cut.first in
      let slot = cut.second in
      let p = past at end f.front cut.middle (subst (Ahead at end) f.is a) in
      let here : Ahead p.from end (slot.mark ∷ (slot.run ++ slot.next ∷ slot.behind)) = subst (Ahead p.from end) slot.is p.ahead in
      let b = between slot.mark.end end e.span slot.run slot.next slot.behind slot.placed here.2 in
      let more = rising es edits.behind edits.later slot.behind slot.next.end end slot.more edits.more b.ahead in
      let close = ends slot.next.end end slot.behind b.ahead in
      let x = p.ordered in
      let y = here.0 in
      let z = here.1 in
      let u = b.ordered in
      let v = b.before in
      let w = b.here in
      (omega arith, b.inside, omega arith, later es (e.span.end + 1) slot.next.end end (omega arith) more)
    where
      later : (es : List Edit) (at to end : ℕ) → at ≤ to → AreRising to end es → AreRising at end es
      later [] at to end le r = omega arith
      later (e ∷ es) at to end le r = let o = r.0 in (omega arith, r.1, r.2, r.3)

  pub text_ahead : (text : List ℕ) → Ahead 0 (length text) (tokens_of text (spans_in s text))
  text_ahead text =
      subst (AreAhead 0 (length text)) (sym (back_again text (spans_in s text))) (tokens_ahead (length text) text 0 (spans_in s text) (omega arith) (omega arith) refl)
