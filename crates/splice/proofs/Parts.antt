-- Tokens that are spelled by parts, and the same with some parts replaced.
use Rattle.std.proofs.Common.{◌≡◌, ℕ, true, suc, ◌+◌, ◌≤◌, List, [], ◌∷◌, ◌++◌, length, map, refl, sym, ap, ◌∙◌, subst, arith, append_assoc}
use Rattle.std.proofs.lemmas.List.{map-append, append-nil}
use Rattle.base_types.specs.declared.span.Span.{Span}
use Rattle.token_forms.specs.Tokens.{Token}
use Rattle.std.specs.List.{AllByRecursion as Each}
use Rattle.splice.specs.declared.Edit.{Edit}
use Rattle.token_forms.specs.Parts.{Part, Fixed, Slot, Fits, spelled, token_texts}
use Rattle.token_forms.proofs.Spelled.{spelled_append, split_fits, fits_front}
use Rattle.splice.proofs.Edited.{AreEdits}
use Rattle.splice.proofs.Seams.{Seams, texts_in, IsReady}
use Rattle.splice.proofs.Tokens.{AreSwapped}

module _ (s : Seams) where
  -- the marks of the slots are marks
  abbrev pub AreMarked : List Part → Type 0
  AreMarked [] = Unit {0}
  AreMarked (Fixed w ∷ ps) = AreMarked ps
  AreMarked (Slot opening place ws closing ∷ ps) = (s.marks opening ≡ true) × (s.marks closing ≡ true) × AreMarked ps

  pub marked_behind : (ps qs : List Part) → AreMarked (ps ++ qs) → AreMarked qs
  marked_behind [] qs m = m
  marked_behind (Fixed w ∷ ps) qs m = marked_behind ps qs m
  marked_behind (Slot o sp ws c ∷ ps) qs m = marked_behind ps qs m.2

  pub marked_append : (ps qs : List Part) → AreMarked ps → AreMarked qs → AreMarked (ps ++ qs)
  marked_append [] qs m n = n
  marked_append (Fixed w ∷ ps) qs m n = marked_append ps qs m n
  marked_append (Slot o sp ws c ∷ ps) qs m n = (m.0, m.1, marked_append ps qs m.2 n)

  -- one more token in front
  swapped_more : (t : Token) (es : List Edit) (ts : List Token) (ws : List (List ℕ)) → AreSwapped s es ts ws → AreSwapped s es (t ∷ ts) (t.text ∷ ws)
  swapped_more t [] ts ws sw = ap (λ (l : List (List ℕ)). t.text ∷ l) sw
  swapped_more t (e ∷ es) ts ws sw = record {
    front = t ∷ sw.front;
    mark = sw.mark;
    run = sw.run;
    next = sw.next;
    behind = sw.behind;
    opening = sw.opening;
    closing = sw.closing;
    cut = ap (λ (l : List Token). t ∷ l) sw.cut;
    opens = sw.opens;
    opens_is = sw.opens_is;
    closes = sw.closes;
    closes_is = sw.closes_is;
    place = sw.place;
    ready = sw.ready;
    later = sw.later;
    news = ap (λ (l : List (List ℕ)). t.text ∷ l) sw.news;
    more = sw.more;
  }

  news_of : (front : List Token) (mark next : Token) (before later qs : List Part) (o c : ℕ) (sp : Span) (ws : List (List ℕ)) → qs ≡ before ++ Slot o sp ws c ∷ later
      → token_texts front ≡ spelled before → mark.text ≡ o ∷ [] → next.text ≡ c ∷ [] → spelled qs ≡ token_texts (front ++ mark ∷ []) ++ (ws ++ next.text ∷ spelled later)
  news_of front mark next before later qs o c sp ws edited texts opens closes =
      ap spelled edited ∙ spelled_append before (Slot o sp ws c ∷ later)
      ∙ sym (ap (λ (l : List (List ℕ)). l ++ (ws ++ next.text ∷ spelled later)) (map-append (λ t. t.text) front (mark ∷ []))
      ∙ rw (opens, closes, texts) (append_assoc (spelled before) ((o ∷ []) ∷ []) (ws ++ (c ∷ []) ∷ spelled later)))

  -- the tokens are swapped where the parts are
  pub swapped_parts : (es : List Edit) (ps qs : List Part) (ts : List Token) → AreMarked ps → Each (λ (e : Edit). IsReady s e.text) es → Fits ps [] ts → AreEdits (texts_in s) es ps qs → AreSwapped s es ts (spelled qs)
  swapped_parts [] ps qs ts marked ready fits edits =
      let f = fits_front ps [] ts fits in
      ap spelled edits ∙ sym f.texts ∙ ap token_texts (sym (f.is ∙ append-nil f.front))
  swapped_parts (e ∷ es) ps qs ts marked ready fits edits =
      let cut = split_fits edits.before (Slot edits.opening e.span edits.inner edits.closing ∷ edits.behind) [] ts (subst (λ (l : List Part). Fits l [] ts) edits.is fits) in
      let f = fits_front edits.before cut.middle ts cut.first in
      let slot = cut.second in
      let marks = marked_behind edits.before (Slot edits.opening e.span edits.inner edits.closing ∷ edits.behind) (subst AreMarked edits.is marked) in
      let more = swapped_parts es edits.behind edits.later slot.behind marks.2 ready.1 slot.more edits.more in
      record {
        front = f.front;
        mark = slot.mark;
        run = slot.run;
        next = slot.next;
        behind = slot.behind;
        opening = edits.opening;
        closing = edits.closing;
        cut = f.is ∙ ap (λ (l : List Token). f.front ++ l) slot.is;
        opens = marks.0;
        opens_is = slot.opens;
        closes = marks.1;
        closes_is = slot.closes;
        place = slot.placed;
        ready = ready.0;
        later = slot.next.text ∷ spelled edits.later;
        news = news_of f.front slot.mark slot.next edits.before edits.later qs edits.opening edits.closing e.span (texts_in s e.text) edits.edited f.texts slot.opens slot.closes;
        more = swapped_more slot.next es slot.behind (spelled edits.later) more;
      }
