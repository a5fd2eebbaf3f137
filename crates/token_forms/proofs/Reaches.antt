-- From one place of a text to another, token by token, for any form of tokens.
use Rattle.std.proofs.Common.{◌≡◌, ℕ, zero, suc, ◌+◌, ◌-◌, ◌<◌, ◌≤◌, List, [], ◌∷◌, ◌++◌, length, take, drop, refl, sym, ap, ◌∙◌, subst, inl, inr, arith, length-drop}
use Rattle.std.proofs.lemmas.List.{drop-drop, drop_all, length-take, take-take, take-append-drop}
use Rattle.std.proofs.lemmas.Bool.{cases_lt}
use Rattle.base_types.specs.declared.span.Span.{Span}
use Rattle.token_forms.specs.declared.piece.Piece.{Piece}
use Rattle.token_forms.specs.declared.piece.Piece.TheVariants.{Blank, Token}
use Rattle.token_forms.specs.Pieces.{piece_len, tokens_from, texts_from}
use Rattle.token_forms.specs.Runs.{bytes_of, texts_of, end_of, IsRun}
use Rattle.token_forms.proofs.Cuts.{IsCut, Steps, steps}
use Rattle.token_forms.proofs.Fronts.{IsSeamForm, IsMark, Front, front_nil, front_blank, front_token, front_mark, part, part-append, part-drop, part-length, texts-step}

-- tokens behind a place: the first begins at it, or all stand behind a blank
pub data Turn (piece_at : List ℕ → Piece) (text : List ℕ) (at : ℕ) (ss : List Span) : Type 0 where
  Over : (n : ℕ) → 0 < n → at + n ≤ length text → piece_at (drop at text) ≡ Blank n → tokens_from piece_at (at + n) 0 (drop (at + n) text) ≡ ss → Turn piece_at text at ss
  First : (n : ℕ) (more : List Span) → 0 < n → at + n ≤ length text → piece_at (drop at text) ≡ Token n → tokens_from piece_at (at + n) 0 (drop (at + n) text) ≡ more
      → ss ≡ record { start = at; end = at + n } ∷ more → Turn piece_at text at ss

pub first_is : (s t : Span) (ss ts : List Span) → s ∷ ss ≡ t ∷ ts → s ≡ t
first_is s t ss ts e = cc

pub rest_is : (s t : Span) (ss ts : List Span) → s ∷ ss ≡ t ∷ ts → ss ≡ ts
rest_is s t ss ts e = cc

-- the span of a piece at a place has the piece's bytes
pub piece_bytes : (text : List ℕ) (at n : ℕ) → bytes_of text (record { start = at; end = at + n }) ≡ take n (drop at text)
piece_bytes text at n = let e : at + n - at ≡ n = omega arith in rw e refl

-- over some tokens to the end of the last one
pub record Jumps (piece_at : List ℕ → Piece) (text : List ℕ) (at to : ℕ) (later : List Span) : Type 0 where
  pub ordered : at ≤ to
  pub within : to ≤ length text
  pub rest : tokens_from piece_at to 0 (drop to text) ≡ later

module _ (piece_at : List ℕ → Piece) (cut : IsCut piece_at) where
  pub no_tokens : (text : List ℕ) (at : ℕ) (s : Span) (ss : List Span) → length text ≤ at → tokens_from piece_at at 0 (drop at text) ≡ s ∷ ss → ⊥
  unfolding tokens_from
  no_tokens text at s ss le is =
      let none : drop at text ≡ [] = drop_all at text le in
      let e : [] ≡ s ∷ ss = rw none at is in
      cc

  turn_of : (text : List ℕ) (at : ℕ) (ss : List Span) (p : Piece) → piece_at (drop at text) ≡ p → Steps piece_at text at p → tokens_from piece_at at 0 (drop at text) ≡ ss → Turn piece_at text at ss
  turn_of text at ss (Blank n) is st e = Over n st.some st.within is (sym st.same ∙ e)
  turn_of text at ss (Token n) is st e = First n (tokens_from piece_at (at + n) 0 (drop (at + n) text)) st.some st.within is refl (sym e ∙ st.same)

  pub turn : (text : List ℕ) (at : ℕ) (s : Span) (ss : List Span) → tokens_from piece_at at 0 (drop at text) ≡ s ∷ ss → Turn piece_at text at (s ∷ ss)
  turn text at s ss e =
      elim (cases_lt at (length text)) [
        | inl lt ↦ turn_of text at (s ∷ ss) (piece_at (drop at text)) refl (steps piece_at text at (piece_at (drop at text)) cut lt refl) e
        | inr le ↦ absurd (no_tokens text at s ss le e)
      ]

  pub jump : (k : ℕ) (text : List ℕ) (at : ℕ) (front : List Span) (last : Span) (ss : List Span) → length text ≤ at + k
      → tokens_from piece_at at 0 (drop at text) ≡ front ++ last ∷ ss → Jumps piece_at text at last.end ss
  jump zero text at [] last ss short e = absurd (no_tokens text at last ss (omega arith) e)
  jump zero text at (f ∷ front) last ss short e = absurd (no_tokens text at f (front ++ last ∷ ss) (omega arith) e)
  jump (suc k) text at [] last ss short e =
      elim (turn text at last ss e) [
        | Over n some within is more ↦
            let r = jump k text (at + n) [] last ss (omega arith) more in
            let o = r.ordered in
            record { ordered = omega arith; within = r.within; rest = r.rest }
        | First n rest some within is more whole ↦
            let here : last.end ≡ at + n = ap (λ (x : Span). x.end) (first_is last _ ss rest whole) in
            rw here (record { ordered = omega arith; within = within; rest = more ∙ sym (rest_is last _ ss rest whole) })
      ]
  jump (suc k) text at (f ∷ front) last ss short e =
      elim (turn text at f (front ++ last ∷ ss) e) [
        | Over n some within is more ↦
            let r = jump k text (at + n) (f ∷ front) last ss (omega arith) more in
            let o = r.ordered in
            record { ordered = omega arith; within = r.within; rest = r.rest }
        | First n rest some within is more whole ↦
            let r = jump k text (at + n) front last ss (omega arith) (more ∙ sym (rest_is f _ (front ++ last ∷ ss) rest whole)) in
            let o = r.ordered in
            record { ordered = omega arith; within = r.within; rest = r.rest }
      ]

  -- the tokens' texts are those of the spans
  texts_turn : (text : List ℕ) (at : ℕ) (p : Piece) → piece_at (drop at text) ≡ p → Steps piece_at text at p
      → texts_from piece_at 0 (drop (at + piece_len p) text) ≡ texts_of text (tokens_from piece_at (at + piece_len p) 0 (drop (at + piece_len p) text)) → texts_from piece_at 0 (drop at text) ≡ texts_of text (tokens_from piece_at at 0 (drop at text))
  texts_turn text at (Blank n) is st more =
      texts-step piece_at (drop at text) (Blank n) cut is ∙ ap (λ (z : List ℕ). texts_from piece_at 0 z) (drop-drop n at text) ∙ more ∙ ap (texts_of text) (sym st.same)
  texts_turn text at (Token n) is st more =
      texts-step piece_at (drop at text) (Token n) cut is
      ∙ ap (λ (z : List ℕ). take n (drop at text) ∷ texts_from piece_at 0 z) (drop-drop n at text)
      ∙ ap (λ (ts : List (List ℕ)). take n (drop at text) ∷ ts) more
      ∙ ap (λ (w : List ℕ). w ∷ texts_of text (tokens_from piece_at (at + n) 0 (drop (at + n) text))) (sym (piece_bytes text at n))
      ∙ ap (texts_of text) (sym st.same)

  pub texts_here : (k : ℕ) (text : List ℕ) (at : ℕ) → length text ≤ at + k → texts_from piece_at 0 (drop at text) ≡ texts_of text (tokens_from piece_at at 0 (drop at text))
  unfolding texts_from tokens_from
  texts_here zero text at short = let none : drop at text ≡ [] = drop_all at text (omega arith) in rw none refl
  texts_here (suc k) text at short =
      elim (cases_lt at (length text)) [
        | inl lt ↦
            let st = steps piece_at text at (piece_at (drop at text)) cut lt refl in
            let some = st.some in
            texts_turn text at (piece_at (drop at text)) refl st (texts_here k text (at + piece_len (piece_at (drop at text))) (omega arith))
        | inr le ↦ texts_here k text at (omega arith)
      ]

-- from a place to the token that begins at another: the tokens between are ws, whatever new text is put there
pub record Reaches (piece_at : List ℕ → Piece) (Starts : List ℕ → Type 0) (text : List ℕ) (at s : ℕ) (ws : List (List ℕ)) (later : List Span) : Type 0 where
  pub ordered : at ≤ s
  pub within : s < length text
  pub size : ℕ
  pub starts : piece_at (drop s text) ≡ Token size
  pub rest : tokens_from piece_at s 0 (drop s text) ≡ later
  pub front : Front piece_at Starts (part text at s) ws

-- the same further on: some tokens stand between
pub record Far (piece_at : List ℕ → Piece) (Starts Hard : List ℕ → Type 0) (text : List ℕ) (at s : ℕ) (ws : List (List ℕ)) (later : List Span) : Type 0 where
  pub far : at < s
  pub hard : Hard (part text at s)
  pub reaches : Reaches piece_at Starts text at s ws later

-- the place of a run: the tokens up to it, and those behind it
pub record Placed (piece_at : List ℕ → Piece) (Starts : List ℕ → Type 0) (text : List ℕ) (at : ℕ) (place : Span) (ws : List (List ℕ)) (later : List Span) : Type 0 where
  pub ordered : at ≤ place.start
  pub within : place.end ≤ length text
  pub front : Front piece_at Starts (part text at place.start) ws
  pub rest : tokens_from piece_at place.end 0 (drop place.end text) ≡ later

-- what stands before the seam makes it firm: a mark, or something between the last token and the seam
pub data Anchor (piece_at : List ℕ → Piece) (Starts Hard : List ℕ → Type 0) (text : List ℕ) (last s : Span) : Type 0 where
  Mark : (m : ℕ) → IsMark piece_at Starts Hard m → bytes_of text last ≡ m ∷ [] → Anchor piece_at Starts Hard text last s
  Gap : last.end < s.start → Hard (part text last.end s.start) → Anchor piece_at Starts Hard text last s

module _ (piece_at : List ℕ → Piece) (Starts Hard : List ℕ → Type 0) (form : IsSeamForm piece_at Starts Hard) where
  hard_append : (w x : List ℕ) → Hard x → Hard (w ++ x)
  hard_append [] x h = h
  hard_append (b ∷ w) x h = form.more b (w ++ x) (hard_append w x h)

  module _ (text : List ℕ) (at n : ℕ) (lt : at < length text) where
    part_cut : (s : ℕ) → at + n ≤ s → take n (part text at s) ++ part text (at + n) s ≡ part text at s
    part_cut s le = ap (λ (x : List ℕ). take n (part text at s) ++ x) (sym (part-drop text at n s le)) ∙ take-append-drop n (part text at s)

    hard_before : (s : ℕ) → at + n ≤ s → Hard (part text (at + n) s) → Hard (part text at s)
    hard_before s le h = subst Hard (part_cut s le) (hard_append (take n (part text at s)) (part text (at + n) s) h)

    reach_blank : (s : ℕ) (ws : List (List ℕ)) (rest : List Span) → piece_at (drop at text) ≡ Blank n → Reaches piece_at Starts text (at + n) s ws rest → Reaches piece_at Starts text at s ws rest
    reach_blank s ws rest is r =
        let st = steps piece_at text at (Blank n) form.cut lt (sym is) in
        let some : 0 < n = st.some in
        let o = r.ordered in
        let w = r.within in
        let ordered : at ≤ s = omega arith in
        let len = part-length text at s ordered (omega arith) in
        let whole : piece_at (part text at s ++ drop s text) ≡ Blank n = ap piece_at (part-append text at s ordered) ∙ is in
        record {
          ordered = ordered;
          within = r.within;
          size = r.size;
          starts = r.starts;
          rest = r.rest;
          front = front_blank piece_at Starts Hard form n r.size (part text at s) (drop s text) ws some (omega arith) whole r.starts (subst (λ (x : List ℕ). Front piece_at Starts x ws) (sym (part-drop text at n s r.ordered)) r.front);
        }

    reach_token : (s : ℕ) (ws : List (List ℕ)) (rest : List Span) → Hard (part text (at + n) s) → piece_at (drop at text) ≡ Token n → at + n < s → Reaches piece_at Starts text (at + n) s ws rest
        → Reaches piece_at Starts text at s (take n (drop at text) ∷ ws) rest
    reach_token s ws rest hard is far r =
        let w = r.within in
        let ordered : at ≤ s = omega arith in
        let len = part-length text at s ordered (omega arith) in
        let whole : piece_at (part text at s ++ drop s text) ≡ Token n = ap piece_at (part-append text at s ordered) ∙ is in
        let same : take n (part text at s) ≡ take n (drop at text) = take-take n (s - at) (drop at text) (omega arith) in
        record {
          ordered = ordered;
          within = r.within;
          size = r.size;
          starts = r.starts;
          rest = r.rest;
          front = subst (λ (w : List ℕ). Front piece_at Starts (part text at s) (w ∷ ws)) same
              (front_token piece_at Starts Hard form n r.size (part text at s) (drop s text) ws (hard_before s (omega arith) hard) (omega arith) whole r.starts (subst (λ (x : List ℕ). Front piece_at Starts x ws) (sym (part-drop text at n s r.ordered)) r.front));
        }

    -- a mark's piece: the part begins with it
    mark_cut : (m s : ℕ) → at + n ≤ s → take n (drop at text) ≡ m ∷ [] → part text at s ≡ m ∷ part text (at + n) s
    mark_cut m s le only =
        let same : take n (part text at s) ≡ take n (drop at text) = take-take n (s - at) (drop at text) (omega arith) in
        sym (part_cut s le) ∙ ap (λ (x : List ℕ). x ++ part text (at + n) s) (same ∙ only)

    reach_mark : (m s : ℕ) (ws : List (List ℕ)) (rest : List Span) → IsMark piece_at Starts Hard m → piece_at (drop at text) ≡ Token n → take n (drop at text) ≡ m ∷ [] → Reaches piece_at Starts text (at + n) s ws rest
        → Far piece_at Starts Hard text at s (take n (drop at text) ∷ ws) rest
    reach_mark m s ws rest mark is only r =
        let st = steps piece_at text at (Token n) form.cut lt (sym is) in
        let some : 0 < n = st.some in
        let o = r.ordered in
        let w = r.within in
        let ordered : at ≤ s = omega arith in
        let size : n ≡ 1 = sym (omega (arith, ap length only, length-take n (drop at text), length-drop at text, st.within)) in
        let cut : part text at s ≡ m ∷ part text (at + n) s = mark_cut m s r.ordered only in
        let whole : piece_at (m ∷ part text (at + n) s ++ drop s text) ≡ Token 1
        = ap (λ (x : List ℕ). piece_at (x ++ drop s text)) (sym cut) ∙ ap piece_at (part-append text at s ordered) ∙ is ∙ ap (λ (x : ℕ). Token x) size
        in
        record {
          far = omega arith;
          hard = subst Hard (sym cut) (mark.hard (part text (at + n) s));
          reaches = record {
            ordered = ordered;
            within = r.within;
            size = r.size;
            starts = r.starts;
            rest = r.rest;
            front = rw (cut, only) (front_mark piece_at Starts Hard form m r.size (part text (at + n) s) (drop s text) ws mark whole r.starts r.front);
          };
        }

  no_part : (text : List ℕ) (at : ℕ) → part text at at ≡ []
  no_part text at = let e : at - at ≡ 0 = omega arith in rw e refl

  -- blanks alone
  pub reach_none : (k : ℕ) (text : List ℕ) (at : ℕ) (s : Span) (ss : List Span) → length text ≤ at + k → tokens_from piece_at at 0 (drop at text) ≡ s ∷ ss → Reaches piece_at Starts text at s.start [] (s ∷ ss)
  reach_none zero text at s ss short e = absurd (no_tokens piece_at form.cut text at s ss (omega arith) e)
  reach_none (suc k) text at s ss short e =
      elim (turn piece_at form.cut text at s ss e) [
        | Over n some within is more ↦ reach_blank text at n (omega arith) s.start [] (s ∷ ss) is (reach_none k text (at + n) s ss (omega arith) more)
        | First n rest some within is more whole ↦
            let here : s.start ≡ at = ap (λ (x : Span). x.start) (first_is s _ ss rest whole) in
            subst (λ (x : ℕ). Reaches piece_at Starts text at x [] (s ∷ ss)) (sym here)
            (record { ordered = omega arith; within = omega arith; size = n; starts = is; rest = e; front = rw no_part (front_nil piece_at Starts Hard form) })
      ]

  -- the last token before the seam
  anchored : (text : List ℕ) (at n : ℕ) (lt : at < length text) (last s : Span) (ss : List Span) → piece_at (drop at text) ≡ Token n → last ≡ record { start = at; end = at + n } → Anchor piece_at Starts Hard text last s
      → Reaches piece_at Starts text (at + n) s.start [] (s ∷ ss) → Far piece_at Starts Hard text at s.start (bytes_of text last ∷ []) (s ∷ ss)
  anchored text at n lt last s ss is here (Mark m mark only) r =
      let bytes : bytes_of text last ≡ take n (drop at text) = ap (bytes_of text) here ∙ piece_bytes text at n in
      rw bytes (reach_mark text at n lt m s.start [] (s ∷ ss) mark is (sym bytes ∙ only) r)
  anchored text at n lt last s ss is here (Gap far hard) r =
      let bytes : bytes_of text last ≡ take n (drop at text) = ap (bytes_of text) here ∙ piece_bytes text at n in
      let end : last.end ≡ at + n = ap (λ (x : Span). x.end) here in
      let hard' : Hard (part text (at + n) s.start) = rw (← end) hard in
      let far' : at + n < s.start = rw (← end) far in
      record {
        far = omega arith;
        hard = hard_before text at n lt s.start (omega arith) hard';
        reaches = rw bytes (reach_token text at n lt s.start [] (s ∷ ss) hard' is far' r);
      }

  -- up to the last token before the seam, and behind it to the seam
  pub reach : (k : ℕ) (text : List ℕ) (at : ℕ) (front : List Span) (last s : Span) (ss : List Span) → length text ≤ at + k → Anchor piece_at Starts Hard text last s
      → tokens_from piece_at at 0 (drop at text) ≡ front ++ last ∷ s ∷ ss → Far piece_at Starts Hard text at s.start (texts_of text (front ++ last ∷ [])) (s ∷ ss)
  reach zero text at [] last s ss short anchor e = absurd (no_tokens piece_at form.cut text at last (s ∷ ss) (omega arith) e)
  reach zero text at (f ∷ front) last s ss short anchor e = absurd (no_tokens piece_at form.cut text at f (front ++ last ∷ s ∷ ss) (omega arith) e)
  reach (suc k) text at [] last s ss short anchor e =
      elim (turn piece_at form.cut text at last (s ∷ ss) e) [
        | Over n some within is more ↦
            let r = reach k text (at + n) [] last s ss (omega arith) anchor more in
            let far = r.far in
            record { far = omega arith; hard = hard_before text at n (omega arith) s.start (omega arith) r.hard; reaches = reach_blank text at n (omega arith) s.start _ (s ∷ ss) is r.reaches }
        | First n rest some within is more whole ↦
            anchored text at n (omega arith) last s ss is (first_is last _ (s ∷ ss) rest whole) anchor
            (reach_none k text (at + n) s ss (omega arith) (more ∙ sym (rest_is last _ (s ∷ ss) rest whole)))
      ]
  reach (suc k) text at (f ∷ front) last s ss short anchor e =
      elim (turn piece_at form.cut text at f (front ++ last ∷ s ∷ ss) e) [
        | Over n some within is more ↦
            let r = reach k text (at + n) (f ∷ front) last s ss (omega arith) anchor more in
            let far = r.far in
            record { far = omega arith; hard = hard_before text at n (omega arith) s.start (omega arith) r.hard; reaches = reach_blank text at n (omega arith) s.start _ (s ∷ ss) is r.reaches }
        | First n rest some within is more whole ↦
            let here = first_is f _ (front ++ last ∷ s ∷ ss) rest whole in
            let bytes : bytes_of text f ≡ take n (drop at text) = ap (bytes_of text) here ∙ piece_bytes text at n in
            let r = reach k text (at + n) front last s ss (omega arith) anchor (more ∙ sym (rest_is f _ (front ++ last ∷ s ∷ ss) rest whole)) in
            let far = r.far in
            record {
              far = omega arith;
              hard = hard_before text at n (omega arith) s.start (omega arith) r.hard;
              reaches = rw bytes (reach_token text at n (omega arith) s.start _ (s ∷ ss) r.hard is r.far r.reaches);
            }
      ]

  -- where the tokens of a run end, the next one follows
  run_end : (k : ℕ) (text : List ℕ) (at : ℕ) (s : Span) (ss : List Span) (later : List Span) → length text ≤ at + k → tokens_from piece_at at 0 (drop at text) ≡ s ∷ ss ++ later → Jumps piece_at text at (end_of s ss) later
  run_end k text at s [] later short e = jump piece_at form.cut k text at [] s later short e
  run_end k text at s (t ∷ ts) later short e =
      let j = jump piece_at form.cut k text at [] s (t ∷ ts ++ later) short e in
      let o = j.ordered in
      let r = run_end k text s.end t ts later (omega arith) j.rest in
      let o' = r.ordered in
      record { ordered = omega arith; within = r.within; rest = r.rest }

  -- up to the place of a run, and behind it
  pub placed : (text : List ℕ) (at : ℕ) (place : Span) (front : List Span) (last : Span) (run : List Span) (next : Span) (behind : List Span)
      → ((s : Span) → s.start ≡ place.start → Anchor piece_at Starts Hard text last s) → IsRun place run next → tokens_from piece_at at 0 (drop at text) ≡ front ++ last ∷ (run ++ next ∷ behind)
      → Placed piece_at Starts text at place (texts_of text (front ++ last ∷ [])) (next ∷ behind)
  placed text at place front last [] next behind anchor run is =
      let r = (reach (length text) text at front last next behind (omega arith) (anchor next (sym run.0)) is).reaches in
      let w = r.within in
      record { front = rw run.0 r.front; ordered = rw run.0 r.ordered; within = rw run.1 (omega arith); rest = rw run.1 r.rest }
  placed text at place front last (s ∷ ss) next behind anchor run is =
      let r = (reach (length text) text at front last s (ss ++ next ∷ behind) (omega arith) (anchor s (sym run.0)) is).reaches in
      let j = run_end (length text) text s.start s ss (next ∷ behind) (omega arith) r.rest in
      record { front = rw run.0 r.front; ordered = rw run.0 r.ordered; within = rw run.1 j.within; rest = rw run.1 j.rest }

-- before a mark stands nothing that it ends not: Stop is what ends a new text
module _ (piece_at : List ℕ → Piece) (cut : IsCut piece_at) (Stop : List ℕ → Type 0) (by_blank : (z : List ℕ) (n : ℕ) → piece_at z ≡ Blank n → Stop z) where
  by_mark : (n m : ℕ) (z : List ℕ) → ((x : List ℕ) → Stop (m ∷ x)) → take n z ≡ m ∷ [] → Stop z
  by_mark zero m z stop e = absurd cc
  by_mark (suc n) m [] stop e = absurd cc
  by_mark (suc n) m (b ∷ bs) stop e = let is : b ≡ m = cc in rw is (stop bs)

  pub stops : (text : List ℕ) (at m : ℕ) (mark : Span) (ss : List Span) → ((x : List ℕ) → Stop (m ∷ x)) → bytes_of text mark ≡ m ∷ [] → tokens_from piece_at at 0 (drop at text) ≡ mark ∷ ss → Stop (drop at text)
  stops text at m mark ss stop only e =
      elim (turn piece_at cut text at mark ss e) [
        | Over n some within is more ↦ by_blank (drop at text) n is
        | First n rest some within is more whole ↦
            let here = first_is mark _ ss rest whole in
            let bytes : take n (drop at text) ≡ m ∷ [] = sym (ap (bytes_of text) here ∙ piece_bytes text at n) ∙ only in
            by_mark n m (drop at text) stop bytes
      ]
