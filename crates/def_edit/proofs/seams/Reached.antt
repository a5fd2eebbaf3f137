-- From one place of a text to a token behind others: these stay whatever new text is put in its place.
use Rattle.std.proofs.Common.{◌≡◌, ℕ, zero, suc, ◌+◌, ◌-◌, ◌<◌, ◌≤◌, false, List, [], ◌∷◌, ◌++◌, length, take, drop, refl, sym, ap, ◌∙◌, subst, inl, inr, arith, codes}
use Rattle.std.specs.Str.{bytes_eq}
use Rattle.std.proofs.lemmas.Bool.{cases_lt}
use Rattle.std.proofs.lemmas.List.{take-take, drop-append-le, take-append-le}
use Rattle.base_types.specs.declared.span.Span.{Span}
use Rattle.token_forms.specs.declared.piece.Piece.TheVariants.{Blank, Token}
use Rattle.token_forms.specs.Pieces.{tokens_from, texts_from}
use Rattle.token_forms.specs.Runs.{bytes_of, texts_of, end_of}
use Rattle.token_forms.proofs.Fronts.{Front, front_nil, front_blank, front_token, part, part-append, part-drop, part-length, texts-step}
use Rattle.token_forms.proofs.Reaches.{Over, First, no_tokens, turn, first_is, rest_is, piece_bytes, Jumps, jump}
use Rattle.def_tokens.specs.DefTokens.{piece_at}
use Rattle.def_tokens.proofs.DefPieces.{def_cut}
use Rattle.def_edit.proofs.seams.SeamForm.{Starts, Hard, def_form, adjacent}

-- the token s is reached: the tokens before it are ws, whatever new text is put in its place
pub record Reached (text : List ℕ) (at : ℕ) (s : Span) (ws : List (List ℕ)) (later : List Span) : Type 0 where
  pub ordered : at ≤ s.start
  pub within : s.start < length text
  pub size : ℕ
  pub token : piece_at (drop s.start text) ≡ Token size
  pub ends : s.end ≡ s.start + size
  pub rest : tokens_from piece_at s.start 0 (drop s.start text) ≡ later
  pub front : Front piece_at Starts (part text at s.start) ws
  pub far : 0 < length ws → at < s.start

no_part : (text : List ℕ) (at : ℕ) → part text at at ≡ []
no_part text at = let e : at - at ≡ 0 = omega arith in rw e refl

module _ (text : List ℕ) (at n : ℕ) (some : 0 < n) (within : at + n ≤ length text) (s : Span) (ws : List (List ℕ)) (later : List Span) (r : Reached text (at + n) s ws later) where
  behind_blank : piece_at (drop at text) ≡ Blank n → Reached text at s ws later
  behind_blank is =
      let o = r.ordered in
      let w = r.within in
      let len = part-length text at s.start (omega arith) (omega arith) in
      let whole : piece_at (part text at s.start ++ drop s.start text) ≡ Blank n = ap piece_at (part-append text at s.start (omega arith)) ∙ is in
      record {
        ordered = omega arith;
        within = r.within;
        size = r.size;
        token = r.token;
        ends = r.ends;
        rest = r.rest;
        front = front_blank piece_at Starts Hard def_form n r.size (part text at s.start) (drop s.start text) ws some (omega arith) whole r.token
            (subst (λ (x : List ℕ). Front piece_at Starts x ws) (sym (part-drop text at n s.start r.ordered)) r.front);
        far = λ many. omega arith;
      }

  abbrev first_text : List ℕ
  first_text = take n (drop at text)

  -- a token with something between it and the seam
  behind_gap : piece_at (drop at text) ≡ Token n → at + n < s.start → Reached text at s (first_text ∷ ws) later
  behind_gap is gap =
      let w = r.within in
      let len = part-length text at s.start (omega arith) (omega arith) in
      let whole : piece_at (part text at s.start ++ drop s.start text) ≡ Token n = ap piece_at (part-append text at s.start (omega arith)) ∙ is in
      let same : take n (part text at s.start) ≡ first_text = take-take n (s.start - at) (drop at text) (omega arith) in
      record {
        ordered = omega arith;
        within = r.within;
        size = r.size;
        token = r.token;
        ends = r.ends;
        rest = r.rest;
        front = subst (λ (w : List ℕ). Front piece_at Starts (part text at s.start) (w ∷ ws)) same
            (front_token piece_at Starts Hard def_form n r.size (part text at s.start) (drop s.start text) ws tt (omega arith) whole r.token (subst (λ (x : List ℕ). Front piece_at Starts x ws) (sym (part-drop text at n s.start r.ordered)) r.front));
        far = λ many. omega arith;
      }

  goes_adjacent : (x z : List ℕ) → x ≡ part text at s.start → length x ≡ n → at + n ≡ s.start → piece_at (x ++ drop s.start text) ≡ Token n → bytes_eq (take r.size (drop s.start text)) (codes ";") ≡ false → Starts z
      → Front piece_at Starts (part text (at + n) s.start) ws → piece_at (x ++ z) ≡ Token n
  goes_adjacent [] z is len here whole firm starts f = absurd (omega arith)
  goes_adjacent (b ∷ bs) z is len here whole firm starts f =
      let whole' : piece_at (b ∷ bs ++ drop s.start text) ≡ Token (suc (length bs)) = whole ∙ ap (λ (m : ℕ). Token m) (sym len) in
      adjacent b bs (drop s.start text) z r.size r.token firm whole' ∙ ap (λ (m : ℕ). Token m) len

  -- a token that ends at the seam
  behind_quote : piece_at (drop at text) ≡ Token n → at + n ≡ s.start → bytes_eq (take r.size (drop s.start text)) (codes ";") ≡ false → Reached text at s (first_text ∷ ws) later
  behind_quote is here firm =
      let w = r.within in
      let x = part text at s.start in
      let len = part-length text at s.start (omega arith) (omega arith) in
      let whole : piece_at (x ++ drop s.start text) ≡ Token n = ap piece_at (part-append text at s.start (omega arith)) ∙ is in
      let same : take n x ≡ first_text = take-take n (s.start - at) (drop at text) (omega arith) in
      record {
        ordered = omega arith;
        within = r.within;
        size = r.size;
        token = r.token;
        ends = r.ends;
        rest = r.rest;
        front = record {
          goes = λ z sz.
              texts-step piece_at (x ++ z) (Token n) def_cut (goes_adjacent x z refl (omega arith) here whole firm sz r.front)
              ∙ ap (λ (w : List ℕ). w ∷ texts_from piece_at 0 (drop n (x ++ z))) (take-append-le n x z (omega arith) ∙ same)
              ∙ ap (λ (y : List ℕ). first_text ∷ texts_from piece_at 0 y) (drop-append-le n x z (omega arith) ∙ ap (λ (y : List ℕ). y ++ z) (part-drop text at n s.start r.ordered))
              ∙ ap (λ (l : List (List ℕ)). first_text ∷ l) (r.front.goes z sz);
        };
        far = λ many. omega arith;
      }

  behind_token : piece_at (drop at text) ≡ Token n → bytes_eq (take r.size (drop s.start text)) (codes ";") ≡ false → Reached text at s (first_text ∷ ws) later
  behind_token is firm =
      let o = r.ordered in
      elim (cases_lt (at + n) s.start) [ inl lt ↦ behind_gap is lt | inr ge ↦ behind_quote is (omega arith) firm ]

-- the token's bytes
pub token_bytes : (text : List ℕ) (s : Span) (n : ℕ) → s.end ≡ s.start + n → bytes_of text s ≡ take n (drop s.start text)
token_bytes text s n is = let e : s.end - s.start ≡ n = omega arith in ap (λ (m : ℕ). take m (drop s.start text)) e

pub reach : (k : ℕ) (text : List ℕ) (at : ℕ) (front : List Span) (s : Span) (ss : List Span) → length text ≤ at + k → bytes_eq (bytes_of text s) (codes ";") ≡ false
    → tokens_from piece_at at 0 (drop at text) ≡ front ++ s ∷ ss → Reached text at s (texts_of text front) (s ∷ ss)
reach zero text at [] s ss short firm e = absurd (no_tokens piece_at def_cut text at s ss (omega arith) e)
reach zero text at (f ∷ front) s ss short firm e = absurd (no_tokens piece_at def_cut text at f (front ++ s ∷ ss) (omega arith) e)
reach (suc k) text at [] s ss short firm e =
    elim (turn piece_at def_cut text at s ss e) [
      | Over n some within is more ↦ behind_blank text at n some within s [] (s ∷ ss) (reach k text (at + n) [] s ss (omega arith) firm more) is
      | First n rest some within is more whole ↦
          let here = first_is s _ ss rest whole in
          let begin : s.start ≡ at = ap (λ (x : Span). x.start) here in
          let end : s.end ≡ at + n = ap (λ (x : Span). x.end) here in
          record {
            ordered = omega arith;
            within = omega arith;
            size = n;
            token = rw begin is;
            ends = omega arith;
            rest = ap (λ (x : ℕ). tokens_from piece_at x 0 (drop x text)) begin ∙ e;
            front = rw (begin, no_part text at) (front_nil piece_at Starts Hard def_form);
            far = λ many. absurd (omega arith);
          }
    ]
reach (suc k) text at (f ∷ front) s ss short firm e =
    elim (turn piece_at def_cut text at f (front ++ s ∷ ss) e) [
      | Over n some within is more ↦ behind_blank text at n some within s (texts_of text (f ∷ front)) (s ∷ ss) (reach k text (at + n) (f ∷ front) s ss (omega arith) firm more) is
      | First n rest some within is more whole ↦
          let here = first_is f _ (front ++ s ∷ ss) rest whole in
          let bytes : bytes_of text f ≡ take n (drop at text) = ap (bytes_of text) here ∙ piece_bytes text at n in
          let r = reach k text (at + n) front s ss (omega arith) firm (more ∙ sym (rest_is f _ (front ++ s ∷ ss) rest whole)) in
          let firm' : bytes_eq (take r.size (drop s.start text)) (codes ";") ≡ false = subst (λ (w : List ℕ). bytes_eq w (codes ";") ≡ false) (token_bytes text s r.size r.ends) firm in
          subst (λ (w : List ℕ). Reached text at s (w ∷ texts_of text front) (s ∷ ss)) (sym bytes) (behind_token text at n some within s (texts_of text front) (s ∷ ss) r is firm')
    ]

-- where the tokens of a run end, the next one follows
pub run_end : (k : ℕ) (text : List ℕ) (at : ℕ) (s : Span) (ss later : List Span) → length text ≤ at + k → tokens_from piece_at at 0 (drop at text) ≡ s ∷ ss ++ later → Jumps piece_at text at (end_of s ss) later
run_end k text at s [] later short e = jump piece_at def_cut k text at [] s later short e
run_end k text at s (t ∷ ts) later short e =
    let j = jump piece_at def_cut k text at [] s (t ∷ ts ++ later) short e in
    let o = j.ordered in
    let r = run_end k text s.end t ts later (omega arith) j.rest in
    let o' = r.ordered in
    record { ordered = omega arith; within = r.within; rest = r.rest }
