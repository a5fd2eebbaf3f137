-- Behind a semicolon anything may follow: the tokens up to it stay. Blanks between it and a token stay blank before another one.
use Rattle.std.proofs.Common.{◌≡◌, ℕ, zero, suc, ◌+◌, ◌-◌, ◌<◌, ◌≤◌, Bool, true, false, cond, List, [], ◌∷◌, ◌++◌, length, take, drop, refl, sym, ap, ◌∙◌, subst, arith, length-append, append_assoc}
use Rattle.std.specs.List.{prefix_len}
use Rattle.std.proofs.lemmas.Bool.{and_right}
use Rattle.std.proofs.lemmas.List.{drop-drop, drop-append-le, take-append-le, take-append-drop, length-take, length-drop, take-take}
use Rattle.base_types.specs.declared.span.Span.{Span}
use Rattle.token_forms.specs.declared.piece.Piece.TheVariants.{Blank, Token}
use Rattle.token_forms.specs.Pieces.{tokens_from}
use Rattle.token_forms.specs.Runs.{bytes_of, texts_of}
use Rattle.token_forms.proofs.Fronts.{texts-step, part, part-append, part-drop, part-length}
use Rattle.token_forms.proofs.Reaches.{Over, First, turn, first_is, rest_is, piece_bytes, no_tokens, reach_none}
use Rattle.verilog_syntax.specs.VerilogTokens.{is_blank, piece_at, texts}
use Rattle.verilog_syntax.specs.Seams.{Starts}
use Rattle.verilog_syntax.proofs.VerilogPieces.{verilog_cut}
use Rattle.verilog_syntax.proofs.VerilogSeams.{is_inner, Hard, verilog_seams}
use Rattle.verilog_writer.proofs.Behind.{Black, token_black, remark_decided, token_decided}

semicolon_piece : (z : List ℕ) → piece_at (59 ∷ z) ≡ Token 1
unfolding piece_at
semicolon_piece z = refl

pub semicolon_texts : (z : List ℕ) → texts (59 ∷ z) ≡ (59 ∷ []) ∷ texts z
semicolon_texts z = texts-step piece_at (59 ∷ z) (Token 1) verilog_cut (semicolon_piece z)

semicolon_starts : (z : List ℕ) → Starts (59 ∷ z)
semicolon_starts z = record { first = 59; behind = z; is = refl; black = refl; no_star = refl }

hard_semicolon : (x : List ℕ) → Hard (x ++ 59 ∷ [])
hard_semicolon [] = refl
hard_semicolon (b ∷ x) = verilog_seams.more b (x ++ 59 ∷ []) (hard_semicolon x)

semicolon_token : (b : ℕ) (bs y z : List ℕ) (n : ℕ) → n ≤ suc (length bs) → piece_at (b ∷ bs ++ 59 ∷ y) ≡ Token n → piece_at (b ∷ bs ++ 59 ∷ z) ≡ Token n
semicolon_token b bs y z n le e =
    let whole : (w : List ℕ) → b ∷ bs ++ 59 ∷ w ≡ b ∷ (bs ++ 59 ∷ []) ++ w = λ w. ap (λ (l : List ℕ). b ∷ l) (sym (append_assoc bs (59 ∷ []) w)) in
    let size = length-append bs (59 ∷ []) in
    ap piece_at (whole z) ∙ token_decided b (bs ++ 59 ∷ []) y z n (hard_semicolon (b ∷ bs)) (omega arith) (sym (ap piece_at (whole y)) ∙ e)

semicolon_blank : (b : ℕ) (bs y z : List ℕ) (n : ℕ) → n ≤ suc (length bs) → piece_at (b ∷ bs ++ 59 ∷ y) ≡ Blank n → piece_at (b ∷ bs ++ 59 ∷ z) ≡ Blank n
semicolon_blank b bs y z n le e = verilog_seams.blank b bs (59 ∷ y) (59 ∷ z) n 1 (semicolon_piece y) (semicolon_starts z) e le

over_goes : (x y z : List ℕ) (n : ℕ) → 0 < n → n ≤ length x → piece_at (x ++ 59 ∷ y) ≡ Blank n → texts (x ++ 59 ∷ z) ≡ texts (drop n x ++ 59 ∷ z)
over_goes [] y z n some le is = absurd (omega arith)
over_goes (b ∷ bs) y z n some le is =
    texts-step piece_at (b ∷ bs ++ 59 ∷ z) (Blank n) verilog_cut (semicolon_blank b bs y z n le is) ∙ ap (λ (r : List ℕ). texts r) (drop-append-le n (b ∷ bs) (59 ∷ z) le)

token_goes : (x y z : List ℕ) (n : ℕ) → 0 < n → n ≤ length x → piece_at (x ++ 59 ∷ y) ≡ Token n → texts (x ++ 59 ∷ z) ≡ take n x ∷ texts (drop n x ++ 59 ∷ z)
token_goes [] y z n some le is = absurd (omega arith)
token_goes (b ∷ bs) y z n some le is =
    texts-step piece_at (b ∷ bs ++ 59 ∷ z) (Token n) verilog_cut (semicolon_token b bs y z n le is)
    ∙ ap (λ (w : List ℕ). w ∷ texts (drop n (b ∷ bs ++ 59 ∷ z))) (take-append-le n (b ∷ bs) (59 ∷ z) le)
    ∙ ap (λ (r : List ℕ). take n (b ∷ bs) ∷ texts r) (drop-append-le n (b ∷ bs) (59 ∷ z) le)

-- up to the semicolon, whatever stands behind it
pub record Settled (text : List ℕ) (at : ℕ) (front : List Span) (last : Span) : Type 0 where
  pub before : at ≤ last.start
  pub one : last.end ≡ last.start + 1
  pub within : last.end ≤ length text
  pub here : drop last.start text ≡ 59 ∷ drop last.end text
  pub goes : (z : List ℕ) → texts (part text at last.start ++ 59 ∷ z) ≡ texts_of text front ++ (59 ∷ []) ∷ texts z

no_part : (text : List ℕ) (at : ℕ) → part text at at ≡ []
no_part text at = let e : at - at ≡ 0 = omega arith in rw e refl

settled_last : (text : List ℕ) (at n : ℕ) → 0 < n → at + n ≤ length text → take n (drop at text) ≡ 59 ∷ [] → Settled text at [] (record { start = at; end = at + n })
settled_last text at n some within only =
    let size : n ≡ 1 = sym (omega (arith, ap length only, length-take n (drop at text), length-drop at text)) in
    record {
      before = omega arith;
      one = omega arith;
      within = within;
      here = sym (take-append-drop n (drop at text)) ∙ ap (λ (l : List ℕ). l ++ drop n (drop at text)) only ∙ ap (λ (l : List ℕ). 59 ∷ l) (drop-drop n at text);
      goes = λ z. ap (λ (l : List ℕ). texts (l ++ 59 ∷ z)) (no_part text at) ∙ semicolon_texts z;
    }

module _ (text : List ℕ) (at n : ℕ) (some : 0 < n) (inside : at + n ≤ length text) (front : List Span) (last : Span) (r : Settled text (at + n) front last) where
  before : at ≤ last.start
  before = let o = r.before in omega arith

  fits : n ≤ length (part text at last.start)
  fits = let o = r.before in let w = r.within in let k = r.one in let l = part-length text at last.start before (omega arith) in omega arith

  cut : part text at last.start ++ 59 ∷ drop last.end text ≡ drop at text
  cut = ap (λ (l : List ℕ). part text at last.start ++ l) (sym r.here) ∙ part-append text at last.start before

  rest : drop n (part text at last.start) ≡ part text (at + n) last.start
  rest = part-drop text at n last.start r.before

  settled_over : piece_at (drop at text) ≡ Blank n → Settled text at front last
  settled_over is = record {
    before = before;
    one = r.one;
    within = r.within;
    here = r.here;
    goes = λ z. over_goes (part text at last.start) (drop last.end text) z n some fits (ap piece_at cut ∙ is) ∙ ap (λ (l : List ℕ). texts (l ++ 59 ∷ z)) rest ∙ r.goes z;
  }

  settled_token : (f : Span) → f ≡ record { start = at; end = at + n } → piece_at (drop at text) ≡ Token n → Settled text at (f ∷ front) last
  settled_token f here is =
      let o = r.before in
      let bytes : take n (part text at last.start) ≡ bytes_of text f = take-take n (last.start - at) (drop at text) (omega arith) ∙ sym (ap (bytes_of text) here ∙ piece_bytes text at n) in
      record {
        before = before;
        one = r.one;
        within = r.within;
        here = r.here;
        goes = λ z. token_goes (part text at last.start) (drop last.end text) z n some fits (ap piece_at cut ∙ is)
            ∙ ap (λ (l : List ℕ). take n (part text at last.start) ∷ texts (l ++ 59 ∷ z)) rest
            ∙ ap (λ (w : List ℕ). w ∷ texts (part text (at + n) last.start ++ 59 ∷ z)) bytes
            ∙ ap (λ (l : List (List ℕ)). bytes_of text f ∷ l) (r.goes z);
      }

pub settled : (k : ℕ) (text : List ℕ) (at : ℕ) (front : List Span) (last : Span) (ss : List Span) → length text ≤ at + k → bytes_of text last ≡ 59 ∷ []
    → tokens_from piece_at at 0 (drop at text) ≡ front ++ last ∷ ss → Settled text at front last
settled zero text at [] last ss short only e = absurd (no_tokens piece_at verilog_cut text at last ss (omega arith) e)
settled zero text at (f ∷ front) last ss short only e = absurd (no_tokens piece_at verilog_cut text at f (front ++ last ∷ ss) (omega arith) e)
settled (suc k) text at [] last ss short only e =
    elim (turn piece_at verilog_cut text at last ss e) [
      | Over n some within is more ↦ settled_over text at n some within [] last (settled k text (at + n) [] last ss (omega arith) only more) is
      | First n rest some within is more whole ↦
          let here = first_is last _ ss rest whole in
          let bytes : take n (drop at text) ≡ 59 ∷ [] = sym (ap (bytes_of text) here ∙ piece_bytes text at n) ∙ only in
          subst (λ (l : Span). Settled text at [] l) (sym here) (settled_last text at n some within bytes)
    ]
settled (suc k) text at (f ∷ front) last ss short only e =
    elim (turn piece_at verilog_cut text at f (front ++ last ∷ ss) e) [
      | Over n some within is more ↦ settled_over text at n some within (f ∷ front) last (settled k text (at + n) (f ∷ front) last ss (omega arith) only more) is
      | First n rest some within is more whole ↦
          let here = first_is f _ (front ++ last ∷ ss) rest whole in
          settled_token text at n some within front last (settled k text (at + n) front last ss (omega arith) only (more ∙ sym (rest_is f _ (front ++ last ∷ ss) rest whole))) f here is
    ]

-- blanks, which may be cut anywhere
blank_run : (b : ℕ) (r : List ℕ) → is_blank b ≡ true → piece_at (b ∷ r) ≡ Blank (1 + prefix_len is_blank r)
unfolding piece_at
blank_run b r is = rw is refl

blanks_pass : (r : List ℕ) → texts r ≡ texts (drop (prefix_len is_blank r) r)
blanks_pass [] = refl
blanks_pass (c ∷ cs) = by (is_blank c) refl
  where
    by : (t : Bool) → is_blank c ≡ t → texts (c ∷ cs) ≡ texts (drop (cond t (1 + prefix_len is_blank cs) 0) (c ∷ cs))
    by true is = texts-step piece_at (c ∷ cs) (Blank (1 + prefix_len is_blank cs)) verilog_cut (blank_run c cs is)
    by false is = refl

pub blank_byte : (b : ℕ) (r : List ℕ) → is_blank b ≡ true → texts (b ∷ r) ≡ texts r
blank_byte b r is =
    let k : 1 + prefix_len is_blank r ≡ suc (prefix_len is_blank r) = omega arith in
    texts-step piece_at (b ∷ r) (Blank (1 + prefix_len is_blank r)) verilog_cut (blank_run b r is)
    ∙ ap (λ (n : ℕ). texts (drop n (b ∷ r))) k ∙ sym (blanks_pass r)

blanks_off : (n : ℕ) (x y w : List ℕ) → n ≤ length x → n ≤ prefix_len is_blank (x ++ y) → texts (x ++ w) ≡ texts (drop n x ++ w)
blanks_off zero x y w le run = refl
blanks_off (suc n) [] y w le run = absurd (omega arith)
blanks_off (suc n) (b ∷ bs) y w le run = by (is_blank b) refl run (λ more. blanks_off n bs y w (omega arith) more)
  where
    by : (t : Bool) → is_blank b ≡ t → suc n ≤ cond t (1 + prefix_len is_blank (bs ++ y)) 0 → (n ≤ prefix_len is_blank (bs ++ y) → texts (bs ++ w) ≡ texts (drop n bs ++ w))
        → texts (b ∷ bs ++ w) ≡ texts (drop n bs ++ w)
    by true is run more = blank_byte b (bs ++ w) is ∙ more (omega arith)
    by false is run more = absurd (omega arith)

blank_size : (m n : ℕ) → Blank m ≡ Blank n → m ≡ n
blank_size m n e = cc

gap_goes : (x y z : List ℕ) (n : ℕ) → 0 < n → n ≤ length x → Black y → piece_at (x ++ y) ≡ Blank n → texts (x ++ 32 ∷ z) ≡ texts (drop n x ++ 32 ∷ z)
gap_goes [] y z n some le black is = absurd (omega arith)
gap_goes (b ∷ bs) y z n some le black is = by (is_blank b) refl
  where
    by : (t : Bool) → is_blank b ≡ t → texts (b ∷ bs ++ 32 ∷ z) ≡ texts (drop n (b ∷ bs) ++ 32 ∷ z)
    by true here =
        let size : 1 + prefix_len is_blank (bs ++ y) ≡ n = blank_size _ n (sym (blank_run b (bs ++ y) here) ∙ is) in
        let whole : prefix_len is_blank (b ∷ bs ++ y) ≡ 1 + prefix_len is_blank (bs ++ y) = rw here refl in
        blanks_off n (b ∷ bs) y (32 ∷ z) le (omega (arith, size, whole))
    by false here =
        texts-step piece_at (b ∷ bs ++ 32 ∷ z) (Blank n) verilog_cut (remark_decided b bs y (32 ∷ z) n black here le is) ∙ ap (λ (r : List ℕ). texts r) (drop-append-le n (b ∷ bs) (32 ∷ z) le)

-- blanks before a token have no tokens before another blank
pub gap : (k : ℕ) (text : List ℕ) (at : ℕ) (s : Span) (ss : List Span) (z : List ℕ) → length text ≤ at + k → tokens_from piece_at at 0 (drop at text) ≡ s ∷ ss → texts (part text at s.start ++ 32 ∷ z) ≡ texts (32 ∷ z)
gap zero text at s ss z short e = absurd (no_tokens piece_at verilog_cut text at s ss (omega arith) e)
gap (suc k) text at s ss z short e =
    elim (turn piece_at verilog_cut text at s ss e) [
      | Over n some within is more ↦
          let r = reach_none piece_at Starts Hard verilog_seams (length text) text (at + n) s ss (omega arith) more in
          let o = r.ordered in
          let w = r.within in
          let ordered : at ≤ s.start = omega arith in
          let size = part-length text at s.start ordered (omega arith) in
          gap_goes (part text at s.start) (drop s.start text) z n some (omega arith) (token_black (drop s.start text) r.size r.starts) (ap piece_at (part-append text at s.start ordered) ∙ is)
          ∙ ap (λ (l : List ℕ). texts (l ++ 32 ∷ z)) (part-drop text at n s.start r.ordered)
          ∙ gap k text (at + n) s ss z (omega arith) more
      | First n rest some within is more whole ↦
          let here : s.start ≡ at = ap (λ (x : Span). x.start) (first_is s _ ss rest whole) in
          ap (λ (a : ℕ). texts (part text at a ++ 32 ∷ z)) here ∙ ap (λ (l : List ℕ). texts (l ++ 32 ∷ z)) (no_part text at)
    ]
