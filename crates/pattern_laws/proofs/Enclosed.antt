-- The block of a Loop with its brace: where it closes, and that statements in it don't close it.
use Rattle.std.specs.Prelude.{⊤}
use Rattle.std.proofs.Common.{◌≡◌, inl, inr, ℕ, zero, suc, ◌+◌, ◌-◌, ◌<◌, ◌≤◌, Bool, true, false, cond, eqb, ◌&&◌, ◌||◌, not, filter, List, [], ◌∷◌, ◌++◌, length, take, drop, Some, None, refl, sym, ap, ◌∙◌, subst, arith, append_assoc, length-append}
use Rattle.std.specs.List.{AllByRecursion as Each}
use Rattle.std.proofs.Math.Dec.{eqb-suc-zero}
use Rattle.std.proofs.lemmas.Bool.{cases_Bool, true≢false, eqb-true, and_parts, or_parts}
use Rattle.std.proofs.lemmas.List.{append-nil, take-append-drop, length-take-le, length-drop}
use Rattle.std.proofs.lemmas.Option.{same_Some}
use Rattle.token_forms.specs.Pieces.{piece_len}
use Rattle.token_forms.specs.Tokens.{Token, place_of}
use Rattle.stil_tokens.specs.StilTokens.{piece_at}
use Rattle.stil_tokens.specs.StilStatements.{is_only, is_note, token_ends, depth_behind, closed_in, is_closed, len_in, statement_len, statements_within, stil_statements}
use Rattle.stil_tokens.proofs.StilCuts.{first_law, statement_len-some}
use Rattle.stil_tokens.proofs.StilPieces.{stil_cut}
use Rattle.stil_types.specs.declared.head.StilHead.{StilHead}
use Rattle.stil_types.specs.declared.statement.ScanCall.{ScanCall}
use Rattle.stil_parts.specs.Ending.{statement_end}
use Rattle.stil_tester.specs.declared.chains.Chains.{Chains}
use Rattle.stil_syntax.specs.declared.shape.Shape.{Shape}
use Rattle.stil_syntax.specs.declared.shape.Shape.TheVariants.{NoForm, Unsupported, Other, Scan, Loop}
use Rattle.stil_syntax.specs.Shapes.{closes_nothing, unlabelled_shape, behind_labels, is_empty, shape_of}
use Rattle.stil_calls.specs.declared.judging.Judging.TheVariants.{Lengths}
use Rattle.stil_calls.specs.Faults.{kind_of, line_in, body_fault}
use Rattle.stil_writer.proofs.Lays.{bytes_in, piece_for, by_piece, AreLaid, laid}
use Rattle.stil_writer.proofs.Closed.{Closing}
use Rattle.pattern_laws.proofs.Shifts.{closes_on}
use Rattle.stil_writer.proofs.ReadAgain.{bytes_append, laid_append}
use Rattle.pattern_laws.proofs.Cuts.{Pieces, Seg, Gap, Run, all_pieces, IsOneFrom, IsRunSeg, IsClosed}
use Rattle.pattern_laws.proofs.Parts.{laid_at, Kept}
use Rattle.pattern_laws.proofs.Bodies.{is_full, counts, counts_not, no_fault, AreKept}

-- any text in pieces
pub record Whole (bs : List ℕ) : Type 0 where
  pub pieces : Pieces
  pub is : bs ≡ bytes_in pieces
  pub lies : AreLaid [] pieces

pub pieces_of : (fuel : ℕ) (bs : List ℕ) → length bs ≤ fuel → Whole bs
pieces_of fuel [] short = record { pieces = []; is = refl; lies = tt }
pieces_of zero (b ∷ bs) short = absurd (omega arith)
pieces_of (suc fuel) (b ∷ bs) short =
    let whole = b ∷ bs in
    let k = piece_len (piece_at whole) in
    let c = stil_cut.each b bs in
    let w = take k whole in
    let len : length w ≡ k = length-take-le k whole (omega (arith, c.within)) in
    let p = by_piece (piece_at whole) k refl in
    let cut : whole ≡ w ++ drop k whole = sym (take-append-drop k whole) in
    let m = pieces_of fuel (drop k whole) (omega (arith, length-drop k whole, c.some)) in
    let back : w ++ (bytes_in m.pieces ++ []) ≡ whole = ap (λ (l : List ℕ). w ++ l) (append-nil (bytes_in m.pieces) ∙ sym m.is) ∙ sym cut in
    record {
      pieces = (p.0, w) ∷ m.pieces;
      is = cut ∙ ap (λ (l : List ℕ). w ++ l) m.is;
      lies = (omega (arith, len, c.some), ap piece_at back ∙ p.1 ∙ ap (piece_for p.0) (sym len), m.lies);
    }

-- the brace that closes a block
close_is : (w : List ℕ) → is_only 125 w ≡ true → w ≡ 125 ∷ []
close_is [] e = absurd (true≢false (sym e))
close_is (b ∷ []) e = ap (λ (n : ℕ). n ∷ []) (eqb-true b 125 e)
close_is (b ∷ c ∷ w) e = absurd (true≢false (sym e))

semicolon_is : (w : List ℕ) → is_only 59 w ≡ true → w ≡ 59 ∷ []
semicolon_is [] e = absurd (true≢false (sym e))
semicolon_is (b ∷ []) e = ap (λ (n : ℕ). n ∷ []) (eqb-true b 59 e)
semicolon_is (b ∷ c ∷ w) e = absurd (true≢false (sym e))

ends_deep : (a c n z : Bool) → ((a && false) || ((c && z) || (n && false))) ≡ (c && z)
ends_deep true true true true = refl
ends_deep true true true false = refl
ends_deep true true false true = refl
ends_deep true true false false = refl
ends_deep true false true z = refl
ends_deep true false false z = refl
ends_deep false true true true = refl
ends_deep false true true false = refl
ends_deep false true false true = refl
ends_deep false true false false = refl
ends_deep false false true z = refl
ends_deep false false false z = refl

-- in a block only its brace ends the statement that it belongs to
deep : (d : ℕ) (w : List ℕ) → token_ends (suc d) w ≡ (is_only 125 w && eqb (suc d) 1)
deep d w =
    ap (λ (z : Bool). (is_only 59 w && z) || ((is_only 125 w && eqb (suc d) 1) || (is_note w && z))) (eqb-suc-zero d) ∙ ends_deep (is_only 59 w) (is_only 125 w) (is_note w) (eqb (suc d) 1)

-- behind a token in a block, that doesn't close it, the block is open
still_as : (o c : Bool) (d : ℕ) → (c && eqb (suc d) 1) ≡ false → (e : ℕ) × (cond o (suc d + 1) (cond c (suc d - 1) (suc d)) ≡ suc e)
still_as true c d h = (d + 1, omega arith)
still_as false false d h = (d, refl)
still_as false true zero h = absurd (true≢false h)
still_as false true (suc d) h = (d, omega arith)

pub record Closed (ps : Pieces) : Type 0 where
  pub inner : Pieces
  pub is : ps ≡ inner ++ (true, 125 ∷ []) ∷ []

none_left : (us : Pieces) (z : List ℕ) → AreLaid z us → length (bytes_in us) ≡ 0 → us ≡ []
none_left [] z a n = refl
none_left (p ∷ us) z a n = absurd (omega (arith, n, a.0, length-append p.1 (bytes_in us)))

pub close_of : (ps : Pieces) (d at n : ℕ) (z : List ℕ) → statement_end (suc d) (laid at ps) ≡ Some n → n ≡ at + length (bytes_in ps) → AreLaid z ps → Closed ps
close_of [] d at n z h e a = absurd cc
close_of ((false, w) ∷ ps) d at n z h e a =
    let m = close_of ps d (at + length w) n z h (omega (arith, e, length-append w (bytes_in ps))) a.2 in
    record { inner = (false, w) ∷ m.inner; is = ap (λ (l : Pieces). (false, w) ∷ l) m.is }
close_of ((true, w) ∷ ps) d at n z h e a = elim (cases_Bool (token_ends (suc d) w)) [
  | inl c ↦ (
      let k : at + length w ≡ n = same_Some _ _ (sym (ap (λ (b : Bool). cond b (Some (at + length w)) (statement_end (depth_behind (suc d) w) (laid (at + length w) ps))) c) ∙ h) in
      let none = none_left ps z a.2 (omega (arith, k, e, length-append w (bytes_in ps))) in
      let only = and_parts (is_only 125 w) (eqb (suc d) 1) (sym (deep d w) ∙ c) in
      record { inner = []; is = ap (λ (l : Pieces). (true, w) ∷ l) none ∙ ap (λ (v : List ℕ). (true, v) ∷ []) (close_is w only.0) })
  | inr c ↦ (
      let s = still_as (is_only 123 w) (is_only 125 w) d (sym (deep d w) ∙ c) in
      let more : statement_end (suc s.0) (laid (at + length w) ps) ≡ Some n =
      ap (λ (i : ℕ). statement_end i (laid (at + length w) ps)) (sym s.1) ∙ sym (ap (λ (b : Bool). cond b (Some (at + length w)) (statement_end (depth_behind (suc d) w) (laid (at + length w) ps))) c) ∙ h in
      let m = close_of ps s.0 (at + length w) n z more (omega (arith, e, length-append w (bytes_in ps))) a.2 in
      record { inner = (true, w) ∷ m.inner; is = ap (λ (l : Pieces). (true, w) ∷ l) m.is })
]

one_zero : (d : ℕ) → eqb (suc d) 1 ≡ eqb d 0
one_zero zero = refl
one_zero (suc d) = let k : eqb (suc (suc d)) 1 ≡ false = grind arith in k ∙ sym (eqb-suc-zero d)

deeper_as : (o c : Bool) (d : ℕ) → (c && eqb d 0) ≡ false → cond o (suc d + 1) (cond c (suc d - 1) (suc d)) ≡ suc (cond o (d + 1) (cond c (d - 1) d))
deeper_as true c d h = omega arith
deeper_as false false d h = refl
deeper_as false true zero h = absurd (true≢false h)
deeper_as false true (suc d) h = omega arith

-- where the last token of a statement ends it, one block more is left open around it
last_as : (s o c n : Bool) (d : ℕ) → ((s && eqb d 0) || ((c && eqb d 1) || (n && eqb d 0))) ≡ true → (c && eqb d 0) ≡ false → (n ≡ true → o ≡ false) → (s ≡ true → o ≡ false) → (c ≡ true → o ≡ false) → (s ≡ true → c ≡ false)
    → (n ≡ true → c ≡ false) → cond o (suc d + 1) (cond c (suc d - 1) (suc d)) ≡ 1
last_as true o c n zero e f g h i j k = rw (h refl, j refl) refl
last_as true o c n (suc d) e f g h i j k = absurd (let z : c ≡ false = j refl in true≢false (sym e ∙ (rw (z, eqb-suc-zero d) (no_and n))))
  where
    no_and : (n : Bool) → (n && false) ≡ false
    no_and true = refl
    no_and false = refl
last_as false o true n zero e f g h i j k = absurd (true≢false f)
last_as false o true n (suc zero) e f g h i j k = rw (i refl) refl
last_as false o true n (suc (suc d)) e f g h i j k = absurd (let z : n ≡ false = no_note n k in let y : eqb (suc (suc d)) 1 ≡ false = grind arith in true≢false (sym e ∙ (rw (z, y) refl)))
  where
    no_note : (n : Bool) → (n ≡ true → true ≡ false) → n ≡ false
    no_note true k = absurd (true≢false (k refl))
    no_note false k = refl
last_as false o false true zero e f g h i j k = rw (g refl) refl
last_as false o false true (suc d) e f g h i j k = absurd (true≢false (sym e ∙ (rw (eqb-suc-zero d) refl)))
last_as false o false false d e f g h i j k = absurd (true≢false (sym e))

note_opens : (w : List ℕ) → is_note w ≡ true → is_only 123 w ≡ false
note_opens [] e = refl
note_opens (b ∷ []) e = absurd (true≢false (sym (and_parts (eqb b 123) false e).1))
note_opens (b ∷ c ∷ w) e = refl

note_closes : (w : List ℕ) → is_note w ≡ true → is_only 125 w ≡ false
note_closes [] e = refl
note_closes (b ∷ []) e = absurd (true≢false (sym (and_parts (eqb b 123) false e).1))
note_closes (b ∷ c ∷ w) e = refl

semi_opens : (w : List ℕ) → is_only 59 w ≡ true → is_only 123 w ≡ false
semi_opens w e = ap (is_only 123) (semicolon_is w e)

semi_closes : (w : List ℕ) → is_only 59 w ≡ true → is_only 125 w ≡ false
semi_closes w e = ap (is_only 125) (semicolon_is w e)

close_opens : (w : List ℕ) → is_only 125 w ≡ true → is_only 123 w ≡ false
close_opens w e = ap (is_only 123) (close_is w e)

pub record Passed (d : ℕ) (s rest : List Token) : Type 0 where
  pub closed : (c : Bool) → closed_in c (suc d) (s ++ rest) ≡ closed_in false 1 rest
  pub safe : closes_nothing (suc d) (s ++ rest) ≡ closes_nothing 1 rest
  pub ends : statement_end (suc d) (s ++ rest) ≡ statement_end 1 rest

-- a token that doesn't close a block passes one deeper
passes : (d : ℕ) (t : Token) (ts rest : List Token) (e : ℕ) → (is_only 125 t.text && eqb d 0) ≡ false → depth_behind (suc d) t.text ≡ suc e → Passed e ts rest → Passed d (t ∷ ts) rest
passes d t ts rest e h depth p =
    let ends : token_ends (suc d) t.text ≡ false = deep d t.text ∙ ap (λ (b : Bool). is_only 125 t.text && b) (one_zero d) ∙ h in
    let none : (is_only 125 t.text && eqb (suc d) 0) ≡ false = ap (λ (b : Bool). is_only 125 t.text && b) (eqb-suc-zero d) ∙ no (is_only 125 t.text) in
    record {
      closed = λ c. ap (λ (n : ℕ). closed_in (token_ends (suc d) t.text) n (ts ++ rest)) depth ∙ p.closed (token_ends (suc d) t.text);
      safe = ap (λ (b : Bool). b || closes_nothing (depth_behind (suc d) t.text) (ts ++ rest)) none ∙ ap (λ (n : ℕ). closes_nothing n (ts ++ rest)) depth ∙ p.safe;
      ends = ap (λ (b : Bool). cond b (Some t.end) (statement_end (depth_behind (suc d) t.text) (ts ++ rest))) ends ∙ ap (λ (n : ℕ). statement_end n (ts ++ rest)) depth ∙ p.ends;
    }
  where
    no : (b : Bool) → (b && false) ≡ false
    no true = refl
    no false = refl

last_passes : (d : ℕ) (t : Token) (rest : List Token) → (is_only 125 t.text && eqb d 0) ≡ false → depth_behind (suc d) t.text ≡ 1 → Passed d (t ∷ []) rest
last_passes d t rest h depth =
    let ends : token_ends (suc d) t.text ≡ false = deep d t.text ∙ ap (λ (b : Bool). is_only 125 t.text && b) (one_zero d) ∙ h in
    let none : (is_only 125 t.text && eqb (suc d) 0) ≡ false = ap (λ (b : Bool). is_only 125 t.text && b) (eqb-suc-zero d) ∙ no (is_only 125 t.text) in
    record {
      closed = λ c. ap (λ (n : ℕ). closed_in (token_ends (suc d) t.text) n rest) depth ∙ ap (λ (b : Bool). closed_in b 1 rest) ends;
      safe = ap (λ (b : Bool). b || closes_nothing (depth_behind (suc d) t.text) rest) none ∙ ap (λ (n : ℕ). closes_nothing n rest) depth;
      ends = ap (λ (b : Bool). cond b (Some t.end) (statement_end (depth_behind (suc d) t.text) rest)) ends ∙ ap (λ (n : ℕ). statement_end n rest) depth;
    }
  where
    no : (b : Bool) → (b && false) ≡ false
    no true = refl
    no false = refl

pub pass : (d : ℕ) (s rest : List Token) → IsOneFrom d s → closes_nothing d s ≡ false → Passed d s rest
pass d [] rest o c = absurd o
pass d (t ∷ []) rest o c =
    let h = (or_parts (is_only 125 t.text && eqb d 0) false c).0 in
    last_passes d t rest h (last_as (is_only 59 t.text) (is_only 123 t.text) (is_only 125 t.text) (is_note t.text) d o h (note_opens t.text) (semi_opens t.text) (close_opens t.text) (semi_closes t.text) (note_closes t.text))
pass d (t ∷ u ∷ us) rest o c =
    let h = or_parts (is_only 125 t.text && eqb d 0) (closes_nothing (depth_behind d t.text) (u ∷ us)) c in
    passes d t (u ∷ us) rest (depth_behind d t.text) h.0 (deeper_as (is_only 123 t.text) (is_only 125 t.text) d h.0) (pass (depth_behind d t.text) (u ∷ us) rest o.1 h.1)

-- statements close nothing of the block
abbrev pub IsSafe : Seg → Type 0
IsSafe (Gap w) = ⊤
IsSafe (Run qs) = (at : ℕ) → closes_nothing 0 (laid at qs) ≡ false

close_last : (t : Token) → t.text ≡ 125 ∷ [] → Closing t.end (t ∷ [])
close_last t e = record {
  closed = λ b. ap (token_ends 1) e;
  safe = ap (λ (w : List ℕ). (is_only 125 w && false) || closes_nothing (depth_behind 1 w) []) e;
  ends = ap (λ (w : List ℕ). cond (token_ends 1 w) (Some t.end) (statement_end (depth_behind 1 w) [])) e;
}

pub block_closes : (hs : List Seg) (at total : ℕ) → Each IsRunSeg hs → Each IsSafe hs → at + length (bytes_in (all_pieces hs)) + 1 ≡ total → Closing total (laid at (all_pieces hs ++ (true, 125 ∷ []) ∷ []))
block_closes [] at total r s e =
    let t : Token = record { text = 125 ∷ []; start = at; end = at + length {A = ℕ} (125 ∷ []) } in
    let k : at + length {A = ℕ} (125 ∷ []) ≡ total = omega (arith, e) in
    subst (λ (n : ℕ). Closing n (laid at ((true, 125 ∷ []) ∷ []))) k (close_last t refl)
block_closes (Gap w ∷ hs) at total r s e = block_closes hs (at + length w) total r.1 s.1 (omega (arith, e, length-append w (bytes_in (all_pieces hs))))
block_closes (Run qs ∷ hs) at total r s e =
    let last : Pieces = (true, 125 ∷ []) ∷ [] in
    let len : length (bytes_in (qs ++ all_pieces hs)) ≡ length (bytes_in qs) + length (bytes_in (all_pieces hs)) = ap (λ (l : List ℕ). length l) (bytes_append qs (all_pieces hs)) ∙ length-append (bytes_in qs) (bytes_in (all_pieces hs)) in
    let c = block_closes hs (at + length (bytes_in qs)) total r.1 s.1 (omega (arith, e, len)) in
    let rest = laid (at + length (bytes_in qs)) (all_pieces hs ++ last) in
    let p = pass 0 (laid at qs) rest (r.0.one at) (s.0 at) in
    let whole : laid at ((qs ++ all_pieces hs) ++ last) ≡ laid at qs ++ rest = ap (laid at) (append_assoc qs (all_pieces hs) last) ∙ laid_append at qs (all_pieces hs ++ last) in
    subst (Closing total) (sym whole) (record { closed = λ b. p.closed b ∙ c.closed false; safe = p.safe ∙ c.safe; ends = p.ends ∙ c.ends })

-- a statement of a form closes nothing, and is closed
form_as : (c s : Bool) (a b : Shape) → cond (not c || s) NoForm a ≡ b → (b ≡ NoForm → ⊥) → (c ≡ true) × (s ≡ false) × (a ≡ b)
form_as true true a b e n = absurd (n (sym e))
form_as true false a b e n = (refl, refl, e)
form_as false s a b e n = absurd (n (sym e))

pub form_parts : (head : StilHead) (inside : Bool) (ts : List Token) (b : Shape) → shape_of head inside ts ≡ b → (b ≡ NoForm → ⊥) → (is_closed ts ≡ true) × (closes_nothing 0 ts ≡ false) × (unlabelled_shape head inside (behind_labels ts) ≡ b)
unfolding shape_of
form_parts head inside ts b e n = form_as (is_closed ts) (closes_nothing 0 ts) (unlabelled_shape head inside (behind_labels ts)) b e n

pub kind_form : (head : StilHead) (b : Shape) → kind_of Lengths head b ≡ None → b ≡ NoForm → ⊥
kind_form head NoForm k e = absurd cc
kind_form head Unsupported k e = absurd cc
kind_form head Other k e = absurd cc
kind_form head (Scan items) k e = absurd cc
kind_form head (Loop times body) k e = absurd cc

empty_safe : (ts : List Token) → IsOneFrom 0 ts → is_empty ts ≡ true → closes_nothing 0 ts ≡ false
empty_safe [] o e = absurd o
empty_safe (t ∷ []) o e = ap (λ (b : Bool). (b && true) || false) (semi_closes t.text e)
empty_safe (t ∷ u ∷ us) o e = absurd (true≢false (sym (ap (token_ends 0) (semicolon_is t.text e)) ∙ o.0))

module _ (head other : StilHead) (old new : Chains) (move : ScanCall → ScanCall) where
  safe_part : (qs rs : Pieces) → Kept head other old new move qs rs → closes_nothing 0 (laid 0 rs) ≡ false
  safe_part qs rs k = elim (cases_Bool (is_empty (laid 0 qs))) [
    | inl e ↦ empty_safe (laid 0 rs) (k.renewed.run.one 0) (k.empty ∙ e)
    | inr e ↦ (let r = k.reads e in (form_parts other true (laid 0 rs) r.after r.shape_new (kind_form other r.after r.kind)).1)
  ]

  pub kept_safe : (gs hs : List Seg) → AreKept head other old new move gs hs → Each IsSafe hs
  kept_safe [] [] k = tt
  kept_safe [] (h ∷ hs) k = absurd k
  kept_safe (g ∷ gs) [] k = absurd k
  kept_safe (Gap w ∷ gs) (Gap v ∷ hs) k = (tt, kept_safe gs hs k.1)
  kept_safe (Gap w ∷ gs) (Run rs ∷ hs) k = absurd k
  kept_safe (Run qs ∷ gs) (Gap v ∷ hs) k = absurd k
  kept_safe (Run qs ∷ gs) (Run rs ∷ hs) k = ((λ at. ap (closes_nothing 0) (laid_at at rs) ∙ closes_on at 0 (laid 0 rs) ∙ safe_part qs rs k.0), kept_safe gs hs k.1)

-- each statement of a block without fault is closed
abbrev IsClosedFull : List Token → Type 0
IsClosedFull s = is_empty s ≡ false → is_closed s ≡ true

closed_full : (head : StilHead) (line : ℕ) (text : List ℕ) (ss : List (List Token)) → body_fault Lengths head line text (filter is_full ss) ≡ None → Each IsClosedFull ss
closed_full head line text [] e = tt
closed_full head line text (s ∷ ss) e = elim (cases_Bool (is_empty s)) [
  | inl f ↦ ((λ g. absurd (true≢false (sym f ∙ g))), closed_full head line text ss (ap (body_fault Lengths head line text) (sym (counts_not s ss f)) ∙ e))
  | inr f ↦ (
      let h = no_fault (kind_of Lengths head (shape_of head true s)) (line_in line text (place_of s).start) (body_fault Lengths head line text (filter is_full ss)) (ap (body_fault Lengths head line text) (sym (counts s ss f)) ∙ e) in
      ((λ g. (form_parts head true s (shape_of head true s) refl (kind_form head (shape_of head true s) h.0)).0), closed_full head line text ss h.1))
]

first_closed : (t : Token) (ts : List Token) (n : ℕ) → n ≡ statement_len (t ∷ ts) → 0 < n → IsClosedFull (take n (t ∷ ts)) → is_closed (take n (t ∷ ts)) ≡ true
first_closed t ts zero e some f = absurd (omega arith)
first_closed t ts (suc n) e some f = elim (cases_Bool (is_only 59 t.text)) [
  | inl h ↦ (
      let ends : token_ends 0 t.text ≡ true = ap (token_ends 0) (semicolon_is t.text h) in
      let one : statement_len (t ∷ ts) ≡ 1 = ap (λ (b : Bool). cond b 1 (1 + len_in (depth_behind 0 t.text) ts)) ends in
      let k : n ≡ 0 = omega (arith, e, one) in
      ap (λ (m : ℕ). is_closed (t ∷ take m ts)) k ∙ ends)
  | inr h ↦ f h
]

none_there : stil_statements [] ≡ []
unfolding statements_within
none_there = refl

closed_within : (fuel : ℕ) (ts : List Token) → length ts ≤ fuel → Each IsClosedFull (stil_statements ts) → Each IsClosed (stil_statements ts)
closed_within fuel [] short e = subst (Each IsClosed) (sym none_there) tt
closed_within zero (t ∷ ts) short e = absurd (omega arith)
closed_within (suc fuel) (t ∷ ts) short e =
    let n = statement_len (t ∷ ts) in
    let f = subst (Each IsClosedFull) (first_law t ts) e in
    let some = statement_len-some t ts in
    subst (Each IsClosed) (sym (first_law t ts)) (first_closed t ts n refl some f.0, closed_within fuel (drop n (t ∷ ts)) (omega (arith, length-drop n (t ∷ ts), some)) f.1)

pub block_closed : (head : StilHead) (line : ℕ) (text : List ℕ) (ts : List Token) → body_fault Lengths head line text (filter is_full (stil_statements ts)) ≡ None → Each IsClosed (stil_statements ts)
block_closed head line text ts e = closed_within (length ts) ts (omega arith) (closed_full head line text (stil_statements ts) e)
