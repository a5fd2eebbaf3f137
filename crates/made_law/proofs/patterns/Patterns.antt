-- What the made STIL says behind its head.
use Rattle.std.proofs.Common.{◌≡◌, ℕ, zero, suc, ◌+◌, ◌*◌, ◌≤◌, true, false, List, [], ◌∷◌, ◌++◌, map, refl, sym, ap, ◌∙◌, subst, append_assoc, codes, Option, Some, None, arith}
use Rattle.std.specs.Prelude.{nat_lt}
use Rattle.std.proofs.lemmas.Bool.Decides.{nat_tests}
use Rattle.token_forms.specs.Pieces.{tokens_from}
use Rattle.stil_tokens.specs.StilTokens.{piece_at, brace_piece, tokens_in}
use Rattle.stil_types.specs.declared.head.StilHead.{StilHead}
use Rattle.stil_types.specs.declared.statement.ScanCall.{ScanCall}
use Rattle.stil_types.specs.declared.statement.PatternStatement.{PatternStatement}
use Rattle.stil_types.specs.declared.statement.PatternStatement.TheVariants as statements
use Rattle.stil_parts.specs.declared.gap.Place.TheVariants.{Top, Pattern}
use Rattle.stil_parts.specs.declared.gap.Point.{Point}
use Rattle.stil_parts.specs.declared.word.Word.TheVariants.{Known}
use Rattle.stil_parts.specs.declared.part.Part.TheVariants.{Opens}
use Rattle.stil_parts.specs.Gaps.{gap_at, outside_gap}
use Rattle.stil_parts.specs.Scanner.{end_of, step, mode_step, free_step, run_step, mark_step, found}
use Rattle.stil_parts.specs.Parts.{begin, part_at}
use Rattle.stil_parts.specs.Coming.{Byte, Opened, Taken, before, most, largest, judged, sized, next_turn, to_come}
use Rattle.stil_parts.proofs.Comings.{come-taken}
use Rattle.stil_syntax.specs.declared.shape.Shape.TheVariants as shapes
use Rattle.stil_syntax.specs.Names.{name_at}
use Rattle.stil_syntax.specs.Shapes.{label_at, behind_within, shape_of}
use Rattle.stil_calls.specs.declared.judging.Judging.TheVariants.{Lengths}
use Rattle.stil_calls.specs.Faults.{fault_by}
use Rattle.stil_calls.specs.Parts.{opened_in, judge_by}
use Rattle.stil_calls.specs.Statements.{statement_of}
use Rattle.stil_reader.specs.Sayings.{told, named}
use Rattle.stil_reader.specs.Patterns.{names_in, statements_in}
use Rattle.design_maker.specs.Pieces.{pieces}
use Rattle.design_maker.specs.MadeStil.{first_call, later_call, pattern_text}
use Rattle.made_law.specs.Patterns.MadeHead.{BlockPlace, made_head}
use Rattle.made_law.specs.Patterns.MadePatterns.{given, call_bytes, capture_bytes, made_call, made_pair, made_statements}
use Rattle.made_law.proofs.patterns.Tokens.{tokens_by, places_of, tokens_are}
use Rattle.made_law.proofs.patterns.Denoting.{texts_in}
use Rattle.made_law.proofs.patterns.Items.{item_of}
use Rattle.made_law.proofs.patterns.Calls.{rows, call_words, call_shape, call_kind, call_is}
use Rattle.made_law.proofs.patterns.CallTexts.{call_texts, call_stops, call_line}
use Rattle.made_law.proofs.patterns.Comes.{point, Tells, says_at, tells_blank, tells_line, tells_close, tells_end, tells_statement}

-- the Pattern opens
opening_turn : (head : StilHead) (given : ℕ) (y : List ℕ) → next_turn (judge_by Lengths head) true (point given 33 0 Top) (codes "Pattern p {\n" ++ y)
    ≡ Some (sized (point given 33 0 Top) 11 (judged (judge_by Lengths head (point given 33 0 Top) (Opens 11) (codes "Pattern p {")) 11
    (map Byte (codes "Pattern p {") ++ Opened (codes "Pattern p {") (point given 33 0 Top) ∷ []) (point (given + 11) 33 1 (Pattern 33))))
unfolding next_turn gap_at outside_gap part_at end_of step mode_step free_step run_step mark_step
opening_turn head given y = refl

opened_is : opened_in (codes "Pattern p {") ≡ Some (codes "p")
unfolding opened_in name_at label_at behind_within tokens_from piece_at brace_piece
opened_is = refl

opening_sound : (head : StilHead) (p : Point) → judge_by Lengths head p (Opens 11) (codes "Pattern p {") ≡ None
unfolding judge_by
opening_sound head p = rw opened_is refl

tells_open : (head : StilHead) (y : List ℕ) (ns : List (List ℕ)) (ss : List PatternStatement) → Tells head 33 1 (Pattern 33) (10 ∷ y) ns ss → Tells head 33 0 Top (codes "Pattern p {\n" ++ y) (codes "p" ∷ ns) ss
tells_open head y ns ss t given small =
    let judge = judge_by Lengths head in
    let p = point given 33 0 Top in
    let q = point (given + 11) 33 1 (Pattern 33) in
    let es = map Byte (codes "Pattern p {") ++ Opened (codes "Pattern p {") p ∷ [] in
    let few : nat_lt largest 11 ≡ false = refl in
    let within : nat_lt most (given + 11) ≡ false = grind (arith, nat_tests) in
    let turn : next_turn judge true p (codes "Pattern p {\n" ++ y) ≡ Some (Taken 11 es q) = opening_turn head given y ∙ rw (within, opening_sound head p) refl in
    let c = to_come judge q 0 (10 ∷ y) in
    let comes : to_come judge p 0 (codes "Pattern p {\n" ++ y) ≡ before es c = come-taken judge p q 11 es (codes "Pattern p {\n" ++ y) (omega arith) (omega arith) turn in
    let more = t (given + 11) (omega (arith, small)) in
    says_at head (to_come judge p 0 (codes "Pattern p {\n" ++ y)) (before es c) (codes "p" ∷ ns) ss comes (record {
      sound = more.sound;
      names_are = ap (λ (o : Option (List ℕ)). names_in (named o ++ (told head c).says)) opened_is ∙ ap (λ (l : List (List ℕ)). codes "p" ∷ l) more.names_are;
      statements_are = ap (λ (o : Option (List ℕ)). statements_in (named o ++ (told head c).says)) opened_is ∙ more.statements_are;
    })

capture_stops : (y : List ℕ) → end_of true (begin (Known false)) (capture_bytes ++ y) ≡ Some (found 13 false)
unfolding end_of step mode_step free_step run_step mark_step
capture_stops y = refl

capture_shape : (n : ℕ) (by : ℕ → BlockPlace) → shape_of (made_head by n) false (tokens_in capture_bytes) ≡ shapes.Other
unfolding shape_of name_at label_at behind_within tokens_from piece_at
capture_shape n by = refl

-- a call with its capture, and what stands behind them
abbrev pair_bytes : ℕ → ℕ → List ℕ → List ℕ
pair_bytes n r y = 32 ∷ 32 ∷ (call_bytes n r ++ (10 ∷ 32 ∷ 32 ∷ (capture_bytes ++ (10 ∷ y))))

first_is : (n : ℕ) (y : List ℕ) → first_call n ++ y ≡ pair_bytes n 0 y
unfolding first_call pieces
first_is n y =
    let mid = pieces (given n 0) 8 in
    ap (λ (l : List ℕ). codes "  Call load_unload {" ++ l) (append_assoc mid (codes " }\n  Call capture;\n") y ∙ sym (append_assoc mid (codes " }") (10 ∷ 32 ∷ 32 ∷ (capture_bytes ++ (10 ∷ y)))))

later_is : (n r : ℕ) (y : List ℕ) → later_call n (suc r) ++ y ≡ pair_bytes n (suc r) y
unfolding later_call pieces
later_is n r y =
    let mid = pieces (given n (suc r)) 8 in
    ap (λ (l : List ℕ). codes "  Call load_unload {" ++ l) (append_assoc mid (codes " }\n  Call capture;\n") y ∙ sym (append_assoc mid (codes " }") (10 ∷ 32 ∷ 32 ∷ (capture_bytes ++ (10 ∷ y)))))

module _ (n : ℕ) (least : 8 ≤ n) (most_units : n ≤ 16384) (by : ℕ → BlockPlace) where
  head : StilHead
  head = made_head by n

  shape : (r : ℕ) → shape_of (made_head by n) false (tokens_in (call_bytes n r)) ≡ shapes.Scan (map item_of (rows n r))
  shape r =
      let ts = tokens_in (call_bytes n r) in
      let e : ts ≡ tokens_by (places_of ts) (call_words n r) = tokens_are ts ∙ ap (tokens_by (places_of ts)) (texts_in (call_bytes n r) ∙ call_texts n least most_units r) in
      ap (shape_of (made_head by n) false) e ∙ call_shape n least most_units r by (places_of ts)

  call_sound : (r line : ℕ) → fault_by Lengths (made_head by n) line (call_bytes n r) ≡ None
  unfolding fault_by
  call_sound r line = rw (shape r, call_kind n least most_units r by) refl

  call_stated : (r line : ℕ) → statement_of (made_head by n) 0 line (call_bytes n r) (shape_of (made_head by n) false (tokens_in (call_bytes n r))) ≡ Some (statements.Scan 0 (call_bytes n r) (made_call n r) line)
  call_stated r line =
      ap (statement_of (made_head by n) 0 line (call_bytes n r)) (shape r) ∙ ap (λ (c : ScanCall). Some (statements.Scan 0 (call_bytes n r) c line)) (call_is n least most_units r by)

  capture_sound : (line : ℕ) → fault_by Lengths (made_head by n) line capture_bytes ≡ None
  unfolding fault_by
  capture_sound line = rw (capture_shape n by) refl

  capture_stated : (line : ℕ) → statement_of (made_head by n) 0 line capture_bytes (shape_of (made_head by n) false (tokens_in capture_bytes)) ≡ Some (statements.Other 0 capture_bytes)
  capture_stated line = ap (statement_of (made_head by n) 0 line capture_bytes) (capture_shape n by)

  tells_pair : (r line : ℕ) (y : List ℕ) (ns : List (List ℕ)) (ss : List PatternStatement) → Tells (made_head by n) (line + 1 + 1) 1 (Pattern 33) y ns ss
      → Tells (made_head by n) line 1 (Pattern 33) (pair_bytes n r y) ns (statements.Scan 0 (call_bytes n r) (made_call n r) line ∷ statements.Other 0 capture_bytes ∷ ss)
  tells_pair r line y ns ss t =
      let h = made_head by n in
      let bs = codes "all load_unload {" ++ (pieces (given n r) 8 ++ codes " }") in
      let z = 10 ∷ 32 ∷ 32 ∷ (capture_bytes ++ (10 ∷ y)) in
      let capture = statements.Other 0 capture_bytes ∷ ss in
      let one : Tells h (line + 1) 1 (Pattern 33) (capture_bytes ++ (10 ∷ y)) ns capture =
      tells_statement h (line + 1) 1 33 (codes "all capture;") (10 ∷ y) (statements.Other 0 capture_bytes) ns ss (capture_stops (10 ∷ y)) refl (capture_sound (line + 1)) (capture_stated (line + 1))
      (tells_line h (line + 1) 1 (Pattern 33) y ns ss t)
      in
      let behind : Tells h line 1 (Pattern 33) z ns capture =
      tells_line h line 1 (Pattern 33) (32 ∷ 32 ∷ (capture_bytes ++ (10 ∷ y))) ns capture
      (tells_blank h (line + 1) 1 (Pattern 33) (32 ∷ (capture_bytes ++ (10 ∷ y))) ns capture (tells_blank h (line + 1) 1 (Pattern 33) (capture_bytes ++ (10 ∷ y)) ns capture one))
      in
      let all = statements.Scan 0 (call_bytes n r) (made_call n r) line ∷ capture in
      tells_blank h line 1 (Pattern 33) (32 ∷ (call_bytes n r ++ z)) ns all (tells_blank h line 1 (Pattern 33) (call_bytes n r ++ z) ns all
      (tells_statement h line 1 33 bs z (statements.Scan 0 (call_bytes n r) (made_call n r) line) ns capture (call_stops n least most_units r z) (call_line n least most_units r) (call_sound r line) (call_stated r line) behind))

  -- the later calls
  abbrev pairs_to : ℕ → List PatternStatement
  pairs_to zero = []
  pairs_to (suc m) = pairs_to m ++ made_pair n (suc m)

  tells_later : (m : ℕ) (z : List ℕ) (ns : List (List ℕ)) (ss : List PatternStatement) → Tells (made_head by n) (34 + 2 * (m + 1)) 1 (Pattern 33) z ns ss
      → Tells (made_head by n) 36 1 (Pattern 33) (pieces (λ r. later_call n (r + 1)) m ++ z) ns (pairs_to m ++ ss)
  unfolding pieces
  tells_later zero z ns ss t = t
  tells_later (suc m) z ns ss t =
      let h = made_head by n in
      let f = λ (r : ℕ). later_call n (r + 1) in
      let e : m + 1 ≡ suc m = omega arith in
      let l : 34 + 2 * (suc m + 1) ≡ 34 + 2 * suc m + 1 + 1 = omega arith in
      let k : 34 + 2 * suc m ≡ 34 + 2 * (m + 1) = omega arith in
      let pair : Tells h (34 + 2 * suc m) 1 (Pattern 33) (pair_bytes n (suc m) z) ns (made_pair n (suc m) ++ ss) =
      tells_pair (suc m) (34 + 2 * suc m) z ns ss (subst (λ (x : ℕ). Tells h x 1 (Pattern 33) z ns ss) l t)
      in
      let here : Tells h (34 + 2 * (m + 1)) 1 (Pattern 33) (f m ++ z) ns (made_pair n (suc m) ++ ss) =
      subst (λ (x : List ℕ). Tells h (34 + 2 * (m + 1)) 1 (Pattern 33) x ns (made_pair n (suc m) ++ ss)) (sym (ap (λ (r : ℕ). later_call n r ++ z) e ∙ later_is n m z))
      (subst (λ (x : ℕ). Tells h x 1 (Pattern 33) (pair_bytes n (suc m) z) ns (made_pair n (suc m) ++ ss)) k pair)
      in
      let more = tells_later m (f m ++ z) ns (made_pair n (suc m) ++ ss) here in
      subst (λ (x : List PatternStatement). Tells h 36 1 (Pattern 33) ((pieces f m ++ f m) ++ z) ns x) (sym (append_assoc (pairs_to m) (made_pair n (suc m)) ss))
      (subst (λ (x : List ℕ). Tells h 36 1 (Pattern 33) x ns (pairs_to m ++ (made_pair n (suc m) ++ ss))) (sym (append_assoc (pieces f m) (f m) z)) more)

  all_are : made_pair n 0 ++ (pairs_to 15 ++ []) ≡ made_statements n
  all_are = refl

  pub tells_pattern : Tells (made_head by n) 33 0 Top (pattern_text n) (codes "p" ∷ []) (made_statements n)
  unfolding pattern_text
  tells_pattern =
      let h = made_head by n in
      let ps = pieces (λ r. later_call n (r + 1)) 15 in
      let end : Tells h 66 1 (Pattern 33) (codes "}\n") [] [] = tells_close h 66 1 33 (codes "\n") [] [] (tells_line h 66 1 Top [] [] [] (tells_end h 67 1)) in
      let later : Tells h 36 1 (Pattern 33) (ps ++ codes "}\n") [] (pairs_to 15 ++ []) = tells_later 15 (codes "}\n") [] [] end in
      let first : Tells h 34 1 (Pattern 33) (first_call n ++ (ps ++ codes "}\n")) [] (made_pair n 0 ++ (pairs_to 15 ++ [])) =
      subst (λ (x : List ℕ). Tells h 34 1 (Pattern 33) x [] (made_pair n 0 ++ (pairs_to 15 ++ []))) (sym (first_is n (ps ++ codes "}\n"))) (tells_pair 0 34 (ps ++ codes "}\n") [] (pairs_to 15 ++ []) later)
      in
      tells_open h (first_call n ++ (ps ++ codes "}\n")) [] (made_statements n) (tells_line h 33 1 (Pattern 33) (first_call n ++ (ps ++ codes "}\n")) [] (made_statements n)
      (subst (λ (x : List PatternStatement). Tells h 34 1 (Pattern 33) (first_call n ++ (ps ++ codes "}\n")) [] x) all_are first))
