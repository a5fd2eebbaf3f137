-- The bytes of the made calls: their words, where they end, and that they stand on one line.
use Rattle.std.proofs.Common.{◌≡◌, ℕ, zero, suc, ◌+◌, ◌*◌, ◌<◌, ◌≤◌, true, false, cond, List, [], ◌∷◌, ◌++◌, length, drop, count_by, eqb, refl, sym, ap, ◌∙◌, append_assoc, codes, decimal, Some, length-append, arith}
use Rattle.std.specs.List.{flat_map, list_all}
use Rattle.std.specs.Fmt.{digits}
use Rattle.std.proofs.lemmas.List.Sums.{sum_by-append}
use Rattle.std.proofs.lemmas.Bool.{and_parts}
use Rattle.token_forms.specs.Pieces.{texts_from}
use Rattle.stil_tokens.specs.StilTokens.{piece_at, brace_piece}
use Rattle.stil_parts.specs.declared.word.Word.TheVariants.{Known}
use Rattle.stil_parts.specs.declared.scan.Mode.TheVariants.{Brace}
use Rattle.stil_parts.specs.declared.scan.Scan.{Scan}
use Rattle.stil_parts.specs.Scanner.{end_of, run, step, mode_step, run_step, mark_step, free_step, later, found}
use Rattle.stil_parts.specs.Parts.{begin}
use Rattle.design_maker.specs.Pieces.{pieces}
use Rattle.design_maker.specs.Chains.{chain_length}
use Rattle.design_maker.specs.MadeStil.{load_character, compare_character, load, compare}
use Rattle.made_law.specs.Designs.Names.{in_port, out_port}
use Rattle.made_law.specs.Patterns.MadePatterns.{given, call_bytes}
use Rattle.made_law.proofs.patterns.Plain.{is_letter, letter_apart, letters_run}
use Rattle.made_law.proofs.patterns.Numbers.{decimal_letters, length_is}
use Rattle.made_law.proofs.patterns.Strings.{load_is, compare_is}
use Rattle.made_law.proofs.patterns.Scans.{Through, over, through_both, at_mode, in_run, run_through}
use Rattle.made_law.proofs.patterns.HeadEnds.{letters_through, pieces_through}
use Rattle.made_law.proofs.patterns.Texts.{texts, word_texts, words_to, pieces_texts}
use Rattle.made_law.proofs.patterns.Items.{row_words}
use Rattle.made_law.proofs.patterns.Calls.{rows_of, rows, call_words}

-- how many line feeds
abbrev pub feeds : List ℕ → ℕ
feeds x = count_by (λ b. eqb b 10) x

pub feeds_append : (x y : List ℕ) → feeds (x ++ y) ≡ feeds x + feeds y
feeds_append x y = sum_by-append (λ b. cond (eqb b 10) 1 0) x y

pub no_feeds : (x : List ℕ) → list_all is_letter x ≡ true → feeds x ≡ 0
no_feeds [] all = refl
no_feeds (b ∷ bs) all =
    let h = and_parts (is_letter b) (list_all is_letter bs) all in
    let more = no_feeds bs h.1 in
    rw (letter_apart b 10 h.0 refl, more) refl

pub pieces_feeds : (piece : ℕ → List ℕ) (most each : ℕ) → ((k : ℕ) → k < most → feeds (piece k) ≡ each) → (m : ℕ) → m ≤ most → feeds (pieces piece m) ≡ each * m
unfolding pieces
pieces_feeds piece most each law zero le = omega arith
pieces_feeds piece most each law (suc m) le =
    let a = pieces_feeds piece most each law m (omega arith) in
    let b = law m (omega arith) in
    feeds_append (pieces piece m) (piece m) ∙ step (feeds (pieces piece m)) (feeds (piece m)) a b
  where
    step : (x y : ℕ) → x ≡ each * m → y ≡ each → x + y ≡ each * suc m
    step x y e f = rw (e, f) (omega arith)

-- name = string ;
row_nested : (d w z : List ℕ) → (d ++ (61 ∷ (w ++ 59 ∷ []))) ++ z ≡ d ++ (61 ∷ (w ++ (59 ∷ z)))
row_nested d w z = append_assoc d (61 ∷ (w ++ 59 ∷ [])) z ∙ ap (λ (x : List ℕ). d ++ (61 ∷ x)) (append_assoc w (59 ∷ []) z)

blank_texts : (y : List ℕ) → texts (32 ∷ y) ≡ texts y
unfolding texts_from piece_at
blank_texts y = refl

equal_texts : (y : List ℕ) → texts (61 ∷ y) ≡ codes "=" ∷ texts y
unfolding texts_from piece_at
equal_texts y = refl

end_texts : (y : List ℕ) → texts (59 ∷ y) ≡ codes ";" ∷ texts y
unfolding texts_from piece_at
end_texts y = refl

row_texts : (name w z : List ℕ) → 0 < length name → list_all is_letter name ≡ true → 0 < length w → list_all is_letter w ≡ true
    → texts (32 ∷ (name ++ (61 ∷ (w ++ (59 ∷ z))))) ≡ name ∷ codes "=" ∷ w ∷ codes ";" ∷ texts z
row_texts name w z some all more letters =
    blank_texts (name ++ (61 ∷ (w ++ (59 ∷ z)))) ∙ word_texts name (w ++ (59 ∷ z)) 61 some all refl
    ∙ ap (λ (l : List (List ℕ)). name ∷ l) (equal_texts (w ++ (59 ∷ z)) ∙ ap (λ (l : List (List ℕ)). codes "=" ∷ l) (word_texts w z 59 more letters refl ∙ ap (λ (l : List (List ℕ)). w ∷ l) (end_texts z)))

equal_through : Through (in_run 1) (61 ∷ []) (at_mode 1)
unfolding end_of run step mode_step free_step run_step mark_step
equal_through = record { none = refl; reaches = refl }

end_through : Through (in_run 1) (59 ∷ []) (at_mode 1)
unfolding end_of run step mode_step free_step run_step mark_step
end_through = record { none = refl; reaches = refl }

si_through : Through (at_mode 1) (codes " si") (in_run 1)
unfolding end_of run step mode_step free_step run_step mark_step
si_through = record { none = refl; reaches = refl }

so_through : Through (at_mode 1) (codes " so") (in_run 1)
unfolding end_of run step mode_step free_step run_step mark_step
so_through = record { none = refl; reaches = refl }

value_through : (d w : List ℕ) → list_all is_letter d ≡ true → 0 < length w → list_all is_letter w ≡ true → Through (in_run 1) (d ++ (61 ∷ (w ++ 59 ∷ []))) (at_mode 1)
value_through d w all some letters =
    through_both (in_run 1) (in_run 1) (at_mode 1) d (61 ∷ (w ++ 59 ∷ [])) (run_through 1 d (letters_run d all))
    (through_both (in_run 1) (at_mode 1) (at_mode 1) (61 ∷ []) (w ++ 59 ∷ []) equal_through (through_both (at_mode 1) (in_run 1) (at_mode 1) w (59 ∷ []) (letters_through 1 w some letters) end_through))

value_feeds : (d w : List ℕ) → list_all is_letter d ≡ true → list_all is_letter w ≡ true → feeds (d ++ (61 ∷ (w ++ 59 ∷ []))) ≡ 0
value_feeds d w all letters =
    let a = no_feeds d all in
    let b = no_feeds w letters in
    let c = feeds_append w (59 ∷ []) in
    let e : feeds (59 ∷ []) ≡ 0 = refl in
    let f = feeds_append d (61 ∷ (w ++ 59 ∷ [])) in
    let g : feeds (61 ∷ (w ++ 59 ∷ [])) ≡ feeds (w ++ 59 ∷ []) = refl in
    omega (arith, a, b, c, e, f, g)

open_texts : (t : List ℕ) → texts (codes "Call load_unload {" ++ (32 ∷ t)) ≡ codes "Call" ∷ codes "load_unload" ∷ codes "{" ∷ texts (32 ∷ t)
unfolding texts_from piece_at brace_piece
open_texts t = refl

close_texts : texts (codes " }") ≡ codes "}" ∷ []
unfolding texts_from piece_at
close_texts = refl

-- behind an opening brace
abbrev at_brace : Scan
at_brace = record { mode = Brace; depth = 0; word = Known false }

open_through : Through (begin (Known false)) (codes "Call load_unload {") at_brace
unfolding end_of run step mode_step free_step run_step mark_step
open_through = record { none = refl; reaches = refl }

brace_blank : (t : List ℕ) → end_of true at_brace (32 ∷ t) ≡ end_of true (at_mode 1) (32 ∷ t)
unfolding end_of step mode_step free_step run_step mark_step
brace_blank t = refl

close_ends : (y : List ℕ) → end_of true (at_mode 1) (32 ∷ 125 ∷ y) ≡ Some (found 2 false)
unfolding end_of step mode_step free_step run_step mark_step
close_ends y = refl

-- what a call gives begins with a blank
blank_first : (n r : ℕ) (z : List ℕ) → pieces (given n r) 8 ++ z ≡ 32 ∷ drop 1 (pieces (given n r) 8 ++ z)
unfolding pieces load digits
blank_first n zero z = refl
blank_first n (suc r) z = refl

same_words : (n r : ℕ) → words_to (λ k. flat_map row_words (rows_of n r k)) 8 ≡ flat_map row_words (rows n r)
same_words n zero = refl
same_words n (suc r) = refl

-- of a piece of a call
record IsGiven (x : List ℕ) (ws : List (List ℕ)) : Type 0 where
  words : (z : List ℕ) → texts (x ++ z) ≡ ws ++ texts z
  through : Through (at_mode 1) x (at_mode 1)
  line : feeds x ≡ 0

module _ (n : ℕ) (least : 8 ≤ n) (most : n ≤ 16384) where
  load_given : (r k : ℕ) → k < 8 → IsGiven (load n r k) (row_words (record { name = in_port k; string = pieces (load_character r k) (chain_length n k) }))
  unfolding load
  load_given r k lt =
      let l = length_is n k least most lt in
      let s = load_is r k (chain_length n k) in
      let w = pieces (load_character r k) (chain_length n k) in
      let d = decimal k in
      let all = decimal_letters k (omega arith) in
      let some : 0 < length w = omega (arith, l.some, s.count) in
      record {
        words = λ z. ap (λ (x : List ℕ). texts (codes " si" ++ x)) (row_nested d w z) ∙ row_texts (in_port k) w z (omega arith) (rw all refl) some s.letters;
        through = through_both (at_mode 1) (in_run 1) (at_mode 1) (codes " si") (d ++ (61 ∷ (w ++ 59 ∷ []))) si_through (value_through d w all some s.letters);
        line = let v = value_feeds d w all s.letters in rw v refl;
      }

  compare_given : (r k : ℕ) → k < 8 → IsGiven (compare n r k) (row_words (record { name = out_port k; string = pieces (compare_character r k) (chain_length n k) }))
  unfolding compare
  compare_given r k lt =
      let l = length_is n k least most lt in
      let s = compare_is r k (chain_length n k) in
      let w = pieces (compare_character r k) (chain_length n k) in
      let d = decimal k in
      let all = decimal_letters k (omega arith) in
      let some : 0 < length w = omega (arith, l.some, s.count) in
      record {
        words = λ z. ap (λ (x : List ℕ). texts (codes " so" ++ x)) (row_nested d w z) ∙ row_texts (out_port k) w z (omega arith) (rw all refl) some s.letters;
        through = through_both (at_mode 1) (in_run 1) (at_mode 1) (codes " so") (d ++ (61 ∷ (w ++ 59 ∷ []))) so_through (value_through d w all some s.letters);
        line = let v = value_feeds d w all s.letters in rw v refl;
      }

  given_is : (r k : ℕ) → k < 8 → IsGiven (given n r k) (flat_map row_words (rows_of n r k))
  given_is zero k lt = load_given zero k lt
  given_is (suc r) k lt =
      let a = load_given (suc r) k lt in
      let b = compare_given (suc r) k lt in
      let x = load n (suc r) k in
      let y = compare n (suc r) k in
      record {
        words = λ z. ap texts (append_assoc x y z) ∙ a.words (y ++ z) ∙ ap (λ (l : List (List ℕ)). row_words (record { name = in_port k; string = pieces (load_character (suc r) k) (chain_length n k) }) ++ l) (b.words z);
        through = through_both (at_mode 1) (at_mode 1) (at_mode 1) x y a.through b.through;
        line = let e = a.line in let f = b.line in feeds_append x y ∙ omega (arith, e, f);
      }

  pub call_texts : (r : ℕ) → texts (call_bytes n r) ≡ call_words n r
  call_texts r =
      let mid = pieces (given n r) 8 in
      let x = mid ++ codes " }" in
      let e = blank_first n r (codes " }") in
      ap (λ (l : List ℕ). texts (codes "Call load_unload {" ++ l)) e ∙ open_texts (drop 1 x)
      ∙ ap (λ (l : List (List ℕ)). codes "Call" ∷ codes "load_unload" ∷ codes "{" ∷ l) (ap texts (sym e)
      ∙ pieces_texts (given n r) (λ k. flat_map row_words (rows_of n r k)) 8 (λ k z lt. (given_is r k lt).words z) 8 (codes " }") (omega arith)
      ∙ ap (λ (l : List (List ℕ)). words_to (λ k. flat_map row_words (rows_of n r k)) 8 ++ l) close_texts ∙ ap (λ (l : List (List ℕ)). l ++ codes "}" ∷ []) (same_words n r))

  pub call_stops : (r : ℕ) (y : List ℕ) → end_of true (begin (Known false)) (call_bytes n r ++ y) ≡ Some (found (length (call_bytes n r)) false)
  call_stops r y =
      let mid = pieces (given n r) 8 in
      let x = mid ++ (32 ∷ 125 ∷ y) in
      let e = blank_first n r (32 ∷ 125 ∷ y) in
      let count : 18 + (length mid + 2) ≡ length (call_bytes n r) = simp length-append (omega arith) in
      ap (λ (l : List ℕ). end_of true (begin (Known false)) (codes "Call load_unload {" ++ l)) (append_assoc mid (codes " }") y)
      ∙ over true (begin (Known false)) at_brace (codes "Call load_unload {") x open_through
      ∙ ap (later 18) (ap (end_of true at_brace) e ∙ brace_blank (drop 1 x) ∙ ap (end_of true (at_mode 1)) (sym e)
      ∙ over true (at_mode 1) (at_mode 1) mid (32 ∷ 125 ∷ y) (pieces_through (at_mode 1) (given n r) 8 (λ k lt. (given_is r k lt).through) 8 (omega arith))
      ∙ ap (later (length mid)) (close_ends y))
      ∙ ap (λ (m : ℕ). Some (found m false)) count

  pub call_line : (r : ℕ) → feeds (call_bytes n r) ≡ 0
  call_line r =
      let mid = pieces (given n r) 8 in
      let a = feeds_append (codes "Call load_unload {") (mid ++ codes " }") in
      let b = feeds_append mid (codes " }") in
      let c = pieces_feeds (given n r) 8 0 (λ k lt. (given_is r k lt).line) 8 (omega arith) in
      let d : feeds (codes "Call load_unload {") ≡ 0 = refl in
      let e : feeds (codes " }") ≡ 0 = refl in
      omega (arith, a, b, c, d, e)
