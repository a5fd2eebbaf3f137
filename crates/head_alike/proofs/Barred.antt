-- What a head may not have stands nowhere in tokens that stay, where it didn't stand.
use Rattle.std.proofs.Common.{◌≡◌, ℕ, zero, suc, ◌+◌, ◌-◌, Bool, true, false, ◌&&◌, ◌||◌, not, cond, eqb, inl, inr, List, [], ◌∷◌, ◌++◌, length, map, codes, Option, Some, None, refl, sym, ap, ◌∙◌, subst}
use Rattle.std.specs.Prelude.{nat_eq}
use Rattle.std.specs.List.{flat_map, fold, count_by, AllByRecursion as Each}
use Rattle.std.specs.Str.{bytes_eq}
use Rattle.std.proofs.lemmas.Bool.{true≢false}
use Rattle.token_forms.specs.Tokens.{Token}
use Rattle.token_forms.specs.Classes.{is_among}
use Rattle.stil_tokens.specs.StilStatements.{is_only}
use Rattle.stil_syntax.specs.Names.{is_word, name_at}
use Rattle.stil_syntax.specs.Shapes.{behind_labels, in_block, begins_behind, body_statements}
use Rattle.stil_blocks.specs.Statements.{start_of, has_word, behind_word, statements_in}
use Rattle.stil_blocks.specs.Callees.{begins_shift, holds_shift}
use Rattle.stil_head.specs.declared.shift.InShift.{InShift}
use Rattle.stil_head.specs.declared.shift.InShift.TheVariants.{Outside, Before, Inside}
use Rattle.list_laws.specs.Leasts.{place_if}
use Rattle.stil_head.specs.Unsupported.{top_words, begins_unlisted, is_unlisted, name_passes, names_one, calls_scan, is_barred, places_at, later_shifts, inner_shifts, assigns_behind, is_mark, has_mark, shift_at, shift_behind, is_outside, has_outer_mark, outer_marks, is_odd_shift, odd_shifts, scan_places, body_places, bodies_places, callee_places, later_places}
use Rattle.head_alike.specs.Steps.{Step, Keep, Anew, olds, news, AreSteps}
use Rattle.head_alike.proofs.Names.{behind_both}
use Rattle.head_alike.proofs.Statements.{has_same}
use Rattle.head_alike.proofs.Empties.{place_both, more_both, flat_both}
use Rattle.head_alike.proofs.Plain.{IsPlain, later, Rest, behind_plain, block_plain, Inner, body_plain, inner_plain, IsSteady, rest_steady, shift_steady, holds_shift_steady, PlainNames, No, Yes, plain_names}

-- tests at each place where a statement may begin
places_both : (f g : List Token → Bool) → IsSteady f g → (b : Bool) (s : List Step) → IsPlain s → places_at f b (olds s) ≡ [] → places_at g b (news s) ≡ []
places_both f g h b [] are e = refl
places_both f g h b (Keep t u ∷ s) are e =
    more_both (place_if (b && f (t ∷ olds s)) t.start) (places_at f (begins_behind t.text) (olds s)) (place_if (b && g (u ∷ news s)) u.start) (places_at g (begins_behind u.text) (news s))
    (place_both (b && f (t ∷ olds s)) (b && g (u ∷ news s)) t.start u.start (ap (λ (k : Bool). b && k) (h (Keep t u ∷ s) are)))
    (λ e. ap (λ (w : List ℕ). places_at g (begins_behind w) (news s)) (sym are.0) ∙ places_both f g h (begins_behind t.text) s (later t u s are) e) e
places_both f g h b (Anew t u xs ys c d ∷ s) are e = absurd (true≢false (sym are.0.allowed))

shifts_both : (seen b : Bool) (s : List Step) → IsPlain s → later_shifts seen b (olds s) ≡ [] → later_shifts seen b (news s) ≡ []
shifts_both seen b [] are e = refl
shifts_both seen b (Keep t u ∷ s) are e =
    let same = ap (λ (k : Bool). b && k) (shift_steady (Keep t u ∷ s) are) in
    more_both (place_if (seen && (b && begins_shift (t ∷ olds s))) t.start) (later_shifts (seen || (b && begins_shift (t ∷ olds s))) (begins_behind t.text) (olds s))
    (place_if (seen && (b && begins_shift (u ∷ news s))) u.start) (later_shifts (seen || (b && begins_shift (u ∷ news s))) (begins_behind u.text) (news s))
    (place_both (seen && (b && begins_shift (t ∷ olds s))) (seen && (b && begins_shift (u ∷ news s))) t.start u.start (ap (λ (k : Bool). seen && k) same))
    (λ e. ap (λ (k : Bool). later_shifts (seen || k) (begins_behind u.text) (news s)) (sym same) ∙ ap (λ (w : List ℕ). later_shifts (seen || (b && begins_shift (t ∷ olds s))) (begins_behind w) (news s)) (sym are.0)
    ∙ shifts_both (seen || (b && begins_shift (t ∷ olds s))) (begins_behind t.text) s (later t u s are) e) e
shifts_both seen b (Anew t u xs ys c d ∷ s) are e = absurd (true≢false (sym are.0.allowed))

-- marks
mark_steady : (assigns : Bool) → IsSteady (has_mark assigns) (has_mark assigns)
mark_steady assigns [] are = refl
mark_steady assigns (Keep t u ∷ s) are =
    ap (λ (k : Bool). (assigns && is_mark t.text) || k) (mark_steady (assigns_behind assigns t.text) s (later t u s are))
    ∙ ap (λ (w : List ℕ). (assigns && is_mark w) || has_mark (assigns_behind assigns w) (news s)) are.0
mark_steady assigns (Anew t u xs ys c d ∷ s) are = absurd (true≢false (sym are.0.allowed))

shift_at_same : (place : InShift) (b : Bool) (s : List Step) → IsPlain s → shift_at place b (olds s) ≡ shift_at place b (news s)
shift_at_same Outside b s are = ap (λ (k : Bool). cond (b && k) Before Outside) (shift_steady s are)
shift_at_same Before b s are = refl
shift_at_same (Inside depth) b s are = refl

outer_steady : (place : InShift) (b assigns : Bool) → IsSteady (has_outer_mark place b assigns) (has_outer_mark place b assigns)
outer_steady place b assigns [] are = refl
outer_steady place b assigns (Keep t u ∷ s) are =
    let here = shift_at place b (t ∷ olds s) in
    ap (λ (k : Bool). (is_outside here && (assigns && is_mark t.text)) || k) (outer_steady (shift_behind here t.text) (begins_behind t.text) (assigns_behind assigns t.text) s (later t u s are))
    ∙ ap (λ (w : List ℕ). (is_outside here && (assigns && is_mark w)) || has_outer_mark (shift_behind here w) (begins_behind w) (assigns_behind assigns w) (news s)) are.0
    ∙ ap (λ (p : InShift). (is_outside p && (assigns && is_mark u.text)) || has_outer_mark (shift_behind p u.text) (begins_behind u.text) (assigns_behind assigns u.text) (news s)) (shift_at_same place b (Keep t u ∷ s) are)
outer_steady place b assigns (Anew t u xs ys c d ∷ s) are = absurd (true≢false (sym are.0.allowed))

counts_from : (f : List Token → Bool) → IsSteady f f → (n : ℕ) (rows : List (List Step)) → Each IsPlain rows → fold (λ a x. a + cond (f x) 1 0) n (map olds rows) ≡ fold (λ a x. a + cond (f x) 1 0) n (map news rows)
counts_from f h n [] each = refl
counts_from f h n (r ∷ rows) each =
    counts_from f h (n + cond (f (olds r)) 1 0) rows each.1 ∙ ap (λ (b : Bool). fold (λ (a : ℕ) (x : List Token). a + cond (f x) 1 0) (n + cond b 1 0) (map news rows)) (h r each.0)

counts_same : (f : List Token → Bool) → IsSteady f f → (rows : List (List Step)) → Each IsPlain rows → count_by f (map olds rows) ≡ count_by f (map news rows)
counts_same f h rows each = counts_from f h 0 rows each

odd_steady : IsSteady is_odd_shift is_odd_shift
unfolding is_odd_shift
odd_steady s are =
    let k = inner_plain s are in
    ap (λ (b : Bool). b && not (nat_eq (count_by (has_mark false) (statements_in (olds s))) 1)) (shift_steady s are)
    ∙ ap (λ (n : ℕ). begins_shift (news s) && not (nat_eq n 1))
    (ap (count_by (has_mark false)) k.old_is ∙ counts_same (has_mark false) (mark_steady false) k.rows k.each ∙ sym (ap (count_by (has_mark false)) k.new_is))

-- what scan procedures may not have
module _ (old new : List (List Token)) (k : Inner old new) where
  flat_inner : (f g : List Token → List ℕ) → ((r : List Step) → IsPlain r → f (olds r) ≡ [] → g (news r) ≡ []) → flat_map f old ≡ [] → flat_map g new ≡ []
  flat_inner f g h e = ap (flat_map g) k.new_is ∙ flat_both IsPlain f g h k.rows k.each (sym (ap (flat_map f) k.old_is) ∙ e)

  inner_both : inner_shifts old ≡ [] → inner_shifts new ≡ []
  inner_both e = flat_inner (λ s. places_at begins_shift false s) (λ s. places_at begins_shift false s) (λ r are. places_both begins_shift begins_shift shift_steady false r are) e

  outer_both : outer_marks old ≡ [] → outer_marks new ≡ []
  outer_both e = flat_inner (λ s. place_if (has_outer_mark Outside true false s) (start_of s)) (λ s. place_if (has_outer_mark Outside true false s) (start_of s))
      (λ r are. place_both _ _ (start_of (olds r)) (start_of (news r)) (outer_steady Outside true false r are)) e

  odd_both : odd_shifts old ≡ [] → odd_shifts new ≡ []
  odd_both e = flat_inner (λ s. place_if (is_odd_shift s) (start_of s)) (λ s. place_if (is_odd_shift s) (start_of s)) (λ r are. place_both _ _ (start_of (olds r)) (start_of (news r)) (odd_steady r are)) e

scan_both : (old new : List Token) → Rest old new → scan_places old ≡ [] → scan_places new ≡ []
scan_both old new r e =
    let k = body_plain old new r in
    more_both (later_shifts false true old) _ (later_shifts false true new) _
    (λ e. ap (later_shifts false true) r.new_is ∙ shifts_both false true r.rest r.are (sym (ap (later_shifts false true) r.old_is) ∙ e))
    (more_both (inner_shifts (body_statements old)) _ (inner_shifts (body_statements new)) _ (inner_both _ _ k)
    (more_both (outer_marks (body_statements old)) _ (outer_marks (body_statements new)) _ (outer_both _ _ k) (odd_both _ _ k))) e

module _ (f p : List ℕ → Bool) where
  name_steady : (g : List ℕ → Bool) → IsSteady (names_one g) (names_one g)
  name_steady g s are = elim (plain_names s are) [
    | No d e ↦ ap (name_passes g) d ∙ sym (ap (name_passes g) e)
    | Yes x r d e rest ↦ ap (name_passes g) d ∙ sym (ap (name_passes g) e)
  ]

  calls_steady : IsSteady (calls_scan f p) (calls_scan f p)
  unfolding calls_scan
  calls_steady s are =
      let k = behind_plain s are in
      let a = rest_steady (names_one f) (names_one f) (name_steady f) _ _ k in
      let b = rest_steady (names_one p) (names_one p) (name_steady p) _ _ k in
      ap (λ (h : Bool). (h && names_one f (behind_word (olds s))) || (has_word (codes "Macro") (olds s) && names_one p (behind_word (olds s)))) (has_same false s are (codes "Call"))
      ∙ ap (λ (h : Bool). (has_word (codes "Call") (news s) && h) || (has_word (codes "Macro") (olds s) && names_one p (behind_word (olds s)))) a
      ∙ ap (λ (h : Bool). (has_word (codes "Call") (news s) && names_one f (behind_word (news s))) || (h && names_one p (behind_word (olds s)))) (has_same false s are (codes "Macro"))
      ∙ ap (λ (h : Bool). (has_word (codes "Call") (news s) && names_one f (behind_word (news s))) || (has_word (codes "Macro") (news s) && h)) b

  barred_steady : (scan : Bool) → IsSteady (is_barred f p scan) (is_barred f p scan)
  unfolding is_barred
  barred_steady scan s are =
      ap (λ (h : Bool). h || (has_word (codes "Goto") (olds s) || ((scan && has_word (codes "ScanChain") (olds s)) || calls_scan f p (olds s)))) (has_same false s are (codes "MatchLoop"))
      ∙ ap (λ (h : Bool). has_word (codes "MatchLoop") (news s) || (h || ((scan && has_word (codes "ScanChain") (olds s)) || calls_scan f p (olds s)))) (has_same false s are (codes "Goto"))
      ∙ ap (λ (h : Bool). has_word (codes "MatchLoop") (news s) || (has_word (codes "Goto") (news s) || ((scan && h) || calls_scan f p (olds s)))) (has_same false s are (codes "ScanChain"))
      ∙ ap (λ (h : Bool). has_word (codes "MatchLoop") (news s) || (has_word (codes "Goto") (news s) || ((scan && has_word (codes "ScanChain") (news s)) || h))) (calls_steady s are)

  if_both : (b c : Bool) (xs ys : List ℕ) → b ≡ c → (xs ≡ [] → ys ≡ []) → cond b xs [] ≡ [] → cond c ys [] ≡ []
  if_both b true xs ys same h e = h (ap (λ (k : Bool). cond k xs []) (sym same) ∙ e)
  if_both b false xs ys same h e = refl

  body_both : (old new : List Token) → Rest old new → body_places f p old ≡ [] → body_places f p new ≡ []
  unfolding body_places
  body_both old new r e =
      let same = rest_steady holds_shift holds_shift holds_shift_steady old new r in
      more_both (places_at (is_barred f p (holds_shift old)) true old) _ (places_at (is_barred f p (holds_shift new)) true new) _
      (λ e. ap (λ (b : Bool). places_at (is_barred f p b) true new) (sym same) ∙ ap (places_at (is_barred f p (holds_shift old)) true) r.new_is
      ∙ places_both (is_barred f p (holds_shift old)) (is_barred f p (holds_shift old)) (barred_steady (holds_shift old)) true r.rest r.are (sym (ap (places_at (is_barred f p (holds_shift old)) true) r.old_is) ∙ e))
      (if_both (holds_shift old) (holds_shift new) (scan_places old) (scan_places new) same (scan_both old new r)) e

  pub callee_places_both : (s : List Step) → IsPlain s → callee_places f p (olds s) ≡ [] → callee_places f p (news s) ≡ []
  unfolding callee_places
  callee_places_both s are e =
      let same = ap (λ (b : Bool). b || has_word (codes "MacroDefs") (olds s)) (has_same false s are (codes "Procedures")) ∙ ap (λ (b : Bool). has_word (codes "Procedures") (news s) || b) (has_same false s are (codes "MacroDefs")) in
      if_both _ _ (bodies_places f p (statements_in (olds s))) (bodies_places f p (statements_in (news s))) same
      (flat_inner _ _ (inner_plain s are) (λ p'. body_places f p (in_block p')) (λ p'. body_places f p (in_block p')) (λ r is. body_both (in_block (olds r)) (in_block (news r)) (block_plain r is))) e

-- a word that isn't listed
unlisted_begins : (allow begins : Bool) (s : List Step) → AreSteps allow begins s → begins_unlisted (olds s) ≡ begins_unlisted (news s)
unlisted_begins allow begins [] are = refl
unlisted_begins allow begins (Keep t u ∷ s) are = ap (λ (w : List ℕ). is_word w && not (is_among top_words w)) are.0
unlisted_begins allow begins (Anew t u xs ys c d ∷ s) are = ap (λ (w : List ℕ). is_word w && not (is_among top_words w)) are.0.word

pub unlisted_same : (allow : Bool) (s : List Step) → AreSteps allow true s → is_unlisted (olds s) ≡ is_unlisted (news s)
unfolding is_unlisted
unlisted_same allow s are =
    let k = behind_both allow s are in
    ap begins_unlisted k.old ∙ unlisted_begins allow true k.rest k.are ∙ sym (ap begins_unlisted k.new)

pub later_both : (f : List Token → Bool) (P : List Step → Type 0) → ((r : List Step) → P r → f (olds r) ≡ f (news r)) → (seen : Bool) (rows : List (List Step)) → Each P rows → later_places f seen (map olds rows) ≡ [] → later_places f seen (map news rows) ≡ []
later_both f P h seen [] each e = refl
later_both f P h seen (r ∷ rows) each e =
    let same = h r each.0 in
    more_both (place_if (seen && f (olds r)) (start_of (olds r))) (later_places f (seen || f (olds r)) (map olds rows)) (place_if (seen && f (news r)) (start_of (news r))) (later_places f (seen || f (news r)) (map news rows))
    (place_both (seen && f (olds r)) (seen && f (news r)) (start_of (olds r)) (start_of (news r)) (ap (λ (b : Bool). seen && b) same))
    (λ e. ap (λ (b : Bool). later_places f (seen || b) (map news rows)) (sym same) ∙ later_both f P h (seen || f (olds r)) rows each.1 e) e
