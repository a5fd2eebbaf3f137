-- What is carried back of a log is the log that stands for it.
use Rattle.std.proofs.Common.{◌≡◌, ℕ, ◌+◌, ◌<◌, ◌≤◌, ◌⊎◌, List, length, take, map, get_or, sym, ap, subst, ◌∙◌, arith, ⊎_elim, inl, inr, eq-eqb, cond, true, Some, None}
use Rattle.std.specs.Prelude.{nat_eq, count_by, Contains, slice_get}
use Rattle.std.specs.List.Sorted.{IsPermutation, IsSorted}
use Rattle.std.proofs.lemmas.Bool.{cases_lt}
use Rattle.std.proofs.lemmas.List.{get_or-map, length-map, take-take, get_or_default}
use Rattle.std.proofs.lemmas.List.Elements.{Contains-get_or}
use Rattle.std.proofs.lemmas.List.Sums.{count_by_more_yes, sum_by-take-le}
use Rattle.std.proofs.lemmas.List.Sorted.{IsPermutation-sym}
use Rattle.std.proofs.lemmas.Option.{same_Some, slice_get_within, get_or_from_slice_get}
use Rattle.stil_types.specs.declared.statement.ScanCall.{ScanCall}
use Rattle.stil_types.specs.declared.statement.PatternStatement.{PatternStatement}
use Rattle.stil_tester.specs.declared.symbol.Symbol.{Symbol}
use Rattle.stil_tester.specs.declared.chains.Chains.{Chains}
use Rattle.stil_tester.specs.Shifting.{HasCells}
use Rattle.stil_tester.specs.Runs.{Answer, AreAnswersFor, all_events}
use Rattle.fail_map.proofs.Events.{events_same}
use Rattle.stil_written.specs.Readings.{reading}
use Rattle.fail_map.specs.declared.line.LogLine.{LogLine}
use Rattle.fail_map.specs.Blocks.{AreSameCalls}
use Rattle.fail_map.specs.Fails.{Fails}
use Rattle.fail_map.specs.FailLogs.{calls_in, cells_run, patterns_run, IsScanOf, IsPlace, IsFail, AreRising}
use Rattle.fail_map.specs.Carried.{carried}
use Rattle.fail_map.specs.Mapped.{StandsFor, HaveOwnLines, MapsWholeLogs, IsMappedLog}
use Rattle.fail_map.specs.Numbered.{no_line, line_of, line_at, number_at, mapped_at, IsRepeated}
use Rattle.fail_map.specs.Progress.{Progress, played, IsFoundIn, AreMappedSoFar}
use Rattle.fail_map.proofs.Calls.{all_same, same_there, same_here, patterns_same, cells_same, cells_room}
use Rattle.fail_map.proofs.Carrying.{IsOneLine, turned, turned_cells, fails_there, carried_line, lines_new, lines_old}
use Rattle.fail_map.proofs.Failing.{fail_compared}
use Rattle.fail_map.proofs.Orders.{line_cmp, AreMoved, moves, repeated, rising}

-- ---- a number of a Pattern names one scan call

later_number : (runs : List ℕ) (i j p : ℕ) → i < j → slice_get runs i ≡ Some p → count_by (nat_eq p) (take i runs) + 1 ≤ count_by (nat_eq p) (take j runs)
later_number runs i j p l e =
    let within : i < length runs = slice_get_within runs i p e in
    let is : nat_eq p (get_or runs i 0) ≡ true = eq-eqb p (get_or runs i 0) (sym (get_or_from_slice_get runs i p 0 e)) in
    omega (arith, count_by_more_yes (nat_eq p) runs i 0 within is, sum_by-take-le (λ x. cond (nat_eq p x) 1 0) (take j runs) (i + 1), ap (count_by (nat_eq p)) (take-take (i + 1) j runs (omega (arith, l))))

one_number : (runs : List ℕ) (i j p : ℕ) → slice_get runs i ≡ Some p → slice_get runs j ≡ Some p → count_by (nat_eq p) (take i runs) ≡ count_by (nat_eq p) (take j runs) → i ≡ j
one_number runs i j p e f c =
    ⊎_elim (λ (l : i < j). absurd (omega (arith, later_number runs i j p l e, c)))
    (λ (g : j ≤ i). ⊎_elim (λ (m : j < i). absurd (omega (arith, later_number runs j i p m f, c))) (λ (h : i ≤ j). let same : i ≡ j = omega (arith, g, h) in same) (cases_lt j i))
    (cases_lt i j)

one_scan : (statements : List PatternStatement) (i j p s : ℕ) → IsScanOf statements i p s → IsScanOf statements j p s → i ≡ j
one_scan statements i j p s a b = one_number (patterns_run statements) i j p a.of_pattern b.of_pattern (omega (arith, a.number, b.number))

module _ (chains others : Chains) (old new : List PatternStatement) (log : List LogLine) (state : Progress) (far : AreMappedSoFar chains others old new log state) where
  -- ---- both runs

  same_patterns : patterns_run old ≡ patterns_run new
  same_patterns = patterns_same reading chains others old new far.old_ready far.new_ready far.alike far.show_same

  scan_back : (at p s : ℕ) → IsScanOf new at p s → IsScanOf old at p s
  scan_back at p s h = record { of_pattern = ap (λ runs. slice_get runs at) same_patterns ∙ h.of_pattern; number = h.number ∙ ap (λ runs. count_by (nat_eq p) (take at runs) + 1) (sym same_patterns) }

  scan_on : (at p s : ℕ) → IsScanOf old at p s → IsScanOf new at p s
  scan_on at p s h = record { of_pattern = ap (λ runs. slice_get runs at) (sym same_patterns) ∙ h.of_pattern; number = h.number ∙ ap (λ runs. count_by (nat_eq p) (take at runs) + 1) same_patterns }

  call_before : (at : ℕ) (b : ScanCall) → slice_get (calls_in (all_events new)) at ≡ Some b → (a : ScanCall) × (slice_get (calls_in (all_events old)) at ≡ Some a) × AreSameCalls chains others a b
  call_before at b e = same_here chains others (calls_in (all_events old)) (calls_in (all_events new)) (all_same reading chains others old new far.old_ready far.new_ready far.alike far.show_same) at b e

  call_behind : (at : ℕ) (a : ScanCall) → slice_get (calls_in (all_events old)) at ≡ Some a → (b : ScanCall) × (slice_get (calls_in (all_events new)) at ≡ Some b) × AreSameCalls chains others a b
  call_behind at a e = same_there chains others (calls_in (all_events old)) (calls_in (all_events new)) (all_same reading chains others old new far.old_ready far.new_ready far.alike far.show_same) at a e

  module _ (cells : List Symbol) (answers : List Answer) (long : HasCells chains cells) (given : AreAnswersFor chains old answers) where
    same_cells : cells_run chains (all_events old) cells answers ≡ cells_run others (all_events new) cells answers
    same_cells = cells_same chains others (all_events old) (all_events new) (events_same chains others reading old new far.alike far.show_same) cells long answers given.each

    room : (at : ℕ) (before : List Symbol) → slice_get (cells_run chains (all_events old) cells answers) at ≡ Some before → HasCells chains before
    room at before e = cells_room chains (all_events old) cells long answers given.each at before e

    -- ---- one line

    -- a fail of the first run is one of the second
    forth : (a b : LogLine) (call : ScanCall) → IsPlace (played others new) b call → IsOneLine chains others a b → IsFail (played chains old) cells answers a → IsFail (played others new) cells answers b
    forth a b call place one f =
        let at : f.at ≡ place.at = one_scan new f.at place.at b.pattern b.scan
        (subst (λ p. IsScanOf new f.at p b.scan) one.pattern (subst (λ s. IsScanOf new f.at a.pattern s) one.scan (scan_on f.at a.pattern a.scan f.scan_is))) place.scan_is in
        let pair = call_before place.at call place.call_is in
        let same : pair.0 ≡ f.call = same_Some pair.0 f.call (sym pair.1 ∙ ap (slice_get (calls_in (all_events old))) (sym at) ∙ f.call_is) in
        let chain : f.chain ≡ one.c = omega (arith, f.chain_is, one.chain) in
        let law = fails_there chains others pair.0 call far.cells pair.2 one.c a.index one.d b.index one.one f.before (room f.at f.before f.before_is) in
        record {
          at = place.at;
          scan_is = place.scan_is;
          call = call;
          call_is = place.call_is;
          before = f.before;
          before_is = ap (λ k. slice_get (cells_run others (all_events new) cells answers) k) (sym at) ∙ ap (λ run. slice_get run f.at) (sym same_cells) ∙ f.before_is;
          chain = one.d;
          chain_is = one.other;
          fails = law.0 (subst (λ c. Fails chains f.before c one.c a.index) (sym same) (subst (λ n. Fails chains f.before f.call n a.index) chain f.fails));
        }

    -- and the other way round
    back : (a b : LogLine) (call : ScanCall) → IsPlace (played others new) b call → IsOneLine chains others a b → IsFail (played others new) cells answers b → IsFail (played chains old) cells answers a
    back a b call place one g =
        let at : g.at ≡ place.at = one_scan new g.at place.at b.pattern b.scan g.scan_is place.scan_is in
        let pair = call_before place.at call place.call_is in
        let same : call ≡ g.call = same_Some call g.call (sym place.call_is ∙ ap (slice_get (calls_in (all_events new))) (sym at) ∙ g.call_is) in
        let chain : g.chain ≡ one.d = omega (arith, g.chain_is, one.other) in
        let before : slice_get (cells_run chains (all_events old) cells answers) place.at ≡ Some g.before
        = ap (λ k. slice_get (cells_run chains (all_events old) cells answers) k) (sym at) ∙ ap (λ run. slice_get run g.at) same_cells ∙ g.before_is in
        let law = fails_there chains others pair.0 call far.cells pair.2 one.c a.index one.d b.index one.one g.before (room place.at g.before before) in
        record {
          at = place.at;
          scan_is = subst (λ p. IsScanOf old place.at p a.scan) (sym one.pattern) (subst (λ s. IsScanOf old place.at b.pattern s) (sym one.scan) (scan_back place.at b.pattern b.scan place.scan_is));
          call = pair.0;
          call_is = pair.1;
          before = g.before;
          before_is = before;
          chain = one.c;
          chain_is = one.chain;
          fails = law.1 (subst (λ c. Fails others g.before c one.d b.index) (sym same) (subst (λ n. Fails others g.before g.call n b.index) chain g.fails));
        }

    -- each fail of the first run comes from one of the second
    from : (a : LogLine) → IsFail (played chains old) cells answers a → (b : LogLine) × IsFail (played others new) cells answers b × IsOneLine chains others a b
    from a f =
        let pair = call_behind f.at f.call f.call_is in
        let b : LogLine = carried others chains a in
        let far_side : IsOneLine others chains b a
        = carried_line others chains f.call a (turned_cells chains others far.cells) pair.2.old_accepted (record { chain = f.chain; chain_is = f.chain_is; compared = fail_compared chains f.before f.call f.chain a.index f.fails }) in
        let one : IsOneLine chains others a b = record {
          pattern = sym far_side.pattern;
          scan = sym far_side.scan;
          c = far_side.d;
          d = far_side.c;
          chain = far_side.other;
          other = far_side.chain;
          one = turned others chains far_side.c b.index far_side.d a.index far_side.one;
        } in
        let chain : f.chain ≡ one.c = omega (arith, f.chain_is, one.chain) in
        let law = fails_there chains others f.call pair.0 far.cells pair.2 one.c a.index one.d b.index one.one f.before (room f.at f.before f.before_is) in
        let fails : Fails others f.before pair.0 one.d b.index = law.0 (subst (λ n. Fails chains f.before f.call n a.index) chain f.fails) in (
          b,
          record {
            at = f.at;
            scan_is = scan_on f.at a.pattern a.scan f.scan_is;
            call = pair.0;
            call_is = pair.1;
            before = f.before;
            before_is = ap (λ run. slice_get run f.at) (sym same_cells) ∙ f.before_is;
            chain = one.d;
            chain_is = one.other;
            fails = fails;
          },
          one,
        )

  stands : (a b : LogLine) (call : ScanCall) → IsPlace (played others new) b call → IsOneLine chains others a b → StandsFor (played chains old) (played others new) a b
  stands a b call place one cells answers long given = (forth cells answers long given a b call place one, back cells answers long given a b call place one)

  -- ---- all lines

  module _ (found sorted : List LogLine) (all : map Some found ≡ state.mapped) (apart : (k : ℕ) → k < length state.lines → IsRepeated state.lines k → ⊥)
      (moved : IsPermutation found sorted) (up : IsSorted line_cmp sorted) where
    as_many : length found ≡ length state.lines
    as_many = sym (length-map found Some) ∙ ap length all ∙ far.long

    there : AreMoved found sorted
    there = moves found sorted moved

    behind : AreMoved sorted found
    behind = moves sorted found (IsPermutation-sym found sorted moved)

    -- a line names a comparison, and the line that is found for it the same one
    placed : (k : ℕ) → k < length state.lines → ((call : ScanCall) × IsPlace (played others new) (line_at state.lines k) call) × (line_of found k ≡ carried chains others (line_at state.lines k))
    placed k l =
        let is : mapped_at state.mapped k ≡ Some (line_of found k) = ap (λ ms. get_or ms k None) (sym all) ∙ get_or-map Some found k no_line None (omega (arith, as_many, l)) in
        subst (IsFoundIn chains others new (line_at state.lines k)) is (far.each k l)

    one_of : (k : ℕ) → k < length state.lines → IsOneLine chains others (line_of found k) (line_at state.lines k)
    one_of k l =
        let p = placed k l in
        let pair = call_before p.0.1.at p.0.0 p.0.1.call_is in
        subst (λ a. IsOneLine chains others a (line_at state.lines k)) (sym p.1)
        (carried_line chains others p.0.0 (line_at state.lines k) far.cells pair.2.new_accepted (record { chain = p.0.1.chain; chain_is = p.0.1.chain_is; compared = p.0.1.compared }))

    -- no line stands twice
    lines_apart : (j k : ℕ) → j < length state.lines → k < length state.lines → line_at state.lines j ≡ line_at state.lines k → j ≡ k
    lines_apart j k l m e =
        ⊎_elim (λ (h : j < k). absurd (apart k m (repeated state.lines far.lines.in_order j k h m e)))
        (λ (g : k ≤ j). ⊎_elim (λ (h : k < j). absurd (apart j l (repeated state.lines far.lines.in_order k j h l (sym e)))) (λ (h : j ≤ k). let same : j ≡ k = omega (arith, g, h) in same) (cases_lt k j))
        (cases_lt j k)

    -- and none that is found
    found_apart : (j k : ℕ) → j < length found → k < length found → line_of found j ≡ line_of found k → j ≡ k
    found_apart j k l m e =
        lines_apart j k (omega (arith, l, as_many)) (omega (arith, m, as_many))
        (lines_new chains others far.cells.new_chains (line_of found k) (line_at state.lines j) (line_at state.lines k)
        (subst (λ a. IsOneLine chains others a (line_at state.lines j)) e (one_of j (omega (arith, l, as_many)))) (one_of k (omega (arith, m, as_many))))

    sorted_rise : AreRising sorted
    sorted_rise =
        rising sorted up (λ k l e.
        let j : k < length sorted = omega (arith, l) in
        let same : behind.to k ≡ behind.to (k + 1) = found_apart (behind.to k) (behind.to (k + 1)) (behind.within k j) (behind.within (k + 1) l) (behind.same k no_line j ∙ e ∙ sym (behind.same (k + 1) no_line l)) in
        omega (arith, behind.apart k (k + 1) same))

    -- the place among the lines of a line of the log
    abbrev place_of : (n : ℕ) → (n < length log) ⊎ (length log ≤ n) → ℕ
    place_of n (inl l) = (far.lines.every n l).0
    place_of n (inr g) = 0

    record IsPlaced (n k : ℕ) : Type 0 where
      within : k < length state.lines
      number : number_at state.lines k ≡ n
      line : line_of log n ≡ line_at state.lines k

    placed_there : (n : ℕ) (c : (n < length log) ⊎ (length log ≤ n)) → n < length log → IsPlaced n (place_of n c)
    placed_there n (inl l) m =
        let at = far.lines.every n l in
        record { within = at.1; number = at.2; line = ap (line_of log) (sym at.2) ∙ far.lines.is at.0 at.1 }
    placed_there n (inr g) m = absurd (omega (arith, g, m))

    abbrev at_line : ℕ → ℕ
    at_line n = place_of n (cases_lt n (length log))

    is_at : (n : ℕ) → n < length log → IsPlaced n (at_line n)
    is_at n l = placed_there n (cases_lt n (length log)) l

    own_lines : HaveOwnLines (played chains old) (played others new) log sorted
    own_lines = record {
      own = λ n. there.to (at_line n);
      apart = λ j k l m e.
          let same : at_line j ≡ at_line k = there.apart (at_line j) (at_line k) e in
          sym (is_at j l).number ∙ ap (number_at state.lines) same ∙ (is_at k m).number;
      within = λ n l. there.within (at_line n) (omega (arith, as_many, (is_at n l).within));
      stands = λ n b a e f.
          let l : n < length log = slice_get_within log n b e in
          let at : IsPlaced n (at_line n) = is_at n l in
          let m : at_line n < length found = omega (arith, as_many, at.within) in
          let p = placed (at_line n) at.within in
          let b_is : line_at state.lines (at_line n) ≡ b = sym at.line ∙ get_or_from_slice_get log n b no_line e in
          let a_is : line_of found (at_line n) ≡ a = sym (there.same (at_line n) no_line m) ∙ get_or_from_slice_get sorted (there.to (at_line n)) a no_line f in
          subst (λ x. StandsFor (played chains old) (played others new) a x) b_is (subst (λ x. StandsFor (played chains old) (played others new) x (line_at state.lines (at_line n))) a_is
          (stands (line_of found (at_line n)) (line_at state.lines (at_line n)) p.0.0 p.0.1 (one_of (at_line n) at.within)));
    }

    -- what is found is in the log
    in_log : (k : ℕ) → k < length state.lines → Contains log (line_at state.lines k)
    in_log k l = subst (Contains log) (far.lines.is k l) (Contains-get_or log (number_at state.lines k) no_line (far.lines.within k l))

    whole_log : MapsWholeLogs (played chains old) (played others new) log sorted
    whole_log cells answers long given lists = record {
      rising = sorted_rise;
      each = λ line. (
        λ (has : Contains sorted line).
            let k : ℕ = behind.to has.0 in
            let m : k < length found = behind.within has.0 has.1 in
            let l : k < length state.lines = omega (arith, as_many, m) in
            let is : line_of found k ≡ line = behind.same has.0 no_line has.1 ∙ get_or_default sorted has.0 no_line line has.1 ∙ has.2 in
            let p = placed k l in
            subst (λ x. IsFail (played chains old) cells answers x) is
            (back cells answers long given (line_of found k) (line_at state.lines k) p.0.0 p.0.1 (one_of k l) ((lists (line_at state.lines k)).0 (in_log k l))),
        λ (fail : IsFail (played chains old) cells answers line).
            let that = from cells answers long given line fail in
            let has : Contains log that.0 = (lists that.0).1 that.1 in
            let at : IsPlaced has.0 (at_line has.0) = is_at has.0 has.1 in
            let b_is : line_at state.lines (at_line has.0) ≡ that.0 = sym at.line ∙ get_or_default log has.0 no_line that.0 has.1 ∙ has.2 in
            let m : at_line has.0 < length found = omega (arith, as_many, at.within) in
            let one : IsOneLine chains others (line_of found (at_line has.0)) that.0 = subst (IsOneLine chains others (line_of found (at_line has.0))) b_is (one_of (at_line has.0) at.within) in
            let is : line_of found (at_line has.0) ≡ line = lines_old chains others far.cells.old_chains (line_of found (at_line has.0)) line that.0 one that.2 in
            subst (Contains sorted) (there.same (at_line has.0) no_line m ∙ is) (Contains-get_or sorted (there.to (at_line has.0)) no_line (there.within (at_line has.0) m)),
      );
    }

    pub mapped_log : IsMappedLog (played chains old) (played others new) log sorted
    mapped_log = record {
      count = there.long ∙ as_many ∙ far.lines.count;
      rising = sorted_rise;
      own_lines = own_lines;
      whole = whole_log;
    }
