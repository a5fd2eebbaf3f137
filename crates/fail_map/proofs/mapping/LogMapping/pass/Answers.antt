use Rattle.std.proofs.Common.{ℕ, ◌+◌, ◌*◌, ◌<◌, List, [], ◌∷◌, ◌++◌, length, get_or, sym, ap, ◌∙◌, subst, arith, Option}
use Rattle.std.proofs.lemmas.List.{with_items_is}
use Rattle.stil_tester.specs.declared.chains.Chains.{Chains}
use Rattle.scan_verify.specs.Patterns.{pattern_of}
use Rattle.fail_map.specs.declared.line.LogLine.{LogLine}
use Rattle.fail_map.specs.Numbered.{Numbered, line_at}
use Rattle.fail_map.specs.Progress.{Progress, AreMappedSoFar}
use Rattle.fail_map.proofs.Passing.{IsPass, passed, within_stretch, some_calls}
use Rattle.fail_map.proofs.mapping.LogMapping.pass.Goals as goal

pub lines_before-first-requires : goal.lines_before-first-requires
lines_before-first-requires c = record { in_order = rw c.as_slice-lines.ensures.value c.self.invariant.in_order }

pub lines_before-end-requires : goal.lines_before-end-requires
lines_before-end-requires c = record { in_order = rw c.as_slice-lines.ensures.value c.self.invariant.in_order }

pub find_lines-requires-clause-some : goal.find_lines-requires-clause-some
find_lines-requires-clause-some c l =
    let first : ℕ = c.lines_before-first.result in
    let within : first < length c.as_slice-lines.result.now = omega (arith, l, c.lines_before-end.ensures.within) in
    let here = within_stretch (c.pattern_of-pattern.result + 1) c.count_at-before.result c.in_ok-behind.behind (line_at c.as_slice-lines.result.now first) (c.lines_before-first.ensures.behind first (omega arith) within) (c.lines_before-end.ensures.before first l) in
    let some : 0 < c.count_of-round.result = some_calls c.count_at-before.result c.in_ok-behind.behind c.times_of.result c.count_of-round.result c.in_ok-behind.ensures.value (omega (arith, here.above, here.upto)) in
    omega (arith, some, c.count_of-round.ensures.value)

pub returns : goal.returns
returns c =
    let old : Chains = c.args.map.now.0 in
    let new : Chains = c.args.map.now.1 in
    let b = c.args.b.now in
    let p : ℕ = c.pattern_of-pattern.result in
    let before : ℕ = c.count_at-before.result in
    let behind : ℕ = c.in_ok-behind.behind in
    let first : ℕ = c.lines_before-first.result in
    let end : ℕ = c.lines_before-end.result in
    let lines : List Numbered = c.as_slice-lines.result.now in
    let mapped : List (Option LogLine) = c.as_mut_slice.result.now in
    let counts : List ℕ = c.as_slice.result.now in
    let mapped' : List (Option LogLine) = c.find_lines.new.mapped in
    let counts' : List ℕ = c.put_count.new.counts.items in
    let pass : IsPass old new b p before behind first end lines mapped mapped' counts counts' = record {
      count = c.count_at-before.ensures.value;
      runs = c.in_ok-behind.ensures.value ∙ (λ i. before + c.times_of.ensures.value i * c.count_of-round.ensures.value i);
      early = c.lines_before-first.ensures.before;
      not_early = c.lines_before-first.ensures.behind;
      inside = c.lines_before-end.ensures.before;
      not_inside = c.lines_before-end.ensures.behind;
      long = c.find_lines.ensures.long;
      outside = c.in_ok-find_lines.ensures.others;
      tried = c.in_ok-find_lines.ensures.found;
      here = c.put_count.ensures.here;
      others_stay = λ k ne. c.put_count.ensures.others k ne ∙ ap (λ cs. get_or cs k 0) (c.reserve_count.ensures.unchanged ∙ sym c.as_slice.ensures.value);
    } in
    let inside : Progress = record { lines = c.self.inside.lines.items; mapped = c.self.inside.mapped.items; counts = c.self.inside.counts.items } in
    let pass' : IsPass old new b (pattern_of b) before behind first end inside.lines inside.mapped mapped' inside.counts counts'
    = subst (λ q. IsPass old new b q before behind first end inside.lines inside.mapped mapped' inside.counts counts') c.pattern_of-pattern.ensures.value
    (subst (λ (ls : List Numbered). IsPass old new b p before behind first end ls inside.mapped mapped' inside.counts counts') c.as_slice-lines.ensures.value
    (subst (λ (ms : List (Option LogLine)). IsPass old new b p before behind first end lines ms mapped' inside.counts counts') c.as_mut_slice.ensures.value
    (subst (λ (cs : List ℕ). IsPass old new b p before behind first end lines mapped mapped' cs counts') c.as_slice.ensures.value pass))) in
    let back = with_items_is c.self.inside.mapped mapped' (omega (arith, pass'.long, c.self.invariant.long, c.self.inside.mapped.ok.0)) in
    record {
      passed = λ olds news log far.
          let far' : AreMappedSoFar old new olds news log inside = subst (λ (s : Progress). AreMappedSoFar old new olds news log s) (sym c.self.view_is) far in
          subst (λ (ms : List (Option LogLine)). AreMappedSoFar old new (olds ++ c.args.a.now ∷ []) (news ++ b ∷ []) log (record { lines = inside.lines; mapped = ms; counts = counts' })) (sym back)
          (passed old new olds news log inside c.args.a.now b before behind first end mapped' counts' far' pass' c.requires.old_ready c.requires.new_ready c.requires.same);
      unchanged = tt;
    }
