use Rattle.std.proofs.Common.{◌≡◌, ◌<◌, ◌∙◌, ℕ, List, Option, arith, ap, refl, subst, length, get_or, slice_index_or}
use Rattle.std.proofs.lemmas.List.{get_or_default}
use Rattle.chain_rules.specs.declared.unit.ChainRule.{ChainRule}
use Rattle.chain_rules.specs.Legality.{no_rule, rule_at}
use Rattle.chain_balance.specs.Searches.{CanTake}
use Rattle.chain_balance.proofs.Reaching.{pushed, near_pushed}
use Rattle.chain_balance.proofs.search.push_taker.Goals as goal

pub returns-then-is_hole-clause-search : goal.returns-then-is_hole-clause-search
returns-then-is_hole-clause-search c =
    pushed c.args.rules.now c.args.fixed.now c.args.work.now c.args.groups.now c.args.givers.now c.args.search.now c.push_entry.new.search c.args.taker c.in-Some.giver
    (record { path = (slice_index_or c.as_slice.result.now c.args.taker no_rule).path; giver = c.in-Some.giver.chain; taker = c.args.taker; parent = c.in-Some.giver.entry })
    (record {
      searching = c.requires.search;
      groups_are = c.requires.groups;
      on = c.requires.paths;
      is_taker = c.requires.taker;
      can = subst (λ (ns : List (Option ℕ)). CanTake c.args.rules.now c.args.work.now.plan c.args.groups.now ns c.args.givers.now c.args.taker c.in-Some.giver) c.as_slice-numbers.ensures.value c.in-Some.ensures.value;
      path_is = ap (λ (rs : List ChainRule). (slice_index_or rs c.args.taker no_rule).path) c.as_slice.ensures.value;
      giver_is = refl;
      taker_is = refl;
      parent_is = refl;
      entries_are = c.in_ok-push_entry.ensures.entries;
      numbers_are = c.in_ok-push_entry.ensures.numbers;
    })

pub returns-clause-search : goal.returns-clause-search
returns-clause-search c =
    pushed c.args.rules.now c.args.fixed.now c.args.work.now c.args.groups.now c.args.givers.now c.args.search.now c.push_entry.new.search c.args.taker c.in-Some.giver
    (record { path = (slice_index_or c.as_slice.result.now c.args.taker no_rule).path; giver = c.in-Some.giver.chain; taker = c.args.taker; parent = c.in-Some.giver.entry })
    (record {
      searching = c.requires.search;
      groups_are = c.requires.groups;
      on = c.requires.paths;
      is_taker = c.requires.taker;
      can = subst (λ (ns : List (Option ℕ)). CanTake c.args.rules.now c.args.work.now.plan c.args.groups.now ns c.args.givers.now c.args.taker c.in-Some.giver) c.as_slice-numbers.ensures.value c.in-Some.ensures.value;
      path_is = ap (λ (rs : List ChainRule). (slice_index_or rs c.args.taker no_rule).path) c.as_slice.ensures.value;
      giver_is = refl;
      taker_is = refl;
      parent_is = refl;
      entries_are = c.in_ok-push_entry.ensures.entries;
      numbers_are = c.in_ok-push_entry.ensures.numbers;
    })

pub returns-clause-near : goal.returns-clause-near
returns-clause-near c = λ _.
    let row : (slice_index_or c.as_slice.result.now c.args.taker no_rule).path ≡ (rule_at c.args.rules.now c.args.taker).path = ap (λ (rs : List ChainRule). (slice_index_or rs c.args.taker no_rule).path) c.as_slice.ensures.value in
    let within : (slice_index_or c.as_slice.result.now c.args.taker no_rule).path < length c.args.work.now.paths.items = omega (arith, row, c.requires.paths c.args.taker c.requires.taker, c.requires.is.level.are.long) in
    let load : c.index.result.now ≡ get_or c.args.work.now.paths.items (slice_index_or c.as_slice.result.now c.args.taker no_rule).path 0
    = c.index.ensures ∙ get_or_default c.args.work.now.paths.items (slice_index_or c.as_slice.result.now c.args.taker no_rule).path c.index.result.now 0 within in
    near_pushed c.args.work.now.paths.items c.args.most c.args.search.now.entries.items c.push_entry.new.search.entries.items
    (record { path = (slice_index_or c.as_slice.result.now c.args.taker no_rule).path; giver = c.in-Some.giver.chain; taker = c.args.taker; parent = c.in-Some.giver.entry })
    c.in_ok-push_entry.ensures.entries c.requires.near (omega (arith, load, c.if-is_hole.false))
