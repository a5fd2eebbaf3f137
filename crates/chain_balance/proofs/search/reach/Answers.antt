use Rattle.std.proofs.Common.{◌∙◌, ℕ, List, Option, ap, length, map}
use Rattle.std.specs.Prelude.{is_some}
use Rattle.chain_rules.specs.declared.unit.ChainRule.{ChainRule}
use Rattle.chain_balance.specs.declared.entry.Entry.{Entry}
use Rattle.chain_balance.specs.Steps.{entry_at}
use Rattle.chain_balance.proofs.Outcomes.{search_begins, cut_of, givers_none}
use Rattle.chain_balance.proofs.search.reach.Goals as goal

pub search_all-requires-clause-search : goal.search_all-requires-clause-search
search_all-requires-clause-search c = record {
  is = search_begins c.args.rules.now c.args.work.now.plan (length c.args.fixed.now) c.args.top c.in_ok-search.search.entries.items c.in_ok-search.search.numbers.items c.requires.top c.in_ok-search.ensures.entries c.in_ok-search.ensures.numbers;
  givers_are =
      givers_none c.args.rules.now c.args.work.now.plan c.args.groups.now c.in_ok-search.search.numbers.items c.as_mut_slice-notes.result.now (length c.as_slice.result.now)
      (c.as_mut_slice-notes.ensures.value ∙ c.in_ok-givers.ensures.value) (ap (λ (rs : List ChainRule). length rs) c.as_slice.ensures.value);
}

pub returns : goal.returns
returns c = record {
  value =
      cut_of c.args.rules.now c.args.fixed.now c.args.work.now.plan c.args.work.now.paths.items c.args.most c.args.top c.search_all.new.search.entries.items c.search_all.new.search.numbers.items c.in_ok-set.set.items
      (record {
        level = c.requires.is.level;
        is = c.in_ok-search_all.ensures.search;
        near = c.in_ok-search_all.ensures.near c.if-branch.false;
        closes = c.in_ok-search_all.ensures.closes c.if-branch.false;
        is_path = c.requires.top;
        is_top = c.requires.is_top;
        first = c.requires.first;
        begins = ap (λ (x : Entry). x.path) (c.in_ok-search_all.ensures.grown.first ∙ ap (λ (es : List Entry). entry_at es 0) c.in_ok-search.ensures.entries);
      })
      (c.in_ok-set.ensures.value ∙ ap (λ (ns : List (Option ℕ)). map is_some ns) c.as_slice-2.ensures.value);
}
