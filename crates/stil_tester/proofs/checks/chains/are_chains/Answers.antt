use Rattle.std.proofs.Common.{◌≡◌, ◌<◌, List, ℕ, subst, sym, ap, ◌∙◌, get_or}
use Rattle.std.specs.Prelude.{All, count_by, nat_eq}
use Rattle.stil_tester.specs.declared.chains.ChainBits.{ChainBits}
use Rattle.stil_tester.specs.Shifting.{IsChain, numbers_of}
use Rattle.stil_tester.proofs.checks.Counts.{chains_from, ones_from}
use Rattle.stil_tester.proofs.checks.chains.are_chains.Goals as goal

pub returns : goal.returns
returns c =
    let chains = c.args.chains.now in
    let numbers : List ℕ = c.in_ok-numbers.numbers.items in
    let counts : List ℕ = c.in_ok-counts.counts.items in
    let joined : numbers ≡ numbers_of chains.chains = c.in_ok-numbers.ensures ∙ ap numbers_of c.as_slice.ensures.value in
    let filled : All IsChain chains.chains = subst (λ (q : List ChainBits). All IsChain q) c.as_slice-2.ensures.value (c.are_filled.ensures.0 c.if-not-are_filled.false) in
    let below : All (λ number. number < chains.cells) numbers = subst (λ (q : List ℕ). All (λ number. number < chains.cells) q) c.deref.ensures.value (c.are_below.ensures.0 c.if-not-are_below.false) in
    let each = subst (λ (q : List ℕ). (cell : ℕ) → cell < chains.cells → get_or counts cell 0 ≡ count_by (nat_eq cell) q) c.deref-2.ensures.value c.in_ok-counts.ensures.each in (
      λ ones. chains_from chains numbers counts joined filled below c.in_ok-counts.ensures.long each
          (subst (λ (q : List ℕ). All (λ count. count ≡ 1) q) c.deref-3.ensures.value (c.are_ones.ensures.0 ones)),
      λ good. c.are_ones.ensures.1
          (subst (λ (q : List ℕ). All (λ count. count ≡ 1) q) (sym c.deref-3.ensures.value) (ones_from chains numbers counts joined c.in_ok-counts.ensures.long each good)),
    )
