use Rattle.std.proofs.Common.{arith}
use Rattle.std.proofs.lemmas.Bool.{iff_false}
use Rattle.chain_rules.proofs.Outcomes.{says_no, says_yes}
use Rattle.chain_rules.proofs.Belonging.{names_once, named_alone}
use Rattle.chain_rules.proofs.belong.name_once.Goals as goal

pub returns-then-not-are_named_once : goal.returns-then-not-are_named_once
returns-then-not-are_named_once c =
    record {
      value = says_no (λ named. iff_false c.are_named_once.ensures.value c.if-not-are_named_once.true
          (λ i el. named_alone c.args.index.now c.args.chains.now c.args.lists.now c.requires.lists named c.loop-chain.chain i el));
    }

pub returns : goal.returns
returns c =
    record {
      value = says_yes (names_once c.args.index.now c.args.chains.now c.args.lists.now c.requires.lists
          (λ k i el. c.loop-chain.invariant k i (let h = el.chain in omega arith) el));
    }
