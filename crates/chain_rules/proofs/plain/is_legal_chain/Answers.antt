use Rattle.std.proofs.Common.{◌≡◌, ℕ, List, Some, subst, sym, All, IsTrue}
use Rattle.chain_rules.specs.Legality.{unit_at, rule_at, last_of, partition_of, IsLegalChain}
use Rattle.chain_rules.proofs.plain.is_legal_chain.Goals as goal

pub returns : goal.returns
returns c =
    let e = c.chain-us.ensures.value in
    let own = subst (λ (us : List ℕ). All (λ u. partition_of c.args.rules.now u ≡ Some (rule_at c.args.rules.now c.args.chain).partition) us) (sym e) c.requires.own in
    let pins = subst (λ (read : List ℕ). All (λ u. IsTrue (unit_at c.args.rules.now u).pinned → last_of c.chain-us.result.now ≡ Some u) read) c.read_units.ensures.value (c.are_pins_last.ensures.value.0 c.if-not-are_pins_last.false) in
    record {
      value = (
        λ h. let held = c.are_held.ensures.value.0 h in
            subst (λ (us : List ℕ). IsLegalChain c.args.rules.now c.args.chain us) e (record { own_partition = own; pinned_last = pins; not_empty = held.0; keeps_bit = held.1; bounded = held.2 }),
        λ legal. let here = subst (λ (us : List ℕ). IsLegalChain c.args.rules.now c.args.chain us) (sym e) legal in
            c.are_held.ensures.value.1 (here.not_empty, here.keeps_bit, here.bounded),
      );
    }
