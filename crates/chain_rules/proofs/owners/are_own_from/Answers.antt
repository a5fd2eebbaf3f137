use Rattle.std.proofs.Common.{◌≡◌, ℕ, ◌+◌, ◌-◌, ◌<◌, ◌≤◌, List, None, Some, All, arith, subst, length, get_or, ap, slice_index_or, sym}
use Rattle.std.proofs.lemmas.Bool.{iff_false}
use Rattle.std.proofs.lemmas.List.{get_or-replicate}
use Rattle.chain_rules.specs.declared.unit.ChainRule.{ChainRule}
use Rattle.chain_rules.specs.Legality.{chain_at, no_rule}
use Rattle.chain_rules.proofs.Outcomes.{says_no}
use Rattle.chain_rules.proofs.Owned.{noted_is}
use Rattle.chain_rules.proofs.owners.are_own_from.Goals as goal

pub note_owners-requires : goal.note_owners-requires
note_owners-requires c = record { none = λ k h. get_or-replicate 4096 k None None h }

pub returns-then-not-are_noted : goal.returns-then-not-are_noted
returns-then-not-are_noted c =
    let d : ℕ = c.loop-chain.chain in
    let q = ap (λ (rs : List ChainRule). (slice_index_or rs d no_rule).partition) c.as_slice-chains.ensures.value in
    let is = noted_is c.args.rules.now c.note_owners.new.owners c.args.low 4096 _ _ (chain_at c.args.plan.now d) c.note_owners.ensures.count q c.note_owners.ensures.value in
    record {
      value = says_no (λ all. iff_false c.are_noted.ensures.value c.if-not-are_noted.true
          (subst (λ (us : List ℕ). All (λ u. c.args.low ≤ u → u < c.args.low + length c.note_owners.new.owners → get_or c.note_owners.new.owners (u - c.args.low) None ≡ Some (slice_index_or c.as_slice-chains.result.now d no_rule).partition) us) (sym c.chain.ensures.value)
          (is.1 (all d (omega (arith, c.len-chain-end.ensures.value))))));
    }
