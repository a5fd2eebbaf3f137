use Rattle.std.proofs.Common.{◌≡◌, ◌<◌, ℕ, List, arith, sym, ◌∙◌, subst, get_or, length, refl}
use Rattle.std.proofs.lemmas.Bool.{false≢true}
use Rattle.std.proofs.lemmas.List.{get_or_read}
use Rattle.stil_types.specs.declared.statement.BodyStatement.{BodyStatement}
use Rattle.scan_verify.proofs.Places.{no_body, AreSameInBlocks, blocks_from, blocks_at, blocks_long}
use Rattle.scan_verify.proofs.statement.are_same_blocks.Goals as goal

pub returns-then-body-block : goal.returns-then-body-block
returns-then-body-block c = record {
  value = (
    λ h. absurd (false≢true h),
    λ both. absurd (c.if-body-block.true (blocks_long c.args.map.now.0 c.args.map.now.1 c.args.text.now c.args.other.now c.args.body.now c.args.block.now both.1)),
  );
}

pub returns-then-not-branch : goal.returns-then-not-branch
returns-then-not-branch c =
    let n : ℕ = c.loop-index.index in
    let body : List BodyStatement = c.args.body.now in
    let block : List BodyStatement = c.args.block.now in
    let within : n < length block = omega (arith, c.if-body-block.false) in
    let one : c.index-body-index.result ≡ get_or body n no_body = get_or_read body n c.index-body-index.result c.loop-index-test.true c.index-body-index.is no_body in
    let two : c.index-block-index.result ≡ get_or block n no_body = get_or_read block n c.index-block-index.result within c.index-block-index.is no_body in
    record {
      value = (
        λ h. absurd (false≢true h),
        λ both.
            let here : AreSameInBlocks c.args.map.now.0 c.args.map.now.1 c.args.text.now c.args.other.now (get_or body n no_body) (get_or block n no_body)
            = blocks_at c.args.map.now.0 c.args.map.now.1 c.args.text.now c.args.other.now body block both.0 both.1 n c.loop-index-test.true in
            let same : AreSameInBlocks c.args.map.now.0 c.args.map.now.1 c.args.text.now c.args.other.now c.index-body-index.result c.index-block-index.result
            = subst (λ (a : BodyStatement). AreSameInBlocks c.args.map.now.0 c.args.map.now.1 c.args.text.now c.args.other.now a c.index-block-index.result) (sym one)
            (subst (λ (b : BodyStatement). AreSameInBlocks c.args.map.now.0 c.args.map.now.1 c.args.text.now c.args.other.now (get_or body n no_body) b) (sym two) here) in
            absurd (false≢true (sym c.if-not-branch.true ∙ c.in_ok-are_same_in_blocks.ensures.value.1 same)),
      );
    }

pub returns : goal.returns
returns c =
    let both = blocks_from c.args.map.now.0 c.args.map.now.1 c.args.text.now c.args.other.now c.args.body.now c.args.block.now (sym c.if-body-block.false) (λ k l. c.loop-index.invariant k (omega arith)) in
    record { value = (λ h. both, λ given. refl) }
