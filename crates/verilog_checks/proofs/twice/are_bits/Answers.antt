use Rattle.std.proofs.Common.{sym, ◌∙◌}
use Rattle.verilog_checks.specs.Seen.{is_bit}
use Rattle.verilog_checks.proofs.AnyLemmas.{any_map, any_passes, any_fails, any_passed}
use Rattle.verilog_checks.proofs.BitLookups.{are_bits_is}
use Rattle.verilog_checks.proofs.NameLists.{now_of}
use Rattle.verilog_checks.proofs.twice.are_bits.Goals as goal

pub returns-then-is_bit : goal.returns-then-is_bit
returns-then-is_bit c = record {
  value = λ ds keeps low.
      let xs = c.args.names.now in
      any_fails (λ name. is_bit ds name.now) xs c.loop-name.name-index _ _ c.loop-name-test.true (sym (c.is_bit.ensures.value ds keeps low) ∙ c.if-is_bit.true) (c.loop-name.invariant ds keeps low)
      ∙ sym (are_bits_is ds (now_of xs) ∙ any_map (is_bit ds) (λ name. name.now) xs);
}

pub loop-name-preserved : goal.loop-name-preserved
loop-name-preserved c = λ ds keeps low.
    any_passes (λ name. is_bit ds name.now) c.args.names.now c.loop-name.name-index _ _ c.loop-name-test.true (sym (c.is_bit.ensures.value ds keeps low) ∙ c.if-is_bit.false) (c.loop-name.invariant ds keeps low)

pub returns : goal.returns
returns c = record {
  value = λ ds keeps low.
      let xs = c.args.names.now in
      any_passed (λ name. is_bit ds name.now) xs c.loop-name.name-index _ c.loop-name-test.false (c.loop-name.invariant ds keeps low)
      ∙ sym (are_bits_is ds (now_of xs) ∙ any_map (is_bit ds) (λ name. name.now) xs);
}
