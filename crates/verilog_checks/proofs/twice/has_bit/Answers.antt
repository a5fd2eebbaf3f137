use Rattle.std.proofs.Common.{◌≡◌, ◌++◌, List, ℕ, Some, sym, ap, ◌∙◌, arith}
use Rattle.std.specs.List.{filter}
use Rattle.verilog_names.specs.Values.{bit_name}
use Rattle.verilog_names.specs.Declarations.{has, index_at}
use Rattle.verilog_checks.specs.Seen.{is_bracketed}
use Rattle.verilog_checks.proofs.ClosedNames.{closed_bits}
use Rattle.verilog_checks.proofs.BitLookups.{bit_passes, bit_fails, bit_passed, bits_among}
use Rattle.verilog_checks.proofs.twice.has_bit.Goals as goal

pub returns-then-has_name : goal.returns-then-has_name
returns-then-has_name c = record {
  value = λ all h.
      let v = c.args.vector.now in
      let b = c.args.bounds in
      let k = c.loop-place.place in
      let name : c.as_slice.result.now ≡ bit_name v (index_at b k) = c.as_slice.ensures.value ∙ c.in_ok-push_bit_name.ensures.value ∙ ap (λ (l : List ℕ). l ++ bit_name v c.index_at.result) c.clear.ensures.items ∙ ap (bit_name v) c.index_at.ensures.value in
      bit_fails (filter is_bracketed all) v b k _ (omega arith) (ap (has (filter is_bracketed all)) (sym name) ∙ sym (c.has_name.ensures.value (filter is_bracketed all) h) ∙ c.if-has_name.true) (c.loop-place.invariant (filter is_bracketed all) h) ∙ bits_among (filter is_bracketed all) v b ∙ closed_bits v (Some b) all;
}

pub loop-place-preserved : goal.loop-place-preserved
loop-place-preserved c = λ all h.
    let v = c.args.vector.now in
    let b = c.args.bounds in
    let k = c.loop-place.place in
    let name : c.as_slice.result.now ≡ bit_name v (index_at b k) = c.as_slice.ensures.value ∙ c.in_ok-push_bit_name.ensures.value ∙ ap (λ (l : List ℕ). l ++ bit_name v c.index_at.result) c.clear.ensures.items ∙ ap (bit_name v) c.index_at.ensures.value in
    bit_passes all v b k _ (omega arith) (ap (has all) (sym name) ∙ sym (c.has_name.ensures.value all h) ∙ c.if-has_name.false) (c.loop-place.invariant all h)

pub returns : goal.returns
returns c = record { value = λ all h. bit_passed (filter is_bracketed all) c.args.vector.now c.args.bounds c.loop-place.place _ (omega arith) (c.loop-place.invariant (filter is_bracketed all) h) ∙ bits_among (filter is_bracketed all) c.args.vector.now c.args.bounds ∙ closed_bits c.args.vector.now (Some c.args.bounds) all }
