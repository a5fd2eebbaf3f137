use Rattle.std.proofs.Common.{sym, ◌∙◌}
use Rattle.base_types.proofs.TruthValues.{bytes_are}
use Rattle.stil_calls.proofs.Plain.{written_token}
use Rattle.stil_calls.proofs.repeats.write_out.Goals as goal

pub returns-then-eq : goal.returns-then-eq
returns-then-eq c = record {
  value = c.in_ok-copy.ensures.value
      ∙ c.split_at.ensures.front
      ∙ sym (written_token c.unescaped_len.result c.args.bytes.now
      (sym c.split_at.ensures.back ∙ bytes_are c.split_at.result.1.now c.as_slice.result.now (sym c.eq.ensures ∙ c.if-eq.true) ∙ c.as_slice.ensures)
      c.unescaped_len.ensures.value);
}
