use Rattle.std.proofs.Common.{List, ℕ, ◌≡◌, sym, ◌∙◌}
use Rattle.std.proofs.lemmas.Result.{IfOk-weaker}
use Rattle.def_reader.proofs.PlainNames.{as_written}
use Rattle.def_reader.proofs.names.plain.Goals as goal

pub returns-else-has_escape : goal.returns-else-has_escape
returns-else-has_escape c = record {
  value = IfOk-weaker c.copy.result _ _ (λ (name : List ℕ) (e : name ≡ c.args.bytes.now). e ∙ sym (as_written c.args.bytes.now (sym c.has_escape.ensures.value ∙ c.if-has_escape.false))) c.copy.ensures.value;
}
