use Rattle.std.proofs.Common.{◌∙◌, List, ℕ, Bor}
use Rattle.std.specs.Str.{bytes_eq}
use Rattle.net_edit.specs.TailNames.{tail_name}
use Rattle.net_edit.specs.TakenNames.{has_name}
use Rattle.net_edit.proofs.TailTexts.{or_cond, or_false, not_tail}
use Rattle.net_edit.proofs.names.note.Goals as goal

pub returns-in_ok-insert : goal.returns-in_ok-insert
returns-in_ok-insert c = record {
  value = λ number.
      let q : Bor (List ℕ) = record { ref_ptr = (0, 0); now = tail_name number } in
      c.in_ok-insert.ensures.updates.0 q ∙ or_cond (bytes_eq c.args.name.now (tail_name number)) (has_name c.args.taken.now (tail_name number));
}

pub returns-else-starts_with : goal.returns-else-starts_with
returns-else-starts_with c = record {
  value = λ number. or_false (has_name c.args.taken.now (tail_name number)) (bytes_eq c.args.name.now (tail_name number)) (not_tail c.args.name.now c.starts_with.result c.if-starts_with.false c.starts_with.ensures.value number);
}
