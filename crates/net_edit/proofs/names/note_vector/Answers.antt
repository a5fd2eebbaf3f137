use Rattle.std.proofs.Common.{◌∙◌, ◌||◌, Bool, ap}
use Rattle.net_edit.specs.TailNames.{tail_name, is_bit_of_vector}
use Rattle.net_edit.specs.TakenNames.{has_name}
use Rattle.net_edit.proofs.TailTexts.{or_false, no_bracket}
use Rattle.net_edit.proofs.names.note_vector.Goals as goal

pub returns-in_ok-note : goal.returns-in_ok-note
returns-in_ok-note c = record {
  value = λ number small.
      let name = tail_name number in
      c.in_ok-note.ensures.value number ∙ ap (λ (b : Bool). has_name c.args.taken.now name || b) (c.in-Some.ensures.value name (no_bracket number small));
}

pub returns-in_default : goal.returns-in_default
returns-in_default c = record {
  value = λ number small. let name = tail_name number in or_false (has_name c.args.taken.now name) (is_bit_of_vector name c.args.text.now) (c.in_default.ensures.value name);
}
