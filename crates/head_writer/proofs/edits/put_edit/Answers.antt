use Rattle.std.proofs.Common.{◌≡◌, ℕ, List, sym, ap, ◌∙◌}
use Rattle.std.specs.Prelude.{nat_lt}
use Rattle.std.specs.List.{prefix_len, insert}
use Rattle.splice.specs.declared.Edit.{Edit}
use Rattle.head_writer.proofs.EditPlaces.{put_there}
use Rattle.head_writer.proofs.edits.put_edit.Goals as goal

pub returns : goal.returns
returns c =
    let before : List Edit → ℕ = prefix_len (λ (e : Edit). nat_lt e.span.start c.args.edit.span.start) in
    let place : c.count_before-place.result ≡ before c.args.edits.now.items = c.count_before-place.ensures.value ∙ ap before c.as_slice.ensures.value in
    record {
      value = c.in_ok-insert.ensures.items ∙ ap (λ (n : ℕ). insert c.args.edits.now.items n c.args.edit) place ∙ sym (put_there c.args.edit c.args.edits.now.items);
    }
