use Rattle.std.proofs.Common.{sym, ap, ◌∙◌, drop, ℕ}
use Rattle.lef_pins.proofs.Items.{passed_put}
use Rattle.lef_pins.proofs.file.read_file_item.Goals as goal

pub returns-clause-value : goal.returns-clause-value
returns-clause-value c = sym (passed_put c.args.file.now c.args.rest.now (sym c.if-begins_named.ensures.value)).state_is

pub returns-clause-rest : goal.returns-clause-rest
returns-clause-rest c =
    c.skip.ensures.behind ∙ ap (λ (n : ℕ). drop n c.args.rest.now) c.outer_len.ensures.value ∙ sym (passed_put c.args.file.now c.args.rest.now (sym c.if-begins_named.ensures.value)).rest_is
