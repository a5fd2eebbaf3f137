use Rattle.std.proofs.Common.{◌∷◌, false, Bool, List, ap, ap₂, sym, ◌∙◌, drop}
use Rattle.scan_words.specs.Form.{Text, have_parts}
use Rattle.scan_words.specs.declared.table.OptionForm.{OptionForm}
use Rattle.scan_words.specs.Table.{texts}
use Rattle.scan_words.specs.Verbs.{verb_of}
use Rattle.scan_words.proofs.Orders.{verb_word, no_order}
use Rattle.scan_words.proofs.Written.{form}
use Rattle.scan_words.proofs.parse.read_words.Goals as goal

pub returns-then-not-have_parts-clause-value : goal.returns-then-not-have_parts-clause-value
returns-then-not-have_parts-clause-value c =
    let test = ap₂ (λ (table : List OptionForm) (further : Bool). have_parts (texts table) further false c.in-Some.behind.now) c.options.ensures c.takes_further.ensures in
    sym (no_order c.args.words.now c.in-Some.command.now c.in-Some.behind.now c.in-Some-of.verb c.in-Some.ensures.cases.0 (ap verb_of (sym c.as_str.ensures.value) ∙ sym c.in-Some-of.ensures) (sym test ∙ sym c.if-not-have_parts.ensures))

pub parsed-requires-clause-command : goal.parsed-requires-clause-command
parsed-requires-clause-command c =
    let split = c.in-Some.ensures.cases.0 in
    let name = verb_word c.in-Some.command.now c.in-Some-of.verb (ap verb_of (sym c.as_str.ensures.value) ∙ sym c.in-Some-of.ensures) in
    split ∙ ap₂ (λ (a : Text) (b : List Text). a ∷ b) name (ap (drop 1) (sym split))

pub returns-in_default-of-clause-form : goal.returns-in_default-of-clause-form
returns-in_default-of-clause-form c = form c.args.words.now

pub returns-then-not-have_parts-clause-form : goal.returns-then-not-have_parts-clause-form
returns-then-not-have_parts-clause-form c = form c.args.words.now

pub returns-clause-form : goal.returns-clause-form
returns-clause-form c = form c.args.words.now

pub returns-in_default-clause-form : goal.returns-in_default-clause-form
returns-in_default-clause-form c = form c.args.words.now
