use Rattle.std.proofs.Common.{sym, ap, subst, ◌∙◌}
use Rattle.stil_parts.specs.declared.part.Part.{Part}
use Rattle.stil_types.specs.declared.statement.PatternStatement.{PatternStatement}
use Rattle.stil_reader.specs.declared.step.Piece.{Piece}
use Rattle.stil_reader.specs.declared.step.Piece.TheVariants as pieces
use Rattle.stil_reader.specs.Sayings.{name_in}
use Rattle.stil_reader.specs.Reading.{IsRead}
use Rattle.stil_reader.proofs.Steps.{statement-read, fault-read, gap-read, none-named}
use Rattle.stil_reader.proofs.step.read_part.Goals as goal

pub returns-in-Ok-clause-value : goal.returns-in-Ok-clause-value
returns-in-Ok-clause-value c =
    subst (λ (part : Part). IsRead c.args.judging c.args.head.now c.args.point part c.args.text.now (pieces.Statement c.in-Ok.statement)) (sym c.in-Whole.is)
    (statement-read c.args.judging c.args.head.now c.args.point c.args.text.now c.in-Whole._len c.saturating_sub-pattern.result c.in-Ok.statement c.saturating_sub-pattern.ensures c.in-Ok.ensures.value c.in-Ok.ensures.accepted c.in-Ok.ensures.placed)

pub returns-in-Err-clause-first : goal.returns-in-Err-clause-first
returns-in-Err-clause-first c =
    fault-read c.args.judging c.args.head.now c.args.point c.args.text.now PatternStatement Piece c.in-Whole._len c.args.part c.in-Err.fault c.in-Whole.is c.in-Err.ensures.first

pub returns-in_ok-opened_name-in-Opens : goal.returns-in_ok-opened_name-in-Opens
returns-in_ok-opened_name-in-Opens c = record {
  value = gap-read c.args.judging c.args.head.now c.args.point c.args.text.now c.args.part c.in_ok-opened_name-in-Opens.field-0 c.in_default.not-Whole (sym c.in_ok-fault.ensures.value ∙ c.in_default-2.is)
      (c.in_ok-opened_name-in-Opens.ensures.value ∙ sym (ap (λ (part : Part). name_in part c.args.text.now) c.in-Opens.is));
  first = tt;
}

pub returns-in_default-part : goal.returns-in_default-part
returns-in_default-part c = record {
  value = gap-read c.args.judging c.args.head.now c.args.point c.args.text.now c.args.part _ c.in_default.not-Whole (sym c.in_ok-fault.ensures.value ∙ c.in_default-2.is)
      (none-named c.args.part c.args.text.now c.in_default.not-Whole c.in_default-part.not-Opens);
  first = tt;
}
