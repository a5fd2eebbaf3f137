use Rattle.std.proofs.Common.{◌≡◌, Option, Some, None, sym, ◌∙◌}
use Rattle.stil_parts.specs.declared.part.PartFault.{PartFault}
use Rattle.verify_command.proofs.items.next_item.Goals as goal

pub unreachable-requires : goal.unreachable-requires
unreachable-requires c =
    let found = (rw c.in-Err-Fault.field-0-is at c.in-Err-Fault.ensures.fault).found in
    let none : ◌≡◌ {A = Option PartFault} None (Some found.0) = sym c.requires.sound ∙ found.1 in
    absurd cc
