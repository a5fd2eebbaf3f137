use Rattle.std.proofs.Common.{◌≡◌, ◌≤◌, ◌<◌, ◌^◌, ◌++◌, ◌+◌, drop}
use Rattle.def_edit.specs.Lookups.{rows_of}
use Rattle.def_edit.specs.Pushed.{edits_from, cuts_from}
use Rattle.def_edit.proofs.nets.push_nets.Given as goal

abbrev pub invariant-loop-statement : goal.invariant-loop-statement
invariant-loop-statement l = record {
  within : l.cut ≤ l.number;
  small : l.number < 2 ^ 32;
  edits : l.out.items ++ edits_from l.by.bytes.now l.by.components (rows_of l.by.bytes.now l.by.nets.items) l.by.moves.now l.number (drop l.statement-index l.statements)
      ≡ l.fn.out.items ++ edits_from l.by.bytes.now l.by.components (rows_of l.by.bytes.now l.by.nets.items) l.by.moves.now 0 l.statements;
  cuts : l.cut + cuts_from l.by.bytes.now l.by.components (rows_of l.by.bytes.now l.by.nets.items) l.by.moves.now l.number (drop l.statement-index l.statements)
      ≡ cuts_from l.by.bytes.now l.by.components (rows_of l.by.bytes.now l.by.nets.items) l.by.moves.now 0 l.statements;
}
