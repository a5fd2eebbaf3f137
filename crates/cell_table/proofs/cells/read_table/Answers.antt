use Rattle.std.proofs.Common.{sym, ◌∙◌, subst}
use Rattle.std.proofs.lemmas.Bool.{false≢true}
use Rattle.toml.specs.View.{table_view}
use Rattle.base_types.specs.FirstFault.{Answers}
use Rattle.cell_table.specs.Cells.{Cells}
use Rattle.cell_table.proofs.Documents.{taken, refused, read_at, unread}
use Rattle.cell_table.proofs.TableFaults.{answered, denoted, syntax_first}
use Rattle.cell_table.proofs.cells.read_table.Goals as goal

pub returns-in-Ok-clause-read : goal.returns-in-Ok-clause-read
returns-in-Ok-clause-read c =
    let read = c.in-Ok.ensures.ok in
    subst (Answers {X = Cells} c.document_of.result) (sym (taken c.args.bytes.now (table_view c.in-Ok.document) read.0 read.1)) c.document_of.ensures.cells

pub returns-in-Ok-clause-value : goal.returns-in-Ok-clause-value
returns-in-Ok-clause-value c =
    let read = c.in-Ok.ensures.ok in
    denoted c.args.bytes.now c.document_of.result (subst (Answers {X = Cells} c.document_of.result) (sym (taken c.args.bytes.now (table_view c.in-Ok.document) read.0 read.1)) c.document_of.ensures.cells)

pub returns-in-Ok-clause-fault : goal.returns-in-Ok-clause-fault
returns-in-Ok-clause-fault c =
    let read = c.in-Ok.ensures.ok in
    answered c.args.bytes.now (table_view c.in-Ok.document) c.document_of.result (read_at c.args.bytes.now (table_view c.in-Ok.document) read.0 read.1) c.document_of.ensures.ascending c.document_of.ensures.cells

pub returns-in-Err-2-clause-read : goal.returns-in-Err-2-clause-read
returns-in-Err-2-clause-read c = refused c.args.bytes.now (c.in-Err.ensures.refused (λ memory. false≢true (sym c.if-is_memory.false ∙ c.is_memory.ensures.1 memory)))

pub returns-in-Err-2-clause-fault : goal.returns-in-Err-2-clause-fault
returns-in-Err-2-clause-fault c = syntax_first c.args.bytes.now (unread c.args.bytes.now (c.in-Err.ensures.refused (λ memory. false≢true (sym c.if-is_memory.false ∙ c.is_memory.ensures.1 memory))))
