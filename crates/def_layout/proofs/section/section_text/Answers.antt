use Rattle.std.proofs.lemmas.Result.{IfOk-weaker}
use Rattle.def_layout.proofs.SectionStatements.{section_text_is}
use Rattle.def_layout.proofs.section.section_text.Goals as goal

pub returns-clause-reads : goal.returns-clause-reads
returns-clause-reads c = λ well. IfOk-weaker c.written_section.result _ _ (λ text is. section_text_is c.args.chains.now text is well) c.written_section.ensures.value
