use Rattle.std.proofs.Common.{List, ap, ◌∙◌, sym}
use Rattle.std.specs.List.{list_any}
use Rattle.def_syntax.specs.declared.design.Section.{Section}
use Rattle.def_edit.specs.NetChanges.{net_changes}
use Rattle.def_edit.specs.MovedText.{changes_of, section_edits, cut_count}
use Rattle.def_edit.specs.Lookups.{is_nets}
use Rattle.def_edit.proofs.Sections.{sections_end, none_cut}
use Rattle.def_edit.proofs.text.edits_of.Goals as goal

pub returns-clause-cut : goal.returns-clause-cut
returns-clause-cut c =
    let by = c.args.by.now in
    let t = c.args.text.now in
    let changes = changes_of by.bytes.now t by.design.now by.moves.now c.args.news.now in
    let count = cut_count by.bytes.now t.nets (net_changes by.bytes.now t by.design.now.components by.moves.now) in
    (sections_end (λ (s : Section). section_edits by.bytes.now t changes s.kind s.span) count c.as_slice-sections.result.now c.loop-section.section-index c.loop-section.all.items _ c.loop-section.cut c.loop-section-test.false
    (λ none. none_cut by.bytes.now t.nets _ (c.requires.section (sym (ap (λ (l : List Section). list_any (λ (s : Section). is_nets s.kind) l) c.as_slice-sections.ensures.value) ∙ none)))
    c.loop-section.invariant.edits c.loop-section.invariant.cuts).1
