use Rattle.std.proofs.Common.{◌≡◌, ◌++◌, cond, drop, take}
use Rattle.std.specs.List.{flat_map, list_any}
use Rattle.def_syntax.specs.declared.design.Section.{Section}
use Rattle.def_edit.specs.NetChanges.{net_changes}
use Rattle.def_edit.specs.MovedText.{changes_of, section_edits, cut_count}
use Rattle.def_edit.specs.Lookups.{is_nets}
use Rattle.def_edit.proofs.text.edits_of.Given as goal

abbrev pub invariant-loop-section : goal.invariant-loop-section
invariant-loop-section l =
    let f = λ (s : Section). section_edits l.by.bytes.now l.text (changes_of l.by.bytes.now l.text l.by.design.now l.by.moves.now l.news) s.kind s.span in
    record {
      edits : l.all.items ++ flat_map f (drop l.section-index l.sections) ≡ flat_map f l.sections;
      cuts : l.cut ≡ cond (list_any (λ (s : Section). is_nets s.kind) (take l.section-index l.sections)) (cut_count l.by.bytes.now l.text.nets (net_changes l.by.bytes.now l.text l.by.design.now.components l.by.moves.now)) 0;
    }
