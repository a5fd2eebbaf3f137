use Rattle.std.proofs.Common.{All, sym, subst}
use Rattle.def_syntax.specs.declared.design.DesignText.{DesignText}
use Rattle.def_edit.specs.Lookups.{IsOwn, HasSection}
use Rattle.def_edit.proofs.TextFacts.{own_nets, has_section}
use Rattle.def_edit.proofs.Written.{is_moved_ok, rising_of, many_of, denoted_ok, erased_ok}
use Rattle.def_edit.proofs.text.moved_text.Goals as goal

pub read_without_components-requires-clause-read : goal.read_without_components-requires-clause-read
read_without_components-requires-clause-read c = (c.requires.read.statements, c.requires.read.reads)

pub written-requires-clause-long : goal.written-requires-clause-long
written-requires-clause-long c =
    let h = c.requires.read in
    many_of c.args.bytes.now c.args.table.now c.args.design.now h c.in_ok-text.text (c.in_ok-text.ensures.value h.statements h.reads) c.args.moves.now c.args.chains.now c.requires.chains

pub written-requires-clause-own : goal.written-requires-clause-own
written-requires-clause-own c =
    let h = c.requires.read in
    subst (λ (t : DesignText). All (IsOwn c.args.bytes.now) t.nets) (sym (c.in_ok-text.ensures.value h.statements h.reads)) (own_nets c.args.bytes.now h.statements h.reads)

pub written-requires-clause-section : goal.written-requires-clause-section
written-requires-clause-section c =
    let h = c.requires.read in
    subst HasSection (sym (c.in_ok-text.ensures.value h.statements h.reads)) (has_section c.args.bytes.now h.statements h.reads)

pub written-requires-clause-rising : goal.written-requires-clause-rising
written-requires-clause-rising c =
    let h = c.requires.read in
    rising_of c.args.bytes.now c.args.table.now c.args.design.now h c.in_ok-text.text (c.in_ok-text.ensures.value h.statements h.reads) c.args.moves.now c.args.chains.now c.requires.moves c.requires.chains

pub returns-clause-text : goal.returns-clause-text
returns-clause-text c =
    let h = c.requires.read in
    is_moved_ok c.args.bytes.now c.args.table.now c.args.design.now h c.in_ok-text.text (c.in_ok-text.ensures.value h.statements h.reads) c.args.moves.now c.args.chains.now c.written.result c.written.ensures.text c.written.ensures.cut

pub returns-clause-denoted : goal.returns-clause-denoted
returns-clause-denoted c =
    let h = c.requires.read in
    denoted_ok c.args.bytes.now c.args.table.now c.args.design.now h c.in_ok-text.text (c.in_ok-text.ensures.value h.statements h.reads) c.args.moves.now c.args.chains.now c.requires.moves c.requires.chains
    c.written.result c.written.ensures.text

pub returns-clause-erased : goal.returns-clause-erased
returns-clause-erased c = λ e so.
    let h = c.requires.read in
    erased_ok c.args.bytes.now c.args.table.now c.args.design.now h c.in_ok-text.text (c.in_ok-text.ensures.value h.statements h.reads) c.args.moves.now c.args.chains.now c.requires.moves c.requires.chains e so
    c.written.result c.written.ensures.text
