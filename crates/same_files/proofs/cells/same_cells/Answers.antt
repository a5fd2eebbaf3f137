use Rattle.std.proofs.Common.{List, map, sym, ap, ◌∙◌}
use Rattle.path_chains.specs.Ranked.{bits_of_all}
use Rattle.same_files.specs.Cells.{seen}
use Rattle.same_files.proofs.Entries.{Held, same_entries, same_length}
use Rattle.same_files.proofs.cells.same_cells.Goals as goal

pub returns-clause-value : goal.returns-clause-value
returns-clause-value c =
    let ks = c.in_ok-old.old.items in
    let ls = c.in_ok-new.new.items in
    let same = same_entries c.args.n.now c.args.w.now (bits_of_all c.args.a.now) (bits_of_all c.args.b.now) c.requires.old c.requires.new ks ls c.in_ok-old.ensures.value c.in_ok-new.ensures.value in
    let one = ap (λ (es : List Held). map seen es) c.as_slice.ensures.value in
    let two = ap (λ (es : List Held). map seen es) c.as_slice-2.ensures.value in (
      λ h. (c.if-a-b.false, same.0 (sym one ∙ c.are_equal.ensures.value.0 h ∙ two)),
      λ s. c.are_equal.ensures.value.1 (one ∙ same.1 s.1 ∙ sym two),
    )

pub returns-clause-count : goal.returns-clause-count
returns-clause-count c =
    let ks = c.in_ok-old.old.items in
    let ls = c.in_ok-new.new.items in
    let one = ap (λ (es : List Held). map seen es) c.as_slice.ensures.value in
    let two = ap (λ (es : List Held). map seen es) c.as_slice-2.ensures.value in
    λ h.
    same_length c.args.n.now c.args.w.now (bits_of_all c.args.a.now) (bits_of_all c.args.b.now) c.requires.old c.requires.new ks ls c.in_ok-old.ensures.value c.in_ok-new.ensures.value
    (sym one ∙ c.are_equal.ensures.value.0 h ∙ two)
