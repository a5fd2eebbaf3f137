use Rattle.std.proofs.Common.{◌∙◌, true, false, not, List, ap, sym, subst}
use Rattle.std.specs.List.{flat_map, filter, list_any}
use Rattle.std.proofs.lemmas.List.{take_all}
use Rattle.path_links.specs.Edits.{Link, links, same_link}
use Rattle.path_links.specs.EditKeys.{HasLinks}
use Rattle.net_edit.proofs.Beside.{kept_more}
use Rattle.net_edit.proofs.moved.moved_links.Goals as goal
use Rattle.net_edit.proofs.moved.moved_links.Goals.{then-lacks+in_ok-push, else-lacks}

pub loop-link-preserved : goal.loop-link-preserved
loop-link-preserved c =
    let all = flat_map links c.args.old.now in
    let p = λ (k : Link). not (list_any (same_link k) all) in
    let has = subst (λ (ls : List Link). HasLinks ls c.in_ok-set.set) (c.as_slice.ensures.value ∙ c.in_ok-links_of.ensures.value) c.in_ok-set.ensures.value in
    let is = c.lacks.ensures.value all has in
    elim c.if-lacks.branch [
      | then-lacks+in_ok-push w ↦
          kept_more p c.as_slice-link-items.result.now c.loop-link.link-index _ true c.loop-link.all.items c.if-lacks.all.items c.loop-link-test.true (sym w.if-lacks.true ∙ is) c.loop-link.invariant
          (ap (λ v. v.items) w.all-is ∙ w.in_ok-push.ensures.items)
      | else-lacks w ↦
          kept_more p c.as_slice-link-items.result.now c.loop-link.link-index _ false c.loop-link.all.items c.if-lacks.all.items c.loop-link-test.true (sym w.if-lacks.false ∙ is) c.loop-link.invariant
          (ap (λ v. v.items) w.all-is)
    ]

pub returns : goal.returns
returns c =
    let all = flat_map links c.args.old.now in
    let p = λ (k : Link). not (list_any (same_link k) all) in
    let items = c.as_slice-link-items.ensures.value ∙ c.in_ok-links.ensures.value in
    record { value = c.loop-link.invariant ∙ ap (filter p) (take_all c.loop-link.link-index c.as_slice-link-items.result.now c.loop-link-test.false ∙ items) }
