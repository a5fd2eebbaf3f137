use Rattle.std.proofs.Common.{length, refl, inl, inr}
use Rattle.std.proofs.lemmas.List.{get_or_read}
use Rattle.netlist_core.proofs.Roots.{numbering_joined, numbering_still}
use Rattle.netlist_core.proofs.plain.join_bits.Goals as goal

pub returns-in_default : goal.returns-in_default
returns-in_default c = record {
  len = refl;
  joined = λ ps f. numbering_still (length c.args.classes.now.items) ps c.args.classes.now.items c.args.left c.args.right (inl (λ net e. c.in_default.not-Net (record { 0 = net }) e)) f;
}

pub returns-in_default-right : goal.returns-in_default-right
returns-in_default-right c = record {
  len = refl;
  joined = λ ps f. numbering_still (length c.args.classes.now.items) ps c.args.classes.now.items c.args.left c.args.right (inr (λ net e. c.in_default-right.not-Net (record { 0 = net }) e)) f;
}

pub returns-clause-joined : goal.returns-clause-joined
returns-clause-joined c ps f =
    let xs = c.args.classes.now.items in
    let a = c.in-Net.a.0 in
    let b = c.in-Net-right.b.0 in
    let la = rw c.in-Net.is at c.requires.left in
    let lb = rw c.in-Net-right.is at c.requires.right in
    rw (c.in-Net.is, c.in-Net-right.is)
    (numbering_joined (length xs) ps xs c.merge.new.classes.items a b c.index-x.result.now c.index-y.result.now c.min.result c.max.result la lb
    (get_or_read xs a c.index-x.result.now la c.index-x.ensures 0) (get_or_read xs b c.index-y.result.now lb c.index-y.ensures 0)
    c.min.ensures c.max.ensures c.merge.ensures.each f)
