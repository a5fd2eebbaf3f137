use Rattle.std.proofs.Common.{length, refl, inl, inr}
use Rattle.netlist_core.proofs.Roots.{forest_joined, forest_still}
use Rattle.netlist_core.proofs.classes.join_bits.Goals as goal

pub returns-in_default : goal.returns-in_default
returns-in_default c = record {
  len = refl;
  falls = c.requires.falls;
  joined = λ ps f. forest_still (length c.args.parents.now.items) ps c.args.parents.now.items c.args.left c.args.right (inl (λ net e. c.in_default.not-Net (record { 0 = net }) e)) f;
}

pub returns-in_default-right : goal.returns-in_default-right
returns-in_default-right c = record {
  len = refl;
  falls = c.requires.falls;
  joined = λ ps f. forest_still (length c.args.parents.now.items) ps c.args.parents.now.items c.args.left c.args.right (inr (λ net e. c.in_default-right.not-Net (record { 0 = net }) e)) f;
}

pub returns-clause-joined : goal.returns-clause-joined
returns-clause-joined c ps f =
    let la = rw c.in-Net.is at c.requires.left in
    let lb = rw c.in-Net-right.is at c.requires.right in
    rw (c.in-Net.is, c.in-Net-right.is)
    (forest_joined (length c.args.parents.now.items) ps c.args.parents.now.items c.link.new.parents.items c.in-Net.a.0 c.in-Net-right.b.0 la lb c.link.ensures.joined f)
