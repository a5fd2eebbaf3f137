use Rattle.std.proofs.Common.{◌∙◌, List, length, arith}
use Rattle.std.proofs.lemmas.List.{get_or_default}
use Rattle.netlist_core.specs.declared.netlist.Bit.{Bit}
use Rattle.netlist_core.specs.Forests.{IsNumbering}
use Rattle.netlist_core.proofs.Sides.{bits_more, bits_all}
use Rattle.netlist_core.proofs.plain.join_sides.Goals as goal

pub loop-i-preserved : goal.loop-i-preserved
loop-i-preserved c = record {
  len = c.join_bits.ensures.len ∙ c.loop-i.invariant.len;
  joined = λ ps f.
      bits_more IsNumbering (length c.args.classes.now.items) (length c.loop-i.classes.items) c.args.left.now c.args.right.now c.loop-i.i _ _ ps c.loop-i.classes.items c.join_bits.new.classes.items
      c.loop-i.invariant.len c.loop-i-test.true c.requires.widths
      (get_or_default c.args.left.now c.loop-i.i _ _ c.loop-i-test.true) (get_or_default c.args.right.now c.loop-i.i _ _ (omega (arith, c.requires.widths)))
      c.join_bits.ensures.joined (c.loop-i.invariant.joined ps f);
}

pub returns-clause-joined : goal.returns-clause-joined
returns-clause-joined c ps f =
    bits_all (λ (qs : List (Bit × Bit)). IsNumbering (length c.args.classes.now.items) qs c.loop-i.classes.items) c.args.left.now c.args.right.now c.loop-i.i ps
    c.loop-i-test.false c.requires.widths (c.loop-i.invariant.joined ps f)
