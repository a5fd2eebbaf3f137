use Rattle.std.proofs.Common.{drop, ◌+◌, ap, sym, ◌∙◌}
use Rattle.std.proofs.lemmas.List.{drop_all}
use Rattle.verilog_reader.specs.Numbering.{with_items, IsFineItem}
use Rattle.verilog_reader.proofs.FoldingLoops.{left_is, at_index, item_fits, item_nets, item_bits}
use Rattle.verilog_reader.proofs.bits.bits_of_items.Goals as goal

pub push_item-requires : goal.push_item-requires
push_item-requires c =
    let i = c.loop-item.item-index in
    let xs = c.args.items.now in
    let x = c.item-item.result in
    item_fits c.loop-item.nets (with_items c.args.nets.now xs) (drop i xs) (drop (i + 1) xs) x (left_is xs i x c.loop-item-test.true c.item-item.is) c.loop-item.invariant.nets
    (at_index (IsFineItem (with_items c.args.nets.now xs)) xs i x c.loop-item-test.true c.item-item.is c.requires)

pub loop-item-preserved : goal.loop-item-preserved
loop-item-preserved c =
    let i = c.loop-item.item-index in
    let xs = c.args.items.now in
    let x = c.item-item.result in
    let is = left_is xs i x c.loop-item-test.true c.item-item.is in
    record {
      nets = item_nets c.loop-item.nets (with_items c.args.nets.now xs) (drop i xs) (drop (i + 1) xs) x is c.loop-item.invariant.nets c.push_item.new.nets c.in_ok-push_item.ensures.ok;
      bits = item_bits c.loop-item.nets (with_items c.args.nets.now xs) (drop i xs) (drop (i + 1) xs) x is c.loop-item.invariant.nets c.push_item.new.nets c.loop-item.bits.items c.push_item.new.bits.items _ c.in_ok-push_item.ensures.ok
          c.in_ok-push_item.ensures.made c.loop-item.invariant.bits;
    }

pub returns-clause-ok : goal.returns-clause-ok
returns-clause-ok c = sym (ap (with_items c.loop-item.nets) (drop_all c.loop-item.item-index c.args.items.now c.loop-item-test.false)) ∙ c.loop-item.invariant.nets
