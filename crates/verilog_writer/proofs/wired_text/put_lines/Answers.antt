use Rattle.verilog_writer.proofs.TailRise.{not_empty, lines_put}
use Rattle.verilog_writer.proofs.wired_text.put_lines.Goals as goal

pub returns : goal.returns
returns c = record {
  value = lines_put c.args.text.now c.args.netlist.now c.args.tails.now c.args.all.now.items _ _ c.header_end-header.result c.last_start-end.result _ _ (not_empty c.args.tails.now c.is_empty.result c.is_empty.ensures c.if-is_empty.false) c.header_end-header.ensures.value
      c.last_start-end.ensures.value c.in_ok-wire_lines.ensures.value c.in_ok-assign_lines.ensures.value c.in_ok-insert.ensures.items c.in_ok-push.ensures.items;
}
