use Rattle.design_maker.proofs.Sizes.{small_texts}
use Rattle.design_maker.proofs.files.make_design.Goals as goal

pub returns-clause-small : goal.returns-clause-small
returns-clause-small c =
    let made = small_texts c.args.n c.requires.fewest c.requires.most in
    record {
      table = rw (c.in_ok-copy.ensures.value, c.as_bytes.ensures.value) made.table;
      lef = rw (c.in_ok-copy-2.ensures.value, c.as_bytes-2.ensures.value) made.lef;
      verilog = rw c.in_ok-verilog_text.ensures.value made.verilog;
      def = rw c.in_ok-def_text.ensures.value made.def;
      stil = rw c.in_ok-stil_text.ensures.value made.stil;
    }
