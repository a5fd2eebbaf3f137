use Rattle.std.proofs.Common.{◌≡◌, ◌+◌, ◌-◌, ◌++◌, ℕ, map, ap, ◌∙◌, arith}
use Rattle.verilog_names.specs.Declarations.{width_or_one}
use Rattle.verilog_reader.specs.Numbering.{numbers_from, numbered_port}
use Rattle.verilog_reader.proofs.NumberedLists.{port_more, port_end}
use Rattle.verilog_reader.proofs.fold.push_ports.Goals as goal

pub loop-number-preserved : goal.loop-number-preserved
loop-number-preserved c = port_more c.args.line c.args.direction c.loop-number.number (c.args.entry.first + c.width_or_one.result) c.loop-number.ports _ _ c.loop-number-test.true c.in_ok-push.ensures.ok c.loop-number.invariant

pub returns : goal.returns
returns c =
    let many : (c.args.entry.first + c.width_or_one.result) - c.args.entry.first ≡ width_or_one c.args.entry.bounds = omega (arith, c.width_or_one.ensures) in
    record {
      ok = port_end c.args.line c.args.direction c.loop-number.number (c.args.entry.first + c.width_or_one.result) c.loop-number.ports _ c.loop-number-test.false c.loop-number.invariant
          ∙ ap (λ (n : ℕ). c.args.ports.now ++ map (numbered_port c.args.line c.args.direction) (numbers_from c.args.entry.first n)) many;
    }
