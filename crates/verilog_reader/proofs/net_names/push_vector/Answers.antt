use Rattle.std.proofs.Common.{◌∙◌, arith}
use Rattle.verilog_names.specs.Values.{bit_name}
use Rattle.verilog_names.specs.Declarations.{index_at, width}
use Rattle.verilog_reader.specs.Denoted.{bit_text}
use Rattle.verilog_reader.proofs.NumberedLists.{name_more, bit_is, pushed}
use Rattle.verilog_reader.proofs.net_names.push_vector.Goals as goal

pub loop-at-preserved : goal.loop-at-preserved
loop-at-preserved c =
    let net = bit_is c.in_ok-bit_of.field-0 c.args.name.now c.deref.result.now c.index_at.result (index_at c.args.bounds c.loop-at.at) c.in_ok-bit_of.ensures.value c.index_at.ensures.value
    (c.deref.ensures.value ∙ c.in_ok-text.ensures.value) in
    name_more (λ i. record { plain = bit_name c.args.name.now i; text = bit_text c.args.name.now i }) c.args.bounds c.loop-at.at (width c.args.bounds) c.loop-at.names c.push.new.self _
    (omega (arith, c.loop-at-test.true, c.width-at-end.ensures.value)) (pushed c.loop-at.names _ _ _ c.in_ok-push.ensures.ok net) c.loop-at.invariant
