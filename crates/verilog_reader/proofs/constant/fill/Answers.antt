use Rattle.std.proofs.Common.{◌-◌, ◌^◌, [], subst}
use Rattle.netlist_core.specs.declared.netlist.Bit.{Bit}
use Rattle.verilog_reader.specs.LastBits.{AreLastBits}
use Rattle.verilog_reader.proofs.LastBits.{shows_zeros, shows_unknown}
use Rattle.verilog_reader.proofs.constant.fill.Goals as goal

pub returns-then-begins_unknown : goal.returns-then-begins_unknown
returns-then-begins_unknown c = record {
  value = subst (λ (b : Bit). AreLastBits b [] (record { ones = 0; unknown = 2 ^ 128 - 1 })) c.if-begins_unknown.ensures.value (record { each = shows_unknown });
}

pub returns-else-begins_unknown : goal.returns-else-begins_unknown
returns-else-begins_unknown c = record {
  value = subst (λ (b : Bit). AreLastBits b [] (record { ones = 0; unknown = 0 })) c.if-begins_unknown.ensures.value (record { each = shows_zeros });
}
