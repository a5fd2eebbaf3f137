use Rattle.design_maker.proofs.verilog.AssignPiece.push.Goals as goal

pub returns : goal.returns
returns c = record { value = cc (c.in_ok-write.ensures.bytes, c.last_unit-unit.ensures.value) }
