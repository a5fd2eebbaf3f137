use Rattle.std.proofs.Common.{sym, arith}
use Rattle.def_reader.proofs.Within.{pin_within}
use Rattle.def_reader.proofs.agreement.Pins.class_of.Goals as goal

pub class_of-requires : goal.class_of-requires
class_of-requires c =
    let lt = pin_within c.args.self.now c.requires.netlist c.args.pin.now c.in-Some.net (sym c.in-Some.ensures.value) in
    let count = c.requires.classes.count in
    record { within = omega arith }
