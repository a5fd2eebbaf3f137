use Rattle.design_elements.proofs.ElementFaults.{first_of_design}
use Rattle.design_elements.proofs.first.first_fault.Goals as goal

pub returns : goal.returns
returns c = record {
  value = λ d components chains.
      rw (
        c.fault_or.ensures.value,
        c.fault_or-first-6.ensures.value,
        c.fault_or-first-5.ensures.value,
        c.fault_or-first-4.ensures.value,
        c.fault_or-first-3.ensures.value,
        c.fault_or-first-2.ensures.value,
        c.fault_or-first.ensures.value,
      )
      (first_of_design c.args.cells.now.0 c.args.macros.now c.args.cells.now.1 c.args.chains.now d c.least_failing-unknown.result c.in_ok-again.again c.least_failing-unplaced.result c.least_failing-pin.result
      c.least_failing-bits.result c.least_failing-no_macro.result c.least_crowded-crowded.result components chains
      (record {
        unknown_is = c.least_failing-unknown.ensures.value;
        twice_is = c.in_ok-again.ensures.value;
        unplaced_is = c.least_failing-unplaced.ensures.value;
        pin_is = c.least_failing-pin.ensures.value;
        bits_is = c.least_failing-bits.ensures.value;
        macro_is = c.least_failing-no_macro.ensures.value;
        crowded_is = c.least_crowded-crowded.ensures.value;
      }));
}
