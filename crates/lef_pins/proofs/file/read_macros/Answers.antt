use Rattle.std.proofs.Common.{sym, ◌∙◌}
use Rattle.lef_pins.proofs.LefFaults.{is_read, refused_syntax, refused_number, refused_twice, not_refused, denotes, only_one}
use Rattle.lef_pins.proofs.Measured.{are_measured}
use Rattle.lef_pins.proofs.file.read_macros.Goals as goal

pub returns-in-Some-clause-fault : goal.returns-in-Some-clause-fault
returns-in-Some-clause-fault c =
    let is = is_read c.args.bytes.now c.in_ok-file.file c.of.result c.as_slice.result.now c.in_ok-file.ensures.value c.of.ensures.value (c.as_slice.ensures.value ∙ c.in_ok-spans.ensures.value) in
    rw c.fault_at.ensures.value (refused_syntax c.args.bytes.now c.in_ok-file.file is c.in-Some.place c.in-Some.is)

pub returns-in-Some-number-clause-fault : goal.returns-in-Some-number-clause-fault
returns-in-Some-number-clause-fault c =
    let is = is_read c.args.bytes.now c.in_ok-file.file c.of.result c.as_slice.result.now c.in_ok-file.ensures.value c.of.ensures.value (c.as_slice.ensures.value ∙ c.in_ok-spans.ensures.value) in
    rw c.fault_at-in-Some-number.ensures.value (refused_number c.args.bytes.now c.in_ok-file.file is c.in_default.is c.in-Some-number.place c.in-Some-number.is)

pub returns-in-Some-lesser_place-clause-fault : goal.returns-in-Some-lesser_place-clause-fault
returns-in-Some-lesser_place-clause-fault c =
    let is = is_read c.args.bytes.now c.in_ok-file.file c.of.result c.as_slice.result.now c.in_ok-file.ensures.value c.of.ensures.value (c.as_slice.ensures.value ∙ c.in_ok-spans.ensures.value) in
    rw c.fault_at-in-Some-lesser_place.ensures.value
    (refused_twice c.args.bytes.now c.in_ok-file.file is c.in_default.is c.in_default-number.is c.in-Some-lesser_place.place (sym c.in-Some-lesser_place.ensures.value))

pub returns-clause-macros : goal.returns-clause-macros
returns-clause-macros c =
    let is = is_read c.args.bytes.now c.in_ok-file.file c.of.result c.as_slice.result.now c.in_ok-file.ensures.value c.of.ensures.value (c.as_slice.ensures.value ∙ c.in_ok-spans.ensures.value) in
    denotes c.args.bytes.now c.in_ok-file.file is c.in_default.is c.in_default-number.is (sym c.in_default-lesser_place.ensures.value)

pub returns-clause-only : goal.returns-clause-only
returns-clause-only c =
    let is = is_read c.args.bytes.now c.in_ok-file.file c.of.result c.as_slice.result.now c.in_ok-file.ensures.value c.of.ensures.value (c.as_slice.ensures.value ∙ c.in_ok-spans.ensures.value) in
    only_one c.args.bytes.now c.in_ok-file.file.macros (denotes c.args.bytes.now c.in_ok-file.file is c.in_default.is c.in_default-number.is (sym c.in_default-lesser_place.ensures.value))

pub returns-clause-measured : goal.returns-clause-measured
returns-clause-measured c =
    let is = is_read c.args.bytes.now c.in_ok-file.file c.of.result c.as_slice.result.now c.in_ok-file.ensures.value c.of.ensures.value (c.as_slice.ensures.value ∙ c.in_ok-spans.ensures.value) in
    are_measured c.args.bytes.now c.in_ok-file.file.macros (denotes c.args.bytes.now c.in_ok-file.file is c.in_default.is c.in_default-number.is (sym c.in_default-lesser_place.ensures.value))

pub returns-clause-no_fault : goal.returns-clause-no_fault
returns-clause-no_fault c =
    let is = is_read c.args.bytes.now c.in_ok-file.file c.of.result c.as_slice.result.now c.in_ok-file.ensures.value c.of.ensures.value (c.as_slice.ensures.value ∙ c.in_ok-spans.ensures.value) in
    not_refused c.args.bytes.now c.in_ok-file.file is c.in_default.is c.in_default-number.is (sym c.in_default-lesser_place.ensures.value)
