use Rattle.std.proofs.Common.{◌-◌, arith, false}
use Rattle.std.proofs.lemmas.List.{length-take-le}
use Rattle.stil_parts.specs.Parts.{begin}
use Rattle.stil_parts.specs.Scanner.{found}
use Rattle.stil_parts.specs.declared.word.Word.TheVariants.{Start}
use Rattle.stil_parts.proofs.Resumed.{resumed-some}
use Rattle.stil_stream.proofs.Fronts.{before-end, whole-reaches, whole-open, whole-here, whole-passes}
use Rattle.stil_stream.proofs.walk.whole_front.Goals as goal

pub slice_bounds-scan_on-count : goal.slice_bounds-scan_on-count
slice_bounds-scan_on-count c = omega (arith, before-end (begin Start) c.args.scan c.args.bytes.now c.args.done c.args.len c.requires.resumes c.requires.found)

pub scan_on-requires-clause-within : goal.scan_on-requires-clause-within
scan_on-requires-clause-within c =
    let lt = before-end (begin Start) c.args.scan c.args.bytes.now c.args.done c.args.len c.requires.resumes c.requires.found in
    omega (arith, length-take-le (c.args.len - 1) c.args.bytes.now (omega (arith, c.requires.found.within)))

pub returns-in-Reached : goal.returns-in-Reached
returns-in-Reached c =
    let x = c.args.bytes.now in
    let lt = before-end (begin Start) c.args.scan x c.args.done c.args.len c.requires.resumes c.requires.found in
    let r = whole-reaches (begin Start) c.args.scan c.in-Reached.now x c.args.done c.args.len c.requires.resumes c.requires.found c.in-Reached.ensures.value in
    record {
      value = whole-here c.args.comment x c.requires.no_gap c.args.len c.in-Reached.now (resumed-some (begin Start) c.args.scan x c.args.done c.requires.resumes false (found c.args.len false) c.requires.found)
          (omega arith) c.requires.found.within r c.args.last c.if-is_pattern.ensures.settles;
    }

pub returns-in_default : goal.returns-in_default
returns-in_default c =
    let x = c.args.bytes.now in
    let lt = before-end (begin Start) c.args.scan x c.args.done c.args.len c.requires.resumes c.requires.found in
    let r = whole-reaches (begin Start) c.args.scan c.in-Reached.now x c.args.done c.args.len c.requires.resumes c.requires.found c.in-Reached.ensures.value in
    record {
      value = whole-passes c.args.comment x c.requires.no_gap c.args.len c.in-Reached.now (resumed-some (begin Start) c.args.scan x c.args.done c.requires.resumes false (found c.args.len false) c.requires.found)
          (omega arith) c.requires.found.within r c.if-is_pattern.ensures.settles;
    }

pub returns-in_default-2 : goal.returns-in_default-2
returns-in_default-2 c = absurd (whole-open (begin Start) c.args.scan c.args.bytes.now c.args.done c.args.len _ c.requires.resumes c.requires.found c.in_default.ensures.value)
