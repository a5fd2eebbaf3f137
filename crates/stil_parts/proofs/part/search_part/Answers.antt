use Rattle.std.proofs.Common.{◌≡◌, ◌≤◌, ◌∙◌, ap, sym, Bool, true, false, Some, length, arith}
use Rattle.stil_parts.specs.declared.scan.Scan.{Scan}
use Rattle.stil_parts.proofs.PartStable.{part-len}
use Rattle.stil_parts.proofs.Searches.{found-part, open-part}
use Rattle.stil_parts.proofs.OpensLaw.{part_law}
use Rattle.stil_parts.proofs.part.search_part.Goals as goal

pub returns-in-Found : goal.returns-in-Found
returns-in-Found c =
    let found = found-part c.args.last c.args.bytes.now c.args.place c.args.done c.args.scan c.requires.resumes c.in-Found.found c.part_of.result c.part_of.ensures c.in-Found.ensures.value in
    record { value = found; tokens = sym found.0 ∙ part_law c.args.last c.args.place c.args.bytes.now }

pub returns-in-Reached : goal.returns-in-Reached
returns-in-Reached c =
    let open_one = open-part c.args.last c.args.bytes.now c.args.place c.args.done c.args.scan c.requires.resumes c.in-Reached.now c.in-Reached.ensures.value in
    record { value = open_one; tokens = sym open_one.0 ∙ part_law c.args.last c.args.place c.args.bytes.now }
