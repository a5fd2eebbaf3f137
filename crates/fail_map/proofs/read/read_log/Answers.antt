use Rattle.std.proofs.Common.{◌≡◌, ◌++◌, ◌∷◌, [], length, ap, ◌∙◌, arith}
use Rattle.std.proofs.lemmas.List.{length-append}
use Rattle.base_types.specs.Faults.{at_line}
use Rattle.base_types.specs.declared.fault.FileKind.TheVariants.{Log}
use Rattle.base_types.specs.declared.kind.Kind.TheVariants.{LogSyntax}
use Rattle.fail_map.specs.declared.line.LogLine.{LogLine}
use Rattle.fail_map.proofs.LogRows.{none_read, read_more, log_read, no_syntax, first_syntax}
use Rattle.fail_map.proofs.read.read_log.Goals as goal

pub loop-at-init : goal.loop-at-init
loop-at-init c = record { within = omega arith; few = omega (arith, ap length c.new-log.ensures.items); read = rw c.new-log.ensures.items (none_read c.args.bytes.now) }

pub returns-in_default-clause-fault : goal.returns-in_default-clause-fault
returns-in_default-clause-fault c = first_syntax c.args.bytes.now c.loop-at.log.items c.loop-at.at c.loop-at.invariant.read c.at_line-fault.result c.loop-at-test.true c.in_default.ensures.value
    (c.at_line-fault.ensures.value ∙ ap (at_line LogSyntax Log) (omega (arith, c.len.ensures, c.loop-at.log.ok.0)))

pub loop-at-preserved : goal.loop-at-preserved
loop-at-preserved c =
    let line : LogLine = c.in-Some.line in
    let row = c.in-Some.ensures.value in
    let items : c.push.new.self.items ≡ c.loop-at.log.items ++ line ∷ [] = c.in_ok-push.ensures.items in
    record {
      within = omega (arith, row.within);
      few = omega (arith, ap length items, c.loop-at.invariant.few, row.some, length-append c.loop-at.log.items (line ∷ []));
      read = rw items (read_more c.args.bytes.now c.loop-at.at c.loop-at.log.items line c.in-Some.end c.loop-at.invariant.read row);
    }

pub returns : goal.returns
returns c = record {
  value = log_read c.args.bytes.now c.loop-at.log.items c.loop-at.at c.loop-at.invariant.read c.loop-at-test.false;
  fault = tt;
  no_fault = no_syntax c.args.bytes.now c.loop-at.log.items c.loop-at.at c.loop-at.invariant.read c.loop-at-test.false;
}
