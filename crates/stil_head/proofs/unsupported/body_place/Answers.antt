use Rattle.std.proofs.Common.{◌∙◌}
use Rattle.stil_head.specs.Unsupported.{is_name_of}
use Rattle.stil_head.proofs.Joined.{body_scan}
use Rattle.stil_head.proofs.unsupported.body_place.Goals as goal

pub returns-then-scan : goal.returns-then-scan
returns-then-scan c = record {
  value = c.lesser_place.ensures.value
      ∙ body_scan (is_name_of c.args.names.now.procedures) (is_name_of c.args.names.now.macros) c.args.body.now c.holds_shift-scan.result c.in_ok-barred.barred c.scan_place.result
      c.holds_shift-scan.ensures.value c.if-scan.true c.in_ok-barred.ensures.value c.scan_place.ensures.value;
}
