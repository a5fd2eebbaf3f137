use Rattle.std.proofs.Common.{◌≡◌, Bool}
use Rattle.stil_head.specs.Unsupported.{is_name_of, names_one, calls_scan}
use Rattle.stil_head.proofs.Calls.{calls_one, if_ok_other}
use Rattle.stil_head.proofs.unsupported.calls_scan.Goals as goal

pub returns-then-has_word : goal.returns-then-has_word
returns-then-has_word c =
    let f = is_name_of c.args.names.now.procedures in
    let p = is_name_of c.args.names.now.macros in
    record {
      value = if_ok_other c.names_one.result (λ (is : Bool). is ≡ names_one f c.behind_word.result) (λ (is : Bool). is ≡ calls_scan f p c.args.s.now)
          (λ (is : Bool) e. calls_one f p c.args.s.now c.behind_word.result c.has_word.result is c.has_word.ensures.value c.if-has_word.true c.behind_word.ensures.value e) c.names_one.ensures.value;
    }
