use Rattle.std.proofs.Common.{length, arith}
use Rattle.stil_calls.proofs.Plain.{first_plain}
use Rattle.stil_calls.proofs.repeats.unescaped_len.Goals as goal

pub returns-in-Some-clause-within : goal.returns-in-Some-clause-within
returns-in-Some-clause-within c = omega (arith, c.in-Some.ensures.0.high)

pub returns-in-Some-clause-value : goal.returns-in-Some-clause-value
returns-in-Some-clause-value c = first_plain c.in-Some.before c.args.bytes.now (omega (arith, c.in-Some.ensures.0.high)) c.in-Some.ensures.0.before

pub returns-in-None-clause-value : goal.returns-in-None-clause-value
returns-in-None-clause-value c = first_plain (length c.args.bytes.now) c.args.bytes.now (omega arith) c.in-None.ensures
