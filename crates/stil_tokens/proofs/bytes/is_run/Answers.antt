use Rattle.std.proofs.Common.{arith}
use Rattle.stil_tokens.proofs.ByteKinds.{run_byte}
use Rattle.stil_tokens.proofs.bytes.is_run.Goals as goal

pub returns : goal.returns
returns c = record { value = rw c.from.ensures (run_byte c.args.b (omega arith)) }
