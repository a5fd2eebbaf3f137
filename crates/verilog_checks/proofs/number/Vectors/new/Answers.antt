use Rattle.std.proofs.Common.{ap, refl}
use Rattle.std.specs.List.{list_any}
use Rattle.std.specs.Str.{bytes_eq}
use Rattle.verilog_checks.specs.Faults.{vector_bits_from}
use Rattle.verilog_checks.proofs.number.Vectors.new.Goals as goal

pub returns-clause-counted : goal.returns-clause-counted
unfolding vector_bits_from
returns-clause-counted c = record { names = λ q. ap (list_any (λ k. bytes_eq q k.now)) c.with_hasher.ensures.empty; bits = refl }
