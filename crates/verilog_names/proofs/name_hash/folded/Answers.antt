use Rattle.std.proofs.Common.{refl}
use Rattle.verilog_names.specs.NameHashes.{folded}
use Rattle.verilog_names.proofs.name_hash.folded.Goals as goal

pub returns : goal.returns
unfolding folded
returns c = record { value = refl }
