use Rattle.chain_maps.proofs.KeepsBits.{keeps_bits}
use Rattle.chain_maps.proofs.laws.keeps_law.Goals as goal

pub returns : goal.returns
returns c = record { keeps = λ N n cells old chains rules plan counts are legal entries have. keeps_bits N n cells old chains rules plan counts are legal entries have }
