use Rattle.std.proofs.Common.{◌^◌, arith}
use Rattle.std.proofs.lemmas.Nat.{mul-le}
use Rattle.chain_picture.proofs.svg.times.Goals as goal

pub overflow_mul-result : goal.overflow_mul-result
overflow_mul-result c = let most = mul-le c.args.letter c.args.n (2 ^ 56) (2 ^ 68) c.requires.letter c.requires.n in omega (arith, most)

pub returns-clause-small : goal.returns-clause-small
returns-clause-small c = let most = mul-le c.args.letter c.args.n (2 ^ 56) (2 ^ 68) c.requires.letter c.requires.n in omega (arith, most)
