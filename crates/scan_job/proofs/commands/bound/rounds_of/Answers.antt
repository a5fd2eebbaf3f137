use Rattle.std.proofs.Common.{List, ℕ, Option, IfSome, subst, arith}
use Rattle.scan_job.specs.Commands.Bound.{IsRounds}
use Rattle.scan_job.proofs.commands.bound.rounds_of.Goals as goal

pub number_of-requires : goal.number_of-requires
number_of-requires c =
    let rounds = subst (λ (o : Option (List ℕ)). IfSome o IsRounds) c.in-Some.is c.requires.said in
    let few = rounds.few in
    record { said = (rounds.number, omega (arith, few), rounds.is) }
