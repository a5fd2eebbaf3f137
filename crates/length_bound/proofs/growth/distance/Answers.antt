use Rattle.std.proofs.Common.{arith}
use Rattle.std.proofs.lemmas.Int.{ints}
use Rattle.length_bound.proofs.growth.distance.Goals as goal

pub returns-clause-under : goal.returns-clause-under
returns-clause-under c =
    let p = c.requires.p.weight in
    let q = c.requires.q.weight in
    record {
      there = λ can. let h = c.least_link.ensures.there can in omega (arith, ints);
      back = λ can. let h = c.least_link.ensures.back can in omega (arith, ints);
    }
