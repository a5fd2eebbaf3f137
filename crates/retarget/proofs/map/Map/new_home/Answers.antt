use Rattle.std.proofs.Common.{List, sym, subst}
use Rattle.stil_tester.specs.declared.chains.Chains.{Chains}
use Rattle.retarget.specs.declared.home.Home.{Home}
use Rattle.retarget.specs.Homes.{AreHomes}
use Rattle.retarget.proofs.Placed.{stands_in}
use Rattle.retarget.proofs.map.Map.new_home.Goals as goal

pub returns-clause-stands : goal.returns-clause-stands
returns-clause-stands c =
    let here : AreHomes c.args.self.now.1 c.as_slice.result.now
    = subst (λ (homes : List Home). AreHomes c.args.self.now.1 homes) (sym c.as_slice.ensures.value)
    (subst (λ (both : Chains × Chains). AreHomes both.1 c.self.inside.new_homes) c.self.view_is c.self.invariant.2) in
    stands_in c.args.self.now.1 c.as_slice.result.now c.args.cell here c.requires.within
