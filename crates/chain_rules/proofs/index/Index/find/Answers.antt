use Rattle.std.proofs.Common.{ℕ, List, sym, subst}
use Rattle.chain_rules.specs.declared.spec.PathSpec.{PathSpec}
use Rattle.chain_rules.specs.Stretches.{path_at, step_at, IsOf, IsPlace}
use Rattle.chain_rules.proofs.Indexed.{stands_nowhere}
use Rattle.chain_rules.proofs.index.Index.find.Goals as goal

pub returns-in-Some-clause-found : goal.returns-in-Some-clause-found
returns-in-Some-clause-found c =
    let p = c.in-Some.place.now in
    subst (λ (paths : List PathSpec). IsPlace paths p.path p.place × IsOf (step_at (path_at paths p.path) p.place) c.args.instance c.args.scan) c.self.view_is
    (c.self.invariant.places_are.stands (c.args.instance, c.args.scan) p (sym c.in-Some.ensures.value))

pub returns-in-None-clause-none : goal.returns-in-None-clause-none
returns-in-None-clause-none c =
    subst (λ (paths : List PathSpec). (n k : ℕ) → IsPlace paths n k → ¬ IsOf (step_at (path_at paths n) k) c.args.instance c.args.scan) c.self.view_is
    (stands_nowhere c.self.inside.paths.now c.self.inside.places c.self.invariant.places_are c.args.instance c.args.scan (sym c.in-None.ensures.value))
