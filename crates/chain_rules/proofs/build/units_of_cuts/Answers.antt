use Rattle.std.proofs.Common.{◌+◌, List, [], ◌∷◌, ◌++◌, take, sym, subst, get_or}
use Rattle.std.specs.List.{AllZip}
use Rattle.std.proofs.lemmas.List.{take_more}
use Rattle.chain_rules.specs.declared.cuts.Cut.{Cut}
use Rattle.chain_rules.specs.declared.unit.Unit.{Unit as MovedUnit}
use Rattle.chain_rules.specs.Stretches.{path_at}
use Rattle.chain_rules.specs.Runs.{IsUnitOfCut, no_cut}
use Rattle.chain_rules.proofs.Built.{all_zip_push}
use Rattle.chain_rules.proofs.build.units_of_cuts.Goals as goal

pub loop-cut-preserved : goal.loop-cut-preserved
loop-cut-preserved c =
    subst (λ (us : List MovedUnit). AllZip (λ k u. IsUnitOfCut (path_at c.args.index.now c.args.run.path) c.args.chain.now c.args.run k c.args.last u) (take (c.loop-cut.cut-index + 1) c.args.cuts.now) us) (sym c.in_ok-push.ensures.items)
    (subst (λ (cs : List Cut). AllZip (λ k u. IsUnitOfCut (path_at c.args.index.now c.args.run.path) c.args.chain.now c.args.run k c.args.last u) cs (c.loop-cut.units.items ++ c.unit_of.result ∷ [])) (sym (take_more c.args.cuts.now c.loop-cut.cut-index no_cut c.loop-cut-test.true))
    (all_zip_push (λ k u. IsUnitOfCut (path_at c.args.index.now c.args.run.path) c.args.chain.now c.args.run k c.args.last u) (take c.loop-cut.cut-index c.args.cuts.now) c.loop-cut.units.items (get_or c.args.cuts.now c.loop-cut.cut-index no_cut) c.unit_of.result c.loop-cut.invariant c.unit_of.ensures.value))
