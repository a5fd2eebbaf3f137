-- What drives the output of a path.
use Rattle.std.proofs.Common.{◌≡◌, suc, ◌-◌, List, [], ◌∷◌, length, sym, ap, ◌∙◌, arith}
use Rattle.std.specs.Prelude.{Some}
use Rattle.std.specs.List.{slice_get}
use Rattle.chain_trace.specs.declared.path.Step.{Step}
use Rattle.chain_trace.specs.declared.path.Source.{Source}
use Rattle.chain_trace.specs.declared.path.Source.TheVariants as sources
use Rattle.path_links.specs.Direct.{last_source}

pub last_is : (source : Source) (steps : List Step) (step : Step) → slice_get steps (length steps - 1) ≡ Some step → last_source source steps ≡ sources.Out step
last_is source [] step e = absurd cc
last_is source (x ∷ []) step e = let same : x ≡ step = cc in ap (λ (s : Step). sources.Out s) same
last_is source (x ∷ (y ∷ ys)) step e =
    let a : length (x ∷ (y ∷ ys)) - 1 ≡ suc (length ys) = omega arith in
    let b : length (y ∷ ys) - 1 ≡ length ys = omega arith in
    last_is (sources.Out x) (y ∷ ys) step (ap (slice_get (y ∷ ys)) b ∙ sym (ap (slice_get (x ∷ (y ∷ ys))) a) ∙ e)
