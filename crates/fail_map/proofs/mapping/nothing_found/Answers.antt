use Rattle.std.proofs.Common.{◌≡◌, ◌++◌, ◌∷◌, [], None, ap, ◌∙◌, arith, replicate}
use Rattle.std.proofs.lemmas.List.{replicate-append-replicate}
use Rattle.fail_map.proofs.mapping.nothing_found.Goals as goal

pub loop-place-preserved : goal.loop-place-preserved
loop-place-preserved c = c.in_ok-push.ensures.items ∙ ap (λ ms. ms ++ None ∷ []) c.loop-place.invariant ∙ replicate-append-replicate c.loop-place._place 1 None

pub returns : goal.returns
returns c =
    let end : c.loop-place._place ≡ c.args.count = omega arith in
    record { value = c.loop-place.invariant ∙ ap (λ n. replicate n None) end }
