use Rattle.std.proofs.Common.{ℕ, length, ap, ◌∙◌}
use Rattle.chain_picture.specs.declared.bounds.Bounds.{Bounds}
use Rattle.chain_picture.specs.Sizes.{extent_of, sheet_by}
use Rattle.chain_picture.proofs.sheet.sheet_of.Goals as goal

pub returns-clause-value : goal.returns-clause-value
returns-clause-value c =
    let b = c.bounds_of-bounds.result in
    let units = c.args.units in
    let count = length c.args.chains.now in
    c.sheet_by.ensures.value
    ∙ ap (λ (e : ℕ). sheet_by b units count e) c.extent_of.ensures.value
    ∙ ap (λ (x : Bounds). sheet_by x units count (extent_of x units count)) c.bounds_of-bounds.ensures.value
