use Rattle.std.proofs.Common.{ℕ, ◌*◌, ◌/◌, ap, ◌∙◌}
use Rattle.chain_picture.specs.Sizes.{rounded}
use Rattle.chain_picture.proofs.sheet.microns_of.Goals as goal

pub returns-clause-value : goal.returns-clause-value
returns-clause-value c = c.rounded.ensures.value ∙ ap (λ (u : ℕ). rounded (c.args.extent / (8 * u))) c.from.ensures
