use Rattle.std.proofs.Common.{sym}
use Rattle.design_places.proofs.Fits.{placed_fits}
use Rattle.draw_command.proofs.cells.Cells.push_named.Goals as goal

pub corners-requires-clause-measured : goal.corners-requires-clause-measured
corners-requires-clause-measured c =
    (placed_fits c.args.self.now.0 c.args.self.now.1 c.requires.design c.requires.macros c.args.name.now c.in-Some.standing (sym c.in-Some.ensures.value)).shape

pub corners-requires-clause-placed : goal.corners-requires-clause-placed
corners-requires-clause-placed c =
    (placed_fits c.args.self.now.0 c.args.self.now.1 c.requires.design c.requires.macros c.args.name.now c.in-Some.standing (sym c.in-Some.ensures.value)).at
