use Rattle.std.proofs.Common.{refl}
use Rattle.design_places.specs.Ends.{ends_of}
use Rattle.design_places.proofs.ends.ends_of.Goals as goal

pub returns-clause-value : goal.returns-clause-value
returns-clause-value c =
    let e = c.in_ok-entries_of.ensures.value in
    let f = c.in_ok-exits_of.ensures.value in
    let s = c.in_ok-starts_of.ensures.value in
    let t = c.in_ok-stops_of.ensures.value in
    let of = c.of-layout.ensures.value in
    let us = c.as_slice-units.ensures.value in
    let cs = c.as_slice-chains.ensures.value in
    rw (e, f, s, t, us, cs, of) (refl {a = ends_of c.args.netlist.now c.args.table.now c.args.macros.now c.args.design.now c.args.paths.now c.args.rules.now})
