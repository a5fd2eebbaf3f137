use Rattle.std.proofs.lemmas.Bool.{iff_false}
use Rattle.chain_rules.proofs.Stretched.{Stands, no_stretch_unplaced, no_stretch_unbegun, no_stretch_unended, no_stretch_backward, no_stretch_outside}
use Rattle.chain_rules.proofs.stretch.stretch_of.Goals as goal

pub returns-in_err-path-clause-none : goal.returns-in_err-path-clause-none
returns-in_err-path-clause-none c = rw c.from_residual.ensures (no_stretch_unplaced c.args.index.now c.args.chain.now c.first_element-first.result c.first_element-first.ensures.value c.in_err-path.ensures.none)

pub returns-in_err-from-clause-none : goal.returns-in_err-from-clause-none
returns-in_err-from-clause-none c =
    let st : Stands c.args.index.now c.args.chain.now c.in_ok-path.field-0.path = record { element = c.first_element-first.result; of_chain = c.first_element-first.ensures.value; place = c.in_ok-path.field-0.place; is_place = c.in_ok-path.ensures.found.0; names = c.in_ok-path.ensures.found.1 } in
    rw c.from_residual-in_err-from.ensures (no_stretch_unbegun c.args.index.now c.requires.once c.args.chain.now c.in_ok-path.field-0.path st c.in_err-from.ensures.none)

pub returns-in_err-to-clause-none : goal.returns-in_err-to-clause-none
returns-in_err-to-clause-none c =
    let st : Stands c.args.index.now c.args.chain.now c.in_ok-path.field-0.path = record { element = c.first_element-first.result; of_chain = c.first_element-first.ensures.value; place = c.in_ok-path.field-0.place; is_place = c.in_ok-path.ensures.found.0; names = c.in_ok-path.ensures.found.1 } in
    rw c.from_residual-in_err-to.ensures (no_stretch_unended c.args.index.now c.requires.once c.args.chain.now c.in_ok-path.field-0.path st c.in_err-to.ensures.none)

pub returns-then-to-from-clause-none : goal.returns-then-to-from-clause-none
returns-then-to-from-clause-none c =
    let st : Stands c.args.index.now c.args.chain.now c.in_ok-path.field-0.path = record { element = c.first_element-first.result; of_chain = c.first_element-first.ensures.value; place = c.in_ok-path.field-0.place; is_place = c.in_ok-path.ensures.found.0; names = c.in_ok-path.ensures.found.1 } in
    no_stretch_backward c.args.index.now c.requires.once c.args.chain.now c.in_ok-path.field-0.path c.in_ok-from.from c.in_ok-to.to st c.in_ok-from.ensures.found c.in_ok-to.ensures.found c.if-to-from.true

pub returns-else-all_stand_in-clause-none : goal.returns-else-all_stand_in-clause-none
returns-else-all_stand_in-clause-none c =
    let st : Stands c.args.index.now c.args.chain.now c.in_ok-path.field-0.path = record { element = c.first_element-first.result; of_chain = c.first_element-first.ensures.value; place = c.in_ok-path.field-0.place; is_place = c.in_ok-path.ensures.found.0; names = c.in_ok-path.ensures.found.1 } in
    no_stretch_outside c.args.index.now c.requires.once c.args.chain.now c.in_ok-path.field-0.path c.in_ok-from.from c.in_ok-to.to st c.in_ok-from.ensures.found c.in_ok-to.ensures.found (iff_false c.all_stand_in.ensures.value c.if-all_stand_in.false)
