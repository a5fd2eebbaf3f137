use Rattle.std.proofs.Common.{List, sym, ap, ◌∙◌, drop, ℕ}
use Rattle.token_forms.specs.Tokens.{Token}
use Rattle.lef_pins.specs.BlockReading.{inner_at, found_at}
use Rattle.lef_pins.specs.Blocks.{ends_shapes, statements}
use Rattle.lef_pins.proofs.Trees.{inner_reads}
use Rattle.lef_pins.proofs.Loops.{fewer, next, at_end}
use Rattle.lef_pins.proofs.pins.pass_shapes.Goals as goal

pub loop-rest-smaller : goal.loop-rest-smaller
loop-rest-smaller c =
    fewer ends_shapes statements inner_at (inner_reads ends_shapes) c.loop-rest.rest c.skip.new.self (sym c.loop-rest-test.ensures.value) (c.skip.ensures.behind ∙ ap (λ (n : ℕ). drop n c.loop-rest.rest) c.inner_len.ensures.value)

pub loop-rest-preserved : goal.loop-rest-preserved
loop-rest-preserved c =
    ap (λ (ts : List Token). (found_at ends_shapes inner_at ts).1) (c.skip.ensures.behind ∙ ap (λ (n : ℕ). drop n c.loop-rest.rest) c.inner_len.ensures.value)
    ∙ sym (next ends_shapes statements inner_at (inner_reads ends_shapes) c.loop-rest.rest (sym c.loop-rest-test.ensures.value)).end ∙ c.loop-rest.invariant

pub returns-clause-closed : goal.returns-clause-closed
returns-clause-closed c =
    c.ends_shapes-closed.ensures.value
    ∙ ap ends_shapes (sym (at_end ends_shapes statements inner_at (inner_reads ends_shapes) c.loop-rest.rest (sym c.loop-rest-test.ensures.value)).end ∙ c.loop-rest.invariant)

pub returns-clause-rest : goal.returns-clause-rest
returns-clause-rest c =
    c.skip-2.ensures.behind
    ∙ ap (λ (ts : List Token). drop 1 ts) (sym (at_end ends_shapes statements inner_at (inner_reads ends_shapes) c.loop-rest.rest (sym c.loop-rest-test.ensures.value)).end ∙ c.loop-rest.invariant)
