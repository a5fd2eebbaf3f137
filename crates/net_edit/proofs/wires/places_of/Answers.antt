use Rattle.std.proofs.Common.{◌∙◌, Option, ℕ, Some, None, cond, ap, sym, get_or}
use Rattle.std.specs.Option.{option_or}
use Rattle.chain_trace.specs.declared.path.Source.TheVariants as sources
use Rattle.path_links.specs.Edits.{same_source}
use Rattle.net_edit.specs.Changes.{Change}
use Rattle.net_edit.proofs.Places.{position_more}
use Rattle.net_edit.proofs.wires.places_of.Goals as goal

pub loop-place-preserved : goal.loop-place-preserved
loop-place-preserved c = λ source.
    let fs = c.args.freed.now in
    let i = c.loop-place.place in
    let d : Change = record { port = record { 0 = 0 }; was = sources.Port (record { 0 = 0 }); now = sources.Port (record { 0 = 0 }) } in
    c.in_ok-put_place.ensures.value source
    ∙ ap (λ (o : Option ℕ). option_or o (cond (same_source (get_or fs i d).was source) (Some i) None)) (c.loop-place.invariant source)
    ∙ sym (position_more (λ (x : Change). same_source x.was source) fs i d c.loop-place-test.true)
