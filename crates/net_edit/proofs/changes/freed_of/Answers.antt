use Rattle.std.proofs.Common.{ap, sym, ◌∙◌, arith}
use Rattle.chain_trace.specs.declared.path.Source.TheVariants as sources
use Rattle.net_edit.specs.Changes.{Change}
use Rattle.net_edit.proofs.Freed.{one_freed, none_freed}
use Rattle.net_edit.proofs.changes.freed_of.Goals.{then-is_direct_from+in_ok-push, else-is_direct_from}
use Rattle.net_edit.proofs.changes.freed_of.Goals as goal

abbrev no_change : Change
no_change = record { port = record { 0 = 0 }; was = sources.Port (record { 0 = 0 }); now = sources.Port (record { 0 = 0 }) }

pub loop-change-preserved : goal.loop-change-preserved
loop-change-preserved c =
    let n = c.args.netlist.now in
    let m = c.in_ok-outputs.outputs in
    let cells = c.args.table.now in
    let cs = c.args.changes.now in
    let i = c.loop-change.change-index in
    let before = c.loop-change.all.items in
    let after = c.if-is_direct_from.all.items in
    elim c.if-is_direct_from.branch [
      | then-is_direct_from+in_ok-push w ↦
          one_freed n m cells cs i no_change before after (omega (arith, c.loop-change-test.true)) c.in_ok-outputs.ensures.value c.loop-change.invariant
          (sym c.is_direct_from.ensures.value ∙ w.if-is_direct_from.true) (ap (λ v. v.items) w.all-is ∙ w.in_ok-push.ensures.items)
      | else-is_direct_from w ↦
          none_freed n m cells cs i no_change before after (omega (arith, c.loop-change-test.true)) c.in_ok-outputs.ensures.value c.loop-change.invariant
          (sym c.is_direct_from.ensures.value ∙ w.if-is_direct_from.false) (ap (λ v. v.items) w.all-is)
    ]
