use Rattle.std.proofs.Common.{◌≡◌, ◌∙◌, ◌+◌, ◌++◌, ◌∷◌, [], ◌<◌, take, length, ap, ap₂, sym, arith}
use Rattle.std.specs.List.{flat_map}
use Rattle.netlist_core.specs.Netlists.{pairs}
use Rattle.netlist_core.proofs.Sides.{pairs_more}
use Rattle.chain_trace.specs.declared.path.Path.{Path}
use Rattle.net_edit.specs.Changes.{changes_of}
use Rattle.net_edit.proofs.Beside.{pairs_all, flat_more}
use Rattle.net_edit.proofs.changes.changes_between.Goals as goal

pub loop-i-preserved : goal.loop-i-preserved
loop-i-preserved c =
    let old = c.args.old.now in
    let new = c.args.new.now in
    let i = c.loop-i.i in
    let a : Path = c.index-old-i.result in
    let b : Path = c.index-new-i.result in
    let l : i < length old = omega (arith, c.min-i-end.ensures) in
    let m : i < length new = omega (arith, c.min-i-end.ensures) in
    let more : pairs (take (i + 1) old) (take (i + 1) new) ≡ pairs (take i old) (take i new) ++ (a, b) ∷ [] =
    pairs_more old new i a b l m ∙ ap₂ (λ (p q : Path). pairs (take i old) (take i new) ++ (p, q) ∷ []) (sym c.index-old-i.is) (sym c.index-new-i.is) in
    flat_more changes_of (pairs (take i old) (take i new)) (pairs (take (i + 1) old) (take (i + 1) new)) (a, b) c.loop-i.all.items c.put_change.new.all.items more c.loop-i.invariant c.in_ok-put_change.ensures.value

pub returns : goal.returns
returns c = record { value = c.loop-i.invariant ∙ ap (flat_map changes_of) (pairs_all c.args.old.now c.args.new.now c.loop-i.i (omega (arith, c.min-i-end.ensures))) }
