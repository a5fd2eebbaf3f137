use Rattle.std.proofs.Common.{◌≡◌, ◌==◌, ◌&&◌, ◌∙◌, ◌+◌, List, ℕ, length, take, get_or, ap, arith}
use Rattle.std.specs.HashMap.{get}
use Rattle.std.specs.Str.{bytes_eq}
use Rattle.netlist_core.specs.declared.netlist.NetId.{NetId}
use Rattle.net_edit.specs.declared.edits.TailEdit.{TailEdit}
use Rattle.net_edit.specs.Applied.{same_pin, is_tail_at, tail_put}
use Rattle.net_edit.proofs.PutSteps.{put_step, tail_more}
use Rattle.net_edit.proofs.puts.put_tails.Goals as goal

pub loop-place-preserved : goal.loop-place-preserved
loop-place-preserved c = λ q.
    let n = c.args.netlist.now in
    let tails = c.args.tails.now in
    let i = c.loop-place.place in
    let t : TailEdit = c.index-tails-place.result in
    let at : NetId = record { 0 = length n.nets + i } in
    let place : c.in-Ok.place ≡ i = omega (arith, c.in-Ok.ensures) in
    put_step (get same_pin c.add_put.new.puts q) (get same_pin c.loop-place.puts q) (get same_pin c.args.puts.now q) (tail_put n (take i tails) q.0 q.1.now) (tail_put n (take (i + 1) tails) q.0 q.1.now)
    (t.instance == q.0 && bytes_eq c.bytes.result.now q.1.now) (is_tail_at q.0 q.1.now (get_or tails i t)) c.in_ok-net.net at (c.in_ok-add_put.ensures.value q) (c.loop-place.invariant q) (tail_more n tails i t q.0 q.1.now c.loop-place-test.true)
    (ap (λ (l : List ℕ). t.instance == q.0 && bytes_eq l q.1.now) c.bytes.ensures.value ∙ ap (is_tail_at q.0 q.1.now) c.index-tails-place.is)
    (c.in_ok-net.ensures.value ∙ ap (λ (k : ℕ). record { 0 = length n.nets + k }) place)
