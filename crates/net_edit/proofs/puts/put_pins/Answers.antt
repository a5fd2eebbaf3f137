use Rattle.std.proofs.Common.{◌==◌, ◌&&◌, List, ℕ, take, get_or, ap}
use Rattle.std.specs.HashMap.{get}
use Rattle.std.specs.Str.{bytes_eq}
use Rattle.net_edit.specs.declared.edits.PinEdit.{PinEdit}
use Rattle.net_edit.specs.declared.edits.Wire.TheVariants.{Net}
use Rattle.net_edit.specs.Wires.{net_of_wire}
use Rattle.net_edit.specs.Applied.{same_pin, is_edit_at, pin_put}
use Rattle.net_edit.proofs.PutSteps.{put_step, found_more}
use Rattle.net_edit.proofs.puts.put_pins.Goals as goal

pub loop-edit-preserved : goal.loop-edit-preserved
loop-edit-preserved c = λ q.
    let n = c.args.netlist.now in
    let t = c.args.table.now in
    let pins = c.args.pins.now in
    let i = c.loop-edit.edit-index in
    let d : PinEdit = record { instance = 0; path = 0; source = Net (record { 0 = 0 }) } in
    let edit = get_or pins i d in
    put_step (get same_pin c.add_put.new.puts q) (get same_pin c.loop-edit.puts q) (get same_pin c.args.puts.now q) (pin_put n t (take i pins) q.0 q.1.now) _ (edit.instance == q.0 && bytes_eq c.input_of-pin.result.now q.1.now)
    (is_edit_at n t q.0 q.1.now edit) c.in_ok-net.net (net_of_wire n edit.source) (c.in_ok-add_put.ensures.value q) (c.loop-edit.invariant q)
    (found_more (λ (e : PinEdit). net_of_wire n e.source) (is_edit_at n t q.0 q.1.now) pins i d c.loop-edit-test.true)
    (ap (λ (l : List ℕ). edit.instance == q.0 && bytes_eq l q.1.now) c.input_of-pin.ensures.value) c.in_ok-net.ensures.value
