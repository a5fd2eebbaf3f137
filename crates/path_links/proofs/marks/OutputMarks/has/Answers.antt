use Rattle.std.proofs.Common.{◌≡◌, ◌∙◌, ◌≤◌, List, Bool, true, length, ap, sym, arith}
use Rattle.std.proofs.lemmas.Bool.{false_from_ne_true}
use Rattle.netlist_core.specs.declared.netlist.Netlist.{Netlist}
use Rattle.chain_trace.specs.Paths.{has_port}
use Rattle.chain_trace.proofs.Ranges.{port_within}
use Rattle.path_links.specs.Direct.{is_output}
use Rattle.path_links.specs.Uses.{AreOutputMarks}
use Rattle.path_links.proofs.marks.OutputMarks.has.Goals as goal

pub returns-in-None : goal.returns-in-None
returns-in-None c =
    let n = c.args.self.now in
    let inv : (length c.self.inside.marks.items ≡ length c.self.inside.netlist.now.nets) × AreOutputMarks c.self.inside.netlist.now.ports c.self.inside.marks.items = c.self.invariant in
    let view : c.self.inside.netlist.now ≡ n = c.self.view_is in
    let count : length c.self.inside.marks.items ≡ length n.nets = inv.0 ∙ ap (λ (m : Netlist). length m.nets) view in
    let beyond : length c.deref.result.now ≤ c.args.net.0 = c.in-None.ensures.lookup.3 in
    let same : length c.deref.result.now ≡ length c.self.inside.marks.items = ap (λ (l : List Bool). length l) c.deref.ensures.value in
    record {
      value = sym (
          false_from_ne_true (has_port is_output n c.args.net)
          (λ (e : has_port is_output n c.args.net ≡ true). let within = port_within n is_output c.args.net c.requires.netlist e in omega (arith, within, count, beyond, same)));
    }
