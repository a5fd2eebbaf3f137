use Rattle.std.proofs.Common.{◌∙◌, ◌+◌, get_or, take}
use Rattle.std.proofs.lemmas.List.{take_more}
use Rattle.chain_trace.specs.declared.path.Source.TheVariants as sources
use Rattle.chain_trace.specs.declared.path.Sink.TheVariants as sinks
use Rattle.path_links.specs.Edits.{Link}
use Rattle.net_edit.specs.NewWires.{wired_pin, wired_port}
use Rattle.net_edit.proofs.Beside.{flat_more}
use Rattle.net_edit.proofs.between.edits_of.Goals as goal

pub loop-link-preserved : goal.loop-link-preserved
loop-link-preserved c =
    let n = c.args.netlist.now in
    let t = c.args.table.now in
    let links = c.args.links.now in
    let i = c.loop-link.link-index in
    let d : Link = (sources.Port (record { 0 = 0 }), sinks.Port (record { 0 = 0 })) in
    let more = take_more links i d c.loop-link-test.true in
    record {
      pins = λ fs has.
          flat_more (wired_pin n t fs) (take i links) (take (i + 1) links) (get_or links i d) c.loop-link.edits.pins c.put_edit.new.edits.pins more (c.loop-link.invariant.pins fs has) (c.in_ok-put_edit.ensures.pins fs has);
      ports = λ fs has.
          flat_more (wired_port n t fs) (take i links) (take (i + 1) links) (get_or links i d) c.loop-link.edits.ports c.put_edit.new.edits.ports more (c.loop-link.invariant.ports fs has) (c.in_ok-put_edit.ensures.ports fs has);
      tails = c.in_ok-put_edit.ensures.tails ∙ c.loop-link.invariant.tails;
    }
