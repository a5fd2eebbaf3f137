use Rattle.std.proofs.Common.{ℕ, ◌<◌, ◌+◌, List, Bor, get_or, length, ap, sym, subst, ◌∙◌, arith}
use Rattle.std.proofs.lemmas.List.{length_push}
use Rattle.cell_table.specs.declared.paths.ScanPath.{ScanPath}
use Rattle.chain_trace.specs.Drivers.{HasEntries}
use Rattle.chain_trace.proofs.Entries.{entries_more}
use Rattle.chain_trace.proofs.entry.entries_of.Goals as goal

pub loop-i-preserved : goal.loop-i-preserved
loop-i-preserved c =
    let n = c.args.netlist.now in
    let cells = c.args.table.now in
    let xs = c.loop-i.entries.items in
    let pushed = c.in_ok-push.ensures.items in
    record {
      count = omega (arith, ap length pushed, length_push xs c.paths_of.result, c.loop-i.invariant.count);
      each = λ k d lt.
          subst (λ (es : List (Bor (List ScanPath))). HasEntries n cells k (get_or es k d).now) (sym {A = List (Bor (List ScanPath))} pushed)
          (entries_more n cells xs c.paths_of.result c.loop-i.i c.loop-i.invariant.count c.loop-i.invariant.each c.paths_of.ensures.entries k d lt);
    }
