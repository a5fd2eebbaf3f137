use Rattle.path_chains.specs.Ranked.{bits_of_all}
use Rattle.same_files.proofs.Entries.{are_entries}
use Rattle.same_files.proofs.cells.entries_of.Goals as goal

pub returns : goal.returns
returns c = record {
  value = are_entries c.args.netlist.now (bits_of_all c.args.paths.now) c.in_ok-entries.entries.items c.sort_unstable.new.self.items c.in_ok-entries.ensures.value
      c.sort_unstable.ensures.permutation c.sort_unstable.ensures.sorted;
}
