use Rattle.path_chains.proofs.KeyCounts.{are_ranked}
use Rattle.path_chains.proofs.ranked.chains_for.Goals as goal

pub returns : goal.returns
returns c = record {
  value = are_ranked c.args.netlist.now c.args.paths.now c.in_ok-keys.keys.items c.sort_unstable.new.self.items c.as_slice-sorted.result.now c.in_ok-keys.ensures.value c.sort_unstable.ensures.permutation
      c.as_slice-sorted.ensures.value (record { chains = c.in_ok-chains.chains; cells = c.in_ok-cells.cells }) c.in_ok-chains.ensures.value c.in_ok-cells.ensures.value;
}
