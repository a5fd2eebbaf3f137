use Rattle.std.proofs.Common.{◌≡◌, ◌++◌, drop}
use Rattle.std.specs.List.{flat_map}
use Rattle.def_layout.specs.Sections.{line_text, chain_lines}
use Rattle.def_layout.proofs.section.push_chains.Given as goal

abbrev pub invariant-loop-chain : goal.invariant-loop-chain
invariant-loop-chain l = l.out.items ++ flat_map line_text (flat_map chain_lines (drop l.chain-index l.chains)) ≡ l.fn.out.items ++ flat_map line_text (flat_map chain_lines l.chains)
