use Rattle.std.proofs.Common.{◌≡◌, ◌+◌, ◌<◌, ◌^◌, sum_by, take, length}
use Rattle.chain_rules.proofs.belong.are_few_elements.Given as goal

abbrev pub invariant-loop-elements : goal.invariant-loop-elements
invariant-loop-elements l = (l.left + sum_by length (take l.elements-index l.lists) ≡ 2 ^ 32) × (0 < l.left)
