use Rattle.std.proofs.Common.{◌≡◌, map, take}
use Rattle.chain_rules.specs.declared.spans.Span.{Span}
use Rattle.chain_rules.proofs.spans.ends_of.Given as goal

abbrev pub invariant-loop-span : goal.invariant-loop-span
invariant-loop-span l = l.numbers.items ≡ map (λ (s : Span). s.to) (take l.span-index l.spans)
