-- The first fault of a design's chains beside a head.
use Rattle.std.proofs.Common.{ℕ, ◌≤◌, List, Some, None, refl}
use Rattle.std.specs.Ordering.{nat_cmp}
use Rattle.std.specs.declared.cmp.Ordering.TheVariants.{Equal}
use Rattle.base_types.specs.Faults.{at_line}
use Rattle.base_types.specs.FirstFault.{ComesBefore, IsFirstFault}
use Rattle.base_types.specs.declared.fault.Fault.{Fault}
use Rattle.base_types.specs.declared.fault.FileKind.TheVariants.{Def}
use Rattle.base_types.specs.declared.kind.Kind.TheVariants.{ChainUndeclared}
use Rattle.def_reader.specs.declared.design.Design.{Design}
use Rattle.list_laws.specs.Leasts.{IsLeast}
use Rattle.list_laws.proofs.LeastLines.{line_case}
use Rattle.stil_types.specs.declared.head.StilHead.{StilHead}
use Rattle.head_checks.specs.Heads.{FailsOn}
use Rattle.head_chains.specs.Chains.{is_undeclared, HoldsInChains, Undeclared}

chain_line : (a b : ℕ) → a ≤ b → ComesBefore (at_line ChainUndeclared Def b) (at_line ChainUndeclared Def a) → ⊥
chain_line a b le e = line_case a b (nat_cmp b a) Equal refl le refl e

module _ (d : Design) (head : StilHead) where
  abbrev Bad : ℕ → Type 0
  Bad = FailsOn (is_undeclared head.chains) (λ c. c.line) d.chains

  chain_leasts : (line : ℕ) → IsLeast Bad (Some line) → (g : Fault) → HoldsInChains d head g → ComesBefore g (at_line ChainUndeclared Def line) → ⊥
  chain_leasts line least _ (Undeclared other h) e = chain_line line other (least.1 other h) e

  pub chain_first : (line : ℕ) → IsLeast Bad (Some line) → IsFirstFault (HoldsInChains d head) (at_line ChainUndeclared Def line)
  chain_first line least = record { holds = Undeclared line least.0; least = chain_leasts line least }

  pub chain_none : IsLeast Bad None → (g : Fault) → HoldsInChains d head g → ⊥
  chain_none none _ (Undeclared other h) = none other h
