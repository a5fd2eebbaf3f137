use Rattle.std.proofs.Common.{◌≡◌, ℕ, List, Option, subst}
use Rattle.list_laws.specs.Leasts.{IsLeast}
use Rattle.def_reader.specs.declared.design.ScanChainText.{ScanChainText}
use Rattle.stil_types.specs.declared.head.ScanChainDecl.{ScanChainDecl}
use Rattle.head_checks.specs.Heads.{FailsOn}
use Rattle.head_chains.specs.Chains.{is_undeclared}
use Rattle.head_chains.proofs.Firsts.{chain_first, chain_none}
use Rattle.head_chains.proofs.chains.check_chains.Goals as goal

-- what is said of two lists and their least line, said of their equals
moved : (chains blocks : List ScanChainDecl) (rows texts : List ScanChainText) (r s : Option ℕ) → chains ≡ blocks → rows ≡ texts → r ≡ s
    → IsLeast (FailsOn (is_undeclared chains) (λ c. c.line) rows) r → IsLeast (FailsOn (is_undeclared blocks) (λ c. c.line) texts) s
moved chains blocks rows texts r s e f g least =
    subst (λ (x : Option ℕ). IsLeast (FailsOn (is_undeclared blocks) (λ c. c.line) texts) x) g
    (subst (λ (x : List ScanChainText). IsLeast (FailsOn (is_undeclared blocks) (λ c. c.line) x) r) f
    (subst (λ (x : List ScanChainDecl). IsLeast (FailsOn (is_undeclared x) (λ c. c.line) rows) r) e least))

pub returns-in-Some-clause-fault : goal.returns-in-Some-clause-fault
returns-in-Some-clause-fault c =
    rw c.at_line.ensures.value
    (chain_first c.args.design.now c.args.head.now c.in-Some.line
    (moved _ _ _ _ _ _ c.as_slice.ensures.value c.as_slice-2.ensures.value c.in-Some.is c.least_undeclared.ensures.value))

pub returns-in-None-clause-no_fault : goal.returns-in-None-clause-no_fault
returns-in-None-clause-no_fault c =
    chain_none c.args.design.now c.args.head.now
    (moved _ _ _ _ _ _ c.as_slice.ensures.value c.as_slice-2.ensures.value c.in-None.is c.least_undeclared.ensures.value)
