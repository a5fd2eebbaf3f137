use Rattle.std.proofs.Common.{◌≡◌, List, map, ap, ◌∙◌, subst, sym}
use Rattle.std.specs.Prelude.{OnOk}
use Rattle.std.proofs.lemmas.Result.{IfOk-weaker}
use Rattle.base_types.specs.declared.fault.Fault.{Fault}
use Rattle.base_types.specs.declared.fault.FileKind.TheVariants.{Stil}
use Rattle.traced_paths.specs.Asked.{Asked, told}
use Rattle.traced_paths.specs.Traced.{ArePathsOf, HoldsInPaths}
use Rattle.head_checks.specs.Asked.{asked_by_head}
use Rattle.head_checks.proofs.asked.head_paths.Goals as goal

pub returns-clause-only : goal.returns-clause-only
returns-clause-only c =
    let n = c.args.netlist.now in
    let cells = c.args.table.now in
    let asked = asked_by_head c.args.head.now in
    let same : map told c.as_slice.result.now ≡ asked = ap (map told) c.as_slice.ensures.value ∙ c.in_ok-asks.ensures.value in
    IfOk-weaker c.trace_asked.result _ _ (λ paths h other o. h other (subst (λ (l : List Asked). ArePathsOf n cells l other) (sym same) o)) c.trace_asked.ensures.only

pub returns-clause-no_fault : goal.returns-clause-no_fault
returns-clause-no_fault c =
    let n = c.args.netlist.now in
    let cells = c.args.table.now in
    let asked = asked_by_head c.args.head.now in
    let same : map told c.as_slice.result.now ≡ asked = ap (map told) c.as_slice.ensures.value ∙ c.in_ok-asks.ensures.value in
    subst (λ (l : List Asked). OnOk c.trace_asked.result ((fault : Fault) → HoldsInPaths n cells Stil l fault → ⊥)) same c.trace_asked.ensures.no_fault
