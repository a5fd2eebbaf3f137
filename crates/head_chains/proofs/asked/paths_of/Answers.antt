use Rattle.std.proofs.Common.{◌≡◌, List, map, ap, ◌∙◌, subst, sym}
use Rattle.std.specs.Prelude.{option_map, OnOk}
use Rattle.std.proofs.lemmas.Result.{IfOk-weaker}
use Rattle.base_types.specs.declared.fault.Fault.{Fault}
use Rattle.base_types.specs.declared.fault.FileKind.{FileKind}
use Rattle.traced_paths.specs.Asked.{Asked, told}
use Rattle.traced_paths.specs.Traced.{ArePathsOf, HoldsInPaths}
use Rattle.head_chains.specs.Asked.{asked_by}
use Rattle.head_chains.proofs.asked.paths_of.Goals as goal

pub returns-clause-only : goal.returns-clause-only
returns-clause-only c =
    let n = c.args.netlist.now in
    let cells = c.args.table.now in
    let asked = asked_by (option_map (λ d. d.now) c.args.design) (option_map (λ h. h.now) c.args.head) in
    let same : map told c.as_slice.result.now ≡ asked = ap (map told) c.as_slice.ensures.value ∙ c.in_ok-asks.ensures.value in
    IfOk-weaker c.trace_asked.result _ _ (λ paths h other o. h other (subst (λ (l : List Asked). ArePathsOf n cells l other) (sym same) o)) c.trace_asked.ensures.only

pub returns-clause-no_fault : goal.returns-clause-no_fault
returns-clause-no_fault c =
    let n = c.args.netlist.now in
    let cells = c.args.table.now in
    let asked = asked_by (option_map (λ d. d.now) c.args.design) (option_map (λ h. h.now) c.args.head) in
    let same : map told c.as_slice.result.now ≡ asked = ap (map told) c.as_slice.ensures.value ∙ c.in_ok-asks.ensures.value in
    subst (λ (file : FileKind). OnOk c.trace_asked.result ((fault : Fault) → HoldsInPaths n cells file asked fault → ⊥)) c.file_of.ensures.value
    (subst (λ (l : List Asked). OnOk c.trace_asked.result ((fault : Fault) → HoldsInPaths n cells c.file_of.result l fault → ⊥)) same c.trace_asked.ensures.no_fault)
