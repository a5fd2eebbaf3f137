use Rattle.std.proofs.Common.{List, subst, OnOk}
use Rattle.base_types.specs.declared.fault.Fault.{Fault}
use Rattle.chain_trace.specs.declared.path.Path.{Path}
use Rattle.design_places.specs.Ends.{HoldsInPlaces}
use Rattle.design_files.proofs.ruled.places_of.Goals as goal

pub returns-clause-no_fault : goal.returns-clause-no_fault
returns-clause-no_fault c =
    let f = c.args.files.now in
    subst (λ (ps : List Path). OnOk c.check_places.result ((fault : Fault) → HoldsInPlaces f.netlist f.macros f.design ps fault → ⊥)) c.deref.ensures.value c.check_places.ensures.no_fault
