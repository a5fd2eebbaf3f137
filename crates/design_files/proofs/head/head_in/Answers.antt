use Rattle.std.proofs.Common.{◌≡◌, ℕ, List, Option, Some, option_map, sym, ap, ◌∙◌, subst}
use Rattle.std.specs.Borrow.{Bor}
use Rattle.std.proofs.lemmas.Result.{err_from_is_err_and}
use Rattle.base_types.specs.FirstFault.{IsFirstFault}
use Rattle.stil_types.specs.declared.head.StilHead.{StilHead}
use Rattle.stil_head.specs.Faults.{HoldsInHead}
use Rattle.design_files.specs.Files.{Texts}
use Rattle.design_files.specs.Faults.{IsFilesFault}
use Rattle.design_files.specs.Stages.{AreKnown, IsHeadKnown}
use Rattle.design_files.proofs.Heads.{known_some}
use Rattle.design_files.proofs.Known.{carried, first_head, first_declared}
use Rattle.design_files.proofs.head.head_in.Goals as goal

abbrev bytes_of : Option (Bor (List ℕ)) → Option (List ℕ)
bytes_of text = option_map (λ bytes. bytes.now) text

pub returns-in_err-head-clause-fault : goal.returns-in_err-head-clause-fault
returns-in_err-head-clause-fault c =
    let p = err_from_is_err_and c.from_residual.result c.from_residual.ensures.1 in
    let f = c.args.files.now in
    let text = c.in-Some.text.now in
    rw (p.1, p.2)
    (carried StilHead (Option StilHead) c.in_err-head.field-0.0 (IsFirstFault (HoldsInHead text)) (λ x. (t : Texts) → t.head ≡ bytes_of c.args.text → AreKnown t f.table f.macros f.netlist f.design → IsFilesFault t x)
    (λ x w t is known. first_head t f.table f.macros f.netlist f.design known c.requires.agreed.no_element c.requires.agreed.no_difference text (is ∙ ap bytes_of c.in-Some.is) x w) c.in_err-head.ensures.first)

pub returns-in-Err-clause-fault : goal.returns-in-Err-clause-fault
returns-in-Err-clause-fault c = λ t is known.
    let f = c.args.files.now in
    let text = c.in-Some.text.now in
    let head = c.in_ok-head.head in
    let found : IsHeadKnown t.head (Some head) =
    subst (λ (o : Option (List ℕ)). IsHeadKnown o (Some head)) (sym (is ∙ ap bytes_of c.in-Some.is)) (known_some text head c.in_ok-head.ensures.value c.in_ok-head.ensures.only c.in_ok-head.ensures.no_fault) in
    first_declared t f.table f.macros f.netlist f.design known c.requires.agreed (Some head) found c.in-Err.fault c.in-Err.ensures.fault

pub returns-in-Ok-clause-known : goal.returns-in-Ok-clause-known
returns-in-Ok-clause-known c =
    subst (λ (o : Option (List ℕ)). IsHeadKnown o (Some c.in_ok-head.head)) (sym (ap bytes_of c.in-Some.is))
    (known_some c.in-Some.text.now c.in_ok-head.head c.in_ok-head.ensures.value c.in_ok-head.ensures.only c.in_ok-head.ensures.no_fault)
