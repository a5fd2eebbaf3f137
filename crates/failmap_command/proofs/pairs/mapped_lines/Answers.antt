use Rattle.std.proofs.Common.{List, ap, ◌∙◌}
use Rattle.std.proofs.lemmas.Result.{IfOk-weaker, on_ok_weaker}
use Rattle.base_types.specs.declared.fault.Fault.{Fault}
use Rattle.base_types.specs.FirstFault.{IsFirstFault}
use Rattle.base_types.proofs.FirstFaults.{fault_weaker}
use Rattle.stil_types.specs.declared.head.StilHead.{StilHead}
use Rattle.stil_types.specs.declared.statement.PatternStatement.{PatternStatement}
use Rattle.stil_reader.specs.Cursors.{ahead_of}
use Rattle.stil_tester.specs.declared.chains.Chains.{Chains}
use Rattle.same_files.specs.Sets.{meant_by}
use Rattle.fail_map.specs.declared.line.LogLine.{LogLine}
use Rattle.fail_map.specs.Mapped.{HoldsInLines, IsMappedLog}
use Rattle.fail_map.specs.Progress.{played, AreMappedSoFar}
use Rattle.failmap_command.proofs.ReadPairs.{pairs_alike, pairs_show_same, mapped_by_sets}
use Rattle.failmap_command.proofs.pairs.mapped_lines.Goals as goal

pub pass_pairs-requires-clause-alike : goal.pass_pairs-requires-clause-alike
pass_pairs-requires-clause-alike c =
    let old = c.args.old.now in
    let new = c.args.new.now in
    let stil = c.args.stil.now in
    let other = c.args.new_stil.now in
    let one = ap (λ (m : Chains × Chains). m.0) c.in_ok-map.ensures.value ∙ c.chains.ensures.value in
    let two = ap (λ (m : Chains × Chains). m.1) c.in_ok-map.ensures.value ∙ c.chains-2.ensures.value in
    let first = c.behind_head-first.ensures.value ∙ ap (λ (h : StilHead). ahead_of h stil) c.head.ensures.value in
    let second = c.behind_head-second.ensures.value ∙ ap (λ (h : StilHead). ahead_of h other) c.head-2.ensures.value in
    pairs_alike old stil new other c.requires.old_patterns c.requires.new_patterns c.requires.same c.in_ok-map.map.0 c.in_ok-map.map.1 one two c.behind_head-first.result
    c.behind_head-second.result first second

pub pass_pairs-requires-clause-show_same : goal.pass_pairs-requires-clause-show_same
pass_pairs-requires-clause-show_same c =
    let old = c.args.old.now in
    let new = c.args.new.now in
    let stil = c.args.stil.now in
    let other = c.args.new_stil.now in
    let one = ap (λ (m : Chains × Chains). m.0) c.in_ok-map.ensures.value ∙ c.chains.ensures.value in
    let two = ap (λ (m : Chains × Chains). m.1) c.in_ok-map.ensures.value ∙ c.chains-2.ensures.value in
    let first = c.behind_head-first.ensures.value ∙ ap (λ (h : StilHead). ahead_of h stil) c.head.ensures.value in
    let second = c.behind_head-second.ensures.value ∙ ap (λ (h : StilHead). ahead_of h other) c.head-2.ensures.value in
    pairs_show_same old stil new other c.requires.old_patterns c.requires.new_patterns c.requires.same c.in_ok-map.map.0 c.in_ok-map.map.1 one two c.behind_head-first.result
    c.behind_head-second.result first second

pub returns-clause-value : goal.returns-clause-value
returns-clause-value c =
    let old = c.args.old.now in
    let new = c.args.new.now in
    let stil = c.args.stil.now in
    let other = c.args.new_stil.now in
    let one = ap (λ (m : Chains × Chains). m.0) c.in_ok-map.ensures.value ∙ c.chains.ensures.value in
    let two = ap (λ (m : Chains × Chains). m.1) c.in_ok-map.ensures.value ∙ c.chains-2.ensures.value in
    let first = c.behind_head-first.ensures.value ∙ ap (λ (h : StilHead). ahead_of h stil) c.head.ensures.value in
    let second = c.behind_head-second.ensures.value ∙ ap (λ (h : StilHead). ahead_of h other) c.head-2.ensures.value in
    let lines = c.args.lines.now in
    let state =
    mapped_by_sets old stil new other c.requires.old_patterns c.requires.new_patterns c.requires.same c.in_ok-map.map.0 c.in_ok-map.map.1 one two c.behind_head-first.result
    c.behind_head-second.result first second lines c.in_ok-mapping.mapping c.pass_pairs.new.mapping c.in_ok-mapping.ensures.begun c.in_ok-pass_pairs.ensures.passed in
    IfOk-weaker c.finish.result _ (λ mapped. IsMappedLog (meant_by old stil).played (meant_by new other).played lines mapped.items)
    (λ mapped h. h old.chains new.chains (meant_by old stil).played.statements (meant_by new other).played.statements lines state) c.finish.ensures.mapped

pub returns-clause-fault : goal.returns-clause-fault
returns-clause-fault c =
    let old = c.args.old.now in
    let new = c.args.new.now in
    let stil = c.args.stil.now in
    let other = c.args.new_stil.now in
    let one = ap (λ (m : Chains × Chains). m.0) c.in_ok-map.ensures.value ∙ c.chains.ensures.value in
    let two = ap (λ (m : Chains × Chains). m.1) c.in_ok-map.ensures.value ∙ c.chains-2.ensures.value in
    let first = c.behind_head-first.ensures.value ∙ ap (λ (h : StilHead). ahead_of h stil) c.head.ensures.value in
    let second = c.behind_head-second.ensures.value ∙ ap (λ (h : StilHead). ahead_of h other) c.head-2.ensures.value in
    let lines = c.args.lines.now in
    let state =
    mapped_by_sets old stil new other c.requires.old_patterns c.requires.new_patterns c.requires.same c.in_ok-map.map.0 c.in_ok-map.map.1 one two c.behind_head-first.result
    c.behind_head-second.result first second lines c.in_ok-mapping.mapping c.pass_pairs.new.mapping c.in_ok-mapping.ensures.begun c.in_ok-pass_pairs.ensures.passed in
    fault_weaker c.finish.result _ (IsFirstFault (HoldsInLines (meant_by new other).played lines))
    (λ fault h. h old.chains new.chains (meant_by old stil).played.statements (meant_by new other).played.statements lines state) c.finish.ensures.fault

pub returns-clause-no_fault : goal.returns-clause-no_fault
returns-clause-no_fault c =
    let old = c.args.old.now in
    let new = c.args.new.now in
    let stil = c.args.stil.now in
    let other = c.args.new_stil.now in
    let one = ap (λ (m : Chains × Chains). m.0) c.in_ok-map.ensures.value ∙ c.chains.ensures.value in
    let two = ap (λ (m : Chains × Chains). m.1) c.in_ok-map.ensures.value ∙ c.chains-2.ensures.value in
    let first = c.behind_head-first.ensures.value ∙ ap (λ (h : StilHead). ahead_of h stil) c.head.ensures.value in
    let second = c.behind_head-second.ensures.value ∙ ap (λ (h : StilHead). ahead_of h other) c.head-2.ensures.value in
    let lines = c.args.lines.now in
    let state =
    mapped_by_sets old stil new other c.requires.old_patterns c.requires.new_patterns c.requires.same c.in_ok-map.map.0 c.in_ok-map.map.1 one two c.behind_head-first.result
    c.behind_head-second.result first second lines c.in_ok-mapping.mapping c.pass_pairs.new.mapping c.in_ok-mapping.ensures.begun c.in_ok-pass_pairs.ensures.passed in
    on_ok_weaker c.finish.result
    (λ (h : (chains others : Chains) (a b : List PatternStatement) (log : List LogLine) → AreMappedSoFar chains others a b log c.pass_pairs.new.mapping → (fault : Fault) → HoldsInLines (played others b) log fault → ⊥).
    h old.chains new.chains (meant_by old stil).played.statements (meant_by new other).played.statements lines state) c.finish.ensures.no_fault
