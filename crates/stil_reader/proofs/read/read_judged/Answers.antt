use Rattle.std.proofs.Common.{◌≡◌, sym, subst}
use Rattle.stil_types.specs.declared.head.StilHead.{StilHead}
use Rattle.stil_calls.specs.declared.judging.Judging.TheVariants.{Lengths}
use Rattle.base_types.specs.declared.fault.Fault.{Fault}
use Rattle.base_types.specs.FirstFault.{IsFirstFault}
use Rattle.base_types.proofs.FirstFaults.{fault_weaker}
use Rattle.stil_head.proofs.Texts.{if_ok_weaker, on_ok_then}
use Rattle.stil_reader.specs.declared.stil.Judged.{Judged}
use Rattle.stil_reader.specs.Patterns.{IsJudged, MakesUp, HoldsBehind}
use Rattle.stil_reader.specs.Reading.{IsReadBy}
use Rattle.stil_reader.proofs.Heads.{head_within, no_head_fault}
use Rattle.stil_reader.proofs.Only.{only_judged, first_behind, no_fault_behind, is_judged, makes_up}
use Rattle.stil_reader.proofs.read.read_judged.Goals as goal

pub read_patterns-requires-clause-within : goal.read_patterns-requires-clause-within
read_patterns-requires-clause-within c = head_within c.args.bytes.now c.in-Ok.own c.in-Ok.ensures.value

pub unreachable-requires : goal.unreachable-requires
unreachable-requires c =
    no_head_fault c.args.bytes.now c.args.head.now c.requires.denoted c.in-Err-Fault._fault (rw c.in-Err-Fault.field-0-is at c.in-Err-Fault.ensures.first).holds

pub returns-in-Ok-clause-only : goal.returns-in-Ok-clause-only
returns-in-Ok-clause-only c =
    let bytes = c.args.bytes.now in
    let head = c.args.head.now in
    let same = c.in-Ok.ensures.only head c.requires.denoted in
    if_ok_weaker c.read_patterns.result (IsReadBy Lengths bytes c.in-Ok.own) (λ (judged : Judged). (other : Judged) → IsJudged bytes head other → other ≡ judged)
    (λ (judged : Judged) r. only_judged bytes head judged (subst (λ (h : StilHead). IsReadBy Lengths bytes h judged) (sym same) r)) c.read_patterns.ensures.value

pub returns-in-Ok-clause-first : goal.returns-in-Ok-clause-first
returns-in-Ok-clause-first c =
    let bytes = c.args.bytes.now in
    let head = c.args.head.now in
    let same = c.in-Ok.ensures.only head c.requires.denoted in
    fault_weaker c.read_patterns.result (HoldsBehind Lengths bytes c.in-Ok.own) (IsFirstFault (HoldsBehind Lengths bytes head))
    (λ fault h. first_behind Lengths bytes head fault (subst (λ (x : StilHead). HoldsBehind Lengths bytes x fault) (sym same) h)) c.read_patterns.ensures.first

pub returns-in-Ok-clause-value : goal.returns-in-Ok-clause-value
returns-in-Ok-clause-value c =
    let bytes = c.args.bytes.now in
    let head = c.args.head.now in
    let same = c.in-Ok.ensures.only head c.requires.denoted in
    if_ok_weaker c.read_patterns.result (IsReadBy Lengths bytes c.in-Ok.own) (IsJudged bytes head)
    (λ (judged : Judged) r. is_judged bytes head judged (subst (λ (h : StilHead). IsReadBy Lengths bytes h judged) (sym same) r)) c.read_patterns.ensures.value

pub returns-in-Ok-clause-whole : goal.returns-in-Ok-clause-whole
returns-in-Ok-clause-whole c =
    let bytes = c.args.bytes.now in
    let head = c.args.head.now in
    let same = c.in-Ok.ensures.only head c.requires.denoted in
    if_ok_weaker c.read_patterns.result (IsReadBy Lengths bytes c.in-Ok.own) (MakesUp bytes head)
    (λ (judged : Judged) r. makes_up bytes head judged (subst (λ (h : StilHead). IsReadBy Lengths bytes h judged) (sym same) r)) c.read_patterns.ensures.value

pub returns-in-Ok-clause-no_fault : goal.returns-in-Ok-clause-no_fault
returns-in-Ok-clause-no_fault c =
    let bytes = c.args.bytes.now in
    let head = c.args.head.now in
    let same = c.in-Ok.ensures.only head c.requires.denoted in
    on_ok_then c.read_patterns.result (IsReadBy Lengths bytes c.in-Ok.own) ((fault : Fault) → HoldsBehind Lengths bytes head fault → ⊥)
    (λ (judged : Judged) r fault h. no_fault_behind Lengths bytes head judged (subst (λ (h : StilHead). IsReadBy Lengths bytes h judged) (sym same) r) fault h) c.read_patterns.ensures.value
