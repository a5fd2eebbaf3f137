use Rattle.std.proofs.Common.{◌≡◌, ℕ, List, take, length, subst}
use Rattle.std.specs.Prelude.{OnOk}
use Rattle.base_types.specs.FirstFault.{IsFirstFault}
use Rattle.base_types.specs.declared.fault.Fault.{Fault}
use Rattle.stil_types.specs.declared.head.StilHead.{StilHead}
use Rattle.stil_head.specs.Faults.{HoldsInText, HoldsInHead}
use Rattle.stil_head.specs.Heads.{IsHead, DenotesHead}
use Rattle.stil_parts.specs.ByTokens.{head_place}
use Rattle.stil_head.proofs.HeadWalk.{placed}
use Rattle.stil_head.proofs.Texts.{text_is, denoted_by, only_head, if_fault_weaker, if_ok_both}
use Rattle.stil_head.proofs.head.read_head.Goals as goal

pub returns-clause-value : goal.returns-clause-value
returns-clause-value c =
    if_ok_both c.read_text.result (IsHead (take c.head_len-end.result c.args.bytes.now)) (λ (h : StilHead). h.end ≡ length (take c.head_len-end.result c.args.bytes.now)) (DenotesHead c.args.bytes.now)
    (λ (h : StilHead) s e. denoted_by c.args.bytes.now c.head_len-end.result h c.head_len-end.ensures.value c.head_len-end.ensures.within s e) c.read_text.ensures.value c.read_text.ensures.end

pub returns-clause-ends : goal.returns-clause-ends
returns-clause-ends c =
    if_ok_both c.read_text.result (IsHead (take c.head_len-end.result c.args.bytes.now)) (λ (h : StilHead). h.end ≡ length (take c.head_len-end.result c.args.bytes.now)) (λ (h : StilHead). h.end ≡ head_place c.args.bytes.now)
    (λ (h : StilHead) s e. let d = denoted_by c.args.bytes.now c.head_len-end.result h c.head_len-end.ensures.value c.head_len-end.ensures.within s e in placed c.args.bytes.now h.end d.ends) c.read_text.ensures.value c.read_text.ensures.end

pub returns-clause-only : goal.returns-clause-only
returns-clause-only c =
    if_ok_both c.read_text.result (IsHead (take c.head_len-end.result c.args.bytes.now)) (λ (h : StilHead). h.end ≡ length (take c.head_len-end.result c.args.bytes.now)) (λ (h : StilHead). (other : StilHead) → DenotesHead c.args.bytes.now other → other ≡ h)
    (λ (h : StilHead) s e other d. only_head c.args.bytes.now h other (denoted_by c.args.bytes.now c.head_len-end.result h c.head_len-end.ensures.value c.head_len-end.ensures.within s e) d) c.read_text.ensures.value c.read_text.ensures.end

pub returns-clause-first : goal.returns-clause-first
returns-clause-first c =
    if_fault_weaker c.read_text.result (IsFirstFault (HoldsInText (take c.head_len-end.result c.args.bytes.now))) (IsFirstFault (HoldsInHead c.args.bytes.now))
    (λ (f : Fault) s. subst (λ (t : List ℕ). IsFirstFault (HoldsInText t) f) (text_is c.args.bytes.now c.head_len-end.result c.head_len-end.ensures.value) s) c.read_text.ensures.first

pub returns-clause-no_fault : goal.returns-clause-no_fault
returns-clause-no_fault c =
    subst (λ (t : List ℕ). OnOk c.read_text.result ((fault : Fault) → HoldsInText t fault → ⊥)) (text_is c.args.bytes.now c.head_len-end.result c.head_len-end.ensures.value) c.read_text.ensures.no_fault
