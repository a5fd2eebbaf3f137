use Rattle.std.proofs.Common.{◌≡◌, ◌∙◌, ap, None, codes, length}
use Rattle.token_forms.specs.Tokens.{tokens_of}
use Rattle.stil_tokens.specs.StilTokens.{tokens_in}
use Rattle.stil_syntax.specs.Shapes.{body_statements}
use Rattle.stil_types.specs.declared.head.StilHead.{StilHead}
use Rattle.base_types.specs.FirstFault.{IsFirstFault}
use Rattle.base_types.specs.declared.fault.Fault.{Fault}
use Rattle.list_laws.specs.Leasts.{least_of}
use Rattle.stil_blocks.specs.Chains.{chains_of}
use Rattle.stil_blocks.specs.Callees.{callees_of}
use Rattle.stil_head.specs.Faults.{syntax_places, HoldsInText}
use Rattle.stil_head.specs.Heads.{IsHead, SaysAll, IsLeftFault}
use Rattle.stil_head.proofs.HeadFaults.{syntax_first}
use Rattle.stil_head.proofs.Texts.{syntax_is, chains_is, callees_is, left_first, says_head, says_none, if_fault_weaker, if_ok_weaker, on_ok_then}
use Rattle.stil_head.proofs.head.read_text.Goals as goal

pub returns-in-Some-clause-first : goal.returns-in-Some-clause-first
returns-in-Some-clause-first c =
    let text = c.args.text.now in
    let is : c.of-tokens.result ≡ tokens_in text = c.of-tokens.ensures.value ∙ ap (tokens_of text) (c.as_slice.ensures.value ∙ c.in_ok-spans.ensures.value) in
    rw c.fault_at.ensures.value (syntax_first text c.in-Some.place (syntax_is text c.of-tokens.result is c.of-lines.result c.in_ok-syntax.syntax c.of-lines.ensures.value c.in_ok-syntax.ensures.value ∙ c.in-Some.is))

pub returns-clause-value : goal.returns-clause-value
returns-clause-value c =
    let text = c.args.text.now in
    let ts = c.of-tokens.result in
    let cs = c.in_ok-chains.chains in
    let ps = c.in_ok-procedures.procedures in
    let ms = c.in_ok-macros.macros in
    let is : ts ≡ tokens_in text = c.of-tokens.ensures.value ∙ ap (tokens_of text) (c.as_slice.ensures.value ∙ c.in_ok-spans.ensures.value) in
    let none : least_of (syntax_places text) ≡ None = syntax_is text ts is c.of-lines.result c.in_ok-syntax.syntax c.of-lines.ensures.value c.in_ok-syntax.ensures.value ∙ c.in_default.is in
    let chains : cs ≡ chains_of text = chains_is text ts is c.of-lines-2.result cs c.of-lines-2.ensures.value c.in_ok-chains.ensures.value in
    let procedures : ps ≡ callees_of (codes "Procedures") text = callees_is text ts is (codes "Procedures") ps c.in_ok-procedures.ensures.value in
    let macros : ms ≡ callees_of (codes "MacroDefs") text = callees_is text ts is (codes "MacroDefs") ms c.in_ok-macros.ensures.value in
    if_ok_weaker c.head_of.result (SaysAll text cs ps ms (body_statements ts)) (IsHead text) (λ (h : StilHead) s. says_head text ts is cs ps ms chains procedures macros none h s) c.head_of.ensures.value

pub returns-clause-end : goal.returns-clause-end
returns-clause-end c =
    if_ok_weaker c.head_of.result (SaysAll c.args.text.now c.in_ok-chains.chains c.in_ok-procedures.procedures c.in_ok-macros.macros (body_statements c.of-tokens.result)) (λ (h : StilHead). h.end ≡ length c.args.text.now) (λ (h : StilHead) s. s.end) c.head_of.ensures.value

pub returns-clause-first : goal.returns-clause-first
returns-clause-first c =
    let text = c.args.text.now in
    let ts = c.of-tokens.result in
    let cs = c.in_ok-chains.chains in
    let ps = c.in_ok-procedures.procedures in
    let ms = c.in_ok-macros.macros in
    let is : ts ≡ tokens_in text = c.of-tokens.ensures.value ∙ ap (tokens_of text) (c.as_slice.ensures.value ∙ c.in_ok-spans.ensures.value) in
    let none : least_of (syntax_places text) ≡ None = syntax_is text ts is c.of-lines.result c.in_ok-syntax.syntax c.of-lines.ensures.value c.in_ok-syntax.ensures.value ∙ c.in_default.is in
    let chains : cs ≡ chains_of text = chains_is text ts is c.of-lines-2.result cs c.of-lines-2.ensures.value c.in_ok-chains.ensures.value in
    let procedures : ps ≡ callees_of (codes "Procedures") text = callees_is text ts is (codes "Procedures") ps c.in_ok-procedures.ensures.value in
    let macros : ms ≡ callees_of (codes "MacroDefs") text = callees_is text ts is (codes "MacroDefs") ms c.in_ok-macros.ensures.value in
    if_fault_weaker c.head_of.result (IsLeftFault text cs ps ms (body_statements ts)) (IsFirstFault (HoldsInText text)) (λ (f : Fault) s. left_first text ts is cs ps ms chains procedures macros none f s) c.head_of.ensures.fault

pub returns-clause-no_fault : goal.returns-clause-no_fault
returns-clause-no_fault c =
    let text = c.args.text.now in
    let ts = c.of-tokens.result in
    let cs = c.in_ok-chains.chains in
    let ps = c.in_ok-procedures.procedures in
    let ms = c.in_ok-macros.macros in
    let is : ts ≡ tokens_in text = c.of-tokens.ensures.value ∙ ap (tokens_of text) (c.as_slice.ensures.value ∙ c.in_ok-spans.ensures.value) in
    let none : least_of (syntax_places text) ≡ None = syntax_is text ts is c.of-lines.result c.in_ok-syntax.syntax c.of-lines.ensures.value c.in_ok-syntax.ensures.value ∙ c.in_default.is in
    let chains : cs ≡ chains_of text = chains_is text ts is c.of-lines-2.result cs c.of-lines-2.ensures.value c.in_ok-chains.ensures.value in
    let procedures : ps ≡ callees_of (codes "Procedures") text = callees_is text ts is (codes "Procedures") ps c.in_ok-procedures.ensures.value in
    let macros : ms ≡ callees_of (codes "MacroDefs") text = callees_is text ts is (codes "MacroDefs") ms c.in_ok-macros.ensures.value in
    on_ok_then c.head_of.result (SaysAll text cs ps ms (body_statements ts)) ((fault : Fault) → HoldsInText text fault → ⊥) (λ (h : StilHead) s. says_none text ts is cs ps ms chains procedures macros none h s) c.head_of.ensures.value
