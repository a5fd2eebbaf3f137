use Rattle.std.proofs.Common.{◌∙◌, ap, arith, List}
use Rattle.std.specs.List.{list_any}
use Rattle.stil_syntax.specs.Shapes.{body_statements}
use Rattle.stil_blocks.specs.declared.chain.ReadChain.{ReadChain}
use Rattle.stil_head.specs.Heads.{Again, Left}
use Rattle.stil_head.proofs.LeftFaults.{twice_by, left_by}
use Rattle.stil_head.proofs.head.head_of.Goals as goal

pub returns-in-Some-clause-fault : goal.returns-in-Some-clause-fault
returns-in-Some-clause-fault c =
    let again =
    twice_by c.args.chains c.as_slice.result.now c.args.procedures c.as_slice-2.result.now c.args.macros c.as_slice-3.result.now c.in_ok-twice.twice c.as_slice.ensures.value c.as_slice-2.ensures.value c.as_slice-3.ensures.value c.in_ok-twice.ensures.value
    ∙ c.in-Some.is in
    rw c.fault_at.ensures.value (Again c.in-Some.place again)

pub returns-in-Some-barred-clause-fault : goal.returns-in-Some-barred-clause-fault
returns-in-Some-barred-clause-fault c =
    let once =
    twice_by c.args.chains c.as_slice.result.now c.args.procedures c.as_slice-2.result.now c.args.macros c.as_slice-3.result.now c.in_ok-twice.twice c.as_slice.ensures.value c.as_slice-2.ensures.value c.as_slice-3.ensures.value c.in_ok-twice.ensures.value
    ∙ c.in_default.is in
    let left =
    left_by (body_statements c.args.tokens.now) c.args.chains c.as_slice-4.result.now c.args.procedures c.as_slice-5.result.now c.args.macros c.as_slice-6.result.now c.in_ok-barred.barred c.as_slice-4.ensures.value c.as_slice-5.ensures.value c.as_slice-6.ensures.value c.in_ok-barred.ensures.value
    ∙ c.in-Some-barred.is in
    rw c.fault_at-in-Some-barred.ensures.value (Left c.in-Some-barred.place once left)

pub returns-clause-value : goal.returns-clause-value
returns-clause-value c =
    record {
      no_twice =
          twice_by c.args.chains c.as_slice.result.now c.args.procedures c.as_slice-2.result.now c.args.macros c.as_slice-3.result.now c.in_ok-twice.twice c.as_slice.ensures.value c.as_slice-2.ensures.value c.as_slice-3.ensures.value c.in_ok-twice.ensures.value
          ∙ c.in_default.is;
      no_unsupported =
          left_by (body_statements c.args.tokens.now) c.args.chains c.as_slice-4.result.now c.args.procedures c.as_slice-5.result.now c.args.macros c.as_slice-6.result.now c.in_ok-barred.barred c.as_slice-4.ensures.value c.as_slice-5.ensures.value c.as_slice-6.ensures.value c.in_ok-barred.ensures.value
          ∙ c.in_default-barred.is;
      chains_are = c.in_ok-decls_of.ensures.value;
      procedures_are = c.in_ok-callees_in.ensures.value;
      macros_are = c.in_ok-callees_in-2.ensures.value;
      keywords = c.in_ok-keywords_in.ensures.value;
      marks = c.any_marks-marks.ensures.value ∙ ap (λ (l : List ReadChain). list_any (λ c. c.marks) l) c.as_slice-7.ensures.value;
      end = omega (arith, c.requires.size);
    }
