use Rattle.std.proofs.Common.{◌≡◌, ◌≤◌, ◌++◌, Bool, true, sym, ap, ◌∙◌, subst, take, arith}
use Rattle.std.specs.Bool.{OnTrue}
use Rattle.base_types.specs.declared.kind.Kind.TheVariants.{VerilogNumber}
use Rattle.verilog_syntax.specs.declared.reading.Placed.{Placed}
use Rattle.verilog_names.specs.Declarations.{declarations, declarations_in}
use Rattle.verilog_checks.specs.Faults.{bad_number, vector_bits}
use Rattle.verilog_checks.specs.Steps.{AreCounted, Counts}
use Rattle.verilog_checks.proofs.Passes.{passes, fails, passed}
use Rattle.verilog_checks.proofs.Counting.{bad_itself, bad_bits, no_bad, small_more}
use Rattle.verilog_checks.proofs.Firsts.{declarations_more}
use Rattle.verilog_checks.proofs.number.check_number.Goals.{then-has_bad_number-via-then-has_bad_number, then-has_bad_number-via-else-has_bad_number+in_ok-add_statement+then-not-branch}
use Rattle.verilog_checks.proofs.number.check_number.Goals as goal

pub returns-then-has_bad_number-clause-value : goal.returns-then-has_bad_number-clause-value
returns-then-has_bad_number-clause-value c =
    let ps = c.args.statements.now in
    let i = c.loop-placed.placed-index in
    let p = c.placed-item.result in
    let bad : bad_number (take i ps) p ≡ true = elim c.then-has_bad_number.branch [
      | then-has_bad_number-via-then-has_bad_number w ↦ bad_itself ps i p (sym w.if-has_bad_number.ensures.value)
      | then-has_bad_number-via-else-has_bad_number+in_ok-add_statement+then-not-branch w ↦
          let many = subst (λ (t : Bool). Counts t c.loop-placed.vectors w.add_statement.new.self (declarations_in p.statement)) w.if-not-branch.true w.in_ok-add_statement.ensures.counted in
          bad_bits ps i p (many (declarations (take i ps)) c.loop-placed.invariant.counted)
    ] in
    rw c.fault_at.ensures.value (fails bad_number VerilogNumber ps i p c.loop-placed-test.true c.placed-item.is bad c.loop-placed.invariant.same)

pub loop-placed-preserved : goal.loop-placed-preserved
loop-placed-preserved c =
    let ps = c.args.statements.now in
    let i = c.loop-placed.placed-index in
    let p = c.placed-item.result in
    let new = c.add_statement.new.self in
    let good = sym c.if-has_bad_number.ensures.value in
    let fits = subst (λ (t : Bool). Counts t c.loop-placed.vectors new (declarations_in p.statement)) c.if-not-branch.false c.in_ok-add_statement.ensures.counted in
    let counted = fits (declarations (take i ps)) c.loop-placed.invariant.counted in
    let room = subst (λ (t : Bool). OnTrue t (new.bits ≤ 16777216)) c.if-not-branch.false c.in_ok-add_statement.ensures.small in
    let few : vector_bits (declarations (take i ps) ++ declarations_in p.statement) ≤ 16777216 = let bits = counted.bits in omega (arith, bits, room) in
    record {
      same = passes bad_number VerilogNumber ps i p c.loop-placed-test.true c.placed-item.is (no_bad ps i p good few) c.loop-placed.invariant.same;
      small = small_more ps i p c.loop-placed-test.true c.placed-item.is good c.loop-placed.invariant.small;
      counted = subst (AreCounted new) (ap (λ (x : Placed). declarations (take i ps) ++ declarations_in x.statement) c.placed-item.is ∙ sym (declarations_more ps i p c.loop-placed-test.true)) counted;
      room = room;
    }

pub returns-clause-value : goal.returns-clause-value
returns-clause-value c = passed bad_number VerilogNumber c.args.statements.now c.loop-placed.placed-index c.loop-placed-test.false c.loop-placed.invariant.same
