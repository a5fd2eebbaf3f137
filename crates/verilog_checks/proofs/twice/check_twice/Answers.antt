use Rattle.std.proofs.Common.{◌++◌, ◌∷◌, [], List, take, refl, sym, ap, ◌∙◌, subst}
use Rattle.std.proofs.lemmas.List.{take_more, take_all}
use Rattle.base_types.specs.declared.kind.Kind.TheVariants.{VerilogTwice}
use Rattle.verilog_syntax.specs.declared.reading.Placed.{Placed}
use Rattle.verilog_names.specs.Declarations.{declarations}
use Rattle.verilog_checks.specs.Checks.{bad_twice}
use Rattle.verilog_names.specs.NameTables.{firsts_of}
use Rattle.verilog_checks.specs.Seen.{IsSeen}
use Rattle.verilog_checks.proofs.Passes.{passes, fails, passed}
use Rattle.verilog_checks.proofs.SeenMore.{small_front}
use Rattle.verilog_checks.proofs.twice.check_twice.Goals as goal

pub loop-placed-init : goal.loop-placed-init
loop-placed-init c = record { same = refl; seen = c.in_ok-seen.ensures.value c.args.statements.now }

pub returns-then-branch : goal.returns-then-branch
returns-then-branch c =
    let ps = c.args.statements.now in
    let i = c.loop-placed.placed-index in
    let p = c.placed-item.result in
    let tells = c.in_ok-is_bad.ensures.value ps (take i ps) p refl c.in_ok-closed.ensures.value (small_front i ps c.requires.small) c.loop-placed.invariant.seen in
    record { passed = tt; names = tt; refused = rw c.fault_at.ensures.value (fails (bad_twice ps) VerilogTwice ps i p c.loop-placed-test.true c.placed-item.is (sym tells.is ∙ c.if-branch.true) c.loop-placed.invariant.same) }

pub loop-placed-preserved : goal.loop-placed-preserved
loop-placed-preserved c =
    let ps = c.args.statements.now in
    let i = c.loop-placed.placed-index in
    let p = c.placed-item.result in
    let tells = c.in_ok-is_bad.ensures.value ps (take i ps) p refl c.in_ok-closed.ensures.value (small_front i ps c.requires.small) c.loop-placed.invariant.seen in
    record {
      same = passes (bad_twice ps) VerilogTwice ps i p c.loop-placed-test.true c.placed-item.is (sym tells.is ∙ c.if-branch.false) c.loop-placed.invariant.same;
      seen = subst (λ (front : List Placed). IsSeen ps front c.is_bad.new.self) (ap (λ (x : Placed). take i ps ++ x ∷ []) c.placed-item.is ∙ sym (take_more ps i p c.loop-placed-test.true)) (tells.kept c.if-branch.false);
    }

pub returns : goal.returns
returns c =
    let ps = c.args.statements.now in
    let i = c.loop-placed.placed-index in
    record {
      passed = passed (bad_twice ps) VerilogTwice ps i c.loop-placed-test.false c.loop-placed.invariant.same;
      refused = tt;
      names = c.loop-placed.invariant.seen.known.keeps ∙ ap (λ (l : List Placed). firsts_of (declarations l)) (take_all i ps c.loop-placed-test.false);
    }
