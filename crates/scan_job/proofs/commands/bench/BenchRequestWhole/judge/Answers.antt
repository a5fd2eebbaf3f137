use Rattle.std.proofs.Common.{arith}
use Rattle.std.proofs.lemmas.Result.{err_from_is_err_and}
use Rattle.scan_job.proofs.BenchLaws.{one_number, refused_made, none_made, benched}
use Rattle.scan_job.proofs.commands.bench.BenchRequestWhole.judge.Goals as goal

pub number_of-requires : goal.number_of-requires
number_of-requires g c =
    let units = c.requires.sound in
    let few = units.most in
    record { said = (units.number, omega (arith, few), units.is) }

pub make_design-requires : goal.make_design-requires
make_design-requires g c =
    let units = c.requires.sound in
    let number = one_number c.args.self.now.units c.number_of.result (omega arith) c.number_of.ensures.value units in
    let fewest = units.fewest in
    let most = units.most in
    record { fewest = omega (arith, number, fewest); most = omega (arith, number, most) }

pub returns-in_err-said-clause-fault : goal.returns-in_err-said-clause-fault
returns-in_err-said-clause-fault g c =
    let p = err_from_is_err_and c.from_residual-in_err-said.result c.from_residual-in_err-said.ensures.1 in
    rw (p.1, p.2)
    (refused_made c.args.self.now.units c.requires.sound c.in_ok-files.files c.number_of.result (omega arith) c.number_of.ensures.value c.in_ok-files.ensures.files c.in_err-said.field-0.0 c.in_err-said.ensures.fault)

pub returns-clause-no_fault : goal.returns-clause-no_fault
returns-clause-no_fault g c = none_made c.args.self.now.units c.requires.sound c.in_ok-files.files c.number_of.result (omega arith) c.number_of.ensures.value c.in_ok-files.ensures.files c.in_ok-said.ensures.no_fault

pub returns-clause-texts : goal.returns-clause-texts
returns-clause-texts g c =
    rw c.saying.ensures.value
    (benched c.args.self.now.units c.requires.sound c.in_ok-files.files c.number_of.result (omega arith) c.number_of.ensures.value c.in_ok-files.ensures.files c.in_ok-said.said c.in_ok-console.console c.in_ok-said.ensures.said c.in_ok-console.ensures.value)
