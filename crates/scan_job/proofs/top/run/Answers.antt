use Rattle.scan_job.proofs.Asked.{asked}
use Rattle.scan_job.proofs.TopClauses as top
use Rattle.scan_job.proofs.Benching.{bench_done}
use Rattle.scan_job.proofs.top.run.Goals as goal

pub returns-clause-no_form : goal.returns-clause-no_form
returns-clause-no_form g c = top.no_form _ _ _ _ _ c.status_of.ensures.value c.run_words.ensures.ended

pub returns-clause-unopened : goal.returns-clause-unopened
returns-clause-unopened g c = top.unopened _ _ _ _ c.run_words.ensures.ended

pub returns-clause-asked : goal.returns-clause-asked
returns-clause-asked g c order says = let a = asked c.args.words.now order says in (a.request, a.order_is)

pub returns-clause-untouched : goal.returns-clause-untouched
returns-clause-untouched g c = top.untouched _ _ _ _ _ c.status_of.ensures.value c.run_words.ensures.ended

pub returns-clause-silent : goal.returns-clause-silent
returns-clause-silent g c = top.silent _ _ _ _ _ c.status_of.ensures.value c.run_words.ensures.ended

pub returns-clause-refusal : goal.returns-clause-refusal
returns-clause-refusal g c two request files says holds = top.refusal _ _ _ request says files holds _ _ c.status_of.ensures.value c.run_words.ensures.ended two

pub returns-clause-refuses : goal.returns-clause-refuses
returns-clause-refuses g c request files says holds = top.refuses _ _ _ request says files holds _ _ c.status_of.ensures.value c.run_words.ensures.ended

pub returns-clause-prefixes : goal.returns-clause-prefixes
returns-clause-prefixes g c request files says holds = top.prefixes _ _ _ request says files holds _ c.run_words.ensures.ended

pub returns-clause-complete : goal.returns-clause-complete
returns-clause-complete g c request files says holds = top.complete _ _ _ request says files holds _ _ c.status_of.ensures.value c.run_words.ensures.ended

pub returns-clause-bench : goal.returns-clause-bench
returns-clause-bench g c request says none = bench_done c.made_law.ensures.files c.made_law.ensures.patterns _ _ _ _ _ c.status_of.ensures.value c.run_words.ensures.ended request says none

pub returns-clause-done : goal.returns-clause-done
returns-clause-done g c zero request files says holds = top.all_done _ _ _ request says files holds _ _ c.status_of.ensures.value c.run_words.ensures.ended zero

pub returns-clause-slots : goal.returns-clause-slots
returns-clause-slots g c request says = top.unused _ _ _ request says _ c.run_words.ensures.ended

pub returns-clause-closed : goal.returns-clause-closed
returns-clause-closed g c zero request says = top.closed _ _ _ request says _ _ c.status_of.ensures.value c.run_words.ensures.ended zero

pub returns-clause-read : goal.returns-clause-read
returns-clause-read g c zero request says = top.read _ _ _ request says _ _ c.status_of.ensures.value c.run_words.ensures.ended zero

pub returns-clause-output_fault_answered : goal.returns-clause-output_fault_answered
returns-clause-output_fault_answered g c slot output rose = top.output_answered _ _ _ _ _ c.status_of.ensures.value c.run_words.ensures.ended slot output rose
