use Rattle.std.proofs.Common.{◌≡◌, ℕ, List, None, Result, Ok, Err, inr, refl, sym, ◌∙◌, subst}
use Rattle.scan_words.specs.declared.order.Order.{Order}
use Rattle.scan_words.specs.Orders.{order_in}
use Rattle.scan_words.specs.Written.{Says}
use Rattle.scan_job.specs.declared.stop.Stop.{Stop}
use Rattle.scan_job.specs.declared.stop.Stop.TheVariants.{NoForm, Refused, InputFailed, OutputFailed, NoMemory}
use Rattle.scan_job.specs.Requests.{Request, Asks, order_of}
use Rattle.scan_job.specs.TopCall.{Slots}
use Rattle.scan_job.specs.Ended.{HasEnded, HasRunOrder, HasRun}
use Rattle.scan_job.proofs.Asked.{asked}
use Rattle.scan_job.proofs.top.run_words.Goals as goal

asks : (words : List (List ℕ)) (order : Order) (request : Request) → Says words order → order_of request ≡ order → Asks words request
asks words order request says is = subst (Says words) (sym is) says

has_run : (words : List (List ℕ)) (request : Request) (old new : Slots) (result : Result (Unit {0}) Stop)
    → Asks words request → HasEnded request old new result → HasRun words old new result
has_run words request old new (Ok done) asks is = (request, asks, is)
has_run words request old new (Err NoForm) asks is = absurd is
has_run words request old new (Err Refused) asks is = (request, asks, is)
has_run words request old new (Err InputFailed) asks is = (request, asks, is)
has_run words request old new (Err OutputFailed) asks is = (request, asks, is)
has_run words request old new (Err NoMemory) asks is = inr (request, asks, is)

order_run : (words : List (List ℕ)) (order : Order) (old new : Slots) (result : Result (Unit {0}) Stop)
    → Says words order → HasRunOrder order old new result → HasRun words old new result
order_run words order old new result says run = has_run words run.request old new result (asks words order run.request says run.is) run.ended

pub run_order-requires-clause-asked : goal.run_order-requires-clause-asked
run_order-requires-clause-asked g c =
    let order = c.in-Ok-Some.order in
    asked c.args.words.now order ((c.read_words.ensures.form order).1 (sym c.in-Ok-Some.ensures.value ∙ c.in-Ok-Some.field-0-is))

pub run_order-requires-clause-allowed : goal.run_order-requires-clause-allowed
run_order-requires-clause-allowed g c = λ request is.
    let order = c.in-Ok-Some.order in
    let says = (c.read_words.ensures.form order).1 (sym c.in-Ok-Some.ensures.value ∙ c.in-Ok-Some.field-0-is) in
    c.requires.allowed request (asks c.args.words.now order request says is)

pub returns-in-Ok-None : goal.returns-in-Ok-None
returns-in-Ok-None g c = record {
  ended = (
    λ order says.
        let is = (c.read_words.ensures.form order).0 says in
        let none : order_in c.args.words.now ≡ None = sym c.in-Ok-None.ensures.value ∙ c.in-Ok-None.field-0-is in
        absurd cc,
    λ slot. refl,
  );
}

pub returns-in-Ok-Some : goal.returns-in-Ok-Some
returns-in-Ok-Some g c =
    let order = c.in-Ok-Some.order in
    let says = (c.read_words.ensures.form order).1 (sym c.in-Ok-Some.ensures.value ∙ c.in-Ok-Some.field-0-is) in
    record { ended = order_run c.args.words.now order _ _ c.run_order.result says c.run_order.ensures.ended }
