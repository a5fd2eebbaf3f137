-- Words that say an order say a request, and one at most; and a request looks at its inputs alone.
use Rattle.std.proofs.Common.{◌≡◌, inl, inr, Bool, true, false, List, [], length, codes, Option, Some, None, refl, sym, ap, ◌∙◌, subst}
use Rattle.std.proofs.lemmas.Option.{same_Some}
use Rattle.base_types.specs.declared.fault.Fault.{Fault}
use Rattle.desk_io.specs.declared.outputs.Outputs.{Outputs}
use Rattle.scan_words.specs.declared.order.Order.{Order}
use Rattle.scan_words.specs.declared.verb.Verb.{Verb}
use Rattle.scan_words.specs.declared.verb.Verb.TheVariants as verbs
use Rattle.scan_words.specs.Form.{◌>>=◌, Text, only_if, values_of}
use Rattle.scan_words.specs.Table.{Values, each_value, are_apart}
use Rattle.scan_words.specs.Verbs.{options_of, takes_further}
use Rattle.scan_words.specs.Orders.{is_count, order_by}
use Rattle.scan_words.specs.Written.{Says}
use Rattle.scan_job.specs.declared.commands.rewire.RewireRequest.{RewireRequest}
use Rattle.scan_job.specs.declared.commands.trace.TraceRequest.{TraceRequest}
use Rattle.scan_job.specs.declared.commands.check.CheckRequest.{CheckRequest}
use Rattle.scan_job.specs.declared.commands.play.PlayRequest.{PlayRequest}
use Rattle.scan_job.specs.declared.commands.bound.BoundRequest.{BoundRequest}
use Rattle.scan_job.specs.declared.commands.verify.VerifyRequest.{VerifyRequest}
use Rattle.scan_job.specs.declared.commands.failmap.FailmapRequest.{FailmapRequest}
use Rattle.scan_job.specs.declared.commands.bench.BenchRequest.{BenchRequest}
use Rattle.scan_job.specs.declared.commands.draw.DrawRequest.{DrawRequest}
use Rattle.reorder_command.specs.declared.goal.Goal.{Goal}
use Rattle.reorder_command.specs.declared.goal.Goal.TheVariants as goals
use Rattle.scan_job.specs.Commands.Reorder.{goal_verb}
use Rattle.scan_job.specs.Commands.{Files}
use Rattle.scan_job.specs.Requests as requests
use Rattle.scan_job.specs.Requests.{Request, order_of, IsSound, IsAsked, IsDesignOrder}
use Rattle.scan_job.specs.Faults.{IsCommandFault}
use Rattle.scan_job.specs.Texts.{AreTexts}
use Rattle.scan_job.proofs.Agreeing.{AgreeAt}
use Rattle.scan_job.proofs.Options.{IsMade}
use Rattle.scan_job.proofs.RewireLaws.{rewire_by, rewire_back, made_rewire, rewire_fault_same, rewire_texts_same}
use Rattle.scan_job.proofs.TraceLaws.{trace_by, trace_back, made_trace, trace_fault_same, trace_texts_same}
use Rattle.scan_job.proofs.CheckLaws.{check_by, check_back, made_check, check_fault_same, check_texts_same}
use Rattle.scan_job.proofs.ReorderLaws.{reorder_by, balance_by, goal_request, reorder_back, patterns_back, made_reorder, made_balance, reorder_fault_same, reorder_texts_same}
use Rattle.scan_job.proofs.PatternsLaws.{patterns_fault_same, patterns_texts_same}
use Rattle.scan_job.proofs.PlayLaws.{play_by, play_back, made_play, play_fault_same, play_texts_same}
use Rattle.scan_job.proofs.BoundLaws.{bound_by, bound_back, made_bound, bound_fault_same, bound_texts_same}
use Rattle.scan_job.proofs.VerifyLaws.{verify_by, verify_back, made_verify, verify_fault_same, verify_texts_same}
use Rattle.scan_job.proofs.FailmapLaws.{failmap_by, failmap_back, made_failmap, failmap_fault_same, failmap_texts_same}
use Rattle.scan_job.proofs.BenchLaws.{bench_by, bench_back, made_bench, bench_fault_same, bench_texts_same}
use Rattle.scan_job.proofs.DrawLaws.{draw_by, draw_back, made_draw, draw_fault_same, draw_texts_same}

-- the request of a command, its values and the further words, and some request where they are no such values
request_by : Verb → List Text → List Text → Request → Request
request_by verbs.Rewire values further other = rewire_by values further other
request_by verbs.Trace values further other = trace_by values other
request_by verbs.Check values further other = check_by values other
request_by verbs.Reorder values further other = reorder_by values other
request_by verbs.Play values further other = play_by values other
request_by verbs.Bound values further other = bound_by values other
request_by verbs.Verify values further other = verify_by values other
request_by verbs.Failmap values further other = failmap_by values other
request_by verbs.Bench values further other = bench_by values other
request_by verbs.Balance values further other = balance_by values other
request_by verbs.Draw values further other = draw_by values other

-- by the command of a goal
by_goal : (goal : Goal) (values further : List Text) (other : Request) → request_by (goal_verb goal) values further other ≡ goal_request goal values other
unfolding request_by
by_goal (goals.Shorter effort) values further other = refl
by_goal goals.Balanced values further other = refl

request_back : (request other : Request) → request_by (order_of request).verb (order_of request).values (order_of request).further other ≡ request
unfolding request_by
request_back (requests.Rewire r) other = rewire_back r other
request_back (requests.Trace r) other = trace_back r other
request_back (requests.Check r) other = check_back r other
request_back (requests.Reorder r) other = by_goal r.goal (order_of (requests.Reorder r)).values [] other ∙ reorder_back r other
request_back (requests.ReorderPatterns r) other = by_goal r.design.goal (order_of (requests.ReorderPatterns r)).values [] other ∙ patterns_back r other
request_back (requests.Play r) other = play_back r other
request_back (requests.Bound r) other = bound_back r other
request_back (requests.Verify r) other = verify_back r other
request_back (requests.Failmap r) other = failmap_back r other
request_back (requests.Bench r) other = bench_back r other
request_back (requests.Draw r) other = draw_back r other

-- an order is that of one request at most
pub order_once : (one other : Request) → order_of one ≡ order_of other → one ≡ other
order_once one other same = sym (request_back one one) ∙ ap (λ (o : Order). request_by o.verb o.values o.further one) same ∙ request_back other one

-- the values that the options of a command ask for make a request
made : (verb : Verb) (values : Values) (given further : List Text) → each_value values (options_of verb) ≡ Some given → are_apart values (options_of verb) ≡ true
    → is_count (takes_further verb) (length further) ≡ true → IsMade verb given further
made verbs.Rewire values given further each apart count = made_rewire values given further each apart
made verbs.Trace values given further each apart count = made_trace values given further each count
made verbs.Check values given further each apart count = made_check values given further each count
made verbs.Reorder values given further each apart count = made_reorder values given further each count
made verbs.Play values given further each apart count = made_play values given further each count
made verbs.Bound values given further each apart count = made_bound values given further each count
made verbs.Verify values given further each apart count = made_verify values given further each count
made verbs.Failmap values given further each apart count = made_failmap values given further each count
made verbs.Bench values given further each apart count = made_bench values given further each count
made verbs.Balance values given further each apart count = made_balance values given further each count
made verbs.Draw values given further each apart count = made_draw values given further each count

-- the values of an order ask for this of a command
abbrev pub MadeBy : Verb → Order → Type 0
MadeBy verbs.Rewire order = (r : RewireRequest) × (order_of (requests.Rewire r) ≡ order)
MadeBy verbs.Trace order = (r : TraceRequest) × (order_of (requests.Trace r) ≡ order)
MadeBy verbs.Check order = (r : CheckRequest) × (order_of (requests.Check r) ≡ order)
MadeBy verbs.Reorder order = IsDesignOrder order
MadeBy verbs.Play order = (r : PlayRequest) × (order_of (requests.Play r) ≡ order)
MadeBy verbs.Bound order = (r : BoundRequest) × (order_of (requests.Bound r) ≡ order)
MadeBy verbs.Verify order = (r : VerifyRequest) × (order_of (requests.Verify r) ≡ order)
MadeBy verbs.Failmap order = (r : FailmapRequest) × (order_of (requests.Failmap r) ≡ order)
MadeBy verbs.Bench order = (r : BenchRequest) × (order_of (requests.Bench r) ≡ order)
MadeBy verbs.Balance order = IsDesignOrder order
MadeBy verbs.Draw order = (r : DrawRequest) × (order_of (requests.Draw r) ≡ order)

-- so of the command of a goal
made_goal : (goal : Goal) (order : Order) → IsDesignOrder order → MadeBy (goal_verb goal) order
made_goal (goals.Shorter effort) order made = made
made_goal goals.Balanced order made = made

made_request : (request : Request) → MadeBy (order_of request).verb (order_of request)
made_request (requests.Rewire r) = (r, refl)
made_request (requests.Trace r) = (r, refl)
made_request (requests.Check r) = (r, refl)
made_request (requests.Reorder r) = made_goal r.goal (order_of (requests.Reorder r)) (inl (r, refl))
made_request (requests.ReorderPatterns r) = made_goal r.design.goal (order_of (requests.ReorderPatterns r)) (inr (r, refl))
made_request (requests.Play r) = (r, refl)
made_request (requests.Bound r) = (r, refl)
made_request (requests.Verify r) = (r, refl)
made_request (requests.Failmap r) = (r, refl)
made_request (requests.Bench r) = (r, refl)
made_request (requests.Draw r) = (r, refl)

pub made_as : (verb : Verb) (order : Order) → order.verb ≡ verb → IsAsked order → MadeBy verb order
made_as verb order is asked =
    subst (λ (v : Verb). MadeBy v order) is (subst (λ (o : Order). MadeBy o.verb o) asked.order_is (made_request asked.request))

-- a request looks at its inputs alone

pub command_same : (request : Request) (one other : Files) (fault : Fault) → AgreeAt request one other → IsCommandFault request one fault → IsCommandFault request other fault
command_same (requests.Rewire r) one other fault agree is = rewire_fault_same r one other fault agree is
command_same (requests.Trace r) one other fault agree is = trace_fault_same r one other fault agree is
command_same (requests.Check r) one other fault agree is = check_fault_same r one other fault agree is
command_same (requests.Reorder r) one other fault agree is = reorder_fault_same r one other fault agree is
command_same (requests.ReorderPatterns r) one other fault agree is = patterns_fault_same r one other agree fault is
command_same (requests.Play r) one other fault agree is = play_fault_same r one other fault agree is
command_same (requests.Bound r) one other fault agree is = bound_fault_same r one other fault agree is
command_same (requests.Verify r) one other fault agree is = verify_fault_same r one other fault agree is
command_same (requests.Failmap r) one other fault agree is = failmap_fault_same r one other fault agree is
command_same (requests.Bench r) one other fault agree is = bench_fault_same r one other fault agree is
command_same (requests.Draw r) one other fault agree is = draw_fault_same r one other fault agree is

pub texts_same : (request : Request) (one other : Files) (outputs : Outputs) → AgreeAt request one other → AreTexts request one outputs → AreTexts request other outputs
texts_same (requests.Rewire r) one other outputs agree are = rewire_texts_same r one other outputs agree are
texts_same (requests.Trace r) one other outputs agree are = trace_texts_same r one other outputs agree are
texts_same (requests.Check r) one other outputs agree are = check_texts_same r one other outputs agree are
texts_same (requests.Reorder r) one other outputs agree are = reorder_texts_same r one other outputs agree are
texts_same (requests.ReorderPatterns r) one other outputs agree are = patterns_texts_same r one other agree outputs are
texts_same (requests.Play r) one other outputs agree are = play_texts_same r one other outputs agree are
texts_same (requests.Bound r) one other outputs agree are = bound_texts_same r one other outputs agree are
texts_same (requests.Verify r) one other outputs agree are = verify_texts_same r one other outputs agree are
texts_same (requests.Failmap r) one other outputs agree are = failmap_texts_same r one other outputs agree are
texts_same (requests.Bench r) one other outputs agree are = bench_texts_same r one other outputs agree are
texts_same (requests.Draw r) one other outputs agree are = draw_texts_same r one other outputs agree are

abbrev further_in : Values → List Text
further_in values = values (codes "further")

-- the order of a command's values is asked for
made_by : (verb : Verb) (values : Values) (order : Order) → order_by verb values ≡ Some order → IsAsked order
unfolding order_by
made_by verb values order h =
    found (each_value values (options_of verb)) refl (are_apart values (options_of verb)) refl (is_count (takes_further verb) (length (further_in values))) refl h
  where
    found : (o : Option (List Text)) → each_value values (options_of verb) ≡ o → (a : Bool) → are_apart values (options_of verb) ≡ a
        → (c : Bool) → is_count (takes_further verb) (length (further_in values)) ≡ c
        → ((o >>= λ given. only_if a >>= λ apart. Some given) >>= λ given. only_if c >>= λ count. Some (record { verb = verb; values = given; further = further_in values })) ≡ Some order → IsAsked order
    found None each a apart c count k = absurd cc
    found (Some given) each false apart c count k = absurd cc
    found (Some given) each true apart false count k = absurd cc
    found (Some given) each true apart true count k = subst IsAsked (same_Some _ _ k) (made verb values given (further_in values) each apart count)

pub asked : (words : List Text) (order : Order) → Says words order → IsAsked order
asked words order s = made_by order.verb (λ name. values_of name s.parts) order s.values

-- the values of a request that the words say are sound
pub sound_of : (request : Request) → IsAsked (order_of request) → IsSound request
sound_of request asked = subst IsSound (order_once asked.request request asked.order_is) asked.sound
