-- The laws of `trace`: its values make one request, which looks at its inputs alone.
use Rattle.std.proofs.Common.{◌≡◌, ℕ, true, false, List, [], ◌∷◌, length, Some, refl, sym, ap, ◌∙◌, subst, arith}
use Rattle.desk_io.specs.declared.slot.Slot.TheVariants.{Table, Verilog}
use Rattle.trace_command.specs.Reports.{IsPathText, IsPathFault}
use Rattle.scan_words.specs.declared.verb.Verb.TheVariants as verbs
use Rattle.scan_words.specs.declared.table.OptionName.TheVariants as options
use Rattle.scan_words.specs.Form.{Text}
use Rattle.scan_words.specs.Table.{Values, each_value}
use Rattle.scan_words.specs.Verbs.{options_of}
use Rattle.scan_words.specs.Orders.{is_count}
use Rattle.scan_job.specs.Requests as requests
use Rattle.scan_job.specs.Requests.{Request, order_of}
use Rattle.scan_job.specs.declared.commands.trace.TraceRequest.{TraceRequest}
use Rattle.base_types.specs.declared.fault.Fault.{Fault}
use Rattle.desk_io.specs.declared.outputs.Outputs.{Outputs}
use Rattle.scan_job.specs.Commands.{Files}
use Rattle.scan_job.specs.Faults.{IsCommandFault}
use Rattle.scan_job.specs.Texts.{AreTexts}
use Rattle.scan_job.proofs.Agreeing.{AgreeAt}
use Rattle.scan_job.proofs.Options.{IsMade, first, none_left, zero_is}

-- the request of some values
pub trace_by : List Text → Request → Request
trace_by (a ∷ b ∷ c ∷ []) other = requests.Trace (record { table = a; verilog = b; scan_out = c })
trace_by values other = other

pub trace_back : (r : TraceRequest) (other : Request) → trace_by (order_of (requests.Trace r)).values other ≡ requests.Trace r
unfolding trace_by
trace_back r other = refl

pub made_trace : (values : Values) (given further : List Text) → each_value values (options_of verbs.Trace) ≡ Some given → is_count false (length further) ≡ true → IsMade verbs.Trace given further
made_trace values given [] h count =
    let a = first values options.Table _ given h in
    let b = first values options.Verilog _ a.rest a.others in
    let c = first values options.ScanOut _ b.rest b.others in
    let last = none_left values c.rest c.others in
    let same : a.value ∷ b.value ∷ c.value ∷ [] ≡ given
    = sym (a.same ∙ ap (λ (xs : List Text). a.value ∷ xs) (b.same ∙ ap (λ (xs : List Text). b.value ∷ xs) (c.same ∙ ap (λ (xs : List Text). c.value ∷ xs) last))) in
    record {
      request = requests.Trace (record { table = a.value; verilog = b.value; scan_out = c.value });
      order_is = ap (λ (vs : List Text). record { verb = verbs.Trace; values = vs; further = [] }) same;
      sound = tt;
    }
made_trace values given (w ∷ ws) h count = let none = zero_is (length (w ∷ ws)) count in absurd (omega (arith, none))

-- it looks at its inputs alone

pub trace_fault_same : (r : TraceRequest) (one other : Files) (fault : Fault) → AgreeAt (requests.Trace r) one other → IsCommandFault (requests.Trace r) one fault → IsCommandFault (requests.Trace r) other fault
trace_fault_same r one other fault agree is =
    subst (λ (table : List ℕ). IsPathFault table (other Verilog) r.scan_out fault) (agree Table tt refl)
    (subst (λ (text : List ℕ). IsPathFault (one Table) text r.scan_out fault) (agree Verilog tt refl) is)

pub trace_texts_same : (r : TraceRequest) (one other : Files) (outputs : Outputs) → AgreeAt (requests.Trace r) one other → AreTexts (requests.Trace r) one outputs → AreTexts (requests.Trace r) other outputs
trace_texts_same r one other outputs agree are =
    subst (λ (table : List ℕ). IsPathText table (other Verilog) r.scan_out outputs.console) (agree Table tt refl)
    (subst (λ (text : List ℕ). IsPathText (one Table) text r.scan_out outputs.console) (agree Verilog tt refl) are)
