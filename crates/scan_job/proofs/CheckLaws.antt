-- The laws of `check`: its values make one request, which looks at its inputs alone.
use Rattle.std.proofs.Common.{◌≡◌, true, false, List, [], ◌∷◌, length, Some, refl, sym, ap, ◌∙◌, subst, arith}
use Rattle.desk_io.specs.declared.slot.Slot.TheVariants.{Table, Lef, Verilog, Def}
use Rattle.design_files.specs.Files.{Texts}
use Rattle.design_files.specs.Faults.{IsFilesFault}
use Rattle.check_command.specs.Checks.{IsCheckText}
use Rattle.scan_words.specs.declared.verb.Verb.TheVariants as verbs
use Rattle.scan_words.specs.declared.table.OptionName.TheVariants as options
use Rattle.scan_words.specs.Form.{Text}
use Rattle.scan_words.specs.Table.{Values, each_value}
use Rattle.scan_words.specs.Verbs.{options_of}
use Rattle.scan_words.specs.Orders.{is_count}
use Rattle.scan_job.specs.Requests as requests
use Rattle.scan_job.specs.Requests.{Request, order_of}
use Rattle.scan_job.specs.declared.commands.check.CheckRequest.{CheckRequest}
use Rattle.base_types.specs.declared.fault.Fault.{Fault}
use Rattle.desk_io.specs.declared.outputs.Outputs.{Outputs}
use Rattle.scan_job.specs.Commands.{Files}
use Rattle.scan_job.specs.Faults.{IsCommandFault}
use Rattle.scan_job.specs.Texts.{AreTexts}
use Rattle.scan_job.proofs.Agreeing.{AgreeAt, design_same}
use Rattle.scan_job.proofs.Options.{IsMade, first, none_left, zero_is}

-- the request of some values
pub check_by : List Text → Request → Request
check_by (a ∷ b ∷ c ∷ d ∷ []) other = requests.Check (record { table = a; lef = b; verilog = c; def = d })
check_by values other = other

pub check_back : (r : CheckRequest) (other : Request) → check_by (order_of (requests.Check r)).values other ≡ requests.Check r
unfolding check_by
check_back r other = refl

pub made_check : (values : Values) (given further : List Text) → each_value values (options_of verbs.Check) ≡ Some given → is_count false (length further) ≡ true → IsMade verbs.Check given further
made_check values given [] h count =
    let a = first values options.Table _ given h in
    let b = first values options.Lef _ a.rest a.others in
    let c = first values options.Verilog _ b.rest b.others in
    let d = first values options.Def _ c.rest c.others in
    let last = none_left values d.rest d.others in
    let same : a.value ∷ b.value ∷ c.value ∷ d.value ∷ [] ≡ given
    = sym
    (a.same
    ∙ ap (λ (xs : List Text). a.value ∷ xs)
    (b.same ∙ ap (λ (xs : List Text). b.value ∷ xs) (c.same ∙ ap (λ (xs : List Text). c.value ∷ xs) (d.same ∙ ap (λ (xs : List Text). d.value ∷ xs) last)))) in
    record {
      request = requests.Check (record { table = a.value; lef = b.value; verilog = c.value; def = d.value });
      order_is = ap (λ (vs : List Text). record { verb = verbs.Check; values = vs; further = [] }) same;
      sound = tt;
    }
made_check values given (w ∷ ws) h count = let none = zero_is (length (w ∷ ws)) count in absurd (omega (arith, none))

-- it looks at its inputs alone

pub check_fault_same : (r : CheckRequest) (one other : Files) (fault : Fault) → AgreeAt (requests.Check r) one other → IsCommandFault (requests.Check r) one fault → IsCommandFault (requests.Check r) other fault
check_fault_same r one other fault agree is = subst (λ (t : Texts). IsFilesFault t fault) (design_same one other (agree Table tt refl) (agree Lef tt refl) (agree Verilog tt refl) (agree Def tt refl)) is

pub check_texts_same : (r : CheckRequest) (one other : Files) (outputs : Outputs) → AgreeAt (requests.Check r) one other → AreTexts (requests.Check r) one outputs → AreTexts (requests.Check r) other outputs
check_texts_same r one other outputs agree are = subst (λ (t : Texts). IsCheckText t outputs.console) (design_same one other (agree Table tt refl) (agree Lef tt refl) (agree Verilog tt refl) (agree Def tt refl)) are
