-- The laws of `failmap`: its values make one request, which looks at its inputs alone.
use Rattle.std.proofs.Common.{◌≡◌, true, false, List, [], ◌∷◌, length, Some, refl, sym, ap, ◌∙◌, subst, arith}
use Rattle.desk_io.specs.declared.slot.Slot.TheVariants.{Table, Verilog, Stil, NewVerilog, NewStil, Log}
use Rattle.base_types.specs.FirstFault.{IsFirstFault}
use Rattle.scan_words.specs.declared.verb.Verb.TheVariants as verbs
use Rattle.scan_words.specs.declared.table.OptionName.TheVariants as options
use Rattle.scan_words.specs.Form.{Text}
use Rattle.scan_words.specs.Table.{Values, each_value}
use Rattle.scan_words.specs.Verbs.{options_of}
use Rattle.scan_words.specs.Orders.{is_count}
use Rattle.scan_job.specs.Requests as requests
use Rattle.scan_job.specs.Requests.{Request, order_of}
use Rattle.scan_job.specs.declared.commands.failmap.FailmapRequest.{FailmapRequest}
use Rattle.base_types.specs.declared.fault.Fault.{Fault}
use Rattle.desk_io.specs.declared.outputs.Outputs.{Outputs}
use Rattle.scan_job.specs.Commands.{Files}
use Rattle.scan_job.specs.Faults.{IsCommandFault}
use Rattle.scan_job.specs.Texts.{AreTexts}
use Rattle.scan_job.specs.Commands.Verify.{sets_in}
use Rattle.scan_job.specs.Commands.Failmap.{LoggedSets, logged_in, HoldsInLogged, IsMapped}
use Rattle.scan_job.proofs.VerifyLaws.{sets_same}
use Rattle.scan_job.proofs.Agreeing.{AgreeAt}
use Rattle.scan_job.proofs.Options.{IsMade, first, none_left, zero_is}

-- the request of some values
pub failmap_by : List Text → Request → Request
failmap_by (a ∷ b ∷ c ∷ d ∷ e ∷ f ∷ []) other = requests.Failmap (record { table = a; verilog = b; stil = c; new_verilog = d; new_stil = e; log = f })
failmap_by values other = other

pub failmap_back : (r : FailmapRequest) (other : Request) → failmap_by (order_of (requests.Failmap r)).values other ≡ requests.Failmap r
unfolding failmap_by
failmap_back r other = refl

pub made_failmap : (values : Values) (given further : List Text) → each_value values (options_of verbs.Failmap) ≡ Some given → is_count false (length further) ≡ true → IsMade verbs.Failmap given further
made_failmap values given [] h count =
    let a = first values options.Table _ given h in
    let b = first values options.Verilog _ a.rest a.others in
    let c = first values options.Stil _ b.rest b.others in
    let d = first values options.NewVerilog _ c.rest c.others in
    let e = first values options.NewStil _ d.rest d.others in
    let f = first values options.Log _ e.rest e.others in
    let last = none_left values f.rest f.others in
    let same : a.value ∷ b.value ∷ c.value ∷ d.value ∷ e.value ∷ f.value ∷ [] ≡ given
    = sym
    (a.same
    ∙ ap (λ (xs : List Text). a.value ∷ xs)
    (b.same ∙ ap (λ (xs : List Text). b.value ∷ xs) (c.same ∙ ap (λ (xs : List Text). c.value ∷ xs)
    (d.same ∙ ap (λ (xs : List Text). d.value ∷ xs) (e.same ∙ ap (λ (xs : List Text). e.value ∷ xs) (f.same ∙ ap (λ (xs : List Text). f.value ∷ xs) last)))))) in
    record {
      request = requests.Failmap (record { table = a.value; verilog = b.value; stil = c.value; new_verilog = d.value; new_stil = e.value; log = f.value });
      order_is = ap (λ (vs : List Text). record { verb = verbs.Failmap; values = vs; further = [] }) same;
      sound = tt;
    }
made_failmap values given (w ∷ ws) h count = let none = zero_is (length (w ∷ ws)) count in absurd (omega (arith, none))

-- it looks at its inputs alone

logged_agree : (r : FailmapRequest) (one other : Files) → AgreeAt (requests.Failmap r) one other → logged_in one ≡ logged_in other
logged_agree r one other agree =
    let sets : sets_in one ≡ sets_in other = sets_same one other (agree Table tt refl) (agree Verilog tt refl) (agree Stil tt refl) (agree NewVerilog tt refl) (agree NewStil tt refl) in
    λ i. record { sets = sets i; log = agree Log tt refl i }

pub failmap_fault_same : (r : FailmapRequest) (one other : Files) (fault : Fault) → AgreeAt (requests.Failmap r) one other → IsCommandFault (requests.Failmap r) one fault → IsCommandFault (requests.Failmap r) other fault
failmap_fault_same r one other fault agree is = subst (λ (l : LoggedSets). IsFirstFault (HoldsInLogged l) fault) (logged_agree r one other agree) is

pub failmap_texts_same : (r : FailmapRequest) (one other : Files) (outputs : Outputs) → AgreeAt (requests.Failmap r) one other → AreTexts (requests.Failmap r) one outputs → AreTexts (requests.Failmap r) other outputs
failmap_texts_same r one other outputs agree are = subst (λ (l : LoggedSets). IsMapped l outputs.console) (logged_agree r one other agree) are
