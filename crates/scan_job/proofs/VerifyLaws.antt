-- The laws of `verify`: its values make one request, which looks at its inputs alone.
use Rattle.std.proofs.Common.{◌≡◌, true, false, List, [], ◌∷◌, length, Some, refl, sym, ap, ◌∙◌, subst, arith}
use Rattle.desk_io.specs.declared.slot.Slot.TheVariants.{Table, Verilog, Stil, NewVerilog, NewStil}
use Rattle.base_types.specs.FirstFault.{IsFirstFault}
use Rattle.scan_words.specs.declared.verb.Verb.TheVariants as verbs
use Rattle.scan_words.specs.declared.table.OptionName.TheVariants as options
use Rattle.scan_words.specs.Form.{Text}
use Rattle.scan_words.specs.Table.{Values, each_value}
use Rattle.scan_words.specs.Verbs.{options_of}
use Rattle.scan_words.specs.Orders.{is_count}
use Rattle.scan_job.specs.Requests as requests
use Rattle.scan_job.specs.Requests.{Request, order_of}
use Rattle.scan_job.specs.declared.commands.verify.VerifyRequest.{VerifyRequest}
use Rattle.base_types.specs.declared.fault.Fault.{Fault}
use Rattle.desk_io.specs.declared.outputs.Outputs.{Outputs}
use Rattle.scan_job.specs.Commands.{Files}
use Rattle.scan_job.specs.Faults.{IsCommandFault}
use Rattle.scan_job.specs.Texts.{AreTexts}
use Rattle.scan_job.specs.Commands.Verify.{Sets, sets_in, HoldsInSets, IsVerified}
use Rattle.scan_job.proofs.Agreeing.{AgreeAt}
use Rattle.scan_job.proofs.Options.{IsMade, first, none_left, zero_is}

-- the request of some values
pub verify_by : List Text → Request → Request
verify_by (a ∷ b ∷ c ∷ d ∷ e ∷ []) other = requests.Verify (record { table = a; verilog = b; stil = c; new_verilog = d; new_stil = e })
verify_by values other = other

pub verify_back : (r : VerifyRequest) (other : Request) → verify_by (order_of (requests.Verify r)).values other ≡ requests.Verify r
unfolding verify_by
verify_back r other = refl

pub made_verify : (values : Values) (given further : List Text) → each_value values (options_of verbs.Verify) ≡ Some given → is_count false (length further) ≡ true → IsMade verbs.Verify given further
made_verify values given [] h count =
    let a = first values options.Table _ given h in
    let b = first values options.Verilog _ a.rest a.others in
    let c = first values options.Stil _ b.rest b.others in
    let d = first values options.NewVerilog _ c.rest c.others in
    let e = first values options.NewStil _ d.rest d.others in
    let last = none_left values e.rest e.others in
    let same : a.value ∷ b.value ∷ c.value ∷ d.value ∷ e.value ∷ [] ≡ given
    = sym
    (a.same
    ∙ ap (λ (xs : List Text). a.value ∷ xs)
    (b.same ∙ ap (λ (xs : List Text). b.value ∷ xs) (c.same ∙ ap (λ (xs : List Text). c.value ∷ xs)
    (d.same ∙ ap (λ (xs : List Text). d.value ∷ xs) (e.same ∙ ap (λ (xs : List Text). e.value ∷ xs) last))))) in
    record {
      request = requests.Verify (record { table = a.value; verilog = b.value; stil = c.value; new_verilog = d.value; new_stil = e.value });
      order_is = ap (λ (vs : List Text). record { verb = verbs.Verify; values = vs; further = [] }) same;
      sound = tt;
    }
made_verify values given (w ∷ ws) h count = let none = zero_is (length (w ∷ ws)) count in absurd (omega (arith, none))

-- it looks at its inputs alone

pub sets_same : (one other : Files) → one Table ≡ other Table → one Verilog ≡ other Verilog → one Stil ≡ other Stil → one NewVerilog ≡ other NewVerilog → one NewStil ≡ other NewStil → sets_in one ≡ sets_in other
sets_same one other table verilog stil new_verilog new_stil =
    ap (λ (text : Text). record (sets_in one) { table = text }) table
    ∙ ap (λ (text : Text). record (sets_in one) { table = other Table; verilog = text }) verilog
    ∙ ap (λ (text : Text). record (sets_in one) { table = other Table; verilog = other Verilog; stil = text }) stil
    ∙ ap (λ (text : Text). record (sets_in other) { new_verilog = text; new_stil = one NewStil }) new_verilog
    ∙ ap (λ (text : Text). record (sets_in other) { new_stil = text }) new_stil

sets_agree : (r : VerifyRequest) (one other : Files) → AgreeAt (requests.Verify r) one other → sets_in one ≡ sets_in other
sets_agree r one other agree = sets_same one other (agree Table tt refl) (agree Verilog tt refl) (agree Stil tt refl) (agree NewVerilog tt refl) (agree NewStil tt refl)

pub verify_fault_same : (r : VerifyRequest) (one other : Files) (fault : Fault) → AgreeAt (requests.Verify r) one other → IsCommandFault (requests.Verify r) one fault → IsCommandFault (requests.Verify r) other fault
verify_fault_same r one other fault agree is = subst (λ (s : Sets). IsFirstFault (HoldsInSets s) fault) (sets_agree r one other agree) is

pub verify_texts_same : (r : VerifyRequest) (one other : Files) (outputs : Outputs) → AgreeAt (requests.Verify r) one other → AreTexts (requests.Verify r) one outputs → AreTexts (requests.Verify r) other outputs
verify_texts_same r one other outputs agree are = subst (λ (s : Sets). IsVerified s outputs.console) (sets_agree r one other agree) are
