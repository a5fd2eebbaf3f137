-- The laws of `rewire`: its values make one request, which looks at its inputs alone.
use Rattle.std.proofs.Common.{◌≡◌, ◌≢◌, ℕ, true, List, [], ◌∷◌, ◌++◌, codes, Some, refl, sym, ap, ◌∙◌, subst}
use Rattle.std.specs.Str.{bytes_eq}
use Rattle.std.proofs.lemmas.Slice.Eq.{bytes_eq-Decides}
use Rattle.desk_io.specs.declared.slot.Slot.TheVariants.{Verilog}
use Rattle.rewire_command.specs.Faults.{IsRewireFault}
use Rattle.scan_words.specs.declared.verb.Verb.TheVariants as verbs
use Rattle.scan_words.specs.declared.table.OptionName.TheVariants as options
use Rattle.scan_words.specs.Form.{Text}
use Rattle.scan_words.specs.Table.{Values, each_value, are_distinct, are_apart}
use Rattle.scan_words.specs.Verbs.{options_of}
use Rattle.scan_job.specs.Requests as requests
use Rattle.scan_job.specs.Requests.{Request, order_of}
use Rattle.scan_job.specs.declared.commands.rewire.RewireRequest.{RewireRequest}
use Rattle.scan_job.specs.Commands.Rewire.{rewire_of, AreRewired}
use Rattle.base_types.specs.declared.fault.Fault.{Fault}
use Rattle.base_types.proofs.TruthValues.{and_second}
use Rattle.desk_io.specs.declared.outputs.Outputs.{Outputs}
use Rattle.scan_job.specs.Commands.{Files}
use Rattle.scan_job.specs.Faults.{IsCommandFault}
use Rattle.scan_job.specs.Texts.{AreTexts}
use Rattle.scan_job.proofs.Agreeing.{AgreeAt}
use Rattle.scan_job.proofs.Options.{IsMade, first, none_left}

-- the request of some values and the further words
pub rewire_by : List Text → List Text → Request → Request
rewire_by (a ∷ b ∷ c ∷ d ∷ e ∷ f ∷ g ∷ []) further other =
    requests.Rewire (record { verilog = a; cell = b; in_pin = c; out_pin = d; scan_in = e; scan_out = f; out_verilog = g; units = further })
rewire_by values further other = other

pub rewire_back : (r : RewireRequest) (other : Request) → rewire_by (order_of (requests.Rewire r)).values r.units other ≡ requests.Rewire r
unfolding rewire_by
rewire_back r other = refl

distinct_pins : (xs ys : List Text) (c d : Text) → xs ≡ c ∷ [] → ys ≡ d ∷ [] → are_distinct (xs ++ (ys ++ [])) ≡ true → c ≢ d
distinct_pins xs ys c d one other h = λ same.
    let both : are_distinct (c ∷ d ∷ []) ≡ true = subst (λ (zs : List Text). are_distinct (zs ++ (d ∷ [] ++ [])) ≡ true) one (subst (λ (zs : List Text). are_distinct (xs ++ (zs ++ [])) ≡ true) other h) in
    let eq : bytes_eq d c ≡ true = (bytes_eq-Decides d c).1 (sym same) in
    absurd cc

pub made_rewire : (values : Values) (given further : List Text) → each_value values (options_of verbs.Rewire) ≡ Some given → are_apart values (options_of verbs.Rewire) ≡ true → IsMade verbs.Rewire given further
made_rewire values given further h apart =
    let a = first values options.Verilog _ given h in
    let b = first values options.Cell _ a.rest a.others in
    let c = first values options.InPin _ b.rest b.others in
    let d = first values options.OutPin _ c.rest c.others in
    let e = first values options.ScanIn _ d.rest d.others in
    let f = first values options.ScanOut _ e.rest e.others in
    let g = first values options.OutVerilog _ f.rest f.others in
    let last = none_left values g.rest g.others in
    let same : a.value ∷ b.value ∷ c.value ∷ d.value ∷ e.value ∷ f.value ∷ g.value ∷ [] ≡ given
    = sym (a.same ∙ ap (λ (xs : List Text). a.value ∷ xs) (b.same ∙ ap (λ (xs : List Text). b.value ∷ xs) (c.same ∙ ap (λ (xs : List Text). c.value ∷ xs)
    (d.same ∙ ap (λ (xs : List Text). d.value ∷ xs) (e.same ∙ ap (λ (xs : List Text). e.value ∷ xs) (f.same ∙ ap (λ (xs : List Text). f.value ∷ xs)
    (g.same ∙ ap (λ (xs : List Text). g.value ∷ xs) last))))))) in
    record {
      request = requests.Rewire (record { verilog = a.value; cell = b.value; in_pin = c.value; out_pin = d.value; scan_in = e.value; scan_out = f.value; out_verilog = g.value; units = further });
      order_is = ap (λ (vs : List Text). record { verb = verbs.Rewire; values = vs; further = further }) same;
      sound = distinct_pins (values (codes "in-pin")) (values (codes "out-pin")) c.value d.value c.is d.is (and_second _ _ apart);
    }

-- it looks at its inputs alone

pub rewire_fault_same : (r : RewireRequest) (one other : Files) (fault : Fault) → AgreeAt (requests.Rewire r) one other → IsCommandFault (requests.Rewire r) one fault → IsCommandFault (requests.Rewire r) other fault
rewire_fault_same r one other fault agree is = subst (λ (text : List ℕ). IsRewireFault text (rewire_of r) fault) (agree Verilog tt refl) is

pub rewire_texts_same : (r : RewireRequest) (one other : Files) (outputs : Outputs) → AgreeAt (requests.Rewire r) one other → AreTexts (requests.Rewire r) one outputs → AreTexts (requests.Rewire r) other outputs
rewire_texts_same r one other outputs agree are = subst (λ (text : List ℕ). AreRewired r text outputs) (agree Verilog tt refl) are
