-- The laws of `play`: its values make one request, which looks at its inputs alone.
use Rattle.std.proofs.Common.{◌≡◌, ℕ, Bool, true, false, ◌||◌, if◌then◌else◌, List, [], ◌∷◌, length, codes, Some, refl, sym, ap, ◌∙◌, subst, arith}
use Rattle.std.specs.Str.{bytes_eq}
use Rattle.std.proofs.lemmas.Slice.Eq.{bytes_eq-Decides}
use Rattle.base_types.specs.FirstFault.{IsFirstFault}
use Rattle.desk_io.specs.declared.slot.Slot.TheVariants.{Table, Verilog, Stil}
use Rattle.play_command.specs.declared.device.DeviceKind.{DeviceKind}
use Rattle.play_command.specs.declared.device.DeviceKind.TheVariants as devices
use Rattle.declared_chains.specs.Faults.{HoldsInPlay}
use Rattle.play_command.specs.Files.{IsPlayText}
use Rattle.scan_words.specs.declared.verb.Verb.TheVariants as verbs
use Rattle.scan_words.specs.declared.table.OptionName.TheVariants as options
use Rattle.scan_words.specs.Form.{Text}
use Rattle.scan_words.specs.Table.{Values, value_form, has_form, each_value}
use Rattle.scan_words.specs.Verbs.{options_of}
use Rattle.scan_words.specs.Orders.{is_count}
use Rattle.scan_job.specs.Requests as requests
use Rattle.scan_job.specs.Requests.{Request, order_of}
use Rattle.scan_job.specs.declared.commands.play.PlayRequest.{PlayRequest}
use Rattle.scan_job.specs.Commands.Play.{device_word}
use Rattle.base_types.specs.declared.fault.Fault.{Fault}
use Rattle.desk_io.specs.declared.outputs.Outputs.{Outputs}
use Rattle.scan_job.specs.Commands.{Files}
use Rattle.scan_job.specs.Faults.{IsCommandFault}
use Rattle.scan_job.specs.Texts.{AreTexts}
use Rattle.scan_job.proofs.Agreeing.{AgreeAt}
use Rattle.scan_job.proofs.Options.{IsMade, first, none_left, zero_is}

-- the request of some values
pub play_by : List Text → Request → Request
play_by (a ∷ b ∷ c ∷ d ∷ []) other =
    requests.Play (record { table = a; verilog = b; stil = c; device = if bytes_eq d (codes "hold") then devices.Hold else devices.Mix })
play_by values other = other

device_back : (device : DeviceKind) → (if bytes_eq (device_word device) (codes "hold") then devices.Hold else devices.Mix) ≡ device
device_back devices.Hold = refl
device_back devices.Mix = refl

pub play_back : (r : PlayRequest) (other : Request) → play_by (order_of (requests.Play r)).values other ≡ requests.Play r
unfolding play_by
play_back r other = ap (λ (device : DeviceKind). requests.Play (record r { device = device })) (device_back r.device)

-- a device's word is that of a device
record IsDevice (word : Text) : Type 0 where
  device : DeviceKind
  is : device_word device ≡ word

device_by : (d : Text) (a b : Bool) → bytes_eq d (codes "hold") ≡ a → bytes_eq d (codes "mix") ≡ b → (a || b) ≡ true → IsDevice d
device_by d true b hold mix h = record { device = devices.Hold; is = sym ((bytes_eq-Decides d (codes "hold")).0 hold) }
device_by d false true hold mix h = record { device = devices.Mix; is = sym ((bytes_eq-Decides d (codes "mix")).0 mix) }
device_by d false false hold mix h = absurd cc

device_is : (d : Text) → has_form (value_form options.Device) d ≡ true → IsDevice d
device_is d h = device_by d (bytes_eq d (codes "hold")) (bytes_eq d (codes "mix")) refl refl h

pub made_play : (values : Values) (given further : List Text) → each_value values (options_of verbs.Play) ≡ Some given → is_count false (length further) ≡ true → IsMade verbs.Play given further
made_play values given [] h count =
    let a = first values options.Table _ given h in
    let b = first values options.Verilog _ a.rest a.others in
    let c = first values options.Stil _ b.rest b.others in
    let d = first values options.Device _ c.rest c.others in
    let last = none_left values d.rest d.others in
    let device = device_is d.value d.formed in
    let same : a.value ∷ b.value ∷ c.value ∷ d.value ∷ [] ≡ given
    = sym
    (a.same
    ∙ ap (λ (xs : List Text). a.value ∷ xs)
    (b.same ∙ ap (λ (xs : List Text). b.value ∷ xs) (c.same ∙ ap (λ (xs : List Text). c.value ∷ xs) (d.same ∙ ap (λ (xs : List Text). d.value ∷ xs) last)))) in
    record {
      request = requests.Play (record { table = a.value; verilog = b.value; stil = c.value; device = device.device });
      order_is = ap (λ (w : Text). record { verb = verbs.Play; values = a.value ∷ b.value ∷ c.value ∷ w ∷ []; further = [] }) device.is
          ∙ ap (λ (vs : List Text). record { verb = verbs.Play; values = vs; further = [] }) same;
      sound = tt;
    }
made_play values given (w ∷ ws) h count = let none = zero_is (length (w ∷ ws)) count in absurd (omega (arith, none))

-- it looks at its inputs alone

pub play_fault_same : (r : PlayRequest) (one other : Files) (fault : Fault) → AgreeAt (requests.Play r) one other → IsCommandFault (requests.Play r) one fault → IsCommandFault (requests.Play r) other fault
play_fault_same r one other fault agree is =
    subst (λ (table : List ℕ). IsFirstFault (HoldsInPlay table (other Verilog) (other Stil)) fault) (agree Table tt refl)
    (subst (λ (text : List ℕ). IsFirstFault (HoldsInPlay (one Table) text (other Stil)) fault) (agree Verilog tt refl)
    (subst (λ (text : List ℕ). IsFirstFault (HoldsInPlay (one Table) (one Verilog) text) fault) (agree Stil tt refl) is))

pub play_texts_same : (r : PlayRequest) (one other : Files) (outputs : Outputs) → AgreeAt (requests.Play r) one other → AreTexts (requests.Play r) one outputs → AreTexts (requests.Play r) other outputs
play_texts_same r one other outputs agree are =
    subst (λ (table : List ℕ). IsPlayText table (other Verilog) (other Stil) r.device outputs.console) (agree Table tt refl)
    (subst (λ (text : List ℕ). IsPlayText (one Table) text (other Stil) r.device outputs.console) (agree Verilog tt refl)
    (subst (λ (text : List ℕ). IsPlayText (one Table) (one Verilog) text r.device outputs.console) (agree Stil tt refl) are))
