-- The laws of `bench`: its values make one request, which looks at no input; and the faults of the made files are those of their number.
use Rattle.std.proofs.Common.{◌≡◌, ◌<◌, ℕ, true, false, List, [], ◌∷◌, length, Some, Err, decimal, refl, sym, ap, ◌∙◌, subst, arith}
use Rattle.std.proofs.lemmas.Fmt.{decimal_injective}
use Rattle.base_types.specs.declared.fault.Fault.{Fault}
use Rattle.base_types.specs.declared.fault.ReadFault.{ReadFault}
use Rattle.base_types.specs.declared.fault.ReadFault.TheVariants as faults
use Rattle.base_types.specs.FirstFault.{IfFault, IsFirstFault}
use Rattle.desk_io.specs.declared.outputs.Outputs.{Outputs}
use Rattle.scan_words.specs.declared.verb.Verb.TheVariants as verbs
use Rattle.scan_words.specs.declared.table.OptionName.TheVariants as options
use Rattle.scan_words.specs.Form.{Text}
use Rattle.scan_words.specs.Table.{Values, each_value, value_form, has_form}
use Rattle.scan_words.specs.Verbs.{options_of}
use Rattle.scan_words.specs.Orders.{is_count}
use Rattle.scan_words.proofs.Numbers.{number_in}
use Rattle.scan_job.specs.declared.commands.bench.BenchRequest.{BenchRequest}
use Rattle.scan_job.specs.Commands.{Files}
use Rattle.scan_job.specs.Commands.Patterns.{HoldsInRetargeting}
use Rattle.scan_job.specs.Commands.Bench.{IsUnits, HoldsInMade, IsSaid, IsBenched, bench_text}
use Rattle.design_files.specs.Files.{texts_of}
use Rattle.design_maker.specs.declared.files.Files.{Files as MadeFiles}
use Rattle.design_maker.specs.Made.{made_files}
use Rattle.scan_job.specs.Requests as requests
use Rattle.scan_job.specs.Requests.{Request, order_of}
use Rattle.scan_job.specs.Faults.{IsCommandFault}
use Rattle.scan_job.specs.Texts.{AreTexts}
use Rattle.scan_job.proofs.Agreeing.{AgreeAt}
use Rattle.scan_job.proofs.Options.{IsMade, first, none_left, zero_is}

-- the request of some values
pub bench_by : List Text → Request → Request
bench_by (a ∷ []) other = requests.Bench (record { units = a })
bench_by values other = other

pub bench_back : (r : BenchRequest) (other : Request) → bench_by (order_of (requests.Bench r)).values other ≡ requests.Bench r
unfolding bench_by
bench_back r other = refl

-- a word of the form of units says a number of them
units_in : (word : Text) → has_form (value_form options.Units) word ≡ true → IsUnits word
units_in word h = let found = number_in 8 16384 word (omega arith) h in record { number = found.number; fewest = found.least; most = found.most; is = found.is }

pub made_bench : (values : Values) (given further : List Text) → each_value values (options_of verbs.Bench) ≡ Some given → is_count false (length further) ≡ true → IsMade verbs.Bench given further
made_bench values given [] h count =
    let a = first values options.Units _ given h in
    let last = none_left values a.rest a.others in
    let same : a.value ∷ [] ≡ given = sym (a.same ∙ ap (λ (xs : List Text). a.value ∷ xs) last) in
    record {
      request = requests.Bench (record { units = a.value });
      order_is = ap (λ (vs : List Text). record { verb = verbs.Bench; values = vs; further = [] }) same;
      sound = units_in a.value a.formed;
    }
made_bench values given (w ∷ ws) h count = let none = zero_is (length (w ∷ ws)) count in absurd (omega (arith, none))

-- it looks at no input

pub bench_fault_same : (r : BenchRequest) (one other : Files) (fault : Fault) → AgreeAt (requests.Bench r) one other → IsCommandFault (requests.Bench r) one fault → IsCommandFault (requests.Bench r) other fault
bench_fault_same r one other fault agree is = is

pub bench_texts_same : (r : BenchRequest) (one other : Files) (outputs : Outputs) → AgreeAt (requests.Bench r) one other → AreTexts (requests.Bench r) one outputs → AreTexts (requests.Bench r) other outputs
bench_texts_same r one other outputs agree are = are

-- a word says one number
pub one_number : (word : List ℕ) (n : ℕ) → n < 4294967296 → word ≡ decimal n → (units : IsUnits word) → units.number ≡ n
one_number word n few is units =
    let most = units.most in
    decimal_injective units.number n (omega (arith, most)) (omega (arith, few)) (sym units.is ∙ is)

module _ (word : List ℕ) (units : IsUnits word) where
  abbrev HoldsIn : MadeFiles → Fault → Type 0
  HoldsIn files = HoldsInRetargeting (texts_of files.table files.lef files.verilog files.def) files.stil

  of_number : (fault : Fault) → HoldsInMade word fault → HoldsIn (made_files units.number) fault
  of_number fault held =
      let few = units.most in
      subst (λ (n : ℕ). HoldsIn (made_files n) fault) (one_number word units.number (omega (arith, few)) units.is held.units) held.holds

  first_made : (fault : Fault) → IsFirstFault (HoldsIn (made_files units.number)) fault → IsFirstFault (HoldsInMade word) fault
  first_made fault first = record { holds = record { units = units; holds = first.holds }; least = λ g held sooner. first.least g (of_number g held) sooner }

  first_back : (fault : Fault) → IsFirstFault (HoldsInMade word) fault → IsFirstFault (HoldsIn (made_files units.number)) fault
  first_back fault first = record { holds = of_number fault first.holds; least = λ g held sooner. first.least g (record { units = units; holds = held }) sooner }

  module _ (files : MadeFiles) (n : ℕ) (few : n < 4294967296) (word_is : word ≡ decimal n) (are : files ≡ made_files n) where
    made_so : files ≡ made_files units.number
    made_so = are ∙ ap made_files (sym (one_number word n few word_is units))

    -- what is found in the made files is found for the word
    found_made : (fault : Fault) → IsFirstFault (HoldsIn files) fault → IsFirstFault (HoldsInMade word) fault
    found_made fault first = first_made fault (subst (λ (f : MadeFiles). IsFirstFault (HoldsIn f) fault) made_so first)

    pub refused_made : (read : ReadFault) → IfFault {X = List ℕ} (Err read) (IsFirstFault (HoldsIn files)) → IfFault {X = Outputs} (Err read) (IsFirstFault (HoldsInMade word))
    refused_made (faults.Fault fault) first = found_made fault first
    refused_made faults.NoMemory first = tt

    pub none_made : ((fault : Fault) → IsFirstFault (HoldsIn files) fault → ⊥) → (fault : Fault) → IsFirstFault (HoldsInMade word) fault → ⊥
    none_made none fault first = none fault (subst (λ (f : MadeFiles). IsFirstFault (HoldsIn f) fault) (sym made_so) (first_back fault first))

    pub benched : (said text : List ℕ) → IsSaid (texts_of files.table files.lef files.verilog files.def) files.stil said → text ≡ bench_text word said → IsBenched word text
    benched said text is_said is =
        record { units = units; report = said; said = subst (λ (f : MadeFiles). IsSaid (texts_of f.table f.lef f.verilog f.def) f.stil said) made_so is_said; is = is }
