-- The laws of `bound`: its values make one request, which looks at its inputs alone.
use Rattle.std.proofs.Common.{◌≡◌, true, false, Option, List, [], ◌∷◌, length, Some, None, inl, inr, refl, sym, ap, ◌∙◌, subst, arith}
use Rattle.desk_io.specs.declared.slot.Slot.TheVariants.{Table, Lef, Verilog, Def}
use Rattle.design_files.specs.Files.{Texts}
use Rattle.design_files.specs.Faults.{IsFilesFault}
use Rattle.scan_words.specs.declared.verb.Verb.TheVariants as verbs
use Rattle.scan_words.specs.declared.table.OptionName.TheVariants as options
use Rattle.scan_words.specs.Form.{Text}
use Rattle.scan_words.specs.Table.{Values, each_value, value_form, has_form, value_list}
use Rattle.scan_words.specs.declared.order.Order.{Order}
use Rattle.scan_words.specs.Verbs.{options_of}
use Rattle.scan_words.specs.Orders.{is_count}
use Rattle.scan_job.specs.Requests as requests
use Rattle.scan_job.specs.Requests.{Request, order_of}
use Rattle.scan_job.specs.declared.commands.bound.BoundRequest.{BoundRequest}
use Rattle.base_types.specs.declared.fault.Fault.{Fault}
use Rattle.desk_io.specs.declared.outputs.Outputs.{Outputs}
use Rattle.scan_job.specs.Commands.{Files}
use Rattle.scan_job.specs.Faults.{IsCommandFault}
use Rattle.scan_job.specs.Texts.{AreTexts}
use Rattle.scan_job.specs.Commands.Bound.{IsRounds, IsBounded}
use Rattle.scan_words.proofs.Numbers.{number_in}
use Rattle.scan_job.proofs.Agreeing.{AgreeAt, design_same}
use Rattle.scan_job.proofs.Options.{IsMade, first, one_left, zero_is}

-- the request of some values
pub bound_by : List Text → Request → Request
bound_by (a ∷ b ∷ c ∷ d ∷ []) other = requests.Bound (record { table = a; lef = b; verilog = c; def = d; rounds = None })
bound_by (a ∷ b ∷ c ∷ d ∷ e ∷ []) other = requests.Bound (record { table = a; lef = b; verilog = c; def = d; rounds = Some e })
bound_by values other = other

back_by : (a b c d : Text) (rounds : Option Text) (other : Request) → bound_by (a ∷ b ∷ c ∷ d ∷ value_list rounds) other ≡ requests.Bound (record { table = a; lef = b; verilog = c; def = d; rounds = rounds })
unfolding bound_by
back_by a b c d None other = refl
back_by a b c d (Some e) other = refl

pub bound_back : (r : BoundRequest) (other : Request) → bound_by (order_of (requests.Bound r)).values other ≡ requests.Bound r
bound_back r other = back_by r.table r.lef r.verilog r.def r.rounds other

-- a word of the form of rounds says a number of them
rounds_in : (word : Text) → has_form (value_form options.Rounds) word ≡ true → IsRounds word
rounds_in word h = let found = number_in 0 1000 word (omega arith) h in record { number = found.number; few = found.most; is = found.is }

abbrev order_with : List Text → Order
order_with values = record { verb = verbs.Bound; values = values; further = [] }

pub made_bound : (values : Values) (given further : List Text) → each_value values (options_of verbs.Bound) ≡ Some given → is_count false (length further) ≡ true → IsMade verbs.Bound given further
made_bound values given [] h count =
    let a = first values options.Table _ given h in
    let b = first values options.Lef _ a.rest a.others in
    let c = first values options.Verilog _ b.rest b.others in
    let d = first values options.Def _ c.rest c.others in
    let same : given ≡ a.value ∷ b.value ∷ c.value ∷ d.value ∷ d.rest
    = a.same ∙ ap (λ (xs : List Text). a.value ∷ xs) (b.same ∙ ap (λ (xs : List Text). b.value ∷ xs) (c.same ∙ ap (λ (xs : List Text). c.value ∷ xs) d.same)) in
    let worded : (rest : List Text) → d.rest ≡ rest → a.value ∷ b.value ∷ c.value ∷ d.value ∷ rest ≡ given
    = λ rest is. ap (λ (xs : List Text). a.value ∷ b.value ∷ c.value ∷ d.value ∷ xs) (sym is) ∙ sym same in
    elim (one_left values options.Rounds d.rest d.others) [
      | inl none ↦ record {
        request = requests.Bound (record { table = a.value; lef = b.value; verilog = c.value; def = d.value; rounds = None });
        order_is = ap order_with (worded [] none);
        sound = tt;
      }
      | inr one ↦ record {
        request = requests.Bound (record { table = a.value; lef = b.value; verilog = c.value; def = d.value; rounds = Some one.value });
        order_is = ap order_with (worded (one.value ∷ []) one.same);
        sound = rounds_in one.value one.formed;
      }
    ]
made_bound values given (w ∷ ws) h count = let none = zero_is (length (w ∷ ws)) count in absurd (omega (arith, none))

-- it looks at its inputs alone

pub bound_fault_same : (r : BoundRequest) (one other : Files) (fault : Fault) → AgreeAt (requests.Bound r) one other → IsCommandFault (requests.Bound r) one fault → IsCommandFault (requests.Bound r) other fault
bound_fault_same r one other fault agree is = subst (λ (t : Texts). IsFilesFault t fault) (design_same one other (agree Table tt refl) (agree Lef tt refl) (agree Verilog tt refl) (agree Def tt refl)) is

pub bound_texts_same : (r : BoundRequest) (one other : Files) (outputs : Outputs) → AgreeAt (requests.Bound r) one other → AreTexts (requests.Bound r) one outputs → AreTexts (requests.Bound r) other outputs
bound_texts_same r one other outputs agree are = subst (λ (t : Texts). IsBounded r.rounds t outputs.console) (design_same one other (agree Table tt refl) (agree Lef tt refl) (agree Verilog tt refl) (agree Def tt refl)) are
