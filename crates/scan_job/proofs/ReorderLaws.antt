-- The laws of `reorder` and `balance`: their values make one request, which looks at its inputs alone.
use Rattle.std.proofs.Common.{◌≡◌, ◌≤◌, Bool, true, false, ◌||◌, if◌then◌else◌, List, [], ◌∷◌, ◌++◌, length, codes, Some, inl, inr, refl, sym, ap, ◌∙◌, subst, arith}
use Rattle.std.specs.Str.{bytes_eq}
use Rattle.std.proofs.lemmas.Slice.Eq.{bytes_eq-Decides}
use Rattle.order_search.specs.declared.effort.Effort.{Effort}
use Rattle.order_search.specs.declared.effort.Effort.TheVariants as efforts
use Rattle.reorder_command.specs.declared.goal.Goal.{Goal}
use Rattle.reorder_command.specs.declared.goal.Goal.TheVariants as goals
use Rattle.desk_io.specs.declared.slot.Slot.TheVariants.{Table, Lef, Verilog, Def}
use Rattle.design_files.specs.Files.{Texts}
use Rattle.design_files.specs.Faults.{IsFilesFault}
use Rattle.scan_words.specs.declared.order.Order.{Order}
use Rattle.scan_words.specs.declared.verb.Verb.{Verb}
use Rattle.scan_words.specs.declared.verb.Verb.TheVariants as verbs
use Rattle.scan_words.specs.declared.table.OptionName.TheVariants as options
use Rattle.scan_words.specs.Form.{Text}
use Rattle.scan_words.specs.Table.{Values, value_form, has_form, each_value}
use Rattle.scan_words.specs.Verbs.{options_of}
use Rattle.scan_words.specs.Orders.{is_count}
use Rattle.scan_job.specs.Requests as requests
use Rattle.scan_job.specs.Requests.{Request, order_of, IsDesignOrder}
use Rattle.scan_job.specs.declared.commands.reorder.ReorderRequest.{ReorderRequest}
use Rattle.scan_job.specs.declared.commands.patterns.PatternsRequest.{PatternsRequest}
use Rattle.scan_job.specs.Commands.Reorder.{effort_word, goal_values, design_values, design_request, AreReordered}
use Rattle.base_types.specs.declared.fault.Fault.{Fault}
use Rattle.desk_io.specs.declared.outputs.Outputs.{Outputs}
use Rattle.scan_job.specs.Commands.{Files}
use Rattle.scan_job.specs.Faults.{IsCommandFault}
use Rattle.scan_job.specs.Texts.{AreTexts}
use Rattle.scan_job.proofs.Agreeing.{AgreeAt, design_same}
use Rattle.scan_job.proofs.Options.{IsMade, first, pair_left, zero_is}

-- the goal of the word of an effort
abbrev goal_by : Text → Goal
goal_by g = goals.Shorter (if bytes_eq g (codes "order") then efforts.Order else efforts.Full)

-- the request of some values of `reorder`
pub reorder_by : List Text → Request → Request
reorder_by (a ∷ b ∷ c ∷ d ∷ e ∷ f ∷ g ∷ []) other = requests.Reorder (design_request a b c d e f (goal_by g))
reorder_by (a ∷ b ∷ c ∷ d ∷ e ∷ f ∷ g ∷ h ∷ i ∷ []) other = requests.ReorderPatterns (record { design = design_request a b c d e f (goal_by g); stil = h; out_stil = i })
reorder_by values other = other

-- the request of some values of `balance`
pub balance_by : List Text → Request → Request
balance_by (a ∷ b ∷ c ∷ d ∷ e ∷ f ∷ []) other = requests.Reorder (design_request a b c d e f goals.Balanced)
balance_by (a ∷ b ∷ c ∷ d ∷ e ∷ f ∷ h ∷ i ∷ []) other = requests.ReorderPatterns (record { design = design_request a b c d e f goals.Balanced; stil = h; out_stil = i })
balance_by values other = other

-- that of the command of a goal
abbrev pub goal_request : Goal → List Text → Request → Request
goal_request (goals.Shorter effort) = reorder_by
goal_request goals.Balanced = balance_by

effort_back : (effort : Effort) → goal_by (effort_word effort) ≡ goals.Shorter effort
effort_back efforts.Order = refl
effort_back efforts.Full = refl

design_back : (a b c d e f : Text) (goal : Goal) (other : Request)
    → goal_request goal (design_values (design_request a b c d e f goal) []) other ≡ requests.Reorder (design_request a b c d e f goal)
unfolding reorder_by balance_by
design_back a b c d e f (goals.Shorter effort) other = ap (λ (goal : Goal). requests.Reorder (design_request a b c d e f goal)) (effort_back effort)
design_back a b c d e f goals.Balanced other = refl

pub reorder_back : (r : ReorderRequest) (other : Request) → goal_request r.goal (order_of (requests.Reorder r)).values other ≡ requests.Reorder r
reorder_back r other = design_back r.table r.lef r.verilog r.def r.out_verilog r.out_def r.goal other

both_back : (a b c d e f h i : Text) (goal : Goal) (other : Request)
    → goal_request goal (design_values (design_request a b c d e f goal) (h ∷ i ∷ [])) other ≡ requests.ReorderPatterns (record { design = design_request a b c d e f goal; stil = h; out_stil = i })
unfolding reorder_by balance_by
both_back a b c d e f h i (goals.Shorter effort) other = ap (λ (goal : Goal). requests.ReorderPatterns (record { design = design_request a b c d e f goal; stil = h; out_stil = i })) (effort_back effort)
both_back a b c d e f h i goals.Balanced other = refl

pub patterns_back : (r : PatternsRequest) (other : Request) → goal_request r.design.goal (order_of (requests.ReorderPatterns r)).values other ≡ requests.ReorderPatterns r
patterns_back r other = both_back r.design.table r.design.lef r.design.verilog r.design.def r.design.out_verilog r.design.out_def r.stil r.out_stil r.design.goal other

-- an effort's word is that of an effort
record IsEffort (word : Text) : Type 0 where
  effort : Effort
  is : effort_word effort ≡ word

effort_by : (g : Text) (a b : Bool) → bytes_eq g (codes "order") ≡ a → bytes_eq g (codes "full") ≡ b → (a || b) ≡ true → IsEffort g
effort_by g true b order full h = record { effort = efforts.Order; is = sym ((bytes_eq-Decides g (codes "order")).0 order) }
effort_by g false true order full h = record { effort = efforts.Full; is = sym ((bytes_eq-Decides g (codes "full")).0 full) }
effort_by g false false order full h = absurd cc

effort_is : (g : Text) → has_form (value_form options.Effort) g ≡ true → IsEffort g
effort_is g h = effort_by g (bytes_eq g (codes "order")) (bytes_eq g (codes "full")) refl refl h

abbrev values_with : (a b c d e f : Text) → List Text → List Text
values_with a b c d e f rest = a ∷ b ∷ c ∷ d ∷ e ∷ f ∷ rest

abbrev order_with : Verb → List Text → Order
order_with verb values = record { verb = verb; values = values; further = [] }

pub made_reorder : (values : Values) (given further : List Text) → each_value values (options_of verbs.Reorder) ≡ Some given → is_count false (length further) ≡ true → IsMade verbs.Reorder given further
made_reorder values given [] h count =
    let a = first values options.Table _ given h in
    let b = first values options.Lef _ a.rest a.others in
    let c = first values options.Verilog _ b.rest b.others in
    let d = first values options.Def _ c.rest c.others in
    let e = first values options.OutVerilog _ d.rest d.others in
    let f = first values options.OutDef _ e.rest e.others in
    let g = first values options.Effort _ f.rest f.others in
    let effort = effort_is g.value g.formed in
    let same : given ≡ values_with a.value b.value c.value d.value e.value f.value (g.value ∷ g.rest)
    = a.same ∙ ap (λ (xs : List Text). a.value ∷ xs) (b.same ∙ ap (λ (xs : List Text). b.value ∷ xs) (c.same ∙ ap (λ (xs : List Text). c.value ∷ xs)
    (d.same ∙ ap (λ (xs : List Text). d.value ∷ xs) (e.same ∙ ap (λ (xs : List Text). e.value ∷ xs) (f.same ∙ ap (λ (xs : List Text). f.value ∷ xs) g.same))))) in
    let design : ReorderRequest = design_request a.value b.value c.value d.value e.value f.value (goals.Shorter effort.effort) in
    let worded : (rest : List Text) → g.rest ≡ rest → values_with a.value b.value c.value d.value e.value f.value (effort_word effort.effort ∷ rest) ≡ given
    = λ rest is. ap (λ (w : Text). values_with a.value b.value c.value d.value e.value f.value (w ∷ rest)) effort.is
    ∙ ap (λ (xs : List Text). values_with a.value b.value c.value d.value e.value f.value (g.value ∷ xs)) (sym is) ∙ sym same in
    elim (pair_left values options.Stil options.OutStil g.rest g.others) [
      | inl none ↦ record { request = requests.Reorder design; order_is = ap (order_with verbs.Reorder) (worded [] none); sound = tt }
      | inr pair ↦ record {
        request = requests.ReorderPatterns (record { design = design; stil = pair.first; out_stil = pair.second });
        order_is = ap (order_with verbs.Reorder) (worded (pair.first ∷ pair.second ∷ []) pair.same);
        sound = tt;
      }
    ]
made_reorder values given (w ∷ ws) h count = let none = zero_is (length (w ∷ ws)) count in absurd (omega (arith, none))

pub made_balance : (values : Values) (given further : List Text) → each_value values (options_of verbs.Balance) ≡ Some given → is_count false (length further) ≡ true → IsMade verbs.Balance given further
made_balance values given [] h count =
    let a = first values options.Table _ given h in
    let b = first values options.Lef _ a.rest a.others in
    let c = first values options.Verilog _ b.rest b.others in
    let d = first values options.Def _ c.rest c.others in
    let e = first values options.OutVerilog _ d.rest d.others in
    let f = first values options.OutDef _ e.rest e.others in
    let same : given ≡ values_with a.value b.value c.value d.value e.value f.value f.rest
    = a.same ∙ ap (λ (xs : List Text). a.value ∷ xs) (b.same ∙ ap (λ (xs : List Text). b.value ∷ xs) (c.same ∙ ap (λ (xs : List Text). c.value ∷ xs)
    (d.same ∙ ap (λ (xs : List Text). d.value ∷ xs) (e.same ∙ ap (λ (xs : List Text). e.value ∷ xs) f.same)))) in
    let design : ReorderRequest = design_request a.value b.value c.value d.value e.value f.value goals.Balanced in
    let worded : (rest : List Text) → f.rest ≡ rest → values_with a.value b.value c.value d.value e.value f.value rest ≡ given
    = λ rest is. ap (values_with a.value b.value c.value d.value e.value f.value) (sym is) ∙ sym same in
    elim (pair_left values options.Stil options.OutStil f.rest f.others) [
      | inl none ↦ record { request = requests.Reorder design; order_is = ap (order_with verbs.Balance) (worded [] none); sound = tt }
      | inr pair ↦ record {
        request = requests.ReorderPatterns (record { design = design; stil = pair.first; out_stil = pair.second });
        order_is = ap (order_with verbs.Balance) (worded (pair.first ∷ pair.second ∷ []) pair.same);
        sound = tt;
      }
    ]
made_balance values given (w ∷ ws) h count = let none = zero_is (length (w ∷ ws)) count in absurd (omega (arith, none))

-- an order of either command has as many values as it asks for

-- beside those of its design, two of its patterns
both_more : (goal : Goal) (h i : Text) → 2 ≤ length (goal_values goal ++ h ∷ i ∷ [])
both_more (goals.Shorter effort) h i = omega arith
both_more goals.Balanced h i = omega arith

alone_few : (goal : Goal) → length (goal_values goal ++ []) ≤ 1
alone_few (goals.Shorter effort) = omega arith
alone_few goals.Balanced = omega arith

pub made_design : (order : Order) → IsDesignOrder order → length order.values ≤ 7 → (r : ReorderRequest) × (order_of (requests.Reorder r) ≡ order)
made_design order (inl made) few = made
made_design order (inr made) few =
    let more = both_more made.0.design.goal made.0.stil made.0.out_stil in
    let same = ap (λ (o : Order). length o.values) made.1 in
    absurd (omega (arith, few, more, same))

pub made_patterns : (order : Order) → IsDesignOrder order → (length order.values ≤ 7 → ⊥) → (r : PatternsRequest) × (order_of (requests.ReorderPatterns r) ≡ order)
made_patterns order (inl made) many =
    let few = alone_few made.0.goal in
    let same = ap (λ (o : Order). length o.values) made.1 in
    absurd (many (omega (arith, few, same)))
made_patterns order (inr made) many = made

-- it looks at its inputs alone

pub reorder_fault_same : (r : ReorderRequest) (one other : Files) (fault : Fault) → AgreeAt (requests.Reorder r) one other → IsCommandFault (requests.Reorder r) one fault → IsCommandFault (requests.Reorder r) other fault
reorder_fault_same r one other fault agree is = subst (λ (t : Texts). IsFilesFault t fault) (design_same one other (agree Table tt refl) (agree Lef tt refl) (agree Verilog tt refl) (agree Def tt refl)) is

pub reorder_texts_same : (r : ReorderRequest) (one other : Files) (outputs : Outputs) → AgreeAt (requests.Reorder r) one other → AreTexts (requests.Reorder r) one outputs → AreTexts (requests.Reorder r) other outputs
reorder_texts_same r one other outputs agree are = subst (λ (t : Texts). AreReordered r t outputs) (design_same one other (agree Table tt refl) (agree Lef tt refl) (agree Verilog tt refl) (agree Def tt refl)) are
