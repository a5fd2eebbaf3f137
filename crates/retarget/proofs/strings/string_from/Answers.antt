use Rattle.std.proofs.Common.{◌≡◌, ◌-◌, ◌<◌, ℕ, List, length, Bool, false, cond, sym, subst, ◌∙◌, get_or, rules, Some, None}
use Rattle.std.specs.Prelude.{◌↔◌, ◌≢◌, ◌||◌, IsTrue}
use Rattle.std.specs.List.{list_any}
use Rattle.std.proofs.lemmas.Bool.{not-true}
use Rattle.retarget.specs.Sides.{filler_of}
use Rattle.retarget.specs.Exits.{padded}
use Rattle.retarget.proofs.MovedCalls.{says}
use Rattle.retarget.proofs.MovedStrings.{says_is}
use Rattle.retarget.proofs.strings.string_from.Goals as goal

pub returns-then-not-says_something : goal.returns-then-not-says_something
returns-then-not-says_something c =
    let side = c.args.side in
    let characters : List ℕ = c.args.characters.now in
    let answer : Bool = c.says_something.result in
    let law : IsTrue answer ↔ ((k : ℕ) × (k < length characters) × (get_or characters k (filler_of side) ≢ filler_of side)) =
    subst (λ (f : ℕ). IsTrue answer ↔ ((k : ℕ) × (k < length characters) × (get_or characters k f ≢ f))) c.filler.ensures c.says_something.ensures in
    let silent : answer ≡ false = search (rules, not-true) in
    let absent : c.args.is_given ≡ false = search (rules, not-true) in
    let none : list_any (says side) characters ≡ false = sym (says_is side characters answer law) ∙ silent in
    sym (λ i. cond (absent i || none i) (Some (padded side characters (c.args.shifts - length characters))) None)
