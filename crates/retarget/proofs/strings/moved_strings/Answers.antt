use Rattle.std.proofs.Common.{◌≡◌, ◌<◌, ◌≤◌, ℕ, List, Option, length, arith, get_or, ap, sym, subst, ◌∙◌}
use Rattle.std.specs.Prelude.{All}
use Rattle.std.proofs.lemmas.Result.{IfOk-weaker}
use Rattle.stil_tester.specs.declared.chains.ChainBits.{ChainBits}
use Rattle.stil_tester.specs.declared.chains.Chains.{Chains}
use Rattle.stil_tester.specs.Shifting.{numbers_of}
use Rattle.retarget.specs.declared.route.Route.{Route}
use Rattle.retarget.specs.Exits.{exit_cells, exit_characters, flips_on, moved_by, strings_from}
use Rattle.retarget.specs.Moved.{moved_strings}
use Rattle.retarget.proofs.MovedStrings.{length-flips_on, moved_long, no_longer, strings_are}
use Rattle.retarget.proofs.strings.moved_strings.Goals as goal

pub moved_characters-requires-clause-within : goal.moved_characters-requires-clause-within
moved_characters-requires-clause-within c = λ k l.
    subst (λ (cs : List ChainBits). get_or c.args.route.now.sources k 0 < length (exit_cells cs)) (sym c.as_slice.ensures.value) (c.requires.map.way.within k l)

pub moved_characters-requires-clause-flips : goal.moved_characters-requires-clause-flips
moved_characters-requires-clause-flips c = length-flips_on c.args.side c.args.old.now c.args.new.now c.args.route.now c.requires.map.way

pub strings_from-requires-clause-given : goal.strings_from-requires-clause-given
strings_from-requires-clause-given c = omega (arith, c.requires.strings, c.requires.map.same.chains, ap length c.as_slice-chains.ensures.value)

pub strings_from-requires-clause-characters : goal.strings_from-requires-clause-characters
strings_from-requires-clause-characters c =
    let route : Route = c.args.route.now in
    ap length c.as_slice-2.ensures.value
    ∙ moved_long c.args.side c.args.old.now c.args.new.now route c.args.strings.now c.requires.map.way c.in_ok-characters.characters.items
    (c.in_ok-characters.ensures ∙ ap (λ (cs : List ChainBits). moved_by route.sources (flips_on c.args.side route) (exit_characters c.args.side cs c.args.strings.now)) c.as_slice.ensures.value)
    ∙ sym (ap (λ (cs : List ChainBits). length (numbers_of cs)) c.as_slice-chains.ensures.value)

pub strings_from-requires-clause-shifts : goal.strings_from-requires-clause-shifts
strings_from-requires-clause-shifts c =
    subst (λ (cs : List ChainBits). All (λ (chain : ChainBits). length chain.cells ≤ c.args.shifts) cs) (sym c.as_slice-chains.ensures.value) (no_longer c.args.new.now c.args.shifts c.requires.map.longest_new)

pub returns : goal.returns
returns c =
    let side = c.args.side in
    let old : Chains = c.args.old.now in
    let new : Chains = c.args.new.now in
    let route : Route = c.args.route.now in
    let strings : List (Option (List ℕ)) = c.args.strings.now in
    let characters : c.as_slice-2.result.now ≡ moved_by route.sources (flips_on side route) (exit_characters side old.chains strings) =
    c.as_slice-2.ensures.value
    ∙ c.in_ok-characters.ensures
    ∙ ap (λ (cs : List ChainBits). moved_by route.sources (flips_on side route) (exit_characters side cs strings)) c.as_slice.ensures.value in
    IfOk-weaker c.strings_from.result
    (λ (w : List (Option (List ℕ))). w ≡ strings_from side c.args.shifts c.as_slice-chains.result.now strings c.as_slice-2.result.now)
    (λ (w : List (Option (List ℕ))). w ≡ moved_strings side old new strings)
    (λ w e. e ∙ (λ i. strings_from side (c.requires.map.longest_new i) (c.as_slice-chains.ensures.value i) strings (characters i)) ∙ strings_are side old new route strings c.requires.map.same c.requires.map.way c.requires.strings)
    c.strings_from.ensures
