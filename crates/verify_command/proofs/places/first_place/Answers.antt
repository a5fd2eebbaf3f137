use Rattle.std.proofs.Common.{List, take, count_by, nat_eq, refl, ap, ◌∙◌}
use Rattle.stil_types.specs.declared.head.StilHead.{StilHead}
use Rattle.stil_types.specs.declared.statement.PatternStatement.{PatternStatement}
use Rattle.stil_reader.specs.Cursors.{ahead_of}
use Rattle.stil_tester.specs.declared.chains.Chains.{Chains}
use Rattle.scan_verify.specs.Patterns.{pattern_of}
use Rattle.same_files.specs.Sets.{meant_by}
use Rattle.verify_command.proofs.Ahead.{ahead_statements, all_places_same, place_is}
use Rattle.verify_command.proofs.places.first_place.Goals as goal

pub returns-in_default : goal.returns-in_default
returns-in_default c =
    let old = c.args.old.now in
    let new = c.args.new.now in
    let stil = c.args.stil.now in
    let other = c.args.new_stil.now in
    let map = c.in_ok-map.map in
    let one = ap (λ (m : Chains × Chains). m.0) c.in_ok-map.ensures.value ∙ c.chains.ensures.value in
    let two = ap (λ (m : Chains × Chains). m.1) c.in_ok-map.ensures.value ∙ c.chains-2.ensures.value in
    let first = c.behind_head-first.ensures.value ∙ ap (λ (h : StilHead). ahead_of h stil) c.head.ensures.value in
    let second = c.behind_head-second.ensures.value ∙ ap (λ (h : StilHead). ahead_of h other) c.head-2.ensures.value in
    record {
      value = all_places_same (meant_by old stil).played (meant_by new other).played map.0 map.1 one two c.behind_head-first.result.statements c.behind_head-second.result.statements
          (ahead_statements stil old c.requires.old_patterns c.behind_head-first.result first) (ahead_statements other new c.requires.new_patterns c.behind_head-second.result second) c.in_ok-found.field-0
          c.in_default.is c.in_ok-found.ensures.value;
    }

pub returns : goal.returns
returns c =
    let old = c.args.old.now in
    let new = c.args.new.now in
    let stil = c.args.stil.now in
    let other = c.args.new_stil.now in
    let map = c.in_ok-map.map in
    let found = c.in-Some.found in
    let one = ap (λ (m : Chains × Chains). m.0) c.in_ok-map.ensures.value ∙ c.chains.ensures.value in
    let two = ap (λ (m : Chains × Chains). m.1) c.in_ok-map.ensures.value ∙ c.chains-2.ensures.value in
    let first = c.behind_head-first.ensures.value ∙ ap (λ (h : StilHead). ahead_of h stil) c.head.ensures.value in
    let second = c.behind_head-second.ensures.value ∙ ap (λ (h : StilHead). ahead_of h other) c.head-2.ensures.value in
    let again = c.behind_head-again.ensures.value ∙ ap (λ (h : StilHead). ahead_of h stil) c.head-3.ensures.value in
    let all = ahead_statements stil old c.requires.old_patterns c.behind_head-again.result again in
    let count = c.in_ok-before.ensures.value ∙ ap (λ (xs : List PatternStatement). count_by (λ (s : PatternStatement). nat_eq found.pattern (pattern_of s)) (take found.at xs)) all in
    record {
      value = place_is (meant_by old stil).played (meant_by new other).played map.0 map.1 one two c.behind_head-first.result.statements c.behind_head-second.result.statements
          (ahead_statements stil old c.requires.old_patterns c.behind_head-first.result first) (ahead_statements other new c.requires.new_patterns c.behind_head-second.result second) found
          c.in_ok-found.field-0 c.in-Some.is c.in_ok-found.ensures.value (record { pattern = found.pattern; before = c.in_ok-before.before }) refl count;
    }
