use Rattle.std.proofs.Common.{rules, of_calls, sym}
use Rattle.std.proofs.lemmas.Fn.{always_returns_same}
use Rattle.stil_types.proofs.Searches.{against, found, not_found}
use Rattle.stil_types.proofs.sorted.is_known.Goals as goal

pub returns-in-Ok : goal.returns-in-Ok
returns-in-Ok c =
    let q = c.args.name.now in
    let same = c.in-Ok.ensures.position (against q) (always_returns_same _ _ _ (λ a r f k. search (rules, of_calls))) q in
    record { value = sym (found q c.args.names.now c.in-Ok.field-0 c.in-Ok.ensures.bound same) }

pub returns-in-Err : goal.returns-in-Err
returns-in-Err c =
    let q = c.args.name.now in
    record { value = sym (not_found q c.args.names.now c.in-Err.field-0 c.requires.sorted (c.in-Err.ensures.position (against q) (always_returns_same _ _ _ (λ a r f k. search (rules, of_calls))))) }
