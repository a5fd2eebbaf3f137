use Rattle.std.proofs.Common.{List, ℕ, get_or, take, ap, sym, ◌∙◌, rules}
use Rattle.base_types.proofs.TruthValues.{was_there, was_new}
use Rattle.verilog_names.specs.Declarations.{has}
use Rattle.verilog_checks.proofs.NameLists.{now_of, now_last, added, first_behind, new_passes, new_fails, new_passed}
use Rattle.verilog_checks.proofs.name_lists.has_twice.Goals as goal

pub loop-name-init : goal.loop-name-init
loop-name-init c = record { same = first_behind (now_of c.args.names.now); seen = search rules }

pub returns-then-not-branch : goal.returns-then-not-branch
returns-then-not-branch c =
    let xs = c.args.names.now in
    let i = c.loop-name.name-index in
    let there = was_there c.in_ok-insert.field-0 _ c.in_ok-insert.ensures.added c.if-not-branch.true in
    record { value = new_fails xs i _ _ c.loop-name-test.true (sym (c.loop-name.invariant.seen (get_or xs i _)) ∙ there) c.loop-name.invariant.same }

pub loop-name-preserved : goal.loop-name-preserved
loop-name-preserved c =
    let xs = c.args.names.now in
    let i = c.loop-name.name-index in
    let absent = was_new c.in_ok-insert.field-0 _ c.in_ok-insert.ensures.added c.if-not-branch.false in
    record {
      same = new_passes xs i _ _ c.loop-name-test.true (sym (c.loop-name.invariant.seen (get_or xs i _)) ∙ absent) c.loop-name.invariant.same;
      seen = λ q. added (now_of (take i xs)) (get_or xs i _).now q.now _ _ (c.in_ok-insert.ensures.updates.0 q) (c.loop-name.invariant.seen q) ∙ ap (λ (l : List (List ℕ)). has l q.now) (sym (now_last xs i _ c.loop-name-test.true));
    }

pub returns : goal.returns
returns c = record { value = new_passed c.args.names.now c.loop-name.name-index _ c.loop-name-test.false c.loop-name.invariant.same }
