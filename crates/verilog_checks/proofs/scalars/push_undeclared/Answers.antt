use Rattle.std.proofs.Common.{◌+◌, List, ℕ, Bor, Vec, Global, take, get_or, sym, ap, ◌∙◌}
use Rattle.std.specs.List.{filter}
use Rattle.verilog_syntax.specs.declared.statement.Item.{Item}
use Rattle.verilog_names.specs.Declarations.{mentions_of, undeclared_in}
use Rattle.verilog_checks.specs.Seen.{is_bracketed}
use Rattle.verilog_checks.proofs.NameLists.{now_of}
use Rattle.verilog_checks.proofs.Undeclared.{undeclared_items, items_more, put_one, put_none}
use Rattle.verilog_checks.proofs.scalars.push_undeclared.Goals.{in-Some+in_ok-push, in_default}
use Rattle.verilog_checks.proofs.scalars.push_undeclared.Goals as goal

pub loop-item-preserved : goal.loop-item-preserved
loop-item-preserved c = λ ds keeps.
    let xs = c.args.items.now in
    let i = c.loop-item.item-index in
    let d = c.item-item.result in
    let here = filter is_bracketed (undeclared_in ds (mentions_of (get_or xs i d))) in
    let same = sym (ap (λ (x : Item). filter is_bracketed (undeclared_in ds (mentions_of x))) c.item-item.is) in
    let more = items_more ds xs i d c.loop-item-test.true in
    let front = now_of c.args.names.now.items in
    let so = undeclared_items ds (take i xs) in
    let total = undeclared_items ds (take (i + 1) xs) in
    let items = λ (v : Vec (Bor (List ℕ)) Global). v.items in
    elim c.match-undeclared_of.branch [
      | in-Some+in_ok-push w ↦
          put_one front so here total c.match-undeclared_of.names.items c.loop-item.names.items w.in-Some.name (ap items w.names-is ∙ w.in_ok-push.ensures.items) (c.loop-item.invariant ds keeps) (same ∙ w.in-Some.ensures.value ds keeps) more
      | in_default w ↦ put_none front so here total c.match-undeclared_of.names.items c.loop-item.names.items (ap items w.names-is) (c.loop-item.invariant ds keeps) (same ∙ w.in_default.ensures.value ds keeps) more
    ]
