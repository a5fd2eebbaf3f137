use Rattle.std.proofs.Common.{◌∙◌, sym, ap, List, [], ℕ, Bool, true, cond, get_or, Bor}
use Rattle.std.specs.List.{list_any}
use Rattle.std.specs.Str.{bytes_eq}
use Rattle.std.proofs.lemmas.List.{take_all}
use Rattle.netlist_core.proofs.Distinct.{one_more, names_decide}
use Rattle.netlist_core.proofs.form.are_distinct_names.Goals as goal

pub loop-name-preserved : goal.loop-name-preserved
loop-name-preserved c = λ q.
    let names = c.args.names.now in
    let none : Bor (List ℕ) = record { ref_ptr = (0, 0); now = [] } in
    c.in_ok-insert.ensures.updates.0 q
    ∙ ap (λ (b : Bool). cond (bytes_eq (get_or names c.loop-name.name-index none).now q.now) true b) (c.loop-name.invariant q)
    ∙ sym (one_more names c.loop-name.name-index none q c.loop-name-test.true)

pub returns : goal.returns
returns c =
    let names = c.args.names.now in
    let all = λ (q : Bor (List ℕ)). c.loop-name.invariant q ∙ ap (λ (l : List (Bor (List ℕ))). list_any (λ x. bytes_eq q.now x.now) l) (take_all c.loop-name.name-index names c.loop-name-test.false) in
    record { value = rw c.len.ensures.len (names_decide names c.loop-name.set (all, c.len.ensures.unique)) }
