use Rattle.std.proofs.Common.{◌≡◌, ◌++◌, List, [], ℕ, Bool, false, map, take, get_or, refl, ap, ◌∙◌, subst}
use Rattle.std.proofs.lemmas.List.{take_all}
use Rattle.verilog_names.specs.Values.{unescaped}
use Rattle.verilog_names.specs.Declarations.{Declaration}
use Rattle.verilog_names.specs.NameTables.{firsts_of}
use Rattle.verilog_checks.specs.Seen.{AddsOne, IsClean, declared_at, declared_as}
use Rattle.verilog_checks.proofs.Again.{both_passes, both_fails, both_passed, so_more}
use Rattle.verilog_checks.proofs.twice.add_names_declared.Goals as goal

pub returns-then-branch : goal.returns-then-branch
returns-then-branch c = record {
  value = λ before all known.
      let first = c.args.first in
      let xs = c.args.names.now in
      let i = c.loop-name.name-index in
      let d = c.name-item.result in
      let so = before ++ map (declared_as first) (take i xs) in
      let inv = c.loop-name.invariant before all known in
      let name : c.unescaped.result.now ≡ unescaped (get_or xs i d) = c.unescaped.ensures.value ∙ ap unescaped c.name-item.is in
      let named = subst (λ (n : List ℕ). AddsOne c.in_ok-add_name.field-0 c.add_name.new.declared so (declared_at first n) all) name (c.in_ok-add_name.ensures.value so all inv.known) in
      let one = subst (λ (t : Bool). AddsOne t c.add_name.new.declared so (declared_as first (get_or xs i d)) all) c.if-branch.true named in
      record { is = both_fails first before all xs i d _ c.add_name.new.declared c.loop-name-test.true one inv.same; kept = λ e. absurd cc; clean = λ e. absurd cc };
}

pub loop-name-preserved : goal.loop-name-preserved
loop-name-preserved c = λ before all known.
    let first = c.args.first in
    let xs = c.args.names.now in
    let i = c.loop-name.name-index in
    let d = c.name-item.result in
    let so = before ++ map (declared_as first) (take i xs) in
    let inv = c.loop-name.invariant before all known in
    let name : c.unescaped.result.now ≡ unescaped (get_or xs i d) = c.unescaped.ensures.value ∙ ap unescaped c.name-item.is in
    let named = subst (λ (n : List ℕ). AddsOne c.in_ok-add_name.field-0 c.add_name.new.declared so (declared_at first n) all) name (c.in_ok-add_name.ensures.value so all inv.known) in
    let one = subst (λ (t : Bool). AddsOne t c.add_name.new.declared so (declared_as first (get_or xs i d)) all) c.if-branch.false named in
    let more = so_more first before all xs i d false c.loop-name-test.true in
    record {
      same = both_passes first before all xs i d _ c.add_name.new.declared c.loop-name-test.true one inv.same;
      known = record {
        keeps = one.kept refl ∙ ap firsts_of more;
        are_nets = known.are_nets;
        clean = subst (λ (l : List Declaration). IsClean l all) more (one.clean refl);
      };
    }

pub returns : goal.returns
returns c = record {
  value = λ before all known.
      let first = c.args.first in
      let xs = c.args.names.now in
      let i = c.loop-name.name-index in
      let inv = c.loop-name.invariant before all known in
      let whole = take_all i xs c.loop-name-test.false in
      record {
        is = both_passed first before all xs i [] _ c.loop-name-test.false inv.same;
        kept = λ e. inv.known.keeps ∙ ap (λ (l : List (List ℕ)). firsts_of (before ++ map (declared_as first) l)) whole;
        clean = λ e. subst (λ (l : List (List ℕ)). IsClean (before ++ map (declared_as first) l) all) whole inv.known.clean;
      };
}
