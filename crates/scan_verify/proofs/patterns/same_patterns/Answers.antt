use Rattle.std.proofs.Common.{◌≡◌, List, sym, ◌∙◌, subst}
use Rattle.stil_types.specs.declared.statement.PatternStatement.{PatternStatement}
use Rattle.stil_tester.specs.Meaning.{AllAlike, AllShowSame}
use Rattle.stil_written.specs.Readings.{reading}
use Rattle.scan_verify.proofs.Places.{same_before}
use Rattle.scan_verify.proofs.patterns.same_patterns.Goals as goal

pub returns-then-at-b : goal.returns-then-at-b
returns-then-at-b c =
    let old = c.args.map.now.0 in
    let new = c.args.map.now.1 in
    let xs : List PatternStatement = c.as_slice-a.result.now in
    let ys : List PatternStatement = c.as_slice-b.result.now in
    let both : AllAlike reading xs ys × AllShowSame old new xs ys = same_before old new xs ys c.in_ok-at.at (sym c.if-at-a.true) (sym c.if-at-b.true) c.in_ok-at.ensures.place.before in
    let all : AllAlike reading c.args.a.now.statements c.args.b.now.statements × AllShowSame old new c.args.a.now.statements c.args.b.now.statements =
    subst (λ (q : List PatternStatement). AllAlike reading q c.args.b.now.statements × AllShowSame old new q c.args.b.now.statements) c.as_slice-a.ensures.value
    (subst (λ (q : List PatternStatement). AllAlike reading xs q × AllShowSame old new xs q) c.as_slice-b.ensures.value both) in
    record {
      value = record {
        names_are = sym c.as_slice.ensures.value ∙ c.have_same_names.ensures.value.0 c.if-not-have_same_names.false ∙ c.as_slice-2.ensures.value;
        alike = all.0;
        show_same = all.1;
      };
    }
