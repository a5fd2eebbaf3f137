use Rattle.std.proofs.Common.{List, ℕ, ◌++◌, ◌<◌, true, get_or, refl, sym, ◌∙◌, subst, length-set}
use Rattle.std.proofs.lemmas.List.{take_all}
use Rattle.def_reader.specs.Classes.{HasClasses}
use Rattle.def_reader.proofs.Marks.{mark_added}
use Rattle.def_reader.proofs.agreement.add_all.Goals as goal

pub loop-class-preserved : goal.loop-class-preserved
loop-class-preserved c =
    let marks = c.loop-class.seen.items in
    let classes = c.args.classes.now in
    let i = c.loop-class.class-index in
    let within = subst (λ (n : ℕ). get_or classes i 0 < n) (sym c.loop-class.invariant.len) (c.requires.within i 0 c.loop-class-test.true) in
    record {
      len = length-set marks (get_or classes i 0) true ∙ c.loop-class.invariant.len;
      has = λ before h. mark_added marks before classes i (get_or classes i 0) c.loop-class-test.true refl within (c.loop-class.invariant.has before h);
    }

pub returns-clause-value : goal.returns-clause-value
returns-clause-value c = λ before h.
    subst (λ (l : List ℕ). HasClasses c.loop-class.seen.items (before ++ l)) (take_all c.loop-class.class-index c.args.classes.now c.loop-class-test.false) (c.loop-class.invariant.has before h)
