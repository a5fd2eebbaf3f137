use Rattle.std.proofs.Common.{◌≡◌, [], ◌∷◌, ◌++◌, List, ap, sym, subst, ◌∙◌}
use Rattle.std.specs.Prelude.{Bool}
use Rattle.std.specs.Vec.{with_items}
use Rattle.std.proofs.lemmas.List.{with_items_is}
use Rattle.stil_types.specs.declared.head.StilHead.{StilHead}
use Rattle.stil_calls.specs.Statements.{AreAccepted}
use Rattle.stil_reader.specs.Sayings.{Stated}
use Rattle.stil_tester.specs.declared.symbol.Symbol.{Symbol}
use Rattle.stil_tester.specs.Runs.{play_of, verdicts_of}
use Rattle.play_command.specs.Plays.{behaviour}
use Rattle.play_command.specs.Progress.{Progress, after_saying}
use Rattle.play_command.proofs.Played.{played}
use Rattle.play_command.proofs.Statements.{statement_fits}
use Rattle.play_command.proofs.playing.Playing.play.Goals as goal

pub run-requires-clause-statement : goal.run-requires-clause-statement
run-requires-clause-statement c =
    let same : c.self.inside.head ≡ c.args.self.now.head = ap (λ (p : Progress). p.head) c.self.view_is in
    statement_fits c.self.inside.head c.self.inside.chains c.self.invariant.0 c.args.statement.now
    (subst (λ (h : StilHead). AreAccepted h c.args.statement.now) (sym same) c.requires.accepted) c.requires.placed

pub returns : goal.returns
returns c =
    let i = c.self.inside in
    let s = c.args.statement.now in
    let p : Progress = record { head = i.head; chains = i.chains; device = i.device; cells = i.cells.items; scans = i.scans; lines = i.lines.items } in
    let play = λ (cells : List Symbol). play_of behaviour i.chains (s ∷ []) i.device cells in
    let cells : c.as_mut_slice.result.now ≡ i.cells.items = c.as_mut_slice.ensures.value in
    let device : c.run.new.device ≡ (play i.cells.items).device = c.in_ok-run.ensures.device ∙ ap (λ (cs : List Symbol). (play cs).device) cells in
    let now : c.run.new.cells ≡ (play i.cells.items).results.cells = c.in_ok-run.ensures.cells ∙ ap (λ (cs : List Symbol). (play cs).results.cells) cells in
    let verdicts : c.run.new.passed.items ≡ verdicts_of (play i.cells.items).results.scans =
    c.in_ok-run.ensures.verdicts ∙ ap (λ (vs : List Bool). vs ++ verdicts_of (play c.as_mut_slice.result.now).results.scans) c.clear.ensures.items
    ∙ ap (λ (cs : List Symbol). verdicts_of (play cs).results.scans) cells in
    let after = (with_items i.cells c.run.new.cells).items in
    let written : after ≡ c.run.new.cells = with_items_is i.cells c.run.new.cells (c.run.auto.cells ∙ c.as_mut_slice.ensures.len) in
    let made : Progress =
    record { head = i.head; chains = i.chains; device = c.run.new.device; cells = after; scans = c.in_ok-self-inside.field-0; lines = c.push_scans.new.lines.items } in
    record {
      value = subst (λ (q : Progress). made ≡ after_saying (Stated s) q) c.self.view_is
          (played p s c.run.new.device after c.as_slice.result.now c.in_ok-self-inside.field-0 c.push_scans.new.lines.items device (written ∙ now)
          (c.as_slice.ensures.value ∙ verdicts) c.in_ok-self-inside.ensures.scans
          c.in_ok-self-inside.ensures.value);
    }
