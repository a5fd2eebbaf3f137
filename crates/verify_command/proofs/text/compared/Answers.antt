use Rattle.std.proofs.Common.{◌≡◌, ℕ, List, [], Option, slice_index_or, sym, ap, ◌∙◌, subst}
use Rattle.std.proofs.lemmas.Bool.{true≢false, false≢true}
use Rattle.std.proofs.lemmas.Result.{IfOk-weaker}
use Rattle.head_alike.specs.Erased.{head_tokens}
use Rattle.same_files.specs.Sets.{meant_by}
use Rattle.verify_command.specs.declared.places.Place.{Place}
use Rattle.verify_command.specs.Texts.{Says, Same, Head, Cells, Patterns, At, place_text, differs_text}
use Rattle.verify_command.specs.Steps.{AreAlikeSets, IsPlaceOf}
use Rattle.verify_command.proofs.Ahead.{same_meaning}
use Rattle.verify_command.proofs.text.compared.Goals as goal

pub returns-then-not-same_head : goal.returns-then-not-same_head
returns-then-not-same_head c =
    let a = meant_by c.args.old.now c.args.stil.now in
    let b = meant_by c.args.new.now c.args.new_stil.now in
    let alike = AreAlikeSets c.args.old.now c.args.new.now in
    let differ : a.head ≡ b.head → ⊥ =
    λ e. true≢false (sym (c.same_head.ensures.value.1 (ap head_tokens c.head_text.ensures.value ∙ e ∙ sym (ap head_tokens c.head_text-2.ensures.value))) ∙ c.if-not-same_head.true) in
    record { value = IfOk-weaker c.copy.result _ _ (λ text e. subst (Says a b alike) (sym e) (Head differ)) c.copy.ensures.value }

pub returns-then-not-branch : goal.returns-then-not-branch
returns-then-not-branch c =
    let a = meant_by c.args.old.now c.args.stil.now in
    let b = meant_by c.args.new.now c.args.new_stil.now in
    let alike = AreAlikeSets c.args.old.now c.args.new.now in
    let head : a.head ≡ b.head = sym (ap head_tokens c.head_text.ensures.value) ∙ c.same_head.ensures.value.0 c.if-not-same_head.false ∙ ap head_tokens c.head_text-2.ensures.value in
    let differ : alike → ⊥ = λ cells. true≢false (sym (c.in_ok-have_same_cells.ensures.value.1 cells) ∙ c.if-not-branch.true) in
    record { value = IfOk-weaker c.copy-then-not-branch.result _ _ (λ text e. subst (Says a b alike) (sym e) (Cells head differ)) c.copy-then-not-branch.ensures.value }

pub returns-then-not-have_same_names : goal.returns-then-not-have_same_names
returns-then-not-have_same_names c =
    let a = meant_by c.args.old.now c.args.stil.now in
    let b = meant_by c.args.new.now c.args.new_stil.now in
    let alike = AreAlikeSets c.args.old.now c.args.new.now in
    let head : a.head ≡ b.head = sym (ap head_tokens c.head_text.ensures.value) ∙ c.same_head.ensures.value.0 c.if-not-same_head.false ∙ ap head_tokens c.head_text-2.ensures.value in
    let cells : alike = c.in_ok-have_same_cells.ensures.value.0 c.if-not-branch.false in
    let differ : a.names ≡ b.names → ⊥ = λ e. false≢true (c.if-not-have_same_names.ensures.value.1 (c.names.ensures.value ∙ e ∙ sym c.names-2.ensures.value)) in
    record { value = IfOk-weaker c.copy-then-not-have_same_names.result _ _ (λ text e. subst (Says a b alike) (sym e) (Patterns head cells differ)) c.copy-then-not-have_same_names.ensures.value }

pub returns-in-Some : goal.returns-in-Some
returns-in-Some c =
    let a = meant_by c.args.old.now c.args.stil.now in
    let b = meant_by c.args.new.now c.args.new_stil.now in
    let alike = AreAlikeSets c.args.old.now c.args.new.now in
    let place = c.in-Some.place in
    let head : a.head ≡ b.head = sym (ap head_tokens c.head_text.ensures.value) ∙ c.same_head.ensures.value.0 c.if-not-same_head.false ∙ ap head_tokens c.head_text-2.ensures.value in
    let cells : alike = c.in_ok-have_same_cells.ensures.value.0 c.if-not-branch.false in
    let names : a.names ≡ b.names = sym c.names.ensures.value ∙ c.have_same_names.ensures.value.0 c.if-not-have_same_names.false ∙ c.names-2.ensures.value in
    let differs = subst (λ (o : Option Place). IsPlaceOf a.played b.played o) c.in-Some.is c.in_ok-place.ensures.value in
    record {
      value = IfOk-weaker c.difference_text.result _ _
          (λ text e.
          subst (Says a b alike) (sym (e ∙ ap (λ (ns : List (List ℕ)). differs_text (place_text (slice_index_or ns place.pattern []) place.before)) c.names-in-Some.ensures.value))
          (At place.pattern place.before head cells names differs))
          c.difference_text.ensures.value;
    }

pub returns-in-None : goal.returns-in-None
returns-in-None c =
    let a = meant_by c.args.old.now c.args.stil.now in
    let b = meant_by c.args.new.now c.args.new_stil.now in
    let alike = AreAlikeSets c.args.old.now c.args.new.now in
    let head : a.head ≡ b.head = sym (ap head_tokens c.head_text.ensures.value) ∙ c.same_head.ensures.value.0 c.if-not-same_head.false ∙ ap head_tokens c.head_text-2.ensures.value in
    let cells : alike = c.in_ok-have_same_cells.ensures.value.0 c.if-not-branch.false in
    let names : a.names ≡ b.names = sym c.names.ensures.value ∙ c.have_same_names.ensures.value.0 c.if-not-have_same_names.false ∙ c.names-2.ensures.value in
    let same = subst (λ (o : Option Place). IsPlaceOf a.played b.played o) c.in-None.is c.in_ok-place.ensures.value in
    let meaning = same_meaning c.args.old.now c.args.new.now c.args.stil.now c.args.new_stil.now c.requires.old_patterns c.requires.new_patterns head names
    (c.in_ok-have_same_cells.ensures.count c.if-not-branch.false) same in
    record { value = IfOk-weaker c.copy-in-None.result _ _ (λ text e. subst (Says a b alike) (sym e) (Same cells meaning)) c.copy-in-None.ensures.value }
