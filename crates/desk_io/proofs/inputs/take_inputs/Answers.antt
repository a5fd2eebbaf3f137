use Rattle.std.proofs.Common.{◌≡◌, ◌<◌, ◌≤◌, ℕ, length, Some, set, sym, subst, arith, rules}
use Rattle.std.proofs.lemmas.Grind.{common_steps}
use Rattle.desk_io.specs.Number.{number}
use Rattle.desk_io.specs.Names.{IsNamed}
use Rattle.desk_io.specs.Inputs.{limit_of, HasTakenInputs}
use Rattle.desk_io.proofs.Taken.{one_more, one_skipped}
use Rattle.desk_io.proofs.inputs.take_inputs.Goals as goal
use Rattle.desk_io.proofs.inputs.take_inputs.Goals.{in-Some+in-Ok+in-Some-1, in-Some+in-Ok+in-None-1, in_default}

pub loop-at-preserved : goal.loop-at-preserved
loop-at-preserved g c =
    let at = c.input_slot-slot.ensures.number in
    let P : ℕ → Type 0 = λ n. HasTakenInputs c.args.names.now n c.loop-at.texts (g.D.Desk.state c.args.desk.now) (g.D.Desk.state c.loop-at.desk) in
    let before = subst P (sym at) c.loop-at.invariant.taken in
    let less : number c.input_slot-slot.result < length c.loop-at.texts = omega (arith, c.loop-at.invariant.eight) in
    elim c.match-name_of.branch [
      | in-Some+in-Ok+in-Some-1 w ↦
          let named : IsNamed c.args.names.now c.input_slot-slot.result = search rules in
          let small : length w.in-Ok.text ≤ limit_of c.input_slot-slot.result = search rules in
          let texts : c.match-name_of.texts ≡ set c.loop-at.texts (number c.input_slot-slot.result) (Some w.in-Ok.text) = search rules in
          record {
            eight = grind (arith, common_steps, c.loop-at.invariant.eight);
            taken = rw (w.desk-is, texts, ← at) (one_more _ _ w.in-Ok.text c.input_slot-slot.result _ _ _ c.input_slot-slot.ensures.input named less before w.in-Ok.ensures.ok small w.take_file.ensures.elsewhere);
            same_names = search rules;
          }
      | in-Some+in-Ok+in-None-1 w ↦
          let named : IsNamed c.args.names.now c.input_slot-slot.result = search rules in
          let small : length w.in-Ok.text ≤ limit_of c.input_slot-slot.result = search rules in
          let texts : c.match-name_of.texts ≡ set c.loop-at.texts (number c.input_slot-slot.result) (Some w.in-Ok.text) = search rules in
          record {
            eight = grind (arith, common_steps, c.loop-at.invariant.eight);
            taken = rw (w.desk-is, texts, ← at) (one_more _ _ w.in-Ok.text c.input_slot-slot.result _ _ _ c.input_slot-slot.ensures.input named less before w.in-Ok.ensures.ok small w.take_file.ensures.elsewhere);
            same_names = search rules;
          }
      | in_default w ↦
          let unnamed : IsNamed c.args.names.now c.input_slot-slot.result → ⊥ = search rules in
          record {
            eight = rw w.texts-is c.loop-at.invariant.eight;
            taken = rw (w.desk-is, w.texts-is, ← at) (one_skipped _ _ c.input_slot-slot.result _ _ unnamed before);
            same_names = search rules;
          }
    ]
