-- The path in the order of the words is the read one rearranged, where another last one is only asked of an output that is
-- assigned or direct.
use Rattle.std.proofs.Common.{◌≡◌, ◌≢◌, ℕ, false, List, [], ◌∷◌, ◌++◌, inl, inr, refl, sym, ap, ◌∙◌, subst, arith}
use Rattle.std.proofs.lemmas.Bool.{cases_Bool, or_from}
use Rattle.std.proofs.lemmas.List.{append-nil}
use Rattle.std.specs.Prelude.{Contains, filter_map}
use Rattle.netlist_core.specs.declared.netlist.Netlist.{Netlist}
use Rattle.cell_table.specs.Cells.{Cells}
use Rattle.cell_table.proofs.TablePins.{one_cell_once}
use Rattle.chain_trace.specs.declared.path.Step.{Step}
use Rattle.chain_trace.specs.declared.path.Path.{Path}
use Rattle.chain_trace.specs.declared.path.Source.TheVariants as sources
use Rattle.chain_trace.specs.Paths.{StandOnce}
use Rattle.path_links.specs.Free.{is_free}
use Rattle.path_links.specs.Direct.{last_of, is_direct_from}
use Rattle.net_edit.specs.Rearranged.{AreRearranged}
use Rattle.net_edit.proofs.TablePins.{pins_once}
use Rattle.rewire_command.specs.declared.rewire.Rewire.{Rewire}
use Rattle.rewire_command.specs.Rewiring.{cells_of, instance_names, step_named, ordered, is_free_at_end, IsTraced}
use Rattle.rewire_command.specs.Faults.{last_name, AreInstances}
use Rattle.rewire_command.proofs.Members.{IsIn}
use Rattle.rewire_command.proofs.Reorderings.{in_contains, contains_in, last_same, ordered_names, units, new_units, to_old, to_new, once}

none_left : {X : Type 0} (xs ys : List X) → ((x : X) → IsIn x ys → IsIn x xs) → xs ≡ [] → ys ≡ []
none_left xs [] to none = refl
none_left {X} xs (y ∷ ys) to none = absurd (subst (λ (l : List X). IsIn y l) none (to y (inl refl)))

module _ (text : List ℕ) (w : Rewire) (n : Netlist) (path : Path) (traced : IsTraced text w n path) (are : AreInstances w.units (instance_names n path)) where
  abbrev new : List Step
  new = filter_map (step_named n path) w.units

  old_in : (step : Step) → IsIn step new → IsIn step path.steps
  old_in step i = to_old text w n path traced are step i

  new_in : (step : Step) → IsIn step path.steps → IsIn step new
  new_in step i = to_new text w n path traced are step i

  pub rearranged : w.in_pin ≢ w.out_pin → (is_free_at_end n w path path.output ≡ false → last_name w.units ≡ last_name (instance_names n path))
      → AreRearranged n (cells_of w) (path ∷ []) (ordered n path w.units ∷ [])
  rearranged differ last =
      let news : new ++ [] ≡ new = append-nil new in
      let olds : path.steps ++ [] ≡ path.steps = append-nil path.steps in
      record {
        aligned = (
          record {
            read = traced.is;
            input = refl;
            output = refl;
            old_some = λ none. none_left new path.steps new_in none;
            new_some = λ none. none_left path.steps new old_in none;
            free = λ moved. elim (cases_Bool (is_free n path.output)) [
              | inl free ↦ inl free
              | inr pinned ↦ elim (cases_Bool (is_direct_from n (cells_of w) path.output (last_of path))) [
                | inl direct ↦ inr direct
                | inr indirect ↦ absurd (moved (last_same n (sources.Port path.input) new path.steps traced.reads.sound (new_units text w n path traced are) (units text w n path traced are) old_in new_in
                    (ap last_name (ordered_names text w n path traced are) ∙ last (or_from (is_free n path.output) (is_direct_from n (cells_of w) path.output (last_of path)) pinned indirect))))
              ]
            ];
          },
          tt,
        );
        outputs = λ i j d lt ut same. omega (arith, lt, ut);
        steps = λ step. (
          (λ c. subst (λ (l : List Step). Contains l step) (sym olds) (in_contains path.steps step (old_in step (contains_in new step (subst (λ (l : List Step). Contains l step) news c))))),
          (λ c. subst (λ (l : List Step). Contains l step) (sym news) (in_contains new step (new_in step (contains_in path.steps step (subst (λ (l : List Step). Contains l step) olds c))))),
        );
        once = subst StandOnce (sym news) (once text w n path traced are);
        pins = pins_once n (cells_of w) (one_cell_once w.cell w.in_pin w.out_pin differ);
      }

  pub are_rearranged : (cells : Cells) (made : Path) → w.in_pin ≢ w.out_pin → (is_free_at_end n w path path.output ≡ false → last_name w.units ≡ last_name (instance_names n path))
      → cells ≡ cells_of w → made ≡ ordered n path w.units → AreRearranged n cells (path ∷ []) (made ∷ [])
  are_rearranged cells made differ last same made_is = rw (same, made_is) (rearranged differ last)
