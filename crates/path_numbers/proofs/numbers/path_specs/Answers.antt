use Rattle.std.proofs.Common.{List, ◌≡◌, ◌+◌, ◌++◌, ◌∷◌, [], length, sym, ap, ◌∙◌, subst, arith}
use Rattle.std.specs.Prelude.{Option, option_map}
use Rattle.def_reader.specs.declared.design.Design.{Design}
use Rattle.chain_trace.specs.declared.path.Step.{Step}
use Rattle.chain_rules.specs.declared.spec.PathSpec.{PathSpec}
use Rattle.list_laws.proofs.RowsMore.{map_next}
use Rattle.path_numbers.specs.Numbers.{path_spec, step_count}
use Rattle.path_numbers.proofs.PathNumbers.{output_within, count_more}
use Rattle.path_numbers.proofs.numbers.path_specs.Goals as goal

pub path_spec-requires-clause-within : goal.path_spec-requires-clause-within
path_spec-requires-clause-within c = output_within c.args.netlist.now c.args.paths.now c.loop-path.path-index c.path-item.result c.requires.netlist c.requires.outputs c.loop-path-test.true c.path-item.is

pub loop-path-preserved : goal.loop-path-preserved
loop-path-preserved c =
    let n = c.args.netlist.now in
    let cells = c.args.table.now in
    let d = option_map (λ d. d.now) c.args.design in
    let x = c.path-item.result in
    let value : c.in_ok-path_spec.field-0 ≡ path_spec n cells d x = c.in_ok-path_spec.ensures.value ∙ ap (λ (e : Option Design). path_spec n cells e x) c.in_ok-extras.ensures.value in
    record {
      is = c.in_ok-push.ensures.items
          ∙ ap (λ (s : PathSpec). c.loop-path.specs.items ++ s ∷ []) value
          ∙ ap (λ (l : List PathSpec). l ++ path_spec n cells d x ∷ []) c.loop-path.invariant.is
          ∙ sym (map_next (path_spec n cells d) c.args.paths.now c.loop-path.path-index x c.loop-path-test.true c.path-item.is);
      count = subst (λ (l : List PathSpec). c.in_ok-steps.steps ≡ step_count l) (sym c.in_ok-push.ensures.items)
          (count_more n cells d c.loop-path.specs.items c.in_ok-path_spec.field-0 x c.loop-path.steps c.in_ok-steps.steps value c.loop-path.invariant.count
          (c.in_ok-steps.ensures.value ∙ ap (λ (l : List Step). c.loop-path.steps + length l) c.as_slice.ensures.value));
      few = c.in_ok-steps.ensures.few;
    }

pub returns-clause-few : goal.returns-clause-few
returns-clause-few c = omega (arith, c.loop-path.invariant.count, c.loop-path.invariant.few)
