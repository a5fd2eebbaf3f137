-- The paths of a design as numbers, as the laws of plans take them, which of their outputs count as free, and that these lie apart.
use Rattle.std.proofs.Common.{◌≡◌, ℕ, ◌<◌, ◌||◌, not, List, [], length, map, get_or, refl, sym, ap, ◌∙◌, subst, arith}
use Rattle.std.specs.Prelude.{Some}
use Rattle.std.specs.List.{filter_map}
use Rattle.std.proofs.lemmas.Bool.{and_parts, or_cases}
use Rattle.std.proofs.lemmas.List.{length-map}
use Rattle.netlist_core.specs.declared.netlist.NetId.{NetId}
use Rattle.netlist_core.specs.declared.netlist.Netlist.{Netlist}
use Rattle.netlist_core.specs.Netlists.{plain_of, AreDistinct}
use Rattle.cell_table.specs.Cells.{Cells}
use Rattle.def_reader.specs.declared.design.Design.{Design}
use Rattle.chain_trace.specs.declared.path.Path.{Path}
use Rattle.path_links.specs.Free.{is_free}
use Rattle.path_links.specs.Direct.{last_of, is_direct, is_direct_from}
use Rattle.net_edit.specs.Rearranged.{AreOutputsApart}
use Rattle.plan_paths.specs.Laws.{AreFreeOutputs}
use Rattle.plan_paths.specs.NewPaths.{absent_path}
use Rattle.plan_paths.specs.Numbered.{PathNumbers, numbered_paths}
use Rattle.plan_paths.proofs.Arranged.{get_map}
use Rattle.traced_paths.specs.Asked.{Asked}
use Rattle.path_numbers.specs.Numbers.{has_extra, is_free_output, step_spec, path_specs}
use Rattle.traced_paths.specs.Traced.{ArePathsOf}
use Rattle.traced_paths.proofs.OnceNames.{once_distinct}

abbrev pub numbers : Netlist → Cells → Design → PathNumbers
numbers n cells d = record { of_step = step_spec n cells; free = is_free_output n cells (Some d); keeps = λ step. record { instance = refl; path = refl } }

pub specs_are : (n : Netlist) (cells : Cells) (d : Design) (paths : List Path) → path_specs n cells (Some d) paths ≡ numbered_paths (numbers n cells d) paths
specs_are n cells d paths = refl

-- an output that counts as free is assigned or direct
pub free_outputs : (n : Netlist) (cells : Cells) (d : Design) (paths : List Path) → AreFreeOutputs (numbers n cells d) n cells paths
free_outputs n cells d paths = λ p there free.
    or_cases (is_free n p.output) (is_direct_from n cells p.output (last_of p)) (and_parts (is_free n p.output || is_direct n cells p) (not (has_extra (Some d) (plain_of n.nets p.output))) free).0

module _ (n : Netlist) where
  abbrev name_of : Path → List ℕ
  name_of p = plain_of n.nets p.output

  abbrev name_at : ℕ → List ℕ
  name_at k = let net : NetId = record { 0 = k } in plain_of n.nets net

  abbrev number_of : Path → ℕ
  number_of p = p.output.0

  -- outputs with different names are different
  by_names : (paths : List Path) → AreDistinct (map name_of paths) → AreOutputsApart paths
  by_names paths names i j d li lj e =
      let numbered : length (map number_of paths) ≡ length paths = length-map paths number_of in
      let named : length (map name_of paths) ≡ length paths = length-map paths name_of in
      let hi : i < length paths = omega (arith, li, numbered) in
      let hj : j < length paths = omega (arith, lj, numbered) in
      let one : number_of (get_or paths i absent_path) ≡ number_of (get_or paths j absent_path)
      = sym (get_map number_of paths i absent_path d hi) ∙ e ∙ get_map number_of paths j absent_path d hj
      in
      names i j [] (omega (arith, hi, named)) (omega (arith, hj, named))
      (get_map name_of paths i absent_path [] hi ∙ ap name_at one ∙ sym (get_map name_of paths j absent_path [] hj))

  pub outputs_apart : (cells : Cells) (asked : List Asked) (paths : List Path) → ArePathsOf n cells asked paths → AreOutputsApart paths
  outputs_apart cells asked paths traced =
      by_names paths (subst (λ (l : List (List ℕ)). AreDistinct l) (sym traced.outputs) (once_distinct [] (filter_map (λ (a : Asked). a.output) asked)))
