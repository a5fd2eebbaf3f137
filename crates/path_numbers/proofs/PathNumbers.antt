-- Paths as numbers: their outputs, and how many steps they have together.
use Rattle.std.proofs.Common.{◌≡◌, ℕ, ◌+◌, ◌<◌, List, [], ◌∷◌, ◌++◌, length, get_or, sym, ap, subst, arith}
use Rattle.std.specs.Prelude.{Option, All, IsTrue}
use Rattle.std.proofs.lemmas.List.{length-map}
use Rattle.std.proofs.lemmas.List.Sums.{sum_by-append}
use Rattle.std.proofs.lemmas.List.Elements.{All-get_or}
use Rattle.netlist_core.specs.declared.netlist.Netlist.{Netlist}
use Rattle.netlist_core.specs.Netlists.{IsNetlist}
use Rattle.cell_table.specs.Cells.{Cells}
use Rattle.chain_trace.specs.declared.path.Path.{Path}
use Rattle.chain_trace.specs.Paths.{is_driven, has_port}
use Rattle.chain_trace.proofs.Ranges.{port_within}
use Rattle.def_reader.specs.declared.design.Design.{Design}
use Rattle.chain_rules.specs.declared.spec.PathSpec.{PathSpec}
use Rattle.path_numbers.specs.Numbers.{step_spec, path_spec, step_count}

-- the output of each of some paths is a net
pub output_within : (n : Netlist) (paths : List Path) (i : ℕ) (path : Path) → IsNetlist n → All (λ p. IsTrue (has_port is_driven n p.output)) paths → i < length paths → path ≡ get_or paths i path
    → path.output.0 < length n.nets
output_within n paths i path sound all lt is =
    port_within n is_driven path.output sound
    (subst (λ (p : Path). IsTrue (has_port is_driven n p.output)) (sym is) (All-get_or (λ (p : Path). IsTrue (has_port is_driven n p.output)) paths i path lt all))

count_last : (specs : List PathSpec) (spec : PathSpec) → step_count (specs ++ spec ∷ []) ≡ step_count specs + length spec.steps
count_last specs spec = let e = sum_by-append (λ (s : PathSpec). length s.steps) specs (spec ∷ []) in omega arith

-- one path more is counted
pub count_more : (n : Netlist) (cells : Cells) (d : Option Design) (specs : List PathSpec) (spec : PathSpec) (path : Path) (before after : ℕ) → spec ≡ path_spec n cells d path → before ≡ step_count specs
    → after ≡ before + length path.steps → after ≡ step_count (specs ++ spec ∷ [])
count_more n cells d specs spec path before after is was more =
    let len = ap (λ (s : PathSpec). length s.steps) is in
    omega (arith, count_last specs spec, len, length-map path.steps (step_spec n cells))
