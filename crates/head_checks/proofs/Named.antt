-- Names beside the bits of a path, step by step.
use Rattle.std.proofs.Common.{◌≡◌, ℕ, zero, suc, ◌+◌, ◌-◌, ◌<◌, ◌≤◌, ◌&&◌, Bool, true, false, List, [], ◌∷◌, ◌++◌, length, take, drop, replicate, get_or, refl, sym, ap, ap₂, ◌∙◌, arith}
use Rattle.std.specs.List.{flat_map, list_all, slice_get}
use Rattle.std.proofs.lemmas.List.{drop_more, drop_all, drop-drop, length-drop}
use Rattle.std.proofs.lemmas.Bool.{ne_eqb}
use Rattle.std.proofs.Math.Dec.{eqb}
use Rattle.chain_trace.proofs.Named.{eqb_same}
use Rattle.netlist_core.specs.declared.netlist.Netlist.{Netlist}
use Rattle.cell_table.specs.Cells.{Cells}
use Rattle.chain_trace.specs.declared.path.Step.{Step}
use Rattle.traced_paths.specs.Bits.{step_bits}
use Rattle.head_checks.specs.CellNames.{names_cell, name_each}
use Rattle.head_checks.specs.Heads.{name_of, step_names}

module _ (outer instance : List ℕ) where
  -- too few names
  pub few : (count : ℕ) (rest names : List (List ℕ)) → length names < count → name_each outer (replicate count instance ++ rest) names ≡ false
  few zero rest names lt = absurd (omega arith)
  few (suc n) rest [] lt = refl
  few (suc n) rest (name ∷ names) lt = and_false (names_cell outer instance name) _ (few n rest names (omega arith)) where
    and_false : (a b : Bool) → b ≡ false → (a && b) ≡ false
    and_false true b e = e
    and_false false b e = refl

  -- the names of one step, and those behind
  pub cut : (count : ℕ) (rest names : List (List ℕ)) → count ≤ length names
      → name_each outer (replicate count instance ++ rest) names ≡ (list_all (names_cell outer instance) (take count names) && name_each outer rest (drop count names))
  cut zero rest names le = refl
  cut (suc n) rest [] le = absurd (omega arith)
  cut (suc n) rest (name ∷ names) le = turn (names_cell outer instance name) _ _ _ (cut n rest names (omega arith)) where
    turn : (a b c d : Bool) → b ≡ (c && d) → (a && b) ≡ ((a && c) && d)
    turn true b c d e = e
    turn false b c d e = refl

module _ (n : Netlist) (cells : Cells) (steps : List Step) (i : ℕ) (d : Step) (lt : i < length steps) where
  abbrev name : List ℕ
  name = name_of (slice_get n.instances (get_or steps i d).instance)

  abbrev bits : ℕ
  bits = step_bits n cells (get_or steps i d)

  abbrev rest : List (List ℕ)
  rest = flat_map (step_names n cells) (drop (i + 1) steps)

  one_step : flat_map (step_names n cells) (drop i steps) ≡ replicate bits name ++ rest
  one_step = ap (flat_map (step_names n cells)) (drop_more steps i d lt)

  pub too_few : (outer : List ℕ) (at : ℕ) (names : List (List ℕ)) (count : ℕ) (all : Bool) → at ≤ length names → count ≡ bits → length names - at < count
      → name_each outer (flat_map (step_names n cells) (drop i steps)) (drop at names) ≡ all → false ≡ all
  too_few outer at names count all le is few_left same =
      let len = length-drop at names in
      sym (few outer name bits rest (drop at names) (omega (arith, len))) ∙ sym (ap (λ (l : List (List ℕ)). name_each outer l (drop at names)) one_step) ∙ same

  pub one_more : (outer shown instance : List ℕ) (at : ℕ) (names : List (List ℕ)) (count : ℕ) (here all : Bool) → at ≤ length names → count ≡ bits → count ≤ length names - at
      → shown ≡ outer → instance ≡ name → here ≡ list_all (names_cell shown instance) (take ((at + count) - at) (drop at names))
      → name_each outer (flat_map (step_names n cells) (drop i steps)) (drop at names) ≡ all
      → all ≡ (here && name_each outer rest (drop (at + count) names))
  one_more outer shown instance at names count here all within is le shows named told same =
      let len = length-drop at names in
      let width : (at + count) - at ≡ bits = omega (arith, is) in
      let list : here ≡ list_all (names_cell outer name) (take bits (drop at names)) =
      told ∙ ap (λ (k : ℕ). list_all (names_cell shown instance) (take k (drop at names))) width
      ∙ ap₂ (λ (o x : List ℕ). list_all (names_cell o x) (take bits (drop at names))) shows named in
      sym same ∙ ap (λ (l : List (List ℕ)). name_each outer l (drop at names)) one_step
      ∙ cut outer name bits rest (drop at names) (omega (arith, len))
      ∙ ap (λ (b : Bool). b && name_each outer rest (drop bits (drop at names))) (sym list)
      ∙ ap (λ (l : List (List ℕ)). here && name_each outer rest l) (drop-drop bits at names ∙ ap (λ (k : ℕ). drop (at + k) names) (sym is))

-- one of its names is of another cell
pub not_here : (here other all : Bool) → here ≡ false → all ≡ (here && other) → false ≡ all
not_here here other all e is = sym (is ∙ ap (λ (b : Bool). b && other) e)

-- all of its names are of its cell
pub all_here : (here other all : Bool) → here ≡ true → all ≡ (here && other) → other ≡ all
all_here here other all e is = sym (is ∙ ap (λ (b : Bool). b && other) e)

-- where no bit is left, no name is left
no_more : (outer : List ℕ) (rest : List (List ℕ)) (at len : ℕ) → length rest ≡ len - at → at ≤ len → eqb at len ≡ name_each outer [] rest
no_more outer [] at len is le = let same : at ≡ len = omega (arith, is) in ap (λ (k : ℕ). eqb k len) same ∙ eqb_same len
no_more outer (name ∷ names) at len is le = ne_eqb at len (λ same. absurd (omega (arith, is, same)))

-- behind the last step no name is left
pub none_left : (outer : List ℕ) (n : Netlist) (cells : Cells) (steps : List Step) (names : List (List ℕ)) (i at : ℕ) (all : Bool) → length steps ≤ i → at ≤ length names
    → name_each outer (flat_map (step_names n cells) (drop i steps)) (drop at names) ≡ all → eqb at (length names) ≡ all
none_left outer n cells steps names i at all done le same =
    no_more outer (drop at names) at (length names) (length-drop at names) le
    ∙ sym (ap (λ (l : List Step). name_each outer (flat_map (step_names n cells) l) (drop at names)) (drop_all i steps done)) ∙ same
