-- What is the same on a netlist that keeps the module's name and the instances.
use Rattle.std.proofs.Common.{◌≡◌, ℕ, zero, suc, List, [], ◌∷◌, map, replicate, sum_by, Option, Some, None, refl, sym, ap, ◌∙◌}
use Rattle.std.specs.List.{flat_map, slice_get}
use Rattle.netlist_core.specs.declared.netlist.Instance.{Instance}
use Rattle.netlist_core.specs.declared.netlist.Netlist.{Netlist}
use Rattle.netlist_core.specs.Netlists.{NamedNetlist}
use Rattle.cell_table.specs.declared.paths.ScanPath.{ScanPath}
use Rattle.cell_table.specs.Cells.{Cells, ◌>>=◌}
use Rattle.cell_table.specs.Table.{paths_at}
use Rattle.chain_trace.specs.declared.path.Step.{Step}
use Rattle.chain_trace.specs.Paths.{scan_path_at, out_pin_at}
use Rattle.chain_trace.specs.Parities.{odd, entry_inversions, path_parity}
use Rattle.traced_paths.specs.Bits.{length_of, step_bits}
use Rattle.head_checks.specs.Heads.{name_of, step_names}
use Rattle.chain_maps.specs.Along.{HaveSameInstances}
use Rattle.chain_maps.proofs.Along.{same_instances}
use Rattle.head_writer.specs.Anew.{KeptLaw}

pub kept : KeptLaw
kept n w sinks tails e = record {
  name = ap (λ (x : NamedNetlist). x.module_name) e;
  instances = same_instances n w sinks tails e;
}

-- an instance by its cell, and by its name

abbrev cell_of : Option Instance → Option (List ℕ)
cell_of None = None
cell_of (Some instance) = Some instance.cell

abbrev path_by : Cells → ℕ → Option (List ℕ) → Option ScanPath
path_by cells k None = None
path_by cells k (Some cell) = paths_at cell cells >>= λ paths. slice_get paths k

path_by_is : (cells : Cells) (k : ℕ) (o : Option Instance) → (o >>= λ placed. paths_at placed.cell cells >>= λ paths. slice_get paths k) ≡ path_by cells k (cell_of o)
path_by_is cells k None = refl
path_by_is cells k (Some instance) = refl

cells_at : (xs ys : List Instance) (i : ℕ) → map (λ (instance : Instance). instance.cell) xs ≡ map (λ (instance : Instance). instance.cell) ys → cell_of (slice_get xs i) ≡ cell_of (slice_get ys i)
cells_at [] [] i e = refl
cells_at [] (y ∷ ys) i e = absurd cc
cells_at (x ∷ xs) [] i e = absurd cc
cells_at (x ∷ xs) (y ∷ ys) zero e = let here : x.cell ≡ y.cell = cc in ap (λ (cell : List ℕ). Some cell) here
cells_at (x ∷ xs) (y ∷ ys) (suc i) e =
    let rest : map (λ (instance : Instance). instance.cell) xs ≡ map (λ (instance : Instance). instance.cell) ys = cc in cells_at xs ys i rest

names_at : (xs ys : List Instance) (i : ℕ) → map (λ (instance : Instance). instance.name) xs ≡ map (λ (instance : Instance). instance.name) ys → name_of (slice_get xs i) ≡ name_of (slice_get ys i)
names_at [] [] i e = refl
names_at [] (y ∷ ys) i e = absurd cc
names_at (x ∷ xs) [] i e = absurd cc
names_at (x ∷ xs) (y ∷ ys) zero e = let here : x.name ≡ y.name = cc in here
names_at (x ∷ xs) (y ∷ ys) (suc i) e =
    let rest : map (λ (instance : Instance). instance.name) xs ≡ map (λ (instance : Instance). instance.name) ys = cc in names_at xs ys i rest

module _ (n w : Netlist) (cells : Cells) (same : HaveSameInstances n w) where
  scan_same : (i k : ℕ) → scan_path_at w cells i k ≡ scan_path_at n cells i k
  scan_same i k =
      path_by_is cells k (slice_get w.instances i) ∙ ap (path_by cells k) (cells_at w.instances n.instances i same.cells) ∙ sym (path_by_is cells k (slice_get n.instances i))

  out_same : (s : Step) → out_pin_at w cells s ≡ out_pin_at n cells s
  out_same s = ap (λ (o : Option ScanPath). o >>= λ path. slice_get path.outs s.out) (scan_same s.instance s.path)

  bits_same : (s : Step) → step_bits w cells s ≡ step_bits n cells s
  bits_same s = ap length_of (scan_same s.instance s.path)

  name_same : (i : ℕ) → name_of (slice_get w.instances i) ≡ name_of (slice_get n.instances i)
  name_same i = names_at w.instances n.instances i same.names

  -- the bits, the parity and the names of bits over some steps

  pub count_same : (steps : List Step) → sum_by (step_bits w cells) steps ≡ sum_by (step_bits n cells) steps
  count_same steps = λ i. sum_by (λ (s : Step). bits_same s i) steps

  pub parity_same : (steps : List Step) → path_parity w cells steps ≡ path_parity n cells steps
  parity_same steps = λ i. odd (flat_map (λ (s : Step). entry_inversions (scan_same s.instance s.path i) (out_same s i)) steps)

  pub names_same : (steps : List Step) → flat_map (step_names w cells) steps ≡ flat_map (step_names n cells) steps
  names_same steps = λ i. flat_map (λ (s : Step). replicate (bits_same s i) (name_same s.instance i)) steps
