-- Paths over the same steps make the same chains on netlists of the same instances.
use Rattle.std.proofs.Common.{◌≡◌, ℕ, zero, suc, List, [], ◌∷◌, ◌++◌, length, map, flat_map, count_by, slice_index_or, Option, Some, None, false, refl, sym, ap, ◌∙◌}
use Rattle.std.specs.List.{slice_get}
use Rattle.std.specs.Ordering.{is_lt}
use Rattle.netlist_core.specs.declared.netlist.Instance.{Instance}
use Rattle.netlist_core.specs.declared.netlist.Netlist.{Netlist}
use Rattle.netlist_core.specs.declared.netlist.NetName.{NetName}
use Rattle.netlist_core.specs.Netlists.{NamedInstance, NamedNetlist, named, named_instance}
use Rattle.cell_table.specs.declared.paths.ScanPath.{ScanPath}
use Rattle.cell_table.specs.Cells.{Cells, ◌>>=◌}
use Rattle.cell_table.specs.Table.{paths_at}
use Rattle.chain_trace.specs.declared.path.BitId.{BitId}
use Rattle.chain_trace.specs.declared.path.PathBits.{PathBits}
use Rattle.chain_trace.specs.declared.path.Step.{Step}
use Rattle.chain_trace.specs.declared.path.Path.{Path}
use Rattle.chain_trace.specs.Paths.{scan_path_at, out_pin_at}
use Rattle.chain_trace.specs.Parities.{Mark, entry_marks, step_marks, path_marks, bits_in, parities, last_parity}
use Rattle.path_links.specs.declared.sinks.Sinks.{Sinks}
use Rattle.path_links.specs.Erasure.{erased_instance, erased_netlist}
use Rattle.net_edit.specs.Erased.{NamedTail, untailed_instance, without_tails}
use Rattle.stil_tester.specs.declared.chains.Chains.{Chains}
use Rattle.stil_tester.specs.declared.chains.ChainBits.{ChainBits}
use Rattle.path_chains.specs.Numbered.{bits_along, bits_of_paths, chain_of, chains_of}
use Rattle.path_chains.specs.Ranked.{name_of, key_of, key_cmp, comes_before, rank_of, bits_of_all, ranked_chains, chains_along}
use Rattle.chain_maps.specs.Along.{HaveSameInstances}
use Rattle.path_chains.proofs.BitRanks.{name_at}

abbrev of_marks : List Mark → PathBits
of_marks ms = record { bits = bits_in ms; parity = parities false ms; out_parity = last_parity false ms }

by_steps : (n : Netlist) (cells : Cells) (ps : List Path) → map (bits_along n cells) ps ≡ map (λ (steps : List Step). of_marks (path_marks n cells steps)) (map (λ (path : Path). path.steps) ps)
by_steps n cells [] = refl
by_steps n cells (p ∷ ps) = ap (λ (xs : List PathBits). bits_along n cells p ∷ xs) (by_steps n cells ps)

-- a scan path, by the cell of its instance

abbrev cell_of : Option Instance → Option (List ℕ)
cell_of None = None
cell_of (Some instance) = Some instance.cell

abbrev path_by : Cells → ℕ → Option (List ℕ) → Option ScanPath
path_by cells k None = None
path_by cells k (Some cell) = paths_at cell cells >>= λ paths. slice_get paths k

path_by_is : (cells : Cells) (k : ℕ) (o : Option Instance) → (o >>= λ placed. paths_at placed.cell cells >>= λ paths. slice_get paths k) ≡ path_by cells k (cell_of o)
path_by_is cells k None = refl
path_by_is cells k (Some instance) = refl

cells_at : (xs ys : List Instance) (i : ℕ) → map (λ (instance : Instance). instance.cell) xs ≡ map (λ (instance : Instance). instance.cell) ys → cell_of (slice_get xs i) ≡ cell_of (slice_get ys i)
cells_at [] [] i e = refl
cells_at [] (y ∷ ys) i e = absurd cc
cells_at (x ∷ xs) [] i e = absurd cc
cells_at (x ∷ xs) (y ∷ ys) zero e = let here : x.cell ≡ y.cell = cc in ap (λ (cell : List ℕ). Some cell) here
cells_at (x ∷ xs) (y ∷ ys) (suc i) e =
    let rest : map (λ (instance : Instance). instance.cell) xs ≡ map (λ (instance : Instance). instance.cell) ys = cc in cells_at xs ys i rest

module _ (n m : Netlist) (cells : Cells) (same : HaveSameInstances n m) where
  scan_same : (i k : ℕ) → scan_path_at m cells i k ≡ scan_path_at n cells i k
  scan_same i k =
      path_by_is cells k (slice_get m.instances i) ∙ ap (path_by cells k) (cells_at m.instances n.instances i same.cells) ∙ sym (path_by_is cells k (slice_get n.instances i))

  out_same : (s : Step) → out_pin_at m cells s ≡ out_pin_at n cells s
  out_same s = ap (λ (o : Option ScanPath). o >>= λ path. slice_get path.outs s.out) (scan_same s.instance s.path)

  marks_same : (s : Step) → step_marks m cells s ≡ step_marks n cells s
  marks_same s = λ i. entry_marks s (scan_same s.instance s.path i) (out_same s i)

  steps_same : (steps : List Step) → path_marks m cells steps ≡ path_marks n cells steps
  steps_same steps = λ i. flat_map (λ (s : Step). marks_same s i) steps

  bits_same : (old new : List Path) → map (λ (path : Path). path.steps) new ≡ map (λ (path : Path). path.steps) old → map (bits_along m cells) new ≡ map (bits_along n cells) old
  bits_same old new e =
      let by = λ (steps : List (List Step)). map (λ (ss : List Step). of_marks (path_marks m cells ss)) steps in
      let turn : by (map (λ (path : Path). path.steps) old) ≡ map (λ (ss : List Step). of_marks (path_marks n cells ss)) (map (λ (path : Path). path.steps) old)
      = λ i. map (λ (ss : List Step). of_marks (steps_same ss i)) (map (λ (path : Path). path.steps) old) in
      by_steps m cells new ∙ ap by e ∙ turn ∙ sym (by_steps n cells old)

  name_same : (i : ℕ) → name_of (slice_get m.instances i) ≡ name_of (slice_get n.instances i)
  name_same i = sym (name_at m.instances i) ∙ ap (λ (names : List (List ℕ)). slice_index_or names i []) same.names ∙ name_at n.instances i

  key_same : (b : BitId) → ◌≡◌ {A = List ℕ × ℕ × ℕ} (key_of m b) (key_of n b)
  key_same b = ap {B = List ℕ × ℕ × ℕ} (λ (name : List ℕ). (name, b.path, b.index)) (name_same b.instance)

  before_same : (a b : BitId) → comes_before m a b ≡ comes_before n a b
  before_same a b = λ i. is_lt (key_cmp (key_same a i) (key_same b i))

  rank_same : (bits : List BitId) (b : BitId) → rank_of m bits b ≡ rank_of n bits b
  rank_same bits b = λ i. count_by (λ (other : BitId). before_same other b i) bits

  chains_same : (ps : List PathBits) → ranked_chains m ps ≡ ranked_chains n ps
  chains_same ps = λ i. record { chains = map (chain_of (λ (b : BitId). rank_same (bits_of_all ps) b i)) ps; cells = length (bits_of_all ps) }

  pub same_along : (old new : List Path) → map (λ (path : Path). path.steps) new ≡ map (λ (path : Path). path.steps) old → chains_along m cells new ≡ chains_along n cells old
  same_along old new e = chains_same (map (bits_along m cells) new) ∙ ap (ranked_chains n) (bits_same old new e)

-- instances keep their names and cells

names_kept : (nets : List NetName) (sinks : Sinks) (xs : List Instance) → map (λ (x : NamedInstance). x.name) (map (erased_instance sinks) (map (named_instance nets) xs)) ≡ map (λ (x : Instance). x.name) xs
names_kept nets sinks [] = refl
names_kept nets sinks (x ∷ xs) = ap (λ (names : List (List ℕ)). x.name ∷ names) (names_kept nets sinks xs)

names_left : (nets : List NetName) (sinks : Sinks) (tails : List NamedTail) (xs : List Instance)
    → map (λ (x : NamedInstance). x.name) (map (erased_instance sinks) (map (untailed_instance tails) (map (named_instance nets) xs))) ≡ map (λ (x : Instance). x.name) xs
names_left nets sinks tails [] = refl
names_left nets sinks tails (x ∷ xs) = ap (λ (names : List (List ℕ)). x.name ∷ names) (names_left nets sinks tails xs)

cells_kept : (nets : List NetName) (sinks : Sinks) (xs : List Instance) → map (λ (x : NamedInstance). x.cell) (map (erased_instance sinks) (map (named_instance nets) xs)) ≡ map (λ (x : Instance). x.cell) xs
cells_kept nets sinks [] = refl
cells_kept nets sinks (x ∷ xs) = ap (λ (names : List (List ℕ)). x.cell ∷ names) (cells_kept nets sinks xs)

cells_left : (nets : List NetName) (sinks : Sinks) (tails : List NamedTail) (xs : List Instance)
    → map (λ (x : NamedInstance). x.cell) (map (erased_instance sinks) (map (untailed_instance tails) (map (named_instance nets) xs))) ≡ map (λ (x : Instance). x.cell) xs
cells_left nets sinks tails [] = refl
cells_left nets sinks tails (x ∷ xs) = ap (λ (names : List (List ℕ)). x.cell ∷ names) (cells_left nets sinks tails xs)

pub same_instances : (n m : Netlist) (sinks : Sinks) (tails : List NamedTail) → erased_netlist sinks (without_tails tails (named m)) ≡ erased_netlist sinks (named n) → HaveSameInstances n m
same_instances n m sinks tails e = record {
  names = sym (names_left m.nets sinks tails m.instances) ∙ ap (λ (x : NamedNetlist). map (λ (placed : NamedInstance). placed.name) x.instances) e ∙ names_kept n.nets sinks n.instances;
  cells = sym (cells_left m.nets sinks tails m.instances) ∙ ap (λ (x : NamedNetlist). map (λ (placed : NamedInstance). placed.cell) x.instances) e ∙ cells_kept n.nets sinks n.instances;
}
