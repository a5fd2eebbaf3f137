-- The chains along the paths that a head declares: the calls of its patterns fit them.
use Rattle.std.proofs.Common.{◌≡◌, ℕ, List, [], ◌∷◌, length, map, refl, sym, ap₂, ◌∙◌, subst}
use Rattle.std.proofs.lemmas.List.{length-map}
use Rattle.netlist_core.specs.declared.netlist.Netlist.{Netlist}
use Rattle.cell_table.specs.Cells.{Cells}
use Rattle.chain_trace.specs.declared.path.Path.{Path}
use Rattle.stil_tester.specs.declared.chains.ChainBits.{ChainBits}
use Rattle.stil_tester.specs.Shifting.{AreChains, bit_counts}
use Rattle.path_chains.specs.Numbered.{bits_along, bits_of_paths, chain_of}
use Rattle.path_chains.specs.Ranked.{bits_of_all, rank_of, chains_along}
use Rattle.path_chains.proofs.Cells.{same_cells}
use Rattle.path_chains.proofs.RankedChains.{map_twice, rank, ranked_are}
use Rattle.path_chains.proofs.BitRanks.{ranks_number}
use Rattle.path_laws.specs.Laws.{DeclaredLaw}
use Rattle.path_laws.proofs.Lengths.{lengths, have_bits}

bits_each : (n : Netlist) (cells : Cells) (ps : List Path) → bit_counts (chains_along n cells ps) ≡ map (λ (p : Path). length (bits_along n cells p).bits) ps
bits_each n cells ps =
    map_twice (λ (c : ChainBits). length c.cells) (chain_of (rank_of n (bits_of_all (map (bits_along n cells) ps)))) (map (bits_along n cells) ps)
    ∙ map_twice _ (bits_along n cells) ps ∙ same ps where
      same : (qs : List Path)
          → map (λ (p : Path). length (map (rank_of n (bits_of_all (map (bits_along n cells) ps))) (bits_along n cells p).bits)) qs ≡ map (λ (p : Path). length (bits_along n cells p).bits) qs
      same [] = refl
      same (q ∷ qs) = ap₂ (λ (x : ℕ) (xs : List ℕ). x ∷ xs) (length-map (bits_along n cells q).bits (rank_of n (bits_of_all (map (bits_along n cells) ps)))) (same qs)

pub declared : DeclaredLaw
declared text head n cells paths is netlist traced entries none =
    let bits = have_bits text head n cells paths is traced entries none in
    let same = lengths text head n cells paths is traced entries none in
    let stand = traced.once in
    let numbering = ranks_number n cells paths netlist stand in
    let cells_same = same_cells n cells (rank n cells paths) (length (bits_of_paths n cells paths)) paths paths refl stand stand (λ s. (λ h. h, λ h. h)) bits bits numbering in
    record {
      lengths = same;
      bits = bits;
      chains = subst AreChains (sym (ranked_are n cells paths)) cells_same.old_chains;
      counts = bits_each n cells paths ∙ same;
    }
