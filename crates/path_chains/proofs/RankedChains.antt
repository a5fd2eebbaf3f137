-- The chains of paths, numbered by the ranks of the bits of all of them.
use Rattle.std.proofs.Common.{◌≡◌, ℕ, List, [], ◌∷◌, ◌++◌, length, map, refl, ap, ◌∙◌}
use Rattle.netlist_core.specs.declared.netlist.Netlist.{Netlist}
use Rattle.cell_table.specs.Cells.{Cells}
use Rattle.chain_trace.specs.declared.path.BitId.{BitId}
use Rattle.chain_trace.specs.declared.path.Path.{Path}
use Rattle.stil_tester.specs.declared.chains.Chains.{Chains}
use Rattle.stil_tester.specs.declared.chains.ChainBits.{ChainBits}
use Rattle.path_chains.specs.Numbered.{bits_along, bits_of_paths, chain_of, chains_of}
use Rattle.path_chains.specs.Ranked.{rank_of, bits_of_all, chains_along}

pub map_twice : {X Y Z : Type 0} (f : Y → Z) (g : X → Y) (xs : List X) → map f (map g xs) ≡ map (λ x. f (g x)) xs
map_twice f g [] = refl
map_twice f g (x ∷ xs) = ap (λ (zs : List _). f (g x) ∷ zs) (map_twice f g xs)

all_along : (n : Netlist) (cells : Cells) (ps : List Path) → bits_of_all (map (bits_along n cells) ps) ≡ bits_of_paths n cells ps
all_along n cells [] = refl
all_along n cells (p ∷ ps) = ap (λ (bs : List BitId). (bits_along n cells p).bits ++ bs) (all_along n cells ps)

abbrev pub rank : Netlist → Cells → List Path → BitId → ℕ
rank n cells ps = rank_of n (bits_of_paths n cells ps)

pub ranked_are : (n : Netlist) (cells : Cells) (ps : List Path) → chains_along n cells ps ≡ chains_of n cells (rank n cells ps) (length (bits_of_paths n cells ps)) ps
ranked_are n cells ps =
    let made : List BitId → Chains = λ bs. record { chains = map (chain_of (rank_of n bs)) (map (bits_along n cells) ps); cells = length bs } in
    let chains = λ (cs : List ChainBits). let all : Chains = record { chains = cs; cells = length (bits_of_paths n cells ps) } in all in
    ap made (all_along n cells ps) ∙ ap chains (map_twice (chain_of (rank n cells ps)) (bits_along n cells) ps)

-- what a path is, by its steps
