-- The ScanChain blocks of the patterns of a made design (IEEE 1450-1999), which stand at any places.
use Rattle.std.specs.Prelude.{ℕ, suc, false, List, [], ◌∷◌, decimal, Some, None}
use Rattle.base_types.specs.declared.span.Span.{Span}
use Rattle.stil_types.specs.declared.head.ScanChainDecl.{ScanChainDecl}
use Rattle.design_maker.specs.Chains.{chain_length}
use Rattle.made_law.specs.Designs.Names.{in_port, out_port}
use Rattle.made_law.specs.Designs.MadeChains.{chain_numbers}

-- where a block stands, and the numbers in it
pub record BlockPlace : Type 0 where
  pub line : ℕ
  pub length : Span
  pub inversion : Span

-- the block of chain k: as many bits as it has units, and no inversion
abbrev pub made_block : ℕ → BlockPlace → ℕ → ScanChainDecl
made_block n at k =
    record {
      name = 99 ∷ decimal k;
      length = chain_length n k;
      scan_in = in_port k;
      scan_out = out_port k;
      inversion = Some false;
      cells = None;
      length_at = at.length;
      inversion_at = Some at.inversion;
      cells_at = None;
      line = at.line;
    }

-- the blocks of some chains, at the places of their numbers
abbrev pub blocks_at : ℕ → (ℕ → BlockPlace) → List ℕ → List ScanChainDecl
blocks_at n at [] = []
blocks_at n at (k ∷ ks) = made_block n (at 0) k ∷ blocks_at n (λ j. at (suc j)) ks

-- those of all chains
abbrev pub made_blocks : (ℕ → BlockPlace) → ℕ → List ScanChainDecl
made_blocks at n = blocks_at n at chain_numbers
