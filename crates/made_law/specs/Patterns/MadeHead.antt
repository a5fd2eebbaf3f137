-- The head of the made STIL (IEEE 1450-1999), wherever its statements stand.
use Rattle.std.specs.Prelude.{ℕ, true, false, List, [], ◌∷◌, ◌++◌, length, map, codes, Some, None}
use Rattle.std.specs.List.{range_with_len}
use Rattle.base_types.specs.declared.span.Span.{Span}
use Rattle.stil_types.specs.declared.head.ScanChainDecl.{ScanChainDecl}
use Rattle.stil_types.specs.declared.head.Callee.{Callee}
use Rattle.stil_types.specs.declared.head.StilHead.{StilHead}
use Rattle.design_maker.specs.Chains.{chain_length}
use Rattle.design_maker.specs.MadeStil.{signals_text, structures_text, procedures_text}
use Rattle.made_law.specs.Designs.Names.{in_port, out_port, chain_name}

-- the line of a ScanChain block, and the places of its two numbers
pub record BlockPlace : Type 0 where
  pub line : ℕ
  pub length : Span
  pub inversion : Span

-- the bytes before the first Pattern
abbrev pub head_bytes : ℕ → List ℕ
head_bytes n = signals_text ++ (structures_text n ++ procedures_text)

-- the eight chains
abbrev pub chain_numbers : List ℕ
chain_numbers = range_with_len 0 8

-- the block of chain k: its length, its two ports, and no inversion
abbrev pub made_block : (ℕ → BlockPlace) → ℕ → ℕ → ScanChainDecl
made_block at n k =
    record {
      name = chain_name k;
      length = chain_length n k;
      scan_in = in_port k;
      scan_out = out_port k;
      inversion = Some false;
      cells = None;
      length_at = (at k).length;
      inversion_at = Some (at k).inversion;
      cells_at = None;
      line = (at k).line;
    }

-- load_unload shifts, capture doesn't
abbrev pub made_procedures : List Callee
made_procedures = record { name = codes "load_unload"; scan = true } ∷ record { name = codes "capture"; scan = false } ∷ []

-- the head of n units
abbrev pub made_head : (ℕ → BlockPlace) → ℕ → StilHead
made_head at n =
    record {
      chains = map (made_block at n) chain_numbers;
      procedures = made_procedures;
      macros = [];
      keywords = [];
      marks = false;
      end = length (head_bytes n);
    }
