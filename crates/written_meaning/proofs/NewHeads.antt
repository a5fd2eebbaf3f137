-- The head that is written declares the same ports, and as many bits as the chains along the new paths have.
use Rattle.std.proofs.Common.{◌≡◌, ℕ, ◌≤◌, false, List, [], ◌∷◌, length, map, refl, sym, ap, ap₂, ◌∙◌, arith, length-append}
use Rattle.std.proofs.lemmas.List.{length-map}
use Rattle.std.proofs.Math.Nat.{max-le}
use Rattle.netlist_core.specs.declared.netlist.Netlist.{Netlist}
use Rattle.cell_table.specs.Cells.{Cells}
use Rattle.chain_trace.specs.declared.path.BitId.{BitId}
use Rattle.chain_trace.specs.declared.path.PathBits.{PathBits}
use Rattle.chain_trace.specs.declared.path.Path.{Path}
use Rattle.chain_trace.specs.Parities.{path_marks}
use Rattle.stil_types.specs.declared.head.ScanChainDecl.{ScanChainDecl}
use Rattle.stil_types.specs.declared.head.StilHead.{StilHead}
use Rattle.stil_types.specs.Calls.{most_bits}
use Rattle.stil_calls.specs.Scans.{bits_of}
use Rattle.stil_tester.specs.declared.chains.ChainBits.{ChainBits}
use Rattle.stil_tester.specs.Shifting.{bit_counts}
use Rattle.pattern_laws.specs.Laws.{SamePorts}
use Rattle.path_chains.specs.Numbered.{bits_along, chain_of}
use Rattle.path_chains.specs.Ranked.{rank_of, bits_of_all, chains_along}
use Rattle.head_alike.specs.Heads.{AllSayAs}
use Rattle.head_text.specs.Written.{NewChain, declared}
use Rattle.head_text.specs.Laws.{FitChains}
use Rattle.head_writer.specs.NewChains.{all_named, new_chain}
use Rattle.head_writer.specs.Fits.{chains_for}
use Rattle.head_writer.proofs.fits.PathNames.{parity_count}
use Rattle.head_writer.proofs.fits.ReadBits.{new_count}

module _ (names : List (List ℕ)) where
  -- what is declared, and what says so, has the read ports
  pub declared_ports : (cs : List ScanChainDecl) (ns : List NewChain) → FitChains names cs ns → SamePorts cs (declared cs ns)
  declared_ports [] [] fits = tt
  declared_ports [] (n ∷ ns) fits = absurd fits
  declared_ports (c ∷ cs) [] fits = absurd fits
  declared_ports (c ∷ cs) (n ∷ ns) fits = (refl, refl, declared_ports cs ns fits.1)

  pub again_ports : (cs : List ScanChainDecl) (ns : List NewChain) (ds : List ScanChainDecl) → FitChains names cs ns → AllSayAs (declared cs ns) ds → SamePorts cs ds
  again_ports [] [] [] fits says = tt
  again_ports [] [] (d ∷ ds) fits says = absurd says
  again_ports [] (n ∷ ns) ds fits says = absurd fits
  again_ports (c ∷ cs) [] ds fits says = absurd fits
  again_ports (c ∷ cs) (n ∷ ns) [] fits says = absurd says
  again_ports (c ∷ cs) (n ∷ ns) (d ∷ ds) fits says = (says.0.scan_in, says.0.scan_out, again_ports cs ns ds fits.1 says.1)

  -- and as many bits as the new chains
  declared_bits : (cs : List ScanChainDecl) (ns : List NewChain) → FitChains names cs ns → bits_of (declared cs ns) ≡ map (λ (n : NewChain). length n.bits) ns
  declared_bits [] [] fits = refl
  declared_bits [] (n ∷ ns) fits = absurd fits
  declared_bits (c ∷ cs) [] fits = absurd fits
  declared_bits (c ∷ cs) (n ∷ ns) fits = ap (λ (ks : List ℕ). length n.bits ∷ ks) (declared_bits cs ns fits.1)

pub said_bits : (es ds : List ScanChainDecl) → AllSayAs es ds → bits_of ds ≡ bits_of es
said_bits [] [] says = refl
said_bits [] (d ∷ ds) says = absurd says
said_bits (e ∷ es) [] says = absurd says
said_bits (e ∷ es) (d ∷ ds) says = ap₂ (λ (k : ℕ) (ks : List ℕ). k ∷ ks) says.0.length (said_bits es ds says.1)

module _ (text : List ℕ) (head : StilHead) (olds : List PathBits) where
  along_bits : (n : Netlist) (cells : Cells) (number : BitId → ℕ) (ps : List Path)
      → map (λ (c : NewChain). length c.bits) (map (new_chain (all_named text head.chains olds)) (map (bits_along n cells) ps))
      ≡ map (λ (c : ChainBits). length c.cells) (map (chain_of number) (map (bits_along n cells) ps))
  along_bits n cells number [] = refl
  along_bits n cells number (p ∷ ps) =
      let x = bits_along n cells p in
      ap₂ (λ (k : ℕ) (ks : List ℕ). k ∷ ks) (new_count (all_named text head.chains olds) x.bits x.parity (parity_count false (path_marks n cells p.steps)) ∙ sym (length-map x.bits number)) (along_bits n cells number ps)

pub new_bits_are : (names : List (List ℕ)) (text : List ℕ) (head : StilHead) (n : Netlist) (cells : Cells) (paths new : List Path) → FitChains names head.chains (chains_for text head n cells paths new)
    → bits_of (declared head.chains (chains_for text head n cells paths new)) ≡ bit_counts (chains_along n cells new)
new_bits_are names text head n cells paths new fits =
    declared_bits names head.chains (chains_for text head n cells paths new) fits ∙ along_bits text head (map (bits_along n cells) paths) n cells (rank_of n (bits_of_all (map (bits_along n cells) new))) new

-- no chain has more bits than all
pub most_within : (number : BitId → ℕ) (xs : List PathBits) → most_bits (map (λ (c : ChainBits). length c.cells) (map (chain_of number) xs)) ≤ length (bits_of_all xs)
most_within number [] = omega arith
most_within number (x ∷ xs) =
    let more = most_within number xs in
    let here = length-map x.bits number in
    let both = length-append x.bits (bits_of_all xs) in
    max-le (omega (arith, here, both)) (omega (arith, more, both))
