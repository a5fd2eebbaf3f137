-- The chains along the paths of a head's chains: the calls of its patterns fit them.
use Rattle.std.proofs.Common.{◌≡◌, ℕ, List, None, map, sym, ap, subst, ◌∙◌}
use Rattle.base_types.specs.declared.fault.Fault.{Fault}
use Rattle.netlist_core.specs.declared.netlist.Netlist.{Netlist}
use Rattle.cell_table.specs.Cells.{Cells}
use Rattle.chain_trace.specs.declared.path.PathBits.{PathBits}
use Rattle.chain_trace.specs.declared.path.Path.{Path}
use Rattle.chain_trace.specs.Parities.{AreBitsOf}
use Rattle.stil_types.specs.declared.head.StilHead.{StilHead}
use Rattle.traced_paths.specs.Traced.{NameEntries}
use Rattle.head_checks.specs.Heads.{HoldsInHeads}
use Rattle.path_chains.specs.Numbered.{bits_along}
use Rattle.path_laws.proofs.Declared.{declared as as_declared}
use Rattle.path_chains.specs.Ranked.{ranked_chains}
use Rattle.declared_chains.specs.declared.declared.Declared.{Declared}
use Rattle.declared_chains.specs.Files.{AreTraced, chains_along, Fits}
use Rattle.declared_chains.specs.Stages.{AreDeclared}

-- the bits that a call gives are those along the path
pub along_is : (n : Netlist) (cells : Cells) (p : Path) (b : PathBits) → AreBitsOf n cells p.steps b → b ≡ bits_along n cells p
along_is n cells p b h = λ i. record { bits = h.bits i; parity = h.parity i; out_parity = h.out_parity i }

-- what was found beside the paths
pub fits : (table verilog text : List ℕ) (cells : Cells) (n : Netlist) (head : StilHead) (paths : List Path) → AreTraced table verilog text cells n head paths → NameEntries n cells paths
    → ((f : Fault) → HoldsInHeads n cells paths head f → ⊥) → Fits head (chains_along n cells paths)
fits table verilog text cells n head paths traced entries none =
    let are = as_declared text head n cells paths traced.read.head_is traced.read.netlist_is.sound traced.paths_are entries none in
    record { chains_are = are.chains; counts = are.counts }

-- so this is what was declared
pub declared : (table verilog text : List ℕ) (cells : Cells) (paths : List Path) (d : Declared)
    → AreTraced table verilog text cells d.netlist d.head paths → NameEntries d.netlist cells paths
    → ((f : Fault) → HoldsInHeads d.netlist cells paths d.head f → ⊥) → d.bits ≡ map (bits_along d.netlist cells) paths → d.chains ≡ ranked_chains d.netlist d.bits
    → AreDeclared table verilog text d
declared table verilog text cells paths d traced entries none bits_are chains_are =
    let is : d.chains ≡ chains_along d.netlist cells paths = chains_are ∙ ap (ranked_chains d.netlist) bits_are in
    record {
      cells = cells;
      paths = paths;
      traced = traced;
      bits = bits_are;
      is = is;
      fits = subst (Fits d.head) (sym is) (fits table verilog text cells d.netlist d.head paths traced entries none);
    }
