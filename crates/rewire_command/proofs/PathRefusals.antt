-- The refusals on the way to the path between the words' ports.
use Rattle.std.proofs.Common.{◌≡◌, ◌≢◌, ℕ, true, false, List, Result, Ok, Err, sym, ◌∙◌, subst}
use Rattle.std.specs.Str.{bytes_eq}
use Rattle.std.proofs.lemmas.Slice.Eq.{bytes_eq-Decides}
use Rattle.base_types.specs.declared.fault.Fault.{Fault}
use Rattle.base_types.specs.Faults.{of_words}
use Rattle.base_types.specs.FirstFault.{IfFault}
use Rattle.base_types.specs.declared.fault.ReadFault.{ReadFault}
use Rattle.base_types.specs.declared.fault.ReadFault.TheVariants as faults
use Rattle.base_types.specs.declared.kind.Kind.TheVariants.{NoPort, WrongPort}
use Rattle.netlist_core.specs.declared.netlist.NetId.{NetId}
use Rattle.netlist_core.specs.declared.netlist.Netlist.{Netlist}
use Rattle.netlist_core.specs.Netlists.{plain_of}
use Rattle.verilog_reader.specs.Denoted.{DenotesNetlist}
use Rattle.cell_table.specs.Cells.{Cells}
use Rattle.chain_trace.specs.declared.path.Path.{Path}
use Rattle.chain_trace.specs.Paths.{drives, is_driven, IsScanPath}
use Rattle.chain_trace.specs.Faults.{IsTraceFault}
use Rattle.chain_trace.specs.Named.{IsPortNamed}
use Rattle.rewire_command.specs.declared.rewire.Rewire.{Rewire}
use Rattle.rewire_command.specs.Rewiring.{cells_of}
use Rattle.rewire_command.specs.Faults.{HasPorts, IsRewireFault}
use Rattle.rewire_command.proofs.Firsts.{first_port, first_output, first_input}

abbrev pub IsRefused : {X : Type 0} → Netlist → Rewire → Result X ReadFault → Type 0
IsRefused n w r = IfFault r (λ fault. (text : List ℕ) → DenotesNetlist text n → IsRewireFault text w fault)

pub no_output : (X : Type 0) (n : Netlist) (w : Rewire) (name : List ℕ) (e : Fault) → name ≡ w.scan_out → ((net : NetId) → IsPortNamed is_driven n name net → ⊥) → e ≡ of_words NoPort
    → IsRefused {X = X} n w (Err (faults.Fault e))
no_output X n w name e same none fault =
    rw fault (λ text reads. first_port text w n reads (λ output ports. none output (subst (λ (name : List ℕ). IsPortNamed is_driven n name output) (sym same) ports.output_is)))

pub no_input : (X : Type 0) (n : Netlist) (w : Rewire) (name : List ℕ) (e : Fault) → name ≡ w.scan_in → ((net : NetId) → IsPortNamed drives n name net → ⊥) → e ≡ of_words NoPort
    → IsRefused {X = X} n w (Err (faults.Fault e))
no_input X n w name e same none fault =
    rw fault (λ text reads. first_port text w n reads (λ output ports. none ports.input (subst (λ (name : List ℕ). IsPortNamed drives n name ports.input) (sym same) ports.input_is)))

pub has_ports : (n : Netlist) (w : Rewire) (output input : NetId) (out_name in_name : List ℕ) → out_name ≡ w.scan_out → in_name ≡ w.scan_in → IsPortNamed is_driven n out_name output → IsPortNamed drives n in_name input → HasPorts n w output
has_ports n w output input out_name in_name o i named entered = record {
  output_is = subst (λ (name : List ℕ). IsPortNamed is_driven n name output) o named;
  input = input;
  input_is = subst (λ (name : List ℕ). IsPortNamed drives n name input) i entered;
}

pub no_path : {X : Type 0} (n : Netlist) (w : Rewire) (cells : Cells) (output : NetId) (r : Result X ReadFault) → cells ≡ cells_of w → HasPorts n w output → IfFault r (IsTraceFault n cells output) → IsRefused n w r
no_path n w cells output (Ok x) same ports met = tt
no_path n w cells output (Err (faults.Fault f)) same ports met = λ text reads. first_output text w n reads output ports f (subst (λ (cells : Cells). IsTraceFault n cells output f) same met)
no_path n w cells output (Err faults.NoMemory) same ports met = tt

pub wrong_port : (X : Type 0) (n : Netlist) (w : Rewire) (cells : Cells) (output : NetId) (path : Path) (a b : List ℕ) (e : Fault) → cells ≡ cells_of w → HasPorts n w output → IsScanPath n cells output path
    → a ≡ plain_of n.nets path.input → b ≡ w.scan_in → bytes_eq a b ≡ false → e ≡ of_words WrongPort → IsRefused {X = X} n w (Err (faults.Fault e))
wrong_port X n w cells output path a b e same ports is a_is b_is differ fault =
    let apart : plain_of n.nets path.input ≢ w.scan_in
    = λ same. let yes : bytes_eq a b ≡ true = (bytes_eq-Decides a b).1 (a_is ∙ same ∙ sym b_is) in let both = sym yes ∙ differ in absurd cc
    in
    let here : IsScanPath n (cells_of w) path.output path
    = subst (λ (net : NetId). IsScanPath n (cells_of w) net path) (sym is.ends) (subst (λ (cells : Cells). IsScanPath n cells output path) same is)
    in
    let at : HasPorts n w path.output = subst (HasPorts n w) (sym is.ends) ports in
    rw fault (λ text reads. first_input text w n reads path (record { reads = reads; output = at.output_is; is = here }) at apart)
