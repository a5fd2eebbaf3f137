-- The ports of a path.
use Rattle.std.proofs.Common.{◌≡◌, ℕ, Bool, true, false, cond, List, [], ◌∷◌, Option, Some, None, refl, sym, ◌∙◌}
use Rattle.netlist_core.specs.declared.netlist.NetId.{NetId}
use Rattle.netlist_core.specs.declared.netlist.Direction.{Direction}
use Rattle.netlist_core.specs.declared.netlist.Netlist.{Netlist}
use Rattle.netlist_core.specs.Netlists.{IsNetlist}
use Rattle.verilog_reader.proofs.OneNetlist.{net_tells}
use Rattle.cell_table.specs.Cells.{Cells}
use Rattle.chain_trace.specs.declared.path.Step.{Step}
use Rattle.chain_trace.specs.declared.path.Path.{Path}
use Rattle.chain_trace.specs.declared.path.Source.{Source}
use Rattle.chain_trace.specs.declared.path.Source.TheVariants as sources
use Rattle.chain_trace.specs.declared.path.Sink.{Sink}
use Rattle.chain_trace.specs.declared.path.Sink.TheVariants as sinks
use Rattle.chain_trace.specs.Paths.{drives, is_driven, has_port, source_net, sink_net, Leads, IsScanPath}
use Rattle.chain_trace.specs.Named.{IsPortNamed}
use Rattle.chain_trace.proofs.Ranges.{port_within}

-- a name tells the port
pub same_port : (test : Direction → Bool) (n : Netlist) (name : List ℕ) (a b : NetId) → IsNetlist n → IsPortNamed test n name a → IsPortNamed test n name b → a ≡ b
same_port test n name a b sound p q = net_tells n.nets sound.names a b (port_within n test a sound p.port) (port_within n test b sound q.port) (p.named ∙ sym q.named)

-- the ends of a path are ports
pub some_if : (t : Bool) (x y : NetId) → cond t (Some x) None ≡ Some y → t ≡ true
some_if true x y e = refl
some_if false x y e = absurd cc

pub record HasNet (o : Option NetId) : Type 0 where
  pub net : NetId
  pub is : o ≡ Some net

first_net : (n : Netlist) (cells : Cells) (source : Source) (steps : List Step) (sink : Sink) → Leads n cells source steps sink → HasNet (source_net n cells source)
first_net n cells source [] sink l = record { net = l.feeds.from; is = l.feeds.from_is }
first_net n cells source (step ∷ steps) sink l = record { net = l.0.feeds.from; is = l.0.feeds.from_is }

last_net : (n : Netlist) (cells : Cells) (source : Source) (steps : List Step) (sink : Sink) → Leads n cells source steps sink → HasNet (sink_net n cells sink)
last_net n cells source [] sink l = record { net = l.feeds.to; is = l.feeds.to_is }
last_net n cells source (step ∷ steps) sink l = last_net n cells (sources.Out step) steps sink l.1

pub input_drives : (n : Netlist) (cells : Cells) (output : NetId) (path : Path) → IsScanPath n cells output path → has_port drives n path.input ≡ true
input_drives n cells output path is =
    let f = first_net n cells (sources.Port path.input) path.steps (sinks.Port output) is.leads in some_if (has_port drives n path.input) path.input f.net f.is

pub output_is_driven : (n : Netlist) (cells : Cells) (output : NetId) (path : Path) → IsScanPath n cells output path → has_port is_driven n output ≡ true
output_is_driven n cells output path is =
    let f = last_net n cells (sources.Port path.input) path.steps (sinks.Port output) is.leads in some_if (has_port is_driven n output) output f.net f.is
