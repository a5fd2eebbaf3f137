-- Paths over the same steps, which may stand in another order and on another path; and what pins a table's cells have.
use Rattle.std.specs.Prelude.{◌≡◌, ◌≢◌, ◌⊎◌, ◌↔◌, true, ℕ, List, [], ◌∷◌, Contains, Some, map}
use Rattle.std.specs.List.{flat_map}
use Rattle.netlist_core.specs.declared.netlist.Netlist.{Netlist}
use Rattle.netlist_core.specs.Netlists.{AreDistinct}
use Rattle.cell_table.specs.declared.paths.ScanPath.{ScanPath}
use Rattle.cell_table.specs.declared.paths.OutPin.{OutPin}
use Rattle.cell_table.specs.Cells.{Cells}
use Rattle.chain_trace.specs.declared.path.Step.{Step}
use Rattle.chain_trace.specs.declared.path.Path.{Path}
use Rattle.chain_trace.specs.Paths.{scan_path_at, out_pin_at, IsScanPath, StandOnce}
use Rattle.path_links.specs.Free.{is_free}
use Rattle.path_links.specs.Direct.{last_of, is_direct_from}

-- the pins of an instance: no in pin is an out pin, each in pin is that of one scan path, each out pin is one out pin of one
-- scan path
pub record ArePinsOnce (n : Netlist) (cells : Cells) : Type 0 where
  pub ins : (i k l : ℕ) (a b : ScanPath) → scan_path_at n cells i k ≡ Some a → scan_path_at n cells i l ≡ Some b → a.input ≡ b.input → k ≡ l
  pub apart : (i k : ℕ) (a : ScanPath) (step : Step) (out : OutPin) → scan_path_at n cells i k ≡ Some a → step.instance ≡ i → out_pin_at n cells step ≡ Some out → a.input ≢ out.pin
  pub outs : (s t : Step) (a b : OutPin) → s.instance ≡ t.instance → out_pin_at n cells s ≡ Some a → out_pin_at n cells t ≡ Some b → a.pin ≡ b.pin → s ≡ t

-- the steps of some paths
abbrev pub steps_of : List Path → List Step
steps_of paths = flat_map (λ path. path.steps) paths

-- the path has no step
abbrev pub HasNoStep : Path → Type 0
HasNoStep path = path.steps ≡ []

-- a scan path as read, and the new path between the same ports; another source may lead to the output only where that is
-- assigned or direct
pub record IsAligned (n : Netlist) (cells : Cells) (p q : Path) : Type 0 where
  pub read : IsScanPath n cells p.output p
  pub input : q.input ≡ p.input
  pub output : q.output ≡ p.output
  pub old_some : HasNoStep q → HasNoStep p
  pub new_some : HasNoStep p → HasNoStep q
  pub free : last_of q ≢ last_of p → (is_free n p.output ≡ true) ⊎ (is_direct_from n cells p.output (last_of p) ≡ true)

-- the same of paths side by side
abbrev pub AreAligned : Netlist → Cells → List Path → List Path → Type 0
AreAligned n cells [] [] = Unit {0}
AreAligned n cells [] (q ∷ qs) = ⊥
AreAligned n cells (p ∷ ps) [] = ⊥
AreAligned n cells (p ∷ ps) (q ∷ qs) = IsAligned n cells p q × AreAligned n cells ps qs

-- no two paths have one output
abbrev pub AreOutputsApart : List Path → Type 0
AreOutputsApart paths = AreDistinct (map (λ path. path.output.0) paths)

-- the new paths have the steps of the old ones, each once
pub record AreRearranged (n : Netlist) (cells : Cells) (old new : List Path) : Type 0 where
  pub aligned : AreAligned n cells old new
  pub outputs : AreOutputsApart old
  pub steps : (step : Step) → (Contains (steps_of new) step ↔ Contains (steps_of old) step)
  pub once : StandOnce (steps_of new)
  pub pins : ArePinsOnce n cells
