-- Each step of a path names an entry of the table: it is a source, and so stands on a net.
use Rattle.std.proofs.Common.{◌≡◌, ℕ, ◌+◌, ◌<◌, ◌≤◌, ◌⊎◌, inl, inr, List, [], ◌∷◌, ◌++◌, length, get_or, Bor, Option, Some, None, IsSome, refl, sym, subst, arith}
use Rattle.std.specs.Prelude.{All}
use Rattle.std.proofs.lemmas.List.Elements.{All-cons, All-nil}
use Rattle.std.proofs.lemmas.Bool.{cases_lt}
use Rattle.std.proofs.lemmas.List.{get_or_append_left, get_or_at}
use Rattle.cell_table.specs.declared.paths.ScanPath.{ScanPath}
use Rattle.chain_trace.specs.Drivers.{HasEntries}
use Rattle.netlist_core.specs.declared.netlist.NetId.{NetId}
use Rattle.netlist_core.specs.declared.netlist.Netlist.{Netlist}
use Rattle.cell_table.specs.Cells.{Cells, ◌>>=◌}
use Rattle.chain_trace.specs.declared.path.Step.{Step}
use Rattle.chain_trace.specs.declared.path.Path.{Path}
use Rattle.chain_trace.specs.declared.path.Source.{Source}
use Rattle.chain_trace.specs.declared.path.Source.TheVariants as sources
use Rattle.chain_trace.specs.declared.path.Sink.{Sink}
use Rattle.chain_trace.specs.declared.path.Sink.TheVariants as sinks
use Rattle.chain_trace.specs.Paths.{out_pin_at, IsOnlySource, Leads, IsScanPath}
use Rattle.chain_trace.specs.Parities.{NamesEntry}

stands_some : {X Y : Type 0} (o : Option X) (f : X → Option Y) (y : Y) → (o >>= f) ≡ Some y → IsSome o
stands_some None f y e = absurd cc
stands_some (Some x) f y e = refl

source_entry : (n : Netlist) (cells : Cells) (step : Step) (sink : Sink) → IsOnlySource n cells (sources.Out step) sink → NamesEntry n cells step
source_entry n cells step sink only = stands_some (out_pin_at n cells step) _ only.feeds.from only.feeds.from_is

leads_entry : (n : Netlist) (cells : Cells) (step : Step) (steps : List Step) (sink : Sink) → Leads n cells (sources.Out step) steps sink → NamesEntry n cells step
leads_entry n cells step [] sink leads = source_entry n cells step sink leads
leads_entry n cells step (t ∷ ts) sink leads = source_entry n cells step _ leads.0

leads_entries : (n : Netlist) (cells : Cells) (source : Source) (steps : List Step) (sink : Sink) → Leads n cells source steps sink → All (NamesEntry n cells) steps
leads_entries n cells source [] sink leads = All-nil (NamesEntry n cells)
leads_entries n cells source (step ∷ steps) sink leads =
    All-cons (NamesEntry n cells) step steps (leads_entry n cells step steps sink leads.1) (leads_entries n cells (sources.Out step) steps sink leads.1)

pub path_entries : (n : Netlist) (cells : Cells) (output : NetId) (path : Path) → IsScanPath n cells output path → All (NamesEntry n cells) path.steps
path_entries n cells output path is = leads_entries n cells (sources.Port path.input) path.steps (sinks.Port output) is.leads

-- the scan paths of one more instance
module _ (n : Netlist) (cells : Cells) (xs : List (Bor (List ScanPath))) (x : Bor (List ScanPath)) (i : ℕ) (len : length xs ≡ i)
    (each : (k : ℕ) (d : Bor (List ScanPath)) → k < i → HasEntries n cells k (get_or xs k d).now) (here : HasEntries n cells i x.now) where
  entry_at : (k : ℕ) (d : Bor (List ScanPath)) → k < i + 1 → (k < i) ⊎ (i ≤ k) → HasEntries n cells k (get_or (xs ++ x ∷ []) k d).now
  entry_at k d lt (inl h) = subst (λ (e : Bor (List ScanPath)). HasEntries n cells k e.now) (sym (get_or_append_left xs (x ∷ []) d k (omega arith))) (each k d h)
  entry_at k d lt (inr h) =
      let same : i ≡ k = omega arith in
      subst (λ (e : Bor (List ScanPath)). HasEntries n cells k e.now) (sym (get_or_at xs x [] d k (omega arith))) (subst (λ (j : ℕ). HasEntries n cells j x.now) same here)

  pub entries_more : (k : ℕ) (d : Bor (List ScanPath)) → k < i + 1 → HasEntries n cells k (get_or (xs ++ x ∷ []) k d).now
  entries_more k d lt = entry_at k d lt (cases_lt k i)
