-- Paths of the written netlist side by side with paths of the read one: the same steps, and the paths of the same outputs.
use Rattle.std.proofs.Common.{◌≡◌, ℕ, Bool, true, false, cond, List, [], ◌∷◌, ◌++◌, map, Some, None, refl, sym, ap, ap₂, ◌∙◌, subst}
use Rattle.std.specs.Prelude.{All, IsTrue}
use Rattle.std.specs.List.{filter_map}
use Rattle.std.proofs.lemmas.List.Elements.{All-nil, All-cons}
use Rattle.netlist_core.specs.declared.netlist.NetId.{NetId}
use Rattle.netlist_core.specs.declared.netlist.Netlist.{Netlist}
use Rattle.netlist_core.specs.Netlists.{plain_of}
use Rattle.cell_table.specs.Cells.{Cells}
use Rattle.chain_trace.specs.declared.path.Step.{Step}
use Rattle.chain_trace.specs.declared.path.Path.{Path}
use Rattle.chain_trace.specs.declared.path.Source.{Source}
use Rattle.chain_trace.specs.declared.path.Source.TheVariants as sources
use Rattle.chain_trace.specs.declared.path.Sink.TheVariants as sinks
use Rattle.chain_trace.specs.Paths.{is_driven, has_port, IsOnlySource, Leads, IsScanPath, StandOnce}
use Rattle.net_edit.specs.Rearranged.{steps_of, AreAligned}
use Rattle.stil_types.specs.declared.head.ScanChainDecl.{ScanChainDecl}
use Rattle.traced_paths.specs.Asked.{Asked, once_behind}
use Rattle.head_checks.specs.Asked.{asked_by_block}
use Rattle.traced_paths.specs.Traced.{ArePathsOf}
use Rattle.pattern_laws.specs.Laws.{SamePorts}
use Rattle.reorder_command.specs.Reordered.{AreSamePaths}
use Rattle.head_writer.specs.Anew.{AreSameByNames}

-- a path ends at a port that is driven
some_net : (b : Bool) (net to : NetId) → cond b (Some net) None ≡ Some to → b ≡ true
some_net true net to e = refl
some_net false net to e = absurd cc

only_port : (n : Netlist) (cells : Cells) (source : Source) (output : NetId) → IsOnlySource n cells source (sinks.Port output) → IsTrue (has_port is_driven n output)
only_port n cells source output only = some_net (has_port is_driven n output) output only.feeds.to only.feeds.to_is

leads_port : (n : Netlist) (cells : Cells) (source : Source) (steps : List Step) (output : NetId) → Leads n cells source steps (sinks.Port output) → IsTrue (has_port is_driven n output)
leads_port n cells source [] output leads = only_port n cells source output leads
leads_port n cells source (step ∷ steps) output leads = leads_port n cells (sources.Out step) steps output leads.1

module _ (n w : Netlist) (cells : Cells) where
  pub same_steps : (ps qs : List Path) → AreSamePaths n w cells ps qs → map (λ (p : Path). p.steps) qs ≡ map (λ (p : Path). p.steps) ps
  same_steps [] [] same = refl
  same_steps [] (q ∷ qs) same = absurd same
  same_steps (p ∷ ps) [] same = absurd same
  same_steps (p ∷ ps) (q ∷ qs) same = ap₂ (λ (s : List Step) (ss : List (List Step)). s ∷ ss) same.1.steps (same_steps ps qs same.2)

  all_steps : (ps qs : List Path) → AreSamePaths n w cells ps qs → steps_of qs ≡ steps_of ps
  all_steps [] [] same = refl
  all_steps [] (q ∷ qs) same = absurd same
  all_steps (p ∷ ps) [] same = absurd same
  all_steps (p ∷ ps) (q ∷ qs) same = ap₂ (λ (s ss : List Step). s ++ ss) same.1.steps (all_steps ps qs same.2)

  pub by_names : (ps qs : List Path) → AreSamePaths n w cells ps qs → AreSameByNames n w ps qs
  by_names [] [] same = tt
  by_names [] (q ∷ qs) same = absurd same
  by_names (p ∷ ps) [] same = absurd same
  by_names (p ∷ ps) (q ∷ qs) same = (same.1, by_names ps qs same.2)

  each_path : (ps qs : List Path) → AreSamePaths n w cells ps qs → All (λ (q : Path). IsScanPath w cells q.output q) qs
  each_path [] [] same = All-nil (λ (q : Path). IsScanPath w cells q.output q)
  each_path [] (q ∷ qs) same = absurd same
  each_path (p ∷ ps) [] same = absurd same
  each_path (p ∷ ps) (q ∷ qs) same = All-cons (λ (q : Path). IsScanPath w cells q.output q) q qs same.0 (each_path ps qs same.2)

  each_port : (ps qs : List Path) → AreSamePaths n w cells ps qs → All (λ (q : Path). IsTrue (has_port is_driven w q.output)) qs
  each_port [] [] same = All-nil (λ (q : Path). IsTrue (has_port is_driven w q.output))
  each_port [] (q ∷ qs) same = absurd same
  each_port (p ∷ ps) [] same = absurd same
  each_port (p ∷ ps) (q ∷ qs) same =
      All-cons (λ (q : Path). IsTrue (has_port is_driven w q.output)) q qs (leads_port w cells (sources.Port q.input) q.steps q.output same.0.leads) (each_port ps qs same.2)

  same_outputs : (old ps qs : List Path) → AreAligned n cells old ps → AreSamePaths n w cells ps qs → map (λ (q : Path). plain_of w.nets q.output) qs ≡ map (λ (p : Path). plain_of n.nets p.output) old
  same_outputs [] [] [] aligned same = refl
  same_outputs [] [] (q ∷ qs) aligned same = absurd same
  same_outputs [] (p ∷ ps) qs aligned same = absurd aligned
  same_outputs (o ∷ os) [] qs aligned same = absurd aligned
  same_outputs (o ∷ os) (p ∷ ps) [] aligned same = absurd same
  same_outputs (o ∷ os) (p ∷ ps) (q ∷ qs) aligned same =
      ap₂ (λ (x : List ℕ) (xs : List (List ℕ)). x ∷ xs) (same.1.output ∙ ap (plain_of n.nets) aligned.0.output) (same_outputs os ps qs aligned.1 same.2)

  -- what is asked for by declarations of the same ports
  asked_same : (cs ds : List ScanChainDecl) → SamePorts cs ds → filter_map (λ (a : Asked). a.output) (map asked_by_block cs) ≡ filter_map (λ (a : Asked). a.output) (map asked_by_block ds)
  asked_same [] [] same = refl
  asked_same [] (d ∷ ds) same = absurd same
  asked_same (c ∷ cs) [] same = absurd same
  asked_same (c ∷ cs) (d ∷ ds) same = ap₂ (λ (x : List ℕ) (xs : List (List ℕ)). x ∷ xs) (sym same.1) (asked_same cs ds same.2)

  pub paths_after : (cs ds : List ScanChainDecl) (old new after : List Path) → SamePorts cs ds → ArePathsOf n cells (map asked_by_block cs) old → AreAligned n cells old new → StandOnce (steps_of new)
      → AreSamePaths n w cells new after → ArePathsOf w cells (map asked_by_block ds) after
  paths_after cs ds old new after ports traced aligned stand same = record {
    outputs = same_outputs old new after aligned same ∙ traced.outputs ∙ ap (once_behind []) (asked_same cs ds ports);
    ports = each_port new after same;
    each = each_path new after same;
    once = subst StandOnce (sym (all_steps new after same)) stand;
  }
