-- A trace that has met a sink: one more step, its end, and what each fault excludes.
use Rattle.std.proofs.Common.{◌≡◌, ℕ, ◌+◌, ◌-◌, ◌<◌, ◌≤◌, List, [], ◌∷◌, ◌++◌, length, get_or, ◌⊎◌, inl, inr, refl, sym, ap, ◌∙◌, subst, arith}
use Rattle.std.specs.Prelude.{reverse, Result, Ok, Err}
use Rattle.std.proofs.lemmas.Bool.{cases_lt}
use Rattle.std.proofs.lemmas.List.{length-append, length-reverse, get_or-reverse, get_or_append_left, get_or_at, get_or_default, length_push}
use Rattle.netlist_core.specs.declared.netlist.NetId.{NetId}
use Rattle.netlist_core.specs.declared.netlist.Netlist.{Netlist}
use Rattle.cell_table.specs.Cells.{Cells}
use Rattle.chain_trace.specs.declared.path.Step.{Step}
use Rattle.chain_trace.specs.declared.path.Path.{Path}
use Rattle.chain_trace.specs.declared.path.Source.{Source}
use Rattle.chain_trace.specs.declared.path.Source.TheVariants as sources
use Rattle.chain_trace.specs.declared.path.Sink.{Sink}
use Rattle.chain_trace.specs.declared.path.Sink.TheVariants as sinks
use Rattle.chain_trace.specs.Paths.{IsOnlySource, AreOfOnePath, StandOnce, IsScanPath}
use Rattle.chain_trace.specs.Faults.{Meets, IsMet, HasNoSource, HasTwoSources, IsAmong, IsTraceFault}
use Rattle.base_types.specs.FirstFault.{IfFault}
use Rattle.chain_trace.specs.Drivers.{Says}
use Rattle.chain_trace.specs.declared.tally.Found.{Found}
use Rattle.chain_trace.specs.declared.tally.Found.TheVariants.{Only}
use Rattle.base_types.specs.declared.fault.Fault.{Fault}
use Rattle.base_types.specs.declared.fault.ReadFault.{ReadFault}
use Rattle.base_types.specs.declared.fault.ReadFault.TheVariants as faults
use Rattle.chain_trace.proofs.Unique.{Backs, backs, leads, same_step, not_both}

meets_push : (n : Netlist) (cells : Cells) (steps : List Step) (from sink : Sink) (step : Step)
    → Meets n cells from steps sink → IsOnlySource n cells (sources.Out step) sink → Meets n cells from (steps ++ step ∷ []) (sinks.In step.instance step.path)
meets_push n cells [] from sink step m only = (subst (IsOnlySource n cells (sources.Out step)) (sym m) only, refl)
meets_push n cells (t ∷ ts) from sink step m only = (m.0, meets_push n cells ts (sinks.In t.instance t.path) sink step m.1 only)

meets_port : (n : Netlist) (cells : Cells) (steps : List Step) (from sink : Sink) (input : NetId)
    → Meets n cells from steps sink → IsOnlySource n cells (sources.Port input) sink → Backs n cells from steps input
meets_port n cells [] from sink input m only = subst (IsOnlySource n cells (sources.Port input)) (sym m) only
meets_port n cells (t ∷ ts) from sink input m only = (m.0, meets_port n cells ts (sinks.In t.instance t.path) sink input m.1 only)

same_sym : (a b : Step) → AreOfOnePath a b → AreOfOnePath b a
same_sym a b h = record { instance = sym h.instance; path = sym h.path }

-- an earlier step isn't of the scan path of the last one
not_last : (steps : List Step) (step : Step) → (IsAmong steps step → ⊥) → (i j : ℕ) (d : Step) → i < length steps → j ≡ length steps
    → AreOfOnePath (get_or (steps ++ step ∷ []) i d) (get_or (steps ++ step ∷ []) j d) → ⊥
not_last steps step none i j d hi ej same =
    let front : get_or (steps ++ step ∷ []) i d ≡ get_or steps i step = get_or_append_left steps (step ∷ []) d i hi ∙ get_or_default steps i d step hi in
    let here : get_or (steps ++ step ∷ []) j d ≡ step = get_or_at steps step [] d j (sym ej) in
    none (i, hi, subst (λ (s : Step). AreOfOnePath s step) front (subst (AreOfOnePath (get_or (steps ++ step ∷ []) i d)) here same))

once_cases : (steps : List Step) (step : Step) → StandOnce steps → (IsAmong steps step → ⊥) → (i j : ℕ) (d : Step) → i < length steps + 1 → j < length steps + 1
    → (i < length steps) ⊎ (length steps ≤ i) → (j < length steps) ⊎ (length steps ≤ j)
    → AreOfOnePath (get_or (steps ++ step ∷ []) i d) (get_or (steps ++ step ∷ []) j d) → i ≡ j
once_cases steps step once none i j d li lj (inl hi) (inl hj) same =
    once i j d hi hj
    (subst (λ (s : Step). AreOfOnePath s (get_or steps j d)) (get_or_append_left steps (step ∷ []) d i hi)
    (subst (AreOfOnePath (get_or (steps ++ step ∷ []) i d)) (get_or_append_left steps (step ∷ []) d j hj) same))
once_cases steps step once none i j d li lj (inl hi) (inr hj) same = absurd (not_last steps step none i j d hi (omega arith) same)
once_cases steps step once none i j d li lj (inr hi) (inl hj) same =
    absurd (not_last steps step none j i d hj (omega arith) (same_sym (get_or (steps ++ step ∷ []) i d) (get_or (steps ++ step ∷ []) j d) same))
once_cases steps step once none i j d li lj (inr hi) (inr hj) same = omega arith

once_push : (steps : List Step) (step : Step) → StandOnce steps → (IsAmong steps step → ⊥) → StandOnce (steps ++ step ∷ [])
once_push steps step once none i j d li lj same =
    let len = length_push steps step in
    once_cases steps step once none i j d (omega arith) (omega arith) (cases_lt i (length steps)) (cases_lt j (length steps)) same

once_reverse : (steps : List Step) → StandOnce steps → StandOnce (reverse steps)
once_reverse steps once i j d li lj same =
    let len = length-reverse steps in
    let at_i : get_or (reverse steps) i d ≡ get_or steps (length steps - 1 - i) d = get_or-reverse steps i d (omega arith) in
    let at_j : get_or (reverse steps) j d ≡ get_or steps (length steps - 1 - j) d = get_or-reverse steps j d (omega arith) in
    let e : length steps - 1 - i ≡ length steps - 1 - j =
    once (length steps - 1 - i) (length steps - 1 - j) d (omega arith) (omega arith)
    (subst (λ (s : Step). AreOfOnePath s (get_or steps (length steps - 1 - j) d)) at_i (subst (AreOfOnePath (get_or (reverse steps) i d)) at_j same)) in
    omega arith

-- a trace goes on over a step of another scan path
pub met_more : (n : Netlist) (cells : Cells) (output : NetId) (steps : List Step) (sink : Sink) (step : Step)
    → IsMet n cells output steps sink → IsOnlySource n cells (sources.Out step) sink → (IsAmong steps step → ⊥)
    → IsMet n cells output (steps ++ step ∷ []) (sinks.In step.instance step.path)
met_more n cells output steps sink step m only none = record {
  meets = meets_push n cells steps (sinks.Port output) sink step m.meets only;
  once = once_push steps step m.once none;
}

-- a trace ends at a port
pub met_port : (n : Netlist) (cells : Cells) (output : NetId) (steps : List Step) (sink : Sink) (input : NetId)
    → IsMet n cells output steps sink → IsOnlySource n cells (sources.Port input) sink
    → IsScanPath n cells output (record { input = input; output = output; steps = reverse steps })
met_port n cells output steps sink input m only = record {
  ends = refl;
  leads = leads n cells steps (sinks.Port output) input (meets_port n cells steps (sinks.Port output) sink input m.meets only);
  once = once_reverse steps m.once;
}

-- what a path goes over behind what a trace went over
record Goes (n : Netlist) (cells : Cells) (sink : Sink) (steps all : List Step) (input : NetId) : Type 0 where
  rest : List Step
  splits : all ≡ steps ++ rest
  backs : Backs n cells sink rest input

goes : (n : Netlist) (cells : Cells) (steps all : List Step) (from sink : Sink) (input : NetId)
    → Meets n cells from steps sink → Backs n cells from all input → Goes n cells sink steps all input
goes n cells [] all from sink input m b = record { rest = all; splits = refl; backs = subst (λ (s : Sink). Backs n cells s all input) m b }
goes n cells (t ∷ ts) [] from sink input m b = absurd (not_both input t (m.0.only (sources.Port input) b.feeds))
goes n cells (t ∷ ts) (x ∷ xs) from sink input m b =
    let e : x ≡ t = same_step x t (m.0.only (sources.Out x) b.0.feeds) in
    let more : Backs n cells (sinks.In t.instance t.path) xs input = subst (λ (s : Step). Backs n cells (sinks.In s.instance s.path) xs input) e b.1 in
    let g = goes n cells ts xs (sinks.In t.instance t.path) sink input m.1 more in
    record { rest = g.rest; splits = ap (λ (s : Step). s ∷ xs) e ∙ ap (λ (zs : List Step). t ∷ zs) g.splits; backs = g.backs }

path_goes : (n : Netlist) (cells : Cells) (output : NetId) (steps : List Step) (sink : Sink) (q : Path)
    → IsMet n cells output steps sink → IsScanPath n cells output q → Goes n cells sink steps (reverse q.steps) q.input
path_goes n cells output steps sink q m p =
    goes n cells steps (reverse q.steps) (sinks.Port output) sink q.input m.meets (backs n cells q.steps (sinks.Port output) q.input p.leads)

none_backs : (n : Netlist) (cells : Cells) (sink : Sink) (rest : List Step) (input : NetId) → HasNoSource n cells sink → Backs n cells sink rest input → ⊥
none_backs n cells sink [] input none b = none (sources.Port input) b.feeds
none_backs n cells sink (x ∷ xs) input none b = none (sources.Out x) b.0.feeds

two_backs : (n : Netlist) (cells : Cells) (sink : Sink) (rest : List Step) (input : NetId) → HasTwoSources n cells sink → Backs n cells sink rest input → ⊥
two_backs n cells sink [] input two b = two.differ (b.only two.one two.one_feeds ∙ sym (b.only two.other two.other_feeds))
two_backs n cells sink (x ∷ xs) input two b = two.differ (b.0.only two.one two.one_feeds ∙ sym (b.0.only two.other two.other_feeds))

-- no path, where a sink that is met has no source
pub no_path_none : (n : Netlist) (cells : Cells) (output : NetId) (steps : List Step) (sink : Sink) → IsMet n cells output steps sink → HasNoSource n cells sink
    → (q : Path) → IsScanPath n cells output q → ⊥
no_path_none n cells output steps sink m none q p =
    let g = path_goes n cells output steps sink q m p in
    none_backs n cells sink g.rest q.input none g.backs

-- no path, where it has two
pub no_path_two : (n : Netlist) (cells : Cells) (output : NetId) (steps : List Step) (sink : Sink) → IsMet n cells output steps sink → HasTwoSources n cells sink
    → (q : Path) → IsScanPath n cells output q → ⊥
no_path_two n cells output steps sink m two q p =
    let g = path_goes n cells output steps sink q m p in
    two_backs n cells sink g.rest q.input two g.backs

pub again_twice : (steps rest : List Step) (step : Step) → IsAmong steps step → StandOnce (steps ++ step ∷ rest) → ⊥
again_twice steps rest step again once =
    let k = again.0 in
    let front : get_or (steps ++ step ∷ rest) k step ≡ get_or steps k step = get_or_append_left steps (step ∷ rest) step k again.1 in
    let here : get_or (steps ++ step ∷ rest) (length steps) step ≡ step = get_or_at steps step rest step (length steps) refl in
    let len = length-append steps (step ∷ rest) in
    let e : k ≡ length steps =
    once k (length steps) step (omega (arith, again.1)) (omega arith)
    (subst (λ (s : Step). AreOfOnePath s (get_or (steps ++ step ∷ rest) (length steps) step)) (sym front) (subst (AreOfOnePath (get_or steps k step)) (sym here) again.2)) in
    omega (arith, again.1)

again_backs : (n : Netlist) (cells : Cells) (sink : Sink) (steps rest : List Step) (step : Step) (input : NetId)
    → IsOnlySource n cells (sources.Out step) sink → IsAmong steps step → StandOnce (steps ++ rest) → Backs n cells sink rest input → ⊥
again_backs n cells sink steps [] step input only again once b = not_both input step (only.only (sources.Port input) b.feeds)
again_backs n cells sink steps (x ∷ xs) step input only again once b =
    let e : x ≡ step = same_step x step (only.only (sources.Out x) b.0.feeds) in
    again_twice steps xs step again (subst (λ (s : Step). StandOnce (steps ++ s ∷ xs)) e once)

-- no path, where its only source is of a scan path that was met before
pub no_path_loop : (n : Netlist) (cells : Cells) (output : NetId) (steps : List Step) (sink : Sink) (step : Step) → IsMet n cells output steps sink
    → IsOnlySource n cells (sources.Out step) sink → IsAmong steps step → (q : Path) → IsScanPath n cells output q → ⊥
no_path_loop n cells output steps sink step m only again q p =
    let g = path_goes n cells output steps sink q m p in
    again_backs n cells sink steps g.rest step q.input only again (subst StandOnce g.splits (once_reverse q.steps p.once)) g.backs

-- a fault excludes every path
pub no_path : (n : Netlist) (cells : Cells) (output : NetId) (fault : Fault) → IsTraceFault n cells output fault → (q : Path) → IsScanPath n cells output q → ⊥
no_path n cells output fault (inl f) q p = no_path_none n cells output f.steps f.sink f.met f.none q p
no_path n cells output fault (inr (inl f)) q p = no_path_two n cells output f.steps f.sink f.met f.two q p
no_path n cells output fault (inr (inr f)) q p = no_path_loop n cells output f.steps f.sink f.step f.met f.only f.again q p

pub fault_then : {X : Type 0} (r : Result X ReadFault) (P Q : Fault → Type 0) → ((fault : Fault) → P fault → Q fault) → IfFault r P → IfFault r Q
fault_then (Ok x) P Q f h = h
fault_then (Err (faults.Fault fault)) P Q f h = f fault h
fault_then (Err faults.NoMemory) P Q f h = h

pub source_of : (n : Netlist) (cells : Cells) (sink : Sink) (found : Found) (source : Source) → found ≡ Only source → Says n cells sink found → IsOnlySource n cells source sink
source_of n cells sink found source e says = subst (Says n cells sink) e says
