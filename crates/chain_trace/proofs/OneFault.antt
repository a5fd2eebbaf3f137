-- A trace meets one fault at most: of two traces from one output the shorter is the front of the longer.
use Rattle.std.proofs.Common.{◌≡◌, ◌⊎◌, inl, inr, List, [], ◌∷◌, ◌++◌, refl, sym, ap, ◌∙◌, subst}
use Rattle.base_types.specs.declared.fault.Fault.{Fault}
use Rattle.base_types.specs.declared.fault.FileKind.TheVariants.{Verilog}
use Rattle.base_types.specs.declared.kind.Kind.TheVariants as kinds
use Rattle.base_types.specs.Faults.{at_line}
use Rattle.std.specs.List.{slice_get}
use Rattle.netlist_core.specs.declared.netlist.NetId.{NetId}
use Rattle.netlist_core.specs.declared.netlist.Netlist.{Netlist}
use Rattle.cell_table.specs.Cells.{Cells}
use Rattle.chain_trace.specs.declared.path.Step.{Step}
use Rattle.chain_trace.specs.declared.path.Source.TheVariants as sources
use Rattle.chain_trace.specs.declared.path.Sink.{Sink}
use Rattle.chain_trace.specs.declared.path.Sink.TheVariants as sinks
use Rattle.chain_trace.specs.Paths.{IsOnlySource, StandOnce}
use Rattle.chain_trace.specs.Faults.{Meets, IsMet, HasNoSource, HasTwoSources, IsAmong, IsNoDriver, IsTwoDrivers, IsLoop, IsTraceFault, line_of_instance, sink_line}
use Rattle.chain_trace.proofs.Unique.{same_step}
use Rattle.chain_trace.proofs.Meeting.{again_twice}

module _ (n : Netlist) (cells : Cells) where
  -- the first trace is the front of the second, which goes on or ends there
  record IsFront (xs ys : List Step) (a b : Sink) : Type 0 where
    rest : List Step
    splits : ys ≡ xs ++ rest
    meets : Meets n cells a rest b

  fronts : (from : Sink) (xs ys : List Step) (a b : Sink) → Meets n cells from xs a → Meets n cells from ys b → IsFront xs ys a b ⊎ IsFront ys xs b a
  fronts from [] ys a b m k = inl (record { rest = ys; splits = refl; meets = subst (λ (s : Sink). Meets n cells s ys b) m k })
  fronts from (x ∷ xs) [] a b m k = inr (record { rest = x ∷ xs; splits = refl; meets = subst (λ (s : Sink). Meets n cells s (x ∷ xs) a) k m })
  fronts from (x ∷ xs) (y ∷ ys) a b m k =
      let e : x ≡ y = same_step x y (k.0.only (sources.Out x) m.0.feeds) in
      let more : Meets n cells (sinks.In y.instance y.path) xs a = subst (λ (s : Step). Meets n cells (sinks.In s.instance s.path) xs a) e m.1 in
      elim (fronts (sinks.In y.instance y.path) xs ys a b more k.1) [
        | inl f ↦ inl (record { rest = f.rest; splits = ap (λ (zs : List Step). y ∷ zs) f.splits ∙ ap (λ (s : Step). s ∷ (xs ++ f.rest)) (sym e); meets = f.meets })
        | inr f ↦ inr (record { rest = f.rest; splits = ap (λ (zs : List Step). x ∷ zs) f.splits ∙ ap (λ (s : Step). s ∷ (ys ++ f.rest)) e; meets = f.meets })
      ]

  -- where a trace stops: at a sink without a source, at one with two, or at one whose only source was met before
  data Stops (steps : List Step) (sink : Sink) (fault : Fault) : Type 0 where
    AtNone : HasNoSource n cells sink → fault ≡ at_line kinds.NoDriver Verilog (sink_line n sink) → Stops steps sink fault
    AtTwo : HasTwoSources n cells sink → fault ≡ at_line kinds.TwoDrivers Verilog (sink_line n sink) → Stops steps sink fault
    AtAgain : (step : Step) → IsOnlySource n cells (sources.Out step) sink → IsAmong steps step
        → fault ≡ at_line kinds.Loop Verilog (line_of_instance (slice_get n.instances step.instance)) → Stops steps sink fault

  two_only : (step : Step) (sink : Sink) → HasTwoSources n cells sink → IsOnlySource n cells (sources.Out step) sink → ⊥
  two_only step sink two only = two.differ (only.only two.one two.one_feeds ∙ sym (only.only two.other two.other_feeds))

  -- it goes on over no step
  no_more : (xs ys rest : List Step) (x : Step) (sink : Sink) (fault : Fault) → ys ≡ xs ++ x ∷ rest → StandOnce ys → Stops xs sink fault → IsOnlySource n cells (sources.Out x) sink → ⊥
  no_more xs ys rest x sink fault e once (AtNone none is) only = none (sources.Out x) only.feeds
  no_more xs ys rest x sink fault e once (AtTwo two is) only = two_only x sink two only
  no_more xs ys rest x sink fault e once (AtAgain step last again is) only =
      let same : x ≡ step = same_step x step (last.only (sources.Out x) only.feeds) in
      again_twice xs rest step again (subst (λ (s : Step). StandOnce (xs ++ s ∷ rest)) same (subst StandOnce e once))

  -- two faults at one sink
  one_stop : (xs ys : List Step) (sink : Sink) (f g : Fault) → Stops xs sink f → Stops ys sink g → f ≡ g
  one_stop xs ys sink f g (AtNone none a) (AtNone other b) = a ∙ sym b
  one_stop xs ys sink f g (AtNone none a) (AtTwo two b) = absurd (none two.one two.one_feeds)
  one_stop xs ys sink f g (AtNone none a) (AtAgain step only again b) = absurd (none (sources.Out step) only.feeds)
  one_stop xs ys sink f g (AtTwo two a) (AtNone none b) = absurd (none two.one two.one_feeds)
  one_stop xs ys sink f g (AtTwo two a) (AtTwo other b) = a ∙ sym b
  one_stop xs ys sink f g (AtTwo two a) (AtAgain step only again b) = absurd (two_only step sink two only)
  one_stop xs ys sink f g (AtAgain step only again a) (AtNone none b) = absurd (none (sources.Out step) only.feeds)
  one_stop xs ys sink f g (AtAgain step only again a) (AtTwo two b) = absurd (two_only step sink two only)
  one_stop xs ys sink f g (AtAgain step only again a) (AtAgain other last more b) =
      let same : step ≡ other = same_step step other (last.only (sources.Out step) only.feeds) in
      a ∙ ap (λ (s : Step). at_line kinds.Loop Verilog (line_of_instance (slice_get n.instances s.instance))) same ∙ sym b

  -- the longer trace ends where the shorter stops
  front_stop : (xs ys rest : List Step) (a b : Sink) (f g : Fault) → ys ≡ xs ++ rest → Meets n cells a rest b → StandOnce ys → Stops xs a f → Stops ys b g → f ≡ g
  front_stop xs ys [] a b f g e m once s t = one_stop xs ys b f g (subst (λ (k : Sink). Stops xs k f) m s) t
  front_stop xs ys (x ∷ rest) a b f g e m once s t = absurd (no_more xs ys rest x a f e once s m.0)

  module _ (output : NetId) where
    record IsStopped (fault : Fault) : Type 0 where
      steps : List Step
      sink : Sink
      met : IsMet n cells output steps sink
      stops : Stops steps sink fault

    stopped : (fault : Fault) → IsTraceFault n cells output fault → IsStopped fault
    stopped fault (inl f) = record { steps = f.steps; sink = f.sink; met = f.met; stops = AtNone f.none f.is }
    stopped fault (inr (inl f)) = record { steps = f.steps; sink = f.sink; met = f.met; stops = AtTwo f.two f.is }
    stopped fault (inr (inr f)) = record { steps = f.steps; sink = f.sink; met = f.met; stops = AtAgain f.step f.only f.again f.is }

    pub one_fault : (f g : Fault) → IsTraceFault n cells output f → IsTraceFault n cells output g → f ≡ g
    one_fault f g a b =
        let s = stopped f a in
        let t = stopped g b in
        elim (fronts (sinks.Port output) s.steps t.steps s.sink t.sink s.met.meets t.met.meets) [
          | inl h ↦ front_stop s.steps t.steps h.rest s.sink t.sink f g h.splits h.meets t.met.once s.stops t.stops
          | inr h ↦ sym (front_stop t.steps s.steps h.rest t.sink s.sink g f h.splits h.meets s.met.once t.stops s.stops)
        ]
