-- `bench` finds no fault in what it makes, so that it is done where memory suffices and no call fails.
use Rattle.std.proofs.Common.{◌≡◌, ◌⊎◌, ℕ, List, [], Result, inl, inr}
use Rattle.base_types.specs.declared.fault.Fault.{Fault}
use Rattle.desk_io.specs.declared.slot.Slot.{Slot}
use Rattle.desk_io.specs.declared.slot.Slot.TheVariants.{Table, Lef, Verilog, Def, Stil, NewVerilog, NewStil, Log}
use Rattle.desk_io.specs.Desk.{IsInput}
use Rattle.desk_io.specs.Names.{IsNamed}
use Rattle.made_law.specs.Laws.{BesideHeadLaw, PatternsLaw}
use Rattle.scan_job.specs.declared.stop.Stop.{Stop}
use Rattle.scan_job.specs.declared.commands.bench.BenchRequest.{BenchRequest}
use Rattle.scan_job.specs.Commands.Patterns.{HoldsInRetargeting, Before, OfPatterns}
use Rattle.scan_job.specs.Commands.Bench.{HoldsInMade, made_design, made_stil}
use Rattle.scan_job.specs.Requests.{Bench, Asks, names_of}
use Rattle.scan_job.specs.Faults.{HasNoFault}
use Rattle.scan_job.specs.TopCall.{Slots, NoneRose, Reads}
use Rattle.scan_job.specs.Ended.{HasRun, status_of}
use Rattle.scan_job.proofs.TopClauses.{complete}

-- it names no input
unnamed : (r : BenchRequest) (slot : Slot) → IsInput slot → IsNamed (names_of (Bench r)) slot → ⊥
unnamed r Table reads named = absurd cc
unnamed r Lef reads named = absurd cc
unnamed r Verilog reads named = absurd cc
unnamed r Def reads named = absurd cc
unnamed r Stil reads named = absurd cc
unnamed r NewVerilog reads named = absurd cc
unnamed r NewStil reads named = absurd cc
unnamed r Log reads named = absurd cc
unnamed r slot reads named = absurd reads

no_file : Slot → List ℕ
no_file slot = []

module _ (files_law : BesideHeadLaw) (patterns_law : PatternsLaw) where
  nothing_wrong : (word : List ℕ) (fault : Fault) → HoldsInMade word fault → ⊥
  nothing_wrong word fault h = by h.holds
    where
      by : HoldsInRetargeting (made_design h.units.number) (made_stil h.units.number) fault → ⊥
      by (Before text is holds) = files_law h.units.number text h.units.fewest h.units.most is fault holds
      by (OfPatterns text is p) = patterns_law h.units.number text h.units.fewest h.units.most is fault p

  no_fault : (r : BenchRequest) → HasNoFault (Bench r) no_file
  no_fault r fault (inl size) = unnamed r size.holds.slot size.holds.input size.holds.named
  no_fault r fault (inr own) = nothing_wrong r.units fault own.1.holds

  pub bench_done : (words : List (List ℕ)) (old new : Slots) (ended : Result (Unit {0}) Stop) (status : ℕ) → status ≡ status_of ended → HasRun words old new ended
      → (r : BenchRequest) → Asks words (Bench r) → NoneRose old new → (status ≡ 0) ⊎ (status ≡ 5)
  bench_done words old new ended status is run r says none =
      let reads : Reads (Bench r) no_file old = λ slot input named. absurd (unnamed r slot input named) in
      complete words old new (Bench r) says no_file reads ended status is run (no_fault r) none
