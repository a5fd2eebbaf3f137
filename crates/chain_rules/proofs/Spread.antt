-- Chains disturb one another exactly where their spans have a number in common.
use Rattle.std.proofs.Common.{◌≡◌, ◌≢◌, ℕ, ◌+◌, ◌-◌, ◌<◌, ◌≤◌, ◌⊎◌, zero, suc, List, [], ◌∷◌, ◌++◌, length, sum_by, Option, Some, None, All, IfSome, inl, inr, ⊎_elim, sym, ap, subst, ◌∙◌, arith}
use Rattle.std.proofs.lemmas.Bool.{cases_lt, cases_eq}
use Rattle.std.proofs.lemmas.List.{get_or_append_left, get_or_push, length_push, get_or_default}
use Rattle.std.proofs.lemmas.List.Sums.{sum_by_more_le, sum_by_more}
use Rattle.std.proofs.lemmas.List.Elements.{All-contains}
use Rattle.chain_rules.specs.declared.stretch.Run.{Run}
use Rattle.chain_rules.specs.declared.spans.Span.{Span}
use Rattle.chain_rules.specs.declared.meets.Spread.{Spread}
use Rattle.chain_rules.specs.declared.spec.PathSpec.{PathSpec}
use Rattle.chain_rules.specs.declared.spec.EndSpec.{EndSpec}
use Rattle.chain_rules.specs.declared.spec.EndSpec.TheVariants.{Port, Cell}
use Rattle.chain_rules.specs.declared.spec.ChainSpec.{ChainSpec}
use Rattle.chain_rules.specs.Stretches.{path_at, step_at, spec_at, no_path, no_chain, elements_of, IsPlace, IsInside, BeginsAt, EndsAt, StandsIn, IsEndStep, Stretch, IsStretch, HasEndIn, ShareStep, Disturbs, StepsOnce, HasElements, AreChainSpecs}
use Rattle.chain_rules.specs.ChainFaults.{Meet}
use Rattle.chain_rules.specs.Indexes.{steps_before}
use Rattle.chain_rules.specs.Runs.{stretch, run_at, IsRunOf, AreRunsOf}
use Rattle.chain_rules.specs.Spans.{no_span, span_at, Overlap, MeetsOne, MeetsAnother}
use Rattle.chain_rules.specs.Spreading.{IsOnPath, span_of, at_place, IsSpanOfRun, IsSpanOfEnd, AreSpansOf, IsSpread, IsMet}
use Rattle.chain_rules.proofs.Stretched.{place_once, stretch_within, element_of, only_stretch}

-- ---- numbers of steps

abbrev steps_of : PathSpec → ℕ
steps_of path = length path.steps

-- the steps of a path come before those of a later path
before_later : (paths : List PathSpec) (n m : ℕ) → n < m → m < length paths → steps_before paths n + length (path_at paths n).steps ≤ steps_before paths m
before_later paths n zero h l = absurd (omega arith)
before_later paths n (suc m) h l =
    let here : steps_before paths (m + 1) ≡ steps_before paths m + length (path_at paths m).steps = sum_by_more steps_of paths m no_path (omega arith) in
    let next : suc m ≡ m + 1 = omega arith in
    ⊎_elim
    (λ (below : n < m). omega (arith, here, ap (steps_before paths) next, before_later paths n m below (omega arith)))
    (λ (last : m ≤ n).
    let same : n ≡ m = omega arith in
    omega (arith, here, ap (steps_before paths) next, ap (steps_before paths) same, ap (λ (k : ℕ). length (path_at paths k).steps) same))
    (cases_lt n m)

pub before_within : (paths : List PathSpec) (n : ℕ) → n < length paths → steps_before paths n + length (path_at paths n).steps ≤ sum_by steps_of paths
before_within paths n h = sum_by_more_le steps_of paths n no_path h

turned : (s t : Span) → Overlap s t → Overlap t s
turned s t o = record { first = o.second; second = o.first }

shares_turned : (s t : Stretch) → ShareStep s t → ShareStep t s
shares_turned s t (e, k, a, b) = (sym e, k, b, a)

-- stretches share a step exactly where their spans have a number in common
share_of_overlap : (paths : List PathSpec) (s t : Stretch) → IsOnPath paths s → IsOnPath paths t → Overlap (span_of paths s) (span_of paths t) → ShareStep s t
share_of_overlap paths s t a b o =
    ⊎_elim
    (λ (before : s.path < t.path). absurd (omega (arith, before_later paths s.path t.path before b.path, o.second, a.within)))
    (λ (not_before : t.path ≤ s.path).
    ⊎_elim
    (λ (behind : t.path < s.path). absurd (omega (arith, before_later paths t.path s.path behind a.path, o.first, b.within)))
    (λ (not_behind : s.path ≤ t.path).
    let same : s.path ≡ t.path = omega arith in
    let level : steps_before paths s.path ≡ steps_before paths t.path = ap (steps_before paths) same in
    let first : s.from < t.to = omega (arith, level, o.first) in
    let second : t.from < s.to = omega (arith, level, o.second) in
    ⊎_elim
    (λ (low : s.from < t.from). let w : ShareStep s t = (same, t.from, record { low = omega arith; high = second }, record { low = omega arith; high = b.some }) in w)
    (λ (high : t.from ≤ s.from). let w : ShareStep s t = (same, s.from, record { low = omega arith; high = a.some }, record { low = high; high = first }) in w)
    (cases_lt s.from t.from))
    (cases_lt t.path s.path))
    (cases_lt s.path t.path)

overlap_of_share : (paths : List PathSpec) (s t : Stretch) → ShareStep s t → Overlap (span_of paths s) (span_of paths t)
overlap_of_share paths s t (e, k, a, b) =
    let level : steps_before paths s.path ≡ steps_before paths t.path = ap (steps_before paths) e in
    record { first = omega (arith, level, a.low, b.high); second = omega (arith, level, b.low, a.high) }

-- ---- stretches and ends of chains

pub on_path : (paths : List PathSpec) (chain : ChainSpec) (s : Stretch) → HasElements chain → IsStretch paths chain s → IsOnPath paths s
on_path paths chain s has is =
    let e = element_of chain has in
    let stands = All-contains (StandsIn (path_at paths s.path) s) (elements_of chain) e.0 is.elements e.1 in
    record { path = is.path; within = stretch_within paths chain s is; some = omega (arith, stands.1.low, stands.1.high) }

pub run_on_path : (paths : List PathSpec) (chain : ChainSpec) (o : Option Run) → HasElements chain → IsRunOf paths chain o → IfSome o (λ r. IsOnPath paths (stretch r))
run_on_path paths chain None has is = tt
run_on_path paths chain (Some r) has is = on_path paths chain (stretch r) has is

place_on_path : (paths : List PathSpec) (n k : ℕ) → IsPlace paths n k → IsOnPath paths (at_place n k)
place_on_path paths n k p = record { path = p.path; within = omega (arith, p.step); some = omega arith }

-- the step of a START or STOP cell lies in the stretch
abbrev EndInside : List PathSpec → EndSpec → Stretch → Type 0
EndInside paths end s = (k : ℕ) × IsInside s k × (k < length (path_at paths s.path).steps) × IsEndStep (step_at (path_at paths s.path) k) end

has_end : (paths : List PathSpec) (chain : ChainSpec) (s : Stretch) → EndInside paths chain.start s ⊎ EndInside paths chain.stop s → HasEndIn paths chain s
has_end paths chain s ends =
    ⊎_elim
    (λ (w : EndInside paths chain.start s). let e : HasEndIn paths chain s = (w.0, w.1, w.2, inl w.3) in e)
    (λ (w : EndInside paths chain.stop s). let e : HasEndIn paths chain s = (w.0, w.1, w.2, inr w.3) in e)
    ends

end_had : (paths : List PathSpec) (chain : ChainSpec) (s : Stretch) → HasEndIn paths chain s → EndInside paths chain.start s ⊎ EndInside paths chain.stop s
end_had paths chain s (k, a, b, e) =
    ⊎_elim
    (λ (w : IsEndStep (step_at (path_at paths s.path) k) chain.start). let r : EndInside paths chain.start s ⊎ EndInside paths chain.stop s = inl (k, a, b, w) in r)
    (λ (w : IsEndStep (step_at (path_at paths s.path) k) chain.stop). let r : EndInside paths chain.start s ⊎ EndInside paths chain.stop s = inr (k, a, b, w) in r)
    e

-- a chain's own START and STOP cells don't lie in its stretch
no_own_start : (paths : List PathSpec) → StepsOnce paths → (n : ℕ) → n < length paths → (start : EndSpec) (from k : ℕ) → BeginsAt (path_at paths n) start from → from ≤ k → k < length (path_at paths n).steps → IsEndStep (step_at (path_at paths n) k) start → ⊥
no_own_start paths once n h (Port net) from k b low l e = e
no_own_start paths once n h (Cell cell scan out) from k b low l e =
    let some = b.0 in
    let high = b.1 in
    let same = (place_once paths once n (from - 1) n k cell scan (record { path = h; step = omega arith }) (record { path = h; step = l }) b.2 e).1 in
    omega (arith, same)

no_own_stop : (paths : List PathSpec) → StepsOnce paths → (n : ℕ) → n < length paths → (stop : EndSpec) (to k : ℕ) → EndsAt (path_at paths n) stop to → k < to → k < length (path_at paths n).steps → IsEndStep (step_at (path_at paths n) k) stop → ⊥
no_own_stop paths once n h (Port net) to k b high l e = e
no_own_stop paths once n h (Cell cell scan out) to k b high l e =
    let same = (place_once paths once n to n k cell scan (record { path = h; step = b.0 }) (record { path = h; step = l }) b.1 e).1 in
    omega (arith, same)

no_own_end : (paths : List PathSpec) → StepsOnce paths → (chain : ChainSpec) (s : Stretch) → IsStretch paths chain s → ¬ HasEndIn paths chain s
no_own_end paths once chain s is (k, inside, l, e) =
    ⊎_elim (no_own_start paths once s.path is.path chain.start s.from k is.begins inside.low l) (no_own_stop paths once s.path is.path chain.stop s.to k is.ends inside.high l) e

end_place_once : (paths : List PathSpec) → StepsOnce paths → (end : EndSpec) (n k m l : ℕ) → IsPlace paths n k → IsPlace paths m l → IsEndStep (step_at (path_at paths n) k) end → IsEndStep (step_at (path_at paths m) l) end → (n ≡ m) × (k ≡ l)
end_place_once paths once (Port net) n k m l p q a b = absurd a
end_place_once paths once (Cell cell scan out) n k m l p q a b = place_once paths once n k m l cell scan p q a b

-- ---- spans of stretches and of ends

nothing_left : (s : Span) → Overlap s no_span → ⊥
nothing_left s o = omega (arith, o.first)

-- the span of the chain's stretch
span_there : (paths : List PathSpec) → StepsOnce paths → (chain : ChainSpec) → HasElements chain → (o : Option Run) (x : Span) (t : Stretch) → IsRunOf paths chain o → IsSpanOfRun paths o x → IsStretch paths chain t → x ≡ span_of paths t
span_there paths once chain has None x t none e is = absurd (none (t, is))
span_there paths once chain has (Some r) x t run e is = e ∙ ap (span_of paths) (only_stretch paths once chain has (stretch r) t run is)

-- what has a number in common with the span of a chain's stretch has it with a stretch
stretch_there : (paths : List PathSpec) (chain : ChainSpec) (o : Option Run) (x y : Span) → IsRunOf paths chain o → IsSpanOfRun paths o x → Overlap y x → (t : Stretch) × IsStretch paths chain t × Overlap y (span_of paths t)
stretch_there paths chain None x y none e o = absurd (nothing_left y (subst (λ (z : Span). Overlap y z) e o))
stretch_there paths chain (Some r) x y run e o = (stretch r, run, subst (λ (z : Span). Overlap y z) e o)

-- a place in the stretch, and its number in the span
inside_of_overlap : (paths : List PathSpec) (end : EndSpec) (x : Span) (s : Stretch) → IsOnPath paths s → IsSpanOfEnd paths end x → Overlap (span_of paths s) x → EndInside paths end s
inside_of_overlap paths end x s on is o =
    ⊎_elim
    (λ (w : (x ≡ no_span) × ((n k : ℕ) → IsPlace paths n k → ¬ IsEndStep (step_at (path_at paths n) k) end)). absurd (nothing_left (span_of paths s) (subst (λ (z : Span). Overlap (span_of paths s) z) w.0 o)))
    (λ (w : (n : ℕ) × (k : ℕ) × IsPlace paths n k × IsEndStep (step_at (path_at paths n) k) end × (x ≡ span_of paths (at_place n k))).
    let n : ℕ = w.0 in
    let k : ℕ = w.1 in
    let share : ShareStep s (at_place n k) = share_of_overlap paths s (at_place n k) on (place_on_path paths n k w.2) (subst (λ (z : Span). Overlap (span_of paths s) z) w.4 o) in
    let here : share.1 ≡ k = omega (arith, share.3.low, share.3.high) in
    let inside : IsInside s k = subst (λ (j : ℕ). IsInside s j) here share.2 in
    let there : k < length (path_at paths s.path).steps = subst (λ (m : ℕ). k < length (path_at paths m).steps) (sym share.0) w.2.step in
    let step : IsEndStep (step_at (path_at paths s.path) k) end = subst (λ (m : ℕ). IsEndStep (step_at (path_at paths m) k) end) (sym share.0) w.3 in
    let r : EndInside paths end s = (k, inside, there, step) in
    r)
    is

overlap_of_inside : (paths : List PathSpec) → StepsOnce paths → (end : EndSpec) (x : Span) (s : Stretch) → IsOnPath paths s → IsSpanOfEnd paths end x → EndInside paths end s → Overlap (span_of paths s) x
overlap_of_inside paths once end x s on is (j, inside, l, e) =
    let p : IsPlace paths s.path j = record { path = on.path; step = l } in
    ⊎_elim
    (λ (w : (x ≡ no_span) × ((n k : ℕ) → IsPlace paths n k → ¬ IsEndStep (step_at (path_at paths n) k) end)). absurd (w.1 s.path j p e))
    (λ (w : (n : ℕ) × (k : ℕ) × IsPlace paths n k × IsEndStep (step_at (path_at paths n) k) end × (x ≡ span_of paths (at_place n k))).
    let n : ℕ = w.0 in
    let k : ℕ = w.1 in
    let same = end_place_once paths once end s.path j n k p w.2 e w.3 in
    let share : ShareStep s (at_place n k) = (same.0, j, inside, record { low = omega (arith, same.1); high = omega (arith, same.1) }) in
    subst (λ (z : Span). Overlap (span_of paths s) z) (sym w.4) (overlap_of_share paths s (at_place n k) share))
    is

-- ---- the chains

-- a chain with a stretch, among chains with their spans
pub record IsSet (paths : List PathSpec) (chains : List ChainSpec) (runs : List (Option Run)) (spread : Spread) (c : ℕ) (s : Stretch) : Type 0 where
  pub good : AreChainSpecs paths chains
  pub runs_are : AreRunsOf paths chains runs
  pub spread_is : IsSpread paths chains runs spread
  pub within : c < length chains
  pub stretch_is : IsStretch paths (spec_at chains c) s

module _ (paths : List PathSpec) (chains : List ChainSpec) (runs : List (Option Run)) (spread : Spread) (c : ℕ) (s : Stretch) (set : IsSet paths chains runs spread c s) where
  once : StepsOnce paths
  once = set.good.steps_once

  has : (d : ℕ) → d < length chains → HasElements (spec_at chains d)
  has d h = set.good.elements d no_chain h

  on : IsOnPath paths s
  on = on_path paths (spec_at chains c) s (has c set.within) set.stretch_is

  own : span_at spread.stretches c ≡ span_of paths s
  own = span_there paths once (spec_at chains c) (has c set.within) (run_at runs c) (span_at spread.stretches c) s (set.runs_are.each c set.within) (set.spread_is.stretches.each c set.within) set.stretch_is

  other_span : (d : ℕ) → d < length chains → (t : Stretch) → IsStretch paths (spec_at chains d) t → span_at spread.stretches d ≡ span_of paths t
  other_span d h t is = span_there paths once (spec_at chains d) (has d h) (run_at runs d) (span_at spread.stretches d) t (set.runs_are.each d h) (set.spread_is.stretches.each d h) is

  other_stretch : (d : ℕ) → d < length chains → (y : Span) → Overlap y (span_at spread.stretches d) → (t : Stretch) × IsStretch paths (spec_at chains d) t × Overlap y (span_of paths t)
  other_stretch d h y o = stretch_there paths (spec_at chains d) (run_at runs d) (span_at spread.stretches d) y (set.runs_are.each d h) (set.spread_is.stretches.each d h) o

  abbrev Clash : Type 0
  Clash = (d : ℕ) × (d < length chains) × Meet paths chains c d

  -- another stretch
  by_stretch : MeetsAnother spread.stretches c → Clash
  by_stretch (d, l, ne, o) =
      let h : d < length chains = omega (arith, set.spread_is.stretches.long) in
      let w = other_stretch d h (span_of paths s) (subst (λ (z : Span). Overlap z (span_at spread.stretches d)) own o) in
      let t : Stretch = w.0 in
      let share : ShareStep s t = share_of_overlap paths s t on (on_path paths (spec_at chains d) t (has d h) w.1) w.2 in
      let m : Meet paths chains c d = (ne, inl (s, set.stretch_is, inr (t, w.1, share))) in
      (d, h, m)

  -- an end of another chain in the stretch
  by_end : (d : ℕ) → d < length chains → HasEndIn paths (spec_at chains d) s → Clash
  by_end d h ends =
      ⊎_elim
      (λ (e : d ≡ c). absurd (no_own_end paths once (spec_at chains c) s set.stretch_is (subst (λ (x : ℕ). HasEndIn paths (spec_at chains x) s) e ends)))
      (λ (ne : d ≡ c → ⊥). let m : Meet paths chains c d = (ne, inl (s, set.stretch_is, inl ends)) in let r : Clash = (d, h, m) in r)
      (cases_eq d c)

  by_start : MeetsOne (span_at spread.stretches c) spread.starts → Clash
  by_start (d, l, o) =
      let h : d < length chains = omega (arith, set.spread_is.starts.long) in
      by_end d h (has_end paths (spec_at chains d) s (inl (inside_of_overlap paths (spec_at chains d).start (span_at spread.starts d) s on (set.spread_is.starts.each d h) (subst (λ (z : Span). Overlap z (span_at spread.starts d)) own o))))

  by_stop : MeetsOne (span_at spread.stretches c) spread.stops → Clash
  by_stop (d, l, o) =
      let h : d < length chains = omega (arith, set.spread_is.stops.long) in
      by_end d h (has_end paths (spec_at chains d) s (inr (inside_of_overlap paths (spec_at chains d).stop (span_at spread.stops d) s on (set.spread_is.stops.each d h) (subst (λ (z : Span). Overlap z (span_at spread.stops d)) own o))))

  -- an end of the chain in another stretch
  by_own_end : (d : ℕ) → d < length chains → (t : Stretch) → IsStretch paths (spec_at chains d) t → HasEndIn paths (spec_at chains c) t → Clash
  by_own_end d h t is ends =
      ⊎_elim
      (λ (e : d ≡ c). absurd (no_own_end paths once (spec_at chains c) t (subst (λ (x : ℕ). IsStretch paths (spec_at chains x) t) e is) ends))
      (λ (ne : d ≡ c → ⊥). let m : Meet paths chains c d = (ne, inr (t, is, inl ends)) in let r : Clash = (d, h, m) in r)
      (cases_eq d c)

  by_own_start : MeetsOne (span_at spread.starts c) spread.stretches → Clash
  by_own_start (d, l, o) =
      let h : d < length chains = omega (arith, set.spread_is.stretches.long) in
      let w = other_stretch d h (span_at spread.starts c) o in
      by_own_end d h w.0 w.1 (has_end paths (spec_at chains c) w.0 (inl (inside_of_overlap paths (spec_at chains c).start (span_at spread.starts c) w.0 (on_path paths (spec_at chains d) w.0 (has d h) w.1) (set.spread_is.starts.each c set.within) (turned (span_at spread.starts c) (span_of paths w.0) w.2))))

  by_own_stop : MeetsOne (span_at spread.stops c) spread.stretches → Clash
  by_own_stop (d, l, o) =
      let h : d < length chains = omega (arith, set.spread_is.stretches.long) in
      let w = other_stretch d h (span_at spread.stops c) o in
      by_own_end d h w.0 w.1 (has_end paths (spec_at chains c) w.0 (inr (inside_of_overlap paths (spec_at chains c).stop (span_at spread.stops c) w.0 (on_path paths (spec_at chains d) w.0 (has d h) w.1) (set.spread_is.stops.each c set.within) (turned (span_at spread.stops c) (span_of paths w.0) w.2))))

  pub clash_of_met : IsMet spread c → Clash
  clash_of_met met = ⊎_elim (⊎_elim (⊎_elim by_stretch by_start) by_stop) (⊎_elim by_own_start by_own_stop) met

  abbrev Met : Type 0
  Met = IsMet spread c

  met_by_stretch : MeetsAnother spread.stretches c → Met
  met_by_stretch w = inl (inl (inl w))

  met_by_start : MeetsOne (span_at spread.stretches c) spread.starts → Met
  met_by_start w = inl (inl (inr w))

  met_by_stop : MeetsOne (span_at spread.stretches c) spread.stops → Met
  met_by_stop w = inl (inr w)

  met_by_own_start : MeetsOne (span_at spread.starts c) spread.stretches → Met
  met_by_own_start w = inr (inl w)

  met_by_own_stop : MeetsOne (span_at spread.stops c) spread.stretches → Met
  met_by_own_stop w = inr (inr w)

  -- the stretches share a step
  met_by_step : (d : ℕ) → d < length chains → d ≢ c → (t : Stretch) → IsStretch paths (spec_at chains d) t → ShareStep s t → Met
  met_by_step d h ne t is share =
      let o : Overlap (span_at spread.stretches c) (span_at spread.stretches d) = subst (λ (y : Span). Overlap y (span_at spread.stretches d)) (sym own) (subst (λ (z : Span). Overlap (span_of paths s) z) (sym (other_span d h t is)) (overlap_of_share paths s t share)) in
      let w : MeetsAnother spread.stretches c = (d, omega (arith, set.spread_is.stretches.long), ne, o) in
      met_by_stretch w

  met_by_its_end : (d : ℕ) → d < length chains → HasEndIn paths (spec_at chains d) s → Met
  met_by_its_end d h ends =
      ⊎_elim
      (λ (e : EndInside paths (spec_at chains d).start s).
      let o : Overlap (span_at spread.stretches c) (span_at spread.starts d) = subst (λ (y : Span). Overlap y (span_at spread.starts d)) (sym own) (overlap_of_inside paths once (spec_at chains d).start (span_at spread.starts d) s on (set.spread_is.starts.each d h) e) in
      let w : MeetsOne (span_at spread.stretches c) spread.starts = (d, omega (arith, set.spread_is.starts.long), o) in
      met_by_start w)
      (λ (e : EndInside paths (spec_at chains d).stop s).
      let o : Overlap (span_at spread.stretches c) (span_at spread.stops d) = subst (λ (y : Span). Overlap y (span_at spread.stops d)) (sym own) (overlap_of_inside paths once (spec_at chains d).stop (span_at spread.stops d) s on (set.spread_is.stops.each d h) e) in
      let w : MeetsOne (span_at spread.stretches c) spread.stops = (d, omega (arith, set.spread_is.stops.long), o) in
      met_by_stop w)
      (end_had paths (spec_at chains d) s ends)

  met_by_own_end : (d : ℕ) → d < length chains → (t : Stretch) → IsStretch paths (spec_at chains d) t → HasEndIn paths (spec_at chains c) t → Met
  met_by_own_end d h t is ends =
      let on_t : IsOnPath paths t = on_path paths (spec_at chains d) t (has d h) is in
      let l : d < length spread.stretches = omega (arith, set.spread_is.stretches.long) in
      ⊎_elim
      (λ (e : EndInside paths (spec_at chains c).start t).
      let o : Overlap (span_of paths t) (span_at spread.starts c) = overlap_of_inside paths once (spec_at chains c).start (span_at spread.starts c) t on_t (set.spread_is.starts.each c set.within) e in
      let w : MeetsOne (span_at spread.starts c) spread.stretches = (d, l, turned (span_at spread.stretches d) (span_at spread.starts c) (subst (λ (y : Span). Overlap y (span_at spread.starts c)) (sym (other_span d h t is)) o)) in
      met_by_own_start w)
      (λ (e : EndInside paths (spec_at chains c).stop t).
      let o : Overlap (span_of paths t) (span_at spread.stops c) = overlap_of_inside paths once (spec_at chains c).stop (span_at spread.stops c) t on_t (set.spread_is.stops.each c set.within) e in
      let w : MeetsOne (span_at spread.stops c) spread.stretches = (d, l, turned (span_at spread.stretches d) (span_at spread.stops c) (subst (λ (y : Span). Overlap y (span_at spread.stops c)) (sym (other_span d h t is)) o)) in
      met_by_own_stop w)
      (end_had paths (spec_at chains c) t ends)

  its_stretch : (u : Stretch) → IsStretch paths (spec_at chains c) u → u ≡ s
  its_stretch u is = only_stretch paths once (spec_at chains c) (has c set.within) u s is set.stretch_is

  met_by_disturbing : (d : ℕ) → d < length chains → d ≢ c → Disturbs paths (spec_at chains c) (spec_at chains d) → Met
  met_by_disturbing d h ne (u, is_u, how) =
      let same : u ≡ s = its_stretch u is_u in
      ⊎_elim
      (λ (ends : HasEndIn paths (spec_at chains d) u). met_by_its_end d h (subst (λ (v : Stretch). HasEndIn paths (spec_at chains d) v) same ends))
      (λ (w : (t : Stretch) × IsStretch paths (spec_at chains d) t × ShareStep u t). met_by_step d h ne w.0 w.1 (subst (λ (v : Stretch). ShareStep v w.0) same w.2))
      how

  met_by_disturbed : (d : ℕ) → d < length chains → d ≢ c → Disturbs paths (spec_at chains d) (spec_at chains c) → Met
  met_by_disturbed d h ne (t, is_t, how) =
      ⊎_elim
      (λ (ends : HasEndIn paths (spec_at chains c) t). met_by_own_end d h t is_t ends)
      (λ (w : (u : Stretch) × IsStretch paths (spec_at chains c) u × ShareStep t u). met_by_step d h ne t is_t (shares_turned t s (subst (λ (v : Stretch). ShareStep t v) (its_stretch w.0 w.1) w.2)))
      how

  pub met_of_clash : Clash → Met
  met_of_clash (d, h, m) = ⊎_elim (met_by_disturbing d h m.0) (met_by_disturbed d h m.0) m.1

  pub own_some : (span_at spread.stretches c).from < (span_at spread.stretches c).to
  own_some = subst (λ (x : Span). x.from < x.to) (sym own) (omega (arith, on.some))

-- ---- the spans of all chains

pub spans_more : (P : ℕ → Span → Type 0) (i : ℕ) (spans : List Span) (x : Span) → AreSpansOf P i spans → P i x → AreSpansOf P (i + 1) (spans ++ x ∷ [])
spans_more P i spans x are here =
    record {
      long = omega (arith, length_push spans x, are.long);
      each = λ c h. ⊎_elim
          (λ (e : c ≡ i). subst (λ (k : ℕ). P k (span_at (spans ++ x ∷ []) k)) (sym e) (subst (λ (y : Span). P i y) (sym (get_or_push spans x no_span i are.long)) here))
          (λ (e : c ≢ i).
          let below : c < length spans = omega (arith, are.long) in
          subst (λ (y : Span). P c y) (sym (get_or_append_left spans (x ∷ []) no_span c below)) (are.each c (omega arith)))
          (cases_eq c i);
    }

pub spans_ordered : (P : ℕ → Span → Type 0) (n : ℕ) (spans : List Span) → ((c : ℕ) (x : Span) → c < n → P c x → x.from ≤ x.to) → AreSpansOf P n spans → All (λ (x : Span). x.from ≤ x.to) spans
spans_ordered P n spans order are = λ c d h.
    subst (λ (x : Span). x.from ≤ x.to) (get_or_default spans c no_span d h) (order c (span_at spans c) (omega (arith, are.long)) (are.each c (omega (arith, are.long))))

no_span_ordered : (x : Span) → x ≡ no_span → x.from ≤ x.to
no_span_ordered x e = omega (arith, ap (λ (y : Span). y.from) e)

pub run_ordered : (paths : List PathSpec) (chain : ChainSpec) (o : Option Run) (x : Span) → IsRunOf paths chain o → IsSpanOfRun paths o x → x.from ≤ x.to
run_ordered paths chain None x none e = no_span_ordered x e
run_ordered paths chain (Some r) x run e = omega (arith, ap (λ (y : Span). y.from) e, ap (λ (y : Span). y.to) e, run.order)

end_spans : (paths : List PathSpec) (end : EndSpec) (x : Span) → IsSpanOfEnd paths end x → (x ≡ no_span) ⊎ (x.to ≡ x.from + 1)
end_spans paths end x is =
    ⊎_elim
    (λ (w : (x ≡ no_span) × ((n k : ℕ) → IsPlace paths n k → ¬ IsEndStep (step_at (path_at paths n) k) end)). let r : (x ≡ no_span) ⊎ (x.to ≡ x.from + 1) = inl w.0 in r)
    (λ (w : (n : ℕ) × (k : ℕ) × IsPlace paths n k × IsEndStep (step_at (path_at paths n) k) end × (x ≡ span_of paths (at_place n k))).
    let r : (x ≡ no_span) ⊎ (x.to ≡ x.from + 1) = inr (omega (arith, ap (λ (y : Span). y.from) w.4, ap (λ (y : Span). y.to) w.4)) in r)
    is

pub end_ordered : (paths : List PathSpec) (end : EndSpec) (x : Span) → IsSpanOfEnd paths end x → x.from ≤ x.to
end_ordered paths end x is = ⊎_elim (no_span_ordered x) (λ (e : x.to ≡ x.from + 1). omega arith) (end_spans paths end x is)

pub end_empty : (paths : List PathSpec) (end : EndSpec) (x : Span) → IsSpanOfEnd paths end x → x.to ≤ x.from → x.to ≡ 0
end_empty paths end x is empty = ⊎_elim (λ (e : x ≡ no_span). ap (λ (y : Span). y.to) e) (λ (e : x.to ≡ x.from + 1). absurd (omega arith)) (end_spans paths end x is)
