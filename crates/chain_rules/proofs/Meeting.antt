-- When one chain disturbs another, by their stretches.
use Rattle.std.proofs.Common.{◌≡◌, ℕ, ◌<◌, List, inl, inr, ⊎_elim, sym, subst, Option, None, Some, length, get_or, refl}
use Rattle.std.proofs.lemmas.Option.{MatchOption-at_some}
use Rattle.std.proofs.lemmas.List.{get_or_read}
use Rattle.chain_rules.specs.declared.stretch.Run.{Run}
use Rattle.chain_rules.specs.declared.spec.EndSpec.{EndSpec}
use Rattle.chain_rules.specs.declared.spec.EndSpec.TheVariants.{Cell}
use Rattle.chain_rules.specs.Runs.{stretch, IsRunOf}
use Rattle.chain_rules.specs.declared.spec.PathSpec.{PathSpec}
use Rattle.chain_rules.specs.declared.spec.ChainSpec.{ChainSpec}
use Rattle.chain_rules.specs.Stretches.{path_at, step_at, spec_at, no_chain, IsOf, IsPlace, IsInside, IsEndStep, Stretch, IsStretch, HasStretch, HasEndIn, ShareStep, Disturbs, StepsOnce, HasElements}
use Rattle.chain_rules.proofs.Stretched.{only_stretch}

pub disturbs_not : (paths : List PathSpec) (chain other : ChainSpec) → ¬ HasStretch paths chain → ¬ Disturbs paths chain other
disturbs_not paths chain other f (s, is, how) = f (s, is)

pub disturbs_by_end : (paths : List PathSpec) (chain other : ChainSpec) (s : Stretch) → IsStretch paths chain s → HasEndIn paths other s → Disturbs paths chain other
disturbs_by_end paths chain other s is end = (s, is, inl end)

pub disturbs_by_step : (paths : List PathSpec) (chain other : ChainSpec) (s t : Stretch) → IsStretch paths chain s → IsStretch paths other t → ShareStep s t → Disturbs paths chain other
disturbs_by_step paths chain other s t is is_other share = (s, is, inr (t, is_other, share))

-- a chain that holds no end of the other disturbs it by a step alone
pub shared_step : (paths : List PathSpec) → StepsOnce paths → (chain other : ChainSpec) → HasElements chain → HasElements other → (s t : Stretch) → IsStretch paths chain s → IsStretch paths other t → ¬ HasEndIn paths other s → Disturbs paths chain other → ShareStep s t
shared_step paths once chain other has has_other s t is is_other ends (u, is_u, how) =
    let same = only_stretch paths once chain has u s is_u is in
    ⊎_elim
    (λ (end : HasEndIn paths other u). absurd (ends (subst (λ (v : Stretch). HasEndIn paths other v) same end)))
    (λ (w : (v : Stretch) × IsStretch paths other v × ShareStep u v).
    subst (λ (x : Stretch). ShareStep x t) same (subst (λ (y : Stretch). ShareStep u y) (only_stretch paths once other has_other w.0 t w.1 is_other) w.2))
    how

pub disturbs_no_other : (paths : List PathSpec) → StepsOnce paths → (chain other : ChainSpec) → HasElements chain → (s : Stretch) → IsStretch paths chain s → ¬ HasEndIn paths other s → ¬ HasStretch paths other → ¬ Disturbs paths chain other
disturbs_no_other paths once chain other has s is ends no_other (u, is_u, how) =
    let same = only_stretch paths once chain has u s is_u is in
    ⊎_elim
    (λ (end : HasEndIn paths other u). ends (subst (λ (v : Stretch). HasEndIn paths other v) same end))
    (λ (w : (v : Stretch) × IsStretch paths other v × ShareStep u v). no_other (w.0, w.1))
    how

-- the cell of an end, found inside a stretch
pub lies_here : (paths : List PathSpec) (end : EndSpec) (cell scan : ℕ) (out : Option ℕ) → end ≡ Cell cell scan out → (s : Stretch) (n k : ℕ) → n ≡ s.path → IsPlace paths n k → IsOf (step_at (path_at paths n) k) cell scan → IsInside s k → (j : ℕ) × IsInside s j × (j < length (path_at paths s.path).steps) × IsEndStep (step_at (path_at paths s.path) j) end
lies_here paths end cell scan out e s n k p at of inside =
    let there : k < length (path_at paths s.path).steps = subst (λ (m : ℕ). k < length (path_at paths m).steps) p at.step in
    let here : IsOf (step_at (path_at paths s.path) k) cell scan = subst (λ (m : ℕ). IsOf (step_at (path_at paths m) k) cell scan) p of in
    (k, inside, there, subst (λ (x : EndSpec). IsEndStep (step_at (path_at paths s.path) k) x) (sym e) here)

-- no run: no stretch
pub no_stretch_of_run : (paths : List PathSpec) (chain : ChainSpec) (o : Option Run) → ((r : Run) → o ≡ Some r → ⊥) → IsRunOf paths chain o → ¬ HasStretch paths chain
no_stretch_of_run paths chain None f is = is
no_stretch_of_run paths chain (Some r) f is = absurd (f r refl)

pub stretch_of_run : (paths : List PathSpec) (chain : ChainSpec) (o : Option Run) (r : Run) → o ≡ Some r → IsRunOf paths chain o → IsStretch paths chain (stretch r)
stretch_of_run paths chain o r e is = MatchOption-at_some (¬ HasStretch paths chain) (λ x. IsStretch paths chain (stretch x)) r e is

pub spec_read : (chains : List ChainSpec) (c : ℕ) (x : ChainSpec) → c < length chains → x ≡ get_or chains c x → x ≡ spec_at chains c
spec_read chains c x h e = get_or_read chains c x h e no_chain
