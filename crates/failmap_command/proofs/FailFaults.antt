-- The first fault of the files of `failmap`.
use Rattle.std.proofs.Common.{◌≡◌, ℕ, ◌<◌, ◌≤◌, ◌⊎◌, inl, inr, List, refl, ap, subst, arith}
use Rattle.base_types.specs.declared.fault.Fault.{Fault}
use Rattle.base_types.specs.declared.fault.FileKind.TheVariants.{NewStil}
use Rattle.base_types.specs.declared.kind.Kind.TheVariants.{NotSame}
use Rattle.base_types.specs.Faults.{number_of, at_line}
use Rattle.base_types.specs.FirstFault.{ComesBefore, IsFirstFault}
use Rattle.base_types.proofs.FirstFaults.{later, first_of}
use Rattle.declared_chains.specs.Faults.{HoldsInPlay, Before, OfPatterns}
use Rattle.declared_chains.proofs.PatternKinds.{before_early, pattern_late}
use Rattle.stil_tester.specs.Meaning.{Patterns}
use Rattle.same_files.specs.Sets.{FileSet, IsFileSet}
use Rattle.same_files.specs.Same.{AreSameFiles}
use Rattle.verify_command.specs.Faults.{HoldsInVerify, OfFirst, OfSecond}
use Rattle.fail_map.specs.declared.line.LogLine.{LogLine}
use Rattle.fail_map.specs.Logs.{IsLogText, HoldsInLog}
use Rattle.fail_map.specs.Mapped.{HoldsInLines, NoPlace, Twice}
use Rattle.failmap_command.specs.Faults.{HoldsInFailmap, OfSets, Differ, OfLog, OfLines}
use Rattle.failmap_command.proofs.OneLog.{one_log}

-- the kinds of the sets' faults come before NotSame
play_early : (table verilog stil : List ℕ) (f : Fault) → HoldsInPlay table verilog stil f → number_of f.kind < 93
play_early table verilog stil f (Before text shown h) = let low = before_early table verilog text f h in omega (arith, low)
play_early table verilog stil f (OfPatterns text shown met) =
    let low = (pattern_late met.head stil shown.len met.found shown.ends met.says).1 in
    let kind = ap (λ (x : Fault). number_of x.kind) met.is in
    omega (arith, low, kind)

sets_early : (table verilog stil new_verilog new_stil : List ℕ) (f : Fault) → HoldsInVerify table verilog stil new_verilog new_stil f → number_of f.kind < 93
sets_early table verilog stil new_verilog new_stil f (OfFirst h) = play_early table verilog stil f h
sets_early table verilog stil new_verilog new_stil f (OfSecond other none h is) =
    let low = play_early table new_verilog new_stil other h in
    let kind = ap (λ (x : Fault). number_of x.kind) is in
    omega (arith, low, kind)

log_kind : (log : List ℕ) (f : Fault) → HoldsInLog log f → number_of f.kind ≡ 94
log_kind log f h = ap (λ (x : Fault). number_of x.kind) h.is

lines_late : (p : Patterns) (lines : List LogLine) (f : Fault) → HoldsInLines p lines f → 95 ≤ number_of f.kind
lines_late p lines f (NoPlace at line there never is) = let kind = ap (λ (x : Fault). number_of x.kind) is in omega (arith, kind)
lines_late p lines f (Twice before at line lt one two is) = let kind = ap (λ (x : Fault). number_of x.kind) is in omega (arith, kind)

module _ (table verilog stil new_verilog new_stil log : List ℕ) where
  abbrev Holds : Fault → Type 0
  Holds = HoldsInFailmap table verilog stil new_verilog new_stil log

  pub first_sets : (f : Fault) → IsFirstFault (HoldsInVerify table verilog stil new_verilog new_stil) f → IsFirstFault Holds f
  first_sets f w = record { holds = OfSets w.holds; least = least }
    where
      low : number_of f.kind < 93
      low = sets_early table verilog stil new_verilog new_stil f w.holds

      least : (g : Fault) → Holds g → ComesBefore g f → ⊥
      least g (OfSets h) sooner = w.least g h sooner
      least g (Differ none never is) sooner = none f w.holds
      least g (OfLog h) sooner = let high = log_kind log g h in later f g (omega (arith, low, high)) sooner
      least g (OfLines new lines again are h) sooner = let high = lines_late new.meant.played lines g h in later f g (omega (arith, low, high)) sooner

  module _ (none : (f : Fault) → HoldsInVerify table verilog stil new_verilog new_stil f → ⊥) where
    pub first_differ : ¬ AreSameFiles table verilog stil new_verilog new_stil → IsFirstFault Holds (at_line NotSame NewStil 0)
    first_differ never = first_of Holds (at_line NotSame NewStil 0) (Differ none never refl) others
      where
        others : (g : Fault) → Holds g → (g ≡ at_line NotSame NewStil 0) ⊎ (93 < number_of g.kind)
        others g (OfSets h) = absurd (none g h)
        others g (Differ free other is) = inl is
        others g (OfLog h) = let high = log_kind log g h in inr (omega (arith, high))
        others g (OfLines new lines again are h) = let high = lines_late new.meant.played lines g h in inr (omega (arith, high))

    module _ (same : AreSameFiles table verilog stil new_verilog new_stil) where
      pub first_log : (f : Fault) → IsFirstFault (HoldsInLog log) f → IsFirstFault Holds f
      first_log f w = record { holds = OfLog w.holds; least = least }
        where
          least : (g : Fault) → Holds g → ComesBefore g f → ⊥
          least g (OfSets h) sooner = none g h
          least g (Differ free never is) sooner = never same
          least g (OfLog h) sooner = w.least g h sooner
          least g (OfLines new lines again are h) sooner =
              let low = log_kind log f w.holds in
              let high = lines_late new.meant.played lines g h in
              later f g (omega (arith, low, high)) sooner

      module _ (no_log : (f : Fault) → HoldsInLog log f → ⊥) (new : FileSet) (again : IsFileSet table new_verilog new_stil new) (only : (other : FileSet) → IsFileSet table new_verilog new_stil other → other ≡ new)
          (lines : List LogLine) (are : IsLogText log lines) where
        -- what is read of the second set and the log is this
        here : (g : Fault) (other : FileSet) (rows : List LogLine) → IsFileSet table new_verilog new_stil other → IsLogText log rows → HoldsInLines other.meant.played rows g → HoldsInLines new.meant.played lines g
        here g other rows read said h =
            let set = only other read in
            let log_is = one_log log rows lines said are in
            subst (λ (x : FileSet). HoldsInLines x.meant.played lines g) set (subst (λ (xs : List LogLine). HoldsInLines other.meant.played xs g) log_is h)

        pub first_lines : (f : Fault) → IsFirstFault (HoldsInLines new.meant.played lines) f → IsFirstFault Holds f
        first_lines f w = record { holds = OfLines new lines again are w.holds; least = least }
          where
            least : (g : Fault) → Holds g → ComesBefore g f → ⊥
            least g (OfSets h) sooner = none g h
            least g (Differ free never is) sooner = never same
            least g (OfLog h) sooner = no_log g h
            least g (OfLines other rows read said h) sooner = w.least g (here g other rows read said h) sooner

        pub none_at_all : ((f : Fault) → HoldsInLines new.meant.played lines f → ⊥) → (f : Fault) → Holds f → ⊥
        none_at_all no_lines f (OfSets h) = none f h
        none_at_all no_lines f (Differ free never is) = never same
        none_at_all no_lines f (OfLog h) = no_log f h
        none_at_all no_lines f (OfLines other rows read said h) = no_lines f (here f other rows read said h)
