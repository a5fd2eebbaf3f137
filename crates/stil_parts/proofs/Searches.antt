-- What a scan that goes on finds is the part at the front.
use Rattle.std.proofs.Common.{◌≡◌, ℕ, ◌<◌, ◌≤◌, Bool, true, false, List, length, Some, None, sym, ap, ◌∙◌, arith}
use Rattle.stil_parts.specs.declared.gap.Place.{Place}
use Rattle.stil_parts.specs.declared.scan.Scan.{Scan}
use Rattle.stil_parts.specs.declared.scan.Found.{Found}
use Rattle.stil_parts.specs.declared.part.Part.{Part}
use Rattle.stil_parts.specs.Scanner.{HasReached, HasFound}
use Rattle.stil_parts.specs.Parts.{begin_at, part_of, part_at, part_len}
use Rattle.stil_parts.specs.Resuming.{Resumes, CanResume}
use Rattle.stil_parts.proofs.PartStable.{part-len, part-found, part-none, part-some}
use Rattle.stil_parts.proofs.Resumed.{resumed-none, resumed-some, resumed-reaches}

module _ (last : Bool) (bytes : List ℕ) (place : Place) (n : ℕ) (t : Scan) (r : Resumes place bytes n t) where
  pub found-part : (f : Found) (part : Part) → part ≡ part_of place f → HasFound last bytes n t f → (part_at last place bytes ≡ Some part) × (part_len part ≤ length bytes) × (0 < part_len part)
  found-part f part is h =
      let e = part-found last place bytes f (resumed-some (begin_at place) t bytes n r last f h) ∙ ap (λ (q : Part). Some q) (sym is) in
      let len : part_len part ≡ f.len = ap part_len is ∙ part-len place f in
      (e, omega (arith, h.within), part-some last place bytes part e)

  open-none : (u : Scan) → HasReached last bytes n t u → part_at last place bytes ≡ None
  open-none u h = part-none last place bytes (resumed-none (begin_at place) t bytes n r last u h)

can-resume : (last : Bool) (bytes : List ℕ) (place : Place) (n : ℕ) (t u : Scan) → Resumes place bytes n t → HasReached last bytes n t u → CanResume last place bytes u
can-resume true bytes place n t u r h = tt
can-resume false bytes place n t u r h = resumed-reaches (begin_at place) t bytes n r u h

pub open-part : (last : Bool) (bytes : List ℕ) (place : Place) (n : ℕ) (t : Scan) → Resumes place bytes n t → (u : Scan) → HasReached last bytes n t u
    → (part_at last place bytes ≡ None) × CanResume last place bytes u
open-part last bytes place n t r u h = (open-none last bytes place n t r u h, can-resume last bytes place n t u r h)
