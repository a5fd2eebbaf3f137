-- A scan that goes on where it was left.
use Rattle.std.proofs.Common.{◌≡◌, ℕ, Bool, false, List, ◌++◌, length, drop, take, Some, None, refl, sym, ap, ◌∙◌, arith, length-append}
use Rattle.std.proofs.lemmas.List.{take-append-drop, length-take-le, take_all, take-append-le}
use Rattle.stil_parts.specs.declared.scan.Scan.{Scan}
use Rattle.stil_parts.specs.declared.scan.Found.{Found}
use Rattle.stil_parts.specs.Scanner.{later, end_of, run, HasReached, HasFound}
use Rattle.stil_parts.specs.Resuming.{Reaches}
use Rattle.stil_parts.proofs.Ends.{end-on, run-on}

module _ (s t : Scan) (bytes : List ℕ) (n : ℕ) (r : Reaches s bytes n t) where
  pub resumed : (last : Bool) → end_of last s bytes ≡ later n (end_of last t (drop n bytes))
  resumed last =
      let k : length (take n bytes) ≡ n = length-take-le n bytes r.within in
      ap (end_of last s) (sym (take-append-drop n bytes)) ∙ end-on last s (take n bytes) (drop n bytes) r.none ∙ rw (k, r.ran) refl

  pub ran-on : run s bytes ≡ run t (drop n bytes)
  ran-on = ap (run s) (sym (take-append-drop n bytes)) ∙ run-on s (take n bytes) (drop n bytes) r.none ∙ ap (λ (q : Scan). run q (drop n bytes)) r.ran

  pub resumed-none : (last : Bool) (u : Scan) → HasReached last bytes n t u → end_of last s bytes ≡ None
  resumed-none last u h = resumed last ∙ ap (later n) h.none

  pub resumed-some : (last : Bool) (f : Found) → HasFound last bytes n t f → end_of last s bytes ≡ Some f
  resumed-some last f h = resumed last ∙ h.same

  pub resumed-reaches : (u : Scan) → HasReached false bytes n t u → Reaches s bytes (length bytes) u
  resumed-reaches u h =
      let whole : take (length bytes) bytes ≡ bytes = take_all (length bytes) bytes (omega arith) in
      record {
        within = omega arith;
        none = ap (end_of false s) whole ∙ resumed-none false u h;
        ran = ap (run s) whole ∙ ran-on ∙ h.same;
        shallow = h.shallow;
      }

-- more bytes change nothing of what was reached
pub reaches-more : (s t : Scan) (bytes more : List ℕ) (n : ℕ) → Reaches s bytes n t → Reaches s (bytes ++ more) n t
reaches-more s t bytes more n r =
    let front : take n (bytes ++ more) ≡ take n bytes = take-append-le n bytes more r.within in
    record {
      within = omega (arith, r.within, length-append bytes more);
      none = rw front r.none;
      ran = rw front r.ran;
      shallow = r.shallow;
    }
