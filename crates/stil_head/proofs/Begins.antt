-- A scan of no bytes.
use Rattle.std.proofs.Common.{◌≡◌, ℕ, false, List, sym, ap, arith}
use Rattle.stil_parts.specs.declared.gap.Place.{Place}
use Rattle.stil_parts.specs.declared.scan.Scan.{Scan}
use Rattle.stil_parts.specs.Scanner.{run}
use Rattle.stil_parts.specs.Parts.{begin_at, word_at}
use Rattle.stil_parts.specs.Resuming.{Resumes}
use Rattle.stil_parts.proofs.PartStable.{nothing-in-nothing}

pub resumes_begin : (place : Place) (bytes : List ℕ) (s : Scan) → s ≡ begin_at place → Resumes place bytes 0 s
unfolding run
resumes_begin place bytes s e = record {
  within = omega arith;
  none = nothing-in-nothing false (word_at place);
  ran = sym e;
  shallow = let k : s.depth ≡ 0 = ap (λ (t : Scan). t.depth) e in omega arith;
}
