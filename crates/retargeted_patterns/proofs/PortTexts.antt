-- What is written hangs on the ports alone.
use Rattle.std.proofs.Common.{◌≡◌, ℕ, ◌-◌, List, [], ◌∷◌, ◌++◌, take, drop, Option, Some, None, refl, sym, ap}
use Rattle.std.specs.Prelude.{◌==◌, if◌then◌else◌, codes}
use Rattle.stil_types.specs.declared.head.ScanChainDecl.{ScanChainDecl}
use Rattle.stil_types.specs.declared.statement.ScanCall.{ScanCall}
use Rattle.stil_types.specs.declared.statement.BodyStatement.{BodyStatement}
use Rattle.stil_types.specs.declared.statement.PatternStatement.{PatternStatement}
use Rattle.stil_types.specs.declared.statement.PatternStatement.TheVariants.{Scan, Other, Loop}
use Rattle.stil_tokens.specs.StilTokens.{tokens_in}
use Rattle.stil_tester.specs.Runs.{bytes_in}
use Rattle.stil_writer.specs.Calls.{brace_end, side_line, item_lines, with_block, written_scan}
use Rattle.stil_writer.specs.Loops.{written_part, calls_left, loop_from, calls_moved, written_with}
use Rattle.pattern_laws.specs.Laws.{SamePorts}

lines_same : (cs ds : List ScanChainDecl) → SamePorts cs ds → (loads compares : List (Option (List ℕ))) → item_lines cs loads compares ≡ item_lines ds loads compares
lines_same [] [] same loads compares = refl
lines_same [] (d ∷ ds) same loads compares = absurd same
lines_same (c ∷ cs) [] same loads compares = absurd same
lines_same (c ∷ cs) (d ∷ ds) same [] compares = refl
lines_same (c ∷ cs) (d ∷ ds) same (load ∷ loads) [] = refl
lines_same (c ∷ cs) (d ∷ ds) same (load ∷ loads) (compare ∷ compares) =
    λ i. side_line (sym same.0 i) load ++ (side_line (sym same.1 i) compare ++ lines_same cs ds same.2 loads compares i)

module _ (cs ds : List ScanChainDecl) (same : SamePorts cs ds) where
  scan_same : (text : List ℕ) (call : ScanCall) → written_scan cs text call ≡ written_scan ds text call
  scan_same text call =
      ap (λ (lines : List ℕ). if call.shifts == 0 then text else with_block text (10 ∷ (lines ++ codes "  }")) (brace_end (tokens_in text))) (lines_same cs ds same call.loads call.compares)

  part_same : (text : List ℕ) (call : Option ScanCall) (calls : List ScanCall) → written_part cs text call calls ≡ written_part ds text call calls
  part_same text None calls = refl
  part_same text (Some call) [] = refl
  part_same text (Some call) (moved ∷ calls) = scan_same text moved

  loop_same : (text : List ℕ) (at : ℕ) (body : List BodyStatement) (calls : List ScanCall) → loop_from cs text at body calls ≡ loop_from ds text at body calls
  loop_same text at [] calls = refl
  loop_same text at (b ∷ body) calls =
      λ i. take (b.start - at) (drop at text) ++ (part_same (bytes_in text b) b.call calls i ++ loop_same text b.end body (calls_left b.call calls) i)

  pub text_same : (move : ScanCall → ScanCall) (statement : PatternStatement) → written_with cs move statement ≡ written_with ds move statement
  text_same move (Scan pattern text call line) = scan_same text (move call)
  text_same move (Other pattern text) = refl
  text_same move (Loop pattern text times body line) = loop_same text 0 body (calls_moved move body)
