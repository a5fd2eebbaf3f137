-- The table of the bytes of a run.
use Rattle.std.proofs.Common.{◌≡◌, ℕ, ◌<◌, ◌==◌, Bool, false, map, get_or, refl, sym, ap, ◌∙◌, arith}
use Rattle.std.specs.List.{range_with_len}
use Rattle.std.proofs.lemmas.List.{get_or-map}
use Rattle.std.proofs.lemmas.List.FromFn.{get_or-map-range_with_len}
use Rattle.stil_tokens.specs.declared.bytes.TheConstants.{RUNS}
use Rattle.stil_tokens.specs.StilTokens.{is_run}

at_byte : (p q : ℕ → Bool) → map p RUNS ≡ map q (range_with_len 0 256) → (b : ℕ) → b < 256 → p (get_or RUNS b 0) ≡ q b
at_byte p q same b h =
    sym (get_or-map p RUNS b 0 false h) ∙ ap (λ t. get_or t b false) same ∙ get_or-map-range_with_len q 0 256 b b false h (omega arith)

pub run_byte : (b : ℕ) → b < 256 → (get_or RUNS b 0 == 1) ≡ is_run b
run_byte b h = at_byte (λ (k : ℕ). k == 1) is_run refl b h
