-- The last element of an edited list.
use Rattle.std.proofs.Common.{◌≡◌, ℕ, ◌+◌, ◌-◌, ◌<◌, List, length, insert, Some, slice_get, arith, sym, ◌∙◌, ap}
use Rattle.std.proofs.lemmas.Option.{slice_get-get_or}
use Rattle.std.proofs.lemmas.List.Edits.{length-insert, get_or-insert_above}
use Rattle.chain_rules.specs.Legality.{last_of}

pub last-insert : (us : List ℕ) (k u : ℕ) → k < length us → last_of (insert us k u) ≡ last_of us
last-insert us k u h =
    let n = length us - 1 in
    let long = length-insert us k u (omega arith) in
    let top : length (insert us k u) - 1 ≡ length us - 1 + 1 = omega arith in
    ap (λ (i : ℕ). slice_get (insert us k u) i) top
    ∙ (slice_get-get_or (insert us k u) (length us - 1 + 1) 0 (omega arith)
    ∙ (ap (λ (x : ℕ). Some x) (get_or-insert_above us k u 0 (length us - 1) (omega arith) (omega arith))
    ∙ sym (slice_get-get_or us (length us - 1) 0 (omega arith))))
