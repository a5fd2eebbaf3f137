use Rattle.std.proofs.Common.{ℕ, ◌≡◌, ◌<◌, true, get_or, length, List, codes, subst, arith}
use Rattle.lane_kernels.specs.Kernels.{is_allowed}
use Rattle.stil_tokens.proofs.Characters.{front_run}
use Rattle.stil_tokens.proofs.bytes.data_len.Goals as goal

-- all bytes below a place are of the set
below : (bytes cs ds : List ℕ) (n : ℕ) → cs ≡ ds → ((k : ℕ) → k < n → is_allowed cs (get_or bytes k 0) ≡ true) → (k : ℕ) → k < n → is_allowed ds (get_or bytes k 0) ≡ true
below bytes cs ds n e all k l = subst (λ (xs : List ℕ). is_allowed xs (get_or bytes k 0) ≡ true) e (all k l)

pub returns-in-Some-clause-run : goal.returns-in-Some-clause-run
returns-in-Some-clause-run c =
    front_run c.in-Some.before c.args.bytes.now (omega (arith, c.in-Some.ensures.within))
    (below c.args.bytes.now c.as_slice.result.now (codes "01NLHX") c.in-Some.before c.as_slice.ensures c.in-Some.ensures.least)

pub returns-in-None-clause-run : goal.returns-in-None-clause-run
returns-in-None-clause-run c =
    front_run (length c.args.bytes.now) c.args.bytes.now (omega arith)
    (below c.args.bytes.now c.as_slice.result.now (codes "01NLHX") (length c.args.bytes.now) c.as_slice.ensures c.in-None.ensures.none)
