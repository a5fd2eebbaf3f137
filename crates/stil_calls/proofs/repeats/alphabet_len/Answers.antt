use Rattle.std.proofs.Common.{ℕ, ◌≡◌, ◌<◌, true, get_or, List, subst, arith}
use Rattle.lane_kernels.specs.Kernels.{is_allowed}
use Rattle.stil_calls.specs.Repeats.{alphabet}
use Rattle.stil_calls.proofs.Plain.{front_sound, front_whole, front_count}
use Rattle.stil_calls.proofs.repeats.alphabet_len.Goals as goal

-- all bytes below a place are of the alphabet
below : (bytes cs ds : List ℕ) (n : ℕ) → cs ≡ ds → ((k : ℕ) → k < n → is_allowed cs (get_or bytes k 0) ≡ true) → (k : ℕ) → k < n → is_allowed ds (get_or bytes k 0) ≡ true
below bytes cs ds n e all k l = subst (λ (xs : List ℕ). is_allowed xs (get_or bytes k 0) ≡ true) e (all k l)

pub returns-clause-sound : goal.returns-clause-sound
returns-clause-sound c =
    front_sound c.args.side c.before_others.result c.args.bytes.now (omega arith)
    (below c.args.bytes.now c.alphabet.result.now (alphabet c.args.side) c.before_others.result c.alphabet.ensures.value c.before_others.ensures.each)

pub returns-clause-whole : goal.returns-clause-whole
returns-clause-whole c =
    front_whole c.args.side c.before_others.result c.args.bytes.now (omega arith)
    (below c.args.bytes.now c.alphabet.result.now (alphabet c.args.side) c.before_others.result c.alphabet.ensures.value c.before_others.ensures.each)

pub returns-clause-count : goal.returns-clause-count
returns-clause-count c =
    front_count c.args.side c.before_others.result c.args.bytes.now (omega arith)
    (below c.args.bytes.now c.alphabet.result.now (alphabet c.args.side) c.before_others.result c.alphabet.ensures.value c.before_others.ensures.each)
