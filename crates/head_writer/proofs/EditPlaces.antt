-- The edits of chains, one by one.
use Rattle.std.proofs.Common.{◌≡◌, ℕ, suc, ◌+◌, Bool, true, false, cond, not, List, [], ◌∷◌, length, min, refl, ap, arith}
use Rattle.std.specs.Prelude.{nat_le, nat_lt}
use Rattle.std.specs.List.{prefix_len, insert}
use Rattle.std.proofs.lemmas.Bool.Decides.{nat_tests}
use Rattle.splice.specs.declared.Edit.{Edit}
use Rattle.chain_trace.specs.declared.path.BitId.{BitId}
use Rattle.head_text.specs.Written.{put_edit}
use Rattle.head_writer.specs.declared.names.NamedBit.{NamedBit}
use Rattle.head_writer.specs.NewChains.{new_bits}

flipped : (m n : ℕ) → nat_lt m n ≡ not (nat_le n m)
flipped m n = grind (arith, nat_tests)

put_if : (b c : Bool) (e f : Edit) (fs : List Edit) (n : ℕ) → c ≡ not b → put_edit e fs ≡ insert fs n e → cond b (e ∷ f ∷ fs) (f ∷ put_edit e fs) ≡ insert (f ∷ fs) (cond c (1 + n) 0) e
put_if true true e f fs n is put = absurd cc
put_if true false e f fs n is put = refl
put_if false true e f fs n is put =
    let one : 1 + n ≡ suc n = omega arith in
    rw one (ap (λ (es : List Edit). f ∷ es) put)
put_if false false e f fs n is put = absurd cc

-- an edit is put behind those that begin before it
pub put_there : (e : Edit) (es : List Edit) → put_edit e es ≡ insert es (prefix_len (λ f. nat_lt f.span.start e.span.start) es) e
put_there e [] = refl
put_there e (f ∷ fs) =
    put_if (nat_le e.span.start f.span.start) (nat_lt f.span.start e.span.start) e f fs (prefix_len (λ f. nat_lt f.span.start e.span.start) fs) (flipped f.span.start e.span.start) (put_there e fs)

-- there are as many new bits as bits and parities both
pub count_bits : (names : List NamedBit) (bs : List BitId) (ps : List Bool) → length (new_bits names bs ps) ≡ min (length bs) (length ps)
count_bits names [] ps = omega arith
count_bits names (b ∷ bs) [] = omega arith
count_bits names (b ∷ bs) (p ∷ ps) = let more = count_bits names bs ps in omega arith
