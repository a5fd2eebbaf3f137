use Rattle.std.proofs.Common.{◌≡◌, ℕ, [], ◌∷◌, subst, arith}
use Rattle.std.proofs.lemmas.List.{get_or_default}
use Rattle.chain_trace.specs.Parities.{Bit, GoesOn}
use Rattle.chain_trace.proofs.Marks.{bit_more}
use Rattle.chain_trace.proofs.path.PathBits.put_bits.Goals as goal

pub loop-k-preserved : goal.loop-k-preserved
loop-k-preserved c =
    let k = c.loop-k.k in
    let index : c.in-Ok.index ≡ k = omega (arith, c.in-Ok.ensures) in
    let put = subst (λ (x : ℕ). GoesOn c.turn.new.self c.put.new.self (Bit (record { instance = c.args.instance; path = c.args.path; index = x }) ∷ [])) index c.in_ok-put.ensures.on in
    bit_more c.args.self.now c.loop-k.self c.turn.new.self c.put.new.self c.args.instance c.args.path c.args.bits.now k _ c.loop-k-test.true (get_or_default c.args.bits.now k _ _ c.loop-k-test.true)
    c.loop-k.invariant c.turn.ensures.on put
