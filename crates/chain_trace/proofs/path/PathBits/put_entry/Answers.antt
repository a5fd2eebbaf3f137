use Rattle.std.proofs.Common.{List, [], ◌∷◌, Bool, subst}
use Rattle.chain_trace.specs.Parities.{Turn, bit_marks, GoesOn}
use Rattle.chain_trace.proofs.Marks.{then-on}
use Rattle.chain_trace.proofs.path.PathBits.put_entry.Goals as goal

pub returns : goal.returns
returns c =
    let i = c.args.step.instance in
    let p = c.args.step.path in
    let bits = subst (λ (bs : List Bool). GoesOn c.args.self.now c.put_bits.new.self (bit_marks i p 0 bs)) c.as_slice.ensures.value c.in_ok-put_bits.ensures.on in
    record { on = then-on c.args.self.now c.put_bits.new.self c.turn.new.self (bit_marks i p 0 c.args.path.now.bits) (Turn c.args.out.now.inverted ∷ []) bits c.turn.ensures.on }
