use Rattle.std.proofs.Common.{◌≡◌, [], refl, arith}
use Rattle.std.proofs.lemmas.List.{ext_get_or}
use Rattle.scan_verify.proofs.alike.names.have_same_names.Goals as goal

pub returns : goal.returns
returns c =
    let same : c.args.a.now ≡ c.args.b.now = ext_get_or [] c.args.a.now c.args.b.now c.if-a-b.false (λ k l. c.loop-index.invariant k (omega arith)) in
    record { value = (λ h. same, λ e. refl) }
