use Rattle.std.proofs.Common.{ap, sym, ◌∙◌, ℕ, List, Some}
use Rattle.std.specs.Str.{bytes_eq}
use Rattle.stil_calls.proofs.Tables.{found}
use Rattle.stil_calls.proofs.scan.data_near.Goals as goal

pub returns-then-eq : goal.returns-then-eq
returns-then-eq c = record {
  value = ap (λ (bs : List ℕ). Some bs) c.bytes-then-eq.ensures.value
      ∙ found c.args.items.now c.args.name.now c.loop-at.at c.index-items-at.result c.requires.once c.loop-at-test.true c.index-items-at.is
      (ap (λ (n : List ℕ). bytes_eq n c.args.name.now) (sym c.bytes.ensures.value) ∙ sym c.eq.ensures ∙ c.if-eq.true);
}
