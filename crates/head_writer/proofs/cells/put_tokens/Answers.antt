use Rattle.std.proofs.Common.{◌++◌, ◌-◌, ℕ, List, take, ap, ◌∙◌}
use Rattle.std.specs.List.{flat_map}
use Rattle.token_forms.specs.Tokens.{Token}
use Rattle.head_writer.proofs.CellNames.{next_token}
use Rattle.head_writer.proofs.cells.put_tokens.Goals as goal

pub loop-left-preserved : goal.loop-left-preserved
loop-left-preserved c =
    let rest = c.next.new.self in
    ap (λ (l : List ℕ). l ++ flat_map (λ (t : Token). t.text) (take (c.loop-left.left - 1) rest)) c.in_ok-extend_from_slice.ensures.items
    ∙ next_token c.loop-left.out.items c.loop-left.left _ c.loop-left.rest rest c.loop-left-test.true c.in-Some.ensures.value ∙ c.loop-left.invariant
