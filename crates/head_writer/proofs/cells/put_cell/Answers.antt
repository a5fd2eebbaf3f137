use Rattle.std.proofs.Common.{◌≡◌, sym, ap, ◌∙◌, rules, codes, true, false, List, ◌∷◌}
use Rattle.head_writer.specs.declared.names.NamedBit.{NamedBit}
use Rattle.stil_blocks.specs.Statements.{begins_word}
use Rattle.head_writer.specs.Cells.{named_on}
use Rattle.head_writer.proofs.CellNames.{passes, no_name, one_named}
use Rattle.head_writer.proofs.cells.put_cell.Goals as goal

pub returns-then-take_mark : goal.returns-then-take_mark
returns-then-take_mark c =
    let mark : begins_word (codes "!") c.args.cells.now ≡ true = sym c.take_mark.ensures.value ∙ c.if-take_mark.true in
    record { value = passes c.args.named.now.items c.args.bits.now c.args.cells.now c.take_mark.new.tokens mark c.take_mark.ensures.rest }

pub returns-in_default-2 : goal.returns-in_default-2
returns-in_default-2 c =
    let mark : begins_word (codes "!") c.args.cells.now ≡ false = sym c.take_mark.ensures.value ∙ c.if-take_mark.false in
    let none = rw c.in_default-2.is at c.in_ok-name.ensures.value in
    record { value = no_name c.args.named.now.items c.args.bits.now c.args.cells.now c.take_mark.new.tokens mark c.take_mark.ensures.rest none }

pub returns : goal.returns
returns c =
    let mark : begins_word (codes "!") c.args.cells.now ≡ false = sym c.take_mark.ensures.value ∙ c.if-take_mark.false in
    let taken = rw c.in-Some-2.is at c.in_ok-name.ensures.value in
    let first : c.args.bits.now ≡ c.in-Some.bit.now ∷ c.in-Some.left.now = search rules in
    let more = one_named c.args.named.now.items c.args.bits.now c.in-Some.left.now c.in-Some.bit.now c.in-Some-2.name c.args.cells.now c.take_mark.new.tokens c.take_name.new.tokens mark c.take_mark.ensures.rest taken first in
    record { value = λ n. ap (λ (l : List NamedBit). named_on l c.in-Some.left.now n c.take_name.new.tokens) c.in_ok-push.ensures.items ∙ more n }
