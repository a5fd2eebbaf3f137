use Rattle.std.proofs.Common.{◌≡◌, ◌++◌, ◌<◌, ℕ, List, Option, None, length, arith, get_or, ap, ◌∙◌}
use Rattle.std.proofs.lemmas.List.{get_or_read}
use Rattle.stil_tester.specs.declared.chains.ChainBits.{ChainBits}
use Rattle.stil_tester.specs.Shifting.{no_bits}
use Rattle.stil_tester.specs.Symbols.{text_of}
use Rattle.retarget.specs.Exits.{chain_characters}
use Rattle.retarget.proofs.ExitOrder.{characters_all, characters_more}
use Rattle.retarget.proofs.exits.exit_characters.Goals as goal

pub loop-number-preserved : goal.loop-number-preserved
loop-number-preserved c =
    let chains : List ChainBits = c.args.chains.now in
    let strings : List (Option (List ℕ)) = c.args.strings.now in
    let n : ℕ = c.loop-number.number in
    let chain : ChainBits = c.index-chains-number.result in
    let string : Option (List ℕ) = c.index-strings-number.result in
    let before : List ℕ = c.loop-number.characters.items in
    let within : n < length chains = omega arith in
    let given : n < length strings = omega arith in
    characters_more c.args.side chains strings n before c.put_characters.new.out.items chain string within given
    (get_or_read chains n chain within c.index-chains-number.is no_bits) (get_or_read strings n string given c.index-strings-number.is None)
    (c.in_ok-put_characters.ensures ∙ (λ i. before ++ chain_characters c.args.side (c.bytes_of-text.ensures i) (length (c.as_slice.ensures.value i))))
    c.loop-number.invariant

pub returns : goal.returns
returns c = characters_all c.args.side c.args.chains.now c.args.strings.now c.loop-number.number c.loop-number.characters.items (omega arith) c.loop-number.invariant
