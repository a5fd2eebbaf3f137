use Rattle.std.proofs.Common.{◌≡◌, ◌++◌, ◌∷◌, ◌+◌, ◌<◌, ℕ, List, [], Option, None, length, take, drop, arith, get_or, ap, ◌∙◌}
use Rattle.std.specs.Prelude.{is_some}
use Rattle.std.proofs.lemmas.List.{get_or_read, length-drop}
use Rattle.stil_tester.specs.declared.chains.ChainBits.{ChainBits}
use Rattle.stil_tester.specs.Shifting.{no_bits}
use Rattle.retarget.specs.Exits.{string_from, strings_from}
use Rattle.retarget.proofs.MovedStrings.{bits_more, strings_all, strings_more}
use Rattle.retarget.proofs.strings.strings_from.Goals as goal

pub split_at-requires : goal.split_at-requires
split_at-requires c =
    let chains : List ChainBits = c.args.chains.now in
    let n : ℕ = c.loop-number.number in
    let within : n < length chains = omega arith in
    let chain : ChainBits = c.index-chains-number.result in
    let at : chain ≡ get_or chains n no_bits = get_or_read chains n chain within c.index-chains-number.is no_bits in
    let bits : length c.as_slice.result.now ≡ length (get_or chains n no_bits).cells = ap length c.as_slice.ensures.value ∙ ap (λ (b : ChainBits). length b.cells) at in
    omega (arith, bits, bits_more chains n within, c.loop-number.invariant.left)

pub loop-number-preserved : goal.loop-number-preserved
loop-number-preserved c =
    let chains : List ChainBits = c.args.chains.now in
    let given : List (Option (List ℕ)) = c.args.given.now in
    let n : ℕ = c.loop-number.number in
    let within : n < length chains = omega arith in
    let here : n < length given = omega arith in
    let chain : ChainBits = c.index-chains-number.result in
    let at : chain ≡ get_or chains n no_bits = get_or_read chains n chain within c.index-chains-number.is no_bits in
    let long : ℕ = length (get_or chains n no_bits).cells in
    let bits : length c.as_slice.result.now ≡ long = ap length c.as_slice.ensures.value ∙ ap (λ (b : ChainBits). length b.cells) at in
    let is_given : c.is_some-is_given.result ≡ is_some (get_or given n None) = c.is_some-is_given.ensures ∙ ap is_some (get_or_read given n c.index-given-number.result here c.index-given-number.is None) in
    let rest : List ℕ = c.loop-number.rest.now in
    let front : c.split_at.result.0.now ≡ take long rest = c.split_at.ensures.front ∙ ap (λ m. take m rest) bits in
    let behind : c.split_at.result.1.now ≡ drop long rest = c.split_at.ensures.back ∙ ap (λ m. drop m rest) bits in
    let string : Option (List ℕ) = c.in_ok-string_from.field-0 in
    let string_is : string ≡ string_from c.args.side c.args.shifts (is_some (get_or given n None)) (take long rest)
    = c.in_ok-string_from.ensures ∙ (λ i. string_from c.args.side c.args.shifts (is_given i) (front i)) in
    record {
      left = omega (arith, ap length behind, length-drop long rest, bits_more chains n within, c.loop-number.invariant.left);
      strings = ap (λ r. c.push.new.self ++ strings_from c.args.side c.args.shifts (drop (n + 1) chains) (drop (n + 1) given) r) behind
          ∙ strings_more c.args.side c.args.shifts chains given c.args.characters.now rest n c.loop-number.strings c.push.new.self string within here string_is c.in_ok-push.ensures.ok c.loop-number.invariant.strings;
    }

pub returns : goal.returns
returns c = strings_all c.args.side c.args.shifts c.args.chains.now c.args.given.now c.args.characters.now c.loop-number.rest.now c.loop-number.number c.loop-number.strings (omega arith) c.loop-number.invariant.strings
