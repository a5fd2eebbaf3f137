use Rattle.std.proofs.Common.{◌≡◌, ◌++◌, ◌+◌, ◌<◌, ◌^◌, ℕ, arith, List, refl, sym, ap, ◌∙◌, subst, get_or, length, drop, take}
use Rattle.std.proofs.lemmas.List.{get_or_read, take_at}
use Rattle.stil_tester.specs.declared.chains.ChainBits.{ChainBits}
use Rattle.stil_tester.specs.Shifting.{no_bits}
use Rattle.retarget.specs.Places.{chain_bits, StandsAt}
use Rattle.retarget.proofs.SameMeaning.{cell_within}
use Rattle.retarget.specs.declared.home.Home.{Home}
use Rattle.retarget.specs.Homes.{AreHomes}
use Rattle.retarget.proofs.Placed.{AreDone, done_more, done_all, few_bits, few_chains}
use Rattle.retarget.proofs.homes.homes_of.Goals as goal

pub overflow_cast-number : goal.overflow_cast-number
overflow_cast-number c = omega (arith, few_chains c.args.chains.now c.requires.chains, ap length c.as_slice-chain-items.ensures.value)

pub put_homes-requires-clause-within : goal.put_homes-requires-clause-within
put_homes-requires-clause-within c i h =
    let chains = c.args.chains.now in
    let n : ℕ = c.loop-number.number in
    let items : c.as_slice-chain-items.result.now ≡ chains.chains = c.as_slice-chain-items.ensures.value in
    let within : n < length chains.chains = omega (arith, ap length items) in
    let chain : c.chain-item.result ≡ chain_bits chains n
    = get_or_read c.as_slice-chain-items.result.now n c.chain-item.result (omega arith) c.chain-item.is no_bits ∙ ap (λ q. get_or q n no_bits) items in
    let at : get_or c.chain-item.result.cells i 0 ≡ get_or (chain_bits chains n).cells i 0 = ap (λ (ch : ChainBits). get_or ch.cells i 0) chain in
    let bit : i < length (chain_bits chains n).cells = omega (arith, ap (λ (ch : ChainBits). length ch.cells) chain, h) in
    let stands : StandsAt chains (get_or (chain_bits chains n).cells i 0) n i = record { is_chain = within; is_place = bit; is_there = refl } in
    omega (arith, at, cell_within chains c.requires.chains (get_or (chain_bits chains n).cells i 0) n i stands, ap length c.deref_mut.ensures.value, c.loop-number.invariant.long)

pub put_homes-requires-clause-small : goal.put_homes-requires-clause-small
put_homes-requires-clause-small c =
    let chains = c.args.chains.now in
    let n : ℕ = c.loop-number.number in
    let items : c.as_slice-chain-items.result.now ≡ chains.chains = c.as_slice-chain-items.ensures.value in
    let within : n < length chains.chains = omega (arith, ap length items) in
    let chain : c.chain-item.result ≡ chain_bits chains n
    = get_or_read c.as_slice-chain-items.result.now n c.chain-item.result (omega arith) c.chain-item.is no_bits ∙ ap (λ q. get_or q n no_bits) items in
    omega (arith, ap (λ (ch : ChainBits). length ch.cells) chain, few_bits chains c.requires.chains n within)

pub loop-number-preserved : goal.loop-number-preserved
loop-number-preserved c =
    let chains = c.args.chains.now in
    let n : ℕ = c.loop-number.number in
    let items : c.as_slice-chain-items.result.now ≡ chains.chains = c.as_slice-chain-items.ensures.value in
    let within : n < length chains.chains = omega (arith, ap length items) in
    let chain : c.chain-item.result ≡ chain_bits chains n
    = get_or_read c.as_slice-chain-items.result.now n c.chain-item.result (omega arith) c.chain-item.is no_bits ∙ ap (λ q. get_or q n no_bits) items in
    let news : List Home = c.put_homes.new.homes in
    let stays : length news ≡ length c.loop-number.homes.items = c.put_homes.auto.homes ∙ ap length c.deref_mut.ensures.value in
    let back : take c.loop-number.homes.len (news ++ drop (length news) c.loop-number.homes.items) ≡ news
    = take_at news (drop (length news) c.loop-number.homes.items) c.loop-number.homes.len (omega (arith, c.loop-number.homes.ok.0)) in
    let before : AreDone chains c.deref_mut.result.now n = subst (λ (q : List Home). AreDone chains q n) (sym c.deref_mut.ensures.value) c.loop-number.invariant.done in
    let after : AreDone chains news (n + 1) = done_more chains c.deref_mut.result.now news n c.chain-item.result within chain c.put_homes.ensures.put before in
    record {
      long = ap length back ∙ stays ∙ c.loop-number.invariant.long;
      done = subst (λ (q : List Home). AreDone chains q (n + 1)) (sym back) after;
    }

pub returns : goal.returns
returns c = record {
  value = subst (λ (q : List Home). AreHomes c.args.chains.now q) (sym c.of.ensures.value)
      (done_all c.args.chains.now c.loop-number.homes.items c.loop-number.number c.requires.chains c.loop-number.invariant.long
      (omega (arith, ap length c.as_slice-chain-items.ensures.value)) c.loop-number.invariant.done);
}
