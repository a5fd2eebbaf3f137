use Rattle.std.proofs.Common.{◌≡◌, ℕ, ◌-◌, ◌<◌, List, length, arith, ap, sym, ◌∙◌, subst, get_or}
use Rattle.std.specs.Prelude.{◌↔◌}
use Rattle.stil_types.specs.declared.statement.ScanCall.{ScanCall}
use Rattle.stil_tester.specs.declared.chains.Chains.{Chains}
use Rattle.retarget.specs.declared.home.Home.{Home}
use Rattle.retarget.specs.Places.{chain_bits, bits_at}
use Rattle.retarget.specs.Homes.{home_of}
use Rattle.fail_map.specs.Fails.{Fails, IsCompared}
use Rattle.fail_map.specs.Blocks.{AreSameCalls}
use Rattle.fail_map.specs.Carried.{cell_out, old_home}
use Rattle.fail_map.proofs.Carrying.{IsOneCell, one_cell, read_cells, bit_within, fails_there, compared_there, compared_within}
use Rattle.fail_map.proofs.fail.map_fail.Goals as goal

pub old_home-home-requires : goal.old_home-home-requires
old_home-home-requires c =
    let new : Chains = c.args.map.now.1 in
    let bits : List ℕ = c.as_slice-bits.result.now in
    let within : c.args.index < bits_at new c.args.chain = compared_within new c.args.new.now c.requires.new_accepted c.args.chain c.args.index c.requires.compared in
    let cells : bits ≡ (chain_bits new c.args.chain).cells
    = read_cells c.new_chains.result.now new c.as_slice.result.now c.index-as_slice-chain.result bits c.args.chain c.new_chains.ensures.value c.as_slice.ensures.value c.requires.compared.is_chain c.as_slice-bits.ensures.value in
    let cell : get_or bits (length bits - 1 - c.args.index) 0 ≡ cell_out new c.args.chain c.args.index = ap (λ q. get_or q (length q - 1 - c.args.index) 0) cells in
    record { within = omega (arith, cell, c.new_chains.ensures.same.cells, bit_within new c.args.chain c.args.index c.new_chains.ensures.same.new_chains c.requires.compared.is_chain within) }

pub returns : goal.returns
returns c =
    let old : Chains = c.args.map.now.0 in
    let new : Chains = c.args.map.now.1 in
    let a : ScanCall = c.args.old.now in
    let b : ScanCall = c.args.new.now in
    let d : ℕ = c.args.chain in
    let l : ℕ = c.args.index in
    let bits : List ℕ = c.as_slice-bits.result.now in
    let within : l < bits_at new d = compared_within new b c.requires.new_accepted d l c.requires.compared in
    let cells : bits ≡ (chain_bits new d).cells
    = read_cells c.new_chains.result.now new c.as_slice.result.now c.index-as_slice-chain.result bits d c.new_chains.ensures.value c.as_slice.ensures.value c.requires.compared.is_chain c.as_slice-bits.ensures.value in
    let cell : get_or bits (length bits - 1 - l) 0 ≡ cell_out new d l = ap (λ q. get_or q (length q - 1 - l) 0) cells in
    let home : c.old_home-home.result ≡ old_home old new d l = c.old_home-home.ensures.value ∙ ap (home_of old) cell in
    let calls : AreSameCalls old new a b
    = record { old_call = c.requires.old_call; old_accepted = c.requires.old_accepted; new_call = c.requires.new_call; new_accepted = c.requires.new_accepted; same = c.requires.same } in
    let one : IsOneCell old new (old_home old new d l).chain (old_home old new d l).exit d l = one_cell old new c.new_chains.ensures.same d l c.requires.compared.is_chain within in
    record {
      fails = λ qs room.
          subst (λ (h : Home). Fails old qs a h.chain h.exit ↔ Fails new qs b d l) (sym home)
          (fails_there old new a b c.new_chains.ensures.same calls (old_home old new d l).chain (old_home old new d l).exit d l one qs room);
      compared = subst (λ (h : Home). IsCompared old a h.chain h.exit) (sym home)
          (compared_there old new a b c.new_chains.ensures.same calls (old_home old new d l).chain (old_home old new d l).exit d l one c.requires.compared);
      chain = ap (λ (h : Home). h.chain) home;
      index = ap (λ (h : Home). h.exit) home;
    }
