use Rattle.std.proofs.Common.{List, ℕ, sym, subst}
use Rattle.std.proofs.lemmas.List.{take_all}
use Rattle.def_reader.specs.declared.design.Net.{Net}
use Rattle.def_reader.specs.declared.design.NetPin.{NetPin}
use Rattle.def_reader.specs.Faults.{StandsAgain, net_rows, connections_of, connection_rows}
use Rattle.def_reader.specs.Hashes.{AreTold, IsNameHeld, IsPinHeld}
use Rattle.list_laws.proofs.RowsMore.{map_next, flat_next}
use Rattle.def_reader.proofs.Told.{none_told}
use Rattle.def_reader.proofs.connections.are_apart.Goals as goal

pub loop-net-init : goal.loop-net-init
loop-net-init c = record { names = none_told (IsNameHeld c.in_ok-hashes.hashes); rows = none_told (IsPinHeld c.in_ok-hashes.hashes) }

pub loop-net-preserved : goal.loop-net-preserved
loop-net-preserved c =
    let new = c.add_hashes.new.hashes in
    let nets = c.args.nets.now in
    let i = c.loop-net.net-index in
    let net = c.net-item.result in
    let told = c.add_hashes.ensures.told c.if-not-add_hashes.false _ _ c.loop-net.invariant.names c.loop-net.invariant.rows in
    record {
      names = subst (λ (l : List (List ℕ × ℕ)). AreTold (IsNameHeld new) l) (sym (map_next {B = List ℕ × ℕ} (λ n. (n.name, n.line)) nets i net c.loop-net-test.true c.net-item.is)) told.0;
      rows = subst (λ (l : List (NetPin × ℕ)). AreTold (IsPinHeld new) l) (sym (flat_next connections_of nets i net c.loop-net-test.true c.net-item.is)) told.1;
    }

pub returns-clause-names : goal.returns-clause-names
returns-clause-names c = λ _ n again.
    c.loop-net.invariant.names.once n (subst (λ (l : List Net). StandsAgain (net_rows l) n) (sym (take_all c.loop-net.net-index c.args.nets.now c.loop-net-test.false)) again)

pub returns-clause-connections : goal.returns-clause-connections
returns-clause-connections c = λ _ n again.
    c.loop-net.invariant.rows.once n (subst (λ (l : List Net). StandsAgain (connection_rows l) n) (sym (take_all c.loop-net.net-index c.args.nets.now c.loop-net-test.false)) again)
