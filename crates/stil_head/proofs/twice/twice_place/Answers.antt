use Rattle.std.proofs.Common.{◌∙◌, [], map, ◌++◌}
use Rattle.std.specs.List.{flat_map}
use Rattle.stil_head.specs.Twice.{again_in, chain_row, port_rows, callee_row}
use Rattle.stil_head.proofs.Joined.{two_places}
use Rattle.stil_head.proofs.twice.twice_place.Goals as goal

pub returns : goal.returns
returns c =
    let chains = again_in [] (map chain_row c.args.chains.now) in
    let ports = again_in [] (flat_map port_rows c.args.chains.now) in
    let procedures = again_in [] (map callee_row c.args.procedures.now) in
    let macros = again_in [] (map callee_row c.args.macros.now) in
    record {
      value = c.lesser_place-3.ensures.value
          ∙ two_places chains (ports ++ (procedures ++ macros)) c.in_ok-chain.chain c.lesser_place-2.result c.in_ok-chain.ensures.value
          (c.lesser_place-2.ensures.value
          ∙ two_places ports (procedures ++ macros) c.in_ok-port.port c.lesser_place.result c.in_ok-port.ensures.value
          (c.lesser_place.ensures.value ∙ two_places procedures macros c.in_ok-procedure.procedure c.in_ok-named.named c.in_ok-procedure.ensures.value c.in_ok-named.ensures.value));
    }
