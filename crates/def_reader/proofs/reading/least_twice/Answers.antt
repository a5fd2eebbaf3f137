use Rattle.std.proofs.Common.{List, ℕ, map, subst}
use Rattle.def_reader.specs.declared.design.Net.{Net}
use Rattle.def_reader.specs.declared.design.ScanChainText.{ScanChainText}
use Rattle.def_reader.specs.Faults.{StandsAgain, net_rows, connection_rows}
use Rattle.list_laws.specs.Leasts.{IsLeast}
use Rattle.def_reader.proofs.AllTwice.{twice_least}
use Rattle.def_reader.proofs.reading.least_twice.Goals as goal

pub returns : goal.returns
returns c = record {
  value = λ text cells t is here.
      let nets = subst (λ (l : List Net). IsLeast (StandsAgain (net_rows l)) c.in_ok-nets.nets) c.as_slice.ensures.value c.in_ok-nets.ensures.names in
      let chains =
      subst (λ (l : List ScanChainText). IsLeast (StandsAgain (map {B = List ℕ × ℕ} (λ c. (c.name, c.line)) l)) c.in_ok-chains.chains) c.as_slice-2.ensures.value c.in_ok-chains.ensures.least in
      let connections = subst (λ (l : List Net). IsLeast (StandsAgain (connection_rows l)) c.in_ok-nets.connections) c.as_slice.ensures.value c.in_ok-nets.ensures.connections in
      rw (c.lesser-3.ensures.value, c.lesser-named.ensures.value, c.lesser.ensures.value, c.lesser-2.ensures.value)
      (twice_least text cells t c.args.design.now c.args.sections.now is here _ _ _ _ _ c.requires.named nets chains c.in_ok-again.ensures.least connections);
}
