use Rattle.std.proofs.Common.{◌++◌, Bor, List, ℕ, ap, ◌∙◌}
use Rattle.std.specs.List.{filter}
use Rattle.verilog_names.specs.Declarations.{declarations, has}
use Rattle.verilog_checks.specs.Checks.{are_bits}
use Rattle.verilog_checks.specs.Faults.{instance_names, scalars}
use Rattle.verilog_checks.specs.Seen.{is_bracketed}
use Rattle.verilog_checks.proofs.NameLists.{now_of}
use Rattle.verilog_checks.proofs.SeenMore.{tells}
use Rattle.verilog_checks.proofs.twice.Seen.is_bad.Goals as goal

pub returns : goal.returns
returns c = record {
  value = λ ps before p is keeps small seen.
      let so = scalars (declarations ps) before in
      let again = c.in_ok-again.ensures.value (instance_names before) seen.instances in
      tells c.in_ok-itself.itself c.are_bits-bits.result c.in_ok-stands.stands c.in_ok-again.again ps before (now_of c.in_ok-scalars.scalars.items) _ p c.args.statement.now is
      (record {
        named = c.in_ok-scalars.ensures.value (declarations ps) keeps;
        twice = c.in_ok-itself.ensures.value;
        among = c.are_bits-bits.ensures.value (declarations before) seen.known.keeps small ∙ ap (λ (l : List (Bor (List ℕ))). are_bits (declarations before) (now_of l)) c.as_slice.ensures.value;
        adds = c.in_ok-stands.ensures.value (declarations before) so seen.known;
        named_again = again.0;
        instances = again.1;
        nets = λ q. c.in_ok-add_names.ensures.value (filter is_bracketed so) seen.known.are_nets q ∙ ap (λ (l : List (Bor (List ℕ))). has (filter is_bracketed so ++ now_of l) q.now) c.as_slice-2.ensures.value;
      });
}
