use Rattle.std.proofs.Common.{ap, ◌∙◌, List, ℕ}
use Rattle.stil_head.specs.Unsupported.{is_name_of}
use Rattle.stil_head.proofs.Rows.{view_test}
use Rattle.stil_head.proofs.names.Names.has.Goals as goal

pub returns : goal.returns
returns c = record {
  value = c.contains.ensures ∙ view_test c.args.name.now c.self.inside.names.keys ∙ ap (λ (ns : List (List ℕ)). is_name_of ns c.args.name.now) c.self.view_is;
}
