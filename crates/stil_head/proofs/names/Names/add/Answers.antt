use Rattle.std.proofs.Common.{ap, ◌∙◌, List, ℕ, ◌||◌, not, Bor}
use Rattle.std.specs.Str.{bytes_eq}
use Rattle.stil_head.specs.Unsupported.{is_name_of}
use Rattle.stil_head.proofs.Rows.{key_test, names_view, view_test, view_more, twice_not}
use Rattle.stil_head.proofs.names.Names.add.Goals as goal

pub returns-clause-known : goal.returns-clause-known
returns-clause-known c =
    ap not c.in_ok-insert.ensures.added ∙ twice_not (key_test c.self.inside.names.keys c.args.name.now)
    ∙ view_test c.args.name.now c.self.inside.names.keys ∙ ap (λ (ns : List (List ℕ)). is_name_of ns c.args.name.now) c.self.view_is

pub returns-clause-names : goal.returns-clause-names
returns-clause-names c q =
    ap (λ (ks : List (Bor (List ℕ))). is_name_of (names_view ks) q) c.in_ok-insert.ensures.keys
    ∙ view_more q c.self.inside.names.keys c.args.name
    ∙ ap (λ (ns : List (List ℕ)). is_name_of ns q || bytes_eq q c.args.name.now) c.self.view_is
