use Rattle.std.proofs.Common.{◌∙◌, sym, refl}
use Rattle.stil_blocks.proofs.Fronts.{once_first, once_again}
use Rattle.stil_blocks.proofs.chain.ChainParts.with_in.Goals as goal

pub returns-then-is_some : goal.returns-then-is_some
returns-then-is_some c = record {
  value = rw (once_again c.args.self.scan_in c.args.port (sym c.is_some.ensures ∙ c.if-is_some.true)) refl;
}

pub returns : goal.returns
returns c = record {
  value = rw (once_first c.args.self.scan_in c.args.port (sym c.is_some.ensures ∙ c.if-is_some.false)) refl;
}
