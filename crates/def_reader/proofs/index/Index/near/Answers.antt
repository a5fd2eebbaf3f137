use Rattle.std.proofs.Common.{sym, ◌∙◌}
use Rattle.def_reader.proofs.Apart.{first_named}
use Rattle.def_reader.proofs.index.Index.near.Goals as goal

pub returns-then-is_named : goal.returns-then-is_named
returns-then-is_named g c = record {
  value = first_named g.T.Named.name_of c.args.rows.now c.get-last.result c.args.name.now (c.requires.index.apart c.if-not-self.false) (sym c.is_named.ensures.value ∙ c.if-is_named.true);
}

pub returns-then-is_named-2 : goal.returns-then-is_named-2
returns-then-is_named-2 g c = record {
  value = first_named g.T.Named.name_of c.args.rows.now c.saturating_add-next.result c.args.name.now (c.requires.index.apart c.if-not-self.false) (sym c.is_named-2.ensures.value ∙ c.if-is_named-2.true);
}
