use Rattle.std.proofs.Common.{sym, ap, ◌∙◌}
use Rattle.std.specs.Hash.DefaultHasher as sip
use Rattle.std.specs.declared.hash.DefaultHasher.{DefaultHasher}
use Rattle.std.specs.List.{fold}
use Rattle.std.proofs.lemmas.List.{take_all}
use Rattle.def_reader.specs.NamedRows.{key_of}
use Rattle.list_laws.proofs.RowsMore.{fold_next}
use Rattle.def_reader.proofs.index.key_of.Goals as goal

pub loop-row-preserved : goal.loop-row-preserved
loop-row-preserved g c =
    c.write.ensures ∙ ap (sip.write c.loop-row.hasher) c.name.ensures.value ∙ ap (λ (h : DefaultHasher). sip.write h (g.T.Named.name_of c.row-item.result)) c.loop-row.invariant
    ∙ sym (fold_next (λ h row. sip.write h (g.T.Named.name_of row)) sip.initial c.args.rows.now c.loop-row.row-index c.row-item.result c.loop-row-test.true c.row-item.is)

pub returns : goal.returns
unfolding key_of
returns g c = record {
  value = c.finish.ensures
      ∙ ap sip.finish (c.loop-row.invariant ∙ ap (fold (λ h row. sip.write h (g.T.Named.name_of row)) sip.initial) (take_all c.loop-row.row-index c.args.rows.now c.loop-row-test.false));
}
