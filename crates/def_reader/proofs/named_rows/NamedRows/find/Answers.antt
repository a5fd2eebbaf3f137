use Rattle.std.proofs.Common.{sym, ap, ◌∙◌}
use Rattle.std.specs.List.{find}
use Rattle.std.specs.Str.{bytes_eq}
use Rattle.def_reader.proofs.Places.{found_place, found_no_place}
use Rattle.def_reader.proofs.named_rows.NamedRows.find.Goals as goal

pub returns-in-Some : goal.returns-in-Some
returns-in-Some g c = record {
  value = rw (← c.self.view_is)
      (c.row_at.ensures.value ∙ found_place (λ row. bytes_eq (g.T.Named.name_of row) c.args.name.now) c.as_slice-rows.result.now c.in-Some.place (sym c.in-Some.ensures.value)
      ∙ ap (find (λ row. bytes_eq (g.T.Named.name_of row) c.args.name.now)) c.as_slice-rows.ensures.value);
}

pub returns-in-None : goal.returns-in-None
returns-in-None g c = record {
  value = rw (← c.self.view_is)
      (found_no_place (λ row. bytes_eq (g.T.Named.name_of row) c.args.name.now) c.as_slice-rows.result.now (sym c.in-None.ensures.value)
      ∙ ap (find (λ row. bytes_eq (g.T.Named.name_of row) c.args.name.now)) c.as_slice-rows.ensures.value);
}
