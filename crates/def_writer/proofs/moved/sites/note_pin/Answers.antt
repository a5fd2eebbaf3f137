use Rattle.std.proofs.Common.{ℕ, cond, Some, sym, ap, ◌∙◌}
use Rattle.def_reader.specs.Steps.{same_key}
use Rattle.def_writer.specs.Moved.Sites.{site_by}
use Rattle.def_writer.proofs.moved.FoundSites.{pin_noted}
use Rattle.def_writer.proofs.moved.sites.note_pin.Goals as goal

pub returns-in_ok-insert : goal.returns-in_ok-insert
returns-in_ok-insert c = record {
  value = λ q.
      pin_noted c.args.sites.now c.key_of-key.result q c.args.pin.now (c.args.net, c.args.place) c.key_of-key.ensures.value (sym c.is_open.ensures.value ∙ c.if-is_open.true) (site_by c.insert.new.self q)
      (c.in_ok-insert.ensures.updates.0 q ∙ ap (λ (s : ℕ × ℕ). cond (same_key c.key_of-key.result q) (Some (Some s)) (site_by c.args.sites.now q)) c.in_ok-site.ensures.value);
}
