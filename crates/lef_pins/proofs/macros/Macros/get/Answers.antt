use Rattle.std.proofs.Common.{ap, sym, ◌∙◌, List, ℕ}
use Rattle.lef_pins.specs.Macros.{macro_at}
use Rattle.lef_pins.proofs.MacroViews.{macros_view, lookup-macros_view}
use Rattle.lef_pins.proofs.macros.Macros.get.Goals as goal

pub returns : goal.returns
returns c = record {
  value = c.get.ensures.value ∙ sym (lookup-macros_view c.bytes.result.now c.self.inside.macros.entries)
      ∙ ap (λ (q : List ℕ). macro_at q (macros_view c.self.inside.macros.entries)) c.bytes.ensures.value ∙ ap (macro_at c.args.name.now) c.self.view_is;
}
