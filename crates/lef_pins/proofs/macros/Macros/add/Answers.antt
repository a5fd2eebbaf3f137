use Rattle.std.proofs.Common.{ap, sym, ◌∙◌, Option, is_some}
use Rattle.lef_pins.specs.declared.macros.Macro.{Macro}
use Rattle.lef_pins.specs.Macros.{NamedMacros, macro_at, with_macro}
use Rattle.lef_pins.proofs.MacroViews.{lookup-macros_view, macros_view, macros_view-insert}
use Rattle.lef_pins.proofs.macros.Macros.add.Goals as goal

pub returns-clause-known : goal.returns-clause-known
returns-clause-known c =
    c.is_some.ensures
    ∙ ap (λ (o : Option Macro). is_some o) (c.in_ok-before.ensures.old ∙ sym (lookup-macros_view c.args.name.items c.self.inside.macros.entries))
    ∙ ap (λ (ms : NamedMacros). is_some (macro_at c.args.name.items ms)) c.self.view_is

pub returns-clause-macros : goal.returns-clause-macros
returns-clause-macros c =
    ap macros_view c.in_ok-before.ensures.entries
    ∙ macros_view-insert c.args.name c.args.m c.self.inside.macros.entries
    ∙ ap (λ (ms : NamedMacros). with_macro ms c.args.name.items c.args.m) c.self.view_is
