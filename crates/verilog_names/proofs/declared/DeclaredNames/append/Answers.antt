use Rattle.std.proofs.Common.{◌≡◌, List, Bor, ℕ, None, ◌∙◌, arith}
use Rattle.std.specs.Str.{bytes_eq}
use Rattle.indexmap.proofs.CallerLemmas.{insert_entry-new}
use Rattle.verilog_names.specs.declared.declared.Slot.{Slot}
use Rattle.verilog_names.specs.NameTables.{first_in, firsts_in}
use Rattle.verilog_names.proofs.Tables.{added, absent, appended, not_found}
use Rattle.verilog_names.proofs.FirstNames.{no_place}
use Rattle.verilog_names.proofs.declared.DeclaredNames.append.Goals as goal

pub invariant_of-self-2 : goal.invariant_of-self-2
invariant_of-self-2 c =
    let s : Slot = record { entry = record { first = c.self.inside.count; bounds = c.args.first.bounds }; kind = c.args.first.kind } in
    let none : first_in (firsts_in c.self.inside.slots.entries) c.args.name.now ≡ None = rw c.self.view_is c.requires in
    let new = c.in_ok-insert.ensures.entries ∙ insert_entry-new (λ (x y : Bor (List ℕ)). bytes_eq x.now y.now) c.self.inside.slots c.args.name s (not_found c.args.name.now c.self.inside.slots.entries none) in
    let both = added c.self.inside.slots.entries c.insert.new.self.entries c.args.name s c.in-Ok.count new c.self.invariant.0 c.self.invariant.1 (omega (arith, c.in-Ok.ensures.1)) in
    (both.0, both.1, omega (arith, c.in-Ok.ensures))

pub returns : goal.returns
returns c =
    let s : Slot = record { entry = record { first = c.self.inside.count; bounds = c.args.first.bounds }; kind = c.args.first.kind } in
    let none : first_in (firsts_in c.self.inside.slots.entries) c.args.name.now ≡ None = rw c.self.view_is c.requires in
    let new = c.in_ok-insert.ensures.entries ∙ insert_entry-new (λ (x y : Bor (List ℕ)). bytes_eq x.now y.now) c.self.inside.slots c.args.name s (not_found c.args.name.now c.self.inside.slots.entries none) in
    let all = invariant_of-self-2 c in
    record {
      ok = rw (← c.self.view_is) (absent c.self.inside.slots.entries c.insert.new.self.entries c.args.name s new none);
      found = appended c.self.inside.slots.entries c.insert.new.self.entries c.args.name s new (no_place (firsts_in c.self.inside.slots.entries) c.args.name.now none) c.self.invariant.1;
      few = omega (arith, all.1, all.2);
      unchanged = tt;
    }
