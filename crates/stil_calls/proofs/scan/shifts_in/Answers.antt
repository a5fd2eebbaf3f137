use Rattle.std.proofs.Common.{◌≡◌, sym, ap, ◌∙◌, ◌-◌, ◌^◌, min, ℕ, Bool, true, false, List, Option, Bor, option_copied}
use Rattle.std.specs.List.{list_any}
use Rattle.stil_calls.specs.declared.repeats.Side.{Side}
use Rattle.stil_calls.specs.declared.repeats.Side.TheVariants.{Load, Compare}
use Rattle.stil_calls.specs.Scans.{is_unsound}
use Rattle.stil_calls.specs.Given.{data_of, longest_in}
use Rattle.stil_calls.proofs.Tables.{unsound_first, unsound_rest, shifts_are}
use Rattle.stil_calls.proofs.scan.shifts_in.Goals as goal

abbrev on : Side → List (Option (Bor (List ℕ))) → Bool
on side ds = list_any (λ d. is_unsound side (option_copied d)) ds

-- what is known of data that are lent is known of those of the call
moved : (side : Side) (lent ds : List (Option (Bor (List ℕ)))) (b : Bool) → lent ≡ ds → on side lent ≡ b → on side ds ≡ b
moved side lent ds b are e = ap (on side) (sym are) ∙ e

pub returns-in_default : goal.returns-in_default
returns-in_default c = record {
  value = unsound_first c.args.chains.now c.args.items.now c.args.given.now.loads.items c.args.given.now.compares.items c.requires.given
      (moved Load c.deref.result.now c.args.given.now.loads.items true c.deref.ensures.value c.in_default.ensures.value);
}

pub returns-in_default-longest_on : goal.returns-in_default-longest_on
returns-in_default-longest_on c = record {
  value = unsound_rest c.args.chains.now c.args.items.now c.args.given.now.loads.items c.args.given.now.compares.items c.requires.given
      (moved Load c.deref.result.now c.args.given.now.loads.items false c.deref.ensures.value (c.in-Some.ensures.value.0))
      ∙ moved Compare c.deref-2.result.now c.args.given.now.compares.items true c.deref-2.ensures.value c.in_default-longest_on.ensures.value;
}

pub returns : goal.returns
returns c = record {
  value = (
    unsound_rest c.args.chains.now c.args.items.now c.args.given.now.loads.items c.args.given.now.compares.items c.requires.given
        (moved Load c.deref.result.now c.args.given.now.loads.items false c.deref.ensures.value (c.in-Some.ensures.value.0))
        ∙ moved Compare c.deref-2.result.now c.args.given.now.compares.items false c.deref-2.ensures.value (c.in-Some-longest_on.ensures.value.0),
    c.max.ensures ∙ shifts_are c.args.chains.now c.args.items.now c.args.given.now.loads.items c.args.given.now.compares.items c.in-Some.loads c.in-Some-longest_on.compares c.requires.given
        (c.in-Some.ensures.value.1 ∙ ap (λ (ds : List (Option (Bor (List ℕ)))). min (longest_in (data_of ds)) (2 ^ 64 - 1)) c.deref.ensures.value)
        (c.in-Some-longest_on.ensures.value.1 ∙ ap (λ (ds : List (Option (Bor (List ℕ)))). min (longest_in (data_of ds)) (2 ^ 64 - 1)) c.deref-2.ensures.value),
  );
}
