use Rattle.std.proofs.Common.{◌≡◌, ℕ, List, ◌++◌, ◌∷◌, [], Bor, false, drop, sym, subst}
use Rattle.std.specs.Prelude.{codes}
use Rattle.path_numbers.specs.Numbers.{begins_with}
use Rattle.path_numbers.specs.Extras.{AreExtras}
use Rattle.path_numbers.proofs.ExtraNames.{kept, left_out}
use Rattle.path_numbers.proofs.extras.put_name.Goals as goal

pub returns-then-not-holds_extra : goal.returns-then-not-holds_extra
returns-then-not-holds_extra c =
    let none = c.holds_extra.ensures.none c.if-not-holds_extra.true in
    record {
      more = λ pins are.
          left_out pins c.args.pin.now c.args.names.now.items are
          (subst (λ (name : List ℕ). (k : ℕ) → begins_with (codes ".extra") (drop k name) ≡ false) c.bytes-name.ensures.value none);
    }

pub returns : goal.returns
returns c = record {
  more = λ pins are.
      subst (λ (l : List (Bor (List ℕ))). AreExtras (pins ++ c.args.pin.now ∷ []) l) (sym c.in_ok-push.ensures.items)
      (kept pins c.args.pin.now c.args.names.now.items are c.bytes-name.result c.bytes-name.ensures.value);
}
