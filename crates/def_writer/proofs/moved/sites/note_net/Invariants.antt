use Rattle.std.proofs.Common.{◌≡◌, ℕ, option_map, take}
use Rattle.std.specs.List.{position}
use Rattle.std.specs.Option.{option_or}
use Rattle.def_reader.specs.Steps.{PinKey, pin_of_key}
use Rattle.def_writer.specs.Placing.{same_pin}
use Rattle.def_writer.specs.Moved.Sites.{site_by}
use Rattle.def_writer.proofs.moved.sites.note_net.Given as goal

abbrev pub invariant-loop-place : goal.invariant-loop-place
invariant-loop-place l =
    (q : PinKey) → site_by l.sites q ≡ option_map (λ s. option_or s (option_map (λ (p : ℕ). (l.number, p)) (position (same_pin (pin_of_key q)) (take l.place l.net.pins)))) (site_by l.fn.sites q)
