use Rattle.std.proofs.Common.{◌≡◌, ℕ, ◌<◌, ◌^◌, ◌||◌, take}
use Rattle.std.specs.List.{list_any}
use Rattle.std.specs.Str.{bytes_eq}
use Rattle.net_edit.specs.TailNames.{tail_name, is_bit_of_vector}
use Rattle.net_edit.specs.TakenNames.{has_name}
use Rattle.net_edit.proofs.names.note_nets.Given as goal

abbrev pub invariant-loop-net : goal.invariant-loop-net
invariant-loop-net l =
    (number : ℕ) → number < 2 ^ 32
    → has_name l.taken (tail_name number) ≡ (has_name l.fn.taken (tail_name number) || list_any (λ net. bytes_eq net.plain (tail_name number) || is_bit_of_vector (tail_name number) net.text) (take l.net-index l.nets))
