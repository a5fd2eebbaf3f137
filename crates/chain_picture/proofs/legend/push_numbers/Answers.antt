use Rattle.std.proofs.Common.{append_assoc}
use Rattle.std.proofs.lemmas.List.{append-nil}
use Rattle.chain_picture.specs.Pictures.{numbers}
use Rattle.chain_picture.proofs.legend.push_numbers.Goals as goal

pub returns : goal.returns
unfolding numbers
returns c = record { value = rw (c.in_ok-push_number-3.ensures.value, c.in_ok-push_number-2.ensures.value, c.in_ok-push_number.ensures.value) (simp (append_assoc, append-nil)) }
