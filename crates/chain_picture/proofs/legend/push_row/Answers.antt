use Rattle.std.proofs.Common.{append_assoc}
use Rattle.std.proofs.lemmas.List.{append-nil}
use Rattle.chain_picture.specs.Pictures.{rows_from}
use Rattle.chain_picture.proofs.legend.push_row.Goals as goal

pub returns : goal.returns
unfolding rows_from
returns c = record { value = rw (c.in_ok-push_named.ensures.value, c.in_ok-push_numbers.ensures.value, c.in_ok-push_swatch.ensures.value) (simp (append_assoc, append-nil, c.from.ensures, c.from-2.ensures, c.from-3.ensures)) }
