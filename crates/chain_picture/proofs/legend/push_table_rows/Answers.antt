use Rattle.std.proofs.Common.{append_assoc}
use Rattle.std.proofs.lemmas.List.{append-nil}
use Rattle.chain_picture.specs.Pictures.{rows}
use Rattle.chain_picture.proofs.legend.push_table_rows.Goals as goal

pub returns : goal.returns
unfolding rows
returns c = record { value = rw (c.in_ok-push_foot.ensures.value, c.in_ok-push_rows.ensures.value, c.in_ok-push_heads.ensures.value) (simp (append_assoc, append-nil)) }
