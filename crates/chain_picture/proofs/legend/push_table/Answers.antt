use Rattle.chain_picture.specs.Pictures.{table}
use Rattle.chain_picture.specs.Xml.{attribute}
use Rattle.chain_picture.proofs.Grouped.{table_is}
use Rattle.chain_picture.proofs.legend.push_table.Goals as goal

pub returns : goal.returns
unfolding table attribute
returns c = record { value = rw (c.in_ok-extend_from_slice-3.ensures.items, c.in_ok-push_table_rows.ensures.value, c.in_ok-extend_from_slice-2.ensures.items, c.in_ok-push_size.ensures.value, c.in_ok-extend_from_slice.ensures.items, c.requires.totals) (table_is _ _ _) }
