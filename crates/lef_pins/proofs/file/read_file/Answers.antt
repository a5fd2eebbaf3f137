use Rattle.std.proofs.Common.{◌≡◌, ◌<◌, length, arith}
use Rattle.lef_pins.specs.BlockReading.{file_item_at}
use Rattle.lef_pins.specs.Blocks.{ends_never, file_items}
use Rattle.lef_pins.specs.Reading.{put_file_item, file_start}
use Rattle.lef_pins.proofs.Trees.{file_reads}
use Rattle.lef_pins.proofs.Loops.{fewer, one_more, all_done, file_goes_on, file_stops}
use Rattle.lef_pins.proofs.file.read_file.Goals as goal

pub loop-rest-smaller : goal.loop-rest-smaller
loop-rest-smaller c =
    let some : 0 < length c.loop-rest.rest = omega (arith, c.len.ensures.value) in
    fewer ends_never file_items file_item_at file_reads c.loop-rest.rest c.read_file_item.new.rest (file_goes_on c.loop-rest.rest some) c.in_ok-read_file_item.ensures.rest

pub loop-rest-preserved : goal.loop-rest-preserved
loop-rest-preserved c =
    let some : 0 < length c.loop-rest.rest = omega (arith, c.len.ensures.value) in
    one_more ends_never file_items file_item_at file_reads put_file_item c.loop-rest.file c.read_file_item.new.file file_start c.loop-rest.rest c.read_file_item.new.rest c.args.rest (file_goes_on c.loop-rest.rest some)
    c.in_ok-read_file_item.ensures.value c.in_ok-read_file_item.ensures.rest c.loop-rest.invariant

pub returns : goal.returns
returns c =
    let none : length c.loop-rest.rest ≡ 0 = omega (arith, c.len.ensures.value) in
    record { value = (all_done ends_never file_items file_item_at file_reads put_file_item c.loop-rest.file file_start c.loop-rest.rest c.args.rest (file_stops c.loop-rest.rest none) c.loop-rest.invariant).same }
