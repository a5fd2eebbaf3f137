use Rattle.std.proofs.Common.{ℕ, ◌-◌, ◌%◌, length, sym, subst}
use Rattle.std.proofs.lemmas.Nat.{mod_below}
use Rattle.stil_types.specs.declared.statement.ScanCall.{ScanCall}
use Rattle.fail_map.specs.Carried.{IsCarried}
use Rattle.fail_map.proofs.Blocks.{same_read, round_read}
use Rattle.fail_map.proofs.mapping.find_line.Goals as goal

pub map_line-requires-clause-old_call : goal.map_line-requires-clause-old_call
map_line-requires-clause-old_call c =
    let number : ℕ = (c.args.line.scan - c.args.before - 1) % length c.args.new.now in
    let within = mod_below (c.args.line.scan - c.args.before - 1) (length c.args.new.now) c.requires.some in
    (same_read c.args.map.now.0 c.args.map.now.1 c.args.old.now c.args.new.now number c.index-old-number.result c.index-new-number.result c.requires.long within c.index-old-number.is c.index-new-number.is (c.requires.same number within)).old_call

pub map_line-requires-clause-old_accepted : goal.map_line-requires-clause-old_accepted
map_line-requires-clause-old_accepted c =
    let number : ℕ = (c.args.line.scan - c.args.before - 1) % length c.args.new.now in
    let within = mod_below (c.args.line.scan - c.args.before - 1) (length c.args.new.now) c.requires.some in
    (same_read c.args.map.now.0 c.args.map.now.1 c.args.old.now c.args.new.now number c.index-old-number.result c.index-new-number.result c.requires.long within c.index-old-number.is c.index-new-number.is (c.requires.same number within)).old_accepted

pub map_line-requires-clause-new_call : goal.map_line-requires-clause-new_call
map_line-requires-clause-new_call c =
    let number : ℕ = (c.args.line.scan - c.args.before - 1) % length c.args.new.now in
    let within = mod_below (c.args.line.scan - c.args.before - 1) (length c.args.new.now) c.requires.some in
    (same_read c.args.map.now.0 c.args.map.now.1 c.args.old.now c.args.new.now number c.index-old-number.result c.index-new-number.result c.requires.long within c.index-old-number.is c.index-new-number.is (c.requires.same number within)).new_call

pub map_line-requires-clause-new_accepted : goal.map_line-requires-clause-new_accepted
map_line-requires-clause-new_accepted c =
    let number : ℕ = (c.args.line.scan - c.args.before - 1) % length c.args.new.now in
    let within = mod_below (c.args.line.scan - c.args.before - 1) (length c.args.new.now) c.requires.some in
    (same_read c.args.map.now.0 c.args.map.now.1 c.args.old.now c.args.new.now number c.index-old-number.result c.index-new-number.result c.requires.long within c.index-old-number.is c.index-new-number.is (c.requires.same number within)).new_accepted

pub map_line-requires-clause-same : goal.map_line-requires-clause-same
map_line-requires-clause-same c =
    let number : ℕ = (c.args.line.scan - c.args.before - 1) % length c.args.new.now in
    let within = mod_below (c.args.line.scan - c.args.before - 1) (length c.args.new.now) c.requires.some in
    (same_read c.args.map.now.0 c.args.map.now.1 c.args.old.now c.args.new.now number c.index-old-number.result c.index-new-number.result c.requires.long within c.index-old-number.is c.index-new-number.is (c.requires.same number within)).same

pub returns : goal.returns
returns c = record {
  value = subst (λ (call : ScanCall). IsCarried c.args.map.now.0 c.args.map.now.1 call c.args.line c.map_line.result)
      (sym (round_read c.args.new.now c.args.before c.args.line c.index-new-number.result c.requires.some c.index-new-number.is)) c.map_line.ensures.value;
}
