use Rattle.std.proofs.Common.{◌≡◌, ◌+◌, ◌<◌, ◌≤◌, ℕ, List, length, get_or, map, All, sym, ap, ◌∙◌, subst}
use Rattle.std.specs.Vec.{with_items}
use Rattle.std.proofs.lemmas.List.{with_items_is}
use Rattle.chain_rules.specs.declared.unit.Unit.{Unit as MovedUnit}
use Rattle.traced_paths.specs.Bits.{path_bits}
use Rattle.reorder_command.specs.Goals.{bits_in_units}
use Rattle.reorder_command.specs.Planned.{fixed_of}
use Rattle.reorder_command.proofs.OutsideUnits.{units_on_paths, units_fit, fixed_is, on_its_paths, fixed_small}
use Rattle.reorder_command.proofs.fixed.fixed_bits.Goals as goal

pub take_units-requires : goal.take_units-requires
take_units-requires c =
    let f = c.args.files.now in
    let (t, checked) = c.requires.checked in
    let bits : List ℕ = c.as_mut_slice.result.now in
    let is : bits ≡ map (path_bits f.netlist f.table) f.paths.items = c.as_mut_slice.ensures.value ∙ c.in_ok-bits.ensures.value ∙ ap (map (path_bits f.netlist f.table)) c.as_slice.ensures.value in
    let units = sym c.as_slice-2.ensures.value in
    record {
      paths = subst (λ (us : List MovedUnit). All (λ (u : MovedUnit). u.path < length bits) us) units (units_on_paths t f checked bits is);
      enough = λ k. subst (λ (us : List MovedUnit). bits_in_units us k ≤ get_or bits k 0) units (units_fit t f checked bits is k);
    }

pub returns : goal.returns
returns c =
    let f = c.args.files.now in
    let (t, checked) = c.requires.checked in
    let bits : List ℕ = c.as_mut_slice.result.now in
    let left : List ℕ = c.take_units.new.bits in
    let bits_is : bits ≡ map (path_bits f.netlist f.table) f.paths.items = c.as_mut_slice.ensures.value ∙ c.in_ok-bits.ensures.value ∙ ap (map (path_bits f.netlist f.table)) c.as_slice.ensures.value in
    let left_is : left ≡ fixed_of f
    = fixed_is t f checked bits left bits_is c.take_units.ensures.count
    (λ k. ap (λ (us : List MovedUnit). get_or left k 0 + bits_in_units us k) (sym c.as_slice-2.ensures.value) ∙ c.take_units.ensures.left k) in
    let items : List ℕ = (with_items c.in_ok-bits.bits left).items in
    let is : items ≡ fixed_of f = with_items_is c.in_ok-bits.bits left (c.take_units.ensures.count ∙ c.as_mut_slice.ensures.len) ∙ left_is in
    record { value = is; paths = on_its_paths t f checked items is; small = fixed_small t f checked items is }
