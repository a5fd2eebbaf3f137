use Rattle.std.proofs.Common.{◌≡◌, ◌∙◌, ◌+◌, ◌<◌, ◌^◌, ℕ, List, length, ap, ap₂, subst, arith}
use Rattle.std.specs.List.{flat_map, zip}
use Rattle.netlist_core.specs.declared.netlist.NetName.{NetName}
use Rattle.path_links.specs.Edits.{moved}
use Rattle.net_edit.specs.Changes.{Change, freed}
use Rattle.net_edit.specs.Tails.{freed_between}
use Rattle.net_edit.specs.NewWires.{HasPlaces, wired_pin, wired_port, wired_tail}
use Rattle.net_edit.proofs.between.wired.Goals as goal

pub returns : goal.returns
returns c =
    let n = c.args.netlist.now in
    let t = c.args.table.now in
    let fs = freed_between n t c.args.paths.now c.args.new.now in
    let numbers = c.in_ok-numbers.numbers.items in
    let freed_is : c.in_ok-freed.freed.items ≡ fs = c.in_ok-freed.ensures.value ∙ ap (freed n t) (c.as_slice.ensures.value ∙ c.in_ok-changes.ensures.value) in
    let has : HasPlaces fs c.in_ok-places.places = subst (λ (l : List Change). HasPlaces l c.in_ok-places.places) (c.as_slice-3.ensures.value ∙ freed_is) c.in_ok-places.ensures.value in
    let links : c.as_slice-4.result.now ≡ moved c.args.paths.now c.args.new.now = c.as_slice-4.ensures.value ∙ c.in_ok-links.ensures.value in
    let freed_count = ap (λ (l : List Change). length l) freed_is in
    let count : length numbers ≡ length fs = omega (arith, c.in_ok-numbers.ensures.count, c.len.ensures, c.in_ok-freed.freed.ok.0, freed_count) in
    let nets : length c.as_slice-2.result.now ≡ length n.nets = ap (λ (l : List NetName). length l) c.as_slice-2.ensures.value in
    let few : length n.nets + length numbers < 2 ^ 32 = omega (arith, c.if-len-as_slice.false, nets, count, freed_count, c.len-2.ensures, c.in_ok-freed.freed.ok.0, c.requires.netlist.few_nets) in
    record {
      value = record {
        pins = c.in_ok-edits.ensures.pins fs has ∙ ap (flat_map (wired_pin n t fs)) links;
        ports = c.in_ok-edits.ensures.ports fs has ∙ ap (flat_map (wired_port n t fs)) links;
        numbers = numbers;
        count = count;
        few = few;
        free = c.in_ok-numbers.ensures.free;
        tails = c.in_ok-tails.ensures.value fs has ∙ ap₂ (λ (l : List Change) (m : List ℕ). flat_map (wired_tail n t fs) (zip l m)) (c.as_slice-5.ensures.value ∙ freed_is) c.as_slice-6.ensures.value;
      };
    }
