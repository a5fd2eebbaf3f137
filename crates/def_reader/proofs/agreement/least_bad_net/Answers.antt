use Rattle.std.proofs.Common.{rules, ◌≡◌, Bool, false, List, ℕ, ◌++◌, length, replicate, take, refl, sym, ap, ◌∙◌, subst}
use Rattle.std.specs.List.{flat_map, list_any}
use Rattle.std.proofs.lemmas.List.{take_all, length-replicate}
use Rattle.def_reader.specs.declared.design.Net.{Net}
use Rattle.def_reader.specs.Classes.{net_classes, is_split, has_in, HasClasses, IsBadNet}
use Rattle.list_laws.specs.Leasts.{IsLeast}
use Rattle.def_reader.proofs.Marks.{none_marked, found_within}
use Rattle.def_reader.proofs.NetClasses.{bad_none, bad_next, bad_is}
use Rattle.list_laws.proofs.RowsMore.{flat_next}
use Rattle.def_reader.proofs.agreement.least_bad_net.Goals as goal

pub loop-net-init : goal.loop-net-init
loop-net-init c =
    let all : c.in_ok-seen.seen.items ≡ replicate {A = Bool} c.count_nets.result false = search rules in
    record {
      len = ap length all ∙ length-replicate {A = Bool} c.count_nets.result false ∙ c.count_nets.ensures.value;
      seen = λ q. ap (λ (l : List Bool). has_in l q) all ∙ none_marked c.count_nets.result q;
      least = bad_none (net_classes c.args.pins.now c.args.classes.now);
    }

pub is_shared-requires : goal.is_shared-requires
is_shared-requires c = record {
  within = found_within c.args.pins.now c.args.classes.now c.net-item.result c.requires.netlist c.requires.classes (length c.deref.result.now) c.as_slice-in-loop-net.result.now (ap length c.deref.ensures.value ∙ c.loop-net.invariant.len)
      (c.as_slice-in-loop-net.ensures.value ∙ c.in_ok-put_classes.ensures.value);
}

pub add_all-requires : goal.add_all-requires
add_all-requires c = record {
  within = found_within c.args.pins.now c.args.classes.now c.net-item.result c.requires.netlist c.requires.classes (length c.loop-net.seen.items) c.as_slice-in-loop-net-2.result.now c.loop-net.invariant.len
      (c.as_slice-in-loop-net-2.ensures.value ∙ c.in_ok-put_classes.ensures.value);
}

pub loop-net-preserved : goal.loop-net-preserved
loop-net-preserved c =
    let cls = net_classes c.args.pins.now c.args.classes.now in
    let nets = c.args.nets.now in
    let i = c.loop-net.net-index in
    record {
      len = c.add_all.ensures.len ∙ c.loop-net.invariant.len;
      seen = subst (λ (l : List ℕ). HasClasses c.add_all.new.seen.items l)
          (ap (λ (l : List ℕ). flat_map cls (take i nets) ++ l) (c.as_slice-in-loop-net-2.ensures.value ∙ c.in_ok-put_classes.ensures.value) ∙ sym (flat_next cls nets i c.net-item.result c.loop-net-test.true c.net-item.is))
          (c.add_all.ensures.value (flat_map cls (take i nets)) c.loop-net.invariant.seen);
      least = rw (c.lesser-least.ensures.value, c.line_if.ensures.value)
          (bad_next cls nets i c.net-item.result c.loop-net.least _ c.loop-net-test.true c.net-item.is
          (bad_is c.loop-net.seen.items (flat_map cls (take i nets)) (cls c.net-item.result) c.put_classes.new.found.items c.is_split.result c.is_shared.result _ c.loop-net.invariant.seen c.in_ok-put_classes.ensures.value
          (c.is_split.ensures.value ∙ ap is_split c.as_slice.ensures.value) (c.is_shared.ensures.value ∙ ap (λ (l : List Bool). list_any (has_in l) c.as_slice-in-loop-net.result.now) c.deref.ensures.value ∙ ap (list_any (has_in c.loop-net.seen.items)) c.as_slice-in-loop-net.ensures.value) refl) c.loop-net.invariant.least);
    }

pub returns : goal.returns
returns c = record {
  value = subst (λ (l : List Net). IsLeast (IsBadNet (net_classes c.args.pins.now c.args.classes.now) l) c.loop-net.least) (take_all c.loop-net.net-index c.args.nets.now c.loop-net-test.false) c.loop-net.invariant.least;
}
