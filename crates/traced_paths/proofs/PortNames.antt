-- Ports by name: a name tells one port at most.
use Rattle.std.proofs.Common.{◌≡◌, ℕ, zero, suc, ◌==◌, ◌&&◌, ◌<◌, Bool, true, false, cond, List, [], ◌∷◌, length, map, get_or, Contains, refl, sym, ap, ap₂, ◌∙◌, subst, arith, eq-eqb}
use Rattle.std.specs.Prelude.{Some, None, IsTrue, slice_index_or}
use Rattle.std.specs.List.{find}
use Rattle.std.specs.Str.{bytes_eq}
use Rattle.std.proofs.lemmas.Bool.{eqb-true}
use Rattle.std.proofs.lemmas.List.{length-map, get_or-map, get_or_default}
use Rattle.std.proofs.lemmas.List.Elements.{All-contains}
use Rattle.std.proofs.lemmas.List.Folds.{Any-from_list_any, list_any_at}
use Rattle.std.proofs.lemmas.Slice.Eq.{bytes_eq-Decides}
use Rattle.base_types.proofs.TruthValues.{and_first, and_second}
use Rattle.netlist_core.specs.declared.netlist.NetId.{NetId}
use Rattle.netlist_core.specs.declared.netlist.Direction.{Direction}
use Rattle.netlist_core.specs.declared.netlist.NetName.{NetName}
use Rattle.netlist_core.specs.declared.netlist.Port.{Port}
use Rattle.netlist_core.specs.declared.netlist.Netlist.{Netlist}
use Rattle.netlist_core.specs.Netlists.{plain_of, AreDistinct, IsNetlist}
use Rattle.chain_trace.specs.Paths.{has_port}
use Rattle.chain_trace.specs.Named.{IsPortNamed}
use Rattle.chain_trace.proofs.Ranges.{port_within}

in_more : {X : Type 0} (x y : X) (xs : List X) → Contains xs y → Contains (x ∷ xs) y
in_more x y xs h = (suc h.0, (let lt = h.1 in omega arith), h.2)

-- what is found is a member that passes
pub record IsFound {X : Type 0} (test : X → Bool) (xs : List X) (x : X) : Type 0 where
  pub there : Contains xs x
  pub passes : test x ≡ true

found_case : {X : Type 0} (test : X → Bool) (y x : X) (ys : List X) (t : Bool) → test y ≡ t → (find test ys ≡ Some x → IsFound test ys x) → cond t (Some y) (find test ys) ≡ Some x → IsFound test (y ∷ ys) x
found_case {X} test y x ys true is more e = let same : y ≡ x = cc in record { there = (zero, omega arith, same); passes = subst (λ (z : X). test z ≡ true) same is }
found_case test y x ys false is more e = let f = more e in record { there = in_more y x ys f.there; passes = f.passes }

pub found_in : {X : Type 0} (test : X → Bool) (xs : List X) (x : X) → find test xs ≡ Some x → IsFound test xs x
found_in test [] x e = absurd cc
found_in test (y ∷ ys) x e = found_case test y x ys (test y) refl (found_in test ys x) e

missing_case : {X : Type 0} (test : X → Bool) (y : X) (ys : List X) (t : Bool) → cond t (Some y) (find test ys) ≡ None → (t ≡ false) × (find test ys ≡ None)
missing_case test y ys true e = absurd cc
missing_case test y ys false e = (refl, e)

-- where nothing is found no member passes
pub none_passes : {X : Type 0} (test : X → Bool) (xs : List X) → find test xs ≡ None → (x : X) → Contains xs x → test x ≡ false
none_passes test [] e x h = absurd (let lt = h.1 in omega arith)
none_passes test (y ∷ ys) e x (zero, lt, is) = ap test (sym is) ∙ (missing_case test y ys (test y) e).0
none_passes test (y ∷ ys) e x (suc k, lt, is) = none_passes test ys (missing_case test y ys (test y) e).1 x (k, omega arith, is)

-- members that show the same are one
pub distinct_tells : {X Y : Type 0} (f : X → Y) (xs : List X) → AreDistinct (map f xs) → (a b : X) → Contains xs a → Contains xs b → f a ≡ f b → a ≡ b
distinct_tells {X} f xs apart a b ha hb e =
    let la = ha.1 in
    let lb = hb.1 in
    let len : length (map f xs) ≡ length xs = length-map xs f in
    let at_a = get_or-map f xs ha.0 a (f a) la in
    let at_b = get_or-map f xs hb.0 b (f a) lb in
    let same : ha.0 ≡ hb.0 = apart ha.0 hb.0 (f a) (omega arith) (omega arith) (at_a ∙ ap f ha.2 ∙ e ∙ sym (ap f hb.2) ∙ sym at_b) in
    sym ha.2 ∙ ap (λ (k : ℕ). get_or xs k a) same ∙ get_or_default xs hb.0 a b lb ∙ hb.2

net_is : (a b : NetId) → a.0 ≡ b.0 → a ≡ b
net_is a b e = ap (λ (k : ℕ). record { 0 = k }) e

module _ (n : Netlist) (sound : IsNetlist n) where
  abbrev none : NetName
  none = record { plain = []; text = [] }

  pub net_tells : (a b : NetId) → a.0 < length n.nets → b.0 < length n.nets → plain_of n.nets a ≡ plain_of n.nets b → a ≡ b
  net_tells a b ha hb e =
      let plain = λ (net : NetName). net.plain in
      let at_a : slice_index_or (map plain n.nets) a.0 [] ≡ plain_of n.nets a = get_or-map plain n.nets a.0 none [] ha in
      let at_b : slice_index_or (map plain n.nets) b.0 [] ≡ plain_of n.nets b = get_or-map plain n.nets b.0 none [] hb in
      let len : length (map plain n.nets) ≡ length n.nets = length-map n.nets plain in
      let same : a.0 ≡ b.0 = sound.names a.0 b.0 [] (omega (arith, ha, len)) (omega (arith, hb, len)) (at_a ∙ e ∙ sym at_b) in
      net_is a b same

  -- the output ports of a name are one
  pub same_port : (test : Direction → Bool) (name : List ℕ) (a b : NetId) → IsPortNamed test n name a → IsPortNamed test n name b → a ≡ b
  same_port test name a b p q = net_tells a b (port_within n test a sound p.port) (port_within n test b sound q.port) (p.named ∙ sym q.named)

  module _ (test : Direction → Bool) (name : List ℕ) where
    abbrev is_named : Port → Bool
    is_named port = bytes_eq (plain_of n.nets port.net) name

    abbrev stands : NetId → Port → Bool
    stands net port = port.net.0 == net.0 && test port.direction

    -- the port that is found, where it is of such a direction
    pub found_named : (port : Port) → find is_named n.ports ≡ Some port → test port.direction ≡ true → IsPortNamed test n name port.net
    found_named port e ok =
        let f = found_in is_named n.ports port e in
        record {
          named = (bytes_eq-Decides (plain_of n.nets port.net) name).0 f.passes;
          port = list_any_at (stands port.net) n.ports f.there.0 port f.there.1
              (ap (stands port.net) f.there.2 ∙ ap₂ ◌&&◌ (eq-eqb port.net.0 port.net.0 refl) ok);
        }

    record IsPort (net : NetId) : Type 0 where
      port : Port
      there : Contains n.ports port
      net_is_it : port.net ≡ net
      passes : test port.direction ≡ true

    port_of : (net : NetId) → IsTrue (has_port test n net) → IsPort net
    port_of net h =
        let any = Any-from_list_any (stands net) n.ports h in
        let q = any.1 in
        record {
          port = q;
          there = (any.0, any.2, get_or_default n.ports any.0 q q any.2 ∙ any.3);
          net_is_it = net_is q.net net (eqb-true q.net.0 net.0 (and_first (q.net.0 == net.0) (test q.direction) any.4));
          passes = and_second (q.net.0 == net.0) (test q.direction) any.4;
        }

    -- a port of such a direction that has the name is the one that is found
    pub found_direction : (port : Port) (net : NetId) → find is_named n.ports ≡ Some port → IsPortNamed test n name net → test port.direction ≡ true
    found_direction port net e h =
        let f = found_in is_named n.ports port e in
        let q = port_of net h.port in
        let named = (bytes_eq-Decides (plain_of n.nets port.net) name).0 f.passes in
        let here = All-contains (λ (p : Port). p.net.0 < length n.nets) n.ports port sound.port_nets f.there in
        let same : port.net ≡ net = net_tells port.net net here (port_within n test net sound h.port) (named ∙ sym h.named) in
        let one : q.port ≡ port = distinct_tells (λ (p : Port). p.net.0) n.ports sound.ports q.port port q.there f.there (ap (λ (k : NetId). k.0) (q.net_is_it ∙ sym same)) in
        subst (λ (p : Port). test p.direction ≡ true) one q.passes

    pub not_found : (net : NetId) → find is_named n.ports ≡ None → IsPortNamed test n name net → ⊥
    not_found net e h =
        let q = port_of net h.port in
        let no = none_passes is_named n.ports e q.port q.there in
        let yes = (bytes_eq-Decides (plain_of n.nets q.port.net) name).1 (ap (plain_of n.nets) q.net_is_it ∙ h.named) in
        absurd cc
