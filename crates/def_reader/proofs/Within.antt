-- The nets of pins are in range.
use Rattle.std.proofs.Common.{◌≡◌, ℕ, ◌<◌, Bool, true, false, cond, List, [], ◌∷◌, length, refl, subst}
use Rattle.std.specs.Prelude.{All, Option, Some, None, option_and_then, option_map}
use Rattle.std.specs.List.{find}
use Rattle.std.specs.Str.{bytes_eq}
use Rattle.std.proofs.lemmas.Option.{none-some, same_Some}
use Rattle.std.proofs.lemmas.List.Elements.{All-head, All-tail}
use Rattle.netlist_core.specs.declared.netlist.NetId.{NetId}
use Rattle.netlist_core.specs.declared.netlist.Bit.{Bit}
use Rattle.netlist_core.specs.declared.netlist.Bit.TheVariants.{Net, Zero, One, Unknown}
use Rattle.netlist_core.specs.declared.netlist.Port.{Port}
use Rattle.netlist_core.specs.declared.netlist.Connection.{Connection}
use Rattle.netlist_core.specs.declared.netlist.Instance.{Instance}
use Rattle.netlist_core.specs.declared.netlist.Netlist.{Netlist}
use Rattle.netlist_core.specs.Netlists.{IsBitWithin, IsInstance, IsNetlist, plain_of, single_net, connection_at, net_at}
use Rattle.def_reader.specs.declared.design.NetPin.{NetPin}
use Rattle.def_reader.specs.declared.design.NetPin.TheVariants.{Cell, Port as AtPort}
use Rattle.def_reader.specs.Agreement.{instance_named, port_named, net_of_pin}

record Then {A B : Type 0} (f : A → Option B) (o : Option A) (y : B) : Type 0 where
  pub value : A
  pub is : o ≡ Some value
  pub gives : f value ≡ Some y

then_some : {A B : Type 0} (f : A → Option B) (o : Option A) (y : B) → option_and_then f o ≡ Some y → Then f o y
then_some f None y e = absurd (none-some y e)
then_some f (Some x) y e = record { value = x; is = refl; gives = e }

pub record Made {A B : Type 0} (f : A → B) (o : Option A) (y : B) : Type 0 where
  pub value : A
  pub is : o ≡ Some value
  pub gives : f value ≡ y

pub made_some : {A B : Type 0} (f : A → B) (o : Option A) (y : B) → option_map f o ≡ Some y → Made f o y
made_some f None y e = absurd (none-some y e)
made_some f (Some x) y e = record { value = x; is = refl; gives = same_Some (f x) y e }

find_case : {X : Type 0} (P : X → Type 0) (y x : X) (rest : Option X) → P y → (rest ≡ Some x → P x) → (t : Bool) → cond t (Some y) rest ≡ Some x → P x
find_case P y x rest here more true e = subst P (same_Some y x e) here
find_case P y x rest here more false e = more e

find_holds : {X : Type 0} (P : X → Type 0) (test : X → Bool) (xs : List X) (x : X) → All P xs → find test xs ≡ Some x → P x
find_holds P test [] x all e = absurd (none-some x e)
find_holds P test (y ∷ ys) x all e =
    find_case P y x (find test ys) (All-head P y ys all) (λ r. find_holds P test ys x (All-tail P y ys all) r) (test y) e

single_within : (count : ℕ) (bits : List Bit) (net : NetId) → All (IsBitWithin count) bits → single_net bits ≡ Some net → net.0 < count
single_within count [] net all e = absurd (none-some net e)
single_within count (Net m ∷ []) net all e = subst (λ (x : NetId). x.0 < count) (same_Some m net e) (All-head (IsBitWithin count) (Net m) [] all)
single_within count (Net m ∷ (b ∷ bs)) net all e = absurd (none-some net e)
single_within count (Zero ∷ bs) net all e = absurd (none-some net e)
single_within count (One ∷ bs) net all e = absurd (none-some net e)
single_within count (Unknown ∷ bs) net all e = absurd (none-some net e)

net_at_within : (count : ℕ) (placed : Instance) (pin : List ℕ) (net : NetId) → IsInstance count placed → net_at pin placed ≡ Some net → net.0 < count
net_at_within count placed pin net ok e =
    let t = then_some (λ (connection : Connection). single_net connection.expr.bits) (connection_at pin placed.connections) net e in
    single_within count t.value.expr.bits net
    (find_holds (λ (connection : Connection). All (IsBitWithin count) connection.expr.bits) (λ (connection : Connection). bytes_eq connection.pin pin) placed.connections t.value ok.nets t.is) t.gives

-- the net bit of a pin is one of the netlist's
pub pin_within : (n : Netlist) → IsNetlist n → (pin : NetPin) (net : NetId) → net_of_pin n pin ≡ Some net → net.0 < length n.nets
pin_within n ok (Cell component pin) net e =
    let t = then_some (net_at pin) (instance_named n component) net e in
    net_at_within (length n.nets) t.value pin net (find_holds (IsInstance (length n.nets)) (λ (i : Instance). bytes_eq i.name component) n.instances t.value ok.instances t.is) t.gives
pin_within n ok (AtPort pin) net e =
    let t = made_some (λ (p : Port). p.net) (port_named n pin) net e in
    subst (λ (m : NetId). m.0 < length n.nets) t.gives
    (find_holds (λ (p : Port). p.net.0 < length n.nets) (λ (p : Port). bytes_eq (plain_of n.nets p.net) pin) n.ports t.value ok.port_nets t.is)
