-- A made netlist and a made design agree.
use Rattle.std.proofs.Common.{◌≡◌, ℕ, ◌+◌, ◌<◌, ◌≤◌, List, ◌∷◌, ◌++◌, Some, None, Contains, refl, sym, ap, ◌∙◌, subst, codes, arith}
use Rattle.made_law.proofs.designs.Rising.{Rising}
use Rattle.std.proofs.lemmas.Option.{same_Some}
use Rattle.netlist_core.specs.declared.netlist.NetId.{NetId}
use Rattle.netlist_core.specs.declared.netlist.Instance.{Instance}
use Rattle.def_reader.specs.declared.design.Net.{Net}
use Rattle.def_reader.specs.Agreement.{Connects, IsMissing, HasOtherCell, IsSplit, IsShared, Missing, Differs, Split, Shared}
use Rattle.def_reader.specs.Designs.{cell_of}
use Rattle.made_law.specs.Designs.Names.{unit}
use Rattle.made_law.specs.Designs.Places.{Places}
use Rattle.made_law.specs.Designs.MadeComponents.{units, made_components}
use Rattle.made_law.specs.Designs.MadeNets.{net_rows, made_net, made_nets}
use Rattle.made_law.specs.Designs.MadeDesign.{made_design}
use Rattle.made_law.specs.Paths.MadeNetlist.{NetlistPlaces, net_id, made_instance, made_netlist}
use Rattle.made_law.proofs.paths.Joins.{shown_by, joined_shown}
use Rattle.made_law.proofs.paths.Netlists.{name_key}
use Rattle.made_law.specs.Checks.Laws.{AgreementLaw}
use Rattle.made_law.proofs.checks.Members.{of_map, of_placed, number_in_range, each_contains, in_front, in_back, here}
use Rattle.made_law.proofs.checks.Units.{component_found}
use Rattle.made_law.proofs.checks.Rows.{IsPinOf, IsRowOf, rows_are, joined_by, net_key, nets_rise, earlier_less}

module _ (n : ℕ) (v : NetlistPlaces) (d : Places) (some : 8 ≤ n) (most : n ≤ 16384) where
  cell_is : (i : ℕ) → i < n → cell_of (made_components d.components n) (unit i) ≡ Some (codes "SDF")
  cell_is i lt = rw (component_found n d.components i most lt).1 refl

  pub record IsUnit (x : Instance) : Type 0 where
    pub number : ℕ
    pub low : number < n
    pub is : x ≡ made_instance v number

  unit_of : (x : Instance) → Contains (made_netlist v n).instances x → IsUnit x
  unit_of x h =
      let r = of_map (made_instance v) (units n) x h in
      record { number = r.member; low = (let q = (number_in_range 0 n r.member r.there).1 in omega (arith, q)); is = r.is }

  cell_of_unit : (x : Instance) → (u : IsUnit x) → cell_of (made_components d.components n) x.name ≡ Some (codes "SDF")
  cell_of_unit x u = ap (λ (y : Instance). cell_of (made_components d.components n) y.name) u.is ∙ cell_is u.number u.low

  none_missing : (line : ℕ) → IsMissing (made_netlist v n) (made_design d n) line → ⊥
  none_missing line h =
      let both : None ≡ Some (codes "SDF") = sym h.none ∙ cell_of_unit h.instance (unit_of h.instance h.there) in
      absurd cc

  none_other : (line : ℕ) → HasOtherCell (made_netlist v n) (made_design d n) line → ⊥
  none_other line h =
      let u = unit_of h.instance h.there in
      let cell : h.cell ≡ codes "SDF" = same_Some h.cell (codes "SDF") (sym h.found ∙ cell_of_unit h.instance u) in
      h.other (cell ∙ sym (ap (λ (y : Instance). y.cell) u.is))

  -- what a net of the design connects shows the net
  connected : (net : Net) (bit : NetId) → Contains (made_nets d.nets n) net → Connects (made_netlist v n) net bit → shown_by n bit.0 ≡ net_key net
  connected net bit there c =
      let r = of_placed made_net d.nets (net_rows n) net there in
      let row = each_contains (IsRowOf n v) (net_rows n) r.member (rows_are n v some most) r.there in
      let pin = each_contains (IsPinOf n v (name_key r.member.name)) r.member.pins c.pin row (subst (λ (m : Net). Contains m.pins c.pin) r.is c.there) in
      let same : bit ≡ net_id pin.net = same_Some bit (net_id pin.net) (sym c.is ∙ pin.is) in
      ap (λ (id : NetId). shown_by n id.0) same ∙ pin.shown ∙ sym (ap net_key r.is)

  none_split : (line : ℕ) → IsSplit (made_netlist v n) (made_design d n) line → ⊥
  none_split line h = h.apart (joined_by n v h.a.0 h.b.0 (connected h.net h.a h.there h.first ∙ sym (connected h.net h.b h.there h.second)))

  none_shared : (line : ℕ) → IsShared (made_netlist v n) (made_design d n) line → ⊥
  none_shared line h =
      let whole = λ (x : Net) (c : Contains (h.front ++ h.net ∷ h.behind) x). subst (λ (l : List Net). Contains l x) (sym h.nets) c in
      let first = connected h.before h.a (whole h.before (in_front h.front (h.net ∷ h.behind) h.before h.earlier)) h.first in
      let second = connected h.net h.b (whole h.net (in_back h.front (h.net ∷ h.behind) h.net (here h.net h.behind))) h.second in
      let same = joined_shown n v h.a.0 h.b.0 h.joined in
      let rising = subst (λ (l : List Net). Rising net_key 0 l (19 + n)) h.nets (nets_rise n d.nets some most) in
      let less = earlier_less net_key 0 (19 + n) h.front h.behind h.before h.net rising h.earlier in
      omega (arith, first, second, same, less)

pub agreement_right : AgreementLaw
agreement_right n v d some most _ (Missing line h) = none_missing n v d some most line h
agreement_right n v d some most _ (Differs line h) = none_other n v d some most line h
agreement_right n v d some most _ (Split line h) = none_split n v d some most line h
agreement_right n v d some most _ (Shared line h) = none_shared n v d some most line h
