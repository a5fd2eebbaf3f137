-- Where the checks find no fault, netlist and design agree; where they find one, they don't, and it is the first.
use Rattle.std.proofs.Common.{◌≡◌, ℕ, ◌<◌, ◌⊎◌, inl, inr, true, not, List, ◌∷◌, length, Option, Some, None, Contains, refl, sym, ap, ◌∙◌, subst, arith}
use Rattle.std.specs.Prelude.{is_none, option_map, slice_get, slice_index}
use Rattle.std.proofs.lemmas.Option.{slice_get_read, slice_get_within, get_or_from_slice_get}
use Rattle.std.specs.List.{flat_map, list_any}
use Rattle.std.specs.Str.{bytes_eq}
use Rattle.std.proofs.lemmas.Bool.{cases_Bool, cases_order, or_cases, or_left, or_right, cases_eq}
use Rattle.std.proofs.lemmas.Slice.Eq.{bytes_eq-Decides}
use Rattle.std.proofs.lemmas.List.Elements.{Contains-append_right}
use Rattle.netlist_core.specs.declared.netlist.NetId.{NetId}
use Rattle.netlist_core.specs.declared.netlist.Instance.{Instance}
use Rattle.netlist_core.specs.declared.netlist.Netlist.{Netlist}
use Rattle.netlist_core.specs.Netlists.{IsNetlist}
use Rattle.netlist_core.specs.Joining.{AreJoined, AreClassesOf}
use Rattle.def_reader.specs.declared.design.Component.{Component}
use Rattle.def_reader.specs.declared.design.Net.{Net}
use Rattle.def_reader.specs.declared.design.Design.{Design}
use Rattle.def_reader.specs.Designs.{cell_of}
use Rattle.def_reader.specs.Agreement.{net_of_pin, Connects, AgreeOnNets, IsMissing, HasOtherCell, IsSplit, IsShared}
use Rattle.def_reader.specs.Classes.{class_of, net_classes, is_split, has_class, IsBadNet, is_missing, differs, has_other_cell, FailsOn}
use Rattle.list_laws.specs.Leasts.{IsLeast}
use Rattle.list_laws.proofs.LeastLines.{same_least}
use Rattle.list_laws.proofs.Members.{contains_from, contains_to, flat_from, flat_to, split_at, at_middle, at_front}
use Rattle.def_reader.proofs.Members.{split_two, two_split, both_from, both_to}
use Rattle.def_reader.proofs.Within.{made_some, pin_within}

none_is : {X : Type 0} (o : Option X) → is_none o ≡ true → o ≡ None
none_is None e = refl
none_is (Some x) e = absurd cc

record Other (cell : List ℕ) (o : Option (List ℕ)) : Type 0 where
  pub found : List ℕ
  pub is : o ≡ Some found
  pub other : found ≡ cell → ⊥

other_from : (cell : List ℕ) (o : Option (List ℕ)) → differs cell o ≡ true → Other cell o
other_from cell None e = absurd cc
other_from cell (Some x) e = record { found = x; is = refl; other = λ same. let t = (bytes_eq-Decides x cell).1 same in let f = ap not t in absurd cc }

other_to : (cell : List ℕ) (x : List ℕ) → (x ≡ cell → ⊥) → not (bytes_eq x cell) ≡ true
other_to cell x ne =
    elim (cases_Bool (bytes_eq x cell)) [
      | inl is ↦ absurd (ne ((bytes_eq-Decides x cell).0 is))
      | inr fails ↦ ap not fails
    ]

module _ (n : Netlist) (d : Design) where
  missing_there : (line : ℕ) → FailsOn (is_missing d.components) n.instances line → IsMissing n d line
  missing_there line h = record { instance = h.row; there = h.there; none = none_is (cell_of d.components h.row.name) h.fails; is = h.is }

  missing_back : (line : ℕ) → IsMissing n d line → FailsOn (is_missing d.components) n.instances line
  missing_back line h = record { row = h.instance; there = h.there; fails = ap is_none h.none; is = h.is }

  pub missing_least : (r : Option ℕ) → IsLeast (FailsOn (is_missing d.components) n.instances) r → IsLeast (IsMissing n d) r
  missing_least r least = same_least (FailsOn (is_missing d.components) n.instances) (IsMissing n d) r missing_there missing_back least

  other_there : (line : ℕ) → FailsOn (has_other_cell d.components) n.instances line → HasOtherCell n d line
  other_there line h =
      let t = other_from h.row.cell (cell_of d.components h.row.name) h.fails in
      record { instance = h.row; there = h.there; cell = t.found; found = t.is; other = t.other; is = h.is }

  other_back : (line : ℕ) → HasOtherCell n d line → FailsOn (has_other_cell d.components) n.instances line
  other_back line h = record {
    row = h.instance;
    there = h.there;
    fails = ap (differs h.instance.cell) h.found ∙ other_to h.instance.cell h.cell h.other;
    is = h.is;
  }

  pub other_least : (r : Option ℕ) → IsLeast (FailsOn (has_other_cell d.components) n.instances) r → IsLeast (HasOtherCell n d) r
  other_least r least = same_least (FailsOn (has_other_cell d.components) n.instances) (HasOtherCell n d) r other_there other_back least

contains_at : (nets : List Net) (i : ℕ) (net : Net) → slice_get nets i ≡ Some net → Contains nets net
contains_at nets i net at = (i, slice_get_within nets i net at, get_or_from_slice_get nets i net net at)

one_at : (nets : List Net) (i j : ℕ) (here there : Net) → slice_get nets i ≡ Some here → slice_get nets j ≡ Some there → i ≡ j → there ≡ here
one_at nets i j here there at to e = let both : Some there ≡ Some here = sym to ∙ ap (slice_get nets) (sym e) ∙ at in cc

pub missing_here : (n : Netlist) (d : Design) (cs : List Component) (is : List Instance) (r : Option ℕ) → cs ≡ d.components → is ≡ n.instances → IsLeast (FailsOn (is_missing cs) is) r → IsLeast (IsMissing n d) r
missing_here n d cs is r of at least =
    missing_least n d r (subst (λ (l : List Instance). IsLeast (FailsOn (is_missing d.components) l) r) at (subst (λ (l : List Component). IsLeast (FailsOn (is_missing l) is) r) of least))

pub other_here : (n : Netlist) (d : Design) (cs : List Component) (is : List Instance) (r : Option ℕ) → cs ≡ d.components → is ≡ n.instances → IsLeast (FailsOn (has_other_cell cs) is) r → IsLeast (HasOtherCell n d) r
other_here n d cs is r of at least =
    other_least n d r (subst (λ (l : List Instance). IsLeast (FailsOn (has_other_cell d.components) l) r) at (subst (λ (l : List Component). IsLeast (FailsOn (has_other_cell l) is) r) of least))

-- what is wrong with a net
abbrev pub NetFault : Netlist → Design → ℕ → Type 0
NetFault n d line = IsSplit n d line ⊎ IsShared n d line

module _ (n : Netlist) (classes : List ℕ) (d : Design) (ok : IsNetlist n) (cls : AreClassesOf n classes) where
  -- a class of a net is that of a net bit that it connects
  record Stands (net : Net) (c : ℕ) : Type 0 where
    pub bit : NetId
    pub connects : Connects n net bit
    pub is : slice_index classes bit.0 ≡ c

  stands : (net : Net) (c : ℕ) → Contains (net_classes n classes net) c → Stands net c
  stands net c h =
      let t = contains_from (class_of n classes) net.pins c h in
      let m = made_some (λ (bit : NetId). slice_index classes bit.0) (net_of_pin n t.member) c t.gives in
      record { bit = m.value; connects = record { pin = t.member; there = t.there; is = m.is }; is = m.gives }

  class_in : (net : Net) (bit : NetId) → Connects n net bit → Contains (net_classes n classes net) (slice_index classes bit.0)
  class_in net bit h = contains_to (class_of n classes) net.pins h.pin (slice_index classes bit.0) h.there (ap (option_map (λ (m : NetId). slice_index classes m.0)) h.is)

  bit_within : (net : Net) (bit : NetId) → Connects n net bit → bit.0 < length n.nets
  bit_within net bit h = pin_within n ok h.pin bit h.is

  joined : (here there : Net) (a b : NetId) → Connects n here a → Connects n there b → slice_index classes a.0 ≡ slice_index classes b.0 → AreJoined n a.0 b.0
  joined here there a b x y e = (cls.same a.0 b.0 (bit_within here a x) (bit_within there b y)).0 e

  same_class : (here there : Net) (a b : NetId) → Connects n here a → Connects n there b → AreJoined n a.0 b.0 → slice_index classes a.0 ≡ slice_index classes b.0
  same_class here there a b x y j = (cls.same a.0 b.0 (bit_within here a x) (bit_within there b y)).1 j

  bad_there : (line : ℕ) → IsBadNet (net_classes n classes) d.nets line → NetFault n d line
  bad_there line h =
      elim (or_cases (is_split (net_classes n classes h.net)) (list_any (has_class (flat_map (net_classes n classes) h.front)) (net_classes n classes h.net)) h.bad) [
        | inl split ↦
            let two = split_two (net_classes n classes h.net) split in
            let x = stands h.net two.c two.first in
            let y = stands h.net two.d two.second in
            inl (record {
              net = h.net;
              there = subst (λ (l : List Net). Contains l h.net) (sym h.is) (Contains-append_right h.front (h.net ∷ h.behind) h.net (0, omega arith, refl));
              a = x.bit;
              b = y.bit;
              first = x.connects;
              second = y.connects;
              apart = λ j. two.apart (sym x.is ∙ same_class h.net h.net x.bit y.bit x.connects y.connects j ∙ y.is);
              is = h.line_is;
            })
        | inr shared ↦
            let both = both_from (flat_map (net_classes n classes) h.front) (net_classes n classes h.net) shared in
            let other = flat_from (net_classes n classes) h.front both.c both.first in
            let x = stands other.member both.c other.inside in
            let y = stands h.net both.c both.second in
            inr (record {
              front = h.front;
              net = h.net;
              behind = h.behind;
              nets = h.is;
              before = other.member;
              earlier = other.there;
              a = x.bit;
              b = y.bit;
              first = x.connects;
              second = y.connects;
              joined = joined other.member h.net x.bit y.bit x.connects y.connects (x.is ∙ sym y.is);
              is = h.line_is;
            })
      ]

  bad_back : (line : ℕ) → NetFault n d line → IsBadNet (net_classes n classes) d.nets line
  bad_back line (inl h) =
      let t = split_at d.nets h.there.0 h.net (slice_get_read d.nets (length d.nets) h.there.0 h.net refl h.there.1 (sym h.there.2)) in
      record {
        front = t.front;
        net = h.net;
        behind = t.behind;
        is = t.is;
        bad = or_left _ _ (two_split (net_classes n classes h.net) (slice_index classes h.a.0) (slice_index classes h.b.0) (class_in h.net h.a h.first) (class_in h.net h.b h.second) (λ e. h.apart (joined h.net h.net h.a h.b h.first h.second e)));
        line_is = h.is;
      }
  bad_back line (inr h) =
      let same = same_class h.before h.net h.a h.b h.first h.second h.joined in
      record {
        front = h.front;
        net = h.net;
        behind = h.behind;
        is = h.nets;
        bad = or_right (is_split (net_classes n classes h.net)) _
            (both_to (flat_map (net_classes n classes) h.front) (net_classes n classes h.net) (slice_index classes h.b.0)
            (flat_to (net_classes n classes) h.front h.before (slice_index classes h.b.0) h.earlier (subst (λ (c : ℕ). Contains (net_classes n classes h.before) c) same (class_in h.before h.a h.first))) (class_in h.net h.b h.second));
        line_is = h.is;
      }

  pub net_least : (r : Option ℕ) → IsLeast (IsBadNet (net_classes n classes) d.nets) r → IsLeast (NetFault n d) r
  net_least r least = same_least (IsBadNet (net_classes n classes) d.nets) (NetFault n d) r bad_there bad_back least

  -- two pins of one net are joined, where no net is split
  one_net : ((line : ℕ) → NetFault n d line → ⊥) → (i : ℕ) (here : Net) (a b : NetId) → slice_get d.nets i ≡ Some here → Connects n here a → Connects n here b → AreJoined n a.0 b.0
  one_net none i here a b at x y =
      elim (cases_eq (slice_index classes a.0) (slice_index classes b.0)) [
        | inl e ↦ joined here here a b x y e
        | inr ne ↦
            absurd (none here.line (inl (record {
              net = here;
              there = contains_at d.nets i here at;
              a = a;
              b = b;
              first = x;
              second = y;
              apart = λ j. ne (same_class here here a b x y j);
              is = refl;
            })))
      ]

  -- joined pins don't stand in two nets, where none is shared
  no_two : ((line : ℕ) → NetFault n d line → ⊥) → (i j : ℕ) (here there : Net) (a b : NetId) → slice_get d.nets i ≡ Some here → slice_get d.nets j ≡ Some there → Connects n here a → Connects n there b → AreJoined n a.0 b.0 → i < j → ⊥
  no_two none i j here there a b at to x y both lt =
      let t = split_at d.nets j there to in
      none there.line (inr (record {
        front = t.front;
        net = there;
        behind = t.behind;
        nets = t.is;
        before = here;
        earlier = t.before i here lt at;
        a = a;
        b = b;
        first = x;
        second = y;
        joined = both;
        is = refl;
      }))

  one_place : ((line : ℕ) → NetFault n d line → ⊥) → (i j : ℕ) (here there : Net) (a b : NetId) → slice_get d.nets i ≡ Some here → slice_get d.nets j ≡ Some there → Connects n here a → Connects n there b → AreJoined n a.0 b.0 → i ≡ j
  one_place none i j here there a b at to x y both =
      elim (cases_order i j) [
        | inl same ↦ same
        | inr (inl lt) ↦ absurd (no_two none i j here there a b at to x y both lt)
        | inr (inr lt) ↦
            absurd (no_two none j i there here b a to at y x (joined there here b a y x (sym (same_class here there a b x y both))) lt)
      ]

  pub nets_agree : ((line : ℕ) → NetFault n d line → ⊥) → AgreeOnNets n d.nets
  nets_agree none = record {
    same = λ i j here there a b at to x y. (
      (λ e. let same : there ≡ here = one_at d.nets i j here there at to e in one_net none i here a b at x (subst (λ (m : Net). Connects n m b) same y)),
      (λ both. one_place none i j here there a b at to x y both),
    );
  }

  pub nets_differ : (line : ℕ) → NetFault n d line → AgreeOnNets n d.nets → ⊥
  nets_differ line (inl h) agree =
      let at = slice_get_read d.nets (length d.nets) h.there.0 h.net refl h.there.1 (sym h.there.2) in
      h.apart ((agree.same h.there.0 h.there.0 h.net h.net h.a h.b at at h.first h.second).0 refl)
  nets_differ line (inr h) agree =
      let to : slice_get d.nets (length h.front) ≡ Some h.net = ap (λ (l : List Net). slice_get l (length h.front)) h.nets ∙ at_middle h.front h.behind h.net in
      let at : slice_get d.nets h.earlier.0 ≡ Some h.before = ap (λ (l : List Net). slice_get l h.earlier.0) h.nets ∙ at_front h.front (h.net ∷ h.behind) h.before h.earlier in
      let same = (agree.same h.earlier.0 (length h.front) h.before h.net h.a h.b at to h.first h.second).1 h.joined in
      let lt = h.earlier.1 in
      omega arith

pub nets_here : (n : Netlist) (classes : List ℕ) (d : Design) → IsNetlist n → AreClassesOf n classes → (m : Netlist) (nets : List Net) (r : Option ℕ) → m ≡ n → nets ≡ d.nets → IsLeast (IsBadNet (net_classes m classes) nets) r
    → IsLeast (NetFault n d) r
nets_here n classes d ok cls m nets r same at least =
    net_least n classes d ok cls r
    (subst (λ (l : List Net). IsLeast (IsBadNet (net_classes n classes) l) r) at (subst (λ (x : Netlist). IsLeast (IsBadNet (net_classes x classes) nets) r) same least))
