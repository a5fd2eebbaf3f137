-- Joined nets of one netlist are joined in another with the same wiring by names.
use Rattle.std.proofs.Common.{◌≡◌, ℕ, ◌<◌, List, [], ◌∷◌, inl, inr, length, map, refl, sym, ap, ◌∙◌, subst, arith}
use Rattle.std.specs.Prelude.{All, Contains, slice_index_or}
use Rattle.std.specs.List.{flat_map}
use Rattle.std.proofs.lemmas.List.{length-map, get_or-map}
use Rattle.std.proofs.lemmas.List.Elements.{All-head, All-tail, All-nil, All-cons, All-append, All-contains, Contains-get_or}
use Rattle.netlist_core.specs.declared.netlist.NetId.{NetId}
use Rattle.netlist_core.specs.declared.netlist.Bit.{Bit}
use Rattle.netlist_core.specs.declared.netlist.Bit.TheVariants.{Net, Zero, One, Unknown}
use Rattle.netlist_core.specs.declared.netlist.Assign.{Assign}
use Rattle.netlist_core.specs.declared.netlist.NetName.{NetName}
use Rattle.netlist_core.specs.declared.netlist.Netlist.{Netlist}
use Rattle.netlist_core.specs.Netlists.{NamedBit, Named, Low, High, Undefined, NamedNetlist, named_bit, pairs, bit_pairs, plain_of, AreWiredAlike, IsBitWithin, IsAssign, IsNetlist}
use Rattle.netlist_core.specs.Joining.{net_bit, assigned, AreSides, IsChain, AreJoined}
use Rattle.netlist_core.proofs.Chains.{link-then, link-same, link-one}
use Rattle.chain_trace.proofs.NamedNets.{IsSameNet, same_wiring, one_new, named_pair, assigned_by_name}

abbrev IsPairWithin : ℕ → Bit × Bit → Type 0
IsPairWithin count p = IsBitWithin count p.0 × IsBitWithin count p.1

pairs_within : (count : ℕ) (ls rs : List Bit) → All (IsBitWithin count) ls → All (IsBitWithin count) rs → All (IsPairWithin count) (pairs ls rs)
pairs_within count [] rs gl gr = All-nil (IsPairWithin count)
pairs_within count (l ∷ ls) [] gl gr = All-nil (IsPairWithin count)
pairs_within count (l ∷ ls) (r ∷ rs) gl gr =
    All-cons (IsPairWithin count) (l, r) (pairs ls rs) (All-head (IsBitWithin count) l ls gl, All-head (IsBitWithin count) r rs gr)
    (pairs_within count ls rs (All-tail (IsBitWithin count) l ls gl) (All-tail (IsBitWithin count) r rs gr))

all_within : (count : ℕ) (assigns : List Assign) → All (IsAssign count) assigns → All (IsPairWithin count) (flat_map bit_pairs assigns)
all_within count [] good = All-nil (IsPairWithin count)
all_within count (a ∷ rest) good =
    let first = All-head (IsAssign count) a rest good in
    All-append (IsPairWithin count) (bit_pairs a) (flat_map bit_pairs rest) (pairs_within count a.left.bits a.right.bits first.left first.right)
    (all_within count rest (All-tail (IsAssign count) a rest good))

-- a member of one list has one in the other that shows the same
pub record HasLike {X Y Z : Type 0} (f : X → Z) (g : Y → Z) (ys : List Y) (x : X) : Type 0 where
  pub like : Y
  pub among : Contains ys like
  pub shows : f x ≡ g like

like_at : {X Y Z : Type 0} (f : X → Z) (g : Y → Z) (xs : List X) (ys : List Y) (x : X) (k : ℕ) → map f xs ≡ map g ys → k < length xs → slice_index_or xs k x ≡ x → HasLike f g ys x
like_at f g xs [] x k e lt is =
    let none : length xs ≡ 0 = sym (length-map xs f) ∙ ap length e in
    absurd (omega (arith, lt, none))
like_at f g xs (y ∷ ys) x k e lt is =
    let count : length xs ≡ length (y ∷ ys) = sym (length-map xs f) ∙ ap length e ∙ length-map (y ∷ ys) g in
    let below : k < length (y ∷ ys) = omega (arith, lt, count) in
    record {
      like = slice_index_or (y ∷ ys) k y;
      among = Contains-get_or (y ∷ ys) k y below;
      shows = ap f (sym is) ∙ sym (get_or-map f xs k x (f x) lt) ∙ ap (λ zs. slice_index_or zs k (f x)) e ∙ get_or-map g (y ∷ ys) k y (f x) below;
    }

abbrev is_net : NamedBit → List ℕ → Type 0
is_net (Named name) plain = name ≡ plain
is_net Low plain = ⊥
is_net High plain = ⊥
is_net Undefined plain = ⊥

pub record IsNetBit (nets : List NetName) (count : ℕ) (b : Bit) (name : List ℕ) : Type 0 where
  pub net : NetId
  pub is : b ≡ Net net
  pub within : net.0 < count
  pub named : name ≡ plain_of nets net

net_of_bit : (nets : List NetName) (count : ℕ) (b : Bit) (name : List ℕ) → IsBitWithin count b → Named name ≡ named_bit nets b → IsNetBit nets count b name
net_of_bit nets count (Net net) name within e =
    record { net = net; is = refl; within = within; named = sym (subst (λ (c : NamedBit). is_net c name) e refl) }
net_of_bit nets count Zero name within e = absurd (subst (λ (c : NamedBit). is_net c name) e refl)
net_of_bit nets count One name within e = absurd (subst (λ (c : NamedBit). is_net c name) e refl)
net_of_bit nets count Unknown name within e = absurd (subst (λ (c : NamedBit). is_net c name) e refl)

abbrev pub id_of : ℕ → NetId
id_of k = record { 0 = k }

module _ (n m : Netlist) (n_ok : IsNetlist n) (m_ok : IsNetlist m) (same : AreWiredAlike n m) where
  -- both sides of a pair of n, by their names a pair of m
  record HasPair (a c : ℕ) : Type 0 where
    left : NetId
    right : NetId
    among : Contains (assigned m) (Net left, Net right)
    left_same : IsSameNet n m (id_of a) left
    right_same : IsSameNet n m (id_of c) right

  shown : map (named_pair n.nets) (assigned n) ≡ map (named_pair m.nets) (assigned m)
  shown = assigned_by_name n ∙ ap (λ (N : NamedNetlist). flat_map (λ ps. ps) N.assigns) (same_wiring n m same) ∙ sym (assigned_by_name m)

  pair_of : (a c : ℕ) → Contains (assigned n) (net_bit a, net_bit c) → HasPair a c
  pair_of a c h =
      let here = All-contains (IsPairWithin (length n.nets)) (assigned n) (net_bit a, net_bit c) (all_within (length n.nets) n.assigns n_ok.assigns) h in
      let found = like_at (named_pair n.nets) (named_pair m.nets) (assigned n) (assigned m) (net_bit a, net_bit c) h.0 shown h.1 h.2 in
      let there = All-contains (IsPairWithin (length m.nets)) (assigned m) found.like (all_within (length m.nets) m.assigns m_ok.assigns) found.among in
      let left = net_of_bit m.nets (length m.nets) found.like.0 (plain_of n.nets (id_of a)) there.0 (ap (λ (p : NamedBit × NamedBit). p.0) found.shows) in
      let right = net_of_bit m.nets (length m.nets) found.like.1 (plain_of n.nets (id_of c)) there.1 (ap (λ (p : NamedBit × NamedBit). p.1) found.shows) in
      record {
        left = left.net;
        right = right.net;
        among = subst (λ (b : Bit). Contains (assigned m) (b, Net right.net)) left.is (subst (λ (b : Bit). Contains (assigned m) (found.like.0, b)) right.is found.among);
        left_same = record { old = here.0; new = left.within; name = left.named };
        right_same = record { old = here.1; new = right.within; name = right.named };
      }

  -- what a net of n is linked to, of the like net of m
  record HasEnd (Link : ℕ → ℕ → Type 0) (a : NetId) (c : ℕ) : Type 0 where
    end : NetId
    same_net : IsSameNet n m (id_of c) end
    link : Link a.0 end.0

  side_of : (a c : ℕ) (b : NetId) → IsSameNet n m (id_of a) b → AreSides n a c → HasEnd (AreSides m) b c
  side_of a c b s (inl h) =
      let p = pair_of a c h in
      record { end = p.right; same_net = p.right_same; link = inl (subst (λ (x : NetId). Contains (assigned m) (Net x, Net p.right)) (one_new n m m_ok (id_of a) p.left b p.left_same s) p.among) }
  side_of a c b s (inr h) =
      let p = pair_of c a h in
      record { end = p.left; same_net = p.left_same; link = inr (subst (λ (x : NetId). Contains (assigned m) (Net p.left, Net x)) (one_new n m m_ok (id_of a) p.right b p.right_same s) p.among) }

  end_of : (over : List ℕ) (a c : ℕ) (b : NetId) → IsSameNet n m (id_of a) b → IsChain (AreSides n) a over c → HasEnd (AreJoined m) b c
  end_of [] a c b s chain =
      record { end = b; same_net = subst (λ (k : ℕ). IsSameNet n m (id_of k) b) chain s; link = link-same (AreSides m) b.0 b.0 refl }
  end_of (k ∷ ks) a c b s chain =
      let next = side_of a k b s chain.0 in
      let rest = end_of ks k c next.end next.same_net chain.1 in
      record { end = rest.end; same_net = rest.same_net; link = link-then (AreSides m) b.0 next.end.0 rest.end.0 (link-one (AreSides m) b.0 next.end.0 next.link) rest.link }

  pub joined_there : (a c b d : NetId) → IsSameNet n m a b → IsSameNet n m c d → AreJoined n a.0 c.0 → AreJoined m b.0 d.0
  joined_there a c b d s t joined =
      let e = end_of joined.over a.0 c.0 b s joined.chain in
      subst (λ (x : NetId). AreJoined m b.0 x.0) (one_new n m m_ok c e.end d e.same_net t) e.link
