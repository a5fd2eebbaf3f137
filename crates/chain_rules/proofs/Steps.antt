-- When a plan is legal after one or two of its chains got other units.
use Rattle.std.proofs.Common.{◌≡◌, ◌≢◌, ℕ, ◌-◌, ◌<◌, IsTrue, nat_eq, List, [], ◌∷◌, length, get_or, Option, Some, None, slice_get, option_map, All, Contains, refl, sym, ◌∙◌, subst, arith, zero, suc, ⊎_elim}
use Rattle.std.specs.List.{concat, list_any}
use Rattle.std.specs.Option.{option_and_then}
use Rattle.std.specs.List.Sorted.{IsPermutation}
use Rattle.std.proofs.lemmas.List.{get_or-set_same, get_or-set_other}
use Rattle.std.proofs.lemmas.List.Elements.{All-contains}
use Rattle.std.proofs.lemmas.List.Quantifiers.{position-Some}
use Rattle.std.proofs.lemmas.List.Sorted.{IsPermutation-trans, sum_by-IsPermutation, length_permutation, All-permutation as all_in_order}
use Rattle.std.proofs.lemmas.Bool.{cases_eq}
use Rattle.chain_rules.specs.declared.plan.Plan.{Plan}
use Rattle.chain_rules.specs.declared.unit.ChainRule.{ChainRule}
use Rattle.chain_rules.specs.declared.unit.Rules.{Rules}
use Rattle.chain_rules.specs.Legality.{chain_at, rule_at, unit_at, last_of, read_chain_of, partition_of, with_chain, IsLegal, IsLegalChain}
use Rattle.chain_rules.specs.Pins.{KeepsPin}
use Rattle.chain_rules.proofs.Members.{contains_from_any}
use Rattle.chain_rules.proofs.Distinct.{distinct_from_permutation, only_chain}

pub with_chain_same : (plan : Plan) (c : ℕ) (us : List ℕ) → c < length plan.chains → chain_at (with_chain plan c us) c ≡ us
with_chain_same plan c us h = get_or-set_same plan.chains c us [] h

pub with_chain_other : (plan : Plan) (c d : ℕ) (us : List ℕ) → d ≢ c → chain_at (with_chain plan c us) d ≡ chain_at plan d
with_chain_other plan c d us h = get_or-set_other plan.chains c d us [] h

-- the last unit is one of the chain
contains_got : (us : List ℕ) (k x : ℕ) → slice_get us k ≡ Some x → Contains us x
contains_got [] k x e = cc
contains_got (u ∷ us) zero x e = (zero, omega arith, cc)
contains_got (u ∷ us) (suc k) x e = let m = contains_got us k x e in (suc m.0, omega arith, m.2)

-- a unit with a partition stands in a read chain that has a rule
chain_with_rule : (o : Option ℕ) (rules : List ChainRule) (p : ℕ) → option_and_then (λ c. option_map (λ r. r.partition) (slice_get rules c)) o ≡ Some p → (i : ℕ) × (o ≡ Some i) × (i < length rules)
chain_with_rule None rules p e = cc
chain_with_rule (Some i) rules p e = (i, refl, got_below rules i p e)
  where
    got_below : (rules : List ChainRule) (i p : ℕ) → option_map (λ r. r.partition) (slice_get rules i) ≡ Some p → i < length rules
    got_below [] i p e = cc
    got_below (r ∷ rs) zero p e = omega arith
    got_below (r ∷ rs) (suc i) p e = let h = got_below rs i p e in omega arith

-- a pinned unit of a legal plan is one of the read units of its chain
read_with_pinned : (rules : Rules) (plan : Plan) → IsLegal rules plan → (c x : ℕ) → c < length plan.chains → Contains (chain_at plan c) x → IsTrue (unit_at rules x).pinned → Contains (chain_at rules.read c) x
read_with_pinned rules plan legal c x within m pinned =
    let own = All-contains (λ u. partition_of rules u ≡ Some (rule_at rules c).partition) (chain_at plan c) x (legal.own_partition c within) m in
    let home = chain_with_rule (read_chain_of rules x) rules.chains (rule_at rules c).partition own in
    let found = position-Some (list_any (λ v. nat_eq v x)) rules.read.chains home.0 [] home.1 in
    let read = contains_from_any (chain_at rules.read home.0) x found.1 in
    let there : home.0 < length plan.chains = omega (arith, legal.chains) in
    let last = All-contains (λ u. IsTrue (unit_at rules u).pinned → last_of (chain_at plan home.0) ≡ Some u) (chain_at rules.read home.0) x (legal.pinned_last home.0 there) read pinned in
    let same = only_chain plan.chains x (distinct_from_permutation (length rules.units) (concat plan.chains) legal.once) home.0 c there within (contains_got (chain_at plan home.0) (length (chain_at plan home.0) - 1) x last) m in
    subst (λ (d : ℕ). Contains (chain_at rules.read d) x) same read

abbrev pub PinsAreLast : Rules → ℕ → Option ℕ → Type 0
PinsAreLast rules c last = All (λ u. IsTrue (unit_at rules u).pinned → last ≡ Some u) (chain_at rules.read c)

pub pins_from_last : (rules : Rules) (plan : Plan) → IsLegal rules plan → (c : ℕ) → c < length plan.chains → (last : Option ℕ) → KeepsPin rules (chain_at plan c) last → PinsAreLast rules c last
pins_from_last rules plan legal c within last keeps = λ k d h pinned. keeps (get_or (chain_at rules.read c) k d) (legal.pinned_last c within k d h pinned) pinned

pub last_from_pins : (rules : Rules) (plan : Plan) → IsLegal rules plan → (c : ℕ) → c < length plan.chains → (last : Option ℕ) → PinsAreLast rules c last → KeepsPin rules (chain_at plan c) last
last_from_pins rules plan legal c within last pins = λ x is_last pinned.
    let m = contains_got (chain_at plan c) (length (chain_at plan c) - 1) x is_last in
    All-contains (λ u. IsTrue (unit_at rules u).pinned → last ≡ Some u) (chain_at rules.read c) x pins (read_with_pinned rules plan legal c x within m pinned) pinned

-- the units of a chain in another order
pub shuffled_chain : (rules : Rules) (plan : Plan) → IsLegal rules plan → (c : ℕ) → c < length plan.chains → (us : List ℕ) → IsPermutation (chain_at plan c) us → KeepsPin rules (chain_at plan c) (last_of us) → IsLegalChain rules c us
shuffled_chain rules plan legal c within us p keeps =
    let bits = sum_by-IsPermutation (λ u. (unit_at rules u).bits) (chain_at plan c) us p in
    let long = length_permutation (chain_at plan c) us p in
    record {
      own_partition = all_in_order (λ u. partition_of rules u ≡ Some (rule_at rules c).partition) (chain_at plan c) us p (legal.own_partition c within);
      pinned_last = pins_from_last rules plan legal c within (last_of us) keeps;
      not_empty = let h = legal.not_empty c within in omega arith;
      keeps_bit = λ k. let h = legal.keeps_bit c within k in omega arith;
      bounded = let h = legal.bounded c within in omega arith;
    }

-- a plan of the same units, each of whose chains meets its rule
pub legal_with : (rules : Rules) (plan new : Plan) → IsLegal rules plan → length new.chains ≡ length plan.chains → IsPermutation (concat plan.chains) (concat new.chains) → ((c : ℕ) → c < length plan.chains → IsLegalChain rules c (chain_at new c)) → IsLegal rules new
legal_with rules plan new legal same p each =
    record {
      chains = same ∙ legal.chains;
      once = IsPermutation-trans _ _ _ legal.once p;
      own_partition = λ c h. (each c (omega arith)).own_partition;
      pinned_last = λ c h. (each c (omega arith)).pinned_last;
      not_empty = λ c h. (each c (omega arith)).not_empty;
      keeps_bit = λ c h. (each c (omega arith)).keeps_bit;
      bounded = λ c h. (each c (omega arith)).bounded;
    }

-- a fact of each chain after one chain got other units
pub each_with_one : (P : ℕ → List ℕ → Type 0) (plan : Plan) (c : ℕ) (us : List ℕ) → c < length plan.chains → P c us → ((d : ℕ) → d < length plan.chains → P d (chain_at plan d)) → (d : ℕ) → d < length plan.chains → P d (chain_at (with_chain plan c us) d)
each_with_one P plan c us h here others d within =
    ⊎_elim
    (λ (e : d ≡ c). subst (λ (x : ℕ). P x (chain_at (with_chain plan c us) x)) (sym e) (subst (λ (ws : List ℕ). P c ws) (sym (with_chain_same plan c us h)) here))
    (λ (e : d ≢ c). subst (λ (ws : List ℕ). P d ws) (sym (with_chain_other plan c d us e)) (others d within))
    (cases_eq d c)
