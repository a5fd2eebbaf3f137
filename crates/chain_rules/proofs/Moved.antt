-- The plan after a move: what it asks of one chain, or of two.
use Rattle.std.proofs.Common.{◌≡◌, ◌≢◌, ℕ, ◌<◌, ◌≤◌, Bool, IsTrue, List, ◌∷◌, length, get_or, set, take, drop, insert, remove, Some, Option, All, sym, ◌∙◌, ap, subst, arith, suc, slice_index_or}
use Rattle.std.specs.List.{concat}
use Rattle.std.specs.List.Sorted.{IsPermutation}
use Rattle.std.proofs.lemmas.List.{length-set, set-set, get_or_default}
use Rattle.std.proofs.lemmas.List.Elements.{All-append, All-take, All-drop, All-cons, All-get_or}
use Rattle.std.proofs.lemmas.List.Edits.{length-insert, length-remove, get_or-insert_at}
use Rattle.std.proofs.lemmas.List.Sums.{sum_by-remove, sum_by-insert}
use Rattle.std.proofs.lemmas.List.Sorted.{IsPermutation-trans, IsPermutation-remove, IsPermutation-insert}
use Rattle.chain_rules.specs.declared.plan.Plan.{Plan}
use Rattle.chain_rules.specs.declared.unit.ChainRule.{ChainRule}
use Rattle.chain_rules.specs.declared.unit.Rules.{Rules}
use Rattle.chain_rules.specs.declared.unit.Position.{Position}
use Rattle.chain_rules.specs.Legality.{chain_at, no_rule, rule_at, unit_at, bits_of, last_of, partition_of, with_chain, unit_in, IsIn, IsOpen, taken_out, moved_plan, IsLegal, IsLegalChain}
use Rattle.chain_rules.specs.Pins.{KeepsPin}
use Rattle.chain_rules.proofs.LegalParts.{chain_of_legal}
use Rattle.chain_rules.proofs.Concats.{permutation_of_chain, permutation_of_taken, permutation_of_put}
use Rattle.chain_rules.proofs.Steps.{with_chain_same, with_chain_other, pins_from_last, last_from_pins, shuffled_chain, legal_with, each_with_one}

-- One chain in another order

pub legal_shuffled : (rules : Rules) (plan : Plan) → IsLegal rules plan → (c : ℕ) → c < length plan.chains → (us : List ℕ) → IsPermutation (chain_at plan c) us → KeepsPin rules (chain_at plan c) (last_of us) → IsLegal rules (with_chain plan c us)
legal_shuffled rules plan legal c within us p keeps =
    legal_with rules plan (with_chain plan c us) legal (length-set plan.chains c us) (permutation_of_chain plan.chains c us within p)
    (each_with_one (IsLegalChain rules) plan c us within (shuffled_chain rules plan legal c within us p keeps) (chain_of_legal rules plan legal))

pub pin_of_shuffled : (rules : Rules) (plan : Plan) → IsLegal rules plan → (c : ℕ) → c < length plan.chains → (us : List ℕ) → IsLegal rules (with_chain plan c us) → KeepsPin rules (chain_at plan c) (last_of us)
pin_of_shuffled rules plan legal c within us new =
    let h : c < length (set plan.chains c us) = omega (arith, length-set plan.chains c us) in
    last_from_pins rules plan legal c within (last_of us)
    (subst (λ (ws : List ℕ). All (λ u. IsTrue (unit_at rules u).pinned → last_of ws ≡ Some u) (chain_at rules.read c)) (with_chain_same plan c us within) (new.pinned_last c h))

-- A move within a chain

pub moved_within : (plan : Plan) (from to : Position) → from.chain ≡ to.chain → IsIn plan from → moved_plan plan from to ≡ with_chain plan from.chain (insert (remove (chain_at plan from.chain) from.place) to.place (unit_in plan from))
moved_within plan from to e is_in =
    let c = from.chain in
    let rest = remove (chain_at plan from.chain) from.place in
    ap (λ (d : ℕ). with_chain (taken_out plan from) d (insert (chain_at (taken_out plan from) d) to.place (unit_in plan from))) (sym e)
    ∙ (ap (λ (ws : List ℕ). with_chain (taken_out plan from) from.chain (insert ws to.place (unit_in plan from))) (with_chain_same plan from.chain rest is_in.chain)
    ∙ ap planned_of (set-set plan.chains from.chain rest (insert rest to.place (unit_in plan from))))
  where
    planned_of : List (List ℕ) → Plan
    planned_of css = record { chains = css }

pub permutation_moved : (us : List ℕ) (k j : ℕ) → k < length us → IsPermutation us (insert (remove us k) j (get_or us k 0))
permutation_moved us k j h =
    IsPermutation-trans _ _ _ (IsPermutation-remove us k (get_or us k 0) h (get_or_default us k 0 (get_or us k 0) h)) (IsPermutation-insert (remove us k) j (get_or us k 0))

-- A move to another chain

abbrev pub CanLose : Rules → Bool → List ℕ → ℕ → Type 0
CanLose rules keeps_bit us k =
    (0 < length (remove us k)) × (IsTrue keeps_bit → 0 < bits_of rules (remove us k)) × KeepsPin rules us (last_of (remove us k))

abbrev pub CanGain : Rules → ℕ → List ℕ → ℕ → ℕ → Type 0
CanGain rules bound us k u = (bits_of rules (insert us k u) ≤ bound) × KeepsPin rules us (last_of (insert us k u))

All-remove : (P : ℕ → Type 0) (us : List ℕ) (k : ℕ) → All P us → All P (remove us k)
All-remove P us k all = All-append P (take k us) (drop (suc k) us) (All-take P k us all) (All-drop P (suc k) us all)

All-insert : (P : ℕ → Type 0) (us : List ℕ) (k u : ℕ) → All P us → P u → All P (insert us k u)
All-insert P us k u all here = All-append P (take k us) (u ∷ drop k us) (All-take P k us all) (All-cons P u (drop k us) here (All-drop P k us all))

losing_chain : (rules : Rules) (plan : Plan) → IsLegal rules plan → (c k : ℕ) → c < length plan.chains → k < length (chain_at plan c) → CanLose rules (rule_at rules c).keeps_bit (chain_at plan c) k → IsLegalChain rules c (remove (chain_at plan c) k)
losing_chain rules plan legal c k within below can =
    record {
      own_partition = All-remove (λ u. partition_of rules u ≡ Some (rule_at rules c).partition) (chain_at plan c) k (legal.own_partition c within);
      pinned_last = pins_from_last rules plan legal c within (last_of (remove (chain_at plan c) k)) can.2;
      not_empty = can.0;
      keeps_bit = can.1;
      bounded = let h = legal.bounded c within in let e = sum_by-remove (λ u. (unit_at rules u).bits) (chain_at plan c) k 0 below in omega arith;
    }

gaining_chain : (rules : Rules) (plan : Plan) → IsLegal rules plan → (c k u : ℕ) → c < length plan.chains → k ≤ length (chain_at plan c) → partition_of rules u ≡ Some (rule_at rules c).partition → CanGain rules (rule_at rules c).bound (chain_at plan c) k u → IsLegalChain rules c (insert (chain_at plan c) k u)
gaining_chain rules plan legal c k u within below own can =
    let e = sum_by-insert (λ v. (unit_at rules v).bits) (chain_at plan c) k u in
    record {
      own_partition = All-insert (λ v. partition_of rules v ≡ Some (rule_at rules c).partition) (chain_at plan c) k u (legal.own_partition c within) own;
      pinned_last = pins_from_last rules plan legal c within (last_of (insert (chain_at plan c) k u)) can.1;
      not_empty = omega (arith, length-insert (chain_at plan c) k u below);
      keeps_bit = λ b. let h = legal.keeps_bit c within b in omega arith;
      bounded = can.0;
    }

-- the partition of a unit that stands in a chain of a legal plan
pub partition_in : (rules : Rules) (plan : Plan) → IsLegal rules plan → (at : Position) → IsIn plan at → partition_of rules (unit_in plan at) ≡ Some (rule_at rules at.chain).partition
partition_in rules plan legal at is_in =
    All-get_or (λ u. partition_of rules u ≡ Some (rule_at rules at.chain).partition) (chain_at plan at.chain) at.place 0 is_in.place (legal.own_partition at.chain is_in.chain)

-- the chains of the plan after the move
pub moved_source : (plan : Plan) (from to : Position) → from.chain ≢ to.chain → IsIn plan from → chain_at (moved_plan plan from to) from.chain ≡ remove (chain_at plan from.chain) from.place
moved_source plan from to differ is_in =
    with_chain_other (taken_out plan from) to.chain from.chain (insert (chain_at (taken_out plan from) to.chain) to.place (unit_in plan from)) differ
    ∙ with_chain_same plan from.chain (remove (chain_at plan from.chain) from.place) is_in.chain

pub moved_target : (plan : Plan) (from to : Position) → from.chain ≢ to.chain → to.chain < length plan.chains → chain_at (moved_plan plan from to) to.chain ≡ insert (chain_at plan to.chain) to.place (unit_in plan from)
moved_target plan from to differ within =
    let rest = remove (chain_at plan from.chain) from.place in
    with_chain_same (taken_out plan from) to.chain (insert (chain_at (taken_out plan from) to.chain) to.place (unit_in plan from)) (omega (arith, length-set plan.chains from.chain rest))
    ∙ ap (λ (ws : List ℕ). insert ws to.place (unit_in plan from)) (with_chain_other plan from.chain to.chain rest (λ e. differ (sym e)))

pub permutation_of_move : (plan : Plan) (from to : Position) → IsIn plan from → to.chain < length plan.chains → IsPermutation (concat plan.chains) (concat (moved_plan plan from to).chains)
permutation_of_move plan from to is_in within =
    let u = unit_in plan from in
    let rest = remove (chain_at plan from.chain) from.place in
    IsPermutation-trans _ _ _ (permutation_of_taken plan.chains from.chain from.place (unit_in plan from) is_in.chain is_in.place (get_or_default (chain_at plan from.chain) from.place 0 (unit_in plan from) is_in.place))
    (permutation_of_put (set plan.chains from.chain rest) to.chain to.place (unit_in plan from) (omega (arith, length-set plan.chains from.chain rest)))

pub legal_across : (rules : Rules) (plan : Plan) → IsLegal rules plan → (from to : Position) → IsIn plan from → to.chain < length plan.chains → to.place ≤ length (chain_at plan to.chain) → from.chain ≢ to.chain → (rule_at rules from.chain).partition ≡ (rule_at rules to.chain).partition → CanLose rules (rule_at rules from.chain).keeps_bit (chain_at plan from.chain) from.place → CanGain rules (rule_at rules to.chain).bound (chain_at plan to.chain) to.place (unit_in plan from) → IsLegal rules (moved_plan plan from to)
legal_across rules plan legal from to is_in within room differ same lose gain =
    let rest = remove (chain_at plan from.chain) from.place in
    let long = length-set plan.chains from.chain rest in
    let there : to.chain < length (set plan.chains from.chain rest) = omega arith in
    let u = unit_in plan from in
    let own : partition_of rules (unit_in plan from) ≡ Some (rule_at rules to.chain).partition = partition_in rules plan legal from is_in ∙ ap (λ (p : ℕ). Some p) same in
    let target = with_chain_other plan from.chain to.chain rest (λ e. differ (sym e)) in
    let gained = gaining_chain rules plan legal to.chain to.place (unit_in plan from) within room own gain in
    legal_with rules plan (moved_plan plan from to) legal
    (length-set (set plan.chains from.chain rest) to.chain (insert (chain_at (taken_out plan from) to.chain) to.place (unit_in plan from)) ∙ long)
    (permutation_of_move plan from to is_in within)
    (λ c h. each_with_one (IsLegalChain rules) (taken_out plan from) to.chain (insert (chain_at (taken_out plan from) to.chain) to.place (unit_in plan from)) there
    (subst (λ (ws : List ℕ). IsLegalChain rules to.chain (insert ws to.place (unit_in plan from))) (sym target) gained)
    (λ d k. each_with_one (IsLegalChain rules) plan from.chain rest is_in.chain (losing_chain rules plan legal from.chain from.place is_in.chain is_in.place lose) (chain_of_legal rules plan legal) d (omega arith))
    c (omega arith))

pub record AllowsMove (rules : Rules) (plan : Plan) (from to : Position) : Type 0 where
  pub same : (rule_at rules from.chain).partition ≡ (rule_at rules to.chain).partition
  pub lose : CanLose rules (rule_at rules from.chain).keeps_bit (chain_at plan from.chain) from.place
  pub gain : CanGain rules (rule_at rules to.chain).bound (chain_at plan to.chain) to.place (unit_in plan from)

pub allowed_across : (rules : Rules) (plan : Plan) → IsLegal rules plan → (from to : Position) → IsIn plan from → to.chain < length plan.chains → to.place ≤ length (chain_at plan to.chain) → from.chain ≢ to.chain → IsLegal rules (moved_plan plan from to) → AllowsMove rules plan from to
allowed_across rules plan legal from to is_in within room differ new =
    let rest = remove (chain_at plan from.chain) from.place in
    let with_unit = insert (chain_at plan to.chain) to.place (unit_in plan from) in
    let long : length (moved_plan plan from to).chains ≡ length plan.chains = length-set (set plan.chains from.chain rest) to.chain (insert (chain_at (taken_out plan from) to.chain) to.place (unit_in plan from)) ∙ length-set plan.chains from.chain rest in
    let source = subst (λ (ws : List ℕ). IsLegalChain rules from.chain ws) (moved_source plan from to differ is_in) (chain_of_legal rules (moved_plan plan from to) new from.chain (let h = is_in.chain in omega arith)) in
    let target = subst (λ (ws : List ℕ). IsLegalChain rules to.chain ws) (moved_target plan from to differ within) (chain_of_legal rules (moved_plan plan from to) new to.chain (omega arith)) in
    let long_with = length-insert (chain_at plan to.chain) to.place (unit_in plan from) room in
    let here = All-get_or (λ u. partition_of rules u ≡ Some (rule_at rules to.chain).partition) (insert (chain_at plan to.chain) to.place (unit_in plan from)) to.place 0 (omega arith) target.own_partition in
    let at = get_or-insert_at (chain_at plan to.chain) to.place (unit_in plan from) 0 room in
    let own = partition_in rules plan legal from is_in in
    let moved : partition_of rules (unit_in plan from) ≡ Some (rule_at rules to.chain).partition = subst (λ (u : ℕ). partition_of rules u ≡ Some (rule_at rules to.chain).partition) at here in
    record {
      same = some_same (rule_at rules from.chain).partition (rule_at rules to.chain).partition (sym own ∙ moved);
      lose = (source.not_empty, source.keeps_bit, last_from_pins rules plan legal from.chain is_in.chain (last_of (remove (chain_at plan from.chain) from.place)) source.pinned_last);
      gain = (target.bounded, last_from_pins rules plan legal to.chain within (last_of (insert (chain_at plan to.chain) to.place (unit_in plan from))) target.pinned_last);
    }
  where
    some_same : (p q : ℕ) → Some p ≡ Some q → p ≡ q
    some_same p q e = cc

-- The same, in the words of `can_move`

pub within_to : (rules : Rules) (plan : Plan) → IsLegal rules plan → (from to : Position) → IsIn plan from → from.chain ≡ to.chain → (us : List ℕ) → us ≡ chain_at plan from.chain → (last : Option ℕ) → last ≡ last_of (insert (remove us from.place) to.place (slice_index_or us from.place 0)) → KeepsPin rules us last → IsLegal rules (moved_plan plan from to)
within_to rules plan legal from to is_in e us is last ends keeps =
    let here = subst (λ (ws : List ℕ). KeepsPin rules ws (last_of (insert (remove ws from.place) to.place (slice_index_or ws from.place 0)))) is (subst (λ (l : Option ℕ). KeepsPin rules us l) ends keeps) in
    subst (λ (p : Plan). IsLegal rules p) (sym (moved_within plan from to e is_in))
    (legal_shuffled rules plan legal from.chain is_in.chain (insert (remove (chain_at plan from.chain) from.place) to.place (unit_in plan from)) (permutation_moved (chain_at plan from.chain) from.place to.place is_in.place) here)

pub within_from : (rules : Rules) (plan : Plan) → IsLegal rules plan → (from to : Position) → IsIn plan from → from.chain ≡ to.chain → (us : List ℕ) → us ≡ chain_at plan from.chain → (last : Option ℕ) → last ≡ last_of (insert (remove us from.place) to.place (slice_index_or us from.place 0)) → IsLegal rules (moved_plan plan from to) → KeepsPin rules us last
within_from rules plan legal from to is_in e us is last ends new =
    let keeps = pin_of_shuffled rules plan legal from.chain is_in.chain (insert (remove (chain_at plan from.chain) from.place) to.place (unit_in plan from)) (subst (λ (p : Plan). IsLegal rules p) (moved_within plan from to e is_in) new) in
    subst (λ (l : Option ℕ). KeepsPin rules us l) (sym ends) (subst (λ (ws : List ℕ). KeepsPin rules ws (last_of (insert (remove ws from.place) to.place (slice_index_or ws from.place 0)))) (sym is) keeps)

pub room_within : (plan : Plan) (from to : Position) → IsIn plan from → from.chain ≡ to.chain → IsOpen (taken_out plan from) to → to.place < length (chain_at plan from.chain)
room_within plan from to is_in e room =
    let rest = remove (chain_at plan from.chain) from.place in
    let there = subst (λ (d : ℕ). to.place ≤ length (chain_at (taken_out plan from) d)) (sym e) room.place in
    let same = ap length (with_chain_same plan from.chain rest is_in.chain) in
    omega (arith, length-remove (chain_at plan from.chain) from.place is_in.place)

pub room_across : (plan : Plan) (from to : Position) → from.chain ≢ to.chain → IsOpen (taken_out plan from) to → IsOpen plan to
room_across plan from to differ room =
    let rest = remove (chain_at plan from.chain) from.place in
    let same = ap length (with_chain_other plan from.chain to.chain rest (λ e. differ (sym e))) in
    let h = room.chain in
    let k = room.place in
    record { chain = omega (arith, length-set plan.chains from.chain rest); place = omega arith }

pub lose_at : (rules : Rules) (b c : Bool) (us vs : List ℕ) (k : ℕ) → b ≡ c → us ≡ vs → CanLose rules b us k → CanLose rules c vs k
lose_at rules b c us vs k e f can = subst (λ (d : Bool). CanLose rules d vs k) e (subst (λ (ws : List ℕ). CanLose rules b ws k) f can)

pub gain_at : (rules : Rules) (m n : ℕ) (us vs : List ℕ) (k u v : ℕ) → m ≡ n → us ≡ vs → u ≡ v → CanGain rules m us k u → CanGain rules n vs k v
gain_at rules m n us vs k u v e f g can =
    subst (λ (o : ℕ). CanGain rules o vs k v) e (subst (λ (ws : List ℕ). CanGain rules m ws k v) f (subst (λ (w : ℕ). CanGain rules m us k w) g can))

-- a number of a rule that was read from the list of rules
pub rule_part : {A : Type 0} (part : ChainRule → A) (rs : List ChainRule) (rules : Rules) (c : ℕ) → rs ≡ rules.chains → part (slice_index_or rs c no_rule) ≡ part (rule_at rules c)
rule_part part rs rules c e = ap (λ (qs : List ChainRule). part (slice_index_or qs c no_rule)) e
