-- The plan after a swap: what it asks of one chain, or of two.
use Rattle.std.proofs.Common.{◌≡◌, ◌≢◌, ℕ, ◌+◌, ◌<◌, ◌≤◌, Bool, IsTrue, List, length, get_or, set, Some, Option, sym, ◌∙◌, ap, subst, arith, ⊎_elim}
use Rattle.std.specs.List.{concat}
use Rattle.std.specs.List.Sorted.{IsPermutation}
use Rattle.std.proofs.lemmas.List.{length-set, set-set, get_or-set_same}
use Rattle.std.proofs.lemmas.List.Elements.{All-set, All-get_or}
use Rattle.std.proofs.lemmas.List.Edits.{swap_is}
use Rattle.std.proofs.lemmas.List.Sorted.{IsPermutation-swap}
use Rattle.std.proofs.lemmas.Bool.{cases_eq}
use Rattle.chain_rules.specs.declared.plan.Plan.{Plan}
use Rattle.chain_rules.specs.declared.unit.Rules.{Rules}
use Rattle.chain_rules.specs.declared.unit.Position.{Position}
use Rattle.chain_rules.specs.Legality.{chain_at, rule_at, bits_of, last_of, partition_of, with_chain, unit_in, IsIn, replaced, swapped_plan, IsLegal, IsLegalChain}
use Rattle.chain_rules.specs.Pins.{KeepsPin}
use Rattle.chain_rules.proofs.LegalParts.{chain_of_legal}
use Rattle.chain_rules.proofs.Concats.{flat, flat-below, set-flat, get_or-flat, length-before_set}
use Rattle.chain_rules.proofs.Steps.{with_chain_same, with_chain_other, pins_from_last, last_from_pins, legal_with, each_with_one}
use Rattle.chain_rules.proofs.Moved.{partition_in, legal_shuffled, pin_of_shuffled}

-- A swap within a chain

pub swapped_within : (plan : Plan) (a b : Position) → a.chain ≡ b.chain → IsIn plan a → swapped_plan plan a b ≡ with_chain plan a.chain (set (set (chain_at plan a.chain) a.place (unit_in plan b)) b.place (unit_in plan a))
swapped_within plan a b e is_in =
    let first = set (chain_at plan a.chain) a.place (unit_in plan b) in
    ap (λ (d : ℕ). with_chain (replaced plan a (unit_in plan b)) d (set (chain_at (replaced plan a (unit_in plan b)) d) b.place (unit_in plan a))) (sym e)
    ∙ (ap (λ (ws : List ℕ). with_chain (replaced plan a (unit_in plan b)) a.chain (set ws b.place (unit_in plan a))) (with_chain_same plan a.chain first is_in.chain)
    ∙ ap planned_of (set-set plan.chains a.chain first (set first b.place (unit_in plan a))))
  where
    planned_of : List (List ℕ) → Plan
    planned_of css = record { chains = css }

pub permutation_swapped : (us : List ℕ) (k j : ℕ) → k < length us → j < length us → IsPermutation us (set (set us k (get_or us j 0)) j (get_or us k 0))
permutation_swapped us k j h i = IsPermutation-swap us (set (set us k (get_or us j 0)) j (get_or us k 0)) k j h i (swap_is us k j 0 h i)

-- A swap between two chains

abbrev pub CanReplace : Rules → Bool → ℕ → List ℕ → ℕ → ℕ → Type 0
CanReplace rules keeps_bit bound us k u =
    (IsTrue keeps_bit → 0 < bits_of rules (set us k u)) × (bits_of rules (set us k u) ≤ bound) × KeepsPin rules us (last_of (set us k u))

replacing_chain : (rules : Rules) (plan : Plan) → IsLegal rules plan → (c k u : ℕ) → c < length plan.chains → partition_of rules u ≡ Some (rule_at rules c).partition → CanReplace rules (rule_at rules c).keeps_bit (rule_at rules c).bound (chain_at plan c) k u → IsLegalChain rules c (set (chain_at plan c) k u)
replacing_chain rules plan legal c k u within own can =
    record {
      own_partition = All-set (λ v. partition_of rules v ≡ Some (rule_at rules c).partition) (chain_at plan c) k u own (legal.own_partition c within);
      pinned_last = pins_from_last rules plan legal c within (last_of (set (chain_at plan c) k u)) can.2;
      not_empty = let h = legal.not_empty c within in omega (arith, length-set (chain_at plan c) k u);
      keeps_bit = can.0;
      bounded = can.1;
    }

-- a position of the plan is one after another position got another unit
in_replaced : (plan : Plan) (a b : Position) (u : ℕ) → IsIn plan a → IsIn plan b → IsIn (replaced plan a u) b
in_replaced plan a b u in_a in_b =
    record {
      chain = let h = in_b.chain in omega (arith, length-set plan.chains a.chain (set (chain_at plan a.chain) a.place u));
      place = ⊎_elim
          (λ (e : b.chain ≡ a.chain). subst (λ (d : ℕ). b.place < length (chain_at (replaced plan a u) d)) (sym e)
          (let h : b.place < length (chain_at plan a.chain) = subst (λ (d : ℕ). b.place < length (chain_at plan d)) e in_b.place in
          let same = ap length (with_chain_same plan a.chain (set (chain_at plan a.chain) a.place u) in_a.chain) in
          omega (arith, length-set (chain_at plan a.chain) a.place u)))
          (λ (e : b.chain ≢ a.chain). let h = in_b.place in let same = ap length (with_chain_other plan a.chain b.chain (set (chain_at plan a.chain) a.place u) e) in omega arith)
          (cases_eq b.chain a.chain);
    }

pub permutation_of_swap : (plan : Plan) (a b : Position) → IsIn plan a → IsIn plan b → IsPermutation (concat plan.chains) (concat (swapped_plan plan a b).chains)
permutation_of_swap plan a b in_a in_b =
    let all = concat plan.chains in
    let i = flat plan.chains a.chain a.place in
    let j = flat plan.chains b.chain b.place in
    let one = replaced plan a (unit_in plan b) in
    let here = in_replaced plan a b (unit_in plan b) in_a in_b in
    let first = set-flat plan.chains a.chain a.place (unit_in plan b) in_a.chain in_a.place in
    let second = set-flat (replaced plan a (unit_in plan b)).chains b.chain b.place (unit_in plan a) here.chain here.place in
    let same_place : flat (replaced plan a (unit_in plan b)).chains b.chain b.place ≡ flat plan.chains b.chain b.place =
    ap (λ (n : ℕ). n + b.place) (length-before_set plan.chains a.chain b.chain (set (chain_at plan a.chain) a.place (unit_in plan b)) (length-set (chain_at plan a.chain) a.place (unit_in plan b))) in
    let u = get_or-flat plan.chains a.chain a.place 0 in_a.chain in_a.place in
    let v = get_or-flat plan.chains b.chain b.place 0 in_b.chain in_b.place in
    let h = flat-below plan.chains a.chain a.place in_a.chain in_a.place in
    let k = flat-below plan.chains b.chain b.place in_b.chain in_b.place in
    IsPermutation-swap (concat plan.chains) (concat (swapped_plan plan a b).chains) (flat plan.chains a.chain a.place) (flat plan.chains b.chain b.place) h k
    (second
    ∙ (ap (λ (xs : List ℕ). set xs (flat (replaced plan a (unit_in plan b)).chains b.chain b.place) (unit_in plan a)) first
    ∙ (ap (λ (n : ℕ). set (set (concat plan.chains) (flat plan.chains a.chain a.place) (unit_in plan b)) n (unit_in plan a)) same_place
    ∙ (ap (λ (x : ℕ). set (set (concat plan.chains) (flat plan.chains a.chain a.place) x) (flat plan.chains b.chain b.place) (unit_in plan a)) (sym v)
    ∙ (ap (λ (x : ℕ). set (set (concat plan.chains) (flat plan.chains a.chain a.place) (get_or (concat plan.chains) (flat plan.chains b.chain b.place) 0)) (flat plan.chains b.chain b.place) x) (sym u)
    ∙ swap_is (concat plan.chains) (flat plan.chains a.chain a.place) (flat plan.chains b.chain b.place) 0 h k)))))

-- the chains of the plan after the swap
pub swapped_first : (plan : Plan) (a b : Position) → a.chain ≢ b.chain → IsIn plan a → chain_at (swapped_plan plan a b) a.chain ≡ set (chain_at plan a.chain) a.place (unit_in plan b)
swapped_first plan a b differ is_in =
    with_chain_other (replaced plan a (unit_in plan b)) b.chain a.chain (set (chain_at (replaced plan a (unit_in plan b)) b.chain) b.place (unit_in plan a)) differ
    ∙ with_chain_same plan a.chain (set (chain_at plan a.chain) a.place (unit_in plan b)) is_in.chain

pub swapped_second : (plan : Plan) (a b : Position) → a.chain ≢ b.chain → IsIn plan b → chain_at (swapped_plan plan a b) b.chain ≡ set (chain_at plan b.chain) b.place (unit_in plan a)
swapped_second plan a b differ is_in =
    let first = set (chain_at plan a.chain) a.place (unit_in plan b) in
    let h = is_in.chain in
    with_chain_same (replaced plan a (unit_in plan b)) b.chain (set (chain_at (replaced plan a (unit_in plan b)) b.chain) b.place (unit_in plan a)) (omega (arith, length-set plan.chains a.chain first))
    ∙ ap (λ (ws : List ℕ). set ws b.place (unit_in plan a)) (with_chain_other plan a.chain b.chain first (λ e. differ (sym e)))

pub record AllowsSwap (rules : Rules) (plan : Plan) (a b : Position) : Type 0 where
  pub same : (rule_at rules a.chain).partition ≡ (rule_at rules b.chain).partition
  pub first : CanReplace rules (rule_at rules a.chain).keeps_bit (rule_at rules a.chain).bound (chain_at plan a.chain) a.place (unit_in plan b)
  pub second : CanReplace rules (rule_at rules b.chain).keeps_bit (rule_at rules b.chain).bound (chain_at plan b.chain) b.place (unit_in plan a)

pub legal_swapped : (rules : Rules) (plan : Plan) → IsLegal rules plan → (a b : Position) → IsIn plan a → IsIn plan b → a.chain ≢ b.chain → AllowsSwap rules plan a b → IsLegal rules (swapped_plan plan a b)
legal_swapped rules plan legal a b in_a in_b differ allows =
    let first = set (chain_at plan a.chain) a.place (unit_in plan b) in
    let one = replaced plan a (unit_in plan b) in
    let long = length-set plan.chains a.chain first in
    let other = with_chain_other plan a.chain b.chain first (λ e. differ (sym e)) in
    let own_b : partition_of rules (unit_in plan b) ≡ Some (rule_at rules a.chain).partition = partition_in rules plan legal b in_b ∙ ap (λ (p : ℕ). Some p) (sym allows.same) in
    let own_a : partition_of rules (unit_in plan a) ≡ Some (rule_at rules b.chain).partition = partition_in rules plan legal a in_a ∙ ap (λ (p : ℕ). Some p) allows.same in
    let there : b.chain < length (set plan.chains a.chain first) = let h = in_b.chain in omega arith in
    legal_with rules plan (swapped_plan plan a b) legal
    (length-set (set plan.chains a.chain first) b.chain (set (chain_at (replaced plan a (unit_in plan b)) b.chain) b.place (unit_in plan a)) ∙ long)
    (permutation_of_swap plan a b in_a in_b)
    (λ c h. each_with_one (IsLegalChain rules) (replaced plan a (unit_in plan b)) b.chain (set (chain_at (replaced plan a (unit_in plan b)) b.chain) b.place (unit_in plan a)) there
    (subst (λ (ws : List ℕ). IsLegalChain rules b.chain (set ws b.place (unit_in plan a))) (sym other) (replacing_chain rules plan legal b.chain b.place (unit_in plan a) in_b.chain own_a allows.second))
    (λ d k. each_with_one (IsLegalChain rules) plan a.chain first in_a.chain (replacing_chain rules plan legal a.chain a.place (unit_in plan b) in_a.chain own_b allows.first) (chain_of_legal rules plan legal) d (omega arith))
    c (omega arith))

some_same : (p q : ℕ) → Some p ≡ Some q → p ≡ q
some_same p q e = cc

pub allowed_swap : (rules : Rules) (plan : Plan) → IsLegal rules plan → (a b : Position) → IsIn plan a → IsIn plan b → a.chain ≢ b.chain → IsLegal rules (swapped_plan plan a b) → AllowsSwap rules plan a b
allowed_swap rules plan legal a b in_a in_b differ new =
    let first = set (chain_at plan a.chain) a.place (unit_in plan b) in
    let long : length (swapped_plan plan a b).chains ≡ length plan.chains = length-set (set plan.chains a.chain first) b.chain (set (chain_at (replaced plan a (unit_in plan b)) b.chain) b.place (unit_in plan a)) ∙ length-set plan.chains a.chain first in
    let h = in_a.chain in
    let k = in_b.chain in
    let one = subst (λ (ws : List ℕ). IsLegalChain rules a.chain ws) (swapped_first plan a b differ in_a) (chain_of_legal rules (swapped_plan plan a b) new a.chain (omega arith)) in
    let two = subst (λ (ws : List ℕ). IsLegalChain rules b.chain ws) (swapped_second plan a b differ in_b) (chain_of_legal rules (swapped_plan plan a b) new b.chain (omega arith)) in
    let place = in_a.place in
    let within : a.place < length (set (chain_at plan a.chain) a.place (unit_in plan b)) = omega (arith, length-set (chain_at plan a.chain) a.place (unit_in plan b)) in
    let here = All-get_or (λ u. partition_of rules u ≡ Some (rule_at rules a.chain).partition) (set (chain_at plan a.chain) a.place (unit_in plan b)) a.place 0 within one.own_partition in
    let moved = subst (λ (u : ℕ). partition_of rules u ≡ Some (rule_at rules a.chain).partition) (get_or-set_same (chain_at plan a.chain) a.place (unit_in plan b) 0 in_a.place) here in
    record {
      same = some_same (rule_at rules a.chain).partition (rule_at rules b.chain).partition (sym moved ∙ partition_in rules plan legal b in_b);
      first = (one.keeps_bit, one.bounded, last_from_pins rules plan legal a.chain in_a.chain (last_of (set (chain_at plan a.chain) a.place (unit_in plan b))) one.pinned_last);
      second = (two.keeps_bit, two.bounded, last_from_pins rules plan legal b.chain in_b.chain (last_of (set (chain_at plan b.chain) b.place (unit_in plan a))) two.pinned_last);
    }

-- The same, in the words of `can_swap`

pub swapped_to : (rules : Rules) (plan : Plan) → IsLegal rules plan → (a b : Position) → IsIn plan a → IsIn plan b → a.chain ≡ b.chain → (us : List ℕ) → us ≡ chain_at plan a.chain → (last : Option ℕ) → last ≡ last_of (set (set us a.place (get_or us b.place 0)) b.place (get_or us a.place 0)) → KeepsPin rules us last → IsLegal rules (swapped_plan plan a b)
swapped_to rules plan legal a b in_a in_b e us is last ends keeps =
    let ws = chain_at plan a.chain in
    let other = ap (λ (d : ℕ). get_or (chain_at plan d) b.place 0) e in
    let here = subst (λ (vs : List ℕ). KeepsPin rules vs (last_of (set (set vs a.place (get_or vs b.place 0)) b.place (get_or vs a.place 0)))) is (subst (λ (l : Option ℕ). KeepsPin rules us l) ends keeps) in
    let new = set (set (chain_at plan a.chain) a.place (get_or (chain_at plan a.chain) b.place 0)) b.place (unit_in plan a) in
    let within : b.place < length (chain_at plan a.chain) = subst (λ (d : ℕ). b.place < length (chain_at plan d)) (sym e) in_b.place in
    subst (λ (p : Plan). IsLegal rules p) (sym (swapped_within plan a b e in_a))
    (subst (λ (v : ℕ). IsLegal rules (with_chain plan a.chain (set (set (chain_at plan a.chain) a.place v) b.place (unit_in plan a)))) other
    (legal_shuffled rules plan legal a.chain in_a.chain (set (set (chain_at plan a.chain) a.place (get_or (chain_at plan a.chain) b.place 0)) b.place (unit_in plan a)) (permutation_swapped (chain_at plan a.chain) a.place b.place in_a.place within) here))

pub swapped_from : (rules : Rules) (plan : Plan) → IsLegal rules plan → (a b : Position) → IsIn plan a → IsIn plan b → a.chain ≡ b.chain → (us : List ℕ) → us ≡ chain_at plan a.chain → (last : Option ℕ) → last ≡ last_of (set (set us a.place (get_or us b.place 0)) b.place (get_or us a.place 0)) → IsLegal rules (swapped_plan plan a b) → KeepsPin rules us last
swapped_from rules plan legal a b in_a in_b e us is last ends legal_new =
    let other = ap (λ (d : ℕ). get_or (chain_at plan d) b.place 0) e in
    let new = subst (λ (v : ℕ). IsLegal rules (with_chain plan a.chain (set (set (chain_at plan a.chain) a.place v) b.place (unit_in plan a)))) (sym other) (subst (λ (p : Plan). IsLegal rules p) (swapped_within plan a b e in_a) legal_new) in
    let keeps = pin_of_shuffled rules plan legal a.chain in_a.chain (set (set (chain_at plan a.chain) a.place (get_or (chain_at plan a.chain) b.place 0)) b.place (unit_in plan a)) new in
    subst (λ (l : Option ℕ). KeepsPin rules us l) (sym ends) (subst (λ (vs : List ℕ). KeepsPin rules vs (last_of (set (set vs a.place (get_or vs b.place 0)) b.place (get_or vs a.place 0)))) (sym is) keeps)

pub place_within : (plan : Plan) (a b : Position) → a.chain ≡ b.chain → IsIn plan b → b.place < length (chain_at plan a.chain)
place_within plan a b e in_b = subst (λ (d : ℕ). b.place < length (chain_at plan d)) (sym e) in_b.place

pub replace_at : (rules : Rules) (b c : Bool) (m n : ℕ) (us vs : List ℕ) (k u v : ℕ) → b ≡ c → m ≡ n → us ≡ vs → u ≡ v → CanReplace rules b m us k u → CanReplace rules c n vs k v
replace_at rules b c m n us vs k u v d e f g can =
    subst (λ (x : Bool). CanReplace rules x n vs k v) d (subst (λ (o : ℕ). CanReplace rules b o vs k v) e (subst (λ (ws : List ℕ). CanReplace rules b m ws k v) f (subst (λ (w : ℕ). CanReplace rules b m us k w) g can)))
