-- Chains with a unit left out, and when a step is a gain.
use Rattle.std.proofs.Common.{◌≡◌, ◌≢◌, ℕ, ◌+◌, ◌*◌, ◌<◌, ◌≤◌, List, [], ◌∷◌, ◌++◌, Vec, length, take, get_or, remove, sym, ap, ◌∙◌, arith, subst, inl, inr, refl, Bool, true, false, IsTrue, nat_lt}
use Rattle.std.proofs.lemmas.Bool.{cases_eq, cases_lt}
use Rattle.std.proofs.lemmas.Bool.Decides.{nat_tests}
use Rattle.std.proofs.lemmas.List.{map_push, take_all, take_more}
use Rattle.std.proofs.lemmas.List.Edits.{get_or-remove_above, get_or-remove_below, length-remove}
use Rattle.base_types.proofs.TruthValues.{not_both}
use Rattle.chain_rules.specs.Legality.{IsLegal, chain_at, taken_out}
use Rattle.chain_rules.specs.Plans.{lists_of}
use Rattle.chain_rules.specs.declared.plan.Plan.{Plan}
use Rattle.chain_rules.specs.declared.unit.Rules.{Rules}
use Rattle.chain_rules.proofs.Steps.{with_chain_other, with_chain_same}
use Rattle.wire_cost.specs.declared.ends.Ends.{Ends}
use Rattle.wire_cost.specs.Lengths.{AreWithin, IsChainAt, plan_length_of}
use Rattle.wire_cost.proofs.Plans.{chain_of_plan}
use Rattle.order_search.specs.Searches.{AreSearchable}
use Rattle.order_search.specs.Trials.{IsGain, at}
use Rattle.order_search.proofs.Legal.{chain_few, legal_plan_at}

-- a chain of a legal plan, in range and with few units
pub chain_in_range : (rules : Rules) (ends : Ends) (p : Plan) (c : ℕ) → c < length p.chains → AreSearchable rules ends → IsLegal rules p → IsChainAt ends c (chain_at p c)
chain_in_range rules ends p c h a g = chain_of_plan ends p c h (legal_plan_at rules ends p a g)

within_removed : (us : List ℕ) (i n : ℕ) → i < length us → AreWithin us n → AreWithin (remove us i) n
within_removed us i n h g = λ k l. elim (cases_lt k i) [
  | inl a ↦ (let m = g k (omega arith) in omega (arith, get_or-remove_below us i 0 k a h))
  | inr a ↦ (let m = g (k + 1) (omega (arith, length-remove us i h)) in omega (arith, get_or-remove_above us i 0 k a h))
]

chain_removed : (e : Ends) (c : ℕ) (us : List ℕ) (i : ℕ) → i < length us → IsChainAt e c us → IsChainAt e c (remove us i)
chain_removed e c us i h g = record {
  start = g.start;
  stop = g.stop;
  entry = within_removed us i (length e.entry) h g.entry;
  exit = within_removed us i (length e.exit) h g.exit;
  few = omega (arith, g.few, length-remove us i h);
}

-- so are the others of a chain
pub others_in_range : (rules : Rules) (ends : Ends) (p : Plan) (c i d : ℕ) (others : List ℕ) → c < length p.chains → i < length (chain_at p c) → d < length p.chains → AreSearchable rules ends → IsLegal rules p → others ≡ chain_at (taken_out p (at c i)) d → IsChainAt ends d others
others_in_range rules ends p c i d others hc hi hd a g eo =
    let us = chain_at p c in
    subst (IsChainAt ends d) (sym eo) (elim (cases_eq d c) [
      | inl e ↦ subst (λ (x : ℕ). IsChainAt ends x (chain_at (taken_out p (at c i)) x)) (sym e)
          (subst (IsChainAt ends c) (sym (with_chain_same p c (remove us i) hc)) (chain_removed ends c us i hi (chain_in_range rules ends p c hc a g)))
      | inr n ↦ subst (IsChainAt ends d) (sym (with_chain_other p c d (remove us i) n)) (chain_in_range rules ends p d hd a g)
    ])

-- the links that the code compares tell whether a step is a gain
pub gain_by : (rules : Rules) (ends : Ends) (p q : Plan) (now then : ℕ) → plan_length_of ends q + now ≡ plan_length_of ends p + then → IsTrue (nat_lt then now) → IsLegal rules q → IsGain rules ends p q
gain_by rules ends p q now then e t g = record { legal = g; shorter = (let l : then < now = grind (arith, nat_tests, t) in omega arith) }

pub shorter_by : (rules : Rules) (ends : Ends) (p q : Plan) (now then : ℕ) → plan_length_of ends q + now ≡ plan_length_of ends p + then → IsGain rules ends p q → IsTrue (nat_lt then now)
shorter_by rules ends p q now then e g = (let l : then < now = omega (arith, g.shorter) in grind (arith, nat_tests, l))

pub place_in : (us vs : List ℕ) (i : ℕ) → us ≡ vs → i < length vs → i < length us
place_in us vs i e h = subst (λ (x : List ℕ). i < length x) (sym e) h

-- the others of a chain, and those of any other chain
pub others_same : (p : Plan) (c i d : ℕ) (us : List ℕ) → c < length p.chains → us ≡ remove (chain_at p c) i → c ≡ d → us ≡ chain_at (taken_out p (at c i)) d
others_same p c i d us h e f = subst (λ (x : ℕ). us ≡ chain_at (taken_out p (at c i)) x) f (e ∙ sym (with_chain_same p c (remove (chain_at p c) i) h))

pub others_other : (p : Plan) (c i d : ℕ) (us : List ℕ) → us ≡ chain_at p d → c ≢ d → us ≡ chain_at (taken_out p (at c i)) d
others_other p c i d us e n = e ∙ sym (with_chain_other p c d (remove (chain_at p c) i) (λ f. n (sym f)))

pub in_range : (rules : Rules) (ends : Ends) (p : Plan) (c : ℕ) (us : List ℕ) → c < length p.chains → AreSearchable rules ends → IsLegal rules p → us ≡ chain_at p c → IsChainAt ends c us
in_range rules ends p c us h a g e = subst (IsChainAt ends c) (sym e) (chain_in_range rules ends p c h a g)

-- a copy of one more chain
pub copied_more : {A : Type 0} (ws : List (Vec ℕ A)) (w : Vec ℕ A) (xs : List (List ℕ)) (i : ℕ) → i < length xs → w.items ≡ get_or xs i [] → lists_of ws ≡ take i xs → lists_of (ws ++ w ∷ []) ≡ take (i + 1) xs
copied_more ws w xs i h e f = map_push (λ u. u.items) ws w ∙ (ap (λ (us : List ℕ). lists_of ws ++ us ∷ []) e ∙ (ap (λ (uss : List (List ℕ)). uss ++ get_or xs i [] ∷ []) f ∙ sym (take_more xs i [] h)))

pub copied_all : (p q : Plan) (xs : List (List ℕ)) (n : ℕ) → q.chains ≡ xs → xs ≡ take n p.chains → length p.chains ≤ n → q ≡ p
copied_all p q xs n e f h =
    let make : List (List ℕ) → Plan = λ (ys : List (List ℕ)). (let r : Plan = record { chains = ys } in r) in
    ap make (e ∙ f ∙ take_all n p.chains h)

-- a chain of the plan after a legal step, in range
pub filled_range : (rules : Rules) (ends : Ends) (q r p : Plan) (d : ℕ) (us : List ℕ) → q ≡ r → AreSearchable rules ends → IsLegal rules r → IsLegal rules p → d < length p.chains → us ≡ chain_at q d → IsChainAt ends d us
filled_range rules ends q r p d us e a new old h f =
    let legal : IsLegal rules q = subst (IsLegal rules) (sym e) new in
    in_range rules ends q d us (omega (arith, legal.chains, old.chains)) a legal f

pub filled_few : (rules : Rules) (q r p : Plan) (d : ℕ) (us : List ℕ) (n : ℕ) → q ≡ r → IsLegal rules r → IsLegal rules p → d < length p.chains → us ≡ chain_at q d → length rules.units < 32 * n → length us < 32 * n
filled_few rules q r p d us n e new old h f room =
    let legal : IsLegal rules q = subst (IsLegal rules) (sym e) new in
    omega (arith, ap (λ (xs : List ℕ). length xs) f, chain_few rules q d (omega (arith, legal.chains, old.chains)) legal, room)

-- a plan that a pass left is still quiet, with one thing more
pub still_quiet : (T : Plan → ℕ → Type 0) (p q : Plan) (n : ℕ) → q ≡ p → ((k : ℕ) → k < n → T p k) → T q n → (k : ℕ) → k < n + 1 → T p k
still_quiet T p q n e all last k h = elim (cases_lt k n) [
  | inl a ↦ all k a
  | inr b ↦ (let m : n ≡ k = omega arith in subst (T p) m (subst (λ (x : Plan). T x n) e last))
]

pub not_true : (b : Bool) → b ≡ false → ¬ IsTrue b
not_true b e h = not_both b h e

pub is_false : (b : Bool) → ¬ IsTrue b → b ≡ false
is_false true h = absurd (h refl)
is_false false h = refl
