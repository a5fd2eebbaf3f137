-- Numbers of partitions, as they are given to one chain after another.
use Rattle.std.proofs.Common.{◌≡◌, ℕ, ◌+◌, ◌<◌, ◌≤◌, List, [], ◌∷◌, ◌++◌, length, get_or, Option, Some, None, cond, refl, sym, ap, ◌∙◌, arith, ⊎_elim, eqb}
use Rattle.std.specs.Option.{option_or}
use Rattle.std.proofs.lemmas.Bool.{cases_lt, cases_eq, ne_eqb, eq-eqb}
use Rattle.std.proofs.lemmas.List.{get_or_append_left, get_or_push, length_push}
use Rattle.chain_rules.specs.declared.unit.Rules.{Rules}
use Rattle.chain_rules.specs.Legality.{rule_at}
use Rattle.chain_balance.specs.Rooms.{group_of, AreGroups}

-- the numbers that partitions have, and the groups of the first chains by them
pub record AreKnown (rules : Rules) (numbers : ℕ → Option ℕ) (groups : List ℕ) (upto : ℕ) : Type 0 where
  pub known : (q g : ℕ) → numbers q ≡ Some g → (g < upto) × ((rule_at rules g).partition ≡ q)
  pub long : length groups ≡ upto
  pub each : (c : ℕ) → c < upto → numbers (rule_at rules c).partition ≡ Some (group_of groups c)

-- one chain more
pub known_more : (rules : Rules) (old new : ℕ → Option ℕ) (groups : List ℕ) (p k g : ℕ) → AreKnown rules old groups k → p ≡ (rule_at rules k).partition
    → ((q : ℕ) → new q ≡ option_or (old q) (cond (eqb p q) (Some k) None)) → new p ≡ Some g → AreKnown rules new (groups ++ g ∷ []) (k + 1)
known_more rules old new groups p k g are is kept value = record {
  known = λ q h e. known_at q h (old q) (are.known q) (kept q) e;
  long = length_push groups g ∙ ap (λ n. n + 1) are.long;
  each = λ c l.
      ⊎_elim (λ (b : c < k).
      kept (rule_at rules c).partition ∙ ap (λ o. option_or o (cond (eqb p (rule_at rules c).partition) (Some k) None)) (are.each c b)
      ∙ ap (λ (x : ℕ). Some x) (sym (get_or_append_left groups (g ∷ []) 0 c (omega (arith, are.long)))))
      (λ (e : k ≤ c).
      let same : c ≡ k = omega arith in
      ap new (ap (λ d. (rule_at rules d).partition) same ∙ sym is) ∙ value ∙ ap (λ (x : ℕ). Some x) (sym (ap (λ d. get_or (groups ++ g ∷ []) d 0) same ∙ get_or_push groups g 0 k are.long)))
      (cases_lt c k);
}
  where
    known_at : (q h : ℕ) (o : Option ℕ) → ((x : ℕ) → o ≡ Some x → (x < k) × ((rule_at rules x).partition ≡ q)) → new q ≡ option_or o (cond (eqb p q) (Some k) None) → new q ≡ Some h → (h < k + 1) × ((rule_at rules h).partition ≡ q)
    known_at q h (Some x) f n e =
        let same : x ≡ h = cc in
        let at = f x refl in
        (omega (arith, at.0, same), ap (λ y. (rule_at rules y).partition) (sym same) ∙ at.1)
    known_at q h None f n e =
        ⊎_elim (λ (s : p ≡ q).
        let put : cond (eqb p q) (Some k) None ≡ Some k = ap (λ b. cond b (Some k) None) (eq-eqb p q s) in
        let same : k ≡ h = cc in
        (omega (arith, same), ap (λ y. (rule_at rules y).partition) (sym same) ∙ sym is ∙ s))
        (λ (m : p ≡ q → ⊥).
        let put : ◌≡◌ {A = Option ℕ} (cond (eqb p q) (Some k) None) None = ap (λ b. cond b (Some k) None) (ne_eqb p q m) in
        absurd (cc))
        (cases_eq p q)

-- the groups of all chains
pub known_all : (rules : Rules) (numbers : ℕ → Option ℕ) (groups : List ℕ) → AreKnown rules numbers groups (length rules.chains) → AreGroups rules groups
known_all rules numbers groups are = record {
  long = are.long;
  within = λ c l. (are.known (rule_at rules c).partition (group_of groups c) (are.each c l)).0;
  alike = λ c d l m e. let one = are.each c l in let two = are.each d m in let there = ap numbers e in cc;
  apart = λ c d l m e.
      sym (are.known (rule_at rules c).partition (group_of groups c) (are.each c l)).1
      ∙ ap (λ g. (rule_at rules g).partition) e
      ∙ (are.known (rule_at rules d).partition (group_of groups d) (are.each d m)).1;
}
