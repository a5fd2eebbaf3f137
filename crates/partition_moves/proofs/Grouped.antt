-- The chains of each partition, found from the last chain on.
use Rattle.std.proofs.Common.{◌≡◌, ℕ, ◌+◌, ◌<◌, ◌≤◌, List, length, get_or, set, sym, ap, ◌∙◌, arith, subst, inl, inr}
use Rattle.std.proofs.lemmas.Bool.{cases_eq, cases_lt}
use Rattle.std.proofs.lemmas.List.{length-set, get_or-set_same, get_or-set_other}
use Rattle.chain_rules.specs.Legality.{rule_at}
use Rattle.chain_rules.specs.declared.plan.Plan.{Plan}
use Rattle.chain_rules.specs.declared.unit.Rules.{Rules}
use Rattle.partition_moves.specs.Together.{AreTogether}

-- so are those of the chains from c on
pub record AreGrouped (rules : Rules) (first next : List ℕ) (c : ℕ) : Type 0 where
  pub first_count : length first ≡ length rules.chains
  pub next_count : length next ≡ length rules.chains
  pub high : (q : ℕ) → q < length rules.chains → c ≤ get_or first q 0
  pub first_of : (q k : ℕ) → q < length rules.chains → c ≤ k → k < get_or first q 0 → (rule_at rules k).partition ≡ q → ⊥
  pub behind : (e : ℕ) → c ≤ e → e < length rules.chains → e < get_or next e 0
  pub between : (e k : ℕ) → c ≤ e → e < length rules.chains → e < k → k < get_or next e 0 → AreTogether rules k e → ⊥

pub grouped_none : (rules : Rules) (first next : List ℕ) (c : ℕ) → c ≡ length rules.chains → length first ≡ c → length next ≡ c → ((q : ℕ) → q < c → get_or first q 0 ≡ c) → AreGrouped rules first next c
grouped_none rules first next c e lf ln all = record {
  first_count = lf ∙ e;
  next_count = ln ∙ e;
  high = λ q h. omega (arith, all q (omega (arith, e, h)));
  first_of = λ q k h low l x. absurd (omega (arith, all q (omega (arith, e, h)), low, l));
  behind = λ i low h. absurd (omega (arith, e, low, h));
  between = λ i k low h a b x. absurd (omega (arith, e, low, h));
}

-- one chain more, whose partition has an entry
pub grouped_more : (rules : Rules) (first next : List ℕ) (n c q : ℕ) → AreGrouped rules first next n → c + 1 ≡ n → c < length rules.chains → (rule_at rules c).partition ≡ q → q < length rules.chains
    → AreGrouped rules (set first q c) (set next c (get_or first q 0)) c
grouped_more rules first next n c q g s hc own hq = record {
  first_count = length-set first q c ∙ g.first_count;
  next_count = length-set next c (get_or first q 0) ∙ g.next_count;
  high = λ r h. elim (cases_eq r q) [
    | inl x ↦ (let here : get_or (set first q c) r 0 ≡ c = ap (λ (i : ℕ). get_or (set first q c) i 0) x ∙ get_or-set_same first q c 0 (omega (arith, g.first_count, hq)) in omega (arith, here))
    | inr x ↦ omega (arith, get_or-set_other first q r c 0 x, g.high r h, s)
  ];
  first_of = λ r k h low l is. elim (cases_eq r q) [
    | inl x ↦ (let here : get_or (set first q c) r 0 ≡ c = ap (λ (i : ℕ). get_or (set first q c) i 0) x ∙ get_or-set_same first q c 0 (omega (arith, g.first_count, hq)) in absurd (omega (arith, here, low, l)))
    | inr x ↦ elim (cases_eq k c) [
      | inl y ↦ absurd (x (sym is ∙ ap (λ (i : ℕ). (rule_at rules i).partition) y ∙ own))
      | inr y ↦ g.first_of r k h (omega (arith, s, low, y)) (omega (arith, get_or-set_other first q r c 0 x, l)) is
    ]
  ];
  behind = λ e low h. elim (cases_eq e c) [
    | inl x ↦ (let here : get_or (set next c (get_or first q 0)) e 0 ≡ get_or first q 0 = ap (λ (i : ℕ). get_or (set next c (get_or first q 0)) i 0) x ∙ get_or-set_same next c (get_or first q 0) 0 (omega (arith, g.next_count, hc)) in omega (arith, here, g.high q hq, s, x))
    | inr x ↦ omega (arith, get_or-set_other next c e (get_or first q 0) 0 x, g.behind e (omega (arith, s, low, x)) h)
  ];
  between = λ e k low h a b t. elim (cases_eq e c) [
    | inl x ↦ (
        let here : get_or (set next c (get_or first q 0)) e 0 ≡ get_or first q 0 = ap (λ (i : ℕ). get_or (set next c (get_or first q 0)) i 0) x ∙ get_or-set_same next c (get_or first q 0) 0 (omega (arith, g.next_count, hc)) in
        g.first_of q k hq (omega (arith, s, a, x)) (omega (arith, here, b)) (t ∙ ap (λ (i : ℕ). (rule_at rules i).partition) x ∙ own))
    | inr x ↦ g.between e k (omega (arith, s, low, x)) h a (omega (arith, get_or-set_other next c e (get_or first q 0) 0 x, b)) t
  ];
}

-- one whose partition has none
pub grouped_past : (rules : Rules) (first next : List ℕ) (n c : ℕ) → AreGrouped rules first next n → c + 1 ≡ n → c < length rules.chains → length rules.chains ≤ (rule_at rules c).partition
    → AreGrouped rules first (set next c (c + 1)) c
grouped_past rules first next n c g s hc past = record {
  first_count = g.first_count;
  next_count = length-set next c (c + 1) ∙ g.next_count;
  high = λ r h. omega (arith, g.high r h, s);
  first_of = λ r k h low l is. elim (cases_eq k c) [
    | inl y ↦ absurd (omega (arith, h, past, sym is ∙ ap (λ (i : ℕ). (rule_at rules i).partition) y))
    | inr y ↦ g.first_of r k h (omega (arith, s, low, y)) l is
  ];
  behind = λ e low h. elim (cases_eq e c) [
    | inl x ↦ (let here : get_or (set next c (c + 1)) e 0 ≡ c + 1 = ap (λ (i : ℕ). get_or (set next c (c + 1)) i 0) x ∙ get_or-set_same next c (c + 1) 0 (omega (arith, g.next_count, hc)) in omega (arith, here, x))
    | inr x ↦ omega (arith, get_or-set_other next c e (c + 1) 0 x, g.behind e (omega (arith, s, low, x)) h)
  ];
  between = λ e k low h a b t. elim (cases_eq e c) [
    | inl x ↦ (let here : get_or (set next c (c + 1)) e 0 ≡ c + 1 = ap (λ (i : ℕ). get_or (set next c (c + 1)) i 0) x ∙ get_or-set_same next c (c + 1) 0 (omega (arith, g.next_count, hc)) in absurd (omega (arith, here, x, a, b)))
    | inr x ↦ g.between e k (omega (arith, s, low, x)) h a (omega (arith, get_or-set_other next c e (c + 1) 0 x, b)) t
  ];
}

-- a pass that goes on at a later chain is quiet up to there, where none between is of the partition
pub quiet_after : (T : Plan → ℕ → Type 0) (p q : Plan) (n m : ℕ) → q ≡ p → ((k : ℕ) → k < n → k < length p.chains → T p k) → T q n → ((k : ℕ) → n < k → k < m → k < length p.chains → T p k) → (k : ℕ) → k < m → k < length p.chains → T p k
quiet_after T p q n m e before here behind k h l = elim (cases_lt k n) [
  | inl a ↦ before k a l
  | inr a ↦ elim (cases_lt n k) [
    | inl b ↦ behind k b h l
    | inr b ↦ (let s : n ≡ k = omega (arith, a, b) in subst (T p) s (subst (λ (x : Plan). T x n) e here))
  ]
]
