-- The least of lines.
use Rattle.std.proofs.Common.{◌≡◌, ℕ, zero, suc, ◌≤◌, ◌⊎◌, inl, inr, Bool, true, false, min, Option, Some, None, Ordering, Less, Equal, Greater, refl, sym, ◌∙◌, subst, arith}
use Rattle.std.specs.Ordering.{nat_cmp, ordering_then}
use Rattle.std.proofs.lemmas.Cmp.{ranked}
use Rattle.list_laws.specs.Leasts.{IsLeast, lesser, found_if}

-- the same lines, said in another way
pub same_least : (P R : ℕ → Type 0) (r : Option ℕ) → ((n : ℕ) → P n → R n) → ((n : ℕ) → R n → P n) → IsLeast P r → IsLeast R r
same_least P R None there back least = λ n holds. least n (back n holds)
same_least P R (Some m) there back least = (there m least.0, λ n holds. least.1 n (back n holds))

either_less : (a b : ℕ) → (a ≤ b) ⊎ (b ≤ a) → ((min a b ≡ a) × (a ≤ b)) ⊎ ((min a b ≡ b) × (b ≤ a))
either_less a b (inl le) = inl (omega arith, le)
either_less a b (inr le) = inr (omega arith, le)

pub order : (a b : ℕ) → (a ≤ b) ⊎ (b ≤ a)
order zero b = inl (omega arith)
order (suc a) zero = inr (omega arith)
order (suc a) (suc b) = elim (order a b) [ inl le ↦ inl (omega arith) | inr le ↦ inr (omega arith) ]

abbrev Either : (ℕ → Type 0) → (ℕ → Type 0) → ℕ → Type 0
Either P Q n = P n ⊎ Q n

-- the lesser of two is the least of both
pub either : (P Q : ℕ → Type 0) (a b : Option ℕ) → IsLeast P a → IsLeast Q b → IsLeast (λ n. P n ⊎ Q n) (lesser a b)
either P Q None None p q = λ n holds. elim holds [ inl h ↦ p n h | inr h ↦ q n h ]
either P Q None (Some b) p q = (inr q.0, λ n holds. elim holds [ inl h ↦ absurd (p n h) | inr h ↦ q.1 n h ])
either P Q (Some a) None p q = (inl p.0, λ n holds. elim holds [ inl h ↦ p.1 n h | inr h ↦ absurd (q n h) ])
either P Q (Some a) (Some b) p q =
    elim (either_less a b (order a b)) [
      | inl w ↦
          (inl (subst P (sym w.0) p.0), λ n holds. elim holds [ inl h ↦ let le = p.1 n h in omega (arith, w.0) | inr h ↦ let le = q.1 n h in omega (arith, w.0) ])
      | inr w ↦
          (inr (subst Q (sym w.0) q.0), λ n holds. elim holds [ inl h ↦ let le = p.1 n h in omega (arith, w.0) | inr h ↦ let le = q.1 n h in omega (arith, w.0) ])
    ]

-- a line that counts is the least of itself
pub alone : (bad : Bool) (line : ℕ) → IsLeast (λ n. (bad ≡ true) × (n ≡ line)) (found_if bad line)
alone true line = ((refl, refl), λ n h. omega (arith, h.1))
alone false line = λ n h. absurd cc

-- lines in the order of their faults
pub line_case : (a b : ℕ) (r rest : Ordering) → r ≡ nat_cmp b a → a ≤ b → rest ≡ Equal → ordering_then r rest ≡ Less → ⊥
line_case a b Less rest is le same e = let below = ranked b a Less is in omega arith
line_case a b Equal rest is le same e = let both = sym same ∙ e in absurd cc
line_case a b Greater rest is le same e = absurd cc
