-- Chains of neighbours, and what a merge of two classes changes.
use Rattle.std.proofs.Common.{◌≡◌, ℕ, ◌<◌, Bool, true, false, cond, eqb, List, [], ◌∷◌, ◌++◌, ◌⊎◌, inl, inr, refl, sym, ap, ◌∙◌, subst, arith}
use Rattle.std.proofs.lemmas.Bool.{eqb-true}
use Rattle.std.proofs.lemmas.Bool.Decides.{nat_tests}
use Rattle.netlist_core.specs.Joining.{IsChain, AreLinked}
use Rattle.netlist_core.specs.Forests.{merged}

chain-append : (R : ℕ → ℕ → Type 0) (xs ys : List ℕ) (a b c : ℕ) → IsChain R a xs b → IsChain R b ys c → IsChain R a (xs ++ ys) c
chain-append R [] ys a b c p q = subst (λ (x : ℕ). IsChain R x ys c) (sym p) q
chain-append R (x ∷ xs) ys a b c p q = (p.0, chain-append R xs ys x b c p.1 q)

pub link-then : (R : ℕ → ℕ → Type 0) (a b c : ℕ) → AreLinked R a b → AreLinked R b c → AreLinked R a c
link-then R a b c p q = record { over = p.over ++ q.over; chain = chain-append R p.over q.over a b c p.chain q.chain }

pub link-same : (R : ℕ → ℕ → Type 0) (a b : ℕ) → a ≡ b → AreLinked R a b
link-same R a b e = record { over = []; chain = e }

pub link-one : (R : ℕ → ℕ → Type 0) (a b : ℕ) → R a b → AreLinked R a b
link-one R a b s = record { over = b ∷ []; chain = (s, refl) }

chain-back : (R : ℕ → ℕ → Type 0) (swap : (a b : ℕ) → R a b → R b a) (xs : List ℕ) (a b : ℕ) → IsChain R a xs b → AreLinked R b a
chain-back R swap [] a b p = link-same R b a (sym p)
chain-back R swap (x ∷ xs) a b p = link-then R b x a (chain-back R swap xs x b p.1) (link-one R x a (swap a x p.0))

pub link-back : (R : ℕ → ℕ → Type 0) (swap : (a b : ℕ) → R a b → R b a) (a b : ℕ) → AreLinked R a b → AreLinked R b a
link-back R swap a b p = chain-back R swap p.over a b p.chain

-- more neighbours link no less
chain-more : (R S : ℕ → ℕ → Type 0) (more : (a b : ℕ) → R a b → S a b) (xs : List ℕ) (a b : ℕ) → IsChain R a xs b → IsChain S a xs b
chain-more R S more [] a b p = p
chain-more R S more (x ∷ xs) a b p = (more a x p.0, chain-more R S more xs x b p.1)

pub link-more : (R S : ℕ → ℕ → Type 0) (more : (a b : ℕ) → R a b → S a b) (a b : ℕ) → AreLinked R a b → AreLinked S a b
link-more R S more a b p = record { over = p.over; chain = chain-more R S more p.over a b p.chain }

pub merged_same : (x y : ℕ) → merged x y x ≡ y
merged_same x y = grind (arith, nat_tests)

pub merged_to : (x y : ℕ) → merged x y y ≡ y
merged_to x y = grind (arith, nat_tests)

-- a merge of the classes of x and y, which become neighbours
module _ (count : ℕ) (R S : ℕ → ℕ → Type 0) (x y : ℕ) (old new : ℕ → ℕ)
    (swap : (a b : ℕ) → S a b → S b a)
    (more : (a b : ℕ) → R a b → S a b)
    (here : S x y)
    (cases : (a b : ℕ) → S a b → R a b ⊎ (((a ≡ x) × (b ≡ y)) ⊎ ((a ≡ y) × (b ≡ x))))
    (within : (a b : ℕ) → S a b → b < count)
    (x_in : x < count) (y_in : y < count)
    (same : (a b : ℕ) → a < count → b < count → (old a ≡ old b → AreLinked R a b) × (AreLinked R a b → old a ≡ old b))
    (merge : (k : ℕ) → k < count → new k ≡ merged (old x) (old y) (old k)) where
  through : (a b : ℕ) → a < count → b < count → old a ≡ old x → old b ≡ old y → AreLinked S a b
  through a b la lb at_x at_y =
      link-then S a x b (link-more R S more a x ((same a x la x_in).0 at_x))
      (link-then S x y b (link-one S x y here) (link-more R S more y b ((same y b y_in lb).0 (sym at_y))))

  both : (a b : ℕ) → a < count → b < count → (s t : Bool) → eqb (old a) (old x) ≡ s → eqb (old b) (old x) ≡ t
      → cond s (old y) (old a) ≡ cond t (old y) (old b) → AreLinked S a b
  both a b la lb true true ea eb h = link-more R S more a b ((same a b la lb).0 (eqb-true _ _ ea ∙ sym (eqb-true _ _ eb)))
  both a b la lb true false ea eb h = through a b la lb (eqb-true _ _ ea) (sym h)
  both a b la lb false true ea eb h = link-back S swap b a (through b a lb la (eqb-true _ _ eb) h)
  both a b la lb false false ea eb h = link-more R S more a b ((same a b la lb).0 h)

  linked_after : (a b : ℕ) → a < count → b < count → new a ≡ new b → AreLinked S a b
  linked_after a b la lb h = both a b la lb _ _ refl refl (sym (merge a la) ∙ h ∙ merge b lb)

  kept : (a b : ℕ) → a < count → b < count → R a b → new a ≡ new b
  kept a b la lb p = merge a la ∙ ap (merged (old x) (old y)) ((same a b la lb).1 (link-one R a b p)) ∙ sym (merge b lb)

  at_sides : new x ≡ new y
  at_sides = merge x x_in ∙ merged_same (old x) (old y) ∙ sym (merge y y_in ∙ merged_to (old x) (old y))

  side_case : (a b : ℕ) → a < count → b < count → R a b ⊎ (((a ≡ x) × (b ≡ y)) ⊎ ((a ≡ y) × (b ≡ x))) → new a ≡ new b
  side_case a b la lb (inl p) = kept a b la lb p
  side_case a b la lb (inr (inl e)) = ap new e.0 ∙ at_sides ∙ sym (ap new e.1)
  side_case a b la lb (inr (inr e)) = ap new e.0 ∙ sym at_sides ∙ sym (ap new e.1)

  chain_same : (xs : List ℕ) (a b : ℕ) → a < count → IsChain S a xs b → new a ≡ new b
  chain_same [] a b la p = ap new p
  chain_same (z ∷ xs) a b la p =
      let lz = within a z p.0 in
      side_case a z la lz (cases a z p.0) ∙ chain_same xs z b lz p.1

  pub same_after : (a b : ℕ) → a < count → b < count → (new a ≡ new b → AreLinked S a b) × (AreLinked S a b → new a ≡ new b)
  same_after a b la lb = (linked_after a b la lb, λ p. chain_same p.over a b la p.chain)

no_chain : (R : ℕ → ℕ → Type 0) (none : (a b : ℕ) → R a b → ⊥) (xs : List ℕ) (a b : ℕ) → IsChain R a xs b → a ≡ b
no_chain R none [] a b p = p
no_chain R none (x ∷ xs) a b p = absurd (none a x p.0)

-- where nothing is a neighbour each is linked to itself alone
pub same_alone : (R : ℕ → ℕ → Type 0) (none : (a b : ℕ) → R a b → ⊥) (a b : ℕ) → AreLinked R a b → a ≡ b
same_alone R none a b p = no_chain R none p.over a b p.chain
