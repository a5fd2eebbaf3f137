-- The least line of a bad chain, as one chain more is looked at.
use Rattle.std.proofs.Common.{◌≡◌, ℕ, ◌+◌, ◌<◌, ◌≤◌, ◌⊎◌, inl, inr, Bool, true, List, [], ◌∷◌, ◌++◌, length, get_or, take, Option, None, refl, sym, ap, ◌∙◌, subst, append_assoc}
use Rattle.std.proofs.lemmas.List.{take_all}
use Rattle.def_reader.specs.declared.design.ScanChainText.{ScanChainText}
use Rattle.list_laws.specs.Leasts.{IsLeast, lesser, found_if}
use Rattle.list_laws.proofs.LeastLines.{same_least, either, alone}
use Rattle.list_laws.proofs.RowsMore.{split_last, nil_not, take_next}
use Rattle.design_elements.specs.Judging.{IsBadChain}

module _ (bad : List ScanChainText → ScanChainText → Bool) (chains : List ScanChainText) (chain : ScanChainText) where
  to_last : (n : ℕ) → IsBadChain bad chains n ⊎ ((bad chains chain ≡ true) × (n ≡ chain.line)) → IsBadChain bad (chains ++ chain ∷ []) n
  to_last n (inl h) = record {
    front = h.front;
    chain = h.chain;
    behind = h.behind ++ chain ∷ [];
    is = ap (λ (l : List ScanChainText). l ++ chain ∷ []) h.is ∙ append_assoc h.front (h.chain ∷ h.behind) (chain ∷ []);
    bad_is = h.bad_is;
    line_is = h.line_is;
  }
  to_last n (inr h) = record { front = chains; chain = chain; behind = []; is = refl; bad_is = h.0; line_is = h.1 }

  from_last : (n : ℕ) → IsBadChain bad (chains ++ chain ∷ []) n → IsBadChain bad chains n ⊎ ((bad chains chain ≡ true) × (n ≡ chain.line))
  from_last n h =
      elim (split_last chains h.front h.behind chain h.chain h.is) [
        | inl w ↦ inl (record { front = h.front; chain = h.chain; behind = w.0; is = w.1; bad_is = h.bad_is; line_is = h.line_is })
        | inr w ↦
            inr (
              subst (λ (x : ScanChainText). bad chains x ≡ true) (sym w.1) (subst (λ (l : List ScanChainText). bad l h.chain ≡ true) (sym w.0) h.bad_is),
              h.line_is ∙ ap (λ (x : ScanChainText). x.line) (sym w.1),
            )
      ]

  bad_last : (r : Option ℕ) → IsLeast (IsBadChain bad chains) r → IsLeast (IsBadChain bad (chains ++ chain ∷ [])) (lesser r (found_if (bad chains chain) chain.line))
  bad_last r least =
      same_least (λ n. IsBadChain bad chains n ⊎ ((bad chains chain ≡ true) × (n ≡ chain.line))) (IsBadChain bad (chains ++ chain ∷ [])) _ to_last from_last
      (either (IsBadChain bad chains) (λ n. (bad chains chain ≡ true) × (n ≡ chain.line)) r (found_if (bad chains chain) chain.line) least (alone (bad chains chain) chain.line))

-- one chain more is looked at
pub bad_next : (bad : List ScanChainText → ScanChainText → Bool) (chains : List ScanChainText) (i : ℕ) (chain : ScanChainText) (r : Option ℕ) (b : Bool) → i < length chains → chain ≡ get_or chains i chain → b ≡ bad (take i chains) chain
    → IsLeast (IsBadChain bad (take i chains)) r → IsLeast (IsBadChain bad (take (i + 1) chains)) (lesser r (found_if b chain.line))
bad_next bad chains i chain r b lt is same least =
    subst (λ (t : Bool). IsLeast (IsBadChain bad (take (i + 1) chains)) (lesser r (found_if t chain.line))) (sym same)
    (subst (λ (l : List ScanChainText). IsLeast (IsBadChain bad l) (lesser r (found_if (bad (take i chains) chain) chain.line))) (sym (take_next chains i chain lt is)) (bad_last bad (take i chains) chain r least))

-- none is looked at
pub bad_none : (bad : List ScanChainText → ScanChainText → Bool) → IsLeast (IsBadChain bad []) None
bad_none bad = λ n h. nil_not h.front h.behind h.chain h.is

-- all are looked at
pub bad_all : (bad : List ScanChainText → ScanChainText → Bool) (chains : List ScanChainText) (i : ℕ) (r : Option ℕ) → length chains ≤ i → IsLeast (IsBadChain bad (take i chains)) r → IsLeast (IsBadChain bad chains) r
bad_all bad chains i r le least = subst (λ (l : List ScanChainText). IsLeast (IsBadChain bad l) r) (take_all i chains le) least
