-- What of the chains fails a judgement, as the code finds it and as the faults say it.
use Rattle.std.proofs.Common.{◌≡◌, ℕ, zero, suc, ◌<◌, ◌||◌, Bool, true, false, nat_lt, List, [], ◌∷◌, ◌++◌, map, Option, Contains, refl, sym, ap, ◌∙◌, subst, arith}
use Rattle.std.specs.List.{list_any, flat_map}
use Rattle.std.proofs.lemmas.Bool.Decides.{nat_tests}
use Rattle.std.proofs.lemmas.List.Elements.{Contains-append_right}
use Rattle.std.proofs.lemmas.List.Folds.{list_any-append, Any-from_list_any, list_any-from_Any}
use Rattle.def_reader.specs.declared.design.Element.{Element}
use Rattle.def_reader.specs.declared.design.EndText.{EndText}
use Rattle.def_reader.specs.declared.design.EndText.TheVariants.{Port, Cell}
use Rattle.def_reader.specs.declared.design.ScanChainText.{ScanChainText}
use Rattle.def_reader.specs.Sound.{elements_in}
use Rattle.list_laws.specs.Leasts.{IsLeast}
use Rattle.list_laws.proofs.LeastLines.{same_least}
use Rattle.design_elements.specs.CellPins.{CellPins, pins_of, start_pins, stop_pins, elements_of, cells_of}
use Rattle.design_elements.specs.Faults.{FailsIn, AreTooMany, element_count}
use Rattle.design_elements.specs.Judging.{IsBadChain}

-- a member with what stands before and behind it
pub record Split {X : Type 0} (xs : List X) (x : X) : Type 0 where
  pub front : List X
  pub behind : List X
  pub is : xs ≡ front ++ x ∷ behind

pub split : {X : Type 0} (xs : List X) (x : X) → Contains xs x → Split xs x
split [] x h = absurd (let lt = h.1 in omega arith)
split {X} (y ∷ ys) x (zero, lt, is) = record { front = []; behind = ys; is = ap (λ (z : X). z ∷ ys) is }
split {X} (y ∷ ys) x (suc k, lt, is) =
    let rest = split ys x (k, omega arith, is) in
    record { front = y ∷ rest.front; behind = rest.behind; is = ap (λ (l : List X). y ∷ l) rest.is }

pub contains_split : {X : Type 0} (xs front behind : List X) (x : X) → xs ≡ front ++ x ∷ behind → Contains xs x
contains_split {X} xs front behind x e = subst (λ (l : List X). Contains l x) (sym e) (Contains-append_right front (x ∷ behind) x (0, omega arith, refl))

any_map : {A B : Type 0} (f : A → B) (p : B → Bool) (xs : List A) → list_any p (map f xs) ≡ list_any (λ x. p (f x)) xs
any_map f p [] = refl
any_map f p (x ∷ xs) = ap (λ (b : Bool). p (f x) || b) (any_map f p xs)

any_flat : {A B : Type 0} (g : A → List B) (p : B → Bool) (xs : List A) → list_any p (flat_map g xs) ≡ list_any (λ x. list_any p (g x)) xs
any_flat g p [] = refl
any_flat g p (x ∷ xs) = list_any-append p (g x) (flat_map g xs) ∙ ap (λ (b : Bool). list_any p (g x) || b) (any_flat g p xs)

module _ {X : Type 0} (of_chain : ScanChainText → List X) (bad : X → Bool) (test : ScanChainText → Bool) (same : (chain : ScanChainText) → test chain ≡ list_any bad (of_chain chain)) (chains : List ScanChainText) where
  there : (n : ℕ) → IsBadChain (λ _ chain. test chain) chains n → FailsIn of_chain bad chains n
  there n h =
      let any = Any-from_list_any bad (of_chain h.chain) (sym (same h.chain) ∙ h.bad_is) in
      record { chain = h.chain; there = contains_split chains h.front h.behind h.chain h.is; named = any.1; listed = (any.0, any.2, any.3); fails = any.4; is = h.line_is }

  back : (n : ℕ) → FailsIn of_chain bad chains n → IsBadChain (λ _ chain. test chain) chains n
  back n h =
      let s = split chains h.chain h.there in
      record {
        front = s.front;
        chain = h.chain;
        behind = s.behind;
        is = s.is;
        bad_is = same h.chain ∙ list_any-from_Any bad (of_chain h.chain) (h.listed.0, h.named, h.listed.1, h.listed.2, h.fails);
        line_is = h.is;
      }

  pub fails_least : (r : Option ℕ) → IsLeast (IsBadChain (λ _ chain. test chain) chains) r → IsLeast (FailsIn of_chain bad chains) r
  fails_least r least = same_least (IsBadChain (λ _ chain. test chain) chains) (FailsIn of_chain bad chains) r there back least

-- what fails of a chain, in the order of the code
pub any_cells : (bad : CellPins → Bool) (chain : ScanChainText)
    → ((list_any bad (start_pins chain.start) || list_any bad (stop_pins chain.stop)) || list_any (λ list. list_any (λ e. bad (pins_of e)) (elements_in list)) chain.lists) ≡ list_any bad (cells_of chain)
any_cells bad chain =
    let starts = start_pins chain.start in
    let stops = stop_pins chain.stop in
    sym (
    list_any-append bad (starts ++ stops) (map pins_of (elements_of chain))
    ∙ ap (λ (b : Bool). b || list_any bad (map pins_of (elements_of chain))) (list_any-append bad starts stops)
    ∙ ap (λ (b : Bool). (list_any bad starts || list_any bad stops) || b) (any_map pins_of bad (elements_of chain) ∙ any_flat elements_in (λ e. bad (pins_of e)) chain.lists)
    )

no_start : (start : EndText) → list_any (λ _. false) (start_pins start) ≡ false
no_start (Port name) = refl
no_start (Cell component pin) = refl

no_stop : (stop : EndText) → list_any (λ _. false) (stop_pins stop) ≡ false
no_stop (Port name) = refl
no_stop (Cell component pin) = refl

-- BITS are judged of elements alone
pub any_elements : (bad : Element → Bool) (chain : ScanChainText)
    → ((list_any (λ _. false) (start_pins chain.start) || list_any (λ _. false) (stop_pins chain.stop)) || list_any (λ list. list_any bad (elements_in list)) chain.lists) ≡ list_any bad (elements_of chain)
any_elements bad chain =
    let rest = list_any (λ list. list_any bad (elements_in list)) chain.lists in
    ap (λ (b : Bool). (b || list_any (λ _. false) (stop_pins chain.stop)) || rest) (no_start chain.start) ∙ ap (λ (b : Bool). (false || b) || rest) (no_stop chain.stop) ∙ sym (any_flat elements_in bad chain.lists)

crowded_there : (chains : List ScanChainText) (n : ℕ) → IsBadChain (λ front chain. nat_lt 65536 (element_count (front ++ chain ∷ []))) chains n → AreTooMany chains n
crowded_there chains n h =
    let bad = h.bad_is in
    let many : 65536 < element_count (h.front ++ h.chain ∷ []) = grind (arith, nat_tests) in
    record { front = h.front; chain = h.chain; behind = h.behind; is = h.is; many = many; line_is = h.line_is }

crowded_back : (chains : List ScanChainText) (n : ℕ) → AreTooMany chains n → IsBadChain (λ front chain. nat_lt 65536 (element_count (front ++ chain ∷ []))) chains n
crowded_back chains n h =
    let many = h.many in
    let bad : nat_lt 65536 (element_count (h.front ++ h.chain ∷ [])) ≡ true = grind (arith, nat_tests) in
    record { front = h.front; chain = h.chain; behind = h.behind; is = h.is; bad_is = bad; line_is = h.line_is }

-- a chain with which there are too many
pub crowded_least : (chains : List ScanChainText) (r : Option ℕ) → IsLeast (IsBadChain (λ front chain. nat_lt 65536 (element_count (front ++ chain ∷ []))) chains) r → IsLeast (AreTooMany chains) r
crowded_least chains r least =
    same_least (IsBadChain (λ front chain. nat_lt 65536 (element_count (front ++ chain ∷ []))) chains) (AreTooMany chains) r (crowded_there chains) (crowded_back chains) least
