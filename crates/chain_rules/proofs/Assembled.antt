-- The rules of the first chains, one chain more.
use Rattle.std.proofs.Common.{◌≡◌, ◌≢◌, ℕ, ◌+◌, ◌<◌, ◌≤◌, List, [], ◌∷◌, ◌++◌, length, get_or, map, take, All, sum_by, refl, sym, ◌∙◌, ap, subst, arith, zero, suc, ⊎_elim, length-append}
use Rattle.std.specs.List.{concat, flat_map, range_with_len}
use Rattle.std.proofs.lemmas.List.{get_or_append_left, get_or_push, get_or_at, length_push, append-nil, append_assoc, length-map}
use Rattle.std.proofs.lemmas.List.Elements.{All-cons, All-nil, All-head, All-tail}
use Rattle.std.proofs.lemmas.List.Folds.{concat-append}
use Rattle.std.proofs.lemmas.List.Sums.{sum_by_more, sum_by-cons}
use Rattle.std.proofs.lemmas.Bool.{cases_eq}
use Rattle.chain_rules.specs.declared.spec.PathSpec.{PathSpec}
use Rattle.chain_rules.specs.declared.spec.ElementSpec.{ElementSpec}
use Rattle.chain_rules.specs.declared.spec.ListSpec.{ListSpec}
use Rattle.chain_rules.specs.declared.spec.ListSpec.TheVariants.{Floating, Ordered}
use Rattle.chain_rules.specs.declared.spec.ChainSpec.{ChainSpec}
use Rattle.chain_rules.specs.declared.unit.Unit.{Unit as MovedUnit}
use Rattle.chain_rules.specs.declared.unit.ChainRule.{ChainRule}
use Rattle.chain_rules.specs.Stretches.{spec_at, no_chain, groups_in, groups_of, elements_in, elements_of, HasElements}
use Rattle.chain_rules.specs.Legality.{no_unit, no_rule}
use Rattle.chain_rules.specs.Rules.{IsReadChain}

range-append : (a n m : ℕ) → range_with_len a (n + m) ≡ range_with_len a n ++ range_with_len (a + n) m
range-append a zero m = ap (λ (k : ℕ). range_with_len a k) (omega arith) ∙ ap (λ (k : ℕ). range_with_len k m) (omega arith)
range-append a (suc n) m =
    let e : suc n + m ≡ suc (n + m) = omega arith in
    let f : a + 1 + n ≡ a + suc n = omega arith in
    ap (λ (k : ℕ). range_with_len a k) e ∙ (ap (λ (ks : List ℕ). a ∷ ks) (range-append (a + 1) n m) ∙ ap (λ (k : ℕ). a ∷ range_with_len (a + 1) n ++ range_with_len k m) f)

map-agree : {X Y : Type 0} (f g : X → Y) (xs : List X) → All (λ x. f x ≡ g x) xs → map f xs ≡ map g xs
map-agree f g [] all = refl
map-agree f g (x ∷ xs) all =
    ap (λ y. y ∷ map f xs) (All-head (λ z. f z ≡ g z) x xs all) ∙ ap (λ ys. g x ∷ ys) (map-agree f g xs (All-tail (λ z. f z ≡ g z) x xs all))

-- the numbers of the units that were put behind others
map-behind : (xs ys : List MovedUnit) (n : ℕ) → length xs ≡ n → map (λ u. get_or (xs ++ ys) u no_unit) (range_with_len n (length ys)) ≡ ys
map-behind xs [] n e = refl
map-behind xs (y ∷ ys) n e =
    let moved = append_assoc xs (y ∷ []) ys in
    let long : length (xs ++ y ∷ []) ≡ n + 1 = omega (arith, length_push xs y) in
    let rest = map-behind (xs ++ y ∷ []) ys (n + 1) long in
    ap (λ z. z ∷ map (λ u. get_or (xs ++ y ∷ ys) u no_unit) (range_with_len (n + 1) (length ys))) (get_or_at xs y ys no_unit n e)
    ∙ ap (λ (zs : List MovedUnit). y ∷ zs) (ap (λ (us : List MovedUnit). map (λ u. get_or us u no_unit) (range_with_len (n + 1) (length ys))) (sym moved) ∙ rest)

range_below : (a n : ℕ) → All (λ u. u < a + n) (range_with_len a n)
range_below a zero = All-nil (λ (u : ℕ). u < a + 0)
range_below a (suc n) =
    let e : a + 1 + n ≡ a + suc n = omega arith in
    All-cons (λ u. u < a + suc n) a (range_with_len (a + 1) n) (omega arith) (subst (λ (k : ℕ). All (λ u. u < k) (range_with_len (a + 1) n)) e (range_below (a + 1) n))

All-concat_at : (P : ℕ → Type 0) (css : List (List ℕ)) (i : ℕ) → i < length css → All P (concat css) → All P (get_or css i [])
All-concat_at P [] i h all = absurd (omega arith)
All-concat_at P (c ∷ cs) zero h all = λ k d w. subst P (get_or_append_left c (concat cs) d k w) (all k d (omega (arith, length-append c (concat cs))))
All-concat_at P (c ∷ cs) (suc i) h all = All-concat_at P cs i (omega arith) (All-rest_of P c (concat cs) all)
  where
    All-rest_of : (P : ℕ → Type 0) (xs ys : List ℕ) → All P (xs ++ ys) → All P ys
    All-rest_of P [] ys all = all
    All-rest_of P (x ∷ xs) ys all = All-rest_of P xs ys (All-tail P x (xs ++ ys) all)

-- the rules and the read plan of the first i chains
pub record AreFirstRules (paths : List PathSpec) (chains : List ChainSpec) (units : List MovedUnit) (rules : List ChainRule) (read : List (List ℕ)) (i : ℕ) : Type 0 where
  pub rule_count : length rules ≡ i
  pub read_count : length read ≡ i
  pub numbered : concat read ≡ range_with_len 0 (length units)
  pub each : (c : ℕ) → c < i → IsReadChain paths (spec_at chains c) (get_or rules c no_rule) (map (λ u. get_or units u no_unit) (get_or read c []))
  pub few : length units ≤ sum_by (λ c. length (groups_of c)) (take i chains)

pub first_rules_none : (paths : List PathSpec) (chains : List ChainSpec) → AreFirstRules paths chains [] [] [] 0
first_rules_none paths chains = record { rule_count = refl; read_count = refl; numbered = refl; each = λ c h. absurd (omega arith); few = omega arith }

pub first_rules_more : (paths : List PathSpec) (chains : List ChainSpec) (units : List MovedUnit) (rules : List ChainRule) (read : List (List ℕ)) (i : ℕ) → i < length chains → AreFirstRules paths chains units rules read i → (rule : ChainRule) (us : List MovedUnit) → IsReadChain paths (spec_at chains i) rule us → length us ≤ length (groups_of (spec_at chains i)) → AreFirstRules paths chains (units ++ us) (rules ++ rule ∷ []) (read ++ range_with_len (length units) (length us) ∷ []) (i + 1)
first_rules_more paths chains units rules read i within are rule us is few =
    let numbers = range_with_len (length units) (length us) in
    record {
      rule_count = omega (arith, length_push rules rule, are.rule_count);
      read_count = omega (arith, length_push read (range_with_len (length units) (length us)), are.read_count);
      numbered = concat-append read (range_with_len (length units) (length us) ∷ [])
          ∙ (ap (λ (xs : List ℕ). concat read ++ xs) (append-nil (range_with_len (length units) (length us)))
          ∙ (ap (λ (xs : List ℕ). xs ++ range_with_len (length units) (length us)) are.numbered
          ∙ (ap (λ (k : ℕ). range_with_len 0 (length units) ++ range_with_len k (length us)) (omega arith)
          ∙ (sym (range-append 0 (length units) (length us)) ∙ ap (λ (k : ℕ). range_with_len 0 k) (sym (length-append units us))))));
      each = λ c h. ⊎_elim
          (λ (e : c ≡ i). subst (λ (x : ℕ). IsReadChain paths (spec_at chains x) (get_or (rules ++ rule ∷ []) x no_rule) (map (λ u. get_or (units ++ us) u no_unit) (get_or (read ++ range_with_len (length units) (length us) ∷ []) x []))) (sym e) last)
          (λ (e : c ≢ i). earlier c (omega arith))
          (cases_eq c i);
      few = omega (arith, length-append units us, are.few, sum_by_more (λ (c : ChainSpec). length (groups_of c)) chains i no_chain within);
    }
  where
    last : IsReadChain paths (spec_at chains i) (get_or (rules ++ rule ∷ []) i no_rule) (map (λ u. get_or (units ++ us) u no_unit) (get_or (read ++ range_with_len (length units) (length us) ∷ []) i []))
    last =
        subst (λ (r : ChainRule). IsReadChain paths (spec_at chains i) r (map (λ u. get_or (units ++ us) u no_unit) (get_or (read ++ range_with_len (length units) (length us) ∷ []) i []))) (sym (get_or_push rules rule no_rule i are.rule_count))
        (subst (λ (ns : List ℕ). IsReadChain paths (spec_at chains i) rule (map (λ u. get_or (units ++ us) u no_unit) ns)) (sym (get_or_push read (range_with_len (length units) (length us)) [] i are.read_count))
        (subst (λ (ws : List MovedUnit). IsReadChain paths (spec_at chains i) rule ws) (sym (map-behind units us (length units) refl)) is))

    earlier : (c : ℕ) → c < i → IsReadChain paths (spec_at chains c) (get_or (rules ++ rule ∷ []) c no_rule) (map (λ u. get_or (units ++ us) u no_unit) (get_or (read ++ range_with_len (length units) (length us) ∷ []) c []))
    earlier c h =
        let in_rules : c < length rules = omega (arith, are.rule_count) in
        let in_read : c < length read = omega (arith, are.read_count) in
        let below = All-concat_at (λ (u : ℕ). u < 0 + length units) read c in_read (subst (λ (xs : List ℕ). All (λ u. u < 0 + length units) xs) (sym are.numbered) (range_below 0 (length units))) in
        let same = map-agree (λ (u : ℕ). get_or (units ++ us) u no_unit) (λ (u : ℕ). get_or units u no_unit) (get_or read c []) (λ k d w. get_or_append_left units us no_unit (get_or (get_or read c []) k d) (let b = below k d w in omega arith)) in
        subst (λ (r : ChainRule). IsReadChain paths (spec_at chains c) r (map (λ u. get_or (units ++ us) u no_unit) (get_or (read ++ range_with_len (length units) (length us) ∷ []) c []))) (sym (get_or_append_left rules (rule ∷ []) no_rule c in_rules))
        (subst (λ (ns : List ℕ). IsReadChain paths (spec_at chains c) (get_or rules c no_rule) (map (λ u. get_or (units ++ us) u no_unit) ns)) (sym (get_or_append_left read (range_with_len (length units) (length us) ∷ []) [] c in_read))
        (subst (λ (ws : List MovedUnit). IsReadChain paths (spec_at chains c) (get_or rules c no_rule) ws) (sym same) (are.each c h)))

-- There are no more groups than elements

groups-le-list : (list : ListSpec) → 0 < length (elements_in list) → length (groups_in list) ≤ length (elements_in list)
groups-le-list (Floating es) h = omega (arith, length-map es (λ (e : ElementSpec). e ∷ []))
groups-le-list (Ordered es) h = omega arith

groups-le-lists : (lists : List ListSpec) → All (λ l. 0 < length (elements_in l)) lists → length (flat_map groups_in lists) ≤ length (flat_map elements_in lists)
groups-le-lists [] all = omega arith
groups-le-lists (l ∷ ls) all =
    omega (arith, length-append (groups_in l) (flat_map groups_in ls), length-append (elements_in l) (flat_map elements_in ls), groups-le-list l (All-head (λ (x : ListSpec). 0 < length (elements_in x)) l ls all), groups-le-lists ls (All-tail (λ (x : ListSpec). 0 < length (elements_in x)) l ls all))

pub groups-le-elements : (chain : ChainSpec) → HasElements chain → length (groups_of chain) ≤ length (elements_of chain)
groups-le-elements chain has = groups-le-lists chain.lists has.each

pub few_groups : (chains : List ChainSpec) → All HasElements chains → sum_by (λ c. length (groups_of c)) chains ≤ sum_by (λ c. length (elements_of c)) chains
few_groups [] all = omega arith
few_groups (c ∷ cs) all =
    omega (arith, sum_by-cons (λ (x : ChainSpec). length (groups_of x)) c cs, sum_by-cons (λ (x : ChainSpec). length (elements_of x)) c cs, groups-le-elements c (All-head HasElements c cs all), few_groups cs (All-tail HasElements c cs all))
