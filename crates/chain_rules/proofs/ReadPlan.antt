-- The plan as read is legal.
use Rattle.std.proofs.Common.{◌≡◌, ℕ, ◌+◌, ◌-◌, ◌<◌, ◌≤◌, true, false, cond, IsTrue, nat_eq, List, [], ◌∷◌, ◌++◌, length, get_or, map, take, drop, Some, slice_get, option_map, All, Contains, sum_by, refl, sym, ◌∙◌, ap, subst, arith, zero, suc, ⊎_elim}
use Rattle.std.specs.List.{concat, list_any, IsDistinct}
use Rattle.std.specs.Option.{option_and_then}
use Rattle.std.proofs.lemmas.List.{get_or-map, length-map, take-take, take-append-drop, drop-take}
use Rattle.std.proofs.lemmas.List.Elements.{All-head, All-tail, Contains-get_or}
use Rattle.std.proofs.lemmas.List.Sums.{sum_by-cons, sum_by-append}
use Rattle.std.proofs.lemmas.Option.{slice_get-get_or}
use Rattle.std.proofs.lemmas.Bool.{cases_lt, cases_Bool, lt-ltb, le-ltb}
use Rattle.chain_rules.specs.declared.spec.StepSpec.{StepSpec}
use Rattle.chain_rules.specs.declared.spec.PathSpec.{PathSpec}
use Rattle.chain_rules.specs.declared.spec.ChainSpec.{ChainSpec}
use Rattle.chain_rules.specs.declared.unit.Unit.{Unit as MovedUnit}
use Rattle.chain_rules.specs.declared.unit.ChainRule.{ChainRule}
use Rattle.chain_rules.specs.declared.unit.Rules.{Rules}
use Rattle.chain_rules.specs.Stretches.{path_at, spec_at, bits_between}
use Rattle.chain_rules.specs.ChainFaults.{IsOverMaxBits}
use Rattle.chain_rules.specs.Rules.{Cover, IsUnit, IsReadChain, AreRulesOfEach}
use Rattle.chain_rules.specs.Legality.{chain_at, rule_at, no_rule, unit_at, no_unit, bits_of, read_chain_of, IsLegal}
use Rattle.chain_rules.proofs.Positions.{position_found}
use Rattle.chain_rules.proofs.Members.{any_from_contains, contains_from_any}
use Rattle.chain_rules.proofs.Distinct.{distinct_from_permutation, only_chain}

-- Bits of neighbouring runs

abbrev pub bits_before : PathSpec → ℕ → ℕ
bits_before path k = sum_by (λ (s : StepSpec). s.bits) (take k path.steps)

bits_add : (path : PathSpec) (a b : ℕ) → a ≤ b → bits_before path a + bits_between path a b ≡ bits_before path b
bits_add path a b h =
    let steps = path.steps in
    let n : a + (b - a) ≡ b = omega arith in
    let whole = take-append-drop a (take b path.steps) in
    let front = take-take a b path.steps h in
    let back : drop a (take b path.steps) ≡ take (b - a) (drop a path.steps) = ap (λ (k : ℕ). drop a (take k path.steps)) (sym n) ∙ drop-take a (b - a) path.steps in
    let parts : take a path.steps ++ take (b - a) (drop a path.steps) ≡ take b path.steps =
    ap (λ (xs : List StepSpec). xs ++ take (b - a) (drop a path.steps)) (sym front) ∙ (ap (λ (xs : List StepSpec). take a (take b path.steps) ++ xs) (sym back) ∙ whole) in
    sym (sum_by-append (λ (s : StepSpec). s.bits) (take a path.steps) (take (b - a) (drop a path.steps))) ∙ ap (λ (xs : List StepSpec). sum_by (λ (s : StepSpec). s.bits) xs) parts

cover_order : (us : List MovedUnit) (from to : ℕ) → Cover us from to → from ≤ to
cover_order [] from to e = omega arith
cover_order (u ∷ us) from to (e, order, rest) = let h = cover_order us (u.last + 1) to rest in omega arith

bits_of_cover : (path : PathSpec) (chain : ChainSpec) (us : List MovedUnit) (from to : ℕ) → Cover us from to → All (IsUnit path chain) us → bits_before path from + sum_by (λ u. u.bits) us ≡ bits_before path to
bits_of_cover path chain [] from to e all = omega (arith, ap (bits_before path) e)
bits_of_cover path chain (u ∷ us) from to (e, order, rest) all =
    let here = (All-head (IsUnit path chain) u us all).bits in
    let h = cover_order us (u.last + 1) to rest in
    omega (arith, sum_by-cons (λ (x : MovedUnit). x.bits) u us, bits_of_cover path chain us (u.last + 1) to rest (All-tail (IsUnit path chain) u us all), bits_add path u.first (u.last + 1) (omega arith), ap (bits_before path) e)

sum_by-map : {X Y : Type 0} (f : Y → ℕ) (g : X → Y) (xs : List X) → sum_by f (map g xs) ≡ sum_by (λ x. f (g x)) xs
sum_by-map f g [] = refl
sum_by-map f g (x ∷ xs) = omega (arith, sum_by-cons f (g x) (map g xs), sum_by-cons (λ x. f (g x)) x xs, sum_by-map f g xs)

-- the unit that ends a cover is its last one
cover_end : (us : List MovedUnit) (from to k : ℕ) (d : MovedUnit) → Cover us from to → k < length us → (get_or us k d).last + 1 ≡ to → k + 1 ≡ length us
cover_end [] from to k d e h same = absurd (omega arith)
cover_end (u ∷ []) from to zero d (e, order, rest) h same = refl
cover_end (u ∷ (v ∷ vs)) from to zero d (e, order, (f, order_too, rest)) h same = let w = cover_order vs (v.last + 1) to rest in absurd (omega arith)
cover_end (u ∷ us) from to (suc k) d (e, order, rest) h same = let w = cover_end us (u.last + 1) to k d rest (omega arith) same in omega arith

-- One chain as read

record ReadFacts (paths : List PathSpec) (chain : ChainSpec) (rules : Rules) (c : ℕ) (us : List ℕ) : Type 0 where
  some : 0 < length us
  bits : bits_of rules us ≡ bits_between (path_at paths (rule_at rules c).path) (rule_at rules c).first ((rule_at rules c).last + 1)

read_facts : (paths : List PathSpec) (chain : ChainSpec) (rules : Rules) (c : ℕ) (us : List ℕ) → IsReadChain paths chain (rule_at rules c) (map (unit_at rules) us) → ReadFacts paths chain rules c us
read_facts paths chain rules c us is =
    let rule = rule_at rules c in
    let path = path_at paths is.stretch.path in
    let order = cover_order (map (unit_at rules) us) (rule_at rules c).first ((rule_at rules c).last + 1) is.cover in
    let whole = bits_of_cover (path_at paths is.stretch.path) chain (map (unit_at rules) us) (rule_at rules c).first ((rule_at rules c).last + 1) is.cover is.units in
    let part = bits_add (path_at paths is.stretch.path) (rule_at rules c).first ((rule_at rules c).last + 1) order in
    let same = sum_by-map (λ (u : MovedUnit). u.bits) (unit_at rules) us in
    let on = ap (λ (n : ℕ). bits_between (path_at paths n) (rule_at rules c).first ((rule_at rules c).last + 1)) is.path in
    record { some = some us is.cover; bits = omega arith }
  where
    some : (vs : List ℕ) → Cover (map (unit_at rules) vs) (rule_at rules c).first ((rule_at rules c).last + 1) → 0 < length vs
    some [] e = absurd (is.head (rule_at rules c).last is.last (omega arith) is.ends)
    some (v ∷ vs) e = omega arith

in_read_chain : (rules : Rules) → IsDistinct nat_eq (concat rules.read.chains) → (c : ℕ) → c < length rules.read.chains → (u : ℕ) → Contains (chain_at rules.read c) u → read_chain_of rules u ≡ Some c
in_read_chain rules distinct c within u m =
    position_found (list_any (λ v. nat_eq v u)) rules.read.chains c [] within
    (λ k h. ⊎_elim
    (λ (yes : list_any (λ v. nat_eq v u) (chain_at rules.read k) ≡ true).
    let same = only_chain rules.read.chains u distinct k c (omega arith) within (contains_from_any (chain_at rules.read k) u yes) m in
    absurd (omega arith))
    (λ (fails : list_any (λ v. nat_eq v u) (chain_at rules.read k) ≡ false). fails)
    (cases_Bool (list_any (λ v. nat_eq v u) (chain_at rules.read k))))
    (any_from_contains (chain_at rules.read c) u m)

pub read_is_legal : (paths : List PathSpec) (chains : List ChainSpec) (rules : Rules) → AreRulesOfEach paths chains rules → ((c : ℕ) → c < length chains → ¬ IsOverMaxBits paths (spec_at chains c)) → IsLegal rules rules.read
read_is_legal paths chains rules are not_over =
    record {
      chains = are.read_count ∙ sym are.rule_count;
      once = are.units;
      own_partition = λ c h k d in_chain.
          let u = get_or (chain_at rules.read c) k d in
          let home = in_read_chain rules distinct c h (get_or (chain_at rules.read c) k d) (Contains-get_or (chain_at rules.read c) k d in_chain) in
          ap (option_and_then (λ i. option_map (λ r. r.partition) (slice_get rules.chains i))) home
          ∙ ap (option_map (λ (r : ChainRule). r.partition)) (slice_get-get_or rules.chains c no_rule (omega (arith, are.rule_count, are.read_count)));
      pinned_last = λ c h k d in_chain pinned.
          let is = are.each c (omega (arith, are.read_count)) in
          let us = chain_at rules.read c in
          let within : k < length (map (unit_at rules) (chain_at rules.read c)) = omega (arith, length-map (chain_at rules.read c) (unit_at rules)) in
          let at = get_or-map (unit_at rules) (chain_at rules.read c) k d no_unit in_chain in
          let pins = is.pinned k no_unit within in
          let last = (pins.0 (subst (λ (w : MovedUnit). IsTrue w.pinned) (sym at) pinned)).0 in
          let end = cover_end (map (unit_at rules) (chain_at rules.read c)) (rule_at rules c).first ((rule_at rules c).last + 1) k no_unit is.cover within (omega arith) in
          let place : length (chain_at rules.read c) - 1 ≡ k = omega (arith, length-map (chain_at rules.read c) (unit_at rules)) in
          ap (slice_get (chain_at rules.read c)) place ∙ slice_get-get_or (chain_at rules.read c) k d in_chain;
      not_empty = λ c h. (facts c h).some;
      keeps_bit = λ c h keeps.
          let is = are.each c (omega (arith, are.read_count)) in
          let some = is.keeps_bit.0 keeps in
          let on = ap (λ (n : ℕ). bits_between (path_at paths n) (rule_at rules c).first ((rule_at rules c).last + 1)) is.path in
          omega (arith, (facts c h).bits);
      bounded = λ c h. bounded_at c h;
    }
  where
    distinct : IsDistinct nat_eq (concat rules.read.chains)
    distinct = distinct_from_permutation (length rules.units) (concat rules.read.chains) are.units

    facts : (c : ℕ) → c < length rules.read.chains → ReadFacts paths (spec_at chains c) rules c (chain_at rules.read c)
    facts c h = read_facts paths (spec_at chains c) rules c (chain_at rules.read c) (are.each c (omega (arith, are.read_count)))

    bounded_at : (c : ℕ) → c < length rules.read.chains → bits_of rules (chain_at rules.read c) ≤ (rule_at rules c).bound
    bounded_at c h =
        let is = are.each c (omega (arith, are.read_count)) in
        let rule = rule_at rules c in
        let path = path_at paths is.stretch.path in
        let on = ap (λ (n : ℕ). bits_between (path_at paths n) (rule_at rules c).first ((rule_at rules c).last + 1)) is.path in
        let bits : bits_of rules (chain_at rules.read c) ≡ bits_between (path_at paths is.stretch.path) (rule_at rules c).first ((rule_at rules c).last + 1) = (facts c h).bits ∙ on in
        let low = is.first.low in
        let high = is.last.high in
        let order = cover_order (map (unit_at rules) (chain_at rules.read c)) (rule_at rules c).first ((rule_at rules c).last + 1) is.cover in
        let head = bits_add (path_at paths is.stretch.path) is.stretch.from (rule_at rules c).first low in
        let run = bits_add (path_at paths is.stretch.path) (rule_at rules c).first ((rule_at rules c).last + 1) order in
        let tail = bits_add (path_at paths is.stretch.path) ((rule_at rules c).last + 1) is.stretch.to (omega arith) in
        let whole = bits_add (path_at paths is.stretch.path) is.stretch.from is.stretch.to (omega arith) in
        ⊎_elim
        (λ (some : 0 < (spec_at chains c).max_bits).
        let bound = is.bound ∙ ap (λ b. cond b (spec_at chains c).max_bits (bits_between (path_at paths is.stretch.path) (rule_at rules c).first ((rule_at rules c).last + 1))) (lt-ltb 0 (spec_at chains c).max_bits some) in
        ⊎_elim
        (λ (over : (spec_at chains c).max_bits < bits_between (path_at paths is.stretch.path) is.stretch.from is.stretch.to). absurd (not_over c (omega (arith, are.read_count)) (is.stretch, is.is_stretch, some, over)))
        (λ (fits : bits_between (path_at paths is.stretch.path) is.stretch.from is.stretch.to ≤ (spec_at chains c).max_bits). omega arith)
        (cases_lt (spec_at chains c).max_bits (bits_between (path_at paths is.stretch.path) is.stretch.from is.stretch.to)))
        (λ (none : (spec_at chains c).max_bits ≤ 0).
        let bound = is.bound ∙ ap (λ b. cond b (spec_at chains c).max_bits (bits_between (path_at paths is.stretch.path) (rule_at rules c).first ((rule_at rules c).last + 1))) (le-ltb 0 (spec_at chains c).max_bits none) in
        omega arith)
        (cases_lt 0 (spec_at chains c).max_bits)
