-- What the bits of the paths are after a unit went.
use Rattle.std.proofs.Common.{◌≡◌, ◌≢◌, ℕ, ◌+◌, ◌-◌, ◌<◌, ◌≤◌, List, length, Bool, cond, refl, sym, ap, ◌∙◌, arith, get_or, ⊎_elim, set, subst}
use Rattle.std.specs.Prelude.{nat_eq, count_by}
use Rattle.std.proofs.lemmas.Bool.{cases_eq, ne_eqb, eq-eqb}
use Rattle.std.proofs.lemmas.List.{get_or-set_other, get_or-set_same, length-set}
use Rattle.std.proofs.lemmas.List.Sums.{sum_by-set, sum_by-remove, sum_by-insert}
use Rattle.chain_rules.specs.declared.plan.Plan.{Plan}
use Rattle.chain_rules.specs.declared.unit.Rules.{Rules}
use Rattle.chain_rules.specs.declared.unit.Position.{Position}
use Rattle.chain_rules.specs.Legality.{unit_at, rule_at, chain_at, bits_of, unit_in, IsLegal, IsIn, moved_plan}
use Rattle.chain_rules.proofs.Moved.{moved_source, moved_target}
use Rattle.chain_balance.specs.Balance.{bits_on, path_bits, path_of, AreOnPaths}
use Rattle.chain_balance.specs.declared.work.Work.{Work}
use Rattle.chain_balance.specs.Gains.{AreHeld, at_place, bits_in, went, OneMayGo, IsLevel, IsWork}
use Rattle.chain_balance.proofs.Sums.{summand_le}
use Rattle.chain_balance.proofs.Moves.{moved_other}
use Rattle.chain_balance.proofs.Evens.{from_bits, to_bits, other_bits}

abbrev one_if : Bool → ℕ
one_if b = cond b 1 0

-- the numbers of a unit that goes
pub record Going (rules : Rules) (fixed : List ℕ) (plan : Plan) (loads : List ℕ) (most : ℕ) (from to : Position) : Type 0 where
  pub giver : path_of rules from < length loads
  pub taker : path_of rules to < length loads
  pub from_is : get_or loads (path_of rules from) 0 ≡ most
  pub lost : path_bits rules fixed (moved_plan plan from to) (path_of rules from) + bits_in rules plan from ≡ most
  pub won : path_bits rules fixed (moved_plan plan from to) (path_of rules to) ≡ get_or loads (path_of rules to) 0 + bits_in rules plan from
  pub others : (x : ℕ) → x < length loads → path_of rules from ≢ x → path_of rules to ≢ x → path_bits rules fixed (moved_plan plan from to) x ≡ get_or loads x 0

pub going : (rules : Rules) (fixed : List ℕ) (plan : Plan) (loads : List ℕ) (most : ℕ) (from to : Position) → IsLevel rules fixed plan loads most → AreOnPaths rules (length fixed) → OneMayGo rules loads most plan from to
    → Going rules fixed plan loads most from to
going rules fixed plan loads most from to level on one =
    let legal : IsLegal rules plan = level.legal in
    let f : path_of rules from < length fixed = on from.chain (omega (arith, one.is_in.chain, legal.chains)) in
    let t : path_of rules to < length fixed = on to.chain (omega (arith, one.is_taker, legal.chains)) in
    record {
      giver = omega (arith, f, level.are.long);
      taker = omega (arith, t, level.are.long);
      from_is = one.may.is_top;
      lost = from_bits rules fixed plan from to legal one.is_in one.is_taker one.may.other_path ∙ (sym (level.are.each (path_of rules from) f) ∙ one.may.is_top);
      won = to_bits rules fixed plan from to legal one.is_in one.is_taker one.may.other_path ∙ ap (λ y. y + bits_in rules plan from) (sym (level.are.each (path_of rules to) t));
      others = λ x l m n. other_bits rules fixed plan from to x legal one.is_in one.is_taker one.may.other_path m n ∙ sym (level.are.each x (omega (arith, l, level.are.long)));
    }

-- each place of the new bits
pub went_at : (loads : List ℕ) (giver taker bits x : ℕ) → giver < length loads → taker < length loads → giver ≢ taker → x < length loads
    → (get_or (went loads giver taker bits) giver 0 ≡ get_or loads giver 0 - bits) × (get_or (went loads giver taker bits) taker 0 ≡ get_or loads taker 0 + bits)
    × (giver ≢ x → taker ≢ x → get_or (went loads giver taker bits) x 0 ≡ get_or loads x 0)
went_at loads giver taker bits x l m differ n =
    let first : List ℕ = set loads giver (get_or loads giver 0 - bits) in
    let long : length first ≡ length loads = length-set loads giver (get_or loads giver 0 - bits) in (
      get_or-set_other first taker giver (get_or loads taker 0 + bits) 0 differ ∙ get_or-set_same loads giver (get_or loads giver 0 - bits) 0 l,
      get_or-set_same first taker (get_or loads taker 0 + bits) 0 (omega (arith, long)),
      λ a b. get_or-set_other first taker x (get_or loads taker 0 + bits) 0 (λ e. b (sym e)) ∙ get_or-set_other loads giver x (get_or loads giver 0 - bits) 0 (λ e. a (sym e)),
    )

pub level_after : (rules : Rules) (fixed : List ℕ) (plan : Plan) (loads : List ℕ) (most : ℕ) (from to : Position) → IsLevel rules fixed plan loads most → AreOnPaths rules (length fixed) → OneMayGo rules loads most plan from to
    → IsLevel rules fixed (moved_plan plan from to) (went loads (path_of rules from) (path_of rules to) (bits_in rules plan from)) most
level_after rules fixed plan loads most from to level on one =
    let g : Going rules fixed plan loads most from to = going rules fixed plan loads most from to level on one in
    let b : ℕ = bits_in rules plan from in
    let giver : ℕ = path_of rules from in
    let taker : ℕ = path_of rules to in
    let news : List ℕ = went loads giver taker b in
    let long : length news ≡ length loads = length-set (set loads giver (get_or loads giver 0 - b)) taker (get_or loads taker 0 + b) ∙ length-set loads giver (get_or loads giver 0 - b) in
    let each : (x : ℕ) → x < length loads → get_or news x 0 ≡ path_bits rules fixed (moved_plan plan from to) x = λ x l.
    ⊎_elim (λ (here : giver ≡ x). let e : get_or news giver 0 ≡ path_bits rules fixed (moved_plan plan from to) giver = omega (arith, (went_at loads giver taker b x g.giver g.taker one.may.other_path l).0, g.from_is, g.lost) in
    subst (λ (y : ℕ). get_or news y 0 ≡ path_bits rules fixed (moved_plan plan from to) y) here e)
    (λ (m : giver ≡ x → ⊥). ⊎_elim (λ (there : taker ≡ x). subst (λ (y : ℕ). get_or news y 0 ≡ path_bits rules fixed (moved_plan plan from to) y) there ((went_at loads giver taker b x g.giver g.taker one.may.other_path l).1 ∙ sym g.won))
    (λ (n : taker ≡ x → ⊥). (went_at loads giver taker b x g.giver g.taker one.may.other_path l).2 m n ∙ sym (g.others x l m n))
    (cases_eq taker x))
    (cases_eq giver x) in
    record {
      legal = one.may.legal;
      are = record { long = long ∙ level.are.long; each = λ x l. each x (omega (arith, l, level.are.long)) };
      top = λ x l.
          ⊎_elim (λ (here : giver ≡ x). omega (arith, (went_at loads giver taker b x g.giver g.taker one.may.other_path (omega (arith, l, long))).0, ap (λ y. get_or news y 0) here, g.from_is))
          (λ (m : giver ≡ x → ⊥). ⊎_elim (λ (there : taker ≡ x). omega (arith, (went_at loads giver taker b x g.giver g.taker one.may.other_path (omega (arith, l, long))).1, ap (λ y. get_or news y 0) there, one.may.room))
          (λ (n : taker ≡ x → ⊥). omega (arith, (went_at loads giver taker b x g.giver g.taker one.may.other_path (omega (arith, l, long))).2 m n, level.top x (omega (arith, l, long))))
          (cases_eq taker x))
          (cases_eq giver x);
    }

-- one path fewer has the most bits
pub fewer_after : (rules : Rules) (fixed : List ℕ) (plan : Plan) (loads : List ℕ) (most : ℕ) (from to : Position) → IsLevel rules fixed plan loads most → AreOnPaths rules (length fixed) → OneMayGo rules loads most plan from to
    → count_by (nat_eq most) (went loads (path_of rules from) (path_of rules to) (bits_in rules plan from)) < count_by (nat_eq most) loads
fewer_after rules fixed plan loads most from to level on one =
    let g : Going rules fixed plan loads most from to = going rules fixed plan loads most from to level on one in
    let b : ℕ = bits_in rules plan from in
    let giver : ℕ = path_of rules from in
    let taker : ℕ = path_of rules to in
    let first : List ℕ = set loads giver (get_or loads giver 0 - b) in
    let long : length first ≡ length loads = length-set loads giver (get_or loads giver 0 - b) in
    let same : get_or first taker 0 ≡ get_or loads taker 0 = get_or-set_other loads giver taker (get_or loads giver 0 - b) 0 (λ e. one.may.other_path (sym e)) in
    let one_less = sum_by-set (λ x. one_if (nat_eq most x)) loads giver (get_or loads giver 0 - b) 0 g.giver in
    let as_many = sum_by-set (λ x. one_if (nat_eq most x)) first taker (get_or loads taker 0 + b) 0 (omega (arith, long, g.taker)) in
    let was : one_if (nat_eq most (get_or loads giver 0)) ≡ 1 = ap one_if (eq-eqb most (get_or loads giver 0) (sym g.from_is)) in
    let is : one_if (nat_eq most (get_or loads giver 0 - b)) ≡ 0 = ap one_if (ne_eqb most (get_or loads giver 0 - b) (λ e. omega (arith, e, g.from_is, one.may.some, g.lost))) in
    let was_not : one_if (nat_eq most (get_or first taker 0)) ≡ 0 = ap one_if (ne_eqb most (get_or first taker 0) (λ e. omega (arith, e, same, one.may.room))) in
    let is_not : one_if (nat_eq most (get_or loads taker 0 + b)) ≡ 0 = ap one_if (ne_eqb most (get_or loads taker 0 + b) (λ e. omega (arith, e, one.may.room))) in
    omega (arith, one_less, as_many, was, is, was_not, is_not)

-- ---- the bits of the chains

-- the bits of the chains after a unit went to another one
pub held_after : (rules : Rules) (plan : Plan) (held : List ℕ) (from to : Position) → IsLegal rules plan → AreHeld rules plan held → IsIn plan from → to.chain < length plan.chains → from.chain ≢ to.chain
    → AreHeld rules (moved_plan plan from to) (went held from.chain to.chain (bits_in rules plan from))
held_after rules plan held from to legal are is_in within differ =
    let b : ℕ = bits_in rules plan from in
    let after : Plan = moved_plan plan from to in
    let news : List ℕ = went held from.chain to.chain b in
    let f : from.chain < length rules.chains = omega (arith, is_in.chain, legal.chains) in
    let t : to.chain < length rules.chains = omega (arith, within, legal.chains) in
    let lost : bits_of rules (chain_at after from.chain) + b ≡ bits_of rules (chain_at plan from.chain)
    = ap (λ us. bits_of rules us + b) (moved_source plan from to differ is_in) ∙ sum_by-remove (λ u. (unit_at rules u).bits) (chain_at plan from.chain) from.place 0 is_in.place in
    let won : bits_of rules (chain_at after to.chain) ≡ bits_of rules (chain_at plan to.chain) + b
    = ap (bits_of rules) (moved_target plan from to differ within) ∙ (sum_by-insert (λ u. (unit_at rules u).bits) (chain_at plan to.chain) to.place (unit_in plan from) ∙ omega arith) in
    let at : (c : ℕ) → c < length rules.chains
    → (get_or news from.chain 0 ≡ get_or held from.chain 0 - b) × (get_or news to.chain 0 ≡ get_or held to.chain 0 + b) × (from.chain ≢ c → to.chain ≢ c → get_or news c 0 ≡ get_or held c 0)
    = λ c l. went_at held from.chain to.chain b c (omega (arith, f, are.long)) (omega (arith, t, are.long)) differ (omega (arith, l, are.long)) in
    record {
      long = length-set (set held from.chain (get_or held from.chain 0 - b)) to.chain (get_or held to.chain 0 + b) ∙ length-set held from.chain (get_or held from.chain 0 - b) ∙ are.long;
      each = λ c l.
          ⊎_elim (λ (here : from.chain ≡ c).
          let e : get_or news from.chain 0 ≡ bits_of rules (chain_at after from.chain) = omega (arith, (at c l).0, are.each from.chain f, lost) in
          subst (λ (y : ℕ). get_or news y 0 ≡ bits_of rules (chain_at after y)) here e)
          (λ (m : from.chain ≡ c → ⊥).
          ⊎_elim (λ (there : to.chain ≡ c).
          let e : get_or news to.chain 0 ≡ bits_of rules (chain_at after to.chain) = omega (arith, (at c l).1, are.each to.chain t, won) in
          subst (λ (y : ℕ). get_or news y 0 ≡ bits_of rules (chain_at after y)) there e)
          (λ (n : to.chain ≡ c → ⊥). (at c l).2 m n ∙ are.each c l ∙ ap (bits_of rules) (sym (moved_other plan from to c (λ e. m (sym e)) (λ e. n (sym e)))))
          (cases_eq to.chain c))
          (cases_eq from.chain c);
    }

-- ---- as the code does it

-- the same at plans and bits that are known to be those
pub level_went : (rules : Rules) (fixed : List ℕ) (plan after : Plan) (loads news : List ℕ) (most : ℕ) (from to : Position) → IsLevel rules fixed plan loads most → AreOnPaths rules (length fixed) → OneMayGo rules loads most plan from to
    → after ≡ moved_plan plan from to → news ≡ went loads (path_of rules from) (path_of rules to) (bits_in rules plan from) → IsLevel rules fixed after news most
level_went rules fixed plan after loads news most from to level on one e f =
    subst (λ (q : List ℕ). IsLevel rules fixed after q most) (sym f)
    (subst (λ (p : Plan). IsLevel rules fixed p (went loads (path_of rules from) (path_of rules to) (bits_in rules plan from)) most) (sym e) (level_after rules fixed plan loads most from to level on one))

pub held_went : (rules : Rules) (plan after : Plan) (held news : List ℕ) (from to : Position) → IsLegal rules plan → AreHeld rules plan held → IsIn plan from → to.chain < length plan.chains → from.chain ≢ to.chain
    → after ≡ moved_plan plan from to → news ≡ went held from.chain to.chain (bits_in rules plan from) → AreHeld rules after news
held_went rules plan after held news from to legal are is_in within differ e f =
    subst (λ (q : List ℕ). AreHeld rules after q) (sym f)
    (subst (λ (p : Plan). AreHeld rules p (went held from.chain to.chain (bits_in rules plan from))) (sym e) (held_after rules plan held from to legal are is_in within differ))

-- a chain has no more bits than its path
pub chain_in_path : (rules : Rules) (fixed : List ℕ) (plan : Plan) (c : ℕ) → c < length rules.chains → bits_of rules (chain_at plan c) ≤ path_bits rules fixed plan (rule_at rules c).path
chain_in_path rules fixed plan c l =
    let p : ℕ = (rule_at rules c).path in
    let own : bits_on rules plan p c ≡ bits_of rules (chain_at plan c) = ap (λ b. cond b (bits_of rules (chain_at plan c)) 0) (eq-eqb p p refl) in
    omega (arith, summand_le (length rules.chains) (bits_on rules plan p) c l, own)

-- what is asked where bits pass from chain to chain, and from path to path
pub record PassAsks (rules : Rules) (plan : Plan) (loads held : List ℕ) (most g place t : ℕ) : Type 0 where
  pub giver : (rule_at rules g).path < length loads
  pub taker : (rule_at rules t).path < length loads
  pub some : bits_in rules plan (at_place g place) ≤ get_or loads (rule_at rules g).path 0
  pub is_giver : g < length held
  pub is_taker : t < length held
  pub differ : g ≢ t
  pub held_some : bits_in rules plan (at_place g place) ≤ get_or held g 0
  pub held_fits : get_or held t 0 + bits_in rules plan (at_place g place) ≤ most

pub pass_asks : (rules : Rules) (fixed : List ℕ) (work : Work) (most g place t : ℕ) → IsWork rules fixed work most → AreOnPaths rules (length fixed) → IsIn work.plan (at_place g place) → t < length work.plan.chains
    → (rule_at rules g).path ≢ (rule_at rules t).path → get_or work.paths.items (rule_at rules t).path 0 + bits_in rules work.plan (at_place g place) ≤ most
    → PassAsks rules work.plan work.paths.items work.chains.items most g place t
pass_asks rules fixed work most g place t is on is_in within other room =
    let legal : IsLegal rules work.plan = is.level.legal in
    let f : g < length rules.chains = omega (arith, is_in.chain, legal.chains) in
    let l : t < length rules.chains = omega (arith, within, legal.chains) in
    let bits = sum_by-remove (λ u. (unit_at rules u).bits) (chain_at work.plan g) place 0 is_in.place in
    let giver_load : get_or work.paths.items (rule_at rules g).path 0 ≡ path_bits rules fixed work.plan (rule_at rules g).path = is.level.are.each (rule_at rules g).path (on g f) in
    let taker_load : get_or work.paths.items (rule_at rules t).path 0 ≡ path_bits rules fixed work.plan (rule_at rules t).path = is.level.are.each (rule_at rules t).path (on t l) in
    let own : bits_in rules work.plan (at_place g place) ≤ bits_of rules (chain_at work.plan g) = omega (arith, bits) in
    record {
      giver = omega (arith, on g f, is.level.are.long);
      taker = omega (arith, on t l, is.level.are.long);
      some = omega (arith, own, giver_load, chain_in_path rules fixed work.plan g f);
      is_giver = omega (arith, f, is.held.long);
      is_taker = omega (arith, l, is.held.long);
      differ = λ e. other (ap (λ c. (rule_at rules c).path) e);
      held_some = omega (arith, own, is.held.each g f);
      held_fits = omega (arith, room, taker_load, chain_in_path rules fixed work.plan t l, is.held.each t l);
    }

-- the work after a unit went
pub work_went : (rules : Rules) (fixed : List ℕ) (work work' : Work) (most g place t : ℕ) → IsWork rules fixed work most → AreOnPaths rules (length fixed) → OneMayGo rules work.paths.items most work.plan (at_place g place) (at_place t 0)
    → work'.plan ≡ moved_plan work.plan (at_place g place) (at_place t 0)
    → work'.paths.items ≡ went work.paths.items (rule_at rules g).path (rule_at rules t).path (bits_in rules work.plan (at_place g place))
    → work'.chains.items ≡ went work.chains.items g t (bits_in rules work.plan (at_place g place)) → IsWork rules fixed work' most
work_went rules fixed work work' most g place t is on one e f h = record {
  level = level_went rules fixed work.plan work'.plan work.paths.items work'.paths.items most (at_place g place) (at_place t 0) is.level on one e f;
  held =
      held_went rules work.plan work'.plan work.chains.items work'.chains.items (at_place g place) (at_place t 0) is.level.legal is.held one.is_in one.is_taker
      (λ x. one.may.other_path (ap (λ c. (rule_at rules c).path) x)) e h;
}

pub fewer_went : (rules : Rules) (fixed : List ℕ) (work : Work) (news : List ℕ) (most g place t : ℕ) → IsWork rules fixed work most → AreOnPaths rules (length fixed) → OneMayGo rules work.paths.items most work.plan (at_place g place) (at_place t 0)
    → news ≡ went work.paths.items (rule_at rules g).path (rule_at rules t).path (bits_in rules work.plan (at_place g place)) → count_by (nat_eq most) news < count_by (nat_eq most) work.paths.items
fewer_went rules fixed work news most g place t is on one f =
    subst (λ (q : List ℕ). count_by (nat_eq most) q < count_by (nat_eq most) work.paths.items) (sym f) (fewer_after rules fixed work.plan work.paths.items most (at_place g place) (at_place t 0) is.level on one)
