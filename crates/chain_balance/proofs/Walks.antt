-- What one step of a unit with one bit changes, and that the entries before it stay reached.
use Rattle.std.proofs.Common.{◌≡◌, ◌≢◌, ℕ, ◌+◌, ◌-◌, ◌<◌, ◌≤◌, List, [], ◌∷◌, length, Bool, cond, refl, sym, ap, ◌∙◌, arith, get_or, insert, remove, ⊎_elim, subst, set}
use Rattle.std.specs.Prelude.{nat_eq, count_by}
use Rattle.std.proofs.lemmas.Bool.{cases_eq, ne_eqb, eq-eqb}
use Rattle.std.proofs.lemmas.List.{get_or-set_other, length-set}
use Rattle.std.proofs.lemmas.List.Edits.{length-remove}
use Rattle.std.proofs.lemmas.List.Elements.{All-get_or}
use Rattle.std.proofs.lemmas.List.Sums.{sum_by-remove, sum_by-insert, sum_by-set}
use Rattle.chain_rules.specs.declared.plan.Plan.{Plan}
use Rattle.chain_rules.specs.declared.unit.Rules.{Rules}
use Rattle.chain_rules.specs.Legality.{unit_at, rule_at, chain_at, bits_of, last_of, unit_in, IsLegal, IsIn}
use Rattle.chain_rules.specs.Pins.{KeepsPin}
use Rattle.chain_rules.proofs.Moved.{moved_source, legal_across}
use Rattle.chain_balance.specs.Balance.{bits_on, path_bits, AreOnPaths, HaveOneBit}
use Rattle.chain_balance.specs.declared.work.Work.{Work}
use Rattle.chain_balance.specs.Gains.{AreHeld, IsLevel, IsWork, bits_in, at_place, went}
use Rattle.chain_balance.proofs.Least.{all_in_chain, units_within, chain_bits_one}
use Rattle.chain_balance.proofs.Sums.{summand_le}
use Rattle.chain_balance.proofs.Moves.{last_pushed, moved_other}
use Rattle.chain_balance.proofs.Evens.{from_bits, to_bits, other_bits}
use Rattle.chain_balance.proofs.Loads.{went_at, held_went}
use Rattle.chain_balance.specs.declared.entry.Entry.{Entry}
use Rattle.chain_balance.specs.Steps.{stepped, shifted, CanGive, entry_at, IsReached, AreReached}

-- a unit of a legal plan has one bit
pub one_bit_in : (rules : Rules) (plan : Plan) → HaveOneBit rules → IsLegal rules plan → (c : ℕ) → c < length rules.chains → 0 < length (chain_at plan c) → bits_in rules plan (at_place c 0) ≡ 1
one_bit_in rules plan one legal c l some =
    one (get_or (chain_at plan c) 0 0) (All-get_or (λ u. u < length rules.units) (chain_at plan c) 0 0 some (all_in_chain (λ u. u < length rules.units) plan.chains c (omega (arith, legal.chains, l)) (units_within rules plan legal)))

last_kept : (us : List ℕ) → 2 ≤ length us → last_of (remove us 0) ≡ last_of us
last_kept [] h = absurd (omega arith)
last_kept (u ∷ []) h = absurd (omega arith)
last_kept (u ∷ v ∷ vs) h = sym (last_pushed u (v ∷ vs) (omega arith))

-- the plan stays legal
pub step_legal : (rules : Rules) (plan : Plan) (g t : ℕ) → HaveOneBit rules → IsLegal rules plan → CanGive rules plan g t → g ≢ t → IsLegal rules (stepped plan g t)
step_legal rules plan g t one legal gives differ =
    let us : List ℕ = chain_at plan g in
    let vs : List ℕ = chain_at plan t in
    let u : ℕ = unit_in plan (at_place g 0) in
    let bit : (unit_at rules u).bits ≡ 1 = one_bit_in rules plan one legal g gives.is_giver (omega (arith, gives.spare)) in
    let here : IsIn plan (at_place g 0) = record { chain = omega (arith, legal.chains, gives.is_giver); place = omega (arith, gives.spare) } in
    let there : t < length plan.chains = omega (arith, legal.chains, gives.is_taker) in
    let less : length (remove us 0) + 1 ≡ length us = omega (arith, length-remove us 0 (omega (arith, gives.spare))) in
    let lost = sum_by-remove (λ v. (unit_at rules v).bits) us 0 0 (omega (arith, gives.spare)) in
    let won = sum_by-insert (λ v. (unit_at rules v).bits) vs 0 u in
    let keeps : KeepsPin rules us (last_of (remove us 0)) = λ x e pinned. last_kept us gives.spare ∙ e in
    let keeps' : KeepsPin rules vs (last_of (insert vs 0 u)) = λ x e pinned. last_pushed u vs (legal.not_empty t there) ∙ e in
    legal_across rules plan legal (at_place g 0) (at_place t 0) here there (omega arith) differ gives.partition
    (omega (arith, less, gives.spare), λ b. omega (arith, lost, bit, chain_bits_one rules plan one legal g gives.is_giver, gives.spare), keeps)
    (omega (arith, won, bit, gives.room), keeps')

-- a step between two paths, the second of which has at least two bits fewer than the most
pub record IsStep (rules : Rules) (fixed : List ℕ) (plan : Plan) (loads : List ℕ) (most g t : ℕ) : Type 0 where
  pub one : HaveOneBit rules
  pub on : AreOnPaths rules (length fixed)
  pub level : IsLevel rules fixed plan loads most
  pub gives : CanGive rules plan g t
  pub other : (rule_at rules g).path ≢ (rule_at rules t).path
  pub room : get_or loads (rule_at rules t).path 0 + 2 ≤ most
  pub some : 0 < get_or loads (rule_at rules g).path 0

abbrev pub path_at : Rules → ℕ → ℕ
path_at rules c = (rule_at rules c).path

-- the bits of the paths after it
pub shifted_at : (rules : Rules) (fixed : List ℕ) (plan : Plan) (loads : List ℕ) (most g t : ℕ) → IsStep rules fixed plan loads most g t → (x : ℕ) → x < length loads
    → (get_or (shifted loads (path_at rules g) (path_at rules t)) (path_at rules g) 0 ≡ get_or loads (path_at rules g) 0 - 1) × (get_or (shifted loads (path_at rules g) (path_at rules t)) (path_at rules t) 0 ≡ get_or loads (path_at rules t) 0 + 1)
    × (path_at rules g ≢ x → path_at rules t ≢ x → get_or (shifted loads (path_at rules g) (path_at rules t)) x 0 ≡ get_or loads x 0)
shifted_at rules fixed plan loads most g t s x l =
    went_at loads (path_at rules g) (path_at rules t) 1 x (omega (arith, s.on g s.gives.is_giver, s.level.are.long)) (omega (arith, s.on t s.gives.is_taker, s.level.are.long)) s.other l

pub step_level : (rules : Rules) (fixed : List ℕ) (plan : Plan) (loads : List ℕ) (most g t : ℕ) → IsStep rules fixed plan loads most g t → IsLevel rules fixed (stepped plan g t) (shifted loads (path_at rules g) (path_at rules t)) most
step_level rules fixed plan loads most g t s =
    let legal : IsLegal rules plan = s.level.legal in
    let differ : g ≢ t = λ e. s.other (ap (λ c. (rule_at rules c).path) e) in
    let here : IsIn plan (at_place g 0) = record { chain = omega (arith, legal.chains, s.gives.is_giver); place = omega (arith, s.gives.spare) } in
    let there : t < length plan.chains = omega (arith, legal.chains, s.gives.is_taker) in
    let bit : bits_in rules plan (at_place g 0) ≡ 1 = one_bit_in rules plan s.one legal g s.gives.is_giver (omega (arith, s.gives.spare)) in
    let lost = from_bits rules fixed plan (at_place g 0) (at_place t 0) legal here there s.other in
    let won = to_bits rules fixed plan (at_place g 0) (at_place t 0) legal here there s.other in
    let gp : path_at rules g < length fixed = s.on g s.gives.is_giver in
    let tp : path_at rules t < length fixed = s.on t s.gives.is_taker in
    let news : List ℕ = shifted loads (path_at rules g) (path_at rules t) in
    let first : List ℕ = set loads (path_at rules g) (get_or loads (path_at rules g) 0 - 1) in
    let long : length news ≡ length loads = length-set first (path_at rules t) (get_or loads (path_at rules t) 0 + 1) ∙ length-set loads (path_at rules g) (get_or loads (path_at rules g) 0 - 1) in
    let each : (x : ℕ) → x < length loads → get_or news x 0 ≡ path_bits rules fixed (stepped plan g t) x = λ x l.
    ⊎_elim (λ (e : path_at rules g ≡ x).
    let at : get_or news (path_at rules g) 0 ≡ path_bits rules fixed (stepped plan g t) (path_at rules g) = omega (arith, (shifted_at rules fixed plan loads most g t s x l).0, s.level.are.each (path_at rules g) gp, lost, bit) in
    subst (λ (y : ℕ). get_or news y 0 ≡ path_bits rules fixed (stepped plan g t) y) e at)
    (λ (m : path_at rules g ≡ x → ⊥).
    ⊎_elim (λ (e : path_at rules t ≡ x).
    let at : get_or news (path_at rules t) 0 ≡ path_bits rules fixed (stepped plan g t) (path_at rules t) = omega (arith, (shifted_at rules fixed plan loads most g t s x l).1, s.level.are.each (path_at rules t) tp, won, bit) in
    subst (λ (y : ℕ). get_or news y 0 ≡ path_bits rules fixed (stepped plan g t) y) e at)
    (λ (n : path_at rules t ≡ x → ⊥).
    (shifted_at rules fixed plan loads most g t s x l).2 m n ∙ s.level.are.each x (omega (arith, l, s.level.are.long)) ∙ sym (other_bits rules fixed plan (at_place g 0) (at_place t 0) x legal here there s.other m n))
    (cases_eq (path_at rules t) x))
    (cases_eq (path_at rules g) x) in
    record {
      legal = step_legal rules plan g t s.one legal s.gives differ;
      are = record { long = long ∙ s.level.are.long; each = λ x l. each x (omega (arith, l, s.level.are.long)) };
      top = λ x l.
          let at = shifted_at rules fixed plan loads most g t s x (omega (arith, l, long)) in
          ⊎_elim (λ (e : path_at rules g ≡ x). omega (arith, at.0, ap (λ y. get_or news y 0) e, s.level.top (path_at rules g) (omega (arith, gp, s.level.are.long))))
          (λ (m : path_at rules g ≡ x → ⊥).
          ⊎_elim (λ (e : path_at rules t ≡ x). omega (arith, at.1, ap (λ y. get_or news y 0) e, s.room))
          (λ (n : path_at rules t ≡ x → ⊥). omega (arith, at.2 m n, s.level.top x (omega (arith, l, long))))
          (cases_eq (path_at rules t) x))
          (cases_eq (path_at rules g) x);
    }

abbrev pub one_if : Bool → ℕ
one_if b = cond b 1 0

-- how many paths have the most bits after it
pub step_counts : (rules : Rules) (fixed : List ℕ) (plan : Plan) (loads : List ℕ) (most g t : ℕ) → IsStep rules fixed plan loads most g t
    → count_by (nat_eq most) (shifted loads (path_at rules g) (path_at rules t)) + one_if (nat_eq most (get_or loads (path_at rules g) 0)) ≡ count_by (nat_eq most) loads
step_counts rules fixed plan loads most g t s =
    let gp : path_at rules g < length loads = omega (arith, s.on g s.gives.is_giver, s.level.are.long) in
    let tp : path_at rules t < length loads = omega (arith, s.on t s.gives.is_taker, s.level.are.long) in
    let x : ℕ = get_or loads (path_at rules g) 0 in
    let first : List ℕ = set loads (path_at rules g) (x - 1) in
    let y : ℕ = get_or loads (path_at rules t) 0 in
    let long : length first ≡ length loads = length-set loads (path_at rules g) (x - 1) in
    let same : get_or first (path_at rules t) 0 ≡ y = get_or-set_other loads (path_at rules g) (path_at rules t) (x - 1) 0 (λ e. s.other (sym e)) in
    let a = sum_by-set (λ z. one_if (nat_eq most z)) loads (path_at rules g) (x - 1) 0 gp in
    let b = sum_by-set (λ z. one_if (nat_eq most z)) first (path_at rules t) (y + 1) 0 (omega (arith, long, tp)) in
    let is : one_if (nat_eq most (x - 1)) ≡ 0 = ap one_if (ne_eqb most (x - 1) (λ e. omega (arith, e, s.some, s.level.top (path_at rules g) gp))) in
    let was_not : one_if (nat_eq most (get_or first (path_at rules t) 0)) ≡ 0 = ap one_if (ne_eqb most (get_or first (path_at rules t) 0) (λ e. omega (arith, e, same, s.room))) in
    let is_not : one_if (nat_eq most (y + 1)) ≡ 0 = ap one_if (ne_eqb most (y + 1) (λ e. omega (arith, e, s.room))) in
    omega (arith, a, b, is, was_not, is_not)

-- the chains after it
other_chain : (plan : Plan) (g t c : ℕ) → c ≢ g → c ≢ t → chain_at (stepped plan g t) c ≡ chain_at plan c
other_chain plan g t c m n = moved_other plan (at_place g 0) (at_place t 0) c m n

-- the entries up to the parent stay reached
pub reached_after : (rules : Rules) (fixed : List ℕ) (plan : Plan) (loads : List ℕ) (most : ℕ) (entries : List Entry) (i : ℕ) → IsLegal rules plan → AreReached rules plan entries i → 0 < i
    → AreReached rules (stepped plan (entry_at entries i).giver (entry_at entries i).taker) entries (entry_at entries i).parent
reached_after rules fixed plan loads most entries i legal are some =
    let e : Entry = entry_at entries i in
    let own : IsReached rules plan entries i = are.each i some (omega arith) in
    let p : ℕ = e.parent in
    let g : ℕ = e.giver in
    let t : ℕ = e.taker in
    let differ : g ≢ t = λ x. are.apart p i own.before are.within (sym own.on_parent ∙ ap (λ c. (rule_at rules c).path) x ∙ own.on_own) in
    let here : IsIn plan (at_place g 0) = record { chain = omega (arith, legal.chains, own.gives.is_giver); place = omega (arith, own.gives.spare) } in
    record {
      within = omega (arith, own.before, are.within);
      apart = are.apart;
      each = λ k l m.
          let it : IsReached rules plan entries k = are.each k l (omega (arith, m, own.before)) in
          let kg : ℕ = (entry_at entries k).giver in
          let kt : ℕ = (entry_at entries k).taker in
          let kp : ℕ = (entry_at entries k).parent in
          let not_g : kg ≢ g = λ x. are.apart kp p (omega (arith, it.before, m)) (omega (arith, own.before, are.within)) (sym it.on_parent ∙ ap (λ c. (rule_at rules c).path) x ∙ own.on_parent) in
          let not_t : kg ≢ t = λ x. are.apart kp i (omega (arith, it.before, m, own.before)) are.within (sym it.on_parent ∙ ap (λ c. (rule_at rules c).path) x ∙ own.on_own) in
          let kt_not_t : kt ≢ t = λ x. are.apart k i (omega (arith, m, own.before)) are.within (sym it.on_own ∙ ap (λ c. (rule_at rules c).path) x ∙ own.on_own) in
          let fewer : bits_of rules (chain_at (stepped plan g t) kt) ≤ bits_of rules (chain_at plan kt) =
          ⊎_elim (λ (x : kt ≡ g).
          let lost : bits_of rules (chain_at (stepped plan g t) g) ≤ bits_of rules (chain_at plan g) = omega (arith, ap (bits_of rules) (moved_source plan (at_place g 0) (at_place t 0) differ here), sum_by-remove (λ v. (unit_at rules v).bits) (chain_at plan g) 0 0 (omega (arith, own.gives.spare))) in
          subst (λ (c : ℕ). bits_of rules (chain_at (stepped plan g t) c) ≤ bits_of rules (chain_at plan c)) (sym x) lost)
          (λ (n : kt ≡ g → ⊥). omega (arith, ap (bits_of rules) (other_chain plan g t kt n kt_not_t)))
          (cases_eq kt g) in
          record {
            before = it.before;
            gives = record {
              is_giver = it.gives.is_giver;
              is_taker = it.gives.is_taker;
              partition = it.gives.partition;
              spare = omega (arith, ap length (other_chain plan g t kg not_g not_t), it.gives.spare);
              room = omega (arith, fewer, it.gives.room);
            };
            on_parent = it.on_parent;
            on_own = it.on_own;
          };
    }

-- ---- one step of the walk

-- a path with a spare unit has bits
path_some : (rules : Rules) (fixed : List ℕ) (plan : Plan) (g : ℕ) → HaveOneBit rules → IsLegal rules plan → g < length rules.chains → 2 ≤ length (chain_at plan g) → 0 < path_bits rules fixed plan (path_at rules g)
path_some rules fixed plan g one legal l spare =
    let own : bits_on rules plan (path_at rules g) g ≡ bits_of rules (chain_at plan g) = ap (λ b. cond b (bits_of rules (chain_at plan g)) 0) (eq-eqb (path_at rules g) (path_at rules g) refl) in
    omega (arith, summand_le (length rules.chains) (bits_on rules plan (path_at rules g)) g l, own, chain_bits_one rules plan one legal g l, spare)

-- what the walk knows before a step
pub record IsWalk (rules : Rules) (fixed : List ℕ) (plan : Plan) (loads : List ℕ) (most : ℕ) (entries : List Entry) (i : ℕ) : Type 0 where
  pub one : HaveOneBit rules
  pub on : AreOnPaths rules (length fixed)
  pub level : IsLevel rules fixed plan loads most
  pub reached : AreReached rules plan entries i
  pub some : 0 < i
  pub hole : get_or loads (entry_at entries i).path 0 + 2 ≤ most

pub is_step : (rules : Rules) (fixed : List ℕ) (plan : Plan) (loads : List ℕ) (most : ℕ) (entries : List Entry) (i : ℕ) → IsWalk rules fixed plan loads most entries i → IsStep rules fixed plan loads most (entry_at entries i).giver (entry_at entries i).taker
is_step rules fixed plan loads most entries i w =
    let own : IsReached rules plan entries i = w.reached.each i w.some (omega arith) in
    let g : ℕ = (entry_at entries i).giver in
    record {
      one = w.one;
      on = w.on;
      level = w.level;
      gives = own.gives;
      other = λ e. w.reached.apart (entry_at entries i).parent i own.before w.reached.within (sym own.on_parent ∙ e ∙ own.on_own);
      room = omega (arith, ap (λ x. get_or loads x 0) own.on_own, w.hole);
      some = omega (arith, w.level.are.each (path_at rules g) (w.on g own.gives.is_giver), path_some rules fixed plan g w.one w.level.legal own.gives.is_giver own.gives.spare);
    }

-- and after it
pub record AfterStep (rules : Rules) (fixed : List ℕ) (plan' : Plan) (loads loads' : List ℕ) (most : ℕ) (entries : List Entry) (i : ℕ) : Type 0 where
  pub level : IsLevel rules fixed plan' loads' most
  pub reached : AreReached rules plan' entries (entry_at entries i).parent
  pub counts : count_by (nat_eq most) loads' + one_if (nat_eq most (get_or loads (path_at rules (entry_at entries i).giver) 0)) ≡ count_by (nat_eq most) loads
  pub hole : get_or loads (path_at rules (entry_at entries i).giver) 0 ≢ most → get_or loads' (entry_at entries (entry_at entries i).parent).path 0 + 2 ≤ most
  pub top : get_or loads (path_at rules (entry_at entries i).giver) 0 ≢ most → get_or loads (entry_at entries 0).path 0 ≡ most → (entry_at entries 0).path < length loads → get_or loads' (entry_at entries 0).path 0 ≡ most

pub after_step : (rules : Rules) (fixed : List ℕ) (plan plan' : Plan) (loads loads' : List ℕ) (most : ℕ) (entries : List Entry) (i : ℕ) → IsWalk rules fixed plan loads most entries i
    → plan' ≡ stepped plan (entry_at entries i).giver (entry_at entries i).taker → loads' ≡ shifted loads (path_at rules (entry_at entries i).giver) (path_at rules (entry_at entries i).taker)
    → AfterStep rules fixed plan' loads loads' most entries i
after_step rules fixed plan plan' loads loads' most entries i w e f =
    let g : ℕ = (entry_at entries i).giver in
    let t : ℕ = (entry_at entries i).taker in
    let own : IsReached rules plan entries i = w.reached.each i w.some (omega arith) in
    let s : IsStep rules fixed plan loads most g t = is_step rules fixed plan loads most entries i w in
    let gp : path_at rules g < length loads = omega (arith, s.on g s.gives.is_giver, s.level.are.long) in
    let at_g : get_or loads' (path_at rules g) 0 ≡ get_or loads (path_at rules g) 0 - 1 = ap (λ q. get_or q (path_at rules g) 0) f ∙ (shifted_at rules fixed plan loads most g t s (path_at rules g) gp).0 in
    record {
      level = subst (λ (p : Plan). IsLevel rules fixed p loads' most) (sym e) (subst (λ (q : List ℕ). IsLevel rules fixed (stepped plan g t) q most) (sym f) (step_level rules fixed plan loads most g t s));
      reached = subst (λ (p : Plan). AreReached rules p entries (entry_at entries i).parent) (sym e) (reached_after rules fixed plan loads most entries i w.level.legal w.reached w.some);
      counts = ap (λ q. count_by (nat_eq most) q + one_if (nat_eq most (get_or loads (path_at rules g) 0))) f ∙ step_counts rules fixed plan loads most g t s;
      hole = λ n. omega (arith, at_g, ap (λ x. get_or loads' x 0) own.on_parent, n, s.level.top (path_at rules g) gp, s.some);
      top = λ n h l.
          ap (λ q. get_or q (entry_at entries 0).path 0) f
          ∙ (shifted_at rules fixed plan loads most g t s (entry_at entries 0).path l).2 (λ x. n (ap (λ y. get_or loads y 0) x ∙ h)) (λ x. omega (arith, ap (λ y. get_or loads y 0) x, h, s.room))
          ∙ h;
    }

-- ---- the same for a whole work

-- what is asked of a move along an entry
pub record MoveAsks (rules : Rules) (plan : Plan) (loads : List ℕ) (most g t : ℕ) : Type 0 where
  pub from : IsIn plan (at_place g 0)
  pub taker : t < length plan.chains
  pub other : path_at rules g ≢ path_at rules t
  pub bit : bits_in rules plan (at_place g 0) ≡ 1
  pub room : get_or loads (path_at rules t) 0 + bits_in rules plan (at_place g 0) ≤ most

pub move_asks : (rules : Rules) (fixed : List ℕ) (plan : Plan) (loads : List ℕ) (most : ℕ) (entries : List Entry) (i : ℕ) → IsWalk rules fixed plan loads most entries i → MoveAsks rules plan loads most (entry_at entries i).giver (entry_at entries i).taker
move_asks rules fixed plan loads most entries i w =
    let g : ℕ = (entry_at entries i).giver in
    let t : ℕ = (entry_at entries i).taker in
    let s : IsStep rules fixed plan loads most g t = is_step rules fixed plan loads most entries i w in
    let legal : IsLegal rules plan = w.level.legal in
    let bit : bits_in rules plan (at_place g 0) ≡ 1 = one_bit_in rules plan w.one legal g s.gives.is_giver (omega (arith, s.gives.spare)) in
    record {
      from = record { chain = omega (arith, legal.chains, s.gives.is_giver); place = omega (arith, s.gives.spare) };
      taker = omega (arith, legal.chains, s.gives.is_taker);
      other = s.other;
      bit = bit;
      room = omega (arith, bit, s.room);
    }

-- what is known after the move
pub record AfterMove (rules : Rules) (fixed : List ℕ) (work work' : Work) (most : ℕ) (entries : List Entry) (i : ℕ) : Type 0 where
  pub is : IsWork rules fixed work' most
  pub step : AfterStep rules fixed work'.plan work.paths.items work'.paths.items most entries i

pub after_move : (rules : Rules) (fixed : List ℕ) (work work' : Work) (most : ℕ) (entries : List Entry) (i : ℕ) → IsWalk rules fixed work.plan work.paths.items most entries i → AreHeld rules work.plan work.chains.items
    → work'.plan ≡ stepped work.plan (entry_at entries i).giver (entry_at entries i).taker
    → work'.paths.items ≡ went work.paths.items (path_at rules (entry_at entries i).giver) (path_at rules (entry_at entries i).taker) (bits_in rules work.plan (at_place (entry_at entries i).giver 0))
    → work'.chains.items ≡ went work.chains.items (entry_at entries i).giver (entry_at entries i).taker (bits_in rules work.plan (at_place (entry_at entries i).giver 0))
    → AfterMove rules fixed work work' most entries i
after_move rules fixed work work' most entries i w held e f h =
    let g : ℕ = (entry_at entries i).giver in
    let t : ℕ = (entry_at entries i).taker in
    let asks : MoveAsks rules work.plan work.paths.items most g t = move_asks rules fixed work.plan work.paths.items most entries i w in
    let differ : g ≢ t = λ x. asks.other (ap (λ c. (rule_at rules c).path) x) in
    let step : AfterStep rules fixed work'.plan work.paths.items work'.paths.items most entries i
    = after_step rules fixed work.plan work'.plan work.paths.items work'.paths.items most entries i w e (f ∙ ap (went work.paths.items (path_at rules g) (path_at rules t)) asks.bit) in
    record {
      is = record {
        level = step.level;
        held = held_went rules work.plan work'.plan work.chains.items work'.chains.items (at_place g 0) (at_place t 0) w.level.legal held asks.from asks.taker differ e h;
      };
      step = step;
    }
