-- Which units can leave their chains, and when one of them may go to the front of another chain.
use Rattle.std.proofs.Common.{◌≡◌, ◌≢◌, ℕ, ◌+◌, ◌-◌, ◌<◌, ◌≤◌, List, [], ◌∷◌, length, get_or, set, remove, insert, IsTrue, Contains, Some, refl, sym, ap, ◌∙◌, subst, arith, zero, suc, ⊎_elim, eqb}
use Rattle.std.specs.List.{concat, slice_get, IsDistinct}
use Rattle.std.specs.List.Sorted.{IsPermutation}
use Rattle.std.proofs.lemmas.Bool.{cases_lt}
use Rattle.std.proofs.lemmas.Option.{slice_get-get_or}
use Rattle.std.proofs.lemmas.List.{length-set, get_or_default}
use Rattle.std.proofs.lemmas.List.Edits.{length-remove}
use Rattle.std.proofs.lemmas.List.Sums.{sum_by-remove, sum_by-insert}
use Rattle.std.proofs.lemmas.Map.Keys.{IsDistinct-IsPermutation}
use Rattle.chain_rules.specs.declared.plan.Plan.{Plan}
use Rattle.chain_rules.specs.declared.unit.Rules.{Rules}
use Rattle.chain_rules.specs.Legality.{unit_at, rule_at, chain_at, bits_of, last_of, unit_in, IsLegal, IsIn}
use Rattle.chain_rules.specs.Pins.{KeepsPin}
use Rattle.chain_rules.proofs.Concats.{permutation_of_taken}
use Rattle.chain_rules.proofs.Distinct.{distinct_from_permutation, distinct_parts, Contains-concat}
use Rattle.chain_rules.proofs.Steps.{with_chain_same}
use Rattle.chain_rules.proofs.Moved.{AllowsMove, CanLose, legal_across, allowed_across}
use Rattle.chain_balance.specs.Gains.{AreHeld, MayGo, OneMayGo, CanLeave, bits_in, at_place}
use Rattle.chain_balance.specs.Rooms.{room_at}
use Rattle.chain_balance.proofs.Moves.{last_pushed}

-- ---- a unit of a legal plan stands once

eqb_flips : (x y : ℕ) → eqb x y ≡ eqb y x
eqb_flips x y = grind (arith)

contains_got : (us : List ℕ) (k x : ℕ) → slice_get us k ≡ Some x → Contains us x
contains_got [] k x e = cc
contains_got (u ∷ us) zero x e = (zero, omega arith, cc)
contains_got (u ∷ us) (suc k) x e = let m = contains_got us k x e in (suc m.0, omega arith, m.2)

not_again : (rules : Rules) (plan : Plan) → IsLegal rules plan → (c place : ℕ) → c < length plan.chains → place < length (chain_at plan c) → Contains (remove (chain_at plan c) place) (get_or (chain_at plan c) place 0) → ⊥
not_again rules plan legal c place within below m =
    let us : List ℕ = chain_at plan c in
    let u : ℕ = get_or (chain_at plan c) place 0 in
    let rest : List ℕ = remove (chain_at plan c) place in
    let others : List ℕ = concat (set plan.chains c rest) in
    let p : IsPermutation (concat plan.chains) (u ∷ others) = permutation_of_taken plan.chains c place u within below (get_or_default us place 0 u below) in
    let d : IsDistinct eqb (u ∷ others) = IsDistinct-IsPermutation eqb eqb_flips (concat plan.chains) (u ∷ others) p (distinct_from_permutation (length rules.units) (concat plan.chains) legal.once) in
    let there : c < length (set plan.chains c rest) = omega (arith, length-set plan.chains c rest) in
    distinct_parts (u ∷ []) others u d (zero, omega arith, refl) (Contains-concat (set plan.chains c rest) c u there (subst (λ (ws : List ℕ). Contains ws u) (sym (with_chain_same plan c rest within)) m))

-- ---- the last unit where another one leaves

last_removed : (us : List ℕ) (k : ℕ) → k + 1 < length us → last_of (remove us k) ≡ last_of us
last_removed [] k h = absurd (omega arith)
last_removed (u ∷ []) k h = absurd (omega arith)
last_removed (u ∷ v ∷ vs) zero h = sym (last_pushed u (v ∷ vs) (omega arith))
last_removed (u ∷ v ∷ vs) (suc k) h =
    last_pushed u (remove (v ∷ vs) k) (omega (arith, length-remove (v ∷ vs) k (omega arith)))
    ∙ last_removed (v ∷ vs) k (omega arith)
    ∙ sym (last_pushed u (v ∷ vs) (omega arith))

-- what can leave is what the rules let a chain lose
lose_of : (rules : Rules) (plan : Plan) (giver room place : ℕ) → CanLeave rules plan giver room place → CanLose rules (rule_at rules giver).keeps_bit (chain_at plan giver) place
lose_of rules plan giver room place can =
    let us : List ℕ = chain_at plan giver in
    let u : ℕ = unit_in plan (at_place giver place) in
    let bits : bits_of rules (remove us place) + (unit_at rules u).bits ≡ bits_of rules us = sum_by-remove (λ v. (unit_at rules v).bits) us place 0 can.is_in in
    let keeps : KeepsPin rules us (last_of (remove us place)) = λ x e pinned.
    ⊎_elim (λ (before : place + 1 < length us). last_removed us place before ∙ e)
    (λ (last : length us ≤ place + 1).
    let top : length us - 1 ≡ place = omega (arith, can.is_in, last) in
    let at : Some u ≡ Some x = sym (slice_get-get_or us place 0 can.is_in) ∙ ap (slice_get us) (sym top) ∙ e in
    let same : u ≡ x = cc in
    absurd (omega (arith, can.free (subst (λ (v : ℕ). IsTrue (unit_at rules v).pinned) (sym same) pinned), last)))
    (cases_lt (place + 1) (length us)) in
    (omega (arith, length-remove us place can.is_in, can.spare), λ b. omega (arith, bits, can.keeps b), keeps)

leave_of : (rules : Rules) (plan : Plan) (giver room place : ℕ) → IsLegal rules plan → giver < length plan.chains → place < length (chain_at plan giver) → CanLose rules (rule_at rules giver).keeps_bit (chain_at plan giver) place
    → 0 < bits_in rules plan (at_place giver place) → bits_in rules plan (at_place giver place) ≤ room → CanLeave rules plan giver room place
leave_of rules plan giver room place legal within below lose some fits =
    let us : List ℕ = chain_at plan giver in
    let u : ℕ = unit_in plan (at_place giver place) in
    let bits : bits_of rules (remove us place) + (unit_at rules u).bits ≡ bits_of rules us = sum_by-remove (λ v. (unit_at rules v).bits) us place 0 below in
    record {
      is_in = below;
      spare = omega (arith, length-remove us place below, lose.0);
      some = some;
      fits = fits;
      keeps = λ b. omega (arith, bits, lose.1 b);
      free = λ pinned.
          ⊎_elim (λ (before : place + 1 < length us). before)
          (λ (last : length us ≤ place + 1).
          let top : length us - 1 ≡ place = omega (arith, below, last) in
          let at : last_of us ≡ Some u = ap (slice_get us) top ∙ slice_get-get_or us place 0 below in
          absurd (not_again rules plan legal giver place within below (contains_got (remove us place) (length (remove us place) - 1) u (lose.2 u at pinned))))
          (cases_lt (place + 1) (length us));
    }

-- ---- a unit that may go

-- two chains of one partition, and the bits that are kept
pub record Pair (rules : Rules) (plan : Plan) (loads held : List ℕ) (giver taker : ℕ) : Type 0 where
  pub legal : IsLegal rules plan
  pub are_held : AreHeld rules plan held
  pub is_giver : giver < length rules.chains
  pub is_taker : taker < length rules.chains

pub may_go_to : (rules : Rules) (plan : Plan) (loads held : List ℕ) (most giver taker place room : ℕ) → Pair rules plan loads held giver taker → (rule_at rules giver).partition ≡ (rule_at rules taker).partition
    → get_or loads (rule_at rules giver).path 0 ≡ most → room_at rules loads held most taker ≡ room → CanLeave rules plan giver room place → OneMayGo rules loads most plan (at_place giver place) (at_place taker 0)
may_go_to rules plan loads held most giver taker place room pair same top is can =
    let legal : IsLegal rules plan = pair.legal in
    let us : List ℕ = chain_at plan taker in
    let u : ℕ = unit_in plan (at_place giver place) in
    let less : get_or loads (rule_at rules taker).path 0 + (unit_at rules u).bits < most = omega (arith, is, can.some, can.fits) in
    let fits : get_or held taker 0 + (unit_at rules u).bits ≤ (rule_at rules taker).bound = omega (arith, is, can.some, can.fits) in
    let other : (rule_at rules giver).path ≢ (rule_at rules taker).path = λ e. omega (arith, ap (λ p. get_or loads p 0) e, top, less) in
    let differ : giver ≢ taker = λ e. other (ap (λ c. (rule_at rules c).path) e) in
    let here : IsIn plan (at_place giver place) = record { chain = omega (arith, legal.chains, pair.is_giver); place = can.is_in } in
    let there : taker < length plan.chains = omega (arith, legal.chains, pair.is_taker) in
    let won = sum_by-insert (λ v. (unit_at rules v).bits) us 0 u in
    let keeps : KeepsPin rules us (last_of (insert us 0 u)) = λ x e pinned. last_pushed u us (legal.not_empty taker there) ∙ e in
    record {
      is_in = here;
      is_taker = there;
      in_front = refl;
      may = record {
        other_path = other;
        is_top = top;
        some = can.some;
        room = less;
        legal = legal_across rules plan legal (at_place giver place) (at_place taker 0) here there (omega arith) differ same (lose_of rules plan giver room place can) (omega (arith, won, pair.are_held.each taker pair.is_taker, fits), keeps);
      };
    }

-- what is known of a unit that may go
pub record Goes (rules : Rules) (plan : Plan) (loads held : List ℕ) (most giver taker place : ℕ) : Type 0 where
  pub same : (rule_at rules giver).partition ≡ (rule_at rules taker).partition
  pub is_top : get_or loads (rule_at rules giver).path 0 ≡ most
  pub can : CanLeave rules plan giver (room_at rules loads held most taker) place

pub goes : (rules : Rules) (plan : Plan) (loads held : List ℕ) (most giver taker place : ℕ) → Pair rules plan loads held giver taker → place < length (chain_at plan giver) → MayGo rules loads most plan (at_place giver place) (at_place taker 0) → Goes rules plan loads held most giver taker place
goes rules plan loads held most giver taker place pair below may =
    let legal : IsLegal rules plan = pair.legal in
    let us : List ℕ = chain_at plan taker in
    let u : ℕ = unit_in plan (at_place giver place) in
    let differ : giver ≢ taker = λ e. may.other_path (ap (λ c. (rule_at rules c).path) e) in
    let here : IsIn plan (at_place giver place) = record { chain = omega (arith, legal.chains, pair.is_giver); place = below } in
    let there : taker < length plan.chains = omega (arith, legal.chains, pair.is_taker) in
    let allowed : AllowsMove rules plan (at_place giver place) (at_place taker 0) = allowed_across rules plan legal (at_place giver place) (at_place taker 0) here there (omega arith) differ may.legal in
    let won = sum_by-insert (λ v. (unit_at rules v).bits) us 0 u in
    let fits : (unit_at rules u).bits ≤ room_at rules loads held most taker = omega (arith, may.room, won, allowed.gain.0, pair.are_held.each taker pair.is_taker) in
    record {
      same = allowed.same;
      is_top = may.is_top;
      can = leave_of rules plan giver (room_at rules loads held most taker) place legal here.chain below allowed.lose may.some fits;
    }

-- more room lets no fewer leave
pub with_room : (rules : Rules) (plan : Plan) (giver room more place : ℕ) → room ≤ more → CanLeave rules plan giver room place → CanLeave rules plan giver more place
with_room rules plan giver room more place l can = record {
  is_in = can.is_in;
  spare = can.spare;
  some = can.some;
  fits = omega (arith, can.fits, l);
  keeps = can.keeps;
  free = can.free;
}
