-- What the kept bits refuse, no legal step does.
use Rattle.std.proofs.Common.{◌≡◌, ◌≢◌, ℕ, ◌<◌, ◌≤◌, Bool, IsTrue, not, true, false, refl, List, length, get_or, set, insert, remove, sym, ap, ◌∙◌, arith, subst, inl, inr}
use Rattle.std.specs.List.Sorted.{IsPermutation}
use Rattle.std.proofs.lemmas.Bool.{cases_eq}
use Rattle.std.proofs.lemmas.List.{length-set, get_or-set_same, get_or-set_other}
use Rattle.std.proofs.lemmas.List.Edits.{length-remove}
use Rattle.std.proofs.lemmas.List.Sums.{sum_by-insert, sum_by-remove, sum_by-set}
use Rattle.std.proofs.lemmas.List.Sorted.{sum_by-IsPermutation}
use Rattle.chain_rules.specs.Legality.{IsIn, IsLegal, bits_of, chain_at, moved_plan, replaced, swapped_plan, taken_out, unit_at, unit_in}
use Rattle.chain_rules.specs.declared.plan.Plan.{Plan}
use Rattle.chain_rules.specs.declared.unit.Position.{Position}
use Rattle.chain_rules.specs.declared.unit.Rules.{Rules}
use Rattle.chain_rules.proofs.Moved.{AllowsMove, allowed_across}
use Rattle.chain_rules.proofs.Steps.{with_chain_other}
use Rattle.chain_rules.proofs.Swapped.{allowed_swap}
use Rattle.wire_cost.specs.declared.ends.Ends.{Ends}
use Rattle.order_search.specs.Trials.{NoMoveTo, at}
use Rattle.order_search.proofs.Legal.{chain_within}
use Rattle.partition_moves.specs.Fits.{FitEachOther, FitsIn, IsShut, bits_at}
use Rattle.partition_moves.specs.Quiet.{NoMoveBetween}
use Rattle.partition_moves.specs.Roomy.{AreHeld, AreRoomyFor, IsKept, IsLeast, RoomyPlan, held_in}
use Rattle.partition_moves.proofs.Landing.{length_other}
use Rattle.partition_moves.proofs.Spared.{roomy_still}

-- no unit has more bits than its chain
pub unit_held : (rules : Rules) (p : Plan) (x : Position) → IsIn p x → bits_at rules p x ≤ bits_of rules (chain_at p x.chain)
unit_held rules p x h = omega (arith, sum_by-remove (λ u. (unit_at rules u).bits) (chain_at p x.chain) x.place 0 h.place)

fits_if_allowed : (rules : Rules) (p : Plan) (c i d j : ℕ) → IsLegal rules p → c < length p.chains → i < length (chain_at p c) → AllowsMove rules p (at c i) (at d j) → FitsIn rules p (at c i) d
fits_if_allowed rules p c i d j legal hc hi allows =
    let without = sum_by-remove (λ u. (unit_at rules u).bits) (chain_at p c) i 0 hi in
    let with = sum_by-insert (λ u. (unit_at rules u).bits) (chain_at p d) j (unit_in p (at c i)) in
    record {
      leaves = record {
        keeps_bit = λ b. omega (arith, without, allows.lose.1 b);
        bounded = omega (arith, without, legal.bounded c hc);
      };
      enters = omega (arith, with, allows.gain.0);
    }

-- where a unit doesn't fit, no move of it is a gain
pub no_move_unfit : (rules : Rules) (e : Ends) (p : Plan) (c i d : ℕ) → IsLegal rules p → c < length p.chains → i < length (chain_at p c) → d < length p.chains → c ≢ d → ¬ FitsIn rules p (at c i) d → NoMoveTo rules e p c i d
no_move_unfit rules e p c i d legal hc hi hd n not j h g =
    not (fits_if_allowed rules p c i d j legal hc hi (allowed_across rules p legal (at c i) (at d j) (record { chain = hc; place = hi }) hd (omega (arith, length_other p c i d n, h)) n g.legal))

-- nor between two chains that are shut
pub no_move_shut : (rules : Rules) (e : Ends) (p : Plan) (c d least : ℕ) → IsLegal rules p → c < length p.chains → d < length p.chains → c ≢ d → IsLeast rules least → IsShut rules p c d least → NoMoveBetween rules e p c d
no_move_shut rules e p c d least legal hc hd n low shut i hi j h g =
    let allows = allowed_across rules p legal (at c i) (at d j) (record { chain = hc; place = hi }) hd (omega (arith, length_other p c i d n, h)) n g.legal in
    let fits = fits_if_allowed rules p c i d j legal hc hi allows in
    elim shut [
      | inl one ↦ absurd (omega (arith, one, length-remove (chain_at p c) i hi, allows.lose.0))
      | inr full ↦ absurd (omega (arith, full, fits.enters, low (get_or (chain_at p c) i 0) (chain_within rules p c hc legal i hi)))
    ]

-- an exchange that is legal fits
pub swap_fits : (rules : Rules) (p : Plan) (a b : Position) → IsLegal rules p → IsIn p a → IsIn p b → a.chain ≢ b.chain → IsLegal rules (swapped_plan p a b) → FitEachOther rules p a b
swap_fits rules p a b legal ha hb n new =
    let allows = allowed_swap rules p legal a b ha hb n new in
    let one = sum_by-set (λ u. (unit_at rules u).bits) (chain_at p a.chain) a.place (unit_in p b) 0 ha.place in
    let two = sum_by-set (λ u. (unit_at rules u).bits) (chain_at p b.chain) b.place (unit_in p a) 0 hb.place in
    let in_a = unit_held rules p a ha in
    let in_b = unit_held rules p b hb in
    record {
      first = record { keeps_bit = λ k. omega (arith, one, in_a, allows.first.0 k); bounded = omega (arith, one, in_a, allows.first.1) };
      second = record { keeps_bit = λ k. omega (arith, two, in_b, allows.second.0 k); bounded = omega (arith, two, in_b, allows.second.1) };
    }

-- the kept bits where those of two chains were counted anew
pub held_anew : (rules : Rules) (p q : Plan) (bits : List ℕ) (c d : ℕ) → AreHeld rules p bits → length q.chains ≡ length p.chains → c < length p.chains → d < length p.chains
    → ((e : ℕ) → e ≢ c → e ≢ d → chain_at q e ≡ chain_at p e) → AreHeld rules q (set (set bits c (bits_of rules (chain_at q c))) d (bits_of rules (chain_at q d)))
held_anew rules p q bits c d held long hc hd others =
    let one : List ℕ = set bits c (bits_of rules (chain_at q c)) in
    let n = length-set bits c (bits_of rules (chain_at q c)) in
    record {
      counts = omega (arith, length-set one d (bits_of rules (chain_at q d)), n, held.counts, long);
      each = λ e h. elim (cases_eq e d) [
        | inl x ↦ subst (λ (k : ℕ). held_in (set one d (bits_of rules (chain_at q d))) k ≡ bits_of rules (chain_at q k)) (sym x) (get_or-set_same one d (bits_of rules (chain_at q d)) 0 (omega (arith, n, held.counts, hd)))
        | inr x ↦ get_or-set_other one d e (bits_of rules (chain_at q d)) 0 x ∙ elim (cases_eq e c) [
          | inl y ↦ subst (λ (k : ℕ). held_in one k ≡ bits_of rules (chain_at q k)) (sym y) (get_or-set_same bits c (bits_of rules (chain_at q c)) 0 (omega (arith, held.counts, hc)))
          | inr y ↦ get_or-set_other bits c e (bits_of rules (chain_at q c)) 0 y ∙ held.each e (omega (arith, long, h)) ∙ ap (λ (us : List ℕ). bits_of rules us) (sym (others e y x))
        ]
      ];
    }

pub not_not : (b : Bool) → ¬ IsTrue (not b) → IsTrue b
not_not true h = refl
not_not false h = absurd (h refl)

abbrev pub bits_set : Rules → List ℕ → Plan → ℕ → List ℕ
bits_set rules bits p c = set bits c (bits_of rules (chain_at p c))

-- a plan with two chains counted anew after a step that changed no other
pub kept_anew : (rules : Rules) (w x y z : RoomyPlan) (c d : ℕ) → IsKept rules w → x.rooms ≡ w.rooms → x.bits ≡ w.bits → x.least ≡ w.least
    → y.plan ≡ x.plan → y.rooms ≡ x.rooms → y.bits ≡ bits_set rules x.bits x.plan c → y.least ≡ x.least
    → z.plan ≡ y.plan → z.rooms ≡ y.rooms → z.bits ≡ bits_set rules y.bits y.plan d → z.least ≡ y.least
    → length x.plan.chains ≡ length w.plan.chains → c < length w.plan.chains → d < length w.plan.chains → IsLegal rules x.plan → IsLegal rules w.plan
    → ((e : ℕ) → e ≢ c → e ≢ d → chain_at x.plan e ≡ chain_at w.plan e) → IsKept rules z
kept_anew rules w x y z c d kept xr xb xl yp yr yb yl zp zr zb zl long hc hd new old others =
    let anew : AreHeld rules x.plan (bits_set rules (bits_set rules w.bits x.plan c) x.plan d) = held_anew rules w.plan x.plan w.bits c d kept.held long hc hd others in
    let one : y.bits ≡ bits_set rules w.bits x.plan c = yb ∙ ap (λ (bs : List ℕ). bits_set rules bs x.plan c) xb in
    let two : z.bits ≡ bits_set rules (bits_set rules w.bits x.plan c) x.plan d = zb ∙ (λ t. bits_set rules (one t) (yp t) d) in
    let held : AreHeld rules x.plan z.bits = subst (AreHeld rules x.plan) (sym two) anew in
    let rooms : AreRoomyFor rules x.plan z.rooms = subst (AreRoomyFor rules x.plan) (sym (zr ∙ yr ∙ xr)) (roomy_still rules w.plan x.plan w.rooms old new kept.rooms) in
    record {
      rooms = subst (λ (q : Plan). AreRoomyFor rules q z.rooms) (sym (zp ∙ yp)) rooms;
      held = subst (λ (q : Plan). AreHeld rules q z.bits) (sym (zp ∙ yp)) held;
      least = subst (IsLeast rules) (sym (zl ∙ yl ∙ xl)) kept.least;
    }

-- a plan whose chains were only put into another order
pub kept_turned : (rules : Rules) (w z : RoomyPlan) → IsKept rules w → IsLegal rules w.plan → IsLegal rules z.plan → z.rooms ≡ w.rooms → z.bits ≡ w.bits → z.least ≡ w.least → length z.plan.chains ≡ length w.plan.chains
    → ((k : ℕ) → k < length w.plan.chains → IsPermutation (chain_at w.plan k) (chain_at z.plan k)) → IsKept rules z
kept_turned rules w z kept old new zr zb zl long same =
    let held : AreHeld rules z.plan w.bits = record {
      counts = omega (arith, kept.held.counts, long);
      each = λ e h. kept.held.each e (omega (arith, long, h)) ∙ sym (sum_by-IsPermutation (λ u. (unit_at rules u).bits) (chain_at w.plan e) (chain_at z.plan e) (same e (omega (arith, long, h))));
    } in
    record {
      rooms = subst (AreRoomyFor rules z.plan) (sym zr) (roomy_still rules w.plan z.plan w.rooms old new kept.rooms);
      held = subst (AreHeld rules z.plan) (sym zb) held;
      least = subst (IsLeast rules) (sym zl) kept.least;
    }

-- as many bits are kept as there are chains
pub counts_kept : (rules : Rules) (w x : RoomyPlan) → IsKept rules w → x.bits ≡ w.bits → length x.plan.chains ≡ length w.plan.chains → length x.bits ≡ length x.plan.chains
counts_kept rules w x kept xb long = omega (arith, ap (λ (bs : List ℕ). length bs) xb, kept.held.counts, long)

pub counts_set : (rules : Rules) (x y : RoomyPlan) (c : ℕ) → length x.bits ≡ length x.plan.chains → y.bits ≡ bits_set rules x.bits x.plan c → y.plan ≡ x.plan → length y.bits ≡ length y.plan.chains
counts_set rules x y c n yb yp = omega (arith, ap (λ (bs : List ℕ). length bs) yb, length-set x.bits c (bits_of rules (chain_at x.plan c)), n, ap (λ (q : Plan). length q.chains) yp)

-- the chains that a step leaves as they were
pub moved_others : (p q : Plan) (c i d j : ℕ) → q ≡ moved_plan p (at c i) (at d j) → (e : ℕ) → e ≢ c → e ≢ d → chain_at q e ≡ chain_at p e
moved_others p q c i d j eq e nc nd =
    let out : Plan = taken_out p (at c i) in
    ap (λ (r : Plan). chain_at r e) eq ∙ with_chain_other out d e (insert (chain_at out d) j (unit_in p (at c i))) nd ∙ with_chain_other p c e (remove (chain_at p c) i) nc

pub swapped_others : (p q : Plan) (c i d j : ℕ) → q ≡ swapped_plan p (at c i) (at d j) → (e : ℕ) → e ≢ c → e ≢ d → chain_at q e ≡ chain_at p e
swapped_others p q c i d j eq e nc nd =
    let one : Plan = replaced p (at c i) (unit_in p (at d j)) in
    ap (λ (r : Plan). chain_at r e) eq ∙ with_chain_other one d e (set (chain_at one d) j (unit_in p (at c i))) nd ∙ with_chain_other p c e (set (chain_at p c) i (unit_in p (at d j))) nc

pub as_long : (rules : Rules) (p q r : Plan) → q ≡ r → IsLegal rules r → IsLegal rules p → length q.chains ≡ length p.chains
as_long rules p q r e new old = omega (arith, ap (λ (s : Plan). length s.chains) e, new.chains, old.chains)

pub legal_by : (rules : Rules) (q r : Plan) → q ≡ r → IsLegal rules r → IsLegal rules q
legal_by rules q r e legal = subst (IsLegal rules) (sym e) legal
