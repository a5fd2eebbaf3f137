-- The longest path by the bits that the code holds, and what one level less is.
use Rattle.std.proofs.Common.{◌≡◌, ℕ, ◌<◌, ◌≤◌, List, [], ◌∷◌, length, Bool, cond, refl, sym, ap, ◌∙◌, arith, suc, zero, get_or, ⊎_elim, eq-eqb, subst}
use Rattle.std.specs.Prelude.{nat_eq, count_by}
use Rattle.std.proofs.lemmas.Bool.{cases_lt, cases_eq, ne_eqb}
use Rattle.std.proofs.lemmas.List.Sums.{sum_by-cons}
use Rattle.chain_rules.specs.declared.plan.Plan.{Plan}
use Rattle.chain_rules.specs.declared.unit.Rules.{Rules}
use Rattle.chain_rules.specs.Legality.{IsLegal}
use Rattle.chain_balance.specs.Balance.{most_below, path_bits, longest, IsEven}
use Rattle.chain_balance.specs.declared.work.Work.{Work}
use Rattle.chain_balance.specs.Gains.{AreLoads, AreHeld, IsLevel, IsWork, load_of}
use Rattle.chain_balance.proofs.Sums.{most_below-at}

most_below-same : (n : ℕ) (f g : ℕ → ℕ) → ((k : ℕ) → k < n → f k ≡ g k) → most_below n f ≡ most_below n g
most_below-same zero f g h = refl
most_below-same (suc n) f g h = omega (arith, h n (omega arith), most_below-same n f g (λ k l. h k (omega arith)))

most_below-lt : (n : ℕ) (f : ℕ → ℕ) (m : ℕ) → 0 < m → ((k : ℕ) → k < n → f k < m) → most_below n f < m
most_below-lt zero f m s h = s
most_below-lt (suc n) f m s h = omega (arith, h n (omega arith), most_below-lt n f m s (λ k l. h k (omega arith)))

most_below-le : (n : ℕ) (f : ℕ → ℕ) (m : ℕ) → ((k : ℕ) → k < n → f k ≤ m) → most_below n f ≤ m
most_below-le zero f m h = omega arith
most_below-le (suc n) f m h = omega (arith, h n (omega arith), most_below-le n f m (λ k l. h k (omega arith)))

-- the greatest of the bits is that of the longest path
pub longest_is : (rules : Rules) (fixed : List ℕ) (plan : Plan) (loads : List ℕ) → AreLoads rules fixed plan loads → most_below (length loads) (load_of loads) ≡ longest rules fixed plan
longest_is rules fixed plan loads are =
    ap (λ n. most_below n (load_of loads)) are.long ∙ most_below-same (length fixed) (load_of loads) (path_bits rules fixed plan) are.each

pub level_of : (rules : Rules) (fixed : List ℕ) (plan : Plan) (loads : List ℕ) (most : ℕ) → IsLegal rules plan → AreLoads rules fixed plan loads → most ≡ longest rules fixed plan → IsLevel rules fixed plan loads most
level_of rules fixed plan loads most legal are e = record {
  legal = legal;
  are = are;
  top = λ x l. omega (arith, most_below-at (length loads) (load_of loads) x l, longest_is rules fixed plan loads are, e);
}

-- ---- counting

abbrev one_if : Bool → ℕ
one_if b = cond b 1 0

pub counted_at : (v : ℕ) (ns : List ℕ) (i : ℕ) → i < length ns → get_or ns i 0 ≡ v → 0 < count_by (nat_eq v) ns
counted_at v [] i l e = absurd (omega arith)
counted_at v (n ∷ ns) zero l e =
    let here : one_if (nat_eq v n) ≡ 1 = ap one_if (eq-eqb v n (sym e)) in
    omega (arith, sum_by-cons (λ x. one_if (nat_eq v x)) n ns, here)
counted_at v (n ∷ ns) (suc i) l e = omega (arith, sum_by-cons (λ x. one_if (nat_eq v x)) n ns, counted_at v ns i (omega arith) e)

pub found : (v : ℕ) (ns : List ℕ) → 0 < count_by (nat_eq v) ns → (i : ℕ) × (i < length ns) × (get_or ns i 0 ≡ v)
found v [] h = absurd (omega arith)
found v (n ∷ ns) h =
    ⊎_elim (λ (e : v ≡ n). (0, omega arith, sym e))
    (λ (ne : v ≡ n → ⊥).
    let other : one_if (nat_eq v n) ≡ 0 = ap one_if (ne_eqb v n ne) in
    let rest : (i : ℕ) × (i < length ns) × (get_or ns i 0 ≡ v) = found v ns (omega (arith, sum_by-cons (λ x. one_if (nat_eq v x)) n ns, other, h)) in
    (suc rest.0, omega (arith, rest.1), rest.2))
    (cases_eq v n)

-- where no path has the most bits any more, the longest one has fewer
pub lower_after : (rules : Rules) (fixed : List ℕ) (plan : Plan) (loads : List ℕ) (most : ℕ) → IsLevel rules fixed plan loads most → 0 < most → count_by (nat_eq most) loads ≡ 0 → longest rules fixed plan < most
lower_after rules fixed plan loads most level some none =
    let less : most_below (length loads) (load_of loads) < most = most_below-lt (length loads) (load_of loads) most some (λ k l.
    ⊎_elim (λ (m : get_or loads k 0 < most). m)
    (λ (g : most ≤ get_or loads k 0). let e : get_or loads k 0 ≡ most = omega (arith, g, level.top k l) in absurd (omega (arith, counted_at most loads k l e, none)))
    (cases_lt (get_or loads k 0) most)) in
    omega (arith, less, longest_is rules fixed plan loads level.are)

-- where one has, it is the longest
pub longest_at : (rules : Rules) (fixed : List ℕ) (plan : Plan) (loads : List ℕ) (most : ℕ) → IsLevel rules fixed plan loads most → 0 < count_by (nat_eq most) loads → most ≡ longest rules fixed plan
longest_at rules fixed plan loads most level some =
    let at : (i : ℕ) × (i < length loads) × (get_or loads i 0 ≡ most) = found most loads some in
    let below : most ≤ most_below (length loads) (load_of loads) = omega (arith, most_below-at (length loads) (load_of loads) at.0 at.1, at.2) in
    let above : most_below (length loads) (load_of loads) ≤ most = most_below-le (length loads) (load_of loads) most level.top in
    omega (arith, below, above, longest_is rules fixed plan loads level.are)

-- a plan whose paths have no bits is even
pub even_of_none : (rules : Rules) (fixed : List ℕ) (plan : Plan) → longest rules fixed plan ≡ 0 → IsEven rules fixed plan
even_of_none rules fixed plan e from to gain = omega (arith, gain.to_shorter, e)

-- ---- the work

pub work_of : (rules : Rules) (fixed : List ℕ) (work : Work) (most : ℕ) → IsLegal rules work.plan → AreLoads rules fixed work.plan work.paths.items → AreHeld rules work.plan work.chains.items → most ≡ longest rules fixed work.plan → IsWork rules fixed work most
work_of rules fixed work most legal are held e = record { level = level_of rules fixed work.plan work.paths.items most legal are e; held = held }

-- with the bits of its longest path
pub next_is : (rules : Rules) (fixed : List ℕ) (work : Work) (most next : ℕ) (loads : List ℕ) → IsWork rules fixed work most → loads ≡ work.paths.items → next ≡ most_below (length loads) (load_of loads) → next ≡ longest rules fixed work.plan
next_is rules fixed work most next loads is f e = e ∙ ap (λ (q : List ℕ). most_below (length q) (load_of q)) f ∙ longest_is rules fixed work.plan work.paths.items is.level.are

pub work_next : (rules : Rules) (fixed : List ℕ) (work : Work) (most next : ℕ) (loads : List ℕ) → IsWork rules fixed work most → loads ≡ work.paths.items → next ≡ most_below (length loads) (load_of loads) → IsWork rules fixed work next
work_next rules fixed work most next loads is f e =
    work_of rules fixed work next is.level.legal is.level.are is.held (next_is rules fixed work most next loads is f e)

-- where there is a path, one has the most bits, or the longest one has fewer
pub lower_still : (rules : Rules) (fixed : List ℕ) (work : Work) (most : ℕ) → IsWork rules fixed work most → 0 < length fixed → count_by (nat_eq most) work.paths.items ≡ 0 → longest rules fixed work.plan < most
lower_still rules fixed work most is some none =
    ⊎_elim (λ (m : 0 < most). lower_after rules fixed work.plan work.paths.items most is.level m none)
    (λ (z : most ≤ 0).
    let l : 0 < length work.paths.items = omega (arith, some, is.level.are.long) in
    let e : get_or work.paths.items 0 0 ≡ most = omega (arith, z, is.level.top 0 l) in
    absurd (omega (arith, counted_at most work.paths.items 0 l e, none)))
    (cases_lt 0 most)

-- at the beginning
pub work_begins : (rules : Rules) (fixed : List ℕ) (plan : Plan) (work : Work) → work.plan ≡ plan → IsLegal rules plan → AreLoads rules fixed plan work.paths.items → AreHeld rules plan work.chains.items → IsWork rules fixed work (longest rules fixed work.plan)
work_begins rules fixed plan work e legal are held =
    work_of rules fixed work (longest rules fixed work.plan) (subst (λ (p : Plan). IsLegal rules p) (sym e) legal) (subst (λ (p : Plan). AreLoads rules fixed p work.paths.items) (sym e) are)
    (subst (λ (p : Plan). AreHeld rules p work.chains.items) (sym e) held) refl
