-- How a search begins, and the cut that it has found at its end.
use Rattle.std.proofs.Common.{◌≡◌, ◌≢◌, ℕ, ◌<◌, ◌≤◌, List, [], ◌∷◌, length, get_or, map, replicate, set, Bool, true, IsTrue, cond, Option, Some, None, refl, sym, ap, ◌∙◌, subst, arith, zero, suc, ⊎_elim}
use Rattle.std.specs.Prelude.{is_some, count_by}
use Rattle.std.proofs.lemmas.Bool.{cases_lt, cases_eq, false≢true}
use Rattle.std.proofs.lemmas.List.{length-map, length-set, length-replicate, get_or-set_same, get_or-set_other}
use Rattle.std.proofs.lemmas.List.Sums.{sum_by-set}
use Rattle.chain_rules.specs.declared.plan.Plan.{Plan}
use Rattle.chain_rules.specs.declared.unit.Rules.{Rules}
use Rattle.chain_rules.specs.Legality.{rule_at}
use Rattle.chain_balance.specs.declared.entry.Entry.{Entry}
use Rattle.chain_balance.specs.declared.search.Giver.{Giver}
use Rattle.chain_balance.specs.Balance.{path_bits, longest, GivesTo, is_in, IsClosed, IsCut, Reaches, Start, Step, IsReachedSet}
use Rattle.chain_balance.specs.Gains.{IsLevel}
use Rattle.chain_balance.specs.Steps.{entry_at, IsReached}
use Rattle.chain_balance.specs.Searches.{number_at, giver_at, first_entry, IsSearch, AreGivers, Closes, AreNear, IsReachedCut}
use Rattle.chain_balance.proofs.Levels.{counted_at, longest_at}

-- ---- the beginning

none_replicated : (A : Type 0) (n k : ℕ) → ◌≡◌ {A = Option A} (get_or (replicate n None) k None) None
none_replicated A zero k = refl
none_replicated A (suc n) zero = refl
none_replicated A (suc n) (suc k) = none_replicated A n k

none_counted : (n : ℕ) → count_by {X = Option ℕ} is_some (replicate n None) ≡ 0
none_counted zero = refl
none_counted (suc n) = none_counted n

abbrev one_if : Option ℕ → ℕ
one_if o = cond (is_some o) 1 0

pub search_begins : (rules : Rules) (plan : Plan) (paths top : ℕ) (entries : List Entry) (numbers : List (Option ℕ)) → top < paths → entries ≡ first_entry top ∷ [] → numbers ≡ set (replicate paths None) top (Some 0)
    → IsSearch rules plan paths entries numbers
search_begins rules plan paths top entries numbers within e f =
    subst (λ (es : List Entry). IsSearch rules plan paths es numbers) (sym e) (subst (λ (ns : List (Option ℕ)). IsSearch rules plan paths (first_entry top ∷ []) ns) (sym f) begun)
  where
    begun : IsSearch rules plan paths (first_entry top ∷ []) (set (replicate paths None) top (Some 0))
    begun =
        let nones : List (Option ℕ) = replicate paths None in
        let long : length nones ≡ paths = length-replicate paths None in
        let l : top < length nones = omega (arith, long, within) in
        let here : number_at (set nones top (Some 0)) top ≡ Some 0 = get_or-set_same nones top (Some 0) None l in
        let counted = sum_by-set one_if nones top (Some 0) None l in
        record {
          some = omega arith;
          each = λ k some m. absurd (omega arith);
          long = length-set nones top (Some 0) ∙ long;
          listed = λ k m.
              let same : k ≡ 0 = omega arith in
              (omega (arith, ap (λ j. (entry_at (first_entry top ∷ []) j).path) same, within), ap (λ j. number_at (set nones top (Some 0)) (entry_at (first_entry top ∷ []) j).path) same ∙ here ∙ ap (λ (j : ℕ). Some j) (sym same));
          numbered = λ path k h.
              ⊎_elim (λ (x : path ≡ top).
              let two : number_at (set nones top (Some 0)) path ≡ Some 0 = ap (number_at (set nones top (Some 0))) x ∙ here in
              let same : k ≡ 0 = cc in
              (omega (arith, same), ap (λ j. (entry_at (first_entry top ∷ []) j).path) same ∙ sym x))
              (λ (m : path ≡ top → ⊥).
              let none : number_at (set nones top (Some 0)) path ≡ None = get_or-set_other nones top path (Some 0) None m ∙ none_replicated ℕ paths path in
              absurd (cc))
              (cases_eq path top);
          counted = omega (arith, counted, ap one_if (none_replicated ℕ paths top), none_counted paths);
        }

-- no group has a giver yet
pub givers_none : (rules : Rules) (plan : Plan) (groups : List ℕ) (numbers : List (Option ℕ)) (givers : List (Option Giver)) (n : ℕ) → givers ≡ replicate n None → n ≡ length rules.chains → AreGivers rules plan groups numbers givers
givers_none rules plan groups numbers givers n e f = record {
  long = ap length e ∙ length-replicate n None ∙ f;
  each = λ group x h. let at : giver_at givers group ≡ None = ap (λ gs. giver_at gs group) e ∙ none_replicated Giver n group in absurd (cc);
}

-- ---- a cut

marked : (numbers : List (Option ℕ)) (x : ℕ) → is_in (map is_some numbers) x ≡ is_some (number_at numbers x)
marked [] x = refl
marked (n ∷ ns) zero = refl
marked (n ∷ ns) (suc x) = marked ns x

some_of : (o : Option ℕ) → is_some o ≡ true → (k : ℕ) × (o ≡ Some k)
some_of None h = absurd (false≢true h)
some_of (Some k) h = (k, refl)

number_of : (numbers : List (Option ℕ)) (x : ℕ) → IsTrue (is_in (map is_some numbers) x) → (k : ℕ) × (number_at numbers x ≡ Some k)
number_of numbers x inside = some_of (number_at numbers x) (sym (marked numbers x) ∙ inside)

has_number : (numbers : List (Option ℕ)) (x k : ℕ) → number_at numbers x ≡ Some k → IsTrue (is_in (map is_some numbers) x)
has_number numbers x k e = marked numbers x ∙ ap is_some e

closed_by : (rules : Rules) (plan : Plan) (numbers : List (Option ℕ)) → Closes rules plan numbers → IsClosed rules plan (map is_some numbers)
closed_by rules plan numbers closes from to inside gives = marked numbers to ∙ reached (number_at numbers to) refl
  where
    reached : (o : Option ℕ) → number_at numbers to ≡ o → is_some (number_at numbers to) ≡ true
    reached (Some k) e = ap is_some e
    reached None e =
        let none : number_at numbers (rule_at rules gives.giver).path ≡ None
        = closes gives.giver gives.taker (record { is_giver = gives.is_giver; is_taker = gives.is_taker; partition = gives.partition; spare = gives.spare; room = gives.room }) (ap (number_at numbers) gives.on_to ∙ e) in
        let some = number_of numbers from inside in
        let at : number_at numbers from ≡ Some some.0 = some.1 in
        let same = ap (number_at numbers) gives.on_from in
        absurd (cc)

-- each entry's path is reached from the first one
reaches_upto : (rules : Rules) (plan : Plan) (paths : ℕ) (entries : List Entry) (numbers : List (Option ℕ)) → IsSearch rules plan paths entries numbers → (n k : ℕ) → k < n → k < length entries → Reaches rules plan (entry_at entries 0).path (entry_at entries k).path
reaches_upto rules plan paths entries numbers is zero k l m = absurd (omega arith)
reaches_upto rules plan paths entries numbers is (suc n) k l m =
    ⊎_elim (λ (some : 0 < k).
    let it : IsReached rules plan entries k = is.each k some m in
    let p : ℕ = (entry_at entries k).parent in
    let gives : GivesTo rules plan (entry_at entries p).path (entry_at entries k).path = record {
      giver = (entry_at entries k).giver;
      taker = (entry_at entries k).taker;
      is_giver = it.gives.is_giver;
      is_taker = it.gives.is_taker;
      on_from = it.on_parent;
      on_to = it.on_own;
      partition = it.gives.partition;
      spare = it.gives.spare;
      room = it.gives.room;
    } in
    Step (entry_at entries p).path (entry_at entries k).path (reaches_upto rules plan paths entries numbers is n p (omega (arith, it.before, l)) (omega (arith, it.before, m))) gives)
    (λ (first : k ≤ 0). let same : 0 ≡ k = omega (arith, first) in subst (λ (j : ℕ). Reaches rules plan (entry_at entries 0).path (entry_at entries j).path) same Start)
    (cases_lt 0 k)

-- what is reached is in a closed set that holds the first path
stays_in : (rules : Rules) (plan : Plan) (set : List Bool) (top x : ℕ) → IsClosed rules plan set → IsTrue (is_in set top) → Reaches rules plan top x → IsTrue (is_in set x)
stays_in rules plan set top x closed inside Start = inside
stays_in rules plan set top x closed inside (Step w v r gives) = closed w v (stays_in rules plan set top w closed inside r) gives

-- a search at its end
pub record Ended (rules : Rules) (fixed : List ℕ) (plan : Plan) (loads : List ℕ) (most top : ℕ) (entries : List Entry) (numbers : List (Option ℕ)) : Type 0 where
  pub level : IsLevel rules fixed plan loads most
  pub is : IsSearch rules plan (length fixed) entries numbers
  pub near : AreNear loads most entries
  pub closes : Closes rules plan numbers
  pub is_path : top < length fixed
  pub is_top : get_or loads top 0 ≡ most
  pub first : (k : ℕ) → k < top → get_or loads k 0 ≢ most
  pub begins : (entry_at entries 0).path ≡ top

pub cut_of : (rules : Rules) (fixed : List ℕ) (plan : Plan) (loads : List ℕ) (most top : ℕ) (entries : List Entry) (numbers : List (Option ℕ)) (set : List Bool) → Ended rules fixed plan loads most top entries numbers
    → set ≡ map is_some numbers → IsReachedCut rules fixed plan set
cut_of rules fixed plan loads most top entries numbers set end e = subst (λ (s : List Bool). IsReachedCut rules fixed plan s) (sym e) (record { cut = cut; reached = reached })
  where
    marks : List Bool
    marks = map is_some numbers

    within : top < length loads
    within = omega (arith, end.is_path, end.level.are.long)

    longest_is : most ≡ longest rules fixed plan
    longest_is = longest_at rules fixed plan loads most end.level (counted_at most loads top within end.is_top)

    long : length (map is_some numbers) ≡ length fixed
    long = length-map numbers is_some ∙ end.is.long

    top_is : path_bits rules fixed plan top ≡ longest rules fixed plan
    top_is = sym (end.level.are.each top end.is_path) ∙ (end.is_top ∙ longest_is)

    inside : IsTrue (is_in (map is_some numbers) top)
    inside = has_number numbers top 0 (ap (number_at numbers) (sym end.begins) ∙ (end.is.listed 0 end.is.some).1)

    cut : IsCut rules fixed plan (map is_some numbers)
    cut = record {
      long = long;
      closed = closed_by rules plan numbers end.closes;
      top = top;
      is_path = end.is_path;
      has_top = inside;
      is_top = top_is;
      near = λ path l h.
          let at = number_of numbers path h in
          let stands : (at.0 < length entries) × ((entry_at entries at.0).path ≡ path) = end.is.numbered path at.0 at.1 in
          omega (arith, end.near at.0 stands.0, ap (λ p. get_or loads p 0) stands.1, end.level.are.each path l, longest_is);
    }

    reached : IsReachedSet rules fixed plan (map is_some numbers)
    reached = record {
      top = top;
      is_path = end.is_path;
      is_top = top_is;
      first = λ path l. omega (arith, end.first path l, end.level.top path (omega (arith, l, within)), end.level.are.each path (omega (arith, l, end.is_path)), longest_is);
      long = long;
      reached = λ path l. (
        λ h.
            let at = number_of numbers path h in
            let stands : (at.0 < length entries) × ((entry_at entries at.0).path ≡ path) = end.is.numbered path at.0 at.1 in
            subst (λ (t : ℕ). Reaches rules plan t path) end.begins
            (subst (λ (p : ℕ). Reaches rules plan (entry_at entries 0).path p) stands.1 (reaches_upto rules plan (length fixed) entries numbers end.is (length entries) at.0 stands.0 stands.0)),
        λ r. stays_in rules plan (map is_some numbers) top path (closed_by rules plan numbers end.closes) inside r,
      );
    }
