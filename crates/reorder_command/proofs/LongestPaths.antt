-- A balanced plan, from what balancing gives: its longest path, and the names of the paths that show that none is shorter.
use Rattle.std.proofs.Common.{◌≡◌, ℕ, zero, suc, ◌+◌, ◌<◌, ◌≤◌, ◌==◌, Bool, cond, List, length, get_or, max, Option, Some, None, refl, sym, ap, subst, arith, ⊎_elim}
use Rattle.std.specs.Prelude.{◌↔◌, IsTrue, is_some, IfSome, option_map}
use Rattle.std.proofs.lemmas.Bool.{cases_lt, false≢true}
use Rattle.std.proofs.lemmas.List.Sorted.{sum_by-IsPermutation}
use Rattle.netlist_core.specs.declared.netlist.Netlist.{Netlist}
use Rattle.chain_trace.specs.declared.path.Path.{Path}
use Rattle.chain_rules.specs.declared.plan.Plan.{Plan}
use Rattle.chain_rules.specs.declared.unit.Rules.{Rules}
use Rattle.chain_rules.specs.Legality.{unit_at, rule_at, chain_at, IsLegal}
use Rattle.plan_search.specs.Members.{HaveSameMembers}
use Rattle.chain_balance.specs.Balance.{most_below, bits_on, path_bits, longest, AreOnPaths, HaveOneBit, HasCut, IsCut, IsReachedSet, IsEven, LeastLaw}
use Rattle.chain_balance.proofs.Sums.{sum_below-same}
use Rattle.reorder_command.specs.Goals.{IsBalancedPlan, output_names, TellsCut}

-- the greatest of the same numbers is the same
most_same : (n : ℕ) (f g : ℕ → ℕ) → ((k : ℕ) → f k ≡ g k) → most_below n f ≡ most_below n g
most_same zero f g same = refl
most_same (suc n) f g same = λ i. max (most_same n f g same i) (same n i)

-- where each chain keeps its units, each path keeps its bits
pub longest_kept : (rules : Rules) (fixed : List ℕ) (p q : Plan) → IsLegal rules p → HaveSameMembers p q → longest rules fixed p ≡ longest rules fixed q
longest_kept rules fixed p q legal members =
    most_same (length fixed) (path_bits rules fixed p) (path_bits rules fixed q)
    (λ path. ap (λ (bits : ℕ). get_or fixed path 0 + bits)
    (sum_below-same (length rules.chains) (bits_on rules p path) (bits_on rules q path)
    (λ c lt. ap (λ (bits : ℕ). cond ((rule_at rules c).path == path) bits 0)
    (let count = legal.chains in sym (sum_by-IsPermutation (λ (u : ℕ). (unit_at rules u).bits) (chain_at p c) (chain_at q c) (members c (omega (arith, count, lt))))))))

module _ {V : Type 0} (items : V → List Bool) (rules : Rules) (fixed : List ℕ) (plan : Plan) where
  -- where there is no cut, some unit hasn't one bit or there is no path
  least_by : LeastLaw → AreOnPaths rules (length fixed) → IsLegal rules plan → (cut : Option V) → IsTrue (is_some cut) → IfSome cut (λ set. IsCut rules fixed plan (items set)) → HaveOneBit rules
      → (other : Plan) → IsLegal rules other → longest rules fixed plan ≤ longest rules fixed other
  least_by law on legal None some is one other other_legal = absurd (false≢true some)
  least_by law on legal (Some set) some is one other other_legal = law rules fixed plan other (items set) one on legal is other_legal

  pub is_balanced : LeastLaw → AreOnPaths rules (length fixed) → IsLegal rules plan → IsEven rules fixed plan → longest rules fixed plan ≤ longest rules fixed rules.read → (cut : Option V)
      → IsTrue (is_some cut) ↔ HasCut rules fixed → IfSome cut (λ set. IsCut rules fixed plan (items set)) → IsBalancedPlan rules fixed plan
  is_balanced law on legal even no_longer cut where_is is = record {
    legal = legal;
    even = even;
    no_longer = no_longer;
    least = λ one other other_legal.
        ⊎_elim
        (λ (some : 0 < length fixed). least_by law on legal cut (where_is.1 (record { one_bit = one; some_path = some })) is one other other_legal)
        (λ (none : length fixed ≤ 0).
        let count : length fixed ≡ 0 = omega arith in
        let nothing : longest rules fixed plan ≡ 0 = ap (λ (m : ℕ). most_below m (path_bits rules fixed plan)) count in
        omega (arith, nothing))
        (cases_lt 0 (length fixed));
  }

  module _ (n : Netlist) (paths : List Path) where
    -- what the names of a cut are
    pub record AreCutNames (names : Option (List (List ℕ))) : Type 0 where
      pub cut_where : IsTrue (is_some names) ↔ HasCut rules fixed
      pub cut : IfSome names (TellsCut n paths rules fixed plan)

    named : (cut : Option V) → IsTrue (is_some cut) ↔ HasCut rules fixed → IfSome cut (λ set. IsCut rules fixed plan (items set)) → IfSome cut (λ set. IsReachedSet rules fixed plan (items set))
        → AreCutNames (option_map (λ set. output_names n paths (items set)) cut)
    named None where_is is reached = record { cut_where = where_is; cut = tt }
    named (Some set) where_is is reached = record { cut_where = where_is; cut = record { set = items set; cut = is; reached = reached; names_are = refl } }

    pub cut_named : (cut : Option V) (names : Option (List (List ℕ))) → names ≡ option_map (λ set. output_names n paths (items set)) cut → IsTrue (is_some cut) ↔ HasCut rules fixed
        → IfSome cut (λ set. IsCut rules fixed plan (items set)) → IfSome cut (λ set. IsReachedSet rules fixed plan (items set)) → AreCutNames names
    cut_named cut names same where_is is reached = subst AreCutNames (sym same) (named cut where_is is reached)
