-- How the list of the paths that are reached grows.
use Rattle.std.proofs.Common.{◌≡◌, ◌≢◌, ℕ, ◌+◌, ◌<◌, ◌≤◌, List, [], ◌∷◌, ◌++◌, length, get_or, set, cond, Option, Some, None, refl, sym, ap, ◌∙◌, subst, arith, ⊎_elim}
use Rattle.std.specs.Prelude.{is_some}
use Rattle.std.proofs.lemmas.Bool.{cases_lt, cases_eq}
use Rattle.std.proofs.lemmas.List.{get_or_append_left, get_or_push, length_push, length-set, get_or-set_same, get_or-set_other}
use Rattle.std.proofs.lemmas.List.Sums.{sum_by-set}
use Rattle.chain_rules.specs.declared.plan.Plan.{Plan}
use Rattle.chain_rules.specs.declared.unit.Rules.{Rules}
use Rattle.chain_rules.specs.Legality.{rule_at}
use Rattle.chain_balance.specs.declared.entry.Entry.{Entry}
use Rattle.chain_balance.specs.declared.search.Giver.{Giver}
use Rattle.chain_balance.specs.declared.search.Search.{Search}
use Rattle.chain_balance.specs.declared.work.Work.{Work}
use Rattle.chain_balance.specs.Balance.{AreOnPaths}
use Rattle.chain_balance.specs.Rooms.{group_of, AreGroups}
use Rattle.chain_balance.specs.Steps.{CanGive, no_entry, entry_at, IsReached}
use Rattle.chain_balance.specs.Searches.{number_at, IsSearch, IsGiver, giver_at, AreGivers, AllGive, CanTake, NoneTakes, IsSearching, HasGrown, Closes, AreNear}

entry_kept : (entries : List Entry) (e : Entry) (k : ℕ) → k < length entries → entry_at (entries ++ e ∷ []) k ≡ entry_at entries k
entry_kept entries e k l = get_or_append_left entries (e ∷ []) no_entry k l

entry_new : (entries : List Entry) (e : Entry) → entry_at (entries ++ e ∷ []) (length entries) ≡ e
entry_new entries e = get_or_push entries e no_entry (length entries) refl

reached_kept : (rules : Rules) (plan : Plan) (entries : List Entry) (e : Entry) (k : ℕ) → k < length entries → IsReached rules plan entries k → IsReached rules plan (entries ++ e ∷ []) k
reached_kept rules plan entries e k l it =
    let same : entry_at (entries ++ e ∷ []) k ≡ entry_at entries k = entry_kept entries e k l in
    let p : ℕ = (entry_at entries k).parent in
    let up : entry_at (entries ++ e ∷ []) p ≡ entry_at entries p = entry_kept entries e p (omega (arith, it.before, l)) in
    record {
      before = omega (arith, ap (λ (x : Entry). x.parent) same, it.before);
      gives = subst (λ (x : Entry). CanGive rules plan x.giver x.taker) (sym same) it.gives;
      on_parent =
          ap (λ (x : Entry). (rule_at rules x.giver).path) same ∙ it.on_parent
          ∙ sym (ap (λ (x : Entry). (entry_at (entries ++ e ∷ []) x.parent).path) same ∙ ap (λ (x : Entry). x.path) up);
      on_own = ap (λ (x : Entry). (rule_at rules x.taker).path) same ∙ it.on_own ∙ sym (ap (λ (x : Entry). x.path) same);
    }

-- a path that is listed next, since one of its chains takes from a giver
pub record Pushing (rules : Rules) (plan : Plan) (paths : ℕ) (groups : List ℕ) (entries : List Entry) (numbers : List (Option ℕ)) (givers : List (Option Giver)) (taker : ℕ) (giver : Giver) (e : Entry) : Type 0 where
  pub is : IsSearch rules plan paths entries numbers
  pub givers_are : AreGivers rules plan groups numbers givers
  pub groups_are : AreGroups rules groups
  pub on : AreOnPaths rules paths
  pub is_taker : taker < length rules.chains
  pub can : CanTake rules plan groups numbers givers taker giver
  pub path_is : e.path ≡ (rule_at rules taker).path
  pub giver_is : e.giver ≡ giver.chain
  pub taker_is : e.taker ≡ taker
  pub parent_is : e.parent ≡ giver.entry

-- the numbers after it
abbrev pub numbers_after : List (Option ℕ) → ℕ → ℕ → List (Option ℕ)
numbers_after numbers path n = set numbers path (Some n)

record Numbers (rules : Rules) (plan : Plan) (paths : ℕ) (groups : List ℕ) (entries : List Entry) (numbers : List (Option ℕ)) (givers : List (Option Giver)) (taker : ℕ) (giver : Giver) (e : Entry) : Type 0 where
  pub within : e.path < length numbers
  pub unreached : number_at numbers e.path ≡ None
  pub here : number_at (numbers_after numbers e.path (length entries)) e.path ≡ Some (length entries)
  pub other : (p : ℕ) → p ≢ e.path → number_at (numbers_after numbers e.path (length entries)) p ≡ number_at numbers p

numbers_are : (rules : Rules) (plan : Plan) (paths : ℕ) (groups : List ℕ) (entries : List Entry) (numbers : List (Option ℕ)) (givers : List (Option Giver)) (taker : ℕ) (giver : Giver) (e : Entry)
    → Pushing rules plan paths groups entries numbers givers taker giver e → Numbers rules plan paths groups entries numbers givers taker giver e
numbers_are rules plan paths groups entries numbers givers taker giver e p =
    let within : e.path < length numbers = omega (arith, p.path_is, p.on taker p.is_taker, p.is.long) in
    record {
      within = within;
      unreached = ap (number_at numbers) p.path_is ∙ p.can.unreached;
      here = get_or-set_same numbers e.path (Some (length entries)) None within;
      other = λ q m. get_or-set_other numbers e.path q (Some (length entries)) None m;
    }

-- the giver, and where its path stands in the list
record Parent (rules : Rules) (plan : Plan) (groups : List ℕ) (entries : List Entry) (taker : ℕ) (giver : Giver) : Type 0 where
  pub before : giver.entry < length entries
  pub path_is : (entry_at entries giver.entry).path ≡ (rule_at rules giver.chain).path
  pub gives : CanGive rules plan giver.chain taker

parent_of : (rules : Rules) (plan : Plan) (paths : ℕ) (groups : List ℕ) (entries : List Entry) (numbers : List (Option ℕ)) (givers : List (Option Giver)) (taker : ℕ) (giver : Giver) (e : Entry)
    → Pushing rules plan paths groups entries numbers givers taker giver e → Parent rules plan groups entries taker giver
parent_of rules plan paths groups entries numbers givers taker giver e p =
    let at : IsGiver rules plan numbers giver × (group_of groups giver.chain ≡ group_of groups taker) = p.givers_are.each (group_of groups taker) giver p.can.gives in
    let stands : (giver.entry < length entries) × ((entry_at entries giver.entry).path ≡ (rule_at rules giver.chain).path) = p.is.numbered (rule_at rules giver.chain).path giver.entry at.0.is_reached in
    record {
      before = stands.0;
      path_is = stands.1;
      gives = record {
        is_giver = at.0.is_chain;
        is_taker = p.is_taker;
        partition = p.groups_are.apart giver.chain taker at.0.is_chain p.is_taker at.1;
        spare = at.0.spare;
        room = p.can.room;
      };
    }

-- the new entry is reached
reached_new : (rules : Rules) (plan : Plan) (paths : ℕ) (groups : List ℕ) (entries : List Entry) (numbers : List (Option ℕ)) (givers : List (Option Giver)) (taker : ℕ) (giver : Giver) (e : Entry)
    → Pushing rules plan paths groups entries numbers givers taker giver e → IsReached rules plan (entries ++ e ∷ []) (length entries)
reached_new rules plan paths groups entries numbers givers taker giver e p =
    let up : Parent rules plan groups entries taker giver = parent_of rules plan paths groups entries numbers givers taker giver e p in
    let new : List Entry = entries ++ e ∷ [] in
    let own : entry_at new (length entries) ≡ e = entry_new entries e in
    let parent : entry_at new giver.entry ≡ entry_at entries giver.entry = entry_kept entries e giver.entry up.before in
    record {
      before = omega (arith, ap (λ (x : Entry). x.parent) own, p.parent_is, up.before);
      gives =
          subst (λ (x : Entry). CanGive rules plan x.giver x.taker) (sym own)
          (subst (λ (g : ℕ). CanGive rules plan g e.taker) (sym p.giver_is) (subst (λ (t : ℕ). CanGive rules plan giver.chain t) (sym p.taker_is) up.gives));
      on_parent =
          ap (λ (x : Entry). (rule_at rules x.giver).path) own ∙ ap (λ c. (rule_at rules c).path) p.giver_is ∙ sym up.path_is
          ∙ sym (ap (λ (x : Entry). (entry_at new x.parent).path) own ∙ ap (λ k. (entry_at new k).path) p.parent_is ∙ ap (λ (x : Entry). x.path) parent);
      on_own =
          ap (λ (x : Entry). (rule_at rules x.taker).path) own ∙ ap (λ c. (rule_at rules c).path) p.taker_is
          ∙ sym (ap (λ (x : Entry). x.path) own ∙ p.path_is);
    }

abbrev one_if : Option ℕ → ℕ
one_if o = cond (is_some o) 1 0

-- the search with one path more
search_more : (rules : Rules) (plan : Plan) (paths : ℕ) (groups : List ℕ) (entries : List Entry) (numbers : List (Option ℕ)) (givers : List (Option Giver)) (taker : ℕ) (giver : Giver) (e : Entry)
    → Pushing rules plan paths groups entries numbers givers taker giver e → IsSearch rules plan paths (entries ++ e ∷ []) (numbers_after numbers e.path (length entries))
search_more rules plan paths groups entries numbers givers taker giver e p =
    let is : IsSearch rules plan paths entries numbers = p.is in
    let n : ℕ = length entries in
    let new : List Entry = entries ++ e ∷ [] in
    let news : List (Option ℕ) = numbers_after numbers e.path (length entries) in
    let long : length new ≡ length entries + 1 = length_push entries e in
    let own : entry_at new (length entries) ≡ e = entry_new entries e in
    let at : Numbers rules plan paths groups entries numbers givers taker giver e = numbers_are rules plan paths groups entries numbers givers taker giver e p in
    let counted = sum_by-set one_if numbers e.path (Some (length entries)) None at.within in
    let none : one_if (number_at numbers e.path) ≡ 0 = ap one_if at.unreached in
    record {
      some = omega (arith, long);
      each = λ k some l.
          ⊎_elim (λ (b : k < length entries). reached_kept rules plan entries e k b (is.each k some b))
          (λ (m : length entries ≤ k).
          let same : length entries ≡ k = omega (arith, l, long, m) in
          subst (λ (j : ℕ). IsReached rules plan (entries ++ e ∷ []) j) same (reached_new rules plan paths groups entries numbers givers taker giver e p))
          (cases_lt k (length entries));
      long = length-set numbers e.path (Some (length entries)) ∙ is.long;
      listed = λ k l.
          ⊎_elim (λ (b : k < length entries).
          let same : entry_at new k ≡ entry_at entries k = entry_kept entries e k b in
          let old : ((entry_at entries k).path < paths) × (number_at numbers (entry_at entries k).path ≡ Some k) = is.listed k b in
          let differ : (entry_at entries k).path ≢ e.path = λ x. let both = ap (number_at numbers) x in let here = old.1 in let there = at.unreached in cc in
          (omega (arith, ap (λ (x : Entry). x.path) same, old.0), ap (λ (x : Entry). number_at news x.path) same ∙ at.other (entry_at entries k).path differ ∙ old.1))
          (λ (m : length entries ≤ k).
          let same : k ≡ length entries = omega (arith, l, long, m) in
          let it : entry_at new k ≡ e = ap (entry_at new) same ∙ own in
          (omega (arith, ap (λ (x : Entry). x.path) it, at.within, is.long), ap (λ (x : Entry). number_at news x.path) it ∙ at.here ∙ ap (λ (j : ℕ). Some j) (sym same)))
          (cases_lt k (length entries));
      numbered = λ path k h.
          ⊎_elim (λ (x : path ≡ e.path).
          let two : number_at news path ≡ Some (length entries) = ap (number_at news) x ∙ at.here in
          let same : k ≡ length entries = cc in
          (omega (arith, same, long), ap (λ j. (entry_at new j).path) same ∙ ap (λ (y : Entry). y.path) own ∙ sym x))
          (λ (m : path ≡ e.path → ⊥).
          let old : (k < length entries) × ((entry_at entries k).path ≡ path) = is.numbered path k (sym (at.other path m) ∙ h) in
          (omega (arith, old.0, long), ap (λ (x : Entry). x.path) (entry_kept entries e k old.0) ∙ old.1))
          (cases_eq path e.path);
      counted = omega (arith, counted, none, is.counted, long);
    }

-- its givers
givers_more : (rules : Rules) (plan : Plan) (paths : ℕ) (groups : List ℕ) (entries : List Entry) (numbers : List (Option ℕ)) (givers : List (Option Giver)) (taker : ℕ) (giver : Giver) (e : Entry)
    → Pushing rules plan paths groups entries numbers givers taker giver e → AreGivers rules plan groups (numbers_after numbers e.path (length entries)) givers
givers_more rules plan paths groups entries numbers givers taker giver e p =
    let at : Numbers rules plan paths groups entries numbers givers taker giver e = numbers_are rules plan paths groups entries numbers givers taker giver e p in
    record {
      long = p.givers_are.long;
      each = λ group g h.
          let old : IsGiver rules plan numbers g × (group_of groups g.chain ≡ group) = p.givers_are.each group g h in
          let is : number_at numbers (rule_at rules g.chain).path ≡ Some g.entry = old.0.is_reached in
          let differ : (rule_at rules g.chain).path ≢ e.path = λ x. let both = ap (number_at numbers) x in let there = at.unreached in cc in
          (record { is_chain = old.0.is_chain; spare = old.0.spare; is_reached = at.other (rule_at rules g.chain).path differ ∙ is }, old.1);
    }

-- its path is near
near_more : (loads : List ℕ) (most : ℕ) (entries : List Entry) (e : Entry) → AreNear loads most entries → most ≤ get_or loads e.path 0 + 1 → AreNear loads most (entries ++ e ∷ [])
near_more loads most entries e near this k l =
    ⊎_elim (λ (b : k < length entries). omega (arith, near k b, ap (λ (x : Entry). get_or loads x.path 0) (entry_kept entries e k b)))
    (λ (m : length entries ≤ k).
    let same : k ≡ length entries = omega (arith, l, m, length_push entries e) in
    omega (arith, this, ap (λ (x : Entry). get_or loads x.path 0) (ap (entry_at (entries ++ e ∷ [])) same ∙ entry_new entries e)))
    (cases_lt k (length entries))

-- ---- givers, as they are noted

pub givers_put : (rules : Rules) (plan : Plan) (groups : List ℕ) (numbers : List (Option ℕ)) (givers : List (Option Giver)) (c : ℕ) (giver : Giver) → AreGivers rules plan groups numbers givers
    → AreGroups rules groups → c < length rules.chains → giver.chain ≡ c → IsGiver rules plan numbers giver → AreGivers rules plan groups numbers (set givers (group_of groups c) (Some giver))
givers_put rules plan groups numbers givers c giver are groups_are l e is =
    let g : ℕ = group_of groups c in
    let within : g < length givers = omega (arith, groups_are.within c l, are.long) in
    record {
      long = length-set givers g (Some giver) ∙ are.long;
      each = λ group x h.
          ⊎_elim (λ (same : group ≡ g).
          let put : giver_at (set givers g (Some giver)) group ≡ Some giver = ap (giver_at (set givers g (Some giver))) same ∙ get_or-set_same givers g (Some giver) None within in
          let it : giver ≡ x = cc in
          subst (λ (y : Giver). IsGiver rules plan numbers y × (group_of groups y.chain ≡ group)) it (is, ap (group_of groups) e ∙ sym same))
          (λ (m : group ≡ g → ⊥). are.each group x (sym (get_or-set_other givers g group (Some giver) None m) ∙ h))
          (cases_eq group g);
    }

-- where each group of a chain that can give has a giver, and no chain takes, nothing more is reached
closes : (rules : Rules) (plan : Plan) (groups : List ℕ) (numbers : List (Option ℕ)) (givers : List (Option Giver)) → AreGroups rules groups
    → AllGive rules plan groups numbers givers (length rules.chains) → NoneTakes rules plan groups numbers givers (length rules.chains) → Closes rules plan numbers
closes rules plan groups numbers givers groups_are all none giver taker gives unreached = closes_at (giver_at givers (group_of groups giver)) refl
  where
    closes_at : (o : Option Giver) → giver_at givers (group_of groups giver) ≡ o → number_at numbers (rule_at rules giver).path ≡ None
    closes_at None e = all giver gives.is_giver e gives.spare
    closes_at (Some g) e =
        absurd (none taker g gives.is_taker (record {
          unreached = unreached;
          room = gives.room;
          gives = ap (giver_at givers) (sym (groups_are.alike giver taker gives.is_giver gives.is_taker gives.partition)) ∙ e;
        }))

-- ---- the same for a search as a whole

-- what the code knows once a path was listed
pub record Push (rules : Rules) (fixed : List ℕ) (work : Work) (groups : List ℕ) (givers : List (Option Giver)) (search search' : Search) (taker : ℕ) (giver : Giver) (e : Entry) : Type 0 where
  pub searching : IsSearching rules fixed work groups givers search
  pub groups_are : AreGroups rules groups
  pub on : AreOnPaths rules (length fixed)
  pub is_taker : taker < length rules.chains
  pub can : CanTake rules work.plan groups search.numbers.items givers taker giver
  pub path_is : e.path ≡ (rule_at rules taker).path
  pub giver_is : e.giver ≡ giver.chain
  pub taker_is : e.taker ≡ taker
  pub parent_is : e.parent ≡ giver.entry
  pub entries_are : search'.entries.items ≡ search.entries.items ++ e ∷ []
  pub numbers_are : search'.numbers.items ≡ numbers_after search.numbers.items e.path (length search.entries.items)

pub pushed : (rules : Rules) (fixed : List ℕ) (work : Work) (groups : List ℕ) (givers : List (Option Giver)) (search search' : Search) (taker : ℕ) (giver : Giver) (e : Entry)
    → Push rules fixed work groups givers search search' taker giver e → IsSearching rules fixed work groups givers search'
pushed rules fixed work groups givers search search' taker giver e p =
    let it : Pushing rules work.plan (length fixed) groups search.entries.items search.numbers.items givers taker giver e = record {
      is = p.searching.is;
      givers_are = p.searching.givers_are;
      groups_are = p.groups_are;
      on = p.on;
      is_taker = p.is_taker;
      can = p.can;
      path_is = p.path_is;
      giver_is = p.giver_is;
      taker_is = p.taker_is;
      parent_is = p.parent_is;
    } in
    record {
      is =
          subst (λ (es : List Entry). IsSearch rules work.plan (length fixed) es search'.numbers.items) (sym p.entries_are)
          (subst (λ (ns : List (Option ℕ)). IsSearch rules work.plan (length fixed) (search.entries.items ++ e ∷ []) ns) (sym p.numbers_are)
          (search_more rules work.plan (length fixed) groups search.entries.items search.numbers.items givers taker giver e it));
      givers_are = subst (λ (ns : List (Option ℕ)). AreGivers rules work.plan groups ns givers) (sym p.numbers_are) (givers_more rules work.plan (length fixed) groups search.entries.items search.numbers.items givers taker giver e it);
    }

pub near_pushed : (loads : List ℕ) (most : ℕ) (entries news : List Entry) (e : Entry) → news ≡ entries ++ e ∷ [] → AreNear loads most entries → most ≤ get_or loads e.path 0 + 1 → AreNear loads most news
near_pushed loads most entries news e is near this = subst (λ (es : List Entry). AreNear loads most es) (sym is) (near_more loads most entries e near this)

-- a search is one that goes on from itself
pub grown_none : (search : Search) → HasGrown search search
grown_none search = record { no_fewer = omega arith; first = refl; same = λ e. refl }

pub grown_on : (first second third : Search) → HasGrown first second → HasGrown second third → HasGrown first third
grown_on first second third a b = record {
  no_fewer = omega (arith, a.no_fewer, b.no_fewer);
  first = b.first ∙ a.first;
  same = λ e. b.same (omega (arith, e, a.no_fewer, b.no_fewer)) ∙ a.same (omega (arith, e, a.no_fewer, b.no_fewer));
}

-- where a round lists nothing, nothing more is reached
pub closes_round : (rules : Rules) (work : Work) (groups : List ℕ) (givers : List (Option Giver)) (before after : Search) → AreGroups rules groups → HasGrown before after
    → AllGive rules work.plan groups before.numbers.items givers (length rules.chains) → NoneTakes rules work.plan groups after.numbers.items givers (length rules.chains)
    → length after.entries.items ≤ length before.entries.items → Closes rules work.plan after.numbers.items
closes_round rules work groups givers before after groups_are grown all none l =
    let same : after.numbers.items ≡ before.numbers.items = grown.same (omega (arith, l, grown.no_fewer)) in
    closes rules work.plan groups after.numbers.items givers groups_are (subst (λ (ns : List (Option ℕ)). AllGive rules work.plan groups ns givers (length rules.chains)) (sym same) all) none
