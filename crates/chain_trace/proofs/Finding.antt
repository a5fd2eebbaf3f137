-- What is known of the sources of each class, one source after another.
use Rattle.std.proofs.Common.{◌≡◌, ◌≢◌, ℕ, ◌+◌, ◌==◌, ◌&&◌, ◌||◌, ◌<◌, ◌≤◌, Bool, true, false, cond, List, length, get_or, take, replicate, ◌⊎◌, inl, inr, refl, sym, ap, ◌∙◌, subst, arith}
use Rattle.std.specs.Prelude.{Option, Some, None, MatchOption}
use Rattle.std.specs.List.{list_any}
use Rattle.std.proofs.lemmas.Bool.{cases_lt, cases_eq, eqb-true, eq-eqb, false≢true, or_cases}
use Rattle.std.proofs.lemmas.Option.{none-some, same_Some, cond_some, slice_get_within}
use Rattle.std.proofs.lemmas.List.{take_all, get_or-replicate, length-replicate, length-take-le, get_or-take}
use Rattle.std.proofs.lemmas.List.Folds.{list_any_more, list_any_at, list_any_kept}
use Rattle.base_types.proofs.TruthValues.{and_first, and_second}
use Rattle.netlist_core.specs.declared.netlist.NetId.{NetId}
use Rattle.netlist_core.specs.declared.netlist.Port.{Port}
use Rattle.netlist_core.specs.declared.netlist.Netlist.{Netlist}
use Rattle.netlist_core.specs.Netlists.{IsNetlist}
use Rattle.netlist_core.specs.Joining.{AreClassesOf}
use Rattle.cell_table.specs.Cells.{Cells}
use Rattle.chain_trace.specs.declared.path.Step.{Step}
use Rattle.chain_trace.specs.declared.path.Source.{Source}
use Rattle.chain_trace.specs.declared.path.Source.TheVariants as sources
use Rattle.chain_trace.specs.declared.path.Sink.{Sink}
use Rattle.chain_trace.specs.declared.path.Sink.TheVariants as sinks
use Rattle.chain_trace.specs.declared.tally.Found.{Found}
use Rattle.chain_trace.specs.declared.tally.Found.TheVariants.{Absent, Only, Several}
use Rattle.chain_trace.specs.declared.tally.Tally.{Tally}
use Rattle.chain_trace.specs.declared.tally.Tally.TheVariants.{Empty, One, Pair, More}
use Rattle.chain_trace.specs.Paths.{drives, has_port, source_net, sink_net, AreApart, Feeds}
use Rattle.chain_trace.specs.Faults.{HasNoSource}
use Rattle.chain_trace.specs.Drivers.{StandsOn, Tells, Keeps, AreTwo, AreDrivers, pair_of, whole, IsAdded, IsWithout, IsPut, IsBefore, IsDone, IsAny, Says}
use Rattle.chain_trace.proofs.Ranges.{out_of, source_within, sink_within}
use Rattle.chain_trace.proofs.Unique.{same_step, same_port, not_both}

net_same : (a b : NetId) → a.0 ≡ b.0 → a ≡ b
net_same a b e = ap (λ (x : ℕ). record { 0 = x }) e

own_cases : (net but : NetId) → (net.0 ≡ but.0) ⊎ (net.0 ≢ but.0) → AreApart (sources.Port net) (sinks.Port but) ⊎ (sources.Port net ≡ sources.Port but)
own_cases net but (inl e) = inr (ap (λ (m : NetId). sources.Port m) (net_same net but e))
own_cases net but (inr ne) = inl (λ e. ne (ap (λ (m : NetId). m.0) e))

-- a source is that port, or apart from it
own_or_apart : (but : NetId) (x : Source) → AreApart x (sinks.Port but) ⊎ (x ≡ sources.Port but)
own_or_apart but (sources.Port net) = own_cases net but (cases_eq net.0 but.0)
own_or_apart but (sources.Out s) = inl tt

apart_of : (but : NetId) (x : Source) → x ≢ sources.Port but → AreApart x (sinks.Port but)
apart_of but x ne = elim (own_or_apart but x) [ inl a ↦ a | inr e ↦ absurd (ne e) ]

not_apart : (but : NetId) (x : Source) → x ≡ sources.Port but → AreApart x (sinks.Port but) → ⊥
not_apart but (sources.Port net) e a = a (same_port net but e)
not_apart but (sources.Out s) e a = not_both but s (sym e)

-- a source that is done and stands there
record IsHere (Stands Done : Source → Type 0) (x : Source) : Type 0 where
  done : Done x
  stands : Stands x

two_of : (Stands Done : Source → Type 0) (but : NetId) (a b : Source) → IsHere Stands Done a → IsHere Stands Done b → a ≢ b → AreApart a (sinks.Port but) → AreApart b (sinks.Port but)
    → AreTwo Stands (λ x. Done x × AreApart x (sinks.Port but))
two_of Stands Done but a b ha hb ne pa pb = record {
  one = a;
  other = b;
  differ = ne;
  one_done = (ha.done, pa);
  one_stands = ha.stands;
  other_done = (hb.done, pb);
  other_stands = hb.stands;
}

-- of three sources two are left without any one port
module _ (Stands Done : Source → Type 0) (but : NetId) (a b c : Source) (ha : IsHere Stands Done a) (hb : IsHere Stands Done b) (hc : IsHere Stands Done c)
    (ab : a ≢ b) (ac : a ≢ c) (bc : b ≢ c) where
  of_three : AreTwo Stands (λ x. Done x × AreApart x (sinks.Port but))
  of_three =
      elim (own_or_apart but a) [
        | inl pa ↦ elim (own_or_apart but b) [
          | inl pb ↦ two_of Stands Done but a b ha hb ab pa pb
          | inr eb ↦ two_of Stands Done but a c ha hc ac pa (apart_of but c (λ ec. bc (eb ∙ sym ec)))
        ]
        | inr ea ↦ two_of Stands Done but b c hb hc bc (apart_of but b (λ eb. ab (ea ∙ sym eb))) (apart_of but c (λ ec. ac (ea ∙ sym ec)))
      ]

-- two sources, and no other
pair_keeps : (Stands Done : Source → Type 0) (a b : Source) → IsHere Stands Done a → IsHere Stands Done b → a ≢ b → ((x : Source) → Done x → Stands x → (x ≡ a) ⊎ (x ≡ b))
    → Keeps Stands Done (pair_of a b)
pair_keeps Stands Done (sources.Port p) b ha hb ne only = record {
  differ = ne;
  one_done = ha.done;
  one_stands = ha.stands;
  other_done = hb.done;
  other_stands = hb.stands;
  only = only;
}
pair_keeps Stands Done (sources.Out s) (sources.Port p) ha hb ne only = record {
  differ = λ e. ne (sym e);
  one_done = hb.done;
  one_stands = hb.stands;
  other_done = ha.done;
  other_stands = ha.stands;
  only = λ x d st. elim (only x d st) [ inl e ↦ inr e | inr e ↦ inl e ];
}
pair_keeps Stands Done (sources.Out s) (sources.Out t) ha hb ne only = λ but. two_of Stands Done but (sources.Out s) (sources.Out t) ha hb ne tt tt

-- one more source that stands there
module _ (Stands Done : Source → Type 0) (source : Source) where
  abbrev After : Source → Type 0
  After x = Done x ⊎ (x ≡ source)

  pub keeps_added : (old new : Tally) → IsAdded source old new → Stands source → Keeps Stands Done old → Keeps Stands After new
  keeps_added Empty new added stands none =
      subst (Keeps Stands After) (sym added)
      (record { done = inr refl; stands = stands; only = λ x d s. elim d [ inl h ↦ absurd (none x h s) | inr e ↦ e ] })
  keeps_added (One y) new (inl added) stands one =
      subst (Keeps Stands After) (sym added.1)
      (record { done = inl one.done; stands = one.stands; only = λ x d s. elim d [ inl h ↦ one.only x h s | inr e ↦ e ∙ sym added.0 ] })
  keeps_added (One y) new (inr added) stands one =
      subst (Keeps Stands After) (sym added.1)
      (pair_keeps Stands After y source (record { done = inl one.done; stands = one.stands }) (record { done = inr refl; stands = stands }) added.0
      (λ x d s. elim d [ inl h ↦ inl (one.only x h s) | inr e ↦ inr e ]))
  keeps_added (Pair p y) new (inl added) stands both =
      let same : (x : Source) → x ≡ source → (x ≡ sources.Port p) ⊎ (x ≡ y) = λ x e. elim added.0 [ inl h ↦ inl (e ∙ sym h) | inr h ↦ inr (e ∙ sym h) ] in
      subst (Keeps Stands After) (sym added.1)
      (record {
        differ = both.differ;
        one_done = inl both.one_done;
        one_stands = both.one_stands;
        other_done = inl both.other_done;
        other_stands = both.other_stands;
        only = λ x d s. elim d [ inl h ↦ both.only x h s | inr e ↦ same x e ];
      })
  keeps_added (Pair p y) new (inr added) stands both =
      subst (Keeps Stands After) (sym added.1)
      (λ but. of_three Stands After but (sources.Port p) y source (record { done = inl both.one_done; stands = both.one_stands })
      (record { done = inl both.other_done; stands = both.other_stands }) (record { done = inr refl; stands = stands }) both.differ (added.0).0 (added.0).1)
  keeps_added More new added stands more =
      subst (Keeps Stands After) (sym added)
      (λ but.
      let two = more but in
      record {
        one = two.one;
        other = two.other;
        differ = two.differ;
        one_done = (inl two.one_done.0, two.one_done.1);
        one_stands = two.one_stands;
        other_done = (inl two.other_done.0, two.other_done.1);
        other_stands = two.other_stands;
      })

-- the same of other sets of sources that were gone over
pub keeps_as : (Stands Done Gone : Source → Type 0) → ((x : Source) → Stands x → Done x → Gone x) → ((x : Source) → Stands x → Gone x → Done x)
    → (tally : Tally) → Keeps Stands Done tally → Keeps Stands Gone tally
keeps_as Stands Done Gone to from Empty none = λ x g s. none x (from x s g) s
keeps_as Stands Done Gone to from (One y) one = record { done = to y one.stands one.done; stands = one.stands; only = λ x g s. one.only x (from x s g) s }
keeps_as Stands Done Gone to from (Pair p y) both = record {
  differ = both.differ;
  one_done = to (sources.Port p) both.one_stands both.one_done;
  one_stands = both.one_stands;
  other_done = to y both.other_stands both.other_done;
  other_stands = both.other_stands;
  only = λ x g s. both.only x (from x s g) s;
}
keeps_as Stands Done Gone to from More more = λ but.
    let two = more but in
    record {
      one = two.one;
      other = two.other;
      differ = two.differ;
      one_done = (to two.one two.one_stands two.one_done.0, two.one_done.1);
      one_stands = two.one_stands;
      other_done = (to two.other two.other_stands two.other_done.0, two.other_done.1);
      other_stands = two.other_stands;
    }

-- all sources of a class
pub tells_whole : (Stands Done : Source → Type 0) (tally : Tally) → Keeps Stands Done tally → Tells Stands Done (whole tally)
tells_whole Stands Done Empty none = none
tells_whole Stands Done (One y) one = one
tells_whole Stands Done (Pair p y) both = record {
  one = sources.Port p;
  other = y;
  differ = both.differ;
  one_done = both.one_done;
  one_stands = both.one_stands;
  other_done = both.other_done;
  other_stands = both.other_stands;
}
tells_whole Stands Done More more =
    let two = more (record { 0 = 0 }) in
    record {
      one = two.one;
      other = two.other;
      differ = two.differ;
      one_done = two.one_done.0;
      one_stands = two.one_stands;
      other_done = two.other_done.0;
      other_stands = two.other_stands;
    }

-- the sources of a class but one port
module _ (Stands Done : Source → Type 0) (but : NetId) where
  abbrev Left : Source → Type 0
  Left x = Done x × AreApart x (sinks.Port but)

  pub tells_without : (tally : Tally) (found : Found) → IsWithout but tally found → Keeps Stands Done tally → Tells Stands Left found
  tells_without Empty found is none = subst (Tells Stands Left) (sym is) (λ x d s. none x d.0 s)
  tells_without (One y) found (inl is) one = subst (Tells Stands Left) (sym is.1) (λ x d s. not_apart but x (one.only x d.0 s ∙ is.0) d.1)
  tells_without (One y) found (inr is) one =
      subst (Tells Stands Left) (sym is.1) (record { done = (one.done, apart_of but y is.0); stands = one.stands; only = λ x d s. one.only x d.0 s })
  tells_without (Pair p y) found (inl is) both =
      let port : sources.Port p ≡ sources.Port but = ap (λ (m : NetId). sources.Port m) is.0 in
      subst (Tells Stands Left) (sym is.1)
      (record {
        done = (both.other_done, apart_of but y (λ e. both.differ (port ∙ sym e)));
        stands = both.other_stands;
        only = λ x d s. elim (both.only x d.0 s) [ inl e ↦ absurd (not_apart but x (e ∙ port) d.1) | inr e ↦ e ];
      })
  tells_without (Pair p y) found (inr (inl is)) both =
      subst (Tells Stands Left) (sym is.1.1)
      (record {
        done = (both.one_done, is.0);
        stands = both.one_stands;
        only = λ x d s. elim (both.only x d.0 s) [ inl e ↦ e | inr e ↦ absurd (not_apart but x (e ∙ is.1.0) d.1) ];
      })
  tells_without (Pair p y) found (inr (inr is)) both =
      subst (Tells Stands Left) (sym is.1.1)
      (record {
        one = sources.Port p;
        other = y;
        differ = both.differ;
        one_done = (both.one_done, is.0);
        one_stands = both.one_stands;
        other_done = (both.other_done, apart_of but y is.1.0);
        other_stands = both.other_stands;
      })
  tells_without More found is more = subst (Tells Stands Left) (sym is) (more but)

pub drivers_as : (n : Netlist) (cells : Cells) (classes : List ℕ) (Done Gone : Source → Type 0) (drivers : List Tally)
    → ((x : Source) (net : NetId) → source_net n cells x ≡ Some net → Done x → Gone x) → ((x : Source) (net : NetId) → source_net n cells x ≡ Some net → Gone x → Done x)
    → AreDrivers n cells classes Done drivers → AreDrivers n cells classes Gone drivers
drivers_as n cells classes Done Gone drivers to from ds = record {
  count = ds.count;
  each = λ class lt.
      keeps_as (StandsOn n cells classes class) Done Gone (λ x s. to x s.net s.net_is) (λ x s. from x s.net s.net_is) (get_or drivers class Empty) (ds.each class lt);
}

-- a source that stands on no net
still : (n : Netlist) (cells : Cells) (classes : List ℕ) (Done : Source → Type 0) (drivers : List Tally) (source : Source)
    → source_net n cells source ≡ None → AreDrivers n cells classes Done drivers → AreDrivers n cells classes (λ x. Done x ⊎ (x ≡ source)) drivers
still n cells classes Done drivers source e ds =
    drivers_as n cells classes Done (λ x. Done x ⊎ (x ≡ source)) drivers (λ x net is d. inl d)
    (λ x net is g. elim g [ inl d ↦ d | inr same ↦ absurd (none-some net (sym e ∙ sym (ap (source_net n cells) same) ∙ is)) ]) ds

put_case : (n : Netlist) (cells : Cells) (classes : List ℕ) (Done : Source → Type 0) (old new : List Tally) (source : Source) (net : NetId) (class : ℕ)
    → source_net n cells source ≡ Some net → IsPut old new (get_or classes net.0 0) source → AreDrivers n cells classes Done old → class < length n.nets
    → (class ≡ get_or classes net.0 0) ⊎ (class ≢ get_or classes net.0 0) → Keeps (StandsOn n cells classes class) (λ x. Done x ⊎ (x ≡ source)) (get_or new class Empty)
put_case n cells classes Done old new source net class is p ds lt (inl e) =
    let here : IsAdded source (get_or old class Empty) (get_or new class Empty) =
    subst (λ (c : ℕ). IsAdded source (get_or old c Empty) (get_or new c Empty)) (sym e) p.here in
    keeps_added (StandsOn n cells classes class) Done source (get_or old class Empty) (get_or new class Empty) here
    (record { net = net; net_is = is; class_is = sym e }) (ds.each class lt)
put_case n cells classes Done old new source net class is p ds lt (inr ne) =
    subst (Keeps (StandsOn n cells classes class) (λ x. Done x ⊎ (x ≡ source))) (sym (p.others class ne))
    (keeps_as (StandsOn n cells classes class) Done (λ x. Done x ⊎ (x ≡ source)) (λ x s d. inl d)
    (λ x s g. elim g [
      | inl d ↦ d
      | inr same ↦ absurd (ne (sym s.class_is ∙ ap (λ (m : NetId). get_or classes m.0 0) (same_Some s.net net (sym s.net_is ∙ ap (source_net n cells) same ∙ is))))
    ]) (get_or old class Empty) (ds.each class lt))

-- a source is put where it stands
pub drivers_put : (n : Netlist) (cells : Cells) (classes : List ℕ) (Done : Source → Type 0) (old new : List Tally) (source : Source) (net : Option NetId)
    → source_net n cells source ≡ net → MatchOption net (new ≡ old) (λ m. IsPut old new (get_or classes m.0 0) source)
    → AreDrivers n cells classes Done old → AreDrivers n cells classes (λ x. Done x ⊎ (x ≡ source)) new
drivers_put n cells classes Done old new source None is p ds =
    subst (AreDrivers n cells classes (λ x. Done x ⊎ (x ≡ source))) (sym p) (still n cells classes Done old source is ds)
drivers_put n cells classes Done old new source (Some net) is p ds = record {
  count = p.len ∙ ds.count;
  each = λ class lt. put_case n cells classes Done old new source net class is p ds lt (cases_eq class (get_or classes net.0 0));
}

-- the order of out pins
before_more : (i p o : ℕ) (s : Step) → IsBefore i p o s → IsBefore i p (o + 1) s
before_more i p o s (inl h) = inl h
before_more i p o s (inr (e, inl h)) = inr (e, inl h)
before_more i p o s (inr (e, inr h)) = inr (e, inr (h.0, omega (arith, h.1)))

step_same : (s t : Step) → s.instance ≡ t.instance → s.path ≡ t.path → s.out ≡ t.out → s ≡ t
step_same s t a b d =
    ap (λ (x : ℕ). record { instance = x; path = s.path; out = s.out }) a
    ∙ ap (λ (x : ℕ). record { instance = t.instance; path = x; out = s.out }) b
    ∙ ap (λ (x : ℕ). record { instance = t.instance; path = t.path; out = x }) d

last_out : (i p o : ℕ) (s : Step) → s.instance ≡ i → s.path ≡ p → s.out < o + 1 → (s.out < o) ⊎ (o ≤ s.out) → IsBefore i p o s ⊎ (s ≡ record { instance = i; path = p; out = o })
last_out i p o s a b lt (inl h) = inl (inr (a, inr (b, h)))
last_out i p o s a b lt (inr h) = inr (step_same s (record { instance = i; path = p; out = o }) a b (omega arith))

before_back : (i p o : ℕ) (s : Step) → IsBefore i p (o + 1) s → IsBefore i p o s ⊎ (s ≡ record { instance = i; path = p; out = o })
before_back i p o s (inl h) = inl (inl h)
before_back i p o s (inr (e, inl h)) = inl (inr (e, inl h))
before_back i p o s (inr (e, inr h)) = last_out i p o s e h.0 h.1 (cases_lt s.out o)

done_more : (n : Netlist) (ports i p o : ℕ) (x : Source) → IsDone n ports i p o x ⊎ (x ≡ sources.Out (record { instance = i; path = p; out = o })) → IsDone n ports i p (o + 1) x
done_more n ports i p o (sources.Port net) (inl d) = d
done_more n ports i p o (sources.Port net) (inr e) = absurd (not_both net (record { instance = i; path = p; out = o }) e)
done_more n ports i p o (sources.Out s) (inl d) = before_more i p o s d
done_more n ports i p o (sources.Out s) (inr e) =
    let same = same_step s (record { instance = i; path = p; out = o }) e in
    inr (ap (λ (t : Step). t.instance) same, inr (ap (λ (t : Step). t.path) same, omega (arith, ap (λ (t : Step). t.out) same)))

done_back : (n : Netlist) (ports i p o : ℕ) (x : Source) → IsDone n ports i p (o + 1) x → IsDone n ports i p o x ⊎ (x ≡ sources.Out (record { instance = i; path = p; out = o }))
done_back n ports i p o (sources.Port net) d = inl d
done_back n ports i p o (sources.Out s) d = elim (before_back i p o s d) [ inl h ↦ inl h | inr e ↦ inr (ap (λ (t : Step). sources.Out t) e) ]

-- one more out pin
pub out_done : (n : Netlist) (cells : Cells) (classes : List ℕ) (ports i p o : ℕ) (old new : List Tally) (net : Option NetId)
    → source_net n cells (sources.Out (record { instance = i; path = p; out = o })) ≡ net
    → MatchOption net (new ≡ old) (λ m. IsPut old new (get_or classes m.0 0) (sources.Out (record { instance = i; path = p; out = o })))
    → AreDrivers n cells classes (IsDone n ports i p o) old → AreDrivers n cells classes (IsDone n ports i p (o + 1)) new
out_done n cells classes ports i p o old new net is put ds =
    let s : Source = sources.Out (record { instance = i; path = p; out = o }) in
    drivers_as n cells classes (λ x. IsDone n ports i p o x ⊎ (x ≡ s)) (IsDone n ports i p (o + 1)) new
    (λ x m e d. done_more n ports i p o x d) (λ x m e d. done_back n ports i p o x d)
    (drivers_put n cells classes (IsDone n ports i p o) old new s net is put ds)

path_to : (i p len : ℕ) (s : Step) → IsBefore i p len s → IsBefore i (p + 1) 0 s
path_to i p len s (inl h) = inl h
path_to i p len s (inr (e, inl h)) = inr (e, inl (omega arith))
path_to i p len s (inr (e, inr h)) = inr (e, inl (omega (arith, h.0)))

path_case : (i p len : ℕ) (s : Step) → s.instance ≡ i → s.path < p + 1 → (s.path ≡ p → s.out < len) → (s.path < p) ⊎ (p ≤ s.path) → IsBefore i p len s
path_case i p len s e lt few (inl h) = inr (e, inl h)
path_case i p len s e lt few (inr h) = let same : s.path ≡ p = omega arith in inr (e, inr (same, few same))

path_from : (i p len : ℕ) (s : Step) → (s.instance ≡ i → s.path ≡ p → s.out < len) → IsBefore i (p + 1) 0 s → IsBefore i p len s
path_from i p len s few (inl h) = inl h
path_from i p len s few (inr (e, inl h)) = path_case i p len s e h (few e) (cases_lt s.path p)
path_from i p len s few (inr (e, inr h)) = absurd (omega (arith, h.1))

done_path : (n : Netlist) (ports i p len : ℕ) (x : Source) → IsDone n ports i p len x → IsDone n ports i (p + 1) 0 x
done_path n ports i p len (sources.Port net) d = d
done_path n ports i p len (sources.Out s) d = path_to i p len s d

back_path : (n : Netlist) (cells : Cells) (ports i p len : ℕ)
    → ((s : Step) (net : NetId) → source_net n cells (sources.Out s) ≡ Some net → s.instance ≡ i → s.path ≡ p → s.out < len)
    → (x : Source) (net : NetId) → source_net n cells x ≡ Some net → IsDone n ports i (p + 1) 0 x → IsDone n ports i p len x
back_path n cells ports i p len few (sources.Port m) net e d = d
back_path n cells ports i p len few (sources.Out s) net e d = path_from i p len s (few s net e) d

-- all out pins of a path
pub path_done : (n : Netlist) (cells : Cells) (classes : List ℕ) (ports i p len : ℕ) (drivers : List Tally)
    → ((s : Step) (net : NetId) → source_net n cells (sources.Out s) ≡ Some net → s.instance ≡ i → s.path ≡ p → s.out < len)
    → AreDrivers n cells classes (IsDone n ports i p len) drivers → AreDrivers n cells classes (IsDone n ports i (p + 1) 0) drivers
path_done n cells classes ports i p len drivers few ds =
    drivers_as n cells classes (IsDone n ports i p len) (IsDone n ports i (p + 1) 0) drivers
    (λ x m e d. done_path n ports i p len x d) (back_path n cells ports i p len few) ds

instance_to : (i len : ℕ) (s : Step) → IsBefore i len 0 s → IsBefore (i + 1) 0 0 s
instance_to i len s (inl h) = inl (omega arith)
instance_to i len s (inr h) = inl (omega (arith, h.0))

instance_case : (i len : ℕ) (s : Step) → s.instance < i + 1 → (s.instance ≡ i → s.path < len) → (s.instance < i) ⊎ (i ≤ s.instance) → IsBefore i len 0 s
instance_case i len s lt few (inl h) = inl h
instance_case i len s lt few (inr h) = let same : s.instance ≡ i = omega arith in inr (same, inl (few same))

instance_from : (i len : ℕ) (s : Step) → (s.instance ≡ i → s.path < len) → IsBefore (i + 1) 0 0 s → IsBefore i len 0 s
instance_from i len s few (inl h) = instance_case i len s h few (cases_lt s.instance i)
instance_from i len s few (inr (e, inl h)) = absurd (omega arith)
instance_from i len s few (inr (e, inr h)) = absurd (omega (arith, h.1))

done_instance : (n : Netlist) (ports i len : ℕ) (x : Source) → IsDone n ports i len 0 x → IsDone n ports (i + 1) 0 0 x
done_instance n ports i len (sources.Port net) d = d
done_instance n ports i len (sources.Out s) d = instance_to i len s d

back_instance : (n : Netlist) (cells : Cells) (ports i len : ℕ)
    → ((s : Step) (net : NetId) → source_net n cells (sources.Out s) ≡ Some net → s.instance ≡ i → s.path < len)
    → (x : Source) (net : NetId) → source_net n cells x ≡ Some net → IsDone n ports (i + 1) 0 0 x → IsDone n ports i len 0 x
back_instance n cells ports i len few (sources.Port m) net e d = d
back_instance n cells ports i len few (sources.Out s) net e d = instance_from i len s (few s net e) d

-- all paths of an instance
pub instance_done : (n : Netlist) (cells : Cells) (classes : List ℕ) (ports i len : ℕ) (drivers : List Tally)
    → ((s : Step) (net : NetId) → source_net n cells (sources.Out s) ≡ Some net → s.instance ≡ i → s.path < len)
    → AreDrivers n cells classes (IsDone n ports i len 0) drivers → AreDrivers n cells classes (IsDone n ports (i + 1) 0 0) drivers
instance_done n cells classes ports i len drivers few ds =
    drivers_as n cells classes (IsDone n ports i len 0) (IsDone n ports (i + 1) 0 0) drivers
    (λ x m e d. done_instance n ports i len x d) (back_instance n cells ports i len few) ds

-- whether a port is a net's and drives
abbrev Is : NetId → Port → Bool
Is net port = port.net.0 == net.0 && drives port.direction

or_none : (a b : Bool) → b ≡ false → (a || b) ≡ true → a ≡ true
or_none true b f e = refl
or_none false b f e = absurd (false≢true (sym f ∙ e))

port_more : (n : Netlist) (k : ℕ) (d : Port) (net : NetId) → k < length n.ports → list_any (Is net) (take (k + 1) n.ports) ≡ true
    → (list_any (Is net) (take k n.ports) ≡ true) ⊎ (Is net (get_or n.ports k d) ≡ true)
port_more n k d net lt e = or_cases (list_any (Is net) (take k n.ports)) (Is net (get_or n.ports k d)) (sym (list_any_more (Is net) n.ports k d lt) ∙ e)

skip_back : (n : Netlist) (k : ℕ) (d : Port) (x : Source) → k < length n.ports → drives (get_or n.ports k d).direction ≡ false → IsDone n (k + 1) 0 0 0 x → IsDone n k 0 0 0 x
skip_back n k d (sources.Out s) lt off h = h
skip_back n k d (sources.Port net) lt off h =
    let port = get_or n.ports k d in
    elim (port_more n k d net lt h) [
      | inl old ↦ old
      | inr here ↦ absurd (false≢true (sym off ∙ and_second (port.net.0 == net.0) (drives port.direction) here))
    ]

skip_to : (n : Netlist) (k : ℕ) (x : Source) → IsDone n k 0 0 0 x → IsDone n (k + 1) 0 0 0 x
skip_to n k (sources.Out s) h = h
skip_to n k (sources.Port net) h = list_any_kept (Is net) n.ports k h

-- a port that doesn't drive
pub port_skipped : (n : Netlist) (cells : Cells) (classes : List ℕ) (k : ℕ) (d : Port) (drivers : List Tally) → k < length n.ports
    → drives (get_or n.ports k d).direction ≡ false
    → AreDrivers n cells classes (IsDone n k 0 0 0) drivers → AreDrivers n cells classes (IsDone n (k + 1) 0 0 0) drivers
port_skipped n cells classes k d drivers lt off ds =
    drivers_as n cells classes (IsDone n k 0 0 0) (IsDone n (k + 1) 0 0 0) drivers
    (λ x m e h. skip_to n k x h) (λ x m e h. skip_back n k d x lt off h) ds

put_to : (n : Netlist) (k : ℕ) (d : Port) (x : Source) → k < length n.ports → Is (get_or n.ports k d).net (get_or n.ports k d) ≡ true
    → IsDone n k 0 0 0 x ⊎ (x ≡ sources.Port (get_or n.ports k d).net) → IsDone n (k + 1) 0 0 0 x
put_to n k d (sources.Out s) lt here (inl h) = h
put_to n k d (sources.Out s) lt here (inr e) = absurd (not_both (get_or n.ports k d).net s (sym e))
put_to n k d (sources.Port net) lt here (inl h) = list_any_kept (Is net) n.ports k h
put_to n k d (sources.Port net) lt here (inr e) =
    let port = get_or n.ports k d in
    let same : net ≡ port.net = same_port net port.net e in
    let now : Is net port ≡ true = subst (λ (m : NetId). Is m port ≡ true) (sym same) here in
    let le : k < length (take (k + 1) n.ports) = omega (arith, length-take-le (k + 1) n.ports (omega arith)) in
    let at : get_or (take (k + 1) n.ports) k d ≡ port = get_or-take (k + 1) n.ports k d (omega arith) in
    list_any_at (Is net) (take (k + 1) n.ports) k d le (ap (Is net) at ∙ now)

put_back : (n : Netlist) (k : ℕ) (d : Port) (x : Source) → k < length n.ports → IsDone n (k + 1) 0 0 0 x → IsDone n k 0 0 0 x ⊎ (x ≡ sources.Port (get_or n.ports k d).net)
put_back n k d (sources.Out s) lt h = inl h
put_back n k d (sources.Port net) lt h =
    let port = get_or n.ports k d in
    elim (port_more n k d net lt h) [
      | inl old ↦ inl old
      | inr here ↦ inr (ap (λ (m : NetId). sources.Port m) (net_same net port.net (sym (eqb-true port.net.0 net.0 (and_first (port.net.0 == net.0) (drives port.direction) here)))))
    ]

-- a port that drives
pub port_put : (n : Netlist) (cells : Cells) (classes : List ℕ) (k : ℕ) (d : Port) (old new : List Tally) → k < length n.ports
    → drives (get_or n.ports k d).direction ≡ true
    → IsPut old new (get_or classes (get_or n.ports k d).net.0 0) (sources.Port (get_or n.ports k d).net)
    → AreDrivers n cells classes (IsDone n k 0 0 0) old → AreDrivers n cells classes (IsDone n (k + 1) 0 0 0) new
port_put n cells classes k d old new lt on put ds =
    let port = get_or n.ports k d in
    let here : Is port.net port ≡ true = ap (λ (b : Bool). b && drives port.direction) (eq-eqb port.net.0 port.net.0 refl) ∙ on in
    let has : has_port drives n port.net ≡ true = list_any_at (Is port.net) n.ports k d lt here in
    let is : source_net n cells (sources.Port port.net) ≡ Some port.net = ap (λ (b : Bool). cond b (Some port.net) None) has in
    drivers_as n cells classes (λ x. IsDone n k 0 0 0 x ⊎ (x ≡ sources.Port port.net)) (IsDone n (k + 1) 0 0 0) new
    (λ x m e h. put_to n k d x lt here h) (λ x m e h. put_back n k d x lt h)
    (drivers_put n cells classes (IsDone n k 0 0 0) old new (sources.Port port.net) (Some port.net) is put ds)

-- the drivers before any source
nothing_done : (n : Netlist) (x : Source) → IsDone n 0 0 0 0 x → ⊥
nothing_done n (sources.Port net) h = false≢true h
nothing_done n (sources.Out s) (inl h) = omega arith
nothing_done n (sources.Out s) (inr (e, inl h)) = omega arith
nothing_done n (sources.Out s) (inr (e, inr h)) = omega (arith, h.1)

pub drivers_start : (n : Netlist) (cells : Cells) (classes : List ℕ) (drivers : List Tally) → drivers ≡ replicate (length n.nets) Empty
    → AreDrivers n cells classes (IsDone n 0 0 0 0) drivers
drivers_start n cells classes drivers e = record {
  count = ap length e ∙ length-replicate (length n.nets) Empty;
  each = λ class lt.
      subst (Keeps (StandsOn n cells classes class) (IsDone n 0 0 0 0)) (sym (ap (λ (ds : List Tally). get_or ds class Empty) e ∙ get_or-replicate (length n.nets) class Empty Empty lt))
      (λ x h s. nothing_done n x h);
}

-- all sources
all_back : (n : Netlist) (cells : Cells) (x : Source) (net : NetId) → source_net n cells x ≡ Some net → IsDone n (length n.ports) (length n.instances) 0 0 x
all_back n cells (sources.Port m) net e =
    ap (list_any (Is m)) (take_all (length n.ports) n.ports (omega arith)) ∙ (cond_some (has_port drives n m) m net e).0
all_back n cells (sources.Out s) net e =
    let o = out_of n cells s net e in
    inl (slice_get_within n.instances s.instance o.placed o.placed_is)

pub drivers_all : (n : Netlist) (cells : Cells) (classes : List ℕ) (drivers : List Tally)
    → AreDrivers n cells classes (IsDone n (length n.ports) (length n.instances) 0 0) drivers → AreDrivers n cells classes IsAny drivers
drivers_all n cells classes drivers ds =
    drivers_as n cells classes (IsDone n (length n.ports) (length n.instances) 0 0) IsAny drivers (λ x m e h. tt) (λ x m e h. all_back n cells x m e) ds

-- what is known of a class says what drives a sink on it
module _ (n : Netlist) (cells : Cells) (classes : List ℕ) (ok : IsNetlist n) (cls : AreClassesOf n classes) (sink : Sink) (to : NetId) (to_is : sink_net n cells sink ≡ Some to)
    (Done : Source → Type 0) (done_apart : (x : Source) → Done x → AreApart x sink) (apart_done : (x : Source) → AreApart x sink → Done x) where
  feeds_of : (x : Source) → Done x → StandsOn n cells classes (get_or classes to.0 0) x → Feeds n cells x sink
  feeds_of x d s = record {
    from = s.net;
    to = to;
    from_is = s.net_is;
    to_is = to_is;
    joined = (cls.same s.net.0 to.0 (source_within n cells x s.net ok s.net_is) (sink_within n cells sink to ok to_is)).0 s.class_is;
    apart = done_apart x d;
  }

  stands_of : (x : Source) → Feeds n cells x sink → StandsOn n cells classes (get_or classes to.0 0) x
  stands_of x f =
      let same : f.to ≡ to = same_Some f.to to (sym f.to_is ∙ to_is) in
      record {
        net = f.from;
        net_is = f.from_is;
        class_is =
            (cls.same f.from.0 f.to.0 (source_within n cells x f.from ok f.from_is) (sink_within n cells sink f.to ok f.to_is)).1 f.joined
            ∙ ap (λ (m : NetId). get_or classes m.0 0) same;
      }

  pub says : (found : Found) → Tells (StandsOn n cells classes (get_or classes to.0 0)) Done found → Says n cells sink found
  says Absent none = λ x f. none x (apart_done x f.apart) (stands_of x f)
  says (Only y) one = record { feeds = feeds_of y one.done one.stands; only = λ x f. one.only x (apart_done x f.apart) (stands_of x f) }
  says Several two = record {
    one = two.one;
    other = two.other;
    differ = two.differ;
    one_feeds = feeds_of two.one two.one_done two.one_stands;
    other_feeds = feeds_of two.other two.other_done two.other_stands;
  }

in_apart : (instance path : ℕ) (x : Source) → AreApart x (sinks.In instance path)
in_apart instance path (sources.Port net) = tt
in_apart instance path (sources.Out s) = tt

pub says_in : (n : Netlist) (cells : Cells) (classes : List ℕ) (drivers : List Tally) → IsNetlist n → AreClassesOf n classes → AreDrivers n cells classes IsAny drivers
    → (instance path : ℕ) (to : NetId) → sink_net n cells (sinks.In instance path) ≡ Some to → get_or classes to.0 0 < length n.nets
    → Says n cells (sinks.In instance path) (whole (get_or drivers (get_or classes to.0 0) Empty))
says_in n cells classes drivers ok cls ds instance path to to_is lt =
    says n cells classes ok cls (sinks.In instance path) to to_is IsAny (λ x d. in_apart instance path x) (λ x a. tt)
    (whole (get_or drivers (get_or classes to.0 0) Empty))
    (tells_whole (StandsOn n cells classes (get_or classes to.0 0)) IsAny (get_or drivers (get_or classes to.0 0) Empty) (ds.each (get_or classes to.0 0) lt))

pub says_port : (n : Netlist) (cells : Cells) (classes : List ℕ) (drivers : List Tally) → IsNetlist n → AreClassesOf n classes → AreDrivers n cells classes IsAny drivers
    → (out : NetId) (found : Found) → sink_net n cells (sinks.Port out) ≡ Some out → get_or classes out.0 0 < length n.nets
    → IsWithout out (get_or drivers (get_or classes out.0 0) Empty) found → Says n cells (sinks.Port out) found
says_port n cells classes drivers ok cls ds out found to_is lt is =
    says n cells classes ok cls (sinks.Port out) out to_is (λ x. IsAny x × AreApart x (sinks.Port out)) (λ x d. d.1) (λ x a. (tt, a)) found
    (tells_without (StandsOn n cells classes (get_or classes out.0 0)) IsAny out (get_or drivers (get_or classes out.0 0) Empty) found is (ds.each (get_or classes out.0 0) lt))

-- a sink that stands on no net
pub says_none : (n : Netlist) (cells : Cells) (sink : Sink) → sink_net n cells sink ≡ None → HasNoSource n cells sink
says_none n cells sink e x f = none-some f.to (sym e ∙ f.to_is)
