-- A set that keeps links by their keys.
use Rattle.std.proofs.lemmas.List.Folds.{list_any_more}
use Rattle.std.proofs.Common.{◌≡◌, ℕ, ◌+◌, ◌<◌, length, get_or, take, Bool, true, false, ◌&&◌, ◌||◌, ◌==◌, cond, List, [], ◌∷◌, refl, sym, ap, ap₂, ◌∙◌}
use Rattle.std.specs.List.{list_any}
use Rattle.std.specs.Option.{option_eq}
use Rattle.std.specs.HashSet.{HashSet, contains}
use Rattle.std.proofs.lemmas.Cmp.{nat_eq_equiv}
use Rattle.chain_trace.specs.declared.path.Source.{Source}
use Rattle.chain_trace.specs.declared.path.Source.TheVariants as sources
use Rattle.chain_trace.specs.declared.path.Sink.{Sink}
use Rattle.chain_trace.specs.declared.path.Sink.TheVariants as sinks
use Rattle.path_links.specs.Edits.{Link, same_source, same_sink, same_link}
use Rattle.path_links.specs.EditKeys.{Key, source_key, sink_key, key_of, same_key, HasLinks}

turned : (a b : ℕ) → (a == b) ≡ (b == a)
turned a b = nat_eq_equiv.symm a b

source_same : (a b : Source) → (option_eq (λ x y. x.0 == y.0 && x.1 == y.1) (source_key a).0 (source_key b).0 && (source_key a).1 == (source_key b).1) ≡ same_source b a
source_same (sources.Port a) (sources.Port b) = turned a.0 b.0
source_same (sources.Port a) (sources.Out b) = refl
source_same (sources.Out a) (sources.Port b) = refl
source_same (sources.Out a) (sources.Out b) = ap₂ ◌&&◌ (ap₂ ◌&&◌ (turned a.instance b.instance) (turned a.path b.path)) (turned a.out b.out)

sink_same : (a b : Sink) → (option_eq ◌==◌ (sink_key a).0 (sink_key b).0 && (sink_key a).1 == (sink_key b).1) ≡ same_sink b a
sink_same (sinks.Port a) (sinks.Port b) = turned a.0 b.0
sink_same (sinks.Port a) (sinks.In i p) = refl
sink_same (sinks.In i p) (sinks.Port b) = refl
sink_same (sinks.In i p) (sinks.In j q) = ap₂ (λ (v w : Bool). v && w) (turned i j) (turned p q)

joined : (a b c d : Bool) → (((a && b) && c) && d) ≡ ((a && b) && (c && d))
joined true true c d = refl
joined true false c d = refl
joined false b c d = refl

key_same : (a b : Link) → same_key (key_of a) (key_of b) ≡ same_link b a
key_same a b =
    joined (option_eq (λ x y. x.0 == y.0 && x.1 == y.1) (source_key a.0).0 (source_key b.0).0) ((source_key a.0).1 == (source_key b.0).1) (option_eq ◌==◌ (sink_key a.1).0 (sink_key b.1).0) ((sink_key a.1).1 == (sink_key b.1).1)
    ∙ ap₂ (λ (v w : Bool). v && w) (source_same a.0 b.0) (sink_same a.1 b.1)

any_same : (l : Link) (links : List Link) → list_any (λ k. same_key (key_of k) (key_of l)) links ≡ list_any (same_link l) links
any_same l [] = refl
any_same l (k ∷ ks) = ap₂ (λ (v w : Bool). v || w) (key_same k l) (any_same l ks)

-- whether a link is in the set
pub has_link : {S : Type 0} (links : List Link) (set : HashSet Key S) (l : Link) → HasLinks links set → contains same_key set (key_of l) ≡ list_any (same_link l) links
has_link links set l has = has (key_of l) ∙ any_same l links

or_cond : (a b : Bool) → cond a true b ≡ (b || a)
or_cond true true = refl
or_cond true false = refl
or_cond false true = refl
or_cond false false = refl

-- one link more
pub link_added : (links : List Link) (i : ℕ) (d : Link) (k q : Key) (had new : Bool) → i < length links → k ≡ key_of (get_or links i d) → new ≡ cond (same_key k q) true had
    → had ≡ list_any (λ l. same_key (key_of l) q) (take i links) → new ≡ list_any (λ l. same_key (key_of l) q) (take (i + 1) links)
link_added links i d k q had new lt is put was =
    put ∙ or_cond (same_key k q) had ∙ ap₂ (λ (v w : Bool). v || w) was (ap (λ (x : Key). same_key x q) is) ∙ sym (list_any_more (λ l. same_key (key_of l) q) links i d lt)
