-- Places by name, as one more is looked at.
use Rattle.std.proofs.Common.{◌≡◌, ℕ, ◌+◌, ◌<◌, Bool, true, false, cond, List, [], ◌∷◌, length, get_or, take, Bor, Option, Some, None, refl, sym, ap, ◌∙◌, arith}
use Rattle.std.specs.Prelude.{option_and_then, slice_get}
use Rattle.std.specs.HashMap.{HashMap, get}
use Rattle.std.specs.List.{find}
use Rattle.std.specs.Option.{option_or}
use Rattle.std.specs.Str.{bytes_eq}
use Rattle.std.proofs.lemmas.List.{take_more, take_all}
use Rattle.std.proofs.lemmas.List.Folds.{find-append}
use Rattle.std.proofs.lemmas.Option.{slice_get-get_or, get_or_from_slice_get}
use Rattle.netlist_core.specs.declared.netlist.NetName.{NetName}
use Rattle.netlist_core.specs.declared.netlist.Port.{Port}
use Rattle.netlist_core.specs.Netlists.{plain_of}
use Rattle.netlist_core.specs.Places.{AreNoted}

-- the one that is found first, or the next
found_next : {X : Type 0} (xs : List X) (n : ℕ) (t : Bool) (old : Option ℕ) (x : X) → n < length xs → slice_get xs n ≡ Some x → ((place : ℕ) → old ≡ Some place → place < n)
    → option_and_then (λ place. slice_get xs place) (option_or old (cond t (Some n) None)) ≡ option_or (option_and_then (λ place. slice_get xs place) old) (cond t (Some x) None)
found_next xs n true None x lt here within = here
found_next xs n false None x lt here within = refl
found_next {X} xs n t (Some place) x lt here within =
    let inside : place < length xs = let below = within place refl in omega arith in
    let there = slice_get-get_or xs place x inside in
    there ∙ sym (ap (λ (o : Option X). option_or o (cond t (Some x) None)) there)

next_within : (n : ℕ) (t : Bool) (old : Option ℕ) (place : ℕ) → ((p : ℕ) → old ≡ Some p → p < n) → option_or old (cond t (Some n) None) ≡ Some place → place < n + 1
next_within n true None place within e = let same : n ≡ place = cc in omega arith
next_within n false None place within e = absurd cc
next_within n t (Some p) place within e = let below = within p refl in let same : p ≡ place = cc in omega arith

-- nothing is noted at first
pub noted_none : {X S : Type 0} (name : X → List ℕ) (places : HashMap (Bor (List ℕ)) ℕ S) (xs : List X) → ((q : Bor (List ℕ)) → get (λ x y. bytes_eq x.now y.now) places q ≡ None) → AreNoted name places xs 0
noted_none name places xs none = record {
  is = λ q. ap (option_and_then (λ place. slice_get xs place)) (none q);
  within = λ q place e. let no = none q in absurd cc;
}

module _ {X S : Type 0} (key : X → List ℕ) (old new : HashMap (Bor (List ℕ)) ℕ S) (xs : List X) (n : ℕ) (x : X) (name : List ℕ) (lt : n < length xs) (is : x ≡ get_or xs n x) (named : name ≡ key x)
    (added : (q : Bor (List ℕ)) → get (λ x y. bytes_eq x.now y.now) new q ≡ option_or (get (λ x y. bytes_eq x.now y.now) old q) (cond (bytes_eq name q.now) (Some n) None)) (noted : AreNoted key old xs n) where
  here : slice_get xs n ≡ Some x
  here = slice_get-get_or xs n x lt ∙ ap (λ (c : X). Some c) (sym is)

  found : (q : Bor (List ℕ)) → option_and_then (λ place. slice_get xs place) (get (λ x y. bytes_eq x.now y.now) new q) ≡ find (λ c. bytes_eq (key c) q.now) (take (n + 1) xs)
  found q =
      let test : X → Bool = λ c. bytes_eq (key c) q.now in
      let more = ap (find test) (take_more xs n x lt) ∙ find-append test (take n xs) (get_or xs n x ∷ []) in
      let last = ap (λ (c : X). option_or (find test (take n xs)) (find test (c ∷ []))) (sym is) in
      ap (option_and_then (λ place. slice_get xs place)) (added q)
      ∙ found_next xs n (bytes_eq name q.now) (get (λ x y. bytes_eq x.now y.now) old q) x lt here (noted.within q)
      ∙ ap (λ (o : Option X). option_or o (cond (bytes_eq name q.now) (Some x) None)) (noted.is q)
      ∙ ap (λ (l : List ℕ). option_or (find test (take n xs)) (cond (bytes_eq l q.now) (Some x) None)) named
      ∙ sym (more ∙ last)

  pub noted_more : AreNoted key new xs (n + 1)
  noted_more = record {
    is = found;
    within = λ q place e. next_within n (bytes_eq name q.now) (get (λ x y. bytes_eq x.now y.now) old q) place (noted.within q) (sym (added q) ∙ e);
  }

module _ {X S : Type 0} (key : X → List ℕ) (places : HashMap (Bor (List ℕ)) ℕ S) (xs : List X) (q : Bor (List ℕ)) (all : AreNoted key places xs (length xs)) where
  in_all : option_and_then (λ place. slice_get xs place) (get (λ x y. bytes_eq x.now y.now) places q) ≡ find (λ x. bytes_eq (key x) q.now) xs
  in_all = all.is q ∙ ap (find (λ x. bytes_eq (key x) q.now)) (take_all (length xs) xs (omega arith))

  pub found_at : (place : ℕ) → get (λ x y. bytes_eq x.now y.now) places q ≡ Some place → slice_get xs place ≡ find (λ x. bytes_eq (key x) q.now) xs
  found_at place there = sym (ap (option_and_then (λ place. slice_get xs place)) there) ∙ in_all

  pub found_nowhere : get (λ x y. bytes_eq x.now y.now) places q ≡ None → None ≡ find (λ x. bytes_eq (key x) q.now) xs
  found_nowhere there = sym (ap (option_and_then (λ place. slice_get xs place)) there) ∙ in_all

-- a port by its plain name
pub port_more : {S : Type 0} (nets : List NetName) (old new : HashMap (Bor (List ℕ)) ℕ S) (ports : List Port) (n : ℕ) (d : Port) (name : List ℕ) → n < length ports → name ≡ plain_of nets (get_or ports n d).net
    → ((q : Bor (List ℕ)) → get (λ x y. bytes_eq x.now y.now) new q ≡ option_or (get (λ x y. bytes_eq x.now y.now) old q) (cond (bytes_eq name q.now) (Some n) None)) → AreNoted (λ p. plain_of nets p.net) old ports n
    → AreNoted (λ p. plain_of nets p.net) new ports (n + 1)
port_more nets old new ports n d name lt named added noted =
    noted_more (λ (p : Port). plain_of nets p.net) old new ports n (get_or ports n d) name lt (sym (get_or_from_slice_get ports n (get_or ports n d) (get_or ports n d) (slice_get-get_or ports n d lt))) named added noted
