-- The outputs that are asked for, as one more chain is looked at.
use Rattle.std.proofs.Common.{◌≡◌, ℕ, zero, suc, ◌+◌, ◌<◌, ◌≤◌, Bool, true, false, cond, ◌||◌, List, [], ◌∷◌, ◌++◌, length, map, take, drop, get_or, Contains, Bor, Option, Some, None, refl, sym, ap, ap₂, ◌∙◌, subst, arith}
use Rattle.std.specs.Prelude.{IsTrue}
use Rattle.std.specs.List.{list_any, filter_map, cons_option}
use Rattle.std.specs.HashSet.{HashSet, contains}
use Rattle.std.specs.Str.{bytes_eq}
use Rattle.std.proofs.lemmas.List.{length-append, length-map, map-append, append-nil, get_or-map, get_or_default, take_all, take-append-drop, append_assoc}
use Rattle.std.proofs.lemmas.List.Elements.{All-push, filter_map-append}
use Rattle.std.proofs.lemmas.List.Folds.{list_any-append}
use Rattle.std.proofs.lemmas.Slice.Eq.{bytes_eq-Decides}
use Rattle.netlist_core.specs.declared.netlist.NetId.{NetId}
use Rattle.netlist_core.specs.declared.netlist.Netlist.{Netlist}
use Rattle.netlist_core.specs.Netlists.{plain_of}
use Rattle.chain_trace.specs.Paths.{is_driven, has_port}
use Rattle.chain_trace.specs.Named.{IsPortNamed}
use Rattle.base_types.specs.declared.fault.Fault.{Fault}
use Rattle.base_types.specs.declared.fault.FileKind.{FileKind}
use Rattle.base_types.specs.declared.kind.Kind.TheVariants.{TooManyPaths}
use Rattle.base_types.specs.Faults.{at_line}
use Rattle.base_types.proofs.TruthValues.{bytes_turned, or_false}
use Rattle.list_laws.proofs.RowsMore.{map_next}
use Rattle.traced_paths.specs.declared.asks.Ask.{Ask}
use Rattle.traced_paths.specs.Asked.{Asked, once_behind, outputs_of, told}
use Rattle.traced_paths.specs.Traced.{LacksPort}
use Rattle.traced_paths.specs.Steps.{AreOutputs, HaveOutputs, AreFull, IsTooMany}

any_flip : (name : List ℕ) (xs : List (List ℕ)) → list_any (bytes_eq name) xs ≡ list_any (λ x. bytes_eq x name) xs
any_flip name [] = refl
any_flip name (x ∷ xs) = ap₂ ◌||◌ (bytes_turned name x) (any_flip name xs)

or_swap : (a b c : Bool) → ((a || b) || c) ≡ (b || (a || c))
or_swap true true c = refl
or_swap true false c = refl
or_swap false b c = refl

-- the name, unless it stands there
abbrev unless : Bool → List ℕ → List (List ℕ)
unless stands name = cond stands [] (name ∷ [])

abbrev any : List ℕ → List (List ℕ) → Bool
any name xs = list_any (bytes_eq name) xs

push_case : (before xs : List (List ℕ)) (x name : List ℕ) (t : Bool) → once_behind before (xs ++ name ∷ []) ≡ once_behind before xs ++ unless (any name before || any name (once_behind before xs)) name
    → once_behind (x ∷ before) (xs ++ name ∷ []) ≡ once_behind (x ∷ before) xs ++ unless (any name (x ∷ before) || any name (once_behind (x ∷ before) xs)) name
    → cond t (once_behind before (xs ++ name ∷ [])) (x ∷ once_behind (x ∷ before) (xs ++ name ∷ []))
    ≡ cond t (once_behind before xs) (x ∷ once_behind (x ∷ before) xs) ++ unless (any name before || any name (cond t (once_behind before xs) (x ∷ once_behind (x ∷ before) xs))) name
push_case before xs x name true e f = e
push_case before xs x name false e f =
    ap (λ (l : List (List ℕ)). x ∷ l)
    (f ∙ ap (λ b. once_behind (x ∷ before) xs ++ unless b name) (or_swap (bytes_eq name x) (any name before) (any name (once_behind (x ∷ before) xs))))

-- one name more
once_push : (before names : List (List ℕ)) (name : List ℕ) → once_behind before (names ++ name ∷ []) ≡ once_behind before names ++ unless (any name before || any name (once_behind before names)) name
unfolding once_behind
once_push before [] name = ap (λ b. unless b name) (sym (or_false (any name before)))
once_push before (x ∷ xs) name = push_case before xs x name (any x before) (once_push before xs name) (once_push (x ∷ before) xs name)

named_last : (asked : List Asked) (one : Asked) → filter_map (λ a. a.output) (asked ++ one ∷ []) ≡ filter_map (λ a. a.output) asked ++ cons_option one.output []
named_last asked one = filter_map-append (λ (a : Asked). a.output) asked (one ∷ [])

outputs_none : (asked : List Asked) (one : Asked) → one.output ≡ None → outputs_of (asked ++ one ∷ []) ≡ outputs_of asked
outputs_none asked one e =
    ap (once_behind [])
    (named_last asked one ∙ ap (λ (o : Option (List ℕ)). filter_map (λ a. a.output) asked ++ cons_option o []) e ∙ append-nil (filter_map (λ a. a.output) asked))

outputs_some : (asked : List Asked) (one : Asked) (name : List ℕ) → one.output ≡ Some name → outputs_of (asked ++ one ∷ []) ≡ outputs_of asked ++ unless (list_any (λ x. bytes_eq x name) (outputs_of asked)) name
outputs_some asked one name e =
    ap (once_behind []) (named_last asked one ∙ ap (λ (o : Option (List ℕ)). filter_map (λ a. a.output) asked ++ cons_option o []) e)
    ∙ once_push [] (filter_map (λ a. a.output) asked) name ∙ ap (λ b. outputs_of asked ++ unless b name) (any_flip name (outputs_of asked))

or_cond : (a b : Bool) → cond a true b ≡ (b || (a || false))
or_cond true true = refl
or_cond true false = refl
or_cond false true = refl
or_cond false false = refl

kept_case : (t b : Bool) → (t ≡ true → b ≡ true) → cond t true b ≡ b
kept_case true b h = sym (h refl)
kept_case false b h = refl

pub none_yet : (n : Netlist) {S : Type 0} (seen : HashSet (Bor (List ℕ)) S) → ((q : Bor (List ℕ)) → contains (λ x y. bytes_eq x.now y.now) seen q ≡ false) → HaveOutputs n [] [] seen
unfolding once_behind
none_yet n seen none = record { outputs = record { names = refl; ports = λ k d lt. absurd (omega arith); few = omega arith }; seen_are = none }

module _ (n : Netlist) (before : List Asked) (one : Asked) (nets : List NetId) {S : Type 0} (old : HashSet (Bor (List ℕ)) S) (has : HaveOutputs n before nets old) where
  pub put_none : one.output ≡ None → HaveOutputs n (before ++ one ∷ []) nets old
  put_none e =
      let same = outputs_none before one e in
      record {
        outputs = record { names = has.outputs.names ∙ sym same; ports = has.outputs.ports; few = has.outputs.few };
        seen_are = λ q. has.seen_are q ∙ ap (list_any (λ name. bytes_eq name q.now)) (sym same);
      }

  module _ (name : Bor (List ℕ)) (asks : one.output ≡ Some name.now) (new : HashSet (Bor (List ℕ)) S)
      (added : (q : Bor (List ℕ)) → contains (λ x y. bytes_eq x.now y.now) new q ≡ cond (bytes_eq name.now q.now) true (contains (λ x y. bytes_eq x.now y.now) old q)) where
    more : (b : Bool) → contains (λ x y. bytes_eq x.now y.now) old name ≡ b → outputs_of (before ++ one ∷ []) ≡ outputs_of before ++ unless b name.now
    more b e = outputs_some before one name.now asks ∙ ap (λ b. outputs_of before ++ unless b name.now) (sym (has.seen_are name) ∙ e)

    pub put_again : contains (λ x y. bytes_eq x.now y.now) old name ≡ true → HaveOutputs n (before ++ one ∷ []) nets new
    put_again e =
        let same : outputs_of (before ++ one ∷ []) ≡ outputs_of before = more true e ∙ append-nil (outputs_of before) in
        record {
          outputs = record { names = has.outputs.names ∙ sym same; ports = has.outputs.ports; few = has.outputs.few };
          seen_are = λ q.
              added q
              ∙ kept_case (bytes_eq name.now q.now) (contains (λ x y. bytes_eq x.now y.now) old q)
              (λ t. let is = (bytes_eq-Decides name.now q.now).0 t in has.seen_are q ∙ ap (λ (l : List ℕ). list_any (λ x. bytes_eq x l) (outputs_of before)) (sym is) ∙ sym (has.seen_are name) ∙ e)
              ∙ has.seen_are q ∙ ap (list_any (λ name. bytes_eq name q.now)) (sym same);
        }

    last : contains (λ x y. bytes_eq x.now y.now) old name ≡ false → outputs_of (before ++ one ∷ []) ≡ outputs_of before ++ name.now ∷ []
    last e = more false e

    pub put_new : contains (λ x y. bytes_eq x.now y.now) old name ≡ false → (net : NetId) → IsPortNamed is_driven n name.now net → length nets < 256 → HaveOutputs n (before ++ one ∷ []) (nets ++ net ∷ []) new
    put_new e net port few = record {
      outputs = record {
        names = map-append (plain_of n.nets) nets (net ∷ []) ∙ ap₂ (λ (xs : List (List ℕ)) (x : List ℕ). xs ++ x ∷ []) has.outputs.names port.named ∙ sym (last e);
        ports = All-push (λ (net : NetId). IsTrue (has_port is_driven n net)) nets net has.outputs.ports port.port;
        few = let len = length-append nets (net ∷ []) in omega arith;
      };
      seen_are = λ q.
          added q ∙ ap (cond (bytes_eq name.now q.now) true) (has.seen_are q) ∙ or_cond (bytes_eq name.now q.now) (list_any (λ x. bytes_eq x q.now) (outputs_of before))
          ∙ sym (list_any-append (λ x. bytes_eq x q.now) (outputs_of before) (name.now ∷ [])) ∙ ap (list_any (λ x. bytes_eq x q.now)) (sym (last e));
    }

    pub put_full : contains (λ x y. bytes_eq x.now y.now) old name ≡ false → length nets ≡ 256 → AreFull before one
    put_full e full =
        let len : length (outputs_of before) ≡ 256 = ap length (sym has.outputs.names) ∙ length-map nets (plain_of n.nets) ∙ full in
        record { full = len; more = ap length (last e) ∙ length-append (outputs_of before) (name.now ∷ []) ∙ omega arith }

told_split : {A B : Type 0} (f : A → B) (xs : List A) (i : ℕ) (d : A) → i < length xs → map f xs ≡ map f (take i xs) ++ f (get_or xs i d) ∷ map f (drop (i + 1) xs)
told_split {A} {B} f xs i d lt =
    ap (map f) (sym (take-append-drop (i + 1) xs)) ∙ map-append f (take (i + 1) xs) (drop (i + 1) xs)
    ∙ ap (λ (l : List B). l ++ map f (drop (i + 1) xs)) (map_next f xs i (get_or xs i d) lt (get_or_default xs i d (get_or xs i d) lt))
    ∙ append_assoc (map f (take i xs)) (f (get_or xs i d) ∷ []) (map f (drop (i + 1) xs))

module _ (n : Netlist) (asks : List Ask) (i : ℕ) (d : Ask) (lt : i < length asks) where
  only : (x y : Asked) → Contains (x ∷ []) y → x ≡ y
  only x y (zero, within, is) = is
  only x y (suc k, within, is) = absurd (omega arith)

  -- a port that one of them lacks is one that they lack
  pub lacks_one : (line : ℕ) → LacksPort n (told (get_or asks i d) ∷ []) line → LacksPort n (map told asks) line
  lacks_one line h =
      let same = only (told (get_or asks i d)) h.one h.there in
      let len : length (map told asks) ≡ length asks = length-map asks told in
      let there : Contains (map told asks) (told (get_or asks i d)) = (i, omega arith, get_or-map told asks i d (told (get_or asks i d)) lt) in
      record { one = h.one; there = subst (λ (a : Asked). Contains (map told asks) a) same there; none = h.none; is = h.is }

  pub asked_next : map told (take (i + 1) asks) ≡ map told (take i asks) ++ told (get_or asks i d) ∷ []
  asked_next = map_next told asks i (get_or asks i d) lt (get_or_default asks i d (get_or asks i d) lt)

  pub too_many : (file : FileKind) (f : Fault) → f ≡ at_line TooManyPaths file (get_or asks i d).line → AreFull (map told (take i asks)) (told (get_or asks i d)) → IsTooMany file (map told asks) f
  too_many file f e full = record {
    line = (get_or asks i d).line;
    asks = record {
      front = map told (take i asks);
      one = told (get_or asks i d);
      behind = map told (drop (i + 1) asks);
      is = told_split told asks i d lt;
      full = full.full;
      more = full.more;
      line_is = refl;
    };
    is = e;
  }

pub all_wanted : (n : Netlist) (asks : List Ask) (i : ℕ) (nets : List NetId) {S : Type 0} (seen : HashSet (Bor (List ℕ)) S) → length asks ≤ i → HaveOutputs n (map told (take i asks)) nets seen → AreOutputs n (map told asks) nets
all_wanted n asks i nets seen le has = subst (λ (l : List Ask). AreOutputs n (map told l) nets) (take_all i asks le) has.outputs
