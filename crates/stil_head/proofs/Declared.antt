-- What a head declares: chains of at least one bit each, and no ScanOut twice.
use Rattle.std.proofs.Common.{◌≡◌, ℕ, ◌-◌, ◌≤◌, Bool, true, false, List, [], ◌∷◌, ◌++◌, map, flat_map, refl, sym, ap, ◌∙◌, subst}
use Rattle.std.specs.Prelude.{All}
use Rattle.std.specs.List.{list_any}
use Rattle.std.specs.Str.{bytes_eq}
use Rattle.std.proofs.lemmas.List.Elements.{All-map, All-same}
use Rattle.std.proofs.lemmas.List.Folds.{list_any-append}
use Rattle.std.proofs.lemmas.Bool.{or_from}
use Rattle.base_types.proofs.TruthValues.{or_first, or_second}
use Rattle.stil_types.specs.declared.head.ScanChainDecl.{ScanChainDecl}
use Rattle.stil_types.specs.declared.head.StilHead.{StilHead}
use Rattle.stil_blocks.specs.declared.chain.ReadChain.{ReadChain}
use Rattle.stil_head.specs.Ends.{head_text}
use Rattle.stil_blocks.specs.Chains.{chains_of}
use Rattle.list_laws.specs.Leasts.{place_if}
use Rattle.stil_head.specs.Twice.{again_in, chain_row, port_rows}
use Rattle.stil_head.specs.Heads.{DenotesHead}
use Rattle.stil_blocks.proofs.LongChains.{chains_long}

-- each chain of a head has at least one bit
pub some_bits : (text : List ℕ) (head : StilHead) → DenotesHead text head → All (λ c. 1 ≤ c.length) head.chains
some_bits text head is =
    All-same (λ (c : ScanChainDecl). 1 ≤ c.length) head.chains (map (λ (c : ReadChain). c.decl) (chains_of (head_text text))) is.says.chains
    (All-map (λ (c : ScanChainDecl). 1 ≤ c.length) (λ (c : ReadChain). c.decl) (chains_of (head_text text)) (chains_long (head_text text)))

-- no ScanOut stands twice

nothing_front : {X : Type 0} (xs ys : List X) → xs ++ ys ≡ [] → xs ≡ []
nothing_front [] ys e = refl
nothing_front (x ∷ xs) ys e = absurd cc

nothing_behind : {X : Type 0} (xs ys : List X) → xs ++ ys ≡ [] → ys ≡ []
nothing_behind [] ys e = e
nothing_behind (x ∷ xs) ys e = absurd cc

no_place : (b : Bool) (place : ℕ) → place_if b place ≡ [] → b ≡ false
no_place true place e = absurd cc
no_place false place e = refl

abbrev any : List ℕ → List (List ℕ) → Bool
any name names = list_any (bytes_eq name) names

-- what is new behind some names is new among them
fresh_front : (x : List ℕ) (names : List (List ℕ)) (name : List ℕ) → any x (names ++ name ∷ []) ≡ false → any x names ≡ false
fresh_front x names name e = or_first (any x names) (any x (name ∷ [])) (sym (list_any-append (bytes_eq x) names (name ∷ [])) ∙ e)

fresh_last : (x : List ℕ) (names : List (List ℕ)) (name : List ℕ) → any x (names ++ name ∷ []) ≡ false → bytes_eq x name ≡ false
fresh_last x names name e = or_first (bytes_eq x name) false (or_second (any x names) (any x (name ∷ [])) (sym (list_any-append (bytes_eq x) names (name ∷ [])) ∙ e))

abbrev out_of : ReadChain → List ℕ
out_of c = c.decl.scan_out

-- each name is new among these and those before it
abbrev pub AreNew : List (List ℕ) → List (List ℕ) → Type 0
AreNew before [] = Unit {0}
AreNew before (name ∷ names) = (list_any (bytes_eq name) before ≡ false) × AreNew (name ∷ before) names

-- names that are new among all ports are new among the ScanOuts
outs_new : (seen before : List (List ℕ)) (cs : List ReadChain) → ((x : List ℕ) → any x seen ≡ false → any x before ≡ false) → again_in seen (flat_map port_rows cs) ≡ [] → AreNew before (map out_of cs)
outs_new seen before [] within none = tt
outs_new seen before (c ∷ cs) within none =
    let input = c.decl.scan_in in
    let output = c.decl.scan_out in
    let behind = nothing_behind (place_if (any input seen) c.place) _ none in
    let new : any output (seen ++ input ∷ []) ≡ false = no_place (any output (seen ++ input ∷ [])) c.place (nothing_front (place_if (any output (seen ++ input ∷ [])) c.place) _ behind) in
    let rest = nothing_behind (place_if (any output (seen ++ input ∷ [])) c.place) (again_in ((seen ++ input ∷ []) ++ output ∷ []) (flat_map port_rows cs)) behind in (
      within output (fresh_front output seen input new),
      outs_new ((seen ++ input ∷ []) ++ output ∷ []) (output ∷ before) cs
          (λ x e. or_from (bytes_eq x output) (any x before) (fresh_last x (seen ++ input ∷ []) output e)
          (within x (fresh_front x seen input (fresh_front x (seen ++ input ∷ []) output e))))
          rest,
    )

decl_outs : (cs : List ReadChain) → map (λ (c : ScanChainDecl). c.scan_out) (map (λ (c : ReadChain). c.decl) cs) ≡ map out_of cs
decl_outs [] = refl
decl_outs (c ∷ cs) = ap (λ (names : List (List ℕ)). c.decl.scan_out ∷ names) (decl_outs cs)

-- no ScanOut of a head stands twice
pub new_outs : (text : List ℕ) (head : StilHead) → DenotesHead text head → AreNew [] (map (λ c. c.scan_out) head.chains)
new_outs text head is =
    let chains = chains_of (head_text text) in
    let outs : map (λ (c : ScanChainDecl). c.scan_out) head.chains ≡ map out_of chains = ap (map (λ (c : ScanChainDecl). c.scan_out)) is.says.chains ∙ decl_outs chains in
    let ports = nothing_front (again_in [] (flat_map port_rows chains)) _ (nothing_behind (again_in [] (map chain_row chains)) _ is.says.no_twice) in
    subst (AreNew []) (sym outs) (outs_new [] [] chains (λ x e. e) ports)
