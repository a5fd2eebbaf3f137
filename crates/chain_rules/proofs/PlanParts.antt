-- Edits of a vector of vectors, as edits of the lists that they hold.
use Rattle.std.proofs.Common.{◌≡◌, ℕ, ◌<◌, List, [], length, get_or, set, Vec, sym, ◌∙◌, ap, take, ◌++◌, ◌∷◌, ◌+◌, arith}
use Rattle.std.proofs.lemmas.List.{map-set, get_or-map, set-get_or, take_more, map_push, length-map}
use Rattle.chain_rules.specs.Plans.{PlanLists, lists_of}
use Rattle.chain_rules.specs.Legality.{chain_at, with_chain}

-- the plan of these lists
abbrev pub planned : List (List ℕ) → PlanLists
planned cs = record { chains = cs }

-- a vector written at c is a list written at c
pub planned-set : {A : Type 0} (vs : List (Vec ℕ A)) (c : ℕ) (v : Vec ℕ A) (p : PlanLists) (us : List ℕ) → planned (lists_of vs) ≡ p → v.items ≡ us → planned (lists_of (set vs c v)) ≡ with_chain p c us
planned-set vs c v p us e f =
    ap planned (map-set (λ w. w.items) vs c v ∙ ap (λ (ws : List ℕ). set (lists_of vs) c ws) f) ∙ ap (λ (q : PlanLists). with_chain q c us) e

-- the vector read at c holds the list at c
pub chain_read : {A : Type 0} (vs : List (Vec ℕ A)) (c : ℕ) (v : Vec ℕ A) (p : PlanLists) → planned (lists_of vs) ≡ p → c < length p.chains → v ≡ get_or vs c v → v.items ≡ chain_at p c
chain_read vs c v p e h r =
    let same : length vs ≡ length p.chains = sym (length-map vs (λ w. w.items)) ∙ ap (λ (q : PlanLists). length q.chains) e in
    let within : c < length vs = omega arith in
    ap (λ w. w.items) r ∙ (sym (get_or-map (λ w. w.items) vs c v [] within) ∙ ap (λ (q : PlanLists). chain_at q c) e)

-- a chain written over by itself
pub with_chain-same : (p : PlanLists) (c : ℕ) (us : List ℕ) → us ≡ chain_at p c → with_chain p c us ≡ p
with_chain-same p c us e = ap (λ (ws : List ℕ). with_chain p c ws) e ∙ ap planned (set-get_or p.chains c [])

-- a copy of one more vector
pub lists_of_more : {A : Type 0} (ws vs : List (Vec ℕ A)) (i : ℕ) (v w : Vec ℕ A) → i < length vs → v ≡ get_or vs i v → w.items ≡ v.items → lists_of ws ≡ take i (lists_of vs) → lists_of (ws ++ w ∷ []) ≡ take (i + 1) (lists_of vs)
lists_of_more ws vs i v w h e f p =
    let there : v.items ≡ get_or (lists_of vs) i [] = ap (λ u. u.items) e ∙ sym (get_or-map (λ u. u.items) vs i v [] h) in
    let within : i < length (lists_of vs) = rw (length-map vs (λ u. u.items)) h in
    map_push (λ u. u.items) ws w ∙ (ap (λ (us : List ℕ). lists_of ws ++ us ∷ []) (f ∙ there) ∙ (ap (λ (uss : List (List ℕ)). uss ++ get_or (lists_of vs) i [] ∷ []) p ∙ sym (take_more (lists_of vs) i [] within)))
