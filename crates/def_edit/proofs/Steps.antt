-- Steps of the loops.
use Rattle.std.proofs.Common.{◌≡◌, ℕ, zero, suc, ◌+◌, ◌<◌, Bool, true, false, cond, List, [], ◌∷◌, length, take, get_or, Option, Some, None, refl, sym, ap, ◌∙◌, ◌++◌, map, append_assoc, append-nil, drop, ◌≤◌, arith}
use Rattle.std.proofs.lemmas.List.{drop_more, drop_all, take_more, map-append}
use Rattle.def_layout.specs.declared.chains.ChainLayout.{ChainLayout}
use Rattle.def_edit.specs.declared.layouts.ChainWords.{ChainWords}
use Rattle.def_edit.specs.Layouts.{laid_chain}
use Rattle.std.specs.Prelude.{option_map, option_and_then, slice_get}
use Rattle.std.specs.List.{find}
use Rattle.std.specs.Option.{option_or}
use Rattle.def_reader.specs.declared.design.Net.{Net}
use Rattle.def_edit.specs.Alike.Changes.{NetWords}
use Rattle.def_edit.specs.declared.pin_moves.PinMove.{PinMove}
use Rattle.def_edit.specs.Moved.{moving_pin, is_port}
use Rattle.def_syntax.specs.declared.design.Located.{Located}
use Rattle.def_syntax.specs.declared.chain.Chain.{Chain}
use Rattle.def_reader.specs.declared.design.Component.{Component}
use Rattle.def_edit.specs.declared.chains.NewChain.{NewChain}
use Rattle.def_edit.specs.NewChains.{chain_layout, chain_layouts}
use Rattle.def_edit.specs.NetChanges.{new_word}

by_cases : (P : Bool → Type 0) (t : Bool) → (t ≡ true → P true) → (t ≡ false → P false) → P t
by_cases P true f g = f refl
by_cases P false f g = g refl

-- the first that passes a test, among one more
find_more : {X : Type 0} (p : X → Bool) (xs : List X) (i : ℕ) (d : X) → i < length xs → find p (take (i + 1) xs) ≡ option_or (find p (take i xs)) (cond (p (get_or xs i d)) (Some (get_or xs i d)) None)
find_more p [] i d lt = absurd (omega arith)
find_more {X = X} p (x ∷ xs) zero d lt = by_cases (λ t. cond t (Some x) None ≡ cond t (Some x) None) (p x) (λ e. refl) (λ e. refl)
find_more {X = X} p (x ∷ xs) (suc i) d lt =
    let r = find_more p xs i d (omega arith) in
    let k : suc i + 1 ≡ suc (i + 1) = omega arith in
    rw k (by_cases (λ t. cond t (Some x) (find p (take (i + 1) xs)) ≡ option_or (cond t (Some x) (find p (take i xs))) (cond (p (get_or xs i d)) (Some (get_or xs i d)) None)) (p x) (λ e. refl) (λ e. r))

-- its net
net_or : (found : Option PinMove) (m : PinMove) (t : Bool) → option_or (option_map (λ (m : PinMove). m.to) found) (cond t (Some m.to) None) ≡ option_map (λ (m : PinMove). m.to) (option_or found (cond t (Some m) None))
net_or None m true = refl
net_or None m false = refl
net_or (Some found) m t = refl

pub net_more : (p : PinMove → Bool) (moves : List PinMove) (i : ℕ) (d : PinMove) → i < length moves
    → option_or (option_map (λ (m : PinMove). m.to) (find p (take i moves))) (cond (p (get_or moves i d)) (Some (get_or moves i d).to) None) ≡ option_map (λ (m : PinMove). m.to) (find p (take (i + 1) moves))
net_more p moves i d lt = net_or (find p (take i moves)) (get_or moves i d) (p (get_or moves i d)) ∙ ap (option_map (λ (m : PinMove). m.to)) (sym (find_more p moves i d lt))

pub ports_more : (p : PinMove → Bool) (moves : List PinMove) (i : ℕ) (d : PinMove) (old new : Option ℕ) → i < length moves → new ≡ option_or old (cond (p (get_or moves i d)) (Some (get_or moves i d).to) None)
    → old ≡ option_map (λ (m : PinMove). m.to) (find p (take i moves)) → new ≡ option_map (λ (m : PinMove). m.to) (find p (take (i + 1) moves))
ports_more p moves i d old new lt is so_far = is ∙ ap (λ (x : Option ℕ). option_or x (cond (p (get_or moves i d)) (Some (get_or moves i d).to) None)) so_far ∙ net_more p moves i d lt

-- the word of a net that is found by its number
found_word : (rows : List NetWords) (m : Option PinMove) (k : ℕ) → Some k ≡ option_map (λ (m : PinMove). m.to) m → option_map (λ (row : NetWords). row.name) (slice_get rows k) ≡ option_and_then (λ (m : PinMove). option_map (λ (row : NetWords). row.name) (slice_get rows m.to)) m
found_word rows None k e = absurd cc
found_word rows (Some m) k e = let same : k ≡ m.to = cc in ap (λ (n : ℕ). option_map (λ (row : NetWords). row.name) (slice_get rows n)) same

no_word : (rows : List NetWords) (m : Option PinMove) → None ≡ option_map (λ (m : PinMove). m.to) m → None ≡ option_and_then (λ (m : PinMove). option_map (λ (row : NetWords). row.name) (slice_get rows m.to)) m
no_word rows None e = refl
no_word rows (Some m) e = absurd cc

pub word_some : (rows : List NetWords) (nets : List Net) (moves : List PinMove) (name : List ℕ) (k : ℕ) → Some k ≡ option_map (λ m. m.to) (find (λ m. is_port name (moving_pin nets m)) moves) → option_map (λ row. row.name) (slice_get rows k) ≡ new_word rows nets moves name
word_some rows nets moves name k e = found_word rows (find (λ m. is_port name (moving_pin nets m)) moves) k e

pub word_none : (rows : List NetWords) (nets : List Net) (moves : List PinMove) (name : List ℕ) → None ≡ option_map (λ m. m.to) (find (λ m. is_port name (moving_pin nets m)) moves) → None ≡ new_word rows nets moves name
word_none rows nets moves name e = no_word rows (find (λ m. is_port name (moving_pin nets m)) moves) e

-- chains beside their new elements
pub no_news : (components : List Component) (chains : List (Located Chain)) → chain_layouts components chains [] ≡ []
unfolding chain_layouts
no_news components [] = refl
no_news components (c ∷ cs) = refl

pub no_chains : (components : List Component) (news : List NewChain) → chain_layouts components [] news ≡ []
unfolding chain_layouts
no_chains components news = refl

pub next_chain : (components : List Component) (chains : List (Located Chain)) (news : List NewChain) (i : ℕ) (c : Located Chain) (d : NewChain) (ws more : List ChainWords) (w : ChainWords) (total : List ChainLayout) → i < length chains → i < length news
    → laid_chain w ≡ chain_layout components (get_or chains i c).statement (get_or news i d) → more ≡ ws ++ w ∷ [] → map laid_chain ws ++ chain_layouts components (drop i chains) (drop i news) ≡ total
    → map laid_chain more ++ chain_layouts components (drop (i + 1) chains) (drop (i + 1) news) ≡ total
unfolding chain_layouts
next_chain components chains news i c d ws more w total lt lt' is pushed so_far =
    let later = chain_layouts components (drop (i + 1) chains) (drop (i + 1) news) in
    let here : chain_layouts components (drop i chains) (drop i news) ≡ laid_chain w ∷ later = rw (drop_more chains i c lt, drop_more news i d lt', is) refl in
    ap (λ (l : List ChainWords). map laid_chain l ++ later) pushed ∙ ap (λ (l : List ChainLayout). l ++ later) (map-append laid_chain ws (w ∷ [])) ∙ append_assoc (map laid_chain ws) (laid_chain w ∷ []) later
    ∙ ap (λ (l : List ChainLayout). map laid_chain ws ++ l) (sym here) ∙ so_far

pub all_chains : (components : List Component) (chains : List (Located Chain)) (news : List NewChain) (i : ℕ) (ws : List ChainWords) (total : List ChainLayout) → length chains ≤ i → map laid_chain ws ++ chain_layouts components (drop i chains) (drop i news) ≡ total → map laid_chain ws ≡ total
all_chains components chains news i ws total le so_far =
    let none : chain_layouts components (drop i chains) (drop i news) ≡ [] = ap (λ (l : List (Located Chain)). chain_layouts components l (drop i news)) (drop_all i chains le) ∙ no_chains components (drop i news) in
    sym (append-nil (map laid_chain ws)) ∙ ap (λ (l : List ChainLayout). map laid_chain ws ++ l) (sym none) ∙ so_far

-- one more is laid out
pub next_laid : (chains : List ChainWords) (i : ℕ) (c : ChainWords) (old new : List ChainLayout) (layout : ChainLayout) → i < length chains → c ≡ get_or chains i c → old ≡ map laid_chain (take i chains) → layout ≡ laid_chain c
    → new ≡ old ++ layout ∷ [] → new ≡ map laid_chain (take (i + 1) chains)
next_laid chains i c old new layout lt is so_far laid pushed =
    pushed ∙ ap (λ (l : List ChainLayout). l ++ layout ∷ []) so_far ∙ ap (λ (x : ChainLayout). map laid_chain (take i chains) ++ x ∷ []) (laid ∙ ap laid_chain is)
    ∙ sym (map-append laid_chain (take i chains) (get_or chains i c ∷ [])) ∙ ap (map laid_chain) (sym (take_more chains i c lt))
