-- Lists that a loop copies member by member.
use Rattle.std.proofs.Common.{◌≡◌, ℕ, ◌+◌, ◌<◌, List, [], ◌∷◌, ◌++◌, length, map, drop, get_or, sym, ap, ◌∙◌, append_assoc}
use Rattle.std.proofs.lemmas.List.{drop_more, map-append}

-- one member more, whose copy shows what its own turned one does
pub one_more : {X Y : Type 0} (seen : X → Y) (turned : Y → Y) (out new xs : List X) (all : List Y) (copy item d : X) (i : ℕ) → i < length xs → item ≡ get_or xs i d
    → new ≡ out ++ copy ∷ [] → seen copy ≡ turned (seen item) → map seen out ++ map turned (map seen (drop i xs)) ≡ all
    → map seen new ++ map turned (map seen (drop (i + 1) xs)) ≡ all
one_more seen turned out new xs all copy item d i lt is pushed shows was =
    let rest = map turned (map seen (drop (i + 1) xs)) in
    let made = ap (map seen) pushed ∙ map-append seen out (copy ∷ []) in
    let here : seen copy ≡ turned (seen (get_or xs i d)) = shows ∙ ap (λ x. turned (seen x)) is in
    let left = ap (λ (l : List _). map turned (map seen l)) (drop_more xs i d lt) in
    ap (λ (l : List _). l ++ rest) made ∙ append_assoc (map seen out) (seen copy ∷ []) rest
    ∙ ap (λ y. map seen out ++ y ∷ rest) here ∙ ap (λ (l : List _). map seen out ++ l) (sym left) ∙ was
