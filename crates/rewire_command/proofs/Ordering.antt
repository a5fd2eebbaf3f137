-- Steps by their names, and steps in the order of names, as one more is looked at.
use Rattle.std.proofs.Common.{◌≡◌, ℕ, ◌+◌, ◌<◌, Bool, cond, List, [], ◌∷◌, ◌++◌, length, get_or, take, Option, Some, None, sym, ap, ◌∙◌}
use Rattle.std.specs.List.{find, filter_map, cons_option}
use Rattle.std.specs.Option.{option_or}
use Rattle.std.specs.Str.{bytes_eq}
use Rattle.std.proofs.lemmas.List.{take_more, append-nil}
use Rattle.std.proofs.lemmas.List.Elements.{filter_map-append}
use Rattle.std.proofs.lemmas.List.Folds.{find-append}
use Rattle.netlist_core.specs.declared.netlist.Netlist.{Netlist}
use Rattle.chain_trace.specs.declared.path.Step.{Step}
use Rattle.rewire_command.specs.Rewiring.{instance_name}

-- what a table gives after a step is added
pub found_more : (n : Netlist) (items steps : List Step) (i : ℕ) (d : Step) (name q : List ℕ) (new old : Option Step) → items ≡ steps → i < length items → name ≡ instance_name n (get_or items i d)
    → new ≡ option_or old (cond (bytes_eq name q) (Some (get_or items i d)) None) → old ≡ find (λ step. bytes_eq (instance_name n step) q) (take i steps)
    → new ≡ find (λ step. bytes_eq (instance_name n step) q) (take (i + 1) steps)
found_more n items steps i d name q new old same lt named is was =
    let test : Step → Bool = λ step. bytes_eq (instance_name n step) q in
    let here = ap (λ (x : List ℕ). cond (bytes_eq x q) (Some (get_or items i d)) None) named in
    let more = ap (find test) (take_more items i d lt) ∙ find-append test (take i items) (get_or items i d ∷ []) in
    is ∙ ap (option_or old) here ∙ ap (λ (o : Option Step). option_or o (find test (get_or items i d ∷ []))) (was ∙ ap (λ (l : List Step). find test (take i l)) (sym same))
    ∙ sym more ∙ ap (λ (l : List Step). find test (take (i + 1) l)) same

mapped_more : (f : List ℕ → Option Step) (names : List (List ℕ)) (i : ℕ) (name : List ℕ) → i < length names → name ≡ get_or names i name
    → filter_map f (take (i + 1) names) ≡ filter_map f (take i names) ++ cons_option (f name) []
mapped_more f names i name lt is =
    ap (filter_map f) (take_more names i name lt ∙ ap (λ (x : List ℕ). take i names ++ x ∷ []) (sym is)) ∙ filter_map-append f (take i names) (name ∷ [])

-- a name that is found gives its step, and another none
pub takes : (f : List ℕ → Option Step) (names : List (List ℕ)) (i : ℕ) (name : List ℕ) (step : Step) (front next : List Step) → i < length names → name ≡ get_or names i name
    → f name ≡ Some step → next ≡ front ++ step ∷ [] → front ≡ filter_map f (take i names) → next ≡ filter_map f (take (i + 1) names)
takes f names i name step front next lt is found grown so_far =
    grown ∙ ap (λ (l : List Step). l ++ step ∷ []) so_far ∙ sym (mapped_more f names i name lt is ∙ ap (λ (o : Option Step). filter_map f (take i names) ++ cons_option o []) found)

pub leaves : (f : List ℕ → Option Step) (names : List (List ℕ)) (i : ℕ) (name : List ℕ) (front : List Step) → i < length names → name ≡ get_or names i name
    → f name ≡ None → front ≡ filter_map f (take i names) → front ≡ filter_map f (take (i + 1) names)
leaves f names i name front lt is none so_far =
    so_far ∙ sym (mapped_more f names i name lt is ∙ ap (λ (o : Option Step). filter_map f (take i names) ++ cons_option o []) none ∙ append-nil (filter_map f (take i names)))
