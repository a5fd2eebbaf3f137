-- The lines of a chain, one behind the other.
use Rattle.std.proofs.Common.{◌≡◌, ℕ, List, [], ◌∷◌, ◌++◌, append_assoc, codes, refl, sym, ap, ◌∙◌}
use Rattle.std.specs.List.{flat_map}
use Rattle.std.proofs.lemmas.List.{append-nil}
use Rattle.std.proofs.lemmas.List.Concat.{flat_map-append}
use Rattle.def_layout.specs.Sections.{line_text, list_lines, floating_lines, partition_lines, terminal_line, chain_lines}
use Rattle.def_layout.specs.declared.chains.ChainLayout.{ChainLayout}

pub ruleset appends = (flat_map-append, append_assoc)

pub chain_text : (c : ChainLayout)
    → flat_map line_text (chain_lines c)
    ≡ (10 ∷ 45 ∷ 32 ∷ c.name)
    ++ (flat_map line_text (partition_lines c.partition) ++ (line_text (terminal_line (codes "START") c.start)
    ++ (flat_map line_text (floating_lines c.floating) ++ (flat_map line_text (flat_map (list_lines (codes "ORDERED")) c.ordered) ++ (line_text (terminal_line (codes "STOP") c.stop) ++ codes "\n ;")))))
unfolding chain_lines
chain_text c =
    let stop = terminal_line (codes "STOP") c.stop ∷ record { indent = 1; words = codes ";" ∷ [] } ∷ [] in
    let ordered = flat_map (list_lines (codes "ORDERED")) c.ordered in
    let start = terminal_line (codes "START") c.start ∷ (floating_lines c.floating ++ (ordered ++ stop)) in
    rw (append-nil c.name, flat_map-append line_text (partition_lines c.partition) start, flat_map-append line_text (floating_lines c.floating) (ordered ++ stop), flat_map-append line_text ordered stop) refl

-- what is written part by part is the chain's text
pub chain_pushed : (c : ChainLayout) (old a b d e f g h i : List ℕ) → a ≡ old ++ codes "\n-" → b ≡ a ++ 32 ∷ c.name → d ≡ b ++ flat_map line_text (partition_lines c.partition)
    → e ≡ d ++ line_text (terminal_line (codes "START") c.start) → f ≡ e ++ flat_map line_text (floating_lines c.floating) → g ≡ f ++ flat_map line_text (flat_map (list_lines (codes "ORDERED")) c.ordered)
    → h ≡ g ++ line_text (terminal_line (codes "STOP") c.stop) → i ≡ h ++ codes "\n ;" → i ≡ old ++ flat_map line_text (chain_lines c)
chain_pushed c old a b d e f g h i p q r s t u v w =
    let name = 32 ∷ c.name in
    let partition = flat_map line_text (partition_lines c.partition) in
    let start = line_text (terminal_line (codes "START") c.start) in
    let floating = flat_map line_text (floating_lines c.floating) in
    let ordered = flat_map line_text (flat_map (list_lines (codes "ORDERED")) c.ordered) in
    let stop = line_text (terminal_line (codes "STOP") c.stop) in
    w ∙ ap (λ (x : List ℕ). x ++ codes "\n ;") v ∙ append_assoc g stop (codes "\n ;")
    ∙ ap (λ (x : List ℕ). x ++ (stop ++ codes "\n ;")) u ∙ append_assoc f ordered (stop ++ codes "\n ;")
    ∙ ap (λ (x : List ℕ). x ++ (ordered ++ (stop ++ codes "\n ;"))) t ∙ append_assoc e floating (ordered ++ (stop ++ codes "\n ;"))
    ∙ ap (λ (x : List ℕ). x ++ (floating ++ (ordered ++ (stop ++ codes "\n ;")))) s ∙ append_assoc d start (floating ++ (ordered ++ (stop ++ codes "\n ;")))
    ∙ ap (λ (x : List ℕ). x ++ (start ++ (floating ++ (ordered ++ (stop ++ codes "\n ;"))))) r ∙ append_assoc b partition (start ++ (floating ++ (ordered ++ (stop ++ codes "\n ;"))))
    ∙ ap (λ (x : List ℕ). x ++ (partition ++ (start ++ (floating ++ (ordered ++ (stop ++ codes "\n ;")))))) q ∙ append_assoc a name (partition ++ (start ++ (floating ++ (ordered ++ (stop ++ codes "\n ;")))))
    ∙ ap (λ (x : List ℕ). x ++ (name ++ (partition ++ (start ++ (floating ++ (ordered ++ (stop ++ codes "\n ;"))))))) p
    ∙ append_assoc old (codes "\n-") (name ++ (partition ++ (start ++ (floating ++ (ordered ++ (stop ++ codes "\n ;"))))))
    ∙ ap (λ (x : List ℕ). old ++ x) (sym (chain_text c))
