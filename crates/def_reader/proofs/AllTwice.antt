-- The least line at which anything of a design stands a second time.
use Rattle.std.proofs.Common.{◌≡◌, ℕ, ◌⊎◌, inl, inr, List, [], ◌∷◌, map, Option, ap, refl, subst}
use Rattle.std.specs.List.{filter_map}
use Rattle.base_types.specs.Names.{plain_name}
use Rattle.cell_table.specs.Cells.{Cells}
use Rattle.def_syntax.specs.declared.design.DesignText.{DesignText}
use Rattle.def_syntax.specs.declared.design.Located.{Located}
use Rattle.def_syntax.specs.declared.design.Section.{Section}
use Rattle.def_syntax.specs.declared.chain.Chain.{Chain}
use Rattle.def_reader.specs.declared.design.Component.{Component}
use Rattle.def_reader.specs.declared.design.Design.{Design}
use Rattle.def_reader.specs.Designs.{component_of, pin_of, net_of, chain_of, design_of}
use Rattle.def_reader.specs.Faults.{StandsAgain, component_rows, pin_rows, net_rows, chain_rows, section_rows, connection_rows, TwiceAt, SameComponent, SamePin, SameNet, SameChain, SameSection, SameConnection}
use Rattle.list_laws.specs.Leasts.{IsLeast, lesser}
use Rattle.list_laws.proofs.LeastLines.{same_least, either}

abbrev Twice : List ℕ → DesignText → ℕ → Type 0
Twice text t n =
    ((StandsAgain (component_rows (map component_of t.components)) n ⊎ StandsAgain (pin_rows (map pin_of t.pins)) n)
    ⊎ (StandsAgain (net_rows (filter_map (net_of text) t.nets)) n ⊎ StandsAgain (chain_rows t.chains) n))
    ⊎ (StandsAgain (section_rows t.sections) n ⊎ StandsAgain (connection_rows (filter_map (net_of text) t.nets)) n)

there : (text : List ℕ) (t : DesignText) (n : ℕ) → Twice text t n → TwiceAt text t n
there text t n (inl (inl (inl h))) = SameComponent h
there text t n (inl (inl (inr h))) = SamePin h
there text t n (inl (inr (inl h))) = SameNet h
there text t n (inl (inr (inr h))) = SameChain h
there text t n (inr (inl h)) = SameSection h
there text t n (inr (inr h)) = SameConnection h

back : (text : List ℕ) (t : DesignText) (n : ℕ) → TwiceAt text t n → Twice text t n
back text t n (SameComponent h) = inl (inl (inl h))
back text t n (SamePin h) = inl (inl (inr h))
back text t n (SameNet h) = inl (inr (inl h))
back text t n (SameChain h) = inl (inr (inr h))
back text t n (SameSection h) = inr (inl h)
back text t n (SameConnection h) = inr (inr h)

-- the chains that are made have the names of their statements
chain_names : (cells : Cells) (components : List Component) (cs : List (Located Chain)) → map (λ c. (c.name, c.line)) (map (chain_of cells components) cs) ≡ chain_rows cs
chain_names cells components [] = refl
chain_names cells components (c ∷ cs) = ap (λ (l : List (List ℕ × ℕ)). (plain_name c.statement.name, c.line) ∷ l) (chain_names cells components cs)

pub twice_least : (text : List ℕ) (cells : Cells) (t : DesignText) (d : Design) (sections : List Section) → d ≡ design_of text cells t → sections ≡ t.sections → (a c e f g : Option ℕ)
    → IsLeast (λ line. StandsAgain (component_rows d.components) line ⊎ StandsAgain (pin_rows d.pins) line) a → IsLeast (StandsAgain (net_rows d.nets)) c
    → IsLeast (StandsAgain (map (λ c. (c.name, c.line)) d.chains)) e → IsLeast (StandsAgain (section_rows sections)) f → IsLeast (StandsAgain (connection_rows d.nets)) g
    → IsLeast (TwiceAt text t) (lesser (lesser a (lesser c e)) (lesser f g))
unfolding design_of
twice_least text cells t d sections is here a c e f g named nets chains again connections =
    let C = StandsAgain (component_rows (map component_of t.components)) in
    let P = StandsAgain (pin_rows (map pin_of t.pins)) in
    let N = StandsAgain (net_rows (filter_map (net_of text) t.nets)) in
    let H = StandsAgain (chain_rows t.chains) in
    let S = StandsAgain (section_rows t.sections) in
    let K = StandsAgain (connection_rows (filter_map (net_of text) t.nets)) in
    let cs : IsLeast (λ n. C n ⊎ P n) a = subst (λ (x : Design). IsLeast (λ line. StandsAgain (component_rows x.components) line ⊎ StandsAgain (pin_rows x.pins) line) a) is named in
    let ns : IsLeast N c = subst (λ (x : Design). IsLeast (StandsAgain (net_rows x.nets)) c) is nets in
    let hs : IsLeast H e =
    subst (λ (l : List (List ℕ × ℕ)). IsLeast (StandsAgain l) e) (chain_names cells (map component_of t.components) t.chains)
    (subst (λ (x : Design). IsLeast (StandsAgain (map (λ c. (c.name, c.line)) x.chains)) e) is chains) in
    let ss : IsLeast S f = subst (λ (l : List Section). IsLeast (StandsAgain (section_rows l)) f) here again in
    let ks : IsLeast K g = subst (λ (x : Design). IsLeast (StandsAgain (connection_rows x.nets)) g) is connections in
    same_least (Twice text t) (TwiceAt text t) _ (there text t) (back text t)
    (either (λ n. (C n ⊎ P n) ⊎ (N n ⊎ H n)) (λ n. S n ⊎ K n) _ _
    (either (λ n. C n ⊎ P n) (λ n. N n ⊎ H n) _ _ cs (either N H c e ns hs))
    (either S K f g ss ks))
