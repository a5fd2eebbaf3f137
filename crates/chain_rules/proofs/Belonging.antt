-- Steps and elements that stand alone in their scan path.
use Rattle.std.proofs.Common.{◌≡◌, ℕ, ◌+◌, ◌<◌, List, [], ◌∷◌, length, get_or, map, sum_by, Option, Some, sym, ◌∙◌, ap, subst, refl}
use Rattle.std.proofs.lemmas.List.{get_or_default, get_or-map, length-map}
use Rattle.std.proofs.lemmas.List.Sums.{sum_by-cons}
use Rattle.chain_rules.specs.declared.spec.StepSpec.{StepSpec}
use Rattle.chain_rules.specs.declared.spec.PathSpec.{PathSpec}
use Rattle.chain_rules.specs.declared.spec.ElementSpec.{ElementSpec}
use Rattle.chain_rules.specs.declared.spec.ChainSpec.{ChainSpec}
use Rattle.chain_rules.specs.Stretches.{path_at, step_at, spec_at, no_step, no_path, no_chain, no_element, elements_of, IsOf, IsPlace, NamesAt, NamedOnce}
use Rattle.chain_rules.specs.Belonging.{element_at, IsElement, AreAlike, IsOnlyStep, IsOnlyAmong, IsOnlyElement, IsNamedOnceAt}

-- of the steps of one path
pub only_step_on : (paths here : List PathSpec) (n k m : ℕ) (path : PathSpec) (steps : List StepSpec) (but : Option ℕ)
    → here ≡ paths → m < length here → path ≡ get_or here m path → steps ≡ (path_at paths n).steps → (m ≡ n → but ≡ Some k) → IsOnlyStep paths n k
    → (l : ℕ) → l < length path.steps → IsOf (step_at path l) (get_or steps k no_step).instance (get_or steps k no_step).path → but ≡ Some l
only_step_on paths here n k m path steps but eh hm ep es eb only = λ l h same.
    let e : path ≡ path_at paths m = ep ∙ (get_or_default here m path no_path hm ∙ ap (λ (ps : List PathSpec). path_at ps m) eh) in
    let p : IsPlace paths m l = record { path = subst (λ (ps : List PathSpec). m < length ps) eh hm; step = subst (λ (q : PathSpec). l < length q.steps) e h } in
    let s = subst (λ (q : PathSpec). IsOf (step_at q l) (get_or steps k no_step).instance (get_or steps k no_step).path) e same in
    let t = subst (λ (ss : List StepSpec). IsOf (step_at (path_at paths m) l) (get_or ss k no_step).instance (get_or ss k no_step).path) es s in
    let o = only m l p t in
    eb o.0 ∙ ap Some (sym o.1)

-- of the elements of one chain
pub only_element_in : (lists : List (List ElementSpec)) (c i d : ℕ) (one mine other theirs : List ElementSpec) (but : Option ℕ)
    → c < length lists → d < length lists → one ≡ get_or lists c one → mine ≡ one → other ≡ get_or lists d other → theirs ≡ other → (d ≡ c → but ≡ Some i) → IsOnlyElement lists c i
    → IsOnlyAmong theirs but (get_or mine i no_element)
only_element_in lists c i d one mine other theirs but hc hd eo em et es eb only = λ j h same.
    let e : theirs ≡ get_or lists d [] = es ∙ (et ∙ get_or_default lists d other [] hd) in
    let f : mine ≡ get_or lists c [] = em ∙ (eo ∙ get_or_default lists c one [] hc) in
    let el : IsElement lists d j = record { chain = hd; element = subst (λ (ls : List ElementSpec). j < length ls) e h } in
    let s = subst (λ (ls : List ElementSpec). AreAlike (get_or ls j no_element) (get_or mine i no_element)) e same in
    let t = subst (λ (ls : List ElementSpec). AreAlike (element_at lists d j) (get_or ls i no_element)) f s in
    let o = only d j el t in
    eb o.0 ∙ ap Some (sym o.1)

-- the elements of a chain, in the list of those of each
list_at : (chains : List ChainSpec) (lists : List (List ElementSpec)) (c : ℕ) → lists ≡ map elements_of chains → c < length chains → get_or lists c [] ≡ elements_of (spec_at chains c)
list_at chains lists c e h = ap (λ (ls : List (List ElementSpec)). get_or ls c []) e ∙ get_or-map elements_of chains c no_chain [] h

count_at : (chains : List ChainSpec) (lists : List (List ElementSpec)) → lists ≡ map elements_of chains → length lists ≡ length chains
count_at chains lists e = ap length e ∙ length-map chains elements_of

pub element_named : (chains : List ChainSpec) (lists : List (List ElementSpec)) (c i : ℕ) (step : StepSpec) → lists ≡ map elements_of chains → NamesAt chains c i step
    → IsElement lists c i × IsOf step (element_at lists c i).instance (element_at lists c i).path
element_named chains lists c i step e names =
    let l = list_at chains lists c e names.0 in (
      record { chain = subst (λ (n : ℕ). c < n) (sym (count_at chains lists e)) names.0; element = subst (λ (ls : List ElementSpec). i < length ls) (sym l) names.1 },
      subst (λ (ls : List ElementSpec). IsOf step (get_or ls i no_element).instance (get_or ls i no_element).path) (sym l) (names.2 no_element),
    )

pub named_element : (chains : List ChainSpec) (lists : List (List ElementSpec)) (c i : ℕ) (step : StepSpec) → lists ≡ map elements_of chains → IsElement lists c i
    → IsOf step (element_at lists c i).instance (element_at lists c i).path → NamesAt chains c i step
named_element chains lists c i step e el of =
    let h : c < length chains = subst (λ (n : ℕ). c < n) (count_at chains lists e) el.chain in
    let l = list_at chains lists c e h in
    let w : i < length (elements_of (spec_at chains c)) = subst (λ (ls : List ElementSpec). i < length ls) l el.element in (
      h,
      w,
      λ d. subst (λ (x : ElementSpec). IsOf step x.instance x.path) (get_or_default (elements_of (spec_at chains c)) i no_element d w)
          (subst (λ (ls : List ElementSpec). IsOf step (get_or ls i no_element).instance (get_or ls i no_element).path) l of),
    )

pub names_once : (paths : List PathSpec) (chains : List ChainSpec) (lists : List (List ElementSpec)) → lists ≡ map elements_of chains
    → ((c i : ℕ) → IsElement lists c i → IsNamedOnceAt paths lists c i) → NamedOnce paths chains
names_once paths chains lists e once = λ n k c i d j place one other.
    let a = element_named chains lists c i (step_at (path_at paths n) k) e one in
    let b = element_named chains lists d j (step_at (path_at paths n) k) e other in
    let o = once c i a.0 n k place a.1 d j b.0 (record { instance = sym b.1.instance ∙ a.1.instance; path = sym b.1.path ∙ a.1.path }) in
    (sym o.0, sym o.1)

pub named_alone : (paths : List PathSpec) (chains : List ChainSpec) (lists : List (List ElementSpec)) → lists ≡ map elements_of chains
    → NamedOnce paths chains → (c i : ℕ) → IsElement lists c i → IsNamedOnceAt paths lists c i
named_alone paths chains lists e named c i el = λ n k place of d j er alike.
    named n k d j c i place
    (named_element chains lists d j (step_at (path_at paths n) k) e er (record { instance = of.instance ∙ sym alike.instance; path = of.path ∙ sym alike.path }))
    (named_element chains lists c i (step_at (path_at paths n) k) e el of)

-- as many elements
pub as_many : (chains : List ChainSpec) → sum_by length (map elements_of chains) ≡ sum_by (λ chain. length (elements_of chain)) chains
as_many [] = refl
as_many (c ∷ cs) = sum_by-cons length (elements_of c) (map elements_of cs) ∙ (ap (λ (n : ℕ). length (elements_of c) + n) (as_many cs) ∙ sym (sum_by-cons (λ chain. length (elements_of chain)) c cs))
