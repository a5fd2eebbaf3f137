-- A chain has one stretch at most.
use Rattle.std.proofs.Common.{◌≡◌, ℕ, ◌-◌, ◌<◌, ◌≤◌, List, [], ◌∷◌, length, get_or, All, Contains, sym, ◌∙◌, ap, subst, arith, zero, suc}
use Rattle.std.specs.List.{flat_map}
use Rattle.std.proofs.lemmas.List.{get_or_default}
use Rattle.std.proofs.lemmas.List.Elements.{All-contains, All-append, All-nil, All-head, All-tail, Contains-append_left, Contains-append_right, Contains-get_or}
use Rattle.chain_rules.specs.declared.spec.PathSpec.{PathSpec}
use Rattle.chain_rules.specs.declared.spec.EndSpec.{EndSpec}
use Rattle.chain_rules.specs.declared.spec.EndSpec.TheVariants.{Port, Cell}
use Rattle.chain_rules.specs.declared.spec.ElementSpec.{ElementSpec}
use Rattle.chain_rules.specs.declared.spec.ListSpec.{ListSpec}
use Rattle.chain_rules.specs.declared.spec.ListSpec.TheVariants.{Ordered}
use Rattle.chain_rules.specs.declared.spec.ChainSpec.{ChainSpec}
use Rattle.chain_rules.specs.Stretches.{path_at, step_at, IsOf, Names, elements_in, elements_of, Stretch, IsInside, BeginsAt, EndsAt, StandsIn, IsStretch, IsPlace, StepsOnce, HasStretch, HasElements, no_element}

-- what holds of each element of each list holds of each element
pub All-flat_map : {X Y : Type 0} (P : Y → Type 0) (f : X → List Y) (xs : List X) → All (λ x. All P (f x)) xs → All P (flat_map f xs)
All-flat_map P f [] all = All-nil P
All-flat_map P f (x ∷ xs) all = All-append P (f x) (flat_map f xs) (All-head (λ y. All P (f y)) x xs all) (All-flat_map P f xs (All-tail (λ y. All P (f y)) x xs all))

pub Contains-flat_map : {X Y : Type 0} (f : X → List Y) (xs : List X) (x : X) (y : Y) → Contains xs x → Contains (f x) y → Contains (flat_map f xs) y
Contains-flat_map f [] x y (k, within, e) n = absurd (omega arith)
Contains-flat_map f (z ∷ zs) x y (zero, within, e) n = Contains-append_left (f z) (flat_map f zs) y (subst (λ w. Contains (f w) y) (sym e) n)
Contains-flat_map f (z ∷ zs) x y (suc k, within, e) n = Contains-append_right (f z) (flat_map f zs) y (Contains-flat_map f zs x y (k, omega arith, e) n)

pub All-each : {X Y : Type 0} (P : Y → Type 0) (f : X → List Y) (xs : List X) (x : X) → Contains xs x → All P (flat_map f xs) → All P (f x)
All-each P f xs x m all = λ k d h. All-contains P (flat_map f xs) (get_or (f x) k d) all (Contains-flat_map f xs x (get_or (f x) k d) m (k, h, get_or_default (f x) k (get_or (f x) k d) d h))

-- two places with one scan path are one
pub place_once : (paths : List PathSpec) → StepsOnce paths → (n k m l cell scan : ℕ) → IsPlace paths n k → IsPlace paths m l → IsOf (step_at (path_at paths n) k) cell scan → IsOf (step_at (path_at paths m) l) cell scan → (n ≡ m) × (k ≡ l)
place_once paths once n k m l cell scan p q a b =
    once n k m l p q (record { instance = a.instance ∙ sym b.instance; path = a.path ∙ sym b.path })

pub begins_once : (paths : List PathSpec) → StepsOnce paths → (n : ℕ) → n < length paths → (start : EndSpec) (f g : ℕ) → BeginsAt (path_at paths n) start f → BeginsAt (path_at paths n) start g → f ≡ g
begins_once paths once n h (Port net) f g a b = a.1 ∙ sym b.1
begins_once paths once n h (Cell cell scan out) f g a b =
    let low = a.0 in
    let low_too = b.0 in
    let high = a.1 in
    let high_too = b.1 in
    let e = (place_once paths once n (f - 1) n (g - 1) cell scan (record { path = h; step = omega arith }) (record { path = h; step = omega arith }) a.2 b.2).1 in
    omega arith

pub ends_once : (paths : List PathSpec) → StepsOnce paths → (n : ℕ) → n < length paths → (stop : EndSpec) (f g : ℕ) → EndsAt (path_at paths n) stop f → EndsAt (path_at paths n) stop g → f ≡ g
ends_once paths once n h (Port net) f g a b = a.1 ∙ sym b.1
ends_once paths once n h (Cell cell scan out) f g a b =
    (place_once paths once n f n g cell scan (record { path = h; step = a.0 }) (record { path = h; step = b.0 }) a.1 b.1).1

pub ends_within : (path : PathSpec) (stop : EndSpec) (to : ℕ) → EndsAt path stop to → to ≤ length path.steps
ends_within path (Port net) to e = let h = e.1 in omega arith
ends_within path (Cell cell scan out) to e = let h = e.0 in omega arith

pub stretch_within : (paths : List PathSpec) (chain : ChainSpec) (s : Stretch) → IsStretch paths chain s → s.to ≤ length (path_at paths s.path).steps
stretch_within paths chain s is = ends_within (path_at paths s.path) chain.stop s.to is.ends

-- a place inside a stretch
pub inside_place : (paths : List PathSpec) (chain : ChainSpec) (s : Stretch) (k : ℕ) → IsStretch paths chain s → IsInside s k → IsPlace paths s.path k
inside_place paths chain s k is inside =
    let h = stretch_within paths chain s is in
    let low = inside.high in
    record { path = is.path; step = omega arith }

-- the place of an element tells the path of the stretch
pub path_of_stretch : (paths : List PathSpec) → StepsOnce paths → (chain : ChainSpec) (s : Stretch) (e : ElementSpec) (n k : ℕ) → IsStretch paths chain s → Contains (elements_of chain) e → IsPlace paths n k → Names e (step_at (path_at paths n) k) → s.path ≡ n
path_of_stretch paths once chain s e n k is m p names =
    let stands = All-contains (StandsIn (path_at paths s.path) s) (elements_of chain) e is.elements m in
    (place_once paths once s.path stands.0 n k e.instance e.path (inside_place paths chain s stands.0 is stands.1) p stands.2 names).0

pub same_stretch : (s t : Stretch) → s.path ≡ t.path → s.from ≡ t.from → s.to ≡ t.to → s ≡ t
same_stretch s t e f g =
    ap (λ (n : ℕ). made n s.from s.to) e ∙ (ap (λ (n : ℕ). made t.path n s.to) f ∙ ap (λ (n : ℕ). made t.path t.from n) g)
  where
    made : ℕ → ℕ → ℕ → Stretch
    made n f t = record { path = n; from = f; to = t }

-- Where there is no stretch

pub no_stretch_unplaced : (paths : List PathSpec) (chain : ChainSpec) (e : ElementSpec) → Contains (elements_of chain) e → ((n k : ℕ) → IsPlace paths n k → ¬ IsOf (step_at (path_at paths n) k) e.instance e.path) → ¬ HasStretch paths chain
no_stretch_unplaced paths chain e m none (s, is) =
    let stands = All-contains (StandsIn (path_at paths s.path) s) (elements_of chain) e is.elements m in
    none s.path stands.0 (inside_place paths chain s stands.0 is stands.1) stands.2

-- an element of the chain stands on the path
pub record Stands (paths : List PathSpec) (chain : ChainSpec) (n : ℕ) : Type 0 where
  pub element : ElementSpec
  pub of_chain : Contains (elements_of chain) element
  pub place : ℕ
  pub is_place : IsPlace paths n place
  pub names : IsOf (step_at (path_at paths n) place) element.instance element.path

pub path_is : (paths : List PathSpec) → StepsOnce paths → (chain : ChainSpec) (n : ℕ) → Stands paths chain n → (s : Stretch) → IsStretch paths chain s → s.path ≡ n
path_is paths once chain n st s is = path_of_stretch paths once chain s st.element n st.place is st.of_chain st.is_place st.names

pub from_is : (paths : List PathSpec) → StepsOnce paths → (chain : ChainSpec) (n f : ℕ) → Stands paths chain n → BeginsAt (path_at paths n) chain.start f → (s : Stretch) → IsStretch paths chain s → s.from ≡ f
from_is paths once chain n f st b s is =
    begins_once paths once n st.is_place.path chain.start s.from f (subst (λ (m : ℕ). BeginsAt (path_at paths m) chain.start s.from) (path_is paths once chain n st s is) is.begins) b

pub to_is : (paths : List PathSpec) → StepsOnce paths → (chain : ChainSpec) (n t : ℕ) → Stands paths chain n → EndsAt (path_at paths n) chain.stop t → (s : Stretch) → IsStretch paths chain s → s.to ≡ t
to_is paths once chain n t st b s is =
    ends_once paths once n st.is_place.path chain.stop s.to t (subst (λ (m : ℕ). EndsAt (path_at paths m) chain.stop s.to) (path_is paths once chain n st s is) is.ends) b

pub no_stretch_unbegun : (paths : List PathSpec) → StepsOnce paths → (chain : ChainSpec) (n : ℕ) → Stands paths chain n → ((f : ℕ) → ¬ BeginsAt (path_at paths n) chain.start f) → ¬ HasStretch paths chain
no_stretch_unbegun paths once chain n st none (s, is) =
    none s.from (subst (λ (m : ℕ). BeginsAt (path_at paths m) chain.start s.from) (path_is paths once chain n st s is) is.begins)

pub no_stretch_unended : (paths : List PathSpec) → StepsOnce paths → (chain : ChainSpec) (n : ℕ) → Stands paths chain n → ((t : ℕ) → ¬ EndsAt (path_at paths n) chain.stop t) → ¬ HasStretch paths chain
no_stretch_unended paths once chain n st none (s, is) =
    none s.to (subst (λ (m : ℕ). EndsAt (path_at paths m) chain.stop s.to) (path_is paths once chain n st s is) is.ends)

pub no_stretch_backward : (paths : List PathSpec) → StepsOnce paths → (chain : ChainSpec) (n f t : ℕ) → Stands paths chain n → BeginsAt (path_at paths n) chain.start f → EndsAt (path_at paths n) chain.stop t → t < f → ¬ HasStretch paths chain
no_stretch_backward paths once chain n f t st b e h (s, is) =
    let low = from_is paths once chain n f st b s is in
    let high = to_is paths once chain n t st e s is in
    let order = is.order in
    omega arith

pub stretch_is : (paths : List PathSpec) → StepsOnce paths → (chain : ChainSpec) (n f t : ℕ) → Stands paths chain n → BeginsAt (path_at paths n) chain.start f → EndsAt (path_at paths n) chain.stop t → (s : Stretch) → IsStretch paths chain s → s ≡ record { path = n; from = f; to = t }
stretch_is paths once chain n f t st b e s is =
    same_stretch s (record { path = n; from = f; to = t }) (path_is paths once chain n st s is) (from_is paths once chain n f st b s is) (to_is paths once chain n t st e s is)

pub no_stretch_outside : (paths : List PathSpec) → StepsOnce paths → (chain : ChainSpec) (n f t : ℕ) → Stands paths chain n → BeginsAt (path_at paths n) chain.start f → EndsAt (path_at paths n) chain.stop t → ¬ All (StandsIn (path_at paths n) (record { path = n; from = f; to = t })) (elements_of chain) → ¬ HasStretch paths chain
no_stretch_outside paths once chain n f t st b e none (s, is) =
    none (subst (λ (r : Stretch). All (StandsIn (path_at paths r.path) r) (elements_of chain)) (stretch_is paths once chain n f t st b e s is) is.elements)

-- a chain with an element has one stretch at most
pub stretch_unique : (paths : List PathSpec) → StepsOnce paths → (chain : ChainSpec) (e : ElementSpec) → Contains (elements_of chain) e → (s t : Stretch) → IsStretch paths chain s → IsStretch paths chain t → s ≡ t
stretch_unique paths once chain e m s t is_s is_t =
    let stands = All-contains (StandsIn (path_at paths t.path) t) (elements_of chain) e is_t.elements m in
    stretch_is paths once chain t.path t.from t.to (record { element = e; of_chain = m; place = stands.0; is_place = inside_place paths chain t stands.0 is_t stands.1; names = stands.2 }) is_t.begins is_t.ends s is_s

pub element_of : (chain : ChainSpec) → HasElements chain → (e : ElementSpec) × Contains (elements_of chain) e
element_of chain has =
    let list = get_or chain.lists 0 no_list in
    let some = has.each 0 no_list has.list in
    let e = get_or (elements_in list) 0 no_element in
    (e, Contains-flat_map elements_in chain.lists list e (Contains-get_or chain.lists 0 no_list has.list) (Contains-get_or (elements_in list) 0 no_element some))
  where
    no_list : ListSpec
    no_list = Ordered []

pub only_stretch : (paths : List PathSpec) → StepsOnce paths → (chain : ChainSpec) → HasElements chain → (s t : Stretch) → IsStretch paths chain s → IsStretch paths chain t → s ≡ t
only_stretch paths once chain has s t a b = let e = element_of chain has in stretch_unique paths once chain e.0 e.1 s t a b
