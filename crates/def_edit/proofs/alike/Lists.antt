-- Lists whose members give the same.
use Rattle.std.proofs.Common.{◌≡◌, zero, suc, List, [], ◌∷◌, ◌++◌, map, Option, Contains, refl, sym, ap, ◌∙◌, subst, arith}
use Rattle.std.specs.List.{filter_map, cons_option, AllByRecursion as Each}

-- a list cut where what its members give is
pub record CutMap {X Y : Type 0} (g : X → Y) (us ws : List Y) (xs : List X) : Type 0 where
  pub front : List X
  pub behind : List X
  pub is : xs ≡ front ++ behind
  pub first : map g front ≡ us
  pub second : map g behind ≡ ws

pub cut_map : {X Y : Type 0} (g : X → Y) (us ws : List Y) (xs : List X) → map g xs ≡ us ++ ws → CutMap g us ws xs
cut_map g [] ws xs e = record { front = []; behind = xs; is = refl; first = refl; second = e }
cut_map g (u ∷ us) ws [] e = absurd cc
cut_map {X} g (u ∷ us) ws (x ∷ xs) e =
    let here : g x ≡ u = cc in
    let tail : map g xs ≡ us ++ ws = cc in
    let c = cut_map g us ws xs tail in
    record { front = x ∷ c.front; behind = c.behind; is = ap (λ (l : List X). x ∷ l) c.is; first = rw (here, c.first) refl; second = c.second }

-- the first member
pub record FirstMap {X Y : Type 0} (g : X → Y) (y : Y) (ys : List Y) (xs : List X) : Type 0 where
  pub member : X
  pub rest : List X
  pub is : xs ≡ member ∷ rest
  pub first : g member ≡ y
  pub second : map g rest ≡ ys

pub first_map : {X Y : Type 0} (g : X → Y) (y : Y) (ys : List Y) (xs : List X) → map g xs ≡ y ∷ ys → FirstMap g y ys xs
first_map g y ys [] e = absurd cc
first_map g y ys (x ∷ xs) e = let here : g x ≡ y = cc in let tail : map g xs ≡ ys = cc in record { member = x; rest = xs; is = refl; first = here; second = tail }

pub none_map : {X Y : Type 0} (g : X → Y) (xs : List X) → map g xs ≡ [] → xs ≡ []
none_map g [] e = refl
none_map g (x ∷ xs) e = absurd cc

-- a member of a list, and one of another at the same place
pub record Also {X Y Z : Type 0} (f : X → Y) (g : Z → Y) (x : X) (zs : List Z) : Type 0 where
  pub member : Z
  pub there : Contains zs member
  pub same : g member ≡ f x

pub also_in : {X Y Z : Type 0} (f : X → Y) (g : Z → Y) (xs : List X) (zs : List Z) (x : X) → map f xs ≡ map g zs → Contains xs x → Also f g x zs
also_in f g [] zs x e h = absurd (let lt = h.1 in omega arith)
also_in f g (y ∷ xs) [] x e h = absurd cc
also_in f g (y ∷ xs) (z ∷ zs) x e (zero, lt, is) = let here : f y ≡ g z = cc in record { member = z; there = (zero, omega arith, refl); same = sym here ∙ ap f is }
also_in f g (y ∷ xs) (z ∷ zs) x e (suc k, lt, is) =
    let tail : map f xs ≡ map g zs = cc in
    let r = also_in f g xs zs x tail (k, omega arith, is) in
    record { member = r.member; there = (suc r.there.0, (let l = r.there.1 in omega arith), r.there.2); same = r.same }

pub each_contains : {X : Type 0} (P : X → Type 0) (xs : List X) (x : X) → Each P xs → Contains xs x → P x
each_contains P [] x e h = absurd (let lt = h.1 in omega arith)
each_contains P (y ∷ xs) x e (zero, lt, is) = subst P is e.0
each_contains P (y ∷ xs) x e (suc k, lt, is) = each_contains P xs x e.1 (k, omega arith, is)

pub each_weaker : {X : Type 0} (P Q : X → Type 0) (xs : List X) → ((x : X) → P x → Q x) → Each P xs → Each Q xs
each_weaker P Q [] f e = tt
each_weaker P Q (x ∷ xs) f e = (f x e.0, each_weaker P Q xs f e.1)

pub map_of_map : {X Y Z : Type 0} (g : Y → Z) (f : X → Y) (xs : List X) → map g (map f xs) ≡ map (λ x. g (f x)) xs
map_of_map g f [] = refl
map_of_map {X} {Y} {Z} g f (x ∷ xs) = ap (λ (l : List Z). g (f x) ∷ l) (map_of_map g f xs)

pub map_same : {X Y : Type 0} (f g : X → Y) (xs : List X) → ((x : X) → f x ≡ g x) → map f xs ≡ map g xs
map_same f g [] h = refl
map_same f g (x ∷ xs) h = rw (h x, map_same f g xs h) refl

pub filter_of_map : {X Y Z : Type 0} (g : Y → Option Z) (f : X → Y) (xs : List X) → filter_map g (map f xs) ≡ filter_map (λ x. g (f x)) xs
filter_of_map g f [] = refl
filter_of_map {X} {Y} {Z} g f (x ∷ xs) = ap (λ (l : List Z). cons_option (g (f x)) l) (filter_of_map g f xs)
