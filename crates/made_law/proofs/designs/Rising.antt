-- Lists of which no member stands a second time: a number that rises from member to member shows it.
use Rattle.std.proofs.Common.{◌≡◌, ℕ, zero, suc, ◌+◌, ◌<◌, ◌≤◌, List, [], ◌∷◌, ◌++◌, map, Contains, sym, ap, ◌∙◌, subst, arith}
use Rattle.std.specs.List.{flat_map, range_with_len}
use Rattle.std.proofs.lemmas.List.{map-append}
use Rattle.std.proofs.lemmas.List.Concat.{flat_map-append}
use Rattle.def_reader.specs.Faults.{names_in, StandsAgain}

-- the keys rise from a number on, and stay below another
abbrev pub Rising : {X : Type 0} → (X → ℕ) → ℕ → List X → ℕ → Type 0
Rising key a [] b = a ≤ b
Rising key a (x ∷ xs) b = (a ≤ key x) × Rising key (key x + 1) xs b

module _ {X : Type 0} (key : X → ℕ) where
  pub rising_lower : (a b c : ℕ) (xs : List X) → a ≤ b → Rising key b xs c → Rising key a xs c
  rising_lower a b c [] le h = omega (arith, h)
  rising_lower a b c (x ∷ xs) le h = let first = h.0 in (omega (arith, first), h.1)

  pub rising_both : (a b c : ℕ) (xs ys : List X) → Rising key a xs b → Rising key b ys c → Rising key a (xs ++ ys) c
  rising_both a b c [] ys f g = rising_lower a b c ys f g
  rising_both a b c (x ∷ xs) ys f g = (f.0, rising_both (key x + 1) b c xs ys f.1 g)

  pub rising_range : (f : ℕ → X) (base low high a m : ℕ) → ((k : ℕ) → a ≤ k → k < a + m → key (f k) ≡ base + k) → low ≤ base + a → base + (a + m) ≤ high → Rising key low (map f (range_with_len a m)) high
  rising_range f base low high a zero is l h = omega arith
  rising_range f base low high a (suc m) is l h =
      let here = is a (omega arith) (omega arith) in
      (omega (arith, here), rising_range f base (key (f a) + 1) high (a + 1) m (λ k from to. is k (omega arith) (omega arith)) (omega (arith, here)) (omega arith))

  -- the least key
  lower_bound : (a b : ℕ) (xs ys : List X) (y : X) → Rising key a (xs ++ y ∷ ys) b → a ≤ key y
  lower_bound a b [] ys y h = h.0
  lower_bound a b (x ∷ xs) ys y h = let below = h.0 in let above = lower_bound (key x + 1) b xs ys y h.1 in omega arith

  no_earlier : (a b : ℕ) (xs ys : List X) (y : X) → Rising key a (xs ++ y ∷ ys) b → Contains xs y → ⊥
  no_earlier a b [] ys y h (k, lt, is) = absurd (omega arith)
  no_earlier a b (x ∷ xs) ys y h (zero, lt, is) =
      let above = lower_bound (key x + 1) b xs ys y h.1 in
      let same : x ≡ y = is in
      let keys : key x ≡ key y = ap key same in
      absurd (omega (arith, above, keys))
  no_earlier a b (x ∷ xs) ys y h (suc k, lt, is) = no_earlier (key x + 1) b xs ys y h.1 (k, omega arith, is)

  -- nothing stands a second time
  pub never_again : (a b : ℕ) (rows : List (X × ℕ)) (names : List X) → names_in rows ≡ names → Rising key a names b → (line : ℕ) → StandsAgain rows line → ⊥
  never_again a b rows names e h line again =
      let name = λ (r : X × ℕ). r.0 in
      let is : names ≡ names_in again.front ++ again.name ∷ names_in again.behind = sym e ∙ ap (map name) again.is ∙ map-append name again.front ((again.name, line) ∷ again.behind) in
      no_earlier a b (names_in again.front) (names_in again.behind) again.name (subst (λ (l : List X). Rising key a l b) is h) again.before

-- of what each member gives
module _ {X Y : Type 0} (key : Y → ℕ) where
  pub rising_map : (f : X → Y) (a b : ℕ) (xs : List X) → Rising (λ x. key (f x)) a xs b → Rising key a (map f xs) b
  rising_map f a b [] h = h
  rising_map f a b (x ∷ xs) h = (h.0, rising_map f (key (f x) + 1) b xs h.1)

  pub rising_flat_both : (g : X → List Y) (a b c : ℕ) (xs ys : List X) → Rising key a (flat_map g xs) b → Rising key b (flat_map g ys) c → Rising key a (flat_map g (xs ++ ys)) c
  rising_flat_both g a b c xs ys f h = subst (λ (l : List Y). Rising key a l c) (sym (flat_map-append g xs ys)) (rising_both key a b c (flat_map g xs) (flat_map g ys) f h)

  pub rising_flat : (g : X → List Y) (f : ℕ → X) (low : ℕ → ℕ) (a m : ℕ) → ((k : ℕ) → a ≤ k → k < a + m → Rising key (low k) (g (f k)) (low (k + 1))) → Rising key (low a) (flat_map g (map f (range_with_len a m))) (low (a + m))
  rising_flat g f low a zero each =
      let e : a ≡ a + zero = omega arith in
      let same : low a ≡ low (a + zero) = ap low e in
      omega (arith, same)
  rising_flat g f low a (suc m) each =
      let more = rising_flat g f low (a + 1) m (λ k from to. each k (omega arith) (omega arith)) in
      let e : a + 1 + m ≡ a + suc m = omega arith in
      rising_both key (low a) (low (a + 1)) (low (a + suc m)) (g (f a)) (flat_map g (map f (range_with_len (a + 1) m))) (each a (omega arith) (omega arith))
      (subst (λ (b : ℕ). Rising key (low (a + 1)) (flat_map g (map f (range_with_len (a + 1) m))) (low b)) e more)
