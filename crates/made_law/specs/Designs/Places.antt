-- Where the statements of a text stand. What a made design says doesn't hang on it, so that its values are given with any places.
use Rattle.std.specs.Prelude.{ℕ, suc, List, [], ◌∷◌}
use Rattle.base_types.specs.declared.span.Span.{Span}

-- a line, and the bytes that a value keeps the place of
pub record Place : Type 0 where
  pub line : ℕ
  pub span : Span

-- the places in a DEF, by the number of the statement in its section
pub record Places : Type 0 where
  pub components : ℕ → Place
  -- the span of the net's name
  pub pins : ℕ → Place
  pub nets : ℕ → Place
  pub chains : ℕ → Place
  -- the section SCANCHAINS
  pub section : Span

-- what is made of each member, at the place of its number
abbrev pub placed : {X Y : Type 0} → (Place → X → Y) → (ℕ → Place) → List X → List Y
placed make at [] = []
placed make at (x ∷ xs) = make (at 0) x ∷ placed make (λ k. at (suc k)) xs
